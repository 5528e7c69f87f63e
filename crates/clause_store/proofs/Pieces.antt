-- Laws of cells that lie in one array.
use Rattle.std.proofs.Common.{◌≡◌, ◌≢◌, ℕ, suc, zero, ◌+◌, ◌-◌, ◌<◌, ◌≤◌, ◌^◌, List, [], ◌∷◌, ◌++◌, length, length-set, length-append, get_or, set, take, drop, ◌⊎◌, inl, inr, refl, sym, ap, ◌∙◌, subst, arith}
use Rattle.std.proofs.lemmas.Bool.{cases_eq, cases_lt}
use Rattle.std.proofs.lemmas.List.Sums.{sum_by_push, sum_by_more, sum_by-set, sum_by-take-le}
use Rattle.std.proofs.lemmas.List.{get_or-map, length-map, map-set, ext_get_or, get_or-set_same, get_or-set_other, take_all, take-append-le, drop-append-le, length-drop, length-take-le, take_more, get_or_push, get_or_past, get_or_default, drop-set-lt, drop-set-add, take-set-le}
use Rattle.std.proofs.Math.Seq.{take-set-lt}
use Rattle.clause_store.specs.declared.spots.Piece.{Piece}
use Rattle.clause_store.specs.Pieces.{piece, pieces_of, piece_at, cell_count, AreClear, IsLaid}
use Rattle.clause_store.specs.Spots.{spots_of}

abbrev pub no_piece : Piece
no_piece = record { start = 0; len = 0 }

-- the cells of a clause, by its piece
pub cells_at : (w : List ℕ) (ps : List Piece) (k : ℕ) → k < length ps → spots_of (pieces_of w ps) k ≡ piece w (piece_at ps k)
cells_at w ps k in' = get_or-map (piece w) ps k no_piece [] in'

pub pieces_long : (w : List ℕ) (ps : List Piece) → length (pieces_of w ps) ≡ length ps
pieces_long w ps = length-map ps (piece w)

-- a table with an empty piece more
pub place_longer : (ps : List Piece) (i : ℕ) → piece_at (ps ++ no_piece ∷ []) i ≡ piece_at ps i
place_longer [] zero = refl
place_longer [] (suc i) = refl
place_longer (p ∷ ps) zero = refl
place_longer (p ∷ ps) (suc i) = place_longer ps i

pieces_push : (w : List ℕ) (ps : List Piece) (p : Piece) → pieces_of w (ps ++ p ∷ []) ≡ pieces_of w ps ++ piece w p ∷ []
pieces_push w [] p = refl
pieces_push w (q ∷ ps) p = ap (λ z. piece w q ∷ z) (pieces_push w ps p)

pub laid_longer : (w : List ℕ) (ps : List Piece) → IsLaid w ps → IsLaid w (ps ++ no_piece ∷ [])
laid_longer w ps h = record {
  within = λ i. rw (place_longer ps i) (h.within i);
  clear = λ i j n. rw (place_longer ps i, place_longer ps j) (h.clear i j n);
  room = rw (pieces_push w ps no_piece) (let e = sum_by_push (λ c. length c) (pieces_of w ps) [] in omega (arith, e, h.room));
  short = h.short;
}

pub cells_longer : (w : List ℕ) (ps : List Piece) (k : ℕ) → spots_of (pieces_of w (ps ++ no_piece ∷ [])) k ≡ spots_of (pieces_of w ps) k
cells_longer w [] zero = refl
cells_longer w [] (suc k) = refl
cells_longer w (p ∷ ps) zero = refl
cells_longer w (p ∷ ps) (suc k) = cells_longer w ps k

-- a cell of the array is written
piece_in : (w : List ℕ) (p : Piece) (i x : ℕ) → i < p.len → p.start + p.len ≤ length w → piece (set w (p.start + i) x) p ≡ set (piece w p) i x
piece_in w p i x in' fits = ap (take p.len) (drop-set-add p.start w i x) ∙ take-set-lt p.len (drop p.start w) i x in'

piece_out : (w : List ℕ) (p : Piece) (j x : ℕ) → (j < p.start) ⊎ (p.start + p.len ≤ j) → piece (set w j x) p ≡ piece w p
piece_out w p j x (inl lt) = ap (take p.len) (drop-set-lt p.start w j x lt)
piece_out w p j x (inr ge) =
    let k = j - p.start in
    let e : j ≡ p.start + k = omega arith in
    ap (λ z. take p.len (drop p.start (set w z x))) e ∙ ap (take p.len) (drop-set-add p.start w k x) ∙ take-set-le p.len (drop p.start w) k x (omega arith)

pub pieces_set : (w : List ℕ) (ps : List Piece) (id i x : ℕ) → IsLaid w ps → id < length ps → i < (piece_at ps id).len → pieces_of (set w ((piece_at ps id).start + i) x) ps ≡ set (pieces_of w ps) id (set (spots_of (pieces_of w ps) id) i x)
pieces_set w ps id i x h known in' =
    let w' = set w ((piece_at ps id).start + i) x in
    let new = set (spots_of (pieces_of w ps) id) i x in
    let a = pieces_long w' ps in
    let b = pieces_long w ps in
    let c : length (set (pieces_of w ps) id new) ≡ length (pieces_of w ps) = length-set (pieces_of w ps) id new in
    ext_get_or [] (pieces_of w' ps) (set (pieces_of w ps) id new) (omega arith) (λ k below.
    let k-in : k < length ps = omega arith in
    let left : spots_of (pieces_of w' ps) k ≡ piece w' (piece_at ps k) = cells_at w' ps k k-in in
    elim (cases_eq k id) [
      | inl e ↦
          let here : piece w' (piece_at ps id) ≡ set (piece w (piece_at ps id)) i x = piece_in w (piece_at ps id) i x in' (h.within id) in
          let right : spots_of (set (pieces_of w ps) id new) id ≡ new = get_or-set_same (pieces_of w ps) id new [] (omega arith) in
          left ∙ ap (λ z. piece w' (piece_at ps z)) e ∙ here ∙ ap (λ z. set z i x) (sym (cells_at w ps id known)) ∙ sym right ∙ ap (spots_of (set (pieces_of w ps) id new)) (sym e)
      | inr n ↦
          let off = piece_out w (piece_at ps k) ((piece_at ps id).start + i) x (far k (h.clear k id n)) in
          left ∙ off ∙ sym (cells_at w ps k k-in) ∙ sym (get_or-set_other (pieces_of w ps) id k new [] n)
    ])
  where
    far : (k : ℕ) → AreClear (piece_at ps k) (piece_at ps id) → ((piece_at ps id).start + i < (piece_at ps k).start) ⊎ ((piece_at ps k).start + (piece_at ps k).len ≤ (piece_at ps id).start + i)
    far k (inl a) = inr (omega arith)
    far k (inr a) = inl (omega arith)

pub laid_set : (w : List ℕ) (ps : List Piece) (id i x : ℕ) → IsLaid w ps → id < length ps → i < (piece_at ps id).len → IsLaid (set w ((piece_at ps id).start + i) x) ps
laid_set w ps id i x h known in' =
    let c = spots_of (pieces_of w ps) id in
    let same = sum_by-set (λ c. length c) (pieces_of w ps) id (set c i x) [] (rw pieces_long known) in
    let long : length (set c i x) ≡ length c = length-set c i x in
    let count : cell_count (set (pieces_of w ps) id (set c i x)) ≡ cell_count (pieces_of w ps) = omega (arith, same, long) in
    record {
      within = λ k. rw length-set (h.within k);
      clear = h.clear;
      room = rw (pieces_set w ps id i x h known in', count, length-set) h.room;
      short = rw length-set h.short;
    }

pub cells_length : (w : List ℕ) (ps : List Piece) (id : ℕ) → id < length ps → (piece_at ps id).start + (piece_at ps id).len ≤ length w → length (spots_of (pieces_of w ps) id) ≡ (piece_at ps id).len
cells_length w ps id known fits =
    let p = piece_at ps id in
    ap length (cells_at w ps id known) ∙ length-take-le p.len (drop p.start w) (let d = length-drop p.start w in omega arith)

-- a cell that a clause has
pub record Known (ps : List Piece) (id i : ℕ) : Type 0 where
  pub known : id < length ps
  pub within : i < (piece_at ps id).len

pub cell_known : (w : List ℕ) (ps : List Piece) (id i : ℕ) → IsLaid w ps → i < length (spots_of (pieces_of w ps) id) → Known ps id i
cell_known w ps id i h in' =
    elim (cases_lt id (length ps)) [
      | inl lt ↦ record { known = lt; within = omega (arith, cells_length w ps id lt (h.within id), in') }
      | inr ge ↦
          let none : spots_of (pieces_of w ps) id ≡ [] = get_or_past (pieces_of w ps) id [] (rw pieces_long ge) in
          absurd (omega (arith, rw none at in'))
    ]

-- a piece is written
place_set : (ps : List Piece) (id k : ℕ) (p : Piece) → k ≢ id → piece_at (set ps id p) k ≡ piece_at ps k
place_set ps id k p n = get_or-set_other ps id k p no_piece n

pub laid_placed : (w : List ℕ) (ps : List Piece) (id : ℕ) (p : Piece) → IsLaid w ps → id < length ps → p.start + p.len ≤ length w → ((k : ℕ) → k ≢ id → AreClear (piece_at ps k) p) → cell_count (pieces_of w (set ps id p)) ≤ length w → IsLaid w (set ps id p)
laid_placed w ps id p h known fits apart room = record {
  within = λ i.
      elim (cases_eq i id) [
        | inl e ↦ subst (λ (z : Piece). z.start + z.len ≤ length w) (sym (here i e)) fits
        | inr n ↦ subst (λ (z : Piece). z.start + z.len ≤ length w) (sym (place_set ps id i p n)) (h.within i)
      ];
  clear = λ i j m.
      elim (cases_eq i id) [
        | inl e ↦
            let n : j ≢ id = λ q. m (e ∙ sym q) in
            subst (λ z. AreClear z (piece_at (set ps id p) j)) (sym (here i e)) (subst (AreClear p) (sym (place_set ps id j p n)) (turn (piece_at ps j) p (apart j n)))
        | inr n ↦
            subst (λ z. AreClear z (piece_at (set ps id p) j)) (sym (place_set ps id i p n))
            (elim (cases_eq j id) [
              | inl e ↦ subst (AreClear (piece_at ps i)) (sym (here j e)) (apart i n)
              | inr n' ↦ subst (AreClear (piece_at ps i)) (sym (place_set ps id j p n')) (h.clear i j m)
            ])
      ];
  room = room;
  short = h.short;
}
  where
    here : (i : ℕ) → i ≡ id → piece_at (set ps id p) i ≡ p
    here i e = ap (piece_at (set ps id p)) e ∙ get_or-set_same ps id p no_piece known

    turn : (q r : Piece) → AreClear q r → AreClear r q
    turn q r (inl a) = inr a
    turn q r (inr a) = inl a

pub pieces_removed : (w : List ℕ) (ps : List Piece) (id : ℕ) → pieces_of w (set ps id no_piece) ≡ set (pieces_of w ps) id []
pieces_removed w ps id = map-set (piece w) ps id no_piece

pub laid_removed : (w : List ℕ) (ps : List Piece) (id : ℕ) → IsLaid w ps → id < length ps → IsLaid w (set ps id no_piece)
laid_removed w ps id h known =
    let less = sum_by-set (λ c. length c) (pieces_of w ps) id [] [] (rw pieces_long known) in
    laid_placed w ps id no_piece h known (omega arith) (λ k n. inr (omega arith)) (rw (pieces_removed w ps id) (omega (arith, less, h.room)))

pub spots_removed : (w : List ℕ) (ps : List Piece) (id k : ℕ) → k ≢ id → spots_of (pieces_of w (set ps id no_piece)) k ≡ spots_of (pieces_of w ps) k
spots_removed w ps id k n = ap (λ z. spots_of z k) (pieces_removed w ps id) ∙ get_or-set_other (pieces_of w ps) id k [] [] n

-- the array is longer
piece_longer : (w more : List ℕ) (p : Piece) → p.start + p.len ≤ length w → piece (w ++ more) p ≡ piece w p
piece_longer w more p fits =
    ap (take p.len) (drop-append-le p.start w more (omega arith)) ∙ take-append-le p.len (drop p.start w) more (let d = length-drop p.start w in omega arith)

pub pieces_grown : (w more : List ℕ) (ps : List Piece) → ((i : ℕ) → (piece_at ps i).start + (piece_at ps i).len ≤ length w) → pieces_of (w ++ more) ps ≡ pieces_of w ps
pieces_grown w more [] h = refl
pieces_grown w more (p ∷ ps) h = rw (piece_longer w more p (h 0), pieces_grown w more ps (λ i. h (suc i))) refl

pub laid_grown : (w more : List ℕ) (ps : List Piece) → IsLaid w ps → length (w ++ more) < 2 ^ 32 → IsLaid (w ++ more) ps
laid_grown w more ps h short = record {
  within = λ i. let f = h.within i in let l = length-append w more in omega arith;
  clear = h.clear;
  room = rw (pieces_grown w more ps h.within) (omega (arith, h.room, length-append w more));
  short = short;
}

dropped : (w c : List ℕ) → drop (length w) (w ++ c) ≡ c
dropped [] c = refl
dropped (x ∷ w) c = dropped w c

-- cells are put behind the others, as the code reads it
module _ (w w' c : List ℕ) (ps : List Piece) (start len : ℕ) (laid : IsLaid w ps) (grown : w' ≡ w ++ c) (start-is : start ≡ length w) (len-is : len ≡ length c) (short : length w' < 2 ^ 32) where
  abbrev pub new_piece : Piece
  new_piece = record { start = start; len = len }

  longer : length w' ≡ length w + length c
  longer = ap length grown ∙ length-append w c

  kept : pieces_of w' ps ≡ pieces_of w ps
  kept = ap (λ z. pieces_of z ps) grown ∙ pieces_grown w c ps laid.within

  new_cells : piece w' new_piece ≡ c
  new_cells = ap (λ z. take len (drop start z)) grown ∙ ap (λ z. take len (drop z (w ++ c))) start-is ∙ ap (take len) (dropped w c) ∙ take_all len c (omega arith)

  grown_laid : IsLaid w' ps
  grown_laid = subst (λ z. IsLaid z ps) (sym grown) (laid_grown w c ps laid (rw grown at short))

  apart : (k : ℕ) → AreClear (piece_at ps k) new_piece
  apart k = inl (let f = laid.within k in omega arith)

  pub added_pieces : (id : ℕ) → pieces_of w' (set ps id new_piece) ≡ set (pieces_of w ps) id c
  added_pieces id = map-set (piece w') ps id new_piece ∙ ap (λ z. set z id (piece w' new_piece)) kept ∙ ap (set (pieces_of w ps) id) new_cells

  pub added_laid : (id : ℕ) → id < length ps → IsLaid w' (set ps id new_piece)
  added_laid id known =
      let more = sum_by-set (λ c. length c) (pieces_of w ps) id c [] (rw pieces_long known) in
      laid_placed w' ps id new_piece grown_laid known (omega (arith, longer)) (λ k n. apart k) (rw (added_pieces id) (omega (arith, more, laid.room, longer)))

  pub added_here : (id : ℕ) → id < length ps → spots_of (pieces_of w' (set ps id new_piece)) id ≡ c
  added_here id known = ap (λ z. spots_of z id) (added_pieces id) ∙ get_or-set_same (pieces_of w ps) id c [] (rw pieces_long known)

  pub added_others : (id k : ℕ) → k ≢ id → spots_of (pieces_of w' (set ps id new_piece)) k ≡ spots_of (pieces_of w ps) k
  added_others id k n = ap (λ z. spots_of z k) (added_pieces id) ∙ get_or-set_other (pieces_of w ps) id k c [] n

  -- the piece is put behind the table
  pub pushed_pieces : pieces_of w' (ps ++ new_piece ∷ []) ≡ pieces_of w ps ++ c ∷ []
  pushed_pieces = pieces_push w' ps new_piece ∙ ap (λ z. z ++ piece w' new_piece ∷ []) kept ∙ ap (λ z. pieces_of w ps ++ z ∷ []) new_cells

  end : (xs : List Piece) (k : ℕ) (P : Piece → Type 0) → P (piece_at xs k) → P new_piece → P (piece_at (xs ++ new_piece ∷ []) k)
  end [] zero P old new = new
  end [] (suc k) P old new = old
  end (x ∷ xs) zero P old new = old
  end (x ∷ xs) (suc k) P old new = end xs k P old new

  pub pushed_laid : IsLaid w' (ps ++ new_piece ∷ [])
  pushed_laid = record {
    within = λ i. end ps i (λ p. p.start + p.len ≤ length w') (grown_laid.within i) (omega (arith, longer));
    clear = both ps grown_laid.clear apart;
    room = rw pushed_pieces (let more = sum_by_push (λ c. length c) (pieces_of w ps) c in omega (arith, more, laid.room, longer));
    short = short;
  }
    where
      turn : (q r : Piece) → AreClear q r → AreClear r q
      turn q r (inl a) = inr a
      turn q r (inr a) = inl a

      both : (xs : List Piece) → ((i j : ℕ) → i ≢ j → AreClear (piece_at xs i) (piece_at xs j)) → ((k : ℕ) → AreClear (piece_at xs k) new_piece) → (i j : ℕ) → i ≢ j → AreClear (piece_at (xs ++ new_piece ∷ []) i) (piece_at (xs ++ new_piece ∷ []) j)
      both xs clear far i j n =
          elim (cases_eq i (length xs)) [
            | inl e ↦ subst (λ q. AreClear q (piece_at (xs ++ new_piece ∷ []) j)) (sym (at_end xs i e)) (elim (cases_eq j (length xs)) [
              | inl f ↦ absurd (n (e ∙ sym f))
              | inr m ↦ subst (AreClear new_piece) (sym (not_end xs j m)) (turn (piece_at xs j) new_piece (far j))
            ])
            | inr m ↦ subst (λ q. AreClear q (piece_at (xs ++ new_piece ∷ []) j)) (sym (not_end xs i m)) (elim (cases_eq j (length xs)) [
              | inl f ↦ subst (AreClear (piece_at xs i)) (sym (at_end xs j f)) (far i)
              | inr m' ↦ subst (AreClear (piece_at xs i)) (sym (not_end xs j m')) (clear i j n)
            ])
          ]
        where
          at_end : (xs : List Piece) (k : ℕ) → k ≡ length xs → piece_at (xs ++ new_piece ∷ []) k ≡ new_piece
          at_end xs k e = get_or_push xs new_piece no_piece k (sym e)

          not_end : (xs : List Piece) (k : ℕ) → k ≢ length xs → piece_at (xs ++ new_piece ∷ []) k ≡ piece_at xs k
          not_end [] zero n = absurd (n refl)
          not_end [] (suc k) n = refl
          not_end (x ∷ xs) zero n = refl
          not_end (x ∷ xs) (suc k) n = not_end xs k (λ e. n (omega arith))

-- one piece more is copied
module _ (w w' old : List ℕ) (ps qs qs' : List Piece) (i start : ℕ) (p : Piece) (in' : i < length ps) (is : p ≡ get_or ps i p) (old-laid : IsLaid old ps) (laid : IsLaid w qs)
    (before : pieces_of w qs ≡ take i (pieces_of old ps)) (close : length w ≡ cell_count (take i (pieces_of old ps)))
    (copied : w' ≡ w ++ take (p.start + p.len - p.start) (drop p.start old)) (start-is : start ≡ length w) (pushed : qs' ≡ qs ++ record { start = start; len = p.len } ∷ []) where
  at : p ≡ piece_at ps i
  at = is ∙ get_or_default ps i p no_piece in'

  part_is : take (p.start + p.len - p.start) (drop p.start old) ≡ piece old p
  part_is = let n : p.start + p.len - p.start ≡ p.len = omega arith in ap (λ z. take z (drop p.start old)) n

  fits : p.start + p.len ≤ length old
  fits = subst (λ (z : Piece). z.start + z.len ≤ length old) (sym at) (old-laid.within i)

  part_long : length (take (p.start + p.len - p.start) (drop p.start old)) ≡ p.len
  part_long = ap length part_is ∙ length-take-le p.len (drop p.start old) (let d = length-drop p.start old in let f = fits in omega arith)

  next : get_or (pieces_of old ps) i [] ≡ take (p.start + p.len - p.start) (drop p.start old)
  next = cells_at old ps i in' ∙ ap (piece old) (sym at) ∙ sym part_is

  pub copied_close : length w' ≡ cell_count (take (i + 1) (pieces_of old ps))
  copied_close =
      let c = take (p.start + p.len - p.start) (drop p.start old) in
      let more = sum_by_more (λ c. length c) (pieces_of old ps) i [] (rw pieces_long in') in
      ap length copied ∙ length-append w c ∙ omega (arith, more, close, ap length next)

  short : length w' < 2 ^ 32
  short =
      let le = sum_by-take-le (λ c. length c) (pieces_of old ps) (i + 1) in
      omega (arith, copied_close, le, old-laid.room, old-laid.short)

  pub copied_laid : IsLaid w' qs'
  copied_laid = subst (IsLaid w') (sym pushed) (pushed_laid w w' (take (p.start + p.len - p.start) (drop p.start old)) qs start p.len laid copied start-is (sym part_long) short)

  pub copied_pieces : pieces_of w' qs' ≡ take (i + 1) (pieces_of old ps)
  copied_pieces =
      let c = take (p.start + p.len - p.start) (drop p.start old) in
      ap (pieces_of w') pushed
      ∙ pushed_pieces w w' c qs start p.len laid copied start-is (sym part_long) short
      ∙ ap (λ z. z ++ c ∷ []) before
      ∙ ap (λ z. take i (pieces_of old ps) ++ z ∷ []) (sym next)
      ∙ sym (take_more (pieces_of old ps) i [] (rw pieces_long in'))
