-- Laws of copies that lie in one array.
use Rattle.std.proofs.Common.{◌≡◌, ◌≢◌, ℕ, suc, zero, ◌+◌, ◌-◌, ◌^◌, ◌<◌, ◌≤◌, List, [], ◌∷◌, ◌++◌, length, length-set, length-append, get_or, set, take, drop, ◌⊎◌, inl, inr, refl, sym, ap, ◌∙◌, subst, arith}
use Rattle.std.proofs.lemmas.Bool.{cases_eq}
use Rattle.std.proofs.lemmas.List.{get_or-map, length-map, map-set, ext_get_or, get_or-set_same, get_or-set_other, get_or-take, get_or-drop, take_all, drop_all, append-nil, take-append-le, drop-append-le, length-drop, length-take-le, drop-set-lt, drop-set-add, take-set-le, take_more}
use Rattle.std.proofs.lemmas.List.Sums.{sum_by_push, sum_by-set, sum_by-cons, sum_by-drop_more}
use Rattle.std.proofs.Math.Seq.{take-set-lt}
use Rattle.watch_lists.specs.declared.copies.Place.{Place}
use Rattle.watch_lists.specs.Copying.{piece, pieces, place, words_of, AreClear, IsLaid, IsCounted}
use Rattle.watch_lists.specs.Watching.{copy, turned}

abbrev pub no_place : Place
no_place = record { start = 0; len = 0 }

-- a copy, by its place
pub copy_at : (w : List ℕ) (ps : List Place) (k : ℕ) → k < length ps → copy (pieces w ps) k ≡ piece w (place ps k)
copy_at w ps k in' = get_or-map (piece w) ps k no_place [] in'

pub pieces_long : (w : List ℕ) (ps : List Place) → length (pieces w ps) ≡ length ps
pieces_long w ps = length-map ps (piece w)

-- a table with an empty place more
pub place_longer : (ps : List Place) (i : ℕ) → place (ps ++ no_place ∷ []) i ≡ place ps i
place_longer [] zero = refl
place_longer [] (suc i) = refl
place_longer (p ∷ ps) zero = refl
place_longer (p ∷ ps) (suc i) = place_longer ps i

pub laid_longer : (w : List ℕ) (ps : List Place) → IsLaid w ps → IsLaid w (ps ++ no_place ∷ [])
laid_longer w ps h = record {
  within = λ i. rw (place_longer ps i) (h.within i);
  clear = λ i j n. rw (place_longer ps i, place_longer ps j) (h.clear i j n);
}

pub copy_longer : (w : List ℕ) (ps : List Place) (k : ℕ) → copy (pieces w (ps ++ no_place ∷ [])) k ≡ copy (pieces w ps) k
copy_longer w [] zero = refl
copy_longer w [] (suc k) = refl
copy_longer w (p ∷ ps) zero = refl
copy_longer w (p ∷ ps) (suc k) = copy_longer w ps k

-- a literal of the array is written
piece_in : (w : List ℕ) (p : Place) (i x : ℕ) → i < p.len → p.start + p.len ≤ length w → piece (set w (p.start + i) x) p ≡ set (piece w p) i x
piece_in w p i x in' fits = ap (take p.len) (drop-set-add p.start w i x) ∙ take-set-lt p.len (drop p.start w) i x in'

piece_out : (w : List ℕ) (p : Place) (j x : ℕ) → (j < p.start) ⊎ (p.start + p.len ≤ j) → piece (set w j x) p ≡ piece w p
piece_out w p j x (inl lt) = ap (take p.len) (drop-set-lt p.start w j x lt)
piece_out w p j x (inr ge) =
    let k = j - p.start in
    let e : j ≡ p.start + k = omega arith in
    ap (λ z. take p.len (drop p.start (set w z x))) e ∙ ap (take p.len) (drop-set-add p.start w k x) ∙ take-set-le p.len (drop p.start w) k x (omega arith)

pub laid_set : (w : List ℕ) (ps : List Place) (j x : ℕ) → IsLaid w ps → IsLaid (set w j x) ps
laid_set w ps j x h = record { within = λ i. rw length-set (h.within i); clear = h.clear }

pub pieces_set : (w : List ℕ) (ps : List Place) (id i x : ℕ) → IsLaid w ps → id < length ps → i < (place ps id).len → pieces (set w ((place ps id).start + i) x) ps ≡ set (pieces w ps) id (set (copy (pieces w ps) id) i x)
pieces_set w ps id i x h known in' =
    let w' = set w ((place ps id).start + i) x in
    let new = set (copy (pieces w ps) id) i x in
    let a = pieces_long w' ps in
    let b = pieces_long w ps in
    let c : length (set (pieces w ps) id new) ≡ length (pieces w ps) = length-set (pieces w ps) id new in
    ext_get_or [] (pieces w' ps) (set (pieces w ps) id new) (omega arith) (λ k below.
    let k-in : k < length ps = omega arith in
    let left : copy (pieces w' ps) k ≡ piece w' (place ps k) = copy_at w' ps k k-in in
    elim (cases_eq k id) [
      | inl e ↦
          let here : piece w' (place ps id) ≡ set (piece w (place ps id)) i x = piece_in w (place ps id) i x in' (h.within id) in
          let right : copy (set (pieces w ps) id new) id ≡ new = get_or-set_same (pieces w ps) id new [] (omega arith) in
          left ∙ ap (λ z. piece w' (place ps z)) e ∙ here ∙ ap (λ z. set z i x) (sym (copy_at w ps id known)) ∙ sym right ∙ ap (copy (set (pieces w ps) id new)) (sym e)
      | inr n ↦
          let off = piece_out w (place ps k) ((place ps id).start + i) x (far k (h.clear k id n)) in
          left ∙ off ∙ sym (copy_at w ps k k-in) ∙ sym (get_or-set_other (pieces w ps) id k new [] n)
    ])
  where
    far : (k : ℕ) → AreClear (place ps k) (place ps id) → ((place ps id).start + i < (place ps k).start) ⊎ ((place ps k).start + (place ps k).len ≤ (place ps id).start + i)
    far k (inl a) = inr (omega arith)
    far k (inr a) = inl (omega arith)

-- the literals of a copy, as the code reads them
pub word_read : (w : List ℕ) (ps : List Place) (id i x : ℕ) → id < length ps → i < (place ps id).len → (place ps id).start + (place ps id).len ≤ length w → x ≡ get_or w ((place ps id).start + i) x → x ≡ get_or (copy (pieces w ps) id) i 0
word_read w ps id i x known in' fits is =
    let p = place ps id in
    let a : get_or (take p.len (drop p.start w)) i 0 ≡ get_or (drop p.start w) i 0 = get_or-take p.len (drop p.start w) i 0 in' in
    let b : get_or (drop p.start w) i 0 ≡ get_or w (p.start + i) 0 = get_or-drop p.start w i 0 in
    let c : get_or w (p.start + i) 0 ≡ x = past w (p.start + i) x (omega arith) is in
    sym (ap (λ z. get_or z i 0) (copy_at w ps id known) ∙ a ∙ b ∙ c)
  where
    past : (xs : List ℕ) (k y : ℕ) → k < length xs → y ≡ get_or xs k y → get_or xs k 0 ≡ y
    past [] k y lt e = absurd (omega arith)
    past (z ∷ xs) zero y lt e = sym e
    past (z ∷ xs) (suc k) y lt e = past xs k y (omega arith) e

pub set_set : {A : Type 0} (xs : List A) (i : ℕ) (x y : A) → set (set xs i x) i y ≡ set xs i y
set_set [] i x y = refl
set_set (z ∷ xs) zero x y = refl
set_set (z ∷ xs) (suc i) x y = ap (λ u. z ∷ u) (set_set xs i x y)

pub copy_length : (w : List ℕ) (ps : List Place) (id : ℕ) → id < length ps → (place ps id).start + (place ps id).len ≤ length w → length (copy (pieces w ps) id) ≡ (place ps id).len
copy_length w ps id known fits =
    let p = place ps id in
    ap length (copy_at w ps id known) ∙ length-take-le p.len (drop p.start w) (let d = length-drop p.start w in omega arith)

-- a literal more of a copy is written
piece_more : (w : List ℕ) (ps : List Place) (cs : List (List ℕ)) (c : List ℕ) (id i x : ℕ) → IsLaid w ps → id < length ps → length cs ≡ length ps → i < (place ps id).len → pieces w ps ≡ set cs id c
    → pieces (set w ((place ps id).start + i) x) ps ≡ set cs id (set c i x)
piece_more w ps cs c id i x h known long in' e =
    let now : copy (pieces w ps) id ≡ c = ap (λ z. copy z id) e ∙ get_or-set_same cs id c [] (omega arith) in
    pieces_set w ps id i x h known in' ∙ ap (λ z. set (pieces w ps) id (set z i x)) now ∙ ap (λ z. set z id (set c i x)) e ∙ set_set cs id c (set c i x)

-- an array of which all was lent and written
pub lent_back : (n : ℕ) (xs w : List ℕ) → n ≡ length w → length xs ≡ length w → take n (xs ++ drop (length xs) w) ≡ xs
lent_back n xs w all same = ap (λ z. take n (xs ++ z)) (drop_all (length xs) w (omega arith)) ∙ ap (take n) (append-nil xs) ∙ take_all n xs (omega arith)

-- two literals come in front of a copy, and another one behind them
pub pieces_turn : (w : List ℕ) (ps : List Place) (id a b k x start : ℕ) → IsLaid w ps → id < length ps → 1 < (place ps id).len → k < (place ps id).len → start ≡ (place ps id).start
    → pieces (set (set (set w start a) (start + 1) b) (start + k) x) ps ≡ set (pieces w ps) id (turned (copy (pieces w ps) id) a b k x)
pieces_turn w ps id a b k x start h known two in' start-is =
    let p = place ps id in
    let cs = pieces w ps in
    let c = copy cs id in
    let long = pieces_long w ps in
    let e : start ≡ p.start + 0 = omega arith in
    let first : pieces (set w (p.start + 0) a) ps ≡ set cs id (set c 0 a) = pieces_set w ps id 0 a h known (omega arith) in
    let w1 = set w start a in
    let first' : pieces w1 ps ≡ set cs id (set c 0 a) = ap (λ z. pieces (set w z a) ps) e ∙ first in
    let laid1 = laid_set w ps start a h in
    let w2 = set w1 (p.start + 1) b in
    let second : pieces w2 ps ≡ set cs id (set (set c 0 a) 1 b) = piece_more w1 ps cs (set c 0 a) id 1 b laid1 known long two first' in
    let laid2 = laid_set w1 ps (p.start + 1) b laid1 in
    let third = piece_more w2 ps cs (set (set c 0 a) 1 b) id k x laid2 known long in' second in
    ap (λ z. pieces (set (set w1 (z + 1) b) (z + k) x) ps) start-is ∙ third

-- a place is written
place_set : (ps : List Place) (id k : ℕ) (p : Place) → k ≢ id → place (set ps id p) k ≡ place ps k
place_set ps id k p n = get_or-set_other ps id k p no_place n

pub laid_placed : (w : List ℕ) (ps : List Place) (id : ℕ) (p : Place) → IsLaid w ps → id < length ps → p.start + p.len ≤ length w → ((k : ℕ) → k ≢ id → AreClear (place ps k) p) → IsLaid w (set ps id p)
laid_placed w ps id p h known fits apart = record {
  within = λ i.
      elim (cases_eq i id) [
        | inl e ↦ subst (λ (z : Place). z.start + z.len ≤ length w) (sym (here i e)) fits
        | inr n ↦ subst (λ (z : Place). z.start + z.len ≤ length w) (sym (place_set ps id i p n)) (h.within i)
      ];
  clear = λ i j m.
      elim (cases_eq i id) [
        | inl e ↦
            let n : j ≢ id = λ q. m (e ∙ sym q) in
            subst (λ z. AreClear z (place (set ps id p) j)) (sym (here i e)) (subst (AreClear p) (sym (place_set ps id j p n)) (turn (place ps j) p (apart j n)))
        | inr n ↦
            subst (λ z. AreClear z (place (set ps id p) j)) (sym (place_set ps id i p n))
            (elim (cases_eq j id) [
              | inl e ↦ subst (AreClear (place ps i)) (sym (here j e)) (apart i n)
              | inr n' ↦ subst (AreClear (place ps i)) (sym (place_set ps id j p n')) (h.clear i j m)
            ])
      ];
}
  where
    here : (i : ℕ) → i ≡ id → place (set ps id p) i ≡ p
    here i e = ap (place (set ps id p)) e ∙ get_or-set_same ps id p no_place known

    turn : (q r : Place) → AreClear q r → AreClear r q
    turn q r (inl a) = inr a
    turn q r (inr a) = inl a

pub laid_removed : (w : List ℕ) (ps : List Place) (id : ℕ) → IsLaid w ps → id < length ps → IsLaid w (set ps id no_place)
laid_removed w ps id h known = laid_placed w ps id no_place h known (omega arith) (λ k n. inr (omega arith))

pub pieces_removed : (w : List ℕ) (ps : List Place) (id : ℕ) → pieces w (set ps id no_place) ≡ set (pieces w ps) id []
pieces_removed w ps id = map-set (piece w) ps id no_place

-- the array is longer
piece_longer : (w more : List ℕ) (p : Place) → p.start + p.len ≤ length w → piece (w ++ more) p ≡ piece w p
piece_longer w more p fits =
    ap (take p.len) (drop-append-le p.start w more (omega arith)) ∙ take-append-le p.len (drop p.start w) more (let d = length-drop p.start w in omega arith)

pub pieces_grown : (w more : List ℕ) (ps : List Place) → ((i : ℕ) → (place ps i).start + (place ps i).len ≤ length w) → pieces (w ++ more) ps ≡ pieces w ps
pieces_grown w more [] h = refl
pieces_grown w more (p ∷ ps) h = rw (piece_longer w more p (h 0), pieces_grown w more ps (λ i. h (suc i))) refl

pub laid_grown : (w more : List ℕ) (ps : List Place) → IsLaid w ps → IsLaid (w ++ more) ps
laid_grown w more ps h = record { within = λ i. let f = h.within i in let l = length-append w more in omega arith; clear = h.clear }

dropped : (w c : List ℕ) → drop (length w) (w ++ c) ≡ c
dropped [] c = refl
dropped (x ∷ w) c = dropped w c

-- a copy is put behind the others, as the code reads it
module _ (w w' c : List ℕ) (ps : List Place) (id start len : ℕ) (laid : IsLaid w ps) (known : id < length ps) (grown : w' ≡ w ++ c) (start-is : start ≡ length w) (len-is : len ≡ length c) where
  abbrev pub new_place : Place
  new_place = record { start = start; len = len }

  pub added_laid : IsLaid w' (set ps id new_place)
  added_laid =
      let l : length w' ≡ length w + length c = ap length grown ∙ length-append w c in
      laid_placed w' ps id new_place (subst (λ z. IsLaid z ps) (sym grown) (laid_grown w c ps laid)) known (omega arith) (λ k n. inl (let f = laid.within k in omega arith))

  pub added_pieces : pieces w' (set ps id new_place) ≡ set (pieces w ps) id c
  added_pieces =
      map-set (piece w') ps id new_place
      ∙ ap (λ z. set z id (piece w' new_place)) (ap (λ z. pieces z ps) grown ∙ pieces_grown w c ps laid.within)
      ∙ ap (set (pieces w ps) id) (ap (λ z. take len (drop start z)) grown ∙ ap (λ z. take len (drop z (w ++ c))) start-is ∙ ap (take len) (dropped w c) ∙ take_all len c (omega arith))

-- a last member is written
set_last : {A : Type 0} (xs : List A) (a b : A) (n : ℕ) → n ≡ length xs → set (xs ++ a ∷ []) n b ≡ xs ++ b ∷ []
set_last [] a b zero e = refl
set_last [] a b (suc n) e = absurd (omega arith)
set_last (x ∷ xs) a b zero e = absurd (omega arith)
set_last (x ∷ xs) a b (suc n) e = ap (λ u. x ∷ u) (set_last xs a b n (omega arith))

pieces-push : (w : List ℕ) (ps : List Place) (p : Place) → pieces w (ps ++ p ∷ []) ≡ pieces w ps ++ piece w p ∷ []
pieces-push w [] p = refl
pieces-push w (q ∷ ps) p = ap (λ u. piece w q ∷ u) (pieces-push w ps p)

-- a copy is put behind the others, at a place behind the others
module _ (w w' c : List ℕ) (ps : List Place) (p : Place) (laid : IsLaid w ps) (grown : w' ≡ w ++ c) (start-is : p.start ≡ length w) (len-is : p.len ≡ length c) where
  last-is : set (ps ++ no_place ∷ []) (length ps) p ≡ ps ++ p ∷ []
  last-is = set_last ps no_place p (length ps) refl

  pub pushed_laid : IsLaid w' (ps ++ p ∷ [])
  pushed_laid = subst (IsLaid w') last-is (added_laid w w' c (ps ++ no_place ∷ []) (length ps) p.start p.len (laid_longer w ps laid) (let l = length-append ps (no_place ∷ []) in omega arith) grown start-is len-is)

  pub pushed_pieces : pieces w' (ps ++ p ∷ []) ≡ pieces w ps ++ c ∷ []
  pushed_pieces =
      ap (pieces w') (sym last-is)
      ∙ added_pieces w w' c (ps ++ no_place ∷ []) (length ps) p.start p.len (laid_longer w ps laid) (let l = length-append ps (no_place ∷ []) in omega arith) grown start-is len-is
      ∙ ap (λ z. set z (length ps) c) (pieces-push w ps no_place)
      ∙ set_last (pieces w ps) [] c (length ps) (sym (pieces_long w ps))

pub words_of-push : (ps : List Place) (p : Place) → words_of (ps ++ p ∷ []) ≡ words_of ps + p.len
words_of-push ps p = sum_by_push (λ (q : Place). q.len) ps p

-- the words of a table of which one place was written
pub words_of-set : (ps : List Place) (id : ℕ) (p : Place) → id < length ps → words_of (set ps id p) + (place ps id).len ≡ words_of ps + p.len
words_of-set ps id p in' = sum_by-set (λ (q : Place). q.len) ps id p no_place in'

-- no place has more words than there are
pub words_of-take : (ps : List Place) (id : ℕ) → (place ps id).len ≤ words_of ps
words_of-take [] id = omega arith
words_of-take (p ∷ ps) zero = let c : words_of (p ∷ ps) ≡ p.len + words_of ps = sum_by-cons (λ (q : Place). q.len) p ps in omega (arith, c)
words_of-take (p ∷ ps) (suc id) = let h = words_of-take ps id in let c : words_of (p ∷ ps) ≡ p.len + words_of ps = sum_by-cons (λ (q : Place). q.len) p ps in omega (arith, c, h)

-- The pieces at the first places were copied into a new array: none of its words is dead, and there is room for the others.
pub record Compacted (w : List ℕ) (ps : List Place) (w' : List ℕ) (ps' : List Place) (n : ℕ) : Type 0 where
  pub within : n ≤ length ps
  pub laid : IsLaid w' ps'
  pub same : pieces w' ps' ≡ take n (pieces w ps)
  pub live : words_of ps' ≡ length w'
  pub left : length w' + words_of (drop n ps) ≤ length w

pub compacted_none : (w : List ℕ) (ps : List Place) (dead : ℕ) → IsCounted w ps dead → Compacted w ps [] [] 0
compacted_none w ps dead h = record {
  within = omega arith;
  laid = record { within = λ i. omega arith; clear = λ i j n. inl (omega arith) };
  same = refl;
  live = refl;
  left = let c = h.counted in omega arith;
}

pub compacted_more : (w : List ℕ) (ps : List Place) (w' : List ℕ) (ps' : List Place) (w'' : List ℕ) (ps'' : List Place) (n : ℕ) (p : Place) → Compacted w ps w' ps' n → n < length ps → p ≡ place ps n → IsLaid w'' ps'' → pieces w'' ps'' ≡ pieces w' ps' ++ piece w p ∷ [] → length w'' ≡ length w' + p.len → words_of ps'' ≡ words_of ps' + p.len → Compacted w ps w'' ps'' (n + 1)
compacted_more w ps w' ps' w'' ps'' n p h lt p-is laid same long words =
    let live = h.live in
    let left = h.left in
    let rest : words_of (drop n ps) ≡ (place ps n).len + words_of (drop (n + 1) ps) = sum_by-drop_more (λ (q : Place). q.len) ps n no_place lt in
    let len : p.len ≡ (place ps n).len = ap (λ (q : Place). q.len) p-is in
    let size = pieces_long w ps in
    record {
      within = omega arith;
      laid = laid;
      same = same ∙ ap (λ z. z ++ piece w p ∷ []) h.same ∙ ap (λ z. take n (pieces w ps) ++ z ∷ []) (ap (piece w) p-is ∙ sym (copy_at w ps n lt)) ∙ sym (take_more (pieces w ps) n [] (omega arith));
      live = omega arith;
      left = omega arith;
    }

pub compacted_all : (w : List ℕ) (ps : List Place) (w' : List ℕ) (ps' : List Place) (n : ℕ) → Compacted w ps w' ps' n → length ps ≤ n → pieces w' ps' ≡ pieces w ps
compacted_all w ps w' ps' n h ge = h.same ∙ take_all n (pieces w ps) (let l = pieces_long w ps in omega arith)

-- what the calls make of the count
pub counted_longer : (w : List ℕ) (ps : List Place) (dead : ℕ) → IsCounted w ps dead → IsCounted w (ps ++ no_place ∷ []) dead
counted_longer w ps dead h = record { counted = let c = h.counted in let p = words_of-push ps no_place in omega (arith, p); few = h.few }

pub counted_set : (w : List ℕ) (ps : List Place) (dead j x : ℕ) → IsCounted w ps dead → IsCounted (set w j x) ps dead
counted_set w ps dead j x h = record { counted = let c = h.counted in let l = length-set w j x in omega arith; few = let f = h.few in let l = length-set w j x in omega arith }

pub counted_placed : (w w' : List ℕ) (ps : List Place) (dead dead' id : ℕ) (p : Place) → IsCounted w ps dead → id < length ps → length w' ≡ length w + p.len → length w' < 2 ^ 32 → dead' ≡ dead + (place ps id).len → IsCounted w' (set ps id p) dead'
counted_placed w w' ps dead dead' id p h in' long few is = record { counted = let c = h.counted in let s = words_of-set ps id p in' in omega (arith, s); few = few }

-- a piece of another array is copied behind the others, as the code reads it
pub copied_piece : (w w' from : List ℕ) (ps ps' : List Place) (p : Place) (start : ℕ) → IsLaid w ps → p.start + p.len ≤ length from → w' ≡ w ++ take (p.start + p.len - p.start) (drop p.start from) → start ≡ length w → ps' ≡ ps ++ record { start = start; len = p.len } ∷ [] → pieces w' ps' ≡ pieces w ps ++ piece from p ∷ []
copied_piece w w' from ps ps' p start laid fits grown start-is pushed =
    let n-is : p.start + p.len - p.start ≡ p.len = omega arith in
    let long : length (piece from p) ≡ p.len = length-take-le p.len (drop p.start from) (let d = length-drop p.start from in omega arith) in
    ap (pieces w') pushed ∙ pushed_pieces w w' (piece from p) ps (record { start = start; len = p.len }) laid (grown ∙ ap (λ n. w ++ take n (drop p.start from)) n-is) start-is (sym long)
