-- Rows of notifications, and what they come to.
use Rattle.std.proofs.Common.{◌≡◌, ℕ, zero, suc, ◌+◌, ◌<◌, ◌⊎◌, inl, inr, Bool, true, List, [], ◌∷◌, ◌++◌, length, refl, sym, ap, ◌∙◌, subst, arith}
use Rattle.std.proofs.lemmas.Bool.{cases_lt}
use Rattle.std.proofs.lemmas.List.{append-nil, append_assoc, length-append, get_or_append_left, get_or_push, take-append-le}
use Rattle.std.proofs.Math.Seq.{take-append_seam}
use Rattle.user_propagator.specs.declared.seen.Seen.{Seen}
use Rattle.user_propagator.specs.Board.{Board, entry, no_entry}
use Rattle.user_propagator.specs.Meaning.{Meaning, KeepsExplained, IsExplainedAt, next_count, put_on, raise_on}
use Rattle.theory_bridge.specs.Shown.{Shown}
use Rattle.theory_bridge.specs.Going.{count_on}
use Rattle.theory_bridge.specs.Telling.{Notice, TellsLevel, TellsLit, Row, Tells, Told}

-- whether the bridge is spent is no part of a row
notice_spent : (kept : List Seen) (desk : Board) (s t u : Shown) → u ≡ record t { spent = u.spent } → Notice kept desk s t → Notice kept desk s u
notice_spent kept desk s t u is n = rw is record { left = n.left; notified = n.notified; explained = n.explained; in_step = n.in_step; board = n.board; count = n.count; budget = n.budget }

row_spent : (n : ℕ) (s t u : Shown) → u ≡ record t { spent = u.spent } → Row n s t → Row n s u
row_spent zero s t u is r = is ∙ ap (λ (x : Shown). record x { spent = u.spent }) r
row_spent (suc n) s t u is r = (
  r.0,
  r.1,
  elim r.2 [
    | inl level ↦ inl (notice_spent r.0.board.seen (raise_on r.0.board) r.0 t u is level)
    | inr lit ↦ inr (lit.0, lit.1, record { notice = notice_spent r.0.board.seen (put_on r.0.board lit.0 lit.1) r.0 t u is lit.2.notice; told = rw is lit.2.told })
  ],
)

row_on : (m n : ℕ) (s t u : Shown) → Row m s t → Row n t u → Row (n + m) s u
row_on m zero s t u a b = let e : m ≡ 0 + m = omega arith in subst (λ (k : ℕ). Row k s u) e (row_spent m s t u b a)
row_on m (suc n) s t u a b =
    let e : suc (n + m) ≡ suc n + m = omega arith in
    subst (λ (k : ℕ). Row k s u) e (b.0, row_on m n s t b.0 a b.1, b.2)

pub tells_on : (s t u : Shown) → Tells s t → Tells t u → Tells s u
tells_on s t u a b = record { notices = b.notices + a.notices; row = row_on a.notices b.notices s t u a.row b.row }

-- nothing was told
pub tells_none : (s u : Shown) → u ≡ record s { spent = u.spent } → Tells s u
tells_none s u is = record { notices = 0; row = is }

one_more : (s u : Shown) → (TellsLevel s u ⊎ ((l : ℕ) × (decision : Bool) × TellsLit l decision s u)) → Tells s u
one_more s u h = record { notices = 1; row = (s, refl, h) }

pub tells_level : (s u : Shown) → TellsLevel s u → Tells s u
tells_level s u h = one_more s u (inl h)

pub tells_lit : (s u : Shown) (l : ℕ) (d : Bool) → TellsLit l d s u → Tells s u
tells_lit s u l d h = one_more s u (inr (l, d, h))

-- what is explained at the front of a longer seen trail
explained_front : (t : Meaning) (seen more : List Seen) (k : ℕ) → k < length seen → IsExplainedAt t (seen ++ more) k → IsExplainedAt t seen k
explained_front t seen more k in' h = rw (take-append-le k seen more (omega arith), get_or_append_left seen more no_entry k in') at h

explained_longer : (t : Meaning) (seen more : List Seen) (k : ℕ) → k < length seen → IsExplainedAt t seen k → IsExplainedAt t (seen ++ more) k
explained_longer t seen more k in' h = rw (take-append-le k seen more (omega arith), get_or_append_left seen more no_entry k in') h

keeps_front : (s t u : Meaning) (seen more mid : List Seen) → mid ≡ seen ++ more → KeepsExplained s t seen → KeepsExplained t u mid → KeepsExplained s u seen
keeps_front s t u seen more mid is a b k in' h =
    let longer : k < length mid = rw (is, length-append seen more) (omega arith) in
    let there : IsExplainedAt t mid k = rw is (explained_longer t seen more k in' (a k in' h)) in
    explained_front u seen more k in' (rw is at (b k longer there))

told_none : (s : Shown) (spent : Bool) → Told s (record s { spent = spent })
told_none s spent = record {
  admits = refl;
  scope = refl;
  kinds = refl;
  steady = refl;
  accepted = refl;
  explained = λ k l p. p;
  board = refl;
  more = [];
  seen = sym (append-nil s.board.seen);
  levels = 0;
  level = omega arith;
  count = refl;
  asked = refl;
  budget = refl;
}

-- a desk but for its seen trail
abbrev pub IsOn : Board → Board → Type 0
IsOn a b = b ≡ record a { seen = b.seen; level = b.level }

told_level : (s t u : Shown) → Told s t → TellsLevel t u → Told s u
told_level s t u a n =
    let m = n.notified in
    let size : suc (length a.more + a.levels) ≡ length a.more + (a.levels + 1) = omega arith in
    record {
      admits = m.admits ∙ a.admits;
      scope = m.scope ∙ a.scope;
      kinds = m.counted.kinds ∙ a.kinds;
      steady = m.counted.steady ∙ a.steady;
      accepted = m.counted.accepted ∙ a.accepted;
      explained = keeps_front s.means t.means u.means s.board.seen a.more t.board.seen a.seen a.explained n.explained;
      board = subst (λ (b : Board). IsOn s.board b) (sym n.board) (ap (λ (b : Board). record b { level = t.board.level + 1 }) a.board);
      more = a.more;
      seen = ap (λ (b : Board). b.seen) n.board ∙ a.seen;
      levels = a.levels + 1;
      level = (let p = a.level in let q = ap (λ (b : Board). b.level) n.board in omega arith);
      count = n.count ∙ ap next_count a.count ∙ ap (λ (k : ℕ). count_on k s.count) size;
      asked = m.counted.asked ∙ ap next_count a.asked ∙ ap (λ (k : ℕ). count_on k s.means.asked) size;
      budget = n.budget ∙ a.budget;
    }

told_lit : (s t u : Shown) (l : ℕ) (d : Bool) → Told s t → TellsLit l d t u → Told s u
told_lit s t u l d a h =
    let n = h.notice in
    let m = n.notified in
    let e : Seen = record { lit = l; level = t.board.level; decision = d } in
    let long = length-append a.more (e ∷ []) in
    let size : suc (length a.more + a.levels) ≡ length (a.more ++ e ∷ []) + a.levels = omega arith in
    record {
      admits = m.admits ∙ a.admits;
      scope = m.scope ∙ a.scope;
      kinds = m.counted.kinds ∙ a.kinds;
      steady = m.counted.steady ∙ a.steady;
      accepted = m.counted.accepted ∙ a.accepted;
      explained = keeps_front s.means t.means u.means s.board.seen a.more t.board.seen a.seen a.explained n.explained;
      board = subst (λ (b : Board). IsOn s.board b) (sym n.board) (ap (λ (b : Board). record b { seen = t.board.seen ++ e ∷ [] }) a.board);
      more = a.more ++ e ∷ [];
      seen = ap (λ (b : Board). b.seen) n.board ∙ ap (λ (xs : List Seen). xs ++ e ∷ []) a.seen ∙ append_assoc s.board.seen a.more (e ∷ []);
      levels = a.levels;
      level = (let p = a.level in let q = ap (λ (b : Board). b.level) n.board in omega arith);
      count = n.count ∙ ap next_count a.count ∙ ap (λ (k : ℕ). count_on k s.count) size;
      asked = m.counted.asked ∙ ap next_count a.asked ∙ ap (λ (k : ℕ). count_on k s.means.asked) size;
      budget = n.budget ∙ a.budget;
    }

told_row : (n : ℕ) (s u : Shown) → Row n s u → Told s u
told_row zero s u r = subst (λ (x : Shown). Told s x) (sym r) (told_none s u.spent)
told_row (suc n) s u r = elim r.2 [
  | inl level ↦ told_level s r.0 u (told_row n s r.0 r.1) level
  | inr lit ↦ told_lit s r.0 u lit.0 lit.1 (told_row n s r.0 r.1) lit.2
]

pub told_tells : (s u : Shown) → Tells s u → Told s u
told_tells s u h = told_row h.notices s u h.row

-- as many notifications as the seen trail and its level are larger
row_size : (n : ℕ) (s u : Shown) → Row n s u → length u.board.seen + u.board.level ≡ length s.board.seen + s.board.level + n
row_size zero s u r = let a = ap (λ (x : Shown). length x.board.seen) r in let b = ap (λ (x : Shown). x.board.level) r in omega arith
row_size (suc n) s u r =
    let before = row_size n s r.0 r.1 in
    elim r.2 [
      | inl level ↦ (let a = ap (λ (b : Board). length b.seen) level.board in let b = ap (λ (b : Board). b.level) level.board in omega arith)
      | inr lit ↦ (
          let e : Seen = record { lit = lit.0; level = r.0.board.level; decision = lit.1 } in
          let a = ap (λ (b : Board). length b.seen) lit.2.notice.board in
          let b = ap (λ (b : Board). b.level) lit.2.notice.board in
          let more = length-append r.0.board.seen (e ∷ []) in
          omega arith)
    ]

-- the literal that was told last, by its place
explained_last : (m : Meaning) (seen : List Seen) (e : Seen) (n : ℕ) → n ≡ length seen → m.explains seen e.lit ≡ true → IsExplainedAt m (seen ++ e ∷ []) n
explained_last m seen e n is h = rw (is, take-append_seam seen (e ∷ []), get_or_push seen e no_entry (length seen) refl) h

-- The first literal that is told, where no level is, is explained if that was said of it before.
module _ (l : ℕ) where
  abbrev IsFirst : Shown → Shown → Type 0
  IsFirst s u = (entry u.board.seen (length s.board.seen)).lit ≡ l → IsExplainedAt u.means u.board.seen (length s.board.seen)

  first_lit : (n : ℕ) (s t u : Shown) (k : ℕ) (d : Bool) → s.means.explains s.board.seen l ≡ true → Row n s t → t.board.level ≡ s.board.level → TellsLit k d t u
      → (length s.board.seen < length t.board.seen → IsFirst s t) → IsFirst s u
  first_lit n s t u k d said r level h before is =
      let e : Seen = record { lit = k; level = t.board.level; decision = d } in
      let seen : u.board.seen ≡ t.board.seen ++ e ∷ [] = ap (λ (b : Board). b.seen) h.notice.board in
      let told = told_row n s t r in
      let long = ap (λ (xs : List Seen). length xs) told.seen in
      let sum = length-append s.board.seen told.more in
      elim (cases_lt (length s.board.seen) (length t.board.seen)) [
        | inl later ↦
            let same : (entry t.board.seen (length s.board.seen)).lit ≡ l = (let q = is in rw (seen, get_or_append_left t.board.seen (e ∷ []) no_entry (length s.board.seen) later) at q) in
            let kept = h.notice.explained (length s.board.seen) later (before later same) in
            rw seen (explained_longer u.means t.board.seen (e ∷ []) (length s.board.seen) later kept)
        | inr here ↦
            let size = row_size n s t r in
            let none : n ≡ 0 = omega arith in
            let first : t ≡ record s { spent = t.spent } = subst (λ (m : ℕ). Row m s t) none r in
            let same : length s.board.seen ≡ length t.board.seen = omega arith in
            let here' : (entry (t.board.seen ++ e ∷ []) (length s.board.seen)).lit ≡ l = subst (λ (xs : List Seen). (entry xs (length s.board.seen)).lit ≡ l) seen is in
            let named : k ≡ l = sym (ap (λ (x : Seen). x.lit) (get_or_push t.board.seen e no_entry (length s.board.seen) (sym same))) ∙ here' in
            let before' : t.means.explains t.board.seen l ≡ true = subst (λ (x : Shown). x.means.explains x.board.seen l ≡ true) (sym first) said in
            let now : u.means.explains t.board.seen k ≡ true = h.told (subst (λ (q : ℕ). t.means.explains t.board.seen q ≡ true) (sym named) before') in
            subst (λ (xs : List Seen). IsExplainedAt u.means xs (length s.board.seen)) (sym seen) (explained_last u.means t.board.seen e (length s.board.seen) same now)
      ]

  first_row : (n : ℕ) (s u : Shown) → s.means.explains s.board.seen l ≡ true → Row n s u → u.board.level ≡ s.board.level → length s.board.seen < length u.board.seen → IsFirst s u
  first_row zero s u said r level longer = (let a = ap (λ (x : Shown). length x.board.seen) r in absurd (omega arith))
  first_row (suc n) s u said r level longer = elim r.2 [
    | inl up ↦ (let a = ap (λ (b : Board). b.level) up.board in let t = told_row n s r.0 r.1 in let b = t.level in absurd (omega arith))
    | inr lit ↦ (
        let a = ap (λ (b : Board). b.level) lit.2.notice.board in
        let same : r.0.board.level ≡ s.board.level = omega arith in
        first_lit n s r.0 u lit.0 lit.1 said r.1 same lit.2 (λ later. first_row n s r.0 said r.1 same later))
  ]

  pub first_told : (s u : Shown) → Tells s u → s.means.explains s.board.seen l ≡ true → u.board.level ≡ s.board.level → length s.board.seen < length u.board.seen
      → (entry u.board.seen (length s.board.seen)).lit ≡ l → IsExplainedAt u.means u.board.seen (length s.board.seen)
  first_told s u h said level longer = first_row h.notices s u said h.row level longer
