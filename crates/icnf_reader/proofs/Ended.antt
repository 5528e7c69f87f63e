-- The statements that ended among words are those that the words close.
use Rattle.std.proofs.Common.{◌≡◌, ◌∙◌, sym, ap, refl, subst, arith, ⊎_elim, inl, inr, ℕ, ◌≤◌, List, [], ◌∷◌, ◌++◌, length, Some}
use Rattle.std.specs.Prelude.{◌⊎◌, ◌≢◌}
use Rattle.icnf_reader.specs.Grammar.{Statement, Clause, Card, Query, allowed_by, IsFit, LongestFit, NoneFit, Ended}
use Rattle.icnf_reader.specs.Outcomes.{Point, doing, start, statements_of, items_of, header_of}
use Rattle.icnf_reader.specs.declared.item.Heads.{Heads}
use Rattle.icnf_reader.specs.declared.item.Allowed.{Allowed}
use Rattle.icnf_reader.specs.declared.item.Header.{Header}
use Rattle.icnf_reader.specs.declared.item.Item.TheVariants as item
use Rattle.icnf_reader.specs.declared.reader.Mode.{Mode}
use Rattle.icnf_reader.specs.declared.reader.Mode.TheVariants.{Start, Kind, Vars, Clauses, Between, InClause, InQuery, Bound, InCard}
use Rattle.icnf_reader.proofs.Modes.{leads, lead_on, modes, fit_leads, leads_fit}
use Rattle.icnf_reader.proofs.Said.{moved, emitted, said, lead_step, emits, fit_says}

-- between two statements, or not
abbrev pub IsBetween : Mode → Type 0
IsBetween m = (k : Allowed) × (m ≡ Between k)

pub mode_cases : (m : Mode) → IsBetween m ⊎ ((k : Allowed) → m ≢ Between k)
mode_cases (Start heads) = inr (λ k e. cc)
mode_cases (Kind heads) = inr (λ k e. cc)
mode_cases (Vars heads kind) = inr (λ k e. cc)
mode_cases (Clauses heads kind vars) = inr (λ k e. cc)
mode_cases (Between may) = inl (may, refl)
mode_cases (InClause may) = inr (λ k e. cc)
mode_cases (InQuery may) = inr (λ k e. cc)
mode_cases (Bound may) = inr (λ k e. cc)
mode_cases (InCard may b) = inr (λ k e. cc)

-- the statements of items that were made of them
pub statements_items : (ss : List Statement) → statements_of (items_of ss) ≡ ss
statements_items [] = refl
statements_items (Clause ls ∷ ss) = ap (λ x. Clause ls ∷ x) (statements_items ss)
statements_items (Card b ls ∷ ss) = ap (λ x. Card b ls ∷ x) (statements_items ss)
statements_items (Query ls ∷ ss) = ap (λ x. Query ls ∷ x) (statements_items ss)

-- the longest front of words that leads between two statements
record LastClose (ws : List (List ℕ)) (p : Point) : Type 0 where
  front : List (List ℕ)
  rest : List (List ℕ)
  may : Allowed
  cut : ws ≡ front ++ rest
  goes : modes front p.mode ≡ Some (Between may)
  same : said ws p ≡ said front p
  longest : (longer more : List (List ℕ)) (k : Allowed) → ws ≡ longer ++ more → modes longer p.mode ≡ Some (Between k) → length longer ≤ length front

-- no front leads there
record NeverCloses (ws : List (List ℕ)) (p : Point) : Type 0 where
  none : said ws p ≡ []
  never : (front rest : List (List ℕ)) (k : Allowed) → ws ≡ front ++ rest → modes front p.mode ≡ Some (Between k) → ⊥

-- a front of no words
empty_front : (front rest : List (List ℕ)) → [] ≡ front ++ rest → front ≡ []
empty_front [] rest c = refl
empty_front (w ∷ front) rest c = cc

-- what holds of each front of the words behind the first, holds of each longer front
fronts : (P : List (List ℕ) → Type 0) (w : List ℕ) (ws : List (List ℕ)) (p : Point) (m : Mode) → lead_on (modes ws) (leads p.mode (doing p.mode w)) ≡ Some m
    → (IsBetween p.mode → P [])
    → ((front rest : List (List ℕ)) (k : Allowed) → ws ≡ front ++ rest → modes front (moved (doing p.mode w) p).mode ≡ Some (Between k) → P (w ∷ front))
    → (front rest : List (List ℕ)) (k : Allowed) → w ∷ ws ≡ front ++ rest → modes front p.mode ≡ Some (Between k) → P front
fronts P w ws p m e here there [] rest k c g = here (k, cc)
fronts P w ws p m e here there (x ∷ front) rest k c g =
    let same : x ≡ w = cc in
    let cut : ws ≡ front ++ rest = cc in
    let s = lead_step (doing p.mode w) p ws m e in
    let goes : modes front (moved (doing p.mode w) p).mode ≡ Some (Between k) = ap (lead_on (modes front)) (sym s.0) ∙ ap (λ y. modes (y ∷ front) p.mode) (sym same) ∙ g in
    subst (λ y. P (y ∷ front)) (sym same) (there front rest k cut goes)

-- one more word before them
close_step : (w : List ℕ) (ws : List (List ℕ)) (p : Point) (m : Mode) → lead_on (modes ws) (leads p.mode (doing p.mode w)) ≡ Some m
    → LastClose ws (moved (doing p.mode w) p) ⊎ NeverCloses ws (moved (doing p.mode w) p) → LastClose (w ∷ ws) p ⊎ NeverCloses (w ∷ ws) p
close_step w ws p m e = ⊎_elim
    (λ (a : LastClose ws (moved (doing p.mode w) p)). inl (record {
      front = w ∷ a.front;
      rest = a.rest;
      may = a.may;
      cut = ap (λ y. w ∷ y) a.cut;
      goes = ap (lead_on (modes a.front)) (lead_step (doing p.mode w) p ws m e).0 ∙ a.goes;
      same = ap (λ y. emitted (doing p.mode w) p ++ y) a.same;
      longest = fronts (λ longer. length longer ≤ length (w ∷ a.front)) w ws p m e (λ is. omega arith)
          (λ front rest k c g. omega (arith, a.longest front rest k c g));
    }))
    (λ (b : NeverCloses ws (moved (doing p.mode w) p)).
    let not : (k : Allowed) → (moved (doing p.mode w) p).mode ≢ Between k = λ k is. b.never [] ws k refl (ap Some is) in
    let nothing : said (w ∷ ws) p ≡ [] = ⊎_elim
    (λ (none : emitted (doing p.mode w) p ≡ []). ap (λ y. y ++ said ws (moved (doing p.mode w) p)) none ∙ b.none)
    (λ (is : (k : Allowed) × ((moved (doing p.mode w) p).mode ≡ Between k)). absurd (not is.0 is.1))
    (emits (doing p.mode w) p) in
    ⊎_elim
    (λ (is : IsBetween p.mode). inl (record {
      front = [];
      rest = w ∷ ws;
      may = is.0;
      cut = refl;
      goes = ap Some is.1;
      same = nothing;
      longest = fronts (λ longer. length longer ≤ 0) w ws p m e (λ here. omega arith) (λ front rest k c g. absurd (b.never front rest k c g));
    }))
    (λ (outside : (k : Allowed) → p.mode ≢ Between k). inr (record {
      none = nothing;
      never = fronts (λ longer. ⊥) w ws p m e (λ is. outside is.0 is.1) b.never;
    }))
    (mode_cases p.mode))

last_close : (ws : List (List ℕ)) (p : Point) (m : Mode) → modes ws p.mode ≡ Some m → LastClose ws p ⊎ NeverCloses ws p
last_close [] p m e = ⊎_elim
    (λ (is : IsBetween p.mode). inl (record {
      front = [];
      rest = [];
      may = is.0;
      cut = refl;
      goes = ap Some is.1;
      same = refl;
      longest = λ longer more k c g. let empty = empty_front longer more c in omega (arith, ap length empty);
    }))
    (λ (not : (k : Allowed) → p.mode ≢ Between k). inr (record {
      none = refl;
      never = λ front rest k c g. let x : Some p.mode ≡ Some (Between k) = ap (λ y. modes y p.mode) (sym (empty_front front rest c)) ∙ g in
          let y : p.mode ≡ Between k = cc in not k y;
    }))
    (mode_cases p.mode)
last_close (w ∷ ws) p m e = close_step w ws p m e (last_close ws (moved (doing p.mode w) p) m (lead_step (doing p.mode w) p ws m e).1)

-- Words that lead somewhere close exactly the statements that ended among them.
pub ended_is : (heads : Heads) (ws : List (List ℕ)) (m : Mode) → modes ws (Start heads) ≡ Some m → Ended heads ws (header_of (said ws (start heads))).vars (statements_of (said ws (start heads)))
ended_is heads ws m e = ⊎_elim
    (λ (a : LastClose ws (start heads)).
    let f = leads_fit heads a.may a.front a.goes in
    let items : said ws (start heads) ≡ item.Header f.0 ∷ items_of f.1 = a.same ∙ (fit_says heads a.front f.0 f.1 f.2).0 in
    let is : f.1 ≡ statements_of (said ws (start heads)) = sym (ap statements_of items ∙ statements_items f.1) in
    inl (
      f.0,
      record {
        front = a.front;
        rest = a.rest;
        cut = a.cut;
        fit = subst (IsFit heads a.front f.0) is f.2;
        longest = λ longer more h others c fit. a.longest longer more (allowed_by heads h.kind) c (fit_leads heads longer h others fit);
      },
      ap (λ x. (header_of x).vars) items,
    ))
    (λ (b : NeverCloses ws (start heads)). inr ((λ front rest h ss c fit. b.never front rest (allowed_by heads h.kind) c (fit_leads heads front h ss fit)), ap statements_of b.none, ap (λ x. (header_of x).vars) b.none))
    (last_close ws (start heads) m e)

-- two fronts of one length are the same
same_front : (xs ys us vs : List (List ℕ)) → xs ++ us ≡ ys ++ vs → length xs ≡ length ys → xs ≡ ys
same_front [] [] us vs e l = refl
same_front [] (y ∷ ys) us vs e l = absurd (omega arith)
same_front (x ∷ xs) [] us vs e l = absurd (omega arith)
same_front (x ∷ xs) (y ∷ ys) us vs e l =
    let rest : xs ++ us ≡ ys ++ vs = cc in
    let head : x ≡ y = cc in
    let tail : xs ≡ ys = same_front xs ys us vs rest (omega arith) in
    cc

-- but one header and one list of statements are those of fit words
fit_once : (heads : Heads) (ws : List (List ℕ)) (h g : Header) (ss others : List Statement) → IsFit heads ws h ss → IsFit heads ws g others → (h.vars ≡ g.vars) × (ss ≡ others)
fit_once heads ws h g ss others a b =
    let same : item.Header h ∷ items_of ss ≡ item.Header g ∷ items_of others = sym (fit_says heads ws h ss a).0 ∙ (fit_says heads ws g others b).0 in
    (ap (λ x. (header_of x).vars) same, sym (statements_items ss) ∙ ap statements_of same ∙ statements_items others)

-- but one list of statements ended among words
pub ended_once : (heads : Heads) (ws : List (List ℕ)) (v u : ℕ) (ss others : List Statement) → Ended heads ws v ss → Ended heads ws u others → (v ≡ u) × (ss ≡ others)
ended_once heads ws v u ss others = ⊎_elim
    (λ (a : (h : Header) × LongestFit heads ws h ss × (v ≡ h.vars)). ⊎_elim
    (λ (b : (h : Header) × LongestFit heads ws h others × (u ≡ h.vars)).
    let la = a.1.longest b.1.front b.1.rest b.0 others b.1.cut b.1.fit in
    let lb = b.1.longest a.1.front a.1.rest a.0 ss a.1.cut a.1.fit in
    let same : a.1.front ≡ b.1.front = same_front a.1.front b.1.front a.1.rest b.1.rest (sym a.1.cut ∙ b.1.cut) (omega arith) in
    let P : List (List ℕ) → Type 0 = λ f. IsFit heads f a.0 ss in
    let o = fit_once heads b.1.front a.0 b.0 ss others (subst P same a.1.fit) b.1.fit in
    (a.2 ∙ o.0 ∙ sym b.2, o.1))
    (λ (b : NoneFit heads ws × (others ≡ []) × (u ≡ 0)). absurd (b.0 a.1.front a.1.rest a.0 ss a.1.cut a.1.fit)))
    (λ (a : NoneFit heads ws × (ss ≡ []) × (v ≡ 0)). ⊎_elim
    (λ (b : (h : Header) × LongestFit heads ws h others × (u ≡ h.vars)). absurd (a.0 b.1.front b.1.rest b.0 others b.1.cut b.1.fit))
    (λ (b : NoneFit heads ws × (others ≡ []) × (u ≡ 0)). (a.2 ∙ sym b.2, a.1 ∙ sym b.1)))
