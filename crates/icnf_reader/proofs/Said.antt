-- What words say to one who stands at a point: the items that they close, and the point behind them.
use Rattle.std.proofs.Common.{◌≡◌, ◌∙◌, sym, ap, refl, subst, arith, ⊎_elim, inl, inr, ℕ, ◌+◌, ◌<◌, ◌≤◌, false, List, [], ◌∷◌, ◌++◌, length, Some, append_assoc}
use Rattle.std.specs.Prelude.{◌⊎◌, codes}
use Rattle.std.proofs.lemmas.List.{append-nil}
use Rattle.sat_terms.specs.Limits.{max_literals}
use Rattle.icnf_reader.specs.Tokens.{Token}
use Rattle.icnf_reader.specs.Grammar.{Statement, Clause, Card, Query, allowed_by, AreLits, AreWordsOf, AreStatements, IsHeader, IsNumbersHeader, IsIncHeader, inc_header, IsFit, lits_of_statement, literals_of}
use Rattle.icnf_reader.specs.Script.{Bad, texts, word_tokens}
use Rattle.icnf_reader.specs.Outcomes.{Point, Outcome, doing, in_statement, opened, resting, closed, vars_place, clauses_place, bound_place, follow, reads, nothing, start, items_of}
use Rattle.icnf_reader.specs.declared.item.Heads.{Heads}
use Rattle.icnf_reader.specs.declared.item.Allowed.{Allowed}
use Rattle.icnf_reader.specs.declared.item.HeadKind.TheVariants.{Inc}
use Rattle.icnf_reader.specs.declared.item.Header.{Header}
use Rattle.icnf_reader.specs.declared.item.Item.{Item}
use Rattle.icnf_reader.specs.declared.item.Item.TheVariants as item
use Rattle.icnf_reader.specs.declared.item.Why.TheVariants.{TooManyLiterals}
use Rattle.icnf_reader.specs.declared.reader.Mode.{Mode}
use Rattle.icnf_reader.specs.declared.reader.Mode.TheVariants.{Start, Kind, Vars, Clauses, Between, InClause, InQuery, Bound, InCard}
use Rattle.icnf_reader.specs.Numbers.{place_of}
use Rattle.icnf_reader.specs.declared.numbers.LitWord.TheVariants.{Zero, Literal, Other}
use Rattle.icnf_reader.specs.declared.reader.Meaning.{Meaning}
use Rattle.icnf_reader.specs.declared.reader.Meaning.TheVariants.{Enters, Adds, Closes, Heading, Wrong}
use Rattle.icnf_reader.proofs.Left.{lt_is, lt_is_not}
use Rattle.icnf_reader.proofs.Modes.{leads, lead_on, modes, number_first, query_first, card_first, numbered_place, inc_place}

-- the point behind a word, and what it closes
abbrev pub moved : Meaning → Point → Point
moved (Enters m) p = record { mode = m; lits = []; count = p.count }
moved (Adds l) p = record { mode = opened p.mode; lits = p.lits ++ l ∷ []; count = p.count + 1 }
moved Closes p = record { mode = resting p.mode; lits = []; count = p.count }
moved (Heading h may) p = record { mode = Between may; lits = []; count = p.count }
moved (Wrong why) p = p

abbrev pub emitted : Meaning → Point → List Item
emitted (Enters m) p = []
emitted (Adds l) p = []
emitted Closes p = closed p.mode p.lits ∷ []
emitted (Heading h may) p = item.Header h ∷ []
emitted (Wrong why) p = []

-- the point behind words, and what they close
abbrev pub after : List (List ℕ) → Point → Point
after [] p = p
after (w ∷ ws) p = after ws (moved (doing p.mode w) p)

abbrev pub said : List (List ℕ) → Point → List Item
said [] p = []
said (w ∷ ws) p = emitted (doing p.mode w) p ++ said ws (moved (doing p.mode w) p)

-- items before others
abbrev pub put_items : List Item → Outcome → Outcome
put_items is o = record { items = is ++ o.items; ending = o.ending }

pub after-append : (ws more : List (List ℕ)) (p : Point) → after (ws ++ more) p ≡ after more (after ws p)
after-append [] more p = refl
after-append (w ∷ ws) more p = after-append ws more (moved (doing p.mode w) p)

said-append : (ws more : List (List ℕ)) (p : Point) → said (ws ++ more) p ≡ said ws p ++ said more (after ws p)
said-append [] more p = refl
said-append (w ∷ ws) more p = let q = moved (doing p.mode w) p in
    ap (λ is. emitted (doing p.mode w) p ++ is) (said-append ws more q) ∙ sym (append_assoc (emitted (doing p.mode w) p) (said ws q) (said more (after ws q)))

-- a word that leads somewhere leads to the point behind it
pub lead_step : (mean : Meaning) (p : Point) (ws : List (List ℕ)) (m : Mode) → lead_on (modes ws) (leads p.mode mean) ≡ Some m
    → (leads p.mode mean ≡ Some (moved mean p).mode) × (modes ws (moved mean p).mode ≡ Some m)
lead_step (Enters k) p ws m e = (refl, e)
lead_step (Adds l) p ws m e = (refl, e)
lead_step Closes p ws m e = (refl, e)
lead_step (Heading h may) p ws m e = (refl, e)
lead_step (Wrong why) p ws m e = cc

pub after_mode : (ws : List (List ℕ)) (p : Point) (m : Mode) → modes ws p.mode ≡ Some m → (after ws p).mode ≡ m
after_mode [] p m e = cc
after_mode (w ∷ ws) p m e = after_mode ws (moved (doing p.mode w) p) m (lead_step (doing p.mode w) p ws m e).1

resting_is : (m : Mode) → (k : Allowed) × (resting m ≡ Between k)
resting_is (Start heads) = (record { queries = false; cards = false }, refl)
resting_is (Kind heads) = (record { queries = false; cards = false }, refl)
resting_is (Vars heads kind) = (record { queries = false; cards = false }, refl)
resting_is (Clauses heads kind vars) = (record { queries = false; cards = false }, refl)
resting_is (Between may) = (may, refl)
resting_is (InClause may) = (may, refl)
resting_is (InQuery may) = (may, refl)
resting_is (Bound may) = (may, refl)
resting_is (InCard may b) = (may, refl)

-- a word closes nothing, or it leads between two statements
pub emits : (mean : Meaning) (p : Point) → (emitted mean p ≡ []) ⊎ ((k : Allowed) × ((moved mean p).mode ≡ Between k))
emits (Enters k) p = inl refl
emits (Adds l) p = inl refl
emits Closes p = inr (resting_is p.mode)
emits (Heading h may) p = inr (may, refl)
emits (Wrong why) p = inl refl

-- how many literals a word adds
abbrev pub added : Meaning → ℕ
added (Adds l) = 1
added mean = 0

pub moved_count : (mean : Meaning) (p : Point) → (moved mean p).count ≡ p.count + added mean
moved_count (Enters k) p = omega arith
moved_count (Adds l) p = refl
moved_count Closes p = omega arith
moved_count (Heading h may) p = omega arith
moved_count (Wrong why) p = omega arith

-- words take no literal away
pub after_grows : (ws : List (List ℕ)) (p : Point) → p.count ≤ (after ws p).count
after_grows [] p = omega arith
after_grows (w ∷ ws) p = omega (arith, after_grows ws (moved (doing p.mode w) p), moved_count (doing p.mode w) p)

-- what follows from a word that leads somewhere, where there is room for its literal and where there is none
follow_is : (mean : Meaning) (n : ℕ) (p : Point) (k : Mode) (go : Point → Outcome) → leads p.mode mean ≡ Some k → p.count + added mean ≤ max_literals
    → follow mean n p go ≡ put_items (emitted mean p) (go (moved mean p))
follow_is (Enters m) n p k go e few = refl
follow_is (Adds l) n p k go e few = rw (lt_is p.count max_literals (omega arith)) refl
follow_is Closes n p k go e few = refl
follow_is (Heading h may) n p k go e few = refl
follow_is (Wrong why) n p k go e few = cc

pub follow_full : (mean : Meaning) (n : ℕ) (p : Point) (go : Point → Outcome) → p.count ≤ max_literals → max_literals < p.count + added mean
    → follow mean n p go ≡ nothing (Bad n TooManyLiterals)
follow_full (Enters m) n p go few full = absurd (omega arith)
follow_full (Adds l) n p go few full = rw (lt_is_not p.count max_literals (omega arith)) refl
follow_full Closes n p go few full = absurd (omega arith)
follow_full (Heading h may) n p go few full = absurd (omega arith)
follow_full (Wrong why) n p go few full = absurd (omega arith)

-- Words that lead somewhere are read to their end, where they have not too many literals.
pub run : (ws : List (ℕ × List ℕ)) (p : Point) (m : Mode) (ts : List Token) (last : ℕ) → modes (texts ws) p.mode ≡ Some m → (after (texts ws) p).count ≤ max_literals
    → reads (word_tokens ws ++ ts) p last ≡ put_items (said (texts ws) p) (reads ts (after (texts ws) p) last)
run [] p m ts last e few = refl
run (w ∷ ws) p m ts last e few =
    let mean = doing p.mode w.1 in
    let s = lead_step mean p (texts ws) m e in
    let q = moved mean p in
    let o = reads ts (after (texts ws) q) last in
    follow_is mean w.0 p q.mode (λ r. reads (word_tokens ws ++ ts) r last) s.0 (omega (arith, few, after_grows (texts ws) q, moved_count mean p))
    ∙ ap (put_items (emitted mean p)) (run ws q m ts last s.1 few)
    ∙ ap (λ is. record { items = is; ending = o.ending }) (sym (append_assoc (emitted mean p) (said (texts ws) q) o.items))

-- a place between two statements
abbrev between : Allowed → ℕ → Point
between may n = record { mode = Between may; lits = []; count = n }

-- words close these items, and lead between two statements with so many literals
abbrev Close : Allowed → List (List ℕ) → Point → List Item → ℕ → Type 0
Close may ws p is k = (said ws p ≡ is) × (after ws p ≡ between may k)

-- what a word does, where it is known
close_by : (may : Allowed) (w : List ℕ) (ws : List (List ℕ)) (p : Point) (mean : Meaning) (is : List Item) (k : ℕ) → doing p.mode w ≡ mean
    → (emitted mean p ++ said ws (moved mean p) ≡ is) × (after ws (moved mean p) ≡ between may k) → Close may (w ∷ ws) p is k
close_by may w ws p mean is k e h =
    let P : Meaning → Type 0 = λ x. (emitted x p ++ said ws (moved x p) ≡ is) × (after ws (moved x p) ≡ between may k) in
    subst P (sym e) h

-- a place in a statement that gives this item of its literals
record IsInside (m : Mode) (may : Allowed) (give : List ℕ → Item) : Type 0 where
  does : (w : List ℕ) → doing m w ≡ in_statement (place_of w)
  stays : opened m ≡ m
  rests : resting m ≡ Between may
  gives : (lits : List ℕ) → closed m lits ≡ give lits

-- literals and a zero close a statement
lits_close : (m : Mode) (may : Allowed) (give : List ℕ → Item) → IsInside m may give → (ws : List (List ℕ)) (ls lits : List ℕ) (n : ℕ) → AreLits ws ls
    → Close may ws (record { mode = m; lits = lits; count = n }) (give (lits ++ ls) ∷ []) (n + length ls)
lits_close m may give in_m [] ls lits n h = absurd h
lits_close m may give in_m (w ∷ ws) [] lits n h =
    let e : n ≡ n + length {A = ℕ} [] = omega arith in
    let p : Point = record { mode = m; lits = lits; count = n } in
    close_by may w ws p Closes (give (lits ++ []) ∷ []) (n + length {A = ℕ} []) (in_m.does w ∙ ap in_statement h.0)
    (rw h.1 (ap (λ i. i ∷ []) (in_m.gives lits ∙ ap give (sym (append-nil lits))), ap (λ k. record { mode = k; lits = []; count = n }) in_m.rests ∙ ap (between may) e))
lits_close m may give in_m (w ∷ ws) (l ∷ ls) lits n h =
    let p : Point = record { mode = m; lits = lits; count = n } in
    let r = lits_close m may give in_m ws ls (lits ++ l ∷ []) (n + 1) h.1 in
    let e : n + 1 + length ls ≡ n + length (l ∷ ls) = omega arith in
    let P : Mode → Type 0 = λ k. Close may ws (record { mode = k; lits = lits ++ l ∷ []; count = n + 1 }) (give (lits ++ l ∷ ls) ∷ []) (n + length (l ∷ ls)) in
    close_by may w ws p (Adds l) (give (lits ++ l ∷ ls) ∷ []) (n + length (l ∷ ls)) (in_m.does w ∙ ap in_statement h.0)
    (subst P (sym in_m.stays) (r.0 ∙ ap (λ x. give x ∷ []) (append_assoc lits (l ∷ []) ls), r.1 ∙ ap (between may) e))

in_clause : (may : Allowed) → IsInside (InClause may) may item.Clause
in_clause may = record { does = λ w. refl; stays = refl; rests = refl; gives = λ lits. refl }

in_query : (may : Allowed) → IsInside (InQuery may) may item.Query
in_query may = record { does = λ w. refl; stays = refl; rests = refl; gives = λ lits. refl }

in_card : (may : Allowed) (b : ℕ) → IsInside (InCard may b) may (item.Card b)
in_card may b = record { does = λ w. refl; stays = refl; rests = refl; gives = λ lits. refl }

-- the words of a statement close it
statement_closes : (may : Allowed) (s : Statement) (ws : List (List ℕ)) (n : ℕ) → AreWordsOf may s ws → Close may ws (between may n) (items_of (s ∷ [])) (n + length (lits_of_statement s))
statement_closes may (Clause ls) ws n h = clause ws ls h
  where
    clause : (ws : List (List ℕ)) (ls : List ℕ) → AreLits ws ls → Close may ws (between may n) (item.Clause ls ∷ []) (n + length ls)
    clause [] ls h = absurd h
    clause (w ∷ ws) [] h = let e = number_first may w (λ o. let x : Zero ≡ Other = sym h.0 ∙ o in cc) in
        let z : n ≡ n + length {A = ℕ} [] = omega arith in
        close_by may w ws (between may n) Closes (item.Clause [] ∷ []) (n + length {A = ℕ} []) (e ∙ ap in_statement h.0) (rw h.1 (refl, ap (between may) z))
    clause (w ∷ ws) (l ∷ ls) h = let e = number_first may w (λ o. let x : Literal l ≡ Other = sym h.0 ∙ o in cc) in
        let r = lits_close (InClause may) may item.Clause (in_clause may) ws ls (l ∷ []) (n + 1) h.1 in
        let z : n + 1 + length ls ≡ n + length (l ∷ ls) = omega arith in
        close_by may w ws (between may n) (Adds l) (item.Clause (l ∷ ls) ∷ []) (n + length (l ∷ ls)) (e ∙ ap in_statement h.0) (r.0, r.1 ∙ ap (between may) z)
statement_closes may (Card b ls) ws n h =
    let c = h.1 in
    let r = lits_close (InCard may b) may (item.Card b) (in_card may b) c.rest ls [] n c.lits in
    let P : List (List ℕ) → Type 0 = λ x. Close may x (between may n) (item.Card b ls ∷ []) (n + length ls) in
    let bound : Point = record { mode = Bound may; lits = []; count = n } in
    subst P (sym c.are) (close_by may (codes "k") (c.bound ∷ c.rest) (between may n) (Enters (Bound may)) (item.Card b ls ∷ []) (n + length ls) (card_first may h.0)
    (close_by may c.bound c.rest bound (Enters (InCard may b)) (item.Card b ls ∷ []) (n + length ls) (ap (bound_place may) c.bound_is) r))
statement_closes may (Query ls) ws n h =
    let r = lits_close (InQuery may) may item.Query (in_query may) h.1 ls [] n h.3 in
    let P : List (List ℕ) → Type 0 = λ x. Close may x (between may n) (item.Query ls ∷ []) (n + length ls) in
    subst P (sym h.2) (close_by may (codes "a") h.1 (between may n) (Enters (InQuery may)) (item.Query ls ∷ []) (n + length ls) (query_first may h.0) r)

items_cons : (s : Statement) (ss : List Statement) → items_of (s ∷ []) ++ items_of ss ≡ items_of (s ∷ ss)
items_cons (Clause ls) ss = refl
items_cons (Card b ls) ss = refl
items_cons (Query ls) ss = refl

statements_close : (may : Allowed) (ss : List Statement) (ws : List (List ℕ)) (n : ℕ) → AreStatements may ws ss → Close may ws (between may n) (items_of ss) (n + literals_of ss)
statements_close may [] ws n h =
    let P : List (List ℕ) → Type 0 = λ x. Close may x (between may n) [] (n + 0) in
    let z : n ≡ n + 0 = omega arith in
    subst P (sym h) (refl, ap (between may) z)
statements_close may (s ∷ ss) ws n h =
    let r = statement_closes may s h.0 n h.3 in
    let m = n + length (lits_of_statement s) in
    let t = statements_close may ss h.1 m h.4 in
    let P : List (List ℕ) → Type 0 = λ x. Close may x (between may n) (items_of (s ∷ ss)) (n + literals_of (s ∷ ss)) in
    let z : m + literals_of ss ≡ n + literals_of (s ∷ ss) = omega arith in
    subst P (sym h.2) (
      said-append h.0 h.1 (between may n) ∙ ap (λ x. x ++ said h.1 (after h.0 (between may n))) r.0 ∙ ap (λ q. items_of (s ∷ []) ++ said h.1 q) r.1 ∙ ap (λ x. items_of (s ∷ []) ++ x) t.0 ∙ items_cons s ss,
      after-append h.0 h.1 (between may n) ∙ ap (after h.1) r.1 ∙ t.1 ∙ ap (between may) z,
    )

-- the words of a header give it
header_says : (heads : Heads) (ws : List (List ℕ)) (h : Header) → IsHeader heads ws h → Close (allowed_by heads h.kind) ws (start heads) (item.Header h ∷ []) 0
header_says heads ws h = ⊎_elim
    (λ (c : IsNumbersHeader heads ws h).
    let may = allowed_by heads h.kind in
    let P : List (List ℕ) → Type 0 = λ x. Close may x (start heads) (item.Header h ∷ []) 0 in
    let at : Mode → Point = λ m. record { mode = m; lits = []; count = 0 } in
    subst P (sym c.are) (close_by may c.kind (c.vars ∷ c.clauses ∷ []) (at (Kind heads)) (Enters (Vars heads h.kind)) (item.Header h ∷ []) 0 (numbered_place heads c.kind h.kind c.kind_is)
    (close_by may c.vars (c.clauses ∷ []) (at (Vars heads h.kind)) (Enters (Clauses heads h.kind h.vars)) (item.Header h ∷ []) 0 (ap (vars_place heads h.kind) c.vars_are)
    (close_by may c.clauses [] (at (Clauses heads h.kind h.vars)) (Heading h may) (item.Header h ∷ []) 0 (ap (clauses_place heads h.kind h.vars) c.clauses_are) (refl, refl)))))
    (λ (c : IsIncHeader heads ws h).
    let P : List (List ℕ) → Type 0 = λ x. Close (allowed_by heads h.kind) x (start heads) (item.Header h ∷ []) 0 in
    let Q : Header → Type 0 = λ x. Close (allowed_by heads x.kind) (codes "p" ∷ codes "inccnf" ∷ []) (start heads) (item.Header x ∷ []) 0 in
    let kind : Point = record { mode = Kind heads; lits = []; count = 0 } in
    subst P (sym c.1) (subst Q (sym c.2) (close_by (allowed_by heads Inc) (codes "inccnf") [] kind (Heading inc_header (allowed_by heads Inc)) (item.Header inc_header ∷ []) 0 (inc_place heads c.0) (refl, refl))))

-- fit words give their header and close their statements, with all their literals
pub fit_says : (heads : Heads) (ws : List (List ℕ)) (h : Header) (ss : List Statement) → IsFit heads ws h ss → Close (allowed_by heads h.kind) ws (start heads) (item.Header h ∷ items_of ss) (literals_of ss)
fit_says heads ws h ss f =
    let r = header_says heads f.front h f.header in
    let t = statements_close (allowed_by heads h.kind) ss f.body 0 f.statements in
    let P : List (List ℕ) → Type 0 = λ x. Close (allowed_by heads h.kind) x (start heads) (item.Header h ∷ items_of ss) (literals_of ss) in
    let z : 0 + literals_of ss ≡ literals_of ss = omega arith in
    subst P (sym f.cut) (
      said-append f.front f.body (start heads) ∙ ap (λ x. x ++ said f.body (after f.front (start heads))) r.0 ∙ ap (λ q. item.Header h ∷ said f.body q) r.1 ∙ ap (λ x. item.Header h ∷ x) t.0,
      after-append f.front f.body (start heads) ∙ ap (after f.body) r.1 ∙ t.1 ∙ ap (between (allowed_by heads h.kind)) z,
    )

-- how many literals fit words have
pub fit_count : (heads : Heads) (ws : List (List ℕ)) (h : Header) (ss : List Statement) → IsFit heads ws h ss → (after ws (start heads)).count ≡ literals_of ss
fit_count heads ws h ss f = ap (λ p. p.count) (fit_says heads ws h ss f).1
