-- The words that may come, by where one stands in the grammar.
use Rattle.std.proofs.Common.{◌≡◌, ◌∙◌, sym, ap, refl, subst, arith, ⊎_elim, inl, inr, ℕ, zero, suc, ◌<◌, ◌≤◌, Bool, true, false, List, [], ◌∷◌, ◌++◌, length, Option, Some, None}
use Rattle.std.specs.Prelude.{◌≢◌, ◌&&◌, codes, if◌then◌else◌}
use Rattle.std.specs.Str.{bytes_eq}
use Rattle.std.proofs.lemmas.Slice.Eq.{bytes_eq-Decides}
use Rattle.std.proofs.lemmas.Bool.{cases_Bool}
use Rattle.sat_terms.specs.Limits.{max_var, max_number}
use Rattle.icnf_reader.specs.Numbers.{place_of, plain_place}
use Rattle.icnf_reader.specs.Outcomes.{doing, in_statement, opened, resting, kind_told, kind_place, vars_place, clauses_place, first_told, bound_place}
use Rattle.icnf_reader.specs.Grammar.{Statement, Clause, Card, Query, has_inc, has_cards, allowed_by, AreLits, AreCardWords, AreWordsOf, AreStatements, IsHeader, IsNumbered, IsNumbersHeader, IsIncHeader, inc_header, IsFit, IsPartial}
use Rattle.icnf_reader.specs.declared.item.Heads.{Heads}
use Rattle.icnf_reader.specs.declared.item.Allowed.{Allowed}
use Rattle.icnf_reader.specs.declared.item.HeadKind.{HeadKind}
use Rattle.icnf_reader.specs.declared.item.HeadKind.TheVariants.{Cnf, Knf, Inc}
use Rattle.icnf_reader.specs.declared.item.Header.{Header}
use Rattle.icnf_reader.specs.declared.item.Why.TheVariants.{HeaderExpected}
use Rattle.icnf_reader.specs.declared.reader.Mode.{Mode}
use Rattle.icnf_reader.specs.declared.reader.Mode.TheVariants.{Start, Kind, Vars, Clauses, Between, InClause, InQuery, Bound, InCard}
use Rattle.icnf_reader.specs.declared.numbers.LitWord.{LitWord}
use Rattle.icnf_reader.specs.declared.numbers.LitWord.TheVariants.{Zero, Literal, Large, Other}
use Rattle.icnf_reader.specs.declared.numbers.PlainWord.{PlainWord}
use Rattle.icnf_reader.specs.declared.numbers.PlainWord.TheVariants as plain
use Rattle.icnf_reader.specs.declared.reader.Meaning.{Meaning}
use Rattle.icnf_reader.specs.declared.reader.Meaning.TheVariants.{Enters, Adds, Closes, Heading, Wrong}

-- where a word leads
abbrev pub leads : Mode → Meaning → Option Mode
leads mode (Enters m) = Some m
leads mode (Adds l) = Some (opened mode)
leads mode Closes = Some (resting mode)
leads mode (Heading h may) = Some (Between may)
leads mode (Wrong why) = None

abbrev pub lead_on : (Mode → Option Mode) → Option Mode → Option Mode
lead_on go None = None
lead_on go (Some m) = go m

-- where words lead
abbrev pub modes : List (List ℕ) → Mode → Option Mode
modes [] m = Some m
modes (w ∷ ws) m = lead_on (modes ws) (leads m (doing m w))

-- words and then words
lead_both : (ws more : List (List ℕ)) (o : Option Mode) → ((m : Mode) → modes (ws ++ more) m ≡ lead_on (modes more) (modes ws m)) → lead_on (modes (ws ++ more)) o ≡ lead_on (modes more) (lead_on (modes ws) o)
lead_both ws more None h = refl
lead_both ws more (Some m) h = h m

pub modes-append : (ws more : List (List ℕ)) (m : Mode) → modes (ws ++ more) m ≡ lead_on (modes more) (modes ws m)
modes-append [] more m = refl
modes-append (w ∷ ws) more m = lead_both ws more (leads m (doing m w)) (modes-append ws more)

-- literals and a zero lead out of a statement
lits_lead : (m k : Mode) → ((w : List ℕ) → doing m w ≡ in_statement (place_of w)) → opened m ≡ m → resting m ≡ k → (ws : List (List ℕ)) (ls : List ℕ) → AreLits ws ls → modes ws m ≡ Some k
lits_lead m k d o r [] ls h = absurd h
lits_lead m k d o r (w ∷ ws) [] h = rw (d w, h.0, h.1) (ap Some r)
lits_lead m k d o r (w ∷ ws) (l ∷ ls) h = rw (d w, h.0, o) (lits_lead m k d o r ws ls h.1)

abbrev pub word_a : List ℕ
word_a = codes "a"

abbrev pub word_k : List ℕ
word_k = codes "k"

-- a word that is no number, where one is told apart from it
pub not_this : (v w : List ℕ) → place_of v ≡ Other → place_of w ≢ Other → (b : Bool) → b && bytes_eq w v ≡ false
not_this v w o h false = refl
not_this v w o h true = ⊎_elim (λ (e : bytes_eq w v ≡ true). absurd (h (ap place_of ((bytes_eq-Decides w v).0 e) ∙ o))) (λ (e : bytes_eq w v ≡ false). e) (cases_Bool (bytes_eq w v))

-- a literal's word begins no query and no cardinality
pub number_first : (may : Allowed) (w : List ℕ) → place_of w ≢ Other → doing (Between may) w ≡ in_statement (place_of w)
number_first may w h =
    ap (λ x. first_told may x (may.cards && bytes_eq w word_k) (place_of w)) (not_this word_a w refl h may.queries)
    ∙ ap (λ x. first_told may false x (place_of w)) (not_this word_k w refl h may.cards)

-- a word that is this one, where it may stand
pub this_word : (b : Bool) (w v : List ℕ) → b && bytes_eq w v ≡ true → (b ≡ true) × (w ≡ v)
this_word false w v e = cc
this_word true w v e = (refl, (bytes_eq-Decides w v).0 e)

-- the word that begins a query, and that which begins a cardinality
pub query_first : (may : Allowed) → may.queries ≡ true → doing (Between may) word_a ≡ Enters (InQuery may)
query_first may q = ap (λ x. first_told may (x && true) (may.cards && bytes_eq word_a word_k) (place_of word_a)) q

both_false : (b : Bool) → b && false ≡ false
both_false false = refl
both_false true = refl

pub card_first : (may : Allowed) → may.cards ≡ true → doing (Between may) word_k ≡ Enters (Bound may)
card_first may q = ap (λ x. first_told may x (may.cards && true) (place_of word_k)) (both_false may.queries) ∙ ap (λ x. first_told may false (x && true) (place_of word_k)) q

-- the words of a statement lead back between two statements
statement_leads : (may : Allowed) (s : Statement) (ws : List (List ℕ)) → AreWordsOf may s ws → modes ws (Between may) ≡ Some (Between may)
statement_leads may (Clause ls) ws h = clause ws ls h
  where
    clause : (ws : List (List ℕ)) (ls : List ℕ) → AreLits ws ls → modes ws (Between may) ≡ Some (Between may)
    clause [] ls h = absurd h
    clause (w ∷ ws) [] h = let e = number_first may w (λ o. let x : Zero ≡ Other = sym h.0 ∙ o in cc) in
        ap (λ x. lead_on (modes ws) (leads (Between may) x)) (e ∙ ap in_statement h.0) ∙ ap (λ x. modes x (Between may)) h.1
    clause (w ∷ ws) (l ∷ ls) h = let e = number_first may w (λ o. let x : Literal l ≡ Other = sym h.0 ∙ o in cc) in
        ap (λ x. lead_on (modes ws) (leads (Between may) x)) (e ∙ ap in_statement h.0)
        ∙ lits_lead (InClause may) (Between may) (λ w. refl) refl refl ws ls h.1
statement_leads may (Card b ls) ws h =
    let c = h.1 in
    ap (λ x. modes x (Between may)) c.are
    ∙ ap (λ x. lead_on (modes (c.bound ∷ c.rest)) (leads (Between may) x)) (card_first may h.0)
    ∙ ap (λ x. lead_on (modes c.rest) (leads (Bound may) (bound_place may x))) c.bound_is
    ∙ lits_lead (InCard may b) (Between may) (λ w. refl) refl refl c.rest ls c.lits
statement_leads may (Query ls) ws h =
    ap (λ x. modes x (Between may)) h.2
    ∙ ap (λ x. lead_on (modes h.1) (leads (Between may) x)) (query_first may h.0)
    ∙ lits_lead (InQuery may) (Between may) (λ w. refl) refl refl h.1 ls h.3

statements_lead : (may : Allowed) (ss : List Statement) (ws : List (List ℕ)) → AreStatements may ws ss → modes ws (Between may) ≡ Some (Between may)
statements_lead may [] ws h = ap (λ x. modes x (Between may)) h
statements_lead may (s ∷ ss) ws h =
    ap (λ x. modes x (Between may)) h.2 ∙ modes-append h.0 h.1 (Between may) ∙ ap (lead_on (modes h.1)) (statement_leads may s h.0 h.3) ∙ statements_lead may ss h.1 h.4

-- the kind of a header that declares numbers leads to V
pub numbered_place : (heads : Heads) (w : List ℕ) (kind : HeadKind) → IsNumbered heads w kind → kind_place heads w ≡ Enters (Vars heads kind)
numbered_place heads w Cnf h = ap (kind_place heads) h
numbered_place heads w Knf h = ap (kind_place heads) h.1 ∙ ap (λ x. kind_told heads false (x && true) (has_inc heads && false)) h.0
numbered_place heads w Inc h = absurd h

-- and that of iCNF leads behind the header
pub inc_place : (heads : Heads) → has_inc heads ≡ true → kind_place heads (codes "inccnf") ≡ Heading inc_header (allowed_by heads Inc)
inc_place heads h = ap (λ x. kind_told heads false x (has_inc heads && true)) (both_false (has_cards heads)) ∙ ap (λ x. kind_told heads false false (x && true)) h

-- the words of a header lead behind it
header_leads : (heads : Heads) (ws : List (List ℕ)) (h : Header) → IsHeader heads ws h → modes ws (Start heads) ≡ Some (Between (allowed_by heads h.kind))
header_leads heads ws h = ⊎_elim
    (λ (c : IsNumbersHeader heads ws h).
    ap (λ x. modes x (Start heads)) c.are
    ∙ ap (λ x. lead_on (modes (c.vars ∷ c.clauses ∷ [])) (leads (Kind heads) x)) (numbered_place heads c.kind h.kind c.kind_is)
    ∙ ap (λ x. lead_on (modes (c.clauses ∷ [])) (leads (Vars heads h.kind) (vars_place heads h.kind x))) c.vars_are
    ∙ ap (λ x. lead_on (modes []) (leads (Clauses heads h.kind h.vars) (clauses_place heads h.kind h.vars x))) c.clauses_are)
    (λ (c : IsIncHeader heads ws h).
    ap (λ x. modes x (Start heads)) c.1 ∙ ap (λ x. lead_on (modes []) (leads (Kind heads) x)) (inc_place heads c.0) ∙ ap (λ x. Some (Between (allowed_by heads x.kind))) (sym c.2))

-- a fit list of words leads from the start to a place between two statements
pub fit_leads : (heads : Heads) (ws : List (List ℕ)) (h : Header) (ss : List Statement) → IsFit heads ws h ss → modes ws (Start heads) ≡ Some (Between (allowed_by heads h.kind))
fit_leads heads ws h ss f =
    ap (λ x. modes x (Start heads)) f.cut ∙ modes-append f.front f.body (Start heads) ∙ ap (lead_on (modes f.body)) (header_leads heads f.front h f.header) ∙ statements_lead (allowed_by heads h.kind) ss f.body f.statements

-- a partial list goes wrong nowhere
pub partial_leads : (heads : Heads) (ws : List (List ℕ)) → IsPartial heads ws → modes ws (Start heads) ≢ None
partial_leads heads ws h e =
    let x : None ≡ Some (Between (allowed_by heads h.header.kind)) = ap (lead_on (modes h.more)) (sym e) ∙ sym (modes-append ws h.more (Start heads)) ∙ fit_leads heads (ws ++ h.more) h.header h.script h.fit in cc

-- words that lead out of a statement, where these may follow
record Closing (may to : Allowed) (ws : List (List ℕ)) : Type 0 where
  front : List (List ℕ)
  rest : List (List ℕ)
  lits : List ℕ
  cut : ws ≡ front ++ rest
  are : AreLits front lits
  goes : modes rest (Between may) ≡ Some (Between to)
  some : length rest < length ws

inside : (may to : Allowed) (m : Mode) → ((w : List ℕ) → doing m w ≡ in_statement (place_of w)) → opened m ≡ m → resting m ≡ Between may → ((k : Allowed) → m ≢ Between k) → (ws : List (List ℕ)) → modes ws m ≡ Some (Between to) → Closing may to ws
inside may to m d o r n [] e = absurd (n to (cc))
inside may to m d o r n (w ∷ ws) e = either (place_of w) refl (λ f. inside may to m d o r n ws f)
  where
    at : (x : LitWord) → place_of w ≡ x → lead_on (modes ws) (leads m (in_statement x)) ≡ Some (Between to)
    at x is = sym (ap (λ y. lead_on (modes ws) (leads m y)) (d w ∙ ap in_statement is)) ∙ e

    either : (x : LitWord) → place_of w ≡ x → (modes ws m ≡ Some (Between to) → Closing may to ws) → Closing may to (w ∷ ws)
    either Zero is on = record { front = w ∷ []; rest = ws; lits = []; cut = refl; are = (is, refl); goes = ap (modes ws) (sym r) ∙ at Zero is; some = omega arith }
    either (Literal l) is on = let c = on (ap (modes ws) (sym o) ∙ at (Literal l) is) in
        record { front = w ∷ c.front; rest = c.rest; lits = l ∷ c.lits; cut = ap (λ x. w ∷ x) c.cut; are = (is, c.are); goes = c.goes; some = omega (arith, c.some) }
    either Large is on = let x = at Large is in cc
    either Other is on = let x = at Other is in cc

in_clause : (may to : Allowed) (ws : List (List ℕ)) → modes ws (InClause may) ≡ Some (Between to) → Closing may to ws
in_clause may to = inside may to (InClause may) (λ w. refl) refl refl (λ k e. cc)

in_query : (may to : Allowed) (ws : List (List ℕ)) → modes ws (InQuery may) ≡ Some (Between to) → Closing may to ws
in_query may to = inside may to (InQuery may) (λ w. refl) refl refl (λ k e. cc)

in_card : (may to : Allowed) (b : ℕ) (ws : List (List ℕ)) → modes ws (InCard may b) ≡ Some (Between to) → Closing may to ws
in_card may to b = inside may to (InCard may b) (λ w. refl) refl refl (λ k e. cc)

-- words that lead on behind `k`: a bound, and then those that lead out of a cardinality
record Bounding (may to : Allowed) (ws : List (List ℕ)) : Type 0 where
  word : List ℕ
  more : List (List ℕ)
  bound : ℕ
  cut : ws ≡ word ∷ more
  is : plain_place max_number word ≡ plain.Value bound
  closing : Closing may to more

in_bound : (may to : Allowed) (ws : List (List ℕ)) → modes ws (Bound may) ≡ Some (Between to) → Bounding may to ws
in_bound may to [] e = cc
in_bound may to (w ∷ ws) e = either (plain_place max_number w) refl
  where
    at : (x : PlainWord) → plain_place max_number w ≡ x → lead_on (modes ws) (leads (Bound may) (bound_place may x)) ≡ Some (Between to)
    at x place = ap (λ y. lead_on (modes ws) (leads (Bound may) (bound_place may y))) (sym place) ∙ e

    either : (x : PlainWord) → plain_place max_number w ≡ x → Bounding may to (w ∷ ws)
    either (plain.Value b) place = record { word = w; more = ws; bound = b; cut = refl; is = place; closing = in_card may to b ws (at (plain.Value b) place) }
    either plain.Large place = let x = at plain.Large place in cc
    either plain.Other place = let x = at plain.Other place in cc

-- what is to come behind the first statement of these words
abbrev Onward : Allowed → Allowed → List (List ℕ) → Type 0
Onward may to ws = (rest : List (List ℕ)) → length rest ≤ length ws → modes rest (Between may) ≡ Some (Between to) → (ss : List Statement) × AreStatements may rest ss

-- a query comes first, or a cardinality
query_fits : (may to : Allowed) (w : List ℕ) (ws : List (List ℕ)) → may.queries && bytes_eq w word_a ≡ true → modes ws (InQuery may) ≡ Some (Between to) → Onward may to ws → (ss : List Statement) × AreStatements may (w ∷ ws) ss
query_fits may to w ws is e on =
    let q = this_word may.queries w word_a is in
    let c = in_query may to ws e in
    let more = on c.rest (omega (arith, c.some)) c.goes in
    (Query c.lits ∷ more.0, (w ∷ c.front, c.rest, ap (λ y. w ∷ y) c.cut, (q.0, c.front, ap (λ y. y ∷ c.front) q.1, c.are), more.1))

card_fits : (may to : Allowed) (w : List ℕ) (ws : List (List ℕ)) → may.cards && bytes_eq w word_k ≡ true → modes ws (Bound may) ≡ Some (Between to) → Onward may to ws → (ss : List Statement) × AreStatements may (w ∷ ws) ss
card_fits may to w ws is e on =
    let q = this_word may.cards w word_k is in
    let b = in_bound may to ws e in
    let c = b.closing in
    let size = ap length b.cut in
    let more = on c.rest (omega (arith, c.some, size)) c.goes in
    let words : AreCardWords (w ∷ b.word ∷ c.front) b.bound c.lits = record { bound = b.word; rest = c.front; are = ap (λ y. y ∷ b.word ∷ c.front) q.1; bound_is = b.is; lits = c.are } in
    (Card b.bound c.lits ∷ more.0, (w ∷ b.word ∷ c.front, c.rest, ap (λ y. w ∷ y) (b.cut ∙ ap (λ y. b.word ∷ y) c.cut), (q.0, words), more.1))

-- words that lead from a place between two statements to another are statements
statements_fit : (may to : Allowed) (n : ℕ) (ws : List (List ℕ)) → length ws ≤ n → modes ws (Between may) ≡ Some (Between to) → (ss : List Statement) × AreStatements may ws ss
statements_fit may to n [] l e = ([], refl)
statements_fit may to zero (w ∷ ws) l e = absurd (omega arith)
statements_fit may to (suc n) (w ∷ ws) l e = either (may.queries && bytes_eq w word_a) refl (may.cards && bytes_eq w word_k) refl (place_of w) refl (λ rest h f. statements_fit may to n rest (omega (arith, h)) f)
  where
    at : (a : Bool) → may.queries && bytes_eq w word_a ≡ a → (k : Bool) → may.cards && bytes_eq w word_k ≡ k → (x : LitWord) → place_of w ≡ x → lead_on (modes ws) (leads (Between may) (first_told may a k x)) ≡ Some (Between to)
    at a is_a k is_k x place = sym (ap (λ y. lead_on (modes ws) (leads (Between may) (first_told may y (may.cards && bytes_eq w word_k) (place_of w)))) is_a
        ∙ ap (λ y. lead_on (modes ws) (leads (Between may) (first_told may a y (place_of w)))) is_k
        ∙ ap (λ y. lead_on (modes ws) (leads (Between may) (first_told may a k y))) place) ∙ e

    either : (a : Bool) → may.queries && bytes_eq w word_a ≡ a → (k : Bool) → may.cards && bytes_eq w word_k ≡ k → (x : LitWord) → place_of w ≡ x → Onward may to ws → (ss : List Statement) × AreStatements may (w ∷ ws) ss
    either true is_a k is_k x place on = query_fits may to w ws is_a (at true is_a k is_k x place) on
    either false is_a true is_k x place on = card_fits may to w ws is_k (at false is_a true is_k x place) on
    either false is_a false is_k Zero place on =
        let more = on ws (omega arith) (at false is_a false is_k Zero place) in
        (Clause [] ∷ more.0, (w ∷ [], ws, refl, (place, refl), more.1))
    either false is_a false is_k (Literal l) place on =
        let c = in_clause may to ws (at false is_a false is_k (Literal l) place) in
        let more = on c.rest (omega (arith, c.some)) c.goes in
        (Clause (l ∷ c.lits) ∷ more.0, (w ∷ c.front, c.rest, ap (λ y. w ∷ y) c.cut, (place, c.are), more.1))
    either false is_a false is_k Large place on = let x = at false is_a false is_k Large place in cc
    either false is_a false is_k Other place on = let x = at false is_a false is_k Other place in cc

-- a header, and words that lead on behind it
record Headed (heads : Heads) (to : Allowed) (ws : List (List ℕ)) : Type 0 where
  front : List (List ℕ)
  body : List (List ℕ)
  header : Header
  cut : ws ≡ front ++ body
  is_header : IsHeader heads front header
  goes : modes body (Between (allowed_by heads header.kind)) ≡ Some (Between to)

-- behind the kind and V
clauses_fit : (heads : Heads) (to : Allowed) (kind : HeadKind) (k v : List ℕ) (vars : ℕ) (ws : List (List ℕ)) → IsNumbered heads k kind → plain_place max_var v ≡ plain.Value vars
    → modes ws (Clauses heads kind vars) ≡ Some (Between to) → Headed heads to (codes "p" ∷ k ∷ v ∷ ws)
clauses_fit heads to kind k v vars [] n is e = cc
clauses_fit heads to kind k v vars (c ∷ ws) n is e = either (plain_place max_number c) refl
  where
    at : (x : PlainWord) → plain_place max_number c ≡ x → lead_on (modes ws) (leads (Clauses heads kind vars) (clauses_place heads kind vars x)) ≡ Some (Between to)
    at x place = ap (λ y. lead_on (modes ws) (leads (Clauses heads kind vars) (clauses_place heads kind vars y))) (sym place) ∙ e

    either : (x : PlainWord) → plain_place max_number c ≡ x → Headed heads to (codes "p" ∷ k ∷ v ∷ c ∷ ws)
    either (plain.Value clauses) place = record {
      front = codes "p" ∷ k ∷ v ∷ c ∷ [];
      body = ws;
      header = record { kind = kind; vars = vars; clauses = clauses };
      cut = refl;
      is_header = inl (record { kind = k; vars = v; clauses = c; are = refl; kind_is = n; vars_are = is; clauses_are = place });
      goes = at (plain.Value clauses) place;
    }
    either plain.Large place = let x = at plain.Large place in cc
    either plain.Other place = let x = at plain.Other place in cc

-- behind the kind
vars_fit : (heads : Heads) (to : Allowed) (kind : HeadKind) (k : List ℕ) (ws : List (List ℕ)) → IsNumbered heads k kind → modes ws (Vars heads kind) ≡ Some (Between to) → Headed heads to (codes "p" ∷ k ∷ ws)
vars_fit heads to kind k [] n e = cc
vars_fit heads to kind k (v ∷ ws) n e = either (plain_place max_var v) refl
  where
    at : (x : PlainWord) → plain_place max_var v ≡ x → lead_on (modes ws) (leads (Vars heads kind) (vars_place heads kind x)) ≡ Some (Between to)
    at x place = ap (λ y. lead_on (modes ws) (leads (Vars heads kind) (vars_place heads kind y))) (sym place) ∙ e

    either : (x : PlainWord) → plain_place max_var v ≡ x → Headed heads to (codes "p" ∷ k ∷ v ∷ ws)
    either (plain.Value vars) place = clauses_fit heads to kind k v vars ws n place (at (plain.Value vars) place)
    either plain.Large place = let x = at plain.Large place in cc
    either plain.Other place = let x = at plain.Other place in cc

-- where the word of a kind leads, by what it is told to be
pub kind_cases : (heads : Heads) (w : List ℕ) (P : Meaning → Type 0)
    → ((kind : HeadKind) → IsNumbered heads w kind → P (Enters (Vars heads kind)))
    → (has_inc heads ≡ true → w ≡ codes "inccnf" → P (Heading inc_header (allowed_by heads Inc)))
    → P (Wrong HeaderExpected) → P (kind_place heads w)
kind_cases heads w P numbered inc wrong = either (bytes_eq w (codes "cnf")) refl (has_cards heads && bytes_eq w (codes "knf")) refl (has_inc heads && bytes_eq w (codes "inccnf")) refl
  where
    either : (a : Bool) → bytes_eq w (codes "cnf") ≡ a → (b : Bool) → has_cards heads && bytes_eq w (codes "knf") ≡ b → (c : Bool) → has_inc heads && bytes_eq w (codes "inccnf") ≡ c → P (kind_told heads a b c)
    either true is_cnf b is_knf c is_inc = numbered Cnf ((bytes_eq-Decides w (codes "cnf")).0 is_cnf)
    either false is_cnf true is_knf c is_inc = numbered Knf (this_word (has_cards heads) w (codes "knf") is_knf)
    either false is_cnf false is_knf true is_inc = let q = this_word (has_inc heads) w (codes "inccnf") is_inc in inc q.0 q.1
    either false is_cnf false is_knf false is_inc = wrong

headed_inc : (heads : Heads) (to : Allowed) (w : List ℕ) (ws : List (List ℕ)) → has_inc heads ≡ true → w ≡ codes "inccnf" → modes ws (Between (allowed_by heads Inc)) ≡ Some (Between to) → Headed heads to (codes "p" ∷ w ∷ ws)
headed_inc heads to w ws h is e = record {
  front = codes "p" ∷ w ∷ [];
  body = ws;
  header = inc_header;
  cut = refl;
  is_header = inr (h, ap (λ x. codes "p" ∷ x ∷ []) is, refl);
  goes = e;
}

-- behind `p`
kind_fit : (heads : Heads) (to : Allowed) (ws : List (List ℕ)) → modes ws (Kind heads) ≡ Some (Between to) → Headed heads to (codes "p" ∷ ws)
kind_fit heads to [] e = cc
kind_fit heads to (w ∷ ws) e = kind_cases heads w (λ m. lead_on (modes ws) (leads (Kind heads) m) ≡ Some (Between to) → Headed heads to (codes "p" ∷ w ∷ ws))
    (λ kind n f. vars_fit heads to kind w ws n f)
    (λ h is f. headed_inc heads to w ws h is f)
    (λ f. none f) e
  where
    none : None ≡ Some (Between to) → Headed heads to (codes "p" ∷ w ∷ ws)
    none f = cc

start_fit : (heads : Heads) (to : Allowed) (ws : List (List ℕ)) → modes ws (Start heads) ≡ Some (Between to) → Headed heads to ws
start_fit heads to [] e = cc
start_fit heads to (w ∷ ws) e = either (bytes_eq w (codes "p")) refl
  where
    at : (a : Bool) → bytes_eq w (codes "p") ≡ a → lead_on (modes ws) (leads (Start heads) (if a then Enters (Kind heads) else Wrong HeaderExpected)) ≡ Some (Between to)
    at a is = sym (ap (λ x. lead_on (modes ws) (leads (Start heads) (if x then Enters (Kind heads) else Wrong HeaderExpected))) is) ∙ e

    either : (a : Bool) → bytes_eq w (codes "p") ≡ a → Headed heads to (w ∷ ws)
    either true is =
        let P : List ℕ → Type 0 = λ x. Headed heads to (x ∷ ws) in
        subst P (sym ((bytes_eq-Decides w (codes "p")).0 is)) (kind_fit heads to ws (at true is))
    either false is = let x = at false is in cc

-- words that lead from the start to a place between two statements are fit
pub leads_fit : (heads : Heads) (to : Allowed) (ws : List (List ℕ)) → modes ws (Start heads) ≡ Some (Between to) → (h : Header) × (ss : List Statement) × IsFit heads ws h ss
leads_fit heads to ws e =
    let k = start_fit heads to ws e in
    let ss = statements_fit (allowed_by heads k.header.kind) to (length k.body) k.body (omega arith) k.goes in
    (k.header, ss.0, record { front = k.front; body = k.body; cut = k.cut; header = k.is_header; statements = ss.1 })

-- the words that end a text
abbrev pub ending_words : Mode → List (List ℕ)
ending_words (Start heads) = codes "p" ∷ codes "cnf" ∷ codes "0" ∷ codes "0" ∷ []
ending_words (Kind heads) = codes "cnf" ∷ codes "0" ∷ codes "0" ∷ []
ending_words (Vars heads kind) = codes "0" ∷ codes "0" ∷ []
ending_words (Clauses heads kind vars) = codes "0" ∷ []
ending_words (Between may) = []
ending_words (InClause may) = codes "0" ∷ []
ending_words (InQuery may) = codes "0" ∷ []
ending_words (Bound may) = codes "0" ∷ codes "0" ∷ []
ending_words (InCard may b) = codes "0" ∷ []

-- the statements that may follow there
abbrev pub ending_allowed : Mode → Allowed
ending_allowed (Start heads) = allowed_by heads Cnf
ending_allowed (Kind heads) = allowed_by heads Cnf
ending_allowed (Vars heads kind) = allowed_by heads kind
ending_allowed (Clauses heads kind vars) = allowed_by heads kind
ending_allowed (Between may) = may
ending_allowed (InClause may) = may
ending_allowed (InQuery may) = may
ending_allowed (Bound may) = may
ending_allowed (InCard may b) = may

ends_well : (m : Mode) → modes (ending_words m) m ≡ Some (Between (ending_allowed m))
ends_well (Start heads) = refl
ends_well (Kind heads) = refl
ends_well (Vars heads kind) = refl
ends_well (Clauses heads kind vars) = refl
ends_well (Between may) = refl
ends_well (InClause may) = refl
ends_well (InQuery may) = refl
ends_well (Bound may) = refl
ends_well (InCard may b) = refl

-- where words are ended, they are fit
pub leads_ended : (heads : Heads) (ws : List (List ℕ)) (m : Mode) → modes ws (Start heads) ≡ Some m → (h : Header) × (ss : List Statement) × IsFit heads (ws ++ ending_words m) h ss
leads_ended heads ws m e =
    leads_fit heads (ending_allowed m) (ws ++ ending_words m) (modes-append ws (ending_words m) (Start heads) ∙ ap (lead_on (modes (ending_words m))) e ∙ ends_well m)

-- a list that goes wrong nowhere is partial
pub leads_partial : (heads : Heads) (ws : List (List ℕ)) (m : Mode) → modes ws (Start heads) ≡ Some m → IsPartial heads ws
leads_partial heads ws m e = let f = leads_ended heads ws m e in record { more = ending_words m; header = f.0; script = f.1; fit = f.2 }

pub some_or_none : (o : Option Mode) → o ≢ None → (m : Mode) × (o ≡ Some m)
some_or_none None h = absurd (h refl)
some_or_none (Some m) h = (m, refl)

-- a partial list leads somewhere
pub partial_somewhere : (heads : Heads) (ws : List (List ℕ)) → IsPartial heads ws → (m : Mode) × (modes ws (Start heads) ≡ Some m)
partial_somewhere heads ws h = some_or_none (modes ws (Start heads)) (partial_leads heads ws h)

-- one more word
pub one_more : (heads : Heads) (ws : List (List ℕ)) (w : List ℕ) (m : Mode) → modes ws (Start heads) ≡ Some m → modes (ws ++ w ∷ []) (Start heads) ≡ leads m (doing m w)
one_more heads ws w m e = modes-append ws (w ∷ []) (Start heads) ∙ ap (lead_on (modes (w ∷ []))) e ∙ last (leads m (doing m w))
  where
    last : (o : Option Mode) → lead_on (modes []) o ≡ o
    last None = refl
    last (Some k) = refl
