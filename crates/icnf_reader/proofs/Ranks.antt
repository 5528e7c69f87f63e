-- Places before the header is whole, and behind it.
use Rattle.std.proofs.Common.{◌≡◌, ◌∙◌, sym, ap, refl, subst, ℕ, ◌+◌, Bool, true, false, List, [], ◌∷◌, ◌++◌, Option, Some, None, inl, inr, ⊎_elim}
use Rattle.std.specs.Prelude.{◌⊎◌, ◌≢◌, ◌&&◌, ◌||◌, codes, if◌then◌else◌, nat_lt}
use Rattle.std.specs.Str.{bytes_eq}
use Rattle.std.proofs.lemmas.Slice.Eq.{bytes_eq-Decides}
use Rattle.std.proofs.lemmas.Bool.{cases_Bool}
use Rattle.sat_terms.specs.Limits.{max_var, max_literals, max_number}
use Rattle.icnf_reader.specs.Numbers.{place_of, plain_place}
use Rattle.icnf_reader.specs.Tokens.{Token, Word, Fault, CutOff}
use Rattle.icnf_reader.specs.Grammar.{allowed_by, IsNumbered, inc_header, reason, reason_inside, reason_plain, reason_behind, reason_behind_kind, end_reason}
use Rattle.icnf_reader.specs.Script.{Bad, text_tokens, last_line_of}
use Rattle.icnf_reader.specs.Outcomes.{Point, Outcome, doing, in_statement, opened, resting, closed, vars_place, clauses_place, first_told, bound_place, follow, reads, nothing, put_item, at_end, start, statements_of, items_of}
use Rattle.icnf_reader.specs.Laws.{HeaderFirst, TextHasHeader}
use Rattle.icnf_reader.specs.declared.item.Heads.{Heads}
use Rattle.icnf_reader.specs.declared.item.HeadKind.{HeadKind}
use Rattle.icnf_reader.specs.declared.item.HeadKind.TheVariants.{Cnf, Knf, Inc}
use Rattle.icnf_reader.specs.declared.item.Allowed.{Allowed}
use Rattle.icnf_reader.specs.declared.item.Header.{Header}
use Rattle.icnf_reader.specs.declared.item.Item.TheVariants as item
use Rattle.icnf_reader.specs.declared.item.Why.{Why}
use Rattle.icnf_reader.specs.declared.item.Why.TheVariants.{HeaderExpected, NotClosed, TooManyLiterals}
use Rattle.icnf_reader.specs.declared.reader.Mode.{Mode}
use Rattle.icnf_reader.specs.declared.reader.Mode.TheVariants.{Start, Kind, Vars, Clauses, Between, InClause, InQuery, Bound, InCard}
use Rattle.icnf_reader.specs.declared.numbers.LitWord.{LitWord}
use Rattle.icnf_reader.specs.declared.numbers.LitWord.TheVariants.{Zero, Literal, Large, Other}
use Rattle.icnf_reader.specs.declared.numbers.PlainWord.{PlainWord}
use Rattle.icnf_reader.specs.declared.numbers.PlainWord.TheVariants as plain
use Rattle.icnf_reader.specs.declared.reader.Meaning.{Meaning}
use Rattle.icnf_reader.specs.declared.reader.Meaning.TheVariants.{Enters, Adds, Closes, Heading, Wrong}
use Rattle.icnf_reader.proofs.Modes.{leads, lead_on, modes, word_a, word_k, not_this, this_word, kind_cases}

-- a place behind the header
abbrev pub is_behind : Mode → Bool
is_behind (Start heads) = false
is_behind (Kind heads) = false
is_behind (Vars heads kind) = false
is_behind (Clauses heads kind vars) = false
is_behind mode = true

-- the start
abbrev pub is_start : Mode → Bool
is_start (Start heads) = true
is_start m = false

-- what holds of the place where a word leads, if it leads somewhere
abbrev To : (Mode → Type 0) → Option Mode → Type 0
To P None = Unit {0}
To P (Some m) = P m

there : (P : Mode → Type 0) (o : Option Mode) (m : Mode) → To P o → o ≡ Some m → P m
there P o m h e = subst (To P) e h

-- a word in a statement
inside_to : (P : Mode → Type 0) (m : Mode) → P (opened m) → P (resting m) → (x : LitWord) → To P (leads m (in_statement x))
inside_to P m o r Zero = r
inside_to P m o r (Literal l) = o
inside_to P m o r Large = tt
inside_to P m o r Other = tt

-- the first word of a statement
first_to : (P : Mode → Type 0) (may : Allowed) → P (InQuery may) → P (Bound may) → P (InClause may) → P (Between may) → (a k : Bool) (x : LitWord) → To P (leads (Between may) (first_told may a k x))
first_to P may q b c r true k x = q
first_to P may q b c r false true x = b
first_to P may q b c r false false x = inside_to P (Between may) c r x

-- the bound of a cardinality, and V and C
bound_to : (P : Mode → Type 0) (may : Allowed) → ((b : ℕ) → P (InCard may b)) → (x : PlainWord) → To P (leads (Bound may) (bound_place may x))
bound_to P may h (plain.Value b) = h b
bound_to P may h plain.Large = tt
bound_to P may h plain.Other = tt

vars_to : (P : Mode → Type 0) (heads : Heads) (kind : HeadKind) → ((vars : ℕ) → P (Clauses heads kind vars)) → (x : PlainWord) → To P (leads (Vars heads kind) (vars_place heads kind x))
vars_to P heads kind h (plain.Value vars) = h vars
vars_to P heads kind h plain.Large = tt
vars_to P heads kind h plain.Other = tt

clauses_to : (P : Mode → Type 0) (heads : Heads) (kind : HeadKind) (vars : ℕ) → P (Between (allowed_by heads kind)) → (x : PlainWord) → To P (leads (Clauses heads kind vars) (clauses_place heads kind vars x))
clauses_to P heads kind vars h (plain.Value n) = h
clauses_to P heads kind vars h plain.Large = tt
clauses_to P heads kind vars h plain.Other = tt

-- what each word keeps, words keep
kept : (P : Mode → Type 0) → ((m : Mode) (w : List ℕ) → P m → To P (leads m (doing m w))) → (ws : List (List ℕ)) (m k : Mode) → P m → modes ws m ≡ Some k → P k
kept P step [] m k h e = let x : m ≡ k = cc in subst P x h
kept P step (w ∷ ws) m k h e = go (leads m (doing m w)) (step m w h) (λ j f g. kept P step ws j k f g) e
  where
    go : (o : Option Mode) → To P o → ((j : Mode) → P j → modes ws j ≡ Some k → P k) → lead_on (modes ws) o ≡ Some k → P k
    go None t on f = absurd (cc)
    go (Some j) t on f = on j t f

-- behind the header one stays behind it
abbrev Behind : Mode → Type 0
Behind m = is_behind m ≡ true

stays_behind : (m : Mode) (w : List ℕ) → Behind m → To Behind (leads m (doing m w))
stays_behind (Start heads) w b = absurd (cc)
stays_behind (Kind heads) w b = absurd (cc)
stays_behind (Vars heads kind) w b = absurd (cc)
stays_behind (Clauses heads kind vars) w b = absurd (cc)
stays_behind (Between may) w b = first_to Behind may refl refl refl refl (may.queries && bytes_eq w word_a) (may.cards && bytes_eq w word_k) (place_of w)
stays_behind (InClause may) w b = inside_to Behind (InClause may) refl refl (place_of w)
stays_behind (InQuery may) w b = inside_to Behind (InQuery may) refl refl (place_of w)
stays_behind (Bound may) w b = bound_to Behind may (λ n. refl) (plain_place max_number w)
stays_behind (InCard may n) w b = inside_to Behind (InCard may n) refl refl (place_of w)

behind_there : (m : Mode) (w : List ℕ) (k : Mode) → is_behind m ≡ true → leads m (doing m w) ≡ Some k → is_behind k ≡ true
behind_there m w k b e = there Behind (leads m (doing m w)) k (stays_behind m w b) e

all_behind : (ws : List (List ℕ)) (m k : Mode) → is_behind m ≡ true → modes ws m ≡ Some k → is_behind k ≡ true
all_behind ws m k b e = kept Behind stays_behind ws m k b e

-- the place of a bound
abbrev is_bound : Mode → Bool
is_bound (Bound may) = true
is_bound m = false

-- one stands in the place of a bound exactly behind `k`
abbrev ByWord : List ℕ → Mode → Type 0
ByWord w m = is_bound m ≡ bytes_eq w word_k

number_no_k : (w : List ℕ) → place_of w ≢ Other → false ≡ bytes_eq w word_k
number_no_k w h = sym (not_this word_k w refl h true)

plain_no_k : (w : List ℕ) (b : ℕ) → plain_place max_number w ≡ plain.Value b → false ≡ bytes_eq w word_k
plain_no_k w b h = ⊎_elim
    (λ (e : bytes_eq w word_k ≡ true). let x : plain.Value b ≡ plain.Other = sym h ∙ ap (plain_place max_number) ((bytes_eq-Decides w word_k).0 e) in absurd (cc))
    (λ (e : bytes_eq w word_k ≡ false). sym e)
    (cases_Bool (bytes_eq w word_k))

inside_by : (w : List ℕ) (m : Mode) → is_bound (opened m) ≡ false → is_bound (resting m) ≡ false → (x : LitWord) → place_of w ≡ x → To (ByWord w) (leads m (in_statement x))
inside_by w m o r Zero is = r ∙ number_no_k w (λ e. let x : Zero ≡ Other = sym is ∙ e in cc)
inside_by w m o r (Literal l) is = o ∙ number_no_k w (λ e. let x : Literal l ≡ Other = sym is ∙ e in cc)
inside_by w m o r Large is = tt
inside_by w m o r Other is = tt

first_by : (w : List ℕ) (may : Allowed) (a : Bool) → may.queries && bytes_eq w word_a ≡ a → (k : Bool) → may.cards && bytes_eq w word_k ≡ k → To (ByWord w) (leads (Between may) (first_told may a k (place_of w)))
first_by w may true is_a k is_k = ap (λ y. bytes_eq y word_k) (sym (this_word may.queries w word_a is_a).1)
first_by w may false is_a true is_k = ap (λ y. bytes_eq y word_k) (sym (this_word may.cards w word_k is_k).1)
first_by w may false is_a false is_k = inside_by w (Between may) refl refl (place_of w) refl

bound_by : (w : List ℕ) (may : Allowed) (x : PlainWord) → plain_place max_number w ≡ x → To (ByWord w) (leads (Bound may) (bound_place may x))
bound_by w may (plain.Value b) is = plain_no_k w b is
bound_by w may plain.Large is = tt
bound_by w may plain.Other is = tt

bound_after : (m : Mode) (w : List ℕ) → is_behind m ≡ true → To (ByWord w) (leads m (doing m w))
bound_after (Start heads) w b = absurd (cc)
bound_after (Kind heads) w b = absurd (cc)
bound_after (Vars heads kind) w b = absurd (cc)
bound_after (Clauses heads kind vars) w b = absurd (cc)
bound_after (Between may) w b = first_by w may (may.queries && bytes_eq w word_a) refl (may.cards && bytes_eq w word_k) refl
bound_after (InClause may) w b = inside_by w (InClause may) refl refl (place_of w) refl
bound_after (InQuery may) w b = inside_by w (InQuery may) refl refl (place_of w) refl
bound_after (Bound may) w b = bound_by w may (plain_place max_number w) refl
bound_after (InCard may n) w b = inside_by w (InCard may n) refl refl (place_of w) refl

-- the reason of a wrong word at a place behind the header
abbrev reason_at : Bool → List ℕ → Why
reason_at bound w = if bound then reason_plain (plain_place max_number w) else reason_inside (place_of w)

reason_after : (ws : List (List ℕ)) (x : List ℕ) (m k : Mode) (w : List ℕ) → is_behind m ≡ true → modes (x ∷ ws) m ≡ Some k → reason_at (is_bound k) w ≡ reason_behind (x ∷ ws) w
reason_after [] x m k w b e = go (leads m (doing m x)) refl e
  where
    go : (o : Option Mode) → leads m (doing m x) ≡ o → lead_on (modes []) o ≡ Some k → reason_at (is_bound k) w ≡ reason_behind (x ∷ []) w
    go None is f = absurd (cc)
    go (Some j) is f = let same : j ≡ k = cc in
        ap (λ t. reason_at t w) (there (ByWord x) (leads m (doing m x)) k (bound_after m x b) (is ∙ ap Some same))
reason_after (y ∷ ys) x m k w b e = go (leads m (doing m x)) refl (λ j f g. reason_after ys y j k w f g) e
  where
    go : (o : Option Mode) → leads m (doing m x) ≡ o
        → ((j : Mode) → is_behind j ≡ true → modes (y ∷ ys) j ≡ Some k → reason_at (is_bound k) w ≡ reason_behind (y ∷ ys) w)
        → lead_on (modes (y ∷ ys)) o ≡ Some k → reason_at (is_bound k) w ≡ reason_behind (x ∷ y ∷ ys) w
    go None is on f = absurd (cc)
    go (Some j) is on f = on j (behind_there m x j b is) f

reason_between : (may : Allowed) (ws : List (List ℕ)) (k : Mode) (w : List ℕ) → modes ws (Between may) ≡ Some k → reason_at (is_bound k) w ≡ reason_behind ws w
reason_between may [] k w e = let x : Between may ≡ k = cc in ap (λ m. reason_at (is_bound m) w) (sym x)
reason_between may (x ∷ ws) k w e = reason_after ws x (Between may) k w refl e

wrong_inside : (x : LitWord) (why : Why) → in_statement x ≡ Wrong why → why ≡ reason_inside x
wrong_inside Zero why e = cc
wrong_inside (Literal l) why e = cc
wrong_inside Large why e = cc
wrong_inside Other why e = cc

wrong_first : (may : Allowed) (a k : Bool) (x : LitWord) (why : Why) → first_told may a k x ≡ Wrong why → why ≡ reason_inside x
wrong_first may true k x why e = cc
wrong_first may false true x why e = cc
wrong_first may false false x why e = wrong_inside x why e

wrong_bound : (may : Allowed) (x : PlainWord) (why : Why) → bound_place may x ≡ Wrong why → why ≡ reason_plain x
wrong_bound may (plain.Value b) why e = cc
wrong_bound may plain.Large why e = cc
wrong_bound may plain.Other why e = cc

-- behind the header a wrong word has its reason from its place
wrong_behind : (m : Mode) (w : List ℕ) (why : Why) → is_behind m ≡ true → doing m w ≡ Wrong why → why ≡ reason_at (is_bound m) w
wrong_behind (Start heads) w why b e = absurd (cc)
wrong_behind (Kind heads) w why b e = absurd (cc)
wrong_behind (Vars heads kind) w why b e = absurd (cc)
wrong_behind (Clauses heads kind vars) w why b e = absurd (cc)
wrong_behind (Between may) w why b e = wrong_first may (may.queries && bytes_eq w word_a) (may.cards && bytes_eq w word_k) (place_of w) why e
wrong_behind (InClause may) w why b e = wrong_inside (place_of w) why e
wrong_behind (InQuery may) w why b e = wrong_inside (place_of w) why e
wrong_behind (Bound may) w why b e = wrong_bound may (plain_place max_number w) why e
wrong_behind (InCard may n) w why b e = wrong_inside (place_of w) why e

wrong_after : (may : Allowed) (ws : List (List ℕ)) (m : Mode) (w : List ℕ) (why : Why) → modes ws (Between may) ≡ Some m → doing m w ≡ Wrong why → why ≡ reason_behind ws w
wrong_after may ws m w why e is = wrong_behind m w why (all_behind ws (Between may) m refl e) is ∙ reason_between may ws m w e

wrong_start : (heads : Heads) (w : List ℕ) (why : Why) → doing (Start heads) w ≡ Wrong why → why ≡ HeaderExpected
wrong_start heads w why e = on (bytes_eq w (codes "p")) e
  where
    on : (b : Bool) → (if b then Enters (Kind heads) else Wrong HeaderExpected) ≡ Wrong why → why ≡ HeaderExpected
    on true f = absurd (cc)
    on false f = cc

wrong_kind : (heads : Heads) (w : List ℕ) (why : Why) → doing (Kind heads) w ≡ Wrong why → why ≡ HeaderExpected
wrong_kind heads w why e = kind_cases heads w (λ m. m ≡ Wrong why → why ≡ HeaderExpected) (λ kind n f. absurd (cc)) (λ h is f. absurd (cc)) (λ f. at f) e
  where
    at : Wrong HeaderExpected ≡ Wrong why → why ≡ HeaderExpected
    at f = cc

wrong_vars : (heads : Heads) (kind : HeadKind) (x : PlainWord) (why : Why) → vars_place heads kind x ≡ Wrong why → why ≡ reason_plain x
wrong_vars heads kind (plain.Value n) why e = cc
wrong_vars heads kind plain.Large why e = cc
wrong_vars heads kind plain.Other why e = cc

wrong_clauses : (heads : Heads) (kind : HeadKind) (vars : ℕ) (x : PlainWord) (why : Why) → clauses_place heads kind vars x ≡ Wrong why → why ≡ reason_plain x
wrong_clauses heads kind vars (plain.Value n) why e = cc
wrong_clauses heads kind vars plain.Large why e = cc
wrong_clauses heads kind vars plain.Other why e = cc

-- where the first word leads
first_leads : (heads : Heads) (a : List ℕ) (ws : List (List ℕ)) (k : Mode) → modes (a ∷ ws) (Start heads) ≡ Some k → modes ws (Kind heads) ≡ Some k
first_leads heads a ws k e = on (bytes_eq a (codes "p")) e
  where
    on : (b : Bool) → lead_on (modes ws) (leads (Start heads) (if b then Enters (Kind heads) else Wrong HeaderExpected)) ≡ Some k → modes ws (Kind heads) ≡ Some k
    on true f = f
    on false f = absurd (cc)

-- where the second word leads
abbrev is_numbered : List ℕ → Bool
is_numbered b = bytes_eq b (codes "cnf") || bytes_eq b (codes "knf")

numbered_is : (heads : Heads) (w : List ℕ) (kind : HeadKind) → IsNumbered heads w kind → is_numbered w ≡ true
numbered_is heads w Cnf h = ap is_numbered h
numbered_is heads w Knf h = ap is_numbered h.1
numbered_is heads w Inc h = absurd h

abbrev SecondLeads : Heads → List ℕ → List (List ℕ) → Mode → Type 0
SecondLeads heads b ws k = ((is_numbered b ≡ true) × (kind : HeadKind) × (modes ws (Vars heads kind) ≡ Some k)) ⊎ ((is_numbered b ≡ false) × (may : Allowed) × (modes ws (Between may) ≡ Some k))

second_leads : (heads : Heads) (b : List ℕ) (ws : List (List ℕ)) (k : Mode) → modes (b ∷ ws) (Kind heads) ≡ Some k → SecondLeads heads b ws k
second_leads heads b ws k e = kind_cases heads b (λ m. lead_on (modes ws) (leads (Kind heads) m) ≡ Some k → SecondLeads heads b ws k)
    (λ kind n f. inl (numbered_is heads b kind n, kind, f))
    (λ h is f. inr (ap is_numbered is, allowed_by heads Inc, f))
    (λ f. none f) e
  where
    none : None ≡ Some k → SecondLeads heads b ws k
    none f = absurd (cc)

-- where V and C lead
vars_lead : (heads : Heads) (kind : HeadKind) (v : List ℕ) (ws : List (List ℕ)) (k : Mode) → modes (v ∷ ws) (Vars heads kind) ≡ Some k → (vars : ℕ) × (modes ws (Clauses heads kind vars) ≡ Some k)
vars_lead heads kind v ws k e = on (plain_place max_var v) e
  where
    on : (x : PlainWord) → lead_on (modes ws) (leads (Vars heads kind) (vars_place heads kind x)) ≡ Some k → (vars : ℕ) × (modes ws (Clauses heads kind vars) ≡ Some k)
    on (plain.Value vars) f = (vars, f)
    on plain.Large f = absurd (cc)
    on plain.Other f = absurd (cc)

clauses_lead : (heads : Heads) (kind : HeadKind) (vars : ℕ) (c : List ℕ) (ws : List (List ℕ)) (k : Mode) → modes (c ∷ ws) (Clauses heads kind vars) ≡ Some k → modes ws (Between (allowed_by heads kind)) ≡ Some k
clauses_lead heads kind vars c ws k e = on (plain_place max_number c) e
  where
    on : (x : PlainWord) → lead_on (modes ws) (leads (Clauses heads kind vars) (clauses_place heads kind vars x)) ≡ Some k → modes ws (Between (allowed_by heads kind)) ≡ Some k
    on (plain.Value n) f = f
    on plain.Large f = absurd (cc)
    on plain.Other f = absurd (cc)

-- a wrong word behind the kind of a header that declares numbers has the reason of a bad one
wrong_behind_kind : (heads : Heads) (kind : HeadKind) (ws : List (List ℕ)) (m : Mode) (w : List ℕ) (why : Why) → modes ws (Vars heads kind) ≡ Some m → doing m w ≡ Wrong why → why ≡ reason_behind_kind ws w
wrong_behind_kind heads kind [] m w why e is = let x : Vars heads kind ≡ m = cc in wrong_vars heads kind (plain_place max_var w) why (ap (λ y. doing y w) x ∙ is)
wrong_behind_kind heads kind (v ∷ []) m w why e is =
    let l = vars_lead heads kind v [] m e in
    let x : Clauses heads kind l.0 ≡ m = at l.1 in
    wrong_clauses heads kind l.0 (plain_place max_number w) why (ap (λ y. doing y w) x ∙ is)
  where
    at : {j : Mode} → Some j ≡ Some m → j ≡ m
    at f = cc
wrong_behind_kind heads kind (v ∷ c ∷ ws) m w why e is =
    let l = vars_lead heads kind v (c ∷ ws) m e in
    wrong_after (allowed_by heads kind) ws m w why (clauses_lead heads kind l.0 c ws m l.1) is

-- a wrong word has the reason of a bad one
pub wrong_reason : (heads : Heads) (ws : List (List ℕ)) (m : Mode) (w : List ℕ) (why : Why) → modes ws (Start heads) ≡ Some m → doing m w ≡ Wrong why → why ≡ reason ws w
wrong_reason heads [] m w why e is = let x : Start heads ≡ m = cc in wrong_start heads w why (ap (λ y. doing y w) x ∙ is)
wrong_reason heads (a ∷ []) m w why e is =
    let f = first_leads heads a [] m e in
    let x : Kind heads ≡ m = at f in wrong_kind heads w why (ap (λ y. doing y w) x ∙ is)
  where
    at : Some (Kind heads) ≡ Some m → Kind heads ≡ m
    at f = cc
wrong_reason heads (a ∷ b ∷ ws) m w why e is = ⊎_elim
    (λ (c : (is_numbered b ≡ true) × (kind : HeadKind) × (modes ws (Vars heads kind) ≡ Some m)).
    wrong_behind_kind heads c.1 ws m w why c.2 is ∙ ap (λ x. if x then reason_behind_kind ws w else reason_behind ws w) (sym c.0))
    (λ (c : (is_numbered b ≡ false) × (may : Allowed) × (modes ws (Between may) ≡ Some m)).
    wrong_after c.1 ws m w why c.2 is ∙ ap (λ x. if x then reason_behind_kind ws w else reason_behind ws w) (sym c.0))
    (second_leads heads b ws m (first_leads heads a (b ∷ ws) m e))

-- no word leads to the start
abbrev NoStart : Mode → Type 0
NoStart m = is_start m ≡ false

no_start : (m : Mode) (w : List ℕ) → To NoStart (leads m (doing m w))
no_start (Start heads) w = on (bytes_eq w (codes "p"))
  where
    on : (b : Bool) → To NoStart (leads (Start heads) (if b then Enters (Kind heads) else Wrong HeaderExpected))
    on true = refl
    on false = tt
no_start (Kind heads) w = kind_cases heads w (λ mean. To NoStart (leads (Kind heads) mean)) (λ kind n. refl) (λ h is. refl) tt
no_start (Vars heads kind) w = vars_to NoStart heads kind (λ n. refl) (plain_place max_var w)
no_start (Clauses heads kind vars) w = clauses_to NoStart heads kind vars refl (plain_place max_number w)
no_start (Between may) w = first_to NoStart may refl refl refl refl (may.queries && bytes_eq w word_a) (may.cards && bytes_eq w word_k) (place_of w)
no_start (InClause may) w = inside_to NoStart (InClause may) refl refl (place_of w)
no_start (InQuery may) w = inside_to NoStart (InQuery may) refl refl (place_of w)
no_start (Bound may) w = bound_to NoStart may (λ n. refl) (plain_place max_number w)
no_start (InCard may n) w = inside_to NoStart (InCard may n) refl refl (place_of w)

pub none_start : (ws : List (List ℕ)) (m k : Mode) → is_start m ≡ false → modes ws m ≡ Some k → is_start k ≡ false
none_start ws m k b e = kept NoStart (λ j w h. no_start j w) ws m k b e

-- the end where words are not fit
abbrev IsOpen : Mode → Type 0
IsOpen m = (k : Allowed) → m ≢ Between k

end_behind : (m : Mode) (last : ℕ) → is_start m ≡ false → IsOpen m → at_end m last ≡ Bad last NotClosed
end_behind (Start heads) last s n = absurd (cc)
end_behind (Kind heads) last s n = refl
end_behind (Vars heads kind) last s n = refl
end_behind (Clauses heads kind vars) last s n = refl
end_behind (Between may) last s n = absurd (n may refl)
end_behind (InClause may) last s n = refl
end_behind (InQuery may) last s n = refl
end_behind (Bound may) last s n = refl
end_behind (InCard may b) last s n = refl

pub unfit_end : (heads : Heads) (ws : List (List ℕ)) (m : Mode) (last : ℕ) → modes ws (Start heads) ≡ Some m → IsOpen m → at_end m last ≡ Bad last (end_reason ws)
unfit_end heads [] m last e n = let x : Start heads ≡ m = cc in ap (λ y. at_end y last) (sym x)
unfit_end heads (w ∷ ws) m last e n = end_behind m last (none_start ws (Kind heads) m refl (first_leads heads w ws m e)) n

-- behind the header nothing but statements is given
behind_closes : (m : Mode) (lits : List ℕ) (o : Outcome) → o.items ≡ items_of (statements_of o.items)
    → (put_item (closed m lits) o).items ≡ items_of (statements_of (put_item (closed m lits) o).items)
behind_closes (Start heads) lits o e = ap (λ is. item.Clause lits ∷ is) e
behind_closes (Kind heads) lits o e = ap (λ is. item.Clause lits ∷ is) e
behind_closes (Vars heads kind) lits o e = ap (λ is. item.Clause lits ∷ is) e
behind_closes (Clauses heads kind vars) lits o e = ap (λ is. item.Clause lits ∷ is) e
behind_closes (Between may) lits o e = ap (λ is. item.Clause lits ∷ is) e
behind_closes (InClause may) lits o e = ap (λ is. item.Clause lits ∷ is) e
behind_closes (InQuery may) lits o e = ap (λ is. item.Query lits ∷ is) e
behind_closes (Bound may) lits o e = ap (λ is. item.Clause lits ∷ is) e
behind_closes (InCard may b) lits o e = ap (λ is. item.Card b lits ∷ is) e

abbrev AllStatements : Outcome → Type 0
AllStatements o = o.items ≡ items_of (statements_of o.items)

-- no header ends there
abbrev is_heading : Meaning → Bool
is_heading (Heading h may) = true
is_heading mean = false

inside_no_heading : (x : LitWord) → is_heading (in_statement x) ≡ false
inside_no_heading Zero = refl
inside_no_heading (Literal l) = refl
inside_no_heading Large = refl
inside_no_heading Other = refl

behind_no_heading : (m : Mode) (w : List ℕ) → is_behind m ≡ true → is_heading (doing m w) ≡ false
behind_no_heading (Start heads) w b = absurd (cc)
behind_no_heading (Kind heads) w b = absurd (cc)
behind_no_heading (Vars heads kind) w b = absurd (cc)
behind_no_heading (Clauses heads kind vars) w b = absurd (cc)
behind_no_heading (Between may) w b = on (may.queries && bytes_eq w word_a) (may.cards && bytes_eq w word_k)
  where
    on : (a k : Bool) → is_heading (first_told may a k (place_of w)) ≡ false
    on true k = refl
    on false true = refl
    on false false = inside_no_heading (place_of w)
behind_no_heading (InClause may) w b = inside_no_heading (place_of w)
behind_no_heading (InQuery may) w b = inside_no_heading (place_of w)
behind_no_heading (Bound may) w b = on (plain_place max_number w)
  where
    on : (x : PlainWord) → is_heading (bound_place may x) ≡ false
    on (plain.Value n) = refl
    on plain.Large = refl
    on plain.Other = refl
behind_no_heading (InCard may n) w b = inside_no_heading (place_of w)

no_heading : (m : Mode) (w : List ℕ) (h : Header) (may : Allowed) → is_behind m ≡ true → doing m w ≡ Heading h may → ⊥
no_heading m w h may b e = let x : true ≡ false = sym (ap is_heading e) ∙ behind_no_heading m w b in cc

behind_items : (ts : List Token) (p : Point) (last : ℕ) → is_behind p.mode ≡ true → AllStatements (reads ts p last)
behind_items [] p last r = refl
behind_items (Fault n why ∷ ts) p last r = refl
behind_items (CutOff ∷ ts) p last r = refl
behind_items (Word n w ∷ ts) p last r = go (doing p.mode w) refl (λ q s. behind_items ts q last s)
  where
    go : (mean : Meaning) → doing p.mode w ≡ mean → ((q : Point) → is_behind q.mode ≡ true → AllStatements (reads ts q last)) → AllStatements (follow (doing p.mode w) n p (λ q. reads ts q last))
    go (Enters k) is on = rw is (on (record { mode = k; lits = []; count = p.count }) (behind_there p.mode w k r (ap (leads p.mode) is)))
    go (Adds l) is on = rw is (room (nat_lt p.count max_literals) (on (record { mode = opened p.mode; lits = p.lits ++ l ∷ []; count = p.count + 1 }) (behind_there p.mode w (opened p.mode) r (ap (leads p.mode) is))))
      where
        room : (b : Bool) → AllStatements (reads ts (record { mode = opened p.mode; lits = p.lits ++ l ∷ []; count = p.count + 1 }) last)
            → AllStatements (if b then reads ts (record { mode = opened p.mode; lits = p.lits ++ l ∷ []; count = p.count + 1 }) last else nothing (Bad n TooManyLiterals))
        room true h = h
        room false h = refl
    go Closes is on = rw is (behind_closes p.mode p.lits (reads ts (record { mode = resting p.mode; lits = []; count = p.count }) last)
        (on (record { mode = resting p.mode; lits = []; count = p.count }) (behind_there p.mode w (resting p.mode) r (ap (leads p.mode) is))))
    go (Heading h may) is on = absurd (no_heading p.mode w h may r is)
    go (Wrong why) is on = rw is refl

-- before the header is whole
clauses_items : (heads : Heads) (kind : HeadKind) (vars : ℕ) (ts : List Token) (p : Point) (last : ℕ) → p.mode ≡ Clauses heads kind vars → HeaderFirst (reads ts p last).items
clauses_items heads kind vars [] p last is = inl (ap (λ m. (nothing (at_end m last)).items) is)
clauses_items heads kind vars (Fault n why ∷ ts) p last is = inl refl
clauses_items heads kind vars (CutOff ∷ ts) p last is = inl refl
clauses_items heads kind vars (Word n w ∷ ts) p last is = rw is (on (plain_place max_number w))
  where
    on : (x : PlainWord) → HeaderFirst (follow (clauses_place heads kind vars x) n (record { mode = Clauses heads kind vars; lits = p.lits; count = p.count }) (λ q. reads ts q last)).items
    on (plain.Value c) = let h : Header = record { kind = kind; vars = vars; clauses = c } in
        inr (h, ap (λ is. item.Header h ∷ is) (behind_items ts (record { mode = Between (allowed_by heads kind); lits = []; count = p.count }) last refl))
    on plain.Large = inl refl
    on plain.Other = inl refl

vars_items : (heads : Heads) (kind : HeadKind) (ts : List Token) (p : Point) (last : ℕ) → p.mode ≡ Vars heads kind → HeaderFirst (reads ts p last).items
vars_items heads kind [] p last is = inl refl
vars_items heads kind (Fault n why ∷ ts) p last is = inl refl
vars_items heads kind (CutOff ∷ ts) p last is = inl refl
vars_items heads kind (Word n w ∷ ts) p last is = rw is (on (plain_place max_var w))
  where
    on : (x : PlainWord) → HeaderFirst (follow (vars_place heads kind x) n (record { mode = Vars heads kind; lits = p.lits; count = p.count }) (λ q. reads ts q last)).items
    on (plain.Value vars) = clauses_items heads kind vars ts (record { mode = Clauses heads kind vars; lits = []; count = p.count }) last refl
    on plain.Large = inl refl
    on plain.Other = inl refl

kind_items : (heads : Heads) (ts : List Token) (p : Point) (last : ℕ) → p.mode ≡ Kind heads → HeaderFirst (reads ts p last).items
kind_items heads [] p last is = inl refl
kind_items heads (Fault n why ∷ ts) p last is = inl refl
kind_items heads (CutOff ∷ ts) p last is = inl refl
kind_items heads (Word n w ∷ ts) p last is = rw is (kind_cases heads w
    (λ m. HeaderFirst (follow m n (record { mode = Kind heads; lits = p.lits; count = p.count }) (λ q. reads ts q last)).items)
    (λ kind k. vars_items heads kind ts (record { mode = Vars heads kind; lits = []; count = p.count }) last refl)
    (λ h e. inr (inc_header, ap (λ is. item.Header inc_header ∷ is) (behind_items ts (record { mode = Between (allowed_by heads Inc); lits = []; count = p.count }) last refl)))
    (inl refl))

first_items : (heads : Heads) (ts : List Token) (last : ℕ) → HeaderFirst (reads ts (start heads) last).items
first_items heads [] last = inl refl
first_items heads (Fault n why ∷ ts) last = inl refl
first_items heads (CutOff ∷ ts) last = inl refl
first_items heads (Word n w ∷ ts) last = on (bytes_eq w (codes "p"))
  where
    on : (b : Bool) → HeaderFirst (follow (if b then Enters (Kind heads) else Wrong HeaderExpected) n (start heads) (λ q. reads ts q last)).items
    on true = kind_items heads ts (record { mode = Kind heads; lits = []; count = 0 }) last refl
    on false = inl refl

-- the header is given first, and only there
pub text_has_header : TextHasHeader
text_has_header heads bytes = first_items heads (text_tokens bytes) (last_line_of bytes)
