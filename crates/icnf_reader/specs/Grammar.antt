-- The grammars of DIMACS CNF, of clauses with cardinalities, and of iCNF, over the words of a whole text: a header, and then
-- statements. The header is `p cnf V C`, `p knf V C` or `p inccnf`. A clause is literals and a zero. A cardinality is `k`, its
-- bound, literals and a zero, and stands under `p knf` and `p inccnf`. A query is `a`, literals and a zero, and stands under
-- `p inccnf` alone.
use Rattle.std.specs.Prelude.{◌≡◌, ◌≤◌, ◌⊎◌, ℕ, ◌+◌, ◌||◌, if◌then◌else◌, Bool, true, false, List, [], ◌∷◌, ◌++◌, length, codes}
use Rattle.std.specs.Str.{bytes_eq}
use Rattle.sat_terms.specs.Limits.{max_var, max_literals, max_number}
use Rattle.icnf_reader.specs.Numbers.{place_of, plain_place}
use Rattle.icnf_reader.specs.declared.numbers.LitWord.{LitWord}
use Rattle.icnf_reader.specs.declared.numbers.LitWord.TheVariants.{Zero, Literal, Large}
use Rattle.icnf_reader.specs.declared.numbers.PlainWord.{PlainWord}
use Rattle.icnf_reader.specs.declared.numbers.PlainWord.TheVariants as plain
use Rattle.icnf_reader.specs.declared.item.Heads.{Heads}
use Rattle.icnf_reader.specs.declared.item.Heads.TheVariants as head
use Rattle.icnf_reader.specs.declared.item.Allowed.{Allowed}
use Rattle.icnf_reader.specs.declared.item.HeadKind.{HeadKind}
use Rattle.icnf_reader.specs.declared.item.HeadKind.TheVariants.{Cnf, Knf, Inc}
use Rattle.icnf_reader.specs.declared.item.Header.{Header}
use Rattle.icnf_reader.specs.declared.item.Why.{Why}
use Rattle.icnf_reader.specs.declared.item.Why.TheVariants.{HeaderExpected, UnexpectedWord, OutOfRange, NotClosed}

-- a statement of a script
pub data Statement : Type 0 where
  Clause : List ℕ → Statement
  Card : ℕ → List ℕ → Statement
  Query : List ℕ → Statement

-- whether the header of iCNF is in the grammar
abbrev pub has_inc : Heads → Bool
has_inc head.All = true
has_inc head.Clauses = true
has_inc head.CnfOnly = false

-- whether cardinalities are in the grammar, and their header
abbrev pub has_cards : Heads → Bool
has_cards head.All = true
has_cards head.Clauses = false
has_cards head.CnfOnly = false

-- the statements that may follow a header of this kind, beside clauses
abbrev pub allowed_by : Heads → HeadKind → Allowed
allowed_by heads Cnf = record { queries = false; cards = false }
allowed_by heads Knf = record { queries = false; cards = has_cards heads }
allowed_by heads Inc = record { queries = true; cards = has_cards heads }

-- a kind of header that declares numbers, and its word
abbrev pub IsNumbered : Heads → List ℕ → HeadKind → Type 0
IsNumbered heads w Cnf = w ≡ codes "cnf"
IsNumbered heads w Knf = (has_cards heads ≡ true) × (w ≡ codes "knf")
IsNumbered heads w Inc = ⊥

-- a header that declares numbers, where V and C are numbers without a sign
pub record IsNumbersHeader (heads : Heads) (ws : List (List ℕ)) (h : Header) : Type 0 where
  pub kind : List ℕ
  pub vars : List ℕ
  pub clauses : List ℕ
  pub are : ws ≡ codes "p" ∷ kind ∷ vars ∷ clauses ∷ []
  pub kind_is : IsNumbered heads kind h.kind
  pub vars_are : plain_place max_var vars ≡ plain.Value h.vars
  pub clauses_are : plain_place max_number clauses ≡ plain.Value h.clauses

-- the header of iCNF, which declares no numbers
abbrev pub inc_header : Header
inc_header = record { kind = Inc; vars = 0; clauses = 0 }

abbrev pub IsIncHeader : Heads → List (List ℕ) → Header → Type 0
IsIncHeader heads ws h = (has_inc heads ≡ true) × (ws ≡ codes "p" ∷ codes "inccnf" ∷ []) × (h ≡ inc_header)

-- the words of a header, where these headers are in the grammar
abbrev pub IsHeader : Heads → List (List ℕ) → Header → Type 0
IsHeader heads ws h = IsNumbersHeader heads ws h ⊎ IsIncHeader heads ws h

-- the words of literals, and then a zero
abbrev pub AreLits : List (List ℕ) → List ℕ → Type 0
AreLits [] ls = ⊥
AreLits (w ∷ ws) [] = (place_of w ≡ Zero) × (ws ≡ [])
AreLits (w ∷ ws) (l ∷ ls) = (place_of w ≡ Literal l) × AreLits ws ls

-- the words of a cardinality, whose bound is a number without a sign
pub record AreCardWords (ws : List (List ℕ)) (b : ℕ) (ls : List ℕ) : Type 0 where
  pub bound : List ℕ
  pub rest : List (List ℕ)
  pub are : ws ≡ codes "k" ∷ bound ∷ rest
  pub bound_is : plain_place max_number bound ≡ plain.Value b
  pub lits : AreLits rest ls

-- the words of a statement, where these may stand beside clauses
abbrev pub AreWordsOf : Allowed → Statement → List (List ℕ) → Type 0
AreWordsOf may (Clause ls) ws = AreLits ws ls
AreWordsOf may (Card b ls) ws = (may.cards ≡ true) × AreCardWords ws b ls
AreWordsOf may (Query ls) ws = (may.queries ≡ true) × (rest : List (List ℕ)) × (ws ≡ codes "a" ∷ rest) × AreLits rest ls

-- the words of statements, one after another
abbrev pub AreStatements : Allowed → List (List ℕ) → List Statement → Type 0
AreStatements may ws [] = ws ≡ []
AreStatements may ws (s ∷ ss) = (front rest : List (List ℕ)) × (ws ≡ front ++ rest) × AreWordsOf may s front × AreStatements may rest ss

-- the words of a header, and then those of statements
pub record IsFit (heads : Heads) (ws : List (List ℕ)) (h : Header) (ss : List Statement) : Type 0 where
  pub front : List (List ℕ)
  pub body : List (List ℕ)
  pub cut : ws ≡ front ++ body
  pub header : IsHeader heads front h
  pub statements : AreStatements (allowed_by heads h.kind) body ss

-- a prefix of fit words
pub record IsPartial (heads : Heads) (ws : List (List ℕ)) : Type 0 where
  pub more : List (List ℕ)
  pub header : Header
  pub script : List Statement
  pub fit : IsFit heads (ws ++ more) header script

-- how many literals statements have
abbrev pub lits_of_statement : Statement → List ℕ
lits_of_statement (Clause ls) = ls
lits_of_statement (Card b ls) = ls
lits_of_statement (Query ls) = ls

abbrev pub literals_of : List Statement → ℕ
literals_of [] = 0
literals_of (s ∷ ss) = length (lits_of_statement s) + literals_of ss

-- a prefix of fit words whose statements have not too many literals
pub record IsFew (heads : Heads) (ws : List (List ℕ)) : Type 0 where
  pub more : List (List ℕ)
  pub header : Header
  pub script : List Statement
  pub fit : IsFit heads (ws ++ more) header script
  pub few : literals_of script ≤ max_literals

-- the reason of a word that stands in a literal's place but cannot go on
abbrev pub reason_inside : LitWord → Why
reason_inside Large = OutOfRange
reason_inside place = UnexpectedWord

-- and of one that stands in the place of V, of C or of a bound
abbrev pub reason_plain : PlainWord → Why
reason_plain plain.Large = OutOfRange
reason_plain place = UnexpectedWord

-- the reason of a bad word behind these, which follow a header: behind `k` it stands in the place of a bound, and else where a
-- literal may
abbrev pub reason_behind : List (List ℕ) → List ℕ → Why
reason_behind [] w = reason_inside (place_of w)
reason_behind (x ∷ []) w = if bytes_eq x (codes "k") then reason_plain (plain_place max_number w) else reason_inside (place_of w)
reason_behind (x ∷ y ∷ ws) w = reason_behind (y ∷ ws) w

-- the reason of a bad word behind these, which follow `p` and the kind of a header that declares numbers
abbrev pub reason_behind_kind : List (List ℕ) → List ℕ → Why
reason_behind_kind [] w = reason_plain (plain_place max_var w)
reason_behind_kind (v ∷ []) w = reason_plain (plain_place max_number w)
reason_behind_kind (v ∷ c ∷ ws) w = reason_behind ws w

-- the reason of a bad word behind these, of which the first two are to be `p` and a kind
abbrev pub reason : List (List ℕ) → List ℕ → Why
reason [] w = HeaderExpected
reason (p ∷ []) w = HeaderExpected
reason (p ∷ kind ∷ ws) w = if bytes_eq kind (codes "cnf") || bytes_eq kind (codes "knf") then reason_behind_kind ws w else reason_behind ws w

-- the first word that is bad: the words before it are partial, and with it they are not
pub record IsBadWord (heads : Heads) (ws : List (List ℕ)) (w : List ℕ) (why : Why) : Type 0 where
  pub good : IsPartial heads ws
  pub bad : IsPartial heads (ws ++ w ∷ []) → ⊥
  pub reason_is : why ≡ reason ws w

-- the reason where words that are not fit have no other behind them
abbrev pub end_reason : List (List ℕ) → Why
end_reason [] = HeaderExpected
end_reason (w ∷ ws) = NotClosed

-- a fit prefix of words, and no longer one is fit
pub record LongestFit (heads : Heads) (ws : List (List ℕ)) (h : Header) (ss : List Statement) : Type 0 where
  pub front : List (List ℕ)
  pub rest : List (List ℕ)
  pub cut : ws ≡ front ++ rest
  pub fit : IsFit heads front h ss
  pub longest : (longer more : List (List ℕ)) (header : Header) (others : List Statement) → ws ≡ longer ++ more → IsFit heads longer header others → length longer ≤ length front

-- no prefix of words is fit
abbrev pub NoneFit : Heads → List (List ℕ) → Type 0
NoneFit heads ws = (front rest : List (List ℕ)) (h : Header) (ss : List Statement) → ws ≡ front ++ rest → IsFit heads front h ss → ⊥

-- The statements whose last word is among these words, with the declared number of variables: those of the longest prefix that
-- is fit, none if the header is not whole.
abbrev pub Ended : Heads → List (List ℕ) → ℕ → List Statement → Type 0
Ended heads ws vars ss = ((h : Header) × LongestFit heads ws h ss × (vars ≡ h.vars)) ⊎ (NoneFit heads ws × (ss ≡ []) × (vars ≡ 0))

-- the query at the end of a whole text: under `p cnf` and `p knf` there is one, without assumptions
abbrev pub last_query : HeadKind → List Statement
last_query Cnf = Query [] ∷ []
last_query Knf = Query [] ∷ []
last_query Inc = []
