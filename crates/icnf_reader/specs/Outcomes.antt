-- What tokens say to one who reads them in order and keeps where in the grammar they stand. The laws of specs/Laws tie it to
-- the grammar over the whole list of words.
use Rattle.std.specs.Prelude.{ℕ, ◌+◌, ◌&&◌, Bool, false, nat_lt, if◌then◌else◌, List, [], ◌∷◌, ◌++◌, codes}
use Rattle.std.specs.Str.{bytes_eq}
use Rattle.sat_terms.specs.Limits.{max_var, max_literals, max_number}
use Rattle.icnf_reader.specs.Tokens.{Token, Word, Fault, CutOff}
use Rattle.icnf_reader.specs.Numbers.{place_of, plain_place}
use Rattle.icnf_reader.specs.declared.numbers.PlainWord.{PlainWord}
use Rattle.icnf_reader.specs.declared.numbers.PlainWord.TheVariants as plain
use Rattle.icnf_reader.specs.declared.item.Heads.{Heads}
use Rattle.icnf_reader.specs.declared.item.Allowed.{Allowed}
use Rattle.icnf_reader.specs.declared.item.HeadKind.{HeadKind}
use Rattle.icnf_reader.specs.declared.item.Item.{Item}
use Rattle.icnf_reader.specs.declared.item.Item.TheVariants as item
use Rattle.icnf_reader.specs.declared.item.Header.{Header}
use Rattle.icnf_reader.specs.declared.item.HeadKind.TheVariants.{Cnf, Knf, Inc}
use Rattle.icnf_reader.specs.Script.{Ending, Whole, Bad, Stopped, text_tokens, last_line_of}
use Rattle.icnf_reader.specs.Grammar.{Statement, Clause, Card, Query, has_inc, has_cards, allowed_by, inc_header, last_query}
use Rattle.icnf_reader.specs.declared.item.Why.TheVariants.{HeaderExpected, UnexpectedWord, OutOfRange, NotClosed, TooManyLiterals}
use Rattle.icnf_reader.specs.declared.reader.Mode.{Mode}
use Rattle.icnf_reader.specs.declared.numbers.LitWord.{LitWord}
use Rattle.icnf_reader.specs.declared.numbers.LitWord.TheVariants.{Zero, Literal, Large, Other}
use Rattle.icnf_reader.specs.declared.reader.Meaning.{Meaning}
use Rattle.icnf_reader.specs.declared.reader.Meaning.TheVariants.{Enters, Adds, Closes, Heading, Wrong}
use Rattle.icnf_reader.specs.declared.reader.Mode.TheVariants.{Start, Kind, Vars, Clauses, Between, InClause, InQuery, Bound, InCard}

-- the items, and how the text ends
pub record Outcome : Type 0 where
  pub items : List Item
  pub ending : Ending

-- where in the grammar one stands, with the literals of the open statement and the number of all literals
pub record Point : Type 0 where
  pub mode : Mode
  pub lits : List ℕ
  pub count : ℕ

-- what a word does in a statement
abbrev pub in_statement : LitWord → Meaning
in_statement Zero = Closes
in_statement (Literal l) = Adds l
in_statement Large = Wrong OutOfRange
in_statement Other = Wrong UnexpectedWord

-- a kind of header, where the three that are told apart are these
abbrev pub kind_told : Heads → Bool → Bool → Bool → Meaning
kind_told heads is_cnf is_knf is_inc =
    if is_cnf then Enters (Vars heads Cnf)
    else if is_knf then Enters (Vars heads Knf)
    else if is_inc then Heading inc_header (allowed_by heads Inc) else Wrong HeaderExpected

-- a kind of header
abbrev pub kind_place : Heads → List ℕ → Meaning
kind_place heads w = kind_told heads (bytes_eq w (codes "cnf")) (has_cards heads && bytes_eq w (codes "knf")) (has_inc heads && bytes_eq w (codes "inccnf"))

-- the declared number of variables, behind the kind
abbrev pub vars_place : Heads → HeadKind → PlainWord → Meaning
vars_place heads kind (plain.Value vars) = Enters (Clauses heads kind vars)
vars_place heads kind plain.Large = Wrong OutOfRange
vars_place heads kind plain.Other = Wrong UnexpectedWord

-- the declared number of clauses, behind that of variables
abbrev pub clauses_place : Heads → HeadKind → ℕ → PlainWord → Meaning
clauses_place heads kind vars (plain.Value clauses) = Heading (record { kind = kind; vars = vars; clauses = clauses }) (allowed_by heads kind)
clauses_place heads kind vars plain.Large = Wrong OutOfRange
clauses_place heads kind vars plain.Other = Wrong UnexpectedWord

-- the first word of a statement, where these may stand beside clauses: it begins a query, or a cardinality, or a clause
abbrev pub first_told : Allowed → Bool → Bool → LitWord → Meaning
first_told may is_query is_card place = if is_query then Enters (InQuery may) else if is_card then Enters (Bound may) else in_statement place

abbrev pub between_place : Allowed → List ℕ → Meaning
between_place may w = first_told may (may.queries && bytes_eq w (codes "a")) (may.cards && bytes_eq w (codes "k")) (place_of w)

-- the bound of a cardinality
abbrev pub bound_place : Allowed → PlainWord → Meaning
bound_place may (plain.Value b) = Enters (InCard may b)
bound_place may plain.Large = Wrong OutOfRange
bound_place may plain.Other = Wrong UnexpectedWord

-- what a word does where one stands
abbrev pub doing : Mode → List ℕ → Meaning
doing (Start heads) w = if bytes_eq w (codes "p") then Enters (Kind heads) else Wrong HeaderExpected
doing (Kind heads) w = kind_place heads w
doing (Vars heads kind) w = vars_place heads kind (plain_place max_var w)
doing (Clauses heads kind vars) w = clauses_place heads kind vars (plain_place max_number w)
doing (Between may) w = between_place may w
doing (InClause may) w = in_statement (place_of w)
doing (InQuery may) w = in_statement (place_of w)
doing (Bound may) w = bound_place may (plain_place max_number w)
doing (InCard may b) w = in_statement (place_of w)

-- the item that is closed
abbrev pub closed : Mode → List ℕ → Item
closed (InQuery may) lits = item.Query lits
closed (InCard may b) lits = item.Card b lits
closed mode lits = item.Clause lits

-- where one stands behind a statement
abbrev pub resting : Mode → Mode
resting (Between may) = Between may
resting (InClause may) = Between may
resting (InQuery may) = Between may
resting (Bound may) = Between may
resting (InCard may b) = Between may
resting mode = Between (record { queries = false; cards = false })

-- a literal opens a clause
abbrev pub opened : Mode → Mode
opened (Between may) = InClause may
opened mode = mode

-- an item before others
abbrev pub put_item : Item → Outcome → Outcome
put_item i o = record { items = i ∷ o.items; ending = o.ending }

-- no item
abbrev pub nothing : Ending → Outcome
nothing e = record { items = []; ending = e }

-- how it ends where no word is left
abbrev pub at_end : Mode → ℕ → Ending
at_end (Start heads) last = Bad last HeaderExpected
at_end (Between may) last = Whole
at_end mode last = Bad last NotClosed

-- what follows from a word, where `go` says what the words after it give
abbrev pub follow : Meaning → ℕ → Point → (Point → Outcome) → Outcome
follow (Enters mode) n p go = go (record { mode = mode; lits = []; count = p.count })
follow (Adds l) n p go =
    if nat_lt p.count max_literals then go (record { mode = opened p.mode; lits = p.lits ++ l ∷ []; count = p.count + 1 }) else nothing (Bad n TooManyLiterals)
follow Closes n p go = put_item (closed p.mode p.lits) (go (record { mode = resting p.mode; lits = []; count = p.count }))
follow (Heading h may) n p go = put_item (item.Header h) (go (record { mode = Between may; lits = []; count = p.count }))
follow (Wrong why) n p go = nothing (Bad n why)

-- What tokens say from a point on, where this is the number of the last line.
abbrev pub reads : List Token → Point → ℕ → Outcome
reads [] p last = nothing (at_end p.mode last)
reads (Word n w ∷ ts) p last = follow (doing p.mode w) n p (λ q. reads ts q last)
reads (Fault n why ∷ ts) p last = nothing (Bad n why)
reads (CutOff ∷ ts) p last = nothing Stopped

-- what a whole text says
abbrev pub start : Heads → Point
start heads = record { mode = Start heads; lits = []; count = 0 }

abbrev pub text_reads : Heads → List ℕ → Outcome
text_reads heads bytes = reads (text_tokens bytes) (start heads) (last_line_of bytes)

-- the statements among items
abbrev pub statements_of : List Item → List Statement
statements_of [] = []
statements_of (item.Header h ∷ is) = statements_of is
statements_of (item.Clause ls ∷ is) = Clause ls ∷ statements_of is
statements_of (item.Card b ls ∷ is) = Card b ls ∷ statements_of is
statements_of (item.Query ls ∷ is) = Query ls ∷ statements_of is
statements_of (item.End ∷ is) = statements_of is

-- the items of statements
abbrev pub items_of : List Statement → List Item
items_of [] = []
items_of (Clause ls ∷ ss) = item.Clause ls ∷ items_of ss
items_of (Card b ls ∷ ss) = item.Card b ls ∷ items_of ss
items_of (Query ls ∷ ss) = item.Query ls ∷ items_of ss

-- the header among items, which is the first; where there is none, no variables are declared
abbrev pub header_of : List Item → Header
header_of (item.Header h ∷ is) = h
header_of is = inc_header

-- the query at the end of a whole text
abbrev pub query_at_end : Ending → HeadKind → List Statement
query_at_end Whole kind = last_query kind
query_at_end end kind = []

-- the script of an outcome
abbrev pub script_of : Outcome → List Statement
script_of o = statements_of o.items ++ query_at_end o.ending (header_of o.items).kind
