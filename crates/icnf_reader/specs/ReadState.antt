-- What a reader of items has done.
use Rattle.std.specs.Prelude.{◌≡◌, ◌≤◌, ℕ, ◌-◌, Bool, true, false, List, [], ◌∷◌, ◌++◌, length, Result, Ok, Err, IfSome, Some, None}
use Rattle.std.specs.declared.option.Option.{Option}
use Rattle.sat_terms.specs.Limits.{max_var, max_number, max_literals}
use Rattle.io_edge.specs.Told.{WhereTold}
use Rattle.io_edge.specs.Lines.{NoLf}
use Rattle.io_edge.specs.Reading.{rest_of}
use Rattle.icnf_reader.specs.Tokens.{Token, CutOff}
use Rattle.icnf_reader.specs.WordState.{WordState, words_at_start, tokens_left, left_over, last_line, TakesLines}
use Rattle.icnf_reader.specs.Script.{Whole, Bad, Stopped}
use Rattle.icnf_reader.specs.Grammar.{has_cards, allowed_by}
use Rattle.icnf_reader.specs.Outcomes.{Point, Outcome, reads, doing, follow, nothing, put_item, start}
use Rattle.icnf_reader.specs.declared.reader.Mode.{Mode}
use Rattle.icnf_reader.specs.declared.reader.Mode.TheVariants.{Start, Kind, Vars, Clauses, Between, InClause, InQuery, Bound, InCard}
use Rattle.icnf_reader.specs.declared.item.Heads.{Heads}
use Rattle.icnf_reader.specs.declared.item.Item.{Item}
use Rattle.icnf_reader.specs.declared.item.Item.TheVariants as item
use Rattle.icnf_reader.specs.declared.item.Why.TheVariants.{HeaderExpected, NotClosed}
use Rattle.icnf_reader.specs.declared.item.Stop.{Stop}
use Rattle.icnf_reader.specs.declared.item.Stop.TheVariants as stop

-- the words, where in the grammar they stand, and whether an end or a stop was answered
pub record ReadState : Type 0 where
  pub words : WordState
  pub point : Point
  pub done : Bool

-- a reader of which nothing was asked yet
abbrev pub at_start : Heads → ReadState
at_start heads = record { words = words_at_start; point = start heads; done = false }

-- how many literals the items have that were given so far
abbrev pub given : Point → ℕ
given p = p.count - length p.lits

-- how many literals an item has
abbrev pub lits_in : Item → ℕ
lits_in (item.Clause ls) = length ls
lits_in (item.Card b ls) = length ls
lits_in (item.Query ls) = length ls
lits_in i = 0

-- no literal stands outside a statement
abbrev pub NoneOutside : Mode → List ℕ → Type 0
NoneOutside (InClause may) lits = Unit {0}
NoneOutside (InQuery may) lits = Unit {0}
NoneOutside (InCard may b) lits = Unit {0}
NoneOutside mode lits = lits ≡ []

-- a declared number of variables, and a bound, are in range
abbrev pub IsDeclared : Mode → Type 0
IsDeclared (Clauses heads kind vars) = vars ≤ max_var
IsDeclared (InCard may b) = b ≤ max_number
IsDeclared (Start heads) = Unit {0}
IsDeclared (Kind heads) = Unit {0}
IsDeclared (Vars heads kind) = Unit {0}
IsDeclared (Between may) = Unit {0}
IsDeclared (InClause may) = Unit {0}
IsDeclared (InQuery may) = Unit {0}
IsDeclared (Bound may) = Unit {0}

-- what holds of each reader
pub record IsSound (words : WordState) (mode : Mode) (lits : List ℕ) (count : ℕ) (done : Bool) : Type 0 where
  pub few : count ≤ max_literals
  pub counted : length lits ≤ count
  pub closed : NoneOutside mode lits
  pub declared : IsDeclared mode
  pub going : done ≡ false → words.lines.done ≡ false

-- what the bytes still to come say
abbrev pub outcome : ReadState → List ℕ → Outcome
outcome s rest = reads (tokens_left s.words rest) s.point (last_line s.words rest)

-- an item other than the end
abbrev pub IsPart : Item → Type 0
IsPart item.End = ⊥
IsPart i = Unit {0}

-- how many literals come with an item, or with none
abbrev pub lits_of : Option Item → ℕ
lits_of (Some i) = lits_in i
lits_of None = 0

-- the answer where no word is left and the last line has this number
abbrev pub end_answer : Mode → ℕ → Result Item Stop
end_answer (Start heads) last = Err (stop.Bad last HeaderExpected)
end_answer (Between may) last = Ok item.End
end_answer mode last = Err (stop.Bad last NotClosed)

-- whether the header is not whole yet
abbrev pub is_before_header : Mode → Bool
is_before_header (Start heads) = true
is_before_header (Kind heads) = true
is_before_header (Vars heads kind) = true
is_before_header (Clauses heads kind vars) = true
is_before_header mode = false

-- whether a cardinality may come from here on
abbrev pub takes_cards : Mode → Bool
takes_cards (Start heads) = has_cards heads
takes_cards (Kind heads) = has_cards heads
takes_cards (Vars heads kind) = (allowed_by heads kind).cards
takes_cards (Clauses heads kind vars) = (allowed_by heads kind).cards
takes_cards (Between may) = may.cards
takes_cards (InClause may) = may.cards
takes_cards (InQuery may) = may.cards
takes_cards (Bound may) = true
takes_cards (InCard may b) = true

-- a header
abbrev pub IsHeaderItem : Item → Type 0
IsHeaderItem (item.Header h) = Unit {0}
IsHeaderItem i = ⊥

-- a header declares at most so many variables as there are
abbrev pub HasVars : Item → Type 0
HasVars (item.Header h) = h.vars ≤ max_var
HasVars (item.Clause ls) = Unit {0}
HasVars (item.Card b ls) = Unit {0}
HasVars (item.Query ls) = Unit {0}
HasVars item.End = Unit {0}

abbrev pub HaveVars : Option Item → Type 0
HaveVars (Some i) = HasVars i
HaveVars None = Unit {0}

-- the bound of a cardinality is in range
abbrev pub HasBound : Item → Type 0
HasBound (item.Card b ls) = b ≤ max_number
HasBound (item.Header h) = Unit {0}
HasBound (item.Clause ls) = Unit {0}
HasBound (item.Query ls) = Unit {0}
HasBound item.End = Unit {0}

abbrev pub HaveBounds : Option Item → Type 0
HaveBounds (Some i) = HasBound i
HaveBounds None = Unit {0}

-- no cardinality
abbrev pub IsNoCard : Item → Type 0
IsNoCard (item.Card b ls) = ⊥
IsNoCard (item.Header h) = Unit {0}
IsNoCard (item.Clause ls) = Unit {0}
IsNoCard (item.Query ls) = Unit {0}
IsNoCard item.End = Unit {0}

abbrev pub AreNoCards : Option Item → Type 0
AreNoCards (Some i) = IsNoCard i
AreNoCards None = Unit {0}

-- before the header is whole, nothing but it can be given
abbrev pub GivesHeader : Mode → Result (Option Item) Stop → Type 0
GivesHeader mode (Ok None) = is_before_header mode ≡ true
GivesHeader mode (Ok (Some i)) = IsHeaderItem i
GivesHeader mode (Err e) = Unit {0}

-- what comes of one word, whatever the words after it say
abbrev pub Takes : ℕ → List ℕ → Point → Point → Result (Option Item) Stop → Type 0
Takes n w p q (Ok None) = (go : Point → Outcome) → follow (doing p.mode w) n p go ≡ go q
Takes n w p q (Ok (Some i)) = IsPart i × ((go : Point → Outcome) → follow (doing p.mode w) n p go ≡ put_item i (go q))
Takes n w p q (Err (stop.Bad k why)) = (go : Point → Outcome) → follow (doing p.mode w) n p go ≡ nothing (Bad k why)
Takes n w p q (Err stop.ReadFault) = ⊥
Takes n w p q (Err stop.Memory) = Unit {0}

-- an item is given, and the others are still to come
abbrev pub GivesItem : ReadState → ReadState → Item → List ℕ → List ℕ → Type 0
GivesItem old new i before after = outcome old before ≡ put_item i (outcome new after)

-- what a reader of items answers
abbrev pub ReadAnswers : ReadState → ReadState → Option (List ℕ) → Option (List ℕ) → Result Item Stop → Type 0
ReadAnswers old new left left' (Ok item.End) = WhereTold (rest_of old.words.lines left) (rest_of new.words.lines left') (λ before after. (outcome old before ≡ nothing Whole) × (after ≡ []))
ReadAnswers old new left left' (Ok i) = WhereTold (rest_of old.words.lines left) (rest_of new.words.lines left') (GivesItem old new i)
ReadAnswers old new left left' (Err (stop.Bad n why)) = IfSome (rest_of old.words.lines left) (λ rest. outcome old rest ≡ nothing (Bad n why))
ReadAnswers old new left left' (Err stop.ReadFault) = Unit {0}
ReadAnswers old new left left' (Err stop.Memory) = Unit {0}

-- whether an answer is the last one
abbrev pub read_is_last : Result Item Stop → Bool
read_is_last (Ok item.End) = true
read_is_last (Ok i) = false
read_is_last (Err e) = true

-- whether an answer is that the source failed
abbrev pub is_item_fault : Result Item Stop → Bool
is_item_fault (Ok i) = false
is_item_fault (Err stop.ReadFault) = true
is_item_fault (Err (stop.Bad n why)) = false
is_item_fault (Err stop.Memory) = false

-- the same is to come
abbrev pub SameOutcome : ReadState → ReadState → List ℕ → List ℕ → Type 0
SameOutcome old new before after = outcome old before ≡ outcome new after

-- the end
abbrev pub IsEndItem : Item → Type 0
IsEndItem item.End = Unit {0}
IsEndItem i = ⊥

-- what lines and tokens that are still to come say
abbrev pub over : ReadState → List (List ℕ) → List Token → ℕ → Outcome
over s others tail last = reads (left_over s.words others ++ tail) s.point last

-- Lines were taken, and what they and those behind them say is this of what those behind them say, whatever these are.
pub record LeadsOver (old new : ReadState) (f : Outcome → Outcome) (before after : List ℕ) : Type 0 where
  pub pieces : List (List ℕ)
  pub taken : TakesLines pieces new.words.lines.ended before after
  pub leads : (others : List (List ℕ)) (tail : List Token) (last : ℕ) → over old (pieces ++ others) tail last ≡ f (over new others tail last)

-- Reading was cut off: the lines that were taken close no item, and behind them no LF was taken.
pub record StopsOver (old : ReadState) (before after : List ℕ) : Type 0 where
  pub pieces : List (List ℕ)
  pub part : List ℕ
  pub taken : TakesLines pieces false before (part ++ after)
  pub no_end : NoLf part
  pub none : (last : ℕ) → over old pieces (CutOff ∷ []) last ≡ nothing Stopped
  pub going : old.words.lines.ended ≡ false

-- which lines were taken
abbrev pub ReadsOver : ReadState → ReadState → Option (List ℕ) → Option (List ℕ) → Result Item Stop → Type 0
ReadsOver old new left left' (Ok item.End) = Unit {0}
ReadsOver old new left left' (Ok i) = WhereTold (rest_of old.words.lines left) (rest_of new.words.lines left') (LeadsOver old new (put_item i))
ReadsOver old new left left' (Err stop.ReadFault) = WhereTold (rest_of old.words.lines left) (rest_of new.words.lines left') (StopsOver old)
ReadsOver old new left left' (Err e) = Unit {0}
