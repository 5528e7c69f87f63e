-- What a reader of words has done.
use Rattle.std.specs.Prelude.{◌≡◌, ℕ, ◌+◌, ◌-◌, ◌*◌, max, Bool, true, false, List, [], ◌∷◌, ◌++◌, length, map, Result, Ok, Err, IfSome}
use Rattle.std.specs.declared.option.Option.{Option}
use Rattle.sat_terms.specs.Limits.{max_input}
use Rattle.io_edge.specs.Told.{WhereTold}
use Rattle.io_edge.specs.Lines.{lines, NoLf}
use Rattle.io_edge.specs.Reading.{LineState, fresh, rest_of}
use Rattle.icnf_reader.specs.Tokens.{Token, Word, Fault, tokens}
use Rattle.icnf_reader.specs.declared.words.WordGot.{WordGot}
use Rattle.icnf_reader.specs.declared.words.WordGot.TheVariants as got
use Rattle.icnf_reader.specs.declared.item.Stop.{Stop}
use Rattle.icnf_reader.specs.declared.item.Stop.TheVariants as stop

-- the lines, the words of the last line that were not given yet, and the word that was given last
pub record WordState : Type 0 where
  pub lines : LineState
  pub pending : List (List ℕ)
  pub text : List ℕ

-- a reader of words of which nothing was asked yet
abbrev pub words_at_start : WordState
words_at_start = record { lines = fresh; pending = []; text = [] }

-- the tokens still to come, where these are the lines still to come
abbrev pub left_over : WordState → List (List ℕ) → List Token
left_over s others = map (Word s.lines.number) s.pending ++ tokens s.lines.used (s.lines.number + 1) others

-- the bytes of pieces
abbrev pub flat : List (List ℕ) → List ℕ
flat [] = []
flat (p ∷ ps) = p ++ flat ps

-- Lines were taken: lines whatever comes behind them, if the end of the input was not seen.
pub record TakesLines (pieces : List (List ℕ)) (ended : Bool) (before after : List ℕ) : Type 0 where
  pub bytes : before ≡ flat pieces ++ after
  pub whatever : ended ≡ false → (more : List ℕ) → lines (flat pieces ++ more) ≡ pieces ++ lines more

-- the tokens still to come, where the bytes still to come are told
abbrev pub tokens_left : WordState → List ℕ → List Token
tokens_left s rest = map (Word s.lines.number) s.pending ++ tokens s.lines.used (s.lines.number + 1) (lines rest)

-- the number of the last line
abbrev pub last_line : WordState → List ℕ → ℕ
last_line s rest = max 1 (s.lines.number + length (lines rest))

-- the first token is the given word, and the others are still to come
pub record GivesWord (old new : WordState) (n : ℕ) (before after : List ℕ) : Type 0 where
  pub first : tokens_left old before ≡ Word n new.text ∷ tokens_left new after
  pub last : last_line old before ≡ last_line new after
  pub pieces : List (List ℕ)
  pub taken : TakesLines pieces new.lines.ended before after
  -- whatever lines come behind those that were taken
  pub over : (others : List (List ℕ)) → left_over old (pieces ++ others) ≡ Word n new.text ∷ left_over new others

-- no token is left
pub record GivesEnd (old : WordState) (n : ℕ) (before after : List ℕ) : Type 0 where
  pub none : tokens_left old before ≡ []
  pub last : n ≡ last_line old before
  pub rest : after ≡ []

-- Reading was cut off: no token is left on the lines that were taken, and behind them no LF was taken.
pub record BreaksOff (old : WordState) (before after : List ℕ) : Type 0 where
  pub pieces : List (List ℕ)
  pub part : List ℕ
  pub taken : TakesLines pieces false before (part ++ after)
  pub no_end : NoLf part
  pub none : left_over old pieces ≡ []
  pub going : old.lines.ended ≡ false

-- what a reader of words answers
abbrev pub WordAnswers : WordState → WordState → Option (List ℕ) → Option (List ℕ) → Result WordGot Stop → Type 0
WordAnswers old new left left' (Ok (got.Word n)) = WhereTold (rest_of old.lines left) (rest_of new.lines left') (GivesWord old new n)
WordAnswers old new left left' (Ok (got.End n)) = WhereTold (rest_of old.lines left) (rest_of new.lines left') (GivesEnd old n)
WordAnswers old new left left' (Err (stop.Bad n why)) = IfSome (rest_of old.lines left) (λ rest. tokens_left old rest ≡ Fault n why ∷ [])
WordAnswers old new left left' (Err stop.ReadFault) = WhereTold (rest_of old.lines left) (rest_of new.lines left') (BreaksOff old)
WordAnswers old new left left' (Err stop.Memory) = Unit {0}

-- whether an answer is the last one
abbrev pub word_is_last : Result WordGot Stop → Bool
word_is_last (Ok (got.Word n)) = false
word_is_last (Ok (got.End n)) = true
word_is_last (Err e) = true

-- whether an answer is that the source failed
abbrev pub is_word_fault : Result WordGot Stop → Bool
is_word_fault (Ok got) = false
is_word_fault (Err stop.ReadFault) = true
is_word_fault (Err (stop.Bad n why)) = false
is_word_fault (Err stop.Memory) = false

-- whether there was another word on the line
abbrev pub InLine : Bool → WordState → WordState → Type 0
InLine true old new = old.pending ≡ new.text ∷ new.pending
InLine false old new = (old.pending ≡ []) × (new.pending ≡ [])

-- the same tokens are to come
pub record SameLeft (old new : WordState) (before after : List ℕ) : Type 0 where
  pub same : tokens_left old before ≡ tokens_left new after
  pub last : last_line old before ≡ last_line new after
  pub pieces : List (List ℕ)
  pub taken : TakesLines pieces new.lines.ended before after
  pub over : (others : List (List ℕ)) → left_over old (pieces ++ others) ≡ left_over new others

-- a number that falls with each word
abbrev pub word_fuel : WordState → ℕ
word_fuel s = 2 * (max_input - s.lines.used) + length s.pending

-- the end
abbrev pub IsWordEnd : WordGot → Type 0
IsWordEnd (got.Word n) = ⊥
IsWordEnd (got.End n) = Unit {0}
