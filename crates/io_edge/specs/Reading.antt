-- What a reader of lines has done.
use Rattle.std.specs.Prelude.{◌≡◌, ℕ, ◌+◌, if◌then◌else◌, max, Bool, true, false, List, [], ◌∷◌, ◌++◌, length, Result, Ok, Err, Some, IfSome}
use Rattle.std.specs.declared.option.Option.{Option}
use Rattle.std.specs.Io.KnownBytes.{prepend_known, Consumes}
use Rattle.io_edge.specs.Told.{WhereTold}
use Rattle.io_edge.specs.Lines.{lines, line_text, NoLf, Fits, IsTooLong, IsTooMuch}
use Rattle.io_edge.specs.declared.lines.LineGot.{LineGot}
use Rattle.io_edge.specs.declared.lines.LineGot.TheVariants.{Line, End}
use Rattle.io_edge.specs.declared.lines.LineStop.{LineStop}
use Rattle.io_edge.specs.declared.lines.LineStop.TheVariants as stop
use Rattle.io_edge.specs.declared.lines.Broken.{Broken}
use Rattle.io_edge.specs.declared.lines.Broken.TheVariants as broken

-- The line after the first `number` lines, before which `used` bytes stand, is given: it is the first of
-- the bytes before the call, and the bytes after the call are those behind it.
pub record GivesLine (used : ℕ) (line : List ℕ) (used' : ℕ) (ended : Bool) (before after : List ℕ) : Type 0 where
  pub piece : List ℕ
  pub first : before ≡ piece ++ after
  pub cut : lines before ≡ piece ∷ lines after
  pub text : line ≡ line_text piece
  pub size : used' ≡ used + length piece
  pub fits : Fits used piece
  -- it is a line whatever comes behind it
  pub whatever : ended ≡ false → (more : List ℕ) → lines (piece ++ more) ≡ piece ∷ lines more

-- the first line is no line to be given
pub record StopsAtLine (Fault : ℕ → List ℕ → Type 0) (used : ℕ) (before : List ℕ) : Type 0 where
  pub piece : List ℕ
  pub others : List (List ℕ)
  pub cut : lines before ≡ piece ∷ others
  pub fault : Fault used piece

-- bytes were taken, none of which ends a line
pub record TakesPart (before after : List ℕ) : Type 0 where
  pub part : List ℕ
  pub first : before ≡ part ++ after
  pub no_end : NoLf part

-- a reader of lines: what was read and not yet used, the line that was given last, how many lines were given, how many
-- bytes these have with their LFs, whether the end of the input was seen, and whether it gives no more
pub record LineState : Type 0 where
  pub ahead : List ℕ
  pub line : List ℕ
  pub number : ℕ
  pub used : ℕ
  pub ended : Bool
  pub done : Bool

-- a reader that has read nothing
abbrev pub fresh : LineState
fresh = record { ahead = []; line = []; number = 0; used = 0; ended = false; done = false }

-- no line was given: none is held, and the counts stay
pub record Finishes (old new : LineState) : Type 0 where
  pub no_line : new.line ≡ []
  pub same_number : new.number ≡ old.number
  pub same_used : new.used ≡ old.used

-- the bytes still to come, where they are told: none once the end of the input was seen
abbrev pub rest_of : LineState → Option (List ℕ) → Option (List ℕ)
rest_of state left = if state.ended then Some [] else prepend_known state.ahead left

-- Bytes were taken from what was read ahead and from the source: those of a line, its end, and what is read ahead now.
pub record Takes (left left' : Option (List ℕ)) (ahead ahead' line end : List ℕ) : Type 0 where
  pub got : List ℕ
  pub consumed : Consumes left left' got
  pub bytes : ahead ++ got ≡ (line ++ end) ++ ahead'
  pub no_end : NoLf line

-- the LF that ends a line, if there is one
abbrev pub end_of : Bool → List ℕ
end_of lf = if lf then 10 ∷ [] else []

-- what a reader of lines answers, where `rest` was to come before the call and `rest'` is after it
abbrev pub Answers : LineState → LineState → Option (List ℕ) → Option (List ℕ) → Result LineGot LineStop → Type 0
Answers old new rest rest' (Ok (Line n)) = (n ≡ old.number + 1) × (new.number ≡ n) × WhereTold rest rest' (GivesLine old.used new.line new.used new.ended)
Answers old new rest rest' (Ok (End n)) = (n ≡ max old.number 1) × WhereTold rest rest' (λ before after. (before ≡ []) × (after ≡ []))
Answers old new rest rest' (Err (stop.TooLong n)) = (n ≡ old.number + 1) × IfSome rest (StopsAtLine IsTooLong old.used)
Answers old new rest rest' (Err (stop.TooMuch n)) = (n ≡ old.number + 1) × IfSome rest (StopsAtLine IsTooMuch old.used)
Answers old new rest rest' (Err stop.ReadFault) = (old.ended ≡ false) × WhereTold rest rest' TakesPart
Answers old new rest rest' (Err stop.Memory) = (old.ended ≡ false) × WhereTold rest rest' TakesPart

-- whether an answer is the last one
abbrev pub is_last : Result LineGot LineStop → Bool
is_last (Ok (Line n)) = false
is_last (Ok (End n)) = true
is_last (Err e) = true

-- whether an answer is that the source failed
abbrev pub is_read_fault : Result LineGot LineStop → Bool
is_read_fault (Ok got) = false
is_read_fault (Err stop.ReadFault) = true
is_read_fault (Err (stop.TooLong n)) = false
is_read_fault (Err (stop.TooMuch n)) = false
is_read_fault (Err stop.Memory) = false

abbrev pub is_broken_by_fault : Result Bool Broken → Bool
is_broken_by_fault (Ok lf) = false
is_broken_by_fault (Err broken.ReadFault) = true
is_broken_by_fault (Err broken.TooLong) = false
is_broken_by_fault (Err broken.TooMuch) = false
is_broken_by_fault (Err broken.Memory) = false

-- the end of the lines
abbrev pub IsEnd : LineGot → Type 0
IsEnd (Line n) = ⊥
IsEnd (End n) = Unit {0}

-- the stop for a line of this number
abbrev pub stop_for : Broken → ℕ → LineStop
stop_for broken.ReadFault n = stop.ReadFault
stop_for broken.TooLong n = stop.TooLong n
stop_for broken.TooMuch n = stop.TooMuch n
stop_for broken.Memory n = stop.Memory
