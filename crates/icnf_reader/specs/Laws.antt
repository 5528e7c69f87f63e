-- What a reader gives turn by turn is what the grammar over the whole text says.
use Rattle.std.specs.Prelude.{◌≡◌, ◌⊎◌, ℕ, List, [], ◌∷◌, ◌++◌}
use Rattle.icnf_reader.specs.Grammar.{Statement}
use Rattle.icnf_reader.specs.Tokens.{CutOff, tokens}
use Rattle.icnf_reader.specs.Script.{Ending, Stopped, Reads, EndedIn}
use Rattle.icnf_reader.specs.Outcomes.{Outcome, reads, start, text_reads, statements_of, items_of, header_of, script_of}
use Rattle.icnf_reader.specs.declared.item.Heads.{Heads}
use Rattle.icnf_reader.specs.declared.item.Header.{Header}
use Rattle.icnf_reader.specs.declared.item.Item.{Item}
use Rattle.icnf_reader.specs.declared.item.Item.TheVariants as item

-- an outcome with this number of variables, these statements and this ending
abbrev pub IsOutcome : Outcome → ℕ → List Statement → Ending → Type 0
IsOutcome outcome vars ss end = ((header_of outcome.items).vars ≡ vars) × (script_of outcome ≡ ss) × (outcome.ending ≡ end)

-- of each text the grammar says what a reader gives
abbrev pub TextIsSaid : Type 0
TextIsSaid = (heads : Heads) (bytes : List ℕ) (vars : ℕ) (ss : List Statement) (end : Ending) → IsOutcome (text_reads heads bytes) vars ss end → Reads heads bytes vars ss end

-- and nothing else
abbrev pub TextIsGiven : Type 0
TextIsGiven = (heads : Heads) (bytes : List ℕ) (vars : ℕ) (ss : List Statement) (end : Ending) → Reads heads bytes vars ss end → IsOutcome (text_reads heads bytes) vars ss end

-- what a reader gives of the lines before the place where reading was cut off; the number of the last line is not looked at
abbrev pub cut_reads : Heads → List (List ℕ) → ℕ → Outcome
cut_reads heads pieces last = reads (tokens 0 1 pieces ++ CutOff ∷ []) (start heads) last

abbrev pub CutIsSaid : Type 0
CutIsSaid = (heads : Heads) (pieces : List (List ℕ)) (last vars : ℕ) (ss : List Statement) → IsOutcome (cut_reads heads pieces last) vars ss Stopped → EndedIn heads pieces vars ss

abbrev pub CutIsGiven : Type 0
CutIsGiven = (heads : Heads) (pieces : List (List ℕ)) (last vars : ℕ) (ss : List Statement) → EndedIn heads pieces vars ss → IsOutcome (cut_reads heads pieces last) vars ss Stopped

-- no item, or the header and then nothing but statements
abbrev pub HeaderFirst : List Item → Type 0
HeaderFirst is = (is ≡ []) ⊎ ((h : Header) × (is ≡ item.Header h ∷ items_of (statements_of is)))

abbrev pub TextHasHeader : Type 0
TextHasHeader = (heads : Heads) (bytes : List ℕ) → HeaderFirst (text_reads heads bytes).items
