-- The words of the command line, as they are read one after another. The lemmas of proofs/Words tie this to the sequences of items.
use Rattle.std.specs.Prelude.{◌≡◌, ℕ, ◌==◌, Bool, true, false, if◌then◌else◌, List, [], ◌∷◌, codes, Option, Some, None}
use Rattle.std.specs.Str.{bytes_eq}
use Rattle.icnf_reader.specs.Numbers.{plain_place}
use Rattle.icnf_reader.specs.declared.numbers.PlainWord.{PlainWord}
use Rattle.icnf_reader.specs.declared.numbers.PlainWord.TheVariants as plain
use Rattle.icnf_runner.specs.declared.options.Options.{Options}
use Rattle.icnf_runner.specs.declared.options.Choice.{Choice}
use Rattle.icnf_runner.specs.declared.options.Choice.TheVariants as choice
use Rattle.icnf_runner.specs.declared.options.Name.{Name}
use Rattle.icnf_runner.specs.declared.options.Name.TheVariants as names
use Rattle.icnf_runner.specs.declared.options.Found.{Found}
use Rattle.sat_terms.specs.Limits.{max_number}

-- the text of a name that has a number
abbrev pub name_text : Name → List ℕ
name_text names.Conflicts = codes "--conflicts"
name_text names.Callbacks = codes "--callbacks"
name_text names.Steps = codes "--steps"

-- what follows a name in a word
abbrev pub rest_after : List ℕ → List ℕ → Option (List ℕ)
rest_after [] w = Some w
rest_after (b ∷ bs) [] = None
rest_after (b ∷ bs) (c ∷ cs) = if c == b then rest_after bs cs else None

-- a number behind a name
abbrev pub numbered : Name → PlainWord → Option Choice
numbered name (plain.Value n) = Some (choice.Number name n)
numbered name plain.Large = None
numbered name plain.Other = None

abbrev pub behind_equals : Name → Option (List ℕ) → Option Choice
behind_equals name None = None
behind_equals name (Some []) = None
behind_equals name (Some (b ∷ digits)) = if b == 61 then numbered name (plain_place max_number digits) else None

abbrev pub first_of : Option Choice → Option Choice → Option Choice
first_of (Some c) other = Some c
first_of None other = other

-- an item of one word
abbrev pub one_word : List ℕ → Option Choice
one_word w = if bytes_eq w (codes "--check") then Some choice.Check
    else first_of (behind_equals names.Conflicts (rest_after (codes "--conflicts") w)) (first_of (behind_equals names.Callbacks (rest_after (codes "--callbacks") w)) (behind_equals names.Steps (rest_after (codes "--steps") w)))

-- an item of two words
abbrev pub two_words : List ℕ → List ℕ → Option Choice
two_words w v = if bytes_eq w (codes "--conflicts") then numbered names.Conflicts (plain_place max_number v)
    else if bytes_eq w (codes "--callbacks") then numbered names.Callbacks (plain_place max_number v)
    else if bytes_eq w (codes "--steps") then numbered names.Steps (plain_place max_number v) else None

-- one more number, where none was met before
abbrev pub add_conflicts : Found → ℕ → Option ℕ → Option Found
add_conflicts f n None = Some (record f { conflicts = Some n })
add_conflicts f n (Some m) = None

abbrev pub add_callbacks : Found → ℕ → Option ℕ → Option Found
add_callbacks f n None = Some (record f { callbacks = Some n })
add_callbacks f n (Some m) = None

abbrev pub add_steps : Found → ℕ → Option ℕ → Option Found
add_steps f n None = Some (record f { steps = Some n })
add_steps f n (Some m) = None

abbrev pub add_check : Found → Bool → Option Found
add_check f false = Some (record f { check = true })
add_check f true = None

abbrev pub add_choice : Choice → Found → Option Found
add_choice (choice.Number names.Conflicts n) f = add_conflicts f n f.conflicts
add_choice (choice.Number names.Callbacks n) f = add_callbacks f n f.callbacks
add_choice (choice.Number names.Steps n) f = add_steps f n f.steps
add_choice choice.Check f = add_check f f.check

abbrev pub and_then : Option Found → (Found → Option Found) → Option Found
and_then None go = None
and_then (Some f) go = go f

-- an item of one word, or one of two words, and then what follows
abbrev pub chosen : Option Choice → Option Choice → Found → (Found → Option Found) → (Found → Option Found) → Option Found
chosen (Some c) two f go_one go_two = and_then (add_choice c f) go_one
chosen None (Some c) f go_one go_two = and_then (add_choice c f) go_two
chosen None None f go_one go_two = None

-- what words give behind others that gave this
abbrev pub parse : List (List ℕ) → Found → Option Found
parse [] f = Some f
parse (w ∷ []) f = chosen (one_word w) None f (λ g. Some g) (λ g. None)
parse (w ∷ v ∷ ws) f = chosen (one_word w) (two_words w v) f (parse (v ∷ ws)) (parse ws)

abbrev pub nothing_found : Found
nothing_found = record { conflicts = None; callbacks = None; steps = None; check = false }

abbrev pub value_or : Option ℕ → ℕ → ℕ
value_or None n = n
value_or (Some m) n = m

-- the options that were found
abbrev pub options_by : Found → Options
options_by f = record { conflicts = value_or f.conflicts max_number; callbacks = value_or f.callbacks max_number; steps = value_or f.steps 1000000; check = f.check }

-- an item begins these words, and these follow it
abbrev pub IsFirst : List (List ℕ) → Choice → List (List ℕ) → Type 0
IsFirst ws c rest = (f : Found) → parse ws f ≡ and_then (add_choice c f) (parse rest)

-- no item begins these words
abbrev pub BeginsNone : List (List ℕ) → Type 0
BeginsNone ws = (f : Found) → parse ws f ≡ None
