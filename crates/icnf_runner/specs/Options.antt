-- The options of the command line: a list of words is accepted if it is a sequence of items, each name at most once, in any order.
use Rattle.std.specs.Prelude.{◌≡◌, ◌≤◌, ◌⊎◌, ◌≢◌, ℕ, Bool, true, false, List, [], ◌∷◌, ◌++◌, codes}
use Rattle.sat_terms.specs.Limits.{max_number}
use Rattle.icnf_reader.specs.Numbers.{plain_place}
use Rattle.icnf_reader.specs.declared.numbers.PlainWord.TheVariants as plain
use Rattle.icnf_runner.specs.declared.options.Options.{Options}

-- where nothing is stated: no budget, and a million steps
abbrev pub nothing_stated : Options
nothing_stated = record { conflicts = max_number; callbacks = max_number; steps = 1000000; check = false }

-- the items
pub data Item : Type 0 where
  Conflicts : ℕ → Item
  Callbacks : ℕ → Item
  Steps : ℕ → Item
  Check : Item

-- the name of an item
abbrev pub name_of : Item → List ℕ
name_of (Conflicts n) = codes "--conflicts"
name_of (Callbacks n) = codes "--callbacks"
name_of (Steps n) = codes "--steps"
name_of Check = codes "--check"

-- an item with a number is two words, or one word with = between: the number is one or more decimal digits, and at most 2^62
pub record AreNumbered (name : List ℕ) (n : ℕ) (ws : List (List ℕ)) : Type 0 where
  pub digits : List ℕ
  pub number : plain_place max_number digits ≡ plain.Value n
  pub are : (ws ≡ name ∷ digits ∷ []) ⊎ (ws ≡ (name ++ 61 ∷ digits) ∷ [])

-- the words of an item
abbrev pub AreWordsOf : Item → List (List ℕ) → Type 0
AreWordsOf (Conflicts n) ws = AreNumbered (codes "--conflicts") n ws
AreWordsOf (Callbacks n) ws = AreNumbered (codes "--callbacks") n ws
AreWordsOf (Steps n) ws = AreNumbered (codes "--steps") n ws
AreWordsOf Check ws = ws ≡ codes "--check" ∷ []

-- the words of items, one after another
abbrev pub AreItems : List (List ℕ) → List Item → Type 0
AreItems ws [] = ws ≡ []
AreItems ws (i ∷ is) = (front rest : List (List ℕ)) × (ws ≡ front ++ rest) × AreWordsOf i front × AreItems rest is

-- no item has the name of this one
abbrev pub NoneNamed : Item → List Item → Type 0
NoneNamed i [] = Unit {0}
NoneNamed i (j ∷ is) = (name_of i ≢ name_of j) × NoneNamed i is

-- each name stands at most once
abbrev pub NamesOnce : List Item → Type 0
NamesOnce [] = Unit {0}
NamesOnce (i ∷ is) = NoneNamed i is × NamesOnce is

-- what one more item states
abbrev pub with_item : Item → Options → Options
with_item (Conflicts n) o = record o { conflicts = n }
with_item (Callbacks n) o = record o { callbacks = n }
with_item (Steps n) o = record o { steps = n }
with_item Check o = record o { check = true }

abbrev pub stated_over : List Item → Options → Options
stated_over [] o = o
stated_over (i ∷ is) o = stated_over is (with_item i o)

-- these words are accepted, and state this
pub record Accepts (ws : List (List ℕ)) (o : Options) : Type 0 where
  pub items : List Item
  pub are : AreItems ws items
  pub once : NamesOnce items
  pub stated : o ≡ stated_over items nothing_stated

-- the numbers of options are at most 2^62
pub record IsInRange (o : Options) : Type 0 where
  pub conflicts : o.conflicts ≤ max_number
  pub callbacks : o.callbacks ≤ max_number
  pub steps : o.steps ≤ max_number
