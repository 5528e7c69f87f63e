-- What a text says: the declared number of variables, a script, which is a list of statements, and how it ends.
use Rattle.std.specs.Prelude.{◌≡◌, ◌≤◌, ◌⊎◌, ℕ, max, List, [], ◌∷◌, ◌++◌, length, map}
use Rattle.sat_terms.specs.Limits.{max_literals}
use Rattle.io_edge.specs.Lines.{lines}
use Rattle.icnf_reader.specs.Tokens.{Token, Word, Fault, CutOff, tokens}
use Rattle.icnf_reader.specs.Grammar.{Statement, IsFit, IsPartial, IsFew, IsBadWord, Ended, end_reason, literals_of, last_query}
use Rattle.icnf_reader.specs.declared.item.Heads.{Heads}
use Rattle.icnf_reader.specs.declared.item.Header.{Header}
use Rattle.icnf_reader.specs.declared.item.Why.{Why}
use Rattle.icnf_reader.specs.declared.item.Why.TheVariants.{TooManyLiterals}

-- how a text ends: nothing is wrong; it goes wrong at this line for this reason; or reading was cut off before that
pub data Ending : Type 0 where
  Whole : Ending
  Bad : ℕ → Why → Ending
  Stopped : Ending

-- words with the numbers of their lines
abbrev pub texts : List (ℕ × List ℕ) → List (List ℕ)
texts ws = map (λ w. w.1) ws

abbrev pub word_tokens : List (ℕ × List ℕ) → List Token
word_tokens ws = map (λ w. Word w.0 w.1) ws

-- These words are in order as far as they go: they are partial, not too many are literals, and these statements ended among them.
pub record InOrder (heads : Heads) (ws : List (List ℕ)) (vars : ℕ) (ss : List Statement) : Type 0 where
  pub few : IsFew heads ws
  pub ended : Ended heads ws vars ss

-- the last word has a literal too many: words that are partial, whose statements have too many literals whatever follows
pub record HasOneTooMany (heads : Heads) (ws : List (List ℕ)) (why : Why) : Type 0 where
  pub partial : IsPartial heads ws
  pub many : IsFew heads ws → ⊥
  pub reason_is : why ≡ TooManyLiterals

-- What is wrong where these tokens stand behind words that are in order, and the last line has this number: a bad word; the
-- literal after the last that is allowed; a line that passes a limit; or the end, where the words are not fit.
abbrev pub IsFault : Heads → List (List ℕ) → List Token → ℕ → ℕ → Why → Type 0
IsFault heads ws [] last n why = ((h : Header) (ss : List Statement) → IsFit heads ws h ss → ⊥) × (n ≡ last) × (why ≡ end_reason ws)
IsFault heads ws (Word k w ∷ ts) last n why = (n ≡ k) × (IsBadWord heads ws w why ⊎ HasOneTooMany heads (ws ++ w ∷ []) why)
IsFault heads ws (Fault k reason ∷ ts) last n why = (n ≡ k) × (why ≡ reason)
IsFault heads ws (CutOff ∷ ts) last n why = ⊥

-- nothing but fit words, whose statements are the script, with the query at the end where there is one
pub record IsWhole (heads : Heads) (ts : List Token) (vars : ℕ) (ss : List Statement) : Type 0 where
  pub words : List (ℕ × List ℕ)
  pub are : ts ≡ word_tokens words
  pub header : Header
  pub body : List Statement
  pub fit : IsFit heads (texts words) header body
  pub few : literals_of body ≤ max_literals
  pub vars_are : vars ≡ header.vars
  pub script : ss ≡ body ++ last_query header.kind

-- words in order, and then the first fault
pub record IsBad (heads : Heads) (ts : List Token) (last : ℕ) (vars : ℕ) (ss : List Statement) (n : ℕ) (why : Why) : Type 0 where
  pub before : List (ℕ × List ℕ)
  pub behind : List Token
  pub cut : ts ≡ word_tokens before ++ behind
  pub in_order : InOrder heads (texts before) vars ss
  pub fault : IsFault heads (texts before) behind last n why

-- words in order, and then reading was cut off
pub record IsStopped (heads : Heads) (ts : List Token) (vars : ℕ) (ss : List Statement) : Type 0 where
  pub before : List (ℕ × List ℕ)
  pub behind : List Token
  pub cut : ts ≡ word_tokens before ++ CutOff ∷ behind
  pub in_order : InOrder heads (texts before) vars ss

-- what tokens say, where the last line has this number
abbrev pub Says : Heads → List Token → ℕ → ℕ → List Statement → Ending → Type 0
Says heads ts last vars ss Whole = IsWhole heads ts vars ss
Says heads ts last vars ss (Bad n why) = IsBad heads ts last vars ss n why
Says heads ts last vars ss Stopped = IsStopped heads ts vars ss

-- the tokens of a text, and the number of its last line, which is 1 where there is none
abbrev pub text_tokens : List ℕ → List Token
text_tokens bytes = tokens 0 1 (lines bytes)

abbrev pub last_line_of : List ℕ → ℕ
last_line_of bytes = max 1 (length (lines bytes))

-- the declared number of variables of a text, its statements before its first fault, and how it ends
abbrev pub Reads : Heads → List ℕ → ℕ → List Statement → Ending → Type 0
Reads heads bytes vars ss end = Says heads (text_tokens bytes) (last_line_of bytes) vars ss end

-- Nothing is wrong on these lines of a text, which were read before reading was cut off: none passes a limit, and their words
-- are in order with these statements.
pub record EndedIn (heads : Heads) (pieces : List (List ℕ)) (vars : ℕ) (ss : List Statement) : Type 0 where
  pub words : List (ℕ × List ℕ)
  pub are : tokens 0 1 pieces ≡ word_tokens words
  pub in_order : InOrder heads (texts words) vars ss
