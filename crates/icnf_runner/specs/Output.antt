-- What a run writes, by the options that were stated and the bytes that it reads.
use Rattle.std.specs.Prelude.{◌≡◌, ◌⊎◌, ℕ, ◌+◌, ◌^◌, Bool, true, false, List, [], ◌∷◌, ◌++◌, length, take, codes, IfSome}
use Rattle.std.specs.declared.option.Option.{Option}
use Rattle.std.specs.Fmt.{decimal}
use Rattle.std.specs.Io.KnownBytes.{Appends}
use Rattle.io_edge.specs.Told.{WhereTold}
use Rattle.io_edge.specs.Lines.{NoLf}
use Rattle.icnf_reader.specs.declared.item.Heads.TheVariants.{Clauses}
use Rattle.icnf_reader.specs.declared.item.Why.{Why}
use Rattle.icnf_reader.specs.Reasons.{why_text}
use Rattle.icnf_reader.specs.Grammar.{Statement, Clause, Card, Query}
use Rattle.icnf_reader.specs.Script.{Ending, Whole, Bad, Reads, EndedIn}
use Rattle.icnf_reader.specs.WordState.{TakesLines}
use Rattle.reply_text.specs.Reply.{Reply, Sat, Unsat, Unknown, code_of}
use Rattle.reply_text.specs.Text.{reply_text, checked_text}
use Rattle.icnf_runner.specs.Good.{GoodReplies}
use Rattle.icnf_runner.specs.declared.options.Options.{Options}

-- the line that closes the text of a refused input
abbrev pub closing_line : ℕ → Why → List ℕ
closing_line line why = codes "c refused at line " ++ (decimal line ++ (codes ": " ++ (why_text why ++ codes "\n")))

-- the line for words that are not accepted
abbrev pub usage_line : List ℕ
usage_line = codes "c usage: icnf_runner [--simplify | --self N] [--conflicts N] [--callbacks N] [--steps N] [--stats] [--check]\n"

-- the line that follows a model where the check was asked for
abbrev pub check_line : Bool → ℕ → Reply → List ℕ
check_line true count (Sat m) = checked_text count
check_line true count (Unsat core) = []
check_line true count (Unknown conflicts) = []
check_line false count reply = []

-- what is printed for a reply below so many parts and assumptions
abbrev pub printed_reply : Bool → ℕ → Reply → List ℕ
printed_reply check count reply = reply_text reply ++ check_line check count reply

-- what is printed for the replies to the queries of a script, of which the first stands below so many parts
abbrev pub texts_from : Bool → ℕ → List Statement → List Reply → List ℕ
texts_from check above [] replies = []
texts_from check above (Clause c ∷ ss) replies = texts_from check (above + 1) ss replies
texts_from check above (Card b ls ∷ ss) replies = texts_from check (above + 1) ss replies
texts_from check above (Query a ∷ ss) [] = []
texts_from check above (Query a ∷ ss) (r ∷ rs) = printed_reply check (above + length a) r ++ texts_from check above ss rs

abbrev pub script_text : Bool → List Statement → List Reply → List ℕ
script_text check script replies = texts_from check 0 script replies

-- the status that the last reply names, 0 if there is none
abbrev pub status_after : ℕ → List Reply → ℕ
status_after status [] = status
status_after status (r ∷ rs) = status_after (code_of r) rs

-- the statuses of an answered input
abbrev pub IsAnswer : ℕ → Type 0
IsAnswer code = (code ≡ 0) ⊎ ((code ≡ 10) ⊎ (code ≡ 20))

-- the statuses of a run that was broken off: a read fault, a write fault, and want of memory
abbrev pub IsBreak : ℕ → Type 0
IsBreak code = (code ≡ 3) ⊎ ((code ≡ 4) ⊎ (code ≡ 5))

-- the bytes are a whole input, and the text is that of good replies to every query, of which the last names the status
pub record Answers (o : Options) (code : ℕ) (bytes text : List ℕ) : Type 0 where
  pub vars : ℕ
  pub script : List Statement
  pub replies : List Reply
  pub reads : Reads Clauses bytes vars script Whole
  pub good : GoodReplies o.conflicts vars script replies
  pub printed : text ≡ script_text o.check script replies
  pub status : code ≡ status_after 0 replies

-- the bytes go wrong somewhere
pub record GoesWrong (bytes : List ℕ) : Type 0 where
  pub vars : ℕ
  pub script : List Statement
  pub line : ℕ
  pub why : Why
  pub reads : Reads Clauses bytes vars script (Bad line why)

-- the bytes go wrong, and the text is that of good replies to every query before, and then the line that names the place
pub record Refuses (o : Options) (bytes text : List ℕ) : Type 0 where
  pub vars : ℕ
  pub script : List Statement
  pub replies : List Reply
  pub line : ℕ
  pub why : Why
  pub reads : Reads Clauses bytes vars script (Bad line why)
  pub good : GoodReplies o.conflicts vars script replies
  pub printed : text ≡ script_text o.check script replies ++ closing_line line why

-- The text is the front of one that good replies to the first queries make, behind which the closing line may come.
pub record Begins (o : Options) (bytes text : List ℕ) : Type 0 where
  pub vars : ℕ
  pub script : List Statement
  pub ending : Ending
  pub reads : Reads Clauses bytes vars script ending
  pub front : List Statement
  pub back : List Statement
  pub cut : script ≡ front ++ back
  pub replies : List Reply
  pub good : GoodReplies o.conflicts vars front replies
  pub next : List ℕ
  pub may_come : (next ≡ []) ⊎ ((back ≡ []) × (line : ℕ) × (why : Why) × (ending ≡ Bad line why) × (next ≡ closing_line line why))
  pub size : ℕ
  pub printed : text ≡ take size (script_text o.check front replies ++ next)

-- Reading was cut off before `rest`. Nothing is wrong on the lines whose LF was taken, and the text is that of good replies to
-- exactly the queries that ended on them.
pub record IsCutShort (o : Options) (text bytes rest : List ℕ) : Type 0 where
  pub pieces : List (List ℕ)
  pub part : List ℕ
  pub taken : TakesLines pieces false bytes (part ++ rest)
  pub no_end : NoLf part
  pub vars : ℕ
  pub script : List Statement
  pub ended : EndedIn Clauses pieces vars script
  pub replies : List Reply
  pub good : GoodReplies o.conflicts vars script replies
  pub printed : text ≡ script_text o.check script replies

-- text was written of which P holds by the bytes that were to come, where these are told
abbrev pub Prints : Option (List ℕ) → Option (List ℕ) → Option (List ℕ) → (List ℕ → List ℕ → Type 0) → Type 0
Prints written written' left P = (text : List ℕ) × Appends written written' text × IfSome left (λ bytes. P bytes text)

-- the same, by the bytes before and after the run
abbrev pub PrintsBetween : Option (List ℕ) → Option (List ℕ) → Option (List ℕ) → Option (List ℕ) → (List ℕ → List ℕ → List ℕ → Type 0) → Type 0
PrintsBetween written written' left left' P = (text : List ℕ) × Appends written written' text × WhereTold left left' (P text)
