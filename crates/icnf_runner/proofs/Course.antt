-- How a run stands between two items.
use Rattle.std.specs.Prelude.{◌≡◌, ℕ, true, List, [], ◌∷◌, ◌++◌}
use Rattle.std.specs.declared.option.Option.{Option}
use Rattle.std.specs.Io.KnownBytes.{Appends}
use Rattle.io_edge.specs.Told.{WhereTold}
use Rattle.icnf_reader.specs.Tokens.{Token, tokens}
use Rattle.icnf_reader.specs.WordState.{TakesLines}
use Rattle.icnf_reader.specs.Grammar.{Statement}
use Rattle.icnf_reader.specs.Outcomes.{Outcome, reads, start, text_reads, statements_of}
use Rattle.icnf_reader.specs.ReadState.{ReadState, outcome, over, given}
use Rattle.icnf_reader.specs.declared.item.Heads.TheVariants.{Clauses}
use Rattle.icnf_reader.specs.declared.item.Header.{Header}
use Rattle.icnf_reader.specs.declared.item.Item.{Item}
use Rattle.icnf_reader.specs.declared.item.Item.TheVariants as item
use Rattle.icnf_reader.proofs.Said.{put_items}
use Rattle.solver_api.specs.Steps.{State}
use Rattle.reply_text.specs.Reply.{Reply}
use Rattle.icnf_runner.specs.declared.options.Options.{Options}
use Rattle.icnf_runner.specs.Good.{parts_of, greatest_in, IsSettled, GoodReplies}
use Rattle.icnf_runner.specs.Output.{status_after, script_text}

-- a solver that was told these statements and gave these replies within a budget of conflicts, with so many literals in the statements
pub record IsTold (budget vars : ℕ) (s : State) (script : List Statement) (replies : List Reply) (count : ℕ) : Type 0 where
  pub given_is : s.given ≡ parts_of script
  pub none : s.pending ≡ []
  pub greatest_is : s.greatest ≡ greatest_in script
  pub taken_is : s.taken ≡ count
  pub settles : IsSettled script replies → s.settled ≡ true
  pub good : GoodReplies budget vars script replies

-- Lines were taken, and what a text that begins with them says is these items and then what is said behind them.
pub record TakenTo (front : List Item) (now : ReadState) (before after : List ℕ) : Type 0 where
  pub pieces : List (List ℕ)
  pub taken : TakesLines pieces now.words.lines.ended before after
  pub leads : (others : List (List ℕ)) (tail : List Token) (last : ℕ) → reads (tokens 0 1 (pieces ++ others) ++ tail) (start Clauses) last ≡ put_items front (over now others tail last)

-- these items were read
pub record HasRead (front : List Item) (left rest : Option (List ℕ)) (now : ReadState) : Type 0 where
  pub read : WhereTold left rest (λ before after. text_reads Clauses before ≡ put_items front (outcome now after))
  pub taken : WhereTold left rest (TakenTo front now)

-- how far a run has come: the items that were read behind the header, and the replies that were given
pub record HasCome (o : Options) (h : Header) (s : State) (code : ℕ) (written written' left rest : Option (List ℕ)) (now : ReadState) : Type 0 where
  pub front : List Item
  pub replies : List Reply
  pub stands : IsTold o.conflicts h.vars s (statements_of front) replies (given now.point)
  pub code_is : code ≡ status_after 0 replies
  pub printed : Appends written written' (script_text o.check (statements_of front) replies)
  pub has_read : HasRead (item.Header h ∷ front) left rest now
