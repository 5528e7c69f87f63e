use Rattle.std.proofs.Common.{◌≡◌, ◌∙◌, ◌+◌, ◌≤◌, subst, sym, ap, refl, arith, Ok, Err, ⊎_elim, inl, inr, List, ℕ, [], ◌∷◌, true}
use Rattle.std.proofs.lemmas.Bool.{false≢true}
use Rattle.std.proofs.KnownBytes.{Appends-nil}
use Rattle.sat_terms.specs.Limits.{max_var}
use Rattle.io_edge.specs.Reading.{rest_of}
use Rattle.icnf_reader.specs.ReadState.{ReadState, takes_cards, ReadAnswers, ReadsOver, read_is_last, is_item_fault, lits_in, given, HasVars, IsEndItem}
use Rattle.icnf_reader.specs.declared.item.Item.{Item}
use Rattle.icnf_reader.specs.declared.item.Item.TheVariants as item
use Rattle.icnf_reader.specs.declared.item.Stop.{Stop}
use Rattle.solver_api.specs.Steps.{state}
use Rattle.icnf_runner.specs.Session.{IsAnswered, IsHalfReplied}
use Rattle.icnf_runner.proofs.Goods.{good_start}
use Rattle.icnf_runner.proofs.Runs.{read_none, come_header, come_again, come_clause, come_query, finished, finished_last, begins_last, IsStopped, stopped_refuses, stopped_begins, stopped_short, begins, begins_reply, is_answer, is_answered, nothing_yet, no_answer, ends_at, begins_kept, fault_is, last_codes, last_answers, last_begins, last_no}
use Rattle.icnf_runner.proofs.run.run_input.Goals as goal

pub returns-in_default-clause-begins : goal.returns-in_default-clause-begins
returns-in_default-clause-begins g c = λ _. nothing_yet _ _ _

pub returns-in_default-new-clause-begins : goal.returns-in_default-new-clause-begins
returns-in_default-new-clause-begins g c = λ _. nothing_yet _ _ _

pub returns-in-Err-clause-refuses : goal.returns-in-Err-clause-refuses
returns-in-Err-clause-refuses g c =
    let left = g.S.Source.left in
    let w = g.K.Sink.written in
    let st : IsStopped c.in-Err.stop (w c.args.sink.now) (w c.stop_run.new.sink) c.stop_run.result.code = record {
      codes = c.stop_run.ensures.codes;
      whole = c.stop_run.ensures.written;
      begun = c.stop_run.ensures.begun;
      fault = c.stop_run.ensures.read_fault;
      same = λ e. ap w (c.stop_run.ensures.unwritten e);
    } in
    stopped_refuses c.args.options [] [] (w c.args.sink.now) (w c.args.sink.now) (w c.stop_run.new.sink) (left c.args.source.now) (left c.args.source.now) (left c.next.new.source) c.in-Ok.reader c.next.new.self c.in-Err.stop c.stop_run.result.code
    (read_none (left c.args.source.now) c.in-Ok.reader c.in-Ok.ensures) good_start (Appends-nil (w c.args.sink.now)) c.in-Err.ensures.answer st

pub returns-in-Err-clause-begins : goal.returns-in-Err-clause-begins
returns-in-Err-clause-begins g c =
    let left = g.S.Source.left in
    let w = g.K.Sink.written in
    let st : IsStopped c.in-Err.stop (w c.args.sink.now) (w c.stop_run.new.sink) c.stop_run.result.code = record {
      codes = c.stop_run.ensures.codes;
      whole = c.stop_run.ensures.written;
      begun = c.stop_run.ensures.begun;
      fault = c.stop_run.ensures.read_fault;
      same = λ e. ap w (c.stop_run.ensures.unwritten e);
    } in
    stopped_begins c.args.options [] [] (w c.args.sink.now) (w c.args.sink.now) (w c.stop_run.new.sink) (left c.args.source.now) (left c.args.source.now) (left c.next.new.source) c.in-Ok.reader c.next.new.self c.in-Err.stop c.stop_run.result.code
    (read_none (left c.args.source.now) c.in-Ok.reader c.in-Ok.ensures) good_start (Appends-nil (w c.args.sink.now)) c.in-Err.ensures.answer st

pub returns-in-Err-clause-cut_short : goal.returns-in-Err-clause-cut_short
returns-in-Err-clause-cut_short g c =
    let left = g.S.Source.left in
    let w = g.K.Sink.written in
    let st : IsStopped c.in-Err.stop (w c.args.sink.now) (w c.stop_run.new.sink) c.stop_run.result.code = record {
      codes = c.stop_run.ensures.codes;
      whole = c.stop_run.ensures.written;
      begun = c.stop_run.ensures.begun;
      fault = c.stop_run.ensures.read_fault;
      same = λ e. ap w (c.stop_run.ensures.unwritten e);
    } in
    stopped_short c.args.options [] [] (w c.args.sink.now) (w c.args.sink.now) (w c.stop_run.new.sink) (left c.args.source.now) (left c.args.source.now) (left c.next.new.source) c.in-Ok.reader c.next.new.self c.in-Err.stop c.stop_run.result.code
    (read_none (left c.args.source.now) c.in-Ok.reader c.in-Ok.ensures) good_start (Appends-nil (w c.args.sink.now)) c.in-Err.ensures.lines st (λ is. c.next.ensures.dry (c.in-Err.is ∙ ap Err is))

pub returns-in-Err-clause-no_read_fault : goal.returns-in-Err-clause-no_read_fault
returns-in-Err-clause-no_read_fault g c = λ not. c.next.ensures.no_fault (ap is_item_fault c.in-Err.is ∙ fault_is c.in-Err.stop ∙ c.stop_run.ensures.no_fault not)

pub loop-lits-init : goal.loop-lits-init
loop-lits-init g c =
    let left = g.S.Source.left in
    let w = g.K.Sink.written in
    let fresh = c.in-Ok.ensures in
    let W : Item → Type 0 = λ i. ReadAnswers c.in-Ok.reader c.next.new.self (left c.args.source.now) (left c.next.new.source) (Ok i) in
    let V : Item → Type 0 = λ i. ReadsOver c.in-Ok.reader c.next.new.self (left c.args.source.now) (left c.next.new.source) (Ok i) in
    let N : Item → Type 0 = λ i. given c.next.new.self.point ≡ given c.in-Ok.reader.point + lits_in i in
    let last = ap read_is_last c.in-Ok-Header.is ∙ ap (λ i. read_is_last (Ok i)) c.in-Ok-Header.field-0-is in
    record {
      come = come_header c.args.options (state c.in-Ok-new.solver) c.in-Ok-Header.header (w c.args.sink.now) (left c.args.source.now) (rest_of c.in-Ok.reader.words.lines (left c.args.source.now)) (rest_of c.next.new.self.words.lines (left c.next.new.source)) c.in-Ok.reader c.next.new.self
          c.in-Ok-new.ensures.unused (ap (λ r. given r.point) fresh) (read_none (left c.args.source.now) c.in-Ok.reader fresh) (subst W c.in-Ok-Header.field-0-is c.in-Ok-Header.ensures.answer) (subst V c.in-Ok-Header.field-0-is c.in-Ok-Header.ensures.lines)
          c.next.ensures.stays (subst N c.in-Ok-Header.field-0-is c.in-Ok-Header.ensures.count);
      going = c.next.ensures.done ∙ last;
      no_cards = c.next.ensures.cards (ap (λ r. takes_cards r.point.mode) fresh);
      read = c.next.ensures.no_fault (ap is_item_fault c.in-Ok-Header.is);
      wrote = refl;
      at_end = λ is. ends_at left _ _ (λ x. absurd (false≢true (sym (ap (λ r. r.words.lines.ended) fresh) ∙ x))) c.next.ensures.unread (c.next.ensures.at_end is);
    }

pub loop-lits-preserved-in-Ok-Header-next : goal.loop-lits-preserved-in-Ok-Header-next
loop-lits-preserved-in-Ok-Header-next g c =
    let left = g.S.Source.left in
    let old = c.loop-lits.reader in
    let next = c.next-in-loop-lits in
    let i = c.loop-lits.invariant in
    let arm = c.in-Ok-Header-next in
    let W : Item → Type 0 = λ i. ReadAnswers old next.new.self (left c.loop-lits.source) (left next.new.source) (Ok i) in
    let V : Item → Type 0 = λ i. ReadsOver old next.new.self (left c.loop-lits.source) (left next.new.source) (Ok i) in
    let N : Item → Type 0 = λ i. given next.new.self.point ≡ given old.point + lits_in i in
    let last = ap read_is_last arm.is ∙ ap (λ i. read_is_last (Ok i)) arm.field-0-is in
    record {
      come = come_again c.args.options c.in-Ok-Header.header (state c.loop-lits.solver) _ arm.field-0-0 _ _ _ _ _ old next.new.self i.come (subst W arm.field-0-is arm.ensures.answer) (subst V arm.field-0-is arm.ensures.lines) next.ensures.stays (subst N arm.field-0-is arm.ensures.count);
      going = next.ensures.done ∙ last;
      no_cards = next.ensures.cards i.no_cards;
      read = next.ensures.no_fault (ap is_item_fault arm.is) ∙ i.read;
      wrote = i.wrote;
      at_end = λ is. ends_at left _ _ i.at_end next.ensures.unread (next.ensures.at_end is);
    }

pub returns-in-Err-add_clause-clause-begins : goal.returns-in-Err-add_clause-clause-begins
returns-in-Err-add_clause-clause-begins g c = λ _. begins _ _ _ _ _ _ _ _ _ c.loop-lits.invariant.come

pub loop-lits-preserved-in-Ok-Clause : goal.loop-lits-preserved-in-Ok-Clause
loop-lits-preserved-in-Ok-Clause g c =
    let left = g.S.Source.left in
    let old = c.loop-lits.reader in
    let next = c.next-in-loop-lits in
    let i = c.loop-lits.invariant in
    let arm = c.in-Ok-Clause in
    let W : Item → Type 0 = λ i. ReadAnswers old next.new.self (left c.loop-lits.source) (left next.new.source) (Ok i) in
    let V : Item → Type 0 = λ i. ReadsOver old next.new.self (left c.loop-lits.source) (left next.new.source) (Ok i) in
    let N : Item → Type 0 = λ i. given next.new.self.point ≡ given old.point + lits_in i in
    let last = ap read_is_last arm.is ∙ ap (λ i. read_is_last (Ok i)) arm.field-0-is in
    record {
      come = come_clause c.args.options c.in-Ok-Header.header (state c.loop-lits.solver) (state c.add_clause.new.solver) _ arm.lits _ _ _ _ _ old next.new.self i.come (subst W arm.field-0-is arm.ensures.answer) (subst V arm.field-0-is arm.ensures.lines) next.ensures.stays (subst N arm.field-0-is arm.ensures.count) c.in-Ok-add_clause.ensures;
      going = next.ensures.done ∙ last;
      no_cards = next.ensures.cards i.no_cards;
      read = next.ensures.no_fault (ap is_item_fault arm.is) ∙ i.read;
      wrote = i.wrote;
      at_end = λ is. ends_at left _ _ i.at_end next.ensures.unread (next.ensures.at_end is);
    }

pub give_reply-requires-clause-vars : goal.give_reply-requires-clause-vars
give_reply-requires-clause-vars g c =
    let few : c.in-Ok-Header.header.vars ≤ max_var = subst HasVars c.in-Ok-Header.field-0-is c.in-Ok-Header.ensures.vars in
    omega (arith, few)

pub returns-in-Err-Write-clause-begins : goal.returns-in-Err-Write-clause-begins
returns-in-Err-Write-clause-begins g c =
    let left = g.S.Source.left in
    let w = g.K.Sink.written in
    let old = c.loop-lits.reader in
    let next = c.next-in-loop-lits in
    let arm = c.in-Ok-Query in
    let W : Item → Type 0 = λ i. ReadAnswers old next.new.self (left c.loop-lits.source) (left next.new.source) (Ok i) in
    let V : Item → Type 0 = λ i. ReadsOver old next.new.self (left c.loop-lits.source) (left next.new.source) (Ok i) in
    let H : List ℕ → Type 0 = λ a. IsHalfReplied c.args.options c.in-Ok-Header.header.vars (state c.loop-lits.solver) a (w c.loop-lits.sink) (w c.give_reply.new.sink) in
    λ _. begins_reply c.args.options c.in-Ok-Header.header (state c.loop-lits.solver) _ arm.lits _ _ _ _ _ _ old next.new.self c.loop-lits.invariant.come next.ensures.stays (subst W arm.field-0-is arm.ensures.answer) (subst V arm.field-0-is arm.ensures.lines)
    (subst H c.as_slice.ensures (c.give_reply.ensures.write (c.in-Err-Write.is ∙ ap Err c.in-Err-Write.field-0-is)))

pub returns-in-Err-Memory-clause-begins : goal.returns-in-Err-Memory-clause-begins
returns-in-Err-Memory-clause-begins g c =
    let w = g.K.Sink.written in
    let same = c.give_reply.ensures.memory (c.in-Err-Memory.is ∙ ap Err c.in-Err-Memory.field-0-is) in
    λ _. begins_kept _ _ _ _ _ (ap w same) (begins _ _ _ _ _ _ _ _ _ c.loop-lits.invariant.come)

pub loop-lits-preserved : goal.loop-lits-preserved
loop-lits-preserved g c =
    let left = g.S.Source.left in
    let w = g.K.Sink.written in
    let old = c.loop-lits.reader in
    let next = c.next-in-loop-lits in
    let i = c.loop-lits.invariant in
    let arm = c.in-Ok-Query in
    let W : Item → Type 0 = λ i. ReadAnswers old next.new.self (left c.loop-lits.source) (left next.new.source) (Ok i) in
    let V : Item → Type 0 = λ i. ReadsOver old next.new.self (left c.loop-lits.source) (left next.new.source) (Ok i) in
    let N : Item → Type 0 = λ i. given next.new.self.point ≡ given old.point + lits_in i in
    let last = ap read_is_last arm.is ∙ ap (λ i. read_is_last (Ok i)) arm.field-0-is in
    let H : List ℕ → Type 0 = λ a. IsAnswered c.args.options c.in-Ok-Header.header.vars (state c.loop-lits.solver) a (state c.give_reply.new.solver) (w c.loop-lits.sink) (w c.give_reply.new.sink) c.in-Ok-give_reply.last.code in
    record {
      come = come_query c.args.options c.in-Ok-Header.header (state c.loop-lits.solver) (state c.give_reply.new.solver) _ c.in-Ok-give_reply.last.code arm.lits _ _ _ _ _ _ old next.new.self i.come (subst W arm.field-0-is arm.ensures.answer) (subst V arm.field-0-is arm.ensures.lines) next.ensures.stays
          (subst N arm.field-0-is arm.ensures.count) (subst H c.as_slice.ensures c.in-Ok-give_reply.ensures.ok);
      going = next.ensures.done ∙ last;
      no_cards = next.ensures.cards i.no_cards;
      read = next.ensures.no_fault (ap is_item_fault arm.is) ∙ i.read;
      wrote = c.in-Ok-give_reply.ensures.kept refl ∙ i.wrote;
      at_end = λ is. ends_at left _ _ i.at_end next.ensures.unread (next.ensures.at_end is);
    }

pub returns-then-has_last_query-clause-answers : goal.returns-then-has_last_query-clause-answers
returns-then-has_last_query-clause-answers g c =
    let left = g.S.Source.left in
    let next = c.next-in-loop-lits in
    let arm = c.in-Ok-End in
    let W : Item → Type 0 = λ i. ReadAnswers c.loop-lits.reader next.new.self (left c.loop-lits.source) (left next.new.source) (Ok i) in
    λ a. last_answers c.args.options c.in-Ok-Header.header (state c.loop-lits.solver) c.loop-lits.status.code c.last_reply-last.result.code _ _ _ _ _ _ c.loop-lits.reader c.loop-lits.invariant.come (sym c.has_last_query.ensures ∙ c.if-has_last_query.true)
    (subst W arm.field-0-is arm.ensures.answer) c.last_reply-last.ensures.ends a

pub returns-then-has_last_query-clause-source_end : goal.returns-then-has_last_query-clause-source_end
returns-then-has_last_query-clause-source_end g c =
    let left = g.S.Source.left in
    let next = c.next-in-loop-lits in
    let arm = c.in-Ok-End in
    let E : Item → Type 0 = λ i. IsEndItem i → next.new.self.words.lines.ended ≡ true in
    let ended = subst E arm.field-0-is arm.ensures.end tt in
    λ _. ends_at left _ _ c.loop-lits.invariant.at_end next.ensures.unread (next.ensures.at_end ended)

pub returns-then-has_last_query-clause-refuses : goal.returns-then-has_last_query-clause-refuses
returns-then-has_last_query-clause-refuses g c = λ is. absurd (last_no c.args.options c.in-Ok-Header.header.vars (state c.loop-lits.solver) _ _ c.last_reply-last.result.code c.last_reply-last.ensures.ends (inl is))

pub returns-then-has_last_query-clause-begins : goal.returns-then-has_last_query-clause-begins
returns-then-has_last_query-clause-begins g c =
    let left = g.S.Source.left in
    let next = c.next-in-loop-lits in
    let arm = c.in-Ok-End in
    let W : Item → Type 0 = λ i. ReadAnswers c.loop-lits.reader next.new.self (left c.loop-lits.source) (left next.new.source) (Ok i) in
    λ a. last_begins c.args.options c.in-Ok-Header.header (state c.loop-lits.solver) c.loop-lits.status.code c.last_reply-last.result.code _ _ _ _ _ _ c.loop-lits.reader c.loop-lits.invariant.come (sym c.has_last_query.ensures ∙ c.if-has_last_query.true)
    (subst W arm.field-0-is arm.ensures.answer) c.last_reply-last.ensures.ends a

pub returns-then-has_last_query-clause-cut_short : goal.returns-then-has_last_query-clause-cut_short
returns-then-has_last_query-clause-cut_short g c = λ is. absurd (last_no c.args.options c.in-Ok-Header.header.vars (state c.loop-lits.solver) _ _ c.last_reply-last.result.code c.last_reply-last.ensures.ends (inr is))

pub returns-then-has_last_query-clause-read_fault : goal.returns-then-has_last_query-clause-read_fault
returns-then-has_last_query-clause-read_fault g c = λ is. absurd (last_no c.args.options c.in-Ok-Header.header.vars (state c.loop-lits.solver) _ _ c.last_reply-last.result.code c.last_reply-last.ensures.ends (inr is))

pub returns-in-Ok-End-clause-codes : goal.returns-in-Ok-End-clause-codes
returns-in-Ok-End-clause-codes g c = inl (is_answer c.loop-lits.invariant.come)

pub returns-in-Ok-End-clause-answers : goal.returns-in-Ok-End-clause-answers
returns-in-Ok-End-clause-answers g c =
    let left = g.S.Source.left in
    let next = c.next-in-loop-lits in
    let arm = c.in-Ok-End in
    let W : Item → Type 0 = λ i. ReadAnswers c.loop-lits.reader next.new.self (left c.loop-lits.source) (left next.new.source) (Ok i) in
    λ _. finished c.args.options c.in-Ok-Header.header (state c.loop-lits.solver) c.loop-lits.status.code _ _ _ _ _ c.loop-lits.reader c.loop-lits.invariant.come (sym c.has_last_query.ensures ∙ c.if-has_last_query.false)
    (subst W arm.field-0-is arm.ensures.answer)

pub returns-in-Ok-End-clause-source_end : goal.returns-in-Ok-End-clause-source_end
returns-in-Ok-End-clause-source_end g c =
    let left = g.S.Source.left in
    let next = c.next-in-loop-lits in
    let arm = c.in-Ok-End in
    let E : Item → Type 0 = λ i. IsEndItem i → next.new.self.words.lines.ended ≡ true in
    let ended = subst E arm.field-0-is arm.ensures.end tt in
    λ _. ends_at left _ _ c.loop-lits.invariant.at_end next.ensures.unread (next.ensures.at_end ended)

pub returns-in-Ok-End-clause-refuses : goal.returns-in-Ok-End-clause-refuses
returns-in-Ok-End-clause-refuses g c = λ is. absurd (no_answer _ (is_answer c.loop-lits.invariant.come) (inl is))

pub returns-in-Ok-End-clause-begins : goal.returns-in-Ok-End-clause-begins
returns-in-Ok-End-clause-begins g c = λ is. absurd (no_answer c.loop-lits.status.code (is_answer c.loop-lits.invariant.come) (inr is))

pub returns-in-Ok-End-clause-cut_short : goal.returns-in-Ok-End-clause-cut_short
returns-in-Ok-End-clause-cut_short g c = λ is. absurd (no_answer _ (is_answer c.loop-lits.invariant.come) (inr (inl is)))

pub returns-in-Ok-End-clause-read_fault : goal.returns-in-Ok-End-clause-read_fault
returns-in-Ok-End-clause-read_fault g c = λ is. absurd (no_answer _ (is_answer c.loop-lits.invariant.come) (inr (inl is)))

pub returns-in-Ok-End-clause-write_fault : goal.returns-in-Ok-End-clause-write_fault
returns-in-Ok-End-clause-write_fault g c = λ is. absurd (no_answer _ (is_answer c.loop-lits.invariant.come) (inr (inr (inl is))))

pub returns-in-Err-next-clause-answers : goal.returns-in-Err-next-clause-answers
returns-in-Err-next-clause-answers g c = λ is. absurd (no_answer _ is c.stop_run-in-Err-next.ensures.codes)

pub returns-in-Err-next-clause-refuses : goal.returns-in-Err-next-clause-refuses
returns-in-Err-next-clause-refuses g c =
    let left = g.S.Source.left in
    let w = g.K.Sink.written in
    let run = c.stop_run-in-Err-next in
    let arm = c.in-Err-next in
    let d = c.loop-lits.invariant.come in
    let st : IsStopped arm.stop (w c.loop-lits.sink) (w run.new.sink) run.result.code = record {
      codes = run.ensures.codes;
      whole = run.ensures.written;
      begun = run.ensures.begun;
      fault = run.ensures.read_fault;
      same = λ e. ap w (run.ensures.unwritten e);
    } in
    stopped_refuses c.args.options (item.Header c.in-Ok-Header.header ∷ d.front) d.replies (w c.args.sink.now) (w c.loop-lits.sink) (w run.new.sink) (left c.args.source.now) (left c.loop-lits.source) (left c.next-in-loop-lits.new.source) c.loop-lits.reader c.next-in-loop-lits.new.self arm.stop run.result.code
    d.has_read d.stands.good d.printed arm.ensures.answer st

pub returns-in-Err-next-clause-begins : goal.returns-in-Err-next-clause-begins
returns-in-Err-next-clause-begins g c =
    let left = g.S.Source.left in
    let w = g.K.Sink.written in
    let run = c.stop_run-in-Err-next in
    let arm = c.in-Err-next in
    let d = c.loop-lits.invariant.come in
    let st : IsStopped arm.stop (w c.loop-lits.sink) (w run.new.sink) run.result.code = record {
      codes = run.ensures.codes;
      whole = run.ensures.written;
      begun = run.ensures.begun;
      fault = run.ensures.read_fault;
      same = λ e. ap w (run.ensures.unwritten e);
    } in
    stopped_begins c.args.options (item.Header c.in-Ok-Header.header ∷ d.front) d.replies (w c.args.sink.now) (w c.loop-lits.sink) (w run.new.sink) (left c.args.source.now) (left c.loop-lits.source) (left c.next-in-loop-lits.new.source) c.loop-lits.reader c.next-in-loop-lits.new.self arm.stop run.result.code
    d.has_read d.stands.good d.printed arm.ensures.answer st

pub returns-in-Err-next-clause-cut_short : goal.returns-in-Err-next-clause-cut_short
returns-in-Err-next-clause-cut_short g c =
    let left = g.S.Source.left in
    let w = g.K.Sink.written in
    let run = c.stop_run-in-Err-next in
    let arm = c.in-Err-next in
    let d = c.loop-lits.invariant.come in
    let st : IsStopped arm.stop (w c.loop-lits.sink) (w run.new.sink) run.result.code = record {
      codes = run.ensures.codes;
      whole = run.ensures.written;
      begun = run.ensures.begun;
      fault = run.ensures.read_fault;
      same = λ e. ap w (run.ensures.unwritten e);
    } in
    stopped_short c.args.options (item.Header c.in-Ok-Header.header ∷ d.front) d.replies (w c.args.sink.now) (w c.loop-lits.sink) (w run.new.sink) (left c.args.source.now) (left c.loop-lits.source) (left c.next-in-loop-lits.new.source) c.loop-lits.reader c.next-in-loop-lits.new.self arm.stop run.result.code
    d.has_read d.stands.good d.printed arm.ensures.lines st (λ is. c.next-in-loop-lits.ensures.dry (arm.is ∙ ap Err is))
