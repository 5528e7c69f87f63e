-- What a run keeps from item to item, and how it ends.
use Rattle.std.proofs.Common.{◌≡◌, ◌∙◌, sym, ap, refl, subst, arith, inl, inr, ⊎_elim, ℕ, ◌+◌, ◌≤◌, List, [], ◌∷◌, ◌++◌, length, append_assoc, Option, Some, None, Ok, Err, Bool, true, false}
use Rattle.std.specs.Prelude.{◌⊎◌, ◌↔◌, ◌≢◌, IfSome, IfNone, take}
use Rattle.std.proofs.lemmas.List.{append-nil, take_all}
use Rattle.std.proofs.Math.Seq.{take-append-add}
use Rattle.std.specs.Io.KnownBytes.{Appends, prepend_known, IsAtEnd}
use Rattle.std.proofs.KnownBytes.{Appends-trans, Appends-nil}
use Rattle.io_edge.specs.Told.{WhereTold, AppendsFront}
use Rattle.io_edge.specs.Reading.{rest_of}
use Rattle.icnf_reader.specs.Tokens.{tokens, CutOff}
use Rattle.icnf_reader.specs.Grammar.{Statement, Query, last_query}
use Rattle.icnf_reader.specs.Script.{Ending, Whole, Bad, Stopped, Reads}
use Rattle.icnf_reader.specs.Outcomes.{Outcome, start, nothing, text_reads, reads, put_item, statements_of, header_of, script_of, query_at_end}
use Rattle.icnf_reader.specs.ReadState.{ReadState, outcome, GivesItem, over, LeadsOver, StopsOver, ReadAnswers, ReadsOver, at_start, given, lits_in, is_item_fault}
use Rattle.icnf_reader.proofs.Left.{told_both, told_then, told_left, lines_then, not_ended}
use Rattle.icnf_reader.proofs.Reading.{outcome_at_start, statements_of-append}
use Rattle.icnf_reader.proofs.Said.{put_items}
use Rattle.icnf_reader.proofs.Grammars.{law_text_is_said, law_text_is_given, law_cut_is_said}
use Rattle.icnf_reader.specs.declared.item.Heads.TheVariants.{Clauses}
use Rattle.icnf_reader.specs.declared.item.HeadKind.{HeadKind}
use Rattle.icnf_reader.specs.declared.item.HeadKind.TheVariants.{Cnf, Knf, Inc}
use Rattle.icnf_reader.specs.declared.item.Header.{Header}
use Rattle.icnf_reader.specs.declared.item.Why.{Why}
use Rattle.icnf_reader.specs.declared.item.Stop.{Stop}
use Rattle.icnf_reader.specs.declared.item.Stop.TheVariants as stop
use Rattle.icnf_reader.specs.declared.item.Item.{Item}
use Rattle.icnf_reader.specs.declared.item.Item.TheVariants as item
use Rattle.solver_api.specs.Steps.{State, Step, unused}
use Rattle.solver_api.specs.declared.calls.Call.TheVariants as calls
use Rattle.solver_api.specs.declared.calls.Reply.TheVariants as answers
use Rattle.reply_text.specs.Reply.{Reply, Sat, Unsat, Unknown, code_of}
use Rattle.icnf_runner.specs.declared.options.Options.{Options}
use Rattle.icnf_runner.specs.Good.{GoodReplies, parts_of}
use Rattle.icnf_runner.specs.Output.{status_after, IsAnswer, IsBreak, Answers, Refuses, GoesWrong, Begins, IsCutShort, Prints, PrintsBetween, closing_line, script_text, printed_reply}
use Rattle.icnf_runner.specs.Session.{shown, checks, IsReplied, IsAnswered, IsHalfReplied}
use Rattle.icnf_runner.specs.Runs.{IsBadStop, is_read_stop, asks_at_end, EndsReply}
use Rattle.icnf_runner.proofs.Course.{IsTold, TakenTo, HasRead, HasCome}
use Rattle.icnf_runner.proofs.Goods.{good_start, no_replies, text_query, text_clause}
use Rattle.icnf_runner.proofs.Sessions.{stands_unused, stands_clause, stands_query, good_half, checks_is, shown_code}

status_push : (k : ℕ) (rs : List Reply) (r : Reply) → status_after k (rs ++ r ∷ []) ≡ code_of r
status_push k [] r = refl
status_push k (s ∷ rs) r = status_push (code_of s) rs r

-- the next item is read
read_more : (left rest rest' : Option (List ℕ)) (now new : ReadState) (front : List Item) (i : Item)
    → WhereTold left rest (λ before after. text_reads Clauses before ≡ put_items front (outcome now after)) → WhereTold rest rest' (GivesItem now new i)
    → WhereTold left rest' (λ before after. text_reads Clauses before ≡ put_items (front ++ i ∷ []) (outcome new after))
read_more left rest rest' now new front i told next = told_both left rest rest' (λ x y z p q.
    p ∙ ap (put_items front) q ∙ ap (λ l. record { items = l; ending = (outcome new z).ending }) (sym (append_assoc front (i ∷ []) (outcome new z).items))) told next

-- and its lines are taken
taken_more : (left rest rest' : Option (List ℕ)) (now new : ReadState) (front : List Item) (i : Item) → (now.words.lines.ended ≡ true → new.words.lines.ended ≡ true)
    → WhereTold left rest (TakenTo front now) → WhereTold rest rest' (LeadsOver now new (put_item i)) → WhereTold left rest' (TakenTo (front ++ i ∷ []) new)
taken_more left rest rest' now new front i stays told next = told_both left rest rest' (λ x y z p q. record {
  pieces = p.pieces ++ q.pieces;
  taken = lines_then p.pieces q.pieces now.words.lines.ended new.words.lines.ended x y z (not_ended now.words.lines.ended new.words.lines.ended stays) p.taken q.taken;
  leads = λ others tail last. ap (λ ls. reads (tokens 0 1 ls ++ tail) (start Clauses) last) (append_assoc p.pieces q.pieces others) ∙ p.leads (q.pieces ++ others) tail last
      ∙ ap (put_items front) (q.leads others tail last)
      ∙ ap (λ l. record { items = l; ending = (over new others tail last).ending }) (sym (append_assoc front (i ∷ []) (over new others tail last).items));
}) told next

-- an item is read, and its lines are taken
has_read_more : (left rest rest' : Option (List ℕ)) (now new : ReadState) (front : List Item) (i : Item) → (now.words.lines.ended ≡ true → new.words.lines.ended ≡ true) → HasRead front left rest now
    → WhereTold rest rest' (GivesItem now new i) → WhereTold rest rest' (LeadsOver now new (put_item i)) → HasRead (front ++ i ∷ []) left rest' new
has_read_more left rest rest' now new front i stays h next lead = record {
  read = read_more left rest rest' now new front i h.read next;
  taken = taken_more left rest rest' now new front i stays h.taken lead;
}

-- nothing was read
pub read_none : (left : Option (List ℕ)) (r : ReadState) → r ≡ at_start Clauses → HasRead [] left (rest_of r.words.lines left) r
read_none left r fresh =
    let P : ReadState → Type 0 = λ q. HasRead [] left (rest_of q.words.lines left) q in
    subst P (sym fresh) (record { read = begun left; taken = opened left })
  where
    begun : (left : Option (List ℕ)) → WhereTold left (rest_of (at_start Clauses).words.lines left) (λ before after. text_reads Clauses before ≡ put_items [] (outcome (at_start Clauses) after))
    begun None = tt
    begun (Some bytes) = sym (outcome_at_start Clauses bytes)

    none_taken : (bytes : List ℕ) → TakenTo [] (at_start Clauses) bytes bytes
    none_taken bytes = record {
      pieces = [];
      taken = record { bytes = refl; whatever = λ e more. refl };
      leads = λ others tail last. refl;
    }

    opened : (left : Option (List ℕ)) → WhereTold left (rest_of (at_start Clauses).words.lines left) (TakenTo [] (at_start Clauses))
    opened None = tt
    opened (Some bytes) = none_taken bytes

said_push : (front : List Item) (i : Item) → statements_of (front ++ i ∷ []) ≡ statements_of front ++ statements_of (i ∷ [])
said_push front i = statements_of-append front (i ∷ [])

-- the header is read
pub come_header : (o : Options) (s : State) (h : Header) (written left rest rest' : Option (List ℕ)) (now new : ReadState) → s ≡ unused → given now.point ≡ 0 → HasRead [] left rest now
    → WhereTold rest rest' (GivesItem now new (item.Header h)) → WhereTold rest rest' (LeadsOver now new (put_item (item.Header h)))
    → (now.words.lines.ended ≡ true → new.words.lines.ended ≡ true) → given new.point ≡ given now.point + lits_in (item.Header h) → HasCome o h s 0 written written left rest' new
come_header o s h written left rest rest' now new told zero d next lead stays count =
    let P : ℕ → Type 0 = λ n. IsTold o.conflicts h.vars s [] [] n in
    let none : 0 ≡ given new.point = omega (arith, count, zero) in
    record {
      front = [];
      replies = [];
      stands = subst P none (stands_unused s told);
      code_is = refl;
      printed = Appends-nil written;
      has_read = has_read_more left rest rest' now new [] (item.Header h) stays d next lead;
    }

-- another header changes nothing
pub come_again : (o : Options) (k : Header) (s : State) (code : ℕ) (h : Header) (written written' left rest rest' : Option (List ℕ)) (now new : ReadState)
    → HasCome o k s code written written' left rest now → WhereTold rest rest' (GivesItem now new (item.Header h)) → WhereTold rest rest' (LeadsOver now new (put_item (item.Header h)))
    → (now.words.lines.ended ≡ true → new.words.lines.ended ≡ true) → given new.point ≡ given now.point + lits_in (item.Header h) → HasCome o k s code written written' left rest' new
come_again o k s code h written written' left rest rest' now new d next lead stays count =
    let P : List Statement → ℕ → Type 0 = λ ss n. IsTold o.conflicts k.vars s ss d.replies n in
    let W : List Statement → Type 0 = λ ss. Appends written written' (script_text o.check ss d.replies) in
    let same : statements_of d.front ≡ statements_of (d.front ++ item.Header h ∷ []) = sym (said_push d.front (item.Header h) ∙ append-nil (statements_of d.front)) in
    let none : given now.point ≡ given new.point = omega (arith, count) in
    record {
      front = d.front ++ item.Header h ∷ [];
      replies = d.replies;
      stands = subst (P (statements_of (d.front ++ item.Header h ∷ []))) none (subst (λ ss. P ss (given now.point)) same d.stands);
      code_is = d.code_is;
      printed = subst W same d.printed;
      has_read = has_read_more left rest rest' now new (item.Header k ∷ d.front) (item.Header h) stays d.has_read next lead;
    }

-- a clause is read and added
pub come_clause : (o : Options) (k : Header) (s s' : State) (code : ℕ) (c : List ℕ) (written written' left rest rest' : Option (List ℕ)) (now new : ReadState)
    → HasCome o k s code written written' left rest now → WhereTold rest rest' (GivesItem now new (item.Clause c)) → WhereTold rest rest' (LeadsOver now new (put_item (item.Clause c)))
    → (now.words.lines.ended ≡ true → new.words.lines.ended ≡ true) → given new.point ≡ given now.point + lits_in (item.Clause c)
    → Step s (calls.Add c) (Ok answers.Done) s' → HasCome o k s' code written written' left rest' new
come_clause o k s s' code c written written' left rest rest' now new d next lead stays count step =
    let P : List Statement → ℕ → Type 0 = λ ss n. IsTold o.conflicts k.vars s' ss d.replies n in
    let W : List ℕ → Type 0 = λ t. Appends written written' t in
    let front = statements_of d.front in
    record {
      front = d.front ++ item.Clause c ∷ [];
      replies = d.replies;
      stands = subst (P (statements_of (d.front ++ item.Clause c ∷ []))) (sym count)
          (subst (λ ss. P ss (given now.point + length c)) (sym (said_push d.front (item.Clause c))) (stands_clause s s' front d.replies c (given now.point) d.stands step));
      code_is = d.code_is;
      printed = subst W (sym (ap (λ ss. script_text o.check ss d.replies) (said_push d.front (item.Clause c)) ∙ text_clause o.check 0 front d.replies c)) d.printed;
      has_read = has_read_more left rest rest' now new (item.Header k ∷ d.front) (item.Clause c) stays d.has_read next lead;
    }

-- what is printed for one more query
more_text : (o : Options) (vars : ℕ) (s s' : State) (script : List Statement) (replies : List Reply) (a : List ℕ) (n : ℕ) → IsTold o.conflicts vars s script replies n → (P : List ℕ → Type 0) → (r : IsReplied o vars s a s' P)
    → script_text o.check (script ++ Query a ∷ []) (replies ++ shown vars r.reply ∷ []) ≡ script_text o.check script replies ++ printed_reply o.check (checks s') (shown vars r.reply)
more_text o vars s s' script replies a n st P r =
    text_query o.check 0 script replies a (shown vars r.reply) st.good.one_each
    ∙ ap (λ k. script_text o.check script replies ++ printed_reply o.check k (shown vars r.reply)) (sym (checks_is s s' script replies a r.reply n st r.gives))

-- a query is read and replied to
pub come_query : (o : Options) (k : Header) (s s' : State) (code code' : ℕ) (a : List ℕ) (written written' written'' left rest rest' : Option (List ℕ)) (now new : ReadState)
    → HasCome o k s code written written' left rest now → WhereTold rest rest' (GivesItem now new (item.Query a)) → WhereTold rest rest' (LeadsOver now new (put_item (item.Query a)))
    → (now.words.lines.ended ≡ true → new.words.lines.ended ≡ true) → given new.point ≡ given now.point + lits_in (item.Query a)
    → IsAnswered o k.vars s a s' written' written'' code' → HasCome o k s' code' written written'' left rest' new
come_query o k s s' code code' a written written' written'' left rest rest' now new d next lead stays count r =
    let reply = shown k.vars r.replied.reply in
    let P : List Statement → ℕ → Type 0 = λ ss n. IsTold o.conflicts k.vars s' ss (d.replies ++ reply ∷ []) n in
    let W : List ℕ → Type 0 = λ t. Appends written written'' t in
    let front = statements_of d.front in
    let text = ap (λ ss. script_text o.check ss (d.replies ++ reply ∷ [])) (said_push d.front (item.Query a)) ∙ more_text o k.vars s s' front d.replies a (given now.point) d.stands (Appends written' written'') r.replied in
    record {
      front = d.front ++ item.Query a ∷ [];
      replies = d.replies ++ reply ∷ [];
      stands = subst (P (statements_of (d.front ++ item.Query a ∷ []))) (sym count)
          (subst (λ ss. P ss (given now.point + length a)) (sym (said_push d.front (item.Query a))) (stands_query s s' front d.replies a r.replied.reply (given now.point) d.stands r.replied.gives));
      code_is = r.code_is ∙ sym (shown_code k.vars r.replied.reply) ∙ sym (status_push 0 d.replies reply);
      printed = subst W (sym text) (Appends-trans written written' written'' (script_text o.check front d.replies) (printed_reply o.check (checks s') reply) d.printed r.replied.printed);
      has_read = has_read_more left rest rest' now new (item.Header k ∷ d.front) (item.Query a) stays d.has_read next lead;
    }

told_first : {P Q : List ℕ → List ℕ → Type 0} {R : List ℕ → Type 0} (a b c : Option (List ℕ)) → ((x y z : List ℕ) → P x y → Q y z → R x) → WhereTold a b P → WhereTold b c Q → IfSome a R
told_first None b c f p q = tt
told_first (Some x) None c f p q = absurd p
told_first (Some x) (Some y) None f p q = absurd q
told_first (Some x) (Some y) (Some z) f p q = f x y z p q

-- the statuses of replies
status_answer : (k : ℕ) (rs : List Reply) → IsAnswer k → IsAnswer (status_after k rs)
status_answer k [] h = h
status_answer k (Sat m ∷ rs) h = status_answer 10 rs (inr (inl refl))
status_answer k (Unsat c ∷ rs) h = status_answer 20 rs (inr (inr refl))
status_answer k (Unknown conflicts ∷ rs) h = status_answer 0 rs (inl refl)

pub is_answer : {o : Options} {k : Header} {s : State} {code : ℕ} {written written' left rest : Option (List ℕ)} {now : ReadState} → HasCome o k s code written written' left rest now → IsAnswer code
is_answer {o} {k} {s} {code} d = let P : ℕ → Type 0 = λ k. IsAnswer k in subst P (sym d.code_is) (status_answer 0 d.replies (inl refl))

-- the status of one more reply
pub is_answered : {o : Options} {vars : ℕ} {s s' : State} {a : List ℕ} {written written' : Option (List ℕ)} {code : ℕ} → IsAnswered o vars s a s' written written' code → IsAnswer code
is_answered {o} {vars} {s} {s'} {a} {written} {written'} {code} r = let P : ℕ → Type 0 = λ k. IsAnswer k in subst P (sym r.code_is) (of r.replied.reply)
  where
    of : (reply : Reply) → IsAnswer (code_of reply)
    of (Sat m) = inr (inl refl)
    of (Unsat c) = inr (inr refl)
    of (Unknown conflicts) = inl refl

-- the bytes say the statements of the items that were read, and end so
said : (bytes : List ℕ) (now : ReadState) (front : List Item) (rest : List ℕ) (e : Ending) → text_reads Clauses bytes ≡ put_items front (outcome now rest) → outcome now rest ≡ nothing e
    → Reads Clauses bytes (header_of front).vars (statements_of front ++ query_at_end e (header_of front).kind) e
said bytes now front rest e p q =
    let whole : text_reads Clauses bytes ≡ record { items = front; ending = e } = p ∙ ap (put_items front) q ∙ ap (λ (l : List Item). let x : Outcome = record { items = l; ending = e } in x) (append-nil front) in
    law_text_is_said Clauses bytes (header_of front).vars (statements_of front ++ query_at_end e (header_of front).kind) e
    (ap (λ (o : Outcome). (header_of o.items).vars) whole, ap script_of whole, ap (λ (o : Outcome). o.ending) whole)

said_bad : (bytes : List ℕ) (now : ReadState) (front : List Item) (rest : List ℕ) (line : ℕ) (why : Why) → text_reads Clauses bytes ≡ put_items front (outcome now rest) → outcome now rest ≡ nothing (Bad line why)
    → Reads Clauses bytes (header_of front).vars (statements_of front) (Bad line why)
said_bad bytes now front rest line why p q =
    let P : List Statement → Type 0 = λ ss. Reads Clauses bytes (header_of front).vars ss (Bad line why) in
    subst P (append-nil (statements_of front)) (said bytes now front rest (Bad line why) p q)

-- a whole input was read, whose end is no query
no_last : (kind : HeadKind) → asks_at_end kind ≡ false → last_query kind ≡ []
no_last Cnf e = absurd (cc)
no_last Knf e = absurd (cc)
no_last Inc e = refl

one_last : (kind : HeadKind) → asks_at_end kind ≡ true → last_query kind ≡ Query [] ∷ []
one_last Cnf e = refl
one_last Knf e = refl
one_last Inc e = absurd (cc)

pub finished : (o : Options) (k : Header) (s : State) (code : ℕ) (written written' left rest rest' : Option (List ℕ)) (now : ReadState) → HasCome o k s code written written' left rest now → asks_at_end k.kind ≡ false
    → WhereTold rest rest' (λ before after. (outcome now before ≡ nothing Whole) × (after ≡ [])) → Prints written written' left (Answers o code)
finished o k s code written written' left rest rest' now d last end = (
  script_text o.check (statements_of d.front) d.replies,
  d.printed,
  told_first left rest rest' (λ x y z p q.
      let R : List Statement → Type 0 = λ ss. Reads Clauses x k.vars ss Whole in
      record {
        vars = k.vars;
        script = statements_of d.front;
        replies = d.replies;
        reads = subst R (ap (λ l. statements_of d.front ++ l) (no_last k.kind last) ∙ append-nil (statements_of d.front)) (said x now (item.Header k ∷ d.front) y Whole p q.0);
        good = d.stands.good;
        printed = refl;
        status = d.code_is;
      }) d.has_read.read end,
)

-- a whole input was read, and the query at its end was replied to
pub finished_last : (o : Options) (k : Header) (s s' : State) (code code' : ℕ) (written written' written'' left rest rest' : Option (List ℕ)) (now : ReadState) → HasCome o k s code written written' left rest now
    → asks_at_end k.kind ≡ true → WhereTold rest rest' (λ before after. (outcome now before ≡ nothing Whole) × (after ≡ [])) → IsAnswered o k.vars s [] s' written' written'' code' → Prints written written'' left (Answers o code')
finished_last o k s s' code code' written written' written'' left rest rest' now d last end r =
    let reply = shown k.vars r.replied.reply in
    let front = statements_of d.front in
    let text = more_text o k.vars s s' front d.replies [] (given now.point) d.stands (Appends written' written'') r.replied in (
      script_text o.check front d.replies ++ printed_reply o.check (checks s') reply,
      Appends-trans written written' written'' (script_text o.check front d.replies) (printed_reply o.check (checks s') reply) d.printed r.replied.printed,
      told_first left rest rest' (λ x y z p q.
          let R : List Statement → Type 0 = λ ss. Reads Clauses x k.vars ss Whole in
          record {
            vars = k.vars;
            script = front ++ Query [] ∷ [];
            replies = d.replies ++ reply ∷ [];
            reads = subst R (ap (λ l. front ++ l) (one_last k.kind last)) (said x now (item.Header k ∷ d.front) y Whole p q.0);
            good = good_half s s' front d.replies [] r.replied.reply (given now.point) d.stands r.replied.gives;
            printed = sym text;
            status = r.code_is ∙ sym (shown_code k.vars r.replied.reply) ∙ sym (status_push 0 d.replies reply);
          }) d.has_read.read end,
    )

-- the query at the end was replied to in part
pub begins_last : (o : Options) (k : Header) (s : State) (code : ℕ) (written written' written'' left rest rest' : Option (List ℕ)) (now : ReadState) → HasCome o k s code written written' left rest now
    → asks_at_end k.kind ≡ true → WhereTold rest rest' (λ before after. (outcome now before ≡ nothing Whole) × (after ≡ [])) → IsHalfReplied o k.vars s [] written' written'' → Prints written written'' left (Begins o)
begins_last o k s code written written' written'' left rest rest' now d last end b =
    let reply = shown k.vars b.replied.reply in
    let front = statements_of d.front in
    let n = b.replied.printed.0 in
    let whole = printed_reply o.check (checks b.new) reply in
    let text = more_text o k.vars s b.new front d.replies [] (given now.point) d.stands (AppendsFront written' written'') b.replied in (
      script_text o.check front d.replies ++ take n whole,
      Appends-trans written written' written'' (script_text o.check front d.replies) (take n whole) d.printed b.replied.printed.1,
      told_first left rest rest' (λ x y z p q.
          let R : List Statement → Type 0 = λ ss. Reads Clauses x k.vars ss Whole in
          record {
            vars = k.vars;
            script = front ++ Query [] ∷ [];
            ending = Whole;
            reads = subst R (ap (λ l. front ++ l) (one_last k.kind last)) (said x now (item.Header k ∷ d.front) y Whole p q.0);
            front = front ++ Query [] ∷ [];
            back = [];
            cut = sym (append-nil (front ++ Query [] ∷ []));
            replies = d.replies ++ reply ∷ [];
            good = good_half s b.new front d.replies [] b.replied.reply (given now.point) d.stands b.replied.gives;
            next = [];
            may_come = inl refl;
            size = length (script_text o.check front d.replies) + n;
            printed = sym (ap (take (length (script_text o.check front d.replies) + n)) (append-nil (script_text o.check (front ++ Query [] ∷ []) (d.replies ++ reply ∷ [])) ∙ text)
                ∙ take-append-add (script_text o.check front d.replies) whole n);
          }) d.has_read.read end,
    )

-- a bad line was read, and the closing line was written
refused : (o : Options) (all : List Item) (replies : List Reply) (written written' written'' left rest : Option (List ℕ)) (now : ReadState) (line : ℕ) (why : Why) → HasRead all left rest now
    → GoodReplies o.conflicts (header_of all).vars (statements_of all) replies → Appends written written' (script_text o.check (statements_of all) replies)
    → IfSome rest (λ before. outcome now before ≡ nothing (Bad line why)) → Appends written' written'' (closing_line line why) → Prints written written'' left (Refuses o)
refused o all replies written written' written'' left rest now line why d good printed end closing = (
  script_text o.check (statements_of all) replies ++ closing_line line why,
  Appends-trans written written' written'' (script_text o.check (statements_of all) replies) (closing_line line why) printed closing,
  told_then left rest (λ x y p q. record {
    vars = (header_of all).vars;
    script = statements_of all;
    replies = replies;
    line = line;
    why = why;
    reads = said_bad x now all y line why p q;
    good = good;
    printed = refl;
  }) d.read end,
)

-- the run breaks off in the closing line
begins_closing : (o : Options) (all : List Item) (replies : List Reply) (written written' written'' left rest : Option (List ℕ)) (now : ReadState) (line : ℕ) (why : Why) → HasRead all left rest now
    → GoodReplies o.conflicts (header_of all).vars (statements_of all) replies → Appends written written' (script_text o.check (statements_of all) replies)
    → IfSome rest (λ before. outcome now before ≡ nothing (Bad line why)) → AppendsFront written' written'' (closing_line line why) → Prints written written'' left (Begins o)
begins_closing o all replies written written' written'' left rest now line why d good printed end part = (
  script_text o.check (statements_of all) replies ++ take part.0 (closing_line line why),
  Appends-trans written written' written'' (script_text o.check (statements_of all) replies) (take part.0 (closing_line line why)) printed part.1,
  told_then left rest (λ x y p q. record {
    vars = (header_of all).vars;
    script = statements_of all;
    ending = Bad line why;
    reads = said_bad x now all y line why p q;
    front = statements_of all;
    back = [];
    cut = sym (append-nil (statements_of all));
    replies = replies;
    good = good;
    next = closing_line line why;
    may_come = inr (refl, line, why, refl, refl);
    size = length (script_text o.check (statements_of all) replies) + part.0;
    printed = sym (take-append-add (script_text o.check (statements_of all) replies) (closing_line line why) part.0);
  }) d.read end,
)

-- what the bytes say begins with what was read
record SaysMore (bytes : List ℕ) (front : List Item) : Type 0 where
  vars : ℕ
  back : List Statement
  ending : Ending
  reads : Reads Clauses bytes vars (statements_of front ++ back) ending
  vars_are : (front ≡ []) ⊎ (vars ≡ (header_of front).vars)

head_stays : (front more : List Item) → (front ≡ []) ⊎ ((header_of (front ++ more)).vars ≡ (header_of front).vars)
head_stays [] more = inl refl
head_stays (item.Header h ∷ front) more = inr refl
head_stays (item.Clause c ∷ front) more = inr refl
head_stays (item.Card b ls ∷ front) more = inr refl
head_stays (item.Query c ∷ front) more = inr refl
head_stays (item.End ∷ front) more = inr refl

says_more : (bytes : List ℕ) (now : ReadState) (front : List Item) (rest : List ℕ) → text_reads Clauses bytes ≡ put_items front (outcome now rest) → SaysMore bytes front
says_more bytes now front rest p =
    let o = outcome now rest in
    let all = front ++ o.items in
    let back = statements_of o.items ++ query_at_end o.ending (header_of all).kind in
    record {
      vars = (header_of all).vars;
      back = back;
      ending = o.ending;
      reads = law_text_is_said Clauses bytes (header_of all).vars (statements_of front ++ back) o.ending (
        ap (λ (x : Outcome). (header_of x.items).vars) p,
        ap script_of p ∙ ap (λ ss. ss ++ query_at_end o.ending (header_of all).kind) (statements_of-append front o.items)
            ∙ append_assoc (statements_of front) (statements_of o.items) (query_at_end o.ending (header_of all).kind),
        ap (λ (x : Outcome). x.ending) p,
      );
      vars_are = head_stays front o.items;
    }

-- good replies to what was read are good for what is declared
good_vars : (budget vars : ℕ) (front : List Item) (replies : List Reply) → (front ≡ []) ⊎ (vars ≡ (header_of front).vars) → GoodReplies budget (header_of front).vars (statements_of front) replies
    → GoodReplies budget vars (statements_of front) replies
good_vars budget vars front replies c h = ⊎_elim
    (λ (e : front ≡ []).
    let P : List Item → Type 0 = λ l. GoodReplies budget (header_of l).vars (statements_of l) replies in
    let none = no_replies replies (subst P e h) in
    let Q : List Item → List Reply → Type 0 = λ l rs. GoodReplies budget vars (statements_of l) rs in
    subst (λ l. Q l replies) (sym e) (subst (Q []) (sym none) good_start))
    (λ (e : vars ≡ (header_of front).vars). let P : ℕ → Type 0 = λ v. GoodReplies budget v (statements_of front) replies in subst P (sym e) h)
    c

-- the run breaks off where so much of the text was written
begins_at : (o : Options) (all : List Item) (replies : List Reply) (written written' left rest : Option (List ℕ)) (now : ReadState) (size : ℕ) → HasRead all left rest now
    → GoodReplies o.conflicts (header_of all).vars (statements_of all) replies → Appends written written' (take size (script_text o.check (statements_of all) replies)) → Prints written written' left (Begins o)
begins_at o all replies written written' left rest now size d good printed = (
  take size (script_text o.check (statements_of all) replies),
  printed,
  told_left left rest (λ x y p.
      let more = says_more x now all y p in
      record {
        vars = more.vars;
        script = statements_of all ++ more.back;
        ending = more.ending;
        reads = more.reads;
        front = statements_of all;
        back = more.back;
        cut = refl;
        replies = replies;
        good = good_vars o.conflicts more.vars all replies more.vars_are good;
        next = [];
        may_come = inl refl;
        size = size;
        printed = sym (ap (take size) (append-nil (script_text o.check (statements_of all) replies)));
      }) d.read,
)

-- the run breaks off between two replies
begins_whole : (o : Options) (all : List Item) (replies : List Reply) (written written' left rest : Option (List ℕ)) (now : ReadState) → HasRead all left rest now
    → GoodReplies o.conflicts (header_of all).vars (statements_of all) replies → Appends written written' (script_text o.check (statements_of all) replies) → Prints written written' left (Begins o)
begins_whole o all replies written written' left rest now d good printed =
    let text = script_text o.check (statements_of all) replies in
    let P : List ℕ → Type 0 = λ t. Appends written written' t in
    begins_at o all replies written written' left rest now (length text) d good (subst P (sym (take_all (length text) text (omega arith))) printed)

pub begins : (o : Options) (k : Header) (s : State) (code : ℕ) (written written' left rest : Option (List ℕ)) (now : ReadState) → HasCome o k s code written written' left rest now → Prints written written' left (Begins o)
begins o k s code written written' left rest now d = begins_whole o (item.Header k ∷ d.front) d.replies written written' left rest now d.has_read d.stands.good d.printed

-- nothing was read or written
pub nothing_yet : (o : Options) (left written : Option (List ℕ)) → Prints written written left (Begins o)
nothing_yet o left written = begins_whole o [] [] written written left (rest_of (at_start Clauses).words.lines left) (at_start Clauses) (read_none left (at_start Clauses) refl) good_start (Appends-nil written)

-- the run breaks off in a reply
pub begins_reply : (o : Options) (k : Header) (s : State) (code : ℕ) (a : List ℕ) (written written' written'' left rest rest' : Option (List ℕ)) (now new : ReadState)
    → HasCome o k s code written written' left rest now → (now.words.lines.ended ≡ true → new.words.lines.ended ≡ true) → WhereTold rest rest' (GivesItem now new (item.Query a)) → WhereTold rest rest' (LeadsOver now new (put_item (item.Query a)))
    → IsHalfReplied o k.vars s a written' written'' → Prints written written'' left (Begins o)
begins_reply o k s code a written written' written'' left rest rest' now new d stays next lead b =
    let reply = shown k.vars b.replied.reply in
    let front = statements_of d.front in
    let n = b.replied.printed.0 in
    let whole = printed_reply o.check (checks b.new) reply in
    let all = item.Header k ∷ (d.front ++ item.Query a ∷ []) in
    let P : List Statement → Type 0 = λ ss. GoodReplies o.conflicts k.vars ss (d.replies ++ reply ∷ []) in
    let W : List ℕ → Type 0 = λ t. Appends written written'' t in
    let text = ap (λ ss. script_text o.check ss (d.replies ++ reply ∷ [])) (said_push d.front (item.Query a)) ∙ more_text o k.vars s b.new front d.replies a (given now.point) d.stands (AppendsFront written' written'') b.replied in
    begins_at o all (d.replies ++ reply ∷ []) written written'' left rest' new (length (script_text o.check front d.replies) + n)
    (has_read_more left rest rest' now new (item.Header k ∷ d.front) (item.Query a) stays d.has_read next lead)
    (subst P (sym (said_push d.front (item.Query a))) (good_half s b.new front d.replies a b.replied.reply (given now.point) d.stands b.replied.gives))
    (subst W (sym (ap (take (length (script_text o.check front d.replies) + n)) text ∙ take-append-add (script_text o.check front d.replies) whole n))
    (Appends-trans written written' written'' (script_text o.check front d.replies) (take n whole) d.printed b.replied.printed.1))

-- the code of a reply is no other code
code_range : (k : ℕ) → (k ≡ 1) ⊎ IsBreak k → (1 ≤ k) × (k ≤ 5)
code_range k b = ⊎_elim (λ (e : k ≡ 1). (omega arith, omega arith)) (⊎_elim (λ (e : k ≡ 3). (omega arith, omega arith))
    (⊎_elim (λ (e : k ≡ 4). (omega arith, omega arith)) (λ (e : k ≡ 5). (omega arith, omega arith)))) b

pub no_answer : (k : ℕ) → IsAnswer k → (k ≡ 1) ⊎ IsBreak k → ⊥
no_answer k a b = let r = code_range k b in
    ⊎_elim (λ (z : k ≡ 0). omega (arith, r)) (⊎_elim (λ (z : k ≡ 10). omega (arith, r)) (λ (z : k ≡ 20). omega (arith, r))) a

-- a source whose end was seen is at its end
pub ends_at : {S : Type 0} {ended : Bool} (left : S → Option (List ℕ)) (source source' : S) → (ended ≡ true → IsAtEnd (left source)) → (ended ≡ true → source' ≡ source)
    → (ended ≡ true) ⊎ IsAtEnd (left source') → IsAtEnd (left source')
ends_at {S} {ended} left source source' before unread = ⊎_elim
    (λ (is : ended ≡ true). let P : S → Type 0 = λ s. IsAtEnd (left s) in subst P (sym (unread is)) (before is))
    (λ (p : IsAtEnd (left source')). p)

pub begins_kept : (o : Options) (written written' written'' left : Option (List ℕ)) → written'' ≡ written' → Prints written written' left (Begins o) → Prints written written'' left (Begins o)
begins_kept o written written' written'' left e p = let P : Option (List ℕ) → Type 0 = λ w. Appends written w p.0 in (p.0, subst P (sym e) p.1, p.2)

-- a fault ends the run
cut_short : (o : Options) (all : List Item) (replies : List Reply) (written written' left rest left' : Option (List ℕ)) (now new : ReadState) → HasRead all left rest now
    → GoodReplies o.conflicts (header_of all).vars (statements_of all) replies → Appends written written' (script_text o.check (statements_of all) replies)
    → WhereTold rest (rest_of new.words.lines left') (StopsOver now) → new.words.lines.ahead ≡ [] → new.words.lines.ended ≡ false → PrintsBetween written written' left left' (IsCutShort o)
cut_short o all replies written written' left rest left' now new d good printed off dry going =
    let P : Option (List ℕ) → Type 0 = λ r. WhereTold rest r (StopsOver now) in
    let e : rest_of new.words.lines left' ≡ left' = rw (going, dry) (same left') in (
      script_text o.check (statements_of all) replies,
      printed,
      told_both left rest left' (λ x y z p q.
          let says = p.leads q.pieces (CutOff ∷ []) 1 ∙ ap (put_items all) (q.none 1) ∙ ap (λ (l : List Item). let x : Outcome = record { items = l; ending = Stopped } in x) (append-nil all) in
          record {
            pieces = p.pieces ++ q.pieces;
            part = q.part;
            taken = lines_then p.pieces q.pieces now.words.lines.ended false x y (q.part ++ z) (λ _. q.going) p.taken q.taken;
            no_end = q.no_end;
            vars = (header_of all).vars;
            script = statements_of all;
            ended = law_cut_is_said Clauses (p.pieces ++ q.pieces) 1 (header_of all).vars (statements_of all)
                (ap (λ (x : Outcome). (header_of x.items).vars) says, ap script_of says ∙ append-nil (statements_of all), ap (λ (x : Outcome). x.ending) says);
            replies = replies;
            good = good;
            printed = refl;
          }) d.taken (subst P e off),
    )
  where
    same : (left : Option (List ℕ)) → prepend_known [] left ≡ left
    same None = refl
    same (Some bytes) = refl

-- what a reader that stopped ends a run with
pub record IsStopped (why_stopped : Stop) (written written' : Option (List ℕ)) (code : ℕ) : Type 0 where
  pub codes : (code ≡ 1) ⊎ IsBreak code
  pub whole : code ≡ 1 → IsBadStop why_stopped (λ line why. Appends written written' (closing_line line why))
  pub begun : code ≡ 4 → IsBadStop why_stopped (λ line why. AppendsFront written written' (closing_line line why))
  pub fault : code ≡ 3 → why_stopped ≡ stop.ReadFault
  pub same : (code ≡ 3) ⊎ (code ≡ 5) → written' ≡ written

abbrev AtStop : ReadState → ReadState → Option (List ℕ) → Option (List ℕ) → Stop → Type 0
AtStop now new left left' s = ReadAnswers now new left left' (Err s) × ReadsOver now new left left' (Err s)

-- a run ends so where the reader stopped
pub stopped_refuses : (o : Options) (all : List Item) (replies : List Reply) (written written' written'' left source source' : Option (List ℕ)) (now new : ReadState) (s : Stop) (code : ℕ)
    → HasRead all left (rest_of now.words.lines source) now → GoodReplies o.conflicts (header_of all).vars (statements_of all) replies → Appends written written' (script_text o.check (statements_of all) replies)
    → ReadAnswers now new source source' (Err s) → IsStopped s written' written'' code → code ≡ 1 → Prints written written'' left (Refuses o)
stopped_refuses o all replies written written' written'' left source source' now new (stop.Bad line why) code d good printed a e one = refused o all replies written written' written'' left (rest_of now.words.lines source) now line why d good printed a (e.whole one)
stopped_refuses o all replies written written' written'' left source source' now new stop.ReadFault code d good printed a e one = absurd (e.whole one)
stopped_refuses o all replies written written' written'' left source source' now new stop.Memory code d good printed a e one = absurd (e.whole one)

in_closing : (o : Options) (all : List Item) (replies : List Reply) (written written' written'' left source source' : Option (List ℕ)) (now new : ReadState) (s : Stop)
    → HasRead all left (rest_of now.words.lines source) now → GoodReplies o.conflicts (header_of all).vars (statements_of all) replies → Appends written written' (script_text o.check (statements_of all) replies)
    → ReadAnswers now new source source' (Err s) → IsBadStop s (λ line why. AppendsFront written' written'' (closing_line line why)) → Prints written written'' left (Begins o)
in_closing o all replies written written' written'' left source source' now new (stop.Bad line why) d good printed a e = begins_closing o all replies written written' written'' left (rest_of now.words.lines source) now line why d good printed a e
in_closing o all replies written written' written'' left source source' now new stop.ReadFault d good printed a e = absurd e
in_closing o all replies written written' written'' left source source' now new stop.Memory d good printed a e = absurd e

pub stopped_begins : (o : Options) (all : List Item) (replies : List Reply) (written written' written'' left source source' : Option (List ℕ)) (now new : ReadState) (s : Stop) (code : ℕ)
    → HasRead all left (rest_of now.words.lines source) now → GoodReplies o.conflicts (header_of all).vars (statements_of all) replies → Appends written written' (script_text o.check (statements_of all) replies)
    → ReadAnswers now new source source' (Err s) → IsStopped s written' written'' code → IsBreak code → Prints written written'' left (Begins o)
stopped_begins o all replies written written' written'' left source source' now new s code d good printed a e = ⊎_elim
    (λ (is : code ≡ 3). begins_kept o written written' written'' left (e.same (inl is)) (begins_whole o all replies written written' left (rest_of now.words.lines source) now d good printed))
    (⊎_elim
    (λ (is : code ≡ 4). in_closing o all replies written written' written'' left source source' now new s d good printed a (e.begun is))
    (λ (is : code ≡ 5). begins_kept o written written' written'' left (e.same (inr is)) (begins_whole o all replies written written' left (rest_of now.words.lines source) now d good printed)))

pub stopped_short : (o : Options) (all : List Item) (replies : List Reply) (written written' written'' left source source' : Option (List ℕ)) (now new : ReadState) (s : Stop) (code : ℕ)
    → HasRead all left (rest_of now.words.lines source) now → GoodReplies o.conflicts (header_of all).vars (statements_of all) replies → Appends written written' (script_text o.check (statements_of all) replies)
    → ReadsOver now new source source' (Err s) → IsStopped s written' written'' code → (s ≡ stop.ReadFault → (new.words.lines.ahead ≡ []) × (new.words.lines.ended ≡ false)) → code ≡ 3 → PrintsBetween written written'' left source' (IsCutShort o)
stopped_short o all replies written written' written'' left source source' now new s code d good printed a e dry is =
    let fault = e.fault is in
    let R : Stop → Type 0 = λ x. ReadsOver now new source source' (Err x) in
    let W : Option (List ℕ) → Type 0 = λ w. Appends written w (script_text o.check (statements_of all) replies) in
    let n = dry fault in
    cut_short o all replies written written'' left (rest_of now.words.lines source) source' now new d good (subst W (sym (e.same (inl is))) printed) (subst R fault a) n.0 n.1

-- No text is whole and bad.
whole_or_bad : (bytes : List ℕ) (vars : ℕ) (script : List Statement) → Reads Clauses bytes vars script Whole → GoesWrong bytes → ⊥
whole_or_bad bytes vars script whole wrong =
    let a = (law_text_is_given Clauses bytes vars script Whole whole).2 in
    let b = (law_text_is_given Clauses bytes wrong.vars wrong.script (Bad wrong.line wrong.why) wrong.reads).2 in
    differ (sym a ∙ b)
  where
    differ : {line : ℕ} {why : Why} → Whole ≡ Bad line why → ⊥
    differ e = cc

-- what an answered run says of the bytes
pub not_wrong : (o : Options) (code : ℕ) (written written' left : Option (List ℕ)) → Prints written written' left (Answers o code) → IfSome left (λ bytes. GoesWrong bytes → ⊥)
not_wrong o code written written' None p = tt
not_wrong o code written written' (Some bytes) p = λ wrong. whole_or_bad bytes p.2.vars p.2.script p.2.reads wrong

-- and what a refused one says
pub goes_wrong : (o : Options) (written written' left : Option (List ℕ)) → Prints written written' left (Refuses o) → IfSome left GoesWrong
goes_wrong o written written' None p = tt
goes_wrong o written written' (Some bytes) p = record { vars = p.2.vars; script = p.2.script; line = p.2.line; why = p.2.why; reads = p.2.reads }

no_break : (code : ℕ) → code ≡ 1 → IsBreak code → ⊥
no_break code one broken = ⊎_elim (λ (e : code ≡ 3). omega (arith, one, e)) (⊎_elim (λ (e : code ≡ 4). omega (arith, one, e)) (λ (e : code ≡ 5). omega (arith, one, e))) broken

-- Where the words are accepted, the status is 1 exactly where the bytes go wrong and the run was not broken off.
pub exactly_bad : (A : Type 0) (o : Options) (code : ℕ) (written written' left : Option (List ℕ)) → A → IsAnswer code ⊎ ((code ≡ 1) ⊎ IsBreak code)
    → (IsAnswer code → Prints written written' left (Answers o code)) → (code ≡ 1 → Prints written written' left (Refuses o))
    → IfSome left (λ bytes. (code ≡ 1) ↔ (A × GoesWrong bytes × (IsBreak code → ⊥)))
exactly_bad A o code written written' None accepted codes answers refuses = tt
exactly_bad A o code written written' (Some bytes) accepted codes answers refuses = (
  (λ one. (accepted, goes_wrong o written written' (Some bytes) (refuses one), no_break code one)),
  (λ wrong. ⊎_elim
      (λ (a : IsAnswer code). absurd (not_wrong o code written written' (Some bytes) (answers a) wrong.1))
      (λ (b : (code ≡ 1) ⊎ IsBreak code). ⊎_elim (λ (one : code ≡ 1). one) (λ (broken : IsBreak code). absurd (wrong.2 broken)) b)
      codes),
)

-- Where they are not, or memory was wanted, it never is.
pub exactly_not : (A : Type 0) (code : ℕ) (left : Option (List ℕ)) → (A → IsBreak code) → code ≢ 1 → IfSome left (λ bytes. (code ≡ 1) ↔ (A × GoesWrong bytes × (IsBreak code → ⊥)))
exactly_not A code None some codes = tt
exactly_not A code (Some bytes) some codes = ((λ one. absurd (codes one)), (λ wrong. absurd (wrong.2 (some wrong.0))))

-- a stop is a fault of the source, or not
pub fault_is : (s : Stop) → is_item_fault (Err s) ≡ is_read_stop s
fault_is (stop.Bad line why) = refl
fault_is stop.ReadFault = refl
fault_is stop.Memory = refl

-- how a run ends behind a whole input with a query at its end
pub last_codes : (o : Options) (vars : ℕ) (s : State) (w w' : Option (List ℕ)) (code : ℕ) → EndsReply o vars s w w' code → IsAnswer code ⊎ ((code ≡ 1) ⊎ IsBreak code)
last_codes o vars s w w' code = ⊎_elim
    (λ (a : (new : State) × IsAnswered o vars s [] new w w' code). inl (is_answered a.1))
    (⊎_elim
    (λ (b : (code ≡ 4) × IsHalfReplied o vars s [] w w'). inr (inr (inr (inl b.0))))
    (λ (b : (code ≡ 5) × (w' ≡ w)). inr (inr (inr (inr b.0)))))

break_range : (k : ℕ) → IsAnswer k → (k ≡ 4) ⊎ (k ≡ 5) → ⊥
break_range k a b = ⊎_elim (λ (e : k ≡ 4). no_answer k a (inr (inr (inl e)))) (λ (e : k ≡ 5). no_answer k a (inr (inr (inr e)))) b

pub last_answers : (o : Options) (k : Header) (s : State) (code code' : ℕ) (written written' written'' left rest rest' : Option (List ℕ)) (now : ReadState) → HasCome o k s code written written' left rest now → asks_at_end k.kind ≡ true
    → WhereTold rest rest' (λ before after. (outcome now before ≡ nothing Whole) × (after ≡ [])) → EndsReply o k.vars s written' written'' code' → IsAnswer code' → Prints written written'' left (Answers o code')
last_answers o k s code code' written written' written'' left rest rest' now d last end e a = ⊎_elim
    (λ (x : (new : State) × IsAnswered o k.vars s [] new written' written'' code'). finished_last o k s x.0 code code' written written' written'' left rest rest' now d last end x.1)
    (⊎_elim
    (λ (b : (code' ≡ 4) × IsHalfReplied o k.vars s [] written' written''). absurd (break_range code' a (inl b.0)))
    (λ (b : (code' ≡ 5) × (written'' ≡ written')). absurd (break_range code' a (inr b.0))))
    e

pub last_begins : (o : Options) (k : Header) (s : State) (code code' : ℕ) (written written' written'' left rest rest' : Option (List ℕ)) (now : ReadState) → HasCome o k s code written written' left rest now → asks_at_end k.kind ≡ true
    → WhereTold rest rest' (λ before after. (outcome now before ≡ nothing Whole) × (after ≡ [])) → EndsReply o k.vars s written' written'' code' → IsBreak code' → Prints written written'' left (Begins o)
last_begins o k s code code' written written' written'' left rest rest' now d last end e a = ⊎_elim
    (λ (x : (new : State) × IsAnswered o k.vars s [] new written' written'' code'). absurd (no_answer code' (is_answered x.1) (inr a)))
    (⊎_elim
    (λ (b : (code' ≡ 4) × IsHalfReplied o k.vars s [] written' written''). begins_last o k s code written written' written'' left rest rest' now d last end b.1)
    (λ (b : (code' ≡ 5) × (written'' ≡ written')). begins_kept o written written' written'' left b.1 (begins o k s code written written' left rest now d)))
    e

-- it is no read fault and no refusal
pub last_no : (o : Options) (vars : ℕ) (s : State) (w w' : Option (List ℕ)) (code : ℕ) → EndsReply o vars s w w' code → (code ≡ 1) ⊎ (code ≡ 3) → ⊥
last_no o vars s w w' code e is = ⊎_elim
    (λ (x : (new : State) × IsAnswered o vars s [] new w w' code).
    ⊎_elim (λ (z : code ≡ 1). no_answer code (is_answered x.1) (inl z)) (λ (z : code ≡ 3). no_answer code (is_answered x.1) (inr (inl z))) is)
    (⊎_elim
    (λ (b : (code ≡ 4) × IsHalfReplied o vars s [] w w'). let z = b.0 in ⊎_elim (λ (y : code ≡ 1). omega (arith, y, z)) (λ (y : code ≡ 3). omega (arith, y, z)) is)
    (λ (b : (code ≡ 5) × (w' ≡ w)). let z = b.0 in ⊎_elim (λ (y : code ≡ 1). omega (arith, y, z)) (λ (y : code ≡ 3). omega (arith, y, z)) is))
    e
