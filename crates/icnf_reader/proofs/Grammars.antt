-- The laws that tie what a reader gives turn by turn to the grammar over the whole list of words.
use Rattle.std.proofs.Common.{◌≡◌, ◌∙◌, sym, ap, refl, subst, arith, ⊎_elim, inl, inr, ℕ, ◌+◌, ◌<◌, ◌≤◌, Bool, true, false, List, [], ◌∷◌, ◌++◌, length, Option, Some, None}
use Rattle.std.specs.Prelude.{◌≢◌, ◌&&◌, map, nat_lt, nat_le, if◌then◌else◌}
use Rattle.std.proofs.lemmas.Bool.{cases_lt}
use Rattle.std.proofs.lemmas.List.{append-nil}
use Rattle.sat_terms.specs.Limits.{max_literals, max_line, max_input}
use Rattle.io_edge.specs.Lines.{line_text}
use Rattle.icnf_reader.specs.Words.{line_words}
use Rattle.icnf_reader.specs.Tokens.{Token, Word, Fault, CutOff, tokens}
use Rattle.icnf_reader.specs.Grammar.{Statement, allowed_by, IsFew, IsBadWord, Ended, end_reason}
use Rattle.icnf_reader.specs.Script.{Ending, Whole, Bad, Stopped, texts, word_tokens, InOrder, HasOneTooMany, IsFault, IsWhole, IsBad, IsStopped, Says, text_tokens, last_line_of}
use Rattle.icnf_reader.specs.Outcomes.{Point, Outcome, doing, follow, reads, nothing, at_end, start, statements_of, header_of, query_at_end, script_of}
use Rattle.icnf_reader.specs.Laws.{IsOutcome, TextIsSaid, TextIsGiven, CutIsSaid, CutIsGiven}
use Rattle.icnf_reader.specs.declared.item.Heads.{Heads}
use Rattle.icnf_reader.specs.declared.item.Allowed.{Allowed}
use Rattle.icnf_reader.specs.declared.item.Item.{Item}
use Rattle.icnf_reader.specs.declared.item.Why.{Why}
use Rattle.icnf_reader.specs.declared.item.Why.TheVariants.{TooManyLiterals, LineTooLong, InputTooLong}
use Rattle.icnf_reader.specs.declared.reader.Mode.{Mode}
use Rattle.icnf_reader.specs.declared.reader.Mode.TheVariants.{Start, Kind, Vars, Clauses, Between, InClause, InQuery, Bound, InCard}
use Rattle.icnf_reader.specs.declared.reader.Meaning.{Meaning}
use Rattle.icnf_reader.specs.declared.reader.Meaning.TheVariants.{Enters, Adds, Closes, Heading, Wrong}
use Rattle.icnf_reader.proofs.Modes.{leads, modes, ending_words, fit_leads, leads_fit, leads_ended, partial_somewhere, leads_partial, one_more}
use Rattle.icnf_reader.proofs.Ranks.{wrong_reason, unfit_end}
use Rattle.icnf_reader.proofs.Said.{said, after, put_items, run, after-append, after_mode, after_grows, moved_count, added, follow_full, fit_says, fit_count}
use Rattle.icnf_reader.proofs.Ended.{IsBetween, mode_cases, statements_items, ended_is, ended_once}

-- a word that leads nowhere is wrong
none_wrong : (m : Mode) (mean : Meaning) → leads m mean ≡ None → (why : Why) × (mean ≡ Wrong why)
none_wrong m (Enters k) e = absurd (cc)
none_wrong m (Adds l) e = absurd (cc)
none_wrong m Closes e = absurd (cc)
none_wrong m (Heading h may) e = absurd (cc)
none_wrong m (Wrong why) e = (why, refl)

-- how many literals words have so far
abbrev count_of : Heads → List (List ℕ) → ℕ
count_of heads ws = (after ws (start heads)).count

-- the words that end a text have no literal
ending_count : (m : Mode) (lits : List ℕ) (n : ℕ) → (after (ending_words m) (record { mode = m; lits = lits; count = n })).count ≡ n
ending_count (Start heads) lits n = refl
ending_count (Kind heads) lits n = refl
ending_count (Vars heads kind) lits n = refl
ending_count (Clauses heads kind vars) lits n = refl
ending_count (Between may) lits n = refl
ending_count (InClause may) lits n = refl
ending_count (InQuery may) lits n = refl
ending_count (Bound may) lits n = refl
ending_count (InCard may b) lits n = refl

ended_count : (m : Mode) (p : Point) → p.mode ≡ m → (after (ending_words m) p).count ≡ p.count
ended_count m p is =
    let P : Mode → Type 0 = λ k. (after (ending_words m) (record { mode = k; lits = p.lits; count = p.count })).count ≡ p.count in
    subst P (sym is) (ending_count m p.lits p.count)

-- words are few by their count
is_few : (heads : Heads) (ws : List (List ℕ)) (m : Mode) → modes ws (Start heads) ≡ Some m → count_of heads ws ≤ max_literals → IsFew heads ws
is_few heads ws m e few =
    let f = leads_ended heads ws m e in
    let a = fit_count heads (ws ++ ending_words m) f.0 f.1 f.2 in
    let b = ap (λ (p : Point). p.count) (after-append ws (ending_words m) (start heads)) in
    let d = ended_count m (after ws (start heads)) (after_mode ws (start heads) m e) in
    record { more = ending_words m; header = f.0; script = f.1; fit = f.2; few = omega (arith, a, b, d) }

few_is : (heads : Heads) (ws : List (List ℕ)) → IsFew heads ws → count_of heads ws ≤ max_literals
few_is heads ws f =
    let a = fit_count heads (ws ++ f.more) f.header f.script f.fit in
    let b = ap (λ (p : Point). p.count) (after-append ws f.more (start heads)) in
    let d = after_grows f.more (after ws (start heads)) in
    omega (arith, a, b, d, f.few)

few_somewhere : (heads : Heads) (ws : List (List ℕ)) → IsFew heads ws → (m : Mode) × (modes ws (Start heads) ≡ Some m)
few_somewhere heads ws f = partial_somewhere heads ws (record { more = f.more; header = f.header; script = f.script; fit = f.fit })

-- one more word
more_count : (heads : Heads) (ws : List (List ℕ)) (w : List ℕ) → count_of heads (ws ++ w ∷ []) ≡ count_of heads ws + added (doing (after ws (start heads)).mode w)
more_count heads ws w = ap (λ (p : Point). p.count) (after-append ws (w ∷ []) (start heads)) ∙ moved_count (doing (after ws (start heads)).mode w) (after ws (start heads))

-- what comes of what stands behind words, where nothing is given there
none_behind : (heads : Heads) (before : List (ℕ × List ℕ)) (m : Mode) (all ts : List Token) (last : ℕ) (end : Ending) → all ≡ word_tokens before ++ ts → modes (texts before) (Start heads) ≡ Some m
    → count_of heads (texts before) ≤ max_literals → reads ts (after (texts before) (start heads)) last ≡ nothing end
    → reads all (start heads) last ≡ record { items = said (texts before) (start heads); ending = end }
none_behind heads before m all ts last end cut e few is =
    ap (λ l. reads l (start heads) last) cut ∙ run before (start heads) m ts last e few ∙ ap (put_items (said (texts before) (start heads))) is
    ∙ ap (λ (l : List Item). let o : Outcome = record { items = l; ending = end } in o) (append-nil (said (texts before) (start heads)))

-- an outcome with its parts
outcome_is : (o : Outcome) (is : List Item) (end : Ending) → o ≡ record { items = is; ending = end } → IsOutcome o (header_of is).vars (statements_of is ++ query_at_end end (header_of is).kind) end
outcome_is o is end e = (ap (λ (x : Outcome). (header_of x.items).vars) e, ap script_of e, ap (λ (x : Outcome). x.ending) e)

-- what comes of a word that is wrong, and of one that is a literal too many
wrong_gives : (heads : Heads) (ws : List (List ℕ)) (m : Mode) (w : List ℕ) (n : ℕ) (ts : List Token) (last : ℕ) (why : Why) → modes ws (Start heads) ≡ Some m → doing m w ≡ Wrong why
    → reads (Word n w ∷ ts) (after ws (start heads)) last ≡ nothing (Bad n why)
wrong_gives heads ws m w n ts last why e is =
    ap (λ mean. follow mean n (after ws (start heads)) (λ q. reads ts q last)) (ap (λ k. doing k w) (after_mode ws (start heads) m e) ∙ is)

full_gives : (heads : Heads) (ws : List (List ℕ)) (w : List ℕ) (n : ℕ) (ts : List Token) (last : ℕ) → count_of heads ws ≤ max_literals
    → max_literals < count_of heads (ws ++ w ∷ []) → reads (Word n w ∷ ts) (after ws (start heads)) last ≡ nothing (Bad n TooManyLiterals)
full_gives heads ws w n ts last few full =
    let p = after ws (start heads) in
    follow_full (doing p.mode w) n p (λ q. reads ts q last) few (omega (arith, full, more_count heads ws w))

whole_given : (heads : Heads) (all : List Token) (last vars : ℕ) (ss : List Statement) → IsWhole heads all vars ss → IsOutcome (reads all (start heads) last) vars ss Whole
whole_given heads all last vars ss s =
    let ws = texts s.words in
    let e = fit_leads heads ws s.header s.body s.fit in
    let few : count_of heads ws ≤ max_literals = omega (arith, fit_count heads ws s.header s.body s.fit, s.few) in
    let items = (fit_says heads ws s.header s.body s.fit).0 in
    let o = none_behind heads s.words (Between (allowed_by heads s.header.kind)) all [] last Whole (s.are ∙ sym (append-nil (word_tokens s.words))) e few (ap (λ m. nothing (at_end m last)) (after_mode ws (start heads) (Between (allowed_by heads s.header.kind)) e)) in
    let g = outcome_is (reads all (start heads) last) (said ws (start heads)) Whole o in (
      g.0 ∙ ap (λ x. (header_of x).vars) items ∙ sym s.vars_are,
      g.1 ∙ ap (λ x. statements_of x ++ query_at_end Whole (header_of x).kind) items
          ∙ ap (λ x. x ++ query_at_end Whole s.header.kind) (statements_items s.body) ∙ sym s.script,
      g.2,
    )

-- what is wrong behind words in order is given
fault_given : (heads : Heads) (before : List (ℕ × List ℕ)) (behind : List Token) (last n : ℕ) (why : Why) (m : Mode) → modes (texts before) (Start heads) ≡ Some m → count_of heads (texts before) ≤ max_literals
    → IsFault heads (texts before) behind last n why → reads behind (after (texts before) (start heads)) last ≡ nothing (Bad n why)
fault_given heads before [] last n why m e few f =
    let not : (k : Allowed) → m ≢ Between k = λ k is. let x = leads_fit heads k (texts before) (e ∙ ap Some is) in f.0 x.0 x.1 x.2 in
    ap (λ k. nothing (at_end k last)) (after_mode (texts before) (start heads) m e) ∙ ap nothing (unfit_end heads (texts before) m last e not)
    ∙ ap (λ k. nothing (Bad k (end_reason (texts before)))) (sym f.1) ∙ ap (λ y. nothing (Bad n y)) (sym f.2)
fault_given heads before (Fault k y ∷ ts) last n why m e few f = ap (λ j. nothing (Bad j y)) (sym f.0) ∙ ap (λ z. nothing (Bad n z)) (sym f.1)
fault_given heads before (CutOff ∷ ts) last n why m e few f = absurd f
fault_given heads before (Word k w ∷ ts) last n why m e few f = ⊎_elim
    (λ (b : IsBadWord heads (texts before) w why). bad (leads m (doing m w)) refl b)
    (λ (t : HasOneTooMany heads (texts before ++ w ∷ []) why).
    let o = partial_somewhere heads (texts before ++ w ∷ []) t.partial in
    let full : max_literals < count_of heads (texts before ++ w ∷ []) = ⊎_elim
    (λ (x : max_literals < count_of heads (texts before ++ w ∷ [])). x)
    (λ (x : count_of heads (texts before ++ w ∷ []) ≤ max_literals). absurd (t.many (is_few heads (texts before ++ w ∷ []) o.0 o.1 x)))
    (cases_lt max_literals (count_of heads (texts before ++ w ∷ []))) in
    full_gives heads (texts before) w k ts last few full ∙ ap (λ j. nothing (Bad j TooManyLiterals)) (sym f.0) ∙ ap (λ y. nothing (Bad n y)) (sym t.reason_is))
    f.1
  where
    bad : (o : Option Mode) → leads m (doing m w) ≡ o → IsBadWord heads (texts before) w why → reads (Word k w ∷ ts) (after (texts before) (start heads)) last ≡ nothing (Bad n why)
    bad (Some j) is b = absurd (b.bad (leads_partial heads (texts before ++ w ∷ []) j (one_more heads (texts before) w m e ∙ is)))
    bad None is b =
        let y = none_wrong m (doing m w) is in
        let same : y.0 ≡ why = wrong_reason heads (texts before) m w y.0 e y.1 ∙ sym b.reason_is in
        wrong_gives heads (texts before) m w k ts last y.0 e y.1 ∙ ap (λ j. nothing (Bad j y.0)) (sym f.0) ∙ ap (λ z. nothing (Bad n z)) same

-- the same variables and statements, where they ended among the words
same_ended : (heads : Heads) (ws : List (List ℕ)) (m : Mode) (o : Outcome) (vars : ℕ) (ss : List Statement) (end : Ending) → modes ws (Start heads) ≡ Some m → Ended heads ws vars ss
    → query_at_end end (header_of (said ws (start heads))).kind ≡ [] → o ≡ record { items = said ws (start heads); ending = end } → IsOutcome o vars ss end
same_ended heads ws m o vars ss end e ended none is =
    let g = outcome_is o (said ws (start heads)) end is in
    let same = ended_once heads ws (header_of (said ws (start heads))).vars vars (statements_of (said ws (start heads))) ss (ended_is heads ws m e) ended in
    (g.0 ∙ same.0, g.1 ∙ ap (λ q. statements_of (said ws (start heads)) ++ q) none ∙ append-nil (statements_of (said ws (start heads))) ∙ same.1, g.2)

bad_given : (heads : Heads) (all : List Token) (last vars : ℕ) (ss : List Statement) (n : ℕ) (why : Why) → IsBad heads all last vars ss n why → IsOutcome (reads all (start heads) last) vars ss (Bad n why)
bad_given heads all last vars ss n why s =
    let ws = texts s.before in
    let o = few_somewhere heads ws s.in_order.few in
    let few = few_is heads ws s.in_order.few in
    same_ended heads ws o.0 (reads all (start heads) last) vars ss (Bad n why) o.1 s.in_order.ended refl
    (none_behind heads s.before o.0 all s.behind last (Bad n why) s.cut o.1 few (fault_given heads s.before s.behind last n why o.0 o.1 few s.fault))

stopped_given : (heads : Heads) (all : List Token) (last vars : ℕ) (ss : List Statement) → IsStopped heads all vars ss → IsOutcome (reads all (start heads) last) vars ss Stopped
stopped_given heads all last vars ss s =
    let ws = texts s.before in
    let o = few_somewhere heads ws s.in_order.few in
    same_ended heads ws o.0 (reads all (start heads) last) vars ss Stopped o.1 s.in_order.ended refl
    (none_behind heads s.before o.0 all (CutOff ∷ s.behind) last Stopped s.cut o.1 (few_is heads ws s.in_order.few) refl)

-- what the tokens say is what is given
given_is : (heads : Heads) (all : List Token) (last vars : ℕ) (ss : List Statement) (end : Ending) → Says heads all last vars ss end → IsOutcome (reads all (start heads) last) vars ss end
given_is heads all last vars ss Whole s = whole_given heads all last vars ss s
given_is heads all last vars ss (Bad n why) s = bad_given heads all last vars ss n why s
given_is heads all last vars ss Stopped s = stopped_given heads all last vars ss s

-- what is given is said of the tokens
abbrev IsSaid : Heads → List Token → ℕ → Type 0
IsSaid heads all last = Says heads all last (header_of (reads all (start heads) last).items).vars (script_of (reads all (start heads) last)) (reads all (start heads) last).ending

-- what is said of the tokens is what is given, as it is known
said_as : (heads : Heads) (all : List Token) (last vars : ℕ) (ss : List Statement) (end : Ending) → Says heads all last vars ss end → IsSaid heads all last
said_as heads all last vars ss end s =
    let g = given_is heads all last vars ss end s in
    let o = reads all (start heads) last in
    let N : ℕ → Type 0 = λ x. Says heads all last x (script_of o) o.ending in
    let P : List Statement → Type 0 = λ x. Says heads all last vars x o.ending in
    let Q : Ending → Type 0 = λ x. Says heads all last vars ss x in
    subst N (sym g.0) (subst P (sym g.1) (subst Q (sym g.2) s))

as_said : (heads : Heads) (all : List Token) (last vars : ℕ) (ss : List Statement) (end : Ending) → IsOutcome (reads all (start heads) last) vars ss end → IsSaid heads all last → Says heads all last vars ss end
as_said heads all last vars ss end g s =
    let o = reads all (start heads) last in
    let N : ℕ → Type 0 = λ x. Says heads all last x (script_of o) o.ending in
    let P : List Statement → Type 0 = λ x. Says heads all last vars x o.ending in
    let Q : Ending → Type 0 = λ x. Says heads all last vars ss x in
    subst Q g.2 (subst P g.1 (subst N g.0 s))

-- words that lead somewhere are in order
in_order_is : (heads : Heads) (ws : List (List ℕ)) (m : Mode) → modes ws (Start heads) ≡ Some m → count_of heads ws ≤ max_literals → InOrder heads ws (header_of (said ws (start heads))).vars (statements_of (said ws (start heads)))
in_order_is heads ws m e few = record { few = is_few heads ws m e few; ended = ended_is heads ws m e }

-- a fault behind words in order is said
fault_said : (heads : Heads) (before : List (ℕ × List ℕ)) (behind all : List Token) (m : Mode) (last n : ℕ) (why : Why) → all ≡ word_tokens before ++ behind → modes (texts before) (Start heads) ≡ Some m
    → count_of heads (texts before) ≤ max_literals → IsFault heads (texts before) behind last n why → IsSaid heads all last
fault_said heads before behind all m last n why cut e few fault =
    let s : IsBad heads all last (header_of (said (texts before) (start heads))).vars (statements_of (said (texts before) (start heads))) n why = record {
      before = before;
      behind = behind;
      cut = cut;
      in_order = in_order_is heads (texts before) m e few;
      fault = fault;
    } in
    said_as heads all last _ _ (Bad n why) s

-- one more word behind others
more_texts : (before : List (ℕ × List ℕ)) (n : ℕ) (w : List ℕ) → texts (before ++ (n, w) ∷ []) ≡ texts before ++ w ∷ []
more_texts [] n w = refl
more_texts (x ∷ before) n w = ap (λ ws. x.1 ∷ ws) (more_texts before n w)

more_tokens : (before : List (ℕ × List ℕ)) (n : ℕ) (w : List ℕ) (ts : List Token) → word_tokens before ++ Word n w ∷ ts ≡ word_tokens (before ++ (n, w) ∷ []) ++ ts
more_tokens [] n w ts = refl
more_tokens (x ∷ before) n w ts = ap (λ ws. Word x.0 x.1 ∷ ws) (more_tokens before n w ts)

-- where words end
end_said : (heads : Heads) (before : List (ℕ × List ℕ)) (m : Mode) (all : List Token) (last : ℕ) → all ≡ word_tokens before ++ [] → modes (texts before) (Start heads) ≡ Some m
    → count_of heads (texts before) ≤ max_literals → IsSaid heads all last
end_said heads before m all last cut e few = ⊎_elim
    (λ (is : IsBetween m).
    let f = leads_fit heads is.0 (texts before) (e ∙ ap Some is.1) in
    let s : IsWhole heads all f.0.vars (f.1 ++ query_at_end Whole f.0.kind) = record {
      words = before;
      are = cut ∙ append-nil (word_tokens before);
      header = f.0;
      body = f.1;
      fit = f.2;
      few = omega (arith, fit_count heads (texts before) f.0 f.1 f.2, few);
      vars_are = refl;
      script = refl;
    } in
    said_as heads all last f.0.vars (f.1 ++ query_at_end Whole f.0.kind) Whole s)
    (λ (not : (k : Allowed) → m ≢ Between k).
    fault_said heads before [] all m last last (end_reason (texts before)) cut e few
    ((λ h ss fit. let x : Some m ≡ Some (Between (allowed_by heads h.kind)) = sym e ∙ fit_leads heads (texts before) h ss fit in let y : m ≡ Between (allowed_by heads h.kind) = cc in not (allowed_by heads h.kind) y), refl, refl))
    (mode_cases m)

-- What is given of tokens that begin with words in order is said of them.
said_from : (heads : Heads) (ts : List Token) (before : List (ℕ × List ℕ)) (m : Mode) (all : List Token) (last : ℕ) → all ≡ word_tokens before ++ ts
    → modes (texts before) (Start heads) ≡ Some m → count_of heads (texts before) ≤ max_literals → IsSaid heads all last
said_from heads [] before m all last cut e few = end_said heads before m all last cut e few
said_from heads (Fault k why ∷ ts) before m all last cut e few = fault_said heads before (Fault k why ∷ ts) all m last k why cut e few (refl, refl)
said_from heads (CutOff ∷ ts) before m all last cut e few =
    let s : IsStopped heads all (header_of (said (texts before) (start heads))).vars (statements_of (said (texts before) (start heads))) = record {
      before = before;
      behind = ts;
      cut = cut;
      in_order = in_order_is heads (texts before) m e few;
    } in
    said_as heads all last _ _ Stopped s
said_from heads (Word n w ∷ ts) before m all last cut e few = go (leads m (doing m w)) refl (said_from heads ts (before ++ (n, w) ∷ []))
  where
    go : (o : Option Mode) → leads m (doing m w) ≡ o
        → ((k : Mode) (all : List Token) (last : ℕ) → all ≡ word_tokens (before ++ (n, w) ∷ []) ++ ts → modes (texts (before ++ (n, w) ∷ [])) (Start heads) ≡ Some k
        → count_of heads (texts (before ++ (n, w) ∷ [])) ≤ max_literals → IsSaid heads all last) → IsSaid heads all last
    go None is on =
        let y = none_wrong m (doing m w) is in
        fault_said heads before (Word n w ∷ ts) all m last n y.0 cut e few (
          refl,
          inl (record {
            good = leads_partial heads (texts before) m e;
            bad = λ p. let k = partial_somewhere heads (texts before ++ w ∷ []) p in let x : None ≡ Some k.0 = sym is ∙ sym (one_more heads (texts before) w m e) ∙ k.1 in absurd (cc);
            reason_is = wrong_reason heads (texts before) m w y.0 e y.1;
          }),
        )
    go (Some k) is on =
        let next = one_more heads (texts before) w m e ∙ is in
        ⊎_elim
        (λ (full : max_literals < count_of heads (texts before ++ w ∷ [])).
        fault_said heads before (Word n w ∷ ts) all m last n TooManyLiterals cut e few (
          refl,
          inr (record {
            partial = leads_partial heads (texts before ++ w ∷ []) k next;
            many = λ f. let x = few_is heads (texts before ++ w ∷ []) f in omega (arith, x, full);
            reason_is = refl;
          }),
        ))
        (λ (room : count_of heads (texts before ++ w ∷ []) ≤ max_literals).
        let same = more_texts before n w in
        on k all last (cut ∙ more_tokens before n w ts) (ap (λ x. modes x (Start heads)) same ∙ next) (omega (arith, ap (count_of heads) same, room)))
        (cases_lt max_literals (count_of heads (texts before ++ w ∷ [])))

said_is : (heads : Heads) (all : List Token) (last : ℕ) → IsSaid heads all last
said_is heads all last = said_from heads all [] (Start heads) all last refl refl (omega arith)

pub law_text_is_said : TextIsSaid
law_text_is_said heads bytes vars ss end g = as_said heads (text_tokens bytes) (last_line_of bytes) vars ss end g (said_is heads (text_tokens bytes) (last_line_of bytes))

pub law_text_is_given : TextIsGiven
law_text_is_given heads bytes vars ss end s = given_is heads (text_tokens bytes) (last_line_of bytes) vars ss end s

-- reading was not cut off within the tokens of lines
abbrev NoCut : List Token → Type 0
NoCut [] = Unit {0}
NoCut (Word n w ∷ ts) = NoCut ts
NoCut (Fault n why ∷ ts) = NoCut ts
NoCut (CutOff ∷ ts) = ⊥

words_no_cut : (n : ℕ) (ws : List (List ℕ)) (ts : List Token) → NoCut ts → NoCut (map (Word n) ws ++ ts)
words_no_cut n [] ts h = h
words_no_cut n (w ∷ ws) ts h = words_no_cut n ws ts h

tokens_no_cut : (used n : ℕ) (ps : List (List ℕ)) → NoCut (tokens used n ps)
tokens_no_cut used n [] = tt
tokens_no_cut used n (p ∷ ps) =
    one (nat_lt max_line (length (line_text p)) && nat_le (used + max_line) max_input) (nat_lt max_input (used + length p)) (words_no_cut n (line_words (line_text p)) (tokens (used + length p) (n + 1) ps) (tokens_no_cut (used + length p) (n + 1) ps))
  where
    one : (long much : Bool) → NoCut (map (Word n) (line_words (line_text p)) ++ tokens (used + length p) (n + 1) ps)
        → NoCut (if long then Fault n LineTooLong ∷ [] else if much then Fault n InputTooLong ∷ [] else map (Word n) (line_words (line_text p)) ++ tokens (used + length p) (n + 1) ps)
    one true much h = tt
    one false true h = tt
    one false false h = h

-- the words before the place where reading was cut off
before_cut : (xs : List Token) (ws : List (ℕ × List ℕ)) (behind : List Token) → NoCut xs → xs ++ CutOff ∷ [] ≡ word_tokens ws ++ CutOff ∷ behind → xs ≡ word_tokens ws
before_cut [] [] behind h e = refl
before_cut [] (w ∷ ws) behind h e = cc
before_cut (CutOff ∷ xs) ws behind h e = absurd h
before_cut (Fault n why ∷ xs) [] behind h e = cc
before_cut (Fault n why ∷ xs) (w ∷ ws) behind h e = cc
before_cut (Word n w ∷ xs) [] behind h e = cc
before_cut (Word n w ∷ xs) (x ∷ ws) behind h e =
    let rest : xs ++ CutOff ∷ [] ≡ word_tokens ws ++ CutOff ∷ behind = cc in
    let head : Word n w ≡ Word x.0 x.1 = cc in
    let tail : xs ≡ word_tokens ws = before_cut xs ws behind h rest in
    cc

pub law_cut_is_said : CutIsSaid
law_cut_is_said heads pieces last vars ss g =
    let all = tokens 0 1 pieces ++ CutOff ∷ [] in
    let s : IsStopped heads all vars ss = as_said heads all last vars ss Stopped g (said_is heads all last) in
    record { words = s.before; are = before_cut (tokens 0 1 pieces) s.before s.behind (tokens_no_cut 0 1 pieces) s.cut; in_order = s.in_order }

pub law_cut_is_given : CutIsGiven
law_cut_is_given heads pieces last vars ss s = stopped_given heads (tokens 0 1 pieces ++ CutOff ∷ []) last vars ss (record {
  before = s.words;
  behind = [];
  cut = ap (λ ts. ts ++ CutOff ∷ []) s.are;
  in_order = s.in_order;
})
