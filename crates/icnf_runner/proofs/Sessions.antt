-- What the calls of a session do to a solver that stands for a script.
use Rattle.std.proofs.Common.{◌≡◌, ◌∙◌, sym, ap, refl, arith, subst, ℕ, ◌+◌, Bool, true, max, List, [], ◌∷◌, ◌++◌, length, length-append, append_assoc, inl, inr, ⊎_elim, Ok, Option, Some, None}
use mathlib.Core.Path.{fun_ext}
use Rattle.std.specs.Prelude.{Contains, ◌==◌, ◌-◌, replicate, false}
use Rattle.std.proofs.lemmas.Bool.{or_left, or_right, eq-eqb, false≢true}
use Rattle.std.proofs.lemmas.List.{append-nil, length-replicate}
use Rattle.std.proofs.lemmas.List.Elements.{Contains-push_cases}
use Rattle.sat_terms.specs.Answer.{greatest_var, IsModel, IsCore}
use Rattle.icnf_reader.specs.Grammar.{Statement, Clause, Card, Query}
use Rattle.solver_api.specs.Given.{GivenTrue}
use Rattle.solver_api.specs.Steps.{State, Step, unused, model_of, core_of as shown_core}
use Rattle.solver_api.specs.declared.calls.Outcome.TheVariants as outcomes
use Rattle.solver_api.specs.declared.givens.GivenPart.{GivenPart}
use Rattle.solver_api.specs.declared.givens.GivenPart.TheVariants as part
use Rattle.solver_api.specs.declared.calls.Call.TheVariants as calls
use Rattle.solver_api.specs.declared.calls.Reply.TheVariants as answers
use Rattle.search_engine.specs.declared.state.Spent.{Spent}
use Rattle.search_engine.specs.declared.state.Spent.TheVariants.{Conflicts}
use Rattle.reply_text.specs.Reply.{Reply, Sat, Unsat, Unknown, code_of}
use Rattle.reply_text.specs.Text.{reply_text, padded}
use Rattle.std.specs.Io.KnownBytes.{Appends}
use Rattle.reply_text.proofs.Numbers.{value_padded}
use Rattle.sat_terms.specs.Truth.{Assignment, values, lits_true}
use Rattle.icnf_runner.specs.declared.options.Options.{Options}
use Rattle.icnf_runner.specs.Output.{printed_reply, check_line}
use Rattle.icnf_runner.specs.Good.{parts_of, greatest_in, IsGood, IsSettled, GoodReplies}
use Rattle.icnf_runner.specs.Session.{assumed, Gives, shown, checks, Solves, IsModelShown, IsCoreShown, ShowsModel, ShowsCore, IsReplied, IsAnswered}
use Rattle.icnf_runner.proofs.Course.{IsTold}
use Rattle.icnf_runner.proofs.Goods.{parts_push, greatest_push, good_start, good_clause, good_query}

-- what assuming literals does
pub assumed_given : (s : State) (ls : List ℕ) → (assumed s ls).given ≡ s.given
assumed_given s [] = refl
assumed_given s (l ∷ ls) = assumed_given (assumed s (l ∷ [])) ls

pub assumed_settled : (s : State) (ls : List ℕ) → (assumed s ls).settled ≡ s.settled
assumed_settled s [] = refl
assumed_settled s (l ∷ ls) = assumed_settled (assumed s (l ∷ [])) ls

pub assumed_pending : (s : State) (ls : List ℕ) → (assumed s ls).pending ≡ s.pending ++ ls
assumed_pending s [] = sym (append-nil s.pending)
assumed_pending s (l ∷ ls) = assumed_pending (assumed s (l ∷ [])) ls ∙ append_assoc s.pending (l ∷ []) ls

pub assumed_greatest : (s : State) (ls : List ℕ) → (assumed s ls).greatest ≡ max s.greatest (greatest_var ls)
assumed_greatest s [] = omega arith
assumed_greatest s (l ∷ ls) = let h = assumed_greatest (assumed s (l ∷ [])) ls in omega (arith, h)

pub assumed_taken : (s : State) (ls : List ℕ) → (assumed s ls).taken ≡ s.taken + length ls
assumed_taken s [] = omega arith
assumed_taken s (l ∷ ls) = let h = assumed_taken (assumed s (l ∷ [])) ls in omega (arith, h)

-- one more literal is assumed
pub assumed_more : (s : State) (l : ℕ) (ls : List ℕ) → assumed (assumed s (l ∷ [])) ls ≡ assumed s (l ∷ ls)
assumed_more s l ls = refl

-- a solver that was told nothing
pub stands_unused : {budget vars : ℕ} (s : State) → s ≡ unused → IsTold budget vars s [] [] 0
stands_unused s e = record {
  given_is = ap (λ t. t.given) e;
  none = ap (λ t. t.pending) e;
  greatest_is = ap (λ t. t.greatest) e;
  taken_is = ap (λ t. t.taken) e;
  settles = λ settled. ⊎_elim (λ (c : Contains [] (Clause [])). absurd (nothing c)) (λ (c : Contains [] (Unsat [])). absurd (nothing c)) settled;
  good = good_start;
}
  where
    nothing : {A : Type 0} {x : A} → Contains [] x → ⊥
    nothing c = let lt = c.1 in omega (arith, lt)

abbrev lits_of : Statement → List ℕ
lits_of (Clause c) = c
lits_of (Card b ls) = ls
lits_of (Query a) = a

-- a clause was added
pub stands_clause : {budget vars : ℕ} (s s' : State) (script : List Statement) (replies : List Reply) (c : List ℕ) (n : ℕ) → IsTold budget vars s script replies n
    → Step s (calls.Add c) (Ok answers.Done) s' → IsTold budget vars s' (script ++ Clause c ∷ []) replies (n + length c)
stands_clause s s' script replies c n st h = record {
  given_is = ap (λ t. t.given) h.1 ∙ ap (λ g. g ++ part.Clause c ∷ []) st.given_is ∙ sym (parts_push script (Clause c));
  none = ap (λ t. t.pending) h.1 ∙ st.none;
  greatest_is =
      let a = ap (λ t. t.greatest) h.1 in let b = greatest_push script (Clause c) in
      omega (arith, a, b, st.greatest_is);
  taken_is = let a = ap (λ t. t.taken) h.1 in omega (arith, a, st.taken_is);
  settles = λ settled. ap (λ t. t.settled) h.1 ∙
      ⊎_elim
      (λ (k : Contains (script ++ Clause c ∷ []) (Clause [])).
      ⊎_elim
      (λ (old : Contains script (Clause [])). or_left s.settled (length c == 0) (st.settles (inl old)))
      (λ (new : Clause c ≡ Clause []). or_right s.settled (length c == 0) (eq-eqb (length c) 0 (ap length (ap lits_of new))))
      (Contains-push_cases script (Clause c) (Clause []) k))
      (λ (k : Contains replies (Unsat [])). or_left s.settled (length c == 0) (st.settles (inr k)))
      settled;
  good = good_clause script replies c st.good;
}

-- truth values past the end change no truth
padded_values : (vars : ℕ) (m : List Bool) (v : ℕ) → values (padded vars m) v ≡ values m v
unfolding values
padded_values vars m v = value_padded (false ∷ m) (vars - length m) v

padded_model : (parts : List GivenPart) (a : List ℕ) (vars n : ℕ) (m : List Bool) → IsModel (GivenTrue parts) a n m → IsModel (GivenTrue parts) a (max vars n) (padded vars m)
padded_model parts a vars n m h =
    let same : values m ≡ values (padded vars m) = fun_ext (λ v. sym (padded_values vars m v)) in
    let F : Assignment → Type 0 = λ f. GivenTrue parts f in
    let L : Assignment → Type 0 = λ f. lits_true f a ≡ true in
    record {
      size = omega (arith, h.size, length-append m (replicate (vars - length m) false), length-replicate (vars - length m) false);
      holds = subst F same h.holds;
      assumed = subst L same h.assumed;
    }

-- a reply that was given is good
given_good : {budget vars : ℕ} (s s' : State) (script : List Statement) (replies : List Reply) (a : List ℕ) (r : Reply) (n : ℕ) → IsTold budget vars s script replies n → Gives budget (assumed s a) r s' → IsGood budget vars script a (shown vars r)
given_good {budget} {vars} s s' script replies a (Sat m) n st h =
    let P : List GivenPart → List ℕ → ℕ → Type 0 = λ g p v. IsModel (GivenTrue g) p v m in
    let g : (assumed s a).given ≡ parts_of script = assumed_given s a ∙ st.given_is in
    let p : (assumed s a).pending ≡ a = assumed_pending s a ∙ ap (λ l. l ++ a) st.none in
    let v : (assumed s a).greatest ≡ max (greatest_in script) (greatest_var a) = assumed_greatest s a ∙ ap (λ k. max k (greatest_var a)) st.greatest_is in
    padded_model (parts_of script) a vars (max (greatest_in script) (greatest_var a)) m
    (subst (P (parts_of script) a) v (subst (λ x. P (parts_of script) x (assumed s a).greatest) p (subst (λ x. P x (assumed s a).pending (assumed s a).greatest) g h.0)))
given_good s s' script replies a (Unsat core) n st h =
    let P : List GivenPart → List ℕ → Type 0 = λ g p. IsCore (GivenTrue g) p core in
    let g : (assumed s a).given ≡ parts_of script = assumed_given s a ∙ st.given_is in
    let p : (assumed s a).pending ≡ a = assumed_pending s a ∙ ap (λ l. l ++ a) st.none in
    subst (P (parts_of script)) p (subst (λ x. P x (assumed s a).pending) g h.0)
given_good s s' script replies a (Unknown conflicts) n st h = (h.0, h.1)

-- where all is settled the reply is the empty core
given_settled : {budget vars : ℕ} (s s' : State) (script : List Statement) (replies : List Reply) (a : List ℕ) (r : Reply) (n : ℕ) → IsTold budget vars s script replies n → Gives budget (assumed s a) r s'
    → IsSettled script replies → shown vars r ≡ Unsat []
given_settled s s' script replies a (Sat m) n st h settled = absurd (false≢true (sym h.1 ∙ assumed_settled s a ∙ st.settles settled))
given_settled s s' script replies a (Unsat core) n st h settled = ap Unsat (h.1 (assumed_settled s a ∙ st.settles settled))
given_settled s s' script replies a (Unknown conflicts) n st h settled = absurd (false≢true (sym h.2 ∙ assumed_settled s a ∙ st.settles settled))

abbrev core_of : Reply → List ℕ
core_of (Sat m) = 0 ∷ []
core_of (Unsat core) = core
core_of (Unknown conflicts) = 0 ∷ []

-- and afterwards the solver knows
now_settled : {budget vars : ℕ} (s s' : State) (script : List Statement) (replies : List Reply) (a : List ℕ) (r : Reply) (n : ℕ) → IsTold budget vars s script replies n → Gives budget (assumed s a) r s'
    → IsSettled (script ++ Query a ∷ []) (replies ++ shown vars r ∷ []) → s'.settled ≡ true
now_settled {budget} {vars} s s' script replies a r n st h settled =
    ⊎_elim
    (λ (k : Contains (script ++ Query a ∷ []) (Clause [])).
    ⊎_elim
    (λ (old : Contains script (Clause [])). before (inl old) r h)
    (λ (new : Query a ≡ Clause []). absurd (differ new))
    (Contains-push_cases script (Query a) (Clause []) k))
    (λ (k : Contains (replies ++ shown vars r ∷ []) (Unsat [])).
    ⊎_elim
    (λ (old : Contains replies (Unsat [])). before (inr old) r h)
    (λ (new : shown vars r ≡ Unsat []). here r h new)
    (Contains-push_cases replies (shown vars r) (Unsat []) k))
    settled
  where
    differ : {x y : List ℕ} → Query x ≡ Clause y → ⊥
    differ e = cc

    before : IsSettled script replies → (r : Reply) → Gives budget (assumed s a) r s' → s'.settled ≡ true
    before is (Sat m) g = ap (λ t. t.settled) g.2 ∙ assumed_settled s a ∙ st.settles is
    before is (Unsat core) g = ap (λ t. t.settled) g.2 ∙ or_left (assumed s a).settled (length core == 0) (assumed_settled s a ∙ st.settles is)
    before is (Unknown conflicts) g = ap (λ t. t.settled) g.3 ∙ assumed_settled s a ∙ st.settles is

    here : (r : Reply) → Gives budget (assumed s a) r s' → shown vars r ≡ Unsat [] → s'.settled ≡ true
    here (Sat m) g e = absurd (cc)
    here (Unsat core) g e = ap (λ t. t.settled) g.2 ∙ or_right (assumed s a).settled (length core == 0) (eq-eqb (length core) 0 (ap length (ap core_of e)))
    here (Unknown conflicts) g e = absurd (cc)

given_fields : (budget : ℕ) (s s' : State) (a : List ℕ) (r : Reply) → Gives budget (assumed s a) r s' → (s'.given ≡ s.given) × (s'.pending ≡ []) × (s'.greatest ≡ max s.greatest (greatest_var a)) × (s'.taken ≡ s.taken + length a) × (s'.queried ≡ s.pending ++ a)
given_fields budget s s' a (Sat m) h =
    (ap (λ t. t.given) h.2 ∙ assumed_given s a, ap (λ t. t.pending) h.2, ap (λ t. t.greatest) h.2 ∙ assumed_greatest s a, ap (λ t. t.taken) h.2 ∙ assumed_taken s a, ap (λ t. t.queried) h.2 ∙ assumed_pending s a)
given_fields budget s s' a (Unsat core) h =
    (ap (λ t. t.given) h.2 ∙ assumed_given s a, ap (λ t. t.pending) h.2, ap (λ t. t.greatest) h.2 ∙ assumed_greatest s a, ap (λ t. t.taken) h.2 ∙ assumed_taken s a, ap (λ t. t.queried) h.2 ∙ assumed_pending s a)
given_fields budget s s' a (Unknown conflicts) h =
    (ap (λ t. t.given) h.3 ∙ assumed_given s a, ap (λ t. t.pending) h.3, ap (λ t. t.greatest) h.3 ∙ assumed_greatest s a, ap (λ t. t.taken) h.3 ∙ assumed_taken s a, ap (λ t. t.queried) h.3 ∙ assumed_pending s a)

-- a query was replied to
pub stands_query : {budget vars : ℕ} (s s' : State) (script : List Statement) (replies : List Reply) (a : List ℕ) (r : Reply) (n : ℕ) → IsTold budget vars s script replies n
    → Gives budget (assumed s a) r s' → IsTold budget vars s' (script ++ Query a ∷ []) (replies ++ shown vars r ∷ []) (n + length a)
stands_query {budget} {vars} s s' script replies a r n st h =
    let f = given_fields budget s s' a r h in
    record {
      given_is = f.0 ∙ st.given_is ∙ sym (parts_push script (Query a) ∙ append-nil (parts_of script));
      none = f.1;
      greatest_is = let b = greatest_push script (Query a) in let c = f.2 in omega (arith, b, c, st.greatest_is);
      taken_is = let c = f.3 in omega (arith, c, st.taken_is);
      settles = now_settled s s' script replies a r n st h;
      good = good_query script replies a (shown vars r) st.good (given_good s s' script replies a r n st h) (given_settled s s' script replies a r n st h);
    }

-- the replies are good also where the last one was not whole
pub good_half : {budget vars : ℕ} (s s' : State) (script : List Statement) (replies : List Reply) (a : List ℕ) (r : Reply) (n : ℕ) → IsTold budget vars s script replies n
    → Gives budget (assumed s a) r s' → GoodReplies budget vars (script ++ Query a ∷ []) (replies ++ shown vars r ∷ [])
good_half s s' script replies a r n st h = (stands_query s s' script replies a r n st h).good

-- how many clauses and assumptions a query stands below
pub checks_is : {budget vars : ℕ} (s s' : State) (script : List Statement) (replies : List Reply) (a : List ℕ) (r : Reply) (n : ℕ) → IsTold budget vars s script replies n
    → Gives budget (assumed s a) r s' → checks s' ≡ 0 + length (parts_of script) + length a
checks_is {budget} s s' script replies a r n st h =
    let f = given_fields budget s s' a r h in
    let x = ap length (f.0 ∙ st.given_is) in
    let y = ap length (f.4 ∙ ap (λ l. l ++ a) st.none) in
    omega (arith, x, y)

pub shown_code : (vars : ℕ) (r : Reply) → code_of (shown vars r) ≡ code_of r
shown_code vars (Sat m) = refl
shown_code vars (Unsat core) = refl
shown_code vars (Unknown conflicts) = refl

abbrev some_model : Option (List Bool) → List Bool
some_model None = []
some_model (Some m) = m

abbrev some_core : Option (List ℕ) → List ℕ
some_core None = []
some_core (Some core) = core

-- a solve that answered Sat shows its model
pub shows_model : (o : Options) (old new : State) → Solves o old outcomes.Sat new → IsModelShown new
shows_model o old new h = (h.0, ap (λ s. model_of s.mode) h.3)

pub shows_core : (o : Options) (old new : State) → Solves o old outcomes.Unsat new → IsCoreShown new
shows_core o old new h = (h.0, ap (λ s. shown_core s.mode) h.3)

-- the text of the model that is shown is that of the reply
pub replied_sat : (o : Options) (vars : ℕ) (old new : State) (lits : List ℕ) (P : List ℕ → Type 0) → Solves o (assumed old lits) outcomes.Sat new → ShowsModel o.check vars new P → IsReplied o vars old lits new P
replied_sat o vars old new lits P h t =
    let same : t.0 ≡ h.0 = ap some_model (sym t.1 ∙ ap (λ s. model_of s.mode) h.3) in
    let Q : List Bool → Type 0 = λ m. P (printed_reply o.check (checks new) (Sat (padded vars m))) in
    record { reply = Sat h.0; gives = (h.1, h.2, h.3); printed = subst Q same t.2 }

no_line : (check : Bool) (n : ℕ) (core : List ℕ) → check_line check n (Unsat core) ≡ []
no_line true n core = refl
no_line false n core = refl

no_line_unknown : (check : Bool) (n k : ℕ) → check_line check n (Unknown k) ≡ []
no_line_unknown true n k = refl
no_line_unknown false n k = refl

pub replied_unsat : (o : Options) (vars : ℕ) (old new : State) (lits : List ℕ) (P : List ℕ → Type 0) → Solves o (assumed old lits) outcomes.Unsat new → ShowsCore new P → IsReplied o vars old lits new P
replied_unsat o vars old new lits P h t =
    let same : t.0 ≡ h.0 = ap some_core (sym t.1 ∙ ap (λ s. shown_core s.mode) h.3) in
    let text : reply_text (Unsat t.0) ≡ printed_reply o.check (checks new) (Unsat h.0) =
    ap (λ c. reply_text (Unsat c)) same ∙ sym (ap (λ l. reply_text (Unsat h.0) ++ l) (no_line o.check (checks new) h.0) ∙ append-nil (reply_text (Unsat h.0))) in
    record { reply = Unsat h.0; gives = (h.1, h.2, h.3); printed = subst P text t.2 }

pub replied_unknown : (o : Options) (vars : ℕ) (old new : State) (lits : List ℕ) (spent : Spent) (conflicts : ℕ) (P : List ℕ → Type 0) → spent ≡ Conflicts conflicts
    → Solves o (assumed old lits) (outcomes.Unknown spent) new → P (reply_text (Unknown conflicts)) → IsReplied o vars old lits new P
replied_unknown o vars old new lits spent conflicts P is h t =
    let W : Spent → Type 0 = λ s. Solves o (assumed old lits) (outcomes.Unknown s) new in
    let text : reply_text (Unknown conflicts) ≡ printed_reply o.check (checks new) (Unknown conflicts) =
    sym (ap (λ l. reply_text (Unknown conflicts) ++ l) (no_line_unknown o.check (checks new) conflicts) ∙ append-nil (reply_text (Unknown conflicts))) in
    record { reply = Unknown conflicts; gives = subst W is h; printed = subst P text t }

-- the status of each
pub answered_sat : (o : Options) (vars : ℕ) (old new : State) (lits : List ℕ) (w w' : Option (List ℕ)) → Solves o (assumed old lits) outcomes.Sat new → ShowsModel o.check vars new (Appends w w') → IsAnswered o vars old lits new w w' 10
answered_sat o vars old new lits w w' h t =
    let same : t.0 ≡ h.0 = ap some_model (sym t.1 ∙ ap (λ s. model_of s.mode) h.3) in
    let Q : List Bool → Type 0 = λ m. Appends w w' (printed_reply o.check (checks new) (Sat (padded vars m))) in
    record { replied = record { reply = Sat h.0; gives = (h.1, h.2, h.3); printed = subst Q same t.2 }; code_is = refl }

pub answered_unsat : (o : Options) (vars : ℕ) (old new : State) (lits : List ℕ) (w w' : Option (List ℕ)) → Solves o (assumed old lits) outcomes.Unsat new → ShowsCore new (Appends w w') → IsAnswered o vars old lits new w w' 20
answered_unsat o vars old new lits w w' h t =
    let same : t.0 ≡ h.0 = ap some_core (sym t.1 ∙ ap (λ s. shown_core s.mode) h.3) in
    let text : reply_text (Unsat t.0) ≡ printed_reply o.check (checks new) (Unsat h.0) =
    ap (λ c. reply_text (Unsat c)) same ∙ sym (ap (λ l. reply_text (Unsat h.0) ++ l) (no_line o.check (checks new) h.0) ∙ append-nil (reply_text (Unsat h.0))) in
    record { replied = record { reply = Unsat h.0; gives = (h.1, h.2, h.3); printed = subst (Appends w w') text t.2 }; code_is = refl }

pub answered_unknown : (o : Options) (vars : ℕ) (old new : State) (lits : List ℕ) (spent : Spent) (conflicts : ℕ) (w w' : Option (List ℕ)) → spent ≡ Conflicts conflicts
    → Solves o (assumed old lits) (outcomes.Unknown spent) new → Appends w w' (reply_text (Unknown conflicts)) → IsAnswered o vars old lits new w w' 0
answered_unknown o vars old new lits spent conflicts w w' is h t =
    let W : Spent → Type 0 = λ s. Solves o (assumed old lits) (outcomes.Unknown s) new in
    let text : reply_text (Unknown conflicts) ≡ printed_reply o.check (checks new) (Unknown conflicts) =
    sym (ap (λ l. reply_text (Unknown conflicts) ++ l) (no_line_unknown o.check (checks new) conflicts) ∙ append-nil (reply_text (Unknown conflicts))) in
    record { replied = record { reply = Unknown conflicts; gives = subst W is h; printed = subst (Appends w w') text t }; code_is = refl }
