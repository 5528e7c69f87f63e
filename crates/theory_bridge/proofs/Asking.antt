-- What one question does.
use Rattle.std.proofs.Common.{◌≡◌, ℕ, Bool, true, List, [], length, Option, Some, None, refl, sym, ap, subst, arith}
use Rattle.std.specs.Prelude.{All, drop}
use Rattle.std.proofs.lemmas.List.{append-nil}
use Rattle.std.proofs.lemmas.List.Elements.{All-nil}
use Rattle.std.proofs.Math.Seq.{drop-length}
use Rattle.user_propagator.specs.Board.{Board, Handed}
use Rattle.user_propagator.specs.Meaning.{Meaning, CalledBack, OnlyAsks, LevelFell, IsFalseOrUnit}
use Rattle.theory_bridge.specs.Shown.{Shown}
use Rattle.theory_bridge.specs.Going.{Asked}
use Rattle.theory_bridge.specs.Asking.{OneCall, OneCallback, Consulted, AreUrgent, AsksSteadily}
use Rattle.theory_bridge.proofs.Later.{later_same, later_called}

-- the propagator was not called
pub asked_out : (t : Meaning) (b : Board) (budget count : ℕ) (spent spent' : Bool) → Asked 1 (record { means = t; board = b; budget = budget; count = count; spent = spent }) (record { means = t; board = b; budget = budget; count = count; spent = spent' })
asked_out t b budget count spent spent' = record { calls = 0; few = omega arith; count = refl; asked = refl; budget = refl; desk = refl; later = later_same t b }

-- it was called
pub asked_once : (old new : Shown) → OneCall old new → Asked 1 old new
asked_once old new h = record { calls = 1; few = omega arith; count = h.count; asked = h.called.counted.asked; budget = h.budget; desk = h.board; later = later_called old.means new.means old.board new.board h.called }

level_stays : (top : ℕ) (b : Option ℕ) → LevelFell top b b
level_stays top None = tt
level_stays top (Some n) = omega arith

pub only_asks_same : (b : Board) → OnlyAsks b b
only_asks_same b = record { observed = refl; seen = refl; level = refl; wanted = rw (drop-length b.wanted) (sym (append-nil b.wanted)); handed = rw (drop-length b.handed) (sym (append-nil b.handed)); back = level_stays b.level b.back }

urgent_none : (b : Board) → b.handed ≡ [] → AreUrgent b
urgent_none b none = record { clauses = subst (λ (hs : List Handed). All (λ h. IsFalseOrUnit b.seen h.clause) hs) (sym none) (All-nil (λ h. IsFalseOrUnit b.seen h.clause)) }

pub consulted_out : (t : Meaning) (b : Board) (budget count : ℕ) (spent spent' : Bool) → Consulted (record { means = t; board = b; budget = budget; count = count; spent = spent }) (record { means = t; board = b; budget = budget; count = count; spent = spent' })
consulted_out t b budget count spent spent' = record { calls = 0; few = omega arith; count = refl; asked = refl; budget = refl; later = later_same t b; desk = only_asks_same b; steady = λ s. record { wanted = refl; back = refl; urgent = urgent_none b } }

steadily : (old new : Meaning) (was now : Board) → CalledBack old new was now → old.steady ≡ true → AsksSteadily was now
steadily old new was now c s =
    let q = c.quiet s in
    record {
      wanted = q.wanted;
      back = q.back;
      urgent = λ none. record {
        clauses = rw c.desk.seen (subst (λ (hs : List Handed). All (λ h. IsFalseOrUnit was.seen h.clause) hs) (ap (λ (hs : List Handed). drop (length hs) now.handed) none) q.handed);
      };
    }

pub consulted_once : (old new : Shown) → OneCallback old new → Consulted old new
consulted_once old new h = record {
  calls = 1;
  few = omega arith;
  count = h.count;
  asked = h.called.counted.asked;
  budget = h.budget;
  later = later_called old.means new.means old.board new.board h.called;
  desk = h.called.desk;
  steady = steadily old.means new.means old.board new.board h.called;
}
