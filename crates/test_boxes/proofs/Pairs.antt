-- What follows where the first literal of a clause of two is false.
use Rattle.std.proofs.Common.{ℕ, ◌≡◌, ◌||◌, Bool, true, false, refl, sym}
use Rattle.std.proofs.lemmas.Bool.{eq-eqb, false≢true}
use Rattle.sat_terms.specs.Literal.{neg}
use Rattle.sat_terms.specs.Truth.{lit_true}
use Rattle.user_propagator.specs.Board.{Board}
use Rattle.user_propagator.specs.Meaning.{IsImplied}
use Rattle.user_propagator.proofs.Lawful.{value_holds}
use Rattle.test_boxes.specs.Pair.{imply_meaning, IsDue}

second_of : (x y : Bool) → (x || (y || false)) ≡ true → x ≡ false → y ≡ true
second_of true y h e = absurd (false≢true (sym e))
second_of false true h e = refl
second_of false false h e = h

-- the second literal follows where the first is false
pub imply_implied : (from to k : ℕ) (d : Board) → IsDue d from to → IsImplied (imply_meaning from to k) d to
imply_implied from to k d due = record {
  free = (due.known, due.free);
  implied = λ f adm made. second_of (lit_true f (neg from)) (lit_true f to) adm (value_holds f d.seen (neg from) false made due.premise);
  explained = rw (due.premise, eq-eqb to to refl) refl;
}
