-- What a propagator without constraints means.
use Rattle.std.specs.Prelude.{ℕ, true, false, []}
use Rattle.user_propagator.specs.Meaning.{Meaning}

-- It is in step with every seen trail, admits everything and explains nothing; so many callbacks
-- there were.
abbrev pub no_meaning : ℕ → Meaning
no_meaning asked = record {
  admits = λ _. true;
  scope = [];
  in_step = λ _. true;
  explains = λ _ _. false;
  steady = true;
  kinds = [];
  asked = asked;
  accepted = 0;
}
