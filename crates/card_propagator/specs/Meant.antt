-- What the fields of the propagator mean.
use Rattle.user_propagator.specs.Meaning.{Meaning}
use Rattle.card_propagator.specs.declared.card.CardTheory.{CardTheory}
use Rattle.card_propagator.specs.Cards.{card_meaning}

abbrev pub meaning_of : CardTheory → Meaning
meaning_of t = card_meaning t.counter t.asked t.accepted
