-- What the fields of the propagator mean.
use Rattle.user_propagator.specs.Meaning.{Meaning}
use Rattle.group_propagator.specs.declared.at_most_one.AtMostOne.{AtMostOne}
use Rattle.group_propagator.specs.Group.{group_meaning}

abbrev pub meaning_of : AtMostOne → Meaning
meaning_of t = group_meaning t.group.members t.chosen t.passed t.level t.asked
