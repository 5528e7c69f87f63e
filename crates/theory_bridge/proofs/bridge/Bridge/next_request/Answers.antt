-- A clause that is the first request may be taken.
use Rattle.theory_bridge.proofs.Standing.{ready_clause}
use Rattle.theory_bridge.proofs.bridge.Bridge.next_request.Goals as goal

pub returns-clause-clause : goal.returns-clause-clause
returns-clause-clause g c = ready_clause _ c.args.self.now.desk c.requires
