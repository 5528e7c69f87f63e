use Rattle.std.proofs.Common.{refl}
use Rattle.var_elim.proofs.Settling.{settled_added}
use Rattle.var_elim.proofs.Eliminating.{may_come, ruled_added, ruled_first, ruled_second, settled_second, both_gone, on_ok_map}
use Rattle.var_elim.proofs.eliminate.eliminate.Goals as goal

pub add_all-requires : goal.add_all-requires
add_all-requires c = may_come c.args.kernel.now c.args.lit c.args.resolvents.now c.requires

pub returns-in_err-add_all-clause-ruled : goal.returns-in_err-add_all-clause-ruled
returns-in_err-add_all-clause-ruled c =
    ruled_added c.args.kernel.now c.add_all.new.kernel c.add_all.new.kernel c.add_all.new.kernel c.args.lit _ c.args.resolvents.now refl c.add_all.ensures.ruled

pub park_all-requires : goal.park_all-requires
park_all-requires c = settled_added c.args.kernel.now.store c.args.lit c.args.resolvents.now c.requires c.add_all.new.kernel.store c.in_ok-add_all.ensures.added

pub returns-in_err-park_all-clause-ruled : goal.returns-in_err-park_all-clause-ruled
returns-in_err-park_all-clause-ruled c =
    ruled_first c.args.kernel.now c.add_all.new.kernel c.park_all.new.kernel c.park_all.new.kernel c.args.lit _ c.args.resolvents.now refl c.add_all.ensures.ruled c.park_all.ensures.ruled

pub park_all-requires-2 : goal.park_all-requires-2
park_all-requires-2 c =
    settled_second c.args.kernel.now c.add_all.new.kernel c.park_all.new.kernel c.park_all.new.kernel c.args.lit c.neg.result c.args.resolvents.now c.neg.ensures c.in_ok-park_all.ensures.done

pub returns-clause-ruled : goal.returns-clause-ruled
returns-clause-ruled c =
    ruled_second c.args.kernel.now c.add_all.new.kernel c.park_all.new.kernel c.park_all-2.new.kernel c.args.lit c.neg.result c.args.resolvents.now c.neg.ensures c.add_all.ensures.ruled c.park_all.ensures.ruled c.park_all-2.ensures.ruled

pub returns-clause-gone : goal.returns-clause-gone
returns-clause-gone c =
    on_ok_map c.park_all-2.result _ _
    (λ h. both_gone c.args.kernel.now c.add_all.new.kernel c.park_all.new.kernel c.park_all-2.new.kernel c.args.lit c.neg.result c.args.resolvents.now c.neg.ensures c.in_ok-park_all.ensures.done c.park_all-2.ensures.none h)
    c.park_all-2.ensures.done
