use Rattle.pass_terms.proofs.Ruling.{ruled_trans}
use Rattle.sat_terms.specs.Literal.{var_of, neg}
use Rattle.firm_terms.specs.Firm.{Holds}
use Rattle.equiv_subst.specs.Replacing.{all_but}
use Rattle.equiv_subst.proofs.Replacing.{park_back, park_forth, left_forth, cleared_first, parked_both, ruled_first, ruled_park, ruled_same}
use Rattle.equiv_subst.proofs.replace.park_both.Goals as goal

pub park-requires-clause-witnessed : goal.park-requires-clause-witnessed
park-requires-clause-witnessed c = park_back c.args.kernel.now.store c.args.x c.args.y c.args.tie.forth c.args.tie.back c.requires.apart c.requires.tied c.requires.clear c.requires.clear_too

pub returns-in_err-park-clause-ruled : goal.returns-in_err-park-clause-ruled
returns-in_err-park-clause-ruled c = ruled_same _ _ _ c.in_err-park.ensures.err

pub park-requires-2-clause-firm : goal.park-requires-2-clause-firm
park-requires-2-clause-firm c = (left_forth c.args.kernel.now.store c.park.new.self.store c.args.x c.args.y c.args.tie.forth c.args.tie.back c.requires.apart c.requires.tied c.in_ok-park.ensures.ok.store).firm

pub park-requires-2-clause-witnessed : goal.park-requires-2-clause-witnessed
park-requires-2-clause-witnessed c =
    let says = left_forth c.args.kernel.now.store c.park.new.self.store c.args.x c.args.y c.args.tie.forth c.args.tie.back c.requires.apart c.requires.tied c.in_ok-park.ensures.ok.store in
    let holds : Holds c.park.new.self.store c.args.tie.forth (neg c.args.x) = record { firm = says.firm; has = says.by.from } in
    rw c.neg.ensures (park_forth c.park.new.self.store c.args.x c.args.tie.forth holds (cleared_first c.args.kernel.now.store c.park.new.self.store c.args.x c.args.tie.back c.requires.clear c.in_ok-park.ensures.ok.store))

pub returns-in_err-park-2-clause-ruled : goal.returns-in_err-park-2-clause-ruled
returns-in_err-park-2-clause-ruled c =
    ruled_trans (all_but (var_of c.args.x)) c.args.kernel.now c.park.new.self c.park-2.new.self (ruled_first c.args.kernel.now c.park.new.self c.args.x c.args.tie.back c.in_ok-park.ensures.ok)
    (ruled_park c.park.new.self c.park-2.new.self c.args.x c.neg.result c.args.tie.forth c.park-2.result c.neg.ensures c.park-2.ensures.ok c.park-2.ensures.err)

pub returns-clause-ruled : goal.returns-clause-ruled
returns-clause-ruled c =
    ruled_trans (all_but (var_of c.args.x)) c.args.kernel.now c.park.new.self c.park-2.new.self (ruled_first c.args.kernel.now c.park.new.self c.args.x c.args.tie.back c.in_ok-park.ensures.ok)
    (ruled_park c.park.new.self c.park-2.new.self c.args.x c.neg.result c.args.tie.forth c.park-2.result c.neg.ensures c.park-2.ensures.ok c.park-2.ensures.err)

pub returns-clause-ok : goal.returns-clause-ok
returns-clause-ok c =
    parked_both c.args.kernel.now.store c.park.new.self.store c.park-2.new.self.store c.args.x c.args.y c.args.tie.forth c.args.tie.back c.requires.apart c.requires.tied c.requires.clear c.requires.clear_too c.in_ok-park.ensures.ok.store c.in_ok-park-2.ensures.ok.store
