use Rattle.clause_store.proofs.Placing.{placed_less, apart_turned, apart_less}
use Rattle.clause_store.proofs.kinds.Kinds.remove.Goals as goal

pub invariant_of-self : goal.invariant_of-self
invariant_of-self c =
    let e = c.take_out.ensures in
    let h = c.self.invariant in
    record {
      firm_placed = e.placed;
      redundant_placed = placed_less c.self.inside.firm.items c.self.inside.redundant.items c.self.inside.places.items c.take_out.new.places.items h.redundant_placed (apart_turned h.apart) e.long e.others;
      apart = apart_less h.apart e.gone;
    }

pub invariant_of-self-in-Redundant : goal.invariant_of-self-in-Redundant
invariant_of-self-in-Redundant c =
    let e = c.take_out-in-Redundant.ensures in
    let h = c.self.invariant in
    record {
      firm_placed = placed_less c.self.inside.redundant.items c.self.inside.firm.items c.self.inside.places.items c.take_out-in-Redundant.new.places.items h.firm_placed h.apart e.long e.others;
      redundant_placed = e.placed;
      apart = apart_turned (apart_less (apart_turned h.apart) e.gone);
    }
