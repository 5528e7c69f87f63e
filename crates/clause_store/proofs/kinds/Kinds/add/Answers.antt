use Rattle.std.proofs.Common.{◌≡◌}
use Rattle.clause_store.specs.Listing.{times}
use Rattle.clause_store.proofs.Placing.{placed_more, apart_turned, apart_appended}
use Rattle.clause_store.proofs.kinds.Kinds.add.Goals as goal

pub invariant_of-self : goal.invariant_of-self
invariant_of-self c =
    let e = c.append.ensures in
    let h = c.self.invariant in
    let none : times c.self.inside.redundant.items c.args.id ≡ 0 = rw (← c.self.view_is) at c.requires.redundant in
    record {
      firm_placed = e.placed;
      redundant_placed = placed_more c.self.inside.redundant.items c.self.inside.places.items c.append.new.places.items c.args.id h.redundant_placed none e.longer e.others;
      apart = apart_appended c.append.result _ _ _ c.args.id h.apart none e.ok e.err;
    }

pub invariant_of-self-in-Redundant : goal.invariant_of-self-in-Redundant
invariant_of-self-in-Redundant c =
    let e = c.append-in-Redundant.ensures in
    let h = c.self.invariant in
    let none : times c.self.inside.firm.items c.args.id ≡ 0 = rw (← c.self.view_is) at c.requires.firm in
    record {
      firm_placed = placed_more c.self.inside.firm.items c.self.inside.places.items c.append-in-Redundant.new.places.items c.args.id h.firm_placed none e.longer e.others;
      redundant_placed = e.placed;
      apart = apart_turned (apart_appended c.append-in-Redundant.result _ _ _ c.args.id (apart_turned h.apart) none e.ok e.err);
    }
