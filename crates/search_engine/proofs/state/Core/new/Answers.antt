use Rattle.std.proofs.Common.{refl, arith}
use Rattle.search_engine.proofs.state.Core.new.Goals as goal
use Rattle.search_engine.proofs.Readying.{listing_all}

pub returns-clause-rest : goal.returns-clause-rest
returns-clause-rest c = record {
  root = c.new-2.ensures.level;
  standing = record {
    rooted = rw c.new-2.ensures.steps (λ i in'. absurd (omega arith));
    listing = listing_all _ _ _ c.new-9.ensures.items (rw (c.new-3.ensures.attached, c.new.ensures) (λ id. refl));
    following = c.new-3.ensures.follows _ _;
    orderly = record {
      declared = rw c.new-2.ensures.declared (omega arith);
      active = rw c.new-4.ensures.declared (λ v some known. absurd (omega arith));
      finds = c.new-4.ensures.follows _;
    };
  };
}
