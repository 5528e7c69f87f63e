use Rattle.std.proofs.Common.{◌≡◌, ◌∙◌, ◌-◌, sym, ap, refl, length, arith}
use Rattle.watch_lists.specs.Propagation.{Watching}
use Rattle.watch_lists.proofs.Following.{follows_placed}
use Rattle.watch_lists.proofs.watches.Watches.place_all.Goals as goal

pub loop-self-preserved : goal.loop-self-preserved
loop-self-preserved c =
    let p = c.in_ok-place.ensures in
    let v = c.self-in-loop-self.view_is in
    let same : c.self-in-loop-self.inside.waiting.items ≡ c.self.inside.waiting.items = ap (λ (w : Watching). w.waiting) v ∙ p.waiting ∙ sym (ap (λ (w : Watching). w.waiting) c.self.view_is) in
    let long = ap length same in
    record {
      attached = ap (λ (w : Watching). w.attached) v ∙ p.attached ∙ c.loop-self.invariant.attached;
      declared = ap (λ (w : Watching). w.declared) v ∙ p.declared ∙ c.loop-self.invariant.declared;
      follows = follows_placed _ _ _ _ c.index-id.result.now (c.len-last.result - 1) refl c.truncate.ensures.items refl refl refl refl refl
          (omega (arith, long, c.loop-self-test.true, c.len.ensures, c.len-last.ensures, c.self.inside.waiting.ok.0)) (omega (arith, long, c.loop-self-test.true, c.len.ensures, c.len-last.ensures, c.self.inside.waiting.ok.0))
          (rw same c.index-id.ensures) (rw (← v) at p.placed) (rw (← v) at p.follows);
    }
