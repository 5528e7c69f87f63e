-- What a bump and a new variable make of the ring.
use Rattle.std.proofs.Common.{◌≡◌, ◌≢◌, ℕ, ◌+◌, ◌^◌, ◌<◌, ◌≤◌, List, length, length-set, get_or, set, inl, inr, refl, sym, ap, ◌∙◌, arith}
use Rattle.std.proofs.lemmas.Bool.{cases_eq}
use Rattle.std.proofs.lemmas.List.{get_or-set_same, get_or-set_other, get_or_read}
use Rattle.sat_terms.specs.Limits.{max_var}
use Rattle.decide_order.specs.Line.{at, Line, IsNewest, IsRing, IsQueue}

-- one place of a table was written
pub record Puts (f f' : ℕ → ℕ) (i x : ℕ) : Type 0 where
  pub here : f' i ≡ x
  pub others : (j : ℕ) → j ≢ i → f' j ≡ f j

pub puts_set : (xs : List ℕ) (i x : ℕ) → i < length xs → Puts (at xs) (at (set xs i x)) i x
puts_set xs i x in' = record { here = get_or-set_same xs i x 0 in'; others = λ j n. get_or-set_other xs i j x 0 n }

-- a new variable comes in as the newest
pub ring_append : (p p1 p' n n1 n' s s' : ℕ → ℕ) (count last v l : ℕ) → IsRing p n s count last → v ≡ count + 1 → l ≡ p 0 → Puts p p1 v l → Puts p1 p' 0 v
    → Puts n n1 l v → Puts n1 n' v 0 → Puts s s' v (last + 1) → IsRing p' n' s' v (last + 1)
ring_append p p1 p' n n1 n' s s' count last v l r v-is l-is a b c d e =
    let l-in : l ≤ count = rw l-is (r.prev_in 0 (omega arith)) in
    let v-root : v ≢ 0 = omega arith in
    let l-v : l ≢ v = omega arith in
    let p-root : p' 0 ≡ v = b.here in
    let p-v : p' v ≡ l = b.others v v-root ∙ a.here in
    let p-w : (w : ℕ) → w ≢ 0 → w ≢ v → p' w ≡ p w = λ w off off'. b.others w off ∙ a.others w off' in
    let n-v : n' v ≡ 0 = d.here in
    let n-l : n' l ≡ v = d.others l l-v ∙ c.here in
    let n-w : (w : ℕ) → w ≢ v → w ≢ l → n' w ≡ n w = λ w off off'. d.others w off ∙ c.others w off' in
    let l-next : n l ≡ 0 = rw l-is (r.next_prev 0 (omega arith)) in
    let below' : (w : ℕ) → w ≤ v → s' w ≤ last + 1 = λ w in'.
    elim (cases_eq w v) [
      | inl q ↦ rw (q, e.here) (omega arith)
      | inr off ↦ (let o = e.others w off in let k = r.below w (omega arith) in omega arith)
    ] in
    record {
      root = e.others 0 (omega arith) ∙ r.root;
      stamped = λ w pos in'.
          elim (cases_eq w v) [
            | inl q ↦ rw (q, e.here) (omega arith)
            | inr off ↦ (let o = e.others w off in let k = r.stamped w pos (omega arith) in omega arith)
          ];
      below = below';
      apart = λ u w in' in'' same.
          elim (cases_eq u v) [
            | inl q ↦ elim (cases_eq w v) [
              | inl q' ↦ q ∙ sym q'
              | inr off ↦ absurd (let h = e.here in let o = e.others w off in let k = r.below w (omega arith) in let same' : s' v ≡ s' w = rw q at same in omega arith)
            ]
            | inr off ↦ elim (cases_eq w v) [
              | inl q ↦ absurd (let h = e.here in let o = e.others u off in let k = r.below u (omega arith) in let same' : s' u ≡ s' v = rw q at same in omega arith)
              | inr off' ↦ r.apart u w (omega arith) (omega arith) (sym (e.others u off) ∙ same ∙ e.others w off')
            ]
          ];
      prev_in = λ w in'.
          elim (cases_eq w 0) [
            | inl q ↦ rw (q, p-root) (omega arith)
            | inr off ↦ elim (cases_eq w v) [
              | inl q ↦ rw (q, p-v) (omega arith)
              | inr off' ↦ rw (p-w w off off') (let k = r.prev_in w (omega arith) in omega arith)
            ]
          ];
      next_in = λ w in'.
          elim (cases_eq w v) [
            | inl q ↦ rw (q, n-v) (omega arith)
            | inr off ↦ elim (cases_eq w l) [
              | inl q ↦ rw (q, n-l) (omega arith)
              | inr off' ↦ rw (n-w w off off') (let k = r.next_in w (omega arith) in omega arith)
            ]
          ];
      next_prev = λ w in'.
          elim (cases_eq w 0) [
            | inl q ↦ rw (q, p-root) n-v
            | inr off ↦ elim (cases_eq w v) [
              | inl q ↦ rw (q, p-v) n-l
              | inr off' ↦
                  let k = r.prev_in w (omega arith) in
                  let back = r.next_prev w (omega arith) in
                  let other : p w ≢ v = omega arith in
                  let other' : p w ≢ l = λ q. off (sym back ∙ ap n q ∙ l-next) in
                  rw (p-w w off off', n-w (p w) other other') back
            ]
          ];
      prev_next = λ w in'.
          elim (cases_eq w v) [
            | inl q ↦ rw (q, n-v) p-root
            | inr off ↦ elim (cases_eq w l) [
              | inl q ↦ rw (q, n-l) p-v
              | inr off' ↦
                  let k = r.next_in w (omega arith) in
                  let back = r.prev_next w (omega arith) in
                  let other : n w ≢ v = omega arith in
                  let other' : n w ≢ 0 = λ q. off' (sym back ∙ ap p q ∙ sym l-is) in
                  rw (n-w w off off', p-w (n w) other' other) back
            ]
          ];
      older = λ w pos in'.
          elim (cases_eq w v) [
            | inl q ↦ rw (q, p-v, e.here, e.others l l-v) (let k = r.below l l-in in omega arith)
            | inr off ↦
                let k = r.prev_in w (omega arith) in
                let other : p w ≢ v = omega arith in
                rw (p-w w (omega arith) off, e.others w off, e.others (p w) other) (r.older w pos (omega arith))
          ];
      between = λ u w in' pos in'' lt.
          elim (cases_eq w v) [
            | inl q ↦ elim (cases_eq u v) [
              | inl q' ↦ absurd (let lt' : s' v < s' v = rw (q, q') at lt in omega arith)
              | inr off ↦ rw (q, p-v, e.others u off, e.others l l-v, l-is) (r.newest u (omega arith))
            ]
            | inr off ↦ elim (cases_eq u v) [
              | inl q ↦ absurd (let lt' : s' v < s' w = rw q at lt in let h = e.here in let o = e.others w off in let k = r.below w (omega arith) in omega arith)
              | inr off' ↦
                  let k = r.prev_in w (omega arith) in
                  let other : p w ≢ v = omega arith in
                  rw (p-w w (omega arith) off, e.others u off', e.others (p w) other) (r.between u w (omega arith) pos (omega arith) (rw (e.others u off', e.others w off) at lt))
            ]
          ];
      newest = λ u in'. rw (p-root, e.here) (below' u in');
    }

-- a variable that is offt the newest becomes the newest
pub ring_bump : (p p1 p2 p' n n1 n2 n' s s' : ℕ → ℕ) (count last v after before l : ℕ) → IsRing p n s count last → 0 < v → v ≤ count → after ≡ n v → after ≢ 0 → before ≡ p v → l ≡ p 0
    → Puts p p1 after before → Puts p1 p2 v l → Puts p2 p' 0 v → Puts n n1 before after → Puts n1 n2 l v → Puts n2 n' v 0 → Puts s s' v (last + 1) → IsRing p' n' s' count (last + 1)
ring_bump p p1 p2 p' n n1 n2 n' s s' count last v after before l r pos in' after-is some before-is l-is a b c d e f g =
    let v-root : v ≢ 0 = omega arith in
    let after-in : after ≤ count = rw after-is (r.next_in v in') in
    let before-in : before ≤ count = rw before-is (r.prev_in v in') in
    let l-in : l ≤ count = rw l-is (r.prev_in 0 (omega arith)) in
    let after-back : p after ≡ v = rw after-is (r.prev_next v in') in
    let before-next : n before ≡ v = rw before-is (r.next_prev v in') in
    let l-next : n l ≡ 0 = rw l-is (r.next_prev 0 (omega arith)) in
    let up : s v < s after = rw after-back at (r.older after (omega arith) after-in) in
    let down : s before < s v = rw (← before-is) at (r.older v pos in') in
    let top : s after ≤ s l = rw (← l-is) at (r.newest after after-in) in
    let after-v : after ≢ v = λ q. absurd (let z = ap s q in omega arith) in
    let before-v : before ≢ v = λ q. absurd (let z = ap s q in omega arith) in
    let l-v : l ≢ v = λ q. absurd (let z = ap s q in omega arith) in
    let before-l : before ≢ l = λ q. absurd (let z = ap s q in omega arith) in
    let p-root : p' 0 ≡ v = c.here in
    let p-v : p' v ≡ l = c.others v v-root ∙ b.here in
    let p-after : p' after ≡ before = c.others after some ∙ b.others after after-v ∙ a.here in
    let p-w : (w : ℕ) → w ≢ 0 → w ≢ v → w ≢ after → p' w ≡ p w = λ w off off' off''. c.others w off ∙ b.others w off' ∙ a.others w off'' in
    let n-v : n' v ≡ 0 = f.here in
    let n-l : n' l ≡ v = f.others l l-v ∙ e.here in
    let n-before : n' before ≡ after = f.others before before-v ∙ e.others before before-l ∙ d.here in
    let n-w : (w : ℕ) → w ≢ v → w ≢ l → w ≢ before → n' w ≡ n w = λ w off off' off''. f.others w off ∙ e.others w off' ∙ d.others w off'' in
    let below' : (w : ℕ) → w ≤ count → s' w ≤ last + 1 = λ w k.
    elim (cases_eq w v) [
      | inl q ↦ rw (q, g.here) (omega arith)
      | inr off ↦ (let o = g.others w off in let m = r.below w k in omega arith)
    ] in
    let apart' : (u w : ℕ) → u ≤ count → w ≤ count → s' u ≡ s' w → u ≡ w = λ u w k k' same.
    elim (cases_eq u v) [
      | inl q ↦ elim (cases_eq w v) [
        | inl q' ↦ q ∙ sym q'
        | inr off ↦ absurd (let h = g.here in let o = g.others w off in let m = r.below w k' in let same' : s' v ≡ s' w = rw q at same in omega arith)
      ]
      | inr off ↦ elim (cases_eq w v) [
        | inl q ↦ absurd (let h = g.here in let o = g.others u off in let m = r.below u k in let same' : s' u ≡ s' v = rw q at same in omega arith)
        | inr off' ↦ r.apart u w k k' (sym (g.others u off) ∙ same ∙ g.others w off')
      ]
    ] in
    let offt-v : (w : ℕ) → w ≤ count → w ≢ after → p w ≢ v = λ w k off q. off (sym (r.next_prev w k) ∙ ap n q ∙ sym after-is) in
    record {
      root = g.others 0 (omega arith) ∙ r.root;
      stamped = λ w wpos k.
          elim (cases_eq w v) [
            | inl q ↦ rw (q, g.here) (omega arith)
            | inr off ↦ (let o = g.others w off in let m = r.stamped w wpos k in omega arith)
          ];
      below = below';
      apart = apart';
      prev_in = λ w k.
          elim (cases_eq w 0) [
            | inl q ↦ rw (q, p-root) in'
            | inr off ↦ elim (cases_eq w v) [
              | inl q ↦ rw (q, p-v) l-in
              | inr off' ↦ elim (cases_eq w after) [
                | inl q ↦ rw (q, p-after) before-in
                | inr off'' ↦ rw (p-w w off off' off'') (r.prev_in w k)
              ]
            ]
          ];
      next_in = λ w k.
          elim (cases_eq w v) [
            | inl q ↦ rw (q, n-v) (omega arith)
            | inr off ↦ elim (cases_eq w l) [
              | inl q ↦ rw (q, n-l) in'
              | inr off' ↦ elim (cases_eq w before) [
                | inl q ↦ rw (q, n-before) after-in
                | inr off'' ↦ rw (n-w w off off' off'') (r.next_in w k)
              ]
            ]
          ];
      next_prev = λ w k.
          elim (cases_eq w 0) [
            | inl q ↦ rw (q, p-root) n-v
            | inr off ↦ elim (cases_eq w v) [
              | inl q ↦ rw (q, p-v) n-l
              | inr off' ↦ elim (cases_eq w after) [
                | inl q ↦ rw (q, p-after) n-before
                | inr off'' ↦
                    let back = r.next_prev w k in
                    let other : p w ≢ v = offt-v w k off'' in
                    let other' : p w ≢ l = λ q. off (sym back ∙ ap n q ∙ l-next) in
                    let other'' : p w ≢ before = λ q. off' (sym back ∙ ap n q ∙ before-next) in
                    rw (p-w w off off' off'', n-w (p w) other other' other'') back
              ]
            ]
          ];
      prev_next = λ w k.
          elim (cases_eq w v) [
            | inl q ↦ rw (q, n-v) p-root
            | inr off ↦ elim (cases_eq w l) [
              | inl q ↦ rw (q, n-l) p-v
              | inr off' ↦ elim (cases_eq w before) [
                | inl q ↦ rw (q, n-before) p-after
                | inr off'' ↦
                    let back = r.prev_next w k in
                    let other : n w ≢ 0 = λ q. off' (sym back ∙ ap p q ∙ sym l-is) in
                    let other' : n w ≢ v = λ q. off'' (sym back ∙ ap p q ∙ sym before-is) in
                    let other'' : n w ≢ after = λ q. off (sym back ∙ ap p q ∙ after-back) in
                    rw (n-w w off off' off'', p-w (n w) other other' other'') back
              ]
            ]
          ];
      older = λ w wpos k.
          elim (cases_eq w v) [
            | inl q ↦ rw (q, p-v, g.here, g.others l l-v) (let m = r.below l l-in in omega arith)
            | inr off ↦ elim (cases_eq w after) [
              | inl q ↦ rw (q, p-after, g.others before before-v, g.others after after-v) (omega arith)
              | inr off' ↦ rw (p-w w (omega arith) off off', g.others w off, g.others (p w) (offt-v w k off')) (r.older w wpos k)
            ]
          ];
      between = λ u w k wpos k' lt.
          elim (cases_eq w v) [
            | inl q ↦ elim (cases_eq u v) [
              | inl q' ↦ absurd (let lt' : s' v < s' v = rw (q, q') at lt in omega arith)
              | inr off ↦ rw (q, p-v, g.others u off, g.others l l-v, l-is) (r.newest u k)
            ]
            | inr off ↦ elim (cases_eq u v) [
              | inl q ↦ absurd (let lt' : s' v < s' w = rw q at lt in let h = g.here in let o = g.others w off in let m = r.below w k' in omega arith)
              | inr off' ↦
                  let lt' : s u < s w = rw (g.others u off', g.others w off) at lt in
                  elim (cases_eq w after) [
                    | inl q ↦
                        let lt'' : s u < s after = rw q at lt' in
                        let under : s u ≤ s v = rw after-back at (r.between u after k (omega arith) after-in lt'') in
                        let offt-same : s u ≢ s v = λ same. off' (r.apart u v k in' same) in
                        let under' : s u ≤ s before = rw (← before-is) at (r.between u v k pos in' (omega arith)) in
                        rw (q, p-after, g.others u off', g.others before before-v) under'
                    | inr off'' ↦ rw (p-w w (omega arith) off off'', g.others u off', g.others (p w) (offt-v w k' off'')) (r.between u w k wpos k' lt')
                  ]
            ]
          ];
      newest = λ u k. rw (p-root, g.here) (below' u k);
    }

-- what `append` makes of the tables, as the code reads them
pub queue_append : (ps ns ss : List ℕ) (count room last cursor newest : ℕ) → IsQueue ps ns ss count room last cursor → count + 1 < room → count < max_var → newest ≡ get_or ps 0 newest
    → IsQueue (set (set ps (count + 1) newest) 0 (count + 1)) (set (set ns newest (count + 1)) (count + 1) 0) (set ss (count + 1) (last + 1)) (count + 1) room (last + 1) (count + 1)
queue_append ps ns ss count room last cursor newest q more few read =
    let a = q.prevs_room in
    let b = q.nexts_room in
    let c = q.stamps_room in
    let low = q.low in
    let newest-is : newest ≡ at ps 0 = get_or_read ps 0 newest (omega arith) read 0 in
    let newest-in : newest ≤ count = rw newest-is (q.ring.prev_in 0 (omega arith)) in
    let ps1 = set ps (count + 1) newest in
    let size1 : length ps1 ≡ length ps = length-set ps (count + 1) newest in
    let size2 : length (set ps1 0 (count + 1)) ≡ length ps1 = length-set ps1 0 (count + 1) in
    let ns1 = set ns newest (count + 1) in
    let size3 : length ns1 ≡ length ns = length-set ns newest (count + 1) in
    let size4 : length (set ns1 (count + 1) 0) ≡ length ns1 = length-set ns1 (count + 1) 0 in
    let size5 : length (set ss (count + 1) (last + 1)) ≡ length ss = length-set ss (count + 1) (last + 1) in
    record {
      ring = ring_append (at ps) (at ps1) (at (set ps1 0 (count + 1))) (at ns) (at ns1) (at (set ns1 (count + 1) 0)) (at ss) (at (set ss (count + 1) (last + 1))) count last (count + 1) newest q.ring refl newest-is
          (puts_set ps (count + 1) newest (omega arith)) (puts_set ps1 0 (count + 1) (omega arith)) (puts_set ns newest (count + 1) (omega arith)) (puts_set ns1 (count + 1) 0 (omega arith)) (puts_set ss (count + 1) (last + 1) (omega arith));
      prevs_room = omega arith;
      nexts_room = omega arith;
      stamps_room = omega arith;
      within = λ _. more;
      few = omega arith;
      low = omega arith;
      known = omega arith;
    }

-- what `bump` makes of the tables, as the code reads them
pub queue_bump : (ps ns ss : List ℕ) (count room last cursor cursor' v after before newest : ℕ) → IsQueue ps ns ss count room last cursor → 0 < v → v ≤ count → after ≡ get_or ns v after → 0 < after → last < 2 ^ 63 → before ≡ get_or ps v before → newest ≡ get_or ps 0 newest
    → cursor' ≤ count → IsQueue (set (set (set ps after before) v newest) 0 v) (set (set (set ns before after) newest v) v 0) (set ss v (last + 1)) count room (last + 1) cursor'
queue_bump ps ns ss count room last cursor cursor' v after before newest q pos in' read some small read' read'' known =
    let a = q.prevs_room in
    let b = q.nexts_room in
    let c = q.stamps_room in
    let more = q.within (omega arith) in
    let after-is : after ≡ at ns v = get_or_read ns v after (omega arith) read 0 in
    let before-is : before ≡ at ps v = get_or_read ps v before (omega arith) read' 0 in
    let newest-is : newest ≡ at ps 0 = get_or_read ps 0 newest (omega arith) read'' 0 in
    let after-in : after ≤ count = rw after-is (q.ring.next_in v in') in
    let before-in : before ≤ count = rw before-is (q.ring.prev_in v in') in
    let newest-in : newest ≤ count = rw newest-is (q.ring.prev_in 0 (omega arith)) in
    let ps1 = set ps after before in
    let size1 : length ps1 ≡ length ps = length-set ps after before in
    let ps2 = set ps1 v newest in
    let size2 : length ps2 ≡ length ps1 = length-set ps1 v newest in
    let size3 : length (set ps2 0 v) ≡ length ps2 = length-set ps2 0 v in
    let ns1 = set ns before after in
    let size4 : length ns1 ≡ length ns = length-set ns before after in
    let ns2 = set ns1 newest v in
    let size5 : length ns2 ≡ length ns1 = length-set ns1 newest v in
    let size6 : length (set ns2 v 0) ≡ length ns2 = length-set ns2 v 0 in
    let size7 : length (set ss v (last + 1)) ≡ length ss = length-set ss v (last + 1) in
    let some' : after ≢ 0 = omega arith in
    record {
      ring = ring_bump (at ps) (at ps1) (at ps2) (at (set ps2 0 v)) (at ns) (at ns1) (at ns2) (at (set ns2 v 0)) (at ss) (at (set ss v (last + 1))) count last v after before newest q.ring pos in' after-is some' before-is newest-is
          (puts_set ps after before (omega arith)) (puts_set ps1 v newest (omega arith)) (puts_set ps2 0 v (omega arith))
          (puts_set ns before after (omega arith)) (puts_set ns1 newest v (omega arith)) (puts_set ns2 v 0 (omega arith)) (puts_set ss v (last + 1) (omega arith));
      prevs_room = omega arith;
      nexts_room = omega arith;
      stamps_room = omega arith;
      within = λ _. more;
      few = q.few;
      low = omega arith;
      known = known;
    }

-- a variable that gets a stamp above the last one is the newest, as the code reads it
pub queue_newest : (ps ns ss : List ℕ) (count room last cursor v w : ℕ) → IsQueue ps ns ss count room last cursor → 0 < w → w ≤ count → v ≡ w → (old new : Line) → old.stamps ≡ ss → new.stamps ≡ set ss v (last + 1) → new.count ≡ count → IsNewest old new w
queue_newest ps ns ss count room last cursor v w h pos known e old new was is same =
    let a = h.stamps_room in
    let b = h.within (omega arith) in
    let p = puts_set ss w (last + 1) (omega arith) in
    record {
      newest = λ u k.
          rw (is, e)
          (elim (cases_eq u w) [
            | inl q ↦ rw q (omega arith)
            | inr n ↦ rw (p.others u n, p.here) (let low = h.ring.below u (omega arith) in omega arith)
          ]);
      others = λ u n. rw (is, e, was) (p.others u n);
    }
