-- The walk that finds the strong components. The path has the literals that are open, oldest
-- first. It falls into components, each of which begins at the place of a root; of what stands on
-- the path, each literal leads to the later ones. The work has the literals to which those of the
-- path lead and that were not looked at.
use Rattle.std.specs.Prelude.{◌≡◌, ◌≢◌, ℕ, suc, ◌+◌, ◌-◌, ◌*◌, ◌<◌, ◌≤◌, ◌⊎◌, Bool, true, false, List, [], ◌∷◌, ◌++◌, length, take, drop, replicate, slice_index_or, slice_set}
use Rattle.sat_terms.specs.Literal.{has, var_of}
use Rattle.equiv_subst.specs.declared.walk.Mark.{Mark}
use Rattle.equiv_subst.specs.declared.walk.Mark.TheVariants.{Fresh, Open, Done}
use Rattle.equiv_subst.specs.declared.walk.Root.{Root}
use Rattle.equiv_subst.specs.declared.pairs.Pair.{Pair}
use Rattle.equiv_subst.specs.Implications.{Arc, arcs, size, AllFrozen}
use Rattle.firm_terms.specs.Implying.{Leads, Joined}

pub record Way : Type 0 where
  pub marks : List Mark
  pub path : List ℕ
  pub work : List ℕ
  pub roots : List Root
  pub count : ℕ

abbrev pub mark : List Mark → ℕ → Mark
mark marks l = slice_index_or marks l Fresh

abbrev pub at : List ℕ → ℕ → ℕ
at xs p = slice_index_or xs p 0

abbrev pub no_root : Root
no_root = record { place = 0; work = 0 }

abbrev pub root : List Root → ℕ → Root
root roots r = slice_index_or roots r no_root

-- What is known of a literal to which one on the path leads: it is done, or open from a place on,
-- or still waits from a place on.
pub data Seen (marks : List Mark) (work : List ℕ) (place from m : ℕ) : Type 0 where
  done : (n : ℕ) → mark marks m ≡ Done n → Seen marks work place from m
  later : (q : ℕ) → mark marks m ≡ Open q → place ≤ q → Seen marks work place from m
  waits : (k : ℕ) → from ≤ k → k < length work → at work k ≡ m → Seen marks work place from m

-- what holds between two turns of the walk
pub record IsWay (g : List (List ℕ)) (w : Way) : Type 0 where
  pub size : length w.marks ≡ length g
  pub here : (p : ℕ) → p < length w.path → mark w.marks (at w.path p) ≡ Open p
  pub back : (l p : ℕ) → mark w.marks l ≡ Open p → (p < length w.path) × (at w.path p ≡ l)
  pub up : (i j : ℕ) → i ≤ j → j < length w.path → Leads (Arc g) (at w.path i) (at w.path j)
  pub down : (i j : ℕ) → i ≤ j → j < length w.path
      → ((r : ℕ) → r < length w.roots → i < (root w.roots r).place → (root w.roots r).place ≤ j
      → ⊥)
      → Leads (Arc g) (at w.path j) (at w.path i)
  pub waiting : (r k : ℕ) → r < length w.roots → (root w.roots r).work ≤ k → k < length w.work
      → Leads (Arc g) (at w.path (root w.roots r).place) (at w.work k)
  pub seen : (r p m : ℕ) → r < length w.roots → (root w.roots r).place ≤ p → p < length w.path
      → Arc g (at w.path p) m → Seen w.marks w.work (root w.roots r).place (root w.roots r).work m
  pub numbered : (l n : ℕ) → mark w.marks l ≡ Done n → n < w.count
  pub closed : (l m n : ℕ) → mark w.marks l ≡ Done n → Arc g l m
      → (k : ℕ) × (mark w.marks m ≡ Done k) × (k ≤ n)
  pub order : (r q : ℕ) → r < q → q < length w.roots
      → ((root w.roots r).place < (root w.roots q).place)
      × ((root w.roots r).work ≤ (root w.roots q).work)
  pub inside : (r : ℕ) → r < length w.roots
      → ((root w.roots r).place < length w.path) × ((root w.roots r).work ≤ length w.work)
  pub first : 0 < length w.roots → ((root w.roots 0).place ≡ 0) × ((root w.roots 0).work ≡ 0)
  pub empty : length w.roots ≡ 0 → (length w.path ≡ 0) × (length w.work ≡ 0)

-- New marks where the component from a place on got a number: its literals are done, and every
-- other mark is as it was.
pub record Numbers (old new : List Mark) (place n : ℕ) : Type 0 where
  pub size : length new ≡ length old
  pub own : (l p : ℕ) → mark old l ≡ Open p → place ≤ p → mark new l ≡ Done n
  pub others : (l : ℕ) → ((p : ℕ) → mark old l ≡ Open p → place ≤ p → ⊥) → mark new l ≡ mark old l

-- the sum of a weight over the literals that were not met
abbrev pub fresh_weight : Mark → ℕ → ℕ
fresh_weight Fresh n = n
fresh_weight (Open p) n = 0
fresh_weight (Done k) n = 0

abbrev pub weigh : (ℕ → ℕ) → List Mark → ℕ → ℕ
weigh f [] j = 0
weigh f (x ∷ marks) j = fresh_weight x (f j) + weigh f marks (suc j)

abbrev pub fresh : List Mark → ℕ
fresh marks = weigh (λ _. 1) marks 0

-- how many literals are still to be looked at: those that wait, and those to which fresh ones
-- lead
abbrev pub unseen : List (List ℕ) → Way → ℕ
unseen g w = length w.work + weigh (λ l. length (arcs g l)) w.marks 0

-- there are no more components than literals that were met
abbrev pub IsFew : Way → Type 0
IsFew w = w.count + length w.path + fresh w.marks ≤ length w.marks

abbrev pub no_pair : Pair
no_pair = record { lit = 0; to = 0 }

abbrev pub pair : List Pair → ℕ → Pair
pair ps k = slice_index_or ps k no_pair

-- the literals of each pair lead to one another
abbrev pub AreJoined : List (List ℕ) → List Pair → Type 0
AreJoined g ps = (k : ℕ) → k < length ps → Joined (Arc g) (pair ps k).lit (pair ps k).to

-- where there is no pair, components that are done have variables in common with frozen ones
-- alone
abbrev pub AreSettled : (ℕ → Bool) → List Mark → List Pair → Type 0
AreSettled frozen marks ps = length ps ≡ 0
    → (l m n : ℕ) → mark marks l ≡ Done n → mark marks m ≡ Done n → l ≢ m
    → frozen (var_of l) ≡ true

-- the two literals of a pair are different, and where their variables are, the first one's is not
-- frozen
pub record IsFit (frozen : ℕ → Bool) (p : Pair) : Type 0 where
  pub apart : p.lit ≢ p.to
  pub free : var_of p.lit ≢ var_of p.to → frozen (var_of p.lit) ≡ false

abbrev pub AreFit : (ℕ → Bool) → List Pair → Type 0
AreFit frozen ps = (k : ℕ) → k < length ps → IsFit frozen (pair ps k)

-- a pair of two literals, in one order or the other
pub record IsPairFor (frozen : ℕ → Bool) (p : Pair) (lit to : ℕ) : Type 0 where
  pub is : ((p.lit ≡ lit) × (p.to ≡ to)) ⊎ ((p.lit ≡ to) × (p.to ≡ lit))
  pub fit : IsFit frozen p

-- each new pair is an old one, or has literals of the list
abbrev pub AreFrom : (ℕ → Bool) → List Pair → List ℕ → List Pair → Type 0
AreFrom frozen old members new = (k : ℕ) → k < length new
    → ((k < length old) × (pair new k ≡ pair old k))
    ⊎ ((has members (pair new k).lit ≡ true) × (has members (pair new k).to ≡ true)
    × IsFit frozen (pair new k))

-- where there are no pairs, the first literals of a list are frozen, and so is the representative
-- if there is another
abbrev pub FrontFrozen : (ℕ → Bool) → List ℕ → ℕ → ℕ → Type 0
FrontFrozen frozen members to n = (k : ℕ) → k < n → slice_index_or members k 0 ≢ to
    → (frozen (var_of (slice_index_or members k 0)) ≡ true) × (frozen (var_of to) ≡ true)

-- of a list of literals, all but one kind are frozen
abbrev pub AreFrozen : (ℕ → Bool) → List ℕ → Type 0
AreFrozen frozen members = (l m : ℕ) → has members l ≡ true → has members m ≡ true → l ≢ m
    → frozen (var_of l) ≡ true

-- what holds between two turns, with the pairs that were found
pub record Walks (g : List (List ℕ)) (frozen : ℕ → Bool) (w : Way) (ps : List Pair) : Type 0 where
  pub way : IsWay g w
  pub few : IsFew w
  pub within : (k : ℕ) → k < length w.work → at w.work k < length g
  pub joined : AreJoined g ps
  pub fit : AreFit frozen ps
  pub settled : AreSettled frozen w.marks ps

-- the roots whose place is above another went
pub record Merges (old new : List Root) (place n : ℕ) : Type 0 where
  pub kept : new ≡ take n old
  pub few : n ≤ length old
  pub low : 0 < n → (root old (n - 1)).place ≤ place
  pub high : (r : ℕ) → n ≤ r → r < length old → place < (root old r).place

-- after a literal was met
abbrev pub meeting : List (List ℕ) → Way → ℕ → ℕ → Way
meeting g w m d = record {
  marks = slice_set w.marks m (Open (length w.path));
  path = w.path ++ m ∷ [];
  work = take d w.work ++ arcs g m;
  roots = w.roots ++ record { place = length w.path; work = d } ∷ [];
  count = w.count;
}

-- what is on the path is marked with its place, and nothing else is marked as open
pub record OnPath (marks : List Mark) (path : List ℕ) : Type 0 where
  pub here : (p : ℕ) → p < length path → mark marks (at path p) ≡ Open p
  pub back : (l p : ℕ) → mark marks l ≡ Open p → (p < length path) × (at path p ≡ l)

-- the marks of some literals were set
pub record Marks (old new : List Mark) (members : List ℕ) (n : ℕ) : Type 0 where
  pub size : length new ≡ length old
  pub own : (l : ℕ) → has members l ≡ true → mark new l ≡ Done n
  pub others : (l : ℕ) → has members l ≡ false → mark new l ≡ mark old l

-- the component from a place on was closed, and its pairs were added
pub record Closes (frozen : ℕ → Bool) (old new : Way) (ps qs : List Pair) (place : ℕ)
    : Type 0 where
  pub marks : Numbers old.marks new.marks place old.count
  pub path : new.path ≡ take place old.path
  pub work : new.work ≡ old.work
  pub roots : new.roots ≡ take (length old.roots - 1) old.roots
  pub count : new.count ≡ old.count + 1
  pub from : AreFrom frozen ps (drop place old.path) qs
  pub grown : length ps ≤ length qs
  pub settled : length qs ≡ 0 → AreFrozen frozen (drop place old.path)

-- the same, with other roots, and of the work the first d alone
abbrev pub left_with : Way → List Root → ℕ → Way
left_with w roots d = record {
  marks = w.marks;
  path = w.path;
  work = take d w.work;
  roots = roots;
  count = w.count;
}

-- what was done with a literal that waited last, after the first d that wait
pub data Looks (g : List (List ℕ)) (old new : Way) (m d : ℕ) : Type 0 where
  fresh_one : mark old.marks m ≡ Fresh → new ≡ meeting g old m d → Looks g old new m d
  open_one : (q : ℕ) → mark old.marks m ≡ Open q
      → Merges old.roots new.roots q (length new.roots)
      → new ≡ left_with old new.roots d
      → Looks g old new m d
  done_one : (n : ℕ) → mark old.marks m ≡ Done n
      → new ≡ left_with old old.roots d
      → Looks g old new m d

-- no literal that was met is fresh again
abbrev pub StayMet : List Mark → List Mark → Type 0
StayMet old new = (l : ℕ) → mark new l ≡ Fresh → mark old l ≡ Fresh

-- a turn that looked at a literal or closed a component, and one that needed a step that the
-- limit does not leave
pub record Turned (g : List (List ℕ)) (frozen : ℕ → Bool) (old new : Way) (qs : List Pair)
    (a b limit : ℕ) : Type 0 where
  pub walks : Walks g frozen new qs
  pub met : StayMet old.marks new.marks
  pub spent : b + unseen g new ≡ a + unseen g old
  pub less : 2 * unseen g new + length new.roots < 2 * unseen g old + length old.roots
  pub rest : b ≤ limit

pub record Halted (a b unseen_before limit : ℕ) : Type 0 where
  pub full : b ≡ limit
  pub some : b < a + unseen_before

-- a walk from a literal on
pub record Exploring (g : List (List ℕ)) (frozen : ℕ → Bool) (old new : Way) (qs : List Pair)
    (m a b limit : ℕ) : Type 0 where
  pub walks : Walks g frozen new qs
  pub met : StayMet old.marks new.marks
  pub own : mark new.marks m ≢ Fresh
  pub spent : b + unseen g new ≡ a + unseen g old
  pub rest : b ≤ limit

-- and to its end
abbrev pub Explored : List (List ℕ) → (ℕ → Bool) → Way → Way → List Pair → ℕ → ℕ → ℕ → ℕ → Type 0
Explored g frozen old new qs m a b limit =
    Exploring g frozen old new qs m a b limit × (length new.roots ≡ 0)

-- what the walk through all literals finds
pub record Found (g : List (List ℕ)) (frozen : ℕ → Bool) (ps : List Pair) (a b limit : ℕ)
    : Type 0 where
  pub joined : AreJoined g ps
  pub fit : AreFit frozen ps
  pub settled : length ps ≡ 0 → AllFrozen frozen g
  pub spent : b ≤ a + size g
  pub rest : b ≤ limit

-- nothing was met
abbrev pub start : ℕ → Way
start n = record { marks = replicate n Fresh; path = []; work = []; roots = []; count = 0 }
