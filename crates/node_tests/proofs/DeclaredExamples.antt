-- Worked examples of what plans declare, by computing.
use Rattle.std.specs.Prelude.{ℕ, List, [], ◌∷◌}
use Rattle.std.proofs.Common.{◌≡◌, refl}
use Rattle.dfx_value.specs.declared.op.JoinKind.{JoinKind}
use Rattle.dfx_value.specs.declared.op.JoinKind.TheVariants as kind
use Rattle.plan_props.specs.declared.properties.Partitioning.{Partitioning}
use Rattle.plan_props.specs.declared.properties.Partitioning.TheVariants.{Single as One, RoundRobin, Hash, Unknown}
use Rattle.plan_props.specs.Same.{leader}
use Rattle.physical_plan.specs.declared.plan.Plan.{Plan}
use Rattle.physical_plan.specs.declared.plan.Plan.TheVariants as plan
use Rattle.physical_plan.specs.declared.properties.Declared.{Declared}
use Rattle.physical_plan.specs.Properties.{declared_of, left_keys, right_keys}
use Rattle.physical_plan.proofs.Nodes.{declared_nodes}
use Rattle.physical_plan.proofs.ExprFacts.{fact_nodes}
use Rattle.node_tests.proofs.PlansByHand.{scan, ascending, project, ones, equal, sort, merge, first_phase, join, union, hashed, dealt}

-- so many columns, the partitioning, the columns of the order, the pairs of equal columns, and the constants
abbrev has : ℕ → Partitioning → List ℕ → List (ℕ × ℕ) → List ℕ → Declared
has width partitioning order same constants = record {
  width = width;
  props = record { partitioning = partitioning; ordering = ascending order; same = same; constants = constants };
}

abbrev in_order : ℕ → Plan
in_order partitions = sort (scan 0 partitions) (0 ∷ 1 ∷ [])

-- the sides of a join: each hashed by its key, with a constant
abbrev left_side : Plan
left_side = hashed (ones (scan 0 2) 1) (0 ∷ []) 4

abbrev right_side : Plan
right_side = hashed (ones (scan 0 2) 0) (1 ∷ []) 4

abbrev joined : JoinKind → Plan
joined kind = join kind left_side right_side 0 1

-- inputs of which a is 1
abbrev united : Plan
united = union (ones (scan 0 2) 0) (ones (scan 0 3) 0)

-- WHERE a = b, over rows in the order of a and b
equal_columns : declared_of (equal (in_order 1) 0 1) ≡ has 2 One (0 ∷ 1 ∷ []) ((0, 1) ∷ []) []
unfolding leader
equal_columns = simp (declared_nodes, fact_nodes)

-- SELECT b, a, b of these: columns get the places of the first items that they are
turned : declared_of (project (equal (in_order 1) 0 1) (1 ∷ 0 ∷ 1 ∷ [])) ≡ has 3 One (1 ∷ 0 ∷ []) ((1, 0) ∷ []) []
unfolding leader
turned = simp (declared_nodes, fact_nodes)

-- SELECT a of these: an order is kept as far as its columns are
less : declared_of (project (equal (in_order 1) 0 1) (0 ∷ [])) ≡ has 1 One (0 ∷ []) [] []
unfolding leader
less = simp (declared_nodes, fact_nodes)

-- SELECT b of rows hashed by b
kept_hash : declared_of (project (hashed (scan 0 2) (1 ∷ []) 3) (1 ∷ [])) ≡ has 1 (Hash (0 ∷ []) 3) [] [] []
unfolding leader
kept_hash = simp (declared_nodes, fact_nodes)

-- SELECT b of rows hashed by a and b: of partitions by a column that is lost nothing is known
lost_hash : declared_of (project (hashed (scan 0 2) (0 ∷ 1 ∷ []) 3) (1 ∷ [])) ≡ has 1 (Unknown 3) [] [] []
unfolding leader
lost_hash = simp (declared_nodes, fact_nodes)

-- an exchange keeps the order of one partition
ordered_exchange : declared_of (hashed (in_order 1) (0 ∷ []) 2) ≡ has 2 (Hash (0 ∷ []) 2) (0 ∷ 1 ∷ []) [] []
unfolding leader
ordered_exchange = simp (declared_nodes, fact_nodes)

-- one to one partition is Single, and that of several has no order
to_one : declared_of (hashed (in_order 2) (0 ∷ []) 1) ≡ has 2 One [] [] []
unfolding leader
to_one = simp (declared_nodes, fact_nodes)

dealt_in_order : declared_of (dealt (in_order 1) 3) ≡ has 2 (RoundRobin 3) (0 ∷ 1 ∷ []) [] []
unfolding leader
dealt_in_order = simp (declared_nodes, fact_nodes)

merged : declared_of (merge (in_order 2) (0 ∷ [])) ≡ has 2 One (0 ∷ []) [] []
unfolding leader
merged = simp (declared_nodes, fact_nodes)

gathered : declared_of (plan.Coalesce (in_order 2)) ≡ has 2 One [] [] []
unfolding leader
gathered = simp (declared_nodes, fact_nodes)

-- groups by b of rows of which a is 1, hashed by b: a key, and a count's number and whether it ran over
groups : declared_of (first_phase right_side (1 ∷ [])) ≡ has 3 (Hash (0 ∷ []) 4) [] [] []
unfolding leader
groups = simp (declared_nodes, fact_nodes)

-- joins of two sides hashed by the keys a and b, with the constants b and a
inner : declared_of (joined kind.Inner) ≡ has 4 (Hash (0 ∷ []) 4) [] ((0, 3) ∷ []) (1 ∷ 2 ∷ [])
unfolding leader
inner = simp (declared_nodes, fact_nodes)

left : declared_of (joined kind.Left) ≡ has 4 (Hash (0 ∷ []) 4) [] [] (1 ∷ [])
unfolding leader
left = simp (declared_nodes, fact_nodes)

right : declared_of (joined kind.Right) ≡ has 4 (Hash (3 ∷ []) 4) [] [] (2 ∷ [])
unfolding leader
right = simp (declared_nodes, fact_nodes)

full : declared_of (joined kind.Full) ≡ has 4 (Unknown 4) [] [] []
unfolding leader
full = simp (declared_nodes, fact_nodes)

-- a union of two inputs of which a is 1
of_a_union : declared_of (united) ≡ has 2 (Unknown 5) [] [] []
unfolding leader
of_a_union = simp (declared_nodes, fact_nodes)

keys_of_the_left : left_keys ((0, 3) ∷ (1, 2) ∷ []) ≡ 0 ∷ 1 ∷ []
keys_of_the_left = refl

keys_of_the_right : right_keys ((0, 3) ∷ (1, 2) ∷ []) ≡ 3 ∷ 2 ∷ []
keys_of_the_right = refl
