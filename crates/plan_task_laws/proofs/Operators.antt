-- The operators of all kinds of nodes owe what an operator has to.
use Rattle.std.proofs.Common.{ℕ, ◌≡◌, refl, List, [], ◌∷◌, Some}
use Rattle.physical_plan.specs.declared.plan.Plan.{Plan}
use Rattle.physical_plan.specs.declared.plan.Plan.TheOpen.{Plan-F}
use Rattle.logical_plan.specs.Items.{Cells, Item}
use Rattle.tree_laws.specs.Operators.{IsOp}
use Rattle.tree_laws.proofs.OperatorKinds.{each_is, end_is, segment_is, limit_is, join_is}
use Rattle.tree_laws.proofs.Merges.{merge_is}
use Rattle.plan_task_laws.specs.Trees.{reserving}
use Rattle.plan_task_laws.specs.Reading.{AreOperators, consumer_by}
use Rattle.plan_task_laws.specs.Operators.{NodeItems, operator_of}

owes : (w : NodeItems) (z : Plan-F Plan) (n c : ℕ) → IsOp (operator_of w z n c)
owes w (Plan-F.Scan table kinds files partitions) n c = each_is (λ x. x ∷ [])
owes w (Plan-F.Filter input test) n c = each_is (w.each (Plan-F.Filter input test))
owes w (Plan-F.Project input items) n c = each_is (w.each (Plan-F.Project input items))
owes w (Plan-F.PartialGroup input keys calls) n c = segment_is (w.segment (Plan-F.PartialGroup input keys calls)) (w.amount (Plan-F.PartialGroup input keys calls)) (Some c)
owes w (Plan-F.FinalGroup input keys calls) n c = end_is (w.all (Plan-F.FinalGroup input keys calls)) (w.amount (Plan-F.FinalGroup input keys calls)) (Some c)
owes w (Plan-F.HashJoin kind left right keys rest) n c =
    join_is (w.probe (Plan-F.HashJoin kind left right keys rest)) (w.last (Plan-F.HashJoin kind left right keys rest)) (w.amount (Plan-F.HashJoin kind left right keys rest)) (Some c)
owes w (Plan-F.Sort input keys) n c = end_is (w.all (Plan-F.Sort input keys)) (w.amount (Plan-F.Sort input keys)) (Some c)
owes w (Plan-F.Merge input keys) n c = merge_is (w.before (Plan-F.Merge input keys)) n
owes w (Plan-F.Coalesce input) n c = each_is (λ x. x ∷ [])
owes w (Plan-F.Repartition input to) n c = each_is (λ x. x ∷ [])
owes w (Plan-F.UnionAll inputs) n c = each_is (λ x. x ∷ [])
owes w (Plan-F.Limit input skip fetch) n c = limit_is skip fetch

consumer : (w : NodeItems) (z : Plan-F Plan) (n c : ℕ) → (operator_of w z n c).consumer ≡ consumer_by (reserving z) c
consumer w (Plan-F.Scan table kinds files partitions) n c = refl
consumer w (Plan-F.Filter input test) n c = refl
consumer w (Plan-F.Project input items) n c = refl
consumer w (Plan-F.PartialGroup input keys calls) n c = refl
consumer w (Plan-F.FinalGroup input keys calls) n c = refl
consumer w (Plan-F.HashJoin kind left right keys rest) n c = refl
consumer w (Plan-F.Sort input keys) n c = refl
consumer w (Plan-F.Merge input keys) n c = refl
consumer w (Plan-F.Coalesce input) n c = refl
consumer w (Plan-F.Repartition input to) n c = refl
consumer w (Plan-F.UnionAll inputs) n c = refl
consumer w (Plan-F.Limit input skip fetch) n c = refl

pub are_operators : (w : NodeItems) (channel : List ℕ → ℕ → Cells → ℕ) (items : ℕ → ℕ → List Item) → AreOperators (record { operator = operator_of w; channel = channel; items = items })
are_operators w channel items = record { owes = owes w; consumer = consumer w }
