-- Two starts, computed from the definitions, and operators that meet what is asked of them.
use Rattle.std.proofs.Common.{ℕ, ◌≡◌, refl, [], ◌∷◌, length, Option, Some, None}
use Rattle.dfx_value.specs.declared.op.JoinKind.TheVariants.{Inner}
use Rattle.plan_props.specs.declared.properties.Partitioning.TheVariants as parting
use Rattle.physical_plan.specs.declared.plan.Plan.{Plan}
use Rattle.physical_plan.specs.declared.plan.Plan.TheOpen.{Plan-F}
use Rattle.physical_plan.specs.declared.plan.Plan.TheViews.{roll-Plan}
use Rattle.tree_laws.specs.Operators.{Op, IsOp}
use Rattle.tree_laws.specs.Trees.{File}
use Rattle.content_laws.specs.SenderKinds.{whole_split, hash_split}
use Rattle.plan_shape.specs.Layout.{layout}
use Rattle.plan_task_laws.specs.Trees.{Doing, reserving, node, inlet, scan, stages_in}
use Rattle.plan_task_laws.specs.Tops.{tops}
use Rattle.plan_task_laws.specs.Starts.{starting, tasks_of}
use Rattle.plan_task_laws.specs.Reading.{AreOperators, consumer_by}
use Rattle.plan_task_laws.specs.Placed.{IsHashing}
use Rattle.plan_task_laws.proofs.Laws.{grown, topped, stages_rolled, sources_rolled, staged_by}

-- ------------------------------------------------------------ operators that give nothing

quiet_op : Option ℕ → Op
quiet_op consumer = record { items = λ t. []; wanted = λ t. 0; is_complete = λ t. t.ended 0; amount = λ t rows. 0; consumer = consumer; whole = λ t inputs. [] }

quiet_is : (consumer : Option ℕ) → IsOp (quiet_op consumer)
unfolding quiet_op
quiet_is consumer = record {
  grows = λ t rows s c. ([], refl);
  grows_end = λ t s c. ([], refl);
  grows_flush = λ t s c. ([], refl);
  wants = λ t s c. c;
  same_side = λ t s. refl;
  front = λ t inputs s r. ([], refl);
  all = λ t inputs s r c. refl;
}

pub quiet : Doing
quiet = record { operator = λ z n c. quiet_op (consumer_by (reserving z) c); channel = λ columns n row. 0; items = λ table file. [] }

pub quiet_operators : AreOperators quiet
unfolding quiet quiet_op
quiet_operators = record { owes = λ z n c. quiet_is (consumer_by (reserving z) c); consumer = λ z n c. refl }

pub quiet_hashing : IsHashing quiet
unfolding quiet
quiet_hashing = λ columns n row h. h

pub staged : (p : Plan) (k s : ℕ) → (length (layout p k).stages ≡ stages_in p) × (length (tops p k s) ≡ stages_in p)
staged p k s = staged_by quiet quiet_operators p k s

-- ------------------------------------------------------------ five files in four partitions, in one

abbrev five : Plan-F Plan
five = Plan-F.Scan 0 [] 5 4

abbrev file : Doing → ℕ → ℕ → ℕ → File
file f source table number = record { source = source; items = f.items table number }

pub stride : (f : Doing) → tasks_of f (roll-Plan (Plan-F.Coalesce (roll-Plan five)))
    ≡ starting None (inlet 1 0)
    ∷ starting (Some (whole_split (λ j. 0))) (scan (file f 0 0 0 ∷ file f 4 0 4 ∷ []))
    ∷ starting (Some (whole_split (λ j. 0))) (scan (file f 1 0 1 ∷ []))
    ∷ starting (Some (whole_split (λ j. 0))) (scan (file f 2 0 2 ∷ []))
    ∷ starting (Some (whole_split (λ j. 0))) (scan (file f 3 0 3 ∷ []))
    ∷ []
stride f =
    let a = grown f (Plan-F.Coalesce (roll-Plan five)) in
    let b = topped (Plan-F.Coalesce (roll-Plan five)) in
    let c = grown f five in
    let d = topped five in
    rw (b, a, d, c) refl

-- ------------------------------------------------------------ a sorted join of two tables, each hashed to two partitions, merged

abbrev left_scan : Plan-F Plan
left_scan = Plan-F.Scan 0 [] 1 1

abbrev right_scan : Plan-F Plan
right_scan = Plan-F.Scan 1 [] 1 1

abbrev left_side : Plan-F Plan
left_side = Plan-F.Repartition (roll-Plan left_scan) (parting.Hash (0 ∷ []) 2)

abbrev right_side : Plan-F Plan
right_side = Plan-F.Repartition (roll-Plan right_scan) (parting.Hash (1 ∷ []) 2)

abbrev joining : Plan-F Plan
joining = Plan-F.HashJoin Inner (roll-Plan left_side) (roll-Plan right_side) ((0, 1) ∷ []) None

abbrev sorting : Plan-F Plan
sorting = Plan-F.Sort (roll-Plan joining) []

abbrev merging : Plan-F Plan
merging = Plan-F.Merge (roll-Plan sorting) []

pub merged_join : (f : Doing) → tasks_of f (roll-Plan merging)
    ≡ starting None (node (f.operator merging 2 0) (inlet 1 0 ∷ inlet 1 1 ∷ []))
    ∷ starting (Some (whole_split (λ j. 0))) (node (f.operator sorting 1 0) (node (f.operator joining 2 1) (inlet 2 0 ∷ inlet 3 0 ∷ []) ∷ []))
    ∷ starting (Some (whole_split (λ j. 1))) (node (f.operator sorting 1 2) (node (f.operator joining 2 3) (inlet 2 1 ∷ inlet 3 1 ∷ []) ∷ []))
    ∷ starting (Some (hash_split (f.channel (0 ∷ []) 2) 2)) (scan (file f 0 0 0 ∷ []))
    ∷ starting (Some (hash_split (f.channel (1 ∷ []) 2) 2)) (scan (file f 1 1 0 ∷ []))
    ∷ []
merged_join f =
    let g1 = grown f merging in
    let g2 = grown f sorting in
    let g3 = grown f joining in
    let g4 = grown f left_side in
    let g5 = grown f right_side in
    let g6 = grown f left_scan in
    let g7 = grown f right_scan in
    let t1 = topped merging in
    let t2 = topped sorting in
    let t3 = topped joining in
    let t4 = topped left_side in
    let t5 = topped right_side in
    let t6 = topped left_scan in
    let t7 = topped right_scan in
    let s1 = stages_rolled left_side in
    let s2 = stages_rolled left_scan in
    let n1 = sources_rolled left_side in
    let n2 = sources_rolled left_scan in
    rw (t1, t2, t3, t4, t5, t6, t7, g1, g2, g3, g4, g5, g6, g7, s1, s2, n1, n2) refl
