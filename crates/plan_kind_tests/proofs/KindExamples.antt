-- Worked examples of the kinds of plans, each node once, by computing. A table has a number and a text.
use Rattle.std.specs.Prelude.{ℕ, pos, false, Option, Some, None, List, [], ◌∷◌}
use Rattle.std.proofs.Common.{◌≡◌, refl}
use Rattle.dfx_value.specs.declared.kind.Kind.{Kind}
use Rattle.dfx_value.specs.declared.kind.Kind.TheVariants as kind
use Rattle.dfx_value.specs.declared.value.Value.TheVariants as value
use Rattle.dfx_value.specs.declared.op.Op.TheVariants as op
use Rattle.dfx_value.specs.declared.op.AggCall.{AggCall}
use Rattle.dfx_value.specs.declared.op.AggCall.TheVariants as call
use Rattle.dfx_value.specs.declared.op.JoinKind.TheVariants as join
use Rattle.dfx_value.specs.declared.rows.SortKey.{SortKey}
use Rattle.scalar_exprs.specs.declared.expr.Expr.{Expr}
use Rattle.scalar_exprs.specs.declared.expr.Expr.TheVariants.{Column, Const, Binary}
use Rattle.scalar_exprs.proofs.KindSteps as expr
use Rattle.plan_props.specs.declared.properties.Partitioning.TheVariants.{Hash}
use Rattle.physical_plan.specs.declared.plan.Plan.{Plan}
use Rattle.physical_plan.specs.declared.plan.Plan.TheVariants as plan
use Rattle.plan_kinds.specs.Kinds.{kinds}
use Rattle.plan_kinds.proofs.Nodes.{kinds_by_node}

abbrev table : List Kind
table = kind.Int ∷ kind.Text ∷ []

abbrev scan : Plan
scan = plan.Scan 0 table 2 2

abbrev by_first : List SortKey
by_first = record { column = 0; descending = false; nulls_first = false } ∷ []

-- a SUM and an AVG of whole numbers in the first phase
abbrev totals : List Kind → List Kind
totals rest = kind.Int ∷ kind.Dec 38 0 ∷ kind.Dec 38 0 ∷ kind.Bool ∷ rest

abbrev calls : List AggCall
calls = call.CountAll ∷ call.Sum 0 ∷ call.Min 1 ∷ call.Avg 0 ∷ []

abbrev first_phase : Plan
first_phase = plan.PartialGroup scan (1 ∷ []) calls

of_scan : kinds scan ≡ Some table
of_scan = simp kinds_by_node

of_filter : kinds (plan.Filter scan (Binary op.Eq (Column 0) (Const (value.Int (pos 1)) kind.Int))) ≡ Some table
of_filter = simp kinds_by_node

-- SELECT b, a + 1, a = 1
of_project : kinds (plan.Project scan (Column 1 ∷ Binary op.Add (Column 0) (Const (value.Int (pos 1)) kind.Int) ∷ Binary op.Eq (Column 0) (Const (value.Int (pos 1)) kind.Int) ∷ []))
    ≡ Some (kind.Text ∷ kind.Int ∷ kind.Bool ∷ [])
of_project = simp (kinds_by_node, expr.kinds)

-- a number and a text have no sum
of_no_sum : kinds (plan.Project scan (Binary op.Add (Column 0) (Column 1) ∷ [])) ≡ None
of_no_sum = simp (kinds_by_node, expr.kinds)

-- COUNT(*), SUM(a), MIN(b), AVG(a) by b
of_first_phase : kinds first_phase ≡ Some (kind.Text ∷ kind.Int ∷ kind.Bool ∷ totals (kind.Text ∷ totals []))
of_first_phase = simp kinds_by_node

of_second_phase : kinds (plan.FinalGroup (plan.Repartition first_phase (Hash (0 ∷ []) 2)) (0 ∷ []) calls)
    ≡ Some (kind.Text ∷ kind.Int ∷ kind.Dec 38 0 ∷ kind.Text ∷ kind.Dec 38 4 ∷ [])
of_second_phase = simp kinds_by_node

-- without keys
of_all : kinds (plan.FinalGroup (plan.PartialGroup scan [] (call.Count 1 ∷ call.Max 0 ∷ [])) [] (call.Count 1 ∷ call.Max 0 ∷ [])) ≡ Some (kind.Int ∷ kind.Int ∷ [])
of_all = simp kinds_by_node

-- a text has no sum, a table isn't what a second phase reads, nor is a first phase of other calls
of_text_sum : kinds (plan.PartialGroup scan [] (call.Sum 1 ∷ [])) ≡ None
of_text_sum = simp kinds_by_node

of_no_phase : kinds (plan.FinalGroup scan (0 ∷ []) calls) ≡ None
of_no_phase = simp kinds_by_node

of_other_phase : kinds (plan.FinalGroup first_phase (0 ∷ []) (call.CountAll ∷ [])) ≡ None
of_other_phase = simp kinds_by_node

-- a kept side's padding changes no kind
of_join : kinds (plan.HashJoin join.Full scan first_phase ((1, 0) ∷ []) None) ≡ Some (kind.Int ∷ kind.Text ∷ kind.Text ∷ kind.Int ∷ kind.Bool ∷ totals (kind.Text ∷ totals []))
of_join = simp kinds_by_node

of_order : kinds (plan.Merge (plan.Sort scan by_first) by_first) ≡ Some table
of_order = simp kinds_by_node

of_gathered : kinds (plan.Limit (plan.Coalesce scan) 1 (Some 2)) ≡ Some table
of_gathered = simp kinds_by_node

of_union : kinds (plan.UnionAll (scan ∷ plan.Coalesce scan ∷ [])) ≡ Some table
of_union = simp kinds_by_node

-- the columns in another order
of_other_union : kinds (plan.UnionAll (scan ∷ plan.Project scan (Column 1 ∷ Column 0 ∷ []) ∷ [])) ≡ None
of_other_union = simp (kinds_by_node, expr.kinds)
