-- Worked examples of the bodies that joins are lowered to, by computing. Two tables a and b have two columns each: 0 and 1 are a.x and a.z,
-- 2 and 3 are b.x and b.y.
use Rattle.std.specs.Prelude.{ℕ, pos, [], ◌∷◌, Option, Some, None}
use Rattle.std.proofs.Common.{◌≡◌}
use Rattle.dfx_value.specs.declared.kind.Kind.TheVariants as kind
use Rattle.dfx_value.specs.declared.value.Value.TheVariants as value
use Rattle.dfx_value.specs.declared.op.JoinKind.{JoinKind}
use Rattle.dfx_value.specs.declared.op.JoinKind.TheVariants as join
use Rattle.dfx_value.specs.declared.op.Op.TheVariants as op
use Rattle.scalar_exprs.specs.declared.expr.Expr.{Expr}
use Rattle.scalar_exprs.specs.declared.expr.Expr.TheVariants.{Column, Const, Binary, outs-Column, outs-Const, outs-Binary}
use Rattle.logical_plan.specs.declared.plan.Logical.{Logical}
use Rattle.logical_plan.specs.declared.plan.Logical.TheVariants as logical
use Rattle.join_lowering.specs.declared.lower.Side.{Side}
use Rattle.join_lowering.specs.Lowering.{lowered, where_keyed, on_appended, columns_from}
use Rattle.join_lowering.proofs.Nodes.{conjuncts_by_node, columns_by_node, renumbered_by_node}

ruleset outs = (outs-Column, outs-Const, outs-Binary)

abbrev table : ℕ → Logical
table n = logical.Scan n (kind.Int ∷ kind.Int ∷ [])

abbrev side : ℕ → Side
side n = record { body = table n; width = 2 }

-- the join of both on a test, where it has one
abbrev on : JoinKind → Expr → Option Logical
on kind test = lowered kind (side 0) (side 1) test

abbrev one : Expr
one = Const (value.Int (pos 1)) kind.Int

abbrev plus : Expr → Expr → Expr
plus = Binary op.Add

abbrev eq : Expr → Expr → Expr
eq = Binary op.Eq

abbrev less : Expr → Expr → Expr
less = Binary op.Lt

abbrev more : Expr → Expr → Expr
more = Binary op.Gt

abbrev both : Expr → Expr → Expr
both = Binary op.And

abbrev either : Expr → Expr → Expr
either = Binary op.Or

-- ---- keys that are columns

-- a.x = b.y
column-1 : on join.Inner (eq (Column 0) (Column 3)) ≡ Some (logical.Join join.Inner (table 0) (table 1) ((0, 1) ∷ []) None)
unfolding where_keyed on_appended columns_from
column-1 = simp (conjuncts_by_node, columns_by_node, outs)

-- its sides swapped
column-2 : on join.Inner (eq (Column 3) (Column 0)) ≡ Some (logical.Join join.Inner (table 0) (table 1) ((0, 1) ∷ []) None)
unfolding where_keyed on_appended columns_from
column-2 = simp (conjuncts_by_node, columns_by_node, outs)

-- a.x = b.y AND a.z > 1
column-3 : on join.Inner (both (eq (Column 0) (Column 3)) (more (Column 1) one)) ≡ Some (logical.Join join.Inner (table 0) (table 1) ((0, 1) ∷ []) (Some (more (Column 1) one)))
unfolding where_keyed on_appended columns_from
column-3 = simp (conjuncts_by_node, columns_by_node, outs)

-- no key: a.x = a.z
column-4 : on join.Inner (eq (Column 0) (Column 1)) ≡ None
unfolding where_keyed on_appended columns_from
column-4 = simp (conjuncts_by_node, columns_by_node, outs)

-- a.x = 1
column-5 : on join.Inner (eq (Column 0) one) ≡ None
unfolding where_keyed on_appended columns_from
column-5 = simp (conjuncts_by_node, columns_by_node, outs)

-- b.y = 1
column-6 : on join.Inner (eq one (Column 3)) ≡ None
unfolding where_keyed on_appended columns_from
column-6 = simp (conjuncts_by_node, columns_by_node, outs)

-- a.x = b.x OR a.z = b.y
column-7 : on join.Inner (either (eq (Column 0) (Column 2)) (eq (Column 1) (Column 3))) ≡ None
unfolding where_keyed on_appended columns_from
column-7 = simp (conjuncts_by_node, outs)

-- a constant is no side
column-8 : on join.Inner (both (eq (Column 0) (Column 3)) (eq (Column 0) one)) ≡ Some (logical.Join join.Inner (table 0) (table 1) ((0, 1) ∷ []) (Some (eq (Column 0) one)))
unfolding where_keyed on_appended columns_from
column-8 = simp (conjuncts_by_node, columns_by_node, outs)

-- a side of both inputs
column-9 : on join.Inner (both (eq (Column 0) (Column 2)) (eq (plus (Column 0) (Column 2)) (Column 3))) ≡ Some (logical.Join join.Inner (table 0) (table 1) ((0, 0) ∷ []) (Some (eq (plus (Column 0) (Column 2)) (Column 3))))
unfolding where_keyed on_appended columns_from
column-9 = simp (conjuncts_by_node, columns_by_node, outs)

-- ---- parts of a test

-- a.x = b.x AND (a.z = b.y AND (a.z > 1 AND b.y < 1))
part-1 : on join.Inner (both (eq (Column 0) (Column 2)) (both (eq (Column 1) (Column 3)) (both (more (Column 1) one) (less (Column 3) one)))) ≡ Some (logical.Join join.Inner (table 0) (table 1) ((0, 0) ∷ (1, 1) ∷ []) (Some (both (more (Column 1) one) (less (Column 3) one))))
unfolding where_keyed on_appended columns_from
part-1 = simp (conjuncts_by_node, columns_by_node, outs)

-- three parts are left
part-2 : on join.Inner (both (both (both (eq (Column 0) (Column 2)) (more (Column 1) one)) (less (Column 3) one)) (less (Column 1) (Column 3))) ≡ Some (logical.Join join.Inner (table 0) (table 1) ((0, 0) ∷ []) (Some (both (both (more (Column 1) one) (less (Column 3) one)) (less (Column 1) (Column 3)))))
unfolding where_keyed on_appended columns_from
part-2 = simp (conjuncts_by_node, columns_by_node, outs)

-- however they are grouped
part-3 : on join.Inner (both (eq (Column 0) (Column 2)) (both (more (Column 1) one) (both (less (Column 3) one) (less (Column 1) (Column 3))))) ≡ Some (logical.Join join.Inner (table 0) (table 1) ((0, 0) ∷ []) (Some (both (both (more (Column 1) one) (less (Column 3) one)) (less (Column 1) (Column 3)))))
unfolding where_keyed on_appended columns_from
part-3 = simp (conjuncts_by_node, columns_by_node, outs)

-- an AND below an OR isn't split
part-4 : on join.Inner (both (eq (Column 0) (Column 2)) (either (both (eq (Column 1) (Column 3)) (more (Column 1) one)) (less (Column 3) one))) ≡ Some (logical.Join join.Inner (table 0) (table 1) ((0, 0) ∷ []) (Some (either (both (eq (Column 1) (Column 3)) (more (Column 1) one)) (less (Column 3) one))))
unfolding where_keyed on_appended columns_from
part-4 = simp (conjuncts_by_node, columns_by_node, outs)

-- ---- keys that are appended

-- a.x + 1 = b.y AND a.z = b.x
appended-1 : on join.Left (both (eq (plus (Column 0) one) (Column 3)) (eq (Column 1) (Column 2))) ≡ Some (logical.Project (logical.Join join.Left (logical.Project (table 0) ((Column 0) ∷ (Column 1) ∷ (plus (Column 0) one) ∷ (Column 1) ∷ [])) (logical.Project (table 1) ((Column 0) ∷ (Column 1) ∷ (Column 1) ∷ (Column 0) ∷ [])) ((2, 2) ∷ (3, 3) ∷ []) None) ((Column 0) ∷ (Column 1) ∷ (Column 4) ∷ (Column 5) ∷ []))
unfolding where_keyed on_appended columns_from
appended-1 = simp (conjuncts_by_node, columns_by_node, renumbered_by_node, outs)

-- the columns of what is left stand behind the left key
appended-2 : on join.Left (both (eq (plus (Column 0) one) (Column 2)) (both (more (Column 3) one) (less (Column 1) one))) ≡ Some (logical.Project (logical.Join join.Left (logical.Project (table 0) ((Column 0) ∷ (Column 1) ∷ (plus (Column 0) one) ∷ [])) (logical.Project (table 1) ((Column 0) ∷ (Column 1) ∷ (Column 0) ∷ [])) ((2, 2) ∷ []) (Some (both (more (Column 4) one) (less (Column 1) one)))) ((Column 0) ∷ (Column 1) ∷ (Column 3) ∷ (Column 4) ∷ []))
unfolding where_keyed on_appended columns_from
appended-2 = simp (conjuncts_by_node, columns_by_node, renumbered_by_node, outs)

-- b.x + b.y = a.x
appended-3 : on join.Left (eq (plus (Column 2) (Column 3)) (Column 0)) ≡ Some (logical.Project (logical.Join join.Left (logical.Project (table 0) ((Column 0) ∷ (Column 1) ∷ (Column 0) ∷ [])) (logical.Project (table 1) ((Column 0) ∷ (Column 1) ∷ (plus (Column 0) (Column 1)) ∷ [])) ((2, 2) ∷ []) None) ((Column 0) ∷ (Column 1) ∷ (Column 3) ∷ (Column 4) ∷ []))
unfolding where_keyed on_appended columns_from
appended-3 = simp (conjuncts_by_node, columns_by_node, renumbered_by_node, outs)

-- ---- kinds of joins

-- inner, a.z = b.y
kind-inner : on join.Inner (eq (Column 1) (Column 3)) ≡ Some (logical.Join join.Inner (table 0) (table 1) ((1, 1) ∷ []) None)
unfolding where_keyed on_appended columns_from
kind-inner = simp (conjuncts_by_node, columns_by_node, outs)

-- left, a.z = b.y
kind-left : on join.Left (eq (Column 1) (Column 3)) ≡ Some (logical.Join join.Left (table 0) (table 1) ((1, 1) ∷ []) None)
unfolding where_keyed on_appended columns_from
kind-left = simp (conjuncts_by_node, columns_by_node, outs)

-- right, a.z = b.y
kind-right : on join.Right (eq (Column 1) (Column 3)) ≡ Some (logical.Join join.Right (table 0) (table 1) ((1, 1) ∷ []) None)
unfolding where_keyed on_appended columns_from
kind-right = simp (conjuncts_by_node, columns_by_node, outs)

-- full, a.z = b.y
kind-full : on join.Full (eq (Column 1) (Column 3)) ≡ Some (logical.Join join.Full (table 0) (table 1) ((1, 1) ∷ []) None)
unfolding where_keyed on_appended columns_from
kind-full = simp (conjuncts_by_node, columns_by_node, outs)
