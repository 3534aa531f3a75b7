-- Words: what the code keeps while it goes over a test.
use Rattle.std.specs.Prelude.{ℕ, ◌||◌, List, map}
use Rattle.std.specs.List.{concat}
use Rattle.scalar_exprs.specs.declared.expr.Expr.{Expr}
use Rattle.join_lowering.specs.declared.uses.Uses.{Uses}
use Rattle.join_lowering.specs.declared.renumber.Renumbering.{Renumbering}
use Rattle.join_lowering.specs.declared.renumber.Renumbering.TheVariants as renumbering
use Rattle.join_lowering.specs.Keys.{in_arms, columns, uses_left, uses_right}
use Rattle.join_lowering.specs.Lowering.{renumbered, without_left, spread}

-- which sides were used, and are with more columns
unfoldable pub with_columns : ℕ → Uses → List ℕ → Uses
with_columns w u cs = record { left = u.left || uses_left w cs; right = u.right || uses_right w cs }

abbrev pub new_number : Renumbering → ℕ → ℕ
new_number (renumbering.WithoutLeft w) = without_left w
new_number (renumbering.Spread w n) = spread w n

-- the columns of the arms of CASE, and of a list of expressions
unfoldable pub arm_columns : List (Expr × Expr) → List ℕ
arm_columns arms = in_arms (map (λ (arm : Expr × Expr). (columns arm.0, columns arm.1)) arms)

unfoldable pub all_columns : List Expr → List ℕ
all_columns exprs = concat (map columns exprs)

abbrev pub renumbered_arms : (ℕ → ℕ) → List (Expr × Expr) → List (Expr × Expr)
renumbered_arms f arms = map (λ (arm : Expr × Expr). (renumbered f arm.0, renumbered f arm.1)) arms
