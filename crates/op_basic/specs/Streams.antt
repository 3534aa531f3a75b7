-- Meaning: operators that make something of each item by itself, and what they keep of what they were told.
use Rattle.std.specs.Prelude.{ℕ, Bool, List, [], ◌∷◌, ◌≡◌}
use Rattle.logical_plan.specs.Items.{Item, filtered, projected}
use Rattle.scalar_exprs.specs.declared.expr.Expr.{Expr}
use Rattle.tree_laws.specs.Operators.{Op, Told}
use Rattle.tree_laws.specs.OperatorKinds.{each_op}
use Rattle.operator_poll.specs.Keeping.{Keeps}

-- the rows that a test keeps
abbrev pub filter_op : Expr → Op
filter_op test = each_op (filtered test)

-- of each row the values of expressions
abbrev pub project_op : List Expr → Op
project_op exprs = each_op (λ item. projected exprs item ∷ [])

-- the items as they come
abbrev pub pass_op : Op
pass_op = each_op (λ item. item ∷ [])

-- the operator that makes this of each item, with the items that wait, and whether its input has ended
pub record IsEach (f : Item → List Item) (queue : List Item) (over : Bool) (op : Op) (t : Told) (n : ℕ) : Type 0 where
  pub is : op ≡ each_op f
  pub keeps : Keeps queue op t n
  pub end : over ≡ t.ended 0
