-- Meaning: when two expressions of a select are equal: their trees are, places aside, once each name is read as the column that it names.
use Rattle.std.specs.Prelude.{ℕ, suc, if◌then◌else◌, not, ◌&&◌, Bool, true, false, nat_eq, List, [], ◌∷◌, Option, Some, None, Ok}
use Rattle.dfx_value.specs.declared.op.Op.{Op}
use Rattle.dfx_value.specs.declared.op.Op.TheVariants as op
use Rattle.scalar_exprs.specs.Kinds.{same as same_kind}
use Rattle.sql_grammar.specs.declared.ast.FnAst.{FnAst}
use Rattle.sql_grammar.specs.declared.ast.FnAst.TheVariants as fn
use Rattle.sql_grammar.specs.declared.ast.ExprAst.{ExprAst}
use Rattle.sql_grammar.specs.declared.ast.NodeAst.{NodeAst}
use Rattle.sql_grammar.specs.declared.ast.NodeAst.TheOpen.{NodeAst-F, ExprAst-F}
use Rattle.sql_grammar.specs.declared.ast.NodeAst.TheViews.{out-ExprAst, out-NodeAst}
use Rattle.sql_grammar.specs.declared.ast.NodeAst.TheFolds.{fold-ExprAst, fold-NodeAst}
use Rattle.typed_exprs.specs.Scopes.{Columns, column_of, is_text}
use Rattle.typed_exprs.specs.Answer.{Answer}

-- both name one column
abbrev pub same_column : Answer ℕ → Answer ℕ → Bool
same_column (Ok j) (Ok k) = nat_eq j k
same_column _ _ = false

abbrev pub same_name : Columns → Option (List ℕ) → List ℕ → Option (List ℕ) → List ℕ → Bool
same_name columns p a q b = same_column (column_of columns 0 p a) (column_of columns 0 q b)

abbrev pub same_truth : Bool → Bool → Bool
same_truth true b = b
same_truth false b = not b

abbrev pub function_rank : FnAst → ℕ
function_rank fn.Coalesce = 0
function_rank fn.Abs = 1
function_rank fn.Length = 2
function_rank fn.Count = 3
function_rank fn.Sum = 4
function_rank fn.Min = 5
function_rank fn.Max = 6
function_rank fn.Avg = 7

abbrev pub op_rank : Op → ℕ
op_rank op.Add = 0
op_rank op.Sub = 1
op_rank op.Mul = 2
op_rank op.Div = 3
op_rank op.Rem = 4
op_rank op.Concat = 5
op_rank op.Eq = 6
op_rank op.Ne = 7
op_rank op.Lt = 8
op_rank op.Le = 9
op_rank op.Gt = 10
op_rank op.Ge = 11
op_rank op.And = 12
op_rank op.Or = 13

-- whether something is what was asked for
abbrev pub Is : Type 0
Is = ExprAst → Bool

-- each is the other list's in its place, and no more are there
abbrev pub all_same : List Is → List ExprAst → Bool
all_same [] [] = true
all_same (is ∷ more) (e ∷ es) = is e && all_same more es
all_same _ _ = false

abbrev pub arms_same : List (Is × Is) → List (ExprAst × ExprAst) → Bool
arms_same [] [] = true
arms_same (is ∷ more) (arm ∷ arms) = is.0 arm.0 && is.1 arm.1 && arms_same more arms
arms_same _ _ = false

abbrev pub other_same : Option Is → Option ExprAst → Bool
other_same None None = true
other_same (Some is) (Some e) = is e
other_same _ _ = false

abbrev pub same_layer : Columns → NodeAst-F (NodeAst → Bool) Is → NodeAst-F NodeAst ExprAst → Bool
same_layer columns (NodeAst-F.Number a) (NodeAst-F.Number b) = is_text a b
same_layer columns (NodeAst-F.Str a) (NodeAst-F.Str b) = is_text a b
same_layer columns NodeAst-F.Null NodeAst-F.Null = true
same_layer columns (NodeAst-F.Truth a) (NodeAst-F.Truth b) = same_truth a b
same_layer columns (NodeAst-F.Name p a) (NodeAst-F.Name q b) = same_name columns p a q b
same_layer columns (NodeAst-F.Call f is) (NodeAst-F.Call g es) = nat_eq (function_rank f) (function_rank g) && all_same is es
same_layer columns NodeAst-F.CountAll NodeAst-F.CountAll = true
same_layer columns (NodeAst-F.Not is) (NodeAst-F.Not e) = is e
same_layer columns (NodeAst-F.Neg is) (NodeAst-F.Neg e) = is e
same_layer columns (NodeAst-F.IsNull is) (NodeAst-F.IsNull e) = is e
same_layer columns (NodeAst-F.Binary o is1 is2) (NodeAst-F.Binary p a b) = nat_eq (op_rank o) (op_rank p) && is1 a && is2 b
same_layer columns (NodeAst-F.Case is other) (NodeAst-F.Case arms e) = arms_same is arms && other_same other e
same_layer columns (NodeAst-F.Cast is k) (NodeAst-F.Cast e j) = same_kind k j && is e
same_layer columns _ _ = false

abbrev pub same_node : Columns → NodeAst-F (NodeAst → Bool) Is → NodeAst → Bool
same_node columns layer n = same_layer columns layer (out-NodeAst n)

abbrev pub same_expr : ExprAst-F (NodeAst → Bool) Is → Is
same_expr layer e = layer.node (out-ExprAst e).node

abbrev pub same : Columns → ExprAst → Is
same columns = fold-ExprAst (NodeAst → Bool) Is (same_node columns) same_expr

-- the same of nodes
abbrev pub same_nodes : Columns → NodeAst → NodeAst → Bool
same_nodes columns = fold-NodeAst (NodeAst → Bool) Is (same_node columns) same_expr

abbrev pub same_arm : Columns → ExprAst × ExprAst → Is × Is
same_arm columns arm = (same columns arm.0, same columns arm.1)

abbrev pub same_other : Columns → Option ExprAst → Option Is
same_other columns None = None
same_other columns (Some e) = Some (same columns e)

-- the first place, from k on, of an expression that is this one
abbrev pub place_from : Columns → ExprAst → ℕ → List ExprAst → Option ℕ
place_from columns e k [] = None
place_from columns e k (x ∷ xs) = if same columns e x then Some k else place_from columns e (suc k) xs

abbrev pub place_among : Columns → ExprAst → List ExprAst → Option ℕ
place_among columns e xs = place_from columns e 0 xs
