-- Worked examples of whole expressions.
use Rattle.std.proofs.Common.{◌≡◌, ap, ℕ, Bool, [], ◌∷◌, None, Some, Ok}
use Rattle.dfx_value.specs.declared.kind.Kind.TheVariants as kind
use Rattle.dfx_value.specs.declared.value.Value.TheVariants as value
use Rattle.dfx_value.specs.declared.op.Op.TheVariants as op
use Rattle.scalar_exprs.specs.declared.expr.Expr.TheVariants as expr
use Rattle.sql_grammar.specs.declared.ast.FnAst.TheVariants as fn
use Rattle.sql_grammar.specs.declared.ast.ExprAst.{ExprAst, roll-ExprAst, out-ExprAst}
use Rattle.sql_grammar.specs.declared.ast.NodeAst.{NodeAst, out-NodeAst}
use Rattle.sql_grammar.specs.declared.ast.NodeAst.TheVariants as node
use Rattle.sql_grammar.specs.declared.ast.NodeAst.TheFolds.{fold-roll-ExprAst, fold_out-NodeAst, map-NodeAst}
use Rattle.typed_exprs.specs.Answer.{refuse}
use Rattle.expr_binder.specs.Calls.{with_expr}
use Rattle.expr_binder.specs.Groups.{Over}
use Rattle.expr_binder.specs.Meaning.{meaning, node_of}
use Rattle.expr_binder.specs.Same.{Is, same, same_nodes, same_node, same_expr, same_layer}
use Rattle.typed_exprs.specs.Scopes.{Columns}
use Rattle.typed_exprs.specs.declared.refusal.Why.TheVariants as why
use Rattle.typed_exprs.specs.declared.typed.Typed.TheVariants as typed
use Rattle.typed_exprs.proofs.Examples.{here}
use Rattle.expr_binder.proofs.CallSteps.{steps}
use Rattle.expr_binder.proofs.MeaningSteps.{meaning_is, nodes}

abbrev at : ℕ → NodeAst → ExprAst
at place n = roll-ExprAst (record { place = place; node = n })

abbrev x : ExprAst
x = at 1 (node.Name None (120 ∷ []))

abbrev y : ExprAst
y = at 2 (node.Name None (121 ∷ []))

abbrev columns : Columns
columns = here 97 120 ∷ here 97 121 ∷ []

-- ---- equal expressions, node by node

same-is : (cs : Columns) (a b : ExprAst) → same cs a b ≡ same_nodes cs (node_of a) (node_of b)
same-is cs a b = ap (λ (s : Is). s b) (fold-roll-ExprAst (NodeAst → Bool) Is (same_node cs) same_expr (out-ExprAst a))

same_nodes-is : (cs : Columns) (n m : NodeAst) → same_nodes cs n m ≡ same_layer cs (map-NodeAst NodeAst ExprAst (NodeAst → Bool) Is (same_nodes cs) (same cs) (out-NodeAst n)) (out-NodeAst m)
same_nodes-is cs n m = ap (λ (s : NodeAst → Bool). s m) (fold_out-NodeAst (NodeAst → Bool) Is (same_node cs) same_expr n)

ruleset sames = (same-is, same_nodes-is, node.outs-Name, node.outs-Call, node.outs-Binary, node.outs-Number)

-- ---- examples

-- x + NULL over the columns
pub plain : meaning columns (at 3 (node.Binary op.Add x (at 4 node.Null))) None
    ≡ Ok (typed.Of (expr.Binary op.Add (expr.Column 0) (expr.Const value.Null kind.Int)) kind.Int)
plain = simp (meaning_is, nodes)

-- an aggregate without groups
pub ungrouped : meaning columns (at 3 (node.Call fn.Sum (x ∷ []))) None ≡ refuse why.NotGrouped 3
ungrouped = simp (meaning_is, nodes)

abbrev groups : Over
groups = Some (record { keys = x ∷ []; kinds = kind.Int ∷ []; calls = at 5 (node.Call fn.Sum (y ∷ [])) ∷ [] })

-- over groups by x
pub key : meaning columns x groups ≡ Ok (typed.Of (expr.Column 0) kind.Int)
key = simp (meaning_is, nodes, sames)

pub no_key : meaning columns y groups ≡ refuse why.NotGrouped 2
no_key = simp (meaning_is, nodes, sames)

pub sum : meaning columns (at 9 (node.Call fn.Sum (y ∷ []))) groups ≡ Ok (typed.Of (expr.Column 1) (kind.Dec 38 0))
sum = simp (meaning_is, nodes, sames)

-- a.x is the key x, and a name that names nothing is refused before its group is looked at
pub alias_of_key : meaning columns (at 7 (node.Name (Some (97 ∷ [])) (120 ∷ []))) groups ≡ Ok (typed.Of (expr.Column 0) kind.Int)
alias_of_key = simp (meaning_is, nodes, sames)

pub name_first : meaning columns (at 7 (node.Name None (122 ∷ []))) groups ≡ refuse why.UnknownColumn 7
name_first = simp (meaning_is, nodes, sames)

-- an aggregate inside an aggregate
pub nested : meaning columns (at 9 (node.Call fn.Sum (at 11 (node.Call fn.Max (y ∷ [])) ∷ []))) groups ≡ refuse why.NotGrouped 11
nested = simp (meaning_is, nodes, sames)

-- over groups by x + y that sum is a key, and neither of its operands
abbrev by_sum : Over
by_sum = Some (record { keys = at 4 (node.Binary op.Add x y) ∷ []; kinds = kind.Int ∷ []; calls = [] })

pub topmost : meaning columns (at 9 (node.Binary op.Add x y)) by_sum ≡ Ok (typed.Of (expr.Column 0) kind.Int)
topmost = simp (meaning_is, nodes, sames)

pub operand : meaning columns (at 9 (node.Binary op.Add y x)) by_sum ≡ refuse why.NotGrouped 2
operand = simp (meaning_is, nodes, sames)

-- SUM(y) + SUM(a.y) has one call
pub calls_once : with_expr columns [] (at 8 (node.Binary op.Add (at 3 (node.Call fn.Sum (y ∷ []))) (at 9 (node.Call fn.Sum (at 13 (node.Name (Some (97 ∷ [])) (121 ∷ [])) ∷ [])))))
    ≡ at 3 (node.Call fn.Sum (y ∷ [])) ∷ []
calls_once = simp (steps, sames)
