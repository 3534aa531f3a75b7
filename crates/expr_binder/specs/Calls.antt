-- Meaning: the aggregate calls of expressions, in the order in which they are met, equal ones once.
use Rattle.std.specs.Prelude.{ℕ, Bool, true, false, Option, Some, None, List, [], ◌∷◌, ◌++◌, map, if◌then◌else◌}
use Rattle.dfx_value.specs.Items.{concat}
use Rattle.sql_grammar.specs.declared.ast.FnAst.{FnAst}
use Rattle.sql_grammar.specs.declared.ast.FnAst.TheVariants as fn
use Rattle.sql_grammar.specs.declared.ast.ExprAst.{ExprAst, roll-ExprAst}
use Rattle.sql_grammar.specs.declared.ast.NodeAst.{NodeAst}
use Rattle.sql_grammar.specs.declared.ast.NodeAst.TheOpen.{NodeAst-F, ExprAst-F}
use Rattle.sql_grammar.specs.declared.ast.NodeAst.TheFolds.{para-ExprAst, para-NodeAst}
use Rattle.expr_binder.specs.Same.{place_among}
use Rattle.typed_exprs.specs.Scopes.{Columns}

abbrev pub Calls : Type 0
Calls = List ExprAst

abbrev pub is_aggregate : FnAst → Bool
is_aggregate fn.Coalesce = false
is_aggregate fn.Abs = false
is_aggregate fn.Length = false
is_aggregate _ = true

-- an expression with its calls
abbrev pub Part : Type 0
Part = ExprAst × Calls

abbrev pub of_parts : List Part → Calls
of_parts parts = concat (map (λ (p : Part). p.1) parts)

abbrev pub of_arms : List (Part × Part) → Calls
of_arms arms = concat (map (λ (arm : Part × Part). arm.0.1 ++ arm.1.1) arms)

abbrev pub of_other : Option Part → Calls
of_other None = []
of_other (Some p) = p.1

-- a call is itself, and isn't looked into
abbrev pub of_layer : ExprAst → NodeAst-F (NodeAst × (ExprAst → Calls)) Part → Calls
of_layer e (NodeAst-F.Call f parts) = if is_aggregate f then e ∷ [] else of_parts parts
of_layer e NodeAst-F.CountAll = e ∷ []
of_layer e (NodeAst-F.Not p) = p.1
of_layer e (NodeAst-F.Neg p) = p.1
of_layer e (NodeAst-F.IsNull p) = p.1
of_layer e (NodeAst-F.Binary o p q) = p.1 ++ q.1
of_layer e (NodeAst-F.Case arms other) = of_arms arms ++ of_other other
of_layer e (NodeAst-F.Cast p to) = p.1
of_layer e _ = []

abbrev pub node_calls : NodeAst-F (NodeAst × (ExprAst → Calls)) Part → ExprAst → Calls
node_calls layer e = of_layer e layer

abbrev pub expr_calls : ExprAst-F (NodeAst × (ExprAst → Calls)) Part → Calls
expr_calls layer = layer.node.1 (roll-ExprAst (record { place = layer.place; node = layer.node.0 }))

-- those of a node, that of this expression
unfoldable pub calls_in : NodeAst → ExprAst → Calls
calls_in = para-NodeAst (ExprAst → Calls) Calls node_calls expr_calls

-- the calls of an expression, from the left
unfoldable pub calls_of : ExprAst → Calls
calls_of = para-ExprAst (ExprAst → Calls) Calls node_calls expr_calls

abbrev pub calls_of_all : List ExprAst → Calls
calls_of_all es = concat (map calls_of es)

abbrev pub calls_of_arm : ExprAst × ExprAst → Calls
calls_of_arm arm = calls_of arm.0 ++ calls_of arm.1

abbrev pub calls_of_arms : List (ExprAst × ExprAst) → Calls
calls_of_arms arms = concat (map calls_of_arm arms)

abbrev pub calls_of_other : Option ExprAst → Calls
calls_of_other None = []
calls_of_other (Some e) = calls_of e

abbrev pub unless_found : Option ℕ → ExprAst → Calls → Calls
unless_found None e calls = calls ++ e ∷ []
unless_found (Some k) e calls = calls

-- one more, unless it is there
abbrev pub with_call : Columns → Calls → ExprAst → Calls
with_call columns calls e = unless_found (place_among columns e calls) e calls

abbrev pub with_calls : Columns → Calls → Calls → Calls
with_calls columns calls [] = calls
with_calls columns calls (e ∷ es) = with_calls columns (with_call columns calls e) es

-- with those of an expression
abbrev pub with_expr : Columns → Calls → ExprAst → Calls
with_expr columns calls e = with_calls columns calls (calls_of e)
