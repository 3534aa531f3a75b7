-- Meaning: GROUP BY, aggregates and HAVING.
use Rattle.std.specs.Prelude.{not, ◌||◌, Bool, true, false, Option, Some, None, List, [], ◌∷◌, Ok}
use Rattle.scalar_exprs.specs.declared.expr.Expr.{Expr}
use Rattle.sql_grammar.specs.declared.ast.FnAst.{FnAst}
use Rattle.sql_grammar.specs.declared.ast.ExprAst.{ExprAst}
use Rattle.sql_grammar.specs.declared.ast.NodeAst.{NodeAst}
use Rattle.sql_grammar.specs.declared.ast.NodeAst.TheOpen.{NodeAst-F}
use Rattle.sql_grammar.specs.declared.ast.NodeAst.TheViews.{out-ExprAst, out-NodeAst}
use Rattle.sql_grammar.specs.declared.ast.ItemAst.{ItemAst}
use Rattle.sql_grammar.specs.declared.ast.ItemAst.TheVariants as item
use Rattle.typed_exprs.specs.declared.refusal.Why.TheVariants as why
use Rattle.typed_exprs.specs.Answer.{Answer, ◌>>=◌, refuse, refuse_if}
use Rattle.typed_exprs.specs.Scopes.{Columns}
use Rattle.typed_exprs.specs.Typed.{Kinded, settled, tested}
use Rattle.expr_binder.specs.Groups.{Over}
use Rattle.expr_binder.specs.Meaning.{meaning, place_of}
use Rattle.logical_build.specs.Calls.{arguments_of}
use Rattle.sql_binder.specs.Each.{each}
use Rattle.expr_binder.specs.Calls.{with_expr, calls_of}
use Rattle.sql_tables.specs.Tables.{is_empty}

-- ---- keys

abbrev pub is_number : ExprAst → Bool
is_number e = of_node (out-NodeAst (out-ExprAst e).node) where
  of_node : NodeAst-F NodeAst ExprAst → Bool
  of_node (NodeAst-F.Number text) = true
  of_node _ = false

-- a key is no number alone
abbrev pub key : Columns → ExprAst → Answer Kinded
key columns e = refuse_if (is_number e) why.Unsupported (place_of e) (meaning columns e None >>= λ t. Ok (settled t))

abbrev pub keys : Columns → List ExprAst → Answer (List Kinded)
keys columns es = each (key columns) es

-- ---- aggregate calls

abbrev pub with_item : Columns → List ExprAst → ItemAst → List ExprAst
with_item columns calls (item.All place) = calls
with_item columns calls (item.AllOf alias place) = calls
with_item columns calls (item.One e name) = with_expr columns calls e

abbrev pub with_items : Columns → List ExprAst → List ItemAst → List ExprAst
with_items columns calls [] = calls
with_items columns calls (i ∷ is) = with_items columns (with_item columns calls i) is

abbrev pub with_having : Columns → List ExprAst → Option ExprAst → List ExprAst
with_having columns calls None = calls
with_having columns calls (Some e) = with_expr columns calls e

-- those of the items and then of HAVING
abbrev pub calls : Columns → List ItemAst → Option ExprAst → List ExprAst
calls columns items having = with_having columns (with_items columns [] items) having

abbrev pub is_some : {A : Type 0} → Option A → Bool
is_some None = false
is_some (Some x) = true

-- GROUP BY, HAVING or an aggregate makes groups
abbrev pub is_grouped : List ExprAst → Option ExprAst → List ExprAst → Bool
is_grouped groups having found = not (is_empty groups) || (is_some having || not (is_empty found))

abbrev pub settled_expr : Columns → ExprAst → Answer Expr
settled_expr columns e = meaning columns e None >>= λ t. Ok (settled t).0

abbrev pub arguments : Columns → List (Option (FnAst × ExprAst)) → Answer (List Expr)
arguments columns found = each (settled_expr columns) (arguments_of found)

-- ---- HAVING

-- a truth, bound in text order with the arguments of its calls where they stand
abbrev pub having : Columns → Over → Option ExprAst → Answer (Option Expr)
having columns over None = Ok None
having columns over (Some e) =
    meaning columns e over >>= tested (place_of e) >>= λ test. Ok (Some test)
