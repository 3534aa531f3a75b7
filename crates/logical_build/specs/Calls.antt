-- Meaning: aggregate calls over the columns of a row.
use Rattle.std.specs.Prelude.{ℕ, suc, Option, Some, None, List, [], ◌∷◌}
use Rattle.dfx_value.specs.declared.op.AggCall.{AggCall}
use Rattle.dfx_value.specs.declared.op.AggCall.TheVariants as agg_call
use Rattle.sql_grammar.specs.declared.ast.FnAst.{FnAst}
use Rattle.sql_grammar.specs.declared.ast.FnAst.TheVariants as fn
use Rattle.sql_grammar.specs.declared.ast.ExprAst.{ExprAst}
use Rattle.sql_grammar.specs.declared.ast.NodeAst.{NodeAst}
use Rattle.sql_grammar.specs.declared.ast.NodeAst.TheOpen.{NodeAst-F}
use Rattle.sql_grammar.specs.declared.ast.NodeAst.TheViews.{out-ExprAst, out-NodeAst}

-- a call: its function and its argument; COUNT(*) has none
abbrev pub argument : ExprAst → Option (FnAst × ExprAst)
argument e = of_node (out-NodeAst (out-ExprAst e).node) where
  of_node : NodeAst-F NodeAst ExprAst → Option (FnAst × ExprAst)
  of_node (NodeAst-F.Call f (a ∷ more)) = Some (f, a)
  of_node _ = None

-- an aggregate of a column
abbrev pub of_column : FnAst → ℕ → AggCall
of_column fn.Sum k = agg_call.Sum k
of_column fn.Min k = agg_call.Min k
of_column fn.Max k = agg_call.Max k
of_column fn.Avg k = agg_call.Avg k
of_column _ k = agg_call.Count k

-- the calls over columns of their own, from k on
abbrev pub numbered : ℕ → List (Option (FnAst × ExprAst)) → List AggCall
numbered k [] = []
numbered k (None ∷ more) = agg_call.CountAll ∷ numbered k more
numbered k (Some (f, a) ∷ more) = of_column f k ∷ numbered (suc k) more

abbrev pub with_argument : Option (FnAst × ExprAst) → List ExprAst → List ExprAst
with_argument None more = more
with_argument (Some (f, a)) more = a ∷ more

-- the arguments of those that have one
abbrev pub arguments_of : List (Option (FnAst × ExprAst)) → List ExprAst
arguments_of [] = []
arguments_of (a ∷ more) = with_argument a (arguments_of more)
