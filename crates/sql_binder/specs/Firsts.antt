-- Words: where the items of a select stand, and which key each column is.
use Rattle.std.specs.Prelude.{ℕ, suc, Option, Some, None, List, [], ◌∷◌, length, replicate, slice_set, Ok, Err}
use Rattle.sql_grammar.specs.declared.ast.ExprAst.{ExprAst}
use Rattle.typed_exprs.specs.Answer.{Answer}
use Rattle.typed_exprs.specs.Scopes.{Columns, column_of}
use Rattle.expr_binder.specs.Groups.{Over}
use Rattle.sql_binder.specs.Items.{written_name}

-- over the columns of a select, or over groups of its rows
pub record Stand : Type 0 where
  pub columns : Columns
  pub over : Over

abbrev pub number_of : Answer ℕ → Option ℕ
number_of (Ok k) = Some k
number_of (Err r) = None

-- the one column of which an expression is the name
abbrev pub column_named : Columns → ExprAst → Option ℕ
column_named columns e = of_name (written_name e) where
  of_name : Option (Option (List ℕ) × List ℕ) → Option ℕ
  of_name None = None
  of_name (Some (alias, name)) = number_of (column_of columns 0 alias name)

abbrev pub with_first : Option ℕ → ℕ → List (Option ℕ) → List (Option ℕ)
with_first None at firsts = firsts
with_first (Some k) at firsts = slice_set firsts k (Some at)

-- for each column the first of these expressions, counted from `at` on, that is its name
abbrev pub firsts_from : Columns → ℕ → List ExprAst → List (Option ℕ)
firsts_from columns at [] = replicate (length columns) None
firsts_from columns at (e ∷ es) = with_first (column_named columns e) at (firsts_from columns (suc at) es)
