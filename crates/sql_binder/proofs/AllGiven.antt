-- `*` gives every column.
use Rattle.std.proofs.Common.{◌≡◌, refl, ap, ◌∙◌, ℕ, suc, ◌+◌, ◌<◌, ◌≤◌, Bool, cond, Option, Some, None, List, [], ◌∷◌, length, drop, arith}
use Rattle.std.specs.Prelude.{map}
use Rattle.std.proofs.Math.ListN.{drop_of_length-le}
use Rattle.std.proofs.lemmas.List.{drop_more}
use Rattle.dfx_value.specs.declared.kind.Kind.TheVariants as kind
use Rattle.sql_grammar.specs.declared.ast.ExprAst.{ExprAst}
use Rattle.typed_exprs.specs.declared.scope.Column.{Column}
use Rattle.typed_exprs.specs.Scopes.{Columns, numbers_from}
use Rattle.sql_binder.specs.Items.{is_given, given, is_column}
use Rattle.sql_binder.specs.Orders.{column_tests, first_from}

given_all : (k : ℕ) (cs : Columns) → length (numbers_from (is_given None) k cs) ≡ length cs
given_all k [] = refl
given_all k (c ∷ cs) = ap suc (given_all (suc k) cs)

pub all_given : (cs : Columns) → length (given None cs) ≡ length cs
all_given cs = given_all 0 cs

-- ---- the first column that an expression is

abbrev tests_from : Columns → ℕ → Columns → List (ExprAst → Bool)
tests_from all k cs = map (is_column all) (numbers_from (is_given None) k cs)

-- from column k on
unfoldable pub first_column : Columns → ℕ → ExprAst → Option ℕ
first_column cs k e = first_from k (tests_from cs k (drop k cs)) e

abbrev blank : Column
blank = record { alias = []; name = []; kind = kind.Text }

pub first_column-0 : (cs : Columns) (e : ExprAst) → first_from 0 (column_tests cs None) e ≡ first_column cs 0 e
unfolding first_column
first_column-0 cs e = refl

pub first_column-end : (cs : Columns) (k : ℕ) (e : ExprAst) → length cs ≤ k → first_column cs k e ≡ None
unfolding first_column
first_column-end cs k e h = ap (λ (xs : Columns). first_from k (tests_from cs k xs) e) (drop_of_length-le cs h)

pub first_column-step : (cs : Columns) (k : ℕ) (e : ExprAst) → k < length cs → first_column cs k e ≡ cond (is_column cs k e) (Some k) (first_column cs (k + 1) e)
unfolding first_column
first_column-step cs k e h = let s : suc k ≡ k + 1 = omega arith in ap (λ (xs : Columns). first_from k (tests_from cs k xs) e) (drop_more cs k blank h)
    ∙ ap (λ (n : ℕ). cond (is_column cs k e) (Some k) (first_from n (tests_from cs n (drop (k + 1) cs)) e)) s

pub ruleset all_columns = (first_column-0, first_column-end, first_column-step)
