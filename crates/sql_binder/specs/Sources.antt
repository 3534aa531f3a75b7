-- Meaning: what FROM gives, its joins included.
use Rattle.std.specs.Prelude.{ℕ, suc, slice_get, Bool, true, false, Option, Some, None, List, [], ◌∷◌, ◌++◌, length, map, Ok, if◌then◌else◌}
use Rattle.dfx_value.specs.declared.kind.Kind.{Kind}
use Rattle.dfx_value.specs.declared.op.JoinKind.{JoinKind}
use Rattle.scalar_exprs.specs.declared.expr.Expr.{Expr}
use Rattle.logical_plan.specs.declared.plan.Logical.{Logical}
use Rattle.logical_plan.specs.declared.plan.Logical.TheVariants as plan
use Rattle.sql_grammar.specs.declared.ast.ExprAst.{ExprAst}
use Rattle.typed_exprs.specs.declared.refusal.Why.TheVariants as why
use Rattle.typed_exprs.specs.declared.scope.Column.{Column}
use Rattle.typed_exprs.specs.Answer.{Answer, ◌>>=◌, refuse, or_refuse, refuse_if}
use Rattle.typed_exprs.specs.Scopes.{Columns, is_text, is_under, any_is}
use Rattle.typed_exprs.specs.Typed.{tested}
use Rattle.expr_binder.specs.Meaning.{meaning, place_of}
use Rattle.join_lowering.specs.declared.lower.Side.{Side}
use Rattle.join_lowering.specs.Lowering.{lowered}
use Rattle.sql_tables.specs.declared.table.Table.{Table}
use Rattle.sql_binder.specs.declared.sources.Source.{Source}
use Rattle.sql_binder.specs.declared.selected.Selected.{Selected}
use Rattle.sql_tables.specs.Tables.{columns_under}

-- ---- a table, or a derived one

abbrev pub kinds : Columns → List Kind
kinds = map (λ (c : Column). c.kind)

abbrev pub scanned : ℕ → Columns → Source
scanned table columns = record { columns = columns; body = plan.Scan table (kinds columns) }

abbrev pub number_from : ℕ → List Table → List ℕ → Option ℕ
number_from k [] name = None
number_from k (t ∷ ts) name = if is_text t.name name then Some k else number_from (suc k) ts name

-- the first table of this name, by its number
abbrev pub number_of_table : List Table → List ℕ → Option ℕ
number_of_table tables name = number_from 0 tables name

abbrev pub names_at : List Table → ℕ → List (List ℕ)
names_at tables k = of_table (slice_get tables k) where
  of_table : Option Table → List (List ℕ)
  of_table None = []
  of_table (Some t) = t.names

abbrev pub kinds_at : List Table → ℕ → List Kind
kinds_at tables k = of_table (slice_get tables k) where
  of_table : Option Table → List Kind
  of_table None = []
  of_table (Some t) = t.kinds

abbrev pub table : List Table → ℕ → List ℕ → List ℕ → Answer Source
table tables place name alias =
    or_refuse why.UnknownTable place (number_of_table tables name) >>= λ k.
    Ok (scanned k (columns_under alias (names_at tables k) (kinds_at tables k)))

abbrev pub derived : List ℕ → Selected → Source
derived alias s = record { columns = columns_under alias s.names s.kinds; body = s.body }

-- ---- joins

-- something to read, under an alias
pub record Reading : Type 0 where
  pub alias : List ℕ
  pub place : ℕ
  pub source : Answer Source

pub record Joining : Type 0 where
  pub kind : JoinKind
  pub right : Reading
  pub on : ExprAst

-- the alias is that of no table before
abbrev pub if_new : Columns → List ℕ → ℕ → Source → Answer Source
if_new before alias place s = refuse_if (any_is (is_under (Some alias)) before) why.Ambiguous place (Ok s)

abbrev pub under_new_alias : Columns → Reading → Answer Source
under_new_alias before r = r.source >>= if_new before r.alias r.place

abbrev pub condition : Columns → ExprAst → Answer Expr
condition columns e = meaning columns e None >>= tested (place_of e)

-- a source as a side of a join
abbrev pub side : Source → Side
side s = record { body = s.body; width = length s.columns }

-- a join on a test over both sides' columns
abbrev pub joined_body : JoinKind → Side → Side → Columns → ExprAst → Answer Logical
joined_body kind left right columns on = condition columns on >>= λ test. or_refuse why.NoEquiKey (place_of on) (lowered kind left right test)

-- the left columns and then the right ones
abbrev pub joined_on : JoinKind → Source → Source → ExprAst → Answer Source
joined_on kind left right on = joined_body kind (side left) (side right) (left.columns ++ right.columns) on >>= λ body.
    Ok (record { columns = left.columns ++ right.columns; body = body })

abbrev pub joined_source : Source → Joining → Answer Source
joined_source left j = under_new_alias left.columns j.right >>= λ right. joined_on j.kind left right j.on

abbrev pub all_joined : Source → List Joining → Answer Source
all_joined left [] = Ok left
all_joined left (j ∷ js) = joined_source left j >>= λ next. all_joined next js

abbrev pub from : Reading → List Joining → Answer Source
from first joins = under_new_alias [] first >>= λ left. all_joined left joins

-- ---- WHERE

abbrev pub filtered : Option ExprAst → Source → Answer Source
filtered None s = Ok s
filtered (Some e) s = condition s.columns e >>= λ test. Ok (record { columns = s.columns; body = plan.Filter s.body test })
