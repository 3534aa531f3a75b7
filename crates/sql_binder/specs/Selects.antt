-- Meaning: one select, and the tree of selects.
use Rattle.std.specs.Prelude.{ℕ, Bool, true, false, Option, Some, None, List, [], ◌∷◌, Ok, length, map, if◌then◌else◌}
use Rattle.logical_plan.specs.declared.plan.Logical.{Logical}
use Rattle.sql_grammar.specs.declared.ast.ExprAst.{ExprAst}
use Rattle.sql_grammar.specs.declared.ast.ItemAst.{ItemAst}
use Rattle.sql_grammar.specs.declared.ast.SelectAst.{SelectAst}
use Rattle.sql_grammar.specs.declared.ast.FromAst.TheOpen.{FromAst-F, JoinAst-F, SelectAst-F}
use Rattle.sql_grammar.specs.declared.ast.FromAst.TheFolds.{fold-SelectAst, fold-FromAst, fold-JoinAst}
use Rattle.sql_grammar.specs.declared.ast.FromAst.TheViews.{out-SelectAst}
use Rattle.sql_grammar.specs.declared.ast.FromAst.{FromAst}
use Rattle.sql_grammar.specs.declared.ast.JoinAst.{JoinAst}
use Rattle.typed_exprs.specs.Scopes.{Columns}
use Rattle.typed_exprs.specs.Answer.{Answer, ◌>>=◌}
use Rattle.expr_binder.specs.Groups.{Over}
use Rattle.typed_exprs.specs.Typed.{Kinded}
use Rattle.sql_tables.specs.declared.table.Table.{Table}
use Rattle.sql_binder.specs.declared.sources.Source.{Source}
use Rattle.sql_binder.specs.declared.selected.Selected.{Selected}
use Rattle.sql_binder.specs.Each.{each}
use Rattle.sql_binder.specs.Sources.{Reading, Joining, table, derived, from, filtered}
use Rattle.logical_build.specs.declared.outputs.Output.{Output}
use Rattle.logical_build.specs.Calls.{argument, numbered}
use Rattle.logical_build.specs.Groups.{key_kinds, aggregated, kept}
use Rattle.logical_build.specs.Outputs.{names, kinds, projected_body}
use Rattle.sql_binder.specs.declared.clauses.Clauses.{Clauses}
use Rattle.scalar_exprs.specs.declared.expr.Expr.{Expr}
use Rattle.sql_binder.specs.Items.{outputs}
use Rattle.sql_binder.specs.Grouped.{keys, calls, is_grouped, arguments, having}
use Rattle.sql_binder.specs.Unions.{Placed, united}

-- a select as it is written, behind FROM and WHERE
pub record Parts : Type 0 where
  pub distinct : Bool
  pub items : List ItemAst
  pub groups : List ExprAst
  pub having : Option ExprAst

abbrev pub projected : Bool → Columns → List Output → Logical → Selected
projected distinct columns os body = record {
  columns = columns;
  names = names os;
  kinds = kinds os;
  body = projected_body distinct os body;
}

-- the items over the rows themselves
abbrev pub plain : Bool → List ItemAst → Source → Answer Selected
plain distinct items s = outputs s.columns None items >>= λ os. Ok (projected distinct s.columns os s.body)

abbrev pub over_keys : Parts → Columns → List ExprAst → List Kinded → Over
over_keys p columns found ks =
    Some (record { keys = p.groups; kinds = key_kinds ks; calls = found })

-- The tests of a select over groups in text order: GROUP BY, the items, HAVING. Each aggregate call
-- binds its argument where it stands.
abbrev pub clauses : Parts → List ExprAst → Columns → Answer Clauses
clauses p found columns = keys columns p.groups >>= λ ks.
    outputs columns (over_keys p columns found ks) p.items >>= λ os.
    having columns (over_keys p columns found ks) p.having >>= λ test.
    Ok (record { keys = ks; outputs = os; test = test })

-- the groups of a body by these keys, of which those stay on which HAVING's test is true
abbrev pub groups_body : List ExprAst → List Kinded → Option Expr → List Expr → Logical → Logical
groups_body found ks test args body =
    kept test (aggregated body ks args (numbered (length ks) (map argument found)))

-- behind the clauses, each argument is one that they bound where its call stands
abbrev pub grouped : Parts → List ExprAst → Source → Answer Selected
grouped p found s = clauses p found s.columns >>= λ c.
    arguments s.columns (map argument found) >>= λ args.
    Ok (projected p.distinct s.columns c.outputs (groups_body found c.keys c.test args s.body))

abbrev pub with_calls : Parts → Source → List ExprAst → Answer Selected
with_calls p s found = if is_grouped p.groups p.having found then grouped p found s else plain p.distinct p.items s

abbrev pub selected : Parts → Source → Answer Selected
selected p s = with_calls p s (calls s.columns p.items p.having)

-- ---- the tree

-- a select, at its place
pub record Selecting : Type 0 where
  pub place : ℕ
  pub select : Answer Selected

abbrev pub placed : Selecting → Answer Placed
placed s = s.select >>= λ x. Ok (s.place, x)

-- all selects are bound, and then united
abbrev pub union_of : List Selecting → Answer Selected
union_of ss = each placed ss >>= united

abbrev pub reading : List Table → FromAst-F Reading Joining Selecting → Reading
reading tables (FromAst-F.Named name alias place) =
    record { alias = alias; place = place; source = table tables place name alias }
reading tables (FromAst-F.Derived parts alias place) =
    record { alias = alias; place = place; source = union_of parts >>= λ s. Ok (derived alias s) }

abbrev pub joining : JoinAst-F Reading Joining Selecting → Joining
joining j = record { kind = j.kind; right = j.right; on = j.on }

abbrev pub parts_of : {A B C : Type 0} → SelectAst-F A B C → Parts
parts_of s = record { distinct = s.distinct; items = s.items; groups = s.groups; having = s.having }

abbrev pub select_parts : SelectAst → Parts
select_parts s = parts_of (out-SelectAst s)

abbrev pub selecting : SelectAst-F Reading Joining Selecting → Selecting
selecting s = record { place = s.place; select = from s.first s.joins >>= filtered s.test >>= selected (parts_of s) }

-- a select over these tables, and what stands in it
unfoldable pub select : List Table → SelectAst → Selecting
select tables = fold-SelectAst Reading Joining Selecting (reading tables) joining selecting

unfoldable pub reading_of : List Table → FromAst → Reading
reading_of tables = fold-FromAst Reading Joining Selecting (reading tables) joining selecting

unfoldable pub joining_of : List Table → JoinAst → Joining
joining_of tables = fold-JoinAst Reading Joining Selecting (reading tables) joining selecting
