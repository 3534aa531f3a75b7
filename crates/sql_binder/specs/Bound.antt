-- Meaning: the query of a script, or the first refusal. Each table has a schema, that of its files.
use Rattle.std.specs.Prelude.{ℕ, Option, Some, None, List, [], ◌∷◌, map, Ok}
use Rattle.logical_plan.specs.declared.query.Query.{Query}
use Rattle.sql_grammar.specs.declared.ast.Script.{Script}
use Rattle.sql_grammar.specs.declared.ast.SelectAst.{SelectAst}
use Rattle.sql_grammar.specs.declared.ast.FromAst.TheViews.{out-SelectAst}
use Rattle.typed_exprs.specs.Answer.{Answer, ◌>>=◌}
use Rattle.typed_exprs.specs.Scopes.{Columns}
use Rattle.sql_tables.specs.declared.schema.Schema.{Schema}
use Rattle.sql_binder.specs.declared.selected.Selected.{Selected}
use Rattle.sql_binder.specs.Orders.{Single, order, limit, offset}
use Rattle.sql_binder.specs.Selects.{select, union_of}
use Rattle.sql_tables.specs.Tables.{tables}

-- the items of the one select
abbrev pub single : Columns → List SelectAst → Option Single
single columns (p ∷ []) = Some (columns, (out-SelectAst p).items)
single columns _ = None

abbrev pub query_of : Script → Selected → Answer Query
query_of script s = order s.names (single s.columns script.parts) script.order >>= λ keys.
    limit script.limit >>= λ l.
    offset script.offset >>= λ o.
    Ok (record { names = s.names; body = s.body; order = keys; offset = o; limit = l })

-- tables, then selects and their union, then ORDER BY, LIMIT and OFFSET
abbrev pub bound : Script → List Schema → Answer Query
bound script schemas = tables script.tables schemas >>= λ ts.
    union_of (map (select ts) script.parts) >>= query_of script
