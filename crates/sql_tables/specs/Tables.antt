-- Meaning: the tables that a script declares, each tested at its place, in the order of statements.
use Rattle.std.specs.Prelude.{ℕ, not, ◌&&◌, ◌||◌, Bool, true, false, codes, List, [], ◌∷◌, ◌++◌, map, Ok, if◌then◌else◌}
use Rattle.dfx_value.specs.declared.kind.Kind.{Kind}
use Rattle.sql_grammar.specs.declared.ast.TableAst.{TableAst}
use Rattle.typed_exprs.specs.declared.refusal.Why.TheVariants as why
use Rattle.typed_exprs.specs.declared.scope.Column.{Column}
use Rattle.typed_exprs.specs.Answer.{Answer, ◌>>=◌, refuse, refuse_if}
use Rattle.typed_exprs.specs.Scopes.{Columns, is_text}
use Rattle.sql_tables.specs.declared.schema.Schema.{Schema}
use Rattle.sql_tables.specs.declared.table.Table.{Table}

abbrev pub is_empty : {A : Type 0} → List A → Bool
is_empty [] = true
is_empty (x ∷ xs) = false

abbrev pub is_among : List ℕ → List (List ℕ) → Bool
is_among name [] = false
is_among name (n ∷ ns) = is_text n name || is_among name ns

abbrev pub has_twice : List (List ℕ) → Bool
has_twice [] = false
has_twice (n ∷ ns) = is_among n ns || has_twice ns

-- ---- columns

-- those that a statement declares
abbrev pub declared : List (List ℕ × Kind) → Schema
declared columns = record { names = map (λ c. c.0) columns; kinds = map (λ c. c.1) columns }

-- An Arrow table has the columns of its files, another one those of its statement.
abbrev pub schema_of : TableAst → Schema → Schema
schema_of t files = if t.arrow then files else declared t.columns

-- each table has a column, and an Arrow table declares none
abbrev pub has_wrong_columns : TableAst → Schema → Bool
has_wrong_columns t s = is_empty s.names || (t.arrow && not (is_empty t.columns))

-- ---- options

-- the one option is that a CSV file has a header
abbrev pub is_header : List ℕ × List ℕ → Bool
is_header option = (is_text option.0 (codes "has_header") || is_text option.0 (codes "format.has_header")) && is_text option.1 (codes "true")

abbrev pub has_other_option : List (List ℕ × List ℕ) → Bool
has_other_option [] = false
has_other_option (o ∷ os) = not (is_header o) || has_other_option os

-- ---- tables

abbrev pub declares : List ℕ → List Table → Bool
declares name [] = false
declares name (t ∷ ts) = is_text t.name name || declares name ts

-- a table with these columns behind others
abbrev pub table : List Table → TableAst → Schema → Answer Table
table before t s =
    refuse_if (has_wrong_columns t s || has_other_option t.options) why.Unsupported t.place
    (refuse_if (declares t.name before || has_twice s.names) why.Ambiguous t.place
    (Ok (record { name = t.name; names = s.names; kinds = s.kinds })))

-- the tables of statements, each with a schema, behind those that are done
abbrev pub tables_after : List Table → List TableAst → List Schema → Answer (List Table)
tables_after done [] schemas = Ok done
tables_after done (t ∷ ts) [] = refuse why.Unsupported t.place
tables_after done (t ∷ ts) (s ∷ ss) =
    table done t (schema_of t s) >>= λ x. tables_after (done ++ x ∷ []) ts ss

abbrev pub tables : List TableAst → List Schema → Answer (List Table)
tables statements schemas = tables_after [] statements schemas

-- columns of these names and kinds under an alias
abbrev pub columns_under : List ℕ → List (List ℕ) → List Kind → Columns
columns_under alias (n ∷ ns) (k ∷ ks) = record { alias = alias; name = n; kind = k } ∷ columns_under alias ns ks
columns_under alias _ _ = []
