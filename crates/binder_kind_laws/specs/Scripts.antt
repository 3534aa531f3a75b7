-- Meaning: scripts of which each select has an item, and tables of which each column has a kind.
use Rattle.std.specs.Prelude.{Bool, true, ◌&&◌, ◌==◌, nat_lt, List, [], ◌∷◌, length, map}
use Rattle.std.specs.List.{list_all}
use Rattle.dfx_value.specs.Kinds.{are_kinds}
use Rattle.dfx_value.specs.declared.kind.Kind.{Kind}
use Rattle.sql_grammar.specs.declared.ast.Script.{Script}
use Rattle.sql_grammar.specs.declared.ast.TableAst.{TableAst}
use Rattle.sql_grammar.specs.declared.ast.FromAst.{FromAst}
use Rattle.sql_grammar.specs.declared.ast.JoinAst.{JoinAst}
use Rattle.sql_grammar.specs.declared.ast.SelectAst.{SelectAst}
use Rattle.sql_grammar.specs.declared.ast.FromAst.TheOpen.{FromAst-F, JoinAst-F, SelectAst-F}
use Rattle.sql_grammar.specs.declared.ast.FromAst.TheFolds.{fold-SelectAst, fold-FromAst, fold-JoinAst}
use Rattle.sql_tables.specs.declared.schema.Schema.{Schema}
use Rattle.sql_tables.specs.declared.table.Table.{Table}
use Rattle.sql_tables.specs.Tables.{declared}

-- ---- items

abbrev pub all_have : List Bool → Bool
all_have [] = true
all_have (b ∷ bs) = b && all_have bs

abbrev pub from_layer : FromAst-F Bool Bool Bool → Bool
from_layer (FromAst-F.Named name alias place) = true
from_layer (FromAst-F.Derived parts alias place) = all_have parts

abbrev pub join_layer : JoinAst-F Bool Bool Bool → Bool
join_layer j = j.right

abbrev pub select_layer : SelectAst-F Bool Bool Bool → Bool
select_layer s = nat_lt 0 (length s.items) && (s.first && all_have s.joins)

-- a select has an item, and so has each select in it
unfoldable pub select_has_items : SelectAst → Bool
select_has_items = fold-SelectAst Bool Bool Bool from_layer join_layer select_layer

unfoldable pub from_has_items : FromAst → Bool
from_has_items = fold-FromAst Bool Bool Bool from_layer join_layer select_layer

unfoldable pub join_has_items : JoinAst → Bool
join_has_items = fold-JoinAst Bool Bool Bool from_layer join_layer select_layer

-- each select of a script has an item
abbrev pub has_items : Script → Bool
has_items script = all_have (map select_has_items script.parts)

-- ---- tables

-- a name for each kind, and each kind is one
abbrev pub is_whole : Table → Bool
is_whole t = (length t.names == length t.kinds) && are_kinds t.kinds

abbrev pub are_whole : List Table → Bool
are_whole = list_all is_whole

-- the kinds of each table's columns
abbrev pub kinds_of : List Table → List (List Kind)
kinds_of = map (λ (t : Table). t.kinds)

-- ---- tables whose columns their statements declare

abbrev pub declared_schema : TableAst → Schema
declared_schema t = declared t.columns

abbrev pub declared_kinds : TableAst → List Kind
declared_kinds t = (declared_schema t).kinds

-- each of them is a kind
abbrev pub declares_kinds : TableAst → Bool
declares_kinds t = are_kinds (declared_kinds t)
