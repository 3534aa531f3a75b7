-- Meaning: the columns that the items of a select give.
use Rattle.std.specs.Prelude.{ℕ, suc, ◌+◌, ◌∷◌, ◌++◌, [], List, length, map, codes, Bool, true, false, Option, Some, None, slice_get, nat_lt, Ok, if◌then◌else◌}
use Rattle.std.specs.Fmt.{decimal}
use Rattle.dfx_value.specs.declared.kind.Kind.{Kind}
use Rattle.dfx_value.specs.declared.kind.Kind.TheVariants as kind
use Rattle.scalar_exprs.specs.declared.expr.Expr.TheVariants as expr
use Rattle.sql_grammar.specs.declared.ast.ExprAst.{ExprAst}
use Rattle.sql_grammar.specs.declared.ast.NodeAst.{NodeAst}
use Rattle.sql_grammar.specs.declared.ast.NodeAst.TheOpen.{NodeAst-F}
use Rattle.sql_grammar.specs.declared.ast.NodeAst.TheViews.{out-ExprAst, out-NodeAst}
use Rattle.sql_grammar.specs.declared.ast.ItemAst.{ItemAst}
use Rattle.sql_grammar.specs.declared.ast.ItemAst.TheVariants as item
use Rattle.typed_exprs.specs.declared.refusal.Why.TheVariants as why
use Rattle.typed_exprs.specs.declared.scope.Column.{Column}
use Rattle.typed_exprs.specs.Answer.{Answer, ◌>>=◌, refuse, refuse_if}
use Rattle.expr_binder.specs.Same.{same_column}
use Rattle.typed_exprs.specs.Scopes.{Columns, column_of, is_unknown, is_under, numbers}
use Rattle.typed_exprs.specs.Typed.{Kinded, settled}
use Rattle.expr_binder.specs.Groups.{Over, Groups}
use Rattle.expr_binder.specs.Meaning.{meaning, column_kind, place_of}
use Rattle.logical_build.specs.declared.outputs.Output.{Output}
use Rattle.sql_binder.specs.Each.{each}

-- the name that an expression is, with the alias before it
abbrev pub written_name : ExprAst → Option (Option (List ℕ) × List ℕ)
written_name e = of_node (out-NodeAst (out-ExprAst e).node) where
  of_node : NodeAst-F NodeAst ExprAst → Option (Option (List ℕ) × List ℕ)
  of_node (NodeAst-F.Name alias name) = Some (alias, name)
  of_node _ = None

-- whether an expression is this column
unfoldable pub is_column : Columns → ℕ → ExprAst → Bool
is_column columns k e = names_it (written_name e) where
  names_it : Option (Option (List ℕ) × List ℕ) → Bool
  names_it None = false
  names_it (Some (alias, name)) = same_column (Ok k) (column_of columns 0 alias name)

-- ---- `*`

abbrev pub name_at : Columns → ℕ → List ℕ
name_at columns k = or_empty (slice_get columns k) where
  or_empty : Option Column → List ℕ
  or_empty None = []
  or_empty (Some c) = c.name

abbrev pub kind_at : Columns → ℕ → Kind
kind_at columns k = or_text (slice_get columns k) where
  or_text : Option Column → Kind
  or_text None = kind.Text
  or_text (Some c) = c.kind

abbrev pub key_from : Columns → ℕ → ℕ → List ExprAst → Option ℕ
key_from columns k at [] = None
key_from columns k at (e ∷ es) = if is_column columns k e then Some at else key_from columns k (suc at) es

abbrev pub of_key : Groups → ℕ → List ℕ → Option ℕ → Answer Output
of_key g place name None = refuse why.NotGrouped place
of_key g place name (Some key) = Ok (record { name = name; expr = expr.Column key; kind = column_kind g.kinds key })

-- a column itself, or over groups the first key that is this column
abbrev pub star : Columns → Over → ℕ → ℕ → Answer Output
star columns None place k = Ok (record { name = name_at columns k; expr = expr.Column k; kind = kind_at columns k })
star columns (Some g) place k = of_key g place (name_at columns k) (key_from columns k 0 g.keys)

-- the columns that `*` gives, or `alias.*`
abbrev pub is_given : Option (List ℕ) → Column → Bool
is_given = is_under

abbrev pub given : Option (List ℕ) → Columns → List ℕ
given alias columns = numbers (is_given alias) columns

abbrev pub stars : Columns → Over → ℕ → Option (List ℕ) → Answer (List Output)
stars columns over place alias = refuse_if (is_unknown alias columns) why.UnknownTable place (each (star columns over place) (given alias columns))

-- ---- items

-- the name that is given; else that of the column which the item is, or `c` and the item's position among the columns, from 1
abbrev pub item_name : ℕ → ExprAst → Option (List ℕ) → List ℕ
item_name at e (Some name) = name
item_name at e None = of_written (written_name e) where
  of_written : Option (Option (List ℕ) × List ℕ) → List ℕ
  of_written None = codes "c" ++ decimal at
  of_written (Some (alias, name)) = name

abbrev pub output : List ℕ → Kinded → Output
output name e = record { name = name; expr = e.0; kind = e.1 }

abbrev pub expr_output : Columns → Over → ℕ → ExprAst → Option (List ℕ) → Answer Output
expr_output columns over at e name = meaning columns e over >>= λ t. Ok (output (item_name at e name) (settled t))

-- the columns of an item that begins at a position
abbrev pub outputs_of : Columns → Over → ℕ → ItemAst → Answer (List Output)
outputs_of columns over at (item.All place) = stars columns over place None
outputs_of columns over at (item.AllOf alias place) = stars columns over place (Some alias)
outputs_of columns over at (item.One e name) = expr_output columns over at e name >>= λ o. Ok (o ∷ [])

-- ---- all items

-- a select gives no more columns than this
abbrev pub most_columns : ℕ
most_columns = 16384

abbrev pub are_too_many : ℕ → Bool
are_too_many n = nat_lt most_columns n

-- how many columns an item gives
unfoldable pub width_of : Columns → ItemAst → ℕ
width_of columns (item.All place) = length (given None columns)
width_of columns (item.AllOf alias place) = length (given (Some alias) columns)
width_of columns (item.One e name) = 1

abbrev pub place_of_item : ItemAst → ℕ
place_of_item (item.All place) = place
place_of_item (item.AllOf alias place) = place
place_of_item (item.One e name) = place_of e

-- those of an item behind n others; an item with which they are too many is refused unbound
abbrev pub outputs_behind : Columns → Over → ℕ → ItemAst → Answer (List Output)
outputs_behind columns over n i =
    refuse_if (are_too_many (n + width_of columns i)) why.Unsupported (place_of_item i)
    (outputs_of columns over (suc n) i)

-- behind those of the items before
abbrev pub outputs_after : Columns → Over → List Output → List ItemAst → Answer (List Output)
outputs_after columns over done [] = Ok done
outputs_after columns over done (i ∷ is) =
    outputs_behind columns over (length done) i >>= λ os. outputs_after columns over (done ++ os) is

abbrev pub outputs : Columns → Over → List ItemAst → Answer (List Output)
outputs columns over items = outputs_after columns over [] items
