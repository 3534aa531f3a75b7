-- Meaning: ORDER BY, LIMIT and OFFSET.
use Rattle.std.specs.Prelude.{ℕ, suc, ◌-◌, ◌&&◌, nat_le, Bool, true, false, Option, Some, None, option_and_then, List, [], ◌∷◌, ◌++◌, length, map, ℤ, pos, negsuc, Ok, if◌then◌else◌}
use Rattle.dfx_value.specs.Parse.{int_of}
use Rattle.dfx_value.specs.declared.rows.SortKey.{SortKey}
use Rattle.sql_grammar.specs.declared.ast.ExprAst.{ExprAst}
use Rattle.sql_grammar.specs.declared.ast.NodeAst.{NodeAst}
use Rattle.sql_grammar.specs.declared.ast.NodeAst.TheOpen.{NodeAst-F}
use Rattle.sql_grammar.specs.declared.ast.NodeAst.TheViews.{out-ExprAst, out-NodeAst}
use Rattle.sql_grammar.specs.declared.ast.ItemAst.{ItemAst}
use Rattle.sql_grammar.specs.declared.ast.ItemAst.TheVariants as item
use Rattle.sql_grammar.specs.declared.ast.KeyAst.{KeyAst}
use Rattle.sql_grammar.specs.declared.ast.NumberAst.{NumberAst}
use Rattle.typed_exprs.specs.declared.refusal.Why.TheVariants as why
use Rattle.typed_exprs.specs.Answer.{Answer, ◌>>=◌, refuse, or_refuse}
use Rattle.typed_exprs.specs.Literals.{has_point}
use Rattle.expr_binder.specs.Same.{same}
use Rattle.typed_exprs.specs.Scopes.{Columns, is_text}
use Rattle.expr_binder.specs.Meaning.{place_of}
use Rattle.sql_binder.specs.declared.orders.Single.{Single as Held}
use Rattle.sql_binder.specs.Each.{each}
use Rattle.sql_binder.specs.Items.{given, is_column}

-- ---- a key's column

-- one select, whose items a key may equal: the columns that it reads, and its items
abbrev pub Single : Type 0
Single = Columns × List ItemAst

-- as the code holds it
abbrev pub viewed : Held → Single
viewed s = (s.columns.now, s.items.now)

-- for each column that `*` or `alias.*` gives, whether an expression is it
abbrev pub column_tests : Columns → Option (List ℕ) → List (ExprAst → Bool)
column_tests columns alias = map (is_column columns) (given alias columns)

-- for each column of an item, whether an expression is it
abbrev pub tests_of : Columns → ItemAst → List (ExprAst → Bool)
tests_of columns (item.All place) = column_tests columns None
tests_of columns (item.AllOf alias place) = column_tests columns (Some alias)
tests_of columns (item.One e name) = (λ x. same columns x e) ∷ []

abbrev pub item_tests : Columns → List ItemAst → List (ExprAst → Bool)
item_tests columns [] = []
item_tests columns (i ∷ is) = tests_of columns i ++ item_tests columns is

abbrev pub first_from : ℕ → List (ExprAst → Bool) → ExprAst → Option ℕ
first_from k [] e = None
first_from k (is ∷ more) e = if is e then Some k else first_from (suc k) more e

-- the first of an item's columns that an expression is
unfoldable pub number_in : Columns → ItemAst → ExprAst → Option ℕ
number_in columns i e = first_from 0 (tests_of columns i) e

-- the first of the columns of all items, counted from k on
unfoldable pub number_from : Columns → ℕ → List ItemAst → ExprAst → Option ℕ
number_from columns k is e = first_from k (item_tests columns is) e

-- the first item that a key equals
abbrev pub item_of : Option Single → ExprAst → Answer ℕ
item_of None e = refuse why.Unsupported (place_of e)
item_of (Some s) e = or_refuse why.Unsupported (place_of e) (number_from s.0 0 s.1 e)

abbrev pub named_from : ℕ → List ℕ → List (List ℕ) → List ℕ
named_from k name [] = []
named_from k name (n ∷ ns) = if is_text n name then k ∷ named_from (suc k) name ns else named_from (suc k) name ns

-- the one column of this name, before items are compared
abbrev pub only : ℕ → List ℕ → ℕ → Answer ℕ
only k [] place = Ok k
only k (l ∷ more) place = refuse why.Ambiguous place

abbrev pub named_or : List ℕ → ℕ → Answer ℕ → Answer ℕ
named_or [] place other = other
named_or (k ∷ more) place other = only k more place

abbrev pub head_of : List ℕ → Option ℕ
head_of [] = None
head_of (k ∷ ks) = Some k

abbrev pub whole_below : Option ℤ → Option ℕ
whole_below (Some (pos n)) = Some n
whole_below _ = None

-- a whole number below 2^63
abbrev pub whole_number : List ℕ → Option ℕ
whole_number text = whole_below (int_of text)

-- a position, from 1
abbrev pub position : ℕ → ℕ → Option ℕ → Answer ℕ
position width place (Some (suc k)) = if nat_le (suc k) width then Ok k else refuse why.UnknownColumn place
position width place _ = refuse why.UnknownColumn place

abbrev pub column_of_key : List (List ℕ) → Option Single → ExprAst → Answer ℕ
column_of_key names single e = of_node (out-NodeAst (out-ExprAst e).node) where
  of_node : NodeAst-F NodeAst ExprAst → Answer ℕ
  of_node (NodeAst-F.Number text) = if has_point text then item_of single e else position (length names) (place_of e) (whole_number text)
  of_node (NodeAst-F.Name None name) = named_or (named_from 0 name names) (place_of e) (item_of single e)
  of_node _ = item_of single e

abbrev pub sort_key : KeyAst → ℕ → SortKey
sort_key key column = record { column = column; descending = key.descending; nulls_first = key.nulls_first }

abbrev pub key_of : List (List ℕ) → Option Single → KeyAst → Answer SortKey
key_of names single k = column_of_key names single k.expr >>= λ c. Ok (sort_key k c)

abbrev pub order : List (List ℕ) → Option Single → List KeyAst → Answer (List SortKey)
order names single keys = each (key_of names single) keys

-- ---- numbers of rows

abbrev pub number : NumberAst → Answer ℕ
number n = or_refuse why.LimitRange n.place (whole_number n.text)

abbrev pub limit : Option NumberAst → Answer (Option ℕ)
limit None = Ok None
limit (Some n) = number n >>= λ k. Ok (Some k)

-- none is 0
abbrev pub offset : Option NumberAst → Answer ℕ
offset None = Ok 0
offset (Some n) = number n
