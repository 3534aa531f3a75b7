-- Meaning: the columns that a select reads, and which of them a name names.
use Rattle.std.specs.Prelude.{ℕ, suc, not, ◌&&◌, ◌||◌, Bool, true, false, Option, Some, None, List, [], ◌∷◌, nat_eq, Ok}
use Rattle.std.specs.Cmp.Lexicographic.{pointwise}
use Rattle.typed_exprs.specs.declared.refusal.Why.TheVariants as why
use Rattle.typed_exprs.specs.declared.scope.Column.{Column}
use Rattle.typed_exprs.specs.Answer.{Answer, refuse, refuse_if}

-- the columns in order
abbrev pub Columns : Type 0
Columns = List Column

abbrev pub is_text : List ℕ → List ℕ → Bool
is_text = pointwise nat_eq

-- whether a column is of the table with this alias, where one is written
abbrev pub is_under : Option (List ℕ) → Column → Bool
is_under None c = true
is_under (Some alias) c = is_text alias c.alias

abbrev pub is_named : Option (List ℕ) → List ℕ → Column → Bool
is_named alias name c = is_under alias c && is_text name c.name

abbrev pub with_if : {A : Type 0} → Bool → A → List A → List A
with_if true x xs = x ∷ xs
with_if false x xs = xs

-- the numbers, from k on, of the columns that are so
abbrev pub numbers_from : (Column → Bool) → ℕ → Columns → List ℕ
numbers_from is k [] = []
numbers_from is k (c ∷ cs) = with_if (is c) k (numbers_from is (suc k) cs)

abbrev pub numbers : (Column → Bool) → Columns → List ℕ
numbers is columns = numbers_from is 0 columns

abbrev pub any_is : (Column → Bool) → Columns → Bool
any_is is [] = false
any_is is (c ∷ cs) = is c || any_is is cs

-- whether an alias is written that no table has; each table has a column
abbrev pub is_unknown : Option (List ℕ) → Columns → Bool
is_unknown None columns = false
is_unknown (Some alias) columns = not (any_is (is_under (Some alias)) columns)

abbrev pub the_one : ℕ → List ℕ → Answer ℕ
the_one place [] = refuse why.UnknownColumn place
the_one place (k ∷ []) = Ok k
the_one place (k ∷ l ∷ more) = refuse why.Ambiguous place

-- the one column that a name at this place names, by its number
abbrev pub column_of : Columns → ℕ → Option (List ℕ) → List ℕ → Answer ℕ
column_of columns place alias name =
    refuse_if (is_unknown alias columns) why.UnknownTable place (the_one place (numbers (is_named alias name) columns))
