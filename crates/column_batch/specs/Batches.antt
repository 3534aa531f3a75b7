-- Meaning: rows that stand in columns.
use Rattle.std.specs.Prelude.{ℕ, zero, suc, Bool, List, [], ◌∷◌, map, slice_index_or, if◌then◌else◌}
use Rattle.dfx_value.specs.KindedRows.{KindedRows}
use Rattle.dfx_value.specs.Rows.{cell}
pub use Rattle.dfx_value.specs.Rows.{cells_at}
use Rattle.dfx_value.specs.declared.kind.Kind.{Kind}
use Rattle.dfx_value.specs.declared.kind.Kind.TheVariants as kind
use Rattle.dfx_value.specs.declared.value.Value.{Value}
use Rattle.dfx_value.specs.declared.value.Value.TheVariants as value
use Rattle.value_columns.specs.Columns.{KindedValues}

-- the values that stand at a place
abbrev pub row_at : List KindedValues → ℕ → List Value
row_at cs i = map (λ c. slice_index_or c.values i value.Null) cs

-- so many rows from a place on
abbrev pub rows_from : List KindedValues → ℕ → ℕ → List (List Value)
rows_from cs from zero = []
rows_from cs from (suc n) = row_at cs from ∷ rows_from cs (suc from) n

abbrev pub kinds_of : List KindedValues → List Kind
kinds_of cs = map (λ c. c.kind) cs

-- so many rows of columns from a place on, with their kinds
abbrev pub cut : List KindedValues → ℕ → ℕ → KindedRows
cut cs from n = record { kinds = kinds_of cs; rows = rows_from cs from n }

-- the rows at these places
abbrev pub rows_at : List (List Value) → List ℕ → List (List Value)
rows_at rows places = map (λ p. slice_index_or rows p []) places

-- those whose bit is true
abbrev pub kept : {A : Type 0} → List Bool → List A → List A
kept [] xs = []
kept (b ∷ bs) [] = []
kept (b ∷ bs) (x ∷ xs) = if b then x ∷ kept bs xs else kept bs xs

-- the kinds of these columns
abbrev pub kinds_at : List Kind → List ℕ → List Kind
kinds_at kinds columns = map (λ k. slice_index_or kinds k kind.Bool) columns

-- the cells of one column of rows
abbrev pub column_of : List (List Value) → ℕ → List Value
column_of rows k = map (λ r. cell r k) rows
