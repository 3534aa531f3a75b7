-- Words: what batches and builders keep of their columns.
use Rattle.std.specs.Prelude.{ℕ, suc, ◌+◌, ◌≤◌, ◌<◌, ◌^◌, Bool, false, ◌≡◌, List, [], ◌∷◌, map, length, All, slice_index_or, slice_range, if◌then◌else◌}
use Rattle.dfx_value.specs.Rows.{row_size}
use Rattle.dfx_value.specs.declared.kind.Kind.{Kind}
use Rattle.dfx_value.specs.declared.kind.Kind.TheVariants as kind
use Rattle.dfx_value.specs.declared.value.Value.{Value}
use Rattle.value_columns.specs.Columns.{KindedValues, Kinded, chosen, with_value, with_part}

-- a column with a value at each place before the last
pub record Reaches (last : ℕ) (c : KindedValues) : Type 0 where
  pub kinded : Kinded c.kind c.values
  pub long : last ≤ length c.values

-- so many rows from a place on stand in the columns
pub record Whole (cs : List KindedValues) (from n : ℕ) : Type 0 where
  pub few : from + n < 2 ^ 32
  pub long : All (Reaches (from + n)) cs

-- columns of so many rows, and past them something only where a row was too large for the memory
pub record Fills (cs : List KindedValues) (n : ℕ) (full : Bool) : Type 0 where
  pub long : All (λ c. n ≤ length c.values) cs
  pub even : full ≡ false → All (λ c. length c.values ≡ n) cs

-- a column without a value for each kind
abbrev pub empties : List Kind → List KindedValues
empties kinds = map (λ k. record { kind = k; values = [] }) kinds

-- each column with a value of a row more, as far as the row goes
abbrev pub all_with : List KindedValues → List Value → List KindedValues
all_with [] vs = []
all_with (c ∷ cs) [] = c ∷ cs
all_with (c ∷ cs) (v ∷ vs) = with_value c v ∷ all_with cs vs

-- each column with a part of another's values more, as far as there are others
abbrev pub all_with_parts : List KindedValues → List KindedValues → ℕ → ℕ → List KindedValues
all_with_parts [] ds from to = []
all_with_parts (c ∷ cs) [] from to = c ∷ cs
all_with_parts (c ∷ cs) (d ∷ ds) from to = with_part c d from to ∷ all_with_parts cs ds from to

-- each column with the values at these places
abbrev pub all_chosen : List KindedValues → ℕ → List ℕ → List KindedValues
all_chosen cs from places = map (λ c. chosen c from places) cs

-- what stands for a column that isn't there
abbrev pub no_column : KindedValues
no_column = record { kind = kind.Bool; values = [] }

-- these columns
abbrev pub columns_at : List KindedValues → List ℕ → List KindedValues
columns_at cs columns = map (λ k. slice_index_or cs k no_column) columns

-- the places of the true bits, counted from a start
abbrev pub places_from : ℕ → List Bool → List ℕ
places_from k [] = []
places_from k (b ∷ bs) = if b then k ∷ places_from (suc k) bs else places_from (suc k) bs

-- the sizes of a part of columns together
abbrev pub part_size : List KindedValues → ℕ → ℕ → ℕ
part_size [] from to = 0
part_size (c ∷ cs) from to = row_size (slice_range c.values from to) + part_size cs from to
