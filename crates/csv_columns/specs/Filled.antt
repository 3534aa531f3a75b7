-- Words: columns that the fields of records fill.
use Rattle.std.specs.Prelude.{ℕ, ◌≡◌, ◌++◌, Option, List, [], ◌∷◌, Result, Ok, option_map, length, take, All, ⊤}
use Rattle.dfx_value.specs.Checked.{◌>>=◌}
use Rattle.dfx_value.specs.Parse.{parsed}
use Rattle.value_columns.specs.Columns.{KindedValues, with_value}
use Rattle.column_batch.specs.Batches.{kinds_of}
use Rattle.column_batch.specs.Parts.{all_with}
use Rattle.csv_source.specs.declared.refused.CsvRefused.{CsvRefused}
use Rattle.csv_source.specs.CsvItems.{field_value, cells_from, record_item}

-- the column with the value that a text writes more, where its kind has one
abbrev pub with_text : KindedValues → List ℕ → Option KindedValues
with_text c bytes = option_map (with_value c) (parsed c.kind bytes)

-- the column c with the value of a field of the n-th record more
abbrev pub with_field : ℕ → ℕ → KindedValues → List ℕ → Result KindedValues CsvRefused
with_field n c column field = field_value n c column.kind field >>= λ v. Ok (with_value column v)

-- columns with the values of fields more, the first of which is the column c
abbrev pub with_fields : ℕ → ℕ → List KindedValues → List (List ℕ) → Result (List KindedValues) CsvRefused
with_fields n c columns fields = cells_from n c (kinds_of columns) fields >>= λ row. Ok (all_with columns row)

-- columns with the row of the n-th record more
abbrev pub with_record : ℕ → List KindedValues → List (List ℕ) → Result (List KindedValues) CsvRefused
with_record n columns fields = record_item (kinds_of columns) n fields >>= λ row. Ok (all_with columns row)

-- columns, and then others
abbrev pub behind : List KindedValues → Result (List KindedValues) CsvRefused → Result (List KindedValues) CsvRefused
behind front columns = columns >>= λ more. Ok (front ++ more)

-- each column has so many values
abbrev pub Even : ℕ → List KindedValues → Type 0
Even n columns = All (λ c. length c.values ≡ n) columns

-- the column with values more, or just the column
pub record Extends (c d : KindedValues) : Type 0 where
  pub kind : d.kind ≡ c.kind
  pub front : take (length c.values) d.values ≡ c.values

-- each column with values more, or just the column
abbrev pub AllExtend : List KindedValues → List KindedValues → Type 0
AllExtend [] [] = ⊤
AllExtend (c ∷ cs) (d ∷ ds) = Extends c d × AllExtend cs ds
AllExtend _ _ = ⊥
