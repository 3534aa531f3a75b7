-- Meaning: the text of an answer: the names, then the rows, each as a record of the crate `csv` with its default writer
-- (RFC 4180 with a line feed at each record's end, and quotes only round a field that calls for them).
use Rattle.std.specs.Prelude.{ℕ, List, [], ◌∷◌, ◌++◌, map}
use Rattle.csv.specs.Writing.{row_text, default_writer}
use Rattle.dfx_value.specs.Print.{printed}
use Rattle.dfx_value.specs.declared.value.Value.{Value as Cell}

-- the line of the names
abbrev pub header_line : List (List ℕ) → List ℕ
header_line names = row_text default_writer names

-- the line of a row: a value as printed, NULL as an empty field
abbrev pub row_line : List Cell → List ℕ
row_line row = row_text default_writer (map printed row)

abbrev pub row_lines : List (List Cell) → List ℕ
row_lines [] = []
row_lines (r ∷ rs) = row_line r ++ row_lines rs

abbrev pub answer_text : List (List ℕ) → List (List Cell) → List ℕ
answer_text names rows = header_line names ++ row_lines rows
