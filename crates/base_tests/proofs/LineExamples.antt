-- Worked examples of the lines of answers, by computing.
use Rattle.std.specs.Prelude.{ℕ, ◌++◌, pos, neg_ℤ, true, false, codes, List, [], ◌∷◌, map}
use Rattle.std.proofs.Common.{◌≡◌, refl}
use Rattle.std.specs.Fmt.{digits}
use Rattle.csv.specs.Writing.{escaped, fields_text, is_blank}
use Rattle.dfx_value.specs.Decimal.{at_scale}
use Rattle.dfx_value.specs.Print.{decimal_text}
use Rattle.dfx_value.specs.declared.value.Value.{Value as Cell}
use Rattle.dfx_value.specs.declared.value.Value.TheVariants as value
use Rattle.result_text.specs.AnswerText.{header_line, row_lines}
use Rattle.dfx_value.specs.Rows.{cells_at}

abbrev some_rows : List (List Cell)
some_rows =
    (value.Text (195 ∷ 169 ∷ []) ∷ value.Int (neg_ℤ (pos 1)) ∷ value.Bool true ∷ value.Dec (at_scale (neg_ℤ (pos 50)) 2) ∷ [])
    ∷ (value.Null ∷ value.Null ∷ value.Null ∷ value.Null ∷ [])
    ∷ (value.Text (codes "a,\"b\"\nc") ∷ value.Int (pos 7) ∷ value.Bool false ∷ value.Null ∷ [])
    ∷ []

-- some columns of rows
abbrev lines : List ℕ → List (List Cell) → List ℕ
lines columns rows = row_lines (map (cells_at columns) rows)

-- ---- names

names-1 : header_line ((codes "a") ∷ (codes "b") ∷ (codes "c") ∷ []) ≡ codes "a,b,c\n"
unfolding escaped fields_text is_blank decimal_text digits
names-1 = refl

names-2 : header_line ([] ∷ [] ∷ [] ∷ []) ≡ codes ",,\n"
unfolding escaped fields_text is_blank decimal_text digits
names-2 = refl

names-3 : header_line ((codes "a,b") ∷ (codes "c\"d") ∷ (codes "e\nf") ∷ []) ≡ codes "\"a,b\",\"c\"\"d\",\"e\nf\"\n"
unfolding escaped fields_text is_blank decimal_text digits
names-3 = refl

names-4 : header_line ((codes "\r") ∷ (codes " x ") ∷ (195 ∷ 169 ∷ codes ";") ∷ []) ≡ codes "\"\r\", x ," ++ 195 ∷ 169 ∷ codes ";\n"
unfolding escaped fields_text is_blank decimal_text digits
names-4 = refl

names-5 : header_line ((codes "n") ∷ []) ≡ codes "n\n"
unfolding escaped fields_text is_blank decimal_text digits
names-5 = refl

names-6 : header_line ([] ∷ []) ≡ codes "\"\"\n"
unfolding escaped fields_text is_blank decimal_text digits
names-6 = refl

names-7 : header_line ((codes "\"") ∷ []) ≡ codes "\"\"\"\"\n"
unfolding escaped fields_text is_blank decimal_text digits
names-7 = refl

names-8 : header_line ((codes " ") ∷ []) ≡ codes " \n"
unfolding escaped fields_text is_blank decimal_text digits
names-8 = refl

names-9 : header_line ((codes "\n") ∷ []) ≡ codes "\"\n\"\n"
unfolding escaped fields_text is_blank decimal_text digits
names-9 = refl

-- ---- rows: one of each kind, one of NULLs, and one whose text is in want of quotes

rows-1 : lines (0 ∷ 1 ∷ 2 ∷ 3 ∷ []) some_rows ≡ 195 ∷ 169 ∷ codes ",-1,true,-0.50\n,,,\n\"a,\"\"b\"\"\nc\",7,false,\n"
unfolding escaped fields_text is_blank decimal_text digits
rows-1 = refl

rows-2 : lines (3 ∷ 0 ∷ []) some_rows ≡ codes "-0.50," ++ 195 ∷ 169 ∷ codes "\n,\n,\"a,\"\"b\"\"\nc\"\n"
unfolding escaped fields_text is_blank decimal_text digits
rows-2 = refl

rows-3 : lines (1 ∷ 1 ∷ []) some_rows ≡ codes "-1,-1\n,\n7,7\n"
unfolding escaped fields_text is_blank decimal_text digits
rows-3 = refl

rows-4 : lines (1 ∷ []) some_rows ≡ codes "-1\n\"\"\n7\n"
unfolding escaped fields_text is_blank decimal_text digits
rows-4 = refl

rows-5 : lines (3 ∷ []) some_rows ≡ codes "-0.50\n\"\"\n\"\"\n"
unfolding escaped fields_text is_blank decimal_text digits
rows-5 = refl

no_rows : lines (0 ∷ []) [] ≡ []
unfolding escaped fields_text is_blank decimal_text digits
no_rows = refl
