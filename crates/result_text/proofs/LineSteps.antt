-- Fields and lines, one more.
use Rattle.std.proofs.Common.{◌≡◌, refl, ℕ, ℤ, zero, suc, ◌+◌, ◌*◌, ◌/◌, ◌%◌, ◌^◌, ◌<◌, ◌≤◌, ◌==◌, Bool, true, false, List, [], ◌∷◌, ◌++◌, length, map, take, get_or, ap, sym, ◌∙◌, arith, append_assoc, length-append}
use Rattle.std.specs.Prelude.{pos, negsuc, if◌then◌else◌, ◌||◌, ◌≢◌}
use Rattle.std.specs.Fmt.{decimal, signed_decimal}
use Rattle.std.specs.Int.Signed.{mag}
use Rattle.std.specs.List.{list_any}
use Rattle.std.proofs.lemmas.Bool.{ne_eqb}
use Rattle.std.proofs.lemmas.Fmt.{decimal_by_steps}
use Rattle.std.proofs.lemmas.List.{take_more, take_all, append-nil, length-map, get_or-map}
use Rattle.std.proofs.lemmas.List.Folds.{list_any-append}
use Rattle.csv.specs.Writing.{default_writer, needs_byte, needs_quotes, escaped, quoted, field_text, fields_text, next_sep, row_body, row_text, is_blank}
use Rattle.csv.proofs.WriteFacts.{escaped-double, escaped-other, quoted-step, row-step}
use Rattle.dfx_value.specs.Print.{printed}
use Rattle.dfx_value.specs.Rows.{cell}
use Rattle.dfx_value.specs.declared.value.Value.{Value as Cell}
use Rattle.dfx_value.proofs.FrontLemmas.{starts, starts_after}
use Rattle.result_text.specs.AnswerText.{row_line, row_lines}

-- ---- whole numbers call for no quotes

-- a minus, or a digit
plain : (b : ℕ) → 45 ≤ b → needs_byte default_writer b ≡ false
plain b h =
    rw (ne_eqb b 44 (λ (e : b ≡ 44). omega arith), ne_eqb b 34 (λ (e : b ≡ 34). omega arith), ne_eqb b 13 (λ (e : b ≡ 13). omega arith), ne_eqb b 10 (λ (e : b ≡ 10). omega arith)) refl

abbrev Plain : ℕ → List ℕ → Type 0
Plain n ds = needs_quotes default_writer ds ≡ false

plain-one : (b : ℕ) → 45 ≤ b → needs_quotes default_writer (b ∷ []) ≡ false
plain-one b h = rw (plain b h) refl

plain-decimal : (n : ℕ) → n < 2 ^ 64 → needs_quotes default_writer (decimal n) ≡ false
plain-decimal = decimal_by_steps Plain
    (λ n h. plain-one (48 + n) (omega arith))
    (λ n ds h p. list_any-append (needs_byte default_writer) ds ((48 + n % 10) ∷ []) ∙ (rw (p, plain-one (48 + n % 10) (omega arith)) refl))

whole : (z : ℤ) → mag z < 2 ^ 63 → needs_quotes default_writer (signed_decimal z) ≡ false
whole (pos n) h = plain-decimal n (omega arith)
whole (negsuc n) h = rw (plain-decimal (suc n) (omega arith)) refl

pub whole_text : (z : ℤ) → mag z < 2 ^ 63 → field_text default_writer (signed_decimal z) ≡ signed_decimal z
whole_text z h = rw (whole z h) refl

-- ---- fields in quotes

pub escape_quote : (b : ℕ) → b ≡ 34 → escaped default_writer (b ∷ []) ≡ 34 ∷ 34 ∷ []
escape_quote b e = escaped-double default_writer b e refl ∙ ap (λ (x : ℕ). x ∷ x ∷ []) e

pub escape_other : (b : ℕ) → b ≢ 34 → escaped default_writer (b ∷ []) ≡ b ∷ []
escape_other b e = escaped-other default_writer b e

pub quoted_none : (before now : List ℕ) → now ≡ before ++ 34 ∷ [] → now ≡ before ++ 34 ∷ escaped default_writer []
unfolding escaped
quoted_none before now h = h

pub quoted_more : (before text now field : List ℕ) (i : ℕ) → i < length field → text ≡ before ++ 34 ∷ escaped default_writer (take i field)
    → now ≡ text ++ escaped default_writer (get_or field i 0 ∷ []) → now ≡ before ++ 34 ∷ escaped default_writer (take (i + 1) field)
quoted_more before text now field i low is more =
    more ∙ ap (λ (t : List ℕ). t ++ escaped default_writer (get_or field i 0 ∷ [])) is
    ∙ append_assoc before (34 ∷ escaped default_writer (take i field)) (escaped default_writer (get_or field i 0 ∷ []))
    ∙ ap (λ (t : List ℕ). before ++ t) (quoted-step default_writer 34 field i low)

pub quoted_all : (before text now field : List ℕ) (i : ℕ) → length field ≤ i → text ≡ before ++ 34 ∷ escaped default_writer (take i field)
    → now ≡ text ++ 34 ∷ [] → now ≡ before ++ quoted default_writer field
quoted_all before text now field i low is more =
    more ∙ ap (λ (t : List ℕ). t ++ 34 ∷ []) (is ∙ ap (λ (t : List ℕ). before ++ 34 ∷ escaped default_writer t) (take_all i field low))
    ∙ append_assoc before (34 ∷ escaped default_writer field) (34 ∷ [])

pub ruleset escape_steps = (escape_quote, escape_other, starts)

pub ruleset quoted_steps = (quoted_none, quoted_more, quoted_all, starts)

-- ---- lines

-- a line is blank where it shows no byte
blank-length : (fields : List (List ℕ)) → is_blank default_writer fields ≡ (length (row_body default_writer fields) == 0)
unfolding is_blank fields_text
blank-length [] = refl
blank-length (f ∷ []) = ap (λ (t : List ℕ). length t == 0) (sym (append-nil (field_text default_writer f)))
blank-length (f ∷ g ∷ fs) =
    let rest : List ℕ = field_text default_writer g ++ fields_text default_writer fs in
    sym (ne_eqb (length (field_text default_writer f ++ 44 ∷ rest)) 0 (λ (e : length (field_text default_writer f ++ 44 ∷ rest) ≡ 0). omega (arith, length-append (field_text default_writer f) (44 ∷ rest))))

ended : (before now end : List ℕ) (fields : List (List ℕ)) (b : Bool) → is_blank default_writer fields ≡ b → now ≡ before ++ row_body default_writer fields
    → end ≡ (if b then 34 ∷ 34 ∷ [] else []) ++ 10 ∷ [] → now ++ end ≡ before ++ row_text default_writer fields
ended before now end fields b blank is e =
    ap (λ (t : List ℕ). t ++ end) is ∙ append_assoc before (row_body default_writer fields) end
    ∙ ap (λ (t : List ℕ). before ++ (row_body default_writer fields ++ t)) (e ∙ ap (λ (x : Bool). (if x then 34 ∷ 34 ∷ [] else []) ++ 10 ∷ []) (sym blank))

pub blank_line : (before now : List ℕ) (fields : List (List ℕ)) → length now ≡ length before → now ≡ before ++ row_body default_writer fields
    → now ++ (34 ∷ 34 ∷ 10 ∷ []) ≡ before ++ row_text default_writer fields
blank_line before now fields low is =
    let none : length (row_body default_writer fields) ≡ 0 = omega (arith, length-append before (row_body default_writer fields), ap length is) in
    ended before now (34 ∷ 34 ∷ 10 ∷ []) fields true (blank-length fields ∙ rw none refl) is refl

pub shown_line : (before now : List ℕ) (fields : List (List ℕ)) → length now ≢ length before → now ≡ before ++ row_body default_writer fields
    → now ++ (10 ∷ []) ≡ before ++ row_text default_writer fields
shown_line before now fields more is =
    let some : length (row_body default_writer fields) ≢ 0 = λ (e : length (row_body default_writer fields) ≡ 0). more (omega (arith, length-append before (row_body default_writer fields), ap length is)) in
    ended before now (10 ∷ []) fields false (blank-length fields ∙ ne_eqb (length (row_body default_writer fields)) 0 some) is refl

-- a field more of a line
pub line_more : (before text one now : List ℕ) (fields : List (List ℕ)) (i : ℕ) → i < length fields → text ≡ before ++ row_body default_writer (take i fields)
    → one ≡ text ++ next_sep default_writer i → now ≡ one ++ field_text default_writer (get_or fields i []) → now ≡ before ++ row_body default_writer (take (i + 1) fields)
line_more before text one now fields i low is sep more =
    more ∙ ap (λ (t : List ℕ). t ++ field_text default_writer (get_or fields i [])) (sep ∙ ap (λ (t : List ℕ). t ++ next_sep default_writer i) is)
    ∙ append_assoc (before ++ row_body default_writer (take i fields)) (next_sep default_writer i) (field_text default_writer (get_or fields i []))
    ∙ append_assoc before (row_body default_writer (take i fields)) (next_sep default_writer i ++ field_text default_writer (get_or fields i []))
    ∙ ap (λ (t : List ℕ). before ++ t) (sym (row-step default_writer fields i low))

-- ---- rows

row_lines-append : (rows : List (List Cell)) (row : List Cell) → row_lines (rows ++ row ∷ []) ≡ row_lines rows ++ row_line row
row_lines-append [] row = append-nil (row_line row)
row_lines-append (r ∷ rs) row = ap (λ (t : List ℕ). row_line r ++ t) (row_lines-append rs row) ∙ sym (append_assoc (row_line r) (row_lines rs) (row_line row))

-- a line more
pub lines_more : (before text now : List ℕ) (rows : List (List Cell)) (i : ℕ) → i < length rows → text ≡ before ++ row_lines (take i rows)
    → now ≡ text ++ row_line (get_or rows i []) → now ≡ before ++ row_lines (take (i + 1) rows)
lines_more before text now rows i low is more =
    more ∙ ap (λ (t : List ℕ). t ++ row_line (get_or rows i [])) is ∙ append_assoc before (row_lines (take i rows)) (row_line (get_or rows i []))
    ∙ ap (λ (t : List ℕ). before ++ t) (sym (ap row_lines (take_more rows i [] low) ∙ row_lines-append (take i rows) (get_or rows i [])))

-- what a line begins with, and its end
pub line_none : (text : List ℕ) (fields : List (List ℕ)) → text ≡ text ++ row_body default_writer (take 0 fields)
line_none text fields = sym (append-nil text)

pub header_more : (text one now : List ℕ) (names : List (List ℕ)) (i : ℕ) → i < length names → text ≡ row_body default_writer (take i names)
    → one ≡ text ++ next_sep default_writer i → now ≡ one ++ field_text default_writer (get_or names i []) → now ≡ row_body default_writer (take (i + 1) names)
header_more text one now names i low is sep more = line_more [] text one now names i low is sep more

pub lines_none : (text : List ℕ) (rows : List (List Cell)) → text ≡ text ++ row_lines (take 0 rows)
lines_none text rows = sym (append-nil text)

pub lines_all : (before text : List ℕ) (rows : List (List Cell)) (i : ℕ) → length rows ≤ i → text ≡ before ++ row_lines (take i rows) → text ≡ before ++ row_lines rows
lines_all before text rows i low is = is ∙ ap (λ (t : List (List Cell)). before ++ row_lines t) (take_all i rows low)

cell-at : (row : List Cell) (k : ℕ) → k < length row → cell row k ≡ get_or row k (cell row k)
cell-at [] k h = absurd (omega arith)
cell-at (v ∷ row) zero h = refl
cell-at (v ∷ row) (suc k) h = cell-at row k (omega arith)

-- a cell more of a row's line
pub cell_more : (before text one now : List ℕ) (row : List Cell) (i : ℕ) (v : Cell) → i < length row → v ≡ get_or row i v
    → text ≡ before ++ row_body default_writer (take i (map printed row)) → one ≡ text ++ next_sep default_writer i
    → now ≡ one ++ field_text default_writer (printed v) → now ≡ before ++ row_body default_writer (take (i + 1) (map printed row))
cell_more before text one now row i v low at is sep more =
    line_more before text one now (map printed row) i (omega (arith, length-map row printed)) is sep
    (more ∙ ap (λ (t : List ℕ). one ++ field_text default_writer t) (ap printed at ∙ sym (get_or-map printed row i v [] low)))

-- the same of a batch's row
pub cell_at_more : (before text one now : List ℕ) (row : List Cell) (i : ℕ) → i < length row
    → text ≡ before ++ row_body default_writer (take i (map printed row)) → one ≡ text ++ next_sep default_writer i
    → now ≡ one ++ field_text default_writer (printed (cell row i)) → now ≡ before ++ row_body default_writer (take (i + 1) (map printed row))
cell_at_more before text one now row i low is sep more = cell_more before text one now row i (cell row i) low (cell-at row i low) is sep more

-- what starts with two more texts
pub starts_two : (a b c d x y : List ℕ) → b ≡ a ++ x → c ≡ b ++ y → take (length c) d ≡ c → take (length a) d ≡ a
starts_two a b c d x y e f h = starts_after a c d (x ++ y) (f ∙ ap (λ (t : List ℕ). t ++ y) e ∙ append_assoc a x y) h

pub line_all : (before text : List ℕ) (row : List Cell) (i : ℕ) → length row ≤ i → text ≡ before ++ row_body default_writer (take i (map printed row))
    → text ≡ before ++ row_body default_writer (map printed row)
line_all before text row i low is = is ∙ ap (λ (t : List (List ℕ)). before ++ row_body default_writer t) (take_all i (map printed row) (omega (arith, length-map row printed)))

pub ruleset end_steps = (blank_line, shown_line, starts)

pub ruleset row_steps = (line_none, line_more, cell_more, line_all, header_more, lines_none, lines_more, lines_all, starts_two)

pub ruleset line_steps = (row_steps, starts)
