-- Meaning: what stands at the front of a text.
use Rattle.std.specs.Prelude.{ℕ, ◌+◌, ◌-◌, nat_lt, nat_eq, List, [], ◌∷◌, drop, take, Bool, ◌||◌, ◌&&◌, if◌then◌else◌, Option, Some, None}
use Rattle.sql_lexer.specs.Bytes.{is_digit, begins_word, is_space, run, symbol_length, quoted}
use Rattle.sql_lexer.specs.declared.bytes.Group.TheVariants as group
use Rattle.sql_lexer.specs.declared.token.TokenKind.{TokenKind}
use Rattle.sql_lexer.specs.declared.token.TokenKind.TheVariants as kind
use Rattle.sql_lexer.specs.declared.cut.Cut.{Cut}
use Rattle.sql_lexer.specs.declared.cut.Cut.TheVariants.{Blank, Found, Bad, Wide, Open}

-- the first two bytes, or 0
abbrev pub first_of : List ℕ → ℕ
first_of [] = 0
first_of (b ∷ bs) = b

abbrev pub second_of : List ℕ → ℕ
second_of [] = 0
second_of (b ∷ bs) = first_of bs

-- ---- numbers, of so many digits before the point and so many behind it

-- the digits behind the point, where one follows the digits at the front
abbrev pub fraction_of : List ℕ → ℕ → ℕ
fraction_of bs whole = if nat_eq (first_of (drop whole bs)) 46 then run group.Digit (drop (whole + 1) bs) else 0

unfoldable pub number_length : ℕ → ℕ → ℕ
number_length whole fraction = if nat_eq fraction 0 then whole else whole + 1 + fraction

-- the digits of both as one string, leading zeros aside
unfoldable pub significant : List ℕ → ℕ → ℕ → ℕ
significant bs whole fraction =
    if nat_eq (run group.Zero (take whole bs)) whole then fraction - run group.Zero (take fraction (drop (whole + 1) bs))
    else whole - run group.Zero (take whole bs) + fraction

-- more than 38 digits are too wide; and no letter or `_` follows a number
unfoldable pub number : List ℕ → ℕ → ℕ → Cut
number bs whole fraction =
    if nat_lt 38 (significant bs whole fraction) || nat_lt 38 fraction then Wide
    else (if begins_word (first_of (drop (number_length whole fraction) bs)) then Bad (number_length whole fraction)
    else Found kind.Number (number_length whole fraction))

unfoldable pub cut_number : List ℕ → Cut
cut_number bs = let whole = run group.Digit bs in number bs whole (fraction_of bs whole)

-- ---- quoted texts and symbols

abbrev pub closed : TokenKind → Option ℕ → Cut
closed k None = Open
closed k (Some n) = Found k (n + 1)

unfoldable pub cut_quoted : TokenKind → ℕ → List ℕ → Cut
cut_quoted k quote bs = closed k (quoted quote (drop 1 bs))

abbrev pub symbol_of : ℕ → Cut
symbol_of n = if nat_eq n 0 then Bad 0 else Found kind.Symbol n

unfoldable pub cut_symbol : List ℕ → Cut
cut_symbol bs = symbol_of (symbol_length (first_of bs) (second_of bs))

-- ---- what a text that isn't empty begins with

abbrev pub begins_comment : List ℕ → Bool
begins_comment bs = nat_eq (first_of bs) 45 && nat_eq (second_of bs) 45

abbrev pub begins_number : List ℕ → Bool
begins_number bs = is_digit (first_of bs) || (nat_eq (first_of bs) 46 && is_digit (second_of bs))

unfoldable pub cut : List ℕ → Cut
cut bs =
    if is_space (first_of bs) then Blank (run group.Space bs)
    else (if begins_comment bs then Blank (run group.Comment bs)
    else (if begins_word (first_of bs) then Found kind.Word (run group.Word bs)
    else (if begins_number bs then cut_number bs
    else (if nat_eq (first_of bs) 34 then cut_quoted kind.Quoted 34 bs
    else (if nat_eq (first_of bs) 39 then cut_quoted kind.Str 39 bs
    else cut_symbol bs)))))
