-- Meaning: the bytes of a script, by what they may be part of.
use Rattle.std.specs.Prelude.{ℕ, ◌+◌, nat_le, nat_eq, List, [], ◌∷◌, Bool, false, ◌||◌, ◌&&◌, not, if◌then◌else◌, Option, Some, None, codes}
use Rattle.sql_lexer.specs.declared.bytes.Group.{Group}
use Rattle.sql_lexer.specs.declared.bytes.Group.TheVariants as group

abbrev pub between : ℕ → ℕ → ℕ → Bool
between least most b = nat_le least b && nat_le b most

abbrev pub is_digit : ℕ → Bool
is_digit b = between 48 57 b

-- an ASCII letter or `_`
abbrev pub begins_word : ℕ → Bool
begins_word b = between 97 122 b || between 65 90 b || nat_eq b 95

-- space, tab, line feed, carriage return
abbrev pub is_space : ℕ → Bool
is_space b = nat_eq b 32 || nat_eq b 9 || nat_eq b 10 || nat_eq b 13

-- which bytes a group has; a comment goes on up to a line feed
abbrev pub is_in : Group → ℕ → Bool
is_in group.Word b = begins_word b || is_digit b
is_in group.Digit b = is_digit b
is_in group.Zero b = nat_eq b 48
is_in group.Space b = is_space b
is_in group.Comment b = not (nat_eq b 10)

-- how many bytes at the front are of the group
abbrev pub run : Group → List ℕ → ℕ
run g [] = 0
run g (b ∷ bs) = if is_in g b then run g bs + 1 else 0

abbrev pub is_one_of : List ℕ → ℕ → Bool
is_one_of [] b = false
is_one_of (c ∷ cs) b = nat_eq b c || is_one_of cs b

-- two bytes that are one symbol: <> <= >= != ||
abbrev pub is_pair : ℕ → ℕ → Bool
is_pair a b =
    (is_one_of (codes "<") a && is_one_of (codes ">=") b) || (is_one_of (codes ">!") a && is_one_of (codes "=") b)
    || (is_one_of (codes "|") a && is_one_of (codes "|") b)

-- how long the symbol is that begins with these two bytes, or 0
abbrev pub symbol_length : ℕ → ℕ → ℕ
symbol_length a b = if is_pair a b then 2 else (if is_one_of (codes "(),;.*+-/%=<>") a then 1 else 0)

-- so many bytes more than an end that there is
abbrev pub further : ℕ → Option ℕ → Option ℕ
further n None = None
further n (Some m) = Some (n + m)

-- How many bytes a quoted text has behind its first quote, up to its last one, with that: the first quote that isn't doubled. None
-- where there is none.
abbrev pub quoted : ℕ → List ℕ → Option ℕ
quoted q [] = None
quoted q (b ∷ []) = if nat_eq b q then Some 1 else None
quoted q (b ∷ c ∷ bs) =
    if nat_eq b q then (if nat_eq c q then further 2 (quoted q bs) else Some 1)
    else further 1 (quoted q (c ∷ bs))
