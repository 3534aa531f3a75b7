-- Words: a byte order mark at the start of a text, U+FEFF in UTF-8 (RFC 3629).
use Rattle.std.specs.Prelude.{ℕ, List, [], ◌∷◌, nat_eq, if◌then◌else◌}
use Rattle.std.specs.List.{starts_with}

abbrev pub mark : List ℕ → ℕ
mark xs = if starts_with nat_eq xs (0xEF ∷ 0xBB ∷ 0xBF ∷ []) then 3 else 0
