-- Words: digits as they are read, below 10^38.
use Rattle.std.specs.Prelude.{ℕ, ◌^◌, nat_lt, Bool, ◌&&◌, ◌==◌, Option, Some, None, List, if◌then◌else◌}
use Rattle.std.specs.List.{list_all}
use Rattle.std.specs.Str.{all_ascii_digits}
use Rattle.dfx_value.specs.Parse.{value_after}

-- the number that digits write after those of n, where all are digits, and it is below 10^38
unfoldable pub digits : ℕ → List ℕ → Option ℕ
digits n bs = if all_ascii_digits bs && nat_lt (value_after n bs) (10 ^ 38) then Some (value_after n bs) else None

abbrev pub all_zeros : List ℕ → Bool
all_zeros = list_all (λ b. b == 48)
