-- Meaning: the whole number nearest to a quotient.
use Rattle.std.specs.Prelude.{ℕ, ◌+◌, ◌-◌, ◌*◌, ◌<◌, ◌≤◌}

-- q * d is at most half of d above n, and less than half of d below it
abbrev pub IsNearest : ℕ → ℕ → ℕ → Type 0
IsNearest n d q = (2 * (d * q) ≤ 2 * n + d) × (2 * n < 2 * (d * q) + d)

abbrev pub distance : ℕ → ℕ → ℕ
distance m n = (m - n) + (n - m)
