-- Words: a window of a source's bytes.
use Rattle.std.specs.Prelude.{◌≡◌, ◌≤◌, ◌<◌, ℕ, List, length, take}

-- what a clause sees of a window: the bytes that are kept, those that were read and not taken, and the place in the
-- source behind them
pub record Bytes : Type 0 where
  pub kept : List ℕ
  pub ahead : List ℕ
  pub at : ℕ

-- the places of a window stand in order in its block
pub record Ordered (base write next to size : ℕ) : Type 0 where
  pub kept : base ≤ write
  pub gap : write ≤ next
  pub ahead : next ≤ to
  pub within : to ≤ size
  pub some : 0 < size

-- the second list begins with the first
pub record Begins (front whole : List ℕ) : Type 0 where
  pub is : take (length front) whole ≡ front
