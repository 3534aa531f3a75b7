-- Words: texts that stand in one buffer, one after another.
use Rattle.std.specs.Prelude.{ℕ, zero, suc, ◌+◌, ◌-◌, ◌≤◌, ◌≡◌, List, [], ◌∷◌, map, slice_range, slice_index_or, length, All, IsUtf8}

-- the parts of a buffer that end at these places, the first from a start
abbrev pub pieces : List ℕ → ℕ → List ℕ → List (List ℕ)
pieces buffer from [] = []
pieces buffer from (e ∷ es) = slice_range buffer from e ∷ pieces buffer e es

-- the ends don't fall, and the last is that of the buffer
abbrev pub Chained : ℕ → List ℕ → ℕ → Type 0
Chained from [] total = from ≡ total
Chained from (e ∷ es) total = (from ≤ e) × Chained e es total

-- where a part begins, or the last one ends
abbrev pub start : ℕ → List ℕ → ℕ → ℕ
start from es zero = from
start from es (suc i) = slice_index_or es i 0

-- ends of parts that are moved from a start to a base
abbrev pub moved : ℕ → ℕ → List ℕ → List ℕ
moved from base es = map (λ e. base + (e - from)) es

-- a buffer of texts with their ends
pub record Holds (buffer ends : List ℕ) : Type 0 where
  pub chained : Chained 0 ends (length buffer)
  pub texts : All IsUtf8 (pieces buffer 0 ends)
