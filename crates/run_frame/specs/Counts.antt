-- Words: the numbers of senders of each channel.
use Rattle.std.specs.Prelude.{ℕ, ◌+◌, ◌<◌, ◌≡◌, ◌==◌, if◌then◌else◌, Option, Some, None, List, [], map, replicate, length, slice_index_or}
use Rattle.task_shape.specs.Numbers.{count}
use Rattle.task_shape.specs.Shape.{Shape, width, sends_at, count_below}

-- for each channel of each group, how many of the first n tasks may send there
pub record CountsSenders (p : Shape) (n : ℕ) (senders : List (List ℕ)) : Type 0 where
  pub groups : length senders ≡ length p.widths
  pub channels : (g : ℕ) → length (slice_index_or senders g []) ≡ width p g
  pub each : (g c : ℕ) → c < width p g → slice_index_or (slice_index_or senders g []) c 0 ≡ count_below n (λ u. sends_at p u g c)

-- no senders yet
abbrev pub zeros_for : List ℕ → List (List ℕ)
zeros_for ws = map (λ w. replicate w 0) ws

-- each of these targets, channels of group g, has one sender more
pub record CountsAt (g : ℕ) (targets : List ℕ) (old new : List (List ℕ)) : Type 0 where
  pub groups : length new ≡ length old
  pub channels : (h : ℕ) → length (slice_index_or new h []) ≡ length (slice_index_or old h [])
  pub each : (h c : ℕ) → c < length (slice_index_or old h []) → slice_index_or (slice_index_or new h []) c 0 ≡ slice_index_or (slice_index_or old h []) c 0 + (if g == h then count c targets else 0)

abbrev pub CountsTask : Option ℕ → List ℕ → List (List ℕ) → List (List ℕ) → Type 0
CountsTask None targets old new = new ≡ old
CountsTask (Some g) targets old new = CountsAt g targets old new
