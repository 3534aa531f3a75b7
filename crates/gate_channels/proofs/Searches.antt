-- One more channel in a search.
use Rattle.std.proofs.Common.{ℕ, zero, suc, ◌+◌, ◌<◌, ◌≡◌, refl, List, [], ◌∷◌, ◌&&◌, ◌||◌, drop, get_or, length, add-one, arith}
use Rattle.gate_channels.specs.Gate.{Channel, some_live, some_free, is_empty}

pub live_step : {B : Type 0} (xs : List (Channel B)) (i : ℕ) (d : Channel B) → i < length xs → some_live (drop i xs) ≡ (get_or xs i d).live || some_live (drop (i + 1) xs)
live_step {B} xs i d h = rw add-one (at xs i h)
  where
    at : (xs : List (Channel B)) (i : ℕ) → i < length xs → some_live (drop i xs) ≡ (get_or xs i d).live || some_live (drop (suc i) xs)
    at [] i h = absurd (omega arith)
    at (x ∷ xs) zero h = refl
    at (x ∷ xs) (suc i) h = at xs i (omega arith)

pub free_step : {B : Type 0} (xs : List (Channel B)) (i : ℕ) (d : Channel B) → i < length xs → some_free (drop i xs) ≡ ((get_or xs i d).live && is_empty (get_or xs i d).batches) || some_free (drop (i + 1) xs)
free_step {B} xs i d h = rw add-one (at xs i h)
  where
    at : (xs : List (Channel B)) (i : ℕ) → i < length xs → some_free (drop i xs) ≡ ((get_or xs i d).live && is_empty (get_or xs i d).batches) || some_free (drop (suc i) xs)
    at [] i h = absurd (omega arith)
    at (x ∷ xs) zero h = refl
    at (x ∷ xs) (suc i) h = at xs i (omega arith)
