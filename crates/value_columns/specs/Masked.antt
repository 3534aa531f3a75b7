-- Meaning: items of which some are NULL.
use Rattle.std.specs.Prelude.{ℕ, ◌+◌, Bool, true, false, List, [], ◌∷◌, map, Option, Some, None, slice_index_or}

-- the item, or none
abbrev pub unless : {A : Type 0} → Bool → A → Option A
unless true x = None
unless false x = Some x

-- each item where its bit is false or there is none, since a mask may be shorter than its items
abbrev pub masked : {A : Type 0} → List A → List Bool → List (Option A)
masked [] bits = []
masked (x ∷ xs) [] = Some x ∷ masked xs []
masked (x ∷ xs) (b ∷ bs) = unless b x ∷ masked xs bs

-- those at the places, counted from a start
abbrev pub picked : {A : Type 0} → List (Option A) → ℕ → List ℕ → List (Option A)
picked xs from places = map (λ p. slice_index_or xs (from + p) None) places
