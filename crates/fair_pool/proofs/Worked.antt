-- The worked examples of the README, computed from the definitions.
use Rattle.std.proofs.Common.{ℕ, ◌≡◌, refl, List, [], ◌∷◌, true, false}
use Rattle.fair_pool.specs.Share.{Pool, share_of, grants}

-- a limit of 1000, and three consumers, of which the first cannot spill
holding : List ℕ → Pool
holding held = record { limit = 1000; spillable = false ∷ true ∷ true ∷ []; held = held }

a_fair_part_of_what_is_left : share_of (holding (200 ∷ 300 ∷ 0 ∷ [])) 1 ≡ 400
unfolding holding share_of
a_fair_part_of_what_is_left = refl

more_than_the_fair_part : grants (holding (200 ∷ 300 ∷ 0 ∷ [])) 1 101 ≡ false
unfolding holding share_of grants
more_than_the_fair_part = refl

all_of_the_fair_part : grants (holding (200 ∷ 300 ∷ 0 ∷ [])) 1 100 ≡ true
unfolding holding share_of grants
all_of_the_fair_part = refl

who_cannot_spill_takes_what_is_left : grants (holding (200 ∷ 400 ∷ 0 ∷ [])) 0 300 ≡ true
unfolding holding share_of grants
who_cannot_spill_takes_what_is_left = refl

the_sum_leaves_less_than_a_fair_part : share_of (holding (500 ∷ 400 ∷ 0 ∷ [])) 2 ≡ 100
unfolding holding share_of
the_sum_leaves_less_than_a_fair_part = refl

more_than_is_left : grants (holding (500 ∷ 400 ∷ 0 ∷ [])) 2 101 ≡ false
unfolding holding share_of grants
more_than_is_left = refl

all_that_is_left : grants (holding (500 ∷ 400 ∷ 0 ∷ [])) 2 100 ≡ true
unfolding holding share_of grants
all_that_is_left = refl
