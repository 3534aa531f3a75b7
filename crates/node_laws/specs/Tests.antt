-- Meaning: a test of a plan's nodes: whether the columns that their needs speak of are in range.
use Rattle.std.specs.Prelude.{ℕ, ◌==◌, Bool, true, ◌&&◌, nat_lt, List, [], ◌∷◌, map}
use Rattle.physical_plan.specs.declared.plan.Plan.{Plan}
use Rattle.physical_plan.specs.declared.plan.Plan.TheOpen.{Plan-F}
use Rattle.physical_plan.specs.Facts.{fact_of}
use Rattle.physical_plan.specs.Properties.{declared_of, first_width, left_keys, right_keys}
use Rattle.physical_plan.specs.Everywhere.{Test}

-- how many columns the rows of a plan have
abbrev pub width : Plan → ℕ
width p = (declared_of p).width

-- each is below a number
abbrev pub are_below : ℕ → List ℕ → Bool
are_below w [] = true
are_below w (c ∷ cs) = nat_lt c w && are_below w cs

abbrev pub pairs_below : ℕ → List (ℕ × ℕ) → Bool
pairs_below w [] = true
pairs_below w (p ∷ ps) = nat_lt p.0 w && (nat_lt p.1 w && pairs_below w ps)

abbrev pub have_width : ℕ → List Plan → Bool
have_width w [] = true
have_width w (p ∷ ps) = (width p == w) && have_width w ps

-- those of a filter's facts and of join keys, and the inputs of a union have one width
abbrev pub needs_in_range : Test
needs_in_range (Plan-F.Filter input test) = pairs_below (width input) (fact_of test).same && are_below (width input) (fact_of test).constants
needs_in_range (Plan-F.HashJoin kind left right keys rest) = are_below (width left) (left_keys keys) && are_below (width right) (right_keys keys)
needs_in_range (Plan-F.UnionAll inputs) = have_width (first_width (map declared_of inputs)) inputs
needs_in_range _ = true
