-- Worked examples of needs and of what satisfies them, by computing.
use Rattle.std.specs.Prelude.{ℕ, Bool, true, false, List, [], ◌∷◌}
use Rattle.std.proofs.Common.{◌≡◌, refl}
use Rattle.dfx_value.specs.declared.rows.SortKey.{SortKey}
use Rattle.plan_props.specs.declared.properties.Partitioning.{Partitioning}
use Rattle.plan_props.specs.declared.properties.Partitioning.TheVariants.{Single as One, RoundRobin, Hash as Hashed, Unknown}
use Rattle.plan_props.specs.declared.properties.Distribution.TheVariants as need
use Rattle.plan_props.specs.declared.properties.Props.{Props}
use Rattle.plan_props.specs.Same.{leader}
use Rattle.plan_props.specs.Satisfies.{partition_count, satisfies_distribution, satisfies_order}

-- ---- how rows are split: whether that satisfies a grouping's need of the keys in n partitions, and a join's

abbrev split : Partitioning → List (ℕ × ℕ) → Props
split partitioning same = record { partitioning = partitioning; ordering = []; same = same; constants = [] }

abbrev group : Partitioning → List (ℕ × ℕ) → List ℕ → ℕ → Bool
group p same keys n = satisfies_distribution (split p same) (need.Hash keys n)

abbrev join : Partitioning → List (ℕ × ℕ) → List ℕ → ℕ → Bool
join p same keys n = satisfies_distribution (split p same) (need.JoinHash keys n)

group-by_its_key : group (Hashed (2 ∷ []) 4) [] (2 ∷ []) 4 ≡ true
unfolding satisfies_distribution leader
group-by_its_key = refl

join-by_its_key : join (Hashed (2 ∷ []) 4) [] (2 ∷ []) 4 ≡ true
unfolding satisfies_distribution leader
join-by_its_key = refl

group-by_its_key_in_other_partitions : group (Hashed (2 ∷ []) 4) [] (2 ∷ []) 3 ≡ false
unfolding satisfies_distribution leader
group-by_its_key_in_other_partitions = refl

join-by_its_key_in_other_partitions : join (Hashed (2 ∷ []) 4) [] (2 ∷ []) 3 ≡ false
unfolding satisfies_distribution leader
join-by_its_key_in_other_partitions = refl

group-by_another_column : group (Hashed (2 ∷ []) 4) [] (1 ∷ []) 4 ≡ false
unfolding satisfies_distribution leader
group-by_another_column = refl

join-by_another_column : join (Hashed (2 ∷ []) 4) [] (1 ∷ []) 4 ≡ false
unfolding satisfies_distribution leader
join-by_another_column = refl

group-by_the_same_column : group (Hashed (2 ∷ []) 4) ((2, 1) ∷ []) (1 ∷ []) 4 ≡ true
unfolding satisfies_distribution leader
group-by_the_same_column = refl

join-by_the_same_column : join (Hashed (2 ∷ []) 4) ((2, 1) ∷ []) (1 ∷ []) 4 ≡ true
unfolding satisfies_distribution leader
join-by_the_same_column = refl

group-along_a_chain : group (Hashed (0 ∷ []) 4) ((1, 0) ∷ (2, 1) ∷ []) (2 ∷ []) 4 ≡ true
unfolding satisfies_distribution leader
group-along_a_chain = refl

join-along_a_chain : join (Hashed (0 ∷ []) 4) ((1, 0) ∷ (2, 1) ∷ []) (2 ∷ []) 4 ≡ true
unfolding satisfies_distribution leader
join-along_a_chain = refl

group-by_one_key_of_two : group (Hashed (0 ∷ []) 4) [] (0 ∷ 1 ∷ []) 4 ≡ true
unfolding satisfies_distribution leader
group-by_one_key_of_two = refl

join-by_one_key_of_two : join (Hashed (0 ∷ []) 4) [] (0 ∷ 1 ∷ []) 4 ≡ false
unfolding satisfies_distribution leader
join-by_one_key_of_two = refl

group-by_keys_in_another_order : group (Hashed (1 ∷ 0 ∷ []) 4) [] (0 ∷ 1 ∷ []) 4 ≡ true
unfolding satisfies_distribution leader
group-by_keys_in_another_order = refl

join-by_keys_in_another_order : join (Hashed (1 ∷ 0 ∷ []) 4) [] (0 ∷ 1 ∷ []) 4 ≡ false
unfolding satisfies_distribution leader
join-by_keys_in_another_order = refl

group-by_more_than_the_key : group (Hashed (0 ∷ 1 ∷ []) 4) [] (0 ∷ []) 4 ≡ false
unfolding satisfies_distribution leader
group-by_more_than_the_key = refl

join-by_more_than_the_key : join (Hashed (0 ∷ 1 ∷ []) 4) [] (0 ∷ []) 4 ≡ false
unfolding satisfies_distribution leader
join-by_more_than_the_key = refl

group-in_turn : group (RoundRobin 4) [] (0 ∷ []) 4 ≡ false
unfolding satisfies_distribution leader
group-in_turn = refl

join-in_turn : join (RoundRobin 4) [] (0 ∷ []) 4 ≡ false
unfolding satisfies_distribution leader
join-in_turn = refl

group-unknown : group (Unknown 4) [] (0 ∷ []) 4 ≡ false
unfolding satisfies_distribution leader
group-unknown = refl

join-unknown : join (Unknown 4) [] (0 ∷ []) 4 ≡ false
unfolding satisfies_distribution leader
join-unknown = refl

group-alone : group One [] (0 ∷ []) 1 ≡ true
unfolding satisfies_distribution leader
group-alone = refl

join-alone : join One [] (0 ∷ []) 1 ≡ true
unfolding satisfies_distribution leader
join-alone = refl

group-alone_where_four_are_needed : group One [] (0 ∷ []) 4 ≡ false
unfolding satisfies_distribution leader
group-alone_where_four_are_needed = refl

join-alone_where_four_are_needed : join One [] (0 ∷ []) 4 ≡ false
unfolding satisfies_distribution leader
join-alone_where_four_are_needed = refl

-- ---- one partition is single, whatever is declared

abbrev counted : Partitioning → ℕ × (Bool × Bool)
counted p = (partition_count p, (satisfies_distribution (split p []) need.Single, satisfies_distribution (split p []) need.Unspecified))

counted-alone-1 : counted One ≡ (1, (true, true))
unfolding satisfies_distribution leader
counted-alone-1 = refl

counted-unknown-1 : counted (Unknown 1) ≡ (1, (true, true))
unfolding satisfies_distribution leader
counted-unknown-1 = refl

counted-in_turn-1 : counted (RoundRobin 1) ≡ (1, (true, true))
unfolding satisfies_distribution leader
counted-in_turn-1 = refl

counted-hashed-1 : counted (Hashed (0 ∷ []) 1) ≡ (1, (true, true))
unfolding satisfies_distribution leader
counted-hashed-1 = refl

counted-unknown-2 : counted (Unknown 2) ≡ (2, (false, true))
unfolding satisfies_distribution leader
counted-unknown-2 = refl

counted-hashed-3 : counted (Hashed (0 ∷ []) 3) ≡ (3, (false, true))
unfolding satisfies_distribution leader
counted-hashed-3 = refl

-- ---- orders: whether rows in an order, with same columns and constants, are in that of the keys

abbrev up : ℕ → SortKey
up c = record { column = c; descending = false; nulls_first = false }

abbrev down : ℕ → SortKey
down c = record { column = c; descending = true; nulls_first = false }

abbrev first : ℕ → SortKey
first c = record { column = c; descending = false; nulls_first = true }

abbrev met : List SortKey → List (ℕ × ℕ) → List ℕ → List SortKey → Bool
met ordering same constants keys = satisfies_order (record { partitioning = One; ordering = ordering; same = same; constants = constants }) keys

met-a_front : met (up 0 ∷ up 1 ∷ []) [] [] (up 0 ∷ []) ≡ true
unfolding satisfies_order leader
met-a_front = refl

met-what_comes_second : met (up 0 ∷ up 1 ∷ []) [] [] (up 1 ∷ []) ≡ false
unfolding satisfies_order leader
met-what_comes_second = refl

met-more_keys : met (up 0 ∷ []) [] [] (up 0 ∷ up 1 ∷ []) ≡ false
unfolding satisfies_order leader
met-more_keys = refl

met-the_other_way : met (up 0 ∷ []) [] [] (down 0 ∷ []) ≡ false
unfolding satisfies_order leader
met-the_other_way = refl

met-nulls_elsewhere : met (up 0 ∷ []) [] [] (first 0 ∷ []) ≡ false
unfolding satisfies_order leader
met-nulls_elsewhere = refl

met-the_same_column : met (up 0 ∷ []) ((0, 1) ∷ []) [] (up 1 ∷ []) ≡ true
unfolding satisfies_order leader
met-the_same_column = refl

-- A constant is struck from either list.
met-a_constant_declared : met (up 2 ∷ up 0 ∷ []) [] (2 ∷ []) (up 0 ∷ []) ≡ true
unfolding satisfies_order leader
met-a_constant_declared = refl

met-a_constant_key : met (up 0 ∷ []) [] (2 ∷ []) (down 2 ∷ up 0 ∷ []) ≡ true
unfolding satisfies_order leader
met-a_constant_key = refl

-- So is what repeats an earlier column, whichever way it goes.
met-a_repeated_key : met (up 0 ∷ []) [] [] (up 0 ∷ down 0 ∷ []) ≡ true
unfolding satisfies_order leader
met-a_repeated_key = refl

met-a_repeated_column : met (up 0 ∷ up 1 ∷ up 2 ∷ []) ((1, 0) ∷ []) [] (up 0 ∷ up 2 ∷ []) ≡ true
unfolding satisfies_order leader
met-a_repeated_column = refl

-- A column that is only the same as a constant isn't one; where the constant stands before it, it repeats that.
met-same_as_a_constant : met [] ((0, 1) ∷ []) (0 ∷ []) (up 1 ∷ []) ≡ false
unfolding satisfies_order leader
met-same_as_a_constant = refl

met-behind_its_constant : met [] ((0, 1) ∷ []) (0 ∷ []) (up 0 ∷ up 1 ∷ []) ≡ true
unfolding satisfies_order leader
met-behind_its_constant = refl

met-no_keys : met [] [] [] [] ≡ true
unfolding satisfies_order leader
met-no_keys = refl
