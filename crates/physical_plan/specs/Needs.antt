-- Meaning: what nodes need of what their inputs declare: how rows are spread, and in which order they stand.
use Rattle.std.specs.Prelude.{ℕ, true, ◌&&◌, List, [], ◌∷◌}
use Rattle.plan_props.specs.declared.properties.Distribution.{Distribution}
use Rattle.plan_props.specs.declared.properties.Distribution.TheVariants as need
use Rattle.plan_props.specs.Satisfies.{satisfies_distribution, satisfies_order}
use Rattle.physical_plan.specs.declared.plan.Plan.TheOpen.{Plan-F}
use Rattle.physical_plan.specs.Properties.{props, left_keys, right_keys}
use Rattle.physical_plan.specs.Everywhere.{Test}

abbrev pub group_need : List ℕ → ℕ → Distribution
group_need [] n = need.Single
group_need (k ∷ ks) n = need.Hash (k ∷ ks) n

abbrev pub spread_needs : ℕ → Test
spread_needs n (Plan-F.FinalGroup input keys calls) = satisfies_distribution (props input) (group_need keys n)
spread_needs n (Plan-F.HashJoin kind left right keys rest) =
    satisfies_distribution (props left) (need.JoinHash (left_keys keys) n)
    && satisfies_distribution (props right) (need.JoinHash (right_keys keys) n)
spread_needs n (Plan-F.Limit input skip fetch) = satisfies_distribution (props input) need.Single
spread_needs n _ = true

abbrev pub order_needs : Test
order_needs (Plan-F.Merge input keys) = satisfies_order (props input) keys
order_needs _ = true
