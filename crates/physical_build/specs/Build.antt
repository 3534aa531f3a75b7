-- Meaning: the plain physical plan of a query.
use Rattle.std.specs.Prelude.{ℕ, ◌+◌, min, max, List, [], ◌∷◌, length, map, slice_index_or, Option, Some, None, ◌||◌, nat_lt, is_some, if◌then◌else◌}
use Rattle.logical_plan.specs.declared.plan.Logical.{Logical}
use Rattle.logical_plan.specs.declared.plan.Logical.TheOpen.{Logical-F}
use Rattle.logical_plan.specs.declared.plan.Logical.TheFolds.{fold-Logical}
use Rattle.logical_plan.specs.declared.query.Query.{Query}
use Rattle.dfx_value.specs.declared.op.AggCall.{AggCall}
use Rattle.physical_plan.specs.declared.plan.Plan.{Plan}
use Rattle.physical_plan.specs.declared.plan.Plan.TheVariants as plan
use Rattle.physical_plan.specs.Numbers.{numbers}
use Rattle.dfx_value.specs.declared.rows.SortKey.{SortKey}

-- a plan and how many columns it has
pub record Built : Type 0 where
  pub plan : Plan
  pub width : ℕ

abbrev pub built : Plan → ℕ → Built
built p w = record { plan = p; width = w }

abbrev pub first_width : List Built → ℕ
first_width [] = 0
first_width (b ∷ bs) = b.width

-- both phases of a grouping
abbrev pub two_phases : Plan → List ℕ → List AggCall → Plan
two_phases p keys calls = plan.FinalGroup (plan.PartialGroup p keys calls) (numbers (length keys)) calls

abbrev pub node : List ℕ → ℕ → Logical-F Built → Built
node files n (Logical-F.Scan table kinds) = built (plan.Scan table kinds (slice_index_or files table 0) (min (max (slice_index_or files table 0) 1) n)) (length kinds)
node files n (Logical-F.Filter input test) = built (plan.Filter input.plan test) input.width
node files n (Logical-F.Project input items) = built (plan.Project input.plan items) (length items)
node files n (Logical-F.Join kind left right keys rest) = built (plan.HashJoin kind left.plan right.plan keys rest) (left.width + right.width)
node files n (Logical-F.Aggregate input keys calls) = built (two_phases input.plan keys calls) (length keys + length calls)
node files n (Logical-F.Distinct input) = built (two_phases input.plan (numbers input.width) []) input.width
node files n (Logical-F.UnionAll inputs) = built (plan.UnionAll (map (λ (b : Built). b.plan) inputs)) (first_width inputs)

unfoldable pub built_of : List ℕ → ℕ → Logical → Built
built_of files n = fold-Logical Built (node files n)

-- the plan of a body, with the numbers of files of the tables, for n partitions
abbrev pub body_plan : List ℕ → ℕ → Logical → Plan
body_plan files n body = (built_of files n body).plan

-- ---- the top of a query's plan

-- a sort, where there are keys
abbrev pub sorted_by : List SortKey → Plan → Plan
sorted_by [] p = p
sorted_by (k ∷ ks) p = plan.Sort p (k ∷ ks)

-- a limit, where there is one or something is skipped
abbrev pub limited : ℕ → Option ℕ → Plan → Plan
limited skip fetch p = if is_some fetch || nat_lt 0 skip then plan.Limit p skip fetch else p

abbrev pub build : Query → List ℕ → ℕ → Plan
build q files n = limited q.offset q.limit (sorted_by q.order (body_plan files n q.body))

-- ---- lists of bodies

abbrev pub bodies : List ℕ → ℕ → List Logical → List Built
bodies files n ls = map (built_of files n) ls

abbrev pub plans : List ℕ → ℕ → List Logical → List Plan
plans files n ls = map (λ (b : Built). b.plan) (bodies files n ls)

-- the width of the first, which may be known already
abbrev pub first_or : Option ℕ → ℕ → Option ℕ
first_or None w = Some w
first_or (Some k) w = Some k

abbrev pub first_of : Option ℕ → List Built → ℕ
first_of (Some k) bs = k
first_of None bs = first_width bs

abbrev pub plus : ℕ → ℕ → ℕ
plus a b = a + b
