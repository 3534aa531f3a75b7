-- Meaning: a test at every node of a plan, and the plan's tree without exchanges and sorts.
use Rattle.std.specs.Prelude.{Bool, true, ◌&&◌, List, [], ◌∷◌}
use Rattle.physical_plan.specs.declared.plan.Plan.{Plan}
use Rattle.physical_plan.specs.declared.plan.Plan.TheOpen.{Plan-F}
use Rattle.physical_plan.specs.declared.plan.Plan.TheFolds.{fold-Plan, para-Plan, map-Plan}
use Rattle.physical_plan.specs.Rebuilt.{rebuilt}

abbrev pub kids : {A : Type 0} → Plan-F A → List A
kids (Plan-F.Scan table kinds files partitions) = []
kids (Plan-F.Filter input test) = input ∷ []
kids (Plan-F.Project input items) = input ∷ []
kids (Plan-F.PartialGroup input keys calls) = input ∷ []
kids (Plan-F.FinalGroup input keys calls) = input ∷ []
kids (Plan-F.HashJoin kind left right keys rest) = left ∷ right ∷ []
kids (Plan-F.Sort input keys) = input ∷ []
kids (Plan-F.Merge input keys) = input ∷ []
kids (Plan-F.Coalesce input) = input ∷ []
kids (Plan-F.Repartition input to) = input ∷ []
kids (Plan-F.UnionAll inputs) = inputs
kids (Plan-F.Limit input skip fetch) = input ∷ []

abbrev pub all_true : List Bool → Bool
all_true [] = true
all_true (b ∷ bs) = b && all_true bs

abbrev pub Test : Type 0
Test = Plan-F Plan → Bool

abbrev pub node_holds : Test → Plan-F (Plan × Bool) → Bool
node_holds test z = test (map-Plan (Plan × Bool) Plan (λ p. p.0) z) && all_true (kids (map-Plan (Plan × Bool) Bool (λ p. p.1) z))

-- the test holds at every node, which sees its inputs' plans
unfoldable pub everywhere : Test → Plan → Bool
everywhere test = para-Plan Bool (node_holds test)

-- ---- the tree without exchanges and sorts

abbrev pub bare_node : Plan-F Plan → Plan
bare_node (Plan-F.Sort input keys) = input
bare_node (Plan-F.Merge input keys) = input
bare_node (Plan-F.Coalesce input) = input
bare_node (Plan-F.Repartition input to) = input
bare_node z = rebuilt z

unfoldable pub erased : Plan → Plan
erased = fold-Plan Plan bare_node
