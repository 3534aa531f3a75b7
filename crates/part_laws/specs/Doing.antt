-- Meaning: what the nodes of plans do, over the tables' meaning of their inputs.
use Rattle.std.specs.Prelude.{ℕ, Option, Some, None, List, [], ◌∷◌, false, length, slice_index_or, Bool}
use Rattle.physical_plan.specs.declared.plan.Plan.{Plan}
use Rattle.physical_plan.specs.declared.plan.Plan.TheOpen.{Plan-F}
use Rattle.logical_plan.specs.Items.{Cells, Item, filtered, projected}
use Rattle.logical_plan.specs.Body.{Tables}
use Rattle.plan_task_laws.specs.Trees.{Doing}
use Rattle.plan_task_laws.specs.Operators.{NodeItems, operator_of}
use Rattle.sort_laws.specs.Sorting.{item_before, sort_items}
use Rattle.join_laws.specs.Joining.{probe, last}
use Rattle.answer_laws.specs.Meant.{Grouping, grouping, meaning_of, files_of}
use Rattle.part_laws.specs.Phased.{the_phases}
use Rattle.part_laws.specs.Made.{Amount}

-- of one item
abbrev pub each_of : Plan-F Plan → Item → List Item
each_of (Plan-F.Filter q test) = filtered test
each_of (Plan-F.Project q items) = λ x. projected items x ∷ []
each_of _ = λ x. x ∷ []

-- of a segment
abbrev pub segment_of : Tables → Plan-F Plan → List Item → List Item
segment_of tables (Plan-F.PartialGroup q keys calls) = the_phases.first (grouping keys calls (meaning_of tables q))
segment_of tables _ = λ xs. xs

abbrev pub second_of : Option Grouping → List Item → List Item
second_of None = λ xs. []
second_of (Some g) = the_phases.second g

-- of a whole input
abbrev pub all_of : Tables → Plan-F Plan → List Item → List Item
all_of tables (Plan-F.FinalGroup q keys calls) = second_of (meaning_of tables q).groups
all_of tables (Plan-F.Sort q keys) = sort_items keys
all_of tables _ = λ xs. xs

-- of a right item over the left ones, and at the end
abbrev pub probe_of : Tables → Plan-F Plan → List Item → Item → List Item
probe_of tables (Plan-F.HashJoin kind p q keys rest) = probe kind (length (meaning_of tables p).kinds) keys rest
probe_of tables _ = λ ls r. []

abbrev pub last_of : Tables → Plan-F Plan → List Item → List Item → List Item
last_of tables (Plan-F.HashJoin kind p q keys rest) = last kind (length (meaning_of tables q).kinds) keys rest
last_of tables _ = λ ls rs. []

abbrev pub before_of : Plan-F Plan → Item → Item → Bool
before_of (Plan-F.Merge q keys) = item_before keys
before_of _ = λ x y. false

abbrev pub node_items : Tables → (Plan-F Plan → Amount) → NodeItems
node_items tables amount = record {
  each = each_of;
  segment = segment_of tables;
  all = all_of tables;
  probe = probe_of tables;
  last = last_of tables;
  before = before_of;
  amount = amount;
}

abbrev pub the_doing : Tables → (Plan-F Plan → Amount) → (List ℕ → ℕ → Cells → ℕ) → Doing
the_doing tables amount channel =
    record {
      operator = operator_of (node_items tables amount);
      channel = channel;
      items = λ table file. slice_index_or (files_of tables table) file [];
    }
