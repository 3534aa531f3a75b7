use Rattle.std.proofs.Common.{◌∙◌}
use Rattle.content_laws.specs.Bags.{together}
use Rattle.sort_laws.specs.Sorting.{item_before}
use Rattle.logical_plan.specs.Items.{rows}
use Rattle.sort_laws.proofs.Sorts.{ascends_from}
use Rattle.sort_laws.proofs.Rows.{ascends}
use Rattle.sort_laws.proofs.Merges.{item_order, merge_bag, merge_sorts}
use Rattle.sort_laws.proofs.MergeRows.{merge_rows, merge_merges, sort_is}
use Rattle.sort_laws.proofs.Growing.{goes_on}
use Rattle.sort_laws.proofs.law.merge_law.Goals as goal

pub returns-clause-bag : goal.returns-clause-bag
returns-clause-bag c = λ keys. merge_bag (item_before keys) (item_order keys)

pub returns-clause-rows : goal.returns-clause-rows
returns-clause-rows c = λ keys n inputs s. merge_rows keys n inputs (λ i h. ascends keys (rows (inputs i)) (s i h))

pub returns-clause-merges : goal.returns-clause-merges
returns-clause-merges c = merge_merges

pub returns-clause-items : goal.returns-clause-items
returns-clause-items c = λ keys n inputs s.
    merge_sorts (item_before keys) (item_order keys) n inputs (λ i h. ascends_from (item_before keys) (item_order keys) (inputs i) (s i h)) ∙ sort_is keys (together n inputs)

pub returns-clause-goes_on : goal.returns-clause-goes_on
returns-clause-goes_on c = goes_on
