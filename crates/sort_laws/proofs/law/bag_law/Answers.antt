use Rattle.content_laws.proofs.Items.{items_permuted, rows_permuted, alike_from}
use Rattle.sort_laws.proofs.Bags.{with_faults, arranged_as}
use Rattle.logical_plan.specs.Items.{faults}
use Rattle.sort_laws.proofs.law.bag_law.Goals as goal

pub returns-clause-items : goal.returns-clause-items
returns-clause-items c = items_permuted

pub returns-clause-rows : goal.returns-clause-rows
returns-clause-rows c = rows_permuted

pub returns-clause-arranged : goal.returns-clause-arranged
returns-clause-arranged c = λ xs ys h. (with_faults xs (faults ys), arranged_as xs ys h)

pub returns-clause-alike : goal.returns-clause-alike
returns-clause-alike c = alike_from
