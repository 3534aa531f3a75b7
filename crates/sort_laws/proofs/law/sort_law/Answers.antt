use Rattle.sort_laws.specs.Sorting.{row_before}
use Rattle.sort_laws.proofs.Sorts.{sorted_more, sorted_part}
use Rattle.sort_laws.proofs.Rows.{row_order}
use Rattle.sort_laws.proofs.Runs.{one_sort, sort_order, sort_stable, cut_sorts, split_sorts, front_least, runs_left, no_front, runs_merged, arranged}
use Rattle.sort_laws.proofs.MergeRows.{sort_moves, sort_gives}
use Rattle.sort_laws.proofs.law.sort_law.Goals as goal

pub returns-clause-one : goal.returns-clause-one
returns-clause-one c = one_sort

pub returns-clause-order : goal.returns-clause-order
returns-clause-order c = sort_order

pub returns-clause-stable : goal.returns-clause-stable
returns-clause-stable c = sort_stable

pub returns-clause-moves : goal.returns-clause-moves
returns-clause-moves c = λ keys. sort_moves (row_before keys)

pub returns-clause-cut : goal.returns-clause-cut
returns-clause-cut c = cut_sorts

pub returns-clause-front : goal.returns-clause-front
returns-clause-front c = front_least

pub returns-clause-left : goal.returns-clause-left
returns-clause-left c = runs_left

pub returns-clause-over : goal.returns-clause-over
returns-clause-over c = no_front

pub returns-clause-merged : goal.returns-clause-merged
returns-clause-merged c = runs_merged

pub returns-clause-items : goal.returns-clause-items
returns-clause-items c = sort_gives

pub returns-clause-split : goal.returns-clause-split
returns-clause-split c = split_sorts

pub returns-clause-arranged : goal.returns-clause-arranged
returns-clause-arranged c = arranged

pub returns-clause-more : goal.returns-clause-more
returns-clause-more c = λ keys. sorted_more (row_before keys) (row_order keys)

pub returns-clause-part : goal.returns-clause-part
returns-clause-part c = λ keys. sorted_part (row_before keys) (row_order keys)
