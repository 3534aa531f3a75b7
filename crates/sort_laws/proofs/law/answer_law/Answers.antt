use Rattle.std.proofs.Common.{inl, refl}
use Rattle.logical_plan.specs.Body.{body}
use Rattle.sort_laws.proofs.Rows.{unordered, sorted_from_order, order_from_sorted}
use Rattle.sort_laws.proofs.Answers.{clean, limit_taken, all_given, resorted}
use Rattle.sort_laws.proofs.law.answer_law.Goals as goal

pub returns-clause-clean : goal.returns-clause-clean
returns-clause-clean c = clean

pub returns-clause-limit : goal.returns-clause-limit
returns-clause-limit c = λ order skip fetch t. limit_taken order skip fetch (t.taken 0) (t.ended 0)

pub returns-clause-all : goal.returns-clause-all
returns-clause-all c = all_given

pub returns-clause-resorted : goal.returns-clause-resorted
returns-clause-resorted c = resorted

pub returns-clause-none : goal.returns-clause-none
returns-clause-none c = λ order offset items. inl (refl, refl)

pub returns-clause-query : goal.returns-clause-query
returns-clause-query c = λ q tables out. clean q.order q.offset q.limit out (body tables q.body)

pub returns-clause-unordered : goal.returns-clause-unordered
returns-clause-unordered c = unordered

pub returns-clause-in_order : goal.returns-clause-in_order
returns-clause-in_order c = sorted_from_order

pub returns-clause-sorted : goal.returns-clause-sorted
returns-clause-sorted c = order_from_sorted
