use Rattle.plan_task_laws.proofs.Laws.{part_of}
use Rattle.plan_task_laws.proofs.Sources.{all_read, by_number, by_place}
use Rattle.plan_task_laws.proofs.law.sources_law.Goals as goal

pub returns : goal.returns
returns c = record { numbered = by_number; named = by_place; once = all_read; leaves = λ f are p a i. (part_of f are p a.stage a.source i).opens a.consumer }
