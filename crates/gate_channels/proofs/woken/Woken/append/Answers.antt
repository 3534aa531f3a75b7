use Rattle.std.proofs.Common.{◌++◌, sym, ap, ◌∙◌, subst}
use Rattle.std.proofs.lemmas.List.{append-nil, append_assoc}
use Rattle.task_shape.specs.Numbers.{AreApart}
use Rattle.gate_channels.proofs.Distinct.{push_apart}
use Rattle.gate_channels.proofs.woken.Woken.append.Goals as goal

pub loop-task-preserved : goal.loop-task-preserved
loop-task-preserved c = record {
  tasks = ap (λ ts. ts ++ c.pop.new.self.tasks) c.push.ensures.tasks ∙ (append_assoc c.loop-task.self.tasks _ _ ∙ (ap (λ ts. c.loop-task.self.tasks ++ ts) (sym c.in-Some.ensures.tasks) ∙ c.loop-task.invariant.tasks));
  apart = subst (AreApart c.pop.new.self.tasks) (sym c.push.ensures.tasks)
      (push_apart c.in-Some.task c.pop.new.self.tasks c.loop-task.self.tasks (subst (λ ts. AreApart ts c.loop-task.self.tasks) c.in-Some.ensures.tasks c.loop-task.invariant.apart) c.in-Some.ensures.some.1);
  rooms = (c.push.ensures.room ∙ c.loop-task.invariant.rooms.0, c.pop.ensures.room ∙ c.loop-task.invariant.rooms.1);
}

pub returns-clause-tasks : goal.returns-clause-tasks
returns-clause-tasks c =
    sym (append-nil c.loop-task.self.tasks) ∙ (ap (λ ts. c.loop-task.self.tasks ++ ts) (sym c.in_default.ensures.none) ∙ c.loop-task.invariant.tasks)

pub returns-clause-empty : goal.returns-clause-empty
returns-clause-empty c = sym c.in_default.ensures.tasks ∙ c.in_default.ensures.none
