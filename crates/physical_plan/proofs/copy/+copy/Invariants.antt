use Rattle.std.proofs.Common.{◌≡◌, take}
use Rattle.physical_plan.proofs.copy.+copy.Given as goal

abbrev pub invariant-copy_all-loop-plan : goal.invariant-copy_all-loop-plan
invariant-copy_all-loop-plan l = l.copies ≡ take l.plan-index l.plans
