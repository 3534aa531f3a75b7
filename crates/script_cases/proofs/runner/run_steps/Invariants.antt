use Rattle.std.proofs.Common.{◌≡◌, ◌+◌, length, count_by, take}
use Rattle.script_cases.specs.Outcomes.{is_counted}
use Rattle.script_cases.proofs.runner.run_steps.Given as goal

-- as many outcomes more as steps before this one count
abbrev pub invariant-loop-step : goal.invariant-loop-step
invariant-loop-step l =
    length l.report.outcomes.items
    ≡ length l.fn.report.outcomes.items + count_by is_counted (take l.step-index l.steps)
