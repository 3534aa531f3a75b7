use Rattle.std.proofs.Common.{◌≡◌, ◌++◌, drop, map}
use Rattle.std.specs.String.{string_bytes}
use Rattle.plan_text.specs.PlanText.{all_at, lines_of}
use Rattle.plan_text.proofs.lines.+lines.Given as goal

-- what is written and what is left make the whole
abbrev pub invariant-push_all-loop-plan : goal.invariant-push_all-loop-plan
invariant-push_all-loop-plan l = string_bytes l.text ++ all_at (map (lines_of l.tables) (drop l.plan-index l.plans)) l.level ≡ string_bytes l.initial.text ++ all_at (map (lines_of l.tables) l.plans) l.level
