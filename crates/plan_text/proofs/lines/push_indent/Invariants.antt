use Rattle.std.proofs.Common.{◌≡◌, ◌++◌, ◌-◌}
use Rattle.std.specs.String.{string_bytes}
use Rattle.plan_text.specs.PlanText.{indent}
use Rattle.plan_text.proofs.lines.push_indent.Given as goal

-- what is written and what is left make the whole
abbrev pub invariant-loop-at : goal.invariant-loop-at
invariant-loop-at l = string_bytes l.text ++ indent (l.level - l._at) ≡ string_bytes l.initial.text ++ indent l.level
