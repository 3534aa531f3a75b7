use Rattle.std.proofs.Common.{◌≡◌, map, take}
use Rattle.script_cases.proofs.parser.read_groups.Given as goal

-- the steps so far have the lines of the groups so far
abbrev pub invariant-loop-group : goal.invariant-loop-group
invariant-loop-group l =
    map (λ step. step.line) l.steps.items ≡ map (λ group. group.first.line) (take l.group-index l.groups)
