use Rattle.std.proofs.Common.{◌≡◌, drop}
use Rattle.script_cases.specs.Escapes as spec
use Rattle.script_cases.proofs.EscapeSteps.{behind_all}
use Rattle.script_cases.proofs.escapes.unescaped.Given as goal

-- what was read, and then what is left, is what the whole stands for
abbrev pub invariant-loop-byte : goal.invariant-loop-byte
invariant-loop-byte l =
    behind_all l.bytes.items (spec.meant (drop l.byte-index l.text) l.seen) ≡ spec.unescaped l.text
