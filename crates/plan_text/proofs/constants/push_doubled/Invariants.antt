use Rattle.std.proofs.Common.{◌≡◌, ◌++◌, encode_utf8_all}
use Rattle.std.specs.String.{string_bytes}
use Rattle.plan_text.specs.ExprText.{doubled}
use Rattle.plan_text.proofs.constants.push_doubled.Given as goal

abbrev pub invariant-loop-character : goal.invariant-loop-character
invariant-loop-character l = string_bytes l.text ≡ string_bytes l.initial.text ++ doubled (encode_utf8_all l.yielded)
