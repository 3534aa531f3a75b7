use denote.Shadow.{shadow}
use denote.Text.{Utf8}
use Rattle.std.proofs.Common.{◌≡◌, ◌++◌, drop, map}
use Rattle.std.specs.String.{string_bytes}
use Rattle.plan_text.specs.NodeText.{call_text}
use Rattle.plan_text.specs.ListText.{separated, separated_after}
use Rattle.plan_text.proofs.lists.push_calls.Given as goal

-- what is written and what is left make the whole
abbrev pub invariant-loop-call : goal.invariant-loop-call
invariant-loop-call l = record {
  utf8 : shadow (Utf8 l.separator);
  text : string_bytes l.text ++ separated_after l.separator (map call_text (drop l.call-index l.calls)) ≡ string_bytes l.initial.text ++ separated (map call_text l.calls);
}
