use denote.Shadow.{shadow}
use denote.Text.{Utf8}
use Rattle.std.proofs.Common.{◌≡◌, ◌++◌, drop, map}
use Rattle.std.specs.String.{string_bytes}
use Rattle.plan_text.specs.NodeText.{key_text}
use Rattle.plan_text.specs.ListText.{separated, separated_after}
use Rattle.plan_text.proofs.lists.push_keys.Given as goal

-- what is written and what is left make the whole
abbrev pub invariant-loop-key : goal.invariant-loop-key
invariant-loop-key l = record {
  utf8 : shadow (Utf8 l.separator);
  text : string_bytes l.text ++ separated_after l.separator (map key_text (drop l.key-index l.keys)) ≡ string_bytes l.initial.text ++ separated (map key_text l.keys);
}
