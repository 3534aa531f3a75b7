use denote.Shadow.{shadow}
use denote.Text.{Utf8}
use Rattle.std.proofs.Common.{◌≡◌, ◌++◌, drop, map}
use Rattle.std.specs.String.{string_bytes}
use Rattle.plan_text.specs.NodeText.{pair_text}
use Rattle.plan_text.specs.ListText.{separated, separated_after}
use Rattle.plan_text.proofs.lists.push_pairs.Given as goal

-- what is written and what is left make the whole
abbrev pub invariant-loop-pair : goal.invariant-loop-pair
invariant-loop-pair l = record {
  utf8 : shadow (Utf8 l.separator);
  text : string_bytes l.text ++ separated_after l.separator (map pair_text (drop l.pair-index l.pairs)) ≡ string_bytes l.initial.text ++ separated (map pair_text l.pairs);
}
