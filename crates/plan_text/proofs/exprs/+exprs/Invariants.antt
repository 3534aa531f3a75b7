use denote.Shadow.{shadow}
use denote.Text.{Utf8}
use Rattle.std.proofs.Common.{◌≡◌, ◌++◌, drop, map}
use Rattle.std.specs.String.{string_bytes}
use Rattle.plan_text.specs.ExprText.{expr_text, arms_text}
use Rattle.plan_text.specs.ListText.{separated, separated_after}
use Rattle.plan_text.proofs.exprs.+exprs.Given as goal

-- what is written and what is left make the whole
abbrev pub invariant-push_exprs-loop-expr : goal.invariant-push_exprs-loop-expr
invariant-push_exprs-loop-expr l = record {
  utf8 : shadow (Utf8 l.separator);
  text : string_bytes l.text ++ separated_after l.separator (map expr_text (drop l.expr-index l.exprs)) ≡ string_bytes l.initial.text ++ separated (map expr_text l.exprs);
}

abbrev pub invariant-push_arms-loop-arm : goal.invariant-push_arms-loop-arm
invariant-push_arms-loop-arm l = string_bytes l.text ++ arms_text (drop l.arm-index l.arms) ≡ string_bytes l.initial.text ++ arms_text l.arms
