use denote.Shadow.{shadow}
use denote.Text.{Utf8}
use Rattle.std.proofs.Common.{◌≡◌, ◌++◌, drop, map}
use Rattle.std.specs.String.{string_bytes}
use Rattle.plan_text.specs.ExprText.{column_text}
use Rattle.plan_text.specs.ListText.{separated, separated_after}
use Rattle.plan_text.proofs.lists.push_columns.Given as goal

-- what is written and what is left make the whole
abbrev pub invariant-loop-column : goal.invariant-loop-column
invariant-loop-column l = record {
  utf8 : shadow (Utf8 l.separator);
  text : string_bytes l.text ++ separated_after l.separator (map column_text (drop l.column-index l.columns)) ≡ string_bytes l.initial.text ++ separated (map column_text l.columns);
}
