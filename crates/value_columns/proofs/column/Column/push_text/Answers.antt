use Rattle.std.proofs.Common.{rules, ◌≡◌, ap, ◌∙◌}
use Rattle.dfx_value.specs.Kinds.{is_of}
use Rattle.dfx_value.specs.declared.value.Value.TheVariants as value
use Rattle.std.proofs.lemmas.Str.{is_utf8-from_IsUtf8}
use Rattle.value_columns.specs.Storage.{kind_of, values_of}
use Rattle.value_columns.proofs.ColumnLemmas.{kinded-pushed}
use Rattle.value_columns.proofs.column.Column.push_text.Goals as goal

pub invariant_of-self-2 : goal.invariant_of-self-2
invariant_of-self-2 c =
    kinded-pushed c.args.self.now (kind_of c.self.inside.cells) (kind_of c.push_text.new.self) (values_of c.self.inside.cells) (values_of c.push_text.new.self) (value.Text c.args.text.now)
    c.self.view_is c.self.invariant c.push_text.ensures.kind c.in_ok-push_text.ensures.ok c.requires.room (ap (λ k. is_of k (value.Text c.args.text.now)) c.requires.kind ∙ is_utf8-from_IsUtf8 c.args.text.now c.utf8.text)
