use Rattle.std.proofs.Common.{rules, ◌≡◌, ap, refl}
use Rattle.dfx_value.specs.Kinds.{is_of}
use Rattle.dfx_value.specs.declared.value.Value.TheVariants as value
use Rattle.value_columns.specs.Storage.{kind_of, values_of}
use Rattle.value_columns.proofs.ColumnLemmas.{kinded-pushed}
use Rattle.value_columns.proofs.column.Column.push_truth.Goals as goal

pub invariant_of-self-2 : goal.invariant_of-self-2
invariant_of-self-2 c =
    kinded-pushed c.args.self.now (kind_of c.self.inside.cells) (kind_of c.push_truth.new.self) (values_of c.self.inside.cells) (values_of c.push_truth.new.self) (value.Bool c.args.truth)
    c.self.view_is c.self.invariant c.push_truth.ensures.kind c.in_ok-push_truth.ensures.ok c.requires.room (ap (λ k. is_of k (value.Bool c.args.truth)) c.requires.kind)
