use Rattle.std.proofs.Common.{rules, ◌≡◌, ◌+◌, ◌-◌, ◌<◌, ◌≤◌, ◌^◌, ◌++◌, List, length, sym, ap, ◌∙◌, subst, arith}
use Rattle.std.specs.Prelude.{slice_range}
use Rattle.dfx_value.specs.declared.kind.Kind.{Kind}
use Rattle.dfx_value.specs.declared.value.Value.{Value}
use Rattle.value_columns.specs.Columns.{KindedValues, Kinded}
use Rattle.value_columns.specs.Storage.{kind_of, values_of}
use Rattle.value_columns.proofs.ColumnLemmas.{kinded-extended}
use Rattle.value_columns.proofs.column.Column.extend.Goals as goal

pub invariant_of-self-2 : goal.invariant_of-self-2
invariant_of-self-2 c =
    let same : kind_of c.other.inside.cells ≡ kind_of c.self.inside.cells =
    ap (λ (x : KindedValues). x.kind) c.other.view_is ∙ c.requires.kind ∙ ap (λ (x : KindedValues). x.kind) (sym c.self.view_is) in
    let within : c.args.to ≤ length (values_of c.other.inside.cells) = omega (arith, c.requires.within, ap (λ (x : KindedValues). length x.values) c.other.view_is) in
    let room : length (values_of c.self.inside.cells) + (c.args.to - c.args.from) < 2 ^ 32 = omega (arith, c.requires.room, ap (λ (x : KindedValues). length x.values) c.self.view_is) in
    let P : Kind → Type 0 = λ x. Kinded x (values_of c.extend.new.self) in
    let Q : List Value → Type 0 = λ x. Kinded (kind_of c.self.inside.cells) x in
    subst P (sym c.extend.ensures.kind) (subst Q (sym c.in_ok-extend.ensures.ok)
    (kinded-extended (kind_of c.self.inside.cells) (kind_of c.other.inside.cells) (values_of c.self.inside.cells) (values_of c.other.inside.cells) c.args.from c.args.to
    c.self.invariant c.other.invariant same within room))
