use Rattle.std.proofs.Common.{rules, ◌≡◌, ◌∷◌, ◌++◌, [], ap, ◌∙◌}
use mir.Val.{SFits}
use mir.Syntax.{w64}
use Rattle.std.proofs.lemmas.Int.{to_z-of_z}
use Rattle.dfx_value.specs.Kinds.{is_of}
use Rattle.dfx_value.specs.declared.value.Value.TheVariants as value
use Rattle.dfx_value.proofs.KindSteps.{fits_64_of}
use Rattle.value_columns.specs.Storage.{kind_of, values_of}
use Rattle.value_columns.proofs.ColumnLemmas.{kinded-pushed}
use Rattle.value_columns.proofs.column.Column.push_int.Goals as goal

pub invariant_of-self-2 : goal.invariant_of-self-2
invariant_of-self-2 c =
    let fits : SFits w64 c.args.number = c.ranges.number in
    let more : values_of c.push_int.new.self ≡ values_of c.self.inside.cells ++ value.Int c.args.number ∷ [] = simp to_z-of_z at c.in_ok-push_int.ensures.ok in
    kinded-pushed c.args.self.now (kind_of c.self.inside.cells) (kind_of c.push_int.new.self) (values_of c.self.inside.cells) (values_of c.push_int.new.self) (value.Int c.args.number)
    c.self.view_is c.self.invariant c.push_int.ensures.kind more c.requires.room (ap (λ k. is_of k (value.Int c.args.number)) c.requires.kind ∙ fits_64_of c.args.number c.ranges.number)
