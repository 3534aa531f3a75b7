use Rattle.std.proofs.Common.{rules, ◌≡◌, ◌++◌, length, sym, ap, ◌∙◌}
use Rattle.std.proofs.lemmas.Bool.{eqb-true}
use Rattle.value_columns.specs.Masked.{masked}
use Rattle.value_columns.proofs.MaskedLemmas.{masked-more_none}
use Rattle.value_columns.proofs.masked.Masked.extend.Goals as goal

pub returns-in_ok-extend_from_slice-clause-ok : goal.returns-in_ok-extend_from_slice-clause-ok
returns-in_ok-extend_from_slice-clause-ok g c =
    let none : length c.part.result.1.now ≡ 0 = eqb-true _ _ (sym c.if-is_empty.ensures) in
    ap (λ x. masked x c.self.inside.nulls.items) c.in_ok-extend_from_slice.ensures.items
    ∙ masked-more_none c.self.inside.items.items c.part.result.0.now c.self.inside.nulls.items c.part.result.1.now c.self.invariant none
    ∙ ap (λ t. t ++ masked c.part.result.0.now c.part.result.1.now) c.self.view_is
    ∙ ap (λ t. c.args.self.now ++ t) c.part.ensures.value
