use Rattle.std.proofs.Common.{rules, ◌≡◌, ℕ, List, Bool, false, ◌++◌, length, sym, ap, ◌∙◌, arith}
use Rattle.std.specs.Prelude.{slice_range}
use Rattle.std.proofs.lemmas.Bool.{eqb-true}
use Rattle.value_columns.specs.Masked.{masked}
use Rattle.value_columns.proofs.MaskedLemmas.{masked-extended, masked-extended_none}
use Rattle.value_columns.proofs.texts.Texts.extend.Goals as goal

pub returns-in_ok-extend-clause-ok : goal.returns-in_ok-extend-clause-ok
returns-in_ok-extend-clause-ok c =
    let bits : c.part_of-nulls.result.now ≡ slice_range c.others.inside.nulls.items c.args.from c.args.to = c.part_of-nulls.ensures ∙ ap (λ (l : List Bool). slice_range l c.args.from c.args.to) c.deref.ensures.value in
    let none : length (slice_range c.others.inside.nulls.items c.args.from c.args.to) ≡ 0 = ap length (sym bits) ∙ eqb-true _ _ (sym c.if-is_empty.ensures) in
    ap (λ x. masked x c.self.inside.nulls.items) c.in_ok-extend.ensures.ok
    ∙ masked-extended_none c.self.inside.texts c.others.inside.texts c.self.inside.nulls.items c.others.inside.nulls.items c.args.from c.args.to c.self.invariant none
    ∙ ap (λ t. t ++ slice_range (masked c.others.inside.texts c.others.inside.nulls.items) c.args.from c.args.to) c.self.view_is
    ∙ ap (λ t. c.args.self.now ++ slice_range t c.args.from c.args.to) c.others.view_is

pub returns-in_ok-extend-2-clause-ok : goal.returns-in_ok-extend-2-clause-ok
returns-in_ok-extend-2-clause-ok c =
    let bits : c.part_of-nulls.result.now ≡ slice_range c.others.inside.nulls.items c.args.from c.args.to = c.part_of-nulls.ensures ∙ ap (λ (l : List Bool). slice_range l c.args.from c.args.to) c.deref.ensures.value in
    let nulls : c.push_bits.new.nulls.items ≡ c.pad.new.nulls.items ++ slice_range c.others.inside.nulls.items c.args.from c.args.to = c.push_bits.ensures ∙ ap (λ t. c.pad.new.nulls.items ++ t) bits in
    ap (λ x. masked x c.push_bits.new.nulls.items) c.in_ok-extend-2.ensures.ok
    ∙ ap (masked (c.self.inside.texts ++ slice_range c.others.inside.texts c.args.from c.args.to)) nulls
    ∙ masked-extended c.self.inside.texts c.others.inside.texts c.self.inside.nulls.items c.pad.new.nulls.items c.others.inside.nulls.items c.args.from c.args.to _ c.in_ok-pad.ensures.same (omega (arith, c.in_ok-pad.ensures.ok, c.len.ensures))
    ∙ ap (λ t. t ++ slice_range (masked c.others.inside.texts c.others.inside.nulls.items) c.args.from c.args.to) c.self.view_is
    ∙ ap (λ t. c.args.self.now ++ slice_range t c.args.from c.args.to) c.others.view_is
