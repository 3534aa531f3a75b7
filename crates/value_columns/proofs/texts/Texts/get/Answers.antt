use Rattle.std.proofs.Common.{rules, ◌≡◌, ℕ, List, [], ◌<◌, length, None, Some, slice_index_or, get_or, sym, ap, ◌∙◌, arith, true, false}
use Rattle.value_columns.specs.Masked.{masked}
use Rattle.std.proofs.lemmas.List.{get_or_default}
use Rattle.value_columns.proofs.MaskedLemmas.{length-masked, masked-null, masked-item}
use Rattle.value_columns.proofs.texts.Texts.get.Goals as goal

pub returns-then-is_null-clause-value : goal.returns-then-is_null-clause-value
returns-then-is_null-clause-value c =
    let len : length c.args.self.now ≡ length c.self.inside.texts = ap length (sym c.self.view_is) ∙ length-masked c.self.inside.texts c.self.inside.nulls.items in
    let here : get_or (masked c.self.inside.texts c.self.inside.nulls.items) c.args.at None ≡ None = masked-null c.self.inside.texts c.self.inside.nulls.items c.args.at (omega arith) (cc) in
    sym (ap (λ t. get_or t c.args.at None) (sym c.self.view_is) ∙ here)

pub returns-else-is_null-clause-value : goal.returns-else-is_null-clause-value
returns-else-is_null-clause-value c =
    let len : length c.args.self.now ≡ length c.self.inside.texts = ap length (sym c.self.view_is) ∙ length-masked c.self.inside.texts c.self.inside.nulls.items in
    let is : c.get.result.now ≡ get_or c.self.inside.texts c.args.at c.get.result.now = c.get.ensures.value ∙ get_or_default c.self.inside.texts c.args.at [] c.get.result.now (omega arith) in
    let here : get_or (masked c.self.inside.texts c.self.inside.nulls.items) c.args.at None ≡ Some c.get.result.now = masked-item c.self.inside.texts c.self.inside.nulls.items c.args.at c.get.result.now (omega arith) (cc) is in
    sym (ap (λ t. get_or t c.args.at None) (sym c.self.view_is) ∙ here)
