use Rattle.std.proofs.Common.{rules, ◌≡◌, ◌<◌, length, None, Some, slice_index_or, get_or, sym, ap, ◌∙◌, arith, true, false}
use Rattle.value_columns.specs.Masked.{masked}
use Rattle.value_columns.proofs.MaskedLemmas.{length-masked, masked-null, masked-item}
use Rattle.value_columns.proofs.masked.Masked.get.Goals as goal

pub returns-then-is_null : goal.returns-then-is_null
returns-then-is_null g c =
    let len : length c.args.self.now ≡ length c.self.inside.items.items = ap length (sym c.self.view_is) ∙ length-masked c.self.inside.items.items c.self.inside.nulls.items in
    let here : get_or (masked c.self.inside.items.items c.self.inside.nulls.items) c.args.at None ≡ None = masked-null c.self.inside.items.items c.self.inside.nulls.items c.args.at (omega arith) (cc) in
    sym (ap (λ t. get_or t c.args.at None) (sym c.self.view_is) ∙ here)

pub returns-else-is_null : goal.returns-else-is_null
returns-else-is_null g c =
    let len : length c.args.self.now ≡ length c.self.inside.items.items = ap length (sym c.self.view_is) ∙ length-masked c.self.inside.items.items c.self.inside.nulls.items in
    let here : get_or (masked c.self.inside.items.items c.self.inside.nulls.items) c.args.at None ≡ Some c.index.result.now = masked-item c.self.inside.items.items c.self.inside.nulls.items c.args.at c.index.result.now (omega arith) (cc) c.index.ensures in
    sym (ap (λ t. get_or t c.args.at None) (sym c.self.view_is) ∙ here)
