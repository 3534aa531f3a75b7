use Rattle.std.proofs.Common.{rules, ◌≡◌, ℕ, ◌<◌, ◌≤◌, ◌-◌, List, [], length, slice_index_or, get_or, IsUtf8, sym, ap, ◌∙◌, subst, arith}
use Rattle.std.specs.Prelude.{slice_range}
use Rattle.std.proofs.lemmas.Grind.{get_or_default_zero}
use Rattle.value_columns.specs.Pieces.{pieces, start}
use Rattle.value_columns.proofs.PieceLemmas.{length-pieces, start_le, pieces-at}
use Rattle.value_columns.proofs.strings.Strings.get.Goals as goal

pub slice_bounds-result-count : goal.slice_bounds-result-count
slice_bounds-result-count c =
    let len : length c.args.self.now ≡ length c.self.inside.ends.items = ap length (sym c.self.view_is) ∙ length-pieces c.self.inside.bytes.items 0 c.self.inside.ends.items in
    let within : c.args.at < length c.self.inside.ends.items = omega arith in
    let end : c.index.result.now ≡ get_or c.self.inside.ends.items c.args.at 0 = c.index.ensures ∙ get_or_default_zero c.self.inside.ends.items c.args.at c.index.result.now within in
    let begin : c.start_of-start.result ≡ start 0 c.self.inside.ends.items c.args.at = c.start_of-start.ensures ∙ ap (λ (l : List ℕ). start 0 l c.args.at) c.deref.ensures.value in
    omega (arith, start_le 0 c.self.inside.ends.items (length c.self.inside.bytes.items) c.args.at c.self.invariant.chained within)

pub returns-clause-utf8 : goal.returns-clause-utf8
returns-clause-utf8 c =
    let len : length c.args.self.now ≡ length c.self.inside.ends.items = ap length (sym c.self.view_is) ∙ length-pieces c.self.inside.bytes.items 0 c.self.inside.ends.items in
    let within : c.args.at < length c.self.inside.ends.items = omega arith in
    let end : c.index.result.now ≡ get_or c.self.inside.ends.items c.args.at 0 = c.index.ensures ∙ get_or_default_zero c.self.inside.ends.items c.args.at c.index.result.now within in
    let begin : c.start_of-start.result ≡ start 0 c.self.inside.ends.items c.args.at = c.start_of-start.ensures ∙ ap (λ (l : List ℕ). start 0 l c.args.at) c.deref.ensures.value in
    let here : slice_range c.deref-2.result.now c.start_of-start.result c.index.result.now ≡ get_or (pieces c.self.inside.bytes.items 0 c.self.inside.ends.items) c.args.at [] =
    ap (λ (l : List ℕ). slice_range l c.start_of-start.result c.index.result.now) c.deref-2.ensures.value
    ∙ ap (λ (n : ℕ). slice_range c.self.inside.bytes.items n c.index.result.now) begin
    ∙ ap (λ (n : ℕ). slice_range c.self.inside.bytes.items (start 0 c.self.inside.ends.items c.args.at) n) end
    ∙ sym (pieces-at c.self.inside.bytes.items 0 c.self.inside.ends.items c.args.at [] within) in
    let P : List ℕ → Type 0 = λ x. IsUtf8 x in
    subst P (sym here) (c.self.invariant.texts c.args.at [] (omega (arith, length-pieces c.self.inside.bytes.items 0 c.self.inside.ends.items)))
