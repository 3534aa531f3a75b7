use Rattle.std.proofs.Common.{rules, ◌≡◌, ◌+◌, ◌-◌, ◌<◌, ◌≤◌, ◌^◌, List, length, get_or, set, take, ap, sym, ◌∙◌, arith, ℕ, refl, subst}
use Rattle.value_columns.specs.Columns.{KindedValues, with_part}
use Rattle.column_batch.specs.Parts.{all_with_parts}
use Rattle.column_batch.proofs.ExtendLemmas.{all_with_parts-none, all_with_parts-next, all_with_parts-more, length-all_with_parts, kinds-same, length-same}
use Rattle.column_batch.proofs.builder.extend_all.Goals as goal

pub loop-other-init : goal.loop-other-init
loop-other-init c = (refl, sym (all_with_parts-none c.args.columns.now.items c.args.from c.args.to))

pub loop-other-preserved : goal.loop-other-preserved
loop-other-preserved c =
    let len : length c.args.others.now ≡ length c.args.columns.now.items = length-same c.args.columns.now.items c.args.others.now c.requires.kinds in
    let column : c.index_mut-column.result.now ≡ get_or c.args.columns.now.items c.loop-other.other-index c.index_mut-column.result.now =
    c.index_mut-column.ensures.value
    ∙ ap (λ (n : ℕ). get_or c.loop-other.columns.items n c.index_mut-column.result.now) c.loop-other.invariant.0
    ∙ ap (λ (l : List KindedValues). get_or l c.loop-other.other-index c.index_mut-column.result.now) c.loop-other.invariant.1
    ∙ all_with_parts-next c.args.columns.now.items c.args.others.now c.args.from c.args.to c.loop-other.other-index c.index_mut-column.result.now in
    let other : c.column.result.now ≡ get_or c.args.others.now c.loop-other.other-index c.other-item.result = c.column.ensures ∙ c.other-item.is in
    let pushed : c.extend.new.self ≡ with_part (get_or c.args.columns.now.items c.loop-other.other-index c.index_mut-column.result.now) (get_or c.args.others.now c.loop-other.other-index c.other-item.result) c.args.from c.args.to =
    c.in_ok-extend.ensures.ok
    ∙ ap (λ (x : KindedValues). with_part x c.column.result.now c.args.from c.args.to) column
    ∙ ap (λ (x : KindedValues). with_part (get_or c.args.columns.now.items c.loop-other.other-index c.index_mut-column.result.now) x c.args.from c.args.to) other in (
      ap (λ (n : ℕ). n + 1) c.loop-other.invariant.0,
      ap (λ (n : ℕ). set c.loop-other.columns.items n c.extend.new.self) c.loop-other.invariant.0
          ∙ ap (λ (l : List KindedValues). set l c.loop-other.other-index c.extend.new.self) c.loop-other.invariant.1
          ∙ ap (λ (x : KindedValues). set (all_with_parts c.args.columns.now.items (take c.loop-other.other-index c.args.others.now) c.args.from c.args.to) c.loop-other.other-index x) pushed
          ∙ all_with_parts-more c.args.columns.now.items c.args.others.now c.args.from c.args.to c.loop-other.other-index c.index_mut-column.result.now c.other-item.result (omega arith) (omega arith),
    )

pub index_mut-column-requires : goal.index_mut-column-requires
index_mut-column-requires c =
    let len : length c.args.others.now ≡ length c.args.columns.now.items = length-same c.args.columns.now.items c.args.others.now c.requires.kinds in
    let same : length c.loop-other.columns.items ≡ length c.args.columns.now.items = ap length c.loop-other.invariant.1 ∙ length-all_with_parts c.args.columns.now.items (take c.loop-other.other-index c.args.others.now) c.args.from c.args.to in
    omega (arith, c.loop-other.columns.ok.0, c.loop-other.invariant.0)

pub extend-requires-clause-kind : goal.extend-requires-clause-kind
extend-requires-clause-kind c =
    let len : length c.args.others.now ≡ length c.args.columns.now.items = length-same c.args.columns.now.items c.args.others.now c.requires.kinds in
    let column : c.index_mut-column.result.now ≡ get_or c.args.columns.now.items c.loop-other.other-index c.index_mut-column.result.now =
    c.index_mut-column.ensures.value
    ∙ ap (λ (n : ℕ). get_or c.loop-other.columns.items n c.index_mut-column.result.now) c.loop-other.invariant.0
    ∙ ap (λ (l : List KindedValues). get_or l c.loop-other.other-index c.index_mut-column.result.now) c.loop-other.invariant.1
    ∙ all_with_parts-next c.args.columns.now.items c.args.others.now c.args.from c.args.to c.loop-other.other-index c.index_mut-column.result.now in
    let other : c.column.result.now ≡ get_or c.args.others.now c.loop-other.other-index c.other-item.result = c.column.ensures ∙ c.other-item.is in
    ap (λ (x : KindedValues). x.kind) other
    ∙ kinds-same c.args.columns.now.items c.args.others.now c.loop-other.other-index c.index_mut-column.result.now c.other-item.result c.requires.kinds (omega arith)
    ∙ ap (λ (x : KindedValues). x.kind) (sym column)

pub extend-requires-clause-within : goal.extend-requires-clause-within
extend-requires-clause-within c =
    let other : c.column.result.now ≡ get_or c.args.others.now c.loop-other.other-index c.other-item.result = c.column.ensures ∙ c.other-item.is in
    let P : KindedValues → Type 0 = λ x. c.args.to ≤ length x.values in
    subst P (sym other) (c.requires.within c.loop-other.other-index c.other-item.result (omega arith))

pub extend-requires-clause-room : goal.extend-requires-clause-room
extend-requires-clause-room c =
    let len : length c.args.others.now ≡ length c.args.columns.now.items = length-same c.args.columns.now.items c.args.others.now c.requires.kinds in
    let column : c.index_mut-column.result.now ≡ get_or c.args.columns.now.items c.loop-other.other-index c.index_mut-column.result.now =
    c.index_mut-column.ensures.value
    ∙ ap (λ (n : ℕ). get_or c.loop-other.columns.items n c.index_mut-column.result.now) c.loop-other.invariant.0
    ∙ ap (λ (l : List KindedValues). get_or l c.loop-other.other-index c.index_mut-column.result.now) c.loop-other.invariant.1
    ∙ all_with_parts-next c.args.columns.now.items c.args.others.now c.args.from c.args.to c.loop-other.other-index c.index_mut-column.result.now in
    let P : KindedValues → Type 0 = λ x. length x.values + (c.args.to - c.args.from) < 4294967296 in
    subst P (sym column) (c.requires.room c.loop-other.other-index c.index_mut-column.result.now (omega arith))
