use Rattle.std.proofs.Common.{rules, ◌≡◌, ◌+◌, ◌<◌, ◌≤◌, List, length, get_or, set, take, ap, sym, ◌∙◌, arith, ℕ, refl, subst}
use Rattle.dfx_value.specs.Kinds.{is_of}
use Rattle.std.proofs.lemmas.List.{take_all, length-map}
use Rattle.dfx_value.specs.declared.value.Value.{Value}
use Rattle.dfx_value.proofs.BatchLemmas.{length-are_of}
use Rattle.value_columns.specs.Columns.{KindedValues, with_value}
use Rattle.column_batch.specs.Batches.{kinds_of}
use Rattle.column_batch.specs.Parts.{all_with}
use Rattle.column_batch.proofs.BuilderLemmas.{all_with-none, all_with-next, all_with-more, length-all_with, fits-at}
use Rattle.column_batch.proofs.builder.push_all.Goals as goal

pub loop-cell-init : goal.loop-cell-init
loop-cell-init c = (refl, sym (all_with-none c.args.columns.now.items))

pub loop-cell-preserved : goal.loop-cell-preserved
loop-cell-preserved c =
    let len : length c.args.cells.now ≡ length c.args.columns.now.items = length-are_of (kinds_of c.args.columns.now.items) c.args.cells.now c.requires.fits ∙ length-map c.args.columns.now.items (λ (x : KindedValues). x.kind) in
    let column : c.index_mut-column.result.now ≡ get_or c.args.columns.now.items c.loop-cell.cell-index c.index_mut-column.result.now =
    c.index_mut-column.ensures.value
    ∙ ap (λ (n : ℕ). get_or c.loop-cell.columns.items n c.index_mut-column.result.now) c.loop-cell.invariant.0
    ∙ ap (λ (l : List KindedValues). get_or l c.loop-cell.cell-index c.index_mut-column.result.now) c.loop-cell.invariant.1
    ∙ all_with-next c.args.columns.now.items c.args.cells.now c.loop-cell.cell-index c.index_mut-column.result.now in
    let pushed : c.push_copy.new.self ≡ with_value (get_or c.args.columns.now.items c.loop-cell.cell-index c.index_mut-column.result.now) (get_or c.args.cells.now c.loop-cell.cell-index c.cell-item.result) =
    c.in_ok-push_copy.ensures.ok ∙ ap (λ (x : KindedValues). with_value x c.cell-item.result) column ∙ ap (with_value (get_or c.args.columns.now.items c.loop-cell.cell-index c.index_mut-column.result.now)) c.cell-item.is in (
      ap (λ (n : ℕ). n + 1) c.loop-cell.invariant.0,
      ap (λ (n : ℕ). set c.loop-cell.columns.items n c.push_copy.new.self) c.loop-cell.invariant.0
          ∙ ap (λ (l : List KindedValues). set l c.loop-cell.cell-index c.push_copy.new.self) c.loop-cell.invariant.1
          ∙ ap (λ (x : KindedValues). set (all_with c.args.columns.now.items (take c.loop-cell.cell-index c.args.cells.now)) c.loop-cell.cell-index x) pushed
          ∙ all_with-more c.args.columns.now.items c.args.cells.now c.loop-cell.cell-index c.index_mut-column.result.now c.cell-item.result (omega arith) (omega arith),
    )

pub index_mut-column-requires : goal.index_mut-column-requires
index_mut-column-requires c =
    let len : length c.args.cells.now ≡ length c.args.columns.now.items = length-are_of (kinds_of c.args.columns.now.items) c.args.cells.now c.requires.fits ∙ length-map c.args.columns.now.items (λ (x : KindedValues). x.kind) in
    let same : length c.loop-cell.columns.items ≡ length c.args.columns.now.items = ap length c.loop-cell.invariant.1 ∙ length-all_with c.args.columns.now.items (take c.loop-cell.cell-index c.args.cells.now) in
    omega (arith, c.loop-cell.columns.ok.0, c.loop-cell.invariant.0)

pub push_copy-requires-clause-room : goal.push_copy-requires-clause-room
push_copy-requires-clause-room c =
    let len : length c.args.cells.now ≡ length c.args.columns.now.items = length-are_of (kinds_of c.args.columns.now.items) c.args.cells.now c.requires.fits ∙ length-map c.args.columns.now.items (λ (x : KindedValues). x.kind) in
    let column : c.index_mut-column.result.now ≡ get_or c.args.columns.now.items c.loop-cell.cell-index c.index_mut-column.result.now =
    c.index_mut-column.ensures.value
    ∙ ap (λ (n : ℕ). get_or c.loop-cell.columns.items n c.index_mut-column.result.now) c.loop-cell.invariant.0
    ∙ ap (λ (l : List KindedValues). get_or l c.loop-cell.cell-index c.index_mut-column.result.now) c.loop-cell.invariant.1
    ∙ all_with-next c.args.columns.now.items c.args.cells.now c.loop-cell.cell-index c.index_mut-column.result.now in
    let P : KindedValues → Type 0 = λ x. length x.values + 1 < 4294967296 in
    subst P (sym column) (c.requires.room c.loop-cell.cell-index c.index_mut-column.result.now (omega arith))

pub push_copy-requires-clause-fits : goal.push_copy-requires-clause-fits
push_copy-requires-clause-fits c =
    let len : length c.args.cells.now ≡ length c.args.columns.now.items = length-are_of (kinds_of c.args.columns.now.items) c.args.cells.now c.requires.fits ∙ length-map c.args.columns.now.items (λ (x : KindedValues). x.kind) in
    let column : c.index_mut-column.result.now ≡ get_or c.args.columns.now.items c.loop-cell.cell-index c.index_mut-column.result.now =
    c.index_mut-column.ensures.value
    ∙ ap (λ (n : ℕ). get_or c.loop-cell.columns.items n c.index_mut-column.result.now) c.loop-cell.invariant.0
    ∙ ap (λ (l : List KindedValues). get_or l c.loop-cell.cell-index c.index_mut-column.result.now) c.loop-cell.invariant.1
    ∙ all_with-next c.args.columns.now.items c.args.cells.now c.loop-cell.cell-index c.index_mut-column.result.now in
    ap (λ (x : KindedValues). is_of x.kind c.cell-item.result) column
    ∙ ap (is_of (get_or c.args.columns.now.items c.loop-cell.cell-index c.index_mut-column.result.now).kind) c.cell-item.is
    ∙ fits-at c.args.columns.now.items c.args.cells.now c.loop-cell.cell-index c.index_mut-column.result.now c.cell-item.result c.requires.fits (omega arith)
