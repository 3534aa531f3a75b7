use Rattle.std.proofs.Common.{rules, ◌≡◌, ◌*◌, ◌-◌, ◌≤◌, min, length, ap, ◌∙◌, arith}
use Rattle.std.specs.Prelude.{slice_range}
use Rattle.dfx_value.specs.Rows.{row_size}
use Rattle.dfx_value.specs.declared.value.Value.TheVariants as value
use Rattle.value_columns.specs.Storage.{at_scale, values_of}
use Rattle.value_columns.specs.declared.cells.Cells.{Cells}
use Rattle.value_columns.proofs.ColumnLemmas.{length-values}
use Rattle.value_columns.proofs.SizeLemmas.{size-truths, size-ints, size-decimals}
use Rattle.value_columns.proofs.cells.Cells.size.Goals as goal

pub returns-in-Truths : goal.returns-in-Truths
returns-in-Truths c =
    let within : c.args.to ≤ length c.in-Truths.field-0 = omega (arith, c.requires.within, ap (λ (x : Cells). length (values_of x)) c.in-Truths.is, length-values value.Bool c.in-Truths.field-0) in
    let size : row_size (slice_range (values_of c.args.self.now) c.args.from c.args.to) ≡ 16 * (c.args.to - c.args.from) =
    ap (λ (x : Cells). row_size (slice_range (values_of x) c.args.from c.args.to)) c.in-Truths.is ∙ size-truths c.in-Truths.field-0 c.args.from c.args.to c.requires.order within in
    omega (arith, size, c.requires.few, c.requires.within)

pub returns-in-Ints : goal.returns-in-Ints
returns-in-Ints c =
    let within : c.args.to ≤ length c.in-Ints.field-0 = omega (arith, c.requires.within, ap (λ (x : Cells). length (values_of x)) c.in-Ints.is, length-values value.Int c.in-Ints.field-0) in
    let size : row_size (slice_range (values_of c.args.self.now) c.args.from c.args.to) ≡ 16 * (c.args.to - c.args.from) =
    ap (λ (x : Cells). row_size (slice_range (values_of x) c.args.from c.args.to)) c.in-Ints.is ∙ size-ints c.in-Ints.field-0 c.args.from c.args.to c.requires.order within in
    omega (arith, size, c.requires.few, c.requires.within)

pub returns-in-Decimals : goal.returns-in-Decimals
returns-in-Decimals c =
    let within : c.args.to ≤ length c.in-Decimals.field-2 = omega (arith, c.requires.within, ap (λ (x : Cells). length (values_of x)) c.in-Decimals.is, length-values (at_scale c.in-Decimals.field-1) c.in-Decimals.field-2) in
    let size : row_size (slice_range (values_of c.args.self.now) c.args.from c.args.to) ≡ 16 * (c.args.to - c.args.from) =
    ap (λ (x : Cells). row_size (slice_range (values_of x) c.args.from c.args.to)) c.in-Decimals.is ∙ size-decimals c.in-Decimals.field-1 c.in-Decimals.field-2 c.args.from c.args.to c.requires.order within in
    omega (arith, size, c.requires.few, c.requires.within)
