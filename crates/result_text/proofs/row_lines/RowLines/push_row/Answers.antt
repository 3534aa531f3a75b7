use Rattle.std.proofs.Common.{◌≡◌, ◌<◌, ◌++◌, List, ap, ◌∙◌, length, get_or, arith}
use Rattle.csv.specs.Writing.{default_writer, field_text}
use Rattle.dfx_value.specs.Print.{printed}
use Rattle.dfx_value.specs.declared.value.Value.{Value as Cell}
use Rattle.result_text.proofs.LineSteps.{cell_more}
use Rattle.result_text.proofs.row_lines.RowLines.push_row.Goals as goal

pub loop-place-preserved : goal.loop-place-preserved
loop-place-preserved c =
    let cells : c.deref-cell-items.result.now ≡ c.args.row.now = c.deref-cell-items.ensures.value ∙ c.row.view_is in
    record {
      start = c.loop-place.invariant.start;
      text =
          cell_more c.args.self.now c.loop-place.self-inside.text.items c.push_separator.new.text.items c.push_cell.new.text.items c.args.row.now c.loop-place.place c.cell-item.result
          (omega (arith, ap length cells)) (c.cell-item.is ∙ ap (λ (t : List Cell). get_or t c.loop-place.place c.cell-item.result) cells) c.loop-place.invariant.text c.in_ok-push_separator.ensures
          (c.in_ok-push_cell.ensures ∙ ap (λ (v : Cell). c.push_separator.new.text.items ++ field_text default_writer (printed v)) c.look.ensures);
    }
