use Rattle.std.proofs.Common.{◌≡◌, ℕ, List, [], ◌++◌, ◌∙◌, ap, map, length, get_or, arith}
use Rattle.csv.specs.Writing.{default_writer, next_sep}
use Rattle.dfx_value.proofs.BatchLemmas.{length-at}
use Rattle.dfx_value.specs.Print.{printed}
use Rattle.result_text.proofs.LineSteps.{cell_at_more, line_all}
use Rattle.result_text.proofs.row_lines.RowLines.push_row_at.Goals as goal

pub loop-column-preserved : goal.loop-column-preserved
loop-column-preserved c =
    let wide : length (get_or c.args.batch.now.rows c.args.at []) ≡ length c.args.batch.now.kinds = length-at c.args.batch.now.kinds c.args.batch.now.rows c.args.at [] c.rows.ensures.kinded c.requires.row in
    record {
      start = c.loop-column.invariant.start;
      text = cell_at_more c.args.self.now c.loop-column.self _ c.push_cell_at.new.self (get_or c.args.batch.now.rows c.args.at []) c.loop-column.column (omega arith)
          c.loop-column.invariant.text (c.in_ok-push_separator.ensures ∙ ap (λ (t : List ℕ). t ++ next_sep default_writer c.loop-column.column) c.self-in-loop-column.view_is) c.in_ok-push_cell_at.ensures;
    }

pub returns : goal.returns
returns c =
    let wide : length (get_or c.args.batch.now.rows c.args.at []) ≡ length c.args.batch.now.kinds = length-at c.args.batch.now.kinds c.args.batch.now.rows c.args.at [] c.rows.ensures.kinded c.requires.row in
    let whole = line_all c.args.self.now c.loop-column.self (get_or c.args.batch.now.rows c.args.at []) c.loop-column.column (omega arith) c.loop-column.invariant.text in
    c.end_line.ensures c.args.self.now (map printed (get_or c.args.batch.now.rows c.args.at [])) c.loop-column.invariant.start (c.self-2.view_is ∙ whole)
