use Rattle.std.proofs.Common.{rules, refl, sym, ◌∙◌, [], subst, ◌+◌, ◌≡◌, List, Some}
use Rattle.dfx_value.specs.Items.{Item}
use Rattle.task_stations.specs.declared.scan.Next.{Next}
use Rattle.std.specs.Vec.{with_item}
use Rattle.task_stations.specs.declared.scan.Scan.{Scan}
use Rattle.task_stations.specs.declared.needs.Need.TheVariants as need
use Rattle.task_stations.specs.Slots.{rows_of}
use Rattle.task_stations.specs.Scans.{IsNext}
use Rattle.task_stations.proofs.ScanReads.{stages_ready, scan_refused, here_is, at_last, at_more}
use Rattle.task_stations.proofs.scan.scan_step.Goals as goal

pub returns-then-rows-most-clause-is : goal.returns-then-rows-most-clause-is
returns-then-rows-most-clause-is g c =
    let none : rows_of c.args.scan.now.unread ≡ [] = search rules in
    let left : rows_of c.take_rows.new.slot ≡ [] = search rules in
    let s2 : Scan g.row.F.Denot = record { files = with_item c.args.scan.now.files c.args.scan.now.over c.read_next.new.file; over = c.args.scan.now.over + 1; ready = Some c.in-Rows.batch; unread = c.take_rows.new.slot } in
    at_last g.F.RowFile.source g.F.RowFile.left c.args.most c.args.scan.now s2 c.index_mut-file.result.now c.read_next.new.file (search rules) (search rules) (search rules) c.index_mut-file.ensures.value (left ∙ sym none) c.read_next.ensures.same
    c.in-Rows.batch.rows (let P : Next → Type 0 = λ r. (items : List Item) → g.F.RowFile.left c.index_mut-file.result.now ≡ Some items → IsNext c.args.most items (g.F.RowFile.left c.read_next.new.file) r in subst P c.in-Rows.is c.in_ok-fault.ensures.read) (λ files. stages_ready _ _ (λ b. b.rows) c.args.most files _ c.in-Rows.batch _ refl) refl refl refl (search rules)

pub returns-in-Refused-clause-is : goal.returns-in-Refused-clause-is
returns-in-Refused-clause-is g c =
    let none : rows_of c.args.scan.now.unread ≡ [] = search rules in
    let left : rows_of c.take_rows.new.slot ≡ [] = search rules in
    let s2 : Scan g.row.F.Denot = record { files = with_item c.args.scan.now.files c.args.scan.now.over c.read_next.new.file; over = c.args.scan.now.over; ready = c.args.scan.now.ready; unread = c.take_rows.new.slot } in
    scan_refused g.F.RowFile.source g.F.RowFile.left c.args.most c.args.scan.now s2 c.index_mut-file.result.now c.read_next.new.file _ (search rules) (search rules)
    (here_is g.F.RowFile.source g.F.RowFile.left c.args.most c.args.scan.now c.args.scan.now c.index_mut-file.result.now c.read_next.new.file (search rules) (search rules) (search rules) c.index_mut-file.ensures.value refl c.read_next.ensures.same) (left ∙ sym none)
    c.in-Refused.fault (need.Fail c.cause_of.result) (search rules) (let P : Next → Type 0 = λ r. (items : List Item) → g.F.RowFile.left c.index_mut-file.result.now ≡ Some items → IsNext c.args.most items (g.F.RowFile.left c.read_next.new.file) r in subst P c.in-Refused.is c.in_ok-fault.ensures.read)

pub returns-else-rows-most-clause-is : goal.returns-else-rows-most-clause-is
returns-else-rows-most-clause-is g c =
    let none : rows_of c.args.scan.now.unread ≡ [] = search rules in
    let left : rows_of c.take_rows.new.slot ≡ [] = search rules in
    let s2 : Scan g.row.F.Denot = record { files = with_item c.args.scan.now.files c.args.scan.now.over c.read_next.new.file; over = c.args.scan.now.over; ready = Some c.in-Rows.batch; unread = c.take_rows.new.slot } in
    at_more g.F.RowFile.source g.F.RowFile.left c.args.most c.args.scan.now s2 c.index_mut-file.result.now c.read_next.new.file (search rules) (search rules) (search rules) c.index_mut-file.ensures.value (left ∙ sym none) c.read_next.ensures.same
    c.in-Rows.batch.rows (let P : Next → Type 0 = λ r. (items : List Item) → g.F.RowFile.left c.index_mut-file.result.now ≡ Some items → IsNext c.args.most items (g.F.RowFile.left c.read_next.new.file) r in subst P c.in-Rows.is c.in_ok-fault.ensures.read) (λ files. stages_ready _ _ (λ b. b.rows) c.args.most files _ c.in-Rows.batch _ refl) refl refl refl (search rules)
