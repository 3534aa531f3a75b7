use Rattle.std.proofs.Common.{◌≡◌, ◌∙◌, ap, ℕ, List, Some, option_map}
use Rattle.csv_source.specs.CsvItems.{csv_items}
use Rattle.scan_run.proofs.FileSteps.{part_none}
use Rattle.scan_run.proofs.run.write_file.Goals as goal

pub returns-in-Err-clause-part : goal.returns-in-Err-clause-part
returns-in-Err-clause-part g c s bytes before scanned told taken = part_none c.args.body.now _ before _ taken

pub returns-clause-all : goal.returns-clause-all
returns-clause-all g c s bytes before scanned told taken =
    let left : c.in-Ok.scan.left ≡ Some (csv_items bytes s.kinds) = c.in-Ok.ensures.left s scanned ∙ ap (option_map (λ (b : List ℕ). csv_items b s.kinds)) told in
    c.write_rows-written.ensures.all _ before s.table left taken

pub returns-clause-met : goal.returns-clause-met
returns-clause-met g c s bytes before e fault scanned told taken is named =
    let left : c.in-Ok.scan.left ≡ Some (csv_items bytes s.kinds) = c.in-Ok.ensures.left s scanned ∙ ap (option_map (λ (b : List ℕ). csv_items b s.kinds)) told in
    c.write_rows-written.ensures.met _ before s.table e fault left taken is named

pub returns-clause-part : goal.returns-clause-part
returns-clause-part g c s bytes before scanned told taken =
    let left : c.in-Ok.scan.left ≡ Some (csv_items bytes s.kinds) = c.in-Ok.ensures.left s scanned ∙ ap (option_map (λ (b : List ℕ). csv_items b s.kinds)) told in
    c.write_rows-written.ensures.part _ before s.table left taken
