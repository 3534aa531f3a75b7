use Rattle.std.proofs.Common.{rules, ◌≡◌, ◌++◌, length, take, drop}
use Rattle.csv_records.proofs.BlockSteps.{begin_left}
use Rattle.csv_records.proofs.WindowSteps.{whole_written}
use Rattle.csv_records.proofs.window.Window.begin.Goals as goal

pub returns-clause-left : goal.returns-clause-left
returns-clause-left g c =
    let now = c.first_block.new.block in
    let before = c.in-Ok.block in
    let whole : take before.len (now ++ drop (length now) before.items) ≡ now = whole_written before.len now before.items (search rules) (search rules) in
    rw whole (begin_left (g.S.Source.told c.args.source.now) c.in-Ok-first_block.to c.after_mark-from.result now
    (search rules) (λ v told. c.in-Ok-first_block.ensures.front v told) (λ v told. search rules) (search rules))
