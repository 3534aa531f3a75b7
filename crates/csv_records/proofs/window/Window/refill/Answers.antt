use Rattle.std.proofs.Common.{rules, ◌≡◌, ◌++◌, ◌-◌, length, take, drop}
use Rattle.csv_records.proofs.BlockSteps.{block_left}
use Rattle.csv_records.proofs.WindowSteps.{whole_written}
use Rattle.csv_records.proofs.window.Window.refill.Goals as goal

pub returns-clause-left : goal.returns-clause-left
returns-clause-left g c =
    let now = c.read_behind.new.block in
    let before = c.make_room.new.block in
    let whole : take before.len (now ++ drop (length now) before.items) ≡ now = whole_written before.len now before.items (search rules) (search rules) in
    rw whole (block_left (g.S.Source.told c.args.source.now) c.args.self.now.ahead now (c.self.inside.write - c.self.inside.base)
    c.in-Ok-read_behind.count c.self.inside.at c.args.self.now.at (λ v told. c.in-Ok-read_behind.ensures.front v told) c.requires (search rules))
