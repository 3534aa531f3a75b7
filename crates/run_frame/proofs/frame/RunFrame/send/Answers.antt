use Rattle.std.proofs.Common.{ap}
use Rattle.core_frame.specs.Frame.{unfinished}
use Rattle.run_frame.proofs.frame.RunFrame.send.Goals as goal

pub group_of-group-requires-clause-unfinished : goal.group_of-group-requires-clause-unfinished
group_of-group-requires-clause-unfinished g c = ap unfinished c.requires.owned

pub group_of-group-requires-clause-sends : goal.group_of-group-requires-clause-sends
group_of-group-requires-clause-sends g c = (c.requires.own.0, c.requires.own.1)

pub send_to-requires-clause-inside : goal.send_to-requires-clause-inside
send_to-requires-clause-inside g c = c.requires.own.2
