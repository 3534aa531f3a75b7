use Rattle.std.proofs.Common.{◌<◌, ◌≡◌, length, get_or, ap, ◌∙◌, sym, subst}
use Rattle.gate_channels.specs.Gate.{no_channel, after_end, woken_by_end}
use Rattle.gate_channels.specs.Group.{Grouped}
use Rattle.gate_channels.proofs.Calls.{channel_is, ended_moves}
use Rattle.gate_channels.proofs.group.Group.end_sender.Goals as goal

pub returns-clause-moves : goal.returns-clause-moves
returns-clause-moves g c =
    let inside : c.args.channel < length c.self.inside.channels.items = subst (λ (v : Grouped g.row.B.Denot). c.args.channel < length v.gate.channels) (sym c.self.view_is) c.requires.inside in
    let is : c.index_mut.result.now ≡ get_or c.self.inside.channels.items c.args.channel no_channel = channel_is c.self.inside.channels.items c.args.channel c.index_mut.result.now inside c.index_mut.ensures.value in
    rw (← c.self.view_is) (ended_moves _ c.args.channel c.end-waiting.new.self _ _ _ (c.end-waiting.ensures.channel ∙ ap after_end is) (c.end-waiting.ensures.woken ∙ ap woken_by_end is) c.wake.ensures.tasks)
