use Rattle.std.proofs.Common.{◌<◌, ◌≡◌, length, get_or, ap, ◌∙◌, sym, subst}
use Rattle.gate_channels.specs.Gate.{no_channel, after_drop}
use Rattle.gate_channels.specs.Group.{Grouped}
use Rattle.gate_channels.proofs.Calls.{channel_is, dropped_moves}
use Rattle.gate_channels.proofs.group.Group.drop_receiver.Goals as goal

pub returns-clause-moves : goal.returns-clause-moves
returns-clause-moves g c =
    let inside : c.args.channel < length c.self.inside.channels.items = subst (λ (v : Grouped g.row.B.Denot). c.args.channel < length v.gate.channels) (sym c.self.view_is) c.requires.inside in
    let is : c.index_mut.result.now ≡ get_or c.self.inside.channels.items c.args.channel no_channel = channel_is c.self.inside.channels.items c.args.channel c.index_mut.result.now inside c.index_mut.ensures.value in
    rw (← c.self.view_is) (dropped_moves _ c.args.channel c.close.new.self c.append.new.other.tasks _ _ (c.close.ensures ∙ ap after_drop is) c.append.ensures.empty c.append.ensures.tasks)
