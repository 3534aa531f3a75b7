use Rattle.std.proofs.Common.{◌<◌, ◌≡◌, length, get_or, Bool, true, false, sym, subst}
use Rattle.gate_channels.specs.Gate.{Channel, no_channel}
use Rattle.gate_channels.specs.Group.{Grouped}
use Rattle.gate_channels.specs.Answers.{Takes}
use Rattle.gate_channels.proofs.Calls.{channel_is, receives_last, receives_else}
use Rattle.gate_channels.proofs.group.Group.try_recv.Goals as goal

pub returns-then-last-clause-answer : goal.returns-then-last-clause-answer
returns-then-last-clause-answer g c =
    let inside : c.args.channel < length c.self.inside.channels.items = subst (λ (v : Grouped g.row.B.Denot). c.args.channel < length v.gate.channels) (sym c.self.view_is) c.requires.inside in
    let is : c.index_mut.result.now ≡ get_or c.self.inside.channels.items c.args.channel no_channel = channel_is c.self.inside.channels.items c.args.channel c.index_mut.result.now inside c.index_mut.ensures.value in
    rw (← c.self.view_is) (receives_last _ c.args.channel c.args.task _ c.take-answer.new.self c.append.new.other.tasks _ _
    (subst (λ (ch : Channel g.row.B.Denot). Takes ch c.args.task c.take-answer.result.0 true c.take-answer.new.self) is (subst (λ (b : Bool). Takes c.index_mut.result.now c.args.task c.take-answer.result.0 b c.take-answer.new.self) c.if-last.true c.take-answer.ensures)) c.append.ensures.empty c.append.ensures.tasks)

pub returns-else-last-clause-answer : goal.returns-else-last-clause-answer
returns-else-last-clause-answer g c =
    let inside : c.args.channel < length c.self.inside.channels.items = subst (λ (v : Grouped g.row.B.Denot). c.args.channel < length v.gate.channels) (sym c.self.view_is) c.requires.inside in
    let is : c.index_mut.result.now ≡ get_or c.self.inside.channels.items c.args.channel no_channel = channel_is c.self.inside.channels.items c.args.channel c.index_mut.result.now inside c.index_mut.ensures.value in
    rw (← c.self.view_is) (receives_else _ c.args.channel c.args.task _ c.take-answer.new.self _
    (subst (λ (ch : Channel g.row.B.Denot). Takes ch c.args.task c.take-answer.result.0 false c.take-answer.new.self) is (subst (λ (b : Bool). Takes c.index_mut.result.now c.args.task c.take-answer.result.0 b c.take-answer.new.self) c.if-last.false c.take-answer.ensures)))
