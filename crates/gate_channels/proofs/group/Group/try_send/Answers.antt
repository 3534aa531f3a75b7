use Rattle.std.proofs.Common.{◌<◌, ◌≤◌, ◌≡◌, length, get_or, arith, sym, ap, ◌∙◌, subst, refl}
use Rattle.gate_channels.specs.Gate.{Channel, no_channel, is_open, after_send}
use Rattle.gate_channels.specs.Queue.{Ready}
use Rattle.gate_channels.specs.Group.{Grouped}
use Rattle.gate_channels.proofs.Calls.{channel_is, sent_moves, held_stays, put_back}
use Rattle.gate_channels.proofs.group.Group.try_send.Goals as goal
use Rattle.gate_channels.proofs.group.Group.try_send.Goals.{in-Ok, in-Err}

pub returns-then-not-opened-clause-answer : goal.returns-then-not-opened-clause-answer
returns-then-not-opened-clause-answer g c =
    let inside : c.args.channel < length c.self.inside.channels.items = subst (λ (v : Grouped g.row.B.Denot). c.args.channel < length v.gate.channels) (sym c.self.view_is) c.requires.inside in
    let is : c.index.result.now ≡ get_or c.self.inside.channels.items c.args.channel no_channel = channel_is c.self.inside.channels.items c.args.channel c.index.result.now inside c.index.ensures in
    rw (← c.self.view_is) (
      ap (λ (ch : Channel g.row.B.Denot). ch.live) (sym is ∙ sym c.behind-self.view_is) ∙ c.if-not-index.false,
      ap is_open (sym c.deref-2.ensures.value) ∙ (sym c.opened.ensures ∙ c.if-not-opened.true),
      refl,
      held_stays _ c.args.task c.push.new.self.tasks _ c.push.ensures.tasks,
    )

pub wake-requires-clause-below : goal.wake-requires-clause-below
wake-requires-clause-below g c = λ t e.
    let inside : c.args.channel < length c.self.inside.channels.items = subst (λ (v : Grouped g.row.B.Denot). c.args.channel < length v.gate.channels) (sym c.self.view_is) c.requires.inside in
    let is : c.index_mut.result.now ≡ get_or c.self.inside.channels.items c.args.channel no_channel = channel_is c.self.inside.channels.items c.args.channel c.index_mut.result.now inside c.index_mut.ensures.value in
    let below : t < c.self.inside.queue.room = c.self.invariant c.args.channel t (ap (λ (ch : Channel g.row.B.Denot). ch.waiting) (sym is) ∙ (sym c.in-Ok.ensures.ok.0 ∙ e)) in
    let room : c.self.inside.queue.room ≤ c.args.woken.now.room = subst (λ (v : Grouped g.row.B.Denot). v.room ≤ c.args.woken.now.room) (sym c.self.view_is) c.requires.apart.room in
    omega arith

pub returns-clause-answer : goal.returns-clause-answer
returns-clause-answer g c =
    let inside : c.args.channel < length c.self.inside.channels.items = subst (λ (v : Grouped g.row.B.Denot). c.args.channel < length v.gate.channels) (sym c.self.view_is) c.requires.inside in
    let is : c.index_mut.result.now ≡ get_or c.self.inside.channels.items c.args.channel no_channel = channel_is c.self.inside.channels.items c.args.channel c.index_mut.result.now inside c.index_mut.ensures.value in
    let is1 : c.index.result.now ≡ get_or c.self.inside.channels.items c.args.channel no_channel = channel_is c.self.inside.channels.items c.args.channel c.index.result.now inside c.index.ensures in
    let live = ap (λ (ch : Channel g.row.B.Denot). ch.live) (sym is1 ∙ sym c.behind-self.view_is) ∙ c.if-not-index.false in
    let opened = ap is_open (sym c.deref-2.ensures.value) ∙ (sym c.opened.ensures ∙ c.if-not-opened.false) in
    elim c.match-put.branch [
      | in-Ok w ↦ rw (← c.self.view_is, w.result-is) (
        live,
        opened,
        sent_moves _ c.args.channel c.args.batch c.put.new.self _ _ _ (w.in-Ok.ensures.ok.1 ∙ ap (λ (ch : Channel g.row.B.Denot). after_send ch c.args.batch) is)
            (w.in-Ok.ensures.ok.0 ∙ ap (λ (ch : Channel g.row.B.Denot). ch.waiting) is) (ap (λ (r : Ready). r.tasks) w.woken-is ∙ w.wake.ensures.tasks),
      )
      | in-Err w ↦ rw (← c.self.view_is, w.result-is) (
        live,
        opened,
        w.in-Err.ensures.err.0,
        record { gate = put_back _ c.args.channel c.put.new.self (w.in-Err.ensures.err.1 ∙ is); woken = ap (λ (r : Ready). r.tasks) w.woken-is },
      )
    ]
