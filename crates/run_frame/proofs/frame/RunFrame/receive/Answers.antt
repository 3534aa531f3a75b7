use Rattle.std.proofs.Common.{◌≡◌, true, None, refl, arith, sym, subst}
use Rattle.gate_channels.specs.Answers.{Receives}
use Rattle.gate_channels.specs.declared.group.Receiving.{Receiving}
use Rattle.task_shape.specs.Shape.{receives_at}
use Rattle.core_frame.specs.Frame.{place_of}
use Rattle.core_frame.specs.declared.place.Place.TheVariants.{OwnedBy}
use Rattle.core_frame.specs.Step.{Recv}
use Rattle.run_journal.specs.declared.entry.EntryKind.TheVariants.{Received, Empty, Ended}
use Rattle.run_frame.specs.Running.{Running}
use Rattle.run_frame.proofs.Owners.{owned_inside}
use Rattle.run_frame.proofs.Served.{served}
use Rattle.run_frame.proofs.Serves.{source_inside}
use Rattle.run_frame.proofs.Takes.{recv_channel, recv_task, recv_apart, batch_frame, batch_first, batch_running, empty_frame, empty_running, end_frame, end_running}
use Rattle.run_frame.proofs.frame.RunFrame.receive.Goals as goal

pub index_mut-requires : goal.index_mut-requires
index_mut-requires g c =
    let own = subst (λ (r : Running g.row.B.Denot). receives_at r.shape c.args.task c.args.group c.args.channel ≡ true) (sym c.self.view_is) c.requires.own in
    omega (arith, (source_inside _ _ _ _ _ _ _ _ _ c.args.task c.args.group c.args.channel c.self.invariant own).0, c.self.inside.groups.ok.0)

pub try_recv-answer-requires-clause-inside : goal.try_recv-answer-requires-clause-inside
try_recv-answer-requires-clause-inside g c =
    let ok = subst (λ (r : Running g.row.B.Denot). r.frame.failure ≡ None) (sym c.self.view_is) c.requires.alive in
    let at = subst (λ (r : Running g.row.B.Denot). place_of r.frame c.args.task ≡ OwnedBy c.args.worker) (sym c.self.view_is) c.requires.owned in
    let own = subst (λ (r : Running g.row.B.Denot). receives_at r.shape c.args.task c.args.group c.args.channel ≡ true) (sym c.self.view_is) c.requires.own in
    recv_channel _ _ c.index_mut.result.now c.index_mut.result.now _ c.args.task c.args.worker c.args.channel _ c.self.inside.woken c.self.inside.woken _ _ _ _ c.self.invariant ok at own c.index_mut.ensures.value

pub try_recv-answer-requires-clause-task : goal.try_recv-answer-requires-clause-task
try_recv-answer-requires-clause-task g c =
    let ok = subst (λ (r : Running g.row.B.Denot). r.frame.failure ≡ None) (sym c.self.view_is) c.requires.alive in
    let at = subst (λ (r : Running g.row.B.Denot). place_of r.frame c.args.task ≡ OwnedBy c.args.worker) (sym c.self.view_is) c.requires.owned in
    let own = subst (λ (r : Running g.row.B.Denot). receives_at r.shape c.args.task c.args.group c.args.channel ≡ true) (sym c.self.view_is) c.requires.own in
    recv_task _ _ c.index_mut.result.now c.index_mut.result.now _ c.args.task c.args.worker c.args.channel _ c.self.inside.woken c.self.inside.woken _ _ _ _ c.self.invariant ok at own c.index_mut.ensures.value

pub try_recv-answer-requires-clause-apart : goal.try_recv-answer-requires-clause-apart
try_recv-answer-requires-clause-apart g c =
    let ok = subst (λ (r : Running g.row.B.Denot). r.frame.failure ≡ None) (sym c.self.view_is) c.requires.alive in
    let at = subst (λ (r : Running g.row.B.Denot). place_of r.frame c.args.task ≡ OwnedBy c.args.worker) (sym c.self.view_is) c.requires.owned in
    let own = subst (λ (r : Running g.row.B.Denot). receives_at r.shape c.args.task c.args.group c.args.channel ≡ true) (sym c.self.view_is) c.requires.own in
    recv_apart _ _ c.index_mut.result.now c.index_mut.result.now _ c.args.task c.args.worker c.args.channel _ c.self.inside.woken c.self.inside.woken _ _ _ _ c.self.invariant ok at own c.index_mut.ensures.value

pub index_mut-requires-in-Empty : goal.index_mut-requires-in-Empty
index_mut-requires-in-Empty g c =
    let ok = subst (λ (r : Running g.row.B.Denot). r.frame.failure ≡ None) (sym c.self.view_is) c.requires.alive in
    let at = subst (λ (r : Running g.row.B.Denot). place_of r.frame c.args.task ≡ OwnedBy c.args.worker) (sym c.self.view_is) c.requires.owned in
    omega (arith, owned_inside _ _ _ _ _ _ _ _ _ c.args.worker c.args.task c.self.invariant ok at, c.self.inside.places.ok.0)

pub index_mut-requires-in-Batch : goal.index_mut-requires-in-Batch
index_mut-requires-in-Batch g c =
    let ok = subst (λ (r : Running g.row.B.Denot). r.frame.failure ≡ None) (sym c.self.view_is) c.requires.alive in
    let at = subst (λ (r : Running g.row.B.Denot). place_of r.frame c.args.task ≡ OwnedBy c.args.worker) (sym c.self.view_is) c.requires.owned in
    omega (arith, owned_inside _ _ _ _ _ _ _ _ _ c.args.worker c.args.task c.self.invariant ok at, c.self.invariant.long, c.self.inside.progress.ok.0)

pub index_mut-requires-in-Ended : goal.index_mut-requires-in-Ended
index_mut-requires-in-Ended g c =
    let ok = subst (λ (r : Running g.row.B.Denot). r.frame.failure ≡ None) (sym c.self.view_is) c.requires.alive in
    let at = subst (λ (r : Running g.row.B.Denot). place_of r.frame c.args.task ≡ OwnedBy c.args.worker) (sym c.self.view_is) c.requires.owned in
    omega (arith, owned_inside _ _ _ _ _ _ _ _ _ c.args.worker c.args.task c.self.invariant ok at, c.self.invariant.long, c.self.inside.progress.ok.0)

pub invariant_of-self : goal.invariant_of-self
invariant_of-self g c =
    let ok = subst (λ (r : Running g.row.B.Denot). r.frame.failure ≡ None) (sym c.self.view_is) c.requires.alive in
    let at = subst (λ (r : Running g.row.B.Denot). place_of r.frame c.args.task ≡ OwnedBy c.args.worker) (sym c.self.view_is) c.requires.owned in
    let own = subst (λ (r : Running g.row.B.Denot). receives_at r.shape c.args.task c.args.group c.args.channel ≡ true) (sym c.self.view_is) c.requires.own in
    batch_running _ _ c.index_mut.result.now c.try_recv-answer.new.self _ c.args.task c.args.worker c.args.channel _ c.self.inside.woken c.try_recv-answer.new.woken _ _ _ _ c.self.invariant ok at own c.index_mut.ensures.value c.in-Batch.field-0 c.try_recv-answer.ensures.size (subst (λ (z : Receiving g.row.B.Denot). Receives c.index_mut.result.now.gate c.args.task c.args.channel z c.try_recv-answer.new.self.gate c.self.inside.woken.tasks c.try_recv-answer.new.woken.tasks) c.in-Batch.is c.try_recv-answer.ensures.answer)

pub invariant_of-self-in-Ended : goal.invariant_of-self-in-Ended
invariant_of-self-in-Ended g c =
    let ok = subst (λ (r : Running g.row.B.Denot). r.frame.failure ≡ None) (sym c.self.view_is) c.requires.alive in
    let at = subst (λ (r : Running g.row.B.Denot). place_of r.frame c.args.task ≡ OwnedBy c.args.worker) (sym c.self.view_is) c.requires.owned in
    let own = subst (λ (r : Running g.row.B.Denot). receives_at r.shape c.args.task c.args.group c.args.channel ≡ true) (sym c.self.view_is) c.requires.own in
    end_running _ _ c.index_mut.result.now c.try_recv-answer.new.self _ c.args.task c.args.worker c.args.channel _ c.self.inside.woken c.try_recv-answer.new.woken _ _ _ _ c.self.invariant ok at own c.index_mut.ensures.value c.try_recv-answer.ensures.size (subst (λ (z : Receiving g.row.B.Denot). Receives c.index_mut.result.now.gate c.args.task c.args.channel z c.try_recv-answer.new.self.gate c.self.inside.woken.tasks c.try_recv-answer.new.woken.tasks) c.in-Ended.is c.try_recv-answer.ensures.answer)

pub invariant_of-self-in-Empty : goal.invariant_of-self-in-Empty
invariant_of-self-in-Empty g c =
    let ok = subst (λ (r : Running g.row.B.Denot). r.frame.failure ≡ None) (sym c.self.view_is) c.requires.alive in
    let at = subst (λ (r : Running g.row.B.Denot). place_of r.frame c.args.task ≡ OwnedBy c.args.worker) (sym c.self.view_is) c.requires.owned in
    let own = subst (λ (r : Running g.row.B.Denot). receives_at r.shape c.args.task c.args.group c.args.channel ≡ true) (sym c.self.view_is) c.requires.own in
    empty_running _ _ c.index_mut.result.now c.try_recv-answer.new.self _ c.args.task c.args.worker c.args.channel _ c.self.inside.woken c.try_recv-answer.new.woken _ _ _ _ c.self.invariant ok at own c.index_mut.ensures.value c.try_recv-answer.ensures.size (subst (λ (z : Receiving g.row.B.Denot). Receives c.index_mut.result.now.gate c.args.task c.args.channel z c.try_recv-answer.new.self.gate c.self.inside.woken.tasks c.try_recv-answer.new.woken.tasks) c.in-Empty.is c.try_recv-answer.ensures.answer)

pub returns-in-Batch : goal.returns-in-Batch
returns-in-Batch g c =
    let ok = subst (λ (r : Running g.row.B.Denot). r.frame.failure ≡ None) (sym c.self.view_is) c.requires.alive in
    let at = subst (λ (r : Running g.row.B.Denot). place_of r.frame c.args.task ≡ OwnedBy c.args.worker) (sym c.self.view_is) c.requires.owned in
    let own = subst (λ (r : Running g.row.B.Denot). receives_at r.shape c.args.task c.args.group c.args.channel ≡ true) (sym c.self.view_is) c.requires.own in
    let told = subst (λ (z : Receiving g.row.B.Denot). Receives c.index_mut.result.now.gate c.args.task c.args.channel z c.try_recv-answer.new.self.gate c.self.inside.woken.tasks c.try_recv-answer.new.woken.tasks) c.in-Batch.is c.try_recv-answer.ensures.answer in
    rw (← c.self.view_is, c.in-Batch.is) (record { answer = (served _ _ c.args.worker c.args.task (Recv c.args.group c.args.channel) Received at ok refl refl refl (batch_frame _ _ c.index_mut.result.now c.try_recv-answer.new.self _ c.args.task c.args.worker c.args.channel _ c.self.inside.woken c.try_recv-answer.new.woken _ _ _ _ c.self.invariant ok at own c.index_mut.ensures.value c.in-Batch.field-0 told), batch_first _ _ c.index_mut.result.now c.try_recv-answer.new.self _ c.args.task c.args.worker c.args.channel _ c.self.inside.woken c.try_recv-answer.new.woken _ _ _ _ c.self.invariant ok at own c.index_mut.ensures.value c.in-Batch.field-0 told) })

pub returns-in-Ended : goal.returns-in-Ended
returns-in-Ended g c =
    let ok = subst (λ (r : Running g.row.B.Denot). r.frame.failure ≡ None) (sym c.self.view_is) c.requires.alive in
    let at = subst (λ (r : Running g.row.B.Denot). place_of r.frame c.args.task ≡ OwnedBy c.args.worker) (sym c.self.view_is) c.requires.owned in
    let own = subst (λ (r : Running g.row.B.Denot). receives_at r.shape c.args.task c.args.group c.args.channel ≡ true) (sym c.self.view_is) c.requires.own in
    let told = subst (λ (z : Receiving g.row.B.Denot). Receives c.index_mut.result.now.gate c.args.task c.args.channel z c.try_recv-answer.new.self.gate c.self.inside.woken.tasks c.try_recv-answer.new.woken.tasks) c.in-Ended.is c.try_recv-answer.ensures.answer in
    rw (← c.self.view_is, c.in-Ended.is) (record { answer = (served _ _ c.args.worker c.args.task (Recv c.args.group c.args.channel) Ended at ok refl refl refl (end_frame _ _ c.index_mut.result.now c.try_recv-answer.new.self _ c.args.task c.args.worker c.args.channel _ c.self.inside.woken c.try_recv-answer.new.woken _ _ _ _ c.self.invariant ok at own c.index_mut.ensures.value told)) })

pub returns-in-Empty : goal.returns-in-Empty
returns-in-Empty g c =
    let ok = subst (λ (r : Running g.row.B.Denot). r.frame.failure ≡ None) (sym c.self.view_is) c.requires.alive in
    let at = subst (λ (r : Running g.row.B.Denot). place_of r.frame c.args.task ≡ OwnedBy c.args.worker) (sym c.self.view_is) c.requires.owned in
    let own = subst (λ (r : Running g.row.B.Denot). receives_at r.shape c.args.task c.args.group c.args.channel ≡ true) (sym c.self.view_is) c.requires.own in
    let told = subst (λ (z : Receiving g.row.B.Denot). Receives c.index_mut.result.now.gate c.args.task c.args.channel z c.try_recv-answer.new.self.gate c.self.inside.woken.tasks c.try_recv-answer.new.woken.tasks) c.in-Empty.is c.try_recv-answer.ensures.answer in
    rw (← c.self.view_is, c.in-Empty.is) (record { answer = (served _ _ c.args.worker c.args.task (Recv c.args.group c.args.channel) Empty at ok refl refl refl (empty_frame _ _ c.index_mut.result.now c.try_recv-answer.new.self _ c.args.task c.args.worker c.args.channel _ c.self.inside.woken c.try_recv-answer.new.woken _ _ _ _ c.self.invariant ok at own c.index_mut.ensures.value told)) })
