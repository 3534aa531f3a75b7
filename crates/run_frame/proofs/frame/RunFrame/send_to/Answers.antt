use Rattle.std.proofs.Common.{◌≡◌, true, None, Some, refl, arith, sym, ap, subst}
use Rattle.gate_channels.specs.Answers.{Sends}
use Rattle.gate_channels.specs.declared.group.Sending.{Sending}
use Rattle.task_shape.specs.Shape.{task_at, has}
use Rattle.core_frame.specs.Frame.{place_of}
use Rattle.core_frame.specs.declared.place.Place.TheVariants.{OwnedBy}
use Rattle.core_frame.specs.Step.{Send}
use Rattle.run_journal.specs.declared.entry.EntryKind.TheVariants.{Sent, Held, Dropped}
use Rattle.run_frame.specs.Running.{Running}
use Rattle.run_frame.proofs.Owners.{owned_inside}
use Rattle.run_frame.proofs.Served.{served}
use Rattle.run_frame.proofs.Serves.{target_inside, send_channel, send_task, send_idle, send_apart, sent_frame, sent_running, held_frame, held_running, dropped_frame, dropped_received, dropped_running, nothing_frame, nothing_kind, nothing_running}
use Rattle.run_frame.proofs.frame.RunFrame.send_to.Goals as goal

pub index_mut-requires : goal.index_mut-requires
index_mut-requires g c =
    let s = subst (λ (r : Running g.row.B.Denot). (task_at r.shape c.args.task).sends ≡ Some c.args.group) (sym c.self.view_is) c.requires.sends in
    let h = subst (λ (r : Running g.row.B.Denot). has (task_at r.shape c.args.task).targets c.args.channel ≡ true) (sym c.self.view_is) c.requires.inside in
    omega (arith, (target_inside _ _ _ _ _ _ _ _ _ c.args.task c.args.group c.args.channel c.self.invariant s h).0, c.self.inside.groups.ok.0)

pub try_send-answer-requires-clause-inside : goal.try_send-answer-requires-clause-inside
try_send-answer-requires-clause-inside g c =
    let ok = subst (λ (r : Running g.row.B.Denot). r.frame.failure ≡ None) (sym c.self.view_is) c.requires.alive in
    let at = subst (λ (r : Running g.row.B.Denot). place_of r.frame c.args.task ≡ OwnedBy c.args.worker) (sym c.self.view_is) c.requires.owned in
    let s = subst (λ (r : Running g.row.B.Denot). (task_at r.shape c.args.task).sends ≡ Some c.args.group) (sym c.self.view_is) c.requires.sends in
    let h = subst (λ (r : Running g.row.B.Denot). has (task_at r.shape c.args.task).targets c.args.channel ≡ true) (sym c.self.view_is) c.requires.inside in
    send_channel _ _ c.index_mut.result.now c.index_mut.result.now _ c.args.task c.args.worker c.args.channel c.args.batch _ c.self.inside.woken c.self.inside.woken _ _ _ _ c.self.invariant ok at s h c.index_mut.ensures.value

pub try_send-answer-requires-clause-task : goal.try_send-answer-requires-clause-task
try_send-answer-requires-clause-task g c =
    let ok = subst (λ (r : Running g.row.B.Denot). r.frame.failure ≡ None) (sym c.self.view_is) c.requires.alive in
    let at = subst (λ (r : Running g.row.B.Denot). place_of r.frame c.args.task ≡ OwnedBy c.args.worker) (sym c.self.view_is) c.requires.owned in
    let s = subst (λ (r : Running g.row.B.Denot). (task_at r.shape c.args.task).sends ≡ Some c.args.group) (sym c.self.view_is) c.requires.sends in
    let h = subst (λ (r : Running g.row.B.Denot). has (task_at r.shape c.args.task).targets c.args.channel ≡ true) (sym c.self.view_is) c.requires.inside in
    send_task _ _ c.index_mut.result.now c.index_mut.result.now _ c.args.task c.args.worker c.args.channel c.args.batch _ c.self.inside.woken c.self.inside.woken _ _ _ _ c.self.invariant ok at s h c.index_mut.ensures.value

pub try_send-answer-requires-clause-idle : goal.try_send-answer-requires-clause-idle
try_send-answer-requires-clause-idle g c =
    let ok = subst (λ (r : Running g.row.B.Denot). r.frame.failure ≡ None) (sym c.self.view_is) c.requires.alive in
    let at = subst (λ (r : Running g.row.B.Denot). place_of r.frame c.args.task ≡ OwnedBy c.args.worker) (sym c.self.view_is) c.requires.owned in
    let s = subst (λ (r : Running g.row.B.Denot). (task_at r.shape c.args.task).sends ≡ Some c.args.group) (sym c.self.view_is) c.requires.sends in
    let h = subst (λ (r : Running g.row.B.Denot). has (task_at r.shape c.args.task).targets c.args.channel ≡ true) (sym c.self.view_is) c.requires.inside in
    send_idle _ _ c.index_mut.result.now c.index_mut.result.now _ c.args.task c.args.worker c.args.channel c.args.batch _ c.self.inside.woken c.self.inside.woken _ _ _ _ c.self.invariant ok at s h c.index_mut.ensures.value

pub try_send-answer-requires-clause-apart : goal.try_send-answer-requires-clause-apart
try_send-answer-requires-clause-apart g c =
    let ok = subst (λ (r : Running g.row.B.Denot). r.frame.failure ≡ None) (sym c.self.view_is) c.requires.alive in
    let at = subst (λ (r : Running g.row.B.Denot). place_of r.frame c.args.task ≡ OwnedBy c.args.worker) (sym c.self.view_is) c.requires.owned in
    let s = subst (λ (r : Running g.row.B.Denot). (task_at r.shape c.args.task).sends ≡ Some c.args.group) (sym c.self.view_is) c.requires.sends in
    let h = subst (λ (r : Running g.row.B.Denot). has (task_at r.shape c.args.task).targets c.args.channel ≡ true) (sym c.self.view_is) c.requires.inside in
    send_apart _ _ c.index_mut.result.now c.index_mut.result.now _ c.args.task c.args.worker c.args.channel c.args.batch _ c.self.inside.woken c.self.inside.woken _ _ _ _ c.self.invariant ok at s h c.index_mut.ensures.value

pub index_mut-requires-in-Held : goal.index_mut-requires-in-Held
index_mut-requires-in-Held g c =
    let ok = subst (λ (r : Running g.row.B.Denot). r.frame.failure ≡ None) (sym c.self.view_is) c.requires.alive in
    let at = subst (λ (r : Running g.row.B.Denot). place_of r.frame c.args.task ≡ OwnedBy c.args.worker) (sym c.self.view_is) c.requires.owned in
    omega (arith, owned_inside _ _ _ _ _ _ _ _ _ c.args.worker c.args.task c.self.invariant ok at, c.self.inside.places.ok.0)

pub index_mut-requires-in-Sent : goal.index_mut-requires-in-Sent
index_mut-requires-in-Sent g c =
    let ok = subst (λ (r : Running g.row.B.Denot). r.frame.failure ≡ None) (sym c.self.view_is) c.requires.alive in
    let at = subst (λ (r : Running g.row.B.Denot). place_of r.frame c.args.task ≡ OwnedBy c.args.worker) (sym c.self.view_is) c.requires.owned in
    omega (arith, owned_inside _ _ _ _ _ _ _ _ _ c.args.worker c.args.task c.self.invariant ok at, c.self.invariant.long, c.self.inside.progress.ok.0)

pub index_mut-requires-in-Dropped : goal.index_mut-requires-in-Dropped
index_mut-requires-in-Dropped g c =
    let ok = subst (λ (r : Running g.row.B.Denot). r.frame.failure ≡ None) (sym c.self.view_is) c.requires.alive in
    let at = subst (λ (r : Running g.row.B.Denot). place_of r.frame c.args.task ≡ OwnedBy c.args.worker) (sym c.self.view_is) c.requires.owned in
    omega (arith, owned_inside _ _ _ _ _ _ _ _ _ c.args.worker c.args.task c.self.invariant ok at, c.self.invariant.long, c.self.inside.progress.ok.0)

pub invariant_of-self-in-Held : goal.invariant_of-self-in-Held
invariant_of-self-in-Held g c =
    let ok = subst (λ (r : Running g.row.B.Denot). r.frame.failure ≡ None) (sym c.self.view_is) c.requires.alive in
    let at = subst (λ (r : Running g.row.B.Denot). place_of r.frame c.args.task ≡ OwnedBy c.args.worker) (sym c.self.view_is) c.requires.owned in
    let s = subst (λ (r : Running g.row.B.Denot). (task_at r.shape c.args.task).sends ≡ Some c.args.group) (sym c.self.view_is) c.requires.sends in
    let h = subst (λ (r : Running g.row.B.Denot). has (task_at r.shape c.args.task).targets c.args.channel ≡ true) (sym c.self.view_is) c.requires.inside in
    held_running _ _ c.index_mut.result.now c.try_send-answer.new.self _ c.args.task c.args.worker c.args.channel c.args.batch _ c.self.inside.woken c.try_send-answer.new.woken _ _ _ _ c.self.invariant ok at s h c.index_mut.ensures.value c.in-Held.field-0 c.try_send-answer.ensures.size (subst (λ (z : Sending g.row.B.Denot). Sends c.index_mut.result.now.gate c.args.task c.args.channel c.args.batch z c.try_send-answer.new.self.gate c.self.inside.woken.tasks c.try_send-answer.new.woken.tasks) c.in-Held.is c.try_send-answer.ensures.answer)

pub invariant_of-self : goal.invariant_of-self
invariant_of-self g c =
    let ok = subst (λ (r : Running g.row.B.Denot). r.frame.failure ≡ None) (sym c.self.view_is) c.requires.alive in
    let at = subst (λ (r : Running g.row.B.Denot). place_of r.frame c.args.task ≡ OwnedBy c.args.worker) (sym c.self.view_is) c.requires.owned in
    let s = subst (λ (r : Running g.row.B.Denot). (task_at r.shape c.args.task).sends ≡ Some c.args.group) (sym c.self.view_is) c.requires.sends in
    let h = subst (λ (r : Running g.row.B.Denot). has (task_at r.shape c.args.task).targets c.args.channel ≡ true) (sym c.self.view_is) c.requires.inside in
    sent_running _ _ c.index_mut.result.now c.try_send-answer.new.self _ c.args.task c.args.worker c.args.channel c.args.batch _ c.self.inside.woken c.try_send-answer.new.woken _ _ _ _ c.self.invariant ok at s h c.index_mut.ensures.value c.try_send-answer.ensures.size (subst (λ (z : Sending g.row.B.Denot). Sends c.index_mut.result.now.gate c.args.task c.args.channel c.args.batch z c.try_send-answer.new.self.gate c.self.inside.woken.tasks c.try_send-answer.new.woken.tasks) c.in-Sent.is c.try_send-answer.ensures.answer)

pub invariant_of-self-in-Dropped : goal.invariant_of-self-in-Dropped
invariant_of-self-in-Dropped g c =
    let ok = subst (λ (r : Running g.row.B.Denot). r.frame.failure ≡ None) (sym c.self.view_is) c.requires.alive in
    let at = subst (λ (r : Running g.row.B.Denot). place_of r.frame c.args.task ≡ OwnedBy c.args.worker) (sym c.self.view_is) c.requires.owned in
    let s = subst (λ (r : Running g.row.B.Denot). (task_at r.shape c.args.task).sends ≡ Some c.args.group) (sym c.self.view_is) c.requires.sends in
    let h = subst (λ (r : Running g.row.B.Denot). has (task_at r.shape c.args.task).targets c.args.channel ≡ true) (sym c.self.view_is) c.requires.inside in
    dropped_running _ _ c.index_mut.result.now c.try_send-answer.new.self _ c.args.task c.args.worker c.args.channel c.args.batch _ c.self.inside.woken c.try_send-answer.new.woken _ _ _ _ c.self.invariant ok at s h c.index_mut.ensures.value c.in-Dropped.batch c.in-Dropped.last c.try_send-answer.ensures.size (subst (λ (z : Sending g.row.B.Denot). Sends c.index_mut.result.now.gate c.args.task c.args.channel c.args.batch z c.try_send-answer.new.self.gate c.self.inside.woken.tasks c.try_send-answer.new.woken.tasks) c.in-Dropped.is c.try_send-answer.ensures.answer)

pub invariant_of-self-in-NoMemory : goal.invariant_of-self-in-NoMemory
invariant_of-self-in-NoMemory g c =
    let ok = subst (λ (r : Running g.row.B.Denot). r.frame.failure ≡ None) (sym c.self.view_is) c.requires.alive in
    let at = subst (λ (r : Running g.row.B.Denot). place_of r.frame c.args.task ≡ OwnedBy c.args.worker) (sym c.self.view_is) c.requires.owned in
    let s = subst (λ (r : Running g.row.B.Denot). (task_at r.shape c.args.task).sends ≡ Some c.args.group) (sym c.self.view_is) c.requires.sends in
    let h = subst (λ (r : Running g.row.B.Denot). has (task_at r.shape c.args.task).targets c.args.channel ≡ true) (sym c.self.view_is) c.requires.inside in
    nothing_running _ _ c.index_mut.result.now c.try_send-answer.new.self _ c.args.task c.args.worker c.args.channel c.args.batch _ c.self.inside.woken c.try_send-answer.new.woken _ _ _ _ c.self.invariant ok at s h c.index_mut.ensures.value c.in-NoMemory.field-0 c.try_send-answer.ensures.size (subst (λ (z : Sending g.row.B.Denot). Sends c.index_mut.result.now.gate c.args.task c.args.channel c.args.batch z c.try_send-answer.new.self.gate c.self.inside.woken.tasks c.try_send-answer.new.woken.tasks) c.in-NoMemory.is c.try_send-answer.ensures.answer)

pub returns-in-Sent : goal.returns-in-Sent
returns-in-Sent g c =
    let ok = subst (λ (r : Running g.row.B.Denot). r.frame.failure ≡ None) (sym c.self.view_is) c.requires.alive in
    let at = subst (λ (r : Running g.row.B.Denot). place_of r.frame c.args.task ≡ OwnedBy c.args.worker) (sym c.self.view_is) c.requires.owned in
    let s = subst (λ (r : Running g.row.B.Denot). (task_at r.shape c.args.task).sends ≡ Some c.args.group) (sym c.self.view_is) c.requires.sends in
    let h = subst (λ (r : Running g.row.B.Denot). has (task_at r.shape c.args.task).targets c.args.channel ≡ true) (sym c.self.view_is) c.requires.inside in
    let told = subst (λ (z : Sending g.row.B.Denot). Sends c.index_mut.result.now.gate c.args.task c.args.channel c.args.batch z c.try_send-answer.new.self.gate c.self.inside.woken.tasks c.try_send-answer.new.woken.tasks) c.in-Sent.is c.try_send-answer.ensures.answer in
    rw (← c.self.view_is, c.in-Sent.is) (record { answer = (served _ _ c.args.worker c.args.task (Send c.args.channel c.args.batch) Sent at ok refl refl refl (sent_frame _ _ c.index_mut.result.now c.try_send-answer.new.self _ c.args.task c.args.worker c.args.channel c.args.batch _ c.self.inside.woken c.try_send-answer.new.woken _ _ _ _ c.self.invariant ok at s h c.index_mut.ensures.value told)) })

pub returns-in-Held : goal.returns-in-Held
returns-in-Held g c =
    let ok = subst (λ (r : Running g.row.B.Denot). r.frame.failure ≡ None) (sym c.self.view_is) c.requires.alive in
    let at = subst (λ (r : Running g.row.B.Denot). place_of r.frame c.args.task ≡ OwnedBy c.args.worker) (sym c.self.view_is) c.requires.owned in
    let s = subst (λ (r : Running g.row.B.Denot). (task_at r.shape c.args.task).sends ≡ Some c.args.group) (sym c.self.view_is) c.requires.sends in
    let h = subst (λ (r : Running g.row.B.Denot). has (task_at r.shape c.args.task).targets c.args.channel ≡ true) (sym c.self.view_is) c.requires.inside in
    let told = subst (λ (z : Sending g.row.B.Denot). Sends c.index_mut.result.now.gate c.args.task c.args.channel c.args.batch z c.try_send-answer.new.self.gate c.self.inside.woken.tasks c.try_send-answer.new.woken.tasks) c.in-Held.is c.try_send-answer.ensures.answer in
    rw (← c.self.view_is, c.in-Held.is) (record { answer = (told.2, served _ _ c.args.worker c.args.task (Send c.args.channel c.args.batch) Held at ok refl refl refl (held_frame _ _ c.index_mut.result.now c.try_send-answer.new.self _ c.args.task c.args.worker c.args.channel c.args.batch _ c.self.inside.woken c.try_send-answer.new.woken _ _ _ _ c.self.invariant ok at s h c.index_mut.ensures.value c.in-Held.field-0 told)) })

pub returns-in-Dropped : goal.returns-in-Dropped
returns-in-Dropped g c =
    let ok = subst (λ (r : Running g.row.B.Denot). r.frame.failure ≡ None) (sym c.self.view_is) c.requires.alive in
    let at = subst (λ (r : Running g.row.B.Denot). place_of r.frame c.args.task ≡ OwnedBy c.args.worker) (sym c.self.view_is) c.requires.owned in
    let s = subst (λ (r : Running g.row.B.Denot). (task_at r.shape c.args.task).sends ≡ Some c.args.group) (sym c.self.view_is) c.requires.sends in
    let h = subst (λ (r : Running g.row.B.Denot). has (task_at r.shape c.args.task).targets c.args.channel ≡ true) (sym c.self.view_is) c.requires.inside in
    let told = subst (λ (z : Sending g.row.B.Denot). Sends c.index_mut.result.now.gate c.args.task c.args.channel c.args.batch z c.try_send-answer.new.self.gate c.self.inside.woken.tasks c.try_send-answer.new.woken.tasks) c.in-Dropped.is c.try_send-answer.ensures.answer in
    rw (← c.self.view_is, c.in-Dropped.is) (record { answer = (told.1, dropped_received _ _ c.index_mut.result.now c.try_send-answer.new.self _ c.args.task c.args.worker c.args.channel c.args.batch _ c.self.inside.woken c.try_send-answer.new.woken _ _ _ _ c.self.invariant ok at s h c.index_mut.ensures.value c.in-Dropped.batch c.in-Dropped.last told, served _ _ c.args.worker c.args.task (Send c.args.channel c.args.batch) Dropped at ok refl refl refl (dropped_frame _ _ c.index_mut.result.now c.try_send-answer.new.self _ c.args.task c.args.worker c.args.channel c.args.batch _ c.self.inside.woken c.try_send-answer.new.woken _ _ _ _ c.self.invariant ok at s h c.index_mut.ensures.value c.in-Dropped.batch c.in-Dropped.last told)) })

pub returns-in-NoMemory : goal.returns-in-NoMemory
returns-in-NoMemory g c =
    let ok = subst (λ (r : Running g.row.B.Denot). r.frame.failure ≡ None) (sym c.self.view_is) c.requires.alive in
    let at = subst (λ (r : Running g.row.B.Denot). place_of r.frame c.args.task ≡ OwnedBy c.args.worker) (sym c.self.view_is) c.requires.owned in
    let s = subst (λ (r : Running g.row.B.Denot). (task_at r.shape c.args.task).sends ≡ Some c.args.group) (sym c.self.view_is) c.requires.sends in
    let h = subst (λ (r : Running g.row.B.Denot). has (task_at r.shape c.args.task).targets c.args.channel ≡ true) (sym c.self.view_is) c.requires.inside in
    let told = subst (λ (z : Sending g.row.B.Denot). Sends c.index_mut.result.now.gate c.args.task c.args.channel c.args.batch z c.try_send-answer.new.self.gate c.self.inside.woken.tasks c.try_send-answer.new.woken.tasks) c.in-NoMemory.is c.try_send-answer.ensures.answer in
    rw (← c.self.view_is, c.in-NoMemory.is) (record { answer = (told.2, nothing_kind _ _ c.index_mut.result.now c.try_send-answer.new.self _ c.args.task c.args.worker c.args.channel c.args.batch _ c.self.inside.woken c.try_send-answer.new.woken _ _ _ _ c.self.invariant ok at s h c.index_mut.ensures.value c.in-NoMemory.field-0 told, ap (λ f. record { shape = c.self.inside.shape; frame = f }) (nothing_frame _ _ c.index_mut.result.now c.try_send-answer.new.self _ c.args.task c.args.worker c.args.channel c.args.batch _ c.self.inside.woken c.try_send-answer.new.woken _ _ _ _ c.self.invariant ok at s h c.index_mut.ensures.value c.in-NoMemory.field-0 told)) })
