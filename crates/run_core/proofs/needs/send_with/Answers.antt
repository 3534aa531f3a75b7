use Rattle.std.proofs.Common.{length, Some, refl, sym, ap, ◌∙◌, subst, arith, vec_len, vec_capacity}
use Rattle.run_journal.specs.declared.entry.EntryKind.TheVariants.{Sent, Held, Dropped}
use Rattle.task_shape.specs.Shape.{task_at}
use Rattle.core_frame.specs.Step.{Send}
use Rattle.core_frame.specs.Good.{IsOwn}
use Rattle.history_laws.specs.Histories.{Go, Gone}
use Rattle.run_core.proofs.Stored.{room_enough, room_back}
use Rattle.run_core.proofs.Turns.{owned, within, none_here}
use Rattle.run_core.proofs.Served.{served_again, served_parks, same_fits, own_is, none_live_is}
use Rattle.run_core.proofs.needs.send_with.Goals as goal

pub send-requires-clause-owned : goal.send-requires-clause-owned
send-requires-clause-owned g c = rw c.number-number.ensures (owned _ _ _ _ _ _ c.args.frame.now.shape c.args.frame.now.frame _ _ c.requires.holds c.args.worker c.args.task c.requires.fits)

pub send-requires-clause-own : goal.send-requires-clause-own
send-requires-clause-own g c = rw c.number-number.ensures (own_is g.B.Rows.rows _ _ (g.T.RunTask.number c.args.task) (Send c.args.channel c.take_part-part.result) c.requires.holds.shape (c.requires.own (Send c.args.channel c.requires.need.0) c.requires.need.1))

pub returns-in-Sent-clause-holds : goal.returns-in-Sent-clause-holds
returns-in-Sent-clause-holds g c = rw c.note.ensures.items (served_again _ _ _ _ _ _ c.args.frame.now c.send.new.self _ _ c.requires.holds c.args.worker c.args.task c.requires.fits c.requires.going Sent (Send c.args.channel c.take_part-part.result) (c.requires.need.1 ∙ ap (λ z. Some (Send c.args.channel z)) (sym (c.take_part-part.ensures.part c.args.channel c.requires.need.0 c.requires.need.1))) (own_is g.B.Rows.rows _ _ (g.T.RunTask.number c.args.task) (Send c.args.channel c.take_part-part.result) c.requires.holds.shape (c.requires.own (Send c.args.channel c.requires.need.0) c.requires.need.1)) refl (λ z e. cc) c.number-number.result c.number-number.ensures c.in-Sent.ensures.answer c.vouch.ensures.marks Go refl refl).holds

pub returns-in-Sent-clause-next : goal.returns-in-Sent-clause-next
returns-in-Sent-clause-next g c = rw c.note.ensures.items ((served_again _ _ _ _ _ _ c.args.frame.now c.send.new.self _ _ c.requires.holds c.args.worker c.args.task c.requires.fits c.requires.going Sent (Send c.args.channel c.take_part-part.result) (c.requires.need.1 ∙ ap (λ z. Some (Send c.args.channel z)) (sym (c.take_part-part.ensures.part c.args.channel c.requires.need.0 c.requires.need.1))) (own_is g.B.Rows.rows _ _ (g.T.RunTask.number c.args.task) (Send c.args.channel c.take_part-part.result) c.requires.holds.shape (c.requires.own (Send c.args.channel c.requires.need.0) c.requires.need.1)) refl (λ z e. cc) c.number-number.result c.number-number.ensures c.in-Sent.ensures.answer c.vouch.ensures.marks Go refl refl).next c.part_answered.new.self (c.part_answered.ensures c.args.task c.take_part-part.ensures.lent))

pub returns-in-Sent-clause-room : goal.returns-in-Sent-clause-room
returns-in-Sent-clause-room g c = room_enough c.send.new.self.frame.failure c.args.tasks.now.items (length c.args.tasks.now.items) (vec_len c.note.new.acts) (vec_capacity c.note.new.acts) (omega arith)
    (omega (arith, c.requires.more, c.note.ensures.len, c.note.ensures.capacity))

pub returns-in-Dropped-clause-holds : goal.returns-in-Dropped-clause-holds
returns-in-Dropped-clause-holds g c = rw c.note-in-Dropped.ensures.items (served_again _ _ _ _ _ _ c.args.frame.now c.send.new.self _ _ c.requires.holds c.args.worker c.args.task c.requires.fits c.requires.going Dropped (Send c.args.channel c.take_part-part.result) (c.requires.need.1 ∙ ap (λ z. Some (Send c.args.channel z)) (sym (c.take_part-part.ensures.part c.args.channel c.requires.need.0 c.requires.need.1))) (own_is g.B.Rows.rows _ _ (g.T.RunTask.number c.args.task) (Send c.args.channel c.take_part-part.result) c.requires.holds.shape (c.requires.own (Send c.args.channel c.requires.need.0) c.requires.need.1)) refl (λ z e. cc) c.number-number.result c.number-number.ensures c.in-Dropped.ensures.answer.2 c.vouch.ensures.marks (Gone c.in-Dropped.last) refl (ap (λ b. Some (Gone b)) (none_live_is c.args.frame.now.frame (task_at c.args.frame.now.shape c.number-number.result).sends ∙ sym c.in-Dropped.ensures.answer.1))).holds

pub returns-in-Dropped-clause-next : goal.returns-in-Dropped-clause-next
returns-in-Dropped-clause-next g c = rw c.note-in-Dropped.ensures.items ((served_again _ _ _ _ _ _ c.args.frame.now c.send.new.self _ _ c.requires.holds c.args.worker c.args.task c.requires.fits c.requires.going Dropped (Send c.args.channel c.take_part-part.result) (c.requires.need.1 ∙ ap (λ z. Some (Send c.args.channel z)) (sym (c.take_part-part.ensures.part c.args.channel c.requires.need.0 c.requires.need.1))) (own_is g.B.Rows.rows _ _ (g.T.RunTask.number c.args.task) (Send c.args.channel c.take_part-part.result) c.requires.holds.shape (c.requires.own (Send c.args.channel c.requires.need.0) c.requires.need.1)) refl (λ z e. cc) c.number-number.result c.number-number.ensures c.in-Dropped.ensures.answer.2 c.vouch.ensures.marks (Gone c.in-Dropped.last) refl (ap (λ b. Some (Gone b)) (none_live_is c.args.frame.now.frame (task_at c.args.frame.now.shape c.number-number.result).sends ∙ sym c.in-Dropped.ensures.answer.1))).next c.part_answered-in-Dropped.new.self (c.part_answered-in-Dropped.ensures c.args.task c.take_part-part.ensures.lent))

pub returns-in-Dropped-clause-room : goal.returns-in-Dropped-clause-room
returns-in-Dropped-clause-room g c = room_enough c.send.new.self.frame.failure c.args.tasks.now.items (length c.args.tasks.now.items) (vec_len c.note-in-Dropped.new.acts) (vec_capacity c.note-in-Dropped.new.acts) (omega arith)
    (omega (arith, c.requires.more, c.note-in-Dropped.ensures.len, c.note-in-Dropped.ensures.capacity))

pub put_at-requires-clause-within : goal.put_at-requires-clause-within
put_at-requires-clause-within g c = rw c.number-number.ensures (within _ _ _ _ _ _ c.args.frame.now.shape c.args.frame.now.frame _ _ c.requires.holds c.args.worker c.args.task c.requires.fits)

pub put_at-requires-clause-none : goal.put_at-requires-clause-none
put_at-requires-clause-none g c = rw c.number-number.ensures (none_here _ _ _ _ _ _ c.args.frame.now.shape c.args.frame.now.frame _ _ c.requires.holds c.args.worker c.args.task c.requires.fits)

pub returns-in-Held-clause-holds : goal.returns-in-Held-clause-holds
returns-in-Held-clause-holds g c = rw (c.put_at.ensures, c.note-in-Held.ensures.items) (served_parks _ _ _ _ _ _ c.args.frame.now c.send.new.self _ _ c.requires.holds c.args.worker c.put_part.new.self (same_fits {B = g.row.B.Denot} g.B.Rows.rows _ _ _ _ _ c.args.task c.put_part.new.self c.args.worker c.args.acts.now.items c.requires.fits (c.put_part.ensures c.args.task c.args.channel c.take_part-part.ensures.lent ((c.requires.need.1 ∙ ap (λ z. Some (Send c.args.channel z)) (sym (c.take_part-part.ensures.part c.args.channel c.requires.need.0 c.requires.need.1))) ∙ ap (λ z. Some (Send c.args.channel (g.B.Rows.rows z))) (sym c.in-Held.ensures.answer.0)))) c.requires.going Held (Send c.args.channel c.take_part-part.result) ((c.put_part.ensures c.args.task c.args.channel c.take_part-part.ensures.lent ((c.requires.need.1 ∙ ap (λ z. Some (Send c.args.channel z)) (sym (c.take_part-part.ensures.part c.args.channel c.requires.need.0 c.requires.need.1))) ∙ ap (λ z. Some (Send c.args.channel (g.B.Rows.rows z))) (sym c.in-Held.ensures.answer.0))).same_need ∙ (c.requires.need.1 ∙ ap (λ z. Some (Send c.args.channel z)) (sym (c.take_part-part.ensures.part c.args.channel c.requires.need.0 c.requires.need.1)))) (subst (λ j. IsOwn c.args.frame.now.shape j (Send c.args.channel c.take_part-part.result)) (sym (c.put_part.ensures c.args.task c.args.channel c.take_part-part.ensures.lent ((c.requires.need.1 ∙ ap (λ z. Some (Send c.args.channel z)) (sym (c.take_part-part.ensures.part c.args.channel c.requires.need.0 c.requires.need.1))) ∙ ap (λ z. Some (Send c.args.channel (g.B.Rows.rows z))) (sym c.in-Held.ensures.answer.0))).same_number) (own_is g.B.Rows.rows _ _ (g.T.RunTask.number c.args.task) (Send c.args.channel c.take_part-part.result) c.requires.holds.shape (c.requires.own (Send c.args.channel c.requires.need.0) c.requires.need.1))) refl (λ z e. cc) c.number-number.result (c.number-number.ensures ∙ sym (c.put_part.ensures c.args.task c.args.channel c.take_part-part.ensures.lent ((c.requires.need.1 ∙ ap (λ z. Some (Send c.args.channel z)) (sym (c.take_part-part.ensures.part c.args.channel c.requires.need.0 c.requires.need.1))) ∙ ap (λ z. Some (Send c.args.channel (g.B.Rows.rows z))) (sym c.in-Held.ensures.answer.0))).same_number) c.in-Held.ensures.answer.1 refl refl).holds

pub returns-in-Held-clause-next : goal.returns-in-Held-clause-next
returns-in-Held-clause-next g c = rw c.note-in-Held.ensures.items (served_parks _ _ _ _ _ _ c.args.frame.now c.send.new.self _ _ c.requires.holds c.args.worker c.put_part.new.self (same_fits {B = g.row.B.Denot} g.B.Rows.rows _ _ _ _ _ c.args.task c.put_part.new.self c.args.worker c.args.acts.now.items c.requires.fits (c.put_part.ensures c.args.task c.args.channel c.take_part-part.ensures.lent ((c.requires.need.1 ∙ ap (λ z. Some (Send c.args.channel z)) (sym (c.take_part-part.ensures.part c.args.channel c.requires.need.0 c.requires.need.1))) ∙ ap (λ z. Some (Send c.args.channel (g.B.Rows.rows z))) (sym c.in-Held.ensures.answer.0)))) c.requires.going Held (Send c.args.channel c.take_part-part.result) ((c.put_part.ensures c.args.task c.args.channel c.take_part-part.ensures.lent ((c.requires.need.1 ∙ ap (λ z. Some (Send c.args.channel z)) (sym (c.take_part-part.ensures.part c.args.channel c.requires.need.0 c.requires.need.1))) ∙ ap (λ z. Some (Send c.args.channel (g.B.Rows.rows z))) (sym c.in-Held.ensures.answer.0))).same_need ∙ (c.requires.need.1 ∙ ap (λ z. Some (Send c.args.channel z)) (sym (c.take_part-part.ensures.part c.args.channel c.requires.need.0 c.requires.need.1)))) (subst (λ j. IsOwn c.args.frame.now.shape j (Send c.args.channel c.take_part-part.result)) (sym (c.put_part.ensures c.args.task c.args.channel c.take_part-part.ensures.lent ((c.requires.need.1 ∙ ap (λ z. Some (Send c.args.channel z)) (sym (c.take_part-part.ensures.part c.args.channel c.requires.need.0 c.requires.need.1))) ∙ ap (λ z. Some (Send c.args.channel (g.B.Rows.rows z))) (sym c.in-Held.ensures.answer.0))).same_number) (own_is g.B.Rows.rows _ _ (g.T.RunTask.number c.args.task) (Send c.args.channel c.take_part-part.result) c.requires.holds.shape (c.requires.own (Send c.args.channel c.requires.need.0) c.requires.need.1))) refl (λ z e. cc) c.number-number.result (c.number-number.ensures ∙ sym (c.put_part.ensures c.args.task c.args.channel c.take_part-part.ensures.lent ((c.requires.need.1 ∙ ap (λ z. Some (Send c.args.channel z)) (sym (c.take_part-part.ensures.part c.args.channel c.requires.need.0 c.requires.need.1))) ∙ ap (λ z. Some (Send c.args.channel (g.B.Rows.rows z))) (sym c.in-Held.ensures.answer.0))).same_number) c.in-Held.ensures.answer.1 refl refl).free

pub returns-in-Held-clause-room : goal.returns-in-Held-clause-room
returns-in-Held-clause-room g c = rw (c.put_at.ensures, c.number-number.ensures)
    (room_back c.args.frame.now.frame.failure c.send.new.self.frame.failure c.args.tasks.now.items (g.T.RunTask.number c.args.task) c.put_part.new.self (vec_len c.args.acts.now) (vec_capacity c.args.acts.now) (vec_len c.note-in-Held.new.acts) (vec_capacity c.note-in-Held.new.acts)
    c.requires.going (within _ _ _ _ _ _ c.args.frame.now.shape c.args.frame.now.frame _ _ c.requires.holds c.args.worker c.args.task c.requires.fits) (none_here _ _ _ _ _ _ c.args.frame.now.shape c.args.frame.now.frame _ _ c.requires.holds c.args.worker c.args.task c.requires.fits) c.requires.room c.note-in-Held.ensures.len c.note-in-Held.ensures.capacity)

pub fail_with-requires-clause-fits : goal.fail_with-requires-clause-fits
fail_with-requires-clause-fits g c = same_fits {B = g.row.B.Denot} g.B.Rows.rows _ _ _ _ _ c.args.task c.put_part-in-NoMemory.new.self c.args.worker c.args.acts.now.items c.requires.fits (c.put_part-in-NoMemory.ensures c.args.task c.args.channel c.take_part-part.ensures.lent ((c.requires.need.1 ∙ ap (λ z. Some (Send c.args.channel z)) (sym (c.take_part-part.ensures.part c.args.channel c.requires.need.0 c.requires.need.1))) ∙ ap (λ z. Some (Send c.args.channel (g.B.Rows.rows z))) (sym c.in-NoMemory.ensures.answer.0)))
