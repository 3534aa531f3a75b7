use Rattle.std.proofs.Common.{length, refl, ap, arith, vec_len, vec_capacity}
use Rattle.run_journal.specs.declared.entry.EntryKind.TheVariants.{Received, Empty, Ended}
use Rattle.core_frame.specs.Step.{Recv}
use Rattle.history_laws.specs.Histories.{Batch, Ended as ReplyEnded, first_batch}
use Rattle.run_core.proofs.Stored.{room_enough, room_back}
use Rattle.run_core.proofs.Turns.{owned, within, none_here}
use Rattle.run_core.proofs.Served.{served_again, served_parks, own_is}
use Rattle.run_core.proofs.needs.receive_with.Goals as goal

pub receive-requires-clause-owned : goal.receive-requires-clause-owned
receive-requires-clause-owned g c = rw c.number-number.ensures (owned _ _ _ _ _ _ c.args.frame.now.shape c.args.frame.now.frame _ _ c.requires.holds c.args.worker c.args.task c.requires.fits)

pub receive-requires-clause-own : goal.receive-requires-clause-own
receive-requires-clause-own g c = rw c.number-number.ensures (own_is g.B.Rows.rows _ _ (g.T.RunTask.number c.args.task) (Recv c.args.group c.args.channel) c.requires.holds.shape (c.requires.own _ c.requires.need))

pub returns-in-Batch-clause-holds : goal.returns-in-Batch-clause-holds
returns-in-Batch-clause-holds g c = rw c.note.ensures.items (served_again _ _ _ _ _ _ c.args.frame.now c.receive.new.self _ _ c.requires.holds c.args.worker c.args.task c.requires.fits c.requires.going Received (Recv c.args.group c.args.channel) c.requires.need (own_is g.B.Rows.rows _ _ (g.T.RunTask.number c.args.task) (Recv c.args.group c.args.channel) c.requires.holds.shape (c.requires.own _ c.requires.need)) refl (λ z e. cc) c.number-number.result c.number-number.ensures c.in-Batch.ensures.answer.0 c.vouch.ensures.marks (Batch c.in-Batch.batch) refl (ap first_batch c.in-Batch.ensures.answer.1.1)).holds

pub returns-in-Batch-clause-next : goal.returns-in-Batch-clause-next
returns-in-Batch-clause-next g c = rw c.note.ensures.items ((served_again _ _ _ _ _ _ c.args.frame.now c.receive.new.self _ _ c.requires.holds c.args.worker c.args.task c.requires.fits c.requires.going Received (Recv c.args.group c.args.channel) c.requires.need (own_is g.B.Rows.rows _ _ (g.T.RunTask.number c.args.task) (Recv c.args.group c.args.channel) c.requires.holds.shape (c.requires.own _ c.requires.need)) refl (λ z e. cc) c.number-number.result c.number-number.ensures c.in-Batch.ensures.answer.0 c.vouch.ensures.marks (Batch c.in-Batch.batch) refl (ap first_batch c.in-Batch.ensures.answer.1.1)).next c.reply.new.self c.reply.ensures)

pub returns-in-Batch-clause-room : goal.returns-in-Batch-clause-room
returns-in-Batch-clause-room g c = room_enough c.receive.new.self.frame.failure c.args.tasks.now.items (length c.args.tasks.now.items) (vec_len c.note.new.acts) (vec_capacity c.note.new.acts) (omega arith)
    (omega (arith, c.requires.more, c.note.ensures.len, c.note.ensures.capacity))

pub returns-in-Ended-clause-holds : goal.returns-in-Ended-clause-holds
returns-in-Ended-clause-holds g c = rw c.note-in-Ended.ensures.items (served_again _ _ _ _ _ _ c.args.frame.now c.receive.new.self _ _ c.requires.holds c.args.worker c.args.task c.requires.fits c.requires.going Ended (Recv c.args.group c.args.channel) c.requires.need (own_is g.B.Rows.rows _ _ (g.T.RunTask.number c.args.task) (Recv c.args.group c.args.channel) c.requires.holds.shape (c.requires.own _ c.requires.need)) refl (λ z e. cc) c.number-number.result c.number-number.ensures c.in-Ended.ensures.answer c.vouch.ensures.marks ReplyEnded refl refl).holds

pub returns-in-Ended-clause-next : goal.returns-in-Ended-clause-next
returns-in-Ended-clause-next g c = rw c.note-in-Ended.ensures.items ((served_again _ _ _ _ _ _ c.args.frame.now c.receive.new.self _ _ c.requires.holds c.args.worker c.args.task c.requires.fits c.requires.going Ended (Recv c.args.group c.args.channel) c.requires.need (own_is g.B.Rows.rows _ _ (g.T.RunTask.number c.args.task) (Recv c.args.group c.args.channel) c.requires.holds.shape (c.requires.own _ c.requires.need)) refl (λ z e. cc) c.number-number.result c.number-number.ensures c.in-Ended.ensures.answer c.vouch.ensures.marks ReplyEnded refl refl).next c.reply-in-Ended.new.self c.reply-in-Ended.ensures)

pub returns-in-Ended-clause-room : goal.returns-in-Ended-clause-room
returns-in-Ended-clause-room g c = room_enough c.receive.new.self.frame.failure c.args.tasks.now.items (length c.args.tasks.now.items) (vec_len c.note-in-Ended.new.acts) (vec_capacity c.note-in-Ended.new.acts) (omega arith)
    (omega (arith, c.requires.more, c.note-in-Ended.ensures.len, c.note-in-Ended.ensures.capacity))

pub put_at-requires-clause-within : goal.put_at-requires-clause-within
put_at-requires-clause-within g c = rw c.number-number.ensures (within _ _ _ _ _ _ c.args.frame.now.shape c.args.frame.now.frame _ _ c.requires.holds c.args.worker c.args.task c.requires.fits)

pub put_at-requires-clause-none : goal.put_at-requires-clause-none
put_at-requires-clause-none g c = rw c.number-number.ensures (none_here _ _ _ _ _ _ c.args.frame.now.shape c.args.frame.now.frame _ _ c.requires.holds c.args.worker c.args.task c.requires.fits)

pub returns-in-Empty-clause-holds : goal.returns-in-Empty-clause-holds
returns-in-Empty-clause-holds g c = rw (c.put_at.ensures, c.note-in-Empty.ensures.items) (served_parks _ _ _ _ _ _ c.args.frame.now c.receive.new.self _ _ c.requires.holds c.args.worker c.args.task c.requires.fits c.requires.going Empty (Recv c.args.group c.args.channel) c.requires.need (own_is g.B.Rows.rows _ _ (g.T.RunTask.number c.args.task) (Recv c.args.group c.args.channel) c.requires.holds.shape (c.requires.own _ c.requires.need)) refl (λ z e. cc) c.number-number.result c.number-number.ensures c.in-Empty.ensures.answer refl refl).holds

pub returns-in-Empty-clause-next : goal.returns-in-Empty-clause-next
returns-in-Empty-clause-next g c = rw c.note-in-Empty.ensures.items (served_parks _ _ _ _ _ _ c.args.frame.now c.receive.new.self _ _ c.requires.holds c.args.worker c.args.task c.requires.fits c.requires.going Empty (Recv c.args.group c.args.channel) c.requires.need (own_is g.B.Rows.rows _ _ (g.T.RunTask.number c.args.task) (Recv c.args.group c.args.channel) c.requires.holds.shape (c.requires.own _ c.requires.need)) refl (λ z e. cc) c.number-number.result c.number-number.ensures c.in-Empty.ensures.answer refl refl).free

pub returns-in-Empty-clause-room : goal.returns-in-Empty-clause-room
returns-in-Empty-clause-room g c = rw (c.put_at.ensures, c.number-number.ensures)
    (room_back c.args.frame.now.frame.failure c.receive.new.self.frame.failure c.args.tasks.now.items (g.T.RunTask.number c.args.task) c.args.task (vec_len c.args.acts.now) (vec_capacity c.args.acts.now) (vec_len c.note-in-Empty.new.acts) (vec_capacity c.note-in-Empty.new.acts)
    c.requires.going (within _ _ _ _ _ _ c.args.frame.now.shape c.args.frame.now.frame _ _ c.requires.holds c.args.worker c.args.task c.requires.fits) (none_here _ _ _ _ _ _ c.args.frame.now.shape c.args.frame.now.frame _ _ c.requires.holds c.args.worker c.args.task c.requires.fits) c.requires.room c.note-in-Empty.ensures.len c.note-in-Empty.ensures.capacity)
