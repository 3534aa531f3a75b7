use Rattle.std.proofs.Common.{length, refl, arith, vec_len, vec_capacity}
use Rattle.run_journal.specs.declared.entry.EntryKind.TheVariants.{Granted, Refused, Failed}
use Rattle.core_frame.specs.Step.{Grow}
use Rattle.history_laws.specs.Histories.{Go, Refused as ReplyRefused}
use Rattle.run_core.proofs.Stored.{room_enough, room_back}
use Rattle.run_core.proofs.Turns.{owned, within, none_here}
use Rattle.run_core.proofs.Served.{served_again, served_parks, own_is, past_asks}
use Rattle.run_core.proofs.needs.grow_with.Goals as goal

pub grow-requires-clause-owned : goal.grow-requires-clause-owned
grow-requires-clause-owned g c = rw c.number-number.ensures (owned _ _ _ _ _ _ c.args.frame.now.shape c.args.frame.now.frame _ _ c.requires.holds c.args.worker c.args.task c.requires.fits)

pub grow-requires-clause-own : goal.grow-requires-clause-own
grow-requires-clause-own g c = rw c.number-number.ensures (own_is g.B.Rows.rows _ _ (g.T.RunTask.number c.args.task) (Grow c.args.consumer c.args.bytes) c.requires.holds.shape (c.requires.own _ c.requires.need))

pub returns-in-Granted-clause-holds : goal.returns-in-Granted-clause-holds
returns-in-Granted-clause-holds g c = rw c.note.ensures.items (served_again _ _ _ _ _ _ c.args.frame.now c.grow.new.self _ _ c.requires.holds c.args.worker c.args.task c.requires.fits c.requires.going Granted (Grow c.args.consumer c.args.bytes) c.requires.need (own_is g.B.Rows.rows _ _ (g.T.RunTask.number c.args.task) (Grow c.args.consumer c.args.bytes) c.requires.holds.shape (c.requires.own _ c.requires.need)) refl (λ z e. cc) c.number-number.result c.number-number.ensures c.in-Granted.ensures c.vouch.ensures.marks Go refl refl).holds

pub returns-in-Granted-clause-next : goal.returns-in-Granted-clause-next
returns-in-Granted-clause-next g c = rw c.note.ensures.items ((served_again _ _ _ _ _ _ c.args.frame.now c.grow.new.self _ _ c.requires.holds c.args.worker c.args.task c.requires.fits c.requires.going Granted (Grow c.args.consumer c.args.bytes) c.requires.need (own_is g.B.Rows.rows _ _ (g.T.RunTask.number c.args.task) (Grow c.args.consumer c.args.bytes) c.requires.holds.shape (c.requires.own _ c.requires.need)) refl (λ z e. cc) c.number-number.result c.number-number.ensures c.in-Granted.ensures c.vouch.ensures.marks Go refl refl).next c.reply.new.self c.reply.ensures)

pub returns-in-Granted-clause-room : goal.returns-in-Granted-clause-room
returns-in-Granted-clause-room g c = room_enough c.grow.new.self.frame.failure c.args.tasks.now.items (length c.args.tasks.now.items) (vec_len c.note.new.acts) (vec_capacity c.note.new.acts) (omega arith)
    (omega (arith, c.requires.more, c.note.ensures.len, c.note.ensures.capacity))

pub returns-in-Refused-clause-holds : goal.returns-in-Refused-clause-holds
returns-in-Refused-clause-holds g c = rw c.note-in-Refused.ensures.items (served_again _ _ _ _ _ _ c.args.frame.now c.grow.new.self _ _ c.requires.holds c.args.worker c.args.task c.requires.fits c.requires.going Refused (Grow c.args.consumer c.args.bytes) c.requires.need (own_is g.B.Rows.rows _ _ (g.T.RunTask.number c.args.task) (Grow c.args.consumer c.args.bytes) c.requires.holds.shape (c.requires.own _ c.requires.need)) refl (λ z e. cc) c.number-number.result c.number-number.ensures c.in-Refused.ensures c.vouch.ensures.marks ReplyRefused refl refl).holds

pub returns-in-Refused-clause-next : goal.returns-in-Refused-clause-next
returns-in-Refused-clause-next g c = rw c.note-in-Refused.ensures.items ((served_again _ _ _ _ _ _ c.args.frame.now c.grow.new.self _ _ c.requires.holds c.args.worker c.args.task c.requires.fits c.requires.going Refused (Grow c.args.consumer c.args.bytes) c.requires.need (own_is g.B.Rows.rows _ _ (g.T.RunTask.number c.args.task) (Grow c.args.consumer c.args.bytes) c.requires.holds.shape (c.requires.own _ c.requires.need)) refl (λ z e. cc) c.number-number.result c.number-number.ensures c.in-Refused.ensures c.vouch.ensures.marks ReplyRefused refl refl).next c.reply-in-Refused.new.self c.reply-in-Refused.ensures)

pub returns-in-Refused-clause-room : goal.returns-in-Refused-clause-room
returns-in-Refused-clause-room g c = room_enough c.grow.new.self.frame.failure c.args.tasks.now.items (length c.args.tasks.now.items) (vec_len c.note-in-Refused.new.acts) (vec_capacity c.note-in-Refused.new.acts) (omega arith)
    (omega (arith, c.requires.more, c.note-in-Refused.ensures.len, c.note-in-Refused.ensures.capacity))

pub put_at-requires-clause-within : goal.put_at-requires-clause-within
put_at-requires-clause-within g c = rw c.number-number.ensures (within _ _ _ _ _ _ c.args.frame.now.shape c.args.frame.now.frame _ _ c.requires.holds c.args.worker c.args.task c.requires.fits)

pub put_at-requires-clause-none : goal.put_at-requires-clause-none
put_at-requires-clause-none g c = rw c.number-number.ensures (none_here _ _ _ _ _ _ c.args.frame.now.shape c.args.frame.now.frame _ _ c.requires.holds c.args.worker c.args.task c.requires.fits)

pub returns-in-Failed-clause-holds : goal.returns-in-Failed-clause-holds
returns-in-Failed-clause-holds g c = rw (c.put_at.ensures, c.note-in-Failed.ensures.items) (served_parks _ _ _ _ _ _ c.args.frame.now c.grow.new.self _ _ c.requires.holds c.args.worker c.args.task c.requires.fits c.requires.going (Failed c.in-Failed.cause) (Grow c.args.consumer c.args.bytes) c.requires.need (own_is g.B.Rows.rows _ _ (g.T.RunTask.number c.args.task) (Grow c.args.consumer c.args.bytes) c.requires.holds.shape (c.requires.own _ c.requires.need)) (past_asks c.args.frame.now.frame c.number-number.result c.args.consumer c.args.bytes _ _ c.in-Failed.cause c.in-Failed.ensures.kind) (λ z e. cc) c.number-number.result c.number-number.ensures c.in-Failed.ensures refl refl).holds

pub returns-in-Failed-clause-next : goal.returns-in-Failed-clause-next
returns-in-Failed-clause-next g c = rw c.note-in-Failed.ensures.items (served_parks _ _ _ _ _ _ c.args.frame.now c.grow.new.self _ _ c.requires.holds c.args.worker c.args.task c.requires.fits c.requires.going (Failed c.in-Failed.cause) (Grow c.args.consumer c.args.bytes) c.requires.need (own_is g.B.Rows.rows _ _ (g.T.RunTask.number c.args.task) (Grow c.args.consumer c.args.bytes) c.requires.holds.shape (c.requires.own _ c.requires.need)) (past_asks c.args.frame.now.frame c.number-number.result c.args.consumer c.args.bytes _ _ c.in-Failed.cause c.in-Failed.ensures.kind) (λ z e. cc) c.number-number.result c.number-number.ensures c.in-Failed.ensures refl refl).free

pub returns-in-Failed-clause-room : goal.returns-in-Failed-clause-room
returns-in-Failed-clause-room g c = rw (c.put_at.ensures, c.number-number.ensures)
    (room_back c.args.frame.now.frame.failure c.grow.new.self.frame.failure c.args.tasks.now.items (g.T.RunTask.number c.args.task) c.args.task (vec_len c.args.acts.now) (vec_capacity c.args.acts.now) (vec_len c.note-in-Failed.new.acts) (vec_capacity c.note-in-Failed.new.acts)
    c.requires.going (within _ _ _ _ _ _ c.args.frame.now.shape c.args.frame.now.frame _ _ c.requires.holds c.args.worker c.args.task c.requires.fits) (none_here _ _ _ _ _ _ c.args.frame.now.shape c.args.frame.now.frame _ _ c.requires.holds c.args.worker c.args.task c.requires.fits) c.requires.room c.note-in-Failed.ensures.len c.note-in-Failed.ensures.capacity)
