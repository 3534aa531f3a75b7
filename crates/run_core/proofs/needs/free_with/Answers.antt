use Rattle.std.proofs.Common.{length, refl, arith, vec_len, vec_capacity}
use Rattle.run_journal.specs.declared.entry.EntryKind.TheVariants.{Freed}
use Rattle.core_frame.specs.Step.{Free}
use Rattle.history_laws.specs.Histories.{Go}
use Rattle.run_core.proofs.Stored.{room_enough}
use Rattle.run_core.proofs.Turns.{owned}
use Rattle.run_core.proofs.Served.{served_again, own_is}
use Rattle.run_core.proofs.needs.free_with.Goals as goal

pub free-requires-clause-owned : goal.free-requires-clause-owned
free-requires-clause-owned g c = rw c.number-number.ensures (owned _ _ _ _ _ _ c.args.frame.now.shape c.args.frame.now.frame _ _ c.requires.holds c.args.worker c.args.task c.requires.fits)

pub free-requires-clause-own : goal.free-requires-clause-own
free-requires-clause-own g c = rw c.number-number.ensures (own_is g.B.Rows.rows _ _ (g.T.RunTask.number c.args.task) (Free c.args.consumer c.requires.need.0) c.requires.holds.shape (c.requires.own _ c.requires.need.1))

pub returns-clause-holds : goal.returns-clause-holds
returns-clause-holds g c = rw c.note.ensures.items (served_again _ _ _ _ _ _ c.args.frame.now c.free.new.self _ _ c.requires.holds c.args.worker c.args.task c.requires.fits c.requires.going Freed (Free c.args.consumer c.requires.need.0) c.requires.need.1 (own_is g.B.Rows.rows _ _ (g.T.RunTask.number c.args.task) (Free c.args.consumer c.requires.need.0) c.requires.holds.shape (c.requires.own _ c.requires.need.1)) refl (λ z e. cc) c.number-number.result c.number-number.ensures (c.free.ensures c.requires.need.0) c.vouch.ensures.marks Go refl refl).holds

pub returns-clause-next : goal.returns-clause-next
returns-clause-next g c = rw c.note.ensures.items ((served_again _ _ _ _ _ _ c.args.frame.now c.free.new.self _ _ c.requires.holds c.args.worker c.args.task c.requires.fits c.requires.going Freed (Free c.args.consumer c.requires.need.0) c.requires.need.1 (own_is g.B.Rows.rows _ _ (g.T.RunTask.number c.args.task) (Free c.args.consumer c.requires.need.0) c.requires.holds.shape (c.requires.own _ c.requires.need.1)) refl (λ z e. cc) c.number-number.result c.number-number.ensures (c.free.ensures c.requires.need.0) c.vouch.ensures.marks Go refl refl).next c.reply.new.self c.reply.ensures)

pub returns-clause-room : goal.returns-clause-room
returns-clause-room g c = room_enough c.free.new.self.frame.failure c.args.tasks.now.items (length c.args.tasks.now.items) (vec_len c.note.new.acts) (vec_capacity c.note.new.acts) (omega arith)
    (omega (arith, c.requires.more, c.note.ensures.len, c.note.ensures.capacity))
