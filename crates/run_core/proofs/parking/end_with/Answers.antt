use Rattle.std.proofs.Common.{refl, vec_len, vec_capacity}
use Rattle.run_journal.specs.declared.entry.EntryKind.TheVariants.{Finished}
use Rattle.core_frame.specs.Step.{Finish}
use Rattle.run_core.proofs.Stored.{room_back}
use Rattle.run_core.proofs.Turns.{owned, within, none_here}
use Rattle.run_core.proofs.Served.{served_parks}
use Rattle.run_core.proofs.parking.end_with.Goals as goal

pub finish-requires-clause-owned : goal.finish-requires-clause-owned
finish-requires-clause-owned g c = rw c.number-number.ensures (owned _ _ _ _ _ _ c.args.frame.now.shape c.args.frame.now.frame _ _ c.requires.holds c.args.worker c.args.task c.requires.fits)

pub put_at-requires-clause-within : goal.put_at-requires-clause-within
put_at-requires-clause-within g c = rw c.number-number.ensures (within _ _ _ _ _ _ c.args.frame.now.shape c.args.frame.now.frame _ _ c.requires.holds c.args.worker c.args.task c.requires.fits)

pub put_at-requires-clause-none : goal.put_at-requires-clause-none
put_at-requires-clause-none g c = rw c.number-number.ensures (none_here _ _ _ _ _ _ c.args.frame.now.shape c.args.frame.now.frame _ _ c.requires.holds c.args.worker c.args.task c.requires.fits)

pub returns-clause-holds : goal.returns-clause-holds
returns-clause-holds g c = rw (c.put_at.ensures, c.note.ensures.items) (served_parks _ _ _ _ _ _ c.args.frame.now c.finish.new.self _ _ c.requires.holds c.args.worker c.args.task c.requires.fits c.requires.going Finished Finish c.requires.need tt refl (λ z e. cc) c.number-number.result c.number-number.ensures c.finish.ensures refl refl).holds

pub returns-clause-free : goal.returns-clause-free
returns-clause-free g c = rw c.note.ensures.items (served_parks _ _ _ _ _ _ c.args.frame.now c.finish.new.self _ _ c.requires.holds c.args.worker c.args.task c.requires.fits c.requires.going Finished Finish c.requires.need tt refl (λ z e. cc) c.number-number.result c.number-number.ensures c.finish.ensures refl refl).free

pub returns-clause-room : goal.returns-clause-room
returns-clause-room g c = rw (c.put_at.ensures, c.number-number.ensures)
    (room_back c.args.frame.now.frame.failure c.finish.new.self.frame.failure c.args.tasks.now.items (g.T.RunTask.number c.args.task) c.args.task (vec_len c.args.acts.now) (vec_capacity c.args.acts.now) (vec_len c.note.new.acts) (vec_capacity c.note.new.acts)
    c.requires.going (within _ _ _ _ _ _ c.args.frame.now.shape c.args.frame.now.frame _ _ c.requires.holds c.args.worker c.args.task c.requires.fits) (none_here _ _ _ _ _ _ c.args.frame.now.shape c.args.frame.now.frame _ _ c.requires.holds c.args.worker c.args.task c.requires.fits) c.requires.room c.note.ensures.len c.note.ensures.capacity)
