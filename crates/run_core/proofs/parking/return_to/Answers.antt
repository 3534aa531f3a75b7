use Rattle.std.proofs.Common.{vec_len, vec_capacity}
use Rattle.run_core.proofs.Stored.{room_returned, room_left, some_cause}
use Rattle.run_core.proofs.Turns.{within, none_here, returned_holds, returned_free}
use Rattle.run_core.proofs.parking.return_to.Goals as goal

pub note-requires : goal.note-requires
note-requires g c = room_left c.args.frame.now.frame.failure c.args.tasks.now.items (g.T.RunTask.number c.args.task) c.args.task (vec_len c.args.acts.now) (vec_capacity c.args.acts.now) (within _ _ _ _ _ _ c.args.frame.now.shape c.args.frame.now.frame _ _ c.requires.holds c.args.worker c.args.task c.requires.fits) (none_here _ _ _ _ _ _ c.args.frame.now.shape c.args.frame.now.frame _ _ c.requires.holds c.args.worker c.args.task c.requires.fits) c.requires.room

pub put_at-requires-clause-within : goal.put_at-requires-clause-within
put_at-requires-clause-within g c = rw c.number-number.ensures (within _ _ _ _ _ _ c.args.frame.now.shape c.args.frame.now.frame _ _ c.requires.holds c.args.worker c.args.task c.requires.fits)

pub put_at-requires-clause-none : goal.put_at-requires-clause-none
put_at-requires-clause-none g c = rw c.number-number.ensures (none_here _ _ _ _ _ _ c.args.frame.now.shape c.args.frame.now.frame _ _ c.requires.holds c.args.worker c.args.task c.requires.fits)

pub returns-clause-holds : goal.returns-clause-holds
returns-clause-holds g c =
    let f = some_cause c.args.frame.now.frame.failure c.requires.failed in
    rw (c.put_at.ensures, c.note.ensures.items, c.number-number.ensures) (returned_holds _ _ _ _ _ _ c.args.frame.now.shape c.args.frame.now.frame _ _ c.requires.holds c.args.worker c.args.task c.requires.fits f.0 f.1)

pub returns-clause-free : goal.returns-clause-free
returns-clause-free g c = rw (c.note.ensures.items, c.number-number.ensures) (returned_free _ _ _ _ _ _ c.args.frame.now.shape c.args.frame.now.frame _ _ c.requires.holds c.args.worker c.args.task c.requires.fits)

pub returns-clause-room : goal.returns-clause-room
returns-clause-room g c =
    let f = some_cause c.args.frame.now.frame.failure c.requires.failed in
    rw (c.put_at.ensures, c.number-number.ensures)
    (room_returned c.args.frame.now.frame.failure f.0 c.args.tasks.now.items (g.T.RunTask.number c.args.task) c.args.task (vec_len c.args.acts.now) (vec_capacity c.args.acts.now) (vec_len c.note.new.acts) (vec_capacity c.note.new.acts)
    f.1 (within _ _ _ _ _ _ c.args.frame.now.shape c.args.frame.now.frame _ _ c.requires.holds c.args.worker c.args.task c.requires.fits) (none_here _ _ _ _ _ _ c.args.frame.now.shape c.args.frame.now.frame _ _ c.requires.holds c.args.worker c.args.task c.requires.fits) c.requires.room c.note.ensures.len c.note.ensures.capacity)
