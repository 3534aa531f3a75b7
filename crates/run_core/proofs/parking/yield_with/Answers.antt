use Rattle.std.proofs.Common.{◌≡◌, Some, refl, subst, vec_len, vec_capacity}
use Rattle.turn_cell.proofs.Loans.{loan_after}
use Rattle.turn_cell.specs.declared.act.Act.TheVariants.{Made}
use Rattle.run_journal.specs.declared.entry.EntryKind.TheVariants.{Yielded}
use Rattle.core_frame.specs.Step.{Scan, frame_step}
use Rattle.run_core.proofs.Stored.{room_back}
use Rattle.run_core.proofs.Turns.{entry_by, owned, within, none_here, yielded_holds}
use Rattle.run_core.proofs.parking.yield_with.Goals as goal

pub yield_back-requires-clause-owned : goal.yield_back-requires-clause-owned
yield_back-requires-clause-owned g c = rw c.number-number.ensures (owned _ _ _ _ _ _ c.args.frame.now.shape c.args.frame.now.frame _ _ c.requires.holds c.args.worker c.args.task c.requires.fits)

pub put_at-requires-clause-within : goal.put_at-requires-clause-within
put_at-requires-clause-within g c = rw c.number-number.ensures (within _ _ _ _ _ _ c.args.frame.now.shape c.args.frame.now.frame _ _ c.requires.holds c.args.worker c.args.task c.requires.fits)

pub put_at-requires-clause-none : goal.put_at-requires-clause-none
put_at-requires-clause-none g c = rw c.number-number.ensures (none_here _ _ _ _ _ _ c.args.frame.now.shape c.args.frame.now.frame _ _ c.requires.holds c.args.worker c.args.task c.requires.fits)

pub returns-clause-holds : goal.returns-clause-holds
returns-clause-holds g c =
    let i = subst (λ j. frame_step c.args.frame.now.shape c.args.frame.now.frame (entry_by c.args.worker j Yielded) Scan ≡ Some c.yield_back.new.self.frame) c.number-number.ensures (c.yield_back.ensures.step Scan) in
    rw (c.yield_back.ensures.shape, c.put_at.ensures, c.note.ensures.items, c.number-number.ensures) (yielded_holds _ _ _ _ _ _ c.args.frame.now.shape c.args.frame.now.frame _ _ c.requires.holds c.args.worker c.args.task c.requires.fits c.yield_back.new.self.frame c.requires.need c.requires.going i)

pub returns-clause-free : goal.returns-clause-free
returns-clause-free g c = rw c.note.ensures.items (loan_after c.args.worker c.args.acts.now.items (Made (entry_by c.args.worker c.number-number.result Yielded)) refl)

pub returns-clause-room : goal.returns-clause-room
returns-clause-room g c = rw (c.put_at.ensures, c.number-number.ensures)
    (room_back c.args.frame.now.frame.failure c.yield_back.new.self.frame.failure c.args.tasks.now.items (g.T.RunTask.number c.args.task) c.args.task (vec_len c.args.acts.now) (vec_capacity c.args.acts.now) (vec_len c.note.new.acts) (vec_capacity c.note.new.acts)
    c.requires.going (within _ _ _ _ _ _ c.args.frame.now.shape c.args.frame.now.frame _ _ c.requires.holds c.args.worker c.args.task c.requires.fits) (none_here _ _ _ _ _ _ c.args.frame.now.shape c.args.frame.now.frame _ _ c.requires.holds c.args.worker c.args.task c.requires.fits) c.requires.room c.note.ensures.len c.note.ensures.capacity)
