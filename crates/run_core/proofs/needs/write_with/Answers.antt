use Rattle.std.proofs.Common.{length, refl, arith, vec_len, vec_capacity}
use Rattle.run_journal.specs.declared.entry.EntryKind.TheVariants.{Wrote}
use Rattle.core_frame.specs.Step.{Writes}
use Rattle.history_laws.specs.Histories.{Go}
use Rattle.run_core.proofs.Stored.{room_enough}
use Rattle.run_core.proofs.Turns.{owned}
use Rattle.run_core.proofs.Served.{served_again}
use Rattle.run_core.proofs.needs.write_with.Goals as goal

pub go_on-requires-clause-owned : goal.go_on-requires-clause-owned
go_on-requires-clause-owned g c = rw c.number-number.ensures (owned _ _ _ _ _ _ c.args.frame.now.shape c.args.frame.now.frame _ _ c.requires.holds c.args.worker c.args.task c.requires.fits)

pub returns-clause-holds : goal.returns-clause-holds
returns-clause-holds g c = rw c.note.ensures.items (served_again _ _ _ _ _ _ c.args.frame.now c.go_on.new.self _ _ c.requires.holds c.args.worker c.args.task c.requires.fits c.requires.going Wrote Writes c.requires.need tt refl (λ z e. cc) c.number-number.result c.number-number.ensures c.go_on.ensures.wrote c.vouch.ensures.marks Go refl refl).holds

pub returns-clause-next : goal.returns-clause-next
returns-clause-next g c = rw c.note.ensures.items ((served_again _ _ _ _ _ _ c.args.frame.now c.go_on.new.self _ _ c.requires.holds c.args.worker c.args.task c.requires.fits c.requires.going Wrote Writes c.requires.need tt refl (λ z e. cc) c.number-number.result c.number-number.ensures c.go_on.ensures.wrote c.vouch.ensures.marks Go refl refl).next c.reply.new.self c.reply.ensures)

pub returns-clause-room : goal.returns-clause-room
returns-clause-room g c = room_enough c.go_on.new.self.frame.failure c.args.tasks.now.items (length c.args.tasks.now.items) (vec_len c.note.new.acts) (vec_capacity c.note.new.acts) (omega arith)
    (omega (arith, c.requires.more, c.note.ensures.len, c.note.ensures.capacity))
