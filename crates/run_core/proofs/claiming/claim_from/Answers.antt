use Rattle.std.proofs.Common.{ap, rules, ◌≡◌, ◌+◌, ◌<◌, ◌≤◌, length, sym, ◌∙◌, subst, arith, vec_len, vec_capacity}
use Rattle.std.proofs.Math.ListN.{length-set}
use Rattle.run_journal.specs.declared.cause.Cause.TheVariants.{NoMemory}
use Rattle.core_frame.specs.Step.{Scan}
use Rattle.run_laws.proofs.Loans.{loans_free}
use Rattle.run_core.specs.Room.{HasRoom}
use Rattle.run_core.proofs.Stored.{room_enough, room_failed}
use Rattle.run_core.proofs.Claims.{going_on, failed_failure, failed_over, woken_there, idle_owner}
use Rattle.run_core.proofs.Turns.{is_here, failure_holds, failure_free, claim_holds, claim_fits}
use Rattle.std.specs.Prelude.{slice_index, nat_lt, if◌then◌else◌}
use Rattle.run_core.proofs.claiming.claim_from.Goals as goal

pub returns-then-woken-eq0-clause-idle : goal.returns-then-woken-eq0-clause-idle
returns-then-woken-eq0-clause-idle g c = idle_owner c.args.frame.now.shape c.args.frame.now.frame c.args.acts.now.items c.vouch.ensures.good c.requires.holds.run.loans (sym c.is_over.ensures ∙ c.if-is_over.false) (sym c.woken-woken.ensures ∙ c.if-woken-eq0.true)

pub fail_claim-task-requires-clause-free : goal.fail_claim-task-requires-clause-free
fail_claim-task-requires-clause-free g c = loans_free c.args.frame.now.frame c.args.acts.now.items c.args.worker c.requires.holds.run.loans (going_on c.args.frame.now.frame (sym c.is_over.ensures ∙ c.if-is_over.false)) c.requires.free

pub claim_at-number-requires-clause-free : goal.claim_at-number-requires-clause-free
claim_at-number-requires-clause-free g c = loans_free c.args.frame.now.frame c.args.acts.now.items c.args.worker c.requires.holds.run.loans (going_on c.args.frame.now.frame (sym c.is_over.ensures ∙ c.if-is_over.false)) c.requires.free

pub returns-then-not-make_room-clause-holds : goal.returns-then-not-make_room-clause-holds
returns-then-not-make_room-clause-holds g c =
    rw (c.fail_claim-task.ensures.shape, c.note.ensures.items, c.make_room.ensures.items)
    (failure_holds _ _ _ _ _ _ c.args.frame.now.shape c.args.frame.now.frame _ _ c.requires.holds c.args.worker c.fail_claim-task.result (going_on c.args.frame.now.frame (sym c.is_over.ensures ∙ c.if-is_over.false)) (woken_there c.args.frame.now.shape c.args.frame.now.frame c.place_in-place.result c.fail_claim-task.result c.vouch.ensures.good (subst (λ n. c.place_in-place.result < n) c.woken-woken.ensures c.place_in-place.ensures.inside) c.fail_claim-task.ensures.task) c.requires.free c.fail_claim-task.new.self.frame (c.fail_claim-task.ensures.step Scan)
    (rw c.fail_claim-task.ensures.frame (failed_failure c.args.frame.now.frame NoMemory)))

pub returns-then-not-make_room-clause-answer : goal.returns-then-not-make_room-clause-answer
returns-then-not-make_room-clause-answer g c = (
  rw (c.note.ensures.items, c.make_room.ensures.items) (failure_free _ _ _ _ _ _ c.args.frame.now.shape c.args.frame.now.frame _ _ c.requires.holds c.args.worker c.fail_claim-task.result (going_on c.args.frame.now.frame (sym c.is_over.ensures ∙ c.if-is_over.false)) (woken_there c.args.frame.now.shape c.args.frame.now.frame c.place_in-place.result c.fail_claim-task.result c.vouch.ensures.good (subst (λ n. c.place_in-place.result < n) c.woken-woken.ensures c.place_in-place.ensures.inside) c.fail_claim-task.ensures.task) c.requires.free),
  rw c.fail_claim-task.ensures.frame (failed_over c.args.frame.now.frame NoMemory),
)

pub returns-then-not-make_room-clause-room : goal.returns-then-not-make_room-clause-room
returns-then-not-make_room-clause-room g c =
    rw c.fail_claim-task.ensures.frame (subst (λ o. HasRoom o c.args.tasks.now.items (vec_len c.note.new.acts) (vec_capacity c.note.new.acts)) (sym (failed_failure c.args.frame.now.frame NoMemory))
    (room_failed c.args.frame.now.frame.failure NoMemory c.args.tasks.now.items (vec_len c.args.acts.now) (vec_capacity c.args.acts.now) (vec_len c.note.new.acts) (vec_capacity c.note.new.acts)
    (going_on c.args.frame.now.frame (sym c.is_over.ensures ∙ c.if-is_over.false)) c.requires.room
    (omega (arith, c.note.ensures.len, c.make_room.ensures.len)) (omega (arith, c.note.ensures.capacity, c.make_room.ensures.capacity))))

pub take_at-task-requires : goal.take_at-task-requires
take_at-task-requires g c = record {
  there = is_here _ _ _ _ _ _ c.args.frame.now.shape c.args.frame.now.frame _ _ c.requires.holds c.args.worker c.claim_at-number.result (going_on c.args.frame.now.frame (sym c.is_over.ensures ∙ c.if-is_over.false))
      (woken_there c.args.frame.now.shape c.args.frame.now.frame c.place_in-place.result c.claim_at-number.result c.vouch.ensures.good (subst (λ n. c.place_in-place.result < n) c.woken-woken.ensures c.place_in-place.ensures.inside) c.claim_at-number.ensures.task) c.requires.free;
}

pub returns-clause-holds : goal.returns-clause-holds
returns-clause-holds g c =
    rw (c.claim_at-number.ensures.shape, c.take_at-task.ensures.gone, c.note-2.ensures.items, c.make_room.ensures.items)
    (claim_holds _ _ _ _ _ _ c.args.frame.now.shape c.args.frame.now.frame _ _ c.requires.holds c.args.worker c.claim_at-number.result (going_on c.args.frame.now.frame (sym c.is_over.ensures ∙ c.if-is_over.false))
    (woken_there c.args.frame.now.shape c.args.frame.now.frame c.place_in-place.result c.claim_at-number.result c.vouch.ensures.good (subst (λ n. c.place_in-place.result < n) c.woken-woken.ensures c.place_in-place.ensures.inside) c.claim_at-number.ensures.task) c.requires.free c.claim_at-number.new.self.frame (c.claim_at-number.ensures.step Scan) c.take_at-task.result c.take_at-task.ensures.was)

pub returns-clause-answer : goal.returns-clause-answer
returns-clause-answer g c =
    let fits = claim_fits _ _ _ _ _ _ c.args.frame.now.shape c.args.frame.now.frame _ _ c.requires.holds c.args.worker c.claim_at-number.result (going_on c.args.frame.now.frame (sym c.is_over.ensures ∙ c.if-is_over.false))
    (woken_there c.args.frame.now.shape c.args.frame.now.frame c.place_in-place.result c.claim_at-number.result c.vouch.ensures.good (subst (λ n. c.place_in-place.result < n) c.woken-woken.ensures c.place_in-place.ensures.inside) c.claim_at-number.ensures.task) c.requires.free c.claim_at-number.new.self.frame (c.claim_at-number.ensures.step Scan) c.take_at-task.result c.take_at-task.ensures.was in
    rw (c.note-2.ensures.items, c.make_room.ensures.items) (fits.loan, fits)

pub returns-clause-room : goal.returns-clause-room
returns-clause-room g c =
    let e : length c.args.tasks.now.items ≡ vec_len c.args.tasks.now = search rules in
    let s : length c.take_at-task.new.tasks.items ≡ vec_len c.args.tasks.now = rw c.take_at-task.ensures.gone (length-set _ _ _ ∙ e) in
    let l : c.len.result ≡ vec_len c.args.tasks.now = c.len.ensures in
    let r : vec_len c.make_room.new.acts + (c.len.result + 2) ≤ vec_capacity c.make_room.new.acts = c.make_room.ensures.room c.if-not-make_room.false in
    room_enough c.claim_at-number.new.self.frame.failure c.take_at-task.new.tasks.items (vec_len c.args.tasks.now) (vec_len c.note-2.new.acts) (vec_capacity c.note-2.new.acts) (omega (arith, s))
    (omega (arith, r, l, c.note-2.ensures.len, c.note-2.ensures.capacity))

pub returns-clause-task : goal.returns-clause-task
returns-clause-task g c =
    c.requires.holds.stored.numbered c.claim_at-number.result c.take_at-task.result c.take_at-task.ensures.was
    ∙ (c.claim_at-number.ensures.task ∙ ap (slice_index c.args.frame.now.frame.queue) (c.place_in-place.ensures.place ∙ ap (λ n. if nat_lt c.args.at n then c.args.at else 0) c.woken-woken.ensures))
