use Rattle.std.proofs.Common.{ℕ, ◌+◌, ◌<◌, get_or, drop, ap, sym, ◌∙◌, refl, arith}
use Rattle.gate_channels.specs.Gate.{dropped}
use Rattle.task_shape.specs.Shape.{width}
use Rattle.core_frame.specs.Step.{drops}
use Rattle.run_frame.specs.Running.{frame_of}
use Rattle.run_frame.specs.Leaving.{bare}
use Rattle.run_frame.proofs.Serves.{width_inside}
use Rattle.run_frame.proofs.Leaving.{names_at, drops_step, call_channel, call_apart, call_frame, call_stands, call_rooms, drops_effect}
use Rattle.run_frame.proofs.finish.drop_receivers.Goals as goal

pub index_mut-requires : goal.index_mut-requires
index_mut-requires g c =
    let i = c.loop-pair.pair-index in
    let xs = c.args.receives.now in
    let at : ℕ × ℕ = get_or xs i (0, 0) in
    let kept = c.loop-pair.invariant.leaves in
    let wide : at.1 < width kept.shape at.0 = kept.inside at.0 at.1 (names_at xs i (0, 0) c.loop-pair-test.true) in
    omega (arith, (width_inside kept.shape c.loop-pair.groups.items at.0 at.1 (bare c.loop-pair.groups.items c.loop-pair.woken.tasks kept.places) refl kept.stands.frame wide).0, c.loop-pair.groups.ok.0)

pub drop_receiver-requires-clause-inside : goal.drop_receiver-requires-clause-inside
drop_receiver-requires-clause-inside g c =
    let i = c.loop-pair.pair-index in
    let xs = c.args.receives.now in
    let at : ℕ × ℕ = get_or xs i (0, 0) in
    let kept = c.loop-pair.invariant.leaves in
    let wide : at.1 < width kept.shape at.0 = kept.inside at.0 at.1 (names_at xs i (0, 0) c.loop-pair-test.true) in
    call_channel kept.shape kept.places c.loop-pair.groups.items c.index_mut.result.now c.index_mut.result.now at.0 at.1 c.loop-pair.woken c.loop-pair.woken (λ y. dropped y at.1) kept.stands wide c.index_mut.ensures.value

pub drop_receiver-requires-clause-apart : goal.drop_receiver-requires-clause-apart
drop_receiver-requires-clause-apart g c =
    let i = c.loop-pair.pair-index in
    let xs = c.args.receives.now in
    let at : ℕ × ℕ = get_or xs i (0, 0) in
    let kept = c.loop-pair.invariant.leaves in
    let wide : at.1 < width kept.shape at.0 = kept.inside at.0 at.1 (names_at xs i (0, 0) c.loop-pair-test.true) in
    call_apart kept.shape kept.places c.loop-pair.groups.items c.index_mut.result.now c.index_mut.result.now at.0 at.1 c.loop-pair.woken c.loop-pair.woken (λ y. dropped y at.1) kept.stands wide c.index_mut.ensures.value

pub loop-pair-preserved : goal.loop-pair-preserved
loop-pair-preserved g c =
    let i = c.loop-pair.pair-index in
    let xs = c.args.receives.now in
    let at : ℕ × ℕ = get_or xs i (0, 0) in
    let kept = c.loop-pair.invariant.leaves in
    let wide : at.1 < width kept.shape at.0 = kept.inside at.0 at.1 (names_at xs i (0, 0) c.loop-pair-test.true) in
    record {
      leaves = record {
        shape = kept.shape;
        places = kept.places;
        stands = call_stands kept.shape kept.places c.loop-pair.groups.items c.index_mut.result.now c.drop_receiver.new.self at.0 at.1 c.loop-pair.woken c.drop_receiver.new.woken (λ y. dropped y at.1) kept.stands wide c.index_mut.ensures.value (drops_effect kept.shape kept.places c.loop-pair.groups.items c.index_mut.result.now c.drop_receiver.new.self at.0 at.1 c.loop-pair.woken c.drop_receiver.new.woken (λ y. dropped y at.1) kept.stands wide c.index_mut.ensures.value) c.drop_receiver.ensures.moves c.drop_receiver.ensures.size;
        inside = kept.inside;
      };
      frame = λ pool places progress failure.
          ap (drops (drop (i + 1) xs)) (call_frame kept.shape kept.places c.loop-pair.groups.items c.index_mut.result.now c.drop_receiver.new.self at.0 at.1 c.loop-pair.woken c.drop_receiver.new.woken (λ y. dropped y at.1) kept.stands wide c.index_mut.ensures.value c.drop_receiver.ensures.moves pool places progress failure)
          ∙ (sym (drops_step xs i (0, 0) (frame_of c.loop-pair.groups.items pool c.loop-pair.woken.tasks places progress failure) c.loop-pair-test.true) ∙ c.loop-pair.invariant.frame pool places progress failure);
      rooms = call_rooms kept.shape kept.places c.loop-pair.groups.items c.index_mut.result.now c.drop_receiver.new.self at.0 at.1 c.loop-pair.woken c.drop_receiver.new.woken (λ y. dropped y at.1) kept.stands wide c.index_mut.ensures.value c.drop_receiver.ensures.size ∙ c.loop-pair.invariant.rooms;
      queue = c.drop_receiver.ensures.size.queue_room ∙ c.loop-pair.invariant.queue;
    }
