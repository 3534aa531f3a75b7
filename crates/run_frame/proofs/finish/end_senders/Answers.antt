use Rattle.std.proofs.Common.{ℕ, ◌+◌, ◌<◌, get_or, drop, ap, sym, ◌∙◌, refl, arith}
use Rattle.gate_channels.specs.Gate.{ended}
use Rattle.task_shape.specs.Shape.{width}
use Rattle.core_frame.specs.Step.{ends_in}
use Rattle.run_frame.specs.Running.{frame_of}
use Rattle.run_frame.specs.Leaving.{bare}
use Rattle.run_frame.proofs.Serves.{width_inside}
use Rattle.run_frame.proofs.Leaving.{next_inside, next_unended, ends_rest, ends_step, call_channel, call_apart, call_frame, call_rooms}
use Rattle.run_frame.proofs.finish.end_senders.Goals as goal

pub index_mut-requires : goal.index_mut-requires
index_mut-requires g c =
    let i = c.loop-channel.channel-index in
    let ts = c.args.targets.now in
    let kept = c.loop-channel.invariant.ends in
    let at : ℕ = get_or ts i 0 in
    let wide : at < width kept.shape c.args.group = next_inside c.loop-channel.groups.items c.loop-channel.woken c.args.group i ts c.loop-channel-test.true kept in
    omega (arith, (width_inside kept.shape c.loop-channel.groups.items c.args.group at (bare c.loop-channel.groups.items c.loop-channel.woken.tasks kept.places) refl kept.stands.frame wide).0, c.loop-channel.groups.ok.0)

pub end_sender-requires-clause-inside : goal.end_sender-requires-clause-inside
end_sender-requires-clause-inside g c =
    let i = c.loop-channel.channel-index in
    let ts = c.args.targets.now in
    let kept = c.loop-channel.invariant.ends in
    let at : ℕ = get_or ts i 0 in
    let wide : at < width kept.shape c.args.group = next_inside c.loop-channel.groups.items c.loop-channel.woken c.args.group i ts c.loop-channel-test.true kept in
    call_channel kept.shape kept.places c.loop-channel.groups.items c.index_mut.result.now c.index_mut.result.now c.args.group at c.loop-channel.woken c.loop-channel.woken (λ y. ended y at) kept.stands wide c.index_mut.ensures.value

pub end_sender-requires-clause-unended : goal.end_sender-requires-clause-unended
end_sender-requires-clause-unended g c =
    let i = c.loop-channel.channel-index in
    let ts = c.args.targets.now in
    let kept = c.loop-channel.invariant.ends in
    let at : ℕ = get_or ts i 0 in
    let wide : at < width kept.shape c.args.group = next_inside c.loop-channel.groups.items c.loop-channel.woken c.args.group i ts c.loop-channel-test.true kept in
    next_unended c.loop-channel.groups.items c.index_mut.result.now c.loop-channel.woken c.args.group i ts c.loop-channel-test.true kept c.index_mut.ensures.value

pub end_sender-requires-clause-apart : goal.end_sender-requires-clause-apart
end_sender-requires-clause-apart g c =
    let i = c.loop-channel.channel-index in
    let ts = c.args.targets.now in
    let kept = c.loop-channel.invariant.ends in
    let at : ℕ = get_or ts i 0 in
    let wide : at < width kept.shape c.args.group = next_inside c.loop-channel.groups.items c.loop-channel.woken c.args.group i ts c.loop-channel-test.true kept in
    call_apart kept.shape kept.places c.loop-channel.groups.items c.index_mut.result.now c.index_mut.result.now c.args.group at c.loop-channel.woken c.loop-channel.woken (λ y. ended y at) kept.stands wide c.index_mut.ensures.value

pub loop-channel-preserved : goal.loop-channel-preserved
loop-channel-preserved g c =
    let i = c.loop-channel.channel-index in
    let ts = c.args.targets.now in
    let kept = c.loop-channel.invariant.ends in
    let at : ℕ = get_or ts i 0 in
    let wide : at < width kept.shape c.args.group = next_inside c.loop-channel.groups.items c.loop-channel.woken c.args.group i ts c.loop-channel-test.true kept in
    record {
      ends = ends_rest c.loop-channel.groups.items c.index_mut.result.now c.end_sender.new.self c.loop-channel.woken c.end_sender.new.woken c.args.group i ts c.loop-channel-test.true kept c.index_mut.ensures.value c.end_sender.ensures.moves c.end_sender.ensures.size;
      frame = λ pool places progress failure.
          ap (ends_in c.args.group (drop (i + 1) ts)) (call_frame kept.shape kept.places c.loop-channel.groups.items c.index_mut.result.now c.end_sender.new.self c.args.group at c.loop-channel.woken c.end_sender.new.woken (λ y. ended y at) kept.stands wide c.index_mut.ensures.value c.end_sender.ensures.moves pool places progress failure)
          ∙ (sym (ends_step c.args.group ts i (frame_of c.loop-channel.groups.items pool c.loop-channel.woken.tasks places progress failure) c.loop-channel-test.true) ∙ c.loop-channel.invariant.frame pool places progress failure);
      rooms = call_rooms kept.shape kept.places c.loop-channel.groups.items c.index_mut.result.now c.end_sender.new.self c.args.group at c.loop-channel.woken c.end_sender.new.woken (λ y. ended y at) kept.stands wide c.index_mut.ensures.value c.end_sender.ensures.size ∙ c.loop-channel.invariant.rooms;
      queue = c.end_sender.ensures.size.queue_room ∙ c.loop-channel.invariant.queue;
    }
