use Rattle.std.proofs.Common.{ℕ, List, [], ◌<◌, length, sym, subst, arith}
use Rattle.std.proofs.lemmas.Result.{on_ok_weaker}
use Rattle.run_frame.proofs.Starts.{mapped_at, counts_set}
use Rattle.run_frame.proofs.start.count_in.Goals as goal

pub count_targets-requires : goal.count_targets-requires
count_targets-requires c =
    let long : c.args.at < length c.args.senders.now.items = omega (arith, c.if-at-len.true, c.len.ensures, c.args.senders.now.ok.0) in
    record { inside = λ k h. subst (λ (row : List ℕ). k < length row) (sym (mapped_at c.args.senders.now.items c.args.at c.index_mut.result.now (λ s. s.items) [] long c.index_mut.ensures.value)) (c.requires.inside k h long) }

pub returns-then-at-len : goal.returns-then-at-len
returns-then-at-len c =
    let long : c.args.at < length c.args.senders.now.items = omega (arith, c.if-at-len.true, c.len.ensures, c.args.senders.now.ok.0) in
    on_ok_weaker c.count_targets.result (counts_set c.args.senders.now.items c.args.at c.index_mut.result.now c.count_targets.new.senders (λ s. s.items) c.args.targets.now long c.index_mut.ensures.value c.count_targets.ensures.long) c.count_targets.ensures.counts
