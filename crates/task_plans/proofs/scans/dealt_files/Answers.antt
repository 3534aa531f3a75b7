use Rattle.std.proofs.Common.{◌≡◌, ℕ, ◌+◌, ◌-◌, ◌*◌, ◌^◌, ◌<◌, ◌≤◌, List, [], ◌∷◌, ◌++◌, ap, ◌∙◌, arith}
use Rattle.std.proofs.Math.Nat.{mod-eq_of_lt}
use Rattle.task_plans.specs.declared.station.ScanFile.{ScanFile}
use Rattle.task_plans.specs.Dealt.{dealt_from}
use Rattle.task_plans.proofs.Dealing.{starts, dealt_step, own_step}
use Rattle.task_plans.proofs.scans.dealt_files.Goals as goal

pub loop-number-init : goal.loop-number-init
loop-number-init c = record {
  own = λ h. mod-eq_of_lt c.if-partition-partitions.false;
  rest = ap (λ (xs : List ScanFile). xs ++ dealt_from c.args.source c.args.files c.args.partitions c.args.partition c.args.partition) c.new-all.ensures
      ∙ starts c.args.source c.args.files c.args.partitions c.args.partition c.if-partition-partitions.false;
}

pub loop-number-preserved : goal.loop-number-preserved
loop-number-preserved c =
    let own = c.loop-number.invariant.own c.loop-number-test.true in
    let next_at = c.saturating_add-number.result in
    let within : c.args.files ≤ 2 ^ 32 - 1 = omega arith in
    record {
      own = λ h. own_step c.args.source c.args.files c.args.partitions c.args.partition c.loop-number.number next_at (2 ^ 32 - 1) within own c.saturating_add-number.ensures h;
      rest = ap (λ (xs : List ScanFile). xs ++ dealt_from c.args.source c.args.files c.args.partitions c.args.partition next_at)
          (c.in_ok-push.ensures.ok ∙ ap (λ (s : ℕ). c.loop-number.all ++ record { number = c.loop-number.number; source = s } ∷ []) c.in_ok-source.ensures)
          ∙ dealt_step c.args.source c.args.files c.args.partitions c.args.partition c.loop-number.all c.loop-number.number next_at (2 ^ 32 - 1)
          c.if-partition-partitions.false c.loop-number-test.true within own c.saturating_add-number.ensures c.loop-number.invariant.rest;
    }
