use Rattle.std.proofs.Common.{rules, subst, true, ◌≡◌, Option}
use Rattle.task_stations.specs.declared.task.Ask.{Ask}
use Rattle.task_stations.specs.Scans.{IsScan}
use Rattle.task_stations.specs.Turns.{IsTask, IsAsked, is_turn_named}
use Rattle.task_stations.proofs.TaskTurns.{preserved, settled_at}
use Rattle.task_stations.proofs.task.advance.Goals as goal

pub returns-in-Some-clause-is : goal.returns-in-Some-clause-is
returns-in-Some-clause-is g c =
    settled_at c.args.most
    (λ first. IsTask g.C.Splitter.cuts g.S.RowSink.lines first g.T.Operator.stands (IsScan g.F.RowFile.source g.F.RowFile.left c.args.most) c.loop-turns.task)
    (λ first. IsTask g.C.Splitter.cuts g.S.RowSink.lines first g.T.Operator.stands (IsScan g.F.RowFile.source g.F.RowFile.left c.args.most) c.turn.new.task)
    (λ first. IsAsked g.C.Splitter.cuts g.S.RowSink.lines first g.T.Operator.stands (IsScan g.F.RowFile.source g.F.RowFile.left c.args.most) c.turn.new.task)
    (λ first. IsTask g.C.Splitter.cuts g.S.RowSink.lines first g.T.Operator.stands (IsScan g.F.RowFile.source g.F.RowFile.left c.args.most) c.args.task.now)
    c.loop-turns.turns c.loop-turns.invariant.0 c.in_ok-ask.field-0 _ c.in-Some.is (search rules) c.in_ok-ask.ensures.is

pub loop-turns-preserved : goal.loop-turns-preserved
loop-turns-preserved g c = (
  preserved c.args.most
      (λ first. IsTask g.C.Splitter.cuts g.S.RowSink.lines first g.T.Operator.stands (IsScan g.F.RowFile.source g.F.RowFile.left c.args.most) c.loop-turns.task)
      (λ first. IsTask g.C.Splitter.cuts g.S.RowSink.lines first g.T.Operator.stands (IsScan g.F.RowFile.source g.F.RowFile.left c.args.most) c.turn.new.task)
      (λ first. IsAsked g.C.Splitter.cuts g.S.RowSink.lines first g.T.Operator.stands (IsScan g.F.RowFile.source g.F.RowFile.left c.args.most) c.turn.new.task)
      (λ first. IsTask g.C.Splitter.cuts g.S.RowSink.lines first g.T.Operator.stands (IsScan g.F.RowFile.source g.F.RowFile.left c.args.most) c.args.task.now)
      c.loop-turns.turns c.loop-turns.invariant.0 c.in_ok-ask.field-0 c.in-None.is c.in_ok-ask.ensures.is,
  (λ r h k. (c.in_ok-ask.ensures.own r h (c.loop-turns.invariant.1 r h k)).0),
)

pub returns-in-Some-clause-own : goal.returns-in-Some-clause-own
returns-in-Some-clause-own g c = λ r h k.
    let o = c.in_ok-ask.ensures.own r h (c.loop-turns.invariant.1 r h k) in
    let P : Option Ask → Type 0 = λ z. is_turn_named r h z ≡ true in
    (o.0, subst P c.in-Some.is o.1)
