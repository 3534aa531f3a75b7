use Rattle.std.proofs.Common.{ℕ, ◌≡◌, refl, sym, subst, List, length, Bool, rules, arith}
use Rattle.std.proofs.lemmas.List.{with_items_is}
use Rattle.std.specs.Vec.{with_items}
use Rattle.tree_laws.specs.Operators.{Op, Told}
use Rattle.tree_laws.specs.Trees.{Tree, poll}
use Rattle.task_stations.specs.declared.scan.Scan.{Scan}
use Rattle.task_stations.specs.declared.station.Station.{Station}
use Rattle.task_stations.specs.declared.needs.Step.{Step}
use Rattle.task_stations.specs.declared.needs.Step.TheVariants as step
use Rattle.task_stations.specs.declared.task.Put.{Put}
use Rattle.task_stations.specs.declared.task.Put.TheVariants as put
use Rattle.task_stations.specs.Scans.{IsScan}
use Rattle.task_stations.specs.Stands.{Stands, Asked, StepIs}
use Rattle.task_stations.specs.Turns.{IsExit, Took}
use Rattle.task_stations.proofs.TaskTurns.{put_by}
use Rattle.task_stations.proofs.task.tree_turn.Goals as goal

pub returns-in-Cut-clause-is : goal.returns-in-Cut-clause-is
returns-in-Cut-clause-is g c = λ first k is no_header l n.
    let K : g.row.T.Denot → Op → Told → ℕ → Type 0 = g.T.Operator.stands in
    let L : Scan g.row.F.Denot → Tree → Type 0 = IsScan g.F.RowFile.source g.F.RowFile.left c.args.most in
    let E : Bool → Type 0 = λ z. IsExit g.C.Splitter.cuts g.S.RowSink.lines first c.args.task.now.exit k.split z k.batches k.output in
    let S : List (Station g.row.T.Denot g.row.F.Denot) → Type 0 = λ z. Stands K L z k.tree in
    let P : Step → Type 0 = λ z. StepIs (Stands K L c.step.new.stations) (Asked K L c.step.new.stations) k.tree (poll c.args.most k.tree) z in
    let W : List (Station g.row.T.Denot g.row.F.Denot) → Type 0 = λ z. StepIs (Stands K L z) (Asked K L z) k.tree (poll c.args.most k.tree) (step.Gives c.in-Gives.batch) in
    let long : length c.step.new.stations ≡ c.args.task.now.stations.len = first_of (search rules, omega arith) in
    let same : (with_items c.args.task.now.stations c.step.new.stations).items ≡ c.step.new.stations = with_items_is c.args.task.now.stations c.step.new.stations long in
    let Q : Put → Type 0 = Took g.C.Splitter.cuts g.S.RowSink.lines first c.put_out.new.exit k.split k.batches k.output c.in-Gives.batch.rows in
    put_by g.C.Splitter.cuts g.S.RowSink.lines first K L c.args.task.now (record c.args.task.now { stations = with_items c.args.task.now.stations c.step.new.stations; exit = c.put_out.new.exit; parts = c.turned.result }) k c.in-Gives.batch is no_header refl refl k.split (poll c.args.most k.tree) (put.Cut c.in-Cut.parts) refl
    (subst W (sym same) (subst P c.in-Gives.is (c.in_ok-batch.ensures.is k.tree (subst S (sym c.as_mut_slice.ensures.value) is.tree))))
    (subst Q c.in-Cut.is (c.in_ok-parts-in-Gives.ensures first k.split k.batches k.output (subst E no_header is.exit)))
    c.turned.ensures

pub returns-in-Written-clause-is : goal.returns-in-Written-clause-is
returns-in-Written-clause-is g c = λ first k is no_header l n.
    let K : g.row.T.Denot → Op → Told → ℕ → Type 0 = g.T.Operator.stands in
    let L : Scan g.row.F.Denot → Tree → Type 0 = IsScan g.F.RowFile.source g.F.RowFile.left c.args.most in
    let E : Bool → Type 0 = λ z. IsExit g.C.Splitter.cuts g.S.RowSink.lines first c.args.task.now.exit k.split z k.batches k.output in
    let S : List (Station g.row.T.Denot g.row.F.Denot) → Type 0 = λ z. Stands K L z k.tree in
    let P : Step → Type 0 = λ z. StepIs (Stands K L c.step.new.stations) (Asked K L c.step.new.stations) k.tree (poll c.args.most k.tree) z in
    let W : List (Station g.row.T.Denot g.row.F.Denot) → Type 0 = λ z. StepIs (Stands K L z) (Asked K L z) k.tree (poll c.args.most k.tree) (step.Gives c.in-Gives.batch) in
    let long : length c.step.new.stations ≡ c.args.task.now.stations.len = first_of (search rules, omega arith) in
    let same : (with_items c.args.task.now.stations c.step.new.stations).items ≡ c.step.new.stations = with_items_is c.args.task.now.stations c.step.new.stations long in
    let Q : Put → Type 0 = Took g.C.Splitter.cuts g.S.RowSink.lines first c.put_out.new.exit k.split k.batches k.output c.in-Gives.batch.rows in
    put_by g.C.Splitter.cuts g.S.RowSink.lines first K L c.args.task.now (record c.args.task.now { stations = with_items c.args.task.now.stations c.step.new.stations; exit = c.put_out.new.exit }) k c.in-Gives.batch is no_header refl refl k.split (poll c.args.most k.tree) put.Written refl
    (subst W (sym same) (subst P c.in-Gives.is (c.in_ok-batch.ensures.is k.tree (subst S (sym c.as_mut_slice.ensures.value) is.tree))))
    (subst Q c.in-Written.is (c.in_ok-parts-in-Gives.ensures first k.split k.batches k.output (subst E no_header is.exit)))
    is.parts
