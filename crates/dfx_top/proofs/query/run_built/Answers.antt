use Rattle.dfx_top.proofs.QueryEnds.{told_ok, told_err, scans, own_few}
use Rattle.dfx_top.proofs.query.run_built.Goals as goal

pub returns-in-Ok-clause-told : goal.returns-in-Ok-clause-told
returns-in-Ok-clause-told g c all before ft kt = told_ok {A = Unit {0}} all before c.args.prepared.now _ _ c.args.paths.now c.requires.paths c.requires.built (scans c.args.prepared.now c.requires.parts.chain).0 (scans c.args.prepared.now c.requires.parts.chain).1 (own_few c.args.prepared.now c.args.paths.now c.requires.paths c.requires.few) c.in-Ok.field-0
    (record {
      ran = λ s is. c.in-Ok.ensures.ran s all before is ft kt;
      part = λ s is. c.in-Ok.ensures.part s all before is ft kt;
      met = λ s tables is has. c.in-Ok.ensures.met s all before tables is ft kt has;
      complete = λ s tables is has there clean q. c.in-Ok.ensures.complete s all before tables is ft kt has there clean q.0 q.1;
    })

pub returns-in-Err-clause-told : goal.returns-in-Err-clause-told
returns-in-Err-clause-told g c all before ft kt = told_err {A = Unit {0}} all before c.args.prepared.now _ _ c.args.paths.now c.requires.paths c.requires.built (scans c.args.prepared.now c.requires.parts.chain).0 (scans c.args.prepared.now c.requires.parts.chain).1 (own_few c.args.prepared.now c.args.paths.now c.requires.paths c.requires.few) c.in-Err.refused c.run_failure.result
    (record {
      ran = λ s is. c.in-Err.ensures.ran s all before is ft kt;
      part = λ s is. c.in-Err.ensures.part s all before is ft kt;
      met = λ s tables is has. c.in-Err.ensures.met s all before tables is ft kt has;
      complete = λ s tables is has there clean q. c.in-Err.ensures.complete s all before tables is ft kt has there clean q.0 q.1;
    }) c.run_failure.ensures.of
