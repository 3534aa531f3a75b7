use Rattle.std.proofs.Common.{◌≡◌, ◌∙◌, ap, sym, Err, Some, length, arith, rules, map, subst}
use Rattle.std.proofs.lemmas.Result.{err_from_is_err_and}
use Rattle.scan_run.specs.Words.{Opening}
use Rattle.scan_run.specs.declared.refused.RunRefused.TheVariants as refused
use Rattle.scan_run.proofs.BatchSteps.{err_same}
use Rattle.scan_run.proofs.OpenSteps.{opening_none, opening_more, opening_absent, opening_all}
use Rattle.scan_run.proofs.opened.open_all.Goals as goal

pub returns-in_err-open_next-clause-absent : goal.returns-in_err-open_next-clause-absent
returns-in_err-open_next-clause-absent g c all f told is =
    let p = err_from_is_err_and c.from_residual.result c.from_residual.ensures.1 in
    let same : c.in_err-open_next.field-0.0 ≡ refused.Missing f = sym p.2 ∙ err_same _ _ _ (sym p.1 ∙ is) in
    let at : f ≡ c.loop-file.file = (c.in_err-open_next.ensures.missing f (ap Err same)).0 in
    let none = c.in_err-open_next.ensures.absent all f (c.loop-file.invariant.same ∙ told) (ap Err same) in
    opening_absent all c.args.paths.now c.loop-file.file c.index-paths-file.result _ (c.loop-file.invariant.opening all told) (omega arith) (search rules) none ∙ ap Some (sym at)

pub returns-clause-all : goal.returns-clause-all
returns-clause-all g c all told = opening_all all c.args.paths.now c.loop-file.file _ (c.loop-file.invariant.opening all told) (omega arith)

pub loop-file-init : goal.loop-file-init
loop-file-init g c = record {
  same = search rules;
  faults = search rules;
  absences = search rules;
  many = ap length c.requires.none;
  opening = λ all told. subst (λ xs. Opening all c.args.paths.now 0 (map g.F.One.Source.told xs)) (sym c.requires.none) (opening_none all c.args.paths.now);
}

pub loop-file-preserved : goal.loop-file-preserved
loop-file-preserved g c = record {
  same = search rules;
  faults = search rules;
  absences = search rules;
  many = search rules;
  opening = λ all told.
      opening_more g.F.One.Source.told all c.args.paths.now c.loop-file.file c.index-paths-file.result c.loop-file.opened.items c.open_next.new.opened.items
      (c.loop-file.invariant.opening all told) (omega arith) (search rules) (c.in_ok-open_next.ensures.one all (c.loop-file.invariant.same ∙ told));
}
