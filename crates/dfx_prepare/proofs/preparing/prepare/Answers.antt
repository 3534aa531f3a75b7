use Rattle.dfx_prepare.specs.Preparing.{script_of, prepared_script}
use Rattle.dfx_prepare.proofs.WholeSteps.{answer_goes_on, whole_text, no_refusal}
use Rattle.dfx_prepare.proofs.Meant.{kinded_of, scans_of}
use Rattle.dfx_prepare.proofs.preparing.prepare.Goals as goal

pub returns-clause-prepared : goal.returns-clause-prepared
returns-clause-prepared g c all told =
    answer_goes_on (script_of c.args.script.now) c.in_ok-script.script (prepared_script all c.args.partitions) c.prepare_script.result
    c.in_ok-script.ensures.found (c.prepare_script.ensures.prepared all told)

pub returns-clause-script : goal.returns-clause-script
returns-clause-script g c refusal is =
    no_refusal c.in_ok-script.script refusal (script_of c.args.script.now) c.prepare_script.result c.in_ok-script.ensures.found is

pub returns-clause-whole : goal.returns-clause-whole
returns-clause-whole g c =
    whole_text (script_of c.args.script.now) c.in_ok-script.script c.args.partitions c.prepare_script.result c.in_ok-script.ensures.found c.prepare_script.ensures.whole

pub returns-clause-scans : goal.returns-clause-scans
returns-clause-scans g c =
    scans_of c.args.script.now c.in_ok-script.script c.args.partitions c.prepare_script.result c.in_ok-script.ensures.found c.prepare_script.ensures.whole

pub returns-clause-kinded : goal.returns-clause-kinded
returns-clause-kinded g c s is =
    kinded_of c.args.script.now c.in_ok-script.script s c.args.partitions c.prepare_script.result c.in_ok-script.ensures.found c.prepare_script.ensures.whole is
