use Rattle.std.proofs.Common.{◌≡◌, ap, sym, ◌∙◌, Err, inl}
use Rattle.dfx_top.specs.Requests.{asked, by_asked}
use Rattle.dfx_top.proofs.CommandEnds.{exact_of, unwritten}
use Rattle.dfx_top.proofs.command.command_here.Goals as goal

pub returns-in-Ok-clause-called : goal.returns-in-Ok-clause-called
returns-in-Ok-clause-called g c all before ft kt = (c.in-Ok.ensures.told all before ft kt).called

pub returns-in-Ok-clause-exact : goal.returns-in-Ok-clause-exact
returns-in-Ok-clause-exact g c all before ft kt refusal e q = inl ((c.in-Ok.ensures.told all before ft kt).called ∙ e)

pub returns-in-Err-clause-called : goal.returns-in-Err-clause-called
returns-in-Err-clause-called g c all before ft kt = (c.in-Err.ensures.told all before ft kt).called

pub returns-in-Err-clause-met : goal.returns-in-Err-clause-met
returns-in-Err-clause-met g c all before ft kt p scan tables e is has = ((c.in-Err.ensures.told all before ft kt).query p e).met scan tables is has

pub returns-in-Err-clause-complete : goal.returns-in-Err-clause-complete
returns-in-Err-clause-complete g c all before ft kt p scan tables e is has none clean q = ((c.in-Err.ensures.told all before ft kt).query p e).complete scan tables is has (ap (by_asked all) (sym e) ∙ none) clean q

pub returns-in-Err-clause-explained : goal.returns-in-Err-clause-explained
returns-in-Err-clause-explained g c all before ft kt n p e q = (c.in-Err.ensures.told all before ft kt).explained n p e q

pub returns-in-Err-clause-exact : goal.returns-in-Err-clause-exact
returns-in-Err-clause-exact g c all before ft kt refusal e q = exact_of _ c.in-Err.failure refusal _ (c.in-Err.ensures.told all before ft kt).called e
    (λ f x. x.0 (c.in-Err.ensures.causes.read (ap Err f))) (λ f x. x.1 (c.in-Err.ensures.causes.write (ap Err f))) q

pub returns-in-Ok-clause-unwritten : goal.returns-in-Ok-clause-unwritten
returns-in-Ok-clause-unwritten g c all before ft kt refusal e =
    let told = c.in-Ok.ensures.told all before ft kt in
    unwritten all before (asked c.args.words.now all) _ _ refusal told.ended told.called e

pub returns-in-Err-clause-unwritten : goal.returns-in-Err-clause-unwritten
returns-in-Err-clause-unwritten g c all before ft kt refusal e =
    let told = c.in-Err.ensures.told all before ft kt in
    unwritten all before (asked c.args.words.now all) _ _ refusal told.ended told.called e
