use Rattle.std.proofs.Common.{◌≡◌, refl, ap, sym, ◌∙◌, ℕ}
use Rattle.std.proofs.lemmas.Result.{err_from_is_err_and}
use Rattle.dfx_prepare.specs.Preparing.{prepared}
use Rattle.dfx_top.proofs.CommandEnds.{told_prepared, quieter, text_unprepared}
use Rattle.dfx_top.proofs.command.answer_text.Goals as goal

pub returns-clause-told : goal.returns-clause-told
returns-clause-told g c all before ft kt = told_prepared all before _ _ _ c.args.request _ c.in_ok-prepared.prepared _
    (ap (λ (n : ℕ). prepared c.args.text.now all n) (sym c.partitions_for.ensures) ∙ c.in_ok-prepared.ensures.prepared all ft)
    (quieter _ _ _ _ _ c.in_ok-prepared.ensures.later.0)
    (c.answer_prepared.ensures.told all before (c.in_ok-prepared.ensures.same ∙ ft) kt)

pub returns-in_err-prepared-clause-text : goal.returns-in_err-prepared-clause-text
returns-in_err-prepared-clause-text g c refusal is =
    let q = err_from_is_err_and c.from_residual.result c.from_residual.ensures.1 in
    (rw (q.1, q.2) (text_unprepared c.in_err-prepared.field-0.0 refusal (c.in_err-prepared.ensures.script refusal is)), refl)
