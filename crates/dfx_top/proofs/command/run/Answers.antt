use Rattle.std.proofs.Common.{refl, ap, sym, ◌∙◌, Err, Some}
use Rattle.dfx_top.proofs.CommandEnds.{told_at, told_unread, told_of_text, quieter, text_unread, named_text, same_text}
use Rattle.dfx_top.proofs.command.run.Goals as goal

pub returns-in-Err-clause-told : goal.returns-in-Err-clause-told
returns-in-Err-clause-told g c all before ft kt = told_at all before _ _ c.args.words.now (c.in-Some.requested.request, c.in-Some.requested.script.now) _ (sym c.in-Some.ensures.request)
    (told_unread all before _ _ c.in-Some.requested.request c.in-Some.requested.script.now c.in-Err.failure kt c.in-Err.ensures.opening
    (λ q e. (c.in-Err.ensures.missing q (ap Err e)).0) (λ q e. c.in-Err.ensures.absent all q ft (ap Err e)) (λ e q. q.0 (c.in-Err.ensures.read (ap Err e))))

pub returns-in-Ok-clause-told : goal.returns-in-Ok-clause-told
returns-in-Ok-clause-told g c all before ft kt = told_at all before _ _ c.args.words.now (c.in-Some.requested.request, c.in-Some.requested.script.now) _ (sym c.in-Some.ensures.request)
    (told_of_text all before _ _ _ c.in-Some.requested.request c.in-Some.requested.script.now c.deref.result.now _ (c.in-Ok.ensures.content all ft ∙ ap Some (sym c.deref.ensures.value))
    (quieter _ _ _ _ _ c.in-Ok.ensures.later.0)
    (c.answer_text.ensures.told all before (c.in-Ok.ensures.same ∙ ft) kt))

pub returns-in-Err-clause-text : goal.returns-in-Err-clause-text
returns-in-Err-clause-text g c all text refusal ft named is =
    let there = named_text all c.args.words.now c.in-Some.requested.request c.in-Some.requested.script.now text (sym c.in-Some.ensures.request) named in (
      text_unread all c.in-Some.requested.script.now text c.in-Err.failure refusal c.in-Err.ensures.opening
          (λ q e. c.in-Err.ensures.absent all q ft (ap Err e)) there,
      refl,
    )

pub returns-in-Ok-clause-text : goal.returns-in-Ok-clause-text
returns-in-Ok-clause-text g c all text refusal ft named is =
    let there = named_text all c.args.words.now c.in-Some.requested.request c.in-Some.requested.script.now text (sym c.in-Some.ensures.request) named in
    c.answer_text.ensures.text refusal (same_text all c.in-Some.requested.script.now text c.deref.result.now refusal
    (c.in-Ok.ensures.content all ft ∙ ap Some (sym c.deref.ensures.value)) there is)
