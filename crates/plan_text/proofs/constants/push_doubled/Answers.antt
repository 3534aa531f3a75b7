use Rattle.std.proofs.Common.{◌++◌, string_bytes, encode_utf8_all, ap, sym, ◌∙◌, map-id, append_assoc, append-nil}
use Rattle.std.proofs.lemmas.Iterator.{YieldsList-from_chars}
use Rattle.std.proofs.lemmas.Iterator.Consumers.{YieldsList-end}
use Rattle.std.proofs.lemmas.Str.{encodes-append, encodes-chars}
use Rattle.plan_text.specs.ExprText.{doubled}
use Rattle.plan_text.proofs.Quotes.{doubled-append}
use Rattle.plan_text.proofs.constants.push_doubled.Goals as goal

pub loop-character-preserved : goal.loop-character-preserved
loop-character-preserved c = rw (encodes-append, doubled-append, append-nil, ← append_assoc, ← c.loop-character.invariant) (c.in_ok-push_character.ensures)

pub returns : goal.returns
returns c =
    let done = YieldsList-end (YieldsList-from_chars c.args.value.now c.utf8.value cc) c.loop-character.yielded _ c.loop-character.yielded_by _ _ c.in-None.is c.next.ensures.steps in
    c.loop-character.invariant
    ∙ ap (λ cs. string_bytes c.args.text.now ++ doubled (encode_utf8_all cs)) (sym (map-id c.loop-character.yielded) ∙ done.0)
    ∙ ap (λ bs. string_bytes c.args.text.now ++ doubled bs) (encodes-chars c.args.value.now c.utf8.value)
