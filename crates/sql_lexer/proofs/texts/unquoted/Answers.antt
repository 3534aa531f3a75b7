use Rattle.std.proofs.Common.{◌≡◌, ℕ, ◌-◌, sym, subst, ap, ◌∙◌, true, false, length, take, drop, arith}
use Rattle.std.specs.Prelude.{IsUtf8}
use Rattle.sql_lexer.specs.Texts as spec
use Rattle.sql_lexer.proofs.TextLemmas.{stays_utf8}
use Rattle.sql_lexer.proofs.texts.unquoted.Goals as goal

pub unreachable-requires : goal.unreachable-requires
unreachable-requires c =
    let less : length c.args.bytes.now - 2 ≡ length c.args.bytes.now - 1 - 1 = omega arith in
    let kept = c.in_ok-kept.ensures ∙ sym (ap (λ (n : ℕ). spec.undoubled c.args.quote false (take n (drop 1 c.args.bytes.now))) less) in
    let wrong : false ≡ true = c.in-Err.ensures.succeeds (subst IsUtf8 (sym kept) (stays_utf8 c.args.quote c.requires.ascii (spec.between_quotes c.args.bytes.now) c.requires.utf8)) in
    absurd (cc)
