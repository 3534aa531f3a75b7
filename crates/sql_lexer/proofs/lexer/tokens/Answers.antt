use Rattle.std.proofs.Common.{sym, subst, arith, Result, Ok, Err, IfOk, All, List, length, ap, ◌∙◌}
use Rattle.std.specs.Prelude.{IsUtf8, ℕ}
use Rattle.sql_lexer.specs.declared.refused.LexRefused.{LexRefused}
use Rattle.sql_lexer.specs.declared.token.Token.{Token}
use Rattle.sql_lexer.specs.Refusals.{Answers}
use Rattle.sql_lexer.specs.declared.refused.LexRefused.TheVariants.{NotUtf8}
use Rattle.sql_lexer.specs.Tokens as spec
use Rattle.sql_lexer.specs.Parts.{IsToken}
use Rattle.sql_lexer.proofs.Each.{each_token, tokens_are, not_utf8}
use Rattle.sql_lexer.proofs.lexer.tokens.Goals as goal

pub returns-in-Ok-clause-value : goal.returns-in-Ok-clause-value
returns-in-Ok-clause-value c =
    subst (Answers (λ v. v.items) c.cuts.result) (sym (tokens_are c.args.text.now (omega (arith, c.if-text-gt-MOST.false)) c.in-Ok.ensures.cases.1)) c.cuts.ensures.value

each_of : {X : Type 0} (view : X → List Token) (text : List ℕ) (r : Result X LexRefused) → IsUtf8 text → Answers view r (spec.tokens_from (length text) 0 text) → IfOk r (λ v. All (IsToken text) (view v))
each_of view text (Ok v) u h = each_token text u (view v) h
each_of view text (Err e) u h = tt

pub returns-in-Ok-clause-each : goal.returns-in-Ok-clause-each
returns-in-Ok-clause-each c = each_of (λ v. v.items) c.args.text.now c.cuts.result c.in-Ok.ensures.cases.1 c.cuts.ensures.value

pub returns-in-Ok-clause-front : goal.returns-in-Ok-clause-front
returns-in-Ok-clause-front c place e = absurd (c.cuts.ensures.utf8 place e)

pub returns-in-Err-clause-value : goal.returns-in-Err-clause-value
returns-in-Err-clause-value c = not_utf8 c.args.text.now (omega (arith, c.if-text-gt-MOST.false)) c.in-Err.ensures.cases.0 ∙ ap (λ n. Err (NotUtf8 n)) (sym (c.valid_up_to.ensures ∙ c.in-Err.ensures.valid_len))
