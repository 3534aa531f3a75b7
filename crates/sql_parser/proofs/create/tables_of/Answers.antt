use Rattle.std.proofs.Common.{◌≡◌, ◌+◌, ◌-◌, ℕ, List, true, refl, sym, ◌∙◌, arith}
use Rattle.std.proofs.lemmas.Result.{err_from_is_err_and}
use Rattle.sql_grammar.specs.declared.class.Class.{Class}
use Rattle.sql_grammar.specs.Class.{Tokens, starts}
use Rattle.sql_grammar.specs.Reader.{Read, stop, Reader, too_many, over, up_to}
use Rattle.expr_parser.proofs.Steps.{list_end, list_next, list_stop, up_full}
use Rattle.sql_parser.proofs.create.tables_of.Goals as goal

over_many : {S : Type 0} (cs : List Class) (n : ℕ) (ts : Tokens) → starts cs ts ≡ true → over {A = S} too_many cs n ts ≡ stop too_many ts
over_many cs n ts b = rw b refl

-- where there are as many as there may be
full : {S : Type 0} (cs : List Class) (p : S → Reader S) (target : Read S) (k : ℕ) (x : S) (n : ℕ) (ts : Tokens) → up_to cs p (over too_many cs) k x n ts ≡ target → k ≡ 0 → starts cs ts ≡ true → target ≡ stop too_many ts
full cs p target k x n ts kept z b = sym kept ∙ up_full cs p (over too_many cs) k x n too_many ts ts z b (over_many cs n ts b)

pub returns-then-not-starts : goal.returns-then-not-starts
returns-then-not-starts c = list_end _ _ _ _ _ _ _ _ c.loop-turn.invariant (sym c.starts.ensures ∙ c.if-not-starts.true)

pub returns-in_err-tables : goal.returns-in_err-tables
returns-in_err-tables c =
    let q = err_from_is_err_and c.from_residual.result c.from_residual.ensures.1 in
    let e : 64 - c.loop-turn._turn ≡ (64 - (c.loop-turn._turn + 1)) + 1 = omega (arith, c.loop-turn-test.true) in
    rw (q.1, q.2) (list_stop _ _ _ _ _ _ _ _ _ _ _ c.loop-turn.invariant e (sym c.starts.ensures ∙ c.if-not-starts.false) c.in_err-tables.ensures)

pub loop-turn-preserved : goal.loop-turn-preserved
loop-turn-preserved c =
    let e : 64 - c.loop-turn._turn ≡ (64 - (c.loop-turn._turn + 1)) + 1 = omega (arith, c.loop-turn-test.true) in
    list_next _ _ _ _ _ _ _ _ _ _ _ _ c.loop-turn.invariant e (sym c.starts.ensures ∙ c.if-not-starts.false) c.in_ok-tables.ensures

pub returns-then-not-starts-2 : goal.returns-then-not-starts-2
returns-then-not-starts-2 c = list_end _ _ _ _ _ _ _ _ c.loop-turn.invariant (sym c.starts-2.ensures ∙ c.if-not-starts-2.true)

pub returns : goal.returns
returns c =
    let z : 64 - c.loop-turn._turn ≡ 0 = omega (arith, c.loop-turn-test.false) in
    rw c.into.ensures (full _ _ _ _ _ _ _ c.loop-turn.invariant z (sym c.starts-2.ensures ∙ c.if-not-starts-2.false))
