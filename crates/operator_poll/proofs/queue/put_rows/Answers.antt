use Rattle.std.proofs.Common.{rules, ◌≡◌, ◌++◌, ◌<◌, ◌≤◌, ◌+◌, ◌-◌, ◌^◌, ℕ, List, length, ap, sym, ◌∙◌, subst, arith, All, Option, take, drop}
use Rattle.std.proofs.lemmas.List.{length-append}
use Rattle.dfx_value.specs.Items.{Cells}
use Rattle.dfx_value.specs.KindedRows.{KindedRows}
use Rattle.operator_poll.specs.Polls.{count}
use Rattle.operator_poll.specs.Waiting.{all_rows, given_rows}
use Rattle.operator_poll.specs.Batched.{IsPart}
use Rattle.operator_poll.proofs.Queues.{some_is, rows_step, rest_step}
use Rattle.operator_poll.proofs.queue.put_rows.Goals as goal

pub returns-in_err-part-clause-parts : goal.returns-in_err-part-clause-parts
returns-in_err-part-clause-parts c = c.take_front.ensures.parts c.args.builder.now.kinds c.loop-missing.invariant.parts

pub extend-requires-clause-kinds : goal.extend-requires-clause-kinds
extend-requires-clause-kinds c =
    let part : IsPart c.args.builder.now.kinds c.in-Some.part =
    some_is (IsPart c.args.builder.now.kinds) c.in_ok-part.field-0 c.in-Some.part c.in-Some.is (c.in_ok-part.ensures.part c.args.builder.now.kinds c.loop-missing.invariant.parts) in
    part.alike ∙ sym c.loop-missing.invariant.kinds

pub returns-in_err-extend-clause-parts : goal.returns-in_err-extend-clause-parts
returns-in_err-extend-clause-parts c = c.take_front.ensures.parts c.args.builder.now.kinds c.loop-missing.invariant.parts

pub loop-missing-smaller : goal.loop-missing-smaller
loop-missing-smaller c =
    let part : IsPart c.args.builder.now.kinds c.in-Some.part =
    some_is (IsPart c.args.builder.now.kinds) c.in_ok-part.field-0 c.in-Some.part c.in-Some.is (c.in_ok-part.ensures.part c.args.builder.now.kinds c.loop-missing.invariant.parts) in
    let filled : 0 < length c.in-Some.part.rows = part.filled in
    omega arith

pub loop-missing-preserved : goal.loop-missing-preserved
loop-missing-preserved c =
    let part : List Cells = c.in-Some.part.rows in
    let few : length part ≤ c.loop-missing.missing =
    (let e : count c.in_ok-part.field-0 ≡ length part = ap count c.in-Some.is in let f : count c.in_ok-part.field-0 ≤ c.loop-missing.missing = c.in_ok-part.ensures.few in omega arith) in
    let cut : all_rows c.loop-missing.batches.items ≡ part ++ all_rows c.take_front.new.batches.items =
    c.in_ok-part.ensures.rows ∙ ap (λ (x : Option KindedRows). given_rows x ++ all_rows c.take_front.new.batches.items) c.in-Some.is in
    let n : c.rows-missing.result ≡ length part = c.rows-missing.ensures.rows in
    let P : ℕ → Type 0 = λ k. c.extend.new.self.rows ++ take (c.loop-missing.missing - k) (all_rows c.take_front.new.batches.items) ≡ c.args.builder.now.rows ++ take c.args.most (all_rows c.args.batches.now.items) in
    let Q : ℕ → Type 0 = λ k. drop (c.loop-missing.missing - k) (all_rows c.take_front.new.batches.items) ≡ drop c.args.most (all_rows c.args.batches.now.items) in
    let grown : length c.extend.new.self.rows ≡ length c.loop-missing.builder.rows + length part = ap length c.in_ok-extend.ensures.ok ∙ length-append c.loop-missing.builder.rows part in
    record {
      kinds = c.extend.ensures.kinds ∙ c.loop-missing.invariant.kinds;
      rows = subst P (sym n) (rows_step c.loop-missing.builder.rows c.extend.new.self.rows c.loop-missing.builder.rows part (all_rows c.take_front.new.batches.items) (all_rows c.loop-missing.batches.items) _ c.loop-missing.missing few cut c.in_ok-extend.ensures.ok c.loop-missing.invariant.rows);
      rest = subst Q (sym n) (rest_step part (all_rows c.take_front.new.batches.items) (all_rows c.loop-missing.batches.items) _ c.loop-missing.missing few cut c.loop-missing.invariant.rest);
      parts = c.take_front.ensures.parts c.args.builder.now.kinds c.loop-missing.invariant.parts;
      room = let r : length c.loop-missing.builder.rows + c.loop-missing.missing < 2 ^ 32 = c.loop-missing.invariant.room in omega arith;
    }
