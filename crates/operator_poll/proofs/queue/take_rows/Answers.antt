use Rattle.std.proofs.Common.{rules, ◌≡◌, ◌++◌, ◌≤◌, ◌<◌, ◌-◌, ℕ, List, length, take, drop, ap, sym, ◌∙◌, subst, All, Option, arith}
use Rattle.std.proofs.lemmas.List.{length-append}
use Rattle.dfx_value.specs.Items.{Cells}
use Rattle.dfx_value.specs.KindedRows.{KindedRows}
use Rattle.dfx_value.specs.declared.kind.Kind.{Kind}
use Rattle.operator_poll.specs.Polls.{count}
use Rattle.operator_poll.specs.Waiting.{all_rows, given_rows}
use Rattle.operator_poll.specs.Batched.{IsPart}
use Rattle.operator_poll.proofs.Queues.{some_is, taken_on, dropped_on}
use Rattle.operator_poll.proofs.queue.take_rows.Goals as goal

pub returns-in_err-first-clause-parts : goal.returns-in_err-first-clause-parts
returns-in_err-first-clause-parts c = c.take_front.ensures.parts c.args.kinds.now c.requires.parts

pub returns-then-missing-eq0-clause-part : goal.returns-then-missing-eq0-clause-part
returns-then-missing-eq0-clause-part c =
    some_is (IsPart c.args.kinds.now) c.in_ok-first.field-0 c.in-Some.first c.in-Some.is (c.in_ok-first.ensures.part c.args.kinds.now c.requires.parts)

pub returns-then-missing-eq0-clause-parts : goal.returns-then-missing-eq0-clause-parts
returns-then-missing-eq0-clause-parts c = c.take_front.ensures.parts c.args.kinds.now c.requires.parts

pub extended-requires-clause-parts : goal.extended-requires-clause-parts
extended-requires-clause-parts c =
    let part : IsPart c.args.kinds.now c.in-Some.first =
    some_is (IsPart c.args.kinds.now) c.in_ok-first.field-0 c.in-Some.first c.in-Some.is (c.in_ok-first.ensures.part c.args.kinds.now c.requires.parts) in
    let P : List Kind → Type 0 = λ k. All (IsPart k) c.take_front.new.batches.items in
    subst P (sym part.alike) (c.take_front.ensures.parts c.args.kinds.now c.requires.parts)

pub returns-in_err-extended-clause-parts : goal.returns-in_err-extended-clause-parts
returns-in_err-extended-clause-parts c =
    let part : IsPart c.args.kinds.now c.in-Some.first =
    some_is (IsPart c.args.kinds.now) c.in_ok-first.field-0 c.in-Some.first c.in-Some.is (c.in_ok-first.ensures.part c.args.kinds.now c.requires.parts) in
    let P : List Kind → Type 0 = λ k. All (IsPart k) c.extended.new.batches.items in
    subst P part.alike c.extended.ensures.parts

pub returns-clause-rows : goal.returns-clause-rows
returns-clause-rows c =
    let first : List Cells = c.in-Some.first.rows in
    let mid : List Cells = all_rows c.take_front.new.batches.items in
    let few : length first ≤ c.args.most =
    (let e : count c.in_ok-first.field-0 ≡ length first = ap count c.in-Some.is in let f : count c.in_ok-first.field-0 ≤ c.args.most = c.in_ok-first.ensures.few in omega arith) in
    let cut : all_rows c.args.batches.now.items ≡ first ++ mid = c.in_ok-first.ensures.rows ∙ ap (λ (x : Option KindedRows). given_rows x ++ mid) c.in-Some.is in
    c.in_ok-extended.ensures.rows ∙ ap (λ (k : ℕ). first ++ take (c.args.most - k) mid) c.rows.ensures.rows ∙ sym (taken_on first mid c.args.most few) ∙ ap (take c.args.most) (sym cut)

pub returns-clause-rest : goal.returns-clause-rest
returns-clause-rest c =
    let first : List Cells = c.in-Some.first.rows in
    let mid : List Cells = all_rows c.take_front.new.batches.items in
    let few : length first ≤ c.args.most =
    (let e : count c.in_ok-first.field-0 ≡ length first = ap count c.in-Some.is in let f : count c.in_ok-first.field-0 ≤ c.args.most = c.in_ok-first.ensures.few in omega arith) in
    let cut : all_rows c.args.batches.now.items ≡ first ++ mid = c.in_ok-first.ensures.rows ∙ ap (λ (x : Option KindedRows). given_rows x ++ mid) c.in-Some.is in
    c.in_ok-extended.ensures.rest ∙ ap (λ (k : ℕ). drop (c.args.most - k) mid) c.rows.ensures.rows ∙ sym (dropped_on first mid c.args.most few) ∙ ap (drop c.args.most) (sym cut)

pub returns-clause-part : goal.returns-clause-part
returns-clause-part c =
    let part : IsPart c.args.kinds.now c.in-Some.first =
    some_is (IsPart c.args.kinds.now) c.in_ok-first.field-0 c.in-Some.first c.in-Some.is (c.in_ok-first.ensures.part c.args.kinds.now c.requires.parts) in
    let filled : 0 < length c.in-Some.first.rows = part.filled in
    let rows : length c.in_ok-extended.field-0.rows ≡ length (c.in-Some.first.rows ++ take (c.args.most - c.rows.result) (all_rows c.take_front.new.batches.items)) = ap length c.in_ok-extended.ensures.rows in
    record { alike = c.in_ok-extended.ensures.kinds ∙ part.alike; filled = omega (arith, length-append c.in-Some.first.rows (take (c.args.most - c.rows.result) (all_rows c.take_front.new.batches.items))) }

pub returns-clause-parts : goal.returns-clause-parts
returns-clause-parts c =
    let part : IsPart c.args.kinds.now c.in-Some.first =
    some_is (IsPart c.args.kinds.now) c.in_ok-first.field-0 c.in-Some.first c.in-Some.is (c.in_ok-first.ensures.part c.args.kinds.now c.requires.parts) in
    let P : List Kind → Type 0 = λ k. All (IsPart k) c.extended.new.batches.items in
    subst P part.alike c.extended.ensures.parts
