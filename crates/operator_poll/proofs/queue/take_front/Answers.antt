use Rattle.std.proofs.Common.{rules, ◌≡◌, ◌++◌, ◌<◌, ◌≤◌, List, length, ap, sym, ◌∙◌, subst, arith, All}
use Rattle.std.specs.Prelude.{slice_range}
use Rattle.std.proofs.lemmas.List.{append_assoc}
use Rattle.std.proofs.lemmas.List.Elements.{All-rest}
use Rattle.dfx_value.specs.Items.{Cells}
use Rattle.dfx_value.specs.KindedRows.{KindedRows}
use Rattle.operator_poll.specs.Waiting.{all_rows}
use Rattle.operator_poll.specs.Batched.{IsPart}
use Rattle.operator_poll.proofs.Queues.{halves, rest_filled, with_front, front_is}
use Rattle.operator_poll.proofs.queue.take_front.Goals as goal

pub returns-then-count-most-clause-parts : goal.returns-then-count-most-clause-parts
returns-then-count-most-clause-parts c kinds all = All-rest (IsPart kinds) _ _ _ c.in-Some.ensures.items all

pub returns-in_err-part-clause-parts : goal.returns-in_err-part-clause-parts
returns-in_err-part-clause-parts c kinds all = All-rest (IsPart kinds) _ _ _ c.in-Some.ensures.items all

pub returns-in_err-rest-clause-parts : goal.returns-in_err-rest-clause-parts
returns-in_err-rest-clause-parts c kinds all = All-rest (IsPart kinds) _ _ _ c.in-Some.ensures.items all

pub returns-clause-rows : goal.returns-clause-rows
returns-clause-rows c =
    let front : List Cells = c.in-Some.front.rows in
    let rest : List Cells = all_rows c.pop_front.new.self.items in
    let old : all_rows c.args.batches.now.items ≡ front ++ rest = ap all_rows c.in-Some.ensures.items in
    let new : all_rows c.push_front.new.self.items ≡ c.in_ok-rest.rest.rows ++ rest = ap all_rows c.in_ok-push_front.ensures.items in
    let cut : slice_range front 0 c.args.most ++ slice_range front c.args.most c.rows-count.result ≡ front = halves front c.args.most c.rows-count.result c.rows-count.ensures.rows in
    old ∙ ap (λ (x : List Cells). x ++ rest) (sym cut)
    ∙ append_assoc (slice_range front 0 c.args.most) (slice_range front c.args.most c.rows-count.result) rest
    ∙ ap (λ (x : List Cells). x ++ (slice_range front c.args.most c.rows-count.result ++ rest)) (sym c.in_ok-part.ensures.rows)
    ∙ ap (λ (x : List Cells). c.in_ok-part.part.rows ++ (x ++ rest)) (sym c.in_ok-rest.ensures.rows)
    ∙ ap (λ (x : List Cells). c.in_ok-part.part.rows ++ x) (sym new)

pub returns-clause-parts : goal.returns-clause-parts
returns-clause-parts c kinds all =
    let front : List Cells = c.in-Some.front.rows in
    let filled : 0 < length (slice_range front c.args.most c.rows-count.result) = rest_filled front c.args.most c.rows-count.result c.rows-count.ensures.rows (omega arith) in
    let Q : List Cells → Type 0 = λ x. 0 < length x in
    let Z : List KindedRows → Type 0 = λ x. All (IsPart kinds) x in
    subst Z (sym c.in_ok-push_front.ensures.items)
    (with_front kinds c.in-Some.front c.in_ok-rest.rest c.pop_front.new.self.items c.args.batches.now.items c.in-Some.ensures.items c.in_ok-rest.ensures.kinds (subst Q (sym c.in_ok-rest.ensures.rows) filled) all)
