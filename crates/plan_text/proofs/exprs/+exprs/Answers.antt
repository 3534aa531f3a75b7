use lib.Utf8.{encode}
use Rattle.std.proofs.lemmas.Result.{on_ok_weaker}
use Rattle.plan_text.proofs.ExprSteps.{binary_pieces, case_pieces, coalesce_pieces, cast_pieces}
use Rattle.plan_text.proofs.exprs.+exprs.Goals as goal

pub push_expr-returns-in_ok-push_op-in-Binary : goal.push_expr-returns-in_ok-push_op-in-Binary
push_expr-returns-in_ok-push_op-in-Binary t c =
    on_ok_weaker c.push_between-in-Binary-2.result (binary_pieces _ _ _ _ _ _ _ _ _ _ c.in-Binary.is c.get-in-Binary.ensures c.get-in-Binary-2.ensures c.in_ok-push_between-in-Binary.ensures c.in_ok-push_op-in-Binary.ensures) c.push_between-in-Binary-2.ensures

pub push_expr-returns-in_ok-push_arms-in-Case : goal.push_expr-returns-in_ok-push_arms-in-Case
push_expr-returns-in_ok-push_arms-in-Case t c =
    on_ok_weaker c.push_between-in-Case.result (case_pieces _ _ _ _ _ _ _ _ _ c.in-Case.is c.as_slice.ensures c.get-in-Case.ensures c.in_ok-push_str-in-Case.ensures.bytes c.in_ok-push_arms-in-Case.ensures) c.push_between-in-Case.ensures

pub push_expr-returns-in_ok-push-in-Coalesce : goal.push_expr-returns-in_ok-push-in-Coalesce
unfolding encode
push_expr-returns-in_ok-push-in-Coalesce t c =
    coalesce_pieces _ _ _ _ _ _ _ c.in-Coalesce.is c.as_slice-in-Coalesce.ensures c.in_ok-push_str-in-Coalesce.ensures.bytes c.in_ok-push_exprs-in-Coalesce.ensures c.in_ok-push-in-Coalesce.ensures.bytes

pub push_expr-returns-in_ok-push-in-Cast : goal.push_expr-returns-in_ok-push-in-Cast
unfolding encode
push_expr-returns-in_ok-push-in-Cast t c =
    cast_pieces _ _ _ _ _ _ _ _ c.in-Cast.is c.get-in-Cast.ensures c.in_ok-push_between-in-Cast.ensures c.in_ok-push_kind-in-Cast.ensures c.in_ok-push-in-Cast.ensures.bytes
