-- The aggregate calls of an expression, node by node.
use Rattle.std.proofs.Common.{◌≡◌, refl, ap, sym, ◌∙◌, ℕ, Bool, Option, Some, None, List, [], ◌∷◌, ◌++◌, map, cond, suc, ◌+◌, ◌<◌, length, get_or, drop, drop-cons, add-one}
use Rattle.dfx_value.specs.declared.kind.Kind.{Kind}
use Rattle.dfx_value.specs.declared.op.Op.{Op}
use Rattle.sql_grammar.specs.declared.ast.FnAst.{FnAst}
use Rattle.sql_grammar.specs.declared.ast.ExprAst.{ExprAst, roll-ExprAst, out-ExprAst}
use Rattle.sql_grammar.specs.declared.ast.NodeAst.{NodeAst, roll-NodeAst}
use Rattle.sql_grammar.specs.declared.ast.NodeAst.TheOpen.{NodeAst-F, ExprAst-F}
use Rattle.sql_grammar.specs.declared.ast.NodeAst.TheFolds.{para-roll-ExprAst, para-roll-NodeAst, map-NodeAst}
use Rattle.sql_grammar.specs.declared.ast.NodeAst.TheVariants as node
use Rattle.expr_binder.specs.Calls.{Calls, Part, calls_of, calls_in, of_layer, node_calls, expr_calls, of_parts, of_arms, is_aggregate, calls_of_all, calls_of_arm, calls_of_arms, calls_of_other, with_calls, with_call}
use Rattle.expr_binder.specs.Meaning.{node_of}
use Rattle.typed_exprs.specs.Scopes.{Columns}

-- ---- lists of calls

pub with_calls_append : (columns : Columns) (calls xs ys : Calls) → with_calls columns calls (xs ++ ys) ≡ with_calls columns (with_calls columns calls xs) ys
with_calls_append columns calls [] ys = refl
with_calls_append columns calls (x ∷ xs) ys = with_calls_append columns (with_call columns calls x) xs ys

-- the calls of a place in a list, and then those after it

pub all_more : (columns : Columns) (calls : Calls) (es : List ExprAst) (i : ℕ) (d : ExprAst) → i < length es
    → with_calls columns calls (calls_of_all (drop i es)) ≡ with_calls columns (with_calls columns calls (calls_of (get_or es i d))) (calls_of_all (drop (i + 1) es))
all_more columns calls es i d within =
    ap (λ (l : List ExprAst). with_calls columns calls (calls_of_all l)) (drop-cons es i d within)
    ∙ with_calls_append columns calls (calls_of (get_or es i d)) (calls_of_all (drop (suc i) es))
    ∙ ap (λ (k : ℕ). with_calls columns (with_calls columns calls (calls_of (get_or es i d))) (calls_of_all (drop k es))) (sym (add-one i))

pub arms_more : (columns : Columns) (calls : Calls) (arms : List (ExprAst × ExprAst)) (i : ℕ) (d : ExprAst × ExprAst) → i < length arms
    → with_calls columns calls (calls_of_arms (drop i arms))
    ≡ with_calls columns (with_calls columns (with_calls columns calls (calls_of (get_or arms i d).0)) (calls_of (get_or arms i d).1)) (calls_of_arms (drop (i + 1) arms))
arms_more columns calls arms i d within =
    ap (λ (l : List (ExprAst × ExprAst)). with_calls columns calls (calls_of_arms l)) (drop-cons arms i d within)
    ∙ with_calls_append columns calls (calls_of_arm (get_or arms i d)) (calls_of_arms (drop (suc i) arms))
    ∙ ap (λ (cs : Calls). with_calls columns cs (calls_of_arms (drop (suc i) arms))) (with_calls_append columns calls (calls_of (get_or arms i d).0) (calls_of (get_or arms i d).1))
    ∙ ap (λ (k : ℕ). with_calls columns (with_calls columns (with_calls columns calls (calls_of (get_or arms i d).0)) (calls_of (get_or arms i d).1)) (calls_of_arms (drop k arms))) (sym (add-one i))

parts_of : (es : List ExprAst) → of_parts (map (λ (x : ExprAst). (x, calls_of x)) es) ≡ calls_of_all es
parts_of [] = refl
parts_of (x ∷ xs) = ap (λ (rest : Calls). calls_of x ++ rest) (parts_of xs)

arms_of : (arms : List (ExprAst × ExprAst)) → of_arms (map (λ (arm : ExprAst × ExprAst). ((arm.0, calls_of arm.0), (arm.1, calls_of arm.1))) arms) ≡ calls_of_arms arms
arms_of [] = refl
arms_of (arm ∷ arms) = ap (λ (rest : Calls). calls_of_arm arm ++ rest) (arms_of arms)

-- ---- an expression

rolled : (x : ExprAst-F NodeAst ExprAst) → calls_of (roll-ExprAst x) ≡ calls_in x.node (roll-ExprAst x)
unfolding calls_of calls_in
rolled x = para-roll-ExprAst (ExprAst → Calls) Calls node_calls expr_calls x

pub calls_of-is : (e : ExprAst) → calls_of e ≡ calls_in (node_of e) e
calls_of-is e = rolled (out-ExprAst e)

-- ---- a node

abbrev Below : NodeAst-F NodeAst ExprAst → NodeAst-F (NodeAst × (ExprAst → Calls)) Part
Below z = map-NodeAst NodeAst ExprAst (NodeAst × (ExprAst → Calls)) Part (λ n. (n, calls_in n)) (λ e. (e, calls_of e)) z

at_level : (n : NodeAst) (z : NodeAst-F NodeAst ExprAst) → roll-NodeAst z ≡ n → (e : ExprAst) → calls_in n e ≡ of_layer e (Below z)
unfolding calls_in calls_of
at_level n z r e =
    ap (λ (m : NodeAst). calls_in m e) (sym r)
    ∙ ap (λ (s : ExprAst → Calls). s e) (para-roll-NodeAst (ExprAst → Calls) Calls node_calls expr_calls z)

module _ (e : ExprAst) where
  pub calls-Number : (t : List ℕ) → calls_in (node.Number t) e ≡ []
  calls-Number t = at_level (node.Number t) (NodeAst-F.Number t) (node.rolls-Number t) e

  pub calls-Str : (t : List ℕ) → calls_in (node.Str t) e ≡ []
  calls-Str t = at_level (node.Str t) (NodeAst-F.Str t) (node.rolls-Str t) e

  pub calls-Null : calls_in node.Null e ≡ []
  calls-Null = at_level node.Null NodeAst-F.Null node.rolls-Null e

  pub calls-Truth : (b : Bool) → calls_in (node.Truth b) e ≡ []
  calls-Truth b = at_level (node.Truth b) (NodeAst-F.Truth b) (node.rolls-Truth b) e

  pub calls-Name : (alias : Option (List ℕ)) (name : List ℕ) → calls_in (node.Name alias name) e ≡ []
  calls-Name alias name = at_level (node.Name alias name) (NodeAst-F.Name alias name) (node.rolls-Name alias name) e

  pub calls-Call : (f : FnAst) (es : List ExprAst) → calls_in (node.Call f es) e ≡ cond (is_aggregate f) (e ∷ []) (calls_of_all es)
  calls-Call f es = at_level (node.Call f es) (NodeAst-F.Call f es) (node.rolls-Call f es) e ∙ ap (cond (is_aggregate f) (e ∷ [])) (parts_of es)

  pub calls-CountAll : calls_in node.CountAll e ≡ e ∷ []
  calls-CountAll = at_level node.CountAll NodeAst-F.CountAll node.rolls-CountAll e

  pub calls-Not : (a : ExprAst) → calls_in (node.Not a) e ≡ calls_of a
  calls-Not a = at_level (node.Not a) (NodeAst-F.Not a) (node.rolls-Not a) e

  pub calls-Neg : (a : ExprAst) → calls_in (node.Neg a) e ≡ calls_of a
  calls-Neg a = at_level (node.Neg a) (NodeAst-F.Neg a) (node.rolls-Neg a) e

  pub calls-IsNull : (a : ExprAst) → calls_in (node.IsNull a) e ≡ calls_of a
  calls-IsNull a = at_level (node.IsNull a) (NodeAst-F.IsNull a) (node.rolls-IsNull a) e

  pub calls-Binary : (o : Op) (a b : ExprAst) → calls_in (node.Binary o a b) e ≡ calls_of a ++ calls_of b
  calls-Binary o a b = at_level (node.Binary o a b) (NodeAst-F.Binary o a b) (node.rolls-Binary o a b) e

  pub calls-Case : (arms : List (ExprAst × ExprAst)) (o : Option ExprAst) → calls_in (node.Case arms o) e ≡ calls_of_arms arms ++ calls_of_other o
  calls-Case arms None =
      at_level (node.Case arms None) (NodeAst-F.Case arms None) (node.rolls-Case arms None) e
      ∙ ap (λ (cs : Calls). cs ++ []) (arms_of arms)
  calls-Case arms (Some x) =
      at_level (node.Case arms (Some x)) (NodeAst-F.Case arms (Some x)) (node.rolls-Case arms (Some x)) e
      ∙ ap (λ (cs : Calls). cs ++ calls_of x) (arms_of arms)

  pub calls-Cast : (a : ExprAst) (to : Kind) → calls_in (node.Cast a to) e ≡ calls_of a
  calls-Cast a to = at_level (node.Cast a to) (NodeAst-F.Cast a to) (node.rolls-Cast a to) e

pub ruleset steps = (calls_of-is, with_calls_append, calls-Number, calls-Str, calls-Null, calls-Truth, calls-Name, calls-Call, calls-CountAll, calls-Not, calls-Neg, calls-IsNull, calls-Binary, calls-Case, calls-Cast)
