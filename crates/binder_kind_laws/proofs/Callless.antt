-- An expression that means something over columns has no aggregate calls.
use Rattle.std.proofs.Common.{ℕ, ◌≡◌, refl, sym, ap, ◌∙◌, subst, Option, Some, None, Ok, List, [], ◌∷◌, ◌++◌, map}
use Rattle.sql_grammar.specs.declared.ast.FnAst.{FnAst}
use Rattle.sql_grammar.specs.declared.ast.FnAst.TheVariants as fn
use Rattle.sql_grammar.specs.declared.ast.ExprAst.{ExprAst, roll-ExprAst}
use Rattle.sql_grammar.specs.declared.ast.NodeAst.{NodeAst, roll-NodeAst}
use Rattle.sql_grammar.specs.declared.ast.NodeAst.TheOpen.{NodeAst-F, ExprAst-F}
use Rattle.sql_grammar.specs.declared.ast.NodeAst.TheFolds.{map-ExprAst, map-NodeAst, ind-ExprAst}
use Rattle.sql_grammar.specs.declared.ast.NodeAst.TheVariants as node
use Rattle.sql_grammar.specs.declared.ast.NodeAst.TheViews.{out-roll-ExprAst}
use Rattle.typed_exprs.specs.declared.typed.Typed.{Typed}
use Rattle.typed_exprs.specs.declared.typed.Unary.TheVariants as operator
use Rattle.typed_exprs.specs.declared.refusal.Why.TheVariants as why
use Rattle.typed_exprs.specs.Answer.{Answer, ◌>>=◌, or_refuse}
use Rattle.expr_binder.specs.Calls.{Calls, calls_of, calls_in, calls_of_all, calls_of_arm, calls_of_arms, calls_of_other}
use Rattle.typed_exprs.specs.Case.{chosen}
use Rattle.typed_exprs.specs.Scopes.{Columns}
use Rattle.typed_exprs.specs.Typed.{unary, binary}
use Rattle.expr_binder.specs.Meaning.{meaning, of_node, node_of, place_of, meanings, arm_meaning, arms_meaning, other_meaning, single, applied, applied_to_one}
use Rattle.expr_binder.proofs.CallSteps.{calls_of-is, calls-Number, calls-Str, calls-Null, calls-Truth, calls-Name, calls-Call, calls-Not, calls-Neg, calls-IsNull, calls-Binary, calls-Case, calls-Cast}
use Rattle.expr_binder.proofs.MeaningSteps.{meaning_is, node-Call, node-CountAll, node-Not, node-Neg, node-IsNull, node-Binary, node-Case, node-Cast}
use Rattle.binder_laws.proofs.Holding.{Holds, after, whatever}
use Rattle.binder_laws.proofs.Selves.{anyway}
use Rattle.binder_laws.proofs.Meanings.{over_none}

abbrev Free : Calls → Type 0
Free cs = cs ≡ []

both_free : (cs ds : Calls) → Free cs → Free ds → Free (cs ++ ds)
both_free cs ds h i = ap (λ (l : Calls). l ++ ds) h ∙ i

module _ (columns : Columns) where
  abbrev pub FreeExpr : ExprAst → Type 0
  FreeExpr e = Holds (λ t. Free (calls_of e)) (meaning columns e None)

  abbrev FreeNode : NodeAst → Type 0
  FreeNode n = (e : ExprAst) (place : ℕ) → Holds (λ t. Free (calls_in n e)) (of_node columns n e place None)

  abbrev Known : Type 0
  Known = (e : ExprAst) × FreeExpr e

  abbrev KnownNode : Type 0
  KnownNode = (n : NodeAst) × FreeNode n

  abbrev known : List Known → List ExprAst
  known xs = map (λ (k : Known). k.0) xs

  abbrev known_arms : List (Known × Known) → List (ExprAst × ExprAst)
  known_arms arms = map (λ (arm : Known × Known). (arm.0.0, arm.1.0)) arms

  all_free : (xs : List Known) → Holds (λ ts. Free (calls_of_all (known xs))) (meanings columns None (known xs))
  all_free [] = refl
  all_free (x ∷ xs) =
      after (λ t. Free (calls_of x.0)) (λ ts. Free (calls_of_all (known (x ∷ xs)))) (meaning columns x.0 None) (λ t. meanings columns None (known xs) >>= λ ts. Ok (t ∷ ts)) x.1
      (λ t h. after (λ ts. Free (calls_of_all (known xs))) (λ ts. Free (calls_of_all (known (x ∷ xs)))) (meanings columns None (known xs)) (λ ts. Ok (t ∷ ts)) (all_free xs) (λ ts i. both_free (calls_of x.0) (calls_of_all (known xs)) h i))

  arm_free : (x y : Known) → Holds (λ a. Free (calls_of_arm (x.0, y.0))) (arm_meaning columns None (x.0, y.0))
  arm_free x y =
      after (λ t. Free (calls_of x.0)) (λ a. Free (calls_of_arm (x.0, y.0))) (meaning columns x.0 None) _ x.1
      (λ c h. after (λ t. Free (calls_of y.0)) (λ a. Free (calls_of_arm (x.0, y.0))) (meaning columns y.0 None) _ y.1 (λ r i. both_free (calls_of x.0) (calls_of y.0) h i))

  arms_free : (arms : List (Known × Known)) → Holds (λ bs. Free (calls_of_arms (known_arms arms))) (arms_meaning columns None (known_arms arms))
  arms_free [] = refl
  arms_free (arm ∷ arms) =
      after (λ a. Free (calls_of_arm (arm.0.0, arm.1.0))) (λ bs. Free (calls_of_arms (known_arms (arm ∷ arms)))) (arm_meaning columns None (arm.0.0, arm.1.0)) (λ t. arms_meaning columns None (known_arms arms) >>= λ ts. Ok (t ∷ ts)) (arm_free arm.0 arm.1)
      (λ t h. after (λ bs. Free (calls_of_arms (known_arms arms))) (λ bs. Free (calls_of_arms (known_arms (arm ∷ arms)))) (arms_meaning columns None (known_arms arms)) (λ ts. Ok (t ∷ ts)) (arms_free arms)
      (λ ts i. both_free (calls_of_arm (arm.0.0, arm.1.0)) (calls_of_arms (known_arms arms)) h i))

  one_free : (x : Known) (cs : Calls) (f : Typed → Answer Typed) → cs ≡ calls_of x.0 → Holds (λ t. Free cs) (meaning columns x.0 None >>= f)
  one_free x cs f q = after (λ t. Free (calls_of x.0)) (λ t. Free cs) (meaning columns x.0 None) f x.1 (λ t h. anyway (Free cs) (f t) (q ∙ h))

  case_free : (arms : List (Known × Known)) (other : Option ExprAst) (e : ExprAst) (place : ℕ) → Holds (λ t. Free (calls_of_other other)) (other_meaning columns None other) → Holds (λ t. Free (calls_in (node.Case (known_arms arms) other) e)) (of_node columns (node.Case (known_arms arms) other) e place None)
  case_free arms other e place h =
      let P = λ (t : Typed). Free (calls_in (node.Case (known_arms arms) other) e) in
      subst (Holds P) (sym (node-Case columns e place None (known_arms arms) other))
      (after (λ bs. Free (calls_of_arms (known_arms arms))) P (arms_meaning columns None (known_arms arms)) _ (arms_free arms)
      (λ bound i. after (λ t. Free (calls_of_other other)) P (other_meaning columns None other) (λ d. chosen place bound d) h
      (λ d j. anyway (P d) (chosen place bound d) (calls-Case e (known_arms arms) other ∙ both_free (calls_of_arms (known_arms arms)) (calls_of_other other) i j))))

  -- a function that is no aggregate, or one that is refused
  function_free : (f : FnAst) (xs : List Known) (e : ExprAst) (place : ℕ) → Holds (λ t. Free (calls_in (node.Call f (known xs)) e)) (of_node columns (node.Call f (known xs)) e place None)
  function_free f xs e place =
      let P = λ (t : Typed). Free (calls_in (node.Call f (known xs)) e) in
      subst (Holds P) (sym (node-Call columns e place None f (known xs)))
      (subst (λ over. Holds P (meanings columns over (known xs) >>= applied columns None e place f)) (sym (over_none columns f))
      (after (λ ts. Free (calls_of_all (known xs))) P (meanings columns None (known xs)) (applied columns None e place f) (all_free xs) (λ ts h. go f ts h)))
    where
      plain : (f : FnAst) → calls_in (node.Call f (known xs)) e ≡ calls_of_all (known xs) → Free (calls_of_all (known xs)) → (a : Answer Typed) → Holds (λ (t : Typed). Free (calls_in (node.Call f (known xs)) e)) a
      plain f q h a = anyway (Free (calls_in (node.Call f (known xs)) e)) a (q ∙ h)

      refused : (f : FnAst) (ts : List Typed) → ((t : Typed) → Holds (λ (t : Typed). Free (calls_in (node.Call f (known xs)) e)) (applied_to_one columns None e place f t)) → Holds (λ (t : Typed). Free (calls_in (node.Call f (known xs)) e)) (or_refuse why.KindMismatch place (single ts) >>= applied_to_one columns None e place f)
      refused f ts k = whatever (λ (t : Typed). Free (calls_in (node.Call f (known xs)) e)) (or_refuse why.KindMismatch place (single ts)) (applied_to_one columns None e place f) k

      go : (f : FnAst) (ts : List Typed) → Free (calls_of_all (known xs)) → Holds (λ (t : Typed). Free (calls_in (node.Call f (known xs)) e)) (applied columns None e place f ts)
      go fn.Coalesce ts h = plain fn.Coalesce (calls-Call e fn.Coalesce (known xs)) h (applied columns None e place fn.Coalesce ts)
      go fn.Abs ts h = plain fn.Abs (calls-Call e fn.Abs (known xs)) h (applied columns None e place fn.Abs ts)
      go fn.Length ts h = plain fn.Length (calls-Call e fn.Length (known xs)) h (applied columns None e place fn.Length ts)
      go fn.Count ts h = refused fn.Count ts (λ t. tt)
      go fn.Sum ts h = refused fn.Sum ts (λ t. tt)
      go fn.Min ts h = refused fn.Min ts (λ t. tt)
      go fn.Max ts h = refused fn.Max ts (λ t. tt)
      go fn.Avg ts h = refused fn.Avg ts (λ t. tt)

  node_step : (y : NodeAst-F KnownNode Known) → FreeNode (roll-NodeAst (map-NodeAst KnownNode Known NodeAst ExprAst (λ k. k.0) (λ k. k.0) y))
  node_step (NodeAst-F.Number t) = subst FreeNode (sym (node.rolls-Number t)) (λ e place. anyway (Free (calls_in (node.Number t) e)) (of_node columns (node.Number t) e place None) (calls-Number e t))
  node_step (NodeAst-F.Str t) = subst FreeNode (sym (node.rolls-Str t)) (λ e place. anyway (Free (calls_in (node.Str t) e)) (of_node columns (node.Str t) e place None) (calls-Str e t))
  node_step NodeAst-F.Null = subst FreeNode (sym node.rolls-Null) (λ e place. anyway (Free (calls_in node.Null e)) (of_node columns node.Null e place None) (calls-Null e))
  node_step (NodeAst-F.Truth b) = subst FreeNode (sym (node.rolls-Truth b)) (λ e place. anyway (Free (calls_in (node.Truth b) e)) (of_node columns (node.Truth b) e place None) (calls-Truth e b))
  node_step (NodeAst-F.Name alias name) = subst FreeNode (sym (node.rolls-Name alias name)) (λ e place. anyway (Free (calls_in (node.Name alias name) e)) (of_node columns (node.Name alias name) e place None) (calls-Name e alias name))
  node_step NodeAst-F.CountAll = subst FreeNode (sym node.rolls-CountAll) (λ e place. subst (Holds (λ (t : Typed). Free (calls_in node.CountAll e))) (sym (node-CountAll columns e place None)) tt)
  node_step (NodeAst-F.Call f xs) = subst FreeNode (sym (node.rolls-Call f (known xs))) (function_free f xs)
  node_step (NodeAst-F.Not x) = subst FreeNode (sym (node.rolls-Not x.0)) (λ e place. subst (Holds (λ (t : Typed). Free (calls_in (node.Not x.0) e))) (sym (node-Not columns e place None x.0)) (one_free x _ (unary place operator.Not) (calls-Not e x.0)))
  node_step (NodeAst-F.Neg x) = subst FreeNode (sym (node.rolls-Neg x.0)) (λ e place. subst (Holds (λ (t : Typed). Free (calls_in (node.Neg x.0) e))) (sym (node-Neg columns e place None x.0)) (one_free x _ (unary place operator.Neg) (calls-Neg e x.0)))
  node_step (NodeAst-F.IsNull x) = subst FreeNode (sym (node.rolls-IsNull x.0)) (λ e place. subst (Holds (λ (t : Typed). Free (calls_in (node.IsNull x.0) e))) (sym (node-IsNull columns e place None x.0)) (one_free x _ (unary place operator.IsNull) (calls-IsNull e x.0)))
  node_step (NodeAst-F.Cast x to) = subst FreeNode (sym (node.rolls-Cast x.0 to)) (λ e place. subst (Holds (λ (t : Typed). Free (calls_in (node.Cast x.0 to) e))) (sym (node-Cast columns e place None x.0 to)) (one_free x _ (unary place (operator.Cast to)) (calls-Cast e x.0 to)))
  node_step (NodeAst-F.Binary o x y) = subst FreeNode (sym (node.rolls-Binary o x.0 y.0)) (λ e place. subst (Holds (λ (t : Typed). Free (calls_in (node.Binary o x.0 y.0) e))) (sym (node-Binary columns e place None o x.0 y.0))
      (after (λ t. Free (calls_of x.0)) (λ t. Free (calls_in (node.Binary o x.0 y.0) e)) (meaning columns x.0 None) (λ a. meaning columns y.0 None >>= λ b. binary place o a b) x.1
      (λ a h. after (λ t. Free (calls_of y.0)) (λ t. Free (calls_in (node.Binary o x.0 y.0) e)) (meaning columns y.0 None) (λ b. binary place o a b) y.1
      (λ b i. anyway (Free (calls_in (node.Binary o x.0 y.0) e)) (binary place o a b) (calls-Binary e o x.0 y.0 ∙ both_free (calls_of x.0) (calls_of y.0) h i)))))
  node_step (NodeAst-F.Case arms None) = subst FreeNode (sym (node.rolls-Case (known_arms arms) None)) (λ e place. case_free arms None e place refl)
  node_step (NodeAst-F.Case arms (Some x)) = subst FreeNode (sym (node.rolls-Case (known_arms arms) (Some x.0))) (λ e place. case_free arms (Some x.0) e place x.1)

  abbrev bare : ExprAst-F KnownNode Known → ExprAst-F NodeAst ExprAst
  bare y = map-ExprAst KnownNode Known NodeAst ExprAst (λ k. k.0) (λ k. k.0) y

  from_node : (e : ExprAst) → FreeNode (node_of e) → FreeExpr e
  from_node e f = subst (Holds (λ (t : Typed). Free (calls_of e))) (sym (meaning_is columns e None)) (subst (λ (cs : Calls). Holds (λ (t : Typed). Free cs) (of_node columns (node_of e) e (place_of e) None)) (sym (calls_of-is e)) (f e (place_of e)))

  expr_step : (y : ExprAst-F KnownNode Known) → FreeExpr (roll-ExprAst (bare y))
  expr_step y = from_node (roll-ExprAst (bare y)) (subst (λ (x : ExprAst-F NodeAst ExprAst). FreeNode x.node) (sym (out-roll-ExprAst (bare y))) y.node.1)

  pub is_free : (e : ExprAst) → FreeExpr e
  is_free = ind-ExprAst FreeNode FreeExpr (λ x y is. subst (λ z. FreeNode (roll-NodeAst z)) is (node_step y)) (λ x y is. subst (λ z. FreeExpr (roll-ExprAst z)) is (expr_step y))
