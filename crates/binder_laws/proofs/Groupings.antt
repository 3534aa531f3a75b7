-- The meaning of an expression over groups names columns of the keys and the calls.
use Rattle.std.proofs.Common.{ℕ, ◌≡◌, ◌+◌, ◌<◌, refl, sym, ap, ◌∙◌, subst, true, Option, Some, None, Ok, List, [], ◌∷◌, ◌++◌, map, length, arith}
use Rattle.std.proofs.lemmas.Bool.{lt-ltb}
use Rattle.dfx_value.specs.declared.kind.Kind.{Kind}
use Rattle.dfx_value.specs.declared.kind.Kind.TheVariants as kind
use Rattle.dfx_value.specs.declared.op.Op.{Op}
use Rattle.scalar_exprs.specs.Kinds.{agg_kind}
use Rattle.sql_grammar.specs.declared.ast.FnAst.{FnAst}
use Rattle.sql_grammar.specs.declared.ast.FnAst.TheVariants as fn
use Rattle.sql_grammar.specs.declared.ast.ExprAst.{ExprAst, roll-ExprAst}
use Rattle.sql_grammar.specs.declared.ast.NodeAst.{NodeAst, roll-NodeAst}
use Rattle.sql_grammar.specs.declared.ast.NodeAst.TheOpen.{NodeAst-F, ExprAst-F}
use Rattle.sql_grammar.specs.declared.ast.NodeAst.TheViews.{out-roll-ExprAst}
use Rattle.sql_grammar.specs.declared.ast.NodeAst.TheFolds.{map-ExprAst, map-NodeAst, ind-ExprAst}
use Rattle.sql_grammar.specs.declared.ast.NodeAst.TheVariants as node
use Rattle.typed_exprs.specs.declared.typed.Typed.{Typed}
use Rattle.typed_exprs.specs.declared.typed.Unary.{Unary}
use Rattle.typed_exprs.specs.declared.typed.Unary.TheVariants as operator
use Rattle.typed_exprs.specs.declared.refusal.Why.TheVariants as why
use Rattle.typed_exprs.specs.Answer.{Answer, ◌>>=◌, refuse, or_refuse}
use Rattle.expr_binder.specs.Calls.{calls_of, calls_in, calls_of_all, calls_of_arm, calls_of_arms, calls_of_other}
use Rattle.typed_exprs.specs.Case.{chosen}
use Rattle.expr_binder.specs.Groups.{Groups, Over}
use Rattle.expr_binder.specs.Same.{same, same_nodes, all_same, function_rank, place_among}
use Rattle.typed_exprs.specs.Scopes.{Columns, column_of}
use Rattle.typed_exprs.specs.Typed.{settled, or_mismatch, unary, binary}
use Rattle.expr_binder.specs.Meaning.{meaning, of_node, node_of, place_of, key_of, or_sense, call_of, call_column, aggregate, column, column_kind, meanings, arm_meaning, arms_meaning, other_meaning, single, applied, applied_to_one, call_meaning, case_meaning, unary_meaning, binary_meaning}
use Rattle.expr_binder.proofs.CallSteps.{calls_of-is, calls-Call, calls-CountAll, calls-Not, calls-Neg, calls-IsNull, calls-Binary, calls-Case, calls-Cast}
use Rattle.expr_binder.proofs.MeaningSteps.{meaning_is, node-Number, node-Str, node-Null, node-Truth, node-Name, node-Call, node-CountAll, node-Not, node-Neg, node-IsNull, node-Binary, node-Case, node-Cast}
use Rattle.scalar_exprs.specs.declared.expr.Expr.TheVariants as expr
use Rattle.scalar_exprs.specs.Kinds.{when_number, length_kind}
use Rattle.join_lowering.proofs.Nodes.{columns-Abs, columns-Length}
use Rattle.physical_plan.proofs.Everywhere.{both_true}
use Rattle.binder_laws.proofs.Holding.{Holds, after, whatever, where_some, weaker, Every, every_split}
use Rattle.binder_laws.proofs.Readings.{Typing, ArmReads, given_reads, of_kind_reads, unary_reads, binary_reads, coalesced_reads, chosen_reads, column_reads, const_reads}
use Rattle.binder_laws.proofs.Meanings.{number_reads_at, text_reads_at}
use Rattle.binder_laws.proofs.Selves.{nat_self, self_is, self_at, all_selves}
use Rattle.binder_laws.proofs.Found.{place_bound, IsFound, HasCalls}

module _ (columns : Columns) (g : Groups) where
  abbrev w : ℕ
  w = length g.keys + length g.calls

  abbrev over : Over
  over = Some g

  abbrev Means : ExprAst → Type 0
  Means e = HasCalls columns g.calls e → Holds (Typing w) (meaning columns e over)

  abbrev NodeMeans : NodeAst → Type 0
  NodeMeans n = (e : ExprAst) (place : ℕ) → node_of e ≡ n → Every (IsFound columns g.calls) (calls_in n e) → Holds (Typing w) (of_node columns n e place over)

  abbrev Known : Type 0
  Known = (e : ExprAst) × Means e

  abbrev KnownNode : Type 0
  KnownNode = (n : NodeAst) × NodeMeans n

  abbrev known : List Known → List ExprAst
  known xs = map (λ (k : Known). k.0) xs

  abbrev known_arms : List (Known × Known) → List (ExprAst × ExprAst)
  known_arms arms = map (λ (arm : Known × Known). (arm.0.0, arm.1.0)) arms

  abbrev AllFound : List ExprAst → Type 0
  AllFound cs = Every (IsFound columns g.calls) cs

  -- ---- keys and calls

  column_in : (k : ℕ) (j : Kind) → k < w → Typing w (column k j)
  column_in k j h = column_reads w k (both_true _ _ (lt-ltb k w h) refl)

  found_column : (e : ExprAst) → IsFound columns g.calls e → same columns e e ≡ true → call_column columns g e < w
  found_column e f h = let p = f h in let b = place_bound columns e g.calls 0 p.0 p.1 in rw p.1 (omega arith)

  aggregate_in : (e : ExprAst) (place : ℕ) (f : FnAst) (t : Typed) → call_column columns g e < w → Holds (Typing w) (aggregate columns over e place f t)
  aggregate_in e place f t h =
      whatever (Typing w) (or_mismatch place (agg_kind (call_of f) (Some (settled t).1))) (λ k. Ok (column (call_column columns g e) k)) (λ k. column_in (call_column columns g e) k h)

  -- an aggregate of arguments over the columns
  aggregates : (e : ExprAst) (place : ℕ) (f : FnAst) (es : List ExprAst) → node_of e ≡ node.Call f es → IsFound columns g.calls e → Holds (λ ts. call_column columns g e < w) (meanings columns None es)
  aggregates e place f es q found = weaker (λ ts. all_same (map (same columns) es) es ≡ true) (λ ts. call_column columns g e < w) (meanings columns None es) (λ ts h. found_column e found (is_self h)) (all_selves columns es)
    where
      is_self : all_same (map (same columns) es) es ≡ true → same columns e e ≡ true
      is_self h = self_is columns e ∙ ap (λ (n : NodeAst). same_nodes columns n n) q ∙ self_at columns (node.Call f es) (NodeAst-F.Call f es) (node.rolls-Call f es) ∙ both_true _ _ (nat_self (function_rank f)) h

  one_aggregate : (e : ExprAst) (place : ℕ) (f : FnAst) (es : List ExprAst) → node_of e ≡ node.Call f es → IsFound columns g.calls e
      → ((t : Typed) → call_column columns g e < w → Holds (Typing w) (applied_to_one columns over e place f t))
      → Holds (Typing w) (meanings columns None es >>= λ ts. or_refuse why.KindMismatch place (single ts) >>= applied_to_one columns over e place f)
  one_aggregate e place f es q found k =
      after (λ ts. call_column columns g e < w) (Typing w) (meanings columns None es) _ (aggregates e place f es q found)
      (λ ts h. whatever (Typing w) (or_refuse why.KindMismatch place (single ts)) (applied_to_one columns over e place f) (λ t. k t h))

  -- ---- calls of functions

  all_mean : (xs : List Known) → AllFound (calls_of_all (known xs)) → Holds (Every (Typing w)) (meanings columns over (known xs))
  all_mean [] h = tt
  all_mean (x ∷ xs) h =
      let p = every_split (IsFound columns g.calls) (calls_of x.0) (calls_of_all (known xs)) h in
      after (Typing w) (Every (Typing w)) (meaning columns x.0 over) (λ t. meanings columns over (known xs) >>= λ ts. Ok (t ∷ ts)) (x.1 p.0)
      (λ t i. after (Every (Typing w)) (Every (Typing w)) (meanings columns over (known xs)) (λ ts. Ok (t ∷ ts)) (all_mean xs p.1) (λ ts j. (i, j)))

  the_single : (ts : List Typed) → Every (Typing w) ts → (t : Typed) → single ts ≡ Some t → Typing w t
  the_single [] h t e = cc
  the_single (x ∷ []) h t e = let q : x ≡ t = cc in subst (Typing w) q h.0
  the_single (x ∷ y ∷ more) h t e = cc

  of_one : (e : ExprAst) (place : ℕ) (f : FnAst) (xs : List Known) → AllFound (calls_of_all (known xs)) → ((t : Typed) → Typing w t → Holds (Typing w) (applied_to_one columns over e place f t))
      → Holds (Typing w) (meanings columns over (known xs) >>= λ ts. or_refuse why.KindMismatch place (single ts) >>= applied_to_one columns over e place f)
  of_one e place f xs h k =
      after (Every (Typing w)) (Typing w) (meanings columns over (known xs)) _ (all_mean xs h)
      (λ ts i. after (Typing w) (Typing w) (or_refuse why.KindMismatch place (single ts)) (applied_to_one columns over e place f)
      (where_some (Typing w) why.KindMismatch place (single ts) (λ t j. the_single ts i t j)) k)

  call_reads : (e : ExprAst) (place : ℕ) (f : FnAst) (xs : List Known) → node_of e ≡ node.Call f (known xs) → AllFound (calls_in (node.Call f (known xs)) e) → Holds (Typing w) (call_meaning columns over e place f (known xs))
  call_reads e place fn.Coalesce xs q h =
      after (Every (Typing w)) (Typing w) (meanings columns over (known xs)) (applied columns over e place fn.Coalesce) (all_mean xs (subst AllFound (calls-Call e fn.Coalesce (known xs)) h)) (coalesced_reads w place)
  call_reads e place fn.Abs xs q h = of_one e place fn.Abs xs (subst AllFound (calls-Call e fn.Abs (known xs)) h) (λ t i. of_kind_reads w place expr.Abs when_number (settled t) columns-Abs (given_reads w kind.Text t i))
  call_reads e place fn.Length xs q h = of_one e place fn.Length xs (subst AllFound (calls-Call e fn.Length (known xs)) h) (λ t i. of_kind_reads w place expr.Length length_kind (settled t) columns-Length (given_reads w kind.Text t i))
  call_reads e place fn.Count xs q h = one_aggregate e place fn.Count (known xs) q (subst AllFound (calls-Call e fn.Count (known xs)) h).0 (λ t i. aggregate_in e place fn.Count t i)
  call_reads e place fn.Sum xs q h = one_aggregate e place fn.Sum (known xs) q (subst AllFound (calls-Call e fn.Sum (known xs)) h).0 (λ t i. aggregate_in e place fn.Sum t i)
  call_reads e place fn.Min xs q h = one_aggregate e place fn.Min (known xs) q (subst AllFound (calls-Call e fn.Min (known xs)) h).0 (λ t i. aggregate_in e place fn.Min t i)
  call_reads e place fn.Max xs q h = one_aggregate e place fn.Max (known xs) q (subst AllFound (calls-Call e fn.Max (known xs)) h).0 (λ t i. aggregate_in e place fn.Max t i)
  call_reads e place fn.Avg xs q h = one_aggregate e place fn.Avg (known xs) q (subst AllFound (calls-Call e fn.Avg (known xs)) h).0 (λ t i. aggregate_in e place fn.Avg t i)

  count_reads : (e : ExprAst) → node_of e ≡ node.CountAll → AllFound (calls_in node.CountAll e) → Typing w (column (call_column columns g e) kind.Int)
  count_reads e q h = column_in (call_column columns g e) kind.Int
      (found_column e (subst AllFound (calls-CountAll e) h).0 (self_is columns e ∙ ap (λ (n : NodeAst). same_nodes columns n n) q ∙ self_at columns node.CountAll NodeAst-F.CountAll node.rolls-CountAll))

  -- ---- operators and CASE

  one_reads : (x : Known) (place : ℕ) (o : Unary) → HasCalls columns g.calls x.0 → Holds (Typing w) (unary_meaning columns over place o x.0)
  one_reads x place o h = after (Typing w) (Typing w) (meaning columns x.0 over) (unary place o) (x.1 h) (unary_reads w place o)

  two_read : (x y : Known) (place : ℕ) (o : Op) → AllFound (calls_of x.0 ++ calls_of y.0) → Holds (Typing w) (binary_meaning columns over place o x.0 y.0)
  two_read x y place o h =
      let p = every_split (IsFound columns g.calls) (calls_of x.0) (calls_of y.0) h in
      after (Typing w) (Typing w) (meaning columns x.0 over) (λ a. meaning columns y.0 over >>= λ b. binary place o a b) (x.1 p.0)
      (λ a i. after (Typing w) (Typing w) (meaning columns y.0 over) (λ b. binary place o a b) (y.1 p.1) (λ b j. binary_reads w place o a b i j))

  arm_reads : (x y : Known) → AllFound (calls_of_arm (x.0, y.0)) → Holds (ArmReads w) (arm_meaning columns over (x.0, y.0))
  arm_reads x y h =
      let p = every_split (IsFound columns g.calls) (calls_of x.0) (calls_of y.0) h in
      after (Typing w) (ArmReads w) (meaning columns x.0 over) _ (x.1 p.0)
      (λ c i. after (Typing w) (ArmReads w) (meaning columns y.0 over) _ (y.1 p.1) (λ r j. (i, j)))

  arms_mean : (arms : List (Known × Known)) → AllFound (calls_of_arms (known_arms arms)) → Holds (Every (ArmReads w)) (arms_meaning columns over (known_arms arms))
  arms_mean [] h = tt
  arms_mean (arm ∷ arms) h =
      let p = every_split (IsFound columns g.calls) (calls_of_arm (arm.0.0, arm.1.0)) (calls_of_arms (known_arms arms)) h in
      after (ArmReads w) (Every (ArmReads w)) (arm_meaning columns over (arm.0.0, arm.1.0)) (λ t. arms_meaning columns over (known_arms arms) >>= λ ts. Ok (t ∷ ts)) (arm_reads arm.0 arm.1 p.0)
      (λ t i. after (Every (ArmReads w)) (Every (ArmReads w)) (arms_meaning columns over (known_arms arms)) (λ ts. Ok (t ∷ ts)) (arms_mean arms p.1) (λ ts j. (i, j)))

  case_reads : (place : ℕ) (arms : List (Known × Known)) (other : Option ExprAst) → (AllFound (calls_of_other other) → Holds (Typing w) (other_meaning columns over other)) → AllFound (calls_of_arms (known_arms arms) ++ calls_of_other other)
      → Holds (Typing w) (case_meaning columns over place (known_arms arms) other)
  case_reads place arms other k h =
      let p = every_split (IsFound columns g.calls) (calls_of_arms (known_arms arms)) (calls_of_other other) h in
      after (Every (ArmReads w)) (Typing w) (arms_meaning columns over (known_arms arms)) (λ bound. other_meaning columns over other >>= λ d. chosen place bound d) (arms_mean arms p.0)
      (λ bound i. after (Typing w) (Typing w) (other_meaning columns over other) (λ d. chosen place bound d) (k p.1) (λ d j. chosen_reads w place bound d i j))

  -- ---- nodes

  node_step : (y : NodeAst-F KnownNode Known) → NodeMeans (roll-NodeAst (map-NodeAst KnownNode Known NodeAst ExprAst (λ k. k.0) (λ k. k.0) y))
  node_step (NodeAst-F.Number t) = subst NodeMeans (sym (node.rolls-Number t)) (λ e place q h. subst (Holds (Typing w)) (sym (node-Number columns e place over t)) (number_reads_at w place t))
  node_step (NodeAst-F.Str t) = subst NodeMeans (sym (node.rolls-Str t)) (λ e place q h. subst (Holds (Typing w)) (sym (node-Str columns e place over t)) (text_reads_at w place t))
  node_step NodeAst-F.Null = subst NodeMeans (sym node.rolls-Null) (λ e place q h. subst (Holds (Typing w)) (sym (node-Null columns e place over)) tt)
  node_step (NodeAst-F.Truth b) = subst NodeMeans (sym (node.rolls-Truth b)) (λ e place q h. subst (Holds (Typing w)) (sym (node-Truth columns e place over b)) (const_reads w _ _))
  node_step (NodeAst-F.Name alias name) = subst NodeMeans (sym (node.rolls-Name alias name)) (λ e place q h. subst (Holds (Typing w)) (sym (node-Name columns e place over alias name))
      (whatever (Typing w) (column_of columns place alias name) (λ k. refuse why.NotGrouped place) (λ k. tt)))
  node_step (NodeAst-F.Call f xs) = subst NodeMeans (sym (node.rolls-Call f (known xs))) (λ e place q h. subst (Holds (Typing w)) (sym (node-Call columns e place over f (known xs))) (call_reads e place f xs q h))
  node_step NodeAst-F.CountAll = subst NodeMeans (sym node.rolls-CountAll) (λ e place q h. subst (Holds (Typing w)) (sym (node-CountAll columns e place over)) (count_reads e q h))
  node_step (NodeAst-F.Not x) = subst NodeMeans (sym (node.rolls-Not x.0)) (λ e place q h. subst (Holds (Typing w)) (sym (node-Not columns e place over x.0)) (one_reads x place operator.Not (subst AllFound (calls-Not e x.0) h)))
  node_step (NodeAst-F.Neg x) = subst NodeMeans (sym (node.rolls-Neg x.0)) (λ e place q h. subst (Holds (Typing w)) (sym (node-Neg columns e place over x.0)) (one_reads x place operator.Neg (subst AllFound (calls-Neg e x.0) h)))
  node_step (NodeAst-F.IsNull x) = subst NodeMeans (sym (node.rolls-IsNull x.0)) (λ e place q h. subst (Holds (Typing w)) (sym (node-IsNull columns e place over x.0)) (one_reads x place operator.IsNull (subst AllFound (calls-IsNull e x.0) h)))
  node_step (NodeAst-F.Binary o x y) = subst NodeMeans (sym (node.rolls-Binary o x.0 y.0)) (λ e place q h. subst (Holds (Typing w)) (sym (node-Binary columns e place over o x.0 y.0)) (two_read x y place o (subst AllFound (calls-Binary e o x.0 y.0) h)))
  node_step (NodeAst-F.Case arms None) = subst NodeMeans (sym (node.rolls-Case (known_arms arms) None)) (λ e place q h. subst (Holds (Typing w)) (sym (node-Case columns e place over (known_arms arms) None)) (case_reads place arms None (λ i. tt) (subst AllFound (calls-Case e (known_arms arms) None) h)))
  node_step (NodeAst-F.Case arms (Some x)) = subst NodeMeans (sym (node.rolls-Case (known_arms arms) (Some x.0))) (λ e place q h. subst (Holds (Typing w)) (sym (node-Case columns e place over (known_arms arms) (Some x.0))) (case_reads place arms (Some x.0) x.1 (subst AllFound (calls-Case e (known_arms arms) (Some x.0)) h)))
  node_step (NodeAst-F.Cast x to) = subst NodeMeans (sym (node.rolls-Cast x.0 to)) (λ e place q h. subst (Holds (Typing w)) (sym (node-Cast columns e place over x.0 to)) (one_reads x place (operator.Cast to) (subst AllFound (calls-Cast e x.0 to) h)))

  -- ---- expressions

  abbrev bare : ExprAst-F KnownNode Known → ExprAst-F NodeAst ExprAst
  bare y = map-ExprAst KnownNode Known NodeAst ExprAst (λ k. k.0) (λ k. k.0) y

  node_is : (y : ExprAst-F KnownNode Known) → node_of (roll-ExprAst (bare y)) ≡ y.node.0
  node_is y = ap (λ (x : ExprAst-F NodeAst ExprAst). x.node) (out-roll-ExprAst (bare y))

  -- a key, or what its node is
  key_or : (e : ExprAst) (rest : Answer Typed) → Holds (Typing w) rest → Holds (Typing w) (or_sense (key_of columns over e) rest)
  key_or e rest h = go (place_among columns e g.keys) refl
    where
      go : (o : Option ℕ) → place_among columns e g.keys ≡ o → Holds (Typing w) (or_sense (key_of columns over e) rest)
      go None q = rw q h
      go (Some k) q = let b = place_bound columns e g.keys 0 k q in rw q (column_in k (column_kind g.kinds k) (omega arith))

  expr_step : (y : ExprAst-F KnownNode Known) → Means (roll-ExprAst (bare y))
  expr_step y h =
      subst (Holds (Typing w)) (sym (meaning_is columns (roll-ExprAst (bare y)) over))
      (key_or (roll-ExprAst (bare y)) (of_node columns (node_of (roll-ExprAst (bare y))) (roll-ExprAst (bare y)) (place_of (roll-ExprAst (bare y))) over)
      (subst (λ (n : NodeAst). Holds (Typing w) (of_node columns n (roll-ExprAst (bare y)) (place_of (roll-ExprAst (bare y))) over)) (sym (node_is y))
      (y.node.1 (roll-ExprAst (bare y)) (place_of (roll-ExprAst (bare y))) (node_is y)
      (subst (λ (n : NodeAst). AllFound (calls_in n (roll-ExprAst (bare y)))) (node_is y) (subst AllFound (calls_of-is (roll-ExprAst (bare y))) h)))))

  pub means_over : (e : ExprAst) → Means e
  means_over = ind-ExprAst NodeMeans Means (λ x y is. subst (λ z. NodeMeans (roll-NodeAst z)) is (node_step y)) (λ x y is. subst (λ z. Means (roll-ExprAst z)) is (expr_step y))
