-- The meaning of an expression over groups has its kind over those of the keys and of the calls, and each call in it has a kind.
use Rattle.std.specs.Prelude.{slice_get}
use Rattle.std.proofs.Common.{ℕ, zero, suc, ◌≡◌, ◌+◌, ◌<◌, refl, sym, ap, ◌∙◌, subst, true, Option, Some, None, Ok, Err, List, [], ◌∷◌, ◌++◌, map, length, arith}
use Rattle.std.proofs.lemmas.Bool.{and_from}
use Rattle.dfx_value.specs.declared.kind.Kind.{Kind}
use Rattle.dfx_value.specs.declared.kind.Kind.TheVariants as kind
use Rattle.dfx_value.specs.declared.op.Op.{Op}
use Rattle.dfx_value.specs.declared.value.Value.TheVariants as value
use Rattle.scalar_exprs.specs.declared.expr.Expr.TheVariants as expr
use Rattle.scalar_exprs.specs.Kinds.{agg_kind}
use Rattle.sql_grammar.specs.declared.ast.FnAst.{FnAst}
use Rattle.sql_grammar.specs.declared.ast.FnAst.TheVariants as fn
use Rattle.sql_grammar.specs.declared.ast.ExprAst.{ExprAst, roll-ExprAst}
use Rattle.sql_grammar.specs.declared.ast.NodeAst.{NodeAst, roll-NodeAst}
use Rattle.sql_grammar.specs.declared.ast.NodeAst.TheOpen.{NodeAst-F, ExprAst-F}
use Rattle.sql_grammar.specs.declared.ast.NodeAst.TheViews.{out-roll-ExprAst}
use Rattle.sql_grammar.specs.declared.ast.NodeAst.TheFolds.{map-ExprAst, map-NodeAst, ind-ExprAst}
use Rattle.sql_grammar.specs.declared.ast.NodeAst.TheVariants as node
use Rattle.typed_exprs.specs.declared.case.Arm.{Arm}
use Rattle.typed_exprs.specs.declared.typed.Typed.{Typed}
use Rattle.typed_exprs.specs.declared.typed.Unary.{Unary}
use Rattle.typed_exprs.specs.declared.typed.Unary.TheVariants as operator
use Rattle.typed_exprs.specs.declared.refusal.Why.TheVariants as why
use Rattle.typed_exprs.specs.Answer.{Answer, ◌>>=◌, refuse, or_refuse}
use Rattle.expr_binder.specs.Calls.{Calls, calls_of, calls_in, calls_of_all, calls_of_arm, calls_of_arms, calls_of_other}
use Rattle.typed_exprs.specs.Case.{chosen}
use Rattle.expr_binder.specs.Groups.{Groups, Over}
use Rattle.expr_binder.specs.Same.{same, same_nodes, function_rank, place_among}
use Rattle.typed_exprs.specs.Scopes.{Columns, column_of}
use Rattle.typed_exprs.specs.Typed.{settled, or_mismatch, unary, binary}
use Rattle.expr_binder.specs.Meaning.{meaning, of_node, node_of, place_of, key_of, or_sense, call_of, call_column, aggregate, column, column_kind, meanings, arm_meaning, arms_meaning, other_meaning, single, applied, applied_to_one, call_meaning, unary_meaning, binary_meaning}
use Rattle.expr_binder.proofs.CallSteps.{calls_of-is, calls-Number, calls-Str, calls-Null, calls-Truth, calls-Name, calls-Call, calls-CountAll, calls-Not, calls-Neg, calls-IsNull, calls-Binary, calls-Case, calls-Cast}
use Rattle.expr_binder.proofs.MeaningSteps.{meaning_is, node-Number, node-Str, node-Null, node-Truth, node-Name, node-Call, node-CountAll, node-Not, node-Neg, node-IsNull, node-Binary, node-Case, node-Cast}
use Rattle.sql_binder.specs.Sources.{kinds}
use Rattle.binder_laws.proofs.Holding.{Holds, after, answered, whatever, where_some, weaker, Every, every_append, every_split}
use Rattle.binder_laws.proofs.Selves.{nat_self, self_is, self_at, selves}
use Rattle.binder_laws.proofs.Found.{place_bound, IsFound, HasCalls}
use Rattle.binder_kind_laws.proofs.Settled.{Real, HasKind, Typing, settled_kind, const_kind, column_has, unary_has, binary_has}
use Rattle.binder_kind_laws.proofs.Unified.{ArmTyping, coalesced_has, chosen_has}
use Rattle.binder_kind_laws.proofs.Meanings.{RealColumns, number_has, text_has, abs_has, length_has, the_single, means}
use Rattle.binder_kind_laws.proofs.Agreeing.{agreed, agree_sym, agrees}
use Rattle.binder_kind_laws.proofs.Callless.{is_free}
use Rattle.binder_kind_laws.proofs.CallKinds.{agg_real, call_kind_of, Fitting, FitsArgument, FitsCall, argument_of, argument_of_all, call_kind_same, count_kind_same, found_at, behind, mapped, key_there}

-- over the columns a key is no refusal
abbrev pub IsBound : Columns → ExprAst → Type 0
IsBound columns e = (t : Typed) × (meaning columns e None ≡ Ok t)

-- keys that are bound, and their kinds
pub record Keyed (columns : Columns) (g : Groups) : Type 0 where
  pub bound : Every (IsBound columns) g.keys
  pub even : length g.kinds ≡ length g.keys
  pub real : Every Real g.kinds

-- the kinds of the keys and of the calls
abbrev pub group_kinds : Columns → Groups → List Kind
group_kinds columns g = g.kinds ++ map (call_kind_of columns) g.calls

bound_at : (columns : Columns) (xs : List ExprAst) (j : ℕ) (x : ExprAst) → Every (IsBound columns) xs → slice_get xs j ≡ Some x → IsBound columns x
bound_at columns [] j x h e = cc
bound_at columns (y ∷ ys) zero x h e = let q : y ≡ x = cc in subst (IsBound columns) q h.0
bound_at columns (y ∷ ys) (suc j) x h e = bound_at columns ys j x h.1 e

kind_at : (ks : List Kind) (k : ℕ) (j : Kind) → slice_get ks k ≡ Some j → column_kind ks k ≡ j
kind_at ks k j e = rw e refl

module _ (columns : Columns) (real : RealColumns columns) (g : Groups) (keyed : Keyed columns g) where
  abbrev ks : List Kind
  ks = group_kinds columns g

  abbrev over : Over
  over = Some g

  abbrev AllFound : Calls → Type 0
  AllFound cs = Every (IsFound columns g.calls) cs

  abbrev pub AllFit : Calls → Type 0
  AllFit cs = Every (FitsCall columns) cs

  -- of its kind, and these calls fit
  abbrev pub Grouped : Calls → Typed → Type 0
  Grouped cs t = Typing ks t × AllFit cs

  abbrev pub Means : ExprAst → Type 0
  Means e = HasCalls columns g.calls e → Holds (Grouped (calls_of e)) (meaning columns e over)

  abbrev NodeMeans : NodeAst → Type 0
  NodeMeans n = (e : ExprAst) (place : ℕ) → node_of e ≡ n → AllFound (calls_in n e) → Holds (Grouped (calls_in n e)) (of_node columns n e place over)

  abbrev Known : Type 0
  Known = (e : ExprAst) × Means e

  abbrev KnownNode : Type 0
  KnownNode = (n : NodeAst) × NodeMeans n

  abbrev known : List Known → List ExprAst
  known xs = map (λ (k : Known). k.0) xs

  abbrev known_arms : List (Known × Known) → List (ExprAst × ExprAst)
  known_arms arms = map (λ (arm : Known × Known). (arm.0.0, arm.1.0)) arms

  -- where a node has these calls
  with_calls : (cs ds : Calls) (a : Answer Typed) → cs ≡ ds → Holds (Grouped ds) a → Holds (Grouped cs) a
  with_calls cs ds a q h = subst (λ (l : Calls). Holds (Grouped l) a) (sym q) h

  -- ---- calls

  -- the column of a call that is found, of its kind
  found_column : (e : ExprAst) (k : Kind) → IsFound columns g.calls e → same columns e e ≡ true → Real k → ((x : ExprAst) → same columns e x ≡ true → call_kind_of columns x ≡ k) → HasKind ks (expr.Column (call_column columns g e)) k
  found_column e k f s r same_kind =
      let p = f s in
      let at = found_at columns e g.calls p.0 p.1 in
      let kind = behind g.kinds (map (call_kind_of columns) g.calls) p.0 (length g.keys) (sym keyed.even) ∙ mapped (call_kind_of columns) g.calls p.0 at.at at.is ∙ ap (λ x. Some x) (same_kind at.at at.equal) in
      rw p.1 (column_has ks (length g.keys + p.0) k kind r)

  -- a call of one bound argument
  aggregate_has : (e a : ExprAst) (place : ℕ) (f : FnAst) → node_of e ≡ node.Call f (a ∷ []) → IsFound columns g.calls e → (t : Typed) → meaning columns a None ≡ Ok t
      → Holds (Grouped (e ∷ [])) (aggregate columns over e place f t)
  aggregate_has e a place f q found t i =
      after (λ k. agg_kind (call_of f) (Some (settled t).1) ≡ Some k) (Grouped (e ∷ [])) (or_mismatch place (agg_kind (call_of f) (Some (settled t).1))) (λ k. Ok (column (call_column columns g e) k))
      (where_some (λ k. agg_kind (call_of f) (Some (settled t).1) ≡ Some k) why.KindMismatch place (agg_kind (call_of f) (Some (settled t).1)) (λ k p. p))
      (λ k p. done k p)
    where
      is_self : same columns e e ≡ true
      is_self = self_is columns e ∙ ap (λ (n : NodeAst). same_nodes columns n n) q ∙ self_at columns (node.Call f (a ∷ [])) (NodeAst-F.Call f (a ∷ [])) (node.rolls-Call f (a ∷ []))
          ∙ and_from _ _ (nat_self (function_rank f)) (and_from _ _ (answered (λ t. same columns a a ≡ true) (meaning columns a None) t (selves columns a) i) refl)

      fitting : (k : Kind) → agg_kind (call_of f) (Some (settled t).1) ≡ Some k → Fitting columns f a
      fitting k p = record { typed = t; is = i; kind = k; gives = p }

      done : (k : Kind) → agg_kind (call_of f) (Some (settled t).1) ≡ Some k → Grouped (e ∷ []) (column (call_column columns g e) k)
      done k p = (
        found_column e k found is_self
            (agg_real (call_of f) (settled t).1 k (settled_kind (kinds columns) t (answered (Typing (kinds columns)) (meaning columns a None) t (means columns real a) i)).real p)
            (λ x s. call_kind_same columns e x a f q s (fitting k p)),
        (subst (FitsArgument columns) (sym (argument_of e a f [] q)) (fitting k p), tt),
      )

  -- an aggregate of a list of arguments
  aggregates : (e : ExprAst) (place : ℕ) (f : FnAst) (es : List ExprAst) → node_of e ≡ node.Call f es → IsFound columns g.calls e
      → Holds (Grouped (e ∷ [])) (meanings columns None es >>= λ ts. or_refuse why.KindMismatch place (single ts) >>= aggregate columns over e place f)
  aggregates e place f [] q found = tt
  aggregates e place f (a ∷ []) q found = go (meaning columns a None) refl
    where
      go : (m : Answer Typed) → meaning columns a None ≡ m → Holds (Grouped (e ∷ [])) ((m >>= λ t. Ok (t ∷ [])) >>= λ ts. or_refuse why.KindMismatch place (single ts) >>= aggregate columns over e place f)
      go (Ok t) i = aggregate_has e a place f q found t i
      go (Err r) i = tt
  aggregates e place f (a ∷ b ∷ more) q found = go (meaning columns a None) (meaning columns b None) (meanings columns None more)
    where
      go : (m n : Answer Typed) (l : Answer (List Typed)) → Holds (Grouped (e ∷ [])) ((m >>= λ t. (n >>= λ u. l >>= λ ts. Ok (u ∷ ts)) >>= λ ts. Ok (t ∷ ts)) >>= λ ts. or_refuse why.KindMismatch place (single ts) >>= aggregate columns over e place f)
      go (Ok t) (Ok u) (Ok ts) = tt
      go (Err r) n l = tt
      go (Ok t) (Err r) l = tt
      go (Ok t) (Ok u) (Err r) = tt

  count_has : (e : ExprAst) → node_of e ≡ node.CountAll → AllFound (calls_in node.CountAll e) → Grouped (calls_in node.CountAll e) (column (call_column columns g e) kind.Int)
  count_has e q h = (
    found_column e kind.Int (subst AllFound (calls-CountAll e) h).0 (self_is columns e ∙ ap (λ (n : NodeAst). same_nodes columns n n) q ∙ self_at columns node.CountAll NodeAst-F.CountAll node.rolls-CountAll) refl
        (λ x s. count_kind_same columns e x q s),
    subst AllFit (sym (calls-CountAll e)) (subst (FitsArgument columns) (sym (argument_of_all e q)) tt, tt),
  )

  -- ---- functions of operands over the groups

  all_mean : (xs : List Known) → AllFound (calls_of_all (known xs)) → Holds (λ ts. Every (Typing ks) ts × AllFit (calls_of_all (known xs))) (meanings columns over (known xs))
  all_mean [] h = (tt, tt)
  all_mean (x ∷ xs) h =
      let p = every_split (IsFound columns g.calls) (calls_of x.0) (calls_of_all (known xs)) h in
      let P = λ (ts : List Typed). Every (Typing ks) ts × AllFit (calls_of_all (known xs)) in
      let Q = λ (ts : List Typed). Every (Typing ks) ts × AllFit (calls_of_all (known (x ∷ xs))) in
      after (Grouped (calls_of x.0)) Q (meaning columns x.0 over) (λ t. meanings columns over (known xs) >>= λ ts. Ok (t ∷ ts)) (x.1 p.0)
      (λ t i. after P Q (meanings columns over (known xs)) (λ ts. Ok (t ∷ ts)) (all_mean xs p.1) (λ ts j. ((i.0, j.0), every_append (FitsCall columns) (calls_of x.0) (calls_of_all (known xs)) i.1 j.1)))

  abbrev Lists : List Known → List Typed → Type 0
  Lists xs ts = Every (Typing ks) ts × AllFit (calls_of_all (known xs))

  -- with the calls of the operands
  and_fit : (cs : Calls) (a : Answer Typed) → AllFit cs → Holds (Typing ks) a → Holds (Grouped cs) a
  and_fit cs a f h = weaker (Typing ks) (Grouped cs) a (λ t i. (i, f)) h

  one_has : (e : ExprAst) (place : ℕ) (f : FnAst) (ts : List Typed) → Every (Typing ks) ts → ((t : Typed) → Typing ks t → Holds (Typing ks) (applied_to_one columns over e place f t)) → Holds (Typing ks) (or_refuse why.KindMismatch place (single ts) >>= applied_to_one columns over e place f)
  one_has e place f ts i k =
      after (Typing ks) (Typing ks) (or_refuse why.KindMismatch place (single ts)) (applied_to_one columns over e place f)
      (where_some (Typing ks) why.KindMismatch place (single ts) (λ t j. the_single ks ts i t j)) k

  call_has : (e : ExprAst) (place : ℕ) (f : FnAst) (xs : List Known) → node_of e ≡ node.Call f (known xs) → AllFound (calls_in (node.Call f (known xs)) e) → Holds (Grouped (calls_in (node.Call f (known xs)) e)) (call_meaning columns over e place f (known xs))
  call_has e place fn.Coalesce xs q h =
      with_calls _ (calls_of_all (known xs)) (call_meaning columns over e place fn.Coalesce (known xs)) (calls-Call e fn.Coalesce (known xs))
      (after (Lists xs) (Grouped (calls_of_all (known xs))) (meanings columns over (known xs)) (applied columns over e place fn.Coalesce) (all_mean xs (subst AllFound (calls-Call e fn.Coalesce (known xs)) h))
      (λ ts i. and_fit (calls_of_all (known xs)) (applied columns over e place fn.Coalesce ts) i.1 (coalesced_has ks place ts i.0)))
  call_has e place fn.Abs xs q h =
      with_calls _ (calls_of_all (known xs)) (call_meaning columns over e place fn.Abs (known xs)) (calls-Call e fn.Abs (known xs))
      (after (Lists xs) (Grouped (calls_of_all (known xs))) (meanings columns over (known xs)) (applied columns over e place fn.Abs) (all_mean xs (subst AllFound (calls-Call e fn.Abs (known xs)) h))
      (λ ts i. and_fit (calls_of_all (known xs)) (applied columns over e place fn.Abs ts) i.1 (one_has e place fn.Abs ts i.0 (abs_has ks place))))
  call_has e place fn.Length xs q h =
      with_calls _ (calls_of_all (known xs)) (call_meaning columns over e place fn.Length (known xs)) (calls-Call e fn.Length (known xs))
      (after (Lists xs) (Grouped (calls_of_all (known xs))) (meanings columns over (known xs)) (applied columns over e place fn.Length) (all_mean xs (subst AllFound (calls-Call e fn.Length (known xs)) h))
      (λ ts i. and_fit (calls_of_all (known xs)) (applied columns over e place fn.Length ts) i.1 (one_has e place fn.Length ts i.0 (length_has ks place))))
  call_has e place fn.Count xs q h = with_calls _ (e ∷ []) (call_meaning columns over e place fn.Count (known xs)) (calls-Call e fn.Count (known xs)) (aggregates e place fn.Count (known xs) q (subst AllFound (calls-Call e fn.Count (known xs)) h).0)
  call_has e place fn.Sum xs q h = with_calls _ (e ∷ []) (call_meaning columns over e place fn.Sum (known xs)) (calls-Call e fn.Sum (known xs)) (aggregates e place fn.Sum (known xs) q (subst AllFound (calls-Call e fn.Sum (known xs)) h).0)
  call_has e place fn.Min xs q h = with_calls _ (e ∷ []) (call_meaning columns over e place fn.Min (known xs)) (calls-Call e fn.Min (known xs)) (aggregates e place fn.Min (known xs) q (subst AllFound (calls-Call e fn.Min (known xs)) h).0)
  call_has e place fn.Max xs q h = with_calls _ (e ∷ []) (call_meaning columns over e place fn.Max (known xs)) (calls-Call e fn.Max (known xs)) (aggregates e place fn.Max (known xs) q (subst AllFound (calls-Call e fn.Max (known xs)) h).0)
  call_has e place fn.Avg xs q h = with_calls _ (e ∷ []) (call_meaning columns over e place fn.Avg (known xs)) (calls-Call e fn.Avg (known xs)) (aggregates e place fn.Avg (known xs) q (subst AllFound (calls-Call e fn.Avg (known xs)) h).0)

  -- ---- operators and CASE

  one_step : (x : Known) (place : ℕ) (o : Unary) → HasCalls columns g.calls x.0 → Holds (Grouped (calls_of x.0)) (unary_meaning columns over place o x.0)
  one_step x place o h = after (Grouped (calls_of x.0)) (Grouped (calls_of x.0)) (meaning columns x.0 over) (unary place o) (x.1 h) (λ t i. and_fit (calls_of x.0) (unary place o t) i.1 (unary_has ks place o t i.0))

  two_step : (x y : Known) (place : ℕ) (o : Op) → AllFound (calls_of x.0 ++ calls_of y.0) → Holds (Grouped (calls_of x.0 ++ calls_of y.0)) (binary_meaning columns over place o x.0 y.0)
  two_step x y place o h =
      let p = every_split (IsFound columns g.calls) (calls_of x.0) (calls_of y.0) h in
      let all = Grouped (calls_of x.0 ++ calls_of y.0) in
      after (Grouped (calls_of x.0)) all (meaning columns x.0 over) (λ a. meaning columns y.0 over >>= λ b. binary place o a b) (x.1 p.0)
      (λ a i. after (Grouped (calls_of y.0)) all (meaning columns y.0 over) (λ b. binary place o a b) (y.1 p.1)
      (λ b j. and_fit (calls_of x.0 ++ calls_of y.0) (binary place o a b) (every_append (FitsCall columns) (calls_of x.0) (calls_of y.0) i.1 j.1) (binary_has ks place o a b i.0 j.0)))

  arm_has : (x y : Known) → AllFound (calls_of_arm (x.0, y.0)) → Holds (λ arm. ArmTyping ks arm × AllFit (calls_of_arm (x.0, y.0))) (arm_meaning columns over (x.0, y.0))
  arm_has x y h =
      let p = every_split (IsFound columns g.calls) (calls_of x.0) (calls_of y.0) h in
      let all = λ (arm : Arm). ArmTyping ks arm × AllFit (calls_of_arm (x.0, y.0)) in
      after (Grouped (calls_of x.0)) all (meaning columns x.0 over) _ (x.1 p.0)
      (λ c i. after (Grouped (calls_of y.0)) all (meaning columns y.0 over) _ (y.1 p.1) (λ r j. ((i.0, j.0), every_append (FitsCall columns) (calls_of x.0) (calls_of y.0) i.1 j.1)))

  abbrev Arms : List (Known × Known) → List Arm → Type 0
  Arms arms bound = Every (ArmTyping ks) bound × AllFit (calls_of_arms (known_arms arms))

  arms_mean : (arms : List (Known × Known)) → AllFound (calls_of_arms (known_arms arms)) → Holds (Arms arms) (arms_meaning columns over (known_arms arms))
  arms_mean [] h = (tt, tt)
  arms_mean (arm ∷ arms) h =
      let p = every_split (IsFound columns g.calls) (calls_of_arm (arm.0.0, arm.1.0)) (calls_of_arms (known_arms arms)) h in
      after (λ b. ArmTyping ks b × AllFit (calls_of_arm (arm.0.0, arm.1.0))) (Arms (arm ∷ arms)) (arm_meaning columns over (arm.0.0, arm.1.0)) (λ t. arms_meaning columns over (known_arms arms) >>= λ ts. Ok (t ∷ ts)) (arm_has arm.0 arm.1 p.0)
      (λ t i. after (Arms arms) (Arms (arm ∷ arms)) (arms_meaning columns over (known_arms arms)) (λ ts. Ok (t ∷ ts)) (arms_mean arms p.1)
      (λ ts j. ((i.0, j.0), every_append (FitsCall columns) (calls_of_arm (arm.0.0, arm.1.0)) (calls_of_arms (known_arms arms)) i.1 j.1)))

  case_has : (e : ExprAst) (place : ℕ) (arms : List (Known × Known)) (other : Option ExprAst) → (AllFound (calls_of_other other) → Holds (Grouped (calls_of_other other)) (other_meaning columns over other)) → AllFound (calls_in (node.Case (known_arms arms) other) e)
      → Holds (Grouped (calls_in (node.Case (known_arms arms) other) e)) (of_node columns (node.Case (known_arms arms) other) e place over)
  case_has e place arms other k h =
      let p = every_split (IsFound columns g.calls) (calls_of_arms (known_arms arms)) (calls_of_other other) (subst AllFound (calls-Case e (known_arms arms) other) h) in
      let all = Grouped (calls_of_arms (known_arms arms) ++ calls_of_other other) in
      with_calls _ (calls_of_arms (known_arms arms) ++ calls_of_other other) (of_node columns (node.Case (known_arms arms) other) e place over) (calls-Case e (known_arms arms) other)
      (subst (Holds all) (sym (node-Case columns e place over (known_arms arms) other))
      (after (Arms arms) all (arms_meaning columns over (known_arms arms)) (λ bound. other_meaning columns over other >>= λ d. chosen place bound d) (arms_mean arms p.0)
      (λ bound i. after (Grouped (calls_of_other other)) all (other_meaning columns over other) (λ d. chosen place bound d) (k p.1)
      (λ d j. and_fit (calls_of_arms (known_arms arms) ++ calls_of_other other) (chosen place bound d) (every_append (FitsCall columns) (calls_of_arms (known_arms arms)) (calls_of_other other) i.1 j.1) (chosen_has ks place bound d i.0 j.0)))))

  -- ---- nodes

  -- a node without calls
  alone : (n : NodeAst) → ((e : ExprAst) → calls_in n e ≡ []) → ((e : ExprAst) (place : ℕ) → Holds (Typing ks) (of_node columns n e place over)) → NodeMeans n
  alone n none f e place q h = and_fit (calls_in n e) (of_node columns n e place over) (subst AllFit (sym (none e)) tt) (f e place)

  -- a node of one operand
  above : (n : NodeAst) (x : Known) (o : Unary) → ((e : ExprAst) → calls_in n e ≡ calls_of x.0) → ((e : ExprAst) (place : ℕ) → of_node columns n e place over ≡ unary_meaning columns over place o x.0) → NodeMeans n
  above n x o calls is e place q h = with_calls (calls_in n e) (calls_of x.0) (of_node columns n e place over) (calls e) (subst (Holds (Grouped (calls_of x.0))) (sym (is e place)) (one_step x place o (subst AllFound (calls e) h)))

  node_step : (y : NodeAst-F KnownNode Known) → NodeMeans (roll-NodeAst (map-NodeAst KnownNode Known NodeAst ExprAst (λ k. k.0) (λ k. k.0) y))
  node_step (NodeAst-F.Number t) = subst NodeMeans (sym (node.rolls-Number t)) (alone (node.Number t) (λ e. calls-Number e t) (λ e place. subst (Holds (Typing ks)) (sym (node-Number columns e place over t)) (number_has ks place t)))
  node_step (NodeAst-F.Str t) = subst NodeMeans (sym (node.rolls-Str t)) (alone (node.Str t) (λ e. calls-Str e t) (λ e place. subst (Holds (Typing ks)) (sym (node-Str columns e place over t)) (text_has ks place t)))
  node_step NodeAst-F.Null = subst NodeMeans (sym node.rolls-Null) (alone node.Null (λ e. calls-Null e) (λ e place. subst (Holds (Typing ks)) (sym (node-Null columns e place over)) tt))
  node_step (NodeAst-F.Truth b) = subst NodeMeans (sym (node.rolls-Truth b)) (alone (node.Truth b) (λ e. calls-Truth e b) (λ e place. subst (Holds (Typing ks)) (sym (node-Truth columns e place over b)) (const_kind ks (value.Bool b) kind.Bool refl refl)))
  node_step (NodeAst-F.Name alias name) = subst NodeMeans (sym (node.rolls-Name alias name)) (alone (node.Name alias name) (λ e. calls-Name e alias name) (λ e place. subst (Holds (Typing ks)) (sym (node-Name columns e place over alias name))
      (whatever (Typing ks) (column_of columns place alias name) (λ k. refuse why.NotGrouped place) (λ k. tt))))
  node_step (NodeAst-F.Call f xs) = subst NodeMeans (sym (node.rolls-Call f (known xs))) (λ e place q h. subst (Holds (Grouped (calls_in (node.Call f (known xs)) e))) (sym (node-Call columns e place over f (known xs))) (call_has e place f xs q h))
  node_step NodeAst-F.CountAll = subst NodeMeans (sym node.rolls-CountAll) (λ e place q h. subst (Holds (Grouped (calls_in node.CountAll e))) (sym (node-CountAll columns e place over)) (count_has e q h))
  node_step (NodeAst-F.Not x) = subst NodeMeans (sym (node.rolls-Not x.0)) (above (node.Not x.0) x operator.Not (λ e. calls-Not e x.0) (λ e place. node-Not columns e place over x.0))
  node_step (NodeAst-F.Neg x) = subst NodeMeans (sym (node.rolls-Neg x.0)) (above (node.Neg x.0) x operator.Neg (λ e. calls-Neg e x.0) (λ e place. node-Neg columns e place over x.0))
  node_step (NodeAst-F.IsNull x) = subst NodeMeans (sym (node.rolls-IsNull x.0)) (above (node.IsNull x.0) x operator.IsNull (λ e. calls-IsNull e x.0) (λ e place. node-IsNull columns e place over x.0))
  node_step (NodeAst-F.Cast x to) = subst NodeMeans (sym (node.rolls-Cast x.0 to)) (above (node.Cast x.0 to) x (operator.Cast to) (λ e. calls-Cast e x.0 to) (λ e place. node-Cast columns e place over x.0 to))
  node_step (NodeAst-F.Binary o x y) = subst NodeMeans (sym (node.rolls-Binary o x.0 y.0)) (λ e place q h.
      with_calls (calls_in (node.Binary o x.0 y.0) e) (calls_of x.0 ++ calls_of y.0) (of_node columns (node.Binary o x.0 y.0) e place over) (calls-Binary e o x.0 y.0)
      (subst (Holds (Grouped (calls_of x.0 ++ calls_of y.0))) (sym (node-Binary columns e place over o x.0 y.0)) (two_step x y place o (subst AllFound (calls-Binary e o x.0 y.0) h))))
  node_step (NodeAst-F.Case arms None) = subst NodeMeans (sym (node.rolls-Case (known_arms arms) None)) (λ e place q h. case_has e place arms None (λ i. (tt, tt)) h)
  node_step (NodeAst-F.Case arms (Some x)) = subst NodeMeans (sym (node.rolls-Case (known_arms arms) (Some x.0))) (λ e place q h. case_has e place arms (Some x.0) x.1 h)

  -- ---- expressions

  abbrev bare : ExprAst-F KnownNode Known → ExprAst-F NodeAst ExprAst
  bare y = map-ExprAst KnownNode Known NodeAst ExprAst (λ k. k.0) (λ k. k.0) y

  node_is : (y : ExprAst-F KnownNode Known) → node_of (roll-ExprAst (bare y)) ≡ y.node.0
  node_is y = ap (λ (x : ExprAst-F NodeAst ExprAst). x.node) (out-roll-ExprAst (bare y))

  -- what is equal to a key has no calls
  key_free : (e : ExprAst) (k : ℕ) → place_among columns e g.keys ≡ Some k → calls_of e ≡ []
  key_free e k q =
      let at = found_at columns e g.keys k q in
      let b = bound_at columns g.keys k at.at keyed.bound at.is in
      let m = agreed (meaning columns at.at None) (meaning columns e None) b.0 (agree_sym (meaning columns e None) (meaning columns at.at None) (agrees columns e at.at at.equal)) b.1 in
      answered (λ t. calls_of e ≡ []) (meaning columns e None) b.0 (is_free columns e) m

  pub key_column : (k : ℕ) → k < length g.keys → HasKind ks (expr.Column k) (column_kind g.kinds k)
  key_column k h =
      let m = key_there g.kinds (map (call_kind_of columns) g.calls) k keyed.real (let e = keyed.even in omega arith) in
      let q = kind_at g.kinds k m.at m.is in
      column_has ks k (column_kind g.kinds k) (m.front ∙ ap (λ x. Some x) (sym q)) (subst Real (sym q) m.real)

  -- a key, or what its node is
  key_or : (e : ExprAst) (rest : Answer Typed) → Holds (Grouped (calls_of e)) rest → Holds (Grouped (calls_of e)) (or_sense (key_of columns over e) rest)
  key_or e rest h = go (place_among columns e g.keys) refl
    where
      go : (o : Option ℕ) → place_among columns e g.keys ≡ o → Holds (Grouped (calls_of e)) (or_sense (key_of columns over e) rest)
      go None q = rw q h
      go (Some k) q = let b = place_bound columns e g.keys 0 k q in rw q (key_column k (omega arith), subst AllFit (sym (key_free e k q)) tt)

  expr_step : (y : ExprAst-F KnownNode Known) → Means (roll-ExprAst (bare y))
  expr_step y h =
      let e = roll-ExprAst (bare y) in
      subst (Holds (Grouped (calls_of e))) (sym (meaning_is columns e over))
      (key_or e (of_node columns (node_of e) e (place_of e) over)
      (with_calls (calls_of e) (calls_in (node_of e) e) (of_node columns (node_of e) e (place_of e) over) (calls_of-is e)
      (subst (λ (n : NodeAst). Holds (Grouped (calls_in n e)) (of_node columns n e (place_of e) over)) (sym (node_is y))
      (y.node.1 e (place_of e) (node_is y)
      (subst (λ (n : NodeAst). AllFound (calls_in n e)) (node_is y) (subst AllFound (calls_of-is e) h))))))

  pub means_over : (e : ExprAst) → Means e
  means_over = ind-ExprAst NodeMeans Means (λ x y is. subst (λ z. NodeMeans (roll-NodeAst z)) is (node_step y)) (λ x y is. subst (λ z. Means (roll-ExprAst z)) is (expr_step y))
