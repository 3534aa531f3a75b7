-- The meaning of an expression over columns names columns below their number.
use Rattle.std.proofs.Common.{ℕ, suc, ◌≡◌, ◌+◌, ◌≤◌, refl, sym, subst, Bool, true, false, Option, Some, None, Ok, List, [], ◌∷◌, map, length, arith}
use Rattle.std.specs.Prelude.{not}
use Rattle.std.specs.Str.{is_utf8}
use Rattle.std.proofs.lemmas.Bool.{lt-ltb}
use Rattle.dfx_value.specs.declared.value.Value.TheVariants as value
use Rattle.scalar_exprs.specs.declared.expr.Expr.TheVariants as expr
use Rattle.scalar_exprs.specs.Kinds.{when_number, length_kind}
use Rattle.dfx_value.specs.declared.kind.Kind.TheVariants as kind
use Rattle.sql_grammar.specs.declared.ast.FnAst.{FnAst}
use Rattle.sql_grammar.specs.declared.ast.FnAst.TheVariants as fn
use Rattle.sql_grammar.specs.declared.ast.ExprAst.{ExprAst, roll-ExprAst}
use Rattle.sql_grammar.specs.declared.ast.NodeAst.{NodeAst, roll-NodeAst}
use Rattle.sql_grammar.specs.declared.ast.NodeAst.TheOpen.{NodeAst-F, ExprAst-F}
use Rattle.sql_grammar.specs.declared.ast.NodeAst.TheFolds.{map-ExprAst, map-NodeAst, ind-ExprAst}
use Rattle.sql_grammar.specs.declared.ast.NodeAst.TheVariants as node
use Rattle.sql_grammar.specs.declared.ast.NodeAst.TheViews.{out-roll-ExprAst}
use Rattle.typed_exprs.specs.declared.scope.Column.{Column}
use Rattle.typed_exprs.specs.declared.typed.Typed.{Typed}
use Rattle.typed_exprs.specs.declared.typed.Typed.TheVariants as typed
use Rattle.typed_exprs.specs.declared.typed.Unary.{Unary}
use Rattle.typed_exprs.specs.declared.typed.Unary.TheVariants as operator
use Rattle.dfx_value.specs.declared.op.Op.{Op}
use Rattle.typed_exprs.specs.Literals.{literal}
use Rattle.typed_exprs.specs.declared.refusal.Why.TheVariants as why
use Rattle.typed_exprs.specs.Answer.{◌>>=◌, or_refuse, refuse_if}
use Rattle.typed_exprs.specs.Case.{chosen}
use Rattle.typed_exprs.specs.Scopes.{Columns, numbers_from, with_if, numbers, is_named, is_unknown, the_one, column_of}
use Rattle.typed_exprs.specs.Typed.{settled, unary, binary}
use Rattle.expr_binder.specs.Meaning.{meaning, of_node, place_of, meanings, arm_meaning, arms_meaning, other_meaning, operands_over, single, applied, applied_to_one, call_meaning, case_meaning, column, kind_of_column, number, text, unary_meaning, binary_meaning}
use Rattle.expr_binder.proofs.MeaningSteps.{meaning_is, node-Number, node-Str, node-Null, node-Truth, node-Name, node-Call, node-CountAll, node-Not, node-Neg, node-IsNull, node-Binary, node-Case, node-Cast}
use Rattle.join_lowering.proofs.Nodes.{columns-Abs, columns-Length}
use Rattle.physical_plan.proofs.Everywhere.{both_true}
use Rattle.planned_laws.specs.Ranges.{are_below}
use Rattle.binder_laws.proofs.Holding.{Holds, after, whatever, unless, where_some, Every}
use Rattle.binder_laws.proofs.Readings.{Typing, ArmReads, given_reads, of_kind_reads, unary_reads, binary_reads, coalesced_reads, chosen_reads, column_reads, const_reads}

-- ---- names

pub numbers_below : (is : Column → Bool) (cs : Columns) (k w : ℕ) → k + length cs ≤ w → are_below w (numbers_from is k cs) ≡ true
numbers_below is [] k w h = refl
numbers_below is (c ∷ cs) k w h = go (is c) (numbers_below is cs (suc k) w (omega arith))
  where
    go : (b : Bool) → are_below w (numbers_from is (suc k) cs) ≡ true → are_below w (with_if b k (numbers_from is (suc k) cs)) ≡ true
    go true more = both_true _ _ (lt-ltb k w (omega arith)) more
    go false more = more

one_below : (w place : ℕ) (ks : List ℕ) → are_below w ks ≡ true → Holds (λ k. are_below w (k ∷ []) ≡ true) (the_one place ks)
one_below w place [] h = tt
one_below w place (k ∷ []) h = h
one_below w place (k ∷ l ∷ more) h = tt

-- the column that a name names is one of the columns
pub named_below : (columns : Columns) (place : ℕ) (alias : Option (List ℕ)) (name : List ℕ) → Holds (λ k. are_below (length columns) (k ∷ []) ≡ true) (column_of columns place alias name)
named_below columns place alias name =
    unless (λ k. are_below (length columns) (k ∷ []) ≡ true) (is_unknown alias columns) _ place (the_one place (numbers (is_named alias name) columns))
    (one_below (length columns) place (numbers (is_named alias name) columns) (numbers_below (is_named alias name) columns 0 (length columns) (omega arith)))

pub number_reads_at : (w place : ℕ) (t : List ℕ) → Holds (Typing w) (number place (literal t))
number_reads_at w place t = whatever (Typing w) (or_refuse why.Unsupported place (literal t)) (λ c. Ok (typed.Of (expr.Const c.0 c.1) c.1)) (λ c. const_reads w c.0 c.1)

pub text_reads_at : (w place : ℕ) (t : List ℕ) → Holds (Typing w) (text place t)
text_reads_at w place t = go (is_utf8 t) where
  go : (b : Bool) → Holds (Typing w) (refuse_if (not b) why.Unsupported place (Ok (typed.Of (expr.Const (value.Text t) kind.Text) kind.Text)))
  go true = const_reads w (value.Text t) kind.Text
  go false = tt

module _ (columns : Columns) where
  abbrev w : ℕ
  w = length columns

  abbrev pub Means : ExprAst → Type 0
  Means e = Holds (Typing w) (meaning columns e None)

  abbrev NodeMeans : NodeAst → Type 0
  NodeMeans n = (e : ExprAst) (place : ℕ) → Holds (Typing w) (of_node columns n e place None)

  abbrev Known : Type 0
  Known = (e : ExprAst) × Means e

  abbrev known : List Known → List ExprAst
  known xs = map (λ (k : Known). k.0) xs

  -- ---- calls

  all_mean : (xs : List Known) → Holds (Every (Typing w)) (meanings columns None (known xs))
  all_mean [] = tt
  all_mean (x ∷ xs) =
      after (Typing w) (Every (Typing w)) (meaning columns x.0 None) (λ t. meanings columns None (known xs) >>= λ ts. Ok (t ∷ ts)) x.1
      (λ t h. after (Every (Typing w)) (Every (Typing w)) (meanings columns None (known xs)) (λ ts. Ok (t ∷ ts)) (all_mean xs) (λ ts i. (h, i)))

  pub over_none : (f : FnAst) → operands_over f None ≡ None
  over_none fn.Coalesce = refl
  over_none fn.Abs = refl
  over_none fn.Length = refl
  over_none fn.Count = refl
  over_none fn.Sum = refl
  over_none fn.Min = refl
  over_none fn.Max = refl
  over_none fn.Avg = refl

  the_single : (ts : List Typed) → Every (Typing w) ts → (t : Typed) → single ts ≡ Some t → Typing w t
  the_single [] h t e = cc
  the_single (x ∷ []) h t e = let q : x ≡ t = cc in subst (Typing w) q h.0
  the_single (x ∷ y ∷ more) h t e = cc

  pub to_one : (e : ExprAst) (place : ℕ) (f : FnAst) (t : Typed) → Typing w t → Holds (Typing w) (applied_to_one columns None e place f t)
  to_one e place fn.Abs t h = of_kind_reads w place expr.Abs when_number (settled t) columns-Abs (given_reads w kind.Text t h)
  to_one e place fn.Length t h = of_kind_reads w place expr.Length length_kind (settled t) columns-Length (given_reads w kind.Text t h)
  to_one e place fn.Coalesce t h = tt
  to_one e place fn.Count t h = tt
  to_one e place fn.Sum t h = tt
  to_one e place fn.Min t h = tt
  to_one e place fn.Max t h = tt
  to_one e place fn.Avg t h = tt

  one_applied : (e : ExprAst) (place : ℕ) (f : FnAst) (ts : List Typed) → Every (Typing w) ts → Holds (Typing w) (or_refuse why.KindMismatch place (single ts) >>= applied_to_one columns None e place f)
  one_applied e place f ts h =
      after (Typing w) (Typing w) (or_refuse why.KindMismatch place (single ts)) (applied_to_one columns None e place f)
      (where_some (Typing w) why.KindMismatch place (single ts) (λ t i. the_single ts h t i)) (to_one e place f)

  applied_reads : (e : ExprAst) (place : ℕ) (f : FnAst) (ts : List Typed) → Every (Typing w) ts → Holds (Typing w) (applied columns None e place f ts)
  applied_reads e place fn.Coalesce ts h = coalesced_reads w place ts h
  applied_reads e place fn.Abs ts h = one_applied e place fn.Abs ts h
  applied_reads e place fn.Length ts h = one_applied e place fn.Length ts h
  applied_reads e place fn.Count ts h = one_applied e place fn.Count ts h
  applied_reads e place fn.Sum ts h = one_applied e place fn.Sum ts h
  applied_reads e place fn.Min ts h = one_applied e place fn.Min ts h
  applied_reads e place fn.Max ts h = one_applied e place fn.Max ts h
  applied_reads e place fn.Avg ts h = one_applied e place fn.Avg ts h

  call_reads : (e : ExprAst) (place : ℕ) (f : FnAst) (xs : List Known) → Holds (Typing w) (call_meaning columns None e place f (known xs))
  call_reads e place f xs =
      subst (λ over. Holds (Typing w) (meanings columns over (known xs) >>= applied columns None e place f)) (sym (over_none f))
      (after (Every (Typing w)) (Typing w) (meanings columns None (known xs)) (applied columns None e place f) (all_mean xs) (applied_reads e place f))

  -- ---- CASE

  abbrev known_arms : List (Known × Known) → List (ExprAst × ExprAst)
  known_arms arms = map (λ (arm : Known × Known). (arm.0.0, arm.1.0)) arms

  arm_reads : (x y : Known) → Holds (ArmReads w) (arm_meaning columns None (x.0, y.0))
  arm_reads x y =
      after (Typing w) (ArmReads w) (meaning columns x.0 None) (λ c. meaning columns y.0 None >>= λ r. Ok (record { place = place_of x.0; test = c; result = r })) x.1
      (λ c h. after (Typing w) (ArmReads w) (meaning columns y.0 None) (λ r. Ok (record { place = place_of x.0; test = c; result = r })) y.1 (λ r i. (h, i)))

  arms_mean : (arms : List (Known × Known)) → Holds (Every (ArmReads w)) (arms_meaning columns None (known_arms arms))
  arms_mean [] = tt
  arms_mean (arm ∷ arms) =
      after (ArmReads w) (Every (ArmReads w)) (arm_meaning columns None (arm.0.0, arm.1.0)) (λ t. arms_meaning columns None (known_arms arms) >>= λ ts. Ok (t ∷ ts)) (arm_reads arm.0 arm.1)
      (λ t h. after (Every (ArmReads w)) (Every (ArmReads w)) (arms_meaning columns None (known_arms arms)) (λ ts. Ok (t ∷ ts)) (arms_mean arms) (λ ts i. (h, i)))

  case_reads : (place : ℕ) (arms : List (Known × Known)) (other : Option ExprAst) → Holds (Typing w) (other_meaning columns None other) → Holds (Typing w) (case_meaning columns None place (known_arms arms) other)
  case_reads place arms other h =
      after (Every (ArmReads w)) (Typing w) (arms_meaning columns None (known_arms arms)) (λ bound. other_meaning columns None other >>= λ d. chosen place bound d) (arms_mean arms)
      (λ bound i. after (Typing w) (Typing w) (other_meaning columns None other) (λ d. chosen place bound d) h (λ d j. chosen_reads w place bound d i j))

  -- ---- nodes

  abbrev KnownNode : Type 0
  KnownNode = (n : NodeAst) × NodeMeans n

  unary_step : (x : Known) (place : ℕ) (o : Unary) → Holds (Typing w) (unary_meaning columns None place o x.0)
  unary_step x place o = after (Typing w) (Typing w) (meaning columns x.0 None) (unary place o) x.1 (unary_reads w place o)

  binary_step : (x y : Known) (place : ℕ) (o : Op) → Holds (Typing w) (binary_meaning columns None place o x.0 y.0)
  binary_step x y place o =
      after (Typing w) (Typing w) (meaning columns x.0 None) (λ a. meaning columns y.0 None >>= λ b. binary place o a b) x.1
      (λ a h. after (Typing w) (Typing w) (meaning columns y.0 None) (λ b. binary place o a b) y.1 (λ b i. binary_reads w place o a b h i))

  node_step : (y : NodeAst-F KnownNode Known) → NodeMeans (roll-NodeAst (map-NodeAst KnownNode Known NodeAst ExprAst (λ k. k.0) (λ k. k.0) y))
  node_step (NodeAst-F.Number t) = subst NodeMeans (sym (node.rolls-Number t)) (λ e place. subst (Holds (Typing w)) (sym (node-Number columns e place None t)) (number_reads_at w place t))
  node_step (NodeAst-F.Str t) = subst NodeMeans (sym (node.rolls-Str t)) (λ e place. subst (Holds (Typing w)) (sym (node-Str columns e place None t)) (text_reads_at w place t))
  node_step NodeAst-F.Null = subst NodeMeans (sym node.rolls-Null) (λ e place. subst (Holds (Typing w)) (sym (node-Null columns e place None)) tt)
  node_step (NodeAst-F.Truth b) = subst NodeMeans (sym (node.rolls-Truth b)) (λ e place. subst (Holds (Typing w)) (sym (node-Truth columns e place None b)) (const_reads w _ _))
  node_step (NodeAst-F.Name alias name) = subst NodeMeans (sym (node.rolls-Name alias name)) (λ e place. subst (Holds (Typing w)) (sym (node-Name columns e place None alias name))
      (after (λ k. are_below w (k ∷ []) ≡ true) (Typing w) (column_of columns place alias name) (λ k. Ok (column k (kind_of_column columns k))) (named_below columns place alias name) (column_reads w)))
  node_step (NodeAst-F.Call f xs) = subst NodeMeans (sym (node.rolls-Call f (known xs))) (λ e place. subst (Holds (Typing w)) (sym (node-Call columns e place None f (known xs))) (call_reads e place f xs))
  node_step NodeAst-F.CountAll = subst NodeMeans (sym node.rolls-CountAll) (λ e place. subst (Holds (Typing w)) (sym (node-CountAll columns e place None)) tt)
  node_step (NodeAst-F.Not x) = subst NodeMeans (sym (node.rolls-Not x.0)) (λ e place. subst (Holds (Typing w)) (sym (node-Not columns e place None x.0)) (unary_step x place operator.Not))
  node_step (NodeAst-F.Neg x) = subst NodeMeans (sym (node.rolls-Neg x.0)) (λ e place. subst (Holds (Typing w)) (sym (node-Neg columns e place None x.0)) (unary_step x place operator.Neg))
  node_step (NodeAst-F.IsNull x) = subst NodeMeans (sym (node.rolls-IsNull x.0)) (λ e place. subst (Holds (Typing w)) (sym (node-IsNull columns e place None x.0)) (unary_step x place operator.IsNull))
  node_step (NodeAst-F.Binary o x y) = subst NodeMeans (sym (node.rolls-Binary o x.0 y.0)) (λ e place. subst (Holds (Typing w)) (sym (node-Binary columns e place None o x.0 y.0)) (binary_step x y place o))
  node_step (NodeAst-F.Case arms None) = subst NodeMeans (sym (node.rolls-Case (known_arms arms) None)) (λ e place. subst (Holds (Typing w)) (sym (node-Case columns e place None (known_arms arms) None)) (case_reads place arms None tt))
  node_step (NodeAst-F.Case arms (Some x)) = subst NodeMeans (sym (node.rolls-Case (known_arms arms) (Some x.0))) (λ e place. subst (Holds (Typing w)) (sym (node-Case columns e place None (known_arms arms) (Some x.0))) (case_reads place arms (Some x.0) x.1))
  node_step (NodeAst-F.Cast x to) = subst NodeMeans (sym (node.rolls-Cast x.0 to)) (λ e place. subst (Holds (Typing w)) (sym (node-Cast columns e place None x.0 to)) (unary_step x place (operator.Cast to)))

  abbrev bare : ExprAst-F KnownNode Known → ExprAst-F NodeAst ExprAst
  bare y = map-ExprAst KnownNode Known NodeAst ExprAst (λ k. k.0) (λ k. k.0) y

  expr_step : (y : ExprAst-F KnownNode Known) → Means (roll-ExprAst (map-ExprAst KnownNode Known NodeAst ExprAst (λ k. k.0) (λ k. k.0) y))
  expr_step y = subst (Holds (Typing w)) (sym (meaning_is columns (roll-ExprAst (bare y)) None)) (subst (λ (x : ExprAst-F NodeAst ExprAst). Holds (Typing w) (of_node columns x.node (roll-ExprAst (bare y)) x.place None)) (sym (out-roll-ExprAst (bare y))) (y.node.1 (roll-ExprAst (bare y)) y.place))

  -- what an expression means names the columns that it is over
  pub means : (e : ExprAst) → Means e
  means = ind-ExprAst NodeMeans Means (λ x y is. subst (λ z. NodeMeans (roll-NodeAst z)) is (node_step y)) (λ x y is. subst (λ z. Means (roll-ExprAst z)) is (expr_step y))
