-- An expression that means something over columns is equal to itself.
use Rattle.std.specs.Prelude.{nat_eq}
use Rattle.std.proofs.Common.{ℕ, ◌≡◌, refl, sym, ap, ◌∙◌, subst, Bool, true, false, ◌&&◌, Option, Some, None, Ok, Err, List, [], ◌∷◌, map}
use Rattle.std.proofs.lemmas.Bool.{eq-eqb}
use Rattle.dfx_value.specs.declared.kind.Kind.{Kind}
use Rattle.dfx_value.specs.declared.kind.Kind.TheVariants as kind
use Rattle.scalar_exprs.specs.Kinds.{same as same_kind}
use Rattle.sql_grammar.specs.declared.ast.ExprAst.{ExprAst, roll-ExprAst, out-ExprAst}
use Rattle.sql_grammar.specs.declared.ast.NodeAst.{NodeAst, roll-NodeAst}
use Rattle.sql_grammar.specs.declared.ast.NodeAst.TheOpen.{NodeAst-F, ExprAst-F}
use Rattle.sql_grammar.specs.declared.ast.NodeAst.TheViews.{out-roll-ExprAst, out-roll-NodeAst, roll-out-ExprAst}
use Rattle.sql_grammar.specs.declared.ast.NodeAst.TheFolds.{map-ExprAst, map-NodeAst, ind-ExprAst, fold-roll-ExprAst, fold-roll-NodeAst}
use Rattle.sql_grammar.specs.declared.ast.NodeAst.TheVariants as node
use Rattle.typed_exprs.specs.declared.typed.Typed.{Typed}
use Rattle.typed_exprs.specs.declared.typed.Unary.TheVariants as operator
use Rattle.typed_exprs.specs.declared.refusal.Why.{Why}
use Rattle.typed_exprs.specs.declared.refusal.Why.TheVariants as why
use Rattle.typed_exprs.specs.Answer.{Answer, ◌>>=◌, refuse_if}
use Rattle.typed_exprs.specs.Case.{chosen}
use Rattle.expr_binder.specs.Same.{same_column, same_name, same_truth, function_rank, op_rank, Is, all_same, arms_same, same_layer, same_node, same_expr, same, same_nodes, same_arm}
use Rattle.typed_exprs.specs.Scopes.{Columns, is_text, is_named, is_unknown, numbers, the_one, column_of}
use Rattle.typed_exprs.specs.Typed.{unary, binary}
use Rattle.expr_binder.specs.Meaning.{meaning, of_node, node_of, place_of, meanings, arm_meaning, arms_meaning, other_meaning, applied, named}
use Rattle.expr_binder.proofs.MeaningSteps.{meaning_is, node-Name, node-Call, node-Not, node-Neg, node-IsNull, node-Binary, node-Case, node-Cast}
use Rattle.physical_plan.proofs.Everywhere.{both_true}
use Rattle.binder_laws.proofs.Holding.{Holds, after}
use Rattle.binder_laws.proofs.Meanings.{over_none}

-- what holds anyway
pub anyway : {A : Type 0} (P : Type 0) (a : Answer A) → P → Holds (λ x. P) a
anyway P (Ok x) p = p
anyway P (Err r) p = tt

pub nat_self : (n : ℕ) → nat_eq n n ≡ true
nat_self n = eq-eqb n n refl

text_self : (t : List ℕ) → is_text t t ≡ true
text_self [] = refl
text_self (x ∷ xs) = both_true _ _ (nat_self x) (text_self xs)

truth_self : (b : Bool) → same_truth b b ≡ true
truth_self true = refl
truth_self false = refl

pub kind_self : (k : Kind) → same_kind k k ≡ true
kind_self kind.Bool = refl
kind_self kind.Int = refl
kind_self (kind.Dec p s) = both_true _ _ (nat_self p) (nat_self s)
kind_self kind.Text = refl

module _ (columns : Columns) where
  -- ---- levels

  pub self_is : (e : ExprAst) → same columns e e ≡ same_nodes columns (node_of e) (node_of e)
  self_is e = ap (λ (x : ExprAst). same columns x e) (sym (roll-out-ExprAst e)) ∙ ap (λ (f : Is). f e) (fold-roll-ExprAst (NodeAst → Bool) Is (same_node columns) same_expr (out-ExprAst e))

  abbrev Mapped : NodeAst-F NodeAst ExprAst → NodeAst-F (NodeAst → Bool) Is
  Mapped z = map-NodeAst NodeAst ExprAst (NodeAst → Bool) Is (same_nodes columns) (same columns) z

  pub self_at : (n : NodeAst) (z : NodeAst-F NodeAst ExprAst) → roll-NodeAst z ≡ n → same_nodes columns n n ≡ same_layer columns (Mapped z) z
  self_at n z r =
      ap (λ (m : NodeAst). same_nodes columns m m) (sym r)
      ∙ ap (λ (f : NodeAst → Bool). f (roll-NodeAst z)) (fold-roll-NodeAst (NodeAst → Bool) Is (same_node columns) same_expr z)
      ∙ ap (same_layer columns (Mapped z)) (out-roll-NodeAst z)

  -- ---- the induction

  abbrev IsSelf : ExprAst → Type 0
  IsSelf e = same columns e e ≡ true

  abbrev pub Self : ExprAst → Type 0
  Self e = Holds (λ t. IsSelf e) (meaning columns e None)

  abbrev SelfNode : NodeAst → Type 0
  SelfNode n = (e : ExprAst) (place : ℕ) → Holds (λ t. same_nodes columns n n ≡ true) (of_node columns n e place None)

  abbrev Known : Type 0
  Known = (e : ExprAst) × Self e

  abbrev KnownNode : Type 0
  KnownNode = (n : NodeAst) × SelfNode n

  abbrev known : List Known → List ExprAst
  known xs = map (λ (k : Known). k.0) xs

  abbrev known_arms : List (Known × Known) → List (ExprAst × ExprAst)
  known_arms arms = map (λ (arm : Known × Known). (arm.0.0, arm.1.0)) arms

  -- from an answer that says that the layer is equal to itself
  layer : (n : NodeAst) (z : NodeAst-F NodeAst ExprAst) → roll-NodeAst z ≡ n → (a b : Answer Typed) → a ≡ b → Holds (λ t. same_layer columns (Mapped z) z ≡ true) b → Holds (λ t. same_nodes columns n n ≡ true) a
  layer n z r a (Ok t) e h = subst (Holds (λ t. same_nodes columns n n ≡ true)) (sym e) (self_at n z r ∙ h)
  layer n z r a (Err x) e h = subst (Holds (λ t. same_nodes columns n n ≡ true)) (sym e) tt

  -- what is the same by itself
  always : (n : NodeAst) (z : NodeAst-F NodeAst ExprAst) → roll-NodeAst z ≡ n → same_layer columns (Mapped z) z ≡ true → SelfNode n
  always n z r h e place = anyway (same_nodes columns n n ≡ true) (of_node columns n e place None) (self_at n z r ∙ h)

  place_self : (b : Bool) (why : Why) (place : ℕ) (ks : List ℕ) → Holds (λ k. same_column (refuse_if b why 0 (the_one 0 ks)) (refuse_if b why 0 (the_one 0 ks)) ≡ true) (refuse_if b why place (the_one place ks))
  place_self true why place ks = tt
  place_self false why place [] = tt
  place_self false why place (k ∷ []) = nat_self k
  place_self false why place (k ∷ l ∷ more) = tt

  name_self : (alias : Option (List ℕ)) (name : List ℕ) (place : ℕ) → Holds (λ t. same_name columns alias name alias name ≡ true) (named columns None place (column_of columns place alias name))
  name_self alias name place =
      after (λ k. same_name columns alias name alias name ≡ true) (λ t. same_name columns alias name alias name ≡ true) (column_of columns place alias name) _
      (place_self (is_unknown alias columns) why.UnknownTable place (numbers (is_named alias name) columns)) (λ k h. h)

  all_self : (xs : List Known) → Holds (λ ts. all_same (map (same columns) (known xs)) (known xs) ≡ true) (meanings columns None (known xs))
  all_self [] = refl
  all_self (x ∷ xs) =
      after (λ t. IsSelf x.0) (λ ts. all_same (map (same columns) (known (x ∷ xs))) (known (x ∷ xs)) ≡ true) (meaning columns x.0 None) (λ t. meanings columns None (known xs) >>= λ ts. Ok (t ∷ ts)) x.1
      (λ t h. after (λ ts. all_same (map (same columns) (known xs)) (known xs) ≡ true) (λ ts. all_same (map (same columns) (known (x ∷ xs))) (known (x ∷ xs)) ≡ true) (meanings columns None (known xs)) (λ ts. Ok (t ∷ ts)) (all_self xs) (λ ts i. both_true _ _ h i))

  arm_self : (x y : Known) → Holds (λ a. (same columns x.0 x.0 ≡ true) × (same columns y.0 y.0 ≡ true)) (arm_meaning columns None (x.0, y.0))
  arm_self x y =
      after (λ t. IsSelf x.0) (λ a. IsSelf x.0 × IsSelf y.0) (meaning columns x.0 None) _ x.1
      (λ c h. after (λ t. IsSelf y.0) (λ a. IsSelf x.0 × IsSelf y.0) (meaning columns y.0 None) _ y.1 (λ r i. (h, i)))

  arms_self : (arms : List (Known × Known)) → Holds (λ bs. arms_same (map (same_arm columns) (known_arms arms)) (known_arms arms) ≡ true) (arms_meaning columns None (known_arms arms))
  arms_self [] = refl
  arms_self (arm ∷ arms) =
      after (λ a. IsSelf arm.0.0 × IsSelf arm.1.0) (λ bs. arms_same (map (same_arm columns) (known_arms (arm ∷ arms))) (known_arms (arm ∷ arms)) ≡ true) (arm_meaning columns None (arm.0.0, arm.1.0)) (λ t. arms_meaning columns None (known_arms arms) >>= λ ts. Ok (t ∷ ts)) (arm_self arm.0 arm.1)
      (λ t h. after (λ bs. arms_same (map (same_arm columns) (known_arms arms)) (known_arms arms) ≡ true) (λ bs. arms_same (map (same_arm columns) (known_arms (arm ∷ arms))) (known_arms (arm ∷ arms)) ≡ true) (arms_meaning columns None (known_arms arms)) (λ ts. Ok (t ∷ ts)) (arms_self arms)
      (λ ts i. both_true _ _ (both_true _ _ h.0 h.1) i))

  one_self : (x : Known) (f : Typed → Answer Typed) → Holds (λ t. IsSelf x.0) (meaning columns x.0 None >>= f)
  one_self x f = after (λ t. IsSelf x.0) (λ t. IsSelf x.0) (meaning columns x.0 None) f x.1 (λ t h. anyway (IsSelf x.0) (f t) h)

  node_step : (y : NodeAst-F KnownNode Known) → SelfNode (roll-NodeAst (map-NodeAst KnownNode Known NodeAst ExprAst (λ k. k.0) (λ k. k.0) y))
  node_step (NodeAst-F.Number t) = subst SelfNode (sym (node.rolls-Number t)) (always (node.Number t) (NodeAst-F.Number t) (node.rolls-Number t) (text_self t))
  node_step (NodeAst-F.Str t) = subst SelfNode (sym (node.rolls-Str t)) (always (node.Str t) (NodeAst-F.Str t) (node.rolls-Str t) (text_self t))
  node_step NodeAst-F.Null = subst SelfNode (sym node.rolls-Null) (always node.Null NodeAst-F.Null node.rolls-Null refl)
  node_step (NodeAst-F.Truth b) = subst SelfNode (sym (node.rolls-Truth b)) (always (node.Truth b) (NodeAst-F.Truth b) (node.rolls-Truth b) (truth_self b))
  node_step NodeAst-F.CountAll = subst SelfNode (sym node.rolls-CountAll) (always node.CountAll NodeAst-F.CountAll node.rolls-CountAll refl)
  node_step (NodeAst-F.Name alias name) = subst SelfNode (sym (node.rolls-Name alias name)) (λ e place. layer (node.Name alias name) (NodeAst-F.Name alias name) (node.rolls-Name alias name) _ _ (node-Name columns e place None alias name) (name_self alias name place))
  node_step (NodeAst-F.Call f xs) = subst SelfNode (sym (node.rolls-Call f (known xs))) (λ e place. layer (node.Call f (known xs)) (NodeAst-F.Call f (known xs)) (node.rolls-Call f (known xs)) _ _ (node-Call columns e place None f (known xs))
      (subst (λ over. Holds (λ t. same_layer columns (Mapped (NodeAst-F.Call f (known xs))) (NodeAst-F.Call f (known xs)) ≡ true) (meanings columns over (known xs) >>= applied columns None e place f)) (sym (over_none columns f))
      (after (λ ts. all_same (map (same columns) (known xs)) (known xs) ≡ true) (λ t. same_layer columns (Mapped (NodeAst-F.Call f (known xs))) (NodeAst-F.Call f (known xs)) ≡ true) (meanings columns None (known xs)) (applied columns None e place f) (all_self xs)
      (λ ts h. anyway _ (applied columns None e place f ts) (both_true _ _ (nat_self (function_rank f)) h)))))
  node_step (NodeAst-F.Not x) = subst SelfNode (sym (node.rolls-Not x.0)) (λ e place. layer (node.Not x.0) (NodeAst-F.Not x.0) (node.rolls-Not x.0) _ _ (node-Not columns e place None x.0) (one_self x (unary place operator.Not)))
  node_step (NodeAst-F.Neg x) = subst SelfNode (sym (node.rolls-Neg x.0)) (λ e place. layer (node.Neg x.0) (NodeAst-F.Neg x.0) (node.rolls-Neg x.0) _ _ (node-Neg columns e place None x.0) (one_self x (unary place operator.Neg)))
  node_step (NodeAst-F.IsNull x) = subst SelfNode (sym (node.rolls-IsNull x.0)) (λ e place. layer (node.IsNull x.0) (NodeAst-F.IsNull x.0) (node.rolls-IsNull x.0) _ _ (node-IsNull columns e place None x.0) (one_self x (unary place operator.IsNull)))
  node_step (NodeAst-F.Cast x to) = subst SelfNode (sym (node.rolls-Cast x.0 to)) (λ e place. layer (node.Cast x.0 to) (NodeAst-F.Cast x.0 to) (node.rolls-Cast x.0 to) _ _ (node-Cast columns e place None x.0 to)
      (after (λ t. IsSelf x.0) (λ t. same_kind to to && same columns x.0 x.0 ≡ true) (meaning columns x.0 None) (unary place (operator.Cast to)) x.1 (λ t h. anyway (same_kind to to && same columns x.0 x.0 ≡ true) (unary place (operator.Cast to) t) (both_true _ _ (kind_self to) h))))
  node_step (NodeAst-F.Binary o x y) = subst SelfNode (sym (node.rolls-Binary o x.0 y.0)) (λ e place. layer (node.Binary o x.0 y.0) (NodeAst-F.Binary o x.0 y.0) (node.rolls-Binary o x.0 y.0) _ _ (node-Binary columns e place None o x.0 y.0)
      (after (λ t. IsSelf x.0) (λ t. nat_eq (op_rank o) (op_rank o) && same columns x.0 x.0 && same columns y.0 y.0 ≡ true) (meaning columns x.0 None) (λ a. meaning columns y.0 None >>= λ b. binary place o a b) x.1
      (λ a h. after (λ t. IsSelf y.0) (λ t. nat_eq (op_rank o) (op_rank o) && same columns x.0 x.0 && same columns y.0 y.0 ≡ true) (meaning columns y.0 None) (λ b. binary place o a b) y.1
      (λ b i. anyway (nat_eq (op_rank o) (op_rank o) && same columns x.0 x.0 && same columns y.0 y.0 ≡ true) (binary place o a b) (both_true _ _ (both_true _ _ (nat_self (op_rank o)) h) i)))))
  node_step (NodeAst-F.Case arms None) = subst SelfNode (sym (node.rolls-Case (known_arms arms) None)) (λ e place. layer (node.Case (known_arms arms) None) (NodeAst-F.Case (known_arms arms) None) (node.rolls-Case (known_arms arms) None) _ _ (node-Case columns e place None (known_arms arms) None)
      (after (λ bs. arms_same (map (same_arm columns) (known_arms arms)) (known_arms arms) ≡ true) (λ t. arms_same (map (same_arm columns) (known_arms arms)) (known_arms arms) && true ≡ true) (arms_meaning columns None (known_arms arms)) _ (arms_self arms)
      (λ bound h. anyway _ (other_meaning columns None None >>= λ d. chosen place bound d) (both_true _ _ h refl))))
  node_step (NodeAst-F.Case arms (Some x)) = subst SelfNode (sym (node.rolls-Case (known_arms arms) (Some x.0))) (λ e place. layer (node.Case (known_arms arms) (Some x.0)) (NodeAst-F.Case (known_arms arms) (Some x.0)) (node.rolls-Case (known_arms arms) (Some x.0)) _ _ (node-Case columns e place None (known_arms arms) (Some x.0))
      (after (λ bs. arms_same (map (same_arm columns) (known_arms arms)) (known_arms arms) ≡ true) (λ t. arms_same (map (same_arm columns) (known_arms arms)) (known_arms arms) && same columns x.0 x.0 ≡ true) (arms_meaning columns None (known_arms arms)) _ (arms_self arms)
      (λ bound h. after (λ t. IsSelf x.0) (λ t. arms_same (map (same_arm columns) (known_arms arms)) (known_arms arms) && same columns x.0 x.0 ≡ true) (meaning columns x.0 None) (λ d. chosen place bound d) x.1
      (λ d i. anyway (arms_same (map (same_arm columns) (known_arms arms)) (known_arms arms) && same columns x.0 x.0 ≡ true) (chosen place bound d) (both_true _ _ h i)))))

  abbrev bare : ExprAst-F KnownNode Known → ExprAst-F NodeAst ExprAst
  bare y = map-ExprAst KnownNode Known NodeAst ExprAst (λ k. k.0) (λ k. k.0) y

  from_node : (e : ExprAst) → Holds (λ t. same_nodes columns (node_of e) (node_of e) ≡ true) (of_node columns (node_of e) e (place_of e) None) → Self e
  from_node e h = subst (Holds (λ t. IsSelf e)) (sym (meaning_is columns e None)) (subst (λ (b : Bool). Holds (λ t. b ≡ true) (of_node columns (node_of e) e (place_of e) None)) (sym (self_is e)) h)

  expr_step : (y : ExprAst-F KnownNode Known) → Self (roll-ExprAst (bare y))
  expr_step y = from_node (roll-ExprAst (bare y)) (subst (λ (x : ExprAst-F NodeAst ExprAst). Holds (λ t. same_nodes columns x.node x.node ≡ true) (of_node columns x.node (roll-ExprAst (bare y)) x.place None)) (sym (out-roll-ExprAst (bare y))) (y.node.1 (roll-ExprAst (bare y)) y.place))

  pub selves : (e : ExprAst) → Self e
  selves = ind-ExprAst SelfNode Self (λ x y is. subst (λ z. SelfNode (roll-NodeAst z)) is (node_step y)) (λ x y is. subst (λ z. Self (roll-ExprAst z)) is (expr_step y))

  -- of expressions that all mean something
  pub all_selves : (es : List ExprAst) → Holds (λ ts. all_same (map (same columns) es) es ≡ true) (meanings columns None es)
  all_selves [] = refl
  all_selves (e ∷ es) =
      after (λ t. IsSelf e) (λ ts. all_same (map (same columns) (e ∷ es)) (e ∷ es) ≡ true) (meaning columns e None) (λ t. meanings columns None es >>= λ ts. Ok (t ∷ ts)) (selves e)
      (λ t h. after (λ ts. all_same (map (same columns) es) es ≡ true) (λ ts. all_same (map (same columns) (e ∷ es)) (e ∷ es) ≡ true) (meanings columns None es) (λ ts. Ok (t ∷ ts)) (all_selves es) (λ ts i. both_true _ _ h i))
