-- The meaning of an expression over columns has the kind that is told with it.
use Rattle.std.specs.Prelude.{nat_lt, not, slice_get, option_and_then}
use Rattle.std.specs.Str.{is_utf8}
use Rattle.std.proofs.Common.{ℕ, zero, suc, ◌≡◌, ◌<◌, refl, sym, ap, ◌∙◌, subst, cond, Bool, true, false, Option, Some, None, Ok, List, [], ◌∷◌, map, length, arith}
use Rattle.std.proofs.lemmas.Bool.{ltb-true, and_parts}
use Rattle.dfx_value.specs.Kinds.{is_kind, are_kinds, is_of}
use Rattle.dfx_value.specs.Parse.{parsed}
use Rattle.dfx_value.specs.declared.kind.Kind.{Kind}
use Rattle.dfx_value.specs.declared.kind.Kind.TheVariants as kind
use Rattle.dfx_value.specs.declared.op.Op.{Op}
use Rattle.dfx_value.specs.declared.value.Value.{Value}
use Rattle.dfx_value.specs.declared.value.Value.TheVariants as value
use Rattle.scalar_exprs.specs.declared.expr.Expr.TheVariants as expr
use Rattle.scalar_exprs.specs.Kinds.{kind_of, constants_fit, when_number, length_kind}
use Rattle.scalar_exprs.proofs.KindSteps.{kind_of-Abs, kind_of-Length}
use Rattle.kind_laws.proofs.Fields.{ValueFits, parsed_fits}
use Rattle.kind_laws.proofs.KindedSteps.{fit-Abs, fit-Length}
use Rattle.sql_grammar.specs.declared.ast.FnAst.{FnAst}
use Rattle.sql_grammar.specs.declared.ast.FnAst.TheVariants as fn
use Rattle.sql_grammar.specs.declared.ast.ExprAst.{ExprAst, roll-ExprAst}
use Rattle.sql_grammar.specs.declared.ast.NodeAst.{NodeAst, roll-NodeAst}
use Rattle.sql_grammar.specs.declared.ast.NodeAst.TheOpen.{NodeAst-F, ExprAst-F}
use Rattle.sql_grammar.specs.declared.ast.NodeAst.TheFolds.{map-ExprAst, map-NodeAst, ind-ExprAst}
use Rattle.sql_grammar.specs.declared.ast.NodeAst.TheVariants as node
use Rattle.sql_grammar.specs.declared.ast.NodeAst.TheViews.{out-roll-ExprAst}
use Rattle.typed_exprs.specs.declared.scope.Column.{Column}
use Rattle.typed_exprs.specs.declared.typed.Typed.{Typed}
use Rattle.typed_exprs.specs.declared.typed.Typed.TheVariants as typed
use Rattle.typed_exprs.specs.declared.typed.Unary.{Unary}
use Rattle.typed_exprs.specs.declared.typed.Unary.TheVariants as operator
use Rattle.typed_exprs.specs.declared.refusal.Why.TheVariants as why
use Rattle.typed_exprs.specs.Answer.{◌>>=◌, or_refuse, refuse_if}
use Rattle.typed_exprs.specs.Case.{chosen}
use Rattle.typed_exprs.specs.Literals.{has_point, decimal_kind, with_kind, decimal, or_decimal, literal}
use Rattle.typed_exprs.specs.Scopes.{Columns, column_of}
use Rattle.typed_exprs.specs.Typed.{settled, of_kind, unary, binary}
use Rattle.expr_binder.specs.Meaning.{meaning, of_node, place_of, meanings, arm_meaning, arms_meaning, other_meaning, single, applied, applied_to_one, call_meaning, case_meaning, column, kind_of_column, number, text, unary_meaning, binary_meaning}
use Rattle.expr_binder.proofs.MeaningSteps.{meaning_is, node-Number, node-Str, node-Null, node-Truth, node-Name, node-Call, node-CountAll, node-Not, node-Neg, node-IsNull, node-Binary, node-Case, node-Cast}
use Rattle.sql_binder.specs.Sources.{kinds}
use Rattle.planned_laws.specs.Ranges.{are_below}
use Rattle.binder_laws.proofs.Holding.{Holds, after, answered, where_some, Every}
use Rattle.binder_laws.proofs.Meanings.{named_below, over_none}
use Rattle.binder_kind_laws.proofs.Settled.{Real, HasKind, Typing, settled_kind, const_kind, column_has, number_real, length_real, of_kind_has, unary_has, binary_has}
use Rattle.binder_kind_laws.proofs.Unified.{ArmTyping, coalesced_has, chosen_has}

-- ---- literals

-- a constant is of its kind, which is one
abbrev Constant : Value × Kind → Type 0
Constant c = Real c.1 × (is_of c.1 c.0 ≡ true)

with_constant : (k : Kind) (v : Option Value) → Real k → ValueFits k v → (c : Value × Kind) → with_kind k v ≡ Some c → Constant c
with_constant k None r h c e = cc
with_constant k (Some v) r h c e = let q : (v, k) ≡ c = cc in subst Constant q (r, h)

decimal_constant : (t : List ℕ) (c : Value × Kind) → decimal t ≡ Some c → Constant c
decimal_constant t c e = go (is_kind (decimal_kind t)) refl e
  where
    go : (b : Bool) → is_kind (decimal_kind t) ≡ b → option_and_then (λ k. with_kind k (parsed k t)) (cond {A = Option Kind} b (Some (decimal_kind t)) None) ≡ Some c → Constant c
    go true r p = with_constant (decimal_kind t) (parsed (decimal_kind t) t) r (parsed_fits (decimal_kind t) t) c p
    go false r p = cc

or_decimal_constant : (v : Option Value) (t : List ℕ) → ValueFits kind.Int v → (c : Value × Kind) → or_decimal v t ≡ Some c → Constant c
or_decimal_constant None t h c e = decimal_constant t c e
or_decimal_constant (Some v) t h c e = let q : (v, kind.Int) ≡ c = cc in subst Constant q (refl, h)

literal_constant : (t : List ℕ) (c : Value × Kind) → literal t ≡ Some c → Constant c
literal_constant t c e = go (has_point t) e
  where
    go : (b : Bool) → cond {A = Option (Value × Kind)} b (decimal t) (or_decimal (parsed kind.Int t) t) ≡ Some c → Constant c
    go true p = decimal_constant t c p
    go false p = or_decimal_constant (parsed kind.Int t) t (parsed_fits kind.Int t) c p

pub number_has : (ks : List Kind) (place : ℕ) (t : List ℕ) → Holds (Typing ks) (number place (literal t))
number_has ks place t =
    after Constant (Typing ks) (or_refuse why.Unsupported place (literal t)) (λ c. Ok (typed.Of (expr.Const c.0 c.1) c.1))
    (where_some Constant why.Unsupported place (literal t) (literal_constant t)) (λ c h. const_kind ks c.0 c.1 h.0 h.1)

pub text_has : (ks : List Kind) (place : ℕ) (t : List ℕ) → Holds (Typing ks) (text place t)
text_has ks place t = go (is_utf8 t) refl
  where
    go : (b : Bool) → is_utf8 t ≡ b → Holds (Typing ks) (refuse_if (not b) why.Unsupported place (Ok (typed.Of (expr.Const (value.Text t) kind.Text) kind.Text)))
    go true e = const_kind ks (value.Text t) kind.Text refl e
    go false e = tt

-- ---- columns

-- each column's kind is one
abbrev pub RealColumns : Columns → Type 0
RealColumns columns = Every (λ (c : Column). Real c.kind) columns

-- a column with this number
pub record HasColumn (columns : Columns) (k : ℕ) : Type 0 where
  pub at : Column
  pub is : slice_get columns k ≡ Some at
  pub kind : slice_get (kinds columns) k ≡ Some at.kind
  pub real : Real at.kind

pub column_there : (columns : Columns) (k : ℕ) → RealColumns columns → k < length columns → HasColumn columns k
column_there [] k r h = absurd (omega arith)
column_there (c ∷ cs) zero r h = record { at = c; is = refl; kind = refl; real = r.0 }
column_there (c ∷ cs) (suc k) r h = let m = column_there cs k r.1 (omega arith) in record { at = m.at; is = m.is; kind = m.kind; real = m.real }

kind_is : (columns : Columns) (k : ℕ) (c : Column) → slice_get columns k ≡ Some c → kind_of_column columns k ≡ c.kind
kind_is columns k c e = rw e refl

pub is_below : (k w : ℕ) → are_below w (k ∷ []) ≡ true → k < w
is_below k w h = ltb-true k w (and_parts (nat_lt k w) true h).0

pub plain_has : (columns : Columns) (k : ℕ) → RealColumns columns → k < length columns → HasKind (kinds columns) (expr.Column k) (kind_of_column columns k)
plain_has columns k r h =
    let m = column_there columns k r h in
    let q = kind_is columns k m.at m.is in
    column_has (kinds columns) k (kind_of_column columns k) (m.kind ∙ ap (λ x. Some x) (sym q)) (subst Real (sym q) m.real)

-- ---- functions of one operand

pub abs_has : (ks : List Kind) (place : ℕ) (t : Typed) → Typing ks t → Holds (Typing ks) (of_kind place expr.Abs when_number (settled t))
abs_has ks place t h = of_kind_has ks place expr.Abs when_number (record { kind = kind_of-Abs ks; fits = fit-Abs; real = number_real }) t h

pub length_has : (ks : List Kind) (place : ℕ) (t : Typed) → Typing ks t → Holds (Typing ks) (of_kind place expr.Length length_kind (settled t))
length_has ks place t h = of_kind_has ks place expr.Length length_kind (record { kind = kind_of-Length ks; fits = fit-Length; real = length_real }) t h

pub the_single : (ks : List Kind) (ts : List Typed) → Every (Typing ks) ts → (t : Typed) → single ts ≡ Some t → Typing ks t
the_single ks [] h t e = cc
the_single ks (x ∷ []) h t e = let q : x ≡ t = cc in subst (Typing ks) q h.0
the_single ks (x ∷ y ∷ more) h t e = cc

module _ (columns : Columns) (real : RealColumns columns) where
  abbrev here : Typed → Type 0
  here = Typing (kinds columns)

  abbrev pub Means : ExprAst → Type 0
  Means e = Holds here (meaning columns e None)

  abbrev NodeMeans : NodeAst → Type 0
  NodeMeans n = (e : ExprAst) (place : ℕ) → Holds here (of_node columns n e place None)

  abbrev Known : Type 0
  Known = (e : ExprAst) × Means e

  abbrev KnownNode : Type 0
  KnownNode = (n : NodeAst) × NodeMeans n

  abbrev known : List Known → List ExprAst
  known xs = map (λ (k : Known). k.0) xs

  abbrev known_arms : List (Known × Known) → List (ExprAst × ExprAst)
  known_arms arms = map (λ (arm : Known × Known). (arm.0.0, arm.1.0)) arms

  -- ---- calls

  all_mean : (xs : List Known) → Holds (Every here) (meanings columns None (known xs))
  all_mean [] = tt
  all_mean (x ∷ xs) =
      after here (Every here) (meaning columns x.0 None) (λ t. meanings columns None (known xs) >>= λ ts. Ok (t ∷ ts)) x.1
      (λ t h. after (Every here) (Every here) (meanings columns None (known xs)) (λ ts. Ok (t ∷ ts)) (all_mean xs) (λ ts i. (h, i)))

  to_one : (e : ExprAst) (place : ℕ) (f : FnAst) (t : Typed) → here t → Holds here (applied_to_one columns None e place f t)
  to_one e place fn.Abs t h = abs_has (kinds columns) place t h
  to_one e place fn.Length t h = length_has (kinds columns) place t h
  to_one e place fn.Coalesce t h = tt
  to_one e place fn.Count t h = tt
  to_one e place fn.Sum t h = tt
  to_one e place fn.Min t h = tt
  to_one e place fn.Max t h = tt
  to_one e place fn.Avg t h = tt

  one_applied : (e : ExprAst) (place : ℕ) (f : FnAst) (ts : List Typed) → Every here ts → Holds here (or_refuse why.KindMismatch place (single ts) >>= applied_to_one columns None e place f)
  one_applied e place f ts h =
      after here here (or_refuse why.KindMismatch place (single ts)) (applied_to_one columns None e place f)
      (where_some here why.KindMismatch place (single ts) (λ t i. the_single (kinds columns) ts h t i)) (to_one e place f)

  applied_has : (e : ExprAst) (place : ℕ) (f : FnAst) (ts : List Typed) → Every here ts → Holds here (applied columns None e place f ts)
  applied_has e place fn.Coalesce ts h = coalesced_has (kinds columns) place ts h
  applied_has e place fn.Abs ts h = one_applied e place fn.Abs ts h
  applied_has e place fn.Length ts h = one_applied e place fn.Length ts h
  applied_has e place fn.Count ts h = one_applied e place fn.Count ts h
  applied_has e place fn.Sum ts h = one_applied e place fn.Sum ts h
  applied_has e place fn.Min ts h = one_applied e place fn.Min ts h
  applied_has e place fn.Max ts h = one_applied e place fn.Max ts h
  applied_has e place fn.Avg ts h = one_applied e place fn.Avg ts h

  call_has : (e : ExprAst) (place : ℕ) (f : FnAst) (xs : List Known) → Holds here (call_meaning columns None e place f (known xs))
  call_has e place f xs =
      subst (λ over. Holds here (meanings columns over (known xs) >>= applied columns None e place f)) (sym (over_none columns f))
      (after (Every here) here (meanings columns None (known xs)) (applied columns None e place f) (all_mean xs) (applied_has e place f))

  -- ---- CASE

  arm_has : (x y : Known) → Holds (ArmTyping (kinds columns)) (arm_meaning columns None (x.0, y.0))
  arm_has x y =
      after here (ArmTyping (kinds columns)) (meaning columns x.0 None) (λ c. meaning columns y.0 None >>= λ r. Ok (record { place = place_of x.0; test = c; result = r })) x.1
      (λ c h. after here (ArmTyping (kinds columns)) (meaning columns y.0 None) (λ r. Ok (record { place = place_of x.0; test = c; result = r })) y.1 (λ r i. (h, i)))

  arms_have : (arms : List (Known × Known)) → Holds (Every (ArmTyping (kinds columns))) (arms_meaning columns None (known_arms arms))
  arms_have [] = tt
  arms_have (arm ∷ arms) =
      after (ArmTyping (kinds columns)) (Every (ArmTyping (kinds columns))) (arm_meaning columns None (arm.0.0, arm.1.0)) (λ t. arms_meaning columns None (known_arms arms) >>= λ ts. Ok (t ∷ ts)) (arm_has arm.0 arm.1)
      (λ t h. after (Every (ArmTyping (kinds columns))) (Every (ArmTyping (kinds columns))) (arms_meaning columns None (known_arms arms)) (λ ts. Ok (t ∷ ts)) (arms_have arms) (λ ts i. (h, i)))

  case_has : (place : ℕ) (arms : List (Known × Known)) (other : Option ExprAst) → Holds here (other_meaning columns None other) → Holds here (case_meaning columns None place (known_arms arms) other)
  case_has place arms other h =
      after (Every (ArmTyping (kinds columns))) here (arms_meaning columns None (known_arms arms)) (λ bound. other_meaning columns None other >>= λ d. chosen place bound d) (arms_have arms)
      (λ bound i. after here here (other_meaning columns None other) (λ d. chosen place bound d) h (λ d j. chosen_has (kinds columns) place bound d i j))

  -- ---- nodes

  unary_step : (x : Known) (place : ℕ) (o : Unary) → Holds here (unary_meaning columns None place o x.0)
  unary_step x place o = after here here (meaning columns x.0 None) (unary place o) x.1 (unary_has (kinds columns) place o)

  binary_step : (x y : Known) (place : ℕ) (o : Op) → Holds here (binary_meaning columns None place o x.0 y.0)
  binary_step x y place o =
      after here here (meaning columns x.0 None) (λ a. meaning columns y.0 None >>= λ b. binary place o a b) x.1
      (λ a h. after here here (meaning columns y.0 None) (λ b. binary place o a b) y.1 (λ b i. binary_has (kinds columns) place o a b h i))

  node_step : (y : NodeAst-F KnownNode Known) → NodeMeans (roll-NodeAst (map-NodeAst KnownNode Known NodeAst ExprAst (λ k. k.0) (λ k. k.0) y))
  node_step (NodeAst-F.Number t) = subst NodeMeans (sym (node.rolls-Number t)) (λ e place. subst (Holds here) (sym (node-Number columns e place None t)) (number_has (kinds columns) place t))
  node_step (NodeAst-F.Str t) = subst NodeMeans (sym (node.rolls-Str t)) (λ e place. subst (Holds here) (sym (node-Str columns e place None t)) (text_has (kinds columns) place t))
  node_step NodeAst-F.Null = subst NodeMeans (sym node.rolls-Null) (λ e place. subst (Holds here) (sym (node-Null columns e place None)) tt)
  node_step (NodeAst-F.Truth b) = subst NodeMeans (sym (node.rolls-Truth b)) (λ e place. subst (Holds here) (sym (node-Truth columns e place None b)) (const_kind (kinds columns) (value.Bool b) kind.Bool refl refl))
  node_step (NodeAst-F.Name alias name) = subst NodeMeans (sym (node.rolls-Name alias name)) (λ e place. subst (Holds here) (sym (node-Name columns e place None alias name))
      (after (λ k. are_below (length columns) (k ∷ []) ≡ true) here (column_of columns place alias name) (λ k. Ok (column k (kind_of_column columns k))) (named_below columns place alias name) (λ k h. plain_has columns k real (is_below k (length columns) h))))
  node_step (NodeAst-F.Call f xs) = subst NodeMeans (sym (node.rolls-Call f (known xs))) (λ e place. subst (Holds here) (sym (node-Call columns e place None f (known xs))) (call_has e place f xs))
  node_step NodeAst-F.CountAll = subst NodeMeans (sym node.rolls-CountAll) (λ e place. subst (Holds here) (sym (node-CountAll columns e place None)) tt)
  node_step (NodeAst-F.Not x) = subst NodeMeans (sym (node.rolls-Not x.0)) (λ e place. subst (Holds here) (sym (node-Not columns e place None x.0)) (unary_step x place operator.Not))
  node_step (NodeAst-F.Neg x) = subst NodeMeans (sym (node.rolls-Neg x.0)) (λ e place. subst (Holds here) (sym (node-Neg columns e place None x.0)) (unary_step x place operator.Neg))
  node_step (NodeAst-F.IsNull x) = subst NodeMeans (sym (node.rolls-IsNull x.0)) (λ e place. subst (Holds here) (sym (node-IsNull columns e place None x.0)) (unary_step x place operator.IsNull))
  node_step (NodeAst-F.Binary o x y) = subst NodeMeans (sym (node.rolls-Binary o x.0 y.0)) (λ e place. subst (Holds here) (sym (node-Binary columns e place None o x.0 y.0)) (binary_step x y place o))
  node_step (NodeAst-F.Case arms None) = subst NodeMeans (sym (node.rolls-Case (known_arms arms) None)) (λ e place. subst (Holds here) (sym (node-Case columns e place None (known_arms arms) None)) (case_has place arms None tt))
  node_step (NodeAst-F.Case arms (Some x)) = subst NodeMeans (sym (node.rolls-Case (known_arms arms) (Some x.0))) (λ e place. subst (Holds here) (sym (node-Case columns e place None (known_arms arms) (Some x.0))) (case_has place arms (Some x.0) x.1))
  node_step (NodeAst-F.Cast x to) = subst NodeMeans (sym (node.rolls-Cast x.0 to)) (λ e place. subst (Holds here) (sym (node-Cast columns e place None x.0 to)) (unary_step x place (operator.Cast to)))

  abbrev bare : ExprAst-F KnownNode Known → ExprAst-F NodeAst ExprAst
  bare y = map-ExprAst KnownNode Known NodeAst ExprAst (λ k. k.0) (λ k. k.0) y

  expr_step : (y : ExprAst-F KnownNode Known) → Means (roll-ExprAst (map-ExprAst KnownNode Known NodeAst ExprAst (λ k. k.0) (λ k. k.0) y))
  expr_step y = subst (Holds here) (sym (meaning_is columns (roll-ExprAst (bare y)) None)) (subst (λ (x : ExprAst-F NodeAst ExprAst). Holds here (of_node columns x.node (roll-ExprAst (bare y)) x.place None)) (sym (out-roll-ExprAst (bare y))) (y.node.1 (roll-ExprAst (bare y)) y.place))

  -- what an expression means over columns has its kind over theirs
  pub means : (e : ExprAst) → Means e
  means = ind-ExprAst NodeMeans Means (λ x y is. subst (λ z. NodeMeans (roll-NodeAst z)) is (node_step y)) (λ x y is. subst (λ z. Means (roll-ExprAst z)) is (expr_step y))

real_columns : (columns : Columns) → are_kinds (kinds columns) ≡ true → RealColumns columns
real_columns [] h = tt
real_columns (c ∷ cs) h = let b = and_parts (is_kind c.kind) (are_kinds (kinds cs)) h in (b.0, real_columns cs b.1)

pub expression_kinded : (columns : Columns) (e : ExprAst) (t : Typed) → are_kinds (kinds columns) ≡ true → meaning columns e None ≡ Ok t
    → (kind_of (kinds columns) (settled t).0 ≡ Some (settled t).1) × (constants_fit (settled t).0 ≡ true)
expression_kinded columns e t h q =
    let s = settled_kind (kinds columns) t (answered (Typing (kinds columns)) (meaning columns e None) t (means columns (real_columns columns h) e) q) in
    (s.kind, s.fits)
