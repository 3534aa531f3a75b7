-- The kinds of aggregate calls: that of the call which is found is that of the one which is looked for.
use Rattle.std.proofs.Math.Nat.{min-le_left}
use Rattle.std.specs.Prelude.{nat_eq, slice_get}
use Rattle.std.proofs.Common.{ℕ, zero, suc, ◌≡◌, ◌+◌, ◌<◌, ◌≤◌, refl, sym, ap, ◌∙◌, subst, cond, Bool, true, false, Option, Some, None, Ok, Err, List, [], ◌∷◌, ◌++◌, map, length, arith}
use Rattle.std.proofs.lemmas.Bool.{and_parts, false≢true}
use Rattle.dfx_value.specs.declared.kind.Kind.{Kind}
use Rattle.dfx_value.specs.declared.kind.Kind.TheVariants as kind
use Rattle.dfx_value.specs.declared.op.AggCall.{AggCall}
use Rattle.dfx_value.specs.declared.op.AggCall.TheVariants as agg_call
use Rattle.scalar_exprs.specs.Kinds.{agg_kind, total_kind, mean_kind, mean_scale, widest}
use Rattle.logical_plan.specs.Body.{kind_or_text}
use Rattle.sql_grammar.specs.declared.ast.FnAst.{FnAst}
use Rattle.sql_grammar.specs.declared.ast.ExprAst.{ExprAst}
use Rattle.sql_grammar.specs.declared.ast.NodeAst.{NodeAst, roll-NodeAst}
use Rattle.sql_grammar.specs.declared.ast.NodeAst.TheOpen.{NodeAst-F}
use Rattle.sql_grammar.specs.declared.ast.NodeAst.TheViews.{out-NodeAst, out-roll-NodeAst}
use Rattle.sql_grammar.specs.declared.ast.NodeAst.TheVariants as node
use Rattle.typed_exprs.specs.declared.typed.Typed.{Typed}
use Rattle.typed_exprs.specs.Answer.{Answer}
use Rattle.expr_binder.specs.Same.{function_rank, all_same, same_layer, same, same_nodes, place_from}
use Rattle.typed_exprs.specs.Scopes.{Columns}
use Rattle.typed_exprs.specs.Typed.{settled}
use Rattle.expr_binder.specs.Meaning.{meaning, node_of, call_of}
use Rattle.logical_build.specs.Calls.{argument}
use Rattle.binder_laws.proofs.Holding.{Every}
use Rattle.binder_kind_laws.proofs.Settled.{Real, scale_at_most, widest_real}
use Rattle.binder_kind_laws.proofs.Agreeing.{agreed, agrees, same_at, same_node_of, function_is}

-- ---- the kind of an aggregate is one

widest_of : (s : ℕ) (k : Kind) → s ≤ 38 → Some (widest s) ≡ Some k → Real k
widest_of s k h e = let q : widest s ≡ k = cc in subst Real q (widest_real s h)

total_real : (j k : Kind) → Real j → total_kind (Some j) ≡ Some k → Real k
total_real kind.Int k h e = widest_of 0 k (omega arith) e
total_real (kind.Dec p s) k h e = widest_of s k (scale_at_most p s h) e
total_real _ k h e = cc

mean_real : (j k : Kind) → Real j → mean_kind (Some j) ≡ Some k → Real k
mean_real kind.Int k h e = widest_of 4 k (omega arith) e
mean_real (kind.Dec p s) k h e = widest_of (mean_scale s) k (min-le_left 38 (s + 4)) e
mean_real _ k h e = cc

same_real : (j k : Kind) → Real j → Some j ≡ Some k → Real k
same_real j k h e = let q : j ≡ k = cc in subst Real q h

int_real : (k : Kind) → Some kind.Int ≡ Some k → Real k
int_real k e = let q : kind.Int ≡ k = cc in subst Real q refl

pub agg_real : (c : AggCall) (j k : Kind) → Real j → agg_kind c (Some j) ≡ Some k → Real k
agg_real agg_call.CountAll j k h e = int_real k e
agg_real (agg_call.Count c) j k h e = int_real k e
agg_real (agg_call.Sum c) j k h e = total_real j k h e
agg_real (agg_call.Min c) j k h e = same_real j k h e
agg_real (agg_call.Max c) j k h e = same_real j k h e
agg_real (agg_call.Avg c) j k h e = mean_real j k h e

-- ---- the kind of a call

-- of an argument that is bound; of others nothing is said
abbrev of_answer : FnAst → Answer Typed → Kind
of_answer f (Ok t) = kind_or_text (agg_kind (call_of f) (Some (settled t).1))
of_answer f (Err r) = kind.Text

abbrev pub of_argument : Columns → Option (FnAst × ExprAst) → Kind
of_argument columns None = kind.Int
of_argument columns (Some (f, a)) = of_answer f (meaning columns a None)

abbrev pub call_kind_of : Columns → ExprAst → Kind
call_kind_of columns e = of_argument columns (argument e)

-- a function and its bound argument, of whose kind there is that aggregate
pub record Fitting (columns : Columns) (f : FnAst) (a : ExprAst) : Type 0 where
  pub typed : Typed
  pub is : meaning columns a None ≡ Ok typed
  pub kind : Kind
  pub gives : agg_kind (call_of f) (Some (settled typed).1) ≡ Some kind

abbrev pub FitsArgument : Columns → Option (FnAst × ExprAst) → Type 0
FitsArgument columns None = Unit {0}
FitsArgument columns (Some (f, a)) = Fitting columns f a

-- a call whose aggregate has a kind
abbrev pub FitsCall : Columns → ExprAst → Type 0
FitsCall columns e = FitsArgument columns (argument e)

pub fitting_kind : (columns : Columns) (f : FnAst) (a : ExprAst) (h : Fitting columns f a) → of_argument columns (Some (f, a)) ≡ h.kind
fitting_kind columns f a h = ap (of_answer f) h.is ∙ ap kind_or_text h.gives

-- ---- the nodes of calls

pub argument_of : (e a : ExprAst) (f : FnAst) (more : List ExprAst) → node_of e ≡ node.Call f (a ∷ more) → argument e ≡ Some (f, a)
argument_of e a f more q = rw (ap out-NodeAst q ∙ ap out-NodeAst (sym (node.rolls-Call f (a ∷ more))) ∙ out-roll-NodeAst (NodeAst-F.Call f (a ∷ more))) refl

pub argument_of_all : (e : ExprAst) → node_of e ≡ node.CountAll → argument e ≡ None
argument_of_all e q = rw (ap out-NodeAst q ∙ ap out-NodeAst (sym node.rolls-CountAll) ∙ out-roll-NodeAst NodeAst-F.CountAll) refl

module _ (columns : Columns) where
  rolled_same : (e x : ExprAst) (z : NodeAst-F NodeAst ExprAst) → node_of e ≡ roll-NodeAst z → same columns e x ≡ true → same_nodes columns (roll-NodeAst z) (node_of x) ≡ true
  rolled_same e x z q h = ap (λ (n : NodeAst). same_nodes columns n (node_of x)) (sym q) ∙ sym (same_node_of columns e x) ∙ h

  -- what is equal to COUNT(*) is COUNT(*)
  count_same : (e x : ExprAst) → node_of e ≡ node.CountAll → same columns e x ≡ true → argument x ≡ None
  count_same e x q h = go (out-NodeAst (node_of x)) refl (sym (same_at columns NodeAst-F.CountAll (node_of x)) ∙ rolled_same e x NodeAst-F.CountAll (q ∙ sym node.rolls-CountAll) h)
    where
      go : (v : NodeAst-F NodeAst ExprAst) → out-NodeAst (node_of x) ≡ v → same_layer columns NodeAst-F.CountAll v ≡ true → argument x ≡ None
      go NodeAst-F.CountAll p i = rw p refl
      go _ p i = cc

  pub record SameCall (f : FnAst) (a x : ExprAst) : Type 0 where
    pub other : ExprAst
    pub is : argument x ≡ Some (f, other)
    pub same_argument : same columns a other ≡ true

  -- what is equal to a call of one argument is a call of an equal one
  call_same : (e x a : ExprAst) (f : FnAst) → node_of e ≡ node.Call f (a ∷ []) → same columns e x ≡ true → SameCall f a x
  call_same e x a f q h = go (out-NodeAst (node_of x)) refl (sym (same_at columns (NodeAst-F.Call f (a ∷ [])) (node_of x)) ∙ rolled_same e x (NodeAst-F.Call f (a ∷ [])) (q ∙ sym (node.rolls-Call f (a ∷ []))) h)
    where
      of_list : (g : FnAst) (es : List ExprAst) → out-NodeAst (node_of x) ≡ NodeAst-F.Call g es → f ≡ g → all_same (same columns a ∷ []) es ≡ true → SameCall f a x
      of_list g (d ∷ []) p r i = record { other = d; is = rw p (ap (λ (k : FnAst). Some (k, d)) (sym r)); same_argument = (and_parts (same columns a d) true i).0 }
      of_list g [] p r i = cc
      of_list g (d ∷ b ∷ more) p r i = absurd (false≢true (and_parts (same columns a d) false i).1)

      go : (v : NodeAst-F NodeAst ExprAst) → out-NodeAst (node_of x) ≡ v → same_layer columns (NodeAst-F.Call f (same columns a ∷ [])) v ≡ true → SameCall f a x
      go (NodeAst-F.Call g es) p i =
          let b = and_parts (nat_eq (function_rank f) (function_rank g)) (all_same (same columns a ∷ []) es) i in
          of_list g es p (function_is f g b.0) b.1
      go _ p i = cc

  -- so its aggregate has the same kind
  pub call_kind_same : (e x a : ExprAst) (f : FnAst) → node_of e ≡ node.Call f (a ∷ []) → same columns e x ≡ true → (h : Fitting columns f a) → call_kind_of columns x ≡ h.kind
  call_kind_same e x a f q s h =
      let c = call_same e x a f q s in
      let i = agreed (meaning columns a None) (meaning columns c.other None) h.typed (agrees columns a c.other c.same_argument) h.is in
      ap (of_argument columns) c.is ∙ ap (of_answer f) i ∙ ap kind_or_text h.gives

  pub count_kind_same : (e x : ExprAst) → node_of e ≡ node.CountAll → same columns e x ≡ true → call_kind_of columns x ≡ kind.Int
  count_kind_same e x q s = ap (of_argument columns) (count_same e x q s)

  -- ---- places

  -- what is found at a place is equal
  pub record FoundAt (e : ExprAst) (j : ℕ) (xs : List ExprAst) : Type 0 where
    pub at : ExprAst
    pub is : slice_get xs j ≡ Some at
    pub equal : same columns e at ≡ true

  found_from : (e : ExprAst) (xs : List ExprAst) (k j : ℕ) → place_from columns e k xs ≡ Some j → (i : ℕ) × ((j ≡ k + i) × FoundAt e i xs)
  found_from e [] k j q = cc
  found_from e (x ∷ xs) k j q = go (same columns e x) refl q (λ p. found_from e xs (suc k) j p)
    where
      go : (b : Bool) → same columns e x ≡ b → cond {A = Option ℕ} b (Some k) (place_from columns e (suc k) xs) ≡ Some j
          → (place_from columns e (suc k) xs ≡ Some j → (i : ℕ) × ((j ≡ suc k + i) × FoundAt e i xs)) → (i : ℕ) × ((j ≡ k + i) × FoundAt e i (x ∷ xs))
      go true s p more = let r : k ≡ j = cc in (0, ((omega arith), record { at = x; is = refl; equal = s }))
      go false s p more = let f = more p in let r = f.1.0 in (suc f.0, ((omega arith), record { at = f.1.1.at; is = f.1.1.is; equal = f.1.1.equal }))

  pub found_at : (e : ExprAst) (xs : List ExprAst) (j : ℕ) → place_from columns e 0 xs ≡ Some j → FoundAt e j xs
  found_at e xs j q = let f = found_from e xs 0 j q in let r = f.1.0 in let s : f.0 ≡ j = omega arith in subst (λ (i : ℕ). FoundAt e i xs) s f.1.1

-- ---- lists of kinds

pub behind : {A : Type 0} (xs ys : List A) (j n : ℕ) → n ≡ length xs → slice_get (xs ++ ys) (n + j) ≡ slice_get ys j
behind [] ys j n e = ap (λ (i : ℕ). slice_get ys i) (let r : n + j ≡ j = omega arith in r)
behind (x ∷ xs) ys j zero e = cc
behind (x ∷ xs) ys j (suc n) e = let r : suc n + j ≡ suc (n + j) = omega arith in ap (slice_get (x ∷ (xs ++ ys))) r ∙ behind xs ys j n (omega arith)

pub mapped : {A B : Type 0} (f : A → B) (xs : List A) (j : ℕ) (x : A) → slice_get xs j ≡ Some x → slice_get (map f xs) j ≡ Some (f x)
mapped f [] j x e = cc
mapped f (y ∷ ys) zero x e = let q : y ≡ x = cc in ap (λ z. Some (f z)) q
mapped f (y ∷ ys) (suc j) x e = mapped f ys j x e

-- a kind of a list that others follow
pub record HasKey (ks more : List Kind) (k : ℕ) : Type 0 where
  pub at : Kind
  pub is : slice_get ks k ≡ Some at
  pub front : slice_get (ks ++ more) k ≡ Some at
  pub real : Real at

pub key_there : (ks more : List Kind) (k : ℕ) → Every Real ks → k < length ks → HasKey ks more k
key_there [] more k r h = absurd (omega arith)
key_there (j ∷ ks) more zero r h = record { at = j; is = refl; front = refl; real = r.0 }
key_there (j ∷ ks) more (suc k) r h = let m = key_there ks more k r.1 (omega arith) in record { at = m.at; is = m.is; front = m.front; real = m.real }
