-- One kind for several expressions: what each is as that kind, COALESCE and CASE.
use Rattle.std.specs.Prelude.{option_and_then, max}
use Rattle.std.proofs.Common.{ℕ, ◌≡◌, refl, sym, ap, ◌∙◌, subst, cond, Bool, true, false, ◌&&◌, ◌⊎◌, inl, inr, Option, Some, None, Ok, Err, List, [], ◌∷◌, map}
use Rattle.std.proofs.lemmas.Bool.{and_from, false≢true}
use Rattle.dfx_value.specs.declared.kind.Kind.{Kind}
use Rattle.dfx_value.specs.declared.kind.Kind.TheVariants as kind
use Rattle.dfx_value.specs.declared.value.Value.TheVariants as value
use Rattle.scalar_exprs.specs.declared.expr.Expr.{Expr}
use Rattle.scalar_exprs.specs.declared.expr.Expr.TheVariants as expr
use Rattle.scalar_exprs.specs.Kinds.{same, only_if, casts, cast_kind, when_bool, kind_of, constants_fit, arms_kind, all_kind, coalesced_kind, case_kind, parts_kind, coalesce_kind, all_fit, arms_fit}
use Rattle.scalar_exprs.specs.Kinds as opt
use Rattle.scalar_exprs.proofs.KindSteps.{kind_of-Case, kind_of-Coalesce}
use Rattle.scalar_exprs.proofs.ValueKinds.{null_is_of}
use Rattle.typed_exprs.specs.declared.case.Arm.{Arm}
use Rattle.typed_exprs.specs.declared.typed.Typed.{Typed}
use Rattle.typed_exprs.specs.declared.typed.Typed.TheVariants as typed
use Rattle.typed_exprs.specs.declared.refusal.Why.TheVariants as why
use Rattle.typed_exprs.specs.Answer.{Answer, ◌>>=◌}
use Rattle.typed_exprs.specs.Case.{tests, results, arm_as, chosen}
use Rattle.typed_exprs.specs.Typed.{settled, or_mismatch, is_number, widened, unified, common_after, or_text, common, as_kind, coalesced}
use Rattle.kind_laws.proofs.Bodies.{same_is}
use Rattle.kind_laws.proofs.KindedSteps.{fit-Case, fit-Coalesce}
use Rattle.binder_laws.proofs.Holding.{Holds, after, where_some, Every}
use Rattle.binder_laws.proofs.Selves.{kind_self}
use Rattle.binder_kind_laws.proofs.Settled.{Real, HasKind, Typing, widened_real, const_kind, settled_kind, made_kind, cast_makes}

-- ---- a kind that becomes another one

-- it is the other one, or both are numbers
abbrev pub Becomes : Kind → Kind → Type 0
Becomes j u = (j ≡ u) ⊎ ((is_number j ≡ true) × (is_number u ≡ true))

pub becomes_again : (j u v : Kind) → Becomes j u → Becomes u v → Becomes j v
becomes_again j u v (inl p) k = subst (λ (x : Kind). Becomes x v) (sym p) k
becomes_again j u v (inr p) (inl q) = inr (p.0, subst (λ (x : Kind). is_number x ≡ true) q p.1)
becomes_again j u v (inr p) (inr q) = inr (p.0, q.1)

numbers_become : (j k u : Kind) → widened j k ≡ Some u → (is_number j ≡ true) × ((is_number k ≡ true) × (is_number u ≡ true))
numbers_become kind.Int kind.Int u e = let q : kind.Int ≡ u = cc in (refl, (refl, subst (λ (x : Kind). is_number x ≡ true) q refl))
numbers_become kind.Int (kind.Dec p s) u e = let q : opt.widest (max 0 s) ≡ u = cc in (refl, (refl, subst (λ (x : Kind). is_number x ≡ true) q refl))
numbers_become (kind.Dec p s) kind.Int u e = let q : opt.widest (max s 0) ≡ u = cc in (refl, (refl, subst (λ (x : Kind). is_number x ≡ true) q refl))
numbers_become (kind.Dec p s) (kind.Dec q t) u e = let r : opt.widest (max s t) ≡ u = cc in (refl, (refl, subst (λ (x : Kind). is_number x ≡ true) r refl))
numbers_become _ _ u e = cc

-- two kinds become the unified one, which is a kind
pub record Unifies (j k u : Kind) : Type 0 where
  pub left : Becomes j u
  pub right : Becomes k u
  pub real : Real u

pub unified_are : (j k u : Kind) → Real j → Real k → unified j k ≡ Some u → Unifies j k u
unified_are j k u h i e = go (same j k) refl e
  where
    go : (b : Bool) → same j k ≡ b → cond {A = Option Kind} b (Some j) (widened j k) ≡ Some u → Unifies j k u
    go true s q = let p : j ≡ u = cc in record { left = inl p; right = inl (sym (same_is j k s) ∙ p); real = subst Real p h }
    go false s q = let n = numbers_become j k u q in record { left = inr (n.0, n.1.1); right = inr (n.1.0, n.1.1); real = widened_real j k u h i q }

-- a number is cast to each kind of numbers
number_casts : (j u : Kind) → Real u → is_number j ≡ true → is_number u ≡ true → cast_kind u j ≡ Some u
number_casts kind.Int kind.Int r h i = refl
number_casts kind.Int (kind.Dec p s) r h i = ap (λ (b : Bool). only_if (b && true) (kind.Dec p s)) r
number_casts (kind.Dec q t) kind.Int r h i = refl
number_casts (kind.Dec q t) (kind.Dec p s) r h i = ap (λ (b : Bool). only_if (b && true) (kind.Dec p s)) r
number_casts kind.Bool u r h i = absurd (false≢true h)
number_casts kind.Text u r h i = absurd (false≢true h)
number_casts kind.Int kind.Bool r h i = absurd (false≢true i)
number_casts kind.Int kind.Text r h i = absurd (false≢true i)
number_casts (kind.Dec q t) kind.Bool r h i = absurd (false≢true i)
number_casts (kind.Dec q t) kind.Text r h i = absurd (false≢true i)

abbrev pub TypedBecomes : Typed → Kind → Type 0
TypedBecomes typed.Null u = Unit {0}
TypedBecomes (typed.Of e j) u = Becomes j u

module _ (ks : List Kind) where
  pub as_kind_has : (u : Kind) (t : Typed) → Real u → Typing ks t → TypedBecomes t u → HasKind ks (as_kind u t) u
  as_kind_has u typed.Null r h b = const_kind ks value.Null u r (null_is_of u)
  as_kind_has u (typed.Of e j) r h b = go (same j u) refl b
    where
      go : (s : Bool) → same j u ≡ s → Becomes j u → HasKind ks (cond {A = Expr} s e (expr.Cast e u)) u
      go true q b = subst (HasKind ks e) (same_is j u q) h
      go false q (inl p) = absurd (false≢true (sym q ∙ ap (λ (x : Kind). same x u) p ∙ kind_self u))
      go false q (inr n) = made_kind ks (λ x. expr.Cast x u) (cast_kind u) (cast_makes ks u) e j u h (number_casts j u r n.0 n.1)

  -- ---- the kind that all have in common

  abbrev FoundBecomes : Option Kind → Kind → Type 0
  FoundBecomes None u = Unit {0}
  FoundBecomes (Some j) u = Becomes j u

  abbrev FoundReal : Option Kind → Type 0
  FoundReal None = Unit {0}
  FoundReal (Some j) = Real j

  pub record Common (found : Option Kind) (ts : List Typed) (u : Kind) : Type 0 where
    before : FoundBecomes found u
    pub each : Every (λ t. TypedBecomes t u) ts
    pub real : Real u

  none_common : (found : Option Kind) → FoundReal found → Common found [] (or_text found)
  none_common None h = record { before = tt; each = tt; real = refl }
  none_common (Some j) h = record { before = inl refl; each = tt; real = h }

  after_common : (ts : List Typed) (found r : Option Kind) → FoundReal found → Every (Typing ks) ts → common_after found ts ≡ Some r → Common found ts (or_text r)
  after_common [] found r h i e = let q : found ≡ r = cc in subst (λ (x : Option Kind). Common found [] (or_text x)) q (none_common found h)
  after_common (typed.Null ∷ ts) found r h i e =
      let c = after_common ts found r h i.1 e in record { before = c.before; each = (tt, c.each); real = c.real }
  after_common (typed.Of x k ∷ ts) None r h i e =
      let c = after_common ts (Some k) r i.0.real i.1 e in record { before = tt; each = (c.before, c.each); real = c.real }
  after_common (typed.Of x k ∷ ts) (Some j) r h i e = go (unified j k) refl e (λ u n p. after_common ts (Some u) r n i.1 p)
    where
      go : (o : Option Kind) → unified j k ≡ o → option_and_then (λ next. common_after next ts) (option_and_then (λ u. Some (Some u)) o) ≡ Some r
          → ((u : Kind) → Real u → common_after (Some u) ts ≡ Some r → Common (Some u) ts (or_text r)) → Common (Some j) (typed.Of x k ∷ ts) (or_text r)
      go None q p f = cc
      go (Some u) q p f =
          let n = unified_are j k u h i.0.real q in
          let c = f u n.real p in
          record { before = becomes_again j u (or_text r) n.left c.before; each = (becomes_again k u (or_text r) n.right c.before, c.each); real = c.real }

  pub common_is : (ts : List Typed) (u : Kind) → Every (Typing ks) ts → common ts ≡ Some u → Common None ts u
  common_is ts u h e = go (common_after None ts) refl e
    where
      go : (o : Option (Option Kind)) → common_after None ts ≡ o → option_and_then (λ found. Some (or_text found)) o ≡ Some u → Common None ts u
      go None q p = cc
      go (Some r) q p = let s : or_text r ≡ u = cc in subst (Common None ts) s (after_common ts None r tt h q)

  -- ---- COALESCE

  step_kind : (k : Kind) (rest : Option Kind) → opt.◌>>=◌ (only_if (same k k) k) (λ _. rest) ≡ rest
  step_kind k rest = ap (λ (b : Bool). opt.◌>>=◌ (only_if b k) (λ _. rest)) (kind_self k)

  parts_have : (u : Kind) (ts : List Typed) → Real u → Every (Typing ks) ts → Every (λ t. TypedBecomes t u) ts
      → (parts_kind (map (kind_of ks) (map (as_kind u) ts)) u ≡ Some u) × (all_fit (map constants_fit (map (as_kind u) ts)) ≡ true)
  parts_have u [] r h b = (refl, refl)
  parts_have u (t ∷ ts) r h b =
      let p = as_kind_has u t r h.0 b.0 in
      let more = parts_have u ts r h.1 b.1 in
      let rest = parts_kind (map (kind_of ks) (map (as_kind u) ts)) u in
      (ap (λ (o : Option Kind). opt.◌>>=◌ o (λ j. opt.◌>>=◌ (only_if (same j u) u) (λ _. rest))) p.kind ∙ step_kind u rest ∙ more.0, and_from (constants_fit (as_kind u t)) _ p.fits more.1)

  coalesce_has : (u : Kind) (t : Typed) (ts : List Typed) → Every (Typing ks) (t ∷ ts) → Common None (t ∷ ts) u → HasKind ks (expr.Coalesce (map (as_kind u) (t ∷ ts))) u
  coalesce_has u t ts h c =
      let p = as_kind_has u t c.real h.0 c.each.0 in
      let more = parts_have u ts c.real h.1 c.each.1 in
      record {
        kind = kind_of-Coalesce ks (map (as_kind u) (t ∷ ts)) ∙ ap (λ (o : Option Kind). opt.◌>>=◌ o (parts_kind (map (kind_of ks) (map (as_kind u) ts)))) p.kind ∙ more.0;
        fits = fit-Coalesce (map (as_kind u) (t ∷ ts)) ∙ and_from (constants_fit (as_kind u t)) _ p.fits more.1;
        real = c.real;
      }

  pub coalesced_has : (place : ℕ) (ts : List Typed) → Every (Typing ks) ts → Holds (Typing ks) (coalesced place ts)
  coalesced_has place [] h = tt
  coalesced_has place (t ∷ ts) h =
      after (λ u. common (t ∷ ts) ≡ Some u) (Typing ks) (or_mismatch place (common (t ∷ ts))) (λ k. Ok (typed.Of (expr.Coalesce (map (as_kind k) (t ∷ ts))) k))
      (where_some (λ u. common (t ∷ ts) ≡ Some u) why.KindMismatch place (common (t ∷ ts)) (λ u q. q))
      (λ u q. coalesce_has u t ts h (common_is (t ∷ ts) u h q))

  -- ---- CASE

  abbrev pub ArmTyping : Arm → Type 0
  ArmTyping arm = Typing ks arm.test × Typing ks arm.result

  -- each test is a truth
  abbrev Truths : List Arm → Type 0
  Truths arms = Every (λ (arm : Arm). (settled arm.test).1 ≡ kind.Bool) arms

  the_truth : (j m : Kind) → when_bool j ≡ Some m → j ≡ kind.Bool
  the_truth kind.Bool m e = refl
  the_truth _ m e = cc

  tests_are : (arms : List Arm) → Holds (λ u. Truths arms) (tests arms)
  tests_are [] = tt
  tests_are (arm ∷ arms) =
      after (λ m. when_bool (settled arm.test).1 ≡ Some m) (λ u. Truths (arm ∷ arms)) (or_mismatch arm.place (when_bool (settled arm.test).1)) (λ _. tests arms)
      (where_some (λ m. when_bool (settled arm.test).1 ≡ Some m) why.KindMismatch arm.place (when_bool (settled arm.test).1) (λ m q. q))
      (λ m q. more (the_truth (settled arm.test).1 m q) (tests arms) (tests_are arms))
    where
      more : (settled arm.test).1 ≡ kind.Bool → (a : Answer (Unit {0})) → Holds (λ u. Truths arms) a → Holds (λ u. Truths (arm ∷ arms)) a
      more q (Ok u) h = (q, h)
      more q (Err r) h = tt

  results_typed : (arms : List Arm) (other : Typed) → Every ArmTyping arms → Typing ks other → Every (Typing ks) (results arms other)
  results_typed [] other h i = (i, tt)
  results_typed (arm ∷ arms) other h i = (h.0.1, results_typed arms other h.1 i)

  abbrev pair_kinds : List (Expr × Expr) → List (Option Kind × Option Kind)
  pair_kinds arms = map (λ (arm : Expr × Expr). (kind_of ks arm.0, kind_of ks arm.1)) arms

  abbrev pair_fits : List (Expr × Expr) → List (Bool × Bool)
  pair_fits arms = map (λ (arm : Expr × Expr). (constants_fit arm.0, constants_fit arm.1)) arms

  arms_have : (u : Kind) (arms : List Arm) (other : Typed) → Real u → Every ArmTyping arms → Truths arms → Every (λ t. TypedBecomes t u) (results arms other)
      → (case_kind (pair_kinds (map (arm_as u) arms)) u ≡ Some u) × ((arms_fit (pair_fits (map (arm_as u) arms)) ≡ true) × TypedBecomes other u)
  arms_have u [] other r h t b = (refl, (refl, b.0))
  arms_have u (arm ∷ arms) other r h t b =
      let test = subst (HasKind ks (settled arm.test).0) t.0 (settled_kind ks arm.test h.0.0) in
      let result = as_kind_has u arm.result r h.0.1 b.0 in
      let more = arms_have u arms other r h.1 t.1 b.1 in
      let rest = case_kind (pair_kinds (map (arm_as u) arms)) u in
      let given = kind_of ks (as_kind u arm.result) in (
        ap (λ (o : Option Kind). opt.◌>>=◌ o (λ test. opt.◌>>=◌ (when_bool test) (λ _. opt.◌>>=◌ given (λ j. opt.◌>>=◌ (only_if (same j u) u) (λ _. rest))))) test.kind
            ∙ ap (λ (o : Option Kind). opt.◌>>=◌ o (λ j. opt.◌>>=◌ (only_if (same j u) u) (λ _. rest))) result.kind ∙ step_kind u rest ∙ more.0,
        (and_from (constants_fit (settled arm.test).0 && constants_fit (as_kind u arm.result)) _ (and_from (constants_fit (settled arm.test).0) (constants_fit (as_kind u arm.result)) test.fits result.fits) more.1.0, more.1.1),
      )

  case_has : (u : Kind) (arms : List Arm) (other : Typed) → Every ArmTyping arms → Typing ks other → Truths arms → Common None (results arms other) u → HasKind ks (expr.Case (map (arm_as u) arms) (as_kind u other)) u
  case_has u arms other h i t c =
      let all = arms_have u arms other c.real h t c.each in
      let last = as_kind_has u other c.real i all.1.1 in
      record {
        kind = kind_of-Case ks (map (arm_as u) arms) (as_kind u other) ∙ ap (λ (o : Option Kind). opt.◌>>=◌ o (arms_kind ks (map (arm_as u) arms))) last.kind ∙ all.0;
        fits = fit-Case (map (arm_as u) arms) (as_kind u other) ∙ and_from (arms_fit (pair_fits (map (arm_as u) arms))) (constants_fit (as_kind u other)) all.1.0 last.fits;
        real = c.real;
      }

  pub chosen_has : (place : ℕ) (arms : List Arm) (other : Typed) → Every ArmTyping arms → Typing ks other → Holds (Typing ks) (chosen place arms other)
  chosen_has place arms other h i =
      after (λ u. Truths arms) (Typing ks) (tests arms) (λ u. or_mismatch place (common (results arms other)) >>= λ k. Ok (typed.Of (expr.Case (map (arm_as k) arms) (as_kind k other)) k)) (tests_are arms)
      (λ u t. after (λ k. common (results arms other) ≡ Some k) (Typing ks) (or_mismatch place (common (results arms other))) (λ k. Ok (typed.Of (expr.Case (map (arm_as k) arms) (as_kind k other)) k))
      (where_some (λ k. common (results arms other) ≡ Some k) why.KindMismatch place (common (results arms other)) (λ k q. q))
      (λ k q. case_has k arms other h i t (common_is (results arms other) k (results_typed arms other h i) q)))
