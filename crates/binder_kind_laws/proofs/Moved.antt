-- The kind of an expression over other columns: where its columns have the same kinds there, under their new numbers, so has it.
use Rattle.std.specs.Prelude.{slice_get}
use Rattle.std.proofs.Common.{ℕ, ◌≡◌, refl, sym, ap, ◌∙◌, subst, Bool, ◌&&◌, Option, Some, List, [], ◌∷◌, ◌++◌, map}
use Rattle.dfx_value.specs.declared.kind.Kind.{Kind}
use Rattle.dfx_value.specs.declared.kind.Kind.TheVariants as kind
use Rattle.dfx_value.specs.declared.op.Op.{Op}
use Rattle.scalar_exprs.specs.declared.expr.Expr.{Expr}
use Rattle.scalar_exprs.specs.declared.expr.Expr.TheOpen.{Expr-F}
use Rattle.scalar_exprs.specs.declared.expr.Expr.TheViews.{roll-Expr}
use Rattle.scalar_exprs.specs.declared.expr.Expr.TheFolds.{map-Expr, ind-Expr}
use Rattle.scalar_exprs.specs.declared.expr.Expr.TheVariants.{Not, Neg, IsNull, Binary, Case, Coalesce, Cast, Abs, Length, rolls-Column, rolls-Const, rolls-Not, rolls-Neg, rolls-IsNull, rolls-Binary, rolls-Case, rolls-Coalesce, rolls-Cast, rolls-Abs, rolls-Length}
use Rattle.scalar_exprs.specs.Kinds.{kind_of, constants_fit, binary_kind, when_bool, when_number, length_kind, cast_kind, case_kind, coalesce_kind, arms_fit, all_fit}
use Rattle.scalar_exprs.specs.Kinds as opt
use Rattle.scalar_exprs.proofs.KindSteps.{kind_of-Column, kind_of-Const, kind_of-Not, kind_of-Neg, kind_of-IsNull, kind_of-Binary, kind_of-Case, kind_of-Coalesce, kind_of-Cast, kind_of-Abs, kind_of-Length}
use Rattle.kind_laws.proofs.KindedSteps.{fit-Column, fit-Not, fit-Neg, fit-IsNull, fit-Binary, fit-Case, fit-Coalesce, fit-Cast, fit-Abs, fit-Length}
use Rattle.join_lowering.specs.Keys.{columns}
use Rattle.join_lowering.specs.Lowering.{renumbered}
use Rattle.join_lowering.specs.SidesUsed.{arm_columns, all_columns, renumbered_arms}
use Rattle.join_lowering.proofs.Nodes.{columns-Column, columns-Not, columns-Neg, columns-IsNull, columns-Binary, columns-Case, columns-Coalesce, columns-Cast, columns-Abs, columns-Length, renumbered-Column, renumbered-Const, renumbered-Not, renumbered-Neg, renumbered-IsNull, renumbered-Binary, renumbered-Case, renumbered-Coalesce, renumbered-Cast, renumbered-Abs, renumbered-Length}
use Rattle.binder_laws.proofs.Holding.{Every, every_split}

abbrev pair_kinds : List Kind → List (Expr × Expr) → List (Option Kind × Option Kind)
pair_kinds ks arms = map (λ (arm : Expr × Expr). (kind_of ks arm.0, kind_of ks arm.1)) arms

-- from one list of kinds to another, by new numbers
module _ (ks us : List Kind) (f : ℕ → ℕ) where
  -- the column has the same kind there
  abbrev pub Kept : ℕ → Type 0
  Kept c = slice_get us (f c) ≡ slice_get ks c

  abbrev pub KindKept : Expr → Type 0
  KindKept e = Every Kept (columns e) → kind_of us (renumbered f e) ≡ kind_of ks e

  abbrev Known : Type 0
  Known = (e : Expr) × KindKept e

  abbrev known : List Known → List Expr
  known xs = map (λ (k : Known). k.0) xs

  abbrev known_arms : List (Known × Known) → List (Expr × Expr)
  known_arms arms = map (λ (arm : Known × Known). (arm.0.0, arm.1.0)) arms

  one : (make : Expr → Expr) (to : Kind → Option Kind) (a : Expr) → ((js : List Kind) (e : Expr) → kind_of js (make e) ≡ opt.◌>>=◌ (kind_of js e) to) → columns (make a) ≡ columns a → renumbered f (make a) ≡ make (renumbered f a) → KindKept a → KindKept (make a)
  one make to a k c r h i =
      ap (kind_of us) r ∙ k us (renumbered f a) ∙ ap (λ (o : Option Kind). opt.◌>>=◌ o to) (h (subst (Every Kept) c i)) ∙ sym (k ks a)

  two : (o : Op) (a b : Expr) → KindKept a → KindKept b → KindKept (Binary o a b)
  two o a b h i all =
      let p = every_split Kept (columns a) (columns b) (subst (Every Kept) (columns-Binary o a b) all) in
      ap (kind_of us) (renumbered-Binary f o a b) ∙ kind_of-Binary us o (renumbered f a) (renumbered f b)
      ∙ ap (λ (x : Option Kind). opt.◌>>=◌ x (λ j. opt.◌>>=◌ (kind_of us (renumbered f b)) (λ k. binary_kind o j k))) (h p.0)
      ∙ ap (λ (y : Option Kind). opt.◌>>=◌ (kind_of ks a) (λ j. opt.◌>>=◌ y (λ k. binary_kind o j k))) (i p.1)
      ∙ sym (kind_of-Binary ks o a b)

  all_kept : (xs : List Known) → Every Kept (all_columns (known xs)) → map (kind_of us) (map (renumbered f) (known xs)) ≡ map (kind_of ks) (known xs)
  unfolding all_columns
  all_kept [] h = refl
  all_kept (x ∷ xs) h =
      let p = every_split Kept (columns x.0) (all_columns (known xs)) h in
      ap (λ o. o ∷ map (kind_of us) (map (renumbered f) (known xs))) (x.1 p.0) ∙ ap (λ os. kind_of ks x.0 ∷ os) (all_kept xs p.1)

  arms_kept : (arms : List (Known × Known)) → Every Kept (arm_columns (known_arms arms)) → pair_kinds us (renumbered_arms f (known_arms arms)) ≡ pair_kinds ks (known_arms arms)
  unfolding arm_columns
  arms_kept [] h = refl
  arms_kept (arm ∷ arms) h =
      let p = every_split Kept (columns arm.0.0 ++ columns arm.1.0) (arm_columns (known_arms arms)) h in
      let q = every_split Kept (columns arm.0.0) (columns arm.1.0) p.0 in
      ap (λ o. (o, kind_of us (renumbered f arm.1.0)) ∷ pair_kinds us (renumbered_arms f (known_arms arms))) (arm.0.1 q.0)
      ∙ ap (λ o. (kind_of ks arm.0.0, o) ∷ pair_kinds us (renumbered_arms f (known_arms arms))) (arm.1.1 q.1)
      ∙ ap (λ os. (kind_of ks arm.0.0, kind_of ks arm.1.0) ∷ os) (arms_kept arms p.1)

  case_kept : (arms : List (Known × Known)) (other : Known) → KindKept (Case (known_arms arms) other.0)
  case_kept arms other h =
      let p = every_split Kept (arm_columns (known_arms arms)) (columns other.0) (subst (Every Kept) (columns-Case (known_arms arms) other.0) h) in
      ap (kind_of us) (renumbered-Case f (known_arms arms) other.0) ∙ kind_of-Case us (renumbered_arms f (known_arms arms)) (renumbered f other.0)
      ∙ ap (λ (o : Option Kind). opt.◌>>=◌ o (case_kind (pair_kinds us (renumbered_arms f (known_arms arms))))) (other.1 p.1)
      ∙ ap (λ (os : List (Option Kind × Option Kind)). opt.◌>>=◌ (kind_of ks other.0) (case_kind os)) (arms_kept arms p.0)
      ∙ sym (kind_of-Case ks (known_arms arms) other.0)

  step : (y : Expr-F Known) → KindKept (roll-Expr (map-Expr Known Expr (λ k. k.0) y))
  step (Expr-F.Column c) = subst KindKept (sym (rolls-Column c)) (λ h. ap (kind_of us) (renumbered-Column f c) ∙ kind_of-Column us (f c) ∙ (subst (Every Kept) (columns-Column c) h).0 ∙ sym (kind_of-Column ks c))
  step (Expr-F.Const v k) = subst KindKept (sym (rolls-Const v k)) (λ h. ap (kind_of us) (renumbered-Const f v k) ∙ kind_of-Const us v k ∙ sym (kind_of-Const ks v k))
  step (Expr-F.Not a) = subst KindKept (sym (rolls-Not a.0)) (one Not when_bool a.0 kind_of-Not (columns-Not a.0) (renumbered-Not f a.0) a.1)
  step (Expr-F.Neg a) = subst KindKept (sym (rolls-Neg a.0)) (one Neg when_number a.0 kind_of-Neg (columns-Neg a.0) (renumbered-Neg f a.0) a.1)
  step (Expr-F.IsNull a) = subst KindKept (sym (rolls-IsNull a.0)) (one IsNull (λ _. Some kind.Bool) a.0 kind_of-IsNull (columns-IsNull a.0) (renumbered-IsNull f a.0) a.1)
  step (Expr-F.Binary o a b) = subst KindKept (sym (rolls-Binary o a.0 b.0)) (two o a.0 b.0 a.1 b.1)
  step (Expr-F.Case arms other) = subst KindKept (sym (rolls-Case (known_arms arms) other.0)) (case_kept arms other)
  step (Expr-F.Coalesce parts) = subst KindKept (sym (rolls-Coalesce (known parts)))
      (λ h. ap (kind_of us) (renumbered-Coalesce f (known parts)) ∙ kind_of-Coalesce us (map (renumbered f) (known parts)) ∙ ap coalesce_kind (all_kept parts (subst (Every Kept) (columns-Coalesce (known parts)) h)) ∙ sym (kind_of-Coalesce ks (known parts)))
  step (Expr-F.Cast a k) = subst KindKept (sym (rolls-Cast a.0 k)) (one (λ e. Cast e k) (cast_kind k) a.0 (λ js e. kind_of-Cast js e k) (columns-Cast a.0 k) (renumbered-Cast f a.0 k) a.1)
  step (Expr-F.Abs a) = subst KindKept (sym (rolls-Abs a.0)) (one Abs when_number a.0 kind_of-Abs (columns-Abs a.0) (renumbered-Abs f a.0) a.1)
  step (Expr-F.Length a) = subst KindKept (sym (rolls-Length a.0)) (one Length length_kind a.0 kind_of-Length (columns-Length a.0) (renumbered-Length f a.0) a.1)

  pub kind_kept : (e : Expr) → KindKept e
  kind_kept = ind-Expr KindKept (λ x y is. subst (λ z. KindKept (roll-Expr z)) is (step y))

-- ---- constants

module _ (f : ℕ → ℕ) where
  abbrev FitKept : Expr → Type 0
  FitKept e = constants_fit (renumbered f e) ≡ constants_fit e

  abbrev Fit : Type 0
  Fit = (e : Expr) × FitKept e

  abbrev fit_exprs : List Fit → List Expr
  fit_exprs xs = map (λ (k : Fit). k.0) xs

  abbrev fit_arms : List (Fit × Fit) → List (Expr × Expr)
  fit_arms arms = map (λ (arm : Fit × Fit). (arm.0.0, arm.1.0)) arms

  abbrev pair_fits : List (Expr × Expr) → List (Bool × Bool)
  pair_fits arms = map (λ (arm : Expr × Expr). (constants_fit arm.0, constants_fit arm.1)) arms

  one_fit : (make : Expr → Expr) (a : Expr) → ((e : Expr) → constants_fit (make e) ≡ constants_fit e) → renumbered f (make a) ≡ make (renumbered f a) → FitKept a → FitKept (make a)
  one_fit make a k r h = ap constants_fit r ∙ k (renumbered f a) ∙ h ∙ sym (k a)

  both_fit : (a b c d : Bool) → a ≡ c → b ≡ d → a && b ≡ c && d
  both_fit a b c d h i = ap (λ (x : Bool). x && b) h ∙ ap (λ (y : Bool). c && y) i

  exprs_fit : (xs : List Fit) → all_fit (map constants_fit (map (renumbered f) (fit_exprs xs))) ≡ all_fit (map constants_fit (fit_exprs xs))
  exprs_fit [] = refl
  exprs_fit (x ∷ xs) = both_fit _ _ _ _ x.1 (exprs_fit xs)

  pairs_fit : (arms : List (Fit × Fit)) → arms_fit (pair_fits (renumbered_arms f (fit_arms arms))) ≡ arms_fit (pair_fits (fit_arms arms))
  pairs_fit [] = refl
  pairs_fit (arm ∷ arms) = both_fit _ _ _ _ (both_fit _ _ _ _ arm.0.1 arm.1.1) (pairs_fit arms)

  fit_step : (y : Expr-F Fit) → FitKept (roll-Expr (map-Expr Fit Expr (λ k. k.0) y))
  fit_step (Expr-F.Column c) = subst FitKept (sym (rolls-Column c)) (ap constants_fit (renumbered-Column f c) ∙ fit-Column (f c) ∙ sym (fit-Column c))
  fit_step (Expr-F.Const v k) = subst FitKept (sym (rolls-Const v k)) (ap constants_fit (renumbered-Const f v k))
  fit_step (Expr-F.Not a) = subst FitKept (sym (rolls-Not a.0)) (one_fit Not a.0 fit-Not (renumbered-Not f a.0) a.1)
  fit_step (Expr-F.Neg a) = subst FitKept (sym (rolls-Neg a.0)) (one_fit Neg a.0 fit-Neg (renumbered-Neg f a.0) a.1)
  fit_step (Expr-F.IsNull a) = subst FitKept (sym (rolls-IsNull a.0)) (one_fit IsNull a.0 fit-IsNull (renumbered-IsNull f a.0) a.1)
  fit_step (Expr-F.Binary o a b) = subst FitKept (sym (rolls-Binary o a.0 b.0)) (ap constants_fit (renumbered-Binary f o a.0 b.0) ∙ fit-Binary o (renumbered f a.0) (renumbered f b.0) ∙ both_fit _ _ _ _ a.1 b.1 ∙ sym (fit-Binary o a.0 b.0))
  fit_step (Expr-F.Case arms other) = subst FitKept (sym (rolls-Case (fit_arms arms) other.0))
      (ap constants_fit (renumbered-Case f (fit_arms arms) other.0) ∙ fit-Case (renumbered_arms f (fit_arms arms)) (renumbered f other.0) ∙ both_fit _ _ _ _ (pairs_fit arms) other.1 ∙ sym (fit-Case (fit_arms arms) other.0))
  fit_step (Expr-F.Coalesce parts) = subst FitKept (sym (rolls-Coalesce (fit_exprs parts)))
      (ap constants_fit (renumbered-Coalesce f (fit_exprs parts)) ∙ fit-Coalesce (map (renumbered f) (fit_exprs parts)) ∙ exprs_fit parts ∙ sym (fit-Coalesce (fit_exprs parts)))
  fit_step (Expr-F.Cast a k) = subst FitKept (sym (rolls-Cast a.0 k)) (one_fit (λ e. Cast e k) a.0 (λ e. fit-Cast e k) (renumbered-Cast f a.0 k) a.1)
  fit_step (Expr-F.Abs a) = subst FitKept (sym (rolls-Abs a.0)) (one_fit Abs a.0 fit-Abs (renumbered-Abs f a.0) a.1)
  fit_step (Expr-F.Length a) = subst FitKept (sym (rolls-Length a.0)) (one_fit Length a.0 fit-Length (renumbered-Length f a.0) a.1)

  pub fit_kept : (e : Expr) → FitKept e
  fit_kept = ind-Expr FitKept (λ x y is. subst (λ z. FitKept (roll-Expr z)) is (fit_step y))

-- ---- the same numbers

-- with its own numbers an expression is itself
module _ where
  abbrev Itself : Expr → Type 0
  Itself e = renumbered (λ c. c) e ≡ e

  abbrev Own : Type 0
  Own = (e : Expr) × Itself e

  abbrev own_exprs : List Own → List Expr
  own_exprs xs = map (λ (k : Own). k.0) xs

  abbrev own_arms : List (Own × Own) → List (Expr × Expr)
  own_arms arms = map (λ (arm : Own × Own). (arm.0.0, arm.1.0)) arms

  exprs_own : (xs : List Own) → map (renumbered (λ c. c)) (own_exprs xs) ≡ own_exprs xs
  exprs_own [] = refl
  exprs_own (x ∷ xs) = ap (λ e. e ∷ map (renumbered (λ c. c)) (own_exprs xs)) x.1 ∙ ap (λ es. x.0 ∷ es) (exprs_own xs)

  arms_own : (arms : List (Own × Own)) → renumbered_arms (λ c. c) (own_arms arms) ≡ own_arms arms
  arms_own [] = refl
  arms_own (arm ∷ arms) =
      ap (λ e. (e, renumbered (λ c. c) arm.1.0) ∷ renumbered_arms (λ c. c) (own_arms arms)) arm.0.1 ∙ ap (λ e. (arm.0.0, e) ∷ renumbered_arms (λ c. c) (own_arms arms)) arm.1.1 ∙ ap (λ es. (arm.0.0, arm.1.0) ∷ es) (arms_own arms)

  own_step : (y : Expr-F Own) → Itself (roll-Expr (map-Expr Own Expr (λ k. k.0) y))
  own_step (Expr-F.Column c) = subst Itself (sym (rolls-Column c)) (renumbered-Column (λ c. c) c)
  own_step (Expr-F.Const v k) = subst Itself (sym (rolls-Const v k)) (renumbered-Const (λ c. c) v k)
  own_step (Expr-F.Not a) = subst Itself (sym (rolls-Not a.0)) (renumbered-Not (λ c. c) a.0 ∙ ap Not a.1)
  own_step (Expr-F.Neg a) = subst Itself (sym (rolls-Neg a.0)) (renumbered-Neg (λ c. c) a.0 ∙ ap Neg a.1)
  own_step (Expr-F.IsNull a) = subst Itself (sym (rolls-IsNull a.0)) (renumbered-IsNull (λ c. c) a.0 ∙ ap IsNull a.1)
  own_step (Expr-F.Binary o a b) = subst Itself (sym (rolls-Binary o a.0 b.0)) (renumbered-Binary (λ c. c) o a.0 b.0 ∙ ap (λ x. Binary o x (renumbered (λ c. c) b.0)) a.1 ∙ ap (Binary o a.0) b.1)
  own_step (Expr-F.Case arms other) = subst Itself (sym (rolls-Case (own_arms arms) other.0)) (renumbered-Case (λ c. c) (own_arms arms) other.0 ∙ ap (λ xs. Case xs (renumbered (λ c. c) other.0)) (arms_own arms) ∙ ap (Case (own_arms arms)) other.1)
  own_step (Expr-F.Coalesce parts) = subst Itself (sym (rolls-Coalesce (own_exprs parts))) (renumbered-Coalesce (λ c. c) (own_exprs parts) ∙ ap Coalesce (exprs_own parts))
  own_step (Expr-F.Cast a k) = subst Itself (sym (rolls-Cast a.0 k)) (renumbered-Cast (λ c. c) a.0 k ∙ ap (λ x. Cast x k) a.1)
  own_step (Expr-F.Abs a) = subst Itself (sym (rolls-Abs a.0)) (renumbered-Abs (λ c. c) a.0 ∙ ap Abs a.1)
  own_step (Expr-F.Length a) = subst Itself (sym (rolls-Length a.0)) (renumbered-Length (λ c. c) a.0 ∙ ap Length a.1)

  itself : (e : Expr) → Itself e
  itself = ind-Expr Itself (λ x y is. subst (λ z. Itself (roll-Expr z)) is (own_step y))

-- so where its columns have the same kinds, an expression has
pub kind_alike : (ks us : List Kind) (e : Expr) → Every (Kept ks us (λ c. c)) (columns e) → kind_of us e ≡ kind_of ks e
kind_alike ks us e h = ap (kind_of us) (sym (itself e)) ∙ kind_kept ks us (λ c. c) e h
