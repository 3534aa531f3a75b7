-- The columns of an expression with new numbers.
use Rattle.std.specs.Prelude.{nat_lt, nat_le}
use Rattle.std.specs.List.{list_any}
use Rattle.std.proofs.Common.{ℕ, ◌≡◌, ◌+◌, ◌-◌, ◌<◌, ◌≤◌, refl, sym, ap, ◌∙◌, subst, cond, Bool, true, false, ◌||◌, List, [], ◌∷◌, ◌++◌, map, arith}
use Rattle.std.proofs.lemmas.Bool.{lt-ltb, ltb-true, ltb-false, leb-false, false≢true}
use Rattle.std.proofs.lemmas.List.{map-append}
use Rattle.scalar_exprs.specs.declared.expr.Expr.{Expr}
use Rattle.scalar_exprs.specs.declared.expr.Expr.TheOpen.{Expr-F}
use Rattle.scalar_exprs.specs.declared.expr.Expr.TheViews.{roll-Expr}
use Rattle.scalar_exprs.specs.declared.expr.Expr.TheFolds.{map-Expr, ind-Expr}
use Rattle.scalar_exprs.specs.declared.expr.Expr.TheVariants.{Not, Neg, IsNull, Cast, Abs, Length, rolls-Column, rolls-Const, rolls-Not, rolls-Neg, rolls-IsNull, rolls-Binary, rolls-Case, rolls-Coalesce, rolls-Cast, rolls-Abs, rolls-Length}
use Rattle.join_lowering.specs.Keys.{columns}
use Rattle.join_lowering.specs.Lowering.{renumbered, without_left, spread}
use Rattle.join_lowering.specs.SidesUsed.{arm_columns, all_columns, renumbered_arms}
use Rattle.join_lowering.proofs.Nodes.{columns-Column, columns-Const, columns-Not, columns-Neg, columns-IsNull, columns-Binary, columns-Case, columns-Coalesce, columns-Cast, columns-Abs, columns-Length, renumbered-Column, renumbered-Const, renumbered-Not, renumbered-Neg, renumbered-IsNull, renumbered-Binary, renumbered-Case, renumbered-Coalesce, renumbered-Cast, renumbered-Abs, renumbered-Length}
use Rattle.physical_plan.proofs.Everywhere.{both_true, and_parts}
use Rattle.planned_laws.specs.Ranges.{are_below}

module _ (f : ℕ → ℕ) where
  abbrev Renames : Expr → Type 0
  Renames e = columns (renumbered f e) ≡ map f (columns e)

  abbrev Known : Type 0
  Known = (e : Expr) × Renames e

  abbrev known : List Known → List Expr
  known xs = map (λ (k : Known). k.0) xs

  abbrev known_arms : List (Known × Known) → List (Expr × Expr)
  known_arms arms = map (λ (arm : Known × Known). (arm.0.0, arm.1.0)) arms

  one : (make : Expr → Expr) (a : Expr) → ((e : Expr) → columns (make e) ≡ columns e) → renumbered f (make a) ≡ make (renumbered f a) → Renames a → Renames (make a)
  one make a c r h = ap columns r ∙ c (renumbered f a) ∙ h ∙ sym (ap (map f) (c a))

  two : (xs ys us vs : List ℕ) → us ≡ map f xs → vs ≡ map f ys → us ++ vs ≡ map f (xs ++ ys)
  two xs ys us vs h i = ap (λ (l : List ℕ). l ++ vs) h ∙ ap (λ (l : List ℕ). map f xs ++ l) i ∙ sym (map-append f xs ys)

  all_rename : (xs : List Known) → all_columns (map (renumbered f) (known xs)) ≡ map f (all_columns (known xs))
  unfolding all_columns
  all_rename [] = refl
  all_rename (x ∷ xs) = two (columns x.0) _ (columns (renumbered f x.0)) _ x.1 (all_rename xs)

  arms_rename : (arms : List (Known × Known)) → arm_columns (renumbered_arms f (known_arms arms)) ≡ map f (arm_columns (known_arms arms))
  unfolding arm_columns
  arms_rename [] = refl
  arms_rename (arm ∷ arms) = two (columns arm.0.0 ++ columns arm.1.0) _ (columns (renumbered f arm.0.0) ++ columns (renumbered f arm.1.0)) _ (two (columns arm.0.0) (columns arm.1.0) _ _ arm.0.1 arm.1.1) (arms_rename arms)

  step : (y : Expr-F Known) → Renames (roll-Expr (map-Expr Known Expr (λ k. k.0) y))
  step (Expr-F.Column c) = subst Renames (sym (rolls-Column c)) (ap columns (renumbered-Column f c) ∙ columns-Column (f c) ∙ sym (ap (map f) (columns-Column c)))
  step (Expr-F.Const v k) = subst Renames (sym (rolls-Const v k)) (ap columns (renumbered-Const f v k) ∙ columns-Const v k ∙ sym (ap (map f) (columns-Const v k)))
  step (Expr-F.Not a) = subst Renames (sym (rolls-Not a.0)) (one Not a.0 columns-Not (renumbered-Not f a.0) a.1)
  step (Expr-F.Neg a) = subst Renames (sym (rolls-Neg a.0)) (one Neg a.0 columns-Neg (renumbered-Neg f a.0) a.1)
  step (Expr-F.IsNull a) = subst Renames (sym (rolls-IsNull a.0)) (one IsNull a.0 columns-IsNull (renumbered-IsNull f a.0) a.1)
  step (Expr-F.Binary o a b) = subst Renames (sym (rolls-Binary o a.0 b.0)) (ap columns (renumbered-Binary f o a.0 b.0) ∙ columns-Binary o (renumbered f a.0) (renumbered f b.0) ∙ two (columns a.0) (columns b.0) _ _ a.1 b.1 ∙ sym (ap (map f) (columns-Binary o a.0 b.0)))
  step (Expr-F.Case arms other) = subst Renames (sym (rolls-Case (known_arms arms) other.0))
      (ap columns (renumbered-Case f (known_arms arms) other.0) ∙ columns-Case (renumbered_arms f (known_arms arms)) (renumbered f other.0) ∙ two (arm_columns (known_arms arms)) (columns other.0) _ _ (arms_rename arms) other.1 ∙ sym (ap (map f) (columns-Case (known_arms arms) other.0)))
  step (Expr-F.Coalesce parts) = subst Renames (sym (rolls-Coalesce (known parts))) (ap columns (renumbered-Coalesce f (known parts)) ∙ columns-Coalesce (map (renumbered f) (known parts)) ∙ all_rename parts ∙ sym (ap (map f) (columns-Coalesce (known parts))))
  step (Expr-F.Cast a k) = subst Renames (sym (rolls-Cast a.0 k)) (one (λ e. Cast e k) a.0 (λ e. columns-Cast e k) (renumbered-Cast f a.0 k) a.1)
  step (Expr-F.Abs a) = subst Renames (sym (rolls-Abs a.0)) (one Abs a.0 columns-Abs (renumbered-Abs f a.0) a.1)
  step (Expr-F.Length a) = subst Renames (sym (rolls-Length a.0)) (one Length a.0 columns-Length (renumbered-Length f a.0) a.1)

  pub columns_renumbered : (e : Expr) → Renames e
  columns_renumbered = ind-Expr Renames (λ x y is. subst (λ z. Renames (roll-Expr z)) is (step y))

-- ---- numbers

or_parts : (a b : Bool) → a || b ≡ false → (a ≡ false) × (b ≡ false)
or_parts true b h = absurd (false≢true (sym h))
or_parts false b h = (refl, h)

le_false : (w c : ℕ) → nat_le w c ≡ false → c < w
le_false w c h = leb-false w c h

-- without columns of the right input
pub left_alone : (w : ℕ) (cs : List ℕ) → list_any (λ c. nat_le w c) cs ≡ false → are_below w cs ≡ true
left_alone w [] h = refl
left_alone w (c ∷ cs) h = let a = or_parts (nat_le w c) (list_any (λ c. nat_le w c) cs) h in both_true _ _ (lt-ltb c w (le_false w c a.0)) (left_alone w cs a.1)

-- without columns of the left input
pub right_alone : (w u : ℕ) (cs : List ℕ) → list_any (λ c. nat_lt c w) cs ≡ false → are_below (w + u) cs ≡ true → are_below u (map (without_left w) cs) ≡ true
right_alone w u [] h i = refl
right_alone w u (c ∷ cs) h i =
    let a = or_parts (nat_lt c w) (list_any (λ c. nat_lt c w) cs) h in
    let b = and_parts (nat_lt c (w + u)) (are_below (w + u) cs) i in
    let above : w ≤ c = ltb-false c w a.0 in
    let below : c < w + u = ltb-true c (w + u) b.0 in
    both_true _ _ (lt-ltb (c - w) u (omega arith)) (right_alone w u cs a.1 b.1)

-- with more columns between them
pub spread_below : (w u n : ℕ) (cs : List ℕ) → are_below (w + u) cs ≡ true → are_below (w + n + (u + n)) (map (spread w n) cs) ≡ true
spread_below w u n [] h = refl
spread_below w u n (c ∷ cs) h =
    let b = and_parts (nat_lt c (w + u)) (are_below (w + u) cs) h in
    let below : c < w + u = ltb-true c (w + u) b.0 in
    both_true _ _ (go below (nat_lt c w)) (spread_below w u n cs b.1)
  where
    go : c < w + u → (t : Bool) → nat_lt (cond {A = ℕ} t c (c + n)) (w + n + (u + n)) ≡ true
    go below true = lt-ltb c (w + n + (u + n)) (omega arith)
    go below false = lt-ltb (c + n) (w + n + (u + n)) (omega arith)
