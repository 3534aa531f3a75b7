-- The join of two bodies whose columns are in range.
use Rattle.std.proofs.Common.{ℕ, zero, suc, ◌≡◌, ◌+◌, ◌≤◌, refl, ap, ◌∙◌, subst, Bool, true, false, Option, Some, None, List, [], ◌∷◌, ◌++◌, length, length-append, arith}
use Rattle.std.specs.Prelude.{option_map, not}
use Rattle.std.proofs.lemmas.Bool.{lt-ltb, false≢true}
use Rattle.std.proofs.lemmas.List.{length-map}
use Rattle.dfx_value.specs.declared.op.JoinKind.{JoinKind}
use Rattle.scalar_exprs.specs.declared.expr.Expr.{Expr}
use Rattle.logical_plan.specs.declared.plan.Logical.{Logical}
use Rattle.logical_plan.specs.declared.plan.Logical.TheVariants.{Join}
use Rattle.physical_plan.specs.Properties.{left_keys, right_keys}
use Rattle.physical_plan.proofs.Everywhere.{both_true, and_parts}
use Rattle.join_lowering.specs.declared.lower.Side.{Side}
use Rattle.join_lowering.specs.Keys.{conjuncts, columns, keys, residual, uses_left, uses_right}
use Rattle.join_lowering.specs.Lowering.{renumbered, without_left, spread, plain_keys, columns_from, keys_from, left_exprs, right_exprs, extended, join_extended, on_appended, on_keys, where_keyed, lowered}
use Rattle.planned_laws.specs.Ranges.{are_below, expr_columns, rest_columns}
use Rattle.planned_laws.proofs.Below.{below_append, below_split}
use Rattle.join_lowering.proofs.Nodes.{columns-Column}
use Rattle.planned_laws.specs.Queries.{body_width, body_in_range}
use Rattle.planned_laws.proofs.BodyNodes.{width-Project, width-Join, holds-Project, holds-Join}
use Rattle.binder_laws.proofs.Holding.{Every}
use Rattle.binder_laws.proofs.Readings.{Reads}
use Rattle.binder_laws.proofs.Parts.{IsKey, parts_read, keys_are, residual_reads, plain_keys_below}
use Rattle.binder_laws.proofs.Renumbered.{columns_renumbered, left_alone, right_alone, spread_below}

-- a body of a width whose columns are in range
abbrev pub Stands : ℕ → Logical → Type 0
Stands w body = (body_in_range body ≡ true) × (body_width body ≡ w)

-- ---- keys that are appended

columns_length : (c n : ℕ) → length (columns_from c n) ≡ n
unfolding columns_from
columns_length c zero = refl
columns_length c (suc n) = ap suc (columns_length (c + 1) n)

appended_left : (a b n w : ℕ) → a + n ≤ w → are_below w (left_keys (keys_from a b n)) ≡ true
appended_left a b zero w h = refl
appended_left a b (suc n) w h = both_true _ _ (lt-ltb a w (omega arith)) (appended_left (a + 1) (b + 1) n w (omega arith))

appended_right : (a b n w : ℕ) → b + n ≤ w → are_below w (right_keys (keys_from a b n)) ≡ true
appended_right a b zero w h = refl
appended_right a b (suc n) w h = both_true _ _ (lt-ltb b w (omega arith)) (appended_right (a + 1) (b + 1) n w (omega arith))

from_below : (c n w : ℕ) → c + n ≤ w → are_below w (expr_columns (columns_from c n)) ≡ true
unfolding columns_from
from_below c zero w h = refl
from_below c (suc n) w h = ap (λ (cs : List ℕ). are_below w (cs ++ expr_columns (columns_from (c + 1) n))) (columns-Column c) ∙ both_true _ _ (lt-ltb c w (omega arith)) (from_below (c + 1) n w (omega arith))

pub exprs_append : (w : ℕ) (xs ys : List Expr) → are_below w (expr_columns xs) ≡ true → are_below w (expr_columns ys) ≡ true → are_below w (expr_columns (xs ++ ys)) ≡ true
exprs_append w [] ys h i = i
exprs_append w (x ∷ xs) ys h i = let a = below_split w (columns x) (expr_columns xs) h in below_append w (columns x) (expr_columns (xs ++ ys)) a.0 (exprs_append w xs ys a.1 i)

extended_stands : (side : Side) (exprs : List Expr) (n : ℕ) → length exprs ≡ n → are_below side.width (expr_columns exprs) ≡ true → Stands side.width side.body → Stands (side.width + n) (extended side exprs)
extended_stands side exprs n e r h = (
  holds-Project side.body (columns_from 0 side.width ++ exprs)
      (ap (λ (x : ℕ). are_below x (expr_columns (columns_from 0 side.width ++ exprs))) h.1 ∙ exprs_append side.width (columns_from 0 side.width) exprs (from_below 0 side.width side.width (omega arith)) r) h.0,
  width-Project side.body (columns_from 0 side.width ++ exprs) ∙ length-append (columns_from 0 side.width) exprs ∙ ap (λ (x : ℕ). x + length exprs) (columns_length 0 side.width) ∙ ap (λ (x : ℕ). side.width + x) e,
)

join_stands : (kind : JoinKind) (left right : Logical) (w v : ℕ) (ks : List (ℕ × ℕ)) (rest : Option Expr) → Stands w left → Stands v right → are_below w (left_keys ks) ≡ true → are_below v (right_keys ks) ≡ true → are_below (w + v) (rest_columns rest) ≡ true → Stands (w + v) (Join kind left right ks rest)
join_stands kind left right w v ks rest h i l r t = (
  holds-Join kind left right ks rest (ap (λ (x : ℕ). are_below x (left_keys ks)) h.1 ∙ l) (ap (λ (x : ℕ). are_below x (right_keys ks)) i.1 ∙ r)
      (ap (λ (x : ℕ). are_below (x + body_width right) (rest_columns rest)) h.1 ∙ ap (λ (x : ℕ). are_below (w + x) (rest_columns rest)) i.1 ∙ t) h.0 i.0,
  width-Join kind left right ks rest ∙ ap (λ (x : ℕ). x + body_width right) h.1 ∙ ap (λ (x : ℕ). w + x) i.1,
)

not_true : (b : Bool) → not b ≡ true → b ≡ false
not_true false h = refl
not_true true h = absurd (false≢true h)

left_read : (w v : ℕ) (ks : List (Expr × Expr)) → Every (IsKey w v) ks → are_below w (expr_columns (left_exprs ks)) ≡ true
left_read w v [] h = refl
left_read w v (k ∷ ks) h =
    let a = and_parts (uses_left w (columns k.0)) (not (uses_right w (columns k.0))) h.0.left in
    below_append w (columns k.0) (expr_columns (left_exprs ks)) (left_alone w (columns k.0) (not_true (uses_right w (columns k.0)) a.1)) (left_read w v ks h.1)

right_read : (w u : ℕ) (ks : List (Expr × Expr)) → Every (IsKey w (w + u)) ks → are_below u (expr_columns (right_exprs w ks)) ≡ true
right_read w u [] h = refl
right_read w u (k ∷ ks) h =
    let a = and_parts (uses_right w (columns k.1)) (not (uses_left w (columns k.1))) h.0.right in
    below_append u (columns (renumbered (without_left w) k.1)) (expr_columns (right_exprs w ks))
    (ap (are_below u) (columns_renumbered (without_left w) k.1) ∙ right_alone w u (columns k.1) (not_true (uses_left w (columns k.1)) a.1) h.0.below) (right_read w u ks h.1)

rest_spread : (w u n : ℕ) (rest : Option Expr) → are_below (w + u) (rest_columns rest) ≡ true → are_below (w + n + (u + n)) (rest_columns (option_map (renumbered (spread w n)) rest)) ≡ true
rest_spread w u n None h = refl
rest_spread w u n (Some e) h = ap (are_below (w + n + (u + n))) (columns_renumbered (spread w n) e) ∙ spread_below w u n (columns e) h

module _ (kind : JoinKind) (left right : Side) (hl : Stands left.width left.body) (hr : Stands right.width right.body) where
  abbrev all : ℕ
  all = left.width + right.width

  joined_stands : (ks : List (Expr × Expr)) → Every (IsKey left.width all) ks → (rest : Option Expr) → are_below all (rest_columns rest) ≡ true → Stands (left.width + length ks + (right.width + length ks)) (join_extended kind left right ks (length ks) rest)
  joined_stands ks h rest r = join_stands kind (extended left (left_exprs ks)) (extended right (right_exprs left.width ks)) (left.width + length ks) (right.width + length ks) (keys_from left.width right.width (length ks)) (option_map (renumbered (spread left.width (length ks))) rest)
      (extended_stands left (left_exprs ks) (length ks) (length-map ks _) (left_read left.width all ks h) hl)
      (extended_stands right (right_exprs left.width ks) (length ks) (length-map ks _) (right_read left.width right.width ks h) hr)
      (appended_left left.width right.width (length ks) (left.width + length ks) (omega arith))
      (appended_right left.width right.width (length ks) (right.width + length ks) (omega arith))
      (rest_spread left.width right.width (length ks) rest r)

  appended_stands : (ks : List (Expr × Expr)) → Every (IsKey left.width all) ks → (rest : Option Expr) → are_below all (rest_columns rest) ≡ true → Stands all (on_appended kind left right ks (length ks) rest)
  unfolding on_appended
  appended_stands ks h rest r = let joined = joined_stands ks h rest r in (
    holds-Project _ (columns_from 0 left.width ++ columns_from (left.width + length ks) right.width)
        (ap (λ (x : ℕ). are_below x (expr_columns (columns_from 0 left.width ++ columns_from (left.width + length ks) right.width))) joined.1
        ∙ exprs_append (left.width + length ks + (right.width + length ks)) (columns_from 0 left.width) (columns_from (left.width + length ks) right.width)
        (from_below 0 left.width (left.width + length ks + (right.width + length ks)) (omega arith))
        (from_below (left.width + length ks) right.width (left.width + length ks + (right.width + length ks)) (omega arith))) joined.0,
    width-Project _ (columns_from 0 left.width ++ columns_from (left.width + length ks) right.width)
        ∙ length-append (columns_from 0 left.width) (columns_from (left.width + length ks) right.width)
        ∙ ap (λ (x : ℕ). x + length (columns_from (left.width + length ks) right.width)) (columns_length 0 left.width)
        ∙ ap (λ (x : ℕ). left.width + x) (columns_length (left.width + length ks) right.width),
  )

  keyed_stands : (ks : List (Expr × Expr)) → Every (IsKey left.width all) ks → (rest : Option Expr) → are_below all (rest_columns rest) ≡ true → (o : Option (List (ℕ × ℕ))) → plain_keys left.width ks ≡ o → Stands all (on_keys kind left right ks o rest)
  keyed_stands ks h rest r (Some plain) e = let b = plain_keys_below left.width right.width ks h plain e in join_stands kind left.body right.body left.width right.width plain rest hl hr b.0 b.1 r
  keyed_stands ks h rest r None e = appended_stands ks h rest r

  where_stands : (ks : List (Expr × Expr)) → Every (IsKey left.width all) ks → (rest : Option Expr) → are_below all (rest_columns rest) ≡ true → (body : Logical) → where_keyed kind left right ks rest ≡ Some body → Stands all body
  unfolding where_keyed
  where_stands [] h rest r body e = cc
  where_stands (key ∷ more) h rest r body e = let q : on_keys kind left right (key ∷ more) (plain_keys left.width (key ∷ more)) rest ≡ body = cc in
      subst (Stands all) q (keyed_stands (key ∷ more) h rest r (plain_keys left.width (key ∷ more)) refl)

  -- where the test's columns are those of both sides
  pub lowered_stands : (on : Expr) → Reads (left.width + right.width) on → (body : Logical) → lowered kind left right on ≡ Some body → Stands (left.width + right.width) body
  lowered_stands on h body e =
      where_stands (keys left.width (conjuncts on)) (keys_are left.width (left.width + right.width) (conjuncts on) (parts_read (left.width + right.width) on h)) (residual left.width on) (residual_reads left.width (left.width + right.width) on h) body e
