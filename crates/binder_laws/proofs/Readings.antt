-- The columns of expressions, below a number.
use Rattle.std.proofs.Common.{ℕ, ◌≡◌, refl, ap, ◌∙◌, cond, Bool, true, false, Option, List, [], ◌∷◌, ◌++◌, map, Ok}
use Rattle.dfx_value.specs.declared.kind.Kind.{Kind}
use Rattle.dfx_value.specs.declared.kind.Kind.TheVariants as kind
use Rattle.dfx_value.specs.declared.op.Op.{Op}
use Rattle.dfx_value.specs.declared.value.Value.{Value}
use Rattle.dfx_value.specs.declared.value.Value.TheVariants as value
use Rattle.scalar_exprs.specs.declared.expr.Expr.{Expr}
use Rattle.scalar_exprs.specs.declared.expr.Expr.TheVariants as expr
use Rattle.scalar_exprs.specs.Kinds.{same, when_bool, when_number, cast_kind}
use Rattle.typed_exprs.specs.declared.case.Arm.{Arm}
use Rattle.typed_exprs.specs.declared.typed.Typed.{Typed}
use Rattle.typed_exprs.specs.declared.typed.Typed.TheVariants as typed
use Rattle.typed_exprs.specs.declared.typed.Unary.{Unary}
use Rattle.typed_exprs.specs.declared.typed.Unary.TheVariants as operator
use Rattle.typed_exprs.specs.Answer.{◌>>=◌}
use Rattle.typed_exprs.specs.Case.{tests, results, arm_as, chosen}
use Rattle.typed_exprs.specs.Typed.{Kinded, given, settled, kind_or, or_mismatch, of_kind, unary, alone, operator_kind, binary, common, as_kind, coalesced, tested}
use Rattle.join_lowering.specs.Keys.{columns}
use Rattle.join_lowering.specs.SidesUsed.{arm_columns, all_columns}
use Rattle.join_lowering.proofs.Nodes.{columns-Column, columns-Const, columns-Not, columns-Neg, columns-IsNull, columns-Binary, columns-Case, columns-Coalesce, columns-Cast}
use Rattle.planned_laws.specs.Ranges.{are_below}
use Rattle.planned_laws.proofs.Below.{below_append}
use Rattle.binder_laws.proofs.Holding.{Holds, whatever, Every}

module _ (w : ℕ) where
  abbrev pub Reads : Expr → Type 0
  Reads e = are_below w (columns e) ≡ true

  abbrev pub Typing : Typed → Type 0
  Typing typed.Null = Unit {0}
  Typing (typed.Of e k) = Reads e

  pub const_reads : (v : Value) (k : Kind) → Reads (expr.Const v k)
  const_reads v k = ap (are_below w) (columns-Const v k)

  -- ---- lone NULLs and casts

  pub given_reads : (k : Kind) (t : Typed) → Typing t → Reads (given k t).0
  given_reads k typed.Null h = const_reads value.Null k
  given_reads k (typed.Of e j) h = h

  pub as_kind_reads : (k : Kind) (t : Typed) → Typing t → Reads (as_kind k t)
  as_kind_reads k typed.Null h = const_reads value.Null k
  as_kind_reads k (typed.Of e j) h = go (same j k)
    where
      go : (b : Bool) → Reads (cond {A = Expr} b e (expr.Cast e k))
      go true = h
      go false = ap (are_below w) (columns-Cast e k) ∙ h

  -- ---- operators

  pub of_kind_reads : (place : ℕ) (make : Expr → Expr) (kind_of : Kind → Option Kind) (k : Kinded) → ((e : Expr) → columns (make e) ≡ columns e) → Reads k.0 → Holds Typing (of_kind place make kind_of k)
  of_kind_reads place make kind_of k same_columns h = whatever Typing (or_mismatch place (kind_of k.1)) (λ j. Ok (typed.Of (make k.0) j)) (λ j. ap (are_below w) (same_columns k.0) ∙ h)

  pub unary_reads : (place : ℕ) (o : Unary) (t : Typed) → Typing t → Holds Typing (unary place o t)
  unary_reads place operator.Not t h = of_kind_reads place expr.Not when_bool (settled t) columns-Not (given_reads kind.Text t h)
  unary_reads place operator.Neg t h = of_kind_reads place expr.Neg when_number (settled t) columns-Neg (given_reads kind.Text t h)
  unary_reads place operator.IsNull t h = ap (are_below w) (columns-IsNull (settled t).0) ∙ given_reads kind.Text t h
  unary_reads place (operator.Cast to) t h =
      whatever Typing (or_mismatch place (cast_kind to (settled t).1)) (λ k. Ok (typed.Of (expr.Cast (settled t).0 to) k))
      (λ k. ap (are_below w) (columns-Cast (settled t).0 to) ∙ given_reads kind.Text t h)

  pub binary_reads : (place : ℕ) (o : Op) (a b : Typed) → Typing a → Typing b → Holds Typing (binary place o a b)
  binary_reads place o a b h i =
      whatever Typing (operator_kind place o (given (kind_or (alone o) b) a).1 (given (kind_or (alone o) a) b).1) (λ k. Ok (typed.Of (expr.Binary o (given (kind_or (alone o) b) a).0 (given (kind_or (alone o) a) b).0) k))
      (λ k. ap (are_below w) (columns-Binary o (given (kind_or (alone o) b) a).0 (given (kind_or (alone o) a) b).0) ∙ below_append w _ _ (given_reads (kind_or (alone o) b) a h) (given_reads (kind_or (alone o) a) b i))

  -- ---- COALESCE and CASE

  parts_read : (k : Kind) (ts : List Typed) → Every Typing ts → are_below w (all_columns (map (as_kind k) ts)) ≡ true
  unfolding all_columns
  parts_read k [] h = refl
  parts_read k (t ∷ ts) h = below_append w (columns (as_kind k t)) _ (as_kind_reads k t h.0) (parts_read k ts h.1)

  pub coalesced_reads : (place : ℕ) (ts : List Typed) → Every Typing ts → Holds Typing (coalesced place ts)
  coalesced_reads place [] h = tt
  coalesced_reads place (t ∷ ts) h =
      whatever Typing (or_mismatch place (common (t ∷ ts))) (λ k. Ok (typed.Of (expr.Coalesce (map (as_kind k) (t ∷ ts))) k))
      (λ k. ap (are_below w) (columns-Coalesce (map (as_kind k) (t ∷ ts))) ∙ parts_read k (t ∷ ts) h)

  abbrev pub ArmReads : Arm → Type 0
  ArmReads arm = Typing arm.test × Typing arm.result

  arms_read : (k : Kind) (arms : List Arm) → Every ArmReads arms → are_below w (arm_columns (map (arm_as k) arms)) ≡ true
  unfolding arm_columns
  arms_read k [] h = refl
  arms_read k (arm ∷ arms) h =
      below_append w (columns (settled arm.test).0 ++ columns (as_kind k arm.result)) _
      (below_append w (columns (settled arm.test).0) (columns (as_kind k arm.result)) (given_reads kind.Text arm.test h.0.0) (as_kind_reads k arm.result h.0.1))
      (arms_read k arms h.1)

  pub chosen_reads : (place : ℕ) (arms : List Arm) (other : Typed) → Every ArmReads arms → Typing other → Holds Typing (chosen place arms other)
  chosen_reads place arms other h i =
      whatever Typing (tests arms) (λ u. or_mismatch place (common (results arms other)) >>= λ k. Ok (typed.Of (expr.Case (map (arm_as k) arms) (as_kind k other)) k))
      (λ u. whatever Typing (or_mismatch place (common (results arms other))) (λ k. Ok (typed.Of (expr.Case (map (arm_as k) arms) (as_kind k other)) k))
      (λ k. ap (are_below w) (columns-Case (map (arm_as k) arms) (as_kind k other)) ∙ below_append w (arm_columns (map (arm_as k) arms)) (columns (as_kind k other)) (arms_read k arms h) (as_kind_reads k other i)))

  pub tested_reads : (place : ℕ) (t : Typed) → Typing t → Holds Reads (tested place t)
  tested_reads place t h = whatever Reads (or_mismatch place (when_bool (settled t).1)) (λ k. Ok (settled t).0) (λ k. given_reads kind.Text t h)

  pub column_reads : (k : ℕ) → are_below w (k ∷ []) ≡ true → Reads (expr.Column k)
  column_reads k h = ap (are_below w) (columns-Column k) ∙ h
