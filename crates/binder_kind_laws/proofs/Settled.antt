-- Expressions that have a kind: constants, lone NULLs that are given one, operators, and casts to one kind for several.
use Rattle.std.proofs.Math.Nat.{max-le}
use Rattle.std.specs.Prelude.{max, nat_le, slice_get}
use Rattle.std.proofs.Common.{ℕ, ◌≡◌, ◌+◌, ◌≤◌, refl, ap, ◌∙◌, subst, Bool, true, false, ◌&&◌, Option, Some, Ok, List, arith}
use Rattle.std.proofs.lemmas.Bool.{leb-true, le-leb, and_parts, and_from}
use Rattle.dfx_value.specs.Kinds.{is_kind, is_of}
use Rattle.dfx_value.specs.declared.kind.Kind.{Kind}
use Rattle.dfx_value.specs.declared.kind.Kind.TheVariants as kind
use Rattle.dfx_value.specs.declared.op.Op.{Op}
use Rattle.dfx_value.specs.declared.op.Op.TheVariants as op
use Rattle.dfx_value.specs.declared.value.Value.{Value}
use Rattle.dfx_value.specs.declared.value.Value.TheVariants as value
use Rattle.scalar_exprs.specs.declared.expr.Expr.{Expr}
use Rattle.scalar_exprs.specs.declared.expr.Expr.TheVariants as expr
use Rattle.scalar_exprs.specs.Kinds.{same, one_class, only_if, widest, numeric_kind, binary_kind, when_bool, when_number, length_kind, casts, cast_kind, kind_of, constants_fit}
use Rattle.scalar_exprs.specs.Kinds as opt
use Rattle.scalar_exprs.proofs.KindSteps.{kind_of-Column, kind_of-Const, kind_of-Not, kind_of-Neg, kind_of-IsNull, kind_of-Binary, kind_of-Cast}
use Rattle.scalar_exprs.proofs.ValueKinds.{null_is_of}
use Rattle.typed_exprs.specs.declared.typed.Typed.{Typed}
use Rattle.typed_exprs.specs.declared.typed.Typed.TheVariants as typed
use Rattle.typed_exprs.specs.declared.typed.Unary.{Unary}
use Rattle.typed_exprs.specs.declared.typed.Unary.TheVariants as operator
use Rattle.typed_exprs.specs.declared.refusal.Why.TheVariants as why
use Rattle.typed_exprs.specs.Typed.{Kinded, given, settled, kind_or, or_mismatch, of_kind, unary, alone, mismatch, operator_kind, operated, binary, widened, tested}
use Rattle.kind_laws.proofs.KindedSteps.{fit-Column, fit-Const, fit-Not, fit-Neg, fit-IsNull, fit-Binary, fit-Cast}
use Rattle.binder_laws.proofs.Holding.{Holds, after, where_some}

abbrev pub Real : Kind → Type 0
Real k = is_kind k ≡ true

-- over columns of these kinds the expression has this kind, which is one, and its constants fit
pub record HasKind (ks : List Kind) (e : Expr) (k : Kind) : Type 0 where
  pub kind : kind_of ks e ≡ Some k
  pub fits : constants_fit e ≡ true
  pub real : Real k

-- a lone NULL has no kind yet
abbrev pub Typing : List Kind → Typed → Type 0
Typing ks typed.Null = Unit {0}
Typing ks (typed.Of e k) = HasKind ks e k

-- ---- kinds

pub scale_at_most : (p s : ℕ) → Real (kind.Dec p s) → s ≤ 38
scale_at_most p s h =
    let b = and_parts (nat_le 1 p && nat_le p 38) (nat_le s p) h in
    let x : p ≤ 38 = leb-true p 38 (and_parts (nat_le 1 p) (nat_le p 38) b.0).1 in
    let y : s ≤ p = leb-true s p b.1 in
    omega arith

pub widest_real : (s : ℕ) → s ≤ 38 → Real (widest s)
widest_real s h = le-leb s 38 h

pub only_if_is : (b : Bool) (j k : Kind) → only_if b j ≡ Some k → (b ≡ true) × (j ≡ k)
only_if_is true j k e = (refl, cc)
only_if_is false j k e = cc

max_real : (s t : ℕ) (k : Kind) → s ≤ 38 → t ≤ 38 → Some (widest (max s t)) ≡ Some k → Real k
max_real s t k h i e = let q : widest (max s t) ≡ k = cc in subst Real q (widest_real (max s t) (max-le h i))

-- the greater scale of two kinds of numbers
pub widened_real : (j k m : Kind) → Real j → Real k → widened j k ≡ Some m → Real m
widened_real kind.Int kind.Int m h i e = let q : kind.Int ≡ m = cc in subst Real q refl
widened_real kind.Int (kind.Dec p s) m h i e = max_real 0 s m (omega arith) (scale_at_most p s i) e
widened_real (kind.Dec p s) kind.Int m h i e = max_real s 0 m (scale_at_most p s h) (omega arith) e
widened_real (kind.Dec p s) (kind.Dec q t) m h i e = max_real s t m (scale_at_most p s h) (scale_at_most q t i) e
widened_real _ _ m h i e = cc

product_real : (s t : ℕ) (m : Kind) → only_if (nat_le (s + t) 38) (widest (s + t)) ≡ Some m → Real m
product_real s t m e = let b = only_if_is (nat_le (s + t) 38) (widest (s + t)) m e in subst Real b.1 b.0

product_kind_real : (j k m : Kind) → opt.product_kind j k ≡ Some m → Real m
product_kind_real kind.Int kind.Int m e = let q : kind.Int ≡ m = cc in subst Real q refl
product_kind_real kind.Int (kind.Dec p s) m e = product_real 0 s m e
product_kind_real (kind.Dec p s) kind.Int m e = product_real s 0 m e
product_kind_real (kind.Dec p s) (kind.Dec q t) m e = product_real s t m e
product_kind_real _ _ m e = cc

ratio_real : (j k m : Kind) → opt.ratio_kind j k ≡ Some m → Real m
ratio_real kind.Int kind.Int m e = let q : kind.Int ≡ m = cc in subst Real q refl
ratio_real _ _ m e = cc

text_real : (j k m : Kind) → opt.text_kind j k ≡ Some m → Real m
text_real kind.Text kind.Text m e = let q : kind.Text ≡ m = cc in subst Real q refl
text_real _ _ m e = cc

truth_real : (j k m : Kind) → opt.truth_kind j k ≡ Some m → Real m
truth_real kind.Bool kind.Bool m e = let q : kind.Bool ≡ m = cc in subst Real q refl
truth_real _ _ m e = cc

compared_real : (j k m : Kind) → opt.compared_kind j k ≡ Some m → Real m
compared_real j k m e = subst Real (only_if_is (one_class j k) kind.Bool m e).1 refl

binary_real : (o : Op) (j k m : Kind) → Real j → Real k → binary_kind o j k ≡ Some m → Real m
binary_real op.Add j k m h i e = widened_real j k m h i e
binary_real op.Sub j k m h i e = widened_real j k m h i e
binary_real op.Mul j k m h i e = product_kind_real j k m e
binary_real op.Div j k m h i e = ratio_real j k m e
binary_real op.Rem j k m h i e = ratio_real j k m e
binary_real op.Concat j k m h i e = text_real j k m e
binary_real op.Eq j k m h i e = compared_real j k m e
binary_real op.Ne j k m h i e = compared_real j k m e
binary_real op.Lt j k m h i e = compared_real j k m e
binary_real op.Le j k m h i e = compared_real j k m e
binary_real op.Gt j k m h i e = compared_real j k m e
binary_real op.Ge j k m h i e = compared_real j k m e
binary_real op.And j k m h i e = truth_real j k m e
binary_real op.Or j k m h i e = truth_real j k m e

pub bool_real : (j m : Kind) → Real j → when_bool j ≡ Some m → Real m
bool_real kind.Bool m h e = let q : kind.Bool ≡ m = cc in subst Real q refl
bool_real _ m h e = cc

pub number_real : (j m : Kind) → Real j → when_number j ≡ Some m → Real m
number_real kind.Int m h e = let q : kind.Int ≡ m = cc in subst Real q refl
number_real (kind.Dec p s) m h e = let q : kind.Dec p s ≡ m = cc in subst Real q h
number_real _ m h e = cc

pub length_real : (j m : Kind) → Real j → length_kind j ≡ Some m → Real m
length_real kind.Text m h e = let q : kind.Int ≡ m = cc in subst Real q refl
length_real _ m h e = cc

-- ---- constants and columns

pub const_kind : (ks : List Kind) (v : Value) (k : Kind) → Real k → is_of k v ≡ true → HasKind ks (expr.Const v k) k
const_kind ks v k h i = record { kind = kind_of-Const ks v k; fits = fit-Const v k ∙ and_from (is_kind k) (is_of k v) h i; real = h }

pub column_has : (ks : List Kind) (c : ℕ) (k : Kind) → slice_get ks c ≡ Some k → Real k → HasKind ks (expr.Column c) k
column_has ks c k e h = record { kind = kind_of-Column ks c ∙ e; fits = fit-Column c; real = h }

module _ (ks : List Kind) where
  -- ---- lone NULLs

  pub given_kind : (k : Kind) (t : Typed) → Real k → Typing ks t → HasKind ks (given k t).0 (given k t).1
  given_kind k typed.Null r h = const_kind ks value.Null k r (null_is_of k)
  given_kind k (typed.Of e j) r h = h

  pub settled_kind : (t : Typed) → Typing ks t → HasKind ks (settled t).0 (settled t).1
  settled_kind t h = given_kind kind.Text t refl h

  or_real : (k : Kind) (t : Typed) → Real k → Typing ks t → Real (kind_or k t)
  or_real k typed.Null r h = r
  or_real k (typed.Of e j) r h = h.real

  -- ---- operators of one operand

  -- an expression made of one has the kind that its operand's gives
  pub record Makes (make : Expr → Expr) (to : Kind → Option Kind) : Type 0 where
    pub kind : (e : Expr) → kind_of ks (make e) ≡ opt.◌>>=◌ (kind_of ks e) to
    pub fits : (e : Expr) → constants_fit (make e) ≡ constants_fit e
    pub real : (j m : Kind) → Real j → to j ≡ Some m → Real m

  pub made_kind : (make : Expr → Expr) (to : Kind → Option Kind) → Makes make to → (e : Expr) (j m : Kind) → HasKind ks e j → to j ≡ Some m → HasKind ks (make e) m
  made_kind make to h e j m i q = record {
    kind = h.kind e ∙ ap (λ (o : Option Kind). opt.◌>>=◌ o to) i.kind ∙ q;
    fits = h.fits e ∙ i.fits;
    real = h.real j m i.real q;
  }

  pub of_kind_has : (place : ℕ) (make : Expr → Expr) (to : Kind → Option Kind) → Makes make to → (t : Typed) → Typing ks t → Holds (Typing ks) (of_kind place make to (settled t))
  of_kind_has place make to h t i =
      after (λ m. to (settled t).1 ≡ Some m) (Typing ks) (or_mismatch place (to (settled t).1)) (λ k. Ok (typed.Of (make (settled t).0) k))
      (where_some (λ m. to (settled t).1 ≡ Some m) why.KindMismatch place (to (settled t).1) (λ m q. q))
      (λ m q. made_kind make to h (settled t).0 (settled t).1 m (settled_kind t i) q)

  null_real : (j m : Kind) → Real j → Some kind.Bool ≡ Some m → Real m
  null_real j m h e = let q : kind.Bool ≡ m = cc in subst Real q refl

  cast_real : (to j m : Kind) → Real j → cast_kind to j ≡ Some m → Real m
  cast_real to j m h e = let b = only_if_is (is_kind to && casts j to) to m e in subst Real b.1 (and_parts (is_kind to) (casts j to) b.0).0

  pub cast_makes : (to : Kind) → Makes (λ e. expr.Cast e to) (cast_kind to)
  cast_makes to = record { kind = λ e. kind_of-Cast ks e to; fits = λ e. fit-Cast e to; real = cast_real to }

  pub unary_has : (place : ℕ) (o : Unary) (t : Typed) → Typing ks t → Holds (Typing ks) (unary place o t)
  unary_has place operator.Not t h = of_kind_has place expr.Not when_bool (record { kind = kind_of-Not ks; fits = fit-Not; real = bool_real }) t h
  unary_has place operator.Neg t h = of_kind_has place expr.Neg when_number (record { kind = kind_of-Neg ks; fits = fit-Neg; real = number_real }) t h
  unary_has place operator.IsNull t h = made_kind expr.IsNull (λ j. Some kind.Bool) (record { kind = kind_of-IsNull ks; fits = fit-IsNull; real = null_real }) (settled t).0 (settled t).1 kind.Bool (settled_kind t h) refl
  unary_has place (operator.Cast to) t h =
      after (λ m. cast_kind to (settled t).1 ≡ Some m) (Typing ks) (or_mismatch place (cast_kind to (settled t).1)) (λ k. Ok (typed.Of (expr.Cast (settled t).0 to) k))
      (where_some (λ m. cast_kind to (settled t).1 ≡ Some m) why.KindMismatch place (cast_kind to (settled t).1) (λ m q. q))
      (λ m q. made_kind (λ e. expr.Cast e to) (cast_kind to) (cast_makes to) (settled t).0 (settled t).1 m (settled_kind t h) q)

  -- ---- operators of two operands

  alone_real : (o : Op) → Real (alone o)
  alone_real op.Add = refl
  alone_real op.Sub = refl
  alone_real op.Mul = refl
  alone_real op.Div = refl
  alone_real op.Rem = refl
  alone_real op.Concat = refl
  alone_real op.Eq = refl
  alone_real op.Ne = refl
  alone_real op.Lt = refl
  alone_real op.Le = refl
  alone_real op.Gt = refl
  alone_real op.Ge = refl
  alone_real op.And = refl
  alone_real op.Or = refl

  operands : (o : Op) (a b : Expr) (j k m : Kind) → kind_of ks a ≡ Some j → kind_of ks b ≡ Some k → binary_kind o j k ≡ Some m → kind_of ks (expr.Binary o a b) ≡ Some m
  operands o a b j k m h i q =
      kind_of-Binary ks o a b
      ∙ ap (λ (z : Option Kind). opt.◌>>=◌ z (λ j. opt.◌>>=◌ (kind_of ks b) (λ k. binary_kind o j k))) h
      ∙ ap (λ (z : Option Kind). opt.◌>>=◌ z (λ k. binary_kind o j k)) i ∙ q

  pub both_kind : (o : Op) (a b : Expr) (j k m : Kind) → HasKind ks a j → HasKind ks b k → binary_kind o j k ≡ Some m → HasKind ks (expr.Binary o a b) m
  both_kind o a b j k m h i q = record {
    kind = operands o a b j k m h.kind i.kind q;
    fits = fit-Binary o a b ∙ and_from (constants_fit a) (constants_fit b) h.fits i.fits;
    real = binary_real o j k m h.real i.real q;
  }

  operated_has : (place : ℕ) (o : Op) (a b : Kinded) → HasKind ks a.0 a.1 → HasKind ks b.0 b.1 → Holds (Typing ks) (operated place o a b)
  operated_has place o a b h i =
      after (λ m. binary_kind o a.1 b.1 ≡ Some m) (Typing ks) (operator_kind place o a.1 b.1) (λ k. Ok (typed.Of (expr.Binary o a.0 b.0) k))
      (where_some (λ m. binary_kind o a.1 b.1 ≡ Some m) (mismatch o a.1 b.1) place (binary_kind o a.1 b.1) (λ m q. q))
      (λ m q. both_kind o a.0 b.0 a.1 b.1 m h i q)

  pub binary_has : (place : ℕ) (o : Op) (a b : Typed) → Typing ks a → Typing ks b → Holds (Typing ks) (binary place o a b)
  binary_has place o a b h i =
      operated_has place o (given (kind_or (alone o) b) a) (given (kind_or (alone o) a) b)
      (given_kind (kind_or (alone o) b) a (or_real (alone o) b (alone_real o) i) h)
      (given_kind (kind_or (alone o) a) b (or_real (alone o) a (alone_real o) h) i)

  -- ---- tests

  -- the expression is a truth
  abbrev pub IsTruth : Expr → Type 0
  IsTruth e = HasKind ks e kind.Bool

  the_truth : (j m : Kind) → when_bool j ≡ Some m → j ≡ kind.Bool
  the_truth kind.Bool m e = refl
  the_truth _ m e = cc

  pub tested_truth : (place : ℕ) (t : Typed) → Typing ks t → Holds IsTruth (tested place t)
  tested_truth place t h =
      after (λ m. when_bool (settled t).1 ≡ Some m) IsTruth (or_mismatch place (when_bool (settled t).1)) (λ k. Ok (settled t).0)
      (where_some (λ m. when_bool (settled t).1 ≡ Some m) why.KindMismatch place (when_bool (settled t).1) (λ m q. q))
      (λ m q. subst (HasKind ks (settled t).0) (the_truth (settled t).1 m q) (settled_kind t h))
