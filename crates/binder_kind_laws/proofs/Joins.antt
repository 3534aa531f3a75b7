-- The join of two well-kinded bodies on a test that is a truth.
use Rattle.std.specs.Prelude.{slice_get, option_map, is_some, is_none, nat_lt, nat_le, not}
use Rattle.std.specs.List.{list_all, list_any, cons_option}
use Rattle.std.proofs.Common.{ℕ, zero, suc, ◌≡◌, ◌+◌, ◌-◌, ◌<◌, ◌≤◌, refl, sym, ap, ◌∙◌, subst, cond, Bool, true, false, ◌&&◌, ◌||◌, Option, Some, None, List, [], ◌∷◌, ◌++◌, map, length, length-append, arith}
use Rattle.std.proofs.lemmas.Bool.{and_parts, and_from, ltb-true, ltb-false, leb-true, false≢true}
use Rattle.std.proofs.lemmas.List.{append_assoc, append-nil, length-map}
use Rattle.dfx_value.specs.declared.kind.Kind.{Kind}
use Rattle.dfx_value.specs.declared.kind.Kind.TheVariants as kind
use Rattle.dfx_value.specs.declared.op.JoinKind.{JoinKind}
use Rattle.dfx_value.specs.declared.op.Op.{Op}
use Rattle.dfx_value.specs.declared.op.Op.TheVariants as op
use Rattle.scalar_exprs.specs.declared.expr.Expr.{Expr}
use Rattle.scalar_exprs.specs.declared.expr.Expr.TheOpen.{Expr-F}
use Rattle.scalar_exprs.specs.declared.expr.Expr.TheViews.{out-Expr, roll-Expr, roll-out-Expr}
use Rattle.scalar_exprs.specs.declared.expr.Expr.TheFolds.{map-Expr, ind-Expr}
use Rattle.scalar_exprs.specs.declared.expr.Expr.TheVariants.{Column, Const, Not, Neg, IsNull, Binary, Cast, Abs, Length, rolls-Column, rolls-Const, rolls-Not, rolls-Neg, rolls-IsNull, rolls-Binary, rolls-Case, rolls-Coalesce, rolls-Cast, rolls-Abs, rolls-Length}
use Rattle.scalar_exprs.specs.Kinds.{one_class, only_if, kind_of, binary_kind, truth_kind, constants_fit}
use Rattle.scalar_exprs.specs.Kinds as opt
use Rattle.scalar_exprs.proofs.KindSteps.{kind_of-Column, kind_of-Binary}
use Rattle.logical_plan.specs.declared.plan.Logical.{Logical}
use Rattle.logical_plan.specs.declared.plan.Logical.TheVariants.{Project, Join}
use Rattle.logical_plan.specs.Body.{kinds, kind_or_text, item_kinds}
use Rattle.logical_plan.proofs.KindSteps.{kinds-Project, kinds-Join}
use Rattle.kind_laws.specs.Kinded.{has_kind, is_truth, is_rest, are_comparable, keys_compare, is_well_kinded}
use Rattle.kind_laws.proofs.KindedSteps.{kinded-Project, kinded-Join, fit-Column, fit-Binary}
use Rattle.join_lowering.specs.declared.lower.Side.{Side}
use Rattle.join_lowering.specs.Keys.{split_at, conjuncts, columns, is_left, is_right, uses_left, uses_right, oriented, equated, key_of, keys, others, conjoined, residual}
use Rattle.join_lowering.specs.Lowering.{renumbered, without_left, spread, node_column, column_of, plain_key, cons_both, plain_keys, columns_from, keys_from, left_exprs, right_exprs, extended, join_extended, on_appended, on_keys, where_keyed, lowered}
use Rattle.join_lowering.proofs.Nodes.{columns-Column, conjuncts-Column, conjuncts-Const, conjuncts-Not, conjuncts-Neg, conjuncts-IsNull, conjuncts-Binary, conjuncts-Case, conjuncts-Coalesce, conjuncts-Cast, conjuncts-Abs, conjuncts-Length}
use Rattle.planned_laws.specs.Ranges.{are_below, rest_columns}
use Rattle.binder_laws.proofs.Holding.{Every, every_append}
use Rattle.binder_laws.proofs.Readings.{Reads}
use Rattle.binder_laws.proofs.Parts.{IsKey, parts_read, keys_are, residual_reads}
use Rattle.binder_laws.proofs.Renumbered.{left_alone}
use Rattle.binder_kind_laws.proofs.Settled.{only_if_is}
use Rattle.binder_kind_laws.proofs.CallKinds.{behind}
use Rattle.binder_kind_laws.proofs.Moved.{Kept, kind_kept, fit_kept, kind_alike}

-- over columns of these kinds an expression has this kind, and its constants fit
abbrev pub Is : List Kind → Expr → Kind → Type 0
Is ks e k = (kind_of ks e ≡ Some k) × (constants_fit e ≡ true)

-- ---- the operands of an operator

-- each has a kind, and the operator one for both
record Operands (ks : List Kind) (o : Op) (a b : Expr) (m : Kind) : Type 0 where
  j : Kind
  k : Kind
  left : Is ks a j
  right : Is ks b k
  gives : binary_kind o j k ≡ Some m

operands : (ks : List Kind) (o : Op) (a b : Expr) (m : Kind) → Is ks (Binary o a b) m → Operands ks o a b m
operands ks o a b m h = go (kind_of ks a) refl (kind_of ks b) refl (sym (kind_of-Binary ks o a b) ∙ h.0)
  where
    fit : (constants_fit a ≡ true) × (constants_fit b ≡ true)
    fit = and_parts (constants_fit a) (constants_fit b) (sym (fit-Binary o a b) ∙ h.1)

    go : (x : Option Kind) → kind_of ks a ≡ x → (y : Option Kind) → kind_of ks b ≡ y → opt.◌>>=◌ x (λ j. opt.◌>>=◌ y (λ k. binary_kind o j k)) ≡ Some m → Operands ks o a b m
    go None p y q e = cc
    go (Some j) p None q e = cc
    go (Some j) p (Some k) q e = record { j = j; k = k; left = (p, fit.0); right = (q, fit.1); gives = e }

truths : (j k m : Kind) → truth_kind j k ≡ Some m → (j ≡ kind.Bool) × (k ≡ kind.Bool)
truths kind.Bool kind.Bool m e = (refl, refl)
truths _ _ m e = cc

-- ---- the parts between ANDs

module _ (ks : List Kind) where
  abbrev pub Truth : Expr → Type 0
  Truth e = Is ks e kind.Bool

  abbrev Parted : Expr → Type 0
  Parted e = Truth e → Every Truth (conjuncts e)

  abbrev Known : Type 0
  Known = (e : Expr) × Parted e

  alone : (e : Expr) → conjuncts e ≡ e ∷ [] → Parted e
  alone e q h = subst (Every Truth) (sym q) (h, tt)

  and_truths : (a b : Expr) → Truth (Binary op.And a b) → Truth a × Truth b
  and_truths a b h =
      let p = operands ks op.And a b kind.Bool h in
      let t = truths p.j p.k kind.Bool p.gives in
      (subst (Is ks a) t.0 p.left, subst (Is ks b) t.1 p.right)

  split_truths : (o : Op) (a b : Expr) → Parted a → Parted b → Truth (Binary o a b) → Every Truth (split_at o (a, conjuncts a) (b, conjuncts b))
  split_truths op.And a b f g h = let p = and_truths a b h in every_append Truth (conjuncts a) (conjuncts b) (f p.0) (g p.1)
  split_truths _ a b f g h = (h, tt)

  step : (y : Expr-F Known) → Parted (roll-Expr (map-Expr Known Expr (λ k. k.0) y))
  step (Expr-F.Column c) = subst Parted (sym (rolls-Column c)) (alone (Column c) (conjuncts-Column c))
  step (Expr-F.Const v k) = subst Parted (sym (rolls-Const v k)) (alone (Const v k) (conjuncts-Const v k))
  step (Expr-F.Not a) = subst Parted (sym (rolls-Not a.0)) (alone (Not a.0) (conjuncts-Not a.0))
  step (Expr-F.Neg a) = subst Parted (sym (rolls-Neg a.0)) (alone (Neg a.0) (conjuncts-Neg a.0))
  step (Expr-F.IsNull a) = subst Parted (sym (rolls-IsNull a.0)) (alone (IsNull a.0) (conjuncts-IsNull a.0))
  step (Expr-F.Binary o a b) = subst Parted (sym (rolls-Binary o a.0 b.0)) (λ h. subst (Every Truth) (sym (conjuncts-Binary o a.0 b.0)) (split_truths o a.0 b.0 a.1 b.1 h))
  step (Expr-F.Case arms other) = subst Parted (sym (rolls-Case (map (λ (arm : Known × Known). (arm.0.0, arm.1.0)) arms) other.0)) (alone _ (conjuncts-Case (map (λ (arm : Known × Known). (arm.0.0, arm.1.0)) arms) other.0))
  step (Expr-F.Coalesce parts) = subst Parted (sym (rolls-Coalesce (map (λ (k : Known). k.0) parts))) (alone _ (conjuncts-Coalesce (map (λ (k : Known). k.0) parts)))
  step (Expr-F.Cast a k) = subst Parted (sym (rolls-Cast a.0 k)) (alone (Cast a.0 k) (conjuncts-Cast a.0 k))
  step (Expr-F.Abs a) = subst Parted (sym (rolls-Abs a.0)) (alone (Abs a.0) (conjuncts-Abs a.0))
  step (Expr-F.Length a) = subst Parted (sym (rolls-Length a.0)) (alone (Length a.0) (conjuncts-Length a.0))

  parts_truths : (e : Expr) → Parted e
  parts_truths = ind-Expr Parted (λ x y is. subst (λ z. Parted (roll-Expr z)) is (step y))

  -- what is left of the test
  others_truths : (w : ℕ) (es : List Expr) → Every Truth es → Every Truth (others w es)
  others_truths w [] h = tt
  others_truths w (e ∷ es) h = go (is_none (key_of w e)) (others_truths w es h.1)
    where
      go : (b : Bool) → Every Truth (others w es) → Every Truth (cond {A = List Expr} b (e ∷ others w es) (others w es))
      go true more = (h.0, more)
      go false more = more

  abbrev RestTruth : Option Expr → Type 0
  RestTruth None = Unit {0}
  RestTruth (Some e) = Truth e

  both_truths : (a b : Expr) → Truth a → Truth b → Truth (Binary op.And a b)
  both_truths a b h i = (
    kind_of-Binary ks op.And a b ∙ ap (λ (x : Option Kind). opt.◌>>=◌ x (λ j. opt.◌>>=◌ (kind_of ks b) (λ k. truth_kind j k))) h.0 ∙ ap (λ (y : Option Kind). opt.◌>>=◌ y (λ k. truth_kind kind.Bool k)) i.0,
    fit-Binary op.And a b ∙ and_from (constants_fit a) (constants_fit b) h.1 i.1,
  )

  conjoined_truth : (test : Option Expr) (es : List Expr) → RestTruth test → Every Truth es → RestTruth (conjoined test es)
  conjoined_truth test [] h i = h
  conjoined_truth None (e ∷ es) h i = conjoined_truth (Some e) es i.0 i.1
  conjoined_truth (Some t) (e ∷ es) h i = conjoined_truth (Some (Binary op.And t e)) es (both_truths t e h i.0) i.1

  residual_truth : (w : ℕ) (on : Expr) → Truth on → RestTruth (residual w on)
  residual_truth w on h = conjoined_truth None (others w (conjuncts on)) tt (others_truths w (conjuncts on) (parts_truths on h))

  rest_test : (rest : Option Expr) → RestTruth rest → is_rest ks rest ≡ true
  rest_test None h = refl
  rest_test (Some e) h = and_from (is_truth (kind_of ks e)) (constants_fit e) (ap is_truth h.0) h.1

  -- ---- keys

  class_sym : (j k : Kind) → one_class j k ≡ true → one_class k j ≡ true
  class_sym kind.Bool kind.Bool h = refl
  class_sym kind.Int kind.Int h = refl
  class_sym kind.Int (kind.Dec p s) h = refl
  class_sym (kind.Dec p s) kind.Int h = refl
  class_sym (kind.Dec p s) (kind.Dec q t) h = refl
  class_sym kind.Text kind.Text h = refl
  class_sym _ _ h = cc

  -- both have kinds, which are of one class
  pub record Compares (key : Expr × Expr) : Type 0 where
    pub j : Kind
    pub k : Kind
    pub left : Is ks key.0 j
    pub right : Is ks key.1 k
    pub class : one_class j k ≡ true

  oriented_compares : (w : ℕ) (a b : Expr) → Truth (Binary op.Eq a b) → (key : Expr × Expr) → oriented w a b ≡ Some key → Compares key
  oriented_compares w a b h key e = go (is_left w a && is_right w b) (is_left w b && is_right w a) e
    where
      o : Operands ks op.Eq a b kind.Bool
      o = operands ks op.Eq a b kind.Bool h

      class : one_class o.j o.k ≡ true
      class = (only_if_is (one_class o.j o.k) kind.Bool kind.Bool o.gives).0

      go : (p q : Bool) → cond {A = Option (Expr × Expr)} p (Some (a, b)) (cond {A = Option (Expr × Expr)} q (Some (b, a)) None) ≡ Some key → Compares key
      go true q e = let r : (a, b) ≡ key = cc in subst Compares r (record { j = o.j; k = o.k; left = o.left; right = o.right; class = class })
      go false true e = let r : (b, a) ≡ key = cc in subst Compares r (record { j = o.k; k = o.j; left = o.right; right = o.left; class = class_sym o.j o.k class })
      go false false e = cc

  equated_compares : (w : ℕ) (e : Expr) (z : Expr-F Expr) → out-Expr e ≡ z → Truth e → (key : Expr × Expr) → equated w z ≡ Some key → Compares key
  equated_compares w e (Expr-F.Binary op.Eq a b) o h key q = oriented_compares w a b (subst Truth (sym (roll-out-Expr e) ∙ ap roll-Expr o ∙ rolls-Binary op.Eq a b) h) key q
  equated_compares w e _ o h key q = cc

  keys_compare_all : (w : ℕ) (es : List Expr) → Every Truth es → Every Compares (keys w es)
  keys_compare_all w [] h = tt
  keys_compare_all w (e ∷ es) h = go (key_of w e) refl (keys_compare_all w es h.1)
    where
      go : (o : Option (Expr × Expr)) → key_of w e ≡ o → Every Compares (keys w es) → Every Compares (cons_option o (keys w es))
      go None q more = more
      go (Some key) q more = (equated_compares w e (out-Expr e) refl h.0 key q, more)

-- ---- lists of kinds

pub front_get : {A : Type 0} (xs ys : List A) (c : ℕ) → c < length xs → slice_get (xs ++ ys) c ≡ slice_get xs c
front_get [] ys c h = absurd (omega arith)
front_get (x ∷ xs) ys zero h = refl
front_get (x ∷ xs) ys (suc c) h = front_get xs ys c (omega arith)

pub first_behind : {A : Type 0} (xs ys : List A) (y : A) (c : ℕ) → c ≡ length xs → slice_get (xs ++ y ∷ ys) c ≡ Some y
first_behind xs ys y c e = let r : c ≡ c + 0 = omega arith in ap (slice_get (xs ++ y ∷ ys)) r ∙ behind xs (y ∷ ys) 0 c e

items_append : (all : List Kind) (xs ys : List Expr) → item_kinds all (xs ++ ys) ≡ item_kinds all xs ++ item_kinds all ys
items_append all [] ys = refl
items_append all (x ∷ xs) ys = ap (λ ks. kind_or_text (kind_of all x) ∷ ks) (items_append all xs ys)

pub all_append : (all : List Kind) (xs ys : List Expr) → list_all (has_kind all) xs ≡ true → list_all (has_kind all) ys ≡ true → list_all (has_kind all) (xs ++ ys) ≡ true
all_append all [] ys h i = i
all_append all (x ∷ xs) ys h i = let a = and_parts (has_kind all x) (list_all (has_kind all) xs) h in and_from (has_kind all x) _ a.0 (all_append all xs ys a.1 i)

-- expressions that have kinds, which are these
abbrev pub Gives : List Kind → List Expr → List Kind → Type 0
Gives all es ks = (item_kinds all es ≡ ks) × (list_all (has_kind all) es ≡ true)

pub gives_both : (all : List Kind) (xs ys : List Expr) (js ks : List Kind) → Gives all xs js → Gives all ys ks → Gives all (xs ++ ys) (js ++ ks)
gives_both all xs ys js ks h i = (items_append all xs ys ∙ ap (λ l. l ++ item_kinds all ys) h.0 ∙ ap (λ l. js ++ l) i.0, all_append all xs ys h.1 i.1)

pub is_kinded : (all : List Kind) (e : Expr) (k : Kind) → Is all e k → has_kind all e ≡ true
is_kinded all e k h = and_from (is_some (kind_of all e)) (constants_fit e) (ap is_some h.0) h.1

pub column_is : (all : List Kind) (c : ℕ) (k : Kind) → slice_get all c ≡ Some k → Is all (Column c) k
column_is all c k e = (kind_of-Column all c ∙ e, fit-Column c)

-- columns one after the other
pub from_gives : (all front mid back : List Kind) (c n : ℕ) → all ≡ front ++ (mid ++ back) → c ≡ length front → n ≡ length mid → Gives all (columns_from c n) mid
unfolding columns_from
from_gives all front [] back c zero e h i = (refl, refl)
from_gives all front [] back c (suc n) e h i = cc
from_gives all front (m ∷ mid) back c zero e h i = cc
from_gives all front (m ∷ mid) back c (suc n) e h i =
    let at : Is all (Column c) m = column_is all c m (ap (λ ks. slice_get ks c) e ∙ first_behind front (mid ++ back) m c h) in
    let l = length-append front (m ∷ []) in
    let more = from_gives all (front ++ m ∷ []) mid back (c + 1) n (e ∙ sym (append_assoc front (m ∷ []) (mid ++ back))) (omega arith) (omega arith) in
    (ap (λ o. kind_or_text o ∷ item_kinds all (columns_from (c + 1) n)) at.0 ∙ ap (λ ks. m ∷ ks) more.0, and_from (has_kind all (Column c)) _ (is_kinded all (Column c) m at) more.1)

-- ---- sides

-- a well-kinded side, whose columns have these kinds
pub record Sided (kss : List (List Kind)) (side : Side) (ks : List Kind) : Type 0 where
  pub well : is_well_kinded kss side.body ≡ true
  pub kinds_are : kinds side.body ≡ ks
  pub width : side.width ≡ length ks

-- a well-kinded body of these kinds
abbrev pub Bodied : List (List Kind) → Logical → List Kind → Type 0
Bodied kss body ks = (is_well_kinded kss body ≡ true) × (kinds body ≡ ks)

pub project_bodied : (kss : List (List Kind)) (body : Logical) (es : List Expr) (js ks : List Kind) → Bodied kss body js → Gives js es ks → Bodied kss (Project body es) ks
project_bodied kss body es js ks h g = (
  kinded-Project kss body es ∙ and_from (is_well_kinded kss body) _ h.0 (ap (λ (l : List Kind). list_all (has_kind l) es) h.1 ∙ g.1),
  kinds-Project body es ∙ ap (λ (l : List Kind). item_kinds l es) h.1 ∙ g.0,
)

join_bodied : (kss : List (List Kind)) (kind : JoinKind) (left right : Logical) (js ks : List Kind) (keys : List (ℕ × ℕ)) (rest : Option Expr) → Bodied kss left js → Bodied kss right ks → keys_compare js ks keys ≡ true → is_rest (js ++ ks) rest ≡ true
    → Bodied kss (Join kind left right keys rest) (js ++ ks)
join_bodied kss kind left right js ks keys rest h i c r = (
  kinded-Join kss kind left right keys rest
      ∙ and_from (is_well_kinded kss left) _ h.0 (and_from (is_well_kinded kss right) _ i.0 (and_from (keys_compare (kinds left) (kinds right) keys) _
      (ap (λ (l : List Kind). keys_compare l (kinds right) keys) h.1 ∙ ap (λ (l : List Kind). keys_compare js l keys) i.1 ∙ c)
      (ap (λ (l : List Kind). is_rest (l ++ kinds right) rest) h.1 ∙ ap (λ (l : List Kind). is_rest (js ++ l) rest) i.1 ∙ r))),
  kinds-Join kind left right keys rest ∙ ap (λ (l : List Kind). l ++ kinds right) h.1 ∙ ap (λ (l : List Kind). js ++ l) i.1,
)

or_false : (b : Bool) → b || false ≡ true → b ≡ true
or_false true h = refl
or_false false h = absurd (false≢true h)

not_true : (b : Bool) → not b ≡ true → b ≡ false
not_true false h = refl
not_true true h = absurd (false≢true h)

or_parts : (a b : Bool) → a || b ≡ false → (a ≡ false) × (b ≡ false)
or_parts true b h = absurd (false≢true (sym h))
or_parts false b h = (refl, h)

the_column : (e : Expr) (z : Expr-F Expr) → out-Expr e ≡ z → (c : ℕ) → node_column z ≡ Some c → e ≡ Column c
the_column e (Expr-F.Column k) o c q = let p : k ≡ c = cc in sym (roll-out-Expr e) ∙ ap roll-Expr o ∙ rolls-Column k ∙ ap Column p
the_column e _ o c q = cc

module _ (lk rk : List Kind) (w v : ℕ) (wide : w ≡ length lk) (high : v ≡ length rk) where
  abbrev ks : List Kind
  ks = lk ++ rk

  left_get : (c : ℕ) → c < w → slice_get lk c ≡ slice_get ks c
  left_get c h = sym (front_get lk rk c (omega arith))

  right_get : (c : ℕ) → w ≤ c → slice_get rk (c - w) ≡ slice_get ks c
  right_get c h = let r : c ≡ w + (c - w) = omega arith in sym (ap (slice_get ks) r ∙ behind lk rk (c - w) w wide)

  -- ---- keys that are plain columns

  left_column : (e : Expr) (c : ℕ) → e ≡ Column c → is_left w e ≡ true → c < w
  left_column e c q h = ltb-true c w (or_false (nat_lt c w) (sym (ap (uses_left w) (ap columns q ∙ columns-Column c)) ∙ (and_parts (uses_left w (columns e)) (not (uses_right w (columns e))) h).0))

  right_column : (e : Expr) (c : ℕ) → e ≡ Column c → is_right w e ≡ true → w ≤ c
  right_column e c q h = leb-true w c (or_false (nat_le w c) (sym (ap (uses_right w) (ap columns q ∙ columns-Column c)) ∙ (and_parts (uses_right w (columns e)) (not (uses_left w (columns e))) h).0))

  column_kind : (e : Expr) (c : ℕ) (k : Kind) → e ≡ Column c → Is ks e k → slice_get ks c ≡ Some k
  column_kind e c k q h = sym (kind_of-Column ks c) ∙ ap (kind_of ks) (sym q) ∙ h.0

  abbrev Compared : ℕ × ℕ → Type 0
  Compared k = are_comparable (slice_get lk k.0) (slice_get rk k.1) ≡ true

  plain_compares : (key : Expr × Expr) → IsKey w (w + v) key → Compares ks key → (k : ℕ × ℕ) → plain_key w (column_of key.0) (column_of key.1) ≡ Some k → Compared k
  plain_compares key h i k = go (column_of key.0) refl (column_of key.1) refl
    where
      go : (a : Option ℕ) → column_of key.0 ≡ a → (b : Option ℕ) → column_of key.1 ≡ b → plain_key w a b ≡ Some k → Compared k
      go (Some a) ea (Some b) eb q =
          let p : (a, without_left w b) ≡ k = cc in
          let l = the_column key.0 (out-Expr key.0) refl a ea in
          let r = the_column key.1 (out-Expr key.1) refl b eb in
          subst Compared p
          (ap (λ o. are_comparable o (slice_get rk (b - w))) (left_get a (left_column key.0 a l h.left) ∙ column_kind key.0 a i.j l i.left)
          ∙ ap (are_comparable (Some i.j)) (right_get b (right_column key.1 b r h.right) ∙ column_kind key.1 b i.k r i.right) ∙ i.class)
      go (Some a) ea None eb q = cc
      go None ea b eb q = cc

  plain_all : (keys : List (Expr × Expr)) → Every (IsKey w (w + v)) keys → Every (Compares ks) keys → (found : List (ℕ × ℕ)) → plain_keys w keys ≡ Some found → keys_compare lk rk found ≡ true
  plain_all [] h i found q = let p : [] ≡ found = cc in subst (λ (l : List (ℕ × ℕ)). keys_compare lk rk l ≡ true) p refl
  plain_all (key ∷ more) h i found q = go (plain_key w (column_of key.0) (column_of key.1)) refl (plain_keys w more) refl q (plain_all more h.1 i.1)
    where
      go : (a : Option (ℕ × ℕ)) → plain_key w (column_of key.0) (column_of key.1) ≡ a → (b : Option (List (ℕ × ℕ))) → plain_keys w more ≡ b → cons_both a b ≡ Some found
          → ((ms : List (ℕ × ℕ)) → plain_keys w more ≡ Some ms → keys_compare lk rk ms ≡ true) → keys_compare lk rk found ≡ true
      go (Some k) ek (Some ms) em q f =
          let p : k ∷ ms ≡ found = cc in
          subst (λ (l : List (ℕ × ℕ)). keys_compare lk rk l ≡ true) p (and_from (are_comparable (slice_get lk k.0) (slice_get rk k.1)) _ (plain_compares key h.0 i.0 k ek) (f ms em))
      go (Some k) ek None em q f = cc
      go None ek b em q f = cc

  -- ---- keys that are appended

  left_kept : (cs : List ℕ) → are_below w cs ≡ true → Every (Kept ks lk (λ c. c)) cs
  left_kept [] h = tt
  left_kept (c ∷ cs) h = let a = and_parts (nat_lt c w) (are_below w cs) h in (left_get c (ltb-true c w a.0), left_kept cs a.1)

  right_kept : (cs : List ℕ) → list_any (λ c. nat_lt c w) cs ≡ false → Every (Kept ks rk (without_left w)) cs
  right_kept [] h = tt
  right_kept (c ∷ cs) h = let a = or_parts (nat_lt c w) (list_any (λ c. nat_lt c w) cs) h in (right_get c (ltb-false c w a.0), right_kept cs a.1)

  -- each side of a key over its own columns
  record OnSides (key : Expr × Expr) : Type 0 where
    j : Kind
    k : Kind
    left : Is lk key.0 j
    right : Is rk (renumbered (without_left w) key.1) k
    class : one_class j k ≡ true

  on_sides : (key : Expr × Expr) → IsKey w (w + v) key → Compares ks key → OnSides key
  on_sides key h i =
      let a = and_parts (uses_left w (columns key.0)) (not (uses_right w (columns key.0))) h.left in
      let b = and_parts (uses_right w (columns key.1)) (not (uses_left w (columns key.1))) h.right in
      record {
        j = i.j;
        k = i.k;
        left = (kind_alike ks lk key.0 (left_kept (columns key.0) (left_alone w (columns key.0) (not_true (uses_right w (columns key.0)) a.1))) ∙ i.left.0, i.left.1);
        right = (kind_kept ks rk (without_left w) key.1 (right_kept (columns key.1) (not_true (uses_left w (columns key.1)) b.1)) ∙ i.right.0, fit_kept (without_left w) key.1 ∙ i.right.1);
        class = i.class;
      }

  all_sides : (keys : List (Expr × Expr)) → Every (IsKey w (w + v)) keys → Every (Compares ks) keys → Every OnSides keys
  all_sides [] h i = tt
  all_sides (key ∷ more) h i = (on_sides key h.0 i.0, all_sides more h.1 i.1)

  abbrev left_kinds : List (Expr × Expr) → List Kind
  left_kinds keys = item_kinds lk (left_exprs keys)

  abbrev right_kinds : List (Expr × Expr) → List Kind
  right_kinds keys = item_kinds rk (right_exprs w keys)

  left_gives : (keys : List (Expr × Expr)) → Every OnSides keys → list_all (has_kind lk) (left_exprs keys) ≡ true
  left_gives [] h = refl
  left_gives (key ∷ more) h = and_from (has_kind lk key.0) _ (is_kinded lk key.0 h.0.j h.0.left) (left_gives more h.1)

  right_gives : (keys : List (Expr × Expr)) → Every OnSides keys → list_all (has_kind rk) (right_exprs w keys) ≡ true
  right_gives [] h = refl
  right_gives (key ∷ more) h = and_from (has_kind rk (renumbered (without_left w) key.1)) _ (is_kinded rk (renumbered (without_left w) key.1) h.0.k h.0.right) (right_gives more h.1)

  appended_compare : (keys : List (Expr × Expr)) → Every OnSides keys → (l r : List Kind) (a b : ℕ) → a ≡ length l → b ≡ length r → keys_compare (l ++ left_kinds keys) (r ++ right_kinds keys) (keys_from a b (length keys)) ≡ true
  appended_compare [] h l r a b e f = refl
  appended_compare (key ∷ more) h l r a b e f =
      let j = kind_or_text (kind_of lk key.0) in
      let k = kind_or_text (kind_of rk (renumbered (without_left w) key.1)) in
      let m = length-append l (j ∷ []) in
      let n = length-append r (k ∷ []) in
      let first : are_comparable (slice_get (l ++ j ∷ left_kinds more) a) (slice_get (r ++ k ∷ right_kinds more) b) ≡ true =
      ap (λ o. are_comparable o (slice_get (r ++ k ∷ right_kinds more) b)) (first_behind l (left_kinds more) j a e ∙ ap (λ o. Some (kind_or_text o)) h.0.left.0)
      ∙ ap (are_comparable (Some h.0.j)) (first_behind r (right_kinds more) k b f ∙ ap (λ o. Some (kind_or_text o)) h.0.right.0) ∙ h.0.class in
      and_from (are_comparable (slice_get (l ++ j ∷ left_kinds more) a) (slice_get (r ++ k ∷ right_kinds more) b)) _ first
      (ap (λ (x : List Kind). keys_compare x (r ++ k ∷ right_kinds more) (keys_from (a + 1) (b + 1) (length more))) (sym (append_assoc l (j ∷ []) (left_kinds more)))
      ∙ ap (λ (x : List Kind). keys_compare ((l ++ j ∷ []) ++ left_kinds more) x (keys_from (a + 1) (b + 1) (length more))) (sym (append_assoc r (k ∷ []) (right_kinds more)))
      ∙ appended_compare more h.1 (l ++ j ∷ []) (r ++ k ∷ []) (a + 1) (b + 1) (omega arith) (omega arith))

  -- ---- what is left, over the columns and the appended ones

  module _ (js ms : List Kind) (n : ℕ) (many : n ≡ length js) where
    abbrev us : List Kind
    us = (lk ++ js) ++ (rk ++ ms)

    spread_get : (c : ℕ) → c < w + v → (b : Bool) → nat_lt c w ≡ b → slice_get us (cond {A = ℕ} b c (c + n)) ≡ slice_get ks c
    spread_get c h true e =
        let l = length-append lk js in
        let below : c < w = ltb-true c w e in
        front_get (lk ++ js) (rk ++ ms) c (omega arith) ∙ front_get lk js c (omega arith) ∙ left_get c below
    spread_get c h false e =
        let l = length-append lk js in
        let above : w ≤ c = ltb-false c w e in
        let r : c + n ≡ (w + n) + (c - w) = omega arith in
        ap (slice_get us) r ∙ behind (lk ++ js) (rk ++ ms) (c - w) (w + n) (omega arith) ∙ front_get rk ms (c - w) (omega arith) ∙ right_get c above

    spread_kept : (cs : List ℕ) → are_below (w + v) cs ≡ true → Every (Kept ks us (spread w n)) cs
    spread_kept [] h = tt
    spread_kept (c ∷ cs) h = let a = and_parts (nat_lt c (w + v)) (are_below (w + v) cs) h in (spread_get c (ltb-true c (w + v) a.0) (nat_lt c w) refl, spread_kept cs a.1)

    spread_rest : (rest : Option Expr) → RestTruth ks rest → are_below (w + v) (rest_columns rest) ≡ true → is_rest us (option_map (renumbered (spread w n)) rest) ≡ true
    spread_rest None h b = refl
    spread_rest (Some e) h b = rest_test us (Some (renumbered (spread w n) e)) (kind_kept ks us (spread w n) e (spread_kept (columns e) b) ∙ h.0, fit_kept (spread w n) e ∙ h.1)

module _ (kss : List (List Kind)) (kind : JoinKind) (left right : Side) (lk rk : List Kind) (hl : Sided kss left lk) (hr : Sided kss right rk) where
  abbrev w : ℕ
  w = left.width

  abbrev v : ℕ
  v = right.width

  extended_bodied : (side : Side) (ks : List Kind) (es : List Expr) → Sided kss side ks → list_all (has_kind ks) es ≡ true → Bodied kss (extended side es) (ks ++ item_kinds ks es)
  extended_bodied side ks es h g =
      project_bodied kss side.body (columns_from 0 side.width ++ es) ks (ks ++ item_kinds ks es) (h.well, h.kinds_are)
      (gives_both ks (columns_from 0 side.width) es ks (item_kinds ks es) (from_gives ks [] ks [] 0 side.width (sym (append-nil ks)) refl h.width) (refl, g))

  module _ (keys : List (Expr × Expr)) (is : Every (IsKey w (w + v)) keys) (compares : Every (Compares (lk ++ rk)) keys) (rest : Option Expr) (truth : RestTruth (lk ++ rk) rest) (below : are_below (w + v) (rest_columns rest) ≡ true) where
    abbrev n : ℕ
    n = length keys

    abbrev js : List Kind
    js = item_kinds lk (left_exprs keys)

    abbrev ms : List Kind
    ms = item_kinds rk (right_exprs w keys)

    sides : Every (OnSides lk rk w v hl.width hr.width) keys
    sides = all_sides lk rk w v hl.width hr.width keys is compares

    extended_join : Bodied kss (join_extended kind left right keys n rest) ((lk ++ js) ++ (rk ++ ms))
    extended_join =
        join_bodied kss kind (extended left (left_exprs keys)) (extended right (right_exprs w keys)) (lk ++ js) (rk ++ ms) (keys_from w v n) (option_map (renumbered (spread w n)) rest)
        (extended_bodied left lk (left_exprs keys) hl (left_gives lk rk w v hl.width hr.width keys sides))
        (extended_bodied right rk (right_exprs w keys) hr (right_gives lk rk w v hl.width hr.width keys sides))
        (appended_compare lk rk w v hl.width hr.width keys sides lk rk w v hl.width hr.width)
        (spread_rest lk rk w v hl.width hr.width js ms n (sym (length-map (left_exprs keys) _ ∙ length-map keys _)) rest truth below)

    appended_bodied : Bodied kss (on_appended kind left right keys n rest) (lk ++ rk)
    unfolding on_appended
    appended_bodied =
        let l = length-append lk js in
        let c = hl.width in
        let d : length js ≡ n = length-map (left_exprs keys) _ ∙ length-map keys _ in
        project_bodied kss (join_extended kind left right keys n rest) (columns_from 0 w ++ columns_from (w + n) v) ((lk ++ js) ++ (rk ++ ms)) (lk ++ rk) extended_join
        (gives_both ((lk ++ js) ++ (rk ++ ms)) (columns_from 0 w) (columns_from (w + n) v) lk rk
        (from_gives ((lk ++ js) ++ (rk ++ ms)) [] lk (js ++ (rk ++ ms)) 0 w (append_assoc lk js (rk ++ ms)) refl hl.width)
        (from_gives ((lk ++ js) ++ (rk ++ ms)) (lk ++ js) rk ms (w + n) v refl (omega arith) hr.width))

    keyed_bodied : (o : Option (List (ℕ × ℕ))) → plain_keys w keys ≡ o → Bodied kss (on_keys kind left right keys o rest) (lk ++ rk)
    keyed_bodied (Some plain) e =
        join_bodied kss kind left.body right.body lk rk plain rest (hl.well, hl.kinds_are) (hr.well, hr.kinds_are) (plain_all lk rk w v hl.width hr.width keys is compares plain e) (rest_test (lk ++ rk) rest truth)
    keyed_bodied None e = appended_bodied

  where_bodied : (keys : List (Expr × Expr)) → Every (IsKey w (w + v)) keys → Every (Compares (lk ++ rk)) keys → (rest : Option Expr) → RestTruth (lk ++ rk) rest → are_below (w + v) (rest_columns rest) ≡ true
      → (body : Logical) → where_keyed kind left right keys rest ≡ Some body → Bodied kss body (lk ++ rk)
  unfolding where_keyed
  where_bodied [] is c rest t b body e = cc
  where_bodied (key ∷ more) is c rest t b body e = let q : on_keys kind left right (key ∷ more) (plain_keys w (key ∷ more)) rest ≡ body = cc in
      subst (λ (x : Logical). Bodied kss x (lk ++ rk)) q (keyed_bodied (key ∷ more) is c rest t b (plain_keys w (key ∷ more)) refl)

  -- where the test is a truth over both sides' columns
  pub lowered_bodied : (on : Expr) → Truth (lk ++ rk) on → Reads (w + v) on → (body : Logical) → lowered kind left right on ≡ Some body → Bodied kss body (lk ++ rk)
  lowered_bodied on t h body e =
      where_bodied (keys w (conjuncts on)) (keys_are w (w + v) (conjuncts on) (parts_read (w + v) on h)) (keys_compare_all (lk ++ rk) w (conjuncts on) (parts_truths (lk ++ rk) on t))
      (residual w on) (residual_truth (lk ++ rk) w on t) (residual_reads w (w + v) on h) body e
