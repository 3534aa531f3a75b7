-- The keys of a join's test, in range where its columns are.
use Rattle.std.specs.Prelude.{is_none, nat_lt, nat_le, not}
use Rattle.std.specs.List.{cons_option}
use Rattle.std.proofs.Common.{ℕ, ◌≡◌, ◌+◌, ◌-◌, ◌<◌, ◌≤◌, refl, sym, ap, ◌∙◌, subst, cond, Bool, true, false, ◌&&◌, ◌||◌, Option, Some, None, List, [], ◌∷◌, map, arith}
use Rattle.std.proofs.lemmas.Bool.{lt-ltb, ltb-true, leb-true, false≢true}
use Rattle.dfx_value.specs.declared.op.Op.{Op}
use Rattle.dfx_value.specs.declared.op.Op.TheVariants as op
use Rattle.scalar_exprs.specs.declared.expr.Expr.{Expr}
use Rattle.scalar_exprs.specs.declared.expr.Expr.TheOpen.{Expr-F}
use Rattle.scalar_exprs.specs.declared.expr.Expr.TheViews.{out-Expr, roll-Expr, roll-out-Expr}
use Rattle.scalar_exprs.specs.declared.expr.Expr.TheFolds.{map-Expr, ind-Expr}
use Rattle.scalar_exprs.specs.declared.expr.Expr.TheVariants.{Column, Const, Not, Neg, IsNull, Binary, Cast, Abs, Length, rolls-Column, rolls-Const, rolls-Not, rolls-Neg, rolls-IsNull, rolls-Binary, rolls-Case, rolls-Coalesce, rolls-Cast, rolls-Abs, rolls-Length}
use Rattle.join_lowering.specs.Keys.{split_at, conjuncts, columns, is_left, is_right, uses_left, uses_right, oriented, equated, key_of, keys, others, conjoined, residual}
use Rattle.join_lowering.specs.Lowering.{node_column, column_of, plain_key, cons_both, plain_keys, without_left}
use Rattle.join_lowering.proofs.Nodes.{columns-Column, columns-Binary, conjuncts-Column, conjuncts-Const, conjuncts-Not, conjuncts-Neg, conjuncts-IsNull, conjuncts-Binary, conjuncts-Case, conjuncts-Coalesce, conjuncts-Cast, conjuncts-Abs, conjuncts-Length}
use Rattle.physical_plan.specs.Properties.{left_keys, right_keys}
use Rattle.physical_plan.proofs.Everywhere.{both_true, and_parts}
use Rattle.planned_laws.specs.Ranges.{are_below, rest_columns}
use Rattle.planned_laws.proofs.Below.{below_append, below_split}
use Rattle.binder_laws.proofs.Holding.{Every, every_append}
use Rattle.binder_laws.proofs.Readings.{Reads}

-- ---- the parts between ANDs

module _ (w : ℕ) where
  operands : (o : Op) (a b : Expr) → Reads w (Binary o a b) → Reads w a × Reads w b
  operands o a b h = below_split w (columns a) (columns b) (sym (ap (are_below w) (columns-Binary o a b)) ∙ h)

  abbrev Parted : Expr → Type 0
  Parted e = Reads w e → Every (Reads w) (conjuncts e)

  abbrev Known : Type 0
  Known = (e : Expr) × Parted e

  alone : (e : Expr) → conjuncts e ≡ e ∷ [] → Parted e
  alone e q h = subst (Every (Reads w)) (sym q) (h, tt)

  split_reads : (o : Op) (a b : Expr) → Parted a → Parted b → Reads w (Binary o a b) → Every (Reads w) (split_at o (a, conjuncts a) (b, conjuncts b))
  split_reads op.And a b f g h = let p = operands op.And a b h in every_append (Reads w) (conjuncts a) (conjuncts b) (f p.0) (g p.1)
  split_reads _ a b f g h = (h, tt)

  step : (y : Expr-F Known) → Parted (roll-Expr (map-Expr Known Expr (λ k. k.0) y))
  step (Expr-F.Column c) = subst Parted (sym (rolls-Column c)) (alone (Column c) (conjuncts-Column c))
  step (Expr-F.Const v k) = subst Parted (sym (rolls-Const v k)) (alone (Const v k) (conjuncts-Const v k))
  step (Expr-F.Not a) = subst Parted (sym (rolls-Not a.0)) (alone (Not a.0) (conjuncts-Not a.0))
  step (Expr-F.Neg a) = subst Parted (sym (rolls-Neg a.0)) (alone (Neg a.0) (conjuncts-Neg a.0))
  step (Expr-F.IsNull a) = subst Parted (sym (rolls-IsNull a.0)) (alone (IsNull a.0) (conjuncts-IsNull a.0))
  step (Expr-F.Binary o a b) = subst Parted (sym (rolls-Binary o a.0 b.0)) (λ h. subst (Every (Reads w)) (sym (conjuncts-Binary o a.0 b.0)) (split_reads o a.0 b.0 a.1 b.1 h))
  step (Expr-F.Case arms other) = subst Parted (sym (rolls-Case (map (λ (arm : Known × Known). (arm.0.0, arm.1.0)) arms) other.0)) (alone _ (conjuncts-Case (map (λ (arm : Known × Known). (arm.0.0, arm.1.0)) arms) other.0))
  step (Expr-F.Coalesce parts) = subst Parted (sym (rolls-Coalesce (map (λ (k : Known). k.0) parts))) (alone _ (conjuncts-Coalesce (map (λ (k : Known). k.0) parts)))
  step (Expr-F.Cast a k) = subst Parted (sym (rolls-Cast a.0 k)) (alone (Cast a.0 k) (conjuncts-Cast a.0 k))
  step (Expr-F.Abs a) = subst Parted (sym (rolls-Abs a.0)) (alone (Abs a.0) (conjuncts-Abs a.0))
  step (Expr-F.Length a) = subst Parted (sym (rolls-Length a.0)) (alone (Length a.0) (conjuncts-Length a.0))

  pub parts_read : (e : Expr) → Parted e
  parts_read = ind-Expr Parted (λ x y is. subst (λ z. Parted (roll-Expr z)) is (step y))

-- ---- keys

-- a key between w columns on the left and others, v in all
pub record IsKey (w v : ℕ) (key : Expr × Expr) : Type 0 where
  pub left : is_left w key.0 ≡ true
  pub right : is_right w key.1 ≡ true
  pub below : Reads v key.1

module _ (w v : ℕ) where
  oriented_key : (a b : Expr) → Reads v a → Reads v b → (key : Expr × Expr) → oriented w a b ≡ Some key → IsKey w v key
  oriented_key a b h i key = go (is_left w a) refl (is_right w b) refl (is_left w b) refl (is_right w a) refl
    where
      go : (p : Bool) → is_left w a ≡ p → (q : Bool) → is_right w b ≡ q → (r : Bool) → is_left w b ≡ r → (s : Bool) → is_right w a ≡ s
          → cond {A = Option (Expr × Expr)} (p && q) (Some (a, b)) (cond {A = Option (Expr × Expr)} (r && s) (Some (b, a)) None) ≡ Some key → IsKey w v key
      go true ea true eb r er s es e = let q : (a, b) ≡ key = cc in subst (IsKey w v) q (record { left = ea; right = eb; below = i })
      go true ea false eb true er true es e = let q : (b, a) ≡ key = cc in subst (IsKey w v) q (record { left = er; right = es; below = h })
      go false ea q eb true er true es e = let q : (b, a) ≡ key = cc in subst (IsKey w v) q (record { left = er; right = es; below = h })
      go true ea false eb true er false es e = cc
      go true ea false eb false er s es e = cc
      go false ea q eb true er false es e = cc
      go false ea q eb false er s es e = cc

  equated_key : (e : Expr) (z : Expr-F Expr) → out-Expr e ≡ z → Reads v e → (key : Expr × Expr) → equated w z ≡ Some key → IsKey w v key
  equated_key e (Expr-F.Binary op.Eq a b) o h key q = let p = operands v op.Eq a b (subst (Reads v) (sym (roll-out-Expr e) ∙ ap roll-Expr o ∙ rolls-Binary op.Eq a b) h) in oriented_key a b p.0 p.1 key q
  equated_key e _ o h key q = cc

  pub keys_are : (es : List Expr) → Every (Reads v) es → Every (IsKey w v) (keys w es)
  keys_are [] h = tt
  keys_are (e ∷ es) h = go (key_of w e) refl (keys_are es h.1)
    where
      go : (o : Option (Expr × Expr)) → key_of w e ≡ o → Every (IsKey w v) (keys w es) → Every (IsKey w v) (cons_option o (keys w es))
      go None q more = more
      go (Some key) q more = (equated_key e (out-Expr e) refl h.0 key q, more)

-- ---- what is left

module _ (w v : ℕ) where
  others_read : (es : List Expr) → Every (Reads v) es → Every (Reads v) (others w es)
  others_read [] h = tt
  others_read (e ∷ es) h = go (is_none (key_of w e)) (others_read es h.1)
    where
      go : (b : Bool) → Every (Reads v) (others w es) → Every (Reads v) (cond {A = List Expr} b (e ∷ others w es) (others w es))
      go true more = (h.0, more)
      go false more = more

  conjoined_read : (test : Option Expr) (es : List Expr) → are_below v (rest_columns test) ≡ true → Every (Reads v) es → are_below v (rest_columns (conjoined test es)) ≡ true
  conjoined_read test [] h i = h
  conjoined_read None (e ∷ es) h i = conjoined_read (Some e) es i.0 i.1
  conjoined_read (Some t) (e ∷ es) h i = conjoined_read (Some (Binary op.And t e)) es (ap (are_below v) (columns-Binary op.And t e) ∙ below_append v (columns t) (columns e) h i.0) i.1

  -- the residual of a test reads what the test does
  pub residual_reads : (on : Expr) → Reads v on → are_below v (rest_columns (residual w on)) ≡ true
  residual_reads on h = conjoined_read None (others w (conjuncts on)) refl (others_read (conjuncts on) (parts_read v on h))

-- ---- plain keys

or_false : (b : Bool) → b || false ≡ true → b ≡ true
or_false true h = refl
or_false false h = absurd (false≢true h)

the_column : (e : Expr) (z : Expr-F Expr) → out-Expr e ≡ z → (c : ℕ) → node_column z ≡ Some c → columns e ≡ c ∷ []
the_column e (Expr-F.Column k) o c q = let p : k ≡ c = cc in ap columns (sym (roll-out-Expr e) ∙ ap roll-Expr o ∙ rolls-Column k) ∙ columns-Column k ∙ ap (λ (x : ℕ). x ∷ []) p
the_column e _ o c q = cc

module _ (w u : ℕ) where
  left_below : (e : Expr) (c : ℕ) → column_of e ≡ Some c → is_left w e ≡ true → nat_lt c w ≡ true
  left_below e c q h =
      or_false (nat_lt c w) (sym (ap (uses_left w) (the_column e (out-Expr e) refl c q)) ∙ (and_parts (uses_left w (columns e)) (not (uses_right w (columns e))) h).0)

  right_below : (e : Expr) (c : ℕ) → column_of e ≡ Some c → is_right w e ≡ true → Reads (w + u) e → nat_lt (without_left w c) u ≡ true
  right_below e c q h r =
      let is = the_column e (out-Expr e) refl c q in
      let a = or_false (nat_le w c) (sym (ap (uses_right w) is) ∙ (and_parts (uses_right w (columns e)) (not (uses_left w (columns e))) h).0) in
      let b = (and_parts (nat_lt c (w + u)) true (sym (ap (are_below (w + u)) is) ∙ r)).0 in
      let above : w ≤ c = leb-true w c a in
      let below : c < w + u = ltb-true c (w + u) b in
      lt-ltb (c - w) u (omega arith)

  abbrev pub Below : List (ℕ × ℕ) → Type 0
  Below ks = (are_below w (left_keys ks) ≡ true) × (are_below u (right_keys ks) ≡ true)

  plain_below : (key : Expr × Expr) → IsKey w (w + u) key → (k : ℕ × ℕ) → plain_key w (column_of key.0) (column_of key.1) ≡ Some k → (nat_lt k.0 w ≡ true) × (nat_lt k.1 u ≡ true)
  plain_below key h k = go (column_of key.0) refl (column_of key.1) refl
    where
      go : (a : Option ℕ) → column_of key.0 ≡ a → (b : Option ℕ) → column_of key.1 ≡ b → plain_key w a b ≡ Some k → (nat_lt k.0 w ≡ true) × (nat_lt k.1 u ≡ true)
      go (Some a) ea (Some b) eb q = let p : (a, without_left w b) ≡ k = cc in
          subst (λ (x : ℕ × ℕ). (nat_lt x.0 w ≡ true) × (nat_lt x.1 u ≡ true)) p (left_below key.0 a ea h.left, right_below key.1 b eb h.right h.below)
      go (Some a) ea None eb q = cc
      go None ea b eb q = cc

  pub plain_keys_below : (keys : List (Expr × Expr)) → Every (IsKey w (w + u)) keys → (ks : List (ℕ × ℕ)) → plain_keys w keys ≡ Some ks → Below ks
  plain_keys_below [] h ks q = let p : [] ≡ ks = cc in subst Below p (refl, refl)
  plain_keys_below (key ∷ more) h ks q = go (plain_key w (column_of key.0) (column_of key.1)) refl (plain_keys w more) refl q (plain_keys_below more h.1)
    where
      go : (a : Option (ℕ × ℕ)) → plain_key w (column_of key.0) (column_of key.1) ≡ a → (b : Option (List (ℕ × ℕ))) → plain_keys w more ≡ b → cons_both a b ≡ Some ks
          → ((ms : List (ℕ × ℕ)) → plain_keys w more ≡ Some ms → Below ms) → Below ks
      go (Some k) ek (Some ms) em q f =
          let p : k ∷ ms ≡ ks = cc in
          let a = plain_below key h.0 k ek in
          let b = f ms em in
          subst Below p (both_true _ _ a.0 b.0, both_true _ _ a.1 b.1)
      go (Some k) ek None em q f = cc
      go None ek b em q f = cc
