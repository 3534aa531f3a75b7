-- Values and keys of one kind that tie are one.
use Rattle.std.proofs.Common.{ℕ, zero, suc, ◌-◌, ◌^◌, ◌≡◌, refl, sym, ap, ◌∙◌, subst, List, [], ◌∷◌, Bool, true, false, ◌&&◌, Option, Some, None, ℤ, pos, ◌*ℤ◌}
use Rattle.std.specs.Prelude.{slice_get}
use Rattle.std.specs.declared.cmp.Ordering.TheVariants.{Equal}
use Rattle.std.specs.Ordering.{is_eq, int_cmp}
use Rattle.std.specs.Cmp.Lexicographic.{same_text, texts_ties}
use Rattle.std.proofs.lemmas.Cmp.{int_ranked}
use Rattle.std.specs.Cmp.{Equal-is}
use Rattle.std.proofs.lemmas.Bool.{true≢false, and_parts, and_from, eqb-true}
use Rattle.dfx_value.specs.Number.{Number}
use Rattle.dfx_value.specs.Decimal.{units, compare}
use Rattle.dfx_value.specs.Order.{value_cmp}
use Rattle.dfx_value.specs.Kinds.{is_of, are_of}
use Rattle.dfx_value.specs.Rows.{cell, cells_at}
use Rattle.dfx_value.specs.declared.kind.Kind.{Kind}
use Rattle.dfx_value.specs.declared.kind.Kind.TheVariants as kind
use Rattle.dfx_value.specs.declared.value.Value.{Value}
use Rattle.dfx_value.specs.declared.value.Value.TheVariants as value
use Rattle.dfx_value.proofs.OrderLemmas.{ints, decimals}
use Rattle.dfx_value.proofs.DecimalLemmas.{int_cmp_scaled, ten_positive}
use Rattle.scalar_exprs.specs.Truth.{is_null}
use Rattle.scalar_exprs.specs.Groups.{same_keys, same_value}
use Rattle.key_laws.proofs.Found.{same_keys_laws}
use Rattle.phase_laws.proofs.Firsts.{IsExactAmong}

pub int_equal : (a b : ℤ) → int_cmp a b ≡ Equal → a ≡ b
int_equal a b e = int_ranked a b Equal (sym e)

numbers : (a b : Number) (s : ℕ) → a.scale ≡ s → b.scale ≡ s → compare a b ≡ Equal → a ≡ b
unfolding units
numbers a b s e f h =
    let same : a.scale ≡ b.scale = e ∙ sym f in
    let P : ℕ → Type 0 = λ i. int_cmp (a.unscaled *ℤ pos (10 ^ (38 - i))) (b.unscaled *ℤ pos (10 ^ (38 - b.scale))) ≡ Equal in
    let z : int_cmp (a.unscaled *ℤ pos (10 ^ (38 - b.scale))) (b.unscaled *ℤ pos (10 ^ (38 - b.scale))) ≡ Equal = subst P same h in
    let y : a.unscaled ≡ b.unscaled = int_equal a.unscaled b.unscaled (sym (int_cmp_scaled a.unscaled b.unscaled (10 ^ (38 - b.scale)) (ten_positive (38 - b.scale))) ∙ z) in
    let made : ℤ → ℕ → Number = λ n i. record { unscaled = n; scale = i } in
    ap (λ (n : ℤ). made n a.scale) y ∙ ap (made b.unscaled) same

column_fits : (ks : List Kind) (vs : List Value) (at : ℕ) (k : Kind) → are_of ks vs ≡ true → slice_get ks at ≡ Some k → is_of k (cell vs at) ≡ true
column_fits [] vs at k h e = cc
column_fits (j ∷ ks) [] at k h e = cc
column_fits (j ∷ ks) (v ∷ vs) zero k h e = let same : j ≡ k = cc in subst (λ k. is_of k v ≡ true) same (and_parts (is_of j v) (are_of ks vs) h).0
column_fits (j ∷ ks) (v ∷ vs) (suc at) k h e = column_fits ks vs at k (and_parts (is_of j v) (are_of ks vs) h).1 e

pub exact_value : (k : Kind) (a b : Value) → is_of k a ≡ true → is_of k b ≡ true → value_cmp a b ≡ Equal → a ≡ b
unfolding value_cmp
exact_value k value.Null value.Null f g e = refl
exact_value k (value.Bool false) (value.Bool false) f g e = refl
exact_value k (value.Bool true) (value.Bool true) f g e = refl
exact_value k (value.Bool false) (value.Bool true) f g e = absurd (true≢false (sym (ap is_eq e)))
exact_value k (value.Bool true) (value.Bool false) f g e = absurd (true≢false (sym (ap is_eq e)))
exact_value k (value.Int a) (value.Int b) f g e = ap value.Int (int_equal a b (sym (ints a b) ∙ e))
exact_value (kind.Dec p s) (value.Dec a) (value.Dec b) f g e = ap value.Dec (numbers a b s (eqb-true a.scale s (and_parts _ _ f).0) (eqb-true b.scale s (and_parts _ _ g).0) (sym (decimals a b) ∙ e))
exact_value kind.Bool (value.Dec a) (value.Dec b) f g e = absurd (true≢false (sym f))
exact_value kind.Int (value.Dec a) (value.Dec b) f g e = absurd (true≢false (sym f))
exact_value kind.Text (value.Dec a) (value.Dec b) f g e = absurd (true≢false (sym f))
exact_value kind.Int (value.Int a) (value.Dec b) f g e = absurd (true≢false (sym g))
exact_value (kind.Dec p s) (value.Int a) (value.Dec b) f g e = absurd (true≢false (sym f))
exact_value kind.Bool (value.Int a) (value.Dec b) f g e = absurd (true≢false (sym f))
exact_value kind.Text (value.Int a) (value.Dec b) f g e = absurd (true≢false (sym f))
exact_value kind.Int (value.Dec a) (value.Int b) f g e = absurd (true≢false (sym f))
exact_value (kind.Dec p s) (value.Dec a) (value.Int b) f g e = absurd (true≢false (sym g))
exact_value kind.Bool (value.Dec a) (value.Int b) f g e = absurd (true≢false (sym f))
exact_value kind.Text (value.Dec a) (value.Int b) f g e = absurd (true≢false (sym f))
exact_value k (value.Text a) (value.Text b) f g e = ap value.Text (same_text a b (sym (texts_ties a b ∙ ap is_eq e)))
exact_value k a b f g e = absurd (true≢false (sym (ap is_eq e)))

-- NULL, or of the kind of a column; NULL where there is none
abbrev pub of_column : Option Kind → Value → Bool
of_column None v = is_null v
of_column (Some k) v = is_of k v

pub null_of : (o : Option Kind) → of_column o value.Null ≡ true
null_of None = refl
null_of (Some k) = null_of_kind k
  where
    null_of_kind : (k : Kind) → is_of k value.Null ≡ true
    null_of_kind k = refl

nulls : (a b : Value) → is_null a ≡ true → is_null b ≡ true → a ≡ b
nulls value.Null value.Null f g = refl
nulls value.Null (value.Bool b) f g = absurd (true≢false (sym g))
nulls value.Null (value.Int b) f g = absurd (true≢false (sym g))
nulls value.Null (value.Dec b) f g = absurd (true≢false (sym g))
nulls value.Null (value.Text b) f g = absurd (true≢false (sym g))
nulls (value.Bool a) b f g = absurd (true≢false (sym f))
nulls (value.Int a) b f g = absurd (true≢false (sym f))
nulls (value.Dec a) b f g = absurd (true≢false (sym f))
nulls (value.Text a) b f g = absurd (true≢false (sym f))

pub exact_cell : (o : Option Kind) (a b : Value) → of_column o a ≡ true → of_column o b ≡ true → value_cmp a b ≡ Equal → a ≡ b
exact_cell None a b f g e = nulls a b f g
exact_cell (Some k) a b f g e = exact_value k a b f g e

-- the cells of a row of kinds
pub cell_fits : (kinds : List Kind) (row : List Value) (c : ℕ) → are_of kinds row ≡ true → of_column (slice_get kinds c) (cell row c) ≡ true
cell_fits kinds row c h = by (slice_get kinds c) refl
  where
    none : (ks : List Kind) (vs : List Value) (i : ℕ) → are_of ks vs ≡ true → slice_get ks i ≡ None → is_null (cell vs i) ≡ true
    none [] [] i f e = refl
    none [] (v ∷ vs) i f e = absurd (true≢false (sym f))
    none (k ∷ ks) [] i f e = absurd (true≢false (sym f))
    none (k ∷ ks) (v ∷ vs) zero f e = cc
    none (k ∷ ks) (v ∷ vs) (suc i) f e = none ks vs i (and_parts (is_of k v) (are_of ks vs) f).1 e

    by : (o : Option Kind) → slice_get kinds c ≡ o → of_column o (cell row c) ≡ true
    by None e = none kinds row c h e
    by (Some k) e = column_fits kinds row c k h e

-- lists of keys of rows of kinds
abbrev pub key_fits : List Kind → List ℕ → List Value → Bool
key_fits kinds [] [] = true
key_fits kinds (c ∷ cs) (v ∷ vs) = of_column (slice_get kinds c) v && key_fits kinds cs vs
key_fits kinds _ _ = false

pub cells_at_fits : (kinds : List Kind) (columns : List ℕ) (row : List Value) → are_of kinds row ≡ true → key_fits kinds columns (cells_at columns row) ≡ true
cells_at_fits kinds [] row h = refl
cells_at_fits kinds (c ∷ cs) row h = and_from _ _ (cell_fits kinds row c h) (cells_at_fits kinds cs row h)

same_keys_is : (kinds : List Kind) (columns : List ℕ) (a b : List Value) → key_fits kinds columns a ≡ true → key_fits kinds columns b ≡ true → same_keys a b ≡ true → a ≡ b
same_keys_is kinds [] [] [] f g e = refl
same_keys_is kinds [] (x ∷ xs) b f g e = absurd (true≢false (sym f))
same_keys_is kinds [] [] (y ∷ ys) f g e = absurd (true≢false (sym g))
same_keys_is kinds (c ∷ cs) [] b f g e = absurd (true≢false (sym f))
same_keys_is kinds (c ∷ cs) (x ∷ xs) [] f g e = absurd (true≢false (sym g))
same_keys_is kinds (c ∷ cs) (x ∷ xs) (y ∷ ys) f g e =
    let p = and_parts (of_column (slice_get kinds c) x) (key_fits kinds cs xs) f in
    let q = and_parts (of_column (slice_get kinds c) y) (key_fits kinds cs ys) g in
    let r = and_parts (same_value x y) (same_keys xs ys) e in
    ap (λ z. z ∷ xs) (exact_cell (slice_get kinds c) x y p.0 q.0 ((Equal-is (value_cmp x y)).0 r.0)) ∙ ap (λ zs. y ∷ zs) (same_keys_is kinds cs xs ys p.1 q.1 r.1)

pub keys_exact : (kinds : List Kind) (columns : List ℕ) → IsExactAmong same_keys (key_fits kinds columns)
keys_exact kinds columns = record { laws = same_keys_laws; exact = same_keys_is kinds columns }
