-- Columns: one more value, the value at a place.
use Rattle.std.proofs.Common.{◌≡◌, refl, ℕ, zero, suc, ◌+◌, ◌-◌, ◌<◌, ◌≤◌, ◌^◌, Bool, true, false, ◌&&◌, ℤ, List, [], ◌∷◌, ◌++◌, length, get_or, take, drop, map, ap, subst, sym, ◌∙◌, arith, Option, Some, None, unsigned_abs, length-append}
use Rattle.std.specs.Prelude.{nat_lt, nat_le, slice_range}
use Rattle.std.proofs.lemmas.List.{map-append, length-drop, length-take-le}
use Rattle.dfx_value.specs.Kinds.{is_of, is_kind}
use Rattle.dfx_value.specs.declared.kind.Kind.{Kind}
use Rattle.dfx_value.specs.declared.kind.Kind.TheVariants as kind
use Rattle.dfx_value.specs.declared.value.Value.{Value}
use Rattle.dfx_value.specs.declared.value.Value.TheVariants as value
use Rattle.std.proofs.lemmas.Bool.{ltb-true, leb-true}
use Rattle.dfx_value.proofs.DecimalLemmas.{ten_below}
use Rattle.dfx_value.proofs.BatchLemmas.{both, left_of, right_of}
use Rattle.value_columns.specs.Columns.{or_null, all_of, Kinded, KindedValues, chosen_of}
use Rattle.value_columns.specs.Storage.{at_scale}
use Rattle.value_columns.specs.Masked.{masked, picked}
use Rattle.value_columns.proofs.MaskedLemmas.{length-masked}

pub all_of-append : (k : Kind) (vs : List Value) (v : Value) → all_of k vs ≡ true → is_of k v ≡ true → all_of k (vs ++ v ∷ []) ≡ true
all_of-append k [] v h e = both _ _ e refl
all_of-append k (w ∷ vs) v h e = both _ _ (left_of _ _ h) (all_of-append k vs v (right_of _ _ h) e)

pub all_of-at : (k : Kind) (vs : List Value) (i : ℕ) → all_of k vs ≡ true → is_of k (get_or vs i value.Null) ≡ true
all_of-at k [] i h = refl
all_of-at k (v ∷ vs) zero h = left_of _ _ h
all_of-at k (v ∷ vs) (suc i) h = all_of-at k vs i (right_of _ _ h)

pub kinded-push : (k : Kind) (vs : List Value) (v : Value) → Kinded k vs → length vs + 1 < 2 ^ 32 → is_of k v ≡ true → Kinded k (vs ++ v ∷ [])
kinded-push k vs v h room e = record {
  few = omega (arith, length-append vs (v ∷ []));
  kind = h.kind;
  values = all_of-append k vs v h.values e;
}

-- the value at a place is that of the item there, and NULL past the end
pub value-at : {A : Type 0} (f : A → Value) (xs : List (Option A)) (i : ℕ) → get_or (map (or_null f) xs) i value.Null ≡ or_null f (get_or xs i None)
value-at f [] i = refl
value-at f (x ∷ xs) zero = refl
value-at f (x ∷ xs) (suc i) = value-at f xs i

pub map-one_more : {A B : Type 0} (f : A → B) (xs : List A) (x : A) → map f (xs ++ x ∷ []) ≡ map f xs ++ f x ∷ []
map-one_more f [] x = refl
map-one_more f (y ∷ xs) x = ap (λ t. f y ∷ t) (map-one_more f xs x)

pub length-values : {A : Type 0} (f : A → Value) (xs : List (Option A)) → length (map (or_null f) xs) ≡ length xs
length-values f [] = refl
length-values f (x ∷ xs) = ap suc (length-values f xs)

pub decimal_few : (p s : ℕ) (n : ℤ) → is_kind (kind.Dec p s) ≡ true → is_of (kind.Dec p s) (or_null (at_scale s) (Some n)) ≡ true → unsigned_abs n < 10 ^ 38
decimal_few p s n k h =
    let few : unsigned_abs n < 10 ^ p = ltb-true _ _ (right_of _ _ h) in
    let most : p ≤ 38 = leb-true _ _ (right_of _ _ (left_of _ _ k)) in
    omega (arith, ten_below p most)

pub decimal_scale : (p s : ℕ) → is_kind (kind.Dec p s) ≡ true → s ≤ 38
decimal_scale p s k =
    let most : p ≤ 38 = leb-true _ _ (right_of _ _ (left_of _ _ k)) in
    let scale : s ≤ p = leb-true _ _ (right_of _ _ k) in
    omega arith

-- the value at a place of the kind's
pub kinded-at : {A : Type 0} (k : Kind) (f : A → Value) (xs : List (Option A)) (i : ℕ) → Kinded k (map (or_null f) xs) → is_of k (or_null f (get_or xs i None)) ≡ true
kinded-at k f xs i h = ap (is_of k) (sym (value-at f xs i)) ∙ all_of-at k _ i h.values

-- a column of fields that one more value was put to
pub kinded-pushed : (old : KindedValues) (k k' : Kind) (vs vs' : List Value) (v : Value)
    → record { kind = k; values = vs } ≡ old → Kinded k vs → k' ≡ k → vs' ≡ vs ++ v ∷ []
    → length old.values + 1 < 2 ^ 32 → is_of old.kind v ≡ true → Kinded k' vs'
kinded-pushed old k k' vs vs' v is h same more room fits =
    let P : Kind → Type 0 = λ x. Kinded x vs' in
    let Q : List Value → Type 0 = λ x. Kinded k x in
    let here : is_of k v ≡ true = ap (λ (x : KindedValues). is_of x.kind v) is ∙ fits in
    let len : length vs ≡ length old.values = ap (λ (x : KindedValues). length x.values) is in
    subst P (sym same) (subst Q (sym more) (kinded-push k vs v h (omega arith) here))

pub ruleset column_steps = (kinded-push, value-at, map-one_more, length-values)

pub ruleset value_reads = (value-at, length-values, kinded-at)

pub length-chosen : (vs : List Value) (from : ℕ) (ps : List ℕ) → length (chosen_of vs from ps) ≡ length ps
length-chosen vs from [] = refl
length-chosen vs from (p ∷ ps) = ap suc (length-chosen vs from ps)

pub all_of-chosen : (k : Kind) (vs : List Value) (from : ℕ) (ps : List ℕ) → all_of k vs ≡ true → all_of k (chosen_of vs from ps) ≡ true
all_of-chosen k vs from [] h = refl
all_of-chosen k vs from (p ∷ ps) h = both _ _ (all_of-at k vs (from + p) h) (all_of-chosen k vs from ps h)

pub kinded-chosen : (k : Kind) (vs : List Value) (from : ℕ) (ps : List ℕ) → Kinded k vs → length ps < 2 ^ 32 → Kinded k (chosen_of vs from ps)
kinded-chosen k vs from ps h few = record {
  few = omega (arith, length-chosen vs from ps);
  kind = h.kind;
  values = all_of-chosen k vs from ps h.values;
}

-- the values of picked items are the chosen values
pub values-picked : {A : Type 0} (f : A → Value) (xs : List (Option A)) (from : ℕ) (ps : List ℕ) → map (or_null f) (picked xs from ps) ≡ chosen_of (map (or_null f) xs) from ps
values-picked f xs from [] = refl
values-picked f xs from (p ∷ ps) =
    let here : or_null f (get_or xs (from + p) None) ≡ get_or (map (or_null f) xs) (from + p) value.Null = sym (value-at f xs (from + p)) in
    let rest : map (or_null f) (picked xs from ps) ≡ chosen_of (map (or_null f) xs) from ps = values-picked f xs from ps in
    cc

pub ruleset choices = (kinded-chosen, length-chosen, values-picked)

pub ruleset pick_steps = (values-picked, length-values)

map-drop : {A B : Type 0} (f : A → B) (n : ℕ) (xs : List A) → drop n (map f xs) ≡ map f (drop n xs)
map-drop f zero xs = refl
map-drop f (suc n) [] = refl
map-drop f (suc n) (x ∷ xs) = map-drop f n xs

map-take : {A B : Type 0} (f : A → B) (n : ℕ) (xs : List A) → take n (map f xs) ≡ map f (take n xs)
map-take f zero xs = refl
map-take f (suc n) [] = refl
map-take f (suc n) (x ∷ xs) = ap (λ t. f x ∷ t) (map-take f n xs)

-- a part of mapped items
pub map-part : {A B : Type 0} (f : A → B) (xs : List A) (a b : ℕ) → slice_range (map f xs) a b ≡ map f (slice_range xs a b)
map-part f xs a b = ap (take (b - a)) (map-drop f a xs) ∙ map-take f (b - a) (drop a xs)

-- the values of more items
pub values-extended : {A : Type 0} (f : A → Value) (xs ys : List (Option A)) (a b : ℕ)
    → map (or_null f) (xs ++ slice_range ys a b) ≡ map (or_null f) xs ++ slice_range (map (or_null f) ys) a b
values-extended f xs ys a b = map-append (or_null f) xs (slice_range ys a b) ∙ ap (λ t. map (or_null f) xs ++ t) (sym (map-part (or_null f) ys a b))

pub ruleset extend_steps = (values-extended, length-values)

pub all_of-appended : (k : Kind) (vs ws : List Value) → all_of k vs ≡ true → all_of k ws ≡ true → all_of k (vs ++ ws) ≡ true
all_of-appended k [] ws h e = e
all_of-appended k (v ∷ vs) ws h e = both _ _ (left_of _ _ h) (all_of-appended k vs ws (right_of _ _ h) e)

all_of-drop : (k : Kind) (n : ℕ) (vs : List Value) → all_of k vs ≡ true → all_of k (drop n vs) ≡ true
all_of-drop k zero vs h = h
all_of-drop k (suc n) [] h = refl
all_of-drop k (suc n) (v ∷ vs) h = all_of-drop k n vs (right_of _ _ h)

all_of-take : (k : Kind) (n : ℕ) (vs : List Value) → all_of k vs ≡ true → all_of k (take n vs) ≡ true
all_of-take k zero vs h = refl
all_of-take k (suc n) [] h = refl
all_of-take k (suc n) (v ∷ vs) h = both _ _ (left_of _ _ h) (all_of-take k n vs (right_of _ _ h))

length-part : {A : Type 0} (xs : List A) (a b : ℕ) → b ≤ length xs → length (slice_range xs a b) ≡ b - a
length-part xs a b h = length-take-le (b - a) (drop a xs) (omega (arith, length-drop a xs))

-- the values with a part of others of the kind more
pub kinded-extended : (k l : Kind) (vs ws : List Value) (a b : ℕ) → Kinded k vs → Kinded l ws → l ≡ k → b ≤ length ws → length vs + (b - a) < 2 ^ 32
    → Kinded k (vs ++ slice_range ws a b)
kinded-extended k l vs ws a b h e is within room =
    let P : Kind → Type 0 = λ x. all_of x (slice_range ws a b) ≡ true in
    record {
      few = omega (arith, length-append vs (slice_range ws a b), length-part ws a b within);
      kind = h.kind;
      values = all_of-appended k vs (slice_range ws a b) h.values (subst P is (all_of-take l (b - a) (drop a ws) (all_of-drop l a ws e.values)));
    }

-- a part of the values of masked items
pub masked-values : {A : Type 0} (f : A → Value) (xs : List (Option A)) (vs : List Value) (a b : ℕ)
    → map (or_null f) xs ≡ vs → map (or_null f) (slice_range xs a b) ≡ slice_range vs a b
masked-values f xs vs a b h = sym (map-part (or_null f) xs a b) ∙ ap (λ t. slice_range t a b) h

pub ruleset part_steps = (kinded-extended, masked-values, length-values)

pub kinded-truths : (xs : List (Option Bool)) → length xs < 2 ^ 32 → Kinded kind.Bool (map (or_null value.Bool) xs)
kinded-truths xs few = record { few = omega (arith, length-values value.Bool xs); kind = refl; values = all xs }
  where
    all : (xs : List (Option Bool)) → all_of kind.Bool (map (or_null value.Bool) xs) ≡ true
    all [] = refl
    all (None ∷ xs) = all xs
    all (Some x ∷ xs) = all xs

-- numbers of 64 bits, with one more
pub ints_more : (ns : List ℤ) (i : ℕ) (d : ℤ) → i < length ns → all_of kind.Int (map value.Int (take i ns)) ≡ true
    → is_of kind.Int (value.Int (get_or ns i d)) ≡ true → all_of kind.Int (map value.Int (take (suc i) ns)) ≡ true
ints_more [] i d l h e = refl
ints_more (n ∷ ns) zero d l h e = both _ _ e refl
ints_more (n ∷ ns) (suc i) d l h e = both _ _ (left_of _ _ h) (ints_more ns i d (omega arith) (right_of _ _ h) e)

pub kinded-ints : (ns : List ℤ) (bs : List Bool) → all_of kind.Int (map value.Int ns) ≡ true → length ns < 2 ^ 32
    → Kinded kind.Int (map (or_null value.Int) (masked ns bs))
kinded-ints ns bs h few = record {
  few = omega (arith, length-values value.Int (masked ns bs), length-masked ns bs);
  kind = refl;
  values = all ns bs h;
}
  where
    all : (ns : List ℤ) (bs : List Bool) → all_of kind.Int (map value.Int ns) ≡ true → all_of kind.Int (map (or_null value.Int) (masked ns bs)) ≡ true
    all [] bs h = refl
    all (n ∷ ns) [] h = both _ _ (left_of _ _ h) (all ns [] (right_of _ _ h))
    all (n ∷ ns) (true ∷ bs) h = all ns bs (right_of _ _ h)
    all (n ∷ ns) (false ∷ bs) h = both _ _ (left_of _ _ h) (all ns bs (right_of _ _ h))

pub ruleset masked_columns = (kinded-truths, kinded-ints, length-masked)
