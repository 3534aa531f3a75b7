-- Steps of the loops over items of which some are NULL.
use Rattle.std.proofs.Common.{◌≡◌, refl, ℕ, ◌+◌, ◌-◌, ◌<◌, ◌≤◌, min, ℤ, zero, suc, Bool, true, false, Option, Some, None, List, [], ◌∷◌, ◌++◌, Ok, Err, map, take, drop, length, get_or, ap, sym, ◌∙◌, arith}
use Rattle.std.specs.Prelude.{replicate, slice_range}
use Rattle.std.proofs.lemmas.List.{take_all, take_min, get_or-map, map-append}
use Rattle.std.proofs.lemmas.Simd.{length-replicate, get_or-replicate}
use Rattle.std.proofs.Math.ListN.{length-map}
use Rattle.dfx_value.specs.declared.value.Value.{Value}
use Rattle.dfx_value.specs.declared.value.Value.TheVariants as value
use Rattle.dfx_value.specs.declared.fault.EvalFault.{EvalFault}
use Rattle.value_columns.specs.Columns.{or_null}
use Rattle.value_columns.proofs.MaskedLemmas.{length-masked, masked-null, masked-item}
use Rattle.dfx_value.specs.declared.op.Op.TheVariants as op
use Rattle.scalar_exprs.specs.Truth.{truth, from_truth, and_3, not_3, or_3}
use Rattle.scalar_exprs.specs.Functions.{Outcome, operated}
use Rattle.scalar_vector.specs.Fronts.{Front, front}
use Rattle.scalar_vector.specs.Woven.{after, marked, woven, zipped}
use Rattle.scalar_vector.proofs.Loops.{weave-taken, weave-rest, weave-taken-end, weave-rest-end, zipped-step, zipped-end, mapped-step, outcome-fault, length-zipped, get_or-zipped}

-- the whole of a list
pub range-all : {A : Type 0} (xs : List A) (n : ℕ) → n ≡ length xs → slice_range xs 0 n ≡ xs
range-all xs n e = take_all (n - 0) xs (omega arith)

pub ruleset item_steps = (length-masked, masked-null, masked-item, length-replicate, get_or-replicate, range-all)

-- items as values

pub length-values : {A : Type 0} (f : A → Value) (xs : List (Option A)) → length (map (or_null f) xs) ≡ length xs
length-values f xs = length-map xs (or_null f)

pub value-at : {A : Type 0} (f : A → Value) (xs : List (Option A)) (i : ℕ) → i < length xs → get_or (map (or_null f) xs) i value.Null ≡ or_null f (get_or xs i None)
value-at f xs i h = get_or-map (or_null f) xs i None value.Null h

pub value-beyond : {A : Type 0} (f : A → Value) (xs : List (Option A)) (i : ℕ) → get_or (map (or_null f) xs) i value.Null ≡ or_null f (get_or xs i None)
value-beyond f [] zero = refl
value-beyond f [] (suc i) = refl
value-beyond f (x ∷ xs) zero = refl
value-beyond f (x ∷ xs) (suc i) = value-beyond f xs i

pub values-marked : {A : Type 0} (f : A → Value) (ms : List Bool) (xs : List (Option A)) → map (or_null f) (marked ms xs) ≡ marked ms (map (or_null f) xs)
values-marked f [] xs = refl
values-marked f (m ∷ ms) [] = refl
values-marked f (true ∷ ms) (x ∷ xs) = ap (λ (vs : List Value). or_null f x ∷ vs) (values-marked f ms xs)
values-marked f (false ∷ ms) (x ∷ xs) = values-marked f ms xs

pub ruleset value_reads = (value-at, length-values)

pub replicate-value : {A : Type 0} (f : A → Value) (x : Option A) (n : ℕ) → replicate n (or_null f x) ≡ map (or_null f) (replicate n x)
replicate-value f x zero = refl
replicate-value f x (suc n) = ap (λ (vs : List Value). or_null f x ∷ vs) (replicate-value f x n)

pub constant-int : (n : ℤ) (k : ℕ) → replicate k (value.Int n) ≡ map (or_null value.Int) (replicate k (Some n))
constant-int n k = replicate-value value.Int (Some n) k

pub constant-truth : (b : Bool) (k : ℕ) → replicate k (value.Bool b) ≡ map (or_null value.Bool) (replicate k (Some b))
constant-truth b k = replicate-value value.Bool (Some b) k

pub constant-null : {A : Type 0} (f : A → Value) (k : ℕ) → replicate k value.Null ≡ map (or_null f) (replicate k None)
constant-null f k = replicate-value f None k

pub ruleset constant_items = (constant-int, constant-truth, constant-null)

-- the first values of a column as a part of it
pub first-part : (vs : List Value) (n k : ℕ) → k ≡ min n (length vs) → take n vs ≡ slice_range vs 0 k
first-part vs n k e = sym (take_min n vs) ∙ ap (λ (m : ℕ). take m vs) {x = min n (length vs)} {y = k - 0} (omega arith)

pub ruleset first_part = (first-part)

pub values-push : {A : Type 0} (f : A → Value) (xs new : List (Option A)) (x : Option A) → new ≡ xs ++ x ∷ [] → map (or_null f) new ≡ map (or_null f) xs ++ or_null f x ∷ []
values-push f xs new x pushed = ap (map (or_null f)) pushed ∙ map-append (or_null f) xs (x ∷ [])

-- items put together

pub taken-item : {A : Type 0} (f : A → Value) (ms : List Bool) (ts ns ws new : List (Option A)) (x : Option A) (t_fault n_fault : Option EvalFault) (i j k : ℕ) (whole : Front)
    → i < length ms → get_or ms i false ≡ true → j < length ts → x ≡ get_or ts j None → new ≡ ws ++ x ∷ []
    → after (map (or_null f) ws) (woven (drop i ms) (drop j (map (or_null f) ts)) t_fault (drop k (map (or_null f) ns)) n_fault) ≡ whole
    → after (map (or_null f) new) (woven (drop (i + 1) ms) (drop (j + 1) (map (or_null f) ts)) t_fault (drop k (map (or_null f) ns)) n_fault) ≡ whole
taken-item f ms ts ns ws new x t_fault n_fault i j k whole within mark some here pushed e =
    let n : length (map (or_null f) ts) ≡ length ts = length-values f ts in
    ap (λ (vs : List Value). after vs (woven (drop (i + 1) ms) (drop (j + 1) (map (or_null f) ts)) t_fault (drop k (map (or_null f) ns)) n_fault))
    (values-push f ws new x pushed ∙ ap (λ (v : Value). map (or_null f) ws ++ v ∷ []) (ap (or_null f) here ∙ sym (value-at f ts j some)))
    ∙ weave-taken ms (map (or_null f) ts) (map (or_null f) ns) (map (or_null f) ws) t_fault n_fault i j k whole within mark (omega arith) e

pub rest-item : {A : Type 0} (f : A → Value) (ms : List Bool) (ts ns ws new : List (Option A)) (x : Option A) (t_fault n_fault : Option EvalFault) (i j k : ℕ) (whole : Front)
    → i < length ms → get_or ms i false ≡ false → k < length ns → x ≡ get_or ns k None → new ≡ ws ++ x ∷ []
    → after (map (or_null f) ws) (woven (drop i ms) (drop j (map (or_null f) ts)) t_fault (drop k (map (or_null f) ns)) n_fault) ≡ whole
    → after (map (or_null f) new) (woven (drop (i + 1) ms) (drop j (map (or_null f) ts)) t_fault (drop (k + 1) (map (or_null f) ns)) n_fault) ≡ whole
rest-item f ms ts ns ws new x t_fault n_fault i j k whole within mark some here pushed e =
    let n : length (map (or_null f) ns) ≡ length ns = length-values f ns in
    ap (λ (vs : List Value). after vs (woven (drop (i + 1) ms) (drop j (map (or_null f) ts)) t_fault (drop (k + 1) (map (or_null f) ns)) n_fault))
    (values-push f ws new x pushed ∙ ap (λ (v : Value). map (or_null f) ws ++ v ∷ []) (ap (or_null f) here ∙ sym (value-at f ns k some)))
    ∙ weave-rest ms (map (or_null f) ts) (map (or_null f) ns) (map (or_null f) ws) t_fault n_fault i j k whole within mark (omega arith) e

pub taken-end : {A : Type 0} (f : A → Value) (ms : List Bool) (ts ns ws : List (Option A)) (t_fault n_fault : Option EvalFault) (i j k : ℕ) (whole : Front)
    → i < length ms → get_or ms i false ≡ true → length ts ≤ j
    → after (map (or_null f) ws) (woven (drop i ms) (drop j (map (or_null f) ts)) t_fault (drop k (map (or_null f) ns)) n_fault) ≡ whole
    → record { values = map (or_null f) ws; fault = t_fault } ≡ whole
taken-end f ms ts ns ws t_fault n_fault i j k whole within mark none e =
    let n : length (map (or_null f) ts) ≡ length ts = length-values f ts in
    weave-taken-end ms (map (or_null f) ts) (map (or_null f) ns) (map (or_null f) ws) t_fault n_fault i j k whole within mark (omega arith) e

pub rest-end : {A : Type 0} (f : A → Value) (ms : List Bool) (ts ns ws : List (Option A)) (t_fault n_fault : Option EvalFault) (i j k : ℕ) (whole : Front)
    → i < length ms → get_or ms i false ≡ false → length ns ≤ k
    → after (map (or_null f) ws) (woven (drop i ms) (drop j (map (or_null f) ts)) t_fault (drop k (map (or_null f) ns)) n_fault) ≡ whole
    → record { values = map (or_null f) ws; fault = n_fault } ≡ whole
rest-end f ms ts ns ws t_fault n_fault i j k whole within mark none e =
    let n : length (map (or_null f) ns) ≡ length ns = length-values f ns in
    weave-rest-end ms (map (or_null f) ts) (map (or_null f) ns) (map (or_null f) ws) t_fault n_fault i j k whole within mark (omega arith) e

-- the loops over pairs of items

pub pair-step : {A B : Type 0} (f : A → Value) (g : B → Value) (h : Value → Value → Outcome) (ls rs : List (Option A)) (i : ℕ) (ys new : List (Option B)) (y : Option B) (a b : Option A) (whole : Front)
    → i < length ls → i < length rs → a ≡ get_or ls i None → b ≡ get_or rs i None → h (or_null f a) (or_null f b) ≡ Ok (or_null g y) → new ≡ ys ++ y ∷ []
    → after (map (or_null g) ys) (front (drop i (zipped h (map (or_null f) ls) (map (or_null f) rs)))) ≡ whole
    → after (map (or_null g) new) (front (drop (i + 1) (zipped h (map (or_null f) ls) (map (or_null f) rs)))) ≡ whole
pair-step f g h ls rs i ys new y a b whole l r la rb here pushed e =
    let m : length (map (or_null f) ls) ≡ length ls = length-values f ls in
    let n : length (map (or_null f) rs) ≡ length rs = length-values f rs in
    ap (λ (vs : List Value). after vs (front (drop (i + 1) (zipped h (map (or_null f) ls) (map (or_null f) rs))))) (values-push g ys new y pushed)
    ∙ zipped-step h (map (or_null f) ls) (map (or_null f) rs) i (map (or_null g) ys) (or_null g y) (or_null f a) (or_null f b) whole (omega arith) (omega arith)
    (ap (or_null f) la ∙ sym (value-at f ls i l)) (ap (or_null f) rb ∙ sym (value-at f rs i r)) here e

pub pair-fault : {A B : Type 0} (f : A → Value) (g : B → Value) (h : Value → Value → Outcome) (ls rs : List (Option A)) (i : ℕ) (ys : List (Option B)) (fault : EvalFault) (a b : Option A) (whole : Front)
    → i < length ls → i < length rs → a ≡ get_or ls i None → b ≡ get_or rs i None → h (or_null f a) (or_null f b) ≡ Err fault
    → after (map (or_null g) ys) (front (drop i (zipped h (map (or_null f) ls) (map (or_null f) rs)))) ≡ whole → record { values = map (or_null g) ys; fault = Some fault } ≡ whole
pair-fault f g h ls rs i ys fault a b whole l r la rb here e =
    let m : length (map (or_null f) ls) ≡ length ls = length-values f ls in
    let n : length (map (or_null f) rs) ≡ length rs = length-values f rs in
    let k = length-zipped h (map (or_null f) ls) (map (or_null f) rs) in
    outcome-fault (zipped h (map (or_null f) ls) (map (or_null f) rs)) i (map (or_null g) ys) fault (Ok value.Null) whole (omega arith)
    (get_or-zipped h (map (or_null f) ls) (map (or_null f) rs) i (Ok value.Null) (omega arith) (omega arith)
    ∙ ap (λ (v : Value). h v (get_or (map (or_null f) rs) i value.Null)) (value-at f ls i l ∙ ap (or_null f) (sym la)) ∙ ap (h (or_null f a)) (value-at f rs i r ∙ ap (or_null f) (sym rb)) ∙ here) e

pub pair-end : {A B : Type 0} (f : A → Value) (g : B → Value) (h : Value → Value → Outcome) (ls rs : List (Option A)) (i : ℕ) (ys : List (Option B)) (whole : Front) → min (length ls) (length rs) ≤ i
    → after (map (or_null g) ys) (front (drop i (zipped h (map (or_null f) ls) (map (or_null f) rs)))) ≡ whole → record { values = map (or_null g) ys; fault = None } ≡ whole
pair-end f g h ls rs i ys whole end e =
    let m : length (map (or_null f) ls) ≡ length ls = length-values f ls in
    let n : length (map (or_null f) rs) ≡ length rs = length-values f rs in
    zipped-end h (map (or_null f) ls) (map (or_null f) rs) i (map (or_null g) ys) whole (omega arith) e

-- AND and OR

truth-item : (x : Option Bool) → truth (or_null value.Bool x) ≡ x
truth-item None = refl
truth-item (Some b) = refl

from-truth : (x : Option Bool) → from_truth x ≡ or_null value.Bool x
from-truth None = refl
from-truth (Some b) = refl

pub and-items : (a b : Option Bool) → operated op.And (or_null value.Bool a) (or_null value.Bool b) ≡ Ok (or_null value.Bool (and_3 a b))
and-items a b = ap (λ (x : Option Bool). Ok (from_truth (and_3 x (truth (or_null value.Bool b))))) (truth-item a)
    ∙ ap (λ (x : Option Bool). Ok (from_truth (and_3 a x))) (truth-item b) ∙ ap (λ (v : Value). Ok v) (from-truth (and_3 a b))

pub or-items : (a b : Option Bool) → operated op.Or (or_null value.Bool a) (or_null value.Bool b) ≡ Ok (or_null value.Bool (or_3 a b))
or-items a b = ap (λ (x : Option Bool). Ok (from_truth (or_3 x (truth (or_null value.Bool b))))) (truth-item a)
    ∙ ap (λ (x : Option Bool). Ok (from_truth (or_3 a x))) (truth-item b) ∙ ap (λ (v : Value). Ok v) (from-truth (or_3 a b))

pub ruleset connected_truths = (and-items, or-items)

-- NOT

pub not-item : (a r : Option Bool) → r ≡ not_3 a → ◌≡◌ {A = Outcome} (Ok (from_truth (not_3 (truth (or_null value.Bool a))))) (Ok (or_null value.Bool r))
not-item a r is = ap (λ (v : Value). Ok v) (ap (λ (x : Option Bool). from_truth (not_3 x)) (truth-item a) ∙ ap from_truth (sym is) ∙ from-truth r)

-- the loop over values that makes items
pub single-step : {A : Type 0} (g : A → Value) (h : Value → Outcome) (ls : List Value) (i : ℕ) (ys new : List (Option A)) (y : Option A) (v : Value) (whole : Front)
    → i < length ls → v ≡ get_or ls i value.Null → h v ≡ Ok (or_null g y) → new ≡ ys ++ y ∷ []
    → after (map (or_null g) ys) (front (drop i (map h ls))) ≡ whole → after (map (or_null g) new) (front (drop (i + 1) (map h ls))) ≡ whole
single-step g h ls i ys new y v whole l lv here pushed e =
    ap (λ (vs : List Value). after vs (front (drop (i + 1) (map h ls)))) (values-push g ys new y pushed)
    ∙ mapped-step h ls i (map (or_null g) ys) (or_null g y) v whole l lv here e
