-- Steps of the loops over whole numbers.
use Rattle.std.proofs.Common.{◌≡◌, ℕ, ℤ, pos, ◌+◌, ◌-◌, ◌≤◌, ◌<◌, min, Bool, true, false, refl, zero, suc, Option, Some, None, List, [], ◌∷◌, ◌++◌, Ok, Err, map, take, drop, length, get_or, ap, sym, ◌∙◌, arith}
use Rattle.std.proofs.lemmas.List.{get_or-map, map-append, take-map, take_min, take_all}
use Rattle.std.proofs.Math.ListN.{length-map}
use Rattle.dfx_value.specs.declared.value.Value.{Value}
use Rattle.dfx_value.specs.declared.value.Value.TheVariants as value
use Rattle.dfx_value.specs.declared.fault.EvalFault.{EvalFault}
use Rattle.std.specs.Prelude.{replicate, slice_range}
use Rattle.value_columns.specs.Columns.{or_null}
use Rattle.value_columns.specs.Masked.{masked}
use Rattle.scalar_exprs.specs.Truth.{is_true}
use Rattle.scalar_exprs.specs.Functions.{Outcome}
use Rattle.scalar_vector.specs.Fronts.{Front, front}
use Rattle.scalar_vector.specs.Woven.{after, zipped}
use Rattle.scalar_vector.proofs.Loops.{zipped-step, zipped-end, outcome-fault, length-zipped, get_or-zipped}

abbrev pub ints : List ℤ → List Value
ints = map value.Int

pub int_at : (ls : List ℤ) (i : ℕ) → i < length ls → get_or (ints ls) i value.Null ≡ value.Int (get_or ls i (pos 0))
int_at ls i h = get_or-map value.Int ls i (pos 0) value.Null h

pub first_ints : (ns : List ℤ) (n : ℕ) → take n (ints ns) ≡ ints (take (min n (length ns)) ns)
first_ints ns n = take-map value.Int n ns ∙ ap ints (sym (take_min n ns))

pub lane-step : {X : Type 0} (g : X → Value) (h : Value → Value → Outcome) (ls rs : List ℤ) (i : ℕ) (xs new : List X) (x : X) (a b : ℤ) (whole : Front) → i < length ls → i < length rs
    → a ≡ get_or ls i (pos 0) → b ≡ get_or rs i (pos 0) → h (value.Int a) (value.Int b) ≡ Ok (g x) → new ≡ xs ++ x ∷ []
    → after (map g xs) (front (drop i (zipped h (ints ls) (ints rs)))) ≡ whole
    → after (map g new) (front (drop (i + 1) (zipped h (ints ls) (ints rs)))) ≡ whole
lane-step g h ls rs i xs new x a b whole l r la rb here pushed e =
    let m : length (ints ls) ≡ length ls = length-map ls value.Int in
    let n : length (ints rs) ≡ length rs = length-map rs value.Int in
    ap (λ (vs : List Value). after vs (front (drop (i + 1) (zipped h (ints ls) (ints rs))))) (ap (map g) pushed ∙ map-append g xs (x ∷ []))
    ∙ zipped-step h (ints ls) (ints rs) i (map g xs) (g x) (value.Int a) (value.Int b) whole (omega arith) (omega arith)
    (ap value.Int la ∙ sym (int_at ls i l)) (ap value.Int rb ∙ sym (int_at rs i r)) here e

pub lane-stop : {X : Type 0} (g : X → Value) (h : Value → Value → Outcome) (ls rs : List ℤ) (i : ℕ) (xs : List X) (fault : EvalFault) (a b : ℤ) (whole : Front) → i < length ls → i < length rs
    → a ≡ get_or ls i (pos 0) → b ≡ get_or rs i (pos 0) → h (value.Int a) (value.Int b) ≡ Err fault
    → after (map g xs) (front (drop i (zipped h (ints ls) (ints rs)))) ≡ whole → record { values = map g xs; fault = Some fault } ≡ whole
lane-stop g h ls rs i xs fault a b whole l r la rb here e =
    let m : length (ints ls) ≡ length ls = length-map ls value.Int in
    let n : length (ints rs) ≡ length rs = length-map rs value.Int in
    let k = length-zipped h (ints ls) (ints rs) in
    outcome-fault (zipped h (ints ls) (ints rs)) i (map g xs) fault (Ok value.Null) whole (omega arith)
    (get_or-zipped h (ints ls) (ints rs) i (Ok value.Null) (omega arith) (omega arith)
    ∙ ap (λ (v : Value). h v (get_or (ints rs) i value.Null)) (int_at ls i l ∙ ap value.Int (sym la)) ∙ ap (h (value.Int a)) (int_at rs i r ∙ ap value.Int (sym rb)) ∙ here) e

pub lane-end : {X : Type 0} (g : X → Value) (h : Value → Value → Outcome) (ls rs : List ℤ) (i : ℕ) (xs : List X) (whole : Front) → min (length ls) (length rs) ≤ i
    → after (map g xs) (front (drop i (zipped h (ints ls) (ints rs)))) ≡ whole → record { values = map g xs; fault = None } ≡ whole
lane-end g h ls rs i xs whole end e =
    let m : length (ints ls) ≡ length ls = length-map ls value.Int in
    let n : length (ints rs) ≡ length rs = length-map rs value.Int in
    zipped-end h (ints ls) (ints rs) i (map g xs) whole (omega arith) e

pub one_int : (n : ℤ) (k : ℕ) → replicate k (value.Int n) ≡ ints (replicate k n)
one_int n zero = refl
one_int n (suc k) = ap (λ (vs : List Value). value.Int n ∷ vs) (one_int n k)

pub unmasked_truths : (bs : List Bool) → map (or_null value.Bool) (masked bs []) ≡ map value.Bool bs
unmasked_truths [] = refl
unmasked_truths (b ∷ bs) = ap (λ (vs : List Value). value.Bool b ∷ vs) (unmasked_truths bs)

pub all_true : (bs : List Bool) → map is_true (map (or_null value.Bool) (masked bs [])) ≡ bs
all_true [] = refl
all_true (true ∷ bs) = ap (λ (cs : List Bool). true ∷ cs) (all_true bs)
all_true (false ∷ bs) = ap (λ (cs : List Bool). false ∷ cs) (all_true bs)

pub unmasked : (ns : List ℤ) → map (or_null value.Int) (masked ns []) ≡ ints ns
unmasked [] = refl
unmasked (n ∷ ns) = ap (λ (vs : List Value). value.Int n ∷ vs) (unmasked ns)

-- the whole of a column whose mask has no bit
pub lane_of : (vs : List Value) (ns : List ℤ) (bits : List Bool) (to count k : ℕ) → map (or_null value.Int) (masked ns bits) ≡ slice_range vs 0 to
    → to ≡ length vs → length bits ≡ 0 → k ≡ min count (length ns) → take count vs ≡ ints (take k ns)
lane_of vs ns (b ∷ bits) to count k e all none least = absurd (omega arith)
lane_of vs ns [] to count k e all none least =
    let whole : vs ≡ ints ns = sym (take_all (to - 0) vs (omega arith)) ∙ sym e ∙ unmasked ns in
    ap (take count) whole ∙ first_ints ns count ∙ ap (λ (m : ℕ). ints (take m ns)) (sym least)

-- whole numbers whose mask has no bit
pub none_null : (xs : List (Option ℤ)) (ns : List ℤ) (bits : List Bool) (n : ℕ) → masked ns bits ≡ slice_range xs 0 n → n ≡ length xs → length bits ≡ 0 → map (or_null value.Int) xs ≡ ints ns
none_null xs ns (b ∷ bits) n e all none = absurd (omega arith)
none_null xs ns [] n e all none = ap (map (or_null value.Int)) (sym (take_all (n - 0) xs (omega arith)) ∙ sym e) ∙ unmasked ns

-- truths whose mask has no bit
pub all_bits : (xs : List (Option Bool)) (bs bits : List Bool) (n : ℕ) → masked bs bits ≡ slice_range xs 0 n → n ≡ length xs → length bits ≡ 0 → bs ≡ map is_true (map (or_null value.Bool) xs)
all_bits xs bs (b ∷ bits) n e all none = absurd (omega arith)
all_bits xs bs [] n e all none = sym (all_true bs) ∙ ap (λ (ys : List (Option Bool)). map is_true (map (or_null value.Bool) ys)) (e ∙ take_all (n - 0) xs (omega arith))
