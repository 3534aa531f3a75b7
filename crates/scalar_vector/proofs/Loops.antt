-- Steps of the loops, over lists.
use Rattle.std.proofs.Common.{◌≡◌, refl, ℕ, zero, suc, ◌+◌, ◌≤◌, ◌<◌, min, Bool, true, false, cond, Option, Some, None, List, [], ◌∷◌, ◌++◌, Result, Ok, Err, map, take, drop, length, get_or, ap, sym, ◌∙◌, append_assoc, append-nil, arith, subst}
use Rattle.std.specs.Prelude.{IfOk}
use Rattle.std.specs.List.{range_with_len}
use Rattle.std.proofs.lemmas.List.{map_more, map-append, take_min}
use Rattle.std.proofs.Math.ListN.{get_or-map, length-map}
use Rattle.scalar_vector.proofs.Fronts.{rebuilt-snoc}
use Rattle.std.proofs.lemmas.List.FromFn.{length-range_with_len, get_or-range_with_len}
use Rattle.std.proofs.Math.Seq.{take-length, drop-cons}
use Rattle.dfx_value.specs.declared.value.Value.{Value}
use Rattle.dfx_value.specs.declared.value.Value.TheVariants as value
use Rattle.dfx_value.specs.declared.fault.EvalFault.{EvalFault}
use Rattle.scalar_exprs.specs.Functions.{Outcome}
use Rattle.scalar_exprs.specs.Eval.{Gives}
use Rattle.scalar_exprs.specs.declared.refused.EvalRefused.{EvalRefused}
use Rattle.scalar_exprs.specs.declared.refused.EvalRefused.TheVariants as refused
use Rattle.scalar_vector.specs.Vectors.{StopsAt}
use Rattle.scalar_vector.specs.Fronts.{Front, before, front}
use Rattle.scalar_vector.specs.Woven.{after, zipped, marked, unmarked, woven, Level, joined, rebuilt}

-- the places of the first rows

pub take-range : (a n k : ℕ) → k ≤ n → take k (range_with_len a n) ≡ range_with_len a k
take-range a n zero h = refl
take-range a zero (suc k) h = absurd (omega arith)
take-range a (suc n) (suc k) h = ap (λ (l : List ℕ). a ∷ l) (take-range (a + 1) n k (omega arith))

pub take-range-min : (n k : ℕ) → take k (range_with_len 0 n) ≡ range_with_len 0 (min k n)
take-range-min n k = sym (take_min k (range_with_len 0 n)) ∙ ap (λ (m : ℕ). take (min k m) (range_with_len 0 n)) (length-range_with_len 0 n) ∙ take-range 0 n (min k n) (omega arith)

pub ruleset range_steps = (length-range_with_len, get_or-range_with_len, take-range-min, take_min)

pub ruleset map_steps = (map_more, take-length)

-- the first ones of a list are those at the first places
from-places : {A : Type 0} (xs : List A) (d : A) (a n : ℕ) → a + n ≤ length xs → take n (drop a xs) ≡ map (λ p. get_or xs p d) (range_with_len a n)
from-places xs d a zero h = refl
from-places xs d a (suc n) h = rw (drop-cons xs a d (omega arith)) (let e : suc a ≡ a + 1 = omega arith in ap (λ (l : List _). get_or xs a d ∷ l) (ap (λ (k : ℕ). take n (drop k xs)) e ∙ from-places xs d (a + 1) n (omega arith)))

pub first_places : {A : Type 0} (xs : List A) (d : A) (n : ℕ) → n ≤ length xs → take n xs ≡ map (λ p. get_or xs p d) (range_with_len 0 n)
first_places xs d n h = from-places xs d 0 n (omega arith)

pub beyond : (xs : List Value) (k : ℕ) → length xs ≤ k → get_or xs k value.Null ≡ value.Null
beyond [] zero h = refl
beyond [] (suc k) h = refl
beyond (x ∷ xs) zero h = absurd (omega arith)
beyond (x ∷ xs) (suc k) h = beyond xs k (omega arith)

-- marks

marked-suc : {A : Type 0} (ms : List Bool) (xs : List A) (i : ℕ) (d : A) → i < length ms → i < length xs
    → marked (take (suc i) ms) (take (suc i) xs) ≡ marked (take i ms) (take i xs) ++ cond (get_or ms i false) (get_or xs i d ∷ []) []
marked-suc [] xs i d h k = absurd (omega arith)
marked-suc (m ∷ ms) [] i d h k = absurd (omega arith)
marked-suc (true ∷ ms) (x ∷ xs) zero d h k = refl
marked-suc (false ∷ ms) (x ∷ xs) zero d h k = refl
marked-suc (true ∷ ms) (x ∷ xs) (suc i) d h k = ap (λ l. x ∷ l) (marked-suc ms xs i d (omega arith) (omega arith))
marked-suc (false ∷ ms) (x ∷ xs) (suc i) d h k = marked-suc ms xs i d (omega arith) (omega arith)

unmarked-suc : {A : Type 0} (ms : List Bool) (xs : List A) (i : ℕ) (d : A) → i < length ms → i < length xs
    → unmarked (take (suc i) ms) (take (suc i) xs) ≡ unmarked (take i ms) (take i xs) ++ cond (get_or ms i false) [] (get_or xs i d ∷ [])
unmarked-suc [] xs i d h k = absurd (omega arith)
unmarked-suc (m ∷ ms) [] i d h k = absurd (omega arith)
unmarked-suc (true ∷ ms) (x ∷ xs) zero d h k = refl
unmarked-suc (false ∷ ms) (x ∷ xs) zero d h k = refl
unmarked-suc (true ∷ ms) (x ∷ xs) (suc i) d h k = unmarked-suc ms xs i d (omega arith) (omega arith)
unmarked-suc (false ∷ ms) (x ∷ xs) (suc i) d h k = ap (λ l. x ∷ l) (unmarked-suc ms xs i d (omega arith) (omega arith))

pub marked-more : {A : Type 0} (ms : List Bool) (xs : List A) (i : ℕ) (d : A) → i < length ms → i < length xs
    → marked (take (i + 1) ms) (take (i + 1) xs) ≡ marked (take i ms) (take i xs) ++ cond (get_or ms i false) (get_or xs i d ∷ []) []
marked-more ms xs i d h k = let e : i + 1 ≡ suc i = omega arith in rw e (marked-suc ms xs i d h k)

pub unmarked-more : {A : Type 0} (ms : List Bool) (xs : List A) (i : ℕ) (d : A) → i < length ms → i < length xs
    → unmarked (take (i + 1) ms) (take (i + 1) xs) ≡ unmarked (take i ms) (take i xs) ++ cond (get_or ms i false) [] (get_or xs i d ∷ [])
unmarked-more ms xs i d h k = let e : i + 1 ≡ suc i = omega arith in rw e (unmarked-suc ms xs i d h k)

pub marked-all : {A : Type 0} (ms : List Bool) (xs : List A) (i : ℕ) → i ≡ min (length xs) (length ms) → marked (take i ms) (take i xs) ≡ marked ms xs
marked-all [] xs zero h = refl
marked-all [] xs (suc i) h = refl
marked-all (m ∷ ms) [] zero h = refl
marked-all (m ∷ ms) [] (suc i) h = absurd (omega arith)
marked-all (m ∷ ms) (x ∷ xs) zero h = absurd (omega arith)
marked-all (true ∷ ms) (x ∷ xs) (suc i) h = ap (λ l. x ∷ l) (marked-all ms xs i (omega arith))
marked-all (false ∷ ms) (x ∷ xs) (suc i) h = marked-all ms xs i (omega arith)

pub unmarked-all : {A : Type 0} (ms : List Bool) (xs : List A) (i : ℕ) → i ≡ min (length xs) (length ms) → unmarked (take i ms) (take i xs) ≡ unmarked ms xs
unmarked-all [] xs zero h = refl
unmarked-all [] xs (suc i) h = refl
unmarked-all (m ∷ ms) [] zero h = refl
unmarked-all (m ∷ ms) [] (suc i) h = absurd (omega arith)
unmarked-all (m ∷ ms) (x ∷ xs) zero h = absurd (omega arith)
unmarked-all (true ∷ ms) (x ∷ xs) (suc i) h = unmarked-all ms xs i (omega arith)
unmarked-all (false ∷ ms) (x ∷ xs) (suc i) h = ap (λ l. x ∷ l) (unmarked-all ms xs i (omega arith))

pub marked-on : {A : Type 0} (ms : List Bool) (xs : List A) (i : ℕ) (d : A) → i < length ms → i < length xs → get_or ms i false ≡ true
    → marked (take (i + 1) ms) (take (i + 1) xs) ≡ marked (take i ms) (take i xs) ++ get_or xs i d ∷ []
marked-on ms xs i d h k on = marked-more ms xs i d h k ∙ ap (λ (b : Bool). marked (take i ms) (take i xs) ++ cond b (get_or xs i d ∷ []) []) on

pub marked-off : {A : Type 0} (ms : List Bool) (xs : List A) (i : ℕ) (d : A) → i < length ms → i < length xs → get_or ms i false ≡ false
    → marked (take (i + 1) ms) (take (i + 1) xs) ≡ marked (take i ms) (take i xs)
marked-off ms xs i d h k off = marked-more ms xs i d h k ∙ ap (λ (b : Bool). marked (take i ms) (take i xs) ++ cond b (get_or xs i d ∷ []) []) off ∙ append-nil (marked (take i ms) (take i xs))

pub unmarked-on : {A : Type 0} (ms : List Bool) (xs : List A) (i : ℕ) (d : A) → i < length ms → i < length xs → get_or ms i false ≡ true
    → unmarked (take (i + 1) ms) (take (i + 1) xs) ≡ unmarked (take i ms) (take i xs)
unmarked-on ms xs i d h k on = unmarked-more ms xs i d h k ∙ ap (λ (b : Bool). unmarked (take i ms) (take i xs) ++ cond b [] (get_or xs i d ∷ [])) on ∙ append-nil (unmarked (take i ms) (take i xs))

pub unmarked-off : {A : Type 0} (ms : List Bool) (xs : List A) (i : ℕ) (d : A) → i < length ms → i < length xs → get_or ms i false ≡ false
    → unmarked (take (i + 1) ms) (take (i + 1) xs) ≡ unmarked (take i ms) (take i xs) ++ get_or xs i d ∷ []
unmarked-off ms xs i d h k off = unmarked-more ms xs i d h k ∙ ap (λ (b : Bool). unmarked (take i ms) (take i xs) ++ cond b [] (get_or xs i d ∷ [])) off

pub ruleset mark_steps = (marked-all, unmarked-all)

-- outcomes one by one

after-push : (vs : List Value) (v : Value) (f : Front) → after (vs ++ v ∷ []) f ≡ after vs (before (Ok v) f)
after-push vs v f = ap (λ (l : List Value). record { values = l; fault = f.fault }) (append_assoc vs (v ∷ []) f.values)

after-none : (vs : List Value) (fault : Option EvalFault) → record { values = vs; fault = fault } ≡ after vs (record { values = []; fault = fault })
after-none vs fault = ap (λ (l : List Value). record { values = l; fault = fault }) (sym (append-nil vs))

pub at-drop : {A : Type 0} (xs : List A) (i : ℕ) (d : A) → i < length xs → drop i xs ≡ get_or xs i d ∷ drop (i + 1) xs
at-drop xs i d h = let e : i + 1 ≡ suc i = omega arith in rw e (drop-cons xs i d h)

pub drop-all : {A : Type 0} (xs : List A) (i : ℕ) → length xs ≤ i → drop i xs ≡ []
drop-all [] zero h = refl
drop-all [] (suc i) h = refl
drop-all (x ∷ xs) zero h = absurd (omega arith)
drop-all (x ∷ xs) (suc i) h = drop-all xs i (omega arith)

pub outcome-step : (os : List Outcome) (i : ℕ) (vs : List Value) (v : Value) (d : Outcome) (whole : Front) → i < length os → get_or os i d ≡ Ok v
    → after vs (front (drop i os)) ≡ whole → after (vs ++ v ∷ []) (front (drop (i + 1) os)) ≡ whole
outcome-step os i vs v d whole within here e = after-push vs v (front (drop (i + 1) os))
    ∙ ap (λ (o : Outcome). after vs (before o (front (drop (i + 1) os)))) (sym here)
    ∙ ap (λ (l : List Outcome). after vs (front l)) (sym (at-drop os i d within)) ∙ e

pub outcome-fault : (os : List Outcome) (i : ℕ) (vs : List Value) (fault : EvalFault) (d : Outcome) (whole : Front) → i < length os → get_or os i d ≡ Err fault
    → after vs (front (drop i os)) ≡ whole → record { values = vs; fault = Some fault } ≡ whole
outcome-fault os i vs fault d whole within here e = after-none vs (Some fault)
    ∙ ap (λ (o : Outcome). after vs (before o (front (drop (i + 1) os)))) (sym here)
    ∙ ap (λ (l : List Outcome). after vs (front l)) (sym (at-drop os i d within)) ∙ e

pub outcome-stop : (os : List Outcome) (i : ℕ) (vs : List Value) (refused : EvalRefused) (d : Outcome) (whole f : Front) → i < length os → Gives {A = Value} (Err refused) (get_or os i d)
    → after vs (front (drop i os)) ≡ whole → StopsAt refused vs f → f ≡ whole
outcome-stop os i vs (refused.Fault fault) d whole f within here e stops = stops ∙ outcome-fault os i vs fault d whole within here e
outcome-stop os i vs refused.NoMemory d whole f within here e stops = absurd stops

pub outcome-end : (os : List Outcome) (i : ℕ) (vs : List Value) (whole : Front) → length os ≤ i
    → after vs (front (drop i os)) ≡ whole → record { values = vs; fault = None } ≡ whole
outcome-end os i vs whole end e = after-none vs None ∙ ap (λ (l : List Outcome). after vs (front l)) (sym (drop-all os i end)) ∙ e

pub length-zipped : (h : Value → Value → Outcome) (vs ws : List Value) → length (zipped h vs ws) ≡ min (length vs) (length ws)
length-zipped h [] ws = omega arith
length-zipped h (v ∷ vs) [] = omega arith
length-zipped h (v ∷ vs) (w ∷ ws) = let rest = length-zipped h vs ws in omega arith

pub get_or-zipped : (h : Value → Value → Outcome) (vs ws : List Value) (i : ℕ) (d : Outcome) → i < length vs → i < length ws
    → get_or (zipped h vs ws) i d ≡ h (get_or vs i value.Null) (get_or ws i value.Null)
get_or-zipped h [] ws i d k l = absurd (omega arith)
get_or-zipped h (v ∷ vs) [] i d k l = absurd (omega arith)
get_or-zipped h (v ∷ vs) (w ∷ ws) zero d k l = refl
get_or-zipped h (v ∷ vs) (w ∷ ws) (suc i) d k l = get_or-zipped h vs ws i d (omega arith) (omega arith)

-- the loop over pairs of values

pub zipped-step : (h : Value → Value → Outcome) (ls rs : List Value) (i : ℕ) (vs : List Value) (x v w : Value) (whole : Front) → i < length ls → i < length rs
    → v ≡ get_or ls i value.Null → w ≡ get_or rs i value.Null → Gives {A = Value} (Ok x) (h v w)
    → after vs (front (drop i (zipped h ls rs))) ≡ whole → after (vs ++ x ∷ []) (front (drop (i + 1) (zipped h ls rs))) ≡ whole
zipped-step h ls rs i vs x v w whole l r lv rw' here e =
    let n = length-zipped h ls rs in
    outcome-step (zipped h ls rs) i vs x (Ok value.Null) whole (omega arith) (get_or-zipped h ls rs i (Ok value.Null) l r ∙ ap (λ (a : Value). h a (get_or rs i value.Null)) (sym lv) ∙ ap (h v) (sym rw') ∙ here) e

pub zipped-stop : (h : Value → Value → Outcome) (ls rs : List Value) (i : ℕ) (vs : List Value) (refused : EvalRefused) (v w : Value) (whole f : Front) → i < length ls → i < length rs
    → v ≡ get_or ls i value.Null → w ≡ get_or rs i value.Null → Gives {A = Value} (Err refused) (h v w)
    → after vs (front (drop i (zipped h ls rs))) ≡ whole → StopsAt refused vs f → f ≡ whole
zipped-stop h ls rs i vs refused v w whole f l r lv rw' here e stops =
    let n = length-zipped h ls rs in
    outcome-stop (zipped h ls rs) i vs refused (Ok value.Null) whole f (omega arith)
    (subst (Gives {A = Value} (Err refused)) (sym (get_or-zipped h ls rs i (Ok value.Null) l r ∙ ap (λ (a : Value). h a (get_or rs i value.Null)) (sym lv) ∙ ap (h v) (sym rw'))) here) e stops

pub zipped-end : (h : Value → Value → Outcome) (ls rs : List Value) (i : ℕ) (vs : List Value) (whole : Front) → min (length ls) (length rs) ≤ i
    → after vs (front (drop i (zipped h ls rs))) ≡ whole → record { values = vs; fault = None } ≡ whole
zipped-end h ls rs i vs whole end e = let n = length-zipped h ls rs in outcome-end (zipped h ls rs) i vs whole (omega arith) e

-- the loop over values

pub mapped-step : (h : Value → Outcome) (ls : List Value) (i : ℕ) (vs : List Value) (x v : Value) (whole : Front) → i < length ls
    → v ≡ get_or ls i value.Null → Gives {A = Value} (Ok x) (h v)
    → after vs (front (drop i (map h ls))) ≡ whole → after (vs ++ x ∷ []) (front (drop (i + 1) (map h ls))) ≡ whole
mapped-step h ls i vs x v whole l lv here e =
    let n : length (map h ls) ≡ length ls = length-map ls h in
    outcome-step (map h ls) i vs x (h value.Null) whole (omega arith) (get_or-map h ls i value.Null ∙ ap h (sym lv) ∙ here) e

pub mapped-stop : (h : Value → Outcome) (ls : List Value) (i : ℕ) (vs : List Value) (refused : EvalRefused) (v : Value) (whole f : Front) → i < length ls
    → v ≡ get_or ls i value.Null → Gives {A = Value} (Err refused) (h v)
    → after vs (front (drop i (map h ls))) ≡ whole → StopsAt refused vs f → f ≡ whole
mapped-stop h ls i vs refused v whole f l lv here e stops =
    let n : length (map h ls) ≡ length ls = length-map ls h in
    outcome-stop (map h ls) i vs refused (h value.Null) whole f (omega arith)
    (subst (Gives {A = Value} (Err refused)) (sym (get_or-map h ls i value.Null ∙ ap h (sym lv))) here) e stops

pub mapped-end : (h : Value → Outcome) (ls : List Value) (i : ℕ) (vs : List Value) (whole : Front) → length ls ≤ i
    → after vs (front (drop i (map h ls))) ≡ whole → record { values = vs; fault = None } ≡ whole
mapped-end h ls i vs whole end e = let n : length (map h ls) ≡ length ls = length-map ls h in outcome-end (map h ls) i vs whole (omega arith) e

pub if_ok_more : {A E : Type 0} (P Q : A → Type 0) (r : Result A E) → ((x : A) → P x → Q x) → IfOk r P → IfOk r Q
if_ok_more P Q (Ok x) more h = more x h
if_ok_more P Q (Err e) more h = tt

-- rows put together

pub weave-taken : (ms : List Bool) (ts ns vs : List Value) (t_fault n_fault : Option EvalFault) (i j k : ℕ) (whole : Front) → i < length ms → get_or ms i false ≡ true → j < length ts
    → after vs (woven (drop i ms) (drop j ts) t_fault (drop k ns) n_fault) ≡ whole
    → after (vs ++ get_or ts j value.Null ∷ []) (woven (drop (i + 1) ms) (drop (j + 1) ts) t_fault (drop k ns) n_fault) ≡ whole
weave-taken ms ts ns vs t_fault n_fault i j k whole within mark some e =
    after-push vs (get_or ts j value.Null) (woven (drop (i + 1) ms) (drop (j + 1) ts) t_fault (drop k ns) n_fault)
    ∙ ap (λ (b : Bool). after vs (woven (b ∷ drop (i + 1) ms) (get_or ts j value.Null ∷ drop (j + 1) ts) t_fault (drop k ns) n_fault)) (sym mark)
    ∙ ap (λ (l : List Bool). after vs (woven l (get_or ts j value.Null ∷ drop (j + 1) ts) t_fault (drop k ns) n_fault)) (sym (at-drop ms i false within))
    ∙ ap (λ (l : List Value). after vs (woven (drop i ms) l t_fault (drop k ns) n_fault)) (sym (at-drop ts j value.Null some)) ∙ e

pub weave-rest : (ms : List Bool) (ts ns vs : List Value) (t_fault n_fault : Option EvalFault) (i j k : ℕ) (whole : Front) → i < length ms → get_or ms i false ≡ false → k < length ns
    → after vs (woven (drop i ms) (drop j ts) t_fault (drop k ns) n_fault) ≡ whole
    → after (vs ++ get_or ns k value.Null ∷ []) (woven (drop (i + 1) ms) (drop j ts) t_fault (drop (k + 1) ns) n_fault) ≡ whole
weave-rest ms ts ns vs t_fault n_fault i j k whole within mark some e =
    after-push vs (get_or ns k value.Null) (woven (drop (i + 1) ms) (drop j ts) t_fault (drop (k + 1) ns) n_fault)
    ∙ ap (λ (b : Bool). after vs (woven (b ∷ drop (i + 1) ms) (drop j ts) t_fault (get_or ns k value.Null ∷ drop (k + 1) ns) n_fault)) (sym mark)
    ∙ ap (λ (l : List Bool). after vs (woven l (drop j ts) t_fault (get_or ns k value.Null ∷ drop (k + 1) ns) n_fault)) (sym (at-drop ms i false within))
    ∙ ap (λ (l : List Value). after vs (woven (drop i ms) (drop j ts) t_fault l n_fault)) (sym (at-drop ns k value.Null some)) ∙ e

pub weave-taken-end : (ms : List Bool) (ts ns vs : List Value) (t_fault n_fault : Option EvalFault) (i j k : ℕ) (whole : Front) → i < length ms → get_or ms i false ≡ true → length ts ≤ j
    → after vs (woven (drop i ms) (drop j ts) t_fault (drop k ns) n_fault) ≡ whole → record { values = vs; fault = t_fault } ≡ whole
weave-taken-end ms ts ns vs t_fault n_fault i j k whole within mark none e = after-none vs t_fault
    ∙ ap (λ (b : Bool). after vs (woven (b ∷ drop (i + 1) ms) [] t_fault (drop k ns) n_fault)) (sym mark)
    ∙ ap (λ (l : List Bool). after vs (woven l [] t_fault (drop k ns) n_fault)) (sym (at-drop ms i false within))
    ∙ ap (λ (l : List Value). after vs (woven (drop i ms) l t_fault (drop k ns) n_fault)) (sym (drop-all ts j none)) ∙ e

pub weave-rest-end : (ms : List Bool) (ts ns vs : List Value) (t_fault n_fault : Option EvalFault) (i j k : ℕ) (whole : Front) → i < length ms → get_or ms i false ≡ false → length ns ≤ k
    → after vs (woven (drop i ms) (drop j ts) t_fault (drop k ns) n_fault) ≡ whole → record { values = vs; fault = n_fault } ≡ whole
weave-rest-end ms ts ns vs t_fault n_fault i j k whole within mark none e = after-none vs n_fault
    ∙ ap (λ (b : Bool). after vs (woven (b ∷ drop (i + 1) ms) (drop j ts) t_fault [] n_fault)) (sym mark)
    ∙ ap (λ (l : List Bool). after vs (woven l (drop j ts) t_fault [] n_fault)) (sym (at-drop ms i false within))
    ∙ ap (λ (l : List Value). after vs (woven (drop i ms) (drop j ts) t_fault l n_fault)) (sym (drop-all ns k none)) ∙ e

pub weave-end : (ms : List Bool) (ts ns vs : List Value) (t_fault n_fault : Option EvalFault) (i : ℕ) (whole : Front) → length ms ≤ i
    → after vs (woven (drop i ms) ts t_fault ns n_fault) ≡ whole → record { values = vs; fault = None } ≡ whole
weave-end ms ts ns vs t_fault n_fault i whole end e = after-none vs None
    ∙ ap (λ (l : List Bool). after vs (woven l ts t_fault ns n_fault)) (sym (drop-all ms i end)) ∙ e

-- arms one inside the other

pub rebuilt-pop : {X : Type 0} (f : X → Level) (xs ys : List X) (x : X) (rest next whole : Front) → xs ≡ ys ++ x ∷ [] → next ≡ joined (f x) rest
    → rebuilt (map f xs) rest ≡ whole → rebuilt (map f ys) next ≡ whole
rebuilt-pop f xs ys x rest next whole split here e = ap (rebuilt (map f ys)) here ∙ sym (rebuilt-snoc (map f ys) (f x) rest)
    ∙ ap (λ (l : List Level). rebuilt l rest) (sym (map-append f ys (x ∷ [])) ∙ ap (map f) (sym split)) ∙ e
