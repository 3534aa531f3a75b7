-- Masks: one more item, the item at a place, a longer mask.
use Rattle.std.proofs.Common.{◌≡◌, refl, ℕ, zero, suc, ◌+◌, ◌-◌, ◌<◌, ◌≤◌, min, Bool, true, false, List, [], ◌∷◌, ◌++◌, length, get_or, take, drop, map, ap, sym, ◌∙◌, arith, Option, Some, None}
use Rattle.std.specs.Prelude.{replicate, slice_range}
use Rattle.value_columns.specs.Masked.{unless, masked, picked}
use Rattle.std.proofs.lemmas.List.{map_more, take_all, take_min, drop_all, length-take, length-drop}

pub length-masked : {A : Type 0} (xs : List A) (bs : List Bool) → length (masked xs bs) ≡ length xs
length-masked [] bs = refl
length-masked (x ∷ xs) [] = ap suc (length-masked xs [])
length-masked (x ∷ xs) (b ∷ bs) = ap suc (length-masked xs bs)

pub masked-at : {A : Type 0} (xs : List A) (bs : List Bool) (i : ℕ) (d : A) (e : Option A)
    → i < length xs → get_or (masked xs bs) i e ≡ unless (get_or bs i false) (get_or xs i d)
masked-at [] bs i d e h = absurd (omega arith)
masked-at (x ∷ xs) [] zero d e h = refl
masked-at (x ∷ xs) [] (suc i) d e h = masked-at xs [] i d e (omega arith)
masked-at (x ∷ xs) (b ∷ bs) zero d e h = refl
masked-at (x ∷ xs) (b ∷ bs) (suc i) d e h = masked-at xs bs i d e (omega arith)

-- past the mask there is no NULL
pub masked-push : {A : Type 0} (xs : List A) (bs : List Bool) (x : A)
    → length bs ≤ length xs → masked (xs ++ x ∷ []) bs ≡ masked xs bs ++ Some x ∷ []
masked-push [] [] x h = refl
masked-push [] (b ∷ bs) x h = absurd (omega arith)
masked-push (y ∷ xs) [] x h = ap (λ t. Some y ∷ t) (masked-push xs [] x (omega arith))
masked-push (y ∷ xs) (b ∷ bs) x h = ap (λ t. unless b y ∷ t) (masked-push xs bs x (omega arith))

pub masked-push_null : {A : Type 0} (xs : List A) (bs : List Bool) (x : A)
    → length bs ≡ length xs → masked (xs ++ x ∷ []) (bs ++ true ∷ []) ≡ masked xs bs ++ None ∷ []
masked-push_null [] [] x h = refl
masked-push_null [] (b ∷ bs) x h = absurd (omega arith)
masked-push_null (y ∷ xs) [] x h = absurd (omega arith)
masked-push_null (y ∷ xs) (b ∷ bs) x h = ap (λ t. unless b y ∷ t) (masked-push_null xs bs x (omega arith))

-- false bits at the end of a mask say nothing
pub masked-padded : {A : Type 0} (xs : List A) (bs : List Bool) (n : ℕ) → masked xs (bs ++ replicate n false) ≡ masked xs bs
masked-padded [] bs n = refl
masked-padded (x ∷ xs) [] zero = refl
masked-padded (x ∷ xs) [] (suc n) = ap (λ t. Some x ∷ t) (masked-padded xs [] n)
masked-padded (x ∷ xs) (b ∷ bs) n = ap (λ t. unless b x ∷ t) (masked-padded xs bs n)

pub masked-null : {A : Type 0} (xs : List A) (bs : List Bool) (i : ℕ)
    → i < length xs → get_or bs i false ≡ true → get_or (masked xs bs) i None ≡ None
masked-null [] bs i h e = absurd (omega arith)
masked-null (x ∷ xs) [] i h e = cc
masked-null (x ∷ xs) (b ∷ bs) zero h e = ap (λ c. unless c x) e
masked-null (x ∷ xs) (b ∷ bs) (suc i) h e = masked-null xs bs i (omega arith) e

pub masked-item : {A : Type 0} (xs : List A) (bs : List Bool) (i : ℕ) (y : A)
    → i < length xs → get_or bs i false ≡ false → y ≡ get_or xs i y → get_or (masked xs bs) i None ≡ Some y
masked-item [] bs i y h e is = absurd (omega arith)
masked-item (x ∷ xs) [] zero y h e is = ap Some (sym is)
masked-item (x ∷ xs) [] (suc i) y h e is = masked-item xs [] i y (omega arith) refl is
masked-item (x ∷ xs) (b ∷ bs) zero y h e is = ap (λ c. unless c x) e ∙ ap Some (sym is)
masked-item (x ∷ xs) (b ∷ bs) (suc i) y h e is = masked-item xs bs i y (omega arith) e is

pub ruleset masked_steps = (length-masked, masked-push, masked-push_null, masked-padded)

pub picked_one : {A : Type 0} (xs : List (Option A)) (from : ℕ) (ps : List ℕ) (i : ℕ)
    → i < length ps → picked xs from (take (i + 1) ps) ≡ picked xs from (take i ps) ++ get_or xs (from + get_or ps i 0) None ∷ []
picked_one xs from ps i h = map_more (λ p. get_or xs (from + p) None) ps i 0 h

-- one more place
pub picked_more : {A : Type 0} (xs ys : List A) (from : ℕ) (ps : List ℕ) (i : ℕ) (x : A)
    → i < length ps → from + get_or ps i 0 < length xs → x ≡ get_or xs (from + get_or ps i 0) x
    → masked ys [] ≡ picked (masked xs []) from (take i ps) → masked (ys ++ x ∷ []) [] ≡ picked (masked xs []) from (take (i + 1) ps)
picked_more xs ys from ps i x h l is so_far =
    masked-push ys [] x (omega arith)
    ∙ ap (λ t. t ++ Some x ∷ []) so_far
    ∙ ap (λ y. picked (masked xs []) from (take i ps) ++ y ∷ []) (sym (masked-item xs [] (from + get_or ps i 0) x l refl is))
    ∙ sym (picked_one (masked xs []) from ps i h)

pub ruleset picked_steps = (picked_one, length-masked)

-- a part of a mask that may end before the part
pub part-min : (bs : List Bool) (a b : ℕ) → a ≤ b
    → take (min b (length bs) - min a (length bs)) (drop (min a (length bs)) bs) ≡ take (b - a) (drop a bs)
part-min bs zero b h =
    let from : min 0 (length bs) ≡ 0 = omega arith in
    ap (λ n. take (min b (length bs) - n) (drop n bs)) from ∙ ap (λ n. take n bs) {x = min b (length bs) - 0} {y = min b (length bs)} (omega arith) ∙ take_min b bs
    ∙ ap (λ n. take n bs) {x = b} {y = b - 0} (omega arith)
part-min [] (suc a) b h =
    ap (λ n. take (min b 0 - n) (drop n [])) {x = min (suc a) 0} {y = 0} (omega arith) ∙ take_all (min b 0 - 0) [] (omega arith) ∙ sym (take_all (b - suc a) [] (omega arith))
part-min (x ∷ bs) (suc a) zero h = absurd (omega arith)
part-min (x ∷ bs) (suc a) (suc b) h =
    ap (λ n. take (min (suc b) (length (x ∷ bs)) - n) (drop n (x ∷ bs))) {x = min (suc a) (length (x ∷ bs))} {y = suc (min a (length bs))} (omega arith)
    ∙ ap (λ n. take n (drop (min a (length bs)) bs)) {x = min (suc b) (length (x ∷ bs)) - suc (min a (length bs))} {y = min b (length bs) - min a (length bs)} (omega arith)
    ∙ part-min bs a b (omega arith)
    ∙ ap (λ n. take n (drop a bs)) {x = b - a} {y = suc b - suc a} (omega arith)

pub ruleset part_steps = (part-min)

masked-drop : {A : Type 0} (n : ℕ) (xs : List A) (bs : List Bool) → masked (drop n xs) (drop n bs) ≡ drop n (masked xs bs)
masked-drop zero xs bs = refl
masked-drop (suc n) [] bs = refl
masked-drop (suc n) (x ∷ xs) [] = ap (masked (drop n xs)) (sym (drop_all n [] (omega arith))) ∙ masked-drop n xs []
masked-drop (suc n) (x ∷ xs) (b ∷ bs) = masked-drop n xs bs

masked-take : {A : Type 0} (n : ℕ) (xs : List A) (bs : List Bool) → masked (take n xs) (take n bs) ≡ take n (masked xs bs)
masked-take zero xs bs = refl
masked-take (suc n) [] bs = refl
masked-take (suc n) (x ∷ xs) [] = ap (λ t. Some x ∷ t) (ap (masked (take n xs)) (sym (take_all n [] (omega arith))) ∙ masked-take n xs [])
masked-take (suc n) (x ∷ xs) (b ∷ bs) = ap (λ t. unless b x ∷ t) (masked-take n xs bs)

-- a part of items with the same part of their mask
pub masked-part : {A : Type 0} (xs : List A) (bs : List Bool) (a b : ℕ)
    → masked (slice_range xs a b) (slice_range bs a b) ≡ slice_range (masked xs bs) a b
masked-part xs bs a b = masked-take (b - a) (drop a xs) (drop a bs) ∙ ap (take (b - a)) (masked-drop a xs bs)

-- a part of a mask is no longer than that of its items
pub part-within : {A : Type 0} (xs : List A) (bs : List Bool) (a b : ℕ) → length bs ≤ length xs → length (slice_range bs a b) ≤ length (slice_range xs a b)
part-within xs bs a b h = omega (arith, length-take (b - a) (drop a xs), length-drop a xs, length-take (b - a) (drop a bs), length-drop a bs)

pub ruleset masked_parts = (length-masked, masked-part, part-within)

-- more items without a mask
pub masked-more : {A : Type 0} (xs ys : List A) (bs : List Bool)
    → length bs ≤ length xs → masked (xs ++ ys) bs ≡ masked xs bs ++ masked ys []
masked-more [] ys [] h = refl
masked-more [] ys (b ∷ bs) h = absurd (omega arith)
masked-more (x ∷ xs) ys [] h = ap (λ t. Some x ∷ t) (masked-more xs ys [] (omega arith))
masked-more (x ∷ xs) ys (b ∷ bs) h = ap (λ t. unless b x ∷ t) (masked-more xs ys bs (omega arith))

-- more items whose mask is empty
pub masked-more_none : {A : Type 0} (xs ys : List A) (bs cs : List Bool)
    → length bs ≤ length xs → length cs ≡ 0 → masked (xs ++ ys) bs ≡ masked xs bs ++ masked ys cs
masked-more_none xs ys bs [] h e = masked-more xs ys bs h
masked-more_none xs ys bs (c ∷ cs) h e = absurd (omega arith)

-- more items with their mask, behind a mask that is as long as its items
pub masked-more_masked : {A : Type 0} (xs ys : List A) (bs cs : List Bool)
    → length bs ≡ length xs → masked (xs ++ ys) (bs ++ cs) ≡ masked xs bs ++ masked ys cs
masked-more_masked [] ys [] cs h = refl
masked-more_masked [] ys (b ∷ bs) cs h = absurd (omega arith)
masked-more_masked (x ∷ xs) ys [] cs h = absurd (omega arith)
masked-more_masked (x ∷ xs) ys (b ∷ bs) cs h = ap (λ t. unless b x ∷ t) (masked-more_masked xs ys bs cs (omega arith))

-- a part of other items behind a mask that was filled up
pub masked-extended : {A : Type 0} (xs ys : List A) (bs ds cs : List Bool) (a b n : ℕ) → ds ≡ bs ++ replicate n false → length ds ≡ length xs
    → masked (xs ++ slice_range ys a b) (ds ++ slice_range cs a b) ≡ masked xs bs ++ slice_range (masked ys cs) a b
masked-extended xs ys bs ds cs a b n is len =
    masked-more_masked xs (slice_range ys a b) ds (slice_range cs a b) len
    ∙ ap (λ t. masked xs t ++ masked (slice_range ys a b) (slice_range cs a b)) is
    ∙ ap (λ t. t ++ masked (slice_range ys a b) (slice_range cs a b)) (masked-padded xs bs n)
    ∙ ap (λ t. masked xs bs ++ t) (masked-part ys cs a b)

-- a part of other items without NULL
pub masked-extended_none : {A : Type 0} (xs ys : List A) (bs cs : List Bool) (a b : ℕ) → length bs ≤ length xs → length (slice_range cs a b) ≡ 0
    → masked (xs ++ slice_range ys a b) bs ≡ masked xs bs ++ slice_range (masked ys cs) a b
masked-extended_none xs ys bs cs a b h e =
    masked-more_none xs (slice_range ys a b) bs (slice_range cs a b) h e ∙ ap (λ t. masked xs bs ++ t) (masked-part ys cs a b)

pub ruleset text_steps = (length-masked, masked-padded, masked-extended, masked-extended_none)

pub ruleset extend_steps = (length-masked, masked-padded, masked-more_none, masked-more_masked)
