-- Parts of a block, and a block of which a part was moved.
use Rattle.std.proofs.Common.{◌≡◌, refl, ℕ, ◌+◌, ◌-◌, ◌≤◌, ◌<◌, List, [], ◌++◌, length, take, drop, ap, sym, ◌∙◌, arith, length-append}
use Rattle.std.specs.Prelude.{slice_range}
use Rattle.std.proofs.Math.Seq.{take-add}
use Rattle.std.proofs.lemmas.List.{take-take, take_all, drop-take, drop-drop, length-drop, length-take-le, take-append-le, drop-append-le}
use Rattle.csv_records.specs.Windows.{Bytes, Begins}

pub length-part : (xs : List ℕ) (i j : ℕ) → i ≤ j → j ≤ length xs → length (slice_range xs i j) ≡ j - i
length-part xs i j h l = length-take-le (j - i) (drop i xs) (omega (arith, length-drop i xs))

-- a part of a front
pub part_of_front : (xs : List ℕ) (i j n : ℕ) → i ≤ j → j ≤ n → slice_range (take n xs) i j ≡ slice_range xs i j
part_of_front xs i j n h l =
    let whole : n ≡ i + (n - i) = omega arith in
    ap (λ k. take (j - i) (drop i (take k xs))) whole
    ∙ ap (take (j - i)) (drop-take i (n - i) xs)
    ∙ take-take (j - i) (n - i) (drop i xs) (omega arith)

-- two parts that meet
pub part_joined : (xs : List ℕ) (i j k : ℕ) → i ≤ j → j ≤ k → slice_range xs i k ≡ slice_range xs i j ++ slice_range xs j k
part_joined xs i j k h l =
    let whole : k - i ≡ (j - i) + (k - j) = omega arith in
    let behind : i + (j - i) ≡ j = omega arith in
    ap (λ n. take n (drop i xs)) whole
    ∙ take-add (j - i) (k - j) (drop i xs)
    ∙ ap (λ (ys : List ℕ). take (j - i) (drop i xs) ++ take (k - j) ys) (drop-drop (j - i) i xs ∙ ap (λ n. drop n xs) behind)

pub take_part : (xs : List ℕ) (i j n : ℕ) → i + n ≤ j → take n (slice_range xs i j) ≡ slice_range xs i (i + n)
take_part xs i j n h =
    let few : i + n - i ≡ n = omega arith in
    take-take n (j - i) (drop i xs) (omega arith) ∙ ap (λ k. take k (drop i xs)) (sym few)

pub drop_part : (xs : List ℕ) (i j n : ℕ) → i + n ≤ j → drop n (slice_range xs i j) ≡ slice_range xs (i + n) j
drop_part xs i j n h =
    let whole : j - i ≡ n + (j - (i + n)) = omega arith in
    ap (λ k. drop n (take k (drop i xs))) whole
    ∙ drop-take n (j - (i + n)) (drop i xs)
    ∙ ap (take (j - (i + n))) (drop-drop n i xs)

-- the end of a front with something behind it
behind : (xs ys : List ℕ) (i n : ℕ) → i ≤ length xs → n ≡ length xs + length ys → slice_range (xs ++ ys) i n ≡ drop i xs ++ ys
behind xs ys i n h e =
    ap (take (n - i)) (drop-append-le i xs ys h)
    ∙ take_all (n - i) (drop i xs ++ ys) (omega (arith, length-append (drop i xs) ys, length-drop i xs))

pub end_of_front : (xs : List ℕ) (i n : ℕ) → i ≤ n → drop i (take n xs) ≡ slice_range xs i n
end_of_front xs i n h =
    let whole : n ≡ i + (n - i) = omega arith in
    ap (λ k. drop i (take k xs)) whole ∙ drop-take i (n - i) xs

-- so many bytes more are kept, where they stand behind the kept ones or were moved there
pub kept_more : (b c : List ℕ) (base w n to k : ℕ) → base ≤ w → w ≤ n → n + k ≤ to → to ≤ length b
    → take (w + k) c ≡ take w b ++ slice_range b n (n + k) → slice_range c base (w + k) ≡ slice_range b base w ++ take k (slice_range b n to)
kept_more b c base w n to k h gap l within moved =
    let front : length (take w b) ≡ w = length-take-le w b (omega arith) in
    let size : length (slice_range b n (n + k)) ≡ n + k - n = length-part b n (n + k) (omega arith) (omega arith) in
    sym (part_of_front c base (w + k) (w + k) (omega arith) (omega arith))
    ∙ ap (λ (xs : List ℕ). slice_range xs base (w + k)) moved
    ∙ behind (take w b) (slice_range b n (n + k)) base (w + k) (omega arith) (omega arith)
    ∙ ap (λ (xs : List ℕ). xs ++ slice_range b n (n + k)) (end_of_front b base w h)
    ∙ ap (λ (xs : List ℕ). slice_range b base w ++ xs) (sym (take_part b n to k l))

pub ahead_after : (b c : List ℕ) (w n to k : ℕ) → w ≤ n → n + k ≤ to → drop (w + k) c ≡ drop (w + k) b
    → slice_range c (n + k) to ≡ drop k (slice_range b n to)
ahead_after b c w n to k gap l rest =
    let on : w + k + (n - w) ≡ n + k = omega arith in
    let same : drop (n + k) c ≡ drop (n + k) b =
    ap (λ i. drop i c) (sym on) ∙ sym (drop-drop (n - w) (w + k) c) ∙ ap (drop (n - w)) rest ∙ drop-drop (n - w) (w + k) b ∙ ap (λ i. drop i b) on in
    ap (take (to - (n + k))) same ∙ sym (drop_part b n to k l)

-- bytes that stay where they are
pub stays : (b : List ℕ) (n k : ℕ) → take (n + k) b ≡ take n b ++ slice_range b n (n + k)
stays b n k =
    let few : n + k - n ≡ k = omega arith in
    take-add n k b ∙ ap (λ i. take n b ++ take i (drop n b)) (sym few)

-- a front with the next part behind it
pub front_more : (v b : List ℕ) (n k : ℕ) → take n b ≡ take n v → slice_range b n (n + k) ≡ take k (drop n v) → take (n + k) b ≡ take (n + k) v
front_more v b n k front part =
    stays b n k
    ∙ ap (λ (xs : List ℕ). xs ++ slice_range b n (n + k)) front
    ∙ ap (λ (xs : List ℕ). take n v ++ xs) part
    ∙ sym (take-add n k v)

pub begins_part : (b : List ℕ) (base w n : ℕ) → base ≤ w → w ≤ n → n ≤ length b → Begins (slice_range b base w) (slice_range b base n)
begins_part b base w n h l within =
    let size : length (slice_range b base w) ≡ w - base = length-part b base w h (omega arith) in
    let ends : base + (w - base) ≡ w = omega arith in
    record { is = ap (λ k. take k (slice_range b base n)) size ∙ take_part b base n (w - base) (omega arith) ∙ ap (slice_range b base) ends }

pub part_none : (b : List ℕ) (i : ℕ) → slice_range b i i ≡ []
part_none b i = ap (λ k. take k (drop i b)) {x = i - i} {y = 0} (omega arith)

-- a list that was written as a slice of all of it
pub whole_written : (n : ℕ) (now old : List ℕ) → length now ≡ length old → n ≡ length old → take n (now ++ drop (length now) old) ≡ now
whole_written n now old same size = take-append-le n now (drop (length now) old) (omega arith) ∙ take_all n now (omega arith)

-- how many bytes come next
ahead_length : (old : Bytes) (b : List ℕ) (base w n to at : ℕ) → old ≡ record { kept = slice_range b base w; ahead = slice_range b n to; at = at }
    → n ≤ to → to ≤ length b → length old.ahead ≡ to - n
ahead_length old b base w n to at e order within = ap (λ (o : Bytes). length o.ahead) e ∙ length-part b n to order within

pub skips : (old : Bytes) (b : List ℕ) (base w n to at : ℕ) → old ≡ record { kept = slice_range b base w; ahead = slice_range b n to; at = at }
    → n ≤ to → to ≤ length b → 0 < length old.ahead
    → ◌≡◌ {A = Bytes} (record { kept = slice_range b base w; ahead = slice_range b (n + 1) to; at = at }) (record { kept = old.kept; ahead = drop 1 old.ahead; at = old.at })
skips old b base w n to at e order within some =
    let size : length old.ahead ≡ to - n = ahead_length old b base w n to at e order within in
    rw (e, drop_part b n to 1 (omega arith)) refl

pub keeps : (old : Bytes) (b c : List ℕ) (base w n to at k : ℕ) → old ≡ record { kept = slice_range b base w; ahead = slice_range b n to; at = at }
    → base ≤ w → w ≤ n → n ≤ to → to ≤ length b → k ≤ length old.ahead
    → take (w + k) c ≡ take w b ++ slice_range b n (n + k) → slice_range c base (w + k) ≡ old.kept ++ take k old.ahead
keeps old b c base w n to at k e kept gap order within few moved =
    let size : length old.ahead ≡ to - n = ahead_length old b base w n to at e order within in
    rw e (kept_more b c base w n to k kept gap (omega arith) within moved)

pub goes_on : (old : Bytes) (b c : List ℕ) (base w n to at k : ℕ) → old ≡ record { kept = slice_range b base w; ahead = slice_range b n to; at = at }
    → w ≤ n → n ≤ to → to ≤ length b → k ≤ length old.ahead → drop (w + k) c ≡ drop (w + k) b
    → slice_range c (n + k) to ≡ drop k old.ahead
goes_on old b c base w n to at k e gap order within few rest =
    let size : length old.ahead ≡ to - n = ahead_length old b base w n to at e order within in
    rw e (ahead_after b c w n to k gap (omega arith) rest)

pub ruleset window_steps = (length-part, kept_more, ahead_after, begins_part, part_none)

-- a part of a block that is moved within it, or stays
pub ruleset move_steps = (whole_written, stays)
