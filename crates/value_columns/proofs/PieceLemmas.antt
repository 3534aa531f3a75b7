-- Texts in one buffer: one more, a part of another's more, and the one at a place.
use Rattle.std.proofs.Common.{All, IsUtf8, subst, ◌≡◌, refl, ℕ, zero, suc, ◌+◌, ◌-◌, ◌<◌, ◌≤◌, List, [], ◌∷◌, ◌++◌, length, get_or, take, drop, map, ap, sym, ◌∙◌, arith, length-append}
use Rattle.std.specs.Prelude.{slice_range}
use Rattle.std.proofs.lemmas.List.{take-append-le, drop-append-le, length-drop, length-take-le, take-take, drop-drop, drop-take, map_more}
use Rattle.std.proofs.lemmas.List.Elements.{All-append, All-take, All-drop}
use Rattle.std.proofs.Math.Seq.{drop-append_seam, take-length}
use Rattle.value_columns.specs.Pieces.{pieces, Chained, start, moved, Holds}

pub length-pieces : (b : List ℕ) (from : ℕ) (es : List ℕ) → length (pieces b from es) ≡ length es
length-pieces b from [] = refl
length-pieces b from (e ∷ es) = ap suc (length-pieces b e es)

pub chained-end : (from : ℕ) (es : List ℕ) (total : ℕ) → Chained from es total → from ≤ total
chained-end from [] total h = omega arith
chained-end from (e ∷ es) total h = omega (arith, chained-end e es total h.1, h.0)

start-cons : (e : ℕ) (es : List ℕ) (i : ℕ) → get_or (e ∷ es) i 0 ≡ start e es i
start-cons e es zero = refl
start-cons e es (suc i) = refl

pub start_le : (from : ℕ) (es : List ℕ) (total i : ℕ) → Chained from es total → i < length es → start from es i ≤ get_or es i 0
start_le from [] total i h l = absurd (omega arith)
start_le from (e ∷ es) total zero h l = h.0
start_le from (e ∷ es) total (suc i) h l = rw (start-cons e es i) (start_le e es total i h.1 (omega arith))

pub end_le : (from : ℕ) (es : List ℕ) (total i : ℕ) → Chained from es total → i < length es → get_or es i 0 ≤ total
end_le from [] total i h l = absurd (omega arith)
end_le from (e ∷ es) total zero h l = chained-end e es total h.1
end_le from (e ∷ es) total (suc i) h l = end_le e es total i h.1 (omega arith)

pub pieces-at : (b : List ℕ) (from : ℕ) (es : List ℕ) (i : ℕ) (d : List ℕ)
    → i < length es → get_or (pieces b from es) i d ≡ slice_range b (start from es i) (get_or es i 0)
pieces-at b from [] i d h = absurd (omega arith)
pieces-at b from (e ∷ es) zero d h = refl
pieces-at b from (e ∷ es) (suc i) d h = pieces-at b e es i d (omega arith) ∙ ap (λ k. slice_range b k (get_or es i 0)) (sym (start-cons e es i))

pub chained-push : (from : ℕ) (es : List ℕ) (total n : ℕ) → Chained from es total → Chained from (es ++ (total + n) ∷ []) (total + n)
chained-push from [] total n h = (omega arith, refl)
chained-push from (e ∷ es) total n h = (h.0, chained-push e es total n h.1)

-- a part of the old buffer is the same part of the longer one
same_part : (b t : List ℕ) (i j : ℕ) → i ≤ j → j ≤ length b → slice_range (b ++ t) i j ≡ slice_range b i j
same_part b t i j h l =
    ap (take (j - i)) (drop-append-le i b t (omega arith)) ∙ take-append-le (j - i) (drop i b) t (omega (arith, length-drop i b))

last_part : (b t : List ℕ) → slice_range (b ++ t) (length b) (length b + length t) ≡ t
last_part b t =
    let n : length b + length t - length b ≡ length t = omega arith in
    ap (take (length b + length t - length b)) (drop-append_seam b t) ∙ ap (λ k. take k t) n ∙ take-length t

pub pieces-push : (b : List ℕ) (from : ℕ) (es : List ℕ) (t : List ℕ)
    → Chained from es (length b) → pieces (b ++ t) from (es ++ (length b + length t) ∷ []) ≡ pieces b from es ++ t ∷ []
pieces-push b from [] t h = ap (λ x. x ∷ []) (ap (λ k. slice_range (b ++ t) k (length b + length t)) h ∙ last_part b t)
pieces-push b from (e ∷ es) t h =
    let same : slice_range (b ++ t) from e ≡ slice_range b from e = same_part b t from e h.0 (chained-end e es (length b) h.1) in
    let rest : pieces (b ++ t) e (es ++ (length b + length t) ∷ []) ≡ pieces b e es ++ t ∷ [] = pieces-push b e es t h.1 in
    cc

pub All-one : {X : Type 0} (P : X → Type 0) (x : X) → P x → All P (x ∷ [])
All-one P x h zero d l = h
All-one P x h (suc k) d l = absurd (omega arith)

pub holds-push : (b es t : List ℕ) → Holds b es → IsUtf8 t → Holds (b ++ t) (es ++ (length b + length t) ∷ [])
holds-push b es t h u = record {
  chained = let P : ℕ → Type 0 = λ n. Chained 0 (es ++ (length b + length t) ∷ []) n in subst P (sym (length-append b t)) (chained-push 0 es (length b) (length t) h.chained);
  texts = let P : List (List ℕ) → Type 0 = λ l. All IsUtf8 l in
      subst P (sym (pieces-push b 0 es t h.chained)) (All-append IsUtf8 (pieces b 0 es) (t ∷ []) h.texts (All-one IsUtf8 t u));
}

pub ruleset piece_steps = (length-pieces, start_le, end_le, pieces-at, pieces-push, chained-push)

pub moved_more : (from base : ℕ) (es : List ℕ) (i : ℕ) → i < length es
    → moved from base (take (i + 1) es) ≡ moved from base (take i es) ++ (base + (get_or es i 0 - from)) ∷ []
moved_more from base es i h = map_more (λ e. base + (e - from)) es i 0 h

-- ends from a place on, and up to a place
start-next : (from e : ℕ) (es : List ℕ) (i : ℕ) → start from (e ∷ es) (suc i) ≡ start e es i
start-next from e es zero = refl
start-next from e es (suc i) = refl

pub chained-drop : (from : ℕ) (es : List ℕ) (total i : ℕ) → Chained from es total → i ≤ length es → Chained (start from es i) (drop i es) total
chained-drop from es total zero h l = h
chained-drop from [] total (suc i) h l = absurd (omega arith)
chained-drop from (e ∷ es) total (suc i) h l =
    let P : ℕ → Type 0 = λ n. Chained n (drop i es) total in
    subst P (sym (start-next from e es i)) (chained-drop e es total i h.1 (omega arith))

pub chained-take : (from : ℕ) (es : List ℕ) (total i : ℕ) → Chained from es total → i ≤ length es → Chained from (take i es) (start from es i)
chained-take from es total zero h l = refl
chained-take from [] total (suc i) h l = absurd (omega arith)
chained-take from (e ∷ es) total (suc i) h l =
    let P : ℕ → Type 0 = λ n. Chained e (take i es) n in
    (h.0, subst P (sym (start-next from e es i)) (chained-take e es total i h.1 (omega arith)))

-- the end at a place further on
start-drop : (from : ℕ) (es : List ℕ) (a b : ℕ) → a ≤ b → b ≤ length es → start (start from es a) (drop a es) (b - a) ≡ start from es b
start-drop from es zero b h l = ap (start from es) {x = b - 0} {y = b} (omega arith)
start-drop from [] (suc a) b h l = absurd (omega arith)
start-drop from (e ∷ es) (suc a) zero h l = absurd (omega arith)
start-drop from (e ∷ es) (suc a) (suc b) h l =
    ap (λ n. start n (drop a es) (suc b - suc a)) (start-next from e es a)
    ∙ ap (start (start e es a) (drop a es)) {x = suc b - suc a} {y = b - a} (omega arith)
    ∙ start-drop e es a b (omega arith) (omega arith)
    ∙ sym (start-next from e es b)

pub chained-part : (es : List ℕ) (total a b : ℕ) → Chained 0 es total → a ≤ b → b ≤ length es
    → Chained (start 0 es a) (slice_range es a b) (start 0 es b)
chained-part es total a b h l m =
    let P : ℕ → Type 0 = λ n. Chained (start 0 es a) (take (b - a) (drop a es)) n in
    subst P (start-drop 0 es a b l m) (chained-take (start 0 es a) (drop a es) total (b - a) (chained-drop 0 es total a h (omega arith)) (omega (arith, length-drop a es)))

pub chained-append : (from : ℕ) (es gs : List ℕ) (mid total : ℕ) → Chained from es mid → Chained mid gs total → Chained from (es ++ gs) total
chained-append from [] gs mid total h k = let P : ℕ → Type 0 = λ n. Chained n gs total in subst P (sym h) k
chained-append from (e ∷ es) gs mid total h k = (h.0, chained-append e es gs mid total h.1 k)

pub chained-moved : (s from base : ℕ) (es : List ℕ) (total : ℕ) → s ≤ from → Chained from es total
    → Chained (base + (from - s)) (moved s base es) (base + (total - s))
chained-moved s from base [] total h k = ap (λ n. base + (n - s)) k
chained-moved s from base (e ∷ es) total h k = let le : from ≤ e = k.0 in (omega arith, chained-moved s e base es total (omega arith) k.1)

-- all ends lie between the start and the total
pub chained-above : (from : ℕ) (es : List ℕ) (total : ℕ) → Chained from es total → All (λ e. from ≤ e) es
chained-above from [] total h k d l = absurd (omega arith)
chained-above from (e ∷ es) total h zero d l = h.0
chained-above from (e ∷ es) total h (suc k) d l = let le : from ≤ e = h.0 in omega (arith, chained-above e es total h.1 k d (omega arith))

pub chained-below : (from : ℕ) (es : List ℕ) (total : ℕ) → Chained from es total → All (λ e. e ≤ total) es
chained-below from [] total h k d l = absurd (omega arith)
chained-below from (e ∷ es) total h zero d l = chained-end e es total h.1
chained-below from (e ∷ es) total h (suc k) d l = chained-below e es total h.1 k d (omega arith)

-- the parts of the longer buffer
pub pieces-append : (b t : List ℕ) (from : ℕ) (es gs : List ℕ) → Chained from es (length b)
    → pieces (b ++ t) from (es ++ gs) ≡ pieces b from es ++ pieces (b ++ t) (length b) gs
pieces-append b t from [] gs h = ap (λ n. pieces (b ++ t) n gs) h
pieces-append b t from (e ∷ es) gs h =
    let same : slice_range (b ++ t) from e ≡ slice_range b from e = same_part b t from e h.0 (chained-end e es (length b) h.1) in
    let rest : pieces (b ++ t) e (es ++ gs) ≡ pieces b e es ++ pieces (b ++ t) (length b) gs = pieces-append b t e es gs h.1 in
    cc

-- a part of what was put behind a buffer
moved_part : (b c : List ℕ) (s e i j : ℕ) → s ≤ i → i ≤ j → j ≤ e → e ≤ length c
    → slice_range (b ++ slice_range c s e) (length b + (i - s)) (length b + (j - s)) ≡ slice_range c i j
moved_part b c s e i j h l m n =
    let width : length b + (j - s) - (length b + (i - s)) ≡ j - i = omega arith in
    let split : i - s + (e - i) ≡ e - s = omega arith in
    let behind : drop (length b + (i - s)) (b ++ slice_range c s e) ≡ drop (i - s) (slice_range c s e) =
    sym (drop-drop (i - s) (length b) (b ++ slice_range c s e)) ∙ ap (drop (i - s)) (drop-append_seam b (slice_range c s e)) in
    let inside : drop (i - s) (slice_range c s e) ≡ take (e - i) (drop i c) =
    ap (λ k. drop (i - s) (take k (drop s c))) (sym split)
    ∙ drop-take (i - s) (e - i) (drop s c)
    ∙ ap (take (e - i)) (drop-drop (i - s) s c ∙ ap (λ k. drop k c) {x = s + (i - s)} {y = i} (omega arith)) in
    ap (λ k. take k (drop (length b + (i - s)) (b ++ slice_range c s e))) width
    ∙ ap (take (j - i)) (behind ∙ inside)
    ∙ take-take (j - i) (e - i) (drop i c) (omega arith)

pub pieces-moved : (b c : List ℕ) (s e from : ℕ) (es : List ℕ) → s ≤ from → Chained from es e → e ≤ length c
    → pieces (b ++ slice_range c s e) (length b + (from - s)) (moved s (length b) es) ≡ pieces c from es
pieces-moved b c s e from [] h k l = refl
pieces-moved b c s e from (x ∷ es) h k l =
    let le : from ≤ x = k.0 in
    let here : slice_range (b ++ slice_range c s e) (length b + (from - s)) (length b + (x - s)) ≡ slice_range c from x =
    moved_part b c s e from x h le (chained-end x es e k.1) l in
    let rest : pieces (b ++ slice_range c s e) (length b + (x - s)) (moved s (length b) es) ≡ pieces c x es = pieces-moved b c s e x es (omega arith) k.1 l in
    cc

pieces-drop : (c : List ℕ) (from : ℕ) (es : List ℕ) (i : ℕ) → i ≤ length es → pieces c (start from es i) (drop i es) ≡ drop i (pieces c from es)
pieces-drop c from es zero h = refl
pieces-drop c from [] (suc i) h = absurd (omega arith)
pieces-drop c from (e ∷ es) (suc i) h = ap (λ n. pieces c n (drop i es)) (start-next from e es i) ∙ pieces-drop c e es i (omega arith)

pieces-take : (c : List ℕ) (from : ℕ) (es : List ℕ) (i : ℕ) → pieces c from (take i es) ≡ take i (pieces c from es)
pieces-take c from es zero = refl
pieces-take c from [] (suc i) = refl
pieces-take c from (e ∷ es) (suc i) = ap (λ t. slice_range c from e ∷ t) (pieces-take c e es i)

pub pieces-part : (c es : List ℕ) (a b : ℕ) → a ≤ b → b ≤ length es → pieces c (start 0 es a) (slice_range es a b) ≡ slice_range (pieces c 0 es) a b
pieces-part c es a b h l = pieces-take c (start 0 es a) (drop a es) (b - a) ∙ ap (take (b - a)) (pieces-drop c 0 es a (omega arith))

start_within : (from : ℕ) (es : List ℕ) (total i : ℕ) → Chained from es total → i ≤ length es → start from es i ≤ total
start_within from es total i h l = chained-end (start from es i) (drop i es) total (chained-drop from es total i h l)

-- where a part begins and ends
pub start_order : (es : List ℕ) (total i j : ℕ) → Chained 0 es total → i ≤ j → j ≤ length es → start 0 es i ≤ start 0 es j
start_order es total i j h l m = chained-end (start 0 es i) (slice_range es i j) (start 0 es j) (chained-part es total i j h l m)

pub start_total : (es : List ℕ) (total i : ℕ) → Chained 0 es total → i ≤ length es → start 0 es i ≤ total
start_total es total i h l = start_within 0 es total i h l

-- a buffer with a part of another's texts behind its own
pub pieces-extend : (b es c fs : List ℕ) (i j : ℕ) → Holds b es → Holds c fs → i ≤ j → j ≤ length fs
    → pieces (b ++ slice_range c (start 0 fs i) (start 0 fs j)) 0 (es ++ moved (start 0 fs i) (length b) (slice_range fs i j))
    ≡ pieces b 0 es ++ slice_range (pieces c 0 fs) i j
pieces-extend b es c fs i j h k l m =
    let chain : Chained (start 0 fs i) (slice_range fs i j) (start 0 fs j) = chained-part fs (length c) i j k.chained l m in
    pieces-append b (slice_range c (start 0 fs i) (start 0 fs j)) 0 es (moved (start 0 fs i) (length b) (slice_range fs i j)) h.chained
    ∙ ap (λ t. pieces b 0 es ++ t)
    (ap (λ n. pieces (b ++ slice_range c (start 0 fs i) (start 0 fs j)) n (moved (start 0 fs i) (length b) (slice_range fs i j))) {x = length b} {y = length b + (start 0 fs i - start 0 fs i)} (omega arith)
    ∙ pieces-moved b c (start 0 fs i) (start 0 fs j) (start 0 fs i) (slice_range fs i j) (omega arith) chain (start_within 0 fs (length c) j k.chained m)
    ∙ pieces-part c fs i j l m)

pub holds-extend : (b es c fs : List ℕ) (i j : ℕ) → Holds b es → Holds c fs → i ≤ j → j ≤ length fs
    → Holds (b ++ slice_range c (start 0 fs i) (start 0 fs j)) (es ++ moved (start 0 fs i) (length b) (slice_range fs i j))
holds-extend b es c fs i j h k l m =
    let order : start 0 fs i ≤ start 0 fs j = start_order fs (length c) i j k.chained l m in
    let within : start 0 fs j ≤ length c = start_total fs (length c) j k.chained m in
    let whole : length b + (start 0 fs j - start 0 fs i) ≡ length (b ++ slice_range c (start 0 fs i) (start 0 fs j)) =
    omega (arith, length-append b (slice_range c (start 0 fs i) (start 0 fs j)), length-take-le (start 0 fs j - start 0 fs i) (drop (start 0 fs i) c) (omega (arith, length-drop (start 0 fs i) c))) in
    let P : ℕ → Type 0 = λ n. Chained 0 (es ++ moved (start 0 fs i) (length b) (slice_range fs i j)) n in
    let Q : ℕ → Type 0 = λ n. Chained n (moved (start 0 fs i) (length b) (slice_range fs i j)) (length b + (start 0 fs j - start 0 fs i)) in
    let R : List (List ℕ) → Type 0 = λ x. All IsUtf8 x in
    let behind : Q (length b) = subst Q {x = length b + (start 0 fs i - start 0 fs i)} {y = length b} (omega arith)
    (chained-moved (start 0 fs i) (start 0 fs i) (length b) (slice_range fs i j) (start 0 fs j) (omega arith) (chained-part fs (length c) i j k.chained l m)) in
    record {
      chained = subst P whole (chained-append 0 es (moved (start 0 fs i) (length b) (slice_range fs i j)) (length b) (length b + (start 0 fs j - start 0 fs i)) h.chained behind);
      texts = subst R (sym (pieces-extend b es c fs i j h k l m))
          (All-append IsUtf8 (pieces b 0 es) (slice_range (pieces c 0 fs) i j) h.texts (All-take IsUtf8 (j - i) (drop i (pieces c 0 fs)) (All-drop IsUtf8 i (pieces c 0 fs) k.texts)));
    }

pub ruleset extend_steps = (length-pieces, start_order, start_total, pieces-extend)
