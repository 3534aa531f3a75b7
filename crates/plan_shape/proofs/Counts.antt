-- How often each channel is received, in a laid subtree.
use Rattle.std.specs.Prelude.{◌==◌, nat_lt, replicate}
use Rattle.std.proofs.Common.{ℕ, zero, suc, ◌+◌, ◌<◌, ◌≤◌, ◌≡◌, ◌≢◌, ◌⊎◌, inl, inr, refl, sym, ap, ◌∙◌, subst, eqb, ltb, leb, cond, List, [], ◌∷◌, ◌++◌, length, map, Bool, true, false, ◌&&◌, arith, zero-add, add-zero}
use Rattle.std.proofs.lemmas.Bool.{false≢true, cases_lt}
use Rattle.std.proofs.lemmas.Bool.Decides.{eqb_tells, nat_tests}
use Rattle.plan_shape.specs.Layout.{Part, Stage, Laid, laid, bare, consuming, beside, reader, readers, merger, opened, exchanged, coalesced, merging, laid_beside, laid_after, with_consumer}
use Rattle.physical_plan.specs.Numbers.{numbers, numbers_from}
use Rattle.task_shape.specs.Numbers.{count}
use Rattle.task_shape.specs.Shape.{has}

abbrev pub pair_one : ℕ × ℕ → ℕ → ℕ → ℕ
pair_one x g c = cond ((x.0 == g) && (x.1 == c)) 1 0

abbrev pub pair_count : List (ℕ × ℕ) → ℕ → ℕ → ℕ
pair_count [] g c = 0
pair_count (x ∷ xs) g c = pair_one x g c + pair_count xs g c

abbrev pub parts_count : List Part → ℕ → ℕ → ℕ
parts_count [] g c = 0
parts_count (p ∷ ps) g c = pair_count p.receives g c + parts_count ps g c

abbrev pub stages_count : List Stage → ℕ → ℕ → ℕ
stages_count [] g c = 0
stages_count (s ∷ ss) g c = parts_count s.parts g c + stages_count ss g c

-- 1 for each channel of the groups from k on
abbrev pub expected : ℕ → List Stage → ℕ → ℕ → ℕ
expected k [] g c = 0
expected k (s ∷ ss) g c = cond ((k == g) && nat_lt c s.width) 1 0 + expected (k + 1) ss g c

-- the parts receive from groups from k on
abbrev pub From : ℕ → List Part → Type 0
From k ps = (g c : ℕ) → 0 < parts_count ps g c → k ≤ g

-- stage k receives from groups above k, and so on
abbrev pub Grow : ℕ → List Stage → Type 0
Grow k [] = Unit {0}
Grow k (s ∷ ss) = From (k + 1) s.parts × Grow (k + 1) ss

-- targets are distinct, and below the width
pub record Aims (w : ℕ) (ts : List ℕ) : Type 0 where
  pub once : (c : ℕ) → count c ts ≤ 1
  pub below : (c : ℕ) → has ts c ≡ true → c < w

abbrev pub AllAim : ℕ → List (List ℕ) → Type 0
AllAim w [] = Unit {0}
AllAim w (t ∷ ts) = Aims w t × AllAim w ts

abbrev pub Sent : List Stage → Type 0
Sent [] = Unit {0}
Sent (s ∷ ss) = AllAim s.width s.targets × Sent ss

pub record IsLaid (k : ℕ) (l : Laid) : Type 0 where
  pub total : (g c : ℕ) → parts_count l.parts g c + stages_count l.stages g c ≡ expected k l.stages g c
  pub start : From k l.parts
  pub grow : Grow k l.stages
  pub sent : Sent l.stages

-- ---- counts of lists

pair_count-append : (xs ys : List (ℕ × ℕ)) (g c : ℕ) → pair_count (xs ++ ys) g c ≡ pair_count xs g c + pair_count ys g c
pair_count-append [] ys g c = sym (zero-add _)
pair_count-append (x ∷ xs) ys g c = omega (arith, pair_count-append xs ys g c)

pub parts_count-append : (xs ys : List Part) (g c : ℕ) → parts_count (xs ++ ys) g c ≡ parts_count xs g c + parts_count ys g c
parts_count-append [] ys g c = sym (zero-add _)
parts_count-append (x ∷ xs) ys g c = omega (arith, parts_count-append xs ys g c)

pub stages_count-append : (xs ys : List Stage) (g c : ℕ) → stages_count (xs ++ ys) g c ≡ stages_count xs g c + stages_count ys g c
stages_count-append [] ys g c = sym (zero-add _)
stages_count-append (x ∷ xs) ys g c = omega (arith, stages_count-append xs ys g c)

pub expected-append : (k : ℕ) (xs ys : List Stage) (g c : ℕ) → expected k (xs ++ ys) g c ≡ expected k xs g c + expected (k + length xs) ys g c
expected-append k [] ys g c = rw (add-zero k) (sym (zero-add _))
expected-append k (x ∷ xs) ys g c =
    let e : k + 1 + length xs ≡ k + suc (length xs) = omega arith in
    rw (← e) (omega (arith, expected-append (k + 1) xs ys g c))

parts_count-beside : (xs ys : List Part) (g c : ℕ) → parts_count (beside xs ys) g c ≡ parts_count xs g c + parts_count ys g c
parts_count-beside [] ys g c = sym (zero-add _)
parts_count-beside (x ∷ xs) [] g c = sym (add-zero _)
parts_count-beside (x ∷ xs) (y ∷ ys) g c = omega (arith, pair_count-append x.receives y.receives g c, parts_count-beside xs ys g c)

parts_count-consuming : (b : Bool) (xs : List Part) (g c : ℕ) → parts_count (map (consuming b) xs) g c ≡ parts_count xs g c
parts_count-consuming b [] g c = refl
parts_count-consuming b (x ∷ xs) g c = ap (λ n. pair_count x.receives g c + n) (parts_count-consuming b xs g c)

parts_count-bare : (n g c : ℕ) → parts_count (replicate n bare) g c ≡ 0
parts_count-bare zero g c = refl
parts_count-bare (suc n) g c = omega (arith, parts_count-bare n g c)

pub Grow-append : (k : ℕ) (xs ys : List Stage) → Grow k xs → Grow (k + length xs) ys → Grow k (xs ++ ys)
Grow-append k [] ys h i = let P : ℕ → Type 0 = λ n. Grow n ys in subst P (add-zero k) i
Grow-append k (x ∷ xs) ys h i =
    let P : ℕ → Type 0 = λ n. Grow n ys in
    let e : k + suc (length xs) ≡ k + 1 + length xs = omega arith in
    (h.0, Grow-append (k + 1) xs ys h.1 (subst P e i))

pub Sent-append : (xs ys : List Stage) → Sent xs → Sent ys → Sent (xs ++ ys)
Sent-append [] ys h i = i
Sent-append (x ∷ xs) ys h i = (h.0, Sent-append xs ys h.1 i)

-- ---- numbers and readers

pub count-numbers_from : (n at c : ℕ) → count c (numbers_from at n) ≡ cond (leb at c && ltb c (at + n)) 1 0
count-numbers_from zero at c = grind (arith, nat_tests)
count-numbers_from (suc n) at c = rw (count-numbers_from n (at + 1) c) (grind (arith, nat_tests))

pub count-numbers : (n c : ℕ) → count c (numbers n) ≡ cond (ltb c n) 1 0
count-numbers n c = rw (count-numbers_from n 0 c) (grind (arith, nat_tests))

and_one : (a b : Bool) (n : ℕ) → cond (a && b) 1 0 + cond a n 0 ≡ cond a (cond b 1 0 + n) 0
and_one true b n = refl
and_one false b n = refl

and_ones : (a b : Bool) → cond {A = ℕ} a (cond b 1 0) 0 ≡ cond (a && b) 1 0
and_ones true b = refl
and_ones false b = refl

zero_either : (b : Bool) → cond {A = ℕ} b 0 0 ≡ 0
zero_either true = refl
zero_either false = refl

readers_count : (k g c : ℕ) (xs : List ℕ) → parts_count (map (λ (x : ℕ). reader k x) xs) g c ≡ cond (k == g) (count c xs) 0
readers_count k g c [] = sym (zero_either (k == g))
readers_count k g c (x ∷ xs) = rw (readers_count k g c xs, add-zero (pair_one (k, x) g c)) (and_one (k == g) (x == c) (count c xs))

merger_count : (k g c : ℕ) (xs : List ℕ) → pair_count (map (λ (x : ℕ). (k, x)) xs) g c ≡ cond (k == g) (count c xs) 0
merger_count k g c [] = sym (zero_either (k == g))
merger_count k g c (x ∷ xs) = rw (merger_count k g c xs) (and_one (k == g) (x == c) (count c xs))

pub readers_once : (k n g c : ℕ) → parts_count (readers k n) g c ≡ cond ((k == g) && ltb c n) 1 0
readers_once k n g c = readers_count k g c (numbers n) ∙ ap (λ m. cond (k == g) m 0) (count-numbers n c) ∙ and_ones (k == g) (ltb c n)

pub merger_once : (k n g c : ℕ) → parts_count (merger k n ∷ []) g c ≡ cond ((k == g) && ltb c n) 1 0
merger_once k n g c = add-zero _ ∙ merger_count k g c (numbers n) ∙ ap (λ m. cond (k == g) m 0) (count-numbers n c) ∙ and_ones (k == g) (ltb c n)

-- ---- targets

pub has_count : (xs : List ℕ) (c : ℕ) → has xs c ≡ true → 0 < count c xs
has_count [] c h = absurd (false≢true h)
has_count (x ∷ xs) c h = elim (eqb_tells x c) [
  | inl w ↦ rw w.0 (omega arith)
  | inr w ↦ (let e : has xs c ≡ true = rw w.0 at h in omega (arith, has_count xs c e))
]

pub numbers_aim : (n : ℕ) → Aims n (numbers n)
numbers_aim n = record {
  once = λ c. rw (count-numbers n c) (grind (arith, nat_tests));
  below = λ c h. (let e = has_count (numbers n) c h in let f : 0 < cond (ltb c n) 1 0 = rw (count-numbers n c) at e in grind (arith, nat_tests));
}

pub single_aims : (w x : ℕ) → x < w → Aims w (x ∷ [])
single_aims w x h = record {
  once = λ c. grind (arith, nat_tests);
  below = λ c e. grind (arith, nat_tests);
}

pub all_to_all : (n : ℕ) (ps : List Part) → AllAim n (map (λ (p : Part). numbers n) ps)
all_to_all n [] = tt
all_to_all n (p ∷ ps) = (numbers_aim n, all_to_all n ps)

pub all_to_first : (ps : List Part) → AllAim 1 (map (λ (p : Part). 0 ∷ []) ps)
all_to_first [] = tt
all_to_first (p ∷ ps) = (single_aims 1 0 (omega arith), all_to_first ps)

each_to_own : (w n at : ℕ) → at + n ≤ w → AllAim w (map (λ (c : ℕ). c ∷ []) (numbers_from at n))
each_to_own w zero at h = tt
each_to_own w (suc n) at h = (single_aims w at (omega arith), each_to_own w n (at + 1) (omega arith))

-- ---- subtrees

pub scan_laid : (k n : ℕ) → IsLaid k (laid (replicate n bare) [])
scan_laid k n = record {
  total = λ g c. rw (parts_count-bare n g c) refl;
  start = λ g c h. (let e = parts_count-bare n g c in absurd (omega arith));
  grow = tt;
  sent = tt;
}

pub consumer_laid : (b : Bool) (k : ℕ) (l : Laid) → IsLaid k l → IsLaid k (with_consumer b l)
consumer_laid b k l h = record {
  total = λ g c. rw (parts_count-consuming b l.parts g c) (h.total g c);
  start = λ g c p. (let e = parts_count-consuming b l.parts g c in h.start g c (omega arith));
  grow = h.grow;
  sent = h.sent;
}

both_laid : (k : ℕ) (l r : Laid) (ps : List Part) → ((g c : ℕ) → parts_count ps g c ≡ parts_count l.parts g c + parts_count r.parts g c) → IsLaid k l → IsLaid (k + length l.stages) r → IsLaid k (laid ps (l.stages ++ r.stages))
both_laid k l r ps e h i = record {
  total = λ g c. omega (arith, e g c, stages_count-append l.stages r.stages g c, expected-append k l.stages r.stages g c, h.total g c, i.total g c);
  start = λ g c p. begins g c (cases_lt 0 (parts_count l.parts g c)) p;
  grow = Grow-append k l.stages r.stages h.grow i.grow;
  sent = Sent-append l.stages r.stages h.sent i.sent;
}
  where
    begins : (g c : ℕ) → (0 < parts_count l.parts g c) ⊎ (parts_count l.parts g c ≤ 0) → 0 < parts_count ps g c → k ≤ g
    begins g c (inl w) p = h.start g c w
    begins g c (inr w) p =
        let s = e g c in
        let q : 0 < parts_count r.parts g c = omega arith in
        let j = i.start g c q in
        omega arith

pub beside_laid : (k : ℕ) (l r : Laid) → IsLaid k l → IsLaid (k + length l.stages) r → IsLaid k (laid_beside l r)
beside_laid k l r h i = consumer_laid false k (laid (beside l.parts r.parts) (l.stages ++ r.stages)) (both_laid k l r (beside l.parts r.parts) (parts_count-beside l.parts r.parts) h i)

pub after_laid : (k : ℕ) (l r : Laid) → IsLaid k l → IsLaid (k + length l.stages) r → IsLaid k (laid_after l r)
after_laid k l r h i = both_laid k l r (l.parts ++ r.parts) (parts_count-append l.parts r.parts) h i

opened_laid : (k w : ℕ) (above : List Part) (targets : List (List ℕ)) (l : Laid) → ((g c : ℕ) → parts_count above g c ≡ cond ((k == g) && ltb c w) 1 0) → AllAim w targets → IsLaid (k + 1) l → IsLaid k (opened above targets w l)
opened_laid k w above targets l e a h = record {
  total = λ g c. omega (arith, e g c, h.total g c);
  start = λ g c p. begins g c (eqb_tells k g) p;
  grow = (h.start, h.grow);
  sent = (a, h.sent);
}
  where
    begins : (g c : ℕ) → ((eqb k g ≡ true) × (k ≡ g)) ⊎ ((eqb k g ≡ false) × (k ≢ g)) → 0 < parts_count above g c → k ≤ g
    begins g c (inl w) p = omega arith
    begins g c (inr w) p = let s = e g c in let q : parts_count above g c ≡ 0 = rw w.0 at s in absurd (omega arith)

pub exchanged_laid : (n k : ℕ) (l : Laid) → IsLaid (k + 1) l → IsLaid k (exchanged n k l)
exchanged_laid n k l h = opened_laid k n (readers k n) (map (λ (p : Part). numbers n) l.parts) l (readers_once k n) (all_to_all n l.parts) h

pub coalesced_laid : (k : ℕ) (l : Laid) → IsLaid (k + 1) l → IsLaid k (coalesced k l)
coalesced_laid k l h = opened_laid k 1 (readers k 1) (map (λ (p : Part). 0 ∷ []) l.parts) l (readers_once k 1) (all_to_first l.parts) h

pub merging_laid : (k : ℕ) (l : Laid) → IsLaid (k + 1) l → IsLaid k (merging k l)
merging_laid k l h = opened_laid k (length l.parts) (merger k (length l.parts) ∷ []) (map (λ (c : ℕ). c ∷ []) (numbers (length l.parts))) l (merger_once k (length l.parts)) (each_to_own (length l.parts) (length l.parts) 0 (omega arith)) h
