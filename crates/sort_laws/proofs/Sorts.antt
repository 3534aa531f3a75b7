-- The stable sort is one list: what ascends with ties in their order. It depends on no cut into runs.
use Rattle.std.proofs.Common.{◌≡◌, refl, ℕ, ◌+◌, suc, zero, get_or, arith, Bool, true, false, not, ◌||◌, ◌&&◌, true≢false, List, [], ◌∷◌, ◌++◌, map, filter, sym, ap, ◌∙◌, subst, if◌then◌else◌}
use Rattle.std.specs.List.{list_any}
use Rattle.std.specs.List.Sorted.{ties, IsSortedBy, IsStableBy}
use Rattle.std.specs.Cmp.{IsStrictWeakOrder}
use Rattle.logical_plan.specs.Items.{concat}
use Rattle.sort_laws.specs.Sorting.{put, sorted}

module _ {X : Type 0} (lt : X → X → Bool) where
  -- no later one is less
  abbrev pub Ascends : List X → Type 0
  Ascends [] = Unit {0}
  Ascends (x ∷ xs) = (list_any (λ z. lt z x) xs ≡ false) × Ascends xs

  -- ys has the elements of xs in ascending order, ties in order
  pub record IsStableSort (xs ys : List X) : Type 0 where
    pub ascends : Ascends ys
    pub stable : (x : X) → filter (ties lt x) ys ≡ filter (ties lt x) xs

or_false : (o q : Bool) → (o || q) ≡ false → (o ≡ false) × (q ≡ false)
or_false true q h = cc
or_false false q h = (refl, h)

both_false : (o q : Bool) → o ≡ false → q ≡ false → (o || q) ≡ false
both_false true q a b = a
both_false false q a b = b

parts : (a b : Bool) → (not a && not b) ≡ true → (a ≡ false) × (b ≡ false)
parts false false h = (refl, refl)
parts false true h = cc
parts true b h = cc

not_false : (a : Bool) → not a ≡ false → a ≡ true
not_false true h = refl
not_false false h = cc

-- the head and the rest of equal lists
head_of : {X : Type 0} → X → List X → X
head_of d [] = d
head_of d (x ∷ xs) = x

rest_of : {X : Type 0} → List X → List X
rest_of [] = []
rest_of (x ∷ xs) = xs

same_head : {X : Type 0} (x y : X) (xs ys : List X) → x ∷ xs ≡ y ∷ ys → x ≡ y
unfolding head_of
same_head x y xs ys e = ap (head_of x) e

same_rest : {X : Type 0} (x y : X) (xs ys : List X) → x ∷ xs ≡ y ∷ ys → xs ≡ ys
unfolding rest_of
same_rest x y xs ys e = ap rest_of e

filter-append : {R : Type 0} (p : R → Bool) (xs ys : List R) → filter p (xs ++ ys) ≡ filter p xs ++ filter p ys
filter-append p [] ys = refl
filter-append p (x ∷ xs) ys = by (p x) (filter-append p xs ys)
  where
    by : (b : Bool) → filter p (xs ++ ys) ≡ filter p xs ++ filter p ys → (if b then x ∷ filter p (xs ++ ys) else filter p (xs ++ ys)) ≡ (if b then x ∷ filter p xs else filter p xs) ++ filter p ys
    by true e = ap (λ l. x ∷ l) e
    by false e = e

module _ {X : Type 0} (lt : X → X → Bool) (order : IsStrictWeakOrder lt) where
  irreflexive : (x : X) → lt x x ≡ false
  irreflexive x = by (lt x x) refl
    where
      by : (b : Bool) → lt x x ≡ b → b ≡ false
      by true e = sym e ∙ order.one_way x x e
      by false e = refl

  own_tie : (x : X) → ties lt x x ≡ true
  own_tie x = λ i. not (irreflexive x i) && not (irreflexive x i)

  -- below y, so below what isn't less than y
  pub below : (x y z : X) → lt x y ≡ true → lt z y ≡ false → lt x z ≡ true
  below x y z a b = by (lt x z) refl
    where
      by : (c : Bool) → lt x z ≡ c → c ≡ true
      by true e = refl
      by false e = sym (order.chain x z y e b) ∙ a

  beyond : (x y z : X) → lt y x ≡ false → lt y z ≡ true → lt x z ≡ true
  beyond x y z a b = by (lt x z) refl
    where
      by : (c : Bool) → lt x z ≡ c → c ≡ true
      by true e = refl
      by false e = sym (order.chain y x z a e) ∙ b

  untied : (x z : X) → lt x z ≡ true → ties lt x z ≡ false
  untied x z a = ap (λ b. not b && not (lt z x)) a

  -- x below y ties with none that isn't less than y
  above : (x y : X) → lt x y ≡ true → (zs : List X) → list_any (λ z. lt z y) zs ≡ false → filter (ties lt x) zs ≡ []
  above x y a [] h = refl
  above x y a (z ∷ zs) h =
      let o = or_false (lt z y) (list_any (λ z. lt z y) zs) h in
      ap (λ b. if b then z ∷ filter (ties lt x) zs else filter (ties lt x) zs) (untied x z (below x y z a o.0)) ∙ above x y a zs o.1

  begins : (x : X) (xs : List X) → filter (ties lt x) (x ∷ xs) ≡ x ∷ filter (ties lt x) xs
  begins x xs = ap (λ b. if b then x ∷ filter (ties lt x) xs else filter (ties lt x) xs) (own_tie x)

  not_empty : (x : X) (xs : List X) → filter (ties lt x) (x ∷ xs) ≡ [] → ⊥
  not_empty x xs h = let e : x ∷ filter (ties lt x) xs ≡ [] = sym (begins x xs) ∙ h in cc

  -- two ascending lists whose ties stand in the same order are one
  pub one_sort : (xs ys : List X) → Ascends lt xs → Ascends lt ys → ((w : X) → filter (ties lt w) xs ≡ filter (ties lt w) ys) → xs ≡ ys
  one_sort [] [] a b h = refl
  one_sort [] (y ∷ ys) a b h = absurd (not_empty y ys (sym (h y)))
  one_sort (x ∷ xs) [] a b h = absurd (not_empty x xs (h x))
  one_sort (x ∷ xs) (y ∷ ys) a b h = by (lt x y) (lt y x) refl refl (λ t. one_sort xs ys a.1 b.1 t)
    where
      by : (c d : Bool) → lt x y ≡ c → lt y x ≡ d → (((w : X) → filter (ties lt w) xs ≡ filter (ties lt w) ys) → xs ≡ ys) → x ∷ xs ≡ y ∷ ys
      by true d e f ih = absurd (not_empty x xs (h x ∙ above x y e (y ∷ ys) (both_false (lt y y) (list_any (λ z. lt z y) ys) (irreflexive y) b.0)))
      by false true e f ih = absurd (not_empty y ys (sym (h y) ∙ above y x f (x ∷ xs) (both_false (lt x x) (list_any (λ z. lt z x) xs) (irreflexive x) a.0)))
      by false false e f ih = λ i. first i ∷ ih tails i
        where
          tie : ties lt x y ≡ true
          tie = λ i. not (e i) && not (f i)

          first : x ≡ y
          first = same_head x y _ _ (sym (begins x xs) ∙ h x ∙ ap (λ b. if b then y ∷ filter (ties lt x) ys else filter (ties lt x) ys) tie)

          cut : (w : X) (c : Bool) → (if c then x ∷ filter (ties lt w) xs else filter (ties lt w) xs) ≡ (if c then y ∷ filter (ties lt w) ys else filter (ties lt w) ys) → filter (ties lt w) xs ≡ filter (ties lt w) ys
          cut w true k = same_rest x y _ _ k
          cut w false k = k

          tails : (w : X) → filter (ties lt w) xs ≡ filter (ties lt w) ys
          tails w = cut w (ties lt w x) (h w ∙ ap (λ v. if ties lt w v then y ∷ filter (ties lt w) ys else filter (ties lt w) ys) (sym first))

  -- ---- the function is a stable sort

  put_any : (p : X → Bool) (x : X) (ys : List X) → list_any p (put lt x ys) ≡ (p x || list_any p ys)
  put_any p x [] = refl
  put_any p x (y ∷ ys) = by (lt y x) (put_any p x ys)
    where
      turn : (a b c : Bool) → (a || (b || c)) ≡ (b || (a || c))
      turn true true c = refl
      turn true false c = refl
      turn false b c = refl

      by : (c : Bool) → list_any p (put lt x ys) ≡ (p x || list_any p ys) → list_any p (if c then y ∷ put lt x ys else x ∷ y ∷ ys) ≡ (p x || (p y || list_any p ys))
      by true ih = ap (λ b. p y || b) ih ∙ turn (p y) (p x) (list_any p ys)
      by false ih = refl

  -- none of ys is less than x, if y isn't and none of ys is less than y
  further : (x y : X) → lt y x ≡ false → (ys : List X) → list_any (λ z. lt z y) ys ≡ false → list_any (λ z. lt z x) ys ≡ false
  further x y e [] h = refl
  further x y e (z ∷ zs) h =
      let o = or_false (lt z y) (list_any (λ z. lt z y) zs) h in
      both_false (lt z x) (list_any (λ z. lt z x) zs) (order.chain z y x o.0 e) (further x y e zs o.1)

  put_ascends : (x : X) (ys : List X) → Ascends lt ys → Ascends lt (put lt x ys)
  put_ascends x [] a = (refl, tt)
  put_ascends x (y ∷ ys) a = by (lt y x) refl (put_ascends x ys a.1)
    where
      by : (c : Bool) → lt y x ≡ c → Ascends lt (put lt x ys) → Ascends lt (if c then y ∷ put lt x ys else x ∷ y ∷ ys)
      by true e ih = (put_any (λ z. lt z y) x ys ∙ both_false (lt x y) (list_any (λ z. lt z y) ys) (order.one_way y x e) a.0, ih)
      by false e ih = (both_false (lt y x) (list_any (λ z. lt z x) ys) e (further x y e ys a.0), a)

  put_stable : (w x : X) (ys : List X) → filter (ties lt w) (put lt x ys) ≡ filter (ties lt w) (x ∷ ys)
  put_stable w x [] = refl
  put_stable w x (y ∷ ys) = by (lt y x) refl (put_stable w x ys)
    where
      swap : (a b : Bool) (l : List X) → lt y x ≡ true → ties lt w x ≡ a → ties lt w y ≡ b → (if b then y ∷ (if a then x ∷ l else l) else (if a then x ∷ l else l)) ≡ (if a then x ∷ (if b then y ∷ l else l) else (if b then y ∷ l else l))
      swap true true l e f g = absurd (true≢false (sym e ∙ order.chain y w x (parts (lt w y) (lt y w) g).1 (parts (lt w x) (lt x w) f).0))
      swap true false l e f g = refl
      swap false true l e f g = refl
      swap false false l e f g = refl

      by : (c : Bool) → lt y x ≡ c → filter (ties lt w) (put lt x ys) ≡ filter (ties lt w) (x ∷ ys) → filter (ties lt w) (if c then y ∷ put lt x ys else x ∷ y ∷ ys) ≡ filter (ties lt w) (x ∷ y ∷ ys)
      by true e ih = ap (λ l. if ties lt w y then y ∷ l else l) ih ∙ swap (ties lt w x) (ties lt w y) (filter (ties lt w) ys) e refl refl
      by false e ih = refl

  pub sorted_ascends : (xs : List X) → Ascends lt (sorted lt xs)
  sorted_ascends [] = tt
  sorted_ascends (x ∷ xs) = put_ascends x (sorted lt xs) (sorted_ascends xs)

  pub sorted_stable : (w : X) (xs : List X) → filter (ties lt w) (sorted lt xs) ≡ filter (ties lt w) xs
  sorted_stable w [] = refl
  sorted_stable w (x ∷ xs) = put_stable w x (sorted lt xs) ∙ ap (λ l. if ties lt w x then x ∷ l else l) (sorted_stable w xs)

  -- a stable sort is the function's
  pub is_sorted : (xs ys : List X) → IsStableSort lt xs ys → ys ≡ sorted lt xs
  is_sorted xs ys s = one_sort ys (sorted lt xs) s.ascends (sorted_ascends xs) (λ w. s.stable w ∙ sym (sorted_stable w xs))

  -- what std's sort says, that no element is less than the one before it
  shifted : (x : X) (xs : List X) → IsSortedBy lt (x ∷ xs) → IsSortedBy lt xs
  shifted x xs h k d z w =
      let e : suc k + 1 ≡ suc (k + 1) = omega arith in
      let P : ℕ → Type 0 = λ m. lt (get_or (x ∷ xs) m d) (get_or xs k d) ≡ false in
      subst P e (h (suc k) d (omega arith) (omega arith))

  pub ascends_from : (xs : List X) → IsSortedBy lt xs → Ascends lt xs
  ascends_from [] h = tt
  ascends_from (x ∷ []) h = (refl, tt)
  ascends_from (x ∷ y ∷ ys) h =
      let a = ascends_from (y ∷ ys) (shifted x (y ∷ ys) h) in
      let first : lt y x ≡ false = h 0 x (omega arith) (omega arith) in
      (both_false (lt y x) (list_any (λ z. lt z x) ys) first (further x y first ys a.0), a)

  pub sorted_from : (xs ys : List X) → IsSortedBy lt ys → IsStableBy lt xs ys → ys ≡ sorted lt xs
  sorted_from xs ys h s = is_sorted xs ys (record { ascends = ascends_from ys h; stable = s })

  sorted_any : (p : X → Bool) (xs : List X) → list_any p (sorted lt xs) ≡ list_any p xs
  sorted_any p [] = refl
  sorted_any p (x ∷ xs) = put_any p x (sorted lt xs) ∙ ap (λ b. p x || b) (sorted_any p xs)

  pub sorted_by_from : (xs : List X) → Ascends lt xs → IsSortedBy lt xs
  sorted_by_from [] a k d low high = absurd (omega arith)
  sorted_by_from (x ∷ []) a k d low high = absurd (omega arith)
  sorted_by_from (x ∷ y ∷ ys) a zero d low high = (or_false (lt y x) (list_any (λ z. lt z x) ys) a.0).0
  sorted_by_from (x ∷ y ∷ ys) a (suc k) d low high =
      let e : suc (k + 1) ≡ suc k + 1 = omega arith in
      let P : ℕ → Type 0 = λ m. lt (get_or (x ∷ y ∷ ys) m d) (get_or (y ∷ ys) k d) ≡ false in
      subst P e (sorted_by_from (y ∷ ys) a.1 k d (omega arith) (omega arith))

  -- ---- the sort of sorted runs

  filter-runs : (w : X) (runs : List (List X)) → filter (ties lt w) (concat (map (sorted lt) runs)) ≡ filter (ties lt w) (concat runs)
  filter-runs w [] = refl
  filter-runs w (r ∷ rs) =
      filter-append (ties lt w) (sorted lt r) (concat (map (sorted lt) rs))
      ∙ ((λ i. sorted_stable w r i ++ filter-runs w rs i) ∙ sym (filter-append (ties lt w) r (concat rs)))

  -- it doesn't depend on how rows were cut into runs
  pub sorted-runs : (runs : List (List X)) → sorted lt (concat (map (sorted lt) runs)) ≡ sorted lt (concat runs)
  sorted-runs runs = is_sorted (concat runs) (sorted lt (concat (map (sorted lt) runs))) (record {
    ascends = sorted_ascends (concat (map (sorted lt) runs));
    stable = λ w. sorted_stable w (concat (map (sorted lt) runs)) ∙ filter-runs w runs;
  })

  -- lists with one sort have one sort with more behind them
  pub sorted_more : (xs ys zs : List X) → sorted lt xs ≡ sorted lt ys → sorted lt (xs ++ zs) ≡ sorted lt (ys ++ zs)
  sorted_more xs ys zs e = is_sorted (ys ++ zs) (sorted lt (xs ++ zs)) (record {
    ascends = sorted_ascends (xs ++ zs);
    stable = λ w. sorted_stable w (xs ++ zs) ∙ (filter-append (ties lt w) xs zs
        ∙ (ap (λ l. l ++ filter (ties lt w) zs) (sym (sorted_stable w xs) ∙ (ap (filter (ties lt w)) e ∙ sorted_stable w ys)) ∙ sym (filter-append (ties lt w) ys zs)));
  })

  -- and the last of them may be sorted before
  pub sorted_part : (xs ys : List X) → sorted lt (xs ++ sorted lt ys) ≡ sorted lt (xs ++ ys)
  sorted_part xs ys = is_sorted (xs ++ ys) (sorted lt (xs ++ sorted lt ys)) (record {
    ascends = sorted_ascends (xs ++ sorted lt ys);
    stable = λ w. sorted_stable w (xs ++ sorted lt ys) ∙ (filter-append (ties lt w) xs (sorted lt ys)
        ∙ (ap (λ l. filter (ties lt w) xs ++ l) (sorted_stable w ys) ∙ sym (filter-append (ties lt w) xs ys)));
  })

  -- what ascends is its own sort
  pub sorted_itself : (xs : List X) → Ascends lt xs → sorted lt xs ≡ xs
  sorted_itself xs a = sym (is_sorted xs xs (record { ascends = a; stable = λ x. refl }))

-- ---- one in front of the others

module _ {X : Type 0} (lt : X → X → Bool) where
  put_any_of : (p : X → Bool) (x : X) (ys : List X) → list_any p (put lt x ys) ≡ (p x || list_any p ys)
  put_any_of p x [] = refl
  put_any_of p x (y ∷ ys) = by (lt y x) (put_any_of p x ys)
    where
      turn : (a b c : Bool) → (a || (b || c)) ≡ (b || (a || c))
      turn true true c = refl
      turn true false c = refl
      turn false b c = refl

      by : (c : Bool) → list_any p (put lt x ys) ≡ (p x || list_any p ys) → list_any p (if c then y ∷ put lt x ys else x ∷ y ∷ ys) ≡ (p x || (p y || list_any p ys))
      by true ih = ap (λ b. p y || b) ih ∙ turn (p y) (p x) (list_any p ys)
      by false ih = refl

  pub any_of_sorted : (p : X → Bool) (xs : List X) → list_any p (sorted lt xs) ≡ list_any p xs
  any_of_sorted p [] = refl
  any_of_sorted p (x ∷ xs) = put_any_of p x (sorted lt xs) ∙ ap (λ b. p x || b) (any_of_sorted p xs)

  put_first : (x : X) (ys : List X) → list_any (λ z. lt z x) ys ≡ false → put lt x ys ≡ x ∷ ys
  put_first x [] h = refl
  put_first x (y ∷ ys) h = ap (λ b. if b then y ∷ put lt x ys else x ∷ y ∷ ys) (or_false (lt y x) (list_any (λ z. lt z x) ys) h).0

  -- before all that stand in front of it, and none behind is before it: the first of the sort, with the sort of the rest
  pub first_of_sort : (x : X) (front back : List X) → list_any (λ z. not (lt x z)) front ≡ false → list_any (λ z. lt z x) back ≡ false
      → sorted lt (front ++ x ∷ back) ≡ x ∷ sorted lt (front ++ back)
  first_of_sort x [] back f b = put_first x (sorted lt back) (any_of_sorted (λ z. lt z x) back ∙ b)
  first_of_sort x (y ∷ ys) back f b =
      let p = or_false (not (lt x y)) (list_any (λ z. not (lt x z)) ys) f in
      ap (put lt y) (first_of_sort x ys back p.1 b)
      ∙ ap (λ c. if c then x ∷ put lt y (sorted lt (ys ++ back)) else y ∷ x ∷ sorted lt (ys ++ back)) (not_false (lt x y) p.0)
