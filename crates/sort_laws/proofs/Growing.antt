-- A merge of inputs that go on: what was given stays, and the rest is the merge of what was left with what came.
use Rattle.std.proofs.Common.{ℕ, zero, suc, ◌+◌, ◌<◌, ◌≤◌, ◌≡◌, ◌⊎◌, inl, inr, refl, sym, ap, ◌∙◌, subst, eqb, cond, List, [], ◌∷◌, ◌++◌, length, drop, Bool, true, false, arith}
use Rattle.std.proofs.lemmas.Bool.{true≢false, cases_eq}
use Rattle.std.proofs.lemmas.Bool.Decides.{eqb_tells}
use Rattle.logical_plan.specs.Items.{Item}
use Rattle.tree_laws.specs.OperatorKinds.{Pick, Unknown, Nobody, Takes, pick_with, pick, without_front, Merged, merged_by, merged, lengths, merge}
use Rattle.sort_laws.specs.Growing.{grown, GoesOn, after}

module _ (before : Item → Item → Bool) where
  -- ---- what is picked

  record IsFrontOf (n : ℕ) (inputs : ℕ → List Item) (i : ℕ) (x : Item) : Type 0 where
    within : i < n
    here : inputs i ≡ x ∷ drop 1 (inputs i)

  Known : ℕ → (ℕ → List Item) → Pick → Type 0
  Known n inputs Unknown = Unit {0}
  Known n inputs Nobody = Unit {0}
  Known n inputs (Takes i x) = IsFrontOf n inputs i x

  one_more : (n : ℕ) (inputs : ℕ → List Item) (i : ℕ) (x : Item) → IsFrontOf n inputs i x → IsFrontOf (suc n) inputs i x
  one_more n inputs i x f = record { within = (let w : i < n = f.within in omega arith); here = f.here }

  known_with : (n : ℕ) (inputs : ℕ → List Item) (p : Pick) (l : List Item) (o : Bool) → inputs n ≡ l → Known n inputs p → Known (suc n) inputs (pick_with before n p l o)
  unfolding Known
  known_with n inputs Unknown l o e k = tt
  known_with n inputs Nobody [] true e k = tt
  known_with n inputs Nobody [] false e k = tt
  known_with n inputs Nobody (x ∷ xs) o e k = record { within = omega arith; here = e ∙ ap (λ l. x ∷ drop 1 l) (sym e) }
  known_with n inputs (Takes i y) [] true e k = one_more n inputs i y k
  known_with n inputs (Takes i y) [] false e k = tt
  known_with n inputs (Takes i y) (x ∷ xs) o e k = by (before x y)
    where
      by : (b : Bool) → Known (suc n) inputs (cond b (Takes n x) (Takes i y))
      by true = record { within = omega arith; here = e ∙ ap (λ l. x ∷ drop 1 l) (sym e) }
      by false = one_more n inputs i y k

  known : (n : ℕ) (inputs : ℕ → List Item) (over : ℕ → Bool) → Known n inputs (pick before n inputs over)
  unfolding Known
  known zero inputs over = tt
  known (suc n) inputs over = known_with n inputs (pick before n inputs over) (inputs n) (over n) refl (known n inputs over)

  -- ---- it stays while inputs go on

  goes : Pick → Bool
  goes Unknown = false
  goes Nobody = true
  goes (Takes i x) = true

  record Same (n : ℕ) (q : Pick) (xs ys : List Item) (o o2 : Bool) : Type 0 where
    below : goes q ≡ true
    picks : pick_with before n q ys o2 ≡ pick_with before n q xs o

  with_same : (n : ℕ) (q : Pick) (xs more : List Item) (o o2 : Bool) → (o ≡ true → (more ≡ []) × (o2 ≡ true)) → goes (pick_with before n q xs o) ≡ true → Same n q xs (xs ++ more) o o2
  unfolding goes
  with_same n Unknown xs more o o2 e h = absurd (true≢false (sym h))
  with_same n Nobody [] more true o2 e h = record { below = refl; picks = (let v = e refl in subst (λ l. pick_with before n Nobody l o2 ≡ Nobody) (sym v.0) (ap (λ b. pick_with before n Nobody [] b) v.1)) }
  with_same n Nobody [] more false o2 e h = absurd (true≢false (sym h))
  with_same n Nobody (x ∷ xs) more o o2 e h = record { below = refl; picks = refl }
  with_same n (Takes i y) [] more true o2 e h = record { below = refl; picks = (let v = e refl in subst (λ l. pick_with before n (Takes i y) l o2 ≡ Takes i y) (sym v.0) (ap (λ b. pick_with before n (Takes i y) [] b) v.1)) }
  with_same n (Takes i y) [] more false o2 e h = absurd (true≢false (sym h))
  with_same n (Takes i y) (x ∷ xs) more o o2 e h = record { below = refl; picks = refl }

  pick_same : (n : ℕ) (xs more : ℕ → List Item) (over over2 : ℕ → Bool) → GoesOn over more over2 → goes (pick before n xs over) ≡ true → pick before n (grown xs more) over2 ≡ pick before n xs over
  pick_same zero xs more over over2 k h = refl
  pick_same (suc n) xs more over over2 k h =
      let v = with_same n (pick before n xs over) (xs n) (more n) (over n) (over2 n) (k n) h in
      ap (λ q. pick_with before n q (xs n ++ more n) (over2 n)) (pick_same n xs more over over2 k v.below) ∙ v.picks

  -- ---- a front taken

  here_shorter : (n : ℕ) (inputs : ℕ → List Item) (i : ℕ) (x : Item) → inputs i ≡ x ∷ drop 1 (inputs i) → length (inputs i) ≡ suc (length (without_front inputs i i))
  here_shorter n inputs i x e = by (eqb_tells i i)
    where
      by : ((eqb i i ≡ true) × (i ≡ i)) ⊎ ((eqb i i ≡ false) × (i ≡ i → ⊥)) → length (inputs i) ≡ suc (length (without_front inputs i i))
      by (inl t) = ap length e ∙ ap (λ b. suc (length (cond b (drop 1 (inputs i)) (inputs i)))) (sym t.0)
      by (inr t) = absurd (t.1 refl)

  others_same : (inputs : ℕ → List Item) (i j : ℕ) → (j ≡ i → ⊥) → without_front inputs i j ≡ inputs j
  others_same inputs i j q = by (eqb_tells j i)
    where
      by : ((eqb j i ≡ true) × (j ≡ i)) ⊎ ((eqb j i ≡ false) × (j ≡ i → ⊥)) → without_front inputs i j ≡ inputs j
      by (inl t) = absurd (q t.1)
      by (inr t) = ap (λ b. cond b (drop 1 (inputs j)) (inputs j)) t.0

  below_same : (n : ℕ) (inputs : ℕ → List Item) (i : ℕ) → n ≤ i → lengths n (without_front inputs i) ≡ lengths n inputs
  below_same zero inputs i h = refl
  below_same (suc n) inputs i h = (λ k. below_same n inputs i (omega (arith, h)) k + length (others_same inputs i n (λ e. omega (arith, h, e)) k))

  one_less : (n : ℕ) (inputs : ℕ → List Item) (i : ℕ) (x : Item) → IsFrontOf n inputs i x → lengths n inputs ≡ suc (lengths n (without_front inputs i))
  one_less zero inputs i x f = absurd (let w : i < 0 = f.within in omega arith)
  one_less (suc n) inputs i x f = by (cases_eq i n) (one_less n inputs i x)
    where
      by : (i ≡ n) ⊎ (i ≡ n → ⊥) → (IsFrontOf n inputs i x → lengths n inputs ≡ suc (lengths n (without_front inputs i))) → lengths n inputs + length (inputs n) ≡ suc (lengths n (without_front inputs i) + length (without_front inputs i n))
      by (inl e) more =
          let a : lengths n (without_front inputs i) ≡ lengths n inputs = below_same n inputs i (omega (arith, e)) in
          let P : ℕ → Type 0 = λ k. length (inputs k) ≡ suc (length (without_front inputs i k)) in
          let b : length (inputs n) ≡ suc (length (without_front inputs i n)) = subst P e (here_shorter n inputs i x f.here) in
          omega arith
      by (inr e) more =
          let a : lengths n inputs ≡ suc (lengths n (without_front inputs i)) = more (record { within = (let w : i < suc n = f.within in omega (arith, w, e)); here = f.here }) in
          let b : length (without_front inputs i n) ≡ length (inputs n) = ap length (others_same inputs i n (λ q. e (sym q))) in
          omega arith

  -- ---- steps enough

  enough : (n m m2 : ℕ) (inputs : ℕ → List Item) (over : ℕ → Bool) → lengths n inputs ≤ m → lengths n inputs ≤ m2 → merged before n m inputs over ≡ merged before n m2 inputs over
  unfolding Known
  enough n zero zero inputs over h k = refl
  enough n zero (suc m2) inputs over h k = go (pick before n inputs over) (known n inputs over)
    where
      go : (p : Pick) → Known n inputs p → record { given = []; left = inputs } ≡ merged_by p inputs (λ i. merged before n m2 (without_front inputs i) over)
      go Unknown f = refl
      go Nobody f = refl
      go (Takes i x) f = absurd (let a : lengths n inputs ≡ suc (lengths n (without_front inputs i)) = one_less n inputs i x f in omega (arith, h))
  enough n (suc m) zero inputs over h k = go (pick before n inputs over) (known n inputs over)
    where
      go : (p : Pick) → Known n inputs p → merged_by p inputs (λ i. merged before n m (without_front inputs i) over) ≡ record { given = []; left = inputs }
      go Unknown f = refl
      go Nobody f = refl
      go (Takes i x) f = absurd (let a : lengths n inputs ≡ suc (lengths n (without_front inputs i)) = one_less n inputs i x f in omega (arith, k))
  enough n (suc m) (suc m2) inputs over h k = go (pick before n inputs over) (known n inputs over) (λ i. enough n m m2 (without_front inputs i) over)
    where
      go : (p : Pick) → Known n inputs p → ((i : ℕ) → lengths n (without_front inputs i) ≤ m → lengths n (without_front inputs i) ≤ m2 → merged before n m (without_front inputs i) over ≡ merged before n m2 (without_front inputs i) over)
          → merged_by p inputs (λ i. merged before n m (without_front inputs i) over) ≡ merged_by p inputs (λ i. merged before n m2 (without_front inputs i) over)
      go Unknown f rec = refl
      go Nobody f rec = refl
      go (Takes i x) f rec =
          let a : lengths n inputs ≡ suc (lengths n (without_front inputs i)) = one_less n inputs i x f in
          let e = rec i (omega (arith, h)) (omega (arith, k)) in
          λ j. record { given = x ∷ (e j).given; left = (e j).left }

  -- ---- and on

  front_grown : (n : ℕ) (xs more : ℕ → List Item) (i : ℕ) (x : Item) → IsFrontOf n xs i x → (j : ℕ) → without_front (grown xs more) i j ≡ grown (without_front xs i) more j
  front_grown n xs more i x f j = by (cases_eq j i)
    where
      at : (ys zs : List Item) (y : Item) → ys ≡ y ∷ drop 1 ys → drop 1 (ys ++ zs) ≡ drop 1 ys ++ zs
      at [] zs y e = cc
      at (u ∷ us) zs y e = refl

      by : (j ≡ i) ⊎ (j ≡ i → ⊥) → without_front (grown xs more) i j ≡ grown (without_front xs i) more j
      by (inl e) = here (eqb j i) (at (xs j) (more j) x (subst (λ k. xs k ≡ x ∷ drop 1 (xs k)) (sym e) f.here))
        where
          here : (b : Bool) → drop 1 (xs j ++ more j) ≡ drop 1 (xs j) ++ more j → cond b (drop 1 (xs j ++ more j)) (xs j ++ more j) ≡ cond b (drop 1 (xs j)) (xs j) ++ more j
          here true q = q
          here false q = refl
      by (inr e) = others_same (grown xs more) i j e ∙ ap (λ l. l ++ more j) (sym (others_same xs i j e))

  on : (n m m2 : ℕ) (xs more : ℕ → List Item) (over over2 : ℕ → Bool) → GoesOn over more over2 → lengths n (grown xs more) ≤ m2
      → merged before n m2 (grown xs more) over2 ≡ after (merged before n m xs over).given (merge before n (grown (merged before n m xs over).left more) over2)
  unfolding Known goes
  on n zero m2 xs more over over2 k h = enough n m2 (lengths n (grown xs more)) (grown xs more) over2 h (omega arith)
  on n (suc m) m2 xs more over over2 k h = go (pick before n xs over) (known n xs over) (pick_same n xs more over over2 k) (λ i u. on n m u (without_front xs i) more over over2 k)
    where
      stays : merged before n m2 (grown xs more) over2 ≡ after [] (merge before n (grown xs more) over2)
      stays = enough n m2 (lengths n (grown xs more)) (grown xs more) over2 h (omega arith)

      go : (p : Pick) → Known n xs p → (goes p ≡ true → pick before n (grown xs more) over2 ≡ p)
          → ((i u : ℕ) → lengths n (grown (without_front xs i) more) ≤ u
          → merged before n u (grown (without_front xs i) more) over2 ≡ after (merged before n m (without_front xs i) over).given (merge before n (grown (merged before n m (without_front xs i) over).left more) over2))
          → merged before n m2 (grown xs more) over2
          ≡ after (merged_by p xs (λ i. merged before n m (without_front xs i) over)).given (merge before n (grown (merged_by p xs (λ i. merged before n m (without_front xs i) over)).left more) over2)
      go Unknown f e rec = stays
      go Nobody f e rec = stays
      go (Takes i x) f e rec = steps m2 h
        where
          same : without_front (grown xs more) i ≡ grown (without_front xs i) more
          same = λ k j. front_grown n xs more i x f j k

          less : lengths n (grown xs more) ≡ suc (lengths n (grown (without_front xs i) more))
          less = one_less n (grown xs more) i x (record { within = f.within; here = first (xs i) f.here }) ∙ ap (λ g. suc (lengths n g)) same
            where
              first : (ys : List Item) → ys ≡ x ∷ drop 1 ys → ys ++ more i ≡ x ∷ drop 1 (ys ++ more i)
              first [] e = cc
              first (y ∷ ys) e = (let q : y ≡ x = cc in ap (λ z. z ∷ (ys ++ more i)) q)

          steps : (u : ℕ) → lengths n (grown xs more) ≤ u → merged before n u (grown xs more) over2
              ≡ after (x ∷ (merged before n m (without_front xs i) over).given) (merge before n (grown (merged before n m (without_front xs i) over).left more) over2)
          steps zero h = absurd (let a : lengths n (grown xs more) ≡ suc (lengths n (grown (without_front xs i) more)) = less in omega (arith, h))
          steps (suc u) h =
              ap (λ p. merged_by p (grown xs more) (λ j. merged before n u (without_front (grown xs more) j) over2)) (e refl)
              ∙ (ap (λ g. record { given = x ∷ (merged before n u g over2).given; left = (merged before n u g over2).left }) same
              ∙ ap (λ (z : Merged). record { given = x ∷ z.given; left = z.left }) (rec i u (let a : lengths n (grown xs more) ≡ suc (lengths n (grown (without_front xs i) more)) = less in omega (arith, h))))

  pub goes_on : (n : ℕ) (xs more : ℕ → List Item) (over over2 : ℕ → Bool) → GoesOn over more over2
      → merge before n (grown xs more) over2 ≡ after (merge before n xs over).given (merge before n (grown (merge before n xs over).left more) over2)
  goes_on n xs more over over2 k = on n (lengths n xs) (lengths n (grown xs more)) xs more over over2 k (omega arith)
