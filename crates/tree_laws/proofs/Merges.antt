-- A merge owes what an operator has to.
use Rattle.std.proofs.Common.{ℕ, zero, suc, ◌+◌, ◌<◌, ◌≤◌, ◌≡◌, ◌≢◌, ◌⊎◌, inl, inr, refl, sym, ap, ◌∙◌, subst, eqb, cond, List, [], ◌∷◌, ◌++◌, length, drop, Bool, true, false, ◌&&◌, not, arith, length-append}
use Rattle.std.proofs.lemmas.Bool.Decides.{eqb_tells}
use Rattle.logical_plan.specs.Items.{Cells, Item, of_rows}
use Rattle.tree_laws.specs.Operators.{Told, with_rows, with_end, IsFront, IsOp}
use Rattle.tree_laws.specs.OperatorKinds.{Pick, Unknown, Nobody, Takes, pick_with, pick, without_front, Merged, merged_by, merged, lengths, merge, first_below, all_over, is_empty, items_of, merge_op}
use Rattle.tree_laws.proofs.Fronts.{front_refl, never}
use Rattle.tree_laws.proofs.OperatorKinds.{rows_front, drop_front}

-- ------------------------------------------------------------ what is picked stays so while inputs grow

goes : Pick → Bool
goes Unknown = false
goes Nobody = true
goes (Takes i x) = true

module _ (before : Item → Item → Bool) where
  record Same (n : ℕ) (q : Pick) (xs ys : List Item) (o o2 : Bool) : Type 0 where
    below : goes q ≡ true
    picks : pick_with before n q ys o2 ≡ pick_with before n q xs o

  with_same : (n : ℕ) (q : Pick) (xs ys : List Item) (o o2 : Bool) → IsFront xs ys → (o ≡ true → (xs ≡ ys) × (o2 ≡ true)) → goes (pick_with before n q xs o) ≡ true → Same n q xs ys o o2
  unfolding goes
  with_same n Unknown xs ys o o2 f e h = cc
  with_same n Nobody [] ys true o2 f e h = (let v = e refl in record { below = refl; picks = subst (λ l. pick_with before n Nobody l o2 ≡ Nobody) v.0 (rw v.1 refl) })
  with_same n Nobody [] ys false o2 f e h = cc
  with_same n Nobody (x ∷ xs) ys o o2 f e h = record { below = refl; picks = subst (λ l. pick_with before n Nobody l o2 ≡ Takes n x) f.1 refl }
  with_same n (Takes i y) [] ys true o2 f e h = (let v = e refl in record { below = refl; picks = subst (λ l. pick_with before n (Takes i y) l o2 ≡ Takes i y) v.0 (rw v.1 refl) })
  with_same n (Takes i y) [] ys false o2 f e h = cc
  with_same n (Takes i y) (x ∷ xs) ys o o2 f e h = record { below = refl; picks = subst (λ l. pick_with before n (Takes i y) l o2 ≡ cond (before x y) (Takes n x) (Takes i y)) f.1 refl }

  -- the inputs of one merge are fronts of those of another, and the same where they have ended
  record Grow (xs ys : ℕ → List Item) (over over2 : ℕ → Bool) : Type 0 where
    front : (i : ℕ) → IsFront (xs i) (ys i)
    all : (i : ℕ) → over i ≡ true → (xs i ≡ ys i) × (over2 i ≡ true)

  pick_same : (n : ℕ) (xs ys : ℕ → List Item) (over over2 : ℕ → Bool) → Grow xs ys over over2 → goes (pick before n xs over) ≡ true → pick before n ys over2 ≡ pick before n xs over
  pick_same zero xs ys over over2 k h = refl
  pick_same (suc n) xs ys over over2 k h =
      let v = with_same n (pick before n xs over) (xs n) (ys n) (over n) (over2 n) (k.front n) (k.all n) h in
      ap (λ q. pick_with before n q (ys n) (over2 n)) (pick_same n xs ys over over2 k v.below) ∙ v.picks

  drops : (xs ys : ℕ → List Item) (over over2 : ℕ → Bool) (i : ℕ) → Grow xs ys over over2 → Grow (without_front xs i) (without_front ys i) over over2
  drops xs ys over over2 i k = record { front = λ j. front j (eqb j i); all = λ j e. all j (eqb j i) e }
    where
      front : (j : ℕ) (b : Bool) → IsFront (cond b (drop 1 (xs j)) (xs j)) (cond b (drop 1 (ys j)) (ys j))
      front j true = drop_front 1 (xs j) (ys j) (k.front j)
      front j false = k.front j

      all : (j : ℕ) (b : Bool) → over j ≡ true → (cond b (drop 1 (xs j)) (xs j) ≡ cond b (drop 1 (ys j)) (ys j)) × (over2 j ≡ true)
      all j true e = (ap (drop 1) (k.all j e).0, (k.all j e).1)
      all j false e = k.all j e

  merged_front : (n m m2 : ℕ) (xs ys : ℕ → List Item) (over over2 : ℕ → Bool) → m ≤ m2 → Grow xs ys over over2 → IsFront (merged before n m xs over).given (merged before n m2 ys over2).given
  unfolding goes
  merged_front n zero m2 xs ys over over2 h k = (_, refl)
  merged_front n (suc m) zero xs ys over over2 h k = absurd (omega arith)
  merged_front n (suc m) (suc m2) xs ys over over2 h k = go (pick before n xs over) (pick before n ys over2) (pick_same n xs ys over over2 k)
      (λ i. merged before n m (without_front xs i) over) (λ i. merged before n m2 (without_front ys i) over2)
      (λ i. merged_front n m m2 (without_front xs i) (without_front ys i) over over2 (omega arith) (drops xs ys over over2 i k))
    where
      go : (p q : Pick) → (goes p ≡ true → q ≡ p) → (rest rest2 : ℕ → Merged) → ((i : ℕ) → IsFront (rest i).given (rest2 i).given) → IsFront (merged_by p xs rest).given (merged_by q ys rest2).given
      go Unknown q e rest rest2 r = (_, refl)
      go Nobody q e rest rest2 r = (_, refl)
      go (Takes i x) q e rest rest2 r = subst (λ z. IsFront (x ∷ (rest i).given) (merged_by z ys rest2).given) (sym (e refl)) ((r i).0, ap (λ l. x ∷ l) (r i).1)

  lengths_front : (n : ℕ) (xs ys : ℕ → List Item) → ((i : ℕ) → IsFront (xs i) (ys i)) → lengths n xs ≤ lengths n ys
  lengths_front zero xs ys k = omega arith
  lengths_front (suc n) xs ys k =
      let a : lengths n xs ≤ lengths n ys = lengths_front n xs ys k in
      let b : length (xs n ++ (k n).0) ≡ length (xs n) + length (k n).0 = length-append (xs n) (k n).0 in
      let c : length (xs n ++ (k n).0) ≡ length (ys n) = ap length (k n).1 in
      omega arith

  merge_front : (n : ℕ) (xs ys : ℕ → List Item) (over over2 : ℕ → Bool) → Grow xs ys over over2 → IsFront (merge before n xs over).given (merge before n ys over2).given
  merge_front n xs ys over over2 k = merged_front n (lengths n xs) (lengths n ys) xs ys over over2 (lengths_front n xs ys k.front) k

  -- ---------------------------------------------------------- inputs that are the same below n

  pick_below : (n : ℕ) (xs ys : ℕ → List Item) (over over2 : ℕ → Bool) → ((i : ℕ) → i < n → xs i ≡ ys i) → ((i : ℕ) → i < n → over i ≡ over2 i) → pick before n xs over ≡ pick before n ys over2
  pick_below zero xs ys over over2 e o = refl
  pick_below (suc n) xs ys over over2 e o =
      ap (λ q. pick_with before n q (xs n) (over n)) (pick_below n xs ys over over2 (λ i h. e i (omega (arith, h))) (λ i h. o i (omega (arith, h))))
      ∙ (ap (λ l. pick_with before n (pick before n ys over2) l (over n)) (e n (omega arith)) ∙ ap (λ b. pick_with before n (pick before n ys over2) (ys n) b) (o n (omega arith)))

  merged_below : (n m : ℕ) (xs ys : ℕ → List Item) (over over2 : ℕ → Bool) → ((i : ℕ) → i < n → xs i ≡ ys i) → ((i : ℕ) → i < n → over i ≡ over2 i) → (merged before n m xs over).given ≡ (merged before n m ys over2).given
  merged_below n zero xs ys over over2 e o = refl
  merged_below n (suc m) xs ys over over2 e o = go (pick before n xs over) (pick before n ys over2) (pick_below n xs ys over over2 e o)
      (λ i. merged before n m (without_front xs i) over) (λ i. merged before n m (without_front ys i) over2)
      (λ i. merged_below n m (without_front xs i) (without_front ys i) over over2 (λ j h. ap (λ l. cond (eqb j i) (drop 1 l) l) (e j h)) o)
    where
      go : (p q : Pick) → p ≡ q → (rest rest2 : ℕ → Merged) → ((i : ℕ) → (rest i).given ≡ (rest2 i).given) → (merged_by p xs rest).given ≡ (merged_by q ys rest2).given
      go p q e rest rest2 r = subst (λ z. (merged_by p xs rest).given ≡ (merged_by z ys rest2).given) e (each p)
        where
          each : (p : Pick) → (merged_by p xs rest).given ≡ (merged_by p ys rest2).given
          each Unknown = refl
          each Nobody = refl
          each (Takes i x) = ap (λ l. x ∷ l) (r i)

  lengths_below : (n : ℕ) (xs ys : ℕ → List Item) → ((i : ℕ) → i < n → xs i ≡ ys i) → lengths n xs ≡ lengths n ys
  lengths_below zero xs ys e = refl
  lengths_below (suc n) xs ys e = (let a : lengths n xs ≡ lengths n ys = lengths_below n xs ys (λ i h. e i (omega (arith, h))) in let b : length (xs n) ≡ length (ys n) = ap length (e n (omega arith)) in omega arith)

  merge_below : (n : ℕ) (xs ys : ℕ → List Item) (over over2 : ℕ → Bool) → ((i : ℕ) → i < n → xs i ≡ ys i) → ((i : ℕ) → i < n → over i ≡ over2 i) → (merge before n xs over).given ≡ (merge before n ys over2).given
  merge_below n xs ys over over2 e o = ap (λ m. (merged before n m xs over).given) (lengths_below n xs ys e) ∙ merged_below n (lengths n ys) xs ys over over2 e o

  -- ---------------------------------------------------------- the wanted input

  first_is : (Q : ℕ → Type 0) (n : ℕ) (passes : ℕ → Bool) (d : ℕ) → ((i : ℕ) → passes i ≡ true → Q i) → Q d → Q (first_below n passes d)
  first_is Q zero passes d a b = b
  first_is Q (suc n) passes d a b = first_is Q n passes (cond (passes n) n d) a (go (passes n) refl)
    where
      go : (c : Bool) → passes n ≡ c → Q (cond c n d)
      go true e = a n e
      go false e = b

  not_over : (b : Bool) → not b ≡ true → b ≡ false
  not_over true e = cc
  not_over false e = refl

  first_goes : (n : ℕ) (over : ℕ → Bool) (d : ℕ) → all_over n over ≡ false → over (first_below n (λ i. not (over i)) d) ≡ false
  first_goes zero over d e = cc
  first_goes (suc n) over d e = go (over n) refl e (first_goes n over)
    where
      go : (b : Bool) → over n ≡ b → b && all_over n over ≡ false → ((c : ℕ) → all_over n over ≡ false → over (first_below n (λ i. not (over i)) c) ≡ false) → over (first_below n (λ i. not (over i)) (cond (not b) n d)) ≡ false
      go true x z rec = rec d z
      go false x z rec = first_is (λ i. over i ≡ false) n (λ i. not (over i)) n (λ i y. not_over (over i) y) x

  first_and : (a b : Bool) → a && b ≡ true → a ≡ true
  first_and true b e = refl
  first_and false b e = cc

  wanted_goes : (n : ℕ) (t : Told) → all_over n t.ended ≡ false → t.ended ((merge_op before n).wanted t) ≡ false
  wanted_goes n t c = first_is (λ i. t.ended i ≡ false) n (λ i. not (t.ended i) && is_empty ((merge before n (items_of t) t.ended).left i)) (first_below n (λ i. not (t.ended i)) 0)
      (λ i e. not_over (t.ended i) (first_and (not (t.ended i)) (is_empty ((merge before n (items_of t) t.ended).left i)) e)) (first_goes n t.ended 0 c)

  over_below : (n : ℕ) (over : ℕ → Bool) → all_over n over ≡ true → (i : ℕ) → i < n → over i ≡ true
  over_below zero over e i h = absurd (omega arith)
  over_below (suc n) over e i h = go (over n) refl e (eqb_tells i n) (λ z y. over_below n over z i y)
    where
      go : (b : Bool) → over n ≡ b → b && all_over n over ≡ true → ((eqb i n ≡ true) × (i ≡ n)) ⊎ ((eqb i n ≡ false) × (i ≢ n)) → (all_over n over ≡ true → i < n → over i ≡ true) → over i ≡ true
      go true x z (inl s) rec = ap over s.1 ∙ x
      go true x z (inr m) rec = rec z (let y : i ≢ n = m.1 in omega arith)
      go false x z s rec = cc

  -- ---------------------------------------------------------- one input grows

  by_rows : (t : Told) (w : ℕ) (rows : List Cells) → t.ended w ≡ false → Grow (items_of t) (items_of (with_rows t w rows)) t.ended t.ended
  by_rows t w rows g = record { front = λ j. front j (eqb j w); all = λ j e. (all j e (eqb_tells j w), e) }
    where
      front : (j : ℕ) (b : Bool) → IsFront (of_rows (t.taken j)) (of_rows (cond b (t.taken j ++ rows) (t.taken j)))
      front j true = rows_front (t.taken j) rows
      front j false = front_refl (of_rows (t.taken j))

      all : (j : ℕ) → t.ended j ≡ true → ((eqb j w ≡ true) × (j ≡ w)) ⊎ ((eqb j w ≡ false) × (j ≢ w)) → of_rows (t.taken j) ≡ of_rows (cond (eqb j w) (t.taken j ++ rows) (t.taken j))
      all j e (inl s) = never (t.ended w) (subst (λ i. t.ended i ≡ true) s.1 e) g
      all j e (inr n) = rw n.0 refl

  by_end : (t : Told) (w : ℕ) → Grow (items_of t) (items_of (with_end t w)) t.ended (with_end t w).ended
  by_end t w = record { front = λ j. front_refl (of_rows (t.taken j)); all = λ j e. (refl, go j e (eqb j w)) }
    where
      go : (j : ℕ) → t.ended j ≡ true → (b : Bool) → cond b true (t.ended j) ≡ true
      go j e true = refl
      go j e false = e

  pub merge_is : (n : ℕ) → IsOp (merge_op before n)
  merge_is n = record {
    grows = λ t rows s c. merge_front n (items_of t) (items_of (with_rows t ((merge_op before n).wanted t) rows)) t.ended t.ended (by_rows t ((merge_op before n).wanted t) rows (wanted_goes n t c));
    grows_end = λ t s c. merge_front n (items_of t) (items_of (with_end t ((merge_op before n).wanted t))) t.ended (with_end t ((merge_op before n).wanted t)).ended (by_end t ((merge_op before n).wanted t));
    grows_flush = λ t s c. front_refl (merge before n (items_of t) t.ended).given;
    wants = λ t s c. wanted_goes n t c;
    same_side = λ t s. refl;
    front = λ t inputs s r. merge_front n (items_of t) inputs t.ended (λ _. true) (record { front = λ i. (r i).front; all = λ i e. ((r i).all e, refl) });
    all = λ t inputs s r c. merge_below n (items_of t) inputs t.ended (λ _. true) (λ i h. (r i).all (over_below n t.ended c i h)) (λ i h. over_below n t.ended c i h);
  }
