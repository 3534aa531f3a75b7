-- Tasks that send whole batches, and tasks that send each row by its number, are senders.
use Rattle.std.proofs.Common.{ℕ, zero, suc, ◌+◌, ◌<◌, ◌≤◌, ◌≡◌, ◌≢◌, inl, inr, refl, sym, ap, ◌∙◌, subst, eqb, cond, List, [], ◌∷◌, Bool, true, false, Ok, Err, arith}
use Rattle.std.specs.List.{sum_by, filter}
use Rattle.std.proofs.lemmas.Bool.{eq-eqb}
use Rattle.std.proofs.lemmas.Bool.Decides.{eqb_tells}
use Rattle.std.proofs.lemmas.List.{append-nil}
use Rattle.std.proofs.lemmas.List.Sums.{sum_by-cons}
use Rattle.task_shape.specs.Shape.{Shape, task_at, has, width}
use Rattle.logical_plan.specs.Items.{Cells, Item, of_rows, concat}
use Rattle.tree_laws.specs.Runs.{for_channel}
use Rattle.tree_laws.proofs.Deliveries.{for-append}
use Rattle.content_laws.specs.Bags.{sum_below}
use Rattle.content_laws.specs.Senders.{bodies, IsSender, SendsOnly}
use Rattle.content_laws.specs.SenderKinds.{whole_split, home_deal, part_of, parts_from, hash_split, item_number, hash_deal, is_at}
use Rattle.content_laws.proofs.Bags.{sums_same, sums_add, sums_zero, sums_at, sums_front, weight, weight-append, bodies-append, fails, NoneFails, all_pass}

-- ------------------------------------------------------------ whole batches

pub whole_sender : (p : Shape) (u g : ℕ) (to : ℕ → ℕ) (home : ℕ) → has (task_at p u).targets home ≡ true → home < width p g → IsSender p u g (whole_split to) (home_deal home)
whole_sender p u g to home there inside = record {
  kept = λ w j b. ap (λ l. sum_by w (of_rows l)) (append-nil b);
  nothing = λ c. nil (eqb home c);
  aside = λ c xs h. elim (eqb_tells home c) [
    | inl w ↦ (let z : true ≡ false = sym there ∙ (ap (has (task_at p u).targets) w.1 ∙ h) in cc)
    | inr w ↦ rw w.0 refl
  ];
  dealt = λ w xs. sums_same (width p g) (λ c. sum_by w (home_deal home c xs)) (λ c. cond (eqb home c) (sum_by w xs) 0) (λ c h. weigh w xs (eqb home c)) ∙ sums_at (width p g) home (sum_by w xs) inside;
}
  where
    nil : (b : Bool) → cond {A = List Item} b [] [] ≡ []
    nil true = refl
    nil false = refl

    weigh : (w : Item → ℕ) (xs : List Item) (b : Bool) → sum_by w (cond b xs []) ≡ cond b (sum_by w xs) 0
    weigh w xs true = refl
    weigh w xs false = refl

-- ------------------------------------------------------------ rows by their number

module _ (number : Cells → ℕ) where
  abbrev pub picked : ℕ → List Cells → List Cells
  picked c rows = filter (λ row. eqb (number row) c) rows

  part_weighs : (w : Item → ℕ) (c : ℕ) (rows : List Cells) → weight w (bodies (part_of c rows)) ≡ sum_by w (of_rows rows)
  part_weighs w c [] = refl
  part_weighs w c (r ∷ rows) = ap (λ l. sum_by w (of_rows l)) (append-nil (r ∷ rows))

  parts_weigh : (w : Item → ℕ) (c m : ℕ) (b : List Cells) → weight w (bodies (parts_from number c m b)) ≡ sum_below m (λ i. sum_by w (of_rows (picked (c + i) b)))
  parts_weigh w c zero b = refl
  parts_weigh w c (suc m) b =
      ap (weight w) (bodies-append (part_of c (picked c b)) (parts_from number (suc c) m b)) ∙ (weight-append w (bodies (part_of c (picked c b))) (bodies (parts_from number (suc c) m b))
      ∙ (let a : weight w (bodies (part_of c (picked c b))) ≡ sum_by w (of_rows (picked c b)) = part_weighs w c (picked c b) in
      let r : weight w (bodies (parts_from number (suc c) m b)) ≡ sum_below m (λ i. sum_by w (of_rows (picked (suc c + i) b))) = parts_weigh w (suc c) m b in
      let s : sum_below (suc m) (λ i. sum_by w (of_rows (picked (c + i) b))) ≡ sum_by w (of_rows (picked (c + 0) b)) + sum_below m (λ i. sum_by w (of_rows (picked (c + suc i) b))) = sums_front m (λ i. sum_by w (of_rows (picked (c + i) b))) in
      let u : sum_below m (λ i. sum_by w (of_rows (picked (suc c + i) b))) ≡ sum_below m (λ i. sum_by w (of_rows (picked (c + suc i) b))) = sums_same m (λ i. sum_by w (of_rows (picked (suc c + i) b))) (λ i. sum_by w (of_rows (picked (c + suc i) b))) (λ i l. ap (λ j. sum_by w (of_rows (picked j b))) (let e : suc c + i ≡ c + suc i = omega arith in e)) in
      let v : sum_by w (of_rows (picked (c + 0) b)) ≡ sum_by w (of_rows (picked c b)) = ap (λ j. sum_by w (of_rows (picked j b))) (let e : c + 0 ≡ c = omega arith in e) in
      omega arith))

  picked_weighs : (w : Item → ℕ) (n : ℕ) (b : List Cells) → ((r : Cells) → number r < n) → sum_below n (λ c. sum_by w (of_rows (picked c b))) ≡ sum_by w (of_rows b)
  picked_weighs w n [] k = sums_zero n
  picked_weighs w n (r ∷ rows) k =
      sums_same n (λ c. sum_by w (of_rows (picked c (r ∷ rows)))) (λ c. cond (eqb (number r) c) (w (Ok r)) 0 + sum_by w (of_rows (picked c rows))) (λ c l. one c (eqb (number r) c) refl)
      ∙ (sums_add n (λ c. cond (eqb (number r) c) (w (Ok r)) 0) (λ c. sum_by w (of_rows (picked c rows)))
      ∙ (let a : sum_below n (λ c. cond (eqb (number r) c) (w (Ok r)) 0) ≡ w (Ok r) = sums_at n (number r) (w (Ok r)) (k r) in
      let b : sum_below n (λ c. sum_by w (of_rows (picked c rows))) ≡ sum_by w (of_rows rows) = picked_weighs w n rows k in
      let d : sum_by w (of_rows (r ∷ rows)) ≡ w (Ok r) + sum_by w (of_rows rows) = sum_by-cons w (Ok r) (of_rows rows) in omega arith))
    where
      one : (c : ℕ) (b : Bool) → eqb (number r) c ≡ b → sum_by w (of_rows (picked c (r ∷ rows))) ≡ cond b (w (Ok r)) 0 + sum_by w (of_rows (picked c rows))
      one c true e = rw e (sum_by-cons w (Ok r) (of_rows (picked c rows)))
      one c false e = (let z : sum_by w (of_rows (picked c (r ∷ rows))) ≡ sum_by w (of_rows (picked c rows)) = rw e refl in let y : sum_by w (of_rows (picked c rows)) ≡ 0 + sum_by w (of_rows (picked c rows)) = omega arith in z ∙ y)

  -- what goes to channel d are rows of number d
  picked_pass : (d : ℕ) (b : List Cells) → NoneFails (is_at number d) (of_rows (picked d b))
  picked_pass d [] = refl
  picked_pass d (r ∷ rows) = go (eqb (number r) d) refl (picked_pass d rows)
    where
      go : (b : Bool) → eqb (number r) d ≡ b → NoneFails (is_at number d) (of_rows (picked d rows)) → NoneFails (is_at number d) (of_rows (picked d (r ∷ rows)))
      go true e a = rw e (sum_by-cons (fails (is_at number d)) (Ok r) (of_rows (picked d rows)) ∙ (let y : fails (is_at number d) (Ok r) ≡ 0 = rw e refl in let z : sum_by (fails (is_at number d)) (of_rows (picked d rows)) ≡ 0 = a in omega arith))
      go false e a = rw e a

  pub for_part : (c d : ℕ) (rows : List Cells) → c ≢ d → for_channel d (part_of c rows) ≡ []
  for_part c d [] n = refl
  for_part c d (r ∷ rows) n = elim (eqb_tells c d) [ inl e ↦ absurd (n e.1) | inr e ↦ rw e.0 refl ]

  parts_pass : (c m d : ℕ) (b : List Cells) → NoneFails (is_at number d) (of_rows (concat (for_channel d (parts_from number c m b))))
  parts_pass c zero d b = refl
  parts_pass c (suc m) d b = ap (weight (fails (is_at number d))) (for-append d (part_of c (picked c b)) (parts_from number (suc c) m b)) ∙ (weight-append (fails (is_at number d)) (for_channel d (part_of c (picked c b))) (for_channel d (parts_from number (suc c) m b))
      ∙ (let x : weight (fails (is_at number d)) (for_channel d (part_of c (picked c b))) ≡ 0 = first in let y : weight (fails (is_at number d)) (for_channel d (parts_from number (suc c) m b)) ≡ 0 = parts_pass (suc c) m d b in omega arith))
    where
      here : (rows : List Cells) → NoneFails (is_at number d) (of_rows rows) → weight (fails (is_at number d)) (for_channel d (part_of d rows)) ≡ 0
      here [] a = refl
      here (r ∷ rows) a = rw (eq-eqb d d refl) (ap (λ l. sum_by (fails (is_at number d)) (of_rows l)) (append-nil (r ∷ rows)) ∙ a)

      first : weight (fails (is_at number d)) (for_channel d (part_of c (picked c b))) ≡ 0
      first = elim (eqb_tells c d) [
        | inl e ↦ subst (λ j. weight (fails (is_at number d)) (for_channel d (part_of j (picked j b))) ≡ 0) (sym e.1) (here (picked d b) (picked_pass d b))
        | inr e ↦ ap (weight (fails (is_at number d))) (for_part c d (picked c b) e.1)
      ]

  deal_pass : (d : ℕ) (xs : List Item) → NoneFails (is_at number d) (hash_deal number d xs)
  deal_pass d [] = refl
  deal_pass d (x ∷ xs) = go (eqb (item_number number x) d) refl (deal_pass d xs)
    where
      at : (x : Item) → eqb (item_number number x) d ≡ true → fails (is_at number d) x ≡ 0
      at (Ok r) e = rw e refl
      at (Err f) e = refl

      go : (b : Bool) → eqb (item_number number x) d ≡ b → NoneFails (is_at number d) (hash_deal number d xs) → NoneFails (is_at number d) (hash_deal number d (x ∷ xs))
      go true e a = rw e (sum_by-cons (fails (is_at number d)) x (hash_deal number d xs) ∙ (let y : fails (is_at number d) x ≡ 0 = at x e in let z : sum_by (fails (is_at number d)) (hash_deal number d xs) ≡ 0 = a in omega arith))
      go false e a = rw e a

  pub hash_only : (n c : ℕ) → SendsOnly (is_at number c) c (hash_split number n) (hash_deal number)
  hash_only n c = record { parts = λ j b. all_pass (is_at number c) (of_rows (concat (for_channel c (parts_from number 0 n b)))) (parts_pass 0 n c b); dealt = λ xs. all_pass (is_at number c) (hash_deal number c xs) (deal_pass c xs) }

  pub hash_sender : (p : Shape) (u g n : ℕ) → ((r : Cells) → number r < n) → 0 < n → width p g ≡ n → ((c : ℕ) → has (task_at p u).targets c ≡ false → n ≤ c) → IsSender p u g (hash_split number n) (hash_deal number)
  hash_sender p u g n small some wide out = record {
    kept = λ w j b. parts_weigh w 0 n b ∙ (sums_same n (λ i. sum_by w (of_rows (picked (0 + i) b))) (λ i. sum_by w (of_rows (picked i b))) (λ i l. ap (λ q. sum_by w (of_rows (picked q b))) (let z : 0 + i ≡ i = omega arith in z)) ∙ picked_weighs w n b small);
    nothing = λ c. refl;
    aside = λ c xs o. none c xs (out c o);
    dealt = λ w xs. ap (λ m. sum_below m (λ c. sum_by w (hash_deal number c xs))) wide ∙ spreads w xs;
  }
    where
      low : (x : Item) → item_number number x < n
      low (Ok r) = small r
      low (Err f) = some

      none : (c : ℕ) (xs : List Item) → n ≤ c → hash_deal number c xs ≡ []
      none c [] l = refl
      none c (x ∷ xs) l = elim (eqb_tells (item_number number x) c) [
        | inl q ↦ absurd (let z : item_number number x < n = low x in let y : item_number number x ≡ c = q.1 in omega arith)
        | inr q ↦ rw q.0 (none c xs l)
      ]

      spreads : (w : Item → ℕ) (xs : List Item) → sum_below n (λ c. sum_by w (hash_deal number c xs)) ≡ sum_by w xs
      spreads w [] = sums_zero n
      spreads w (x ∷ xs) =
          sums_same n (λ c. sum_by w (hash_deal number c (x ∷ xs))) (λ c. cond (eqb (item_number number x) c) (w x) 0 + sum_by w (hash_deal number c xs)) (λ c l. one c (eqb (item_number number x) c) refl)
          ∙ (sums_add n (λ c. cond (eqb (item_number number x) c) (w x) 0) (λ c. sum_by w (hash_deal number c xs))
          ∙ (let a : sum_below n (λ c. cond (eqb (item_number number x) c) (w x) 0) ≡ w x = sums_at n (item_number number x) (w x) (low x) in
          let b : sum_below n (λ c. sum_by w (hash_deal number c xs)) ≡ sum_by w xs = spreads w xs in
          let d : sum_by w (x ∷ xs) ≡ w x + sum_by w xs = sum_by-cons w x xs in omega arith))
        where
          one : (c : ℕ) (b : Bool) → eqb (item_number number x) c ≡ b → sum_by w (hash_deal number c (x ∷ xs)) ≡ cond b (w x) 0 + sum_by w (hash_deal number c xs)
          one c true e = rw e (sum_by-cons w x (hash_deal number c xs))
          one c false e = (let z : sum_by w (hash_deal number c (x ∷ xs)) ≡ sum_by w (hash_deal number c xs) = rw e refl in let y : sum_by w (hash_deal number c xs) ≡ 0 + sum_by w (hash_deal number c xs) = omega arith in z ∙ y)
