-- Subsequences; and what tasks send to a channel stands in the order in which they give it.
use Rattle.std.proofs.Common.{ℕ, zero, suc, ◌+◌, ◌≡◌, ◌≢◌, ◌⊎◌, inl, inr, refl, sym, ap, ◌∙◌, subst, eqb, cond, List, [], ◌∷◌, ◌++◌, Bool, true, false, arith}
use Rattle.std.specs.List.{filter}
use Rattle.std.proofs.lemmas.Bool.Decides.{eqb_tells}
use Rattle.std.proofs.lemmas.List.{append-nil}
use Rattle.logical_plan.specs.Items.{Cells, Item, of_rows, concat}
use Rattle.tree_laws.specs.Tasks.{Split, all_parts}
use Rattle.tree_laws.specs.Runs.{for_channel}
use Rattle.tree_laws.proofs.Fronts.{concat-append}
use Rattle.tree_laws.proofs.Deliveries.{for-append}
use Rattle.content_laws.specs.Subsequences.{IsSubsequence}
use Rattle.content_laws.specs.Senders.{Deal, SendsInOrder}
use Rattle.content_laws.specs.SenderKinds.{whole_split, home_deal, part_of, parts_from, hash_split, item_number, hash_deal}
use Rattle.content_laws.proofs.SenderKinds.{picked, for_part}

pub within_nil : {A : Type 0} (ys : List A) → IsSubsequence [] ys
within_nil [] = refl
within_nil (y ∷ ys) = inl (within_nil ys)

pub within_refl : {A : Type 0} (ys : List A) → IsSubsequence ys ys
within_refl [] = refl
within_refl (y ∷ ys) = inr (ys, refl, within_refl ys)

pub within-append : {A : Type 0} (xs ys us vs : List A) → IsSubsequence xs ys → IsSubsequence us vs → IsSubsequence (xs ++ us) (ys ++ vs)
within-append xs [] us vs a b = subst (λ l. IsSubsequence (l ++ us) vs) (sym a) b
within-append xs (y ∷ ys) us vs (inl a) b = inl (within-append xs ys us vs a b)
within-append xs (y ∷ ys) us vs (inr a) b = inr (a.0 ++ us, ap (λ l. l ++ us) a.1, within-append a.0 ys us vs a.2 b)

pub within_rows : (xs ys : List Cells) → IsSubsequence xs ys → IsSubsequence (of_rows xs) (of_rows ys)
within_rows xs [] a = ap of_rows a
within_rows xs (y ∷ ys) (inl a) = inl (within_rows xs ys a)
within_rows xs (y ∷ ys) (inr a) = inr (of_rows a.0, ap of_rows a.1, within_rows a.0 ys a.2)

pub within_filter : {A : Type 0} (passes : A → Bool) (ys : List A) → IsSubsequence (filter passes ys) ys
within_filter passes [] = refl
within_filter passes (y ∷ ys) = go (passes y) refl (within_filter passes ys)
  where
    go : (b : Bool) → passes y ≡ b → IsSubsequence (filter passes ys) ys → IsSubsequence (filter passes (y ∷ ys)) (y ∷ ys)
    go true e a = inr (filter passes ys, rw e refl, a)
    go false e a = inl (subst (λ l. IsSubsequence l ys) (sym (let z : filter passes (y ∷ ys) ≡ filter passes ys = rw e refl in z)) a)

-- the parts for a channel of batches that are cut in order
pub parts_in_order : (split : Split) (deal : Deal) → SendsInOrder split deal → (c j : ℕ) (bs : List (List Cells)) → IsSubsequence (concat (for_channel c (all_parts split j bs))) (concat bs)
parts_in_order split deal o c j [] = refl
parts_in_order split deal o c j (b ∷ bs) = subst (λ l. IsSubsequence l (b ++ concat bs)) (sym (ap concat (for-append c (split j b) (all_parts split (j + 1) bs)) ∙ concat-append (for_channel c (split j b)) (for_channel c (all_parts split (j + 1) bs))))
    (within-append (concat (for_channel c (split j b))) b (concat (for_channel c (all_parts split (j + 1) bs))) (concat bs) (o.parts c j b) (parts_in_order split deal o c (j + 1) bs))

-- ------------------------------------------------------------ whole batches

pub whole_in_order : (to : ℕ → ℕ) (home : ℕ) → SendsInOrder (whole_split to) (home_deal home)
whole_in_order to home = record {
  parts = λ c j b. part b (eqb (to j) c);
  dealt = λ c xs. share xs (eqb home c);
}
  where
    part : (b : List Cells) (e : Bool) → IsSubsequence (concat (cond {A = List (List Cells)} e (b ∷ []) [] ++ [])) b
    part b true = subst (λ l. IsSubsequence l b) (sym (append-nil b)) (within_refl b)
    part b false = within_nil b

    share : (xs : List Item) (e : Bool) → IsSubsequence (cond e xs []) xs
    share xs true = within_refl xs
    share xs false = within_nil xs

-- ------------------------------------------------------------ rows by their number

module _ (number : Cells → ℕ) where
  for_own : (c : ℕ) (rows : List Cells) → concat (for_channel c (part_of c rows)) ≡ rows
  for_own c [] = refl
  for_own c (r ∷ rows) = elim (eqb_tells c c) [ inl e ↦ rw e.0 (append-nil (r ∷ rows)) | inr e ↦ absurd (e.1 refl) ]

  -- of the channels from c on, none before c gets a part
  none_below : (d c m : ℕ) (b : List Cells) → ((i : ℕ) → c + i ≢ d) → for_channel d (parts_from number c m b) ≡ []
  none_below d c zero b n = refl
  none_below d c (suc m) b n = for-append d (part_of c (picked number c b)) (parts_from number (suc c) m b)
      ∙ rw (for_part number c d (picked number c b) (λ e. n 0 (let z : c + 0 ≡ c = omega arith in z ∙ e)), none_below d (suc c) m b (λ i e. n (suc i) (let z : c + suc i ≡ suc c + i = omega arith in z ∙ e))) refl

  parts_within : (d c m : ℕ) (b : List Cells) → IsSubsequence (concat (for_channel d (parts_from number c m b))) b
  parts_within d c zero b = within_nil b
  parts_within d c (suc m) b = subst (λ l. IsSubsequence (concat l) b) (sym (for-append d (part_of c (picked number c b)) (parts_from number (suc c) m b))) (go (eqb_tells c d) (parts_within d (suc c) m b))
    where
      go : ((eqb c d ≡ true) × (c ≡ d)) ⊎ ((eqb c d ≡ false) × (c ≢ d)) → IsSubsequence (concat (for_channel d (parts_from number (suc c) m b))) b → IsSubsequence (concat (for_channel d (part_of c (picked number c b)) ++ for_channel d (parts_from number (suc c) m b))) b
      go (inl e) a = subst (λ l. IsSubsequence (concat (for_channel d (part_of c (picked number c b)) ++ l)) b) (sym (none_below d (suc c) m b (λ i z. (omega (arith, z, e.1)))))
          (subst (λ l. IsSubsequence (concat l) b) (sym (append-nil (for_channel d (part_of c (picked number c b)))))
          (subst (λ (k : ℕ). IsSubsequence (concat (for_channel k (part_of c (picked number c b)))) b) e.1 (subst (λ l. IsSubsequence l b) (sym (for_own c (picked number c b))) (within_filter (λ row. eqb (number row) c) b))))
      go (inr e) a = subst (λ l. IsSubsequence (concat (l ++ for_channel d (parts_from number (suc c) m b))) b) (sym (for_part number c d (picked number c b) e.1)) a

  pub hash_in_order : (n : ℕ) → SendsInOrder (hash_split number n) (hash_deal number)
  hash_in_order n = record {
    parts = λ c j b. parts_within c 0 n b;
    dealt = λ c xs. within_filter (λ x. eqb (item_number number x) c) xs;
  }
