-- What segments give, and partitions of them.
use Rattle.std.proofs.Common.{ℕ, zero, suc, ◌≡◌, refl, sym, ap, ◌∙◌, List, [], ◌∷◌, ◌++◌, map, length, drop}
use Rattle.std.specs.List.{flat_map}
use Rattle.std.proofs.lemmas.List.{append-nil, append_assoc}
use Rattle.std.proofs.lemmas.List.Concat.{flat_map-append}
use Rattle.logical_plan.specs.Items.{Cells, Item, of_rows, concat}
use Rattle.phase_laws.specs.Phases.{segments_of}
use Rattle.tree_laws.specs.OperatorKinds.{closed_items}
use Rattle.content_laws.specs.Bags.{together}
use Rattle.tree_laws.proofs.Fronts.{of_rows-append, concat-append}

drop_rows : (xs : List Cells) (rest : List Item) → drop (length xs) (of_rows xs ++ rest) ≡ rest
drop_rows [] rest = refl
drop_rows (x ∷ xs) rest = drop_rows xs rest

closed_is : (f : List Item → List Item) (closed : List (List Cells)) (last : List Item) → closed_items f closed ++ f last ≡ flat_map f (map of_rows closed ++ last ∷ [])
closed_is f [] last = sym (append-nil (f last))
closed_is f (s ∷ ss) last = append_assoc (f (of_rows s)) (closed_items f ss) (f last) ∙ ap (λ zs. f (of_rows s) ++ zs) (closed_is f ss last)

concat_is : (closed : List (List Cells)) (last : List Item) → concat (map of_rows closed ++ last ∷ []) ≡ of_rows (concat closed) ++ last
concat_is [] last = append-nil last
concat_is (s ∷ ss) last = ap (λ zs. of_rows s ++ zs) (concat_is ss last) ∙ (sym (append_assoc (of_rows s) (of_rows (concat ss)) last) ∙ ap (λ zs. zs ++ last) (sym (of_rows-append s (concat ss))))

pub segments_are : (f : List Item → List Item) (closed : List (List Cells)) (rest : List Item)
    → (closed_items f closed ++ f (drop (length (concat closed)) (of_rows (concat closed) ++ rest)) ≡ flat_map f (segments_of closed (of_rows (concat closed) ++ rest)))
    × (concat (segments_of closed (of_rows (concat closed) ++ rest)) ≡ of_rows (concat closed) ++ rest)
segments_are f closed rest = (closed_is f closed _, concat_is closed _ ∙ ap (λ zs. of_rows (concat closed) ++ zs) (drop_rows (concat closed) rest))

-- ---- partitions of the first phase

cut_together : (f : List Item → List Item) (n : ℕ) (cuts : ℕ → List (List Item)) → together n (λ i. flat_map f (cuts i)) ≡ flat_map f (together n cuts)
cut_together f zero cuts = refl
cut_together f (suc n) cuts = ap (λ zs. zs ++ flat_map f (cuts n)) (cut_together f n cuts) ∙ sym (flat_map-append f (together n cuts) (cuts n))

concat_together : (n : ℕ) (cuts : ℕ → List (List Item)) → concat (together n cuts) ≡ together n (λ i. concat (cuts i))
concat_together zero cuts = refl
concat_together (suc n) cuts = concat-append (together n cuts) (cuts n) ∙ ap (λ zs. zs ++ concat (cuts n)) (concat_together n cuts)

pub partitions : (f : List Item → List Item) (n : ℕ) (cuts : ℕ → List (List Item)) → (together n (λ i. flat_map f (cuts i)) ≡ flat_map f (together n cuts)) × (concat (together n cuts) ≡ together n (λ i. concat (cuts i)))
partitions f n cuts = (cut_together f n cuts, concat_together n cuts)
