-- Items that are alike can be arranged as one another.
use Rattle.std.proofs.Common.{◌≡◌, refl, sym, ap, subst, List, [], ◌∷◌, ◌++◌, map, length, true, false, Ok, Err, arith}
use Rattle.std.specs.Prelude.{IsPermutation}
use Rattle.std.proofs.lemmas.List.Sorted.{IsPermutation-refl, IsPermutation-trans, IsPermutation-sym, IsPermutation-cons, IsPermutation-middle, IsPermutation-append, IsPermutation-map}
use Rattle.dfx_value.specs.declared.fault.ItemFault.{ItemFault}
use Rattle.logical_plan.specs.Items.{Item, rows, faults, of_rows, of_faults}
use Rattle.content_laws.specs.Bags.{Alike}
use Rattle.content_laws.proofs.Items.{alike_rows, alike_faults, rows_permuted}
pub use Rattle.content_laws.proofs.Weights.{bag_any}
use Rattle.sort_laws.specs.Arranging.{is_row, IsArrangedAs}

-- rows, then faults
apart : (xs : List Item) → IsPermutation xs (of_rows (rows xs) ++ of_faults (faults xs))
apart [] = IsPermutation-refl []
apart (Ok r ∷ xs) = IsPermutation-cons (Ok r) xs _ (apart xs)
apart (Err f ∷ xs) = IsPermutation-trans _ _ _ (IsPermutation-cons (Err f) xs _ (apart xs)) (IsPermutation-sym _ _ (IsPermutation-middle (of_rows (rows xs)) (Err f) (of_faults (faults xs))))

-- ---- other faults in the places of faults

abbrev pub with_faults : List Item → List ItemFault → List Item
with_faults [] fs = []
with_faults (Ok r ∷ xs) fs = Ok r ∷ with_faults xs fs
with_faults (Err f ∷ xs) [] = Err f ∷ with_faults xs []
with_faults (Err f ∷ xs) (g ∷ gs) = Err g ∷ with_faults xs gs

with_rows : (xs : List Item) (fs : List ItemFault) → rows (with_faults xs fs) ≡ rows xs
with_rows [] fs = refl
with_rows (Ok r ∷ xs) fs = ap (λ rs. r ∷ rs) (with_rows xs fs)
with_rows (Err f ∷ xs) [] = with_rows xs []
with_rows (Err f ∷ xs) (g ∷ gs) = with_rows xs gs

with_places : (xs : List Item) (fs : List ItemFault) → map is_row (with_faults xs fs) ≡ map is_row xs
with_places [] fs = refl
with_places (Ok r ∷ xs) fs = ap (λ bs. true ∷ bs) (with_places xs fs)
with_places (Err f ∷ xs) [] = ap (λ bs. false ∷ bs) (with_places xs [])
with_places (Err f ∷ xs) (g ∷ gs) = ap (λ bs. false ∷ bs) (with_places xs gs)

with_those : (xs : List Item) (fs : List ItemFault) → length (faults xs) ≡ length fs → faults (with_faults xs fs) ≡ fs
with_those [] [] e = refl
with_those [] (f ∷ fs) e = absurd (omega (arith, e))
with_those (Ok r ∷ xs) fs e = with_those xs fs e
with_those (Err f ∷ xs) [] e = absurd (omega (arith, e))
with_those (Err f ∷ xs) (g ∷ gs) e = ap (λ hs. g ∷ hs) (with_those xs gs (omega (arith, e)))

pub arranged_as : (xs ys : List Item) → Alike xs ys → IsArrangedAs xs ys (with_faults xs (faults ys))
arranged_as xs ys h =
    let zs : List Item = with_faults xs (faults ys) in
    let e : rows zs ≡ rows xs = with_rows xs (faults ys) in
    let same : IsPermutation (rows zs) (rows ys) = subst (λ rs. IsPermutation rs (rows ys)) (sym e) (rows_permuted (rows xs) (rows ys) (alike_rows xs ys h)) in
    let f : faults zs ≡ faults ys = with_those xs (faults ys) (alike_faults xs ys h) in
    let these : IsPermutation zs (of_rows (rows zs) ++ of_faults (faults ys)) = subst (λ fs. IsPermutation zs (of_rows (rows zs) ++ of_faults fs)) f (apart zs) in
    record {
      same = IsPermutation-trans _ _ _ these (IsPermutation-trans _ _ _ (IsPermutation-append (of_rows (rows zs)) (of_rows (rows ys)) (of_faults (faults ys)) (of_faults (faults ys)) (IsPermutation-map (λ r. Ok r) (rows zs) (rows ys) same) (IsPermutation-refl _)) (IsPermutation-sym _ _ (apart ys)));
      rows_same = e;
      places = with_places xs (faults ys);
    }
