-- Bags of lists of partitions, by weights.
use Rattle.std.specs.Prelude.{◌==◌, ◌%◌}
use Rattle.std.specs.List.{filter, sum_by, flat_map}
use Rattle.std.proofs.Common.{ℕ, zero, suc, ◌+◌, ◌<◌, ◌≡◌, refl, sym, ap, ◌∙◌, eqb, cond, List, [], ◌∷◌, ◌++◌, length, get_or, map, Bool, true, false, arith, zero-add, add-zero, mod-lt}
use Rattle.std.proofs.lemmas.List.Sums.{sum_by-cons, sum_by-append}
use Rattle.physical_plan.specs.Numbers.{numbers, numbers_from}
use Rattle.logical_plan.specs.Items.{Item, concat}
use Rattle.tree_laws.specs.Operators.{Told, IsSplit, ReadsAll, Op}
use Rattle.content_laws.specs.Bags.{SameBag, sum_below, together, Alike}
use Rattle.content_laws.proofs.Bags.{sums_same, sums_add, sums_zero, sums_at, sums_front}
use Rattle.tree_laws.specs.Trees.{in_files}
use Rattle.plan_task_laws.specs.Trees.{dealt_files}
use Rattle.answer_laws.specs.Gives.{AllYield}

pub same_alike : (xs ys : List Item) → SameBag xs ys → Alike xs ys
same_alike xs ys h w blind = h w

-- ------------------------------------------------------------ lists of lists

pub concat-append : {A : Type 0} (xs ys : List (List A)) → concat (xs ++ ys) ≡ concat xs ++ concat ys
concat-append [] ys = refl
concat-append (x ∷ xs) ys = ap (λ zs. x ++ zs) (concat-append xs ys) ∙ sym (append-assoc x (concat xs) (concat ys))
  where
    append-assoc : {A : Type 0} (xs ys zs : List A) → (xs ++ ys) ++ zs ≡ xs ++ (ys ++ zs)
    append-assoc [] ys zs = refl
    append-assoc (x ∷ xs) ys zs = ap (λ us. x ∷ us) (append-assoc xs ys zs)

pub flat_weighs : {A B : Type 0} (w : B → ℕ) (h : A → List B) (xs : List A) → sum_by w (flat_map h xs) ≡ sum_by (λ x. sum_by w (h x)) xs
flat_weighs w h [] = refl
flat_weighs w h (x ∷ xs) = sum_by-append w (h x) (flat_map h xs) ∙ ap (λ (n : ℕ). sum_by w (h x) + n) (flat_weighs w h xs) ∙ sym (sum_by-cons (λ x. sum_by w (h x)) x xs)

pub map_weighs : {A B : Type 0} (w : B → ℕ) (g : A → B) (xs : List A) → sum_by w (map g xs) ≡ sum_by (λ x. w (g x)) xs
map_weighs w g [] = refl
map_weighs w g (x ∷ xs) = sum_by-cons w (g x) (map g xs) ∙ ap (λ (n : ℕ). w (g x) + n) (map_weighs w g xs) ∙ sym (sum_by-cons (λ x. w (g x)) x xs)

pub flat-append : {A B : Type 0} (w : B → ℕ) (h : A → List B) (xs ys : List A) → sum_by w (flat_map h (xs ++ ys)) ≡ sum_by w (flat_map h xs) + sum_by w (flat_map h ys)
flat-append w h xs ys =
    let a = flat_weighs w h (xs ++ ys) in
    let b = flat_weighs w h xs in
    let c = flat_weighs w h ys in
    let d = sum_by-append (λ x. sum_by w (h x)) xs ys in
    omega arith

-- ------------------------------------------------------------ partitions

-- operators that turn one weight into another do so of all partitions together
pub weighed : (w v : Item → ℕ) (op : ℕ → Op) → ((c : ℕ) (t : Told) (ins : ℕ → List Item) → IsSplit t → ReadsAll t ins → sum_by w ((op c).whole t ins) ≡ sum_by v (ins 0))
    → (xs ys : List (List Item)) → AllYield op xs ys → sum_by w (concat ys) ≡ sum_by v (concat xs)
weighed w v op owes [] [] h = refl
weighed w v op owes [] (y ∷ ys) h = absurd h
weighed w v op owes (x ∷ xs) [] h = absurd h
weighed w v op owes (x ∷ xs) (y ∷ ys) h =
    let a = h.0 in
    let b : sum_by w y ≡ sum_by v x = ap (sum_by w) a.gives ∙ owes a.consumer a.told a.taken a.split a.reads ∙ ap (sum_by v) (a.are 0) in
    let c = sum_by-append w y (concat ys) in
    let d = sum_by-append v x (concat xs) in
    let e = weighed w v op owes xs ys h.1 in
    omega arith

pub together_weighs : (w : Item → ℕ) (n : ℕ) (F : ℕ → List Item) → sum_by w (together n F) ≡ sum_below n (λ i. sum_by w (F i))
together_weighs w zero F = refl
together_weighs w (suc n) F = sum_by-append w (together n F) (F n) ∙ ap (λ (m : ℕ). m + sum_by w (F n)) (together_weighs w n F)

concat_weighs : (w : Item → ℕ) (xs : List (List Item)) → sum_by w (concat xs) ≡ sum_below (length xs) (λ i. sum_by w (get_or xs i []))
concat_weighs w [] = refl
concat_weighs w (x ∷ xs) =
    let a = sum_by-append w x (concat xs) in
    let b = concat_weighs w xs in
    let c = sums_front (length xs) (λ i. sum_by w (get_or (x ∷ xs) i [])) in
    omega arith

pub together_all : (xs : List (List Item)) (ins : ℕ → List Item) → ((i : ℕ) → ins i ≡ get_or xs i []) → SameBag (together (length xs) ins) (concat xs)
together_all xs ins h w = together_weighs w (length xs) ins ∙ sums_same (length xs) (λ i. sum_by w (ins i)) (λ i. sum_by w (get_or xs i [])) (λ i l. ap (sum_by w) (h i)) ∙ sym (concat_weighs w xs)

pub together_concat : (w : Item → ℕ) (xs : List (List Item)) (h : List Item → List Item) → sum_by w (together (length xs) (λ i. h (get_or xs i []))) ≡ sum_by w (concat (map h xs))
together_concat w xs h = together_weighs w (length xs) (λ i. h (get_or xs i [])) ∙ by xs
  where
    by : (xs : List (List Item)) → sum_below (length xs) (λ i. sum_by w (h (get_or xs i []))) ≡ sum_by w (concat (map h xs))
    by [] = refl
    by (x ∷ xs) =
        let a = sum_by-append w (h x) (concat (map h xs)) in
        let b = by xs in
        let c = sums_front (length xs) (λ i. sum_by w (h (get_or (x ∷ xs) i []))) in
        omega arith

-- ------------------------------------------------------------ the files of a scan

pub items_fuse : (s : ℕ) (items : ℕ → List Item) (is : List ℕ) → in_files (map (λ (x : ℕ). record { source = s + x; items = items x }) is) ≡ concat (map items is)
items_fuse s items [] = refl
items_fuse s items (i ∷ is) = ap (λ xs. items i ++ xs) (items_fuse s items is)

dealt_weighs : (w : Item → ℕ) (g : ℕ → List Item) (n : ℕ) → 0 < n → (xs : List ℕ) → sum_below n (λ i. sum_by w (concat (map g (filter (λ (x : ℕ). x % n == i) xs)))) ≡ sum_by w (concat (map g xs))
dealt_weighs w g n l [] = sums_zero n
dealt_weighs w g n l (x ∷ xs) =
    let a = sums_same n (λ i. sum_by w (concat (map g (filter (λ (x : ℕ). x % n == i) (x ∷ xs))))) (λ i. cond (eqb (x % n) i) (sum_by w (g x)) 0 + sum_by w (concat (map g (filter (λ (x : ℕ). x % n == i) xs)))) (λ i k. one i (eqb (x % n) i) refl) in
    let b = sums_add n (λ i. cond (eqb (x % n) i) (sum_by w (g x)) 0) (λ i. sum_by w (concat (map g (filter (λ (x : ℕ). x % n == i) xs)))) in
    let c = sums_at n (x % n) (sum_by w (g x)) (mod-lt x l) in
    let d = dealt_weighs w g n l xs in
    let e = sum_by-append w (g x) (concat (map g xs)) in
    a ∙ b ∙ (omega arith)
  where
    one : (i : ℕ) (b : Bool) → eqb (x % n) i ≡ b → sum_by w (concat (map g (filter (λ (x : ℕ). x % n == i) (x ∷ xs)))) ≡ cond b (sum_by w (g x)) 0 + sum_by w (concat (map g (filter (λ (x : ℕ). x % n == i) xs)))
    one i true e = rw e (sum_by-append w (g x) (concat (map g (filter (λ (x : ℕ). x % n == i) xs))))
    one i false e = rw e (sym (zero-add _))

map_sums : (w : Item → ℕ) (F : ℕ → List Item) (at n : ℕ) → sum_by w (concat (map F (numbers_from at n))) ≡ sum_below n (λ i. sum_by w (F (at + i)))
map_sums w F at zero = refl
map_sums w F at (suc n) =
    let a = sum_by-append w (F at) (concat (map F (numbers_from (at + 1) n))) in
    let b = map_sums w F (at + 1) n in
    let c = sums_front n (λ i. sum_by w (F (at + i))) in
    let d : sum_by w (F (at + 0)) ≡ sum_by w (F at) = ap (λ (x : ℕ). sum_by w (F x)) (add-zero at) in
    let e : sum_below n (λ i. sum_by w (F (at + 1 + i))) ≡ sum_below n (λ i. sum_by w (F (at + suc i))) = sums_same n (λ i. sum_by w (F (at + 1 + i))) (λ i. sum_by w (F (at + suc i))) (λ i l. ap (λ (x : ℕ). sum_by w (F x)) (let q : at + 1 + i ≡ at + suc i = omega arith in q)) in
    omega arith

pub map_all : (w : Item → ℕ) (F : ℕ → List Item) (n : ℕ) → sum_by w (concat (map F (numbers n))) ≡ sum_below n (λ i. sum_by w (F i))
map_all w F n = map_sums w F 0 n ∙ sums_same n (λ i. sum_by w (F (0 + i))) (λ i. sum_by w (F i)) (λ i l. ap (λ (x : ℕ). sum_by w (F x)) (zero-add i))

-- the files of all partitions are all files
pub dealt : (items : ℕ → List Item) (s files n : ℕ) → 0 < n → SameBag (concat (map (λ (i : ℕ). in_files (dealt_files items s files n i)) (numbers n))) (concat (map items (numbers files)))
dealt items s files n l w =
    map_all w (λ (i : ℕ). in_files (dealt_files items s files n i)) n
    ∙ sums_same n (λ i. sum_by w (in_files (dealt_files items s files n i))) (λ i. sum_by w (concat (map items (filter (λ (x : ℕ). x % n == i) (numbers files))))) (λ i k. ap (sum_by w) (items_fuse s items (filter (λ (x : ℕ). x % n == i) (numbers files))))
    ∙ dealt_weighs w items n l (numbers files)

listed_from : (F : ℕ → List Item) (at : ℕ) (xs : List (List Item)) → ((i : ℕ) → i < length xs → F (at + i) ≡ get_or xs i []) → map F (numbers_from at (length xs)) ≡ xs
listed_from F at [] h = refl
listed_from F at (x ∷ xs) h =
    ap (λ y. y ∷ map F (numbers_from (at + 1) (length xs))) (ap F (sym (add-zero at)) ∙ h 0 (omega arith))
    ∙ ap (λ ys. x ∷ ys) (listed_from F (at + 1) xs (λ i l. ap F (let e : at + 1 + i ≡ at + suc i = omega arith in e) ∙ h (suc i) (omega arith)))

pub listed : (F : ℕ → List Item) (xs : List (List Item)) → ((i : ℕ) → F i ≡ get_or xs i []) → map F (numbers (length xs)) ≡ xs
listed F xs h = listed_from F 0 xs (λ i l. ap F (zero-add i) ∙ h i)
