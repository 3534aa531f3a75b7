-- Rows and faults of items, partitions, and the law.
use Rattle.std.proofs.Common.{ℕ, zero, suc, ◌+◌, ◌<◌, ◌≤◌, ◌≡◌, refl, sym, ap, ◌∙◌, subst, List, [], ◌∷◌, ◌++◌, map, length, Bool, true, not, Err, arith}
use Rattle.std.specs.List.{sum_by, filter, list_any, list_all, flat_map, AllPass}
use Rattle.std.proofs.lemmas.Bool.{and_parts}
use Rattle.std.proofs.lemmas.List.Sums.{sum_by-cons, sum_by-append, list_all-from_AllPass}
use Rattle.dfx_value.specs.Kinds.{are_of}
use Rattle.dfx_value.specs.declared.kind.Kind.{Kind}
use Rattle.dfx_value.specs.declared.fault.ItemFault.{ItemFault}
use Rattle.dfx_value.specs.declared.op.AggCall.{AggCall}
use Rattle.dfx_value.specs.Rows.{cells_at}
use Rattle.logical_plan.specs.Items.{Cells, Item, rows, faults, of_faults, concat}
use Rattle.logical_plan.specs.Groups.{alike, group_item, one_group, aggregated}
use Rattle.phase_laws.specs.Phases.{IsApart, AreApart, grouped, phase_rows, phase, phase_kinds, final_item, one_final, final}
use Rattle.physical_plan.specs.Numbers.{numbers}
use Rattle.content_laws.specs.Bags.{SameBag, Alike, together}
use Rattle.content_laws.proofs.Weights.{sum_by-map, none_left}
use Rattle.content_laws.proofs.Items.{rows-append, faults-append, rows-concat, bag_rows, bag_faults, together_both, together_faults}
pub use Rattle.content_laws.proofs.Items.{rows_both, faults_both, apart_weigh, alike_rows, alike_faults}
use Rattle.phase_laws.proofs.Bags.{Each, each-append}
use Rattle.phase_laws.proofs.Groups.{like, grouped-append}
use Rattle.phase_laws.proofs.Phases.{core_item, groups_same}

-- ---- rows and faults of the first phase

rows-phase : (columns : List ℕ) (calls : List AggCall) (kinds : List Kind) (segments : List (List Item)) → rows (flat_map (phase columns calls kinds) segments) ≡ flat_map (phase_rows columns calls kinds) (map rows segments)
rows-phase columns calls kinds [] = refl
rows-phase columns calls kinds (s ∷ ss) = rows-append (phase columns calls kinds s) (flat_map (phase columns calls kinds) ss) ∙ (ap (λ zs. zs ++ rows (flat_map (phase columns calls kinds) ss)) (rows_both (faults s) (phase_rows columns calls kinds (rows s))) ∙ ap (λ zs. phase_rows columns calls kinds (rows s) ++ zs) (rows-phase columns calls kinds ss))

pub faults-phase : (columns : List ℕ) (calls : List AggCall) (kinds : List Kind) (segments : List (List Item)) → faults (flat_map (phase columns calls kinds) segments) ≡ faults (concat segments)
faults-phase columns calls kinds [] = refl
faults-phase columns calls kinds (s ∷ ss) = faults-append (phase columns calls kinds s) (flat_map (phase columns calls kinds) ss) ∙ (ap (λ zs. zs ++ faults (flat_map (phase columns calls kinds) ss)) (faults_both (faults s) (phase_rows columns calls kinds (rows s))) ∙ (ap (λ zs. faults s ++ zs) (faults-phase columns calls kinds ss) ∙ sym (faults-append s (concat ss))))

-- ---- partitions

each_from : {A : Type 0} (p : A → Bool) (xs : List A) → list_all p xs ≡ true → Each p xs
each_from p [] h = tt
each_from p (x ∷ xs) h = let a = and_parts (p x) (list_all p xs) h in (a.0, each_from p xs a.1)

pub each_pass : {A : Type 0} (p : A → Bool) (xs : List A) → AllPass p xs → Each p xs
each_pass p xs h = each_from p xs (list_all-from_AllPass p xs h)

-- a partition is apart from those before it together
apart_before : (keys : List ℕ) (m n : ℕ) (parts : ℕ → List Item) → m ≤ n → ((i : ℕ) → i < n → IsApart keys (parts i) (parts n)) → Each (λ r. not (list_any (like (cells_at keys) r) (rows (parts n)))) (rows (together m parts))
apart_before keys zero n parts l h = tt
apart_before keys (suc m) n parts l h =
    subst (Each (λ r. not (list_any (like (cells_at keys) r) (rows (parts n))))) (sym (rows-append (together m parts) (parts m)))
    (each-append _ (rows (together m parts)) (rows (parts m)) (apart_before keys m n parts (omega arith) h) (each_pass _ (rows (parts m)) (h m (omega arith))))

pub together_groups : {X : Type 0} (keys : List ℕ) (n : ℕ) (ans : Cells → List Cells → X) (w : X → ℕ) (parts : ℕ → List Item) → ((i j : ℕ) → i < j → j < n → IsApart keys (parts i) (parts j))
    → sum_by w (together n (λ i. grouped (cells_at keys) ans (rows (parts i)))) ≡ sum_by w (grouped (cells_at keys) ans (rows (together n parts)))
together_groups keys zero ans w parts h = refl
together_groups keys (suc n) ans w parts h =
    sum_by-append w (together n (λ i. grouped (cells_at keys) ans (rows (parts i)))) (grouped (cells_at keys) ans (rows (parts n)))
    ∙ (ap (λ m. m + sum_by w (grouped (cells_at keys) ans (rows (parts n)))) (together_groups keys n ans w parts (λ i j l m. h i j l (omega arith)))
    ∙ (sym (grouped-append (cells_at keys) ans w (rows (together n parts)) (rows (parts n)) (apart_before keys n n parts (omega arith) (λ i l. h i n l (omega arith))))
    ∙ ap (λ zs. sum_by w (grouped (cells_at keys) ans zs)) (sym (rows-append (together n parts) (parts n)))))

-- ---- the law

pub with_keys : (column : ℕ) (columns : List ℕ) (calls : List AggCall) (kinds : List Kind) (segments : List (List Item)) (input : List Item) (n : ℕ) (parts : ℕ → List Item)
    → AllPass (are_of kinds) (rows input) → SameBag (concat segments) input → SameBag (together n parts) (flat_map (phase (column ∷ columns) calls kinds) segments)
    → AreApart (numbers (length (column ∷ columns))) n parts
    → SameBag (together n (λ i. final (numbers (length (column ∷ columns))) calls (phase_kinds (column ∷ columns) calls kinds) (parts i))) (aggregated (column ∷ columns) calls kinds input)
with_keys column columns calls kinds segments input n parts good same came apart w =
    let all : List ℕ = column ∷ columns in
    let came_rows : SameBag (flat_map (phase_rows (column ∷ columns) calls kinds) (map rows segments)) (rows (together n parts))
    = λ v. sym (bag_rows (together n parts) (flat_map (phase (column ∷ columns) calls kinds) segments) came v ∙ ap (sum_by v) (rows-phase (column ∷ columns) calls kinds segments)) in
    let same_rows : SameBag (concat (map rows segments)) (rows input) = λ v. ap (sum_by v) (sym (rows-concat segments)) ∙ bag_rows (concat segments) input same v in
    let a : sum_by w (together n (λ i. final (numbers (length (column ∷ columns))) calls (phase_kinds (column ∷ columns) calls kinds) (parts i))) ≡ sum_by w (together n (λ i. of_faults (faults (parts i)))) + sum_by w (together n (λ i. grouped (cells_at (numbers (length (column ∷ columns)))) (final_item (length (numbers (length (column ∷ columns)))) calls (phase_kinds (column ∷ columns) calls kinds)) (rows (parts i))))
    = together_both w n (λ i. of_faults (faults (parts i))) (λ i. grouped (cells_at (numbers (length (column ∷ columns)))) (final_item (length (numbers (length (column ∷ columns)))) calls (phase_kinds (column ∷ columns) calls kinds)) (rows (parts i))) in
    let b : sum_by w (together n (λ i. of_faults (faults (parts i)))) ≡ sum_by w (of_faults (faults input))
    = together_faults w n parts ∙ (bag_faults (together n parts) (flat_map (phase (column ∷ columns) calls kinds) segments) came (λ f. w (Err f)) ∙ (ap (sum_by (λ f. w (Err f))) (faults-phase (column ∷ columns) calls kinds segments) ∙ (bag_faults (concat segments) input same (λ f. w (Err f)) ∙ sym (sum_by-map (λ f. Err f) w (faults input))))) in
    let c : sum_by w (together n (λ i. grouped (cells_at (numbers (length (column ∷ columns)))) (final_item (length (numbers (length (column ∷ columns)))) calls (phase_kinds (column ∷ columns) calls kinds)) (rows (parts i)))) ≡ sum_by w (grouped (cells_at (column ∷ columns)) (λ k group. group_item k calls kinds group) (rows input))
    = together_groups (numbers (length (column ∷ columns))) n (final_item (length (numbers (length (column ∷ columns)))) calls (phase_kinds (column ∷ columns) calls kinds)) w parts apart ∙ groups_same (column ∷ columns) calls kinds w (map rows segments) (rows input) (rows (together n parts)) (each_pass (are_of kinds) (rows input) good) same_rows came_rows in
    let d : sum_by w (aggregated (column ∷ columns) calls kinds input) ≡ sum_by w (of_faults (faults input)) + sum_by w (grouped (cells_at (column ∷ columns)) (λ k group. group_item k calls kinds group) (rows input))
    = sum_by-append w (of_faults (faults input)) (grouped (cells_at (column ∷ columns)) (λ k group. group_item k calls kinds group) (rows input)) in
    omega arith

filter_all : {A : Type 0} (xs : List A) → filter (λ x. true) xs ≡ xs
filter_all [] = refl
filter_all (x ∷ xs) = ap (λ zs. x ∷ zs) (filter_all xs)

-- without faults the one item is that of the meaning
pub one_item : (calls : List AggCall) (kinds : List Kind) (segments : List (List Item)) (input part : List Item)
    → AllPass (are_of kinds) (rows input) → SameBag (concat segments) input → SameBag part (flat_map (phase [] calls kinds) segments)
    → final_item 0 calls (phase_kinds [] calls kinds) [] (rows part) ≡ group_item [] calls kinds (rows input)
one_item calls kinds segments input part good same came =
    ap (final_item 0 calls (phase_kinds [] calls kinds) []) (sym (filter_all (rows part)))
    ∙ (core_item [] calls kinds [] (map rows segments) (rows input) (rows part) (each_pass (are_of kinds) (rows input) good)
    (λ v. ap (sum_by v) (sym (rows-concat segments)) ∙ bag_rows (concat segments) input same v)
    (λ v. sym (bag_rows part (flat_map (phase [] calls kinds) segments) came v ∙ ap (sum_by v) (rows-phase [] calls kinds segments)))
    ∙ ap (group_item [] calls kinds) (filter_all (rows input)))

without_keys : (calls : List AggCall) (kinds : List Kind) (segments : List (List Item)) (input part : List Item)
    → AllPass (are_of kinds) (rows input) → SameBag (concat segments) input → SameBag part (flat_map (phase [] calls kinds) segments)
    → (w : Item → ℕ) → ((f g : ItemFault) → w (Err f) ≡ w (Err g)) → w (one_final calls (phase_kinds [] calls kinds) (rows part) (faults part)) ≡ w (one_group calls kinds (rows input) (faults input))
without_keys calls kinds segments input part good same came w alike = by (faults part) (faults input) (λ v. bag_faults part (flat_map (phase [] calls kinds) segments) came v ∙ (ap (sum_by v) (faults-phase [] calls kinds segments) ∙ bag_faults (concat segments) input same v))
  where
    by : (fs gs : List ItemFault) → SameBag fs gs → w (one_final calls (phase_kinds [] calls kinds) (rows part) fs) ≡ w (one_group calls kinds (rows input) gs)
    by [] [] h = ap w (one_item calls kinds segments input part good same came)
    by (f ∷ fs) (g ∷ gs) h = alike f g
    by [] (g ∷ gs) h = none_left g gs h
    by (f ∷ fs) [] h = absurd (let a : sum_by (λ _. 1) (f ∷ fs) ≡ 0 = h (λ _. 1) in let b : sum_by (λ _. 1) (f ∷ fs) ≡ 1 + sum_by (λ _. 1) fs = sum_by-cons (λ _. 1) f fs in omega arith)

pub two_phases : (columns : List ℕ) (calls : List AggCall) (kinds : List Kind) (segments : List (List Item)) (input : List Item) (n : ℕ) (parts : ℕ → List Item)
    → AllPass (are_of kinds) (rows input) → SameBag (concat segments) input → SameBag (together n parts) (flat_map (phase columns calls kinds) segments)
    → AreApart (numbers (length columns)) n parts
    → Alike (together n (λ i. final (numbers (length columns)) calls (phase_kinds columns calls kinds) (parts i))) (aggregated columns calls kinds input)
two_phases (column ∷ columns) calls kinds segments input n parts good same came apart = λ w alike. with_keys column columns calls kinds segments input n parts good same came apart w
two_phases [] calls kinds segments input n parts good same came apart = λ w alike.
    let P : ℕ → Type 0 = λ m. SameBag (together m parts) (flat_map (phase [] calls kinds) segments) in
    let Q : ℕ → Type 0 = λ m. sum_by w (together m (λ i. final [] calls (phase_kinds [] calls kinds) (parts i))) ≡ sum_by w (aggregated [] calls kinds input) in
    let one : SameBag (together 1 parts) (flat_map (phase [] calls kinds) segments) = subst P apart came in
    let a : w (one_final calls (phase_kinds [] calls kinds) (rows (parts 0)) (faults (parts 0))) ≡ w (one_group calls kinds (rows input) (faults input)) = without_keys calls kinds segments input (parts 0) good same one w alike in
    let b : sum_by w (together 1 (λ i. final [] calls (phase_kinds [] calls kinds) (parts i))) ≡ w (one_final calls (phase_kinds [] calls kinds) (rows (parts 0)) (faults (parts 0))) + 0 = sum_by-cons w (one_final calls (phase_kinds [] calls kinds) (rows (parts 0)) (faults (parts 0))) [] in
    let c : sum_by w (aggregated [] calls kinds input) ≡ w (one_group calls kinds (rows input) (faults input)) + 0 = sum_by-cons w (one_group calls kinds (rows input) (faults input)) [] in
    let d : sum_by w (together 1 (λ i. final [] calls (phase_kinds [] calls kinds) (parts i))) ≡ sum_by w (aggregated [] calls kinds input) = omega arith in
    subst Q (sym apart) d
