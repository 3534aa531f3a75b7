-- Items whose faults are all one: alike lists are then the same bag, and groups see no difference but that.
use Rattle.std.specs.List.{sum_by, flat_map, list_any, AllPass}
use Rattle.std.proofs.Common.{ℕ, zero, suc, ◌+◌, ◌≡◌, refl, sym, ap, ◌∙◌, subst, List, [], ◌∷◌, ◌++◌, length, map, not, Ok, Err, arith}
use Rattle.std.proofs.lemmas.List.Sums.{sum_by-cons, sum_by-append}
use Rattle.dfx_value.specs.declared.fault.ItemFault.{ItemFault}
use Rattle.dfx_value.specs.declared.fault.ItemFault.TheVariants.{Evaluation}
use Rattle.dfx_value.specs.declared.fault.EvalFault.TheVariants.{Overflow}
use Rattle.dfx_value.specs.declared.kind.Kind.{Kind}
use Rattle.dfx_value.specs.declared.op.AggCall.{AggCall}
use Rattle.dfx_value.specs.Rows.{cells_at}
use Rattle.logical_plan.specs.Items.{Cells, Item, rows, faults, of_rows, of_faults, concat}
use Rattle.logical_plan.specs.Groups.{alike, aggregated, group_item, group_of, one_group}
use Rattle.scalar_exprs.specs.Groups.{firsts}
use Rattle.content_laws.specs.Bags.{SameBag, together, Alike}
use Rattle.phase_laws.specs.Phases.{grouped, phase, phase_rows, final, final_item, one_final, AreApart}
use Rattle.answer_laws.proofs.Weights.{map_weighs}

abbrev blank : ItemFault
blank = Evaluation Overflow

abbrev pub blur : Item → Item
blur (Ok row) = Ok row
blur (Err f) = Err blank

abbrev pub blurred : List Item → List Item
blurred = map blur

map-append : {A B : Type 0} (h : A → B) (xs ys : List A) → map h (xs ++ ys) ≡ map h xs ++ map h ys
map-append h [] ys = refl
map-append h (x ∷ xs) ys = ap (λ zs. h x ∷ zs) (map-append h xs ys)

pub same_rows : (xs : List Item) → rows (blurred xs) ≡ rows xs
same_rows [] = refl
same_rows (Ok r ∷ xs) = ap (λ rs. r ∷ rs) (same_rows xs)
same_rows (Err f ∷ xs) = same_rows xs

blank_faults : (xs : List Item) → of_faults (faults (blurred xs)) ≡ blurred (of_faults (faults xs))
blank_faults [] = refl
blank_faults (Ok r ∷ xs) = blank_faults xs
blank_faults (Err f ∷ xs) = ap (λ ys. Err blank ∷ ys) (blank_faults xs)

rows_stay : (rs : List Cells) → of_rows rs ≡ blurred (of_rows rs)
rows_stay [] = refl
rows_stay (r ∷ rs) = ap (λ ys. Ok r ∷ ys) (rows_stay rs)

-- ------------------------------------------------------------ bags

blind_same : (w : Item → ℕ) → ((f g : ItemFault) → w (Err f) ≡ w (Err g)) → (xs : List Item) → sum_by w (blurred xs) ≡ sum_by w xs
blind_same w blind [] = refl
blind_same w blind (x ∷ xs) = sum_by-cons w (blur x) (blurred xs) ∙ ap (λ (n : ℕ). n + sum_by w (blurred xs)) (by x) ∙ ap (λ (n : ℕ). w x + n) (blind_same w blind xs) ∙ sym (sum_by-cons w x xs)
  where
    by : (x : Item) → w (blur x) ≡ w x
    by (Ok r) = refl
    by (Err f) = blind blank f

pub blurred_alike : (xs : List Item) → Alike (blurred xs) xs
blurred_alike xs w blind = blind_same w blind xs

pub alike_blurred : (xs ys : List Item) → Alike xs ys → SameBag (blurred xs) (blurred ys)
alike_blurred xs ys h w = map_weighs w blur xs ∙ h (λ x. w (blur x)) (λ f g. refl) ∙ sym (map_weighs w blur ys)

pub same_blurred : (xs ys : List Item) → SameBag xs ys → SameBag (blurred xs) (blurred ys)
same_blurred xs ys h w = map_weighs w blur xs ∙ h (λ x. w (blur x)) ∙ sym (map_weighs w blur ys)

pub blurred_concat : (xs : List (List Item)) → concat (map blurred xs) ≡ blurred (concat xs)
blurred_concat [] = refl
blurred_concat (x ∷ xs) = ap (λ ys. blurred x ++ ys) (blurred_concat xs) ∙ sym (map-append blur x (concat xs))

pub blurred_together : (n : ℕ) (parts : ℕ → List Item) → together n (λ i. blurred (parts i)) ≡ blurred (together n parts)
blurred_together zero parts = refl
blurred_together (suc n) parts = ap (λ ys. ys ++ blurred (parts n)) (blurred_together n parts) ∙ sym (map-append blur (together n parts) (parts n))

-- two lists of which the rest is the same are alike where their faults are
two_alike : (fs gs : List Item) (xs : List Item) → Alike fs gs → Alike (fs ++ xs) (gs ++ xs)
two_alike fs gs xs h w blind = sum_by-append w fs xs ∙ ap (λ (n : ℕ). n + sum_by w xs) (h w blind) ∙ sym (sum_by-append w gs xs)

-- ------------------------------------------------------------ phases and groups

module _ (columns : List ℕ) (calls : List AggCall) (kinds : List Kind) where
  phase_blurs : (xs : List Item) → phase columns calls kinds (blurred xs) ≡ blurred (phase columns calls kinds xs)
  phase_blurs xs =
      ap (λ fs. fs ++ of_rows (phase_rows columns calls kinds (rows (blurred xs)))) (blank_faults xs)
      ∙ ap (λ (rs : List Cells). blurred (of_faults (faults xs)) ++ of_rows (phase_rows columns calls kinds rs)) (same_rows xs)
      ∙ ap (λ ys. blurred (of_faults (faults xs)) ++ ys) (rows_stay (phase_rows columns calls kinds (rows xs)))
      ∙ sym (map-append blur (of_faults (faults xs)) (of_rows (phase_rows columns calls kinds (rows xs))))

  pub phases_blur : (xs : List (List Item)) → flat_map (phase columns calls kinds) (map blurred xs) ≡ blurred (flat_map (phase columns calls kinds) xs)
  phases_blur [] = refl
  phases_blur (x ∷ xs) = ap (λ ys. ys ++ flat_map (phase columns calls kinds) (map blurred xs)) (phase_blurs x) ∙ ap (λ ys. blurred (phase columns calls kinds x) ++ ys) (phases_blur xs)
      ∙ sym (map-append blur (phase columns calls kinds x) (flat_map (phase columns calls kinds) xs))

faults_alike : (xs : List Item) → Alike (of_faults (faults (blurred xs))) (of_faults (faults xs))
faults_alike xs w blind = ap (sum_by w) (blank_faults xs) ∙ blind_same w blind (of_faults (faults xs))

-- the one item of a grouping without keys
one_alike : (h : List Cells → List ItemFault → Item) → ((rs : List Cells) (f g : ItemFault) (fs gs : List ItemFault) → Alike (h rs (f ∷ fs) ∷ []) (h rs (g ∷ gs) ∷ [])) → (xs : List Item)
    → Alike (h (rows (blurred xs)) (faults (blurred xs)) ∷ []) (h (rows xs) (faults xs) ∷ [])
one_alike h same xs w blind = ap (λ (rs : List Cells). sum_by w (h rs (faults (blurred xs)) ∷ [])) (same_rows xs) ∙ by (rows xs) xs
  where
    by : (rs : List Cells) (ys : List Item) → sum_by w (h rs (faults (blurred ys)) ∷ []) ≡ sum_by w (h rs (faults ys) ∷ [])
    by rs [] = refl
    by rs (Ok r ∷ ys) = by rs ys
    by rs (Err f ∷ ys) = same rs blank f (faults (blurred ys)) (faults ys) w blind

pub aggregated_blurs : (columns : List ℕ) (calls : List AggCall) (kinds : List Kind) (xs : List Item) → Alike (aggregated columns calls kinds (blurred xs)) (aggregated columns calls kinds xs)
aggregated_blurs [] calls kinds xs w blind = one_alike (one_group calls kinds) (λ rs f g fs gs w blind. ap (λ (n : ℕ). 0 + n) (blind f g)) xs w blind
aggregated_blurs (c ∷ cs) calls kinds xs w blind =
    two_alike (of_faults (faults (blurred xs))) (of_faults (faults xs)) (with_rows (rows (blurred xs))) (faults_alike xs) w blind
    ∙ ap (λ (rs : List Cells). sum_by w (of_faults (faults xs) ++ with_rows rs)) (same_rows xs)
  where
    with_rows : List Cells → List Item
    with_rows rs = map (λ r. group_item (cells_at (c ∷ cs) r) calls kinds (group_of (c ∷ cs) rs r)) (firsts (alike (c ∷ cs)) rs)

pub final_blurs : (keys : List ℕ) (calls : List AggCall) (kinds : List Kind) (xs : List Item) → Alike (final keys calls kinds (blurred xs)) (final keys calls kinds xs)
final_blurs [] calls kinds xs w blind = one_alike (one_final calls kinds) (λ rs f g fs gs w blind. ap (λ (n : ℕ). 0 + n) (blind f g)) xs w blind
final_blurs (k ∷ ks) calls kinds xs w blind =
    two_alike (of_faults (faults (blurred xs))) (of_faults (faults xs)) (with_rows (rows (blurred xs))) (faults_alike xs) w blind
    ∙ ap (λ (rs : List Cells). sum_by w (of_faults (faults xs) ++ with_rows rs)) (same_rows xs)
  where
    with_rows : List Cells → List Item
    with_rows rs = grouped (cells_at (k ∷ ks)) (final_item (length (k ∷ ks)) calls kinds) rs

pub finals_blur : (keys : List ℕ) (calls : List AggCall) (kinds : List Kind) (n : ℕ) (parts : ℕ → List Item)
    → Alike (together n (λ i. final keys calls kinds (blurred (parts i)))) (together n (λ i. final keys calls kinds (parts i)))
finals_blur keys calls kinds zero parts w blind = refl
finals_blur keys calls kinds (suc n) parts w blind =
    let a = sum_by-append w (together n (λ i. final keys calls kinds (blurred (parts i)))) (final keys calls kinds (blurred (parts n))) in
    let b = sum_by-append w (together n (λ i. final keys calls kinds (parts i))) (final keys calls kinds (parts n)) in
    let c = finals_blur keys calls kinds n parts w blind in
    let d = final_blurs keys calls kinds (parts n) w blind in
    omega arith

pub apart_blurs : (keys : List ℕ) (n : ℕ) (parts : ℕ → List Item) → AreApart keys n parts → AreApart keys n (λ i. blurred (parts i))
apart_blurs [] n parts h = h
apart_blurs (k ∷ ks) n parts h = λ i j l m.
    subst (λ (rs : List Cells). AllPass (λ r. not (list_any (alike (k ∷ ks) r) (rows (blurred (parts j))))) rs) (sym (same_rows (parts i)))
    (subst (λ (rs : List Cells). AllPass (λ r. not (list_any (alike (k ∷ ks) r) rs)) (rows (parts i))) (sym (same_rows (parts j))) (h i j l m))
