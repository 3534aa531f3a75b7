-- The second phase over rows of its kinds, in any order and over partitions apart.
use Rattle.std.proofs.Common.{ℕ, zero, suc, ◌+◌, ◌≡◌, refl, sym, ap, ◌∙◌, subst, List, [], ◌∷◌, ◌++◌, map, length, drop, true, Ok, Err, arith}
use Rattle.std.specs.Prelude.{slice_get}
use Rattle.std.specs.List.{sum_by, AllPass}
use Rattle.std.proofs.lemmas.Bool.{true≢false, and_parts}
use Rattle.std.proofs.lemmas.List.Folds.{fold-map}
use Rattle.std.proofs.lemmas.List.Sums.{sum_by-cons, sum_by-append}
use Rattle.dfx_value.specs.Checked.{◌>>=◌}
use Rattle.dfx_value.specs.Kinds.{is_of, are_of}
use Rattle.dfx_value.specs.declared.fault.ItemFault.{ItemFault}
use Rattle.dfx_value.specs.declared.kind.Kind.{Kind}
use Rattle.dfx_value.specs.declared.op.AggCall.{AggCall}
use Rattle.dfx_value.specs.declared.op.AggCall.TheVariants as call
use Rattle.dfx_value.specs.Rows.{cells_at}
use Rattle.scalar_exprs.specs.Groups.{same_keys}
use Rattle.logical_plan.specs.Items.{Cells, Item, rows, faults, of_faults, all_values, as_item}
use Rattle.phase_laws.specs.States.{state_of, merged, all_merged, read, finished}
use Rattle.physical_plan.specs.Properties.{state_width}
use Rattle.phase_laws.specs.Phases.{AreApart, grouped, told_kind, answers, final_item, one_final, final}
use Rattle.content_laws.specs.Bags.{SameBag, Alike, together}
use Rattle.content_laws.proofs.Identity.{cells, cells_exact}
use Rattle.content_laws.proofs.Weights.{bag-filter, bag-map, bag_any, sum_by-map}
use Rattle.content_laws.proofs.Items.{bag_rows, bag_faults, together_both, together_faults}
use Rattle.phase_laws.proofs.Bags.{Each, each_more, each-filter, bag_each, fold_bag}
use Rattle.phase_laws.proofs.States.{merged_swap}
use Rattle.phase_laws.proofs.Exact.{cell_fits, key_fits, cells_at_fits, keys_exact}
use Rattle.phase_laws.proofs.Groups.{of_keys, grouped_same}
use Rattle.phase_laws.proofs.Core.{call_fits, ties_read, step}
use Rattle.phase_laws.proofs.Items.{each_pass, together_groups}

first_fits : (c : AggCall) (ks : List Kind) (row : Cells) → are_of ks row ≡ true → call_fits c (slice_get ks 0) row ≡ true
first_fits call.CountAll ks row h = refl
first_fits (call.Count c) ks row h = refl
first_fits (call.Sum c) ks row h = refl
first_fits (call.Min c) ks row h = cell_fits ks row 0 h
first_fits (call.Max c) ks row h = cell_fits ks row 0 h
first_fits (call.Avg c) ks row h = refl

are_of-drop : (n : ℕ) (ks : List Kind) (row : Cells) → are_of ks row ≡ true → are_of (drop n ks) (drop n row) ≡ true
are_of-drop zero ks row h = h
are_of-drop (suc n) [] [] h = refl
are_of-drop (suc n) [] (v ∷ vs) h = absurd (true≢false (sym h))
are_of-drop (suc n) (k ∷ ks) [] h = absurd (true≢false (sym h))
are_of-drop (suc n) (k ∷ ks) (v ∷ vs) h = are_of-drop n ks vs (and_parts (is_of k v) (are_of ks vs) h).1

left_fits : (n : ℕ) (ks : List Kind) (xs : List Cells) → Each (are_of ks) xs → Each (are_of (drop n ks)) (map (drop n) xs)
left_fits n ks [] h = tt
left_fits n ks (x ∷ xs) h = (are_of-drop n ks x h.0, left_fits n ks xs h.1)

pub answers_order : (calls : List AggCall) (ks : List Kind) (xs ys : List Cells) → Each (are_of ks) xs → SameBag xs ys → answers calls ks xs ≡ answers calls ks ys
answers_order [] ks xs ys h same = refl
answers_order (c ∷ calls) ks xs ys h same =
    ap (λ s. finished c (told_kind c ks) s ∷ answers calls (drop (state_width c) ks) (map (drop (state_width c)) xs)) head
    ∙ ap (λ os. finished c (told_kind c ks) (all_merged c (map (read c) ys)) ∷ os) (answers_order calls (drop (state_width c) ks) (map (drop (state_width c)) xs) (map (drop (state_width c)) ys) (left_fits (state_width c) ks xs h) (bag-map (drop (state_width c)) xs ys same))
  where
    fit : Each (call_fits c (slice_get ks 0)) xs
    fit = each_more (are_of ks) (call_fits c (slice_get ks 0)) (λ row e. first_fits c ks row e) xs h

    head : all_merged c (map (read c) xs) ≡ all_merged c (map (read c) ys)
    head = fold-map (merged c) (read c) (state_of c []) xs
        ∙ (fold_bag cells cells_exact (step c) (call_fits c (slice_get ks 0)) (λ s a b e f. merged_swap c s (read c a) (read c b) (ties_read c (slice_get ks 0) a b e f)) (state_of c []) xs ys fit (bag_each (call_fits c (slice_get ks 0)) xs ys same fit) same
        ∙ sym (fold-map (merged c) (read c) (state_of c []) ys))

item_order : (n : ℕ) (calls : List AggCall) (ks : List Kind) (k : Cells) (xs ys : List Cells) → Each (are_of ks) xs → SameBag xs ys → final_item n calls ks k xs ≡ final_item n calls ks k ys
item_order n calls ks k xs ys h same = ap (λ os. as_item (all_values os >>= λ vs. Ok (k ++ vs))) (answers_order calls (drop n ks) (map (drop n) xs) (map (drop n) ys) (left_fits n ks xs h) (bag-map (drop n) xs ys same))

groups_order : (keys : List ℕ) (n : ℕ) (calls : List AggCall) (ks : List Kind) (w : Item → ℕ) (xs ys : List Cells) → Each (are_of ks) xs → SameBag xs ys
    → sum_by w (grouped (cells_at keys) (final_item n calls ks) xs) ≡ sum_by w (grouped (cells_at keys) (final_item n calls ks) ys)
groups_order keys n calls ks w xs ys h same =
    grouped_same (cells_at keys) (cells_at keys) (final_item n calls ks) (final_item n calls ks) w (key_fits ks keys) (keys_exact ks keys) xs ys
    (each_more (are_of ks) (λ r. key_fits ks keys (cells_at keys r)) (λ r e. cells_at_fits ks keys r e) xs h)
    (each_more (are_of ks) (λ r. key_fits ks keys (cells_at keys r)) (λ r e. cells_at_fits ks keys r e) ys (bag_each (are_of ks) xs ys same h))
    (λ k. ap w (item_order n calls ks k (of_keys (cells_at keys) k xs) (of_keys (cells_at keys) k ys) (each-filter (are_of ks) (λ r. same_keys k (cells_at keys r)) xs h) (bag-filter (λ r. same_keys k (cells_at keys r)) xs ys same)))
    (λ k. bag_any (λ r. same_keys k (cells_at keys r)) xs ys same)

-- the partitions of the second phase together, from those of its input
pub final_order : (keys : List ℕ) (calls : List AggCall) (ks : List Kind) (items : List Item) (n : ℕ) (parts : ℕ → List Item) → AllPass (are_of ks) (rows items) → SameBag items (together n parts) → AreApart keys n parts
    → Alike (together n (λ i. final keys calls ks (parts i))) (final keys calls ks items)
final_order (column ∷ columns) calls ks items n parts good same apart = λ w alike.
    let a : sum_by w (together n (λ i. final (column ∷ columns) calls ks (parts i))) ≡ sum_by w (together n (λ i. of_faults (faults (parts i)))) + sum_by w (together n (λ i. grouped (cells_at (column ∷ columns)) (final_item (length (column ∷ columns)) calls ks) (rows (parts i))))
    = together_both w n (λ i. of_faults (faults (parts i))) (λ i. grouped (cells_at (column ∷ columns)) (final_item (length (column ∷ columns)) calls ks) (rows (parts i))) in
    let b : sum_by w (together n (λ i. of_faults (faults (parts i)))) ≡ sum_by w (of_faults (faults items)) = together_faults w n parts ∙ (sym (bag_faults items (together n parts) same (λ f. w (Err f))) ∙ sym (sum_by-map (λ f. Err f) w (faults items))) in
    let c : sum_by w (together n (λ i. grouped (cells_at (column ∷ columns)) (final_item (length (column ∷ columns)) calls ks) (rows (parts i)))) ≡ sum_by w (grouped (cells_at (column ∷ columns)) (final_item (length (column ∷ columns)) calls ks) (rows items))
    = together_groups (column ∷ columns) n (final_item (length (column ∷ columns)) calls ks) w parts apart ∙ sym (groups_order (column ∷ columns) (length (column ∷ columns)) calls ks w (rows items) (rows (together n parts)) (each_pass (are_of ks) (rows items) good) (bag_rows items (together n parts) same)) in
    let d : sum_by w (final (column ∷ columns) calls ks items) ≡ sum_by w (of_faults (faults items)) + sum_by w (grouped (cells_at (column ∷ columns)) (final_item (length (column ∷ columns)) calls ks) (rows items))
    = sum_by-append w (of_faults (faults items)) (grouped (cells_at (column ∷ columns)) (final_item (length (column ∷ columns)) calls ks) (rows items)) in
    omega arith
final_order [] calls ks items n parts good same apart = λ w alike.
    let P : ℕ → Type 0 = λ m. SameBag items (together m parts) in
    let Q : ℕ → Type 0 = λ m. sum_by w (together m (λ i. final [] calls ks (parts i))) ≡ sum_by w (final [] calls ks items) in
    let one : SameBag items (parts 0) = subst P apart same in
    let a : w (one_final calls ks (rows (parts 0)) (faults (parts 0))) ≡ w (one_final calls ks (rows items) (faults items)) = by w alike (faults (parts 0)) (faults items) (bag_faults items (parts 0) one) (item_order 0 calls ks [] (rows items) (rows (parts 0)) (each_pass (are_of ks) (rows items) good) (bag_rows items (parts 0) one)) in
    subst Q (sym apart) (sum_by-cons w (one_final calls ks (rows (parts 0)) (faults (parts 0))) [] ∙ (ap (λ m. m + 0) a ∙ sym (sum_by-cons w (one_final calls ks (rows items) (faults items)) [])))
  where
    by : (w : Item → ℕ) → ((f g : ItemFault) → w (Err f) ≡ w (Err g)) → (fs gs : List ItemFault) → SameBag gs fs → final_item 0 calls ks [] (rows items) ≡ final_item 0 calls ks [] (rows (parts 0)) → w (one_final calls ks (rows (parts 0)) fs) ≡ w (one_final calls ks (rows items) gs)
    by w alike [] [] h e = ap w (sym e)
    by w alike (f ∷ fs) (g ∷ gs) h e = alike f g
    by w alike [] (g ∷ gs) h e = absurd (let a : sum_by (λ _. 1) (g ∷ gs) ≡ 0 = h (λ _. 1) in let b : sum_by (λ _. 1) (g ∷ gs) ≡ 1 + sum_by (λ _. 1) gs = sum_by-cons (λ _. 1) g gs in omega arith)
    by w alike (f ∷ fs) [] h e = absurd (let a : 0 ≡ sum_by (λ _. 1) (f ∷ fs) = h (λ _. 1) in let b : sum_by (λ _. 1) (f ∷ fs) ≡ 1 + sum_by (λ _. 1) fs = sum_by-cons (λ _. 1) f fs in omega arith)
