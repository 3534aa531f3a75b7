-- Rows of some kinds, put together and picked out.
use Rattle.std.specs.List.{flat_map, filter}
use Rattle.std.proofs.Common.{◌≡◌, refl, Bool, true, false, not, cond, List, [], ◌∷◌, ◌++◌, map, length, Ok, Err}
use Rattle.std.proofs.lemmas.Bool.{and_parts, and_from}
use Rattle.dfx_value.specs.Kinds.{is_of, are_of}
use Rattle.dfx_value.specs.KindedRows.{all_are}
use Rattle.dfx_value.specs.declared.fault.ItemFault.{ItemFault}
use Rattle.dfx_value.specs.declared.kind.Kind.{Kind}
use Rattle.scalar_exprs.specs.Groups.{firsts}
use Rattle.scalar_exprs.proofs.ValueKinds.{null_is_of}
use Rattle.logical_plan.specs.Items.{Cells, Item, rows, of_rows, of_faults}
use Rattle.logical_plan.specs.Joins.{nulls}

-- ---- one row

pub are_append : (js ks : List Kind) (l r : Cells) → are_of js l ≡ true → are_of ks r ≡ true → are_of (js ++ ks) (l ++ r) ≡ true
are_append [] ks [] r p q = q
are_append (j ∷ js) ks (v ∷ l) r p q =
    let b = and_parts (is_of j v) (are_of js l) p in
    and_from (is_of j v) (are_of (js ++ ks) (l ++ r)) b.0 (are_append js ks l r b.1 q)
are_append [] ks (v ∷ l) r p q = cc
are_append (j ∷ js) ks [] r p q = cc

pub nulls_are : (ks : List Kind) → are_of ks (nulls (length ks)) ≡ true
nulls_are [] = refl
nulls_are (k ∷ ks) = and_from _ _ (null_is_of k) (nulls_are ks)

-- ---- lists of rows

pub all_filter : (ks : List Kind) (test : Cells → Bool) (rs : List Cells) → all_are ks rs ≡ true → all_are ks (filter test rs) ≡ true
all_filter ks test [] p = refl
all_filter ks test (r ∷ rs) p =
    let b = and_parts (are_of ks r) (all_are ks rs) p in
    go (test r) b.0 (all_filter ks test rs b.1) where
      go : (t : Bool) → are_of ks r ≡ true → all_are ks (filter test rs) ≡ true → all_are ks (cond t (r ∷ filter test rs) (filter test rs)) ≡ true
      go true h more = and_from _ _ h more
      go false h more = more

pub all_firsts : (ks : List Kind) (like : Cells → Cells → Bool) (rs : List Cells) → all_are ks rs ≡ true → all_are ks (firsts like rs) ≡ true
all_firsts ks like [] p = refl
all_firsts ks like (r ∷ rs) p =
    let b = and_parts (are_of ks r) (all_are ks rs) p in
    and_from _ _ b.0 (all_filter ks (λ s. not (like r s)) (firsts like rs) (all_firsts ks like rs b.1))

-- ---- items

pub items_append : (ks : List Kind) (xs ys : List Item) → all_are ks (rows xs) ≡ true → all_are ks (rows ys) ≡ true → all_are ks (rows (xs ++ ys)) ≡ true
items_append ks [] ys p q = q
items_append ks (Ok r ∷ xs) ys p q =
    let b = and_parts (are_of ks r) (all_are ks (rows xs)) p in
    and_from (are_of ks r) (all_are ks (rows (xs ++ ys))) b.0 (items_append ks xs ys b.1 q)
items_append ks (Err f ∷ xs) ys p q = items_append ks xs ys p q

pub faults_alone : (ks : List Kind) (fs : List ItemFault) → all_are ks (rows (of_faults fs)) ≡ true
faults_alone ks [] = refl
faults_alone ks (f ∷ fs) = faults_alone ks fs

pub rows_alone : (ks : List Kind) (rs : List Cells) → all_are ks rs ≡ true → all_are ks (rows (of_rows rs)) ≡ true
rows_alone ks [] p = refl
rows_alone ks (r ∷ rs) p =
    let b = and_parts (are_of ks r) (all_are ks rs) p in
    and_from _ _ b.0 (rows_alone ks rs b.1)

-- what each row of some kinds gives
pub rows_flat : (js ks : List Kind) (f : Cells → List Item) → ((r : Cells) → are_of js r ≡ true → all_are ks (rows (f r)) ≡ true) → (rs : List Cells) → all_are js rs ≡ true → all_are ks (rows (flat_map f rs)) ≡ true
rows_flat js ks f h [] p = refl
rows_flat js ks f h (r ∷ rs) p =
    let b = and_parts (are_of js r) (all_are js rs) p in
    items_append ks (f r) (flat_map f rs) (h r b.0) (rows_flat js ks f h rs b.1)

-- of items, with faults among them
pub items_flat : (js ks : List Kind) (f : Item → List Item) → ((r : Cells) → are_of js r ≡ true → all_are ks (rows (f (Ok r))) ≡ true) → ((e : ItemFault) → all_are ks (rows (f (Err e))) ≡ true)
    → (xs : List Item) → all_are js (rows xs) ≡ true → all_are ks (rows (flat_map f xs)) ≡ true
items_flat js ks f h g [] p = refl
items_flat js ks f h g (Ok r ∷ xs) p =
    let b = and_parts (are_of js r) (all_are js (rows xs)) p in
    items_append ks (f (Ok r)) (flat_map f xs) (h r b.0) (items_flat js ks f h g xs b.1)
items_flat js ks f h g (Err e ∷ xs) p = items_append ks (f (Err e)) (flat_map f xs) (g e) (items_flat js ks f h g xs p)

abbrev pub item_is : List Kind → Item → Bool
item_is ks x = all_are ks (rows (x ∷ []))

pub items_map : (js ks : List Kind) (f : Item → Item) → ((r : Cells) → are_of js r ≡ true → item_is ks (f (Ok r)) ≡ true) → ((e : ItemFault) → item_is ks (f (Err e)) ≡ true)
    → (xs : List Item) → all_are js (rows xs) ≡ true → all_are ks (rows (map f xs)) ≡ true
items_map js ks f h g [] p = refl
items_map js ks f h g (Ok r ∷ xs) p =
    let b = and_parts (are_of js r) (all_are js (rows xs)) p in
    items_append ks (f (Ok r) ∷ []) (map f xs) (h r b.0) (items_map js ks f h g xs b.1)
items_map js ks f h g (Err e ∷ xs) p = items_append ks (f (Err e) ∷ []) (map f xs) (g e) (items_map js ks f h g xs p)

pub rows_map : (js ks : List Kind) (f : Cells → Item) → ((r : Cells) → are_of js r ≡ true → item_is ks (f r) ≡ true) → (rs : List Cells) → all_are js rs ≡ true → all_are ks (rows (map f rs)) ≡ true
rows_map js ks f h [] p = refl
rows_map js ks f h (r ∷ rs) p =
    let b = and_parts (are_of js r) (all_are js rs) p in
    items_append ks (f r ∷ []) (map f rs) (h r b.0) (rows_map js ks f h rs b.1)
