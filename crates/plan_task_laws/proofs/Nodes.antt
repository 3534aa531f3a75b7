-- One partition at a time: what a seed owes, and that each operator's seed owes it.
use Rattle.std.proofs.Common.{ℕ, zero, suc, ◌+◌, ◌<◌, ◌≤◌, ◌≡◌, inl, inr, refl, sym, ap, ◌∙◌, subst, List, [], ◌∷◌, ◌++◌, length, get_or, map, Bool, false, Option, Some, None, arith, zero-add, add-zero}
use Rattle.std.proofs.lemmas.List.{append-nil, length-append}
use Rattle.std.proofs.lemmas.Bool.Decides.{nat_tests, eqb_tells}
use Rattle.plan_shape.specs.Layout.{Part, bare, consuming, side_by_side, reader, merger}
use Rattle.physical_plan.specs.Numbers.{numbers, numbers_from}
use Rattle.logical_plan.specs.Items.{concat}
use Rattle.tree_laws.specs.Operators.{Op, IsOp}
use Rattle.tree_laws.specs.Trees.{File, Tree, Nothing}
use Rattle.plan_task_laws.specs.Trees.{Seed, inlet, scanning, leaf, passing, holding, pairing, merged}
use Rattle.plan_task_laws.specs.Reading.{Reads, Reserves, Opens, own}
use Rattle.plan_task_laws.proofs.Fresh.{IsFresh, pair_one, pair_count, pair_count-append}

-- a layout's partition and a seed: the same consumers; the tree reads the partition's channels, has its consumers by number, and nothing
-- was asked of it; and the channels are of groups from k on and below m, each read once
pub record IsPart (k m : ℕ) (p : Part) (s : Seed) : Type 0 where
  pub consumers : s.consumers ≡ p.consumers
  pub opens : (c : ℕ) → Opens (s.tree c) s.files
  pub reads : (c : ℕ) → Reads (s.tree c) p.receives
  pub reserves : (c : ℕ) → Reserves (s.tree c) (numbers_from c (length p.consumers))
  pub fresh : (c : ℕ) → IsFresh (s.tree c)
  pub once : (g d : ℕ) → pair_count p.receives g d ≤ 1
  pub within : (g d : ℕ) → 0 < pair_count p.receives g d → (k ≤ g) × (g < m)

pub wider : (k m k2 m2 : ℕ) (p : Part) (s : Seed) → k2 ≤ k → m ≤ m2 → IsPart k m p s → IsPart k2 m2 p s
wider k m k2 m2 p s a b h = record {
  consumers = h.consumers;
  opens = h.opens;
  reads = h.reads;
  reserves = h.reserves;
  fresh = h.fresh;
  once = h.once;
  within = λ g d e. (let w = h.within g d e in (let l : k ≤ g = w.0 in omega arith, let l : g < m = w.1 in omega arith));
}

-- ------------------------------------------------------------ one input

one_reads : (t : Tree) (xs : List (ℕ × ℕ)) → Reads t xs → (i : ℕ) → Reads (get_or (t ∷ []) i Nothing) (get_or (xs ∷ []) i [])
one_reads t xs h zero = h
one_reads t xs h (suc i) = refl

one_reserves : (t : Tree) (cs : List ℕ) → Reserves t cs → (i : ℕ) → Reserves (get_or (t ∷ []) i Nothing) (get_or (cs ∷ []) i [])
one_reserves t cs h zero = h
one_reserves t cs h (suc i) = refl

one_opens : (t : Tree) (fs : List File) → Opens t fs → (i : ℕ) → Opens (get_or (t ∷ []) i Nothing) (get_or (fs ∷ []) i [])
one_opens t fs h zero = h
one_opens t fs h (suc i) = refl

one_fresh : (t : Tree) → IsFresh t → (i : ℕ) → IsFresh (get_or (t ∷ []) i Nothing)
one_fresh t h zero = h
one_fresh t h (suc i) = tt

passing_reserves : (o : Option ℕ) (cs : List ℕ) → o ≡ None → cs ≡ own o ++ concat (cs ∷ [])
passing_reserves None cs e = sym (append-nil cs)
passing_reserves (Some c) cs e = cc

holding_reserves : (o : Option ℕ) (c n : ℕ) → o ≡ Some c → numbers_from c (suc n) ≡ own o ++ concat (numbers_from (c + 1) n ∷ [])
holding_reserves None c n e = cc
holding_reserves (Some d) c n e =
    let q : d ≡ c = cc in
    subst (λ (x : ℕ). numbers_from c (suc n) ≡ x ∷ (numbers_from (c + 1) n ++ [])) (sym q) (ap (λ xs. c ∷ xs) (sym (append-nil (numbers_from (c + 1) n))))

pub passing_part : (op : ℕ → Op) (k m : ℕ) (p : Part) (s : Seed) → ((c : ℕ) → IsOp (op c)) → ((c : ℕ) → (op c).consumer ≡ None) → IsPart k m p s → IsPart k m p (passing op s)
passing_part op k m p s o e h = record {
  consumers = h.consumers;
  opens = λ c. (s.files ∷ [], one_opens (s.tree c) s.files (h.opens c), sym (append-nil s.files));
  reads = λ c. (p.receives ∷ [], one_reads (s.tree c) p.receives (h.reads c), sym (append-nil p.receives));
  reserves = λ c. (numbers_from c (length p.consumers) ∷ [], one_reserves (s.tree c) (numbers_from c (length p.consumers)) (h.reserves c), passing_reserves (op c).consumer (numbers_from c (length p.consumers)) (e c));
  fresh = λ c. (o c, refl, refl, one_fresh (s.tree c) (h.fresh c));
  once = h.once;
  within = h.within;
}

pub holding_part : (b : Bool) (op : ℕ → Op) (k m : ℕ) (p : Part) (s : Seed) → ((c : ℕ) → IsOp (op c)) → ((c : ℕ) → (op c).consumer ≡ Some c) → IsPart k m p s → IsPart k m (consuming b p) (holding b op s)
holding_part b op k m p s o e h = record {
  consumers = ap (λ cs. b ∷ cs) h.consumers;
  opens = λ c. (s.files ∷ [], one_opens (s.tree (c + 1)) s.files (h.opens (c + 1)), sym (append-nil s.files));
  reads = λ c. (p.receives ∷ [], one_reads (s.tree (c + 1)) p.receives (h.reads (c + 1)), sym (append-nil p.receives));
  reserves = λ c. (numbers_from (c + 1) (length p.consumers) ∷ [], one_reserves (s.tree (c + 1)) (numbers_from (c + 1) (length p.consumers)) (h.reserves (c + 1)), holding_reserves (op c).consumer c (length p.consumers) (e c));
  fresh = λ c. (o c, refl, refl, one_fresh (s.tree (c + 1)) (h.fresh (c + 1)));
  once = h.once;
  within = h.within;
}

-- ------------------------------------------------------------ two inputs

two_reads : (t u : Tree) (xs ys : List (ℕ × ℕ)) → Reads t xs → Reads u ys → (i : ℕ) → Reads (get_or (t ∷ u ∷ []) i Nothing) (get_or (xs ∷ ys ∷ []) i [])
two_reads t u xs ys h k zero = h
two_reads t u xs ys h k (suc zero) = k
two_reads t u xs ys h k (suc (suc i)) = refl

two_reserves : (t u : Tree) (xs ys : List ℕ) → Reserves t xs → Reserves u ys → (i : ℕ) → Reserves (get_or (t ∷ u ∷ []) i Nothing) (get_or (xs ∷ ys ∷ []) i [])
two_reserves t u xs ys h k zero = h
two_reserves t u xs ys h k (suc zero) = k
two_reserves t u xs ys h k (suc (suc i)) = refl

two_opens : (t u : Tree) (xs ys : List File) → Opens t xs → Opens u ys → (i : ℕ) → Opens (get_or (t ∷ u ∷ []) i Nothing) (get_or (xs ∷ ys ∷ []) i [])
two_opens t u xs ys h k zero = h
two_opens t u xs ys h k (suc zero) = k
two_opens t u xs ys h k (suc (suc i)) = refl

two_fresh : (t u : Tree) → IsFresh t → IsFresh u → (i : ℕ) → IsFresh (get_or (t ∷ u ∷ []) i Nothing)
two_fresh t u h k zero = h
two_fresh t u h k (suc zero) = k
two_fresh t u h k (suc (suc i)) = tt

pub numbers-append : (c n m : ℕ) → numbers_from c (n + m) ≡ numbers_from c n ++ numbers_from (c + n) m
numbers-append c zero m = rw (zero-add m, add-zero c) refl
numbers-append c (suc n) m =
    let e : suc n + m ≡ suc (n + m) = omega arith in
    let d : c + suc n ≡ c + 1 + n = omega arith in
    rw (e, d) (ap (λ xs. c ∷ xs) (numbers-append (c + 1) n m))

two_numbers : (c n m : ℕ) → numbers_from c (n + m) ≡ concat (numbers_from c n ∷ numbers_from (c + n) m ∷ [])
two_numbers c n m = numbers-append c n m ∙ ap (λ xs. numbers_from c n ++ xs) (sym (append-nil (numbers_from (c + n) m)))

pairing_reserves : (o : Option ℕ) (c : ℕ) (xs ys : List Bool) → o ≡ Some c
    → numbers_from c (length (false ∷ (xs ++ ys))) ≡ own o ++ concat (numbers_from (c + 1) (length xs) ∷ numbers_from (c + 1 + length xs) (length ys) ∷ [])
pairing_reserves None c xs ys e = cc
pairing_reserves (Some d) c xs ys e =
    let q : d ≡ c = cc in
    subst (λ (x : ℕ). numbers_from c (length (false ∷ (xs ++ ys))) ≡ x ∷ concat (numbers_from (c + 1) (length xs) ∷ numbers_from (c + 1 + length xs) (length ys) ∷ [])) (sym q)
    (ap (λ zs. c ∷ zs) (ap (λ n. numbers_from (c + 1) n) (length-append xs ys) ∙ two_numbers (c + 1) (length xs) (length ys)))

pub pairing_part : (op : ℕ → Op) (k j m : ℕ) (p q : Part) (l r : Seed) → ((c : ℕ) → IsOp (op c)) → ((c : ℕ) → (op c).consumer ≡ Some c) → k ≤ j → j ≤ m → IsPart k j p l → IsPart j m q r
    → IsPart k m (consuming false (side_by_side p q)) (pairing op l r)
pairing_part op k j m p q l r o e a b h i = record {
  consumers = ap (λ xs. false ∷ (xs ++ r.consumers)) h.consumers ∙ ap (λ xs. false ∷ (p.consumers ++ xs)) i.consumers;
  opens = λ c. (l.files ∷ r.files ∷ [], two_opens (l.tree (c + 1)) (r.tree (c + 1 + length l.consumers)) l.files r.files (h.opens (c + 1)) (i.opens (c + 1 + length l.consumers)), ap (λ xs. l.files ++ xs) (sym (append-nil r.files)));
  reads = λ c. (p.receives ∷ q.receives ∷ [], two_reads (l.tree (c + 1)) (r.tree (c + 1 + length l.consumers)) p.receives q.receives (h.reads (c + 1)) (i.reads (c + 1 + length l.consumers)), ap (λ xs. p.receives ++ xs) (sym (append-nil q.receives)));
  reserves = λ c. (
      let s : length l.consumers ≡ length p.consumers = ap length h.consumers in (
        numbers_from (c + 1) (length p.consumers) ∷ numbers_from (c + 1 + length p.consumers) (length q.consumers) ∷ [],
        two_reserves (l.tree (c + 1)) (r.tree (c + 1 + length l.consumers)) (numbers_from (c + 1) (length p.consumers)) (numbers_from (c + 1 + length p.consumers) (length q.consumers)) (h.reserves (c + 1))
            (subst (λ (n : ℕ). Reserves (r.tree (c + 1 + length l.consumers)) (numbers_from (c + 1 + n) (length q.consumers))) s (i.reserves (c + 1 + length l.consumers))),
        pairing_reserves (op c).consumer c p.consumers q.consumers (e c),
      ));
  fresh = λ c. (o c, refl, refl, two_fresh (l.tree (c + 1)) (r.tree (c + 1 + length l.consumers)) (h.fresh (c + 1)) (i.fresh (c + 1 + length l.consumers)));
  once = λ g d. (let s = pair_count-append p.receives q.receives g d in rw s (at_most g d (pair_count p.receives g d) (pair_count q.receives g d) (h.once g d) (i.once g d) (h.within g d) (i.within g d)));
  within = λ g d w. (let s = pair_count-append p.receives q.receives g d in either g d (pair_count p.receives g d) (pair_count q.receives g d) (subst (λ (n : ℕ). 0 < n) s w) (h.within g d) (i.within g d));
}
  where
    at_most : (g d x y : ℕ) → x ≤ 1 → y ≤ 1 → (0 < x → (k ≤ g) × (g < j)) → (0 < y → (j ≤ g) × (g < m)) → x + y ≤ 1
    at_most g d zero y u v f z = omega arith
    at_most g d (suc x) zero u v f z = omega arith
    at_most g d (suc x) (suc y) u v f z =
        let lo : (k ≤ g) × (g < j) = f (omega arith) in
        let hi : (j ≤ g) × (g < m) = z (omega arith) in
        let l1 : g < j = lo.1 in
        let l2 : j ≤ g = hi.0 in
        absurd (omega arith)

    either : (g d x y : ℕ) → 0 < x + y → (0 < x → (k ≤ g) × (g < j)) → (0 < y → (j ≤ g) × (g < m)) → (k ≤ g) × (g < m)
    either g d zero y u f z =
        let hi : (j ≤ g) × (g < m) = z (omega arith) in
        let l2 : j ≤ g = hi.0 in
        (omega arith, hi.1)
    either g d (suc x) y u f z =
        let lo : (k ≤ g) × (g < j) = f (omega arith) in
        let l1 : g < j = lo.1 in
        (lo.0, omega arith)

-- ------------------------------------------------------------ leaves

pub nothing_part : (k m : ℕ) → IsPart k m bare (leaf Nothing)
nothing_part k m = record {
  consumers = refl;
  opens = λ c. refl;
  reads = λ c. refl;
  reserves = λ c. refl;
  fresh = λ c. tt;
  once = λ g d. omega arith;
  within = λ g d h. absurd (omega arith);
}

pub scan_part : (files : List File) (k m : ℕ) → IsPart k m bare (scanning files)
scan_part files k m = record {
  consumers = refl;
  opens = λ c. refl;
  reads = λ c. refl;
  reserves = λ c. refl;
  fresh = λ c. (refl, refl, refl);
  once = λ g d. omega arith;
  within = λ g d h. absurd (omega arith);
}

one_pair : (x : ℕ × ℕ) (g d : ℕ) → 0 < pair_one x g d → (x.0 ≡ g) × (x.1 ≡ d)
one_pair x g d h = elim (eqb_tells x.0 g) [
  | inl u ↦ elim (eqb_tells x.1 d) [
    | inl v ↦ (u.1, v.1)
    | inr v ↦ absurd (let e : pair_one x g d ≡ 0 = rw (u.0, v.0) refl in omega arith)
  ]
  | inr u ↦ absurd (let e : pair_one x g d ≡ 0 = rw u.0 refl in omega arith)
]

pub reader_part : (k m c : ℕ) → k < m → IsPart k m (reader k c) (leaf (inlet k c))
reader_part k m c l = record {
  consumers = refl;
  opens = λ n. refl;
  reads = λ n. refl;
  reserves = λ n. refl;
  fresh = λ n. (refl, refl, refl);
  once = λ g d. grind (arith, nat_tests);
  within = λ g d h. (let e : (k ≡ g) × (c ≡ d) = one_pair (k, c) g d (omega arith) in let q : k ≡ g = e.0 in (omega arith, omega arith));
}

-- ------------------------------------------------------------ a merge

pairs_from : ℕ → ℕ → ℕ → List (ℕ × ℕ)
pairs_from g at n = map (λ (c : ℕ). (g, c)) (numbers_from at n)

merge_reads : (g at n i : ℕ) → Reads (get_or (map (λ (d : ℕ). inlet g d) (numbers_from at n)) i Nothing) (get_or (map (λ (d : ℕ). (g, d) ∷ []) (numbers_from at n)) i [])
merge_reads g at zero i = refl
merge_reads g at (suc n) zero = refl
merge_reads g at (suc n) (suc i) = merge_reads g (at + 1) n i

merge_reserves : (g at n i : ℕ) → Reserves (get_or (map (λ (d : ℕ). inlet g d) (numbers_from at n)) i Nothing) (get_or {A = List ℕ} [] i [])
merge_reserves g at zero i = refl
merge_reserves g at (suc n) zero = refl
merge_reserves g at (suc n) (suc i) = merge_reserves g (at + 1) n i

merge_opens : (g at n i : ℕ) → Opens (get_or (map (λ (d : ℕ). inlet g d) (numbers_from at n)) i Nothing) (get_or {A = List File} [] i [])
merge_opens g at zero i = refl
merge_opens g at (suc n) zero = refl
merge_opens g at (suc n) (suc i) = merge_opens g (at + 1) n i

merge_fresh : (g at n i : ℕ) → IsFresh (get_or (map (λ (d : ℕ). inlet g d) (numbers_from at n)) i Nothing)
merge_fresh g at zero i = tt
merge_fresh g at (suc n) zero = (refl, refl, refl)
merge_fresh g at (suc n) (suc i) = merge_fresh g (at + 1) n i

merge_pairs : (g : ℕ) (cs : List ℕ) → map {B = ℕ × ℕ} (λ (c : ℕ). (g, c)) cs ≡ concat (map {B = List (ℕ × ℕ)} (λ (d : ℕ). (g, d) ∷ []) cs)
merge_pairs g [] = refl
merge_pairs g (c ∷ cs) = ap (λ xs. (g, c) ∷ xs) (merge_pairs g cs)

merge_before : (g at n h d : ℕ) → d < at → pair_count (map (λ (c : ℕ). (g, c)) (numbers_from at n)) h d ≡ 0
merge_before g at zero h d l = refl
merge_before g at (suc n) h d l =
    let e = merge_before g (at + 1) n h d (omega arith) in
    let z : pair_one (g, at) h d ≡ 0 = grind (arith, nat_tests) in
    omega arith

merge_once : (g at n h d : ℕ) → pair_count (map (λ (c : ℕ). (g, c)) (numbers_from at n)) h d ≤ 1
merge_once g at zero h d = omega arith
merge_once g at (suc n) h d = elim (eqb_tells at d) [
  | inl u ↦ (
      let e = merge_before g (at + 1) n h d (let q : at ≡ d = u.1 in omega arith) in
      let z : pair_one (g, at) h d ≤ 1 = grind (arith, nat_tests) in
      omega arith)
  | inr u ↦ (
      let e = merge_once g (at + 1) n h d in
      let z : pair_one (g, at) h d ≡ 0 = (grind (arith, nat_tests)) in
      omega arith)
]

merge_within : (g at n h d : ℕ) → 0 < pair_count (map (λ (c : ℕ). (g, c)) (numbers_from at n)) h d → g ≡ h
merge_within g at zero h d l = absurd (omega arith)
merge_within g at (suc n) h d l = elim (eqb_tells g h) [
  | inl u ↦ u.1
  | inr u ↦ merge_within g (at + 1) n h d (let z : pair_one (g, at) h d ≡ 0 = rw u.0 refl in omega arith)
]

pub merged_part : (op : ℕ → ℕ → Op) (k m n : ℕ) → ((c : ℕ) → IsOp (op n c)) → ((c : ℕ) → (op n c).consumer ≡ None) → k < m → IsPart k m (merger k n) (merged op k n)
merged_part op k m n o e l = record {
  consumers = refl;
  opens = λ c. ([], merge_opens k 0 n, refl);
  reads = λ c. (map (λ (d : ℕ). (k, d) ∷ []) (numbers n), merge_reads k 0 n, merge_pairs k (numbers n));
  reserves = λ c. ([], merge_reserves k 0 n, none (op n c).consumer (e c));
  fresh = λ c. (o c, refl, refl, merge_fresh k 0 n);
  once = merge_once k 0 n;
  within = λ g d h. (let q : k ≡ g = merge_within k 0 n g d h in (omega arith, omega arith));
}
  where
    none : (x : Option ℕ) → x ≡ None → [] ≡ own x ++ concat []
    none None e = refl
    none (Some c) e = cc
