-- Each file of a plan's scans is read by one leaf.
use Rattle.std.specs.Prelude.{◌==◌, ◌%◌, nat_lt}
use Rattle.std.specs.List.{filter, sum_by}
use Rattle.std.proofs.Common.{ℕ, zero, suc, ◌+◌, ◌<◌, ◌≡◌, refl, sym, ap, ◌∙◌, subst, eqb, cond, List, [], ◌∷◌, ◌++◌, length, map, Bool, true, false, ◌&&◌, arith, zero-add, add-zero, mod-lt}
use Rattle.std.proofs.lemmas.List.Sums.{sum_by-cons}
use Rattle.std.proofs.lemmas.Bool.{false≢true}
use Rattle.plan_props.specs.Satisfies.{partition_count}
use Rattle.physical_plan.specs.Everywhere.{all_true}
use Rattle.physical_plan.specs.declared.plan.Plan.{Plan}
use Rattle.physical_plan.specs.declared.plan.Plan.TheOpen.{Plan-F}
use Rattle.physical_plan.specs.declared.plan.Plan.TheViews.{roll-Plan}
use Rattle.physical_plan.specs.declared.plan.Plan.TheFolds.{fold-roll-Plan, para-roll-Plan, map-Plan, ind-Plan}
use Rattle.physical_plan.specs.Numbers.{numbers, numbers_from}
use Rattle.physical_plan.proofs.Everywhere.{and_parts}
use Rattle.tree_laws.specs.Operators.{Op}
use Rattle.tree_laws.specs.Trees.{File, Nothing}
use Rattle.logical_plan.specs.Items.{Item}
use Rattle.content_laws.specs.Bags.{SameBag, sum_below}
use Rattle.content_laws.proofs.Bags.{sums_same, sums_add, sums_zero, sums_at, sums_front}
use Rattle.plan_task_laws.specs.Trees.{Doing, Seed, leaf, inlet, passing, holding, pairing, paired, scanning, scans, dealt_files, inlets, merged, Growing, grow, grown_after, partitions_of, count_sources, stages_in, sources_in, sum_all}
use Rattle.plan_task_laws.specs.Tops.{Way, Top, Topping, opening, top_node, tops, tops_after, all_tops, way_to, ToOne, ToOwn}
use Rattle.plan_task_laws.specs.Starts.{seeds_of}
use Rattle.plan_task_laws.specs.Sources.{Filing, filed_after, file_node, files_of, seed_files, files_in, reads_node, reads_all, joined_places, place_node, places_of, items_at}
use Rattle.plan_task_laws.proofs.Nodes.{numbers-append}

-- ------------------------------------------------------------ weights

abbrev weigh : (File → ℕ) → List File → ℕ
weigh w [] = 0
weigh w (x ∷ xs) = w x + weigh w xs

weigh-append : (w : File → ℕ) (xs ys : List File) → weigh w (xs ++ ys) ≡ weigh w xs + weigh w ys
weigh-append w [] ys = sym (zero-add _)
weigh-append w (x ∷ xs) ys = omega (arith, weigh-append w xs ys)

weigh_sum : (w : File → ℕ) (xs : List File) → sum_by w xs ≡ weigh w xs
weigh_sum w [] = refl
weigh_sum w (x ∷ xs) = sum_by-cons w x xs ∙ ap (λ (n : ℕ). w x + n) (weigh_sum w xs)

seeds_weigh-append : (w : File → ℕ) (xs ys : List Seed) → weigh w (seed_files (xs ++ ys)) ≡ weigh w (seed_files xs) + weigh w (seed_files ys)
seeds_weigh-append w [] ys = sym (zero-add _)
seeds_weigh-append w (x ∷ xs) ys =
    let a = weigh-append w x.files (seed_files (xs ++ ys)) in
    let b = weigh-append w x.files (seed_files xs) in
    let c = seeds_weigh-append w xs ys in
    omega arith

tops_weigh-append : (f : Doing) (w : File → ℕ) (xs ys : List Top) → weigh w (files_in f (xs ++ ys)) ≡ weigh w (files_in f xs) + weigh w (files_in f ys)
tops_weigh-append f w [] ys = sym (zero-add _)
tops_weigh-append f w (x ∷ xs) ys =
    let a = weigh-append w (seed_files (seeds_of f x)) (files_in f (xs ++ ys)) in
    let b = weigh-append w (seed_files (seeds_of f x)) (files_in f xs) in
    let c = tops_weigh-append f w xs ys in
    omega arith

passing_files : (op : ℕ → Op) (ss : List Seed) → seed_files (map (passing op) ss) ≡ seed_files ss
passing_files op [] = refl
passing_files op (s ∷ ss) = ap (λ fs. s.files ++ fs) (passing_files op ss)

holding_files : (b : Bool) (op : ℕ → Op) (ss : List Seed) → seed_files (map (holding b op) ss) ≡ seed_files ss
holding_files b op [] = refl
holding_files b op (s ∷ ss) = ap (λ fs. s.files ++ fs) (holding_files b op ss)

right_weighs : (w : File → ℕ) (op : ℕ → Op) (rs : List Seed) → weigh w (seed_files (map (λ (r : Seed). pairing op (leaf Nothing) r) rs)) ≡ weigh w (seed_files rs)
right_weighs w op [] = refl
right_weighs w op (r ∷ rs) =
    let a = weigh-append w r.files (seed_files (map (λ (r : Seed). pairing op (leaf Nothing) r) rs)) in
    let b = weigh-append w r.files (seed_files rs) in
    let c = right_weighs w op rs in
    omega arith

paired_weighs : (w : File → ℕ) (op : ℕ → Op) (ls rs : List Seed) → weigh w (seed_files (paired op ls rs)) ≡ weigh w (seed_files ls) + weigh w (seed_files rs)
paired_weighs w op [] rs = right_weighs w op rs ∙ sym (zero-add _)
paired_weighs w op (l ∷ ls) [] =
    let a = weigh-append w (l.files ++ []) (seed_files (paired op ls [])) in
    let b = weigh-append w l.files (seed_files ls) in
    let c = paired_weighs w op ls [] in
    let d = weigh-append w l.files [] in
    omega arith
paired_weighs w op (l ∷ ls) (r ∷ rs) =
    let a = weigh-append w (l.files ++ r.files) (seed_files (paired op ls rs)) in
    let b = weigh-append w l.files (seed_files ls) in
    let e = weigh-append w r.files (seed_files rs) in
    let c = paired_weighs w op ls rs in
    let d = weigh-append w l.files r.files in
    omega arith

inlets_empty : (k at n : ℕ) → seed_files (map (λ (c : ℕ). leaf (inlet k c)) (numbers_from at n)) ≡ []
inlets_empty k at zero = refl
inlets_empty k at (suc n) = inlets_empty k (at + 1) n

-- ------------------------------------------------------------ the files of a scan

scans_weigh : (w : File → ℕ) (h : ℕ → List File) (at n : ℕ) → weigh w (seed_files (map (λ (i : ℕ). scanning (h i)) (numbers_from at n))) ≡ sum_below n (λ i. weigh w (h (at + i)))
scans_weigh w h at zero = refl
scans_weigh w h at (suc n) =
    let a = weigh-append w (h at) (seed_files (map (λ (i : ℕ). scanning (h i)) (numbers_from (at + 1) n))) in
    let b = scans_weigh w h (at + 1) n in
    let c = sums_front n (λ i. weigh w (h (at + i))) in
    let d : weigh w (h (at + 0)) ≡ weigh w (h at) = ap (λ (x : ℕ). weigh w (h x)) (add-zero at) in
    let e : sum_below n (λ i. weigh w (h (at + 1 + i))) ≡ sum_below n (λ i. weigh w (h (at + suc i))) = sums_same n (λ i. weigh w (h (at + 1 + i))) (λ i. weigh w (h (at + suc i))) (λ i l. ap (λ (x : ℕ). weigh w (h x)) (let q : at + 1 + i ≡ at + suc i = omega arith in q)) in
    omega arith

dealt_weighs : (w : File → ℕ) (g : ℕ → File) (n : ℕ) → 0 < n → (xs : List ℕ) → sum_below n (λ i. weigh w (map g (filter (λ (x : ℕ). x % n == i) xs))) ≡ weigh w (map g xs)
dealt_weighs w g n l [] = sums_zero n
dealt_weighs w g n l (x ∷ xs) =
    let a = sums_same n (λ i. weigh w (map g (filter (λ (x : ℕ). x % n == i) (x ∷ xs)))) (λ i. cond (eqb (x % n) i) (w (g x)) 0 + weigh w (map g (filter (λ (x : ℕ). x % n == i) xs))) (λ i k. one i (eqb (x % n) i) refl) in
    let b = sums_add n (λ i. cond (eqb (x % n) i) (w (g x)) 0) (λ i. weigh w (map g (filter (λ (x : ℕ). x % n == i) xs))) in
    let c = sums_at n (x % n) (w (g x)) (mod-lt x l) in
    let d = dealt_weighs w g n l xs in
    a ∙ b ∙ (omega arith)
  where
    one : (i : ℕ) (b : Bool) → eqb (x % n) i ≡ b → weigh w (map g (filter (λ (x : ℕ). x % n == i) (x ∷ xs))) ≡ cond b (w (g x)) 0 + weigh w (map g (filter (λ (x : ℕ). x % n == i) xs))
    one i true e = rw e refl
    one i false e = rw e (sym (zero-add _))

scan_weighs : (w : File → ℕ) (items : ℕ → List Item) (s files n : ℕ) → 0 < n
    → weigh w (seed_files (scans items s files n)) ≡ weigh w (map (λ (x : ℕ). record { source = s + x; items = items x }) (numbers files))
scan_weighs w items s files n l =
    let a = scans_weigh w (λ i. dealt_files items s files n i) 0 n in
    let b = sums_same n (λ i. weigh w (dealt_files items s files n (0 + i))) (λ i. weigh w (dealt_files items s files n i)) (λ i k. ap (λ (x : ℕ). weigh w (dealt_files items s files n x)) (zero-add i)) in
    let c = dealt_weighs w (λ (x : ℕ). record { source = s + x; items = items x }) n l (numbers files) in
    a ∙ b ∙ c

numbered : (items : ℕ → List Item) (s at n : ℕ) → map (λ (x : File). x.source) (map (λ (x : ℕ). record { source = s + x; items = items x }) (numbers_from at n)) ≡ numbers_from (s + at) n
numbered items s at zero = refl
numbered items s at (suc n) = ap (λ xs. (s + at) ∷ xs) (numbered items s (at + 1) n ∙ ap (λ (k : ℕ). numbers_from k n) (let e : s + (at + 1) ≡ s + at + 1 = omega arith in e))

items_made : (f : Doing) (table s at n : ℕ) → map (λ (x : File). x.items) (map (λ (x : ℕ). record { source = s + x; items = f.items table x }) (numbers_from at n)) ≡ map (items_at f) (map {B = ℕ × ℕ} (λ (x : ℕ). (table, x)) (numbers_from at n))
items_made f table s at zero = refl
items_made f table s at (suc n) = ap (λ xs. f.items table at ∷ xs) (items_made f table s (at + 1) n)

items-append : (xs ys : List File) → map (λ (x : File). x.items) (xs ++ ys) ≡ map (λ (x : File). x.items) xs ++ map (λ (x : File). x.items) ys
items-append [] ys = refl
items-append (x ∷ xs) ys = ap (λ zs. x.items ∷ zs) (items-append xs ys)

places-append : (f : Doing) (xs ys : List (ℕ × ℕ)) → map (items_at f) (xs ++ ys) ≡ map (items_at f) xs ++ map (items_at f) ys
places-append f [] ys = refl
places-append f (x ∷ xs) ys = ap (λ zs. items_at f x ∷ zs) (places-append f xs ys)

two_items : (f : Doing) (xs ys : List File) (us vs : List (ℕ × ℕ)) → map (λ (x : File). x.items) xs ≡ map (items_at f) us → map (λ (x : File). x.items) ys ≡ map (items_at f) vs → map (λ (x : File). x.items) (xs ++ ys) ≡ map (items_at f) (us ++ vs)
two_items f xs ys us vs a b = items-append xs ys ∙ ap (λ zs. zs ++ map (λ (x : File). x.items) ys) a ∙ ap (λ zs. map (items_at f) us ++ zs) b ∙ sym (places-append f us vs)

sources-append : (xs ys : List File) → map (λ (x : File). x.source) (xs ++ ys) ≡ map (λ (x : File). x.source) xs ++ map (λ (x : File). x.source) ys
sources-append [] ys = refl
sources-append (x ∷ xs) ys = ap (λ zs. x.source ∷ zs) (sources-append xs ys)

-- ------------------------------------------------------------ every plan

-- whether scans are read, trees, tops, a number of sources, files and their places that belong together
pub record Filed (f : Doing) (b : Bool) (g : Growing) (t : Topping) (n : ℕ) (h : Filing) (q : List (ℕ × ℕ)) : Type 0 where
  pub bag : b ≡ true → (w : File → ℕ) (k s : ℕ) → weigh w (seed_files (g k s)) + weigh w (files_in f (t k s)) ≡ weigh w (h s)
  pub sources : (s : ℕ) → map (λ (x : File). x.source) (h s) ≡ numbers_from s n
  pub items : (s : ℕ) → map (λ (x : File). x.items) (h s) ≡ map (items_at f) q

abbrev pub FiledOf : Doing → Plan → Type 0
FiledOf f p = Filed f (reads_all p) (partitions_of f p) (tops p) (sources_in p) (files_of f p) (places_of p)

module _ (f : Doing) where
  abbrev Known : Type 0
  Known = (p : Plan) × FiledOf f p

  abbrev Level : Plan-F Plan → Type 0
  Level z = Filed f (reads_node (map-Plan Plan Bool reads_all z)) (grow f (map-Plan Plan (Plan × Growing) (λ p. (p, partitions_of f p)) z))
      (top_node (map-Plan Plan (Plan × Topping) (λ p. (p, tops p)) z)) (count_sources (map-Plan Plan ℕ sources_in z)) (file_node f (map-Plan Plan (Plan × Filing) (λ p. (p, files_of f p)) z)) (place_node (map-Plan Plan (List (ℕ × ℕ)) places_of z))

  level : (z : Plan-F Plan) → Level z → FiledOf f (roll-Plan z)
  unfolding reads_all partitions_of tops sources_in files_of places_of
  level z h =
      let a = fold-roll-Plan Bool reads_node z in
      let b = para-roll-Plan Growing (grow f) z in
      let c = para-roll-Plan Topping top_node z in
      let d = fold-roll-Plan ℕ count_sources z in
      let e = para-roll-Plan Filing (file_node f) z in
      let g = fold-roll-Plan (List (ℕ × ℕ)) place_node z in
      rw (a, b, c, d, e, g) h

  passed : (op : ℕ → Op) (p : Plan) → FiledOf f p → Filed f (reads_all p) (λ k s. map (passing op) (partitions_of f p k s)) (tops p) (sources_in p) (files_of f p) (places_of p)
  passed op p h = record {
    bag = λ b w k s. ap (λ fs. weigh w fs + weigh w (files_in f (tops p k s))) (passing_files op (partitions_of f p k s)) ∙ h.bag b w k s;
    sources = h.sources;
    items = h.items;
  }

  held : (x : Bool) (op : ℕ → Op) (p : Plan) → FiledOf f p → Filed f (reads_all p) (λ k s. map (holding x op) (partitions_of f p k s)) (tops p) (sources_in p) (files_of f p) (places_of p)
  held x op p h = record {
    bag = λ b w k s. ap (λ fs. weigh w fs + weigh w (files_in f (tops p k s))) (holding_files x op (partitions_of f p k s)) ∙ h.bag b w k s;
    sources = h.sources;
    items = h.items;
  }

  opens : (v : Way) (p : Plan) (g : Growing) → ((k s : ℕ) → seed_files (g k s) ≡ []) → FiledOf f p → Filed f (reads_all p) g (opening v (p, tops p)) (sources_in p) (files_of f p) (places_of p)
  opens v p g e h = record {
    bag = λ b w k s. (
        let a : weigh w (seed_files (g k s)) ≡ 0 = ap (weigh w) (e k s) in
        let c = weigh-append w (seed_files (partitions_of f p (k + 1) s)) (files_in f (tops p (k + 1) s)) in
        let d = h.bag b w (k + 1) s in
        omega arith);
    sources = h.sources;
    items = h.items;
  }

  two_sources : (xs ys : List File) (s n m : ℕ) → map (λ (x : File). x.source) xs ≡ numbers_from s n → map (λ (x : File). x.source) ys ≡ numbers_from (s + n) m → map (λ (x : File). x.source) (xs ++ ys) ≡ numbers_from s (n + m)
  two_sources xs ys s n m a b = sources-append xs ys ∙ ap (λ zs. zs ++ map (λ (x : File). x.source) ys) a ∙ ap (λ zs. numbers_from s n ++ zs) b ∙ sym (numbers-append s n m)

  joins : (op : ℕ → Op) (p q : Plan) → FiledOf f p → FiledOf f q → Filed f (reads_all p && reads_all q)
      (λ k s. paired op (partitions_of f p k s) (partitions_of f q (k + stages_in p) (s + sources_in p))) (λ k s. tops p k s ++ tops q (k + stages_in p) (s + sources_in p))
      (sources_in p + sources_in q) (λ s. files_of f p s ++ files_of f q (s + sources_in p)) (places_of p ++ places_of q)
  joins op p q h i = record {
    bag = λ b w k s. (
        let c = and_parts (reads_all p) (reads_all q) b in
        let k2 = k + stages_in p in
        let s2 = s + sources_in p in
        let x = paired_weighs w op (partitions_of f p k s) (partitions_of f q k2 s2) in
        let y = tops_weigh-append f w (tops p k s) (tops q k2 s2) in
        let z = weigh-append w (files_of f p s) (files_of f q s2) in
        let u = h.bag c.0 w k s in
        let v = i.bag c.1 w k2 s2 in
        omega arith);
    sources = λ s. two_sources (files_of f p s) (files_of f q (s + sources_in p)) s (sources_in p) (sources_in q) (h.sources s) (i.sources (s + sources_in p));
    items = λ s. two_items f (files_of f p s) (files_of f q (s + sources_in p)) (places_of p) (places_of q) (h.items s) (i.items (s + sources_in p));
  }

  abbrev plans : List Known → List Plan
  plans ps = map (λ (p : Known). p.0) ps

  united : (ps : List Known) → Filed f (all_true (map reads_all (plans ps))) (grown_after (map (λ (p : Plan). (p, partitions_of f p)) (plans ps))) (tops_after (map (λ (p : Plan). (p, tops p)) (plans ps)))
      (sum_all (map sources_in (plans ps))) (filed_after (map (λ (p : Plan). (p, files_of f p)) (plans ps))) (joined_places (map places_of (plans ps)))
  united [] = record { bag = λ b w k s. refl; sources = λ s. refl; items = λ s. refl }
  united (p ∷ ps) =
      let h = p.1 in
      let i = united ps in
      let g = grown_after (map (λ (p : Plan). (p, partitions_of f p)) (plans ps)) in
      let t = tops_after (map (λ (p : Plan). (p, tops p)) (plans ps)) in
      let r = filed_after (map (λ (p : Plan). (p, files_of f p)) (plans ps)) in
      record {
        bag = λ b w k s. (
            let c = and_parts (reads_all p.0) (all_true (map reads_all (plans ps))) b in
            let k2 = k + stages_in p.0 in
            let s2 = s + sources_in p.0 in
            let x = seeds_weigh-append w (partitions_of f p.0 k s) (g k2 s2) in
            let y = tops_weigh-append f w (tops p.0 k s) (t k2 s2) in
            let z = weigh-append w (files_of f p.0 s) (r s2) in
            let u = h.bag c.0 w k s in
            let v = i.bag c.1 w k2 s2 in
            omega arith);
        sources = λ s. two_sources (files_of f p.0 s) (r (s + sources_in p.0)) s (sources_in p.0) (sum_all (map sources_in (plans ps))) (h.sources s) (i.sources (s + sources_in p.0));
        items = λ s. two_items f (files_of f p.0 s) (r (s + sources_in p.0)) (places_of p.0) (joined_places (map places_of (plans ps))) (h.items s) (i.items (s + sources_in p.0));
      }

  above_zero : (n : ℕ) → nat_lt 0 n ≡ true → 0 < n
  above_zero zero h = absurd (false≢true h)
  above_zero (suc n) h = omega arith

  step : (y : Plan-F Known) → FiledOf f (roll-Plan (map-Plan Known Plan (λ k. k.0) y))
  step (Plan-F.Scan table kinds files partitions) = level (Plan-F.Scan table kinds files partitions) (record {
    bag = λ b w k s. (let a = scan_weighs w (f.items table) s files partitions (above_zero partitions b) in omega arith);
    sources = λ s. numbered (f.items table) s 0 files ∙ ap (λ (n : ℕ). numbers_from n files) (add-zero s);
    items = λ s. items_made f table s 0 files;
  })
  step (Plan-F.Filter input test) = level (Plan-F.Filter input.0 test) (passed (f.operator (Plan-F.Filter input.0 test) 1) input.0 input.1)
  step (Plan-F.Project input items) = level (Plan-F.Project input.0 items) (passed (f.operator (Plan-F.Project input.0 items) 1) input.0 input.1)
  step (Plan-F.PartialGroup input keys calls) = level (Plan-F.PartialGroup input.0 keys calls) (held true (f.operator (Plan-F.PartialGroup input.0 keys calls) 1) input.0 input.1)
  step (Plan-F.FinalGroup input keys calls) = level (Plan-F.FinalGroup input.0 keys calls) (held false (f.operator (Plan-F.FinalGroup input.0 keys calls) 1) input.0 input.1)
  step (Plan-F.HashJoin kind left right keys rest) = level (Plan-F.HashJoin kind left.0 right.0 keys rest) (joins (f.operator (Plan-F.HashJoin kind left.0 right.0 keys rest) 2) left.0 right.0 left.1 right.1)
  step (Plan-F.Sort input keys) = level (Plan-F.Sort input.0 keys) (held true (f.operator (Plan-F.Sort input.0 keys) 1) input.0 input.1)
  step (Plan-F.Merge input keys) = level (Plan-F.Merge input.0 keys) (opens ToOwn input.0 (λ k s. merged (f.operator (Plan-F.Merge input.0 keys)) k (length (partitions_of f input.0 (k + 1) s)) ∷ []) (λ k s. refl) input.1)
  step (Plan-F.Coalesce input) = level (Plan-F.Coalesce input.0) (opens ToOne input.0 (λ k s. inlets k 1) (λ k s. refl) input.1)
  step (Plan-F.Repartition input to) = level (Plan-F.Repartition input.0 to) (opens (way_to to) input.0 (λ k s. inlets k (partition_count to)) (λ k s. inlets_empty k 0 (partition_count to)) input.1)
  step (Plan-F.UnionAll inputs) = level (Plan-F.UnionAll (plans inputs)) (united inputs)
  step (Plan-F.Limit input skip fetch) = level (Plan-F.Limit input.0 skip fetch) (passed (f.operator (Plan-F.Limit input.0 skip fetch) 1) input.0 input.1)

  pub filed : (p : Plan) → FiledOf f p
  filed = ind-Plan (FiledOf f) (λ x y is. subst (λ z. FiledOf f (roll-Plan z)) is (step y))

  pub all_read : (p : Plan) → reads_all p ≡ true → SameBag (files_in f (all_tops p)) (files_of f p 0)
  all_read p b w =
      let a = weigh-append w (seed_files (partitions_of f p 1 0)) (files_in f (tops p 1 0)) in
      let c = (filed p).bag b w 1 0 in
      weigh_sum w (files_in f (all_tops p)) ∙ a ∙ c ∙ sym (weigh_sum w (files_of f p 0))

  pub by_number : (p : Plan) (s : ℕ) → map (λ (x : File). x.source) (files_of f p s) ≡ numbers_from s (sources_in p)
  by_number p s = (filed p).sources s

  pub by_place : (p : Plan) (s : ℕ) → map (λ (x : File). x.items) (files_of f p s) ≡ map (items_at f) (places_of p)
  by_place p s = (filed p).items s
