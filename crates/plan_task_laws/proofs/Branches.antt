-- A node's partition, from those of its inputs.
use Rattle.std.specs.Prelude.{nat_lt}
use Rattle.std.proofs.Common.{ℕ, zero, suc, ◌+◌, ◌-◌, ◌<◌, ◌≤◌, ◌≡◌, ◌⊎◌, inl, inr, cond, refl, sym, ap, ◌∙◌, List, [], ◌∷◌, ◌++◌, length, get_or, map, Bool, true, false, arith, zero-add, add-zero}
use Rattle.std.proofs.lemmas.List.{length-append, get_or_append_left, get_or-append-add}
use Rattle.std.proofs.lemmas.Bool.Decides.{nat_tests}
use Rattle.plan_props.specs.Satisfies.{partition_count}
use Rattle.physical_plan.specs.declared.plan.Plan.{Plan}
use Rattle.physical_plan.specs.declared.plan.Plan.TheOpen.{Plan-F}
use Rattle.physical_plan.specs.declared.plan.Plan.TheViews.{roll-Plan}
use Rattle.physical_plan.specs.declared.plan.Plan.TheFolds.{map-Plan}
use Rattle.physical_plan.specs.Numbers.{numbers, numbers_from}
use Rattle.tree_laws.specs.Operators.{Op}
use Rattle.tree_laws.specs.Trees.{Nothing}
use Rattle.plan_task_laws.specs.Trees.{Doing, Seed, Growing, grow, grown_after, leaf, inlet, scanning, dealt_files, passing, holding, pairing, paired, stages_in, sources_in, partitions_of}
use Rattle.plan_task_laws.specs.Branches.{seed_at, width_at, union_at, branch}
use Rattle.plan_task_laws.proofs.Laws.{grown}

abbrev total_width : Doing → List Plan → ℕ → ℕ → ℕ
total_width f [] k s = 0
total_width f (p ∷ ps) k s = width_at f p k s + total_width f ps (k + stages_in p) (s + sources_in p)

abbrev branch_width : Doing → Plan-F Plan → ℕ → ℕ → ℕ
branch_width f (Plan-F.Scan table kinds files partitions) k s = partitions
branch_width f (Plan-F.Filter p test) k s = width_at f p k s
branch_width f (Plan-F.Project p items) k s = width_at f p k s
branch_width f (Plan-F.PartialGroup p keys calls) k s = width_at f p k s
branch_width f (Plan-F.FinalGroup p keys calls) k s = width_at f p k s
branch_width f (Plan-F.HashJoin kind p q keys rest) k s = width_at f p k s
branch_width f (Plan-F.Sort p keys) k s = width_at f p k s
branch_width f (Plan-F.Merge p keys) k s = 1
branch_width f (Plan-F.Coalesce p) k s = 1
branch_width f (Plan-F.Repartition p to) k s = partition_count to
branch_width f (Plan-F.UnionAll ps) k s = total_width f ps k s
branch_width f (Plan-F.Limit p skip fetch) k s = width_at f p k s

-- the inputs of a join have equally many partitions here
abbrev pub IsEvenAt : Doing → Plan-F Plan → ℕ → ℕ → Type 0
IsEvenAt f (Plan-F.HashJoin kind p q keys rest) k s = width_at f p k s ≡ width_at f q (k + stages_in p) (s + sources_in p)
IsEvenAt f _ k s = Unit {0}

map_at : {A B : Type 0} (h : A → B) (xs : List A) (i : ℕ) (d : A) (e : B) → i < length xs → get_or (map h xs) i e ≡ h (get_or xs i d)
map_at h [] i d e l = absurd (omega arith)
map_at h (x ∷ xs) zero d e l = refl
map_at h (x ∷ xs) (suc i) d e l = map_at h xs i d e (omega arith)

number_at : (at n i : ℕ) → i < n → get_or (numbers_from at n) i 0 ≡ at + i
number_at at zero i l = absurd (omega arith)
number_at at (suc n) zero l = sym (add-zero at)
number_at at (suc n) (suc i) l = number_at (at + 1) n i (omega arith) ∙ (let e : at + 1 + i ≡ at + suc i = omega arith in e)

pub numbers_length : (at n : ℕ) → length (numbers_from at n) ≡ n
numbers_length at zero = refl
numbers_length at (suc n) = ap suc (numbers_length (at + 1) n)

made_at : (h : ℕ → Seed) (n i : ℕ) → i < n → get_or (map h (numbers n)) i (leaf Nothing) ≡ h i
made_at h n i l = (let k : length (numbers n) ≡ n = numbers_length 0 n in map_at h (numbers n) i 0 (leaf Nothing) (omega arith)) ∙ ap h (number_at 0 n i l ∙ zero-add i)

paired_at : (op : ℕ → Op) (ls rs : List Seed) (i : ℕ) (d : Seed) → i < length ls → i < length rs → get_or (paired op ls rs) i d ≡ pairing op (get_or ls i d) (get_or rs i d)
paired_at op [] rs i d l r = absurd (omega arith)
paired_at op (x ∷ ls) [] i d l r = absurd (omega arith)
paired_at op (x ∷ ls) (y ∷ rs) zero d l r = refl
paired_at op (x ∷ ls) (y ∷ rs) (suc i) d l r = paired_at op ls rs i d (omega arith) (omega arith)

abbrev pub rolled : Doing → Plan-F Plan → Growing
rolled f z = grow f (map-Plan Plan (Plan × Growing) (λ (p : Plan). (p, partitions_of f p)) z)

seed_rolled : (f : Doing) (z : Plan-F Plan) (k s i : ℕ) → seed_at f (roll-Plan z) k s i ≡ get_or (rolled f z k s) i (leaf Nothing)
seed_rolled f z k s i = ap (λ (g : Growing). get_or (g k s) i (leaf Nothing)) (grown f z)

mapped : (f : Doing) (p : Plan) (z : Plan-F Plan) (h : Seed → Seed) (k s i : ℕ) → rolled f z k s ≡ map h (partitions_of f p k s) → i < width_at f p k s → seed_at f (roll-Plan z) k s i ≡ h (seed_at f p k s i)
mapped f p z h k s i e l = seed_rolled f z k s i ∙ ap (λ (ss : List Seed). get_or ss i (leaf Nothing)) e ∙ map_at h (partitions_of f p k s) i (leaf Nothing) (leaf Nothing) l

made : (f : Doing) (z : Plan-F Plan) (h : ℕ → Seed) (n k s i : ℕ) → rolled f z k s ≡ map h (numbers n) → i < n → seed_at f (roll-Plan z) k s i ≡ h i
made f z h n k s i e l = seed_rolled f z k s i ∙ ap (λ (ss : List Seed). get_or ss i (leaf Nothing)) e ∙ made_at h n i l

pub map_length : {A B : Type 0} (h : A → B) (xs : List A) → length (map h xs) ≡ length xs
map_length h [] = refl
map_length h (x ∷ xs) = ap suc (map_length h xs)

paired_length : (op : ℕ → Op) (ls rs : List Seed) → length ls ≡ length rs → length (paired op ls rs) ≡ length ls
paired_length op [] [] e = refl
paired_length op [] (r ∷ rs) e = absurd (omega arith)
paired_length op (l ∷ ls) [] e = absurd (omega arith)
paired_length op (l ∷ ls) (r ∷ rs) e = ap suc (paired_length op ls rs (omega arith))

pub width_rolled : (f : Doing) (z : Plan-F Plan) (k s : ℕ) → width_at f (roll-Plan z) k s ≡ length (rolled f z k s)
width_rolled f z k s = ap (λ (g : Growing). length (g k s)) (grown f z)

-- ------------------------------------------------------------ unions

nat_lt_tells : (i n : ℕ) → ((nat_lt i n ≡ true) × (i < n)) ⊎ ((nat_lt i n ≡ false) × (n ≤ i))
nat_lt_tells i n = grind (arith, nat_tests)

abbrev pub ends : Doing → List Plan → Growing
ends f ps = grown_after (map (λ (p : Plan). (p, partitions_of f p)) ps)

ends_width : (f : Doing) (ps : List Plan) (k s : ℕ) → length (ends f ps k s) ≡ total_width f ps k s
ends_width f [] k s = refl
ends_width f (p ∷ ps) k s =
    length-append (partitions_of f p k s) (ends f ps (k + stages_in p) (s + sources_in p)) ∙ ap (λ (n : ℕ). width_at f p k s + n) (ends_width f ps (k + stages_in p) (s + sources_in p))

ends_at : (f : Doing) (ps : List Plan) (k s i : ℕ) → get_or (ends f ps k s) i (leaf Nothing) ≡ union_at f ps k s i
ends_at f [] k s i = refl
ends_at f (p ∷ ps) k s i = go (nat_lt i (width_at f p k s)) (ends_at f ps (k + stages_in p) (s + sources_in p) (i - width_at f p k s)) (nat_lt_tells i (width_at f p k s))
  where
    xs : List Seed
    xs = partitions_of f p k s

    ys : List Seed
    ys = ends f ps (k + stages_in p) (s + sources_in p)

    rest : Seed
    rest = union_at f ps (k + stages_in p) (s + sources_in p) (i - length xs)

    go : (b : Bool) → get_or ys (i - length xs) (leaf Nothing) ≡ rest → ((b ≡ true) × (i < length xs)) ⊎ ((b ≡ false) × (length xs ≤ i)) → get_or (xs ++ ys) i (leaf Nothing) ≡ cond b (seed_at f p k s i) rest
    go b r (inl w) = rw w.0 (get_or_append_left xs ys (leaf Nothing) i w.1)
    go b r (inr w) = rw w.0 (
        let j : i ≡ length xs + (i - length xs) = (let l : length xs ≤ i = w.1 in omega arith) in
        ap (λ (n : ℕ). get_or (xs ++ ys) n (leaf Nothing)) j ∙ get_or-append-add xs ys (i - length xs) (leaf Nothing) ∙ r)

-- ------------------------------------------------------------ every node

width_is : (f : Doing) (z : Plan-F Plan) (k s : ℕ) → IsEvenAt f z k s → width_at f (roll-Plan z) k s ≡ branch_width f z k s
width_is f (Plan-F.Scan table kinds files partitions) k s e = width_rolled f (Plan-F.Scan table kinds files partitions) k s ∙ map_length (λ (i : ℕ). scanning (dealt_files (f.items table) s files partitions i)) (numbers partitions) ∙ numbers_length 0 partitions
width_is f (Plan-F.Filter p test) k s e = width_rolled f (Plan-F.Filter p test) k s ∙ map_length (passing (f.operator (Plan-F.Filter p test) 1)) (partitions_of f p k s)
width_is f (Plan-F.Project p items) k s e = width_rolled f (Plan-F.Project p items) k s ∙ map_length (passing (f.operator (Plan-F.Project p items) 1)) (partitions_of f p k s)
width_is f (Plan-F.PartialGroup p keys calls) k s e = width_rolled f (Plan-F.PartialGroup p keys calls) k s ∙ map_length (holding true (f.operator (Plan-F.PartialGroup p keys calls) 1)) (partitions_of f p k s)
width_is f (Plan-F.FinalGroup p keys calls) k s e = width_rolled f (Plan-F.FinalGroup p keys calls) k s ∙ map_length (holding false (f.operator (Plan-F.FinalGroup p keys calls) 1)) (partitions_of f p k s)
width_is f (Plan-F.Sort p keys) k s e = width_rolled f (Plan-F.Sort p keys) k s ∙ map_length (holding true (f.operator (Plan-F.Sort p keys) 1)) (partitions_of f p k s)
width_is f (Plan-F.Limit p skip fetch) k s e = width_rolled f (Plan-F.Limit p skip fetch) k s ∙ map_length (passing (f.operator (Plan-F.Limit p skip fetch) 1)) (partitions_of f p k s)
width_is f (Plan-F.HashJoin kind p q keys rest) k s e = width_rolled f (Plan-F.HashJoin kind p q keys rest) k s ∙ paired_length (f.operator (Plan-F.HashJoin kind p q keys rest) 2) (partitions_of f p k s) (partitions_of f q (k + stages_in p) (s + sources_in p)) e
width_is f (Plan-F.Merge p keys) k s e = width_rolled f (Plan-F.Merge p keys) k s
width_is f (Plan-F.Coalesce p) k s e = width_rolled f (Plan-F.Coalesce p) k s
width_is f (Plan-F.Repartition p to) k s e = width_rolled f (Plan-F.Repartition p to) k s ∙ map_length (λ (c : ℕ). leaf (inlet k c)) (numbers (partition_count to)) ∙ numbers_length 0 (partition_count to)
width_is f (Plan-F.UnionAll ps) k s e = width_rolled f (Plan-F.UnionAll ps) k s ∙ ends_width f ps k s

below : (i n m : ℕ) → n ≡ m → i < n → i < m
below i n m e l = omega arith

one_only : (i : ℕ) → i < 1 → i ≡ 0
one_only i l = omega arith

by_branches : (f : Doing) (z : Plan-F Plan) (k s i : ℕ) → IsEvenAt f z k s → i < branch_width f z k s → seed_at f (roll-Plan z) k s i ≡ branch f z k s i
by_branches f (Plan-F.Scan table kinds files partitions) k s i e l = made f (Plan-F.Scan table kinds files partitions) (λ j. scanning (dealt_files (f.items table) s files partitions j)) partitions k s i refl l
by_branches f (Plan-F.Filter p test) k s i e l = mapped f p (Plan-F.Filter p test) (passing (f.operator (Plan-F.Filter p test) 1)) k s i refl l
by_branches f (Plan-F.Project p items) k s i e l = mapped f p (Plan-F.Project p items) (passing (f.operator (Plan-F.Project p items) 1)) k s i refl l
by_branches f (Plan-F.PartialGroup p keys calls) k s i e l = mapped f p (Plan-F.PartialGroup p keys calls) (holding true (f.operator (Plan-F.PartialGroup p keys calls) 1)) k s i refl l
by_branches f (Plan-F.FinalGroup p keys calls) k s i e l = mapped f p (Plan-F.FinalGroup p keys calls) (holding false (f.operator (Plan-F.FinalGroup p keys calls) 1)) k s i refl l
by_branches f (Plan-F.Sort p keys) k s i e l = mapped f p (Plan-F.Sort p keys) (holding true (f.operator (Plan-F.Sort p keys) 1)) k s i refl l
by_branches f (Plan-F.Limit p skip fetch) k s i e l = mapped f p (Plan-F.Limit p skip fetch) (passing (f.operator (Plan-F.Limit p skip fetch) 1)) k s i refl l
by_branches f (Plan-F.HashJoin kind p q keys rest) k s i e l = seed_rolled f (Plan-F.HashJoin kind p q keys rest) k s i ∙ paired_at (f.operator (Plan-F.HashJoin kind p q keys rest) 2) (partitions_of f p k s) (partitions_of f q (k + stages_in p) (s + sources_in p)) i (leaf Nothing) l (below i (width_at f p k s) (width_at f q (k + stages_in p) (s + sources_in p)) e l)
by_branches f (Plan-F.Merge p keys) k s i e l = ap (seed_at f (roll-Plan (Plan-F.Merge p keys)) k s) (one_only i l) ∙ seed_rolled f (Plan-F.Merge p keys) k s 0
by_branches f (Plan-F.Coalesce p) k s i e l = made f (Plan-F.Coalesce p) (λ j. leaf (inlet k j)) 1 k s i refl l
by_branches f (Plan-F.Repartition p to) k s i e l = made f (Plan-F.Repartition p to) (λ j. leaf (inlet k j)) (partition_count to) k s i refl l
by_branches f (Plan-F.UnionAll ps) k s i e l = seed_rolled f (Plan-F.UnionAll ps) k s i ∙ ends_at f ps k s i

pub branches_at : (f : Doing) (z : Plan-F Plan) (k s i : ℕ) → IsEvenAt f z k s → i < width_at f (roll-Plan z) k s → seed_at f (roll-Plan z) k s i ≡ branch f z k s i
branches_at f z k s i e l = by_branches f z k s i e (below i (width_at f (roll-Plan z) k s) (branch_width f z k s) (width_is f z k s e) l)
