-- All partitions of a node, from those of its inputs.
use Rattle.std.specs.Prelude.{replicate}
use Rattle.std.proofs.Common.{ℕ, zero, suc, ◌+◌, ◌<◌, ◌≤◌, ◌≡◌, refl, ap, ◌∙◌, subst, List, [], ◌∷◌, ◌++◌, length, map, Bool, false, Some, None}
use Rattle.std.proofs.lemmas.List.{append-nil}
use Rattle.plan_shape.specs.Layout.{Part, bare, consuming, side_by_side, beside, reader}
use Rattle.physical_plan.specs.Numbers.{numbers_from}
use Rattle.logical_plan.specs.Items.{Item}
use Rattle.tree_laws.specs.Operators.{Op, IsOp}
use Rattle.tree_laws.specs.Trees.{Nothing}
use Rattle.plan_task_laws.specs.Trees.{Seed, inlet, scanning, leaf, passing, holding, pairing, paired, dealt_files}
use Rattle.plan_task_laws.proofs.Nodes.{IsPart, wider, passing_part, holding_part, pairing_part, nothing_part, scan_part, reader_part}

-- one seed for each partition, in order
abbrev pub AreParts : ℕ → ℕ → List Part → List Seed → Type 0
AreParts k m [] [] = Unit {0}
AreParts k m [] (s ∷ ss) = ⊥
AreParts k m (p ∷ ps) [] = ⊥
AreParts k m (p ∷ ps) (s ∷ ss) = IsPart k m p s × AreParts k m ps ss

pub all_wider : (k m k2 m2 : ℕ) (ps : List Part) (ss : List Seed) → k2 ≤ k → m ≤ m2 → AreParts k m ps ss → AreParts k2 m2 ps ss
all_wider k m k2 m2 [] [] a b h = tt
all_wider k m k2 m2 [] (s ∷ ss) a b h = absurd h
all_wider k m k2 m2 (p ∷ ps) [] a b h = absurd h
all_wider k m k2 m2 (p ∷ ps) (s ∷ ss) a b h = (wider k m k2 m2 p s a b h.0, all_wider k m k2 m2 ps ss a b h.1)

pub all_after : (k m : ℕ) (ps qs : List Part) (ss us : List Seed) → AreParts k m ps ss → AreParts k m qs us → AreParts k m (ps ++ qs) (ss ++ us)
all_after k m [] qs [] us h i = i
all_after k m [] qs (s ∷ ss) us h i = absurd h
all_after k m (p ∷ ps) qs [] us h i = absurd h
all_after k m (p ∷ ps) qs (s ∷ ss) us h i = (h.0, all_after k m ps qs ss us h.1 i)

pub all_passing : (op : ℕ → Op) (k m : ℕ) (ps : List Part) (ss : List Seed) → ((c : ℕ) → IsOp (op c)) → ((c : ℕ) → (op c).consumer ≡ None) → AreParts k m ps ss → AreParts k m ps (map (passing op) ss)
all_passing op k m [] [] o e h = tt
all_passing op k m [] (s ∷ ss) o e h = absurd h
all_passing op k m (p ∷ ps) [] o e h = absurd h
all_passing op k m (p ∷ ps) (s ∷ ss) o e h = (passing_part op k m p s o e h.0, all_passing op k m ps ss o e h.1)

pub all_holding : (b : Bool) (op : ℕ → Op) (k m : ℕ) (ps : List Part) (ss : List Seed) → ((c : ℕ) → IsOp (op c)) → ((c : ℕ) → (op c).consumer ≡ Some c) → AreParts k m ps ss → AreParts k m (map (consuming b) ps) (map (holding b op) ss)
all_holding b op k m [] [] o e h = tt
all_holding b op k m [] (s ∷ ss) o e h = absurd h
all_holding b op k m (p ∷ ps) [] o e h = absurd h
all_holding b op k m (p ∷ ps) (s ∷ ss) o e h = (holding_part b op k m p s o e h.0, all_holding b op k m ps ss o e h.1)

side_bare : (p : Part) → side_by_side p bare ≡ p
side_bare p = ap (λ (xs : List (ℕ × ℕ)). record { receives = xs; consumers = p.consumers ++ [] }) (append-nil p.receives) ∙ ap (λ (xs : List Bool). record { receives = p.receives; consumers = xs }) (append-nil p.consumers)

right_alone : (op : ℕ → Op) (k j m : ℕ) (qs : List Part) (rs : List Seed) → ((c : ℕ) → IsOp (op c)) → ((c : ℕ) → (op c).consumer ≡ Some c) → k ≤ j → j ≤ m → AreParts j m qs rs
    → AreParts k m (map (consuming false) qs) (map (λ (r : Seed). pairing op (leaf Nothing) r) rs)
right_alone op k j m [] [] o e a b i = tt
right_alone op k j m [] (r ∷ rs) o e a b i = absurd i
right_alone op k j m (q ∷ qs) [] o e a b i = absurd i
right_alone op k j m (q ∷ qs) (r ∷ rs) o e a b i = (pairing_part op k j m bare q (leaf Nothing) r o e a b (nothing_part k j) i.0, right_alone op k j m qs rs o e a b i.1)

left_alone : (op : ℕ → Op) (k j m : ℕ) (ps : List Part) (ls : List Seed) → ((c : ℕ) → IsOp (op c)) → ((c : ℕ) → (op c).consumer ≡ Some c) → k ≤ j → j ≤ m → AreParts k j ps ls
    → AreParts k m (map (consuming false) ps) (paired op ls [])
left_alone op k j m [] [] o e a b i = tt
left_alone op k j m [] (r ∷ rs) o e a b i = absurd i
left_alone op k j m (q ∷ qs) [] o e a b i = absurd i
left_alone op k j m (q ∷ qs) (r ∷ rs) o e a b i = (
  subst (λ (p : Part). IsPart k m (consuming false p) (pairing op r (leaf Nothing))) (side_bare q) (pairing_part op k j m q bare r (leaf Nothing) o e a b i.0 (nothing_part j m)),
  left_alone op k j m qs rs o e a b i.1,
)

pub all_paired : (op : ℕ → Op) (k j m : ℕ) (ps qs : List Part) (ls rs : List Seed) → ((c : ℕ) → IsOp (op c)) → ((c : ℕ) → (op c).consumer ≡ Some c) → k ≤ j → j ≤ m → AreParts k j ps ls → AreParts j m qs rs
    → AreParts k m (map (consuming false) (beside ps qs)) (paired op ls rs)
all_paired op k j m [] qs [] rs o e a b h i = right_alone op k j m qs rs o e a b i
all_paired op k j m [] qs (l ∷ ls) rs o e a b h i = absurd h
all_paired op k j m (p ∷ ps) qs [] rs o e a b h i = absurd h
all_paired op k j m (p ∷ ps) [] (l ∷ ls) [] o e a b h i = left_alone op k j m (p ∷ ps) (l ∷ ls) o e a b h
all_paired op k j m (p ∷ ps) [] (l ∷ ls) (r ∷ rs) o e a b h i = absurd i
all_paired op k j m (p ∷ ps) (q ∷ qs) (l ∷ ls) [] o e a b h i = absurd i
all_paired op k j m (p ∷ ps) (q ∷ qs) (l ∷ ls) (r ∷ rs) o e a b h i = (pairing_part op k j m p q l r o e a b h.0 i.0, all_paired op k j m ps qs ls rs o e a b h.1 i.1)

pub all_scans : (items : ℕ → List Item) (k m source files n at i : ℕ) → AreParts k m (replicate i bare) (map (λ (x : ℕ). scanning (dealt_files items source files n x)) (numbers_from at i))
all_scans items k m source files n at zero = tt
all_scans items k m source files n at (suc i) = (scan_part (dealt_files items source files n at) k m, all_scans items k m source files n (at + 1) i)

pub all_readers : (k m at n : ℕ) → k < m → AreParts k m (map (λ (c : ℕ). reader k c) (numbers_from at n)) (map (λ (c : ℕ). leaf (inlet k c)) (numbers_from at n))
all_readers k m at zero l = tt
all_readers k m at (suc n) l = (reader_part k m at l, all_readers k m (at + 1) n l)

pub same_length : (k m : ℕ) (ps : List Part) (ss : List Seed) → AreParts k m ps ss → length ss ≡ length ps
same_length k m [] [] h = refl
same_length k m [] (s ∷ ss) h = absurd h
same_length k m (p ∷ ps) [] h = absurd h
same_length k m (p ∷ ps) (s ∷ ss) h = ap suc (same_length k m ps ss h.1)
