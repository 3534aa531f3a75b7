-- Each partition's batches go to its targets.
use Rattle.std.specs.Prelude.{◌==◌, ◌%◌}
use Rattle.std.specs.List.{filter}
use Rattle.std.proofs.Common.{ℕ, zero, suc, ◌+◌, ◌<◌, ◌≤◌, ◌≡◌, inl, inr, refl, subst, List, [], ◌∷◌, ◌++◌, length, map, Bool, true, Option, Some, is_some, arith, mod-lt}
use Rattle.std.proofs.lemmas.Bool.Decides.{nat_tests, eqb_tells}
use Rattle.plan_props.specs.declared.properties.Partitioning.{Partitioning}
use Rattle.plan_props.specs.declared.properties.Partitioning.TheVariants as parting
use Rattle.plan_props.specs.Satisfies.{partition_count}
use Rattle.plan_shape.specs.Layout.{Part, head_or, tail_of}
use Rattle.physical_plan.specs.Numbers.{numbers, numbers_from}
use Rattle.task_shape.specs.Shape.{has}
use Rattle.logical_plan.specs.Items.{Cells}
use Rattle.tree_laws.specs.Tasks.{Parts, Split}
use Rattle.tree_laws.specs.Runs.{AllTo}
use Rattle.content_laws.specs.SenderKinds.{part_of, parts_from, hash_split, whole_split}
use Rattle.plan_task_laws.specs.Trees.{Doing}
use Rattle.plan_task_laws.specs.Tops.{Way, Written, ByHash, InTurn, ToOne, ToOwn, way_to, targets_by, width_by}
use Rattle.plan_task_laws.specs.Starts.{in_turn, split_by}

-- where a partition sends, it sends to these channels
abbrev pub Aims : Option Split → List ℕ → Type 0
Aims o ts = (split : Split) → o ≡ Some split → (j : ℕ) (b : List Cells) → AllTo (has ts) (split j b)

-- the targets of each partition from i on
abbrev pub AllAim : Way → ℕ → List Part → List (List ℕ) → Type 0
AllAim w i [] ts = Unit {0}
AllAim w i (p ∷ ps) ts = (head_or ts ≡ targets_by w i) × AllAim w (i + 1) ps (tail_of ts)

aims_some : (x : Split) (ts : List ℕ) → ((j : ℕ) (b : List Cells) → AllTo (has ts) (x j b)) → Aims (Some x) ts
aims_some x ts h split e =
    let P : Split → Type 0 = λ y. (j : ℕ) (b : List Cells) → AllTo (has ts) (y j b) in
    let q : x ≡ split = cc in
    subst P q h

pub has_number : (at n c : ℕ) → at ≤ c → c < at + n → has (numbers_from at n) c ≡ true
has_number at zero c a b = absurd (omega arith)
has_number at (suc n) c a b = elim (eqb_tells at c) [
  | inl u ↦ rw u.0 refl
  | inr u ↦ (let q = u.1 in let r : has (numbers_from (at + 1) n) c ≡ true = has_number (at + 1) n c (grind arith) (omega arith) in rw (u.0, r) refl)
]

to_both : (passes : ℕ → Bool) (xs ys : Parts) → AllTo passes xs → AllTo passes ys → AllTo passes (xs ++ ys)
to_both passes [] ys h i = i
to_both passes (x ∷ xs) ys h i = (h.0, to_both passes xs ys h.1 i)

to_part : (passes : ℕ → Bool) (c : ℕ) (rows : List Cells) → passes c ≡ true → AllTo passes (part_of c rows)
to_part passes c [] h = tt
to_part passes c (r ∷ rows) h = (h, tt)

to_from : (passes : ℕ → Bool) (number : Cells → ℕ) (c m : ℕ) (b : List Cells) → ((d : ℕ) → c ≤ d → d < c + m → passes d ≡ true) → AllTo passes (parts_from number c m b)
to_from passes number c zero b h = tt
to_from passes number c (suc m) b h = to_both passes (part_of c (filter (λ row. number row == c) b)) (parts_from number (suc c) m b)
    (to_part passes c (filter (λ row. number row == c) b) (h c (omega arith) (omega arith)))
    (to_from passes number (suc c) m b (λ d l u. h d (omega arith) (omega arith)))

hash_aims : (number : Cells → ℕ) (n : ℕ) → Aims (Some (hash_split number n)) (numbers n)
hash_aims number n = aims_some (hash_split number n) (numbers n) (λ j b. to_from (has (numbers n)) number 0 n b (λ d l u. has_number 0 n d l u))

turn_aims : (n i : ℕ) → Aims (Some (in_turn n i)) (numbers n)
turn_aims zero i = aims_some (in_turn zero i) (numbers zero) (λ j b. tt)
turn_aims (suc n) i = aims_some (in_turn (suc n) i) (numbers (suc n)) (λ j b. (has_number 0 (suc n) ((i + j) % suc n) (omega arith) (let l : (i + j) % suc n < suc n = mod-lt (i + j) (omega arith) in omega arith), tt))

pub way_aims : (f : Doing) (w : Way) (i : ℕ) → Aims (split_by f w i) (targets_by w i)
way_aims f Written i = λ split e j b. cc
way_aims f (ByHash columns n) i = hash_aims (f.channel columns n) n
way_aims f (InTurn n) i = turn_aims n i
way_aims f ToOne i = aims_some (whole_split (λ j. 0)) (0 ∷ []) (λ j b. (refl, tt))
way_aims f ToOwn i = aims_some (whole_split (λ j. i)) (i ∷ []) (λ j b. (grind (arith, nat_tests), tt))

exchanged_targets : (to : Partitioning) (i : ℕ) → numbers (partition_count to) ≡ targets_by (way_to to) i
exchanged_targets parting.Single i = refl
exchanged_targets (parting.RoundRobin n) i = refl
exchanged_targets (parting.Hash cs n) i = refl
exchanged_targets (parting.Unknown n) i = refl

pub exchanged_width : (to : Partitioning) (m : ℕ) → partition_count to ≡ width_by (way_to to) m
exchanged_width parting.Single m = refl
exchanged_width (parting.RoundRobin n) m = refl
exchanged_width (parting.Hash cs n) m = refl
exchanged_width (parting.Unknown n) m = refl

pub exchanged_aims : (to : Partitioning) (i : ℕ) (ps : List Part) → AllAim (way_to to) i ps (map (λ (p : Part). numbers (partition_count to)) ps)
exchanged_aims to i [] = tt
exchanged_aims to i (p ∷ ps) = (exchanged_targets to i, exchanged_aims to (i + 1) ps)

pub coalesced_aims : (i : ℕ) (ps : List Part) → AllAim ToOne i ps (map (λ (p : Part). 0 ∷ []) ps)
coalesced_aims i [] = tt
coalesced_aims i (p ∷ ps) = (refl, coalesced_aims (i + 1) ps)

pub merging_aims : (i : ℕ) (ps : List Part) → AllAim ToOwn i ps (map (λ (c : ℕ). c ∷ []) (numbers_from i (length ps)))
merging_aims i [] = tt
merging_aims i (p ∷ ps) = (refl, merging_aims (i + 1) ps)

pub written_aims : (i : ℕ) (ps : List Part) → AllAim Written i ps []
written_aims i [] = tt
written_aims i (p ∷ ps) = (refl, written_aims (i + 1) ps)

-- it sends
abbrev pub Sends : Way → Type 0
Sends w = (f : Doing) (i : ℕ) → is_some (split_by f w i) ≡ true

pub way_sends : (to : Partitioning) → Sends (way_to to)
way_sends parting.Single f i = refl
way_sends (parting.RoundRobin n) f i = refl
way_sends (parting.Hash cs n) f i = refl
way_sends (parting.Unknown n) f i = refl
