-- What a tree reads and reserves, by its lists; and that its parts have nothing in common.
use Rattle.std.specs.Prelude.{◌==◌}
use Rattle.std.proofs.Common.{ℕ, zero, suc, ◌+◌, ◌<◌, ◌≤◌, ◌≡◌, inl, inr, refl, sym, ap, subst, cond, List, [], ◌∷◌, ◌++◌, get_or, Bool, true, false, ◌&&◌, ◌||◌, Option, Some, None, arith, zero-add}
use Rattle.std.proofs.lemmas.Bool.{false≢true, cases_lt}
use Rattle.std.proofs.lemmas.Bool.Decides.{nat_tests, eqb_tells}
use Rattle.physical_plan.specs.Numbers.{numbers_from}
use Rattle.task_shape.specs.Shape.{names, has}
use Rattle.logical_plan.specs.Items.{concat}
use Rattle.tree_laws.specs.Trees.{Tree, Nothing, Files, Inlet, Node, HasInlet, HasConsumer}
use Rattle.tree_laws.specs.Held.{IsApart}
use Rattle.plan_task_laws.specs.Reading.{Reads, Reserves, own}
use Rattle.plan_task_laws.proofs.Fresh.{pair_one, pair_count, pair_count-append, num_count, num_count-append}

-- ------------------------------------------------------------ counts of lists end to end

module _ (A : Type 0) (count : List A → ℕ) (none : count [] ≡ 0) (both : (xs ys : List A) → count (xs ++ ys) ≡ count xs + count ys) where
  pub part_below : (parts : List (List A)) (i : ℕ) → count (get_or parts i []) ≤ count (concat parts)
  part_below [] i = omega (arith, none)
  part_below (xs ∷ parts) zero = let e = both xs (concat parts) in omega arith
  part_below (xs ∷ parts) (suc i) = let e = both xs (concat parts) in let r = part_below parts i in omega arith

  pub one_place : (parts : List (List A)) (i j : ℕ) → count (concat parts) ≤ 1 → 0 < count (get_or parts i []) → 0 < count (get_or parts j []) → i ≡ j
  one_place [] i j h a b = absurd (omega (arith, none))
  one_place (xs ∷ parts) zero zero h a b = refl
  one_place (xs ∷ parts) zero (suc j) h a b = absurd (let e = both xs (concat parts) in let r = part_below parts j in omega arith)
  one_place (xs ∷ parts) (suc i) zero h a b = absurd (let e = both xs (concat parts) in let r = part_below parts i in omega arith)
  one_place (xs ∷ parts) (suc i) (suc j) h a b = ap suc (one_place parts i j (let e = both xs (concat parts) in omega arith) a b)

  pub some_place : (parts : List (List A)) → 0 < count (concat parts) → (i : ℕ) × (0 < count (get_or parts i []))
  some_place [] h = absurd (omega (arith, none))
  some_place (xs ∷ parts) h = elim (cases_lt 0 (count xs)) [
    | inl u ↦ (0, u)
    | inr u ↦ (
        let e = both xs (concat parts) in
        let r = some_place parts (omega arith) in
        (suc r.0, r.1))
  ]

-- ------------------------------------------------------------ channels

one_here : (g c : ℕ) → 0 < pair_count ((g, c) ∷ []) g c
one_here g c = grind (arith, nat_tests)

pub reads_has : (t : Tree) (xs : List (ℕ × ℕ)) (g c : ℕ) → Reads t xs → HasInlet g c t → 0 < pair_count xs g c
reads_has Nothing xs g c h i = absurd i
reads_has (Files all files gave unread) xs g c h i = absurd i
reads_has (Inlet a d gave unread over) xs g c h i =
    let p : a ≡ g = i.0 in
    let q : d ≡ c = i.1 in
    rw (h, p, q) (one_here g c)
reads_has (Node op t d inputs) xs g c h i =
    let r = reads_has (inputs i.0) (get_or h.0 i.0 []) g c (h.1 i.0) i.1 in
    let b = part_below (ℕ × ℕ) (λ ys. pair_count ys g c) refl (λ ys zs. pair_count-append ys zs g c) h.0 i.0 in
    subst (λ (ys : List (ℕ × ℕ)). 0 < pair_count ys g c) (sym h.2) (omega arith)

pair_here : (a d g c : ℕ) → 0 < pair_count ((a, d) ∷ []) g c → (a ≡ g) × (d ≡ c)
pair_here a d g c h = elim (eqb_tells a g) [
  | inl u ↦ elim (eqb_tells d c) [
    | inl v ↦ (u.1, v.1)
    | inr v ↦ absurd (let e : pair_one (a, d) g c ≡ 0 = rw (u.0, v.0) refl in omega arith)
  ]
  | inr u ↦ absurd (let e : pair_one (a, d) g c ≡ 0 = rw u.0 refl in omega arith)
]

pub has_reads : (t : Tree) (xs : List (ℕ × ℕ)) (g c : ℕ) → Reads t xs → 0 < pair_count xs g c → HasInlet g c t
has_reads Nothing xs g c h i = absurd (let e : pair_count xs g c ≡ 0 = ap (λ ys. pair_count ys g c) h in omega arith)
has_reads (Files all files gave unread) xs g c h i = absurd (let e : pair_count xs g c ≡ 0 = ap (λ ys. pair_count ys g c) h in omega arith)
has_reads (Inlet a d gave unread over) xs g c h i = pair_here a d g c (subst (λ (ys : List (ℕ × ℕ)). 0 < pair_count ys g c) h i)
has_reads (Node op t d inputs) xs g c h i =
    let s = some_place (ℕ × ℕ) (λ ys. pair_count ys g c) refl (λ ys zs. pair_count-append ys zs g c) h.0 (subst (λ (ys : List (ℕ × ℕ)). 0 < pair_count ys g c) h.2 i) in
    (s.0, has_reads (inputs s.0) (get_or h.0 s.0 []) g c (h.1 s.0) s.1)

-- ------------------------------------------------------------ consumers

own_count : (o : Option ℕ) (c : ℕ) → o ≡ Some c → num_count (own o) c ≡ 1
own_count None c e = cc
own_count (Some d) c e = let q : d ≡ c = cc in rw q (grind (arith, nat_tests))

count_own : (o : Option ℕ) (c : ℕ) → 0 < num_count (own o) c → o ≡ Some c
count_own None c h = absurd (omega arith)
count_own (Some d) c h = elim (eqb_tells d c) [
  | inl u ↦ ap (λ x. Some x) u.1
  | inr u ↦ absurd (let e : num_count (own (Some d)) c ≡ 0 = rw u.0 refl in omega arith)
]

pub reserves_has : (t : Tree) (xs : List ℕ) (c : ℕ) → Reserves t xs → HasConsumer c t → 0 < num_count xs c
reserves_has Nothing xs c h i = absurd i
reserves_has (Files all files gave unread) xs c h i = absurd i
reserves_has (Inlet a d gave unread over) xs c h i = absurd i
reserves_has (Node op t d inputs) xs c h (inl e) =
    let s = num_count-append (own op.consumer) (concat h.0) c in
    let o = own_count op.consumer c e in
    subst (λ (ys : List ℕ). 0 < num_count ys c) (sym h.2) (omega arith)
reserves_has (Node op t d inputs) xs c h (inr i) =
    let s = num_count-append (own op.consumer) (concat h.0) c in
    let r = reserves_has (inputs i.0) (get_or h.0 i.0 []) c (h.1 i.0) i.1 in
    let b = part_below ℕ (λ ys. num_count ys c) refl (λ ys zs. num_count-append ys zs c) h.0 i.0 in
    subst (λ (ys : List ℕ). 0 < num_count ys c) (sym h.2) (omega arith)

pub has_reserves : (t : Tree) (xs : List ℕ) (c : ℕ) → Reserves t xs → 0 < num_count xs c → HasConsumer c t
has_reserves Nothing xs c h i = absurd (let e : num_count xs c ≡ 0 = ap (λ ys. num_count ys c) h in omega arith)
has_reserves (Files all files gave unread) xs c h i = absurd (let e : num_count xs c ≡ 0 = ap (λ ys. num_count ys c) h in omega arith)
has_reserves (Inlet a d gave unread over) xs c h i = absurd (let e : num_count xs c ≡ 0 = ap (λ ys. num_count ys c) h in omega arith)
has_reserves (Node op t d inputs) xs c h i =
    let s = num_count-append (own op.consumer) (concat h.0) c in
    let j : 0 < num_count (own op.consumer ++ concat h.0) c = subst (λ (ys : List ℕ). 0 < num_count ys c) h.2 i in
    elim (cases_lt 0 (num_count (own op.consumer) c)) [
      | inl u ↦ inl (count_own op.consumer c u)
      | inr u ↦ inr (
          let s = some_place ℕ (λ ys. num_count ys c) refl (λ ys zs. num_count-append ys zs c) h.0 (omega arith) in
          (s.0, has_reserves (inputs s.0) (get_or h.0 s.0 []) c (h.1 s.0) s.1))
    ]

-- ------------------------------------------------------------ apart

pub is_apart : (t : Tree) (xs : List (ℕ × ℕ)) (cs : List ℕ) → Reads t xs → Reserves t cs → ((g c : ℕ) → pair_count xs g c ≤ 1) → ((c : ℕ) → num_count cs c ≤ 1) → IsApart t
is_apart Nothing xs cs h k a b = tt
is_apart (Files all files gave unread) xs cs h k a b = tt
is_apart (Inlet g c gave unread over) xs cs h k a b = tt
is_apart (Node op t d inputs) xs cs h k a b = (
  λ i j g c x y. one_place (ℕ × ℕ) (λ ys. pair_count ys g c) refl (λ ys zs. pair_count-append ys zs g c) h.0 i j (channels g c)
      (reads_has (inputs i) (get_or h.0 i []) g c (h.1 i) x) (reads_has (inputs j) (get_or h.0 j []) g c (h.1 j) y),
  λ i j c x y. one_place ℕ (λ ys. num_count ys c) refl (λ ys zs. num_count-append ys zs c) k.0 i j (consumers c)
      (reserves_has (inputs i) (get_or k.0 i []) c (k.1 i) x) (reserves_has (inputs j) (get_or k.0 j []) c (k.1 j) y),
  λ i c e x. mine i c e (reserves_has (inputs i) (get_or k.0 i []) c (k.1 i) x),
  λ i. is_apart (inputs i) (get_or h.0 i []) (get_or k.0 i []) (h.1 i) (k.1 i)
      (λ g c. let e = channels g c in let r = part_below (ℕ × ℕ) (λ ys. pair_count ys g c) refl (λ ys zs. pair_count-append ys zs g c) h.0 i in omega arith)
      (λ c. let e = consumers c in let r = part_below ℕ (λ ys. num_count ys c) refl (λ ys zs. num_count-append ys zs c) k.0 i in omega arith),
)
  where
    channels : (g c : ℕ) → pair_count (concat h.0) g c ≤ 1
    channels g c = subst (λ (ys : List (ℕ × ℕ)). pair_count ys g c ≤ 1) h.2 (a g c)

    together : (c : ℕ) → num_count (own op.consumer) c + num_count (concat k.0) c ≤ 1
    together c = subst (λ (n : ℕ). n ≤ 1) (num_count-append (own op.consumer) (concat k.0) c) (subst (λ (ys : List ℕ). num_count ys c ≤ 1) k.2 (b c))

    consumers : (c : ℕ) → num_count (concat k.0) c ≤ 1
    consumers c = let e = together c in omega arith

    mine : (i c : ℕ) → op.consumer ≡ Some c → 0 < num_count (get_or k.0 i []) c → ⊥
    mine i c e x =
        let s = together c in
        let o = own_count op.consumer c e in
        let r = part_below ℕ (λ ys. num_count ys c) refl (λ ys zs. num_count-append ys zs c) k.0 i in
        omega arith

-- ------------------------------------------------------------ lists of the shape

pub count_names : (xs : List (ℕ × ℕ)) (g c : ℕ) → 0 < pair_count xs g c → names xs g c ≡ true
count_names [] g c h = absurd (omega arith)
count_names (x ∷ xs) g c h = go ((x.0 == g) && (x.1 == c)) (count_names xs g c) h
  where
    go : (b : Bool) → (0 < pair_count xs g c → names xs g c ≡ true) → 0 < cond {A = ℕ} b 1 0 + pair_count xs g c → b || names xs g c ≡ true
    go true f h = refl
    go false f h = f (omega arith)

pub names_count : (xs : List (ℕ × ℕ)) (g c : ℕ) → names xs g c ≡ true → 0 < pair_count xs g c
names_count [] g c h = absurd (false≢true h)
names_count (x ∷ xs) g c h = go ((x.0 == g) && (x.1 == c)) (names_count xs g c) h
  where
    go : (b : Bool) → (names xs g c ≡ true → 0 < pair_count xs g c) → b || names xs g c ≡ true → 0 < cond {A = ℕ} b 1 0 + pair_count xs g c
    go true f h = omega arith
    go false f h = let e = f h in omega arith

pub count_has : (xs : List ℕ) (c : ℕ) → 0 < num_count xs c → has xs c ≡ true
count_has [] c h = absurd (omega arith)
count_has (x ∷ xs) c h = go (x == c) (count_has xs c) h
  where
    go : (b : Bool) → (0 < num_count xs c → has xs c ≡ true) → 0 < cond {A = ℕ} b 1 0 + num_count xs c → b || has xs c ≡ true
    go true f h = refl
    go false f h = f (omega arith)

pub has_count : (xs : List ℕ) (c : ℕ) → has xs c ≡ true → 0 < num_count xs c
has_count [] c h = absurd (false≢true h)
has_count (x ∷ xs) c h = go (x == c) (has_count xs c) h
  where
    go : (b : Bool) → (has xs c ≡ true → 0 < num_count xs c) → b || has xs c ≡ true → 0 < cond {A = ℕ} b 1 0 + num_count xs c
    go true f h = omega arith
    go false f h = let e = f h in omega arith

pub numbers_within : (at n c : ℕ) → 0 < num_count (numbers_from at n) c → (at ≤ c) × (c < at + n)
numbers_within at zero c h = absurd (omega arith)
numbers_within at (suc n) c h = elim (eqb_tells at c) [
  | inl u ↦ (let q : at ≡ c = u.1 in (omega arith, omega arith))
  | inr u ↦ (
      let e : num_count (numbers_from at (suc n)) c ≡ num_count (numbers_from (at + 1) n) c = rw u.0 (zero-add _) in
      let r : (at + 1 ≤ c) × (c < at + 1 + n) = numbers_within (at + 1) n c (omega arith) in
      let a : at + 1 ≤ c = r.0 in
      let b : c < at + 1 + n = r.1 in
      (omega arith, omega arith))
]

pub numbers_once : (at n c : ℕ) → num_count (numbers_from at n) c ≤ 1
numbers_once at zero c = omega arith
numbers_once at (suc n) c = elim (eqb_tells at c) [
  | inl u ↦ elim (cases_lt 0 (num_count (numbers_from (at + 1) n) c)) [
    | inl v ↦ absurd (let w = numbers_within (at + 1) n c v in let a : at + 1 ≤ c = w.0 in let q : at ≡ c = u.1 in omega arith)
    | inr v ↦ (let e : num_count (numbers_from at (suc n)) c ≡ 1 + num_count (numbers_from (at + 1) n) c = rw u.0 refl in omega arith)
  ]
  | inr u ↦ (
      let e : num_count (numbers_from at (suc n)) c ≡ num_count (numbers_from (at + 1) n) c = rw u.0 (zero-add _) in
      let r = numbers_once (at + 1) n c in
      omega arith)
]
