-- What partitions would give, from what those of their inputs would.
use Rattle.std.proofs.Common.{ℕ, zero, suc, ◌+◌, ◌≡◌, refl, ap, ◌∙◌, subst, List, [], ◌∷◌, ◌++◌, length, get_or, map, Bool}
use Rattle.physical_plan.specs.Numbers.{numbers}
use Rattle.logical_plan.specs.Items.{Item}
use Rattle.tree_laws.specs.Operators.{Op}
use Rattle.tree_laws.specs.Trees.{File, Tree, Nothing, form, in_files}
use Rattle.plan_task_laws.specs.Trees.{Seed, node, inlet, leaf, scanning, passing, holding, pairing, paired, merged}
use Rattle.answer_laws.specs.Gives.{channels, Gives, AllGive, Yields, AllYield, AllJoin}

module _ (full : ℕ → ℕ → List Item) where
  -- ------------------------------------------------------------ one operator

  pub over_one : (op : ℕ → Op) (c : ℕ) (t : Tree) (y : List Item) → Gives full (form (node (op c) (t ∷ []))) y
      → (x : List Item) × Gives full (form t) x × Yields op (x ∷ []) y
  over_one op c t y h = (h.1 0, h.4 0, record { consumer = c; told = h.0; taken = h.1; are = are; split = h.2; reads = h.3; gives = h.5 })
    where
      are : (i : ℕ) → h.1 i ≡ get_or (h.1 0 ∷ []) i []
      are zero = refl
      are (suc i) = h.4 (suc i)

  pub over_two : (op : ℕ → Op) (c : ℕ) (t u : Tree) (z : List Item) → Gives full (form (node (op c) (t ∷ u ∷ []))) z
      → (x : List Item) × (y : List Item) × Gives full (form t) x × Gives full (form u) y × Yields op (x ∷ y ∷ []) z
  over_two op c t u z h = (h.1 0, h.1 1, h.4 0, h.4 1, record { consumer = c; told = h.0; taken = h.1; are = are; split = h.2; reads = h.3; gives = h.5 })
    where
      are : (i : ℕ) → h.1 i ≡ get_or (h.1 0 ∷ h.1 1 ∷ []) i []
      are zero = refl
      are (suc zero) = refl
      are (suc (suc i)) = h.4 (suc (suc i))

  pub passed : (op : ℕ → Op) (ss : List Seed) (ys : List (List Item)) → AllGive full (map (passing op) ss) ys
      → (xs : List (List Item)) × AllGive full ss xs × AllYield op xs ys
  passed op [] [] h = ([], tt, tt)
  passed op [] (y ∷ ys) h = absurd h
  passed op (s ∷ ss) [] h = absurd h
  passed op (s ∷ ss) (y ∷ ys) h =
      let a = over_one op h.0.0 (s.tree h.0.0) y h.0.1 in
      let r = passed op ss ys h.1 in
      (a.0 ∷ r.0, ((h.0.0, a.1), r.1), (a.2, r.2))

  pub held : (b : Bool) (op : ℕ → Op) (ss : List Seed) (ys : List (List Item)) → AllGive full (map (holding b op) ss) ys
      → (xs : List (List Item)) × AllGive full ss xs × AllYield op xs ys
  held b op [] [] h = ([], tt, tt)
  held b op [] (y ∷ ys) h = absurd h
  held b op (s ∷ ss) [] h = absurd h
  held b op (s ∷ ss) (y ∷ ys) h =
      let a = over_one op h.0.0 (s.tree (h.0.0 + 1)) y h.0.1 in
      let r = held b op ss ys h.1 in
      (a.0 ∷ r.0, ((h.0.0 + 1, a.1), r.1), (a.2, r.2))

  -- ------------------------------------------------------------ two inputs

  right_alone : (op : ℕ → Op) (rs : List Seed) (zs : List (List Item)) → AllGive full (map (λ (r : Seed). pairing op (leaf Nothing) r) rs) zs
      → (ys : List (List Item)) × AllGive full rs ys × AllJoin op [] ys zs
  right_alone op [] [] h = ([], tt, tt)
  right_alone op [] (z ∷ zs) h = absurd h
  right_alone op (r ∷ rs) [] h = absurd h
  right_alone op (r ∷ rs) (z ∷ zs) h =
      let a = over_two op h.0.0 Nothing (r.tree (h.0.0 + 1 + 0)) z h.0.1 in
      let m = right_alone op rs zs h.1 in
      (a.1 ∷ m.0, ((h.0.0 + 1 + 0, a.3), m.1), (subst (λ (x : List Item). Yields op (x ∷ a.1 ∷ []) z) a.2 a.4, m.2))

  left_alone : (op : ℕ → Op) (ls : List Seed) (zs : List (List Item)) → AllGive full (paired op ls []) zs
      → (xs : List (List Item)) × AllGive full ls xs × AllJoin op xs [] zs
  left_alone op [] [] h = ([], tt, tt)
  left_alone op [] (z ∷ zs) h = absurd h
  left_alone op (l ∷ ls) [] h = absurd h
  left_alone op (l ∷ ls) (z ∷ zs) h =
      let a = over_two op h.0.0 (l.tree (h.0.0 + 1)) Nothing z h.0.1 in
      let m = left_alone op ls zs h.1 in
      (a.0 ∷ m.0, ((h.0.0 + 1, a.2), m.1), (subst (λ (y : List Item). Yields op (a.0 ∷ y ∷ []) z) a.3 a.4, m.2))

  pub joined : (op : ℕ → Op) (ls rs : List Seed) (zs : List (List Item)) → AllGive full (paired op ls rs) zs
      → (xs : List (List Item)) × (ys : List (List Item)) × AllGive full ls xs × AllGive full rs ys × AllJoin op xs ys zs
  joined op [] rs zs h = (let m = right_alone op rs zs h in ([], m.0, tt, m.1, m.2))
  joined op (l ∷ ls) [] zs h = (let m = left_alone op (l ∷ ls) zs h in (m.0, [], m.1, tt, m.2))
  joined op (l ∷ ls) (r ∷ rs) [] h = absurd h
  joined op (l ∷ ls) (r ∷ rs) (z ∷ zs) h =
      let a = over_two op h.0.0 (l.tree (h.0.0 + 1)) (r.tree (h.0.0 + 1 + length l.consumers)) z h.0.1 in
      let m = joined op ls rs zs h.1 in
      (a.0 ∷ m.0, a.1 ∷ m.1, ((h.0.0 + 1, a.2), m.2), ((h.0.0 + 1 + length l.consumers, a.3), m.3), (a.4, m.4))

  pub apart : (ss us : List Seed) (zs : List (List Item)) → AllGive full (ss ++ us) zs
      → (xs : List (List Item)) × (ys : List (List Item)) × AllGive full ss xs × AllGive full us ys × (zs ≡ xs ++ ys)
  apart [] us zs h = ([], zs, tt, h, refl)
  apart (s ∷ ss) us [] h = absurd h
  apart (s ∷ ss) us (z ∷ zs) h = (let r = apart ss us zs h.1 in (z ∷ r.0, r.1, (h.0, r.2), r.3, ap (λ xs. z ∷ xs) r.4))

  -- ------------------------------------------------------------ leaves

  pub scanned : (h : ℕ → List File) (is : List ℕ) (ys : List (List Item)) → AllGive full (map (λ (i : ℕ). scanning (h i)) is) ys → ys ≡ map (λ (i : ℕ). in_files (h i)) is
  scanned h [] [] g = refl
  scanned h [] (y ∷ ys) g = absurd g
  scanned h (i ∷ is) [] g = absurd g
  scanned h (i ∷ is) (y ∷ ys) g = ap (λ x. x ∷ ys) g.0.1 ∙ ap (λ xs. in_files (h i) ∷ xs) (scanned h is ys g.1)

  pub read : (k : ℕ) (cs : List ℕ) (ys : List (List Item)) → AllGive full (map (λ (c : ℕ). leaf (inlet k c)) cs) ys → ys ≡ map (full k) cs
  read k [] [] g = refl
  read k [] (y ∷ ys) g = absurd g
  read k (c ∷ cs) [] g = absurd g
  read k (c ∷ cs) (y ∷ ys) g = ap (λ x. x ∷ ys) g.0.1 ∙ ap (λ xs. full k c ∷ xs) (read k cs ys g.1)

  inlets_at : (k : ℕ) (ins : ℕ → List Item) (cs : List ℕ) → ((i : ℕ) → Gives full (form (get_or (map (λ (d : ℕ). inlet k d) cs) i Nothing)) (ins i)) → (i : ℕ) → ins i ≡ get_or (map (full k) cs) i []
  inlets_at k ins [] h i = h i
  inlets_at k ins (c ∷ cs) h zero = h zero
  inlets_at k ins (c ∷ cs) h (suc i) = inlets_at k (λ j. ins (suc j)) cs (λ j. h (suc j)) i

  pub merges : (op : ℕ → ℕ → Op) (k n : ℕ) (ys : List (List Item)) → AllGive full (merged op k n ∷ []) ys
      → (y : List Item) × (ys ≡ y ∷ []) × Yields (op n) (channels full k n) y
  merges op k n [] h = absurd h
  merges op k n (y ∷ []) h =
      let g = h.0.1 in
      (y, refl, record { consumer = h.0.0; told = g.0; taken = g.1; are = inlets_at k g.1 (numbers n) g.4; split = g.2; reads = g.3; gives = g.5 })
  merges op k n (y ∷ z ∷ ys) h = absurd h.1

  pub as_many : (ss : List Seed) (xs : List (List Item)) → AllGive full ss xs → length xs ≡ length ss
  as_many [] [] h = refl
  as_many [] (x ∷ xs) h = absurd h
  as_many (s ∷ ss) [] h = absurd h
  as_many (s ∷ ss) (x ∷ xs) h = ap suc (as_many ss xs h.1)
