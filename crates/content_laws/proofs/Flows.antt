-- In each state that is reached there are whole contents of all channels, and of these is read what each task took.
use Rattle.std.proofs.Common.{ℕ, zero, suc, ◌+◌, ◌<◌, ◌≤◌, ◌≡◌, ◌⊎◌, inl, inr, refl, sym, ap, ◌∙◌, subst, eqb, cond, List, [], ◌∷◌, ◌++◌, length, drop, get_or, Bool, true, false, Option, Some, None, arith, append_assoc}
use Rattle.std.proofs.lemmas.Bool.{eqb-true}
use Rattle.std.proofs.lemmas.List.{append-nil, drop_at}
use Rattle.run_journal.specs.declared.entry.Entry.{Entry}
use Rattle.task_shape.proofs.Numbers.{lt_or_le}
use Rattle.task_shape.specs.Shape.{TaskShape, Shape, IsShape, no_task, task_at, is_group, has, width, receives_at}
use Rattle.history_laws.specs.Contents.{took, has_end, parts_sent, IsContents, IsTold}
use Rattle.history_laws.proofs.Laws.{recorded}
use Rattle.logical_plan.specs.Items.{Cells, Item, of_rows, concat}
use Rattle.tree_laws.specs.Operators.{IsFront, Reads}
use Rattle.tree_laws.specs.Trees.{Tree, Nothing, Files, Inlet, Node, gave_of, IsSubtree, HasInlet, FormReads}
use Rattle.tree_laws.specs.Linked.{whole, IsFlow, IsWhole}
use Rattle.tree_laws.specs.Tasks.{Parts, Split, handled, all_parts, IsCut, IsOut}
use Rattle.tree_laws.specs.Runs.{State, the_task, AllTo, for_channel, IsStart, IsReached}
use Rattle.tree_laws.proofs.Desks.{same_functions}
use Rattle.tree_laws.proofs.Wholes.{whole_of}
use Rattle.tree_laws.proofs.Subtrees.{fronts_inside}
use Rattle.tree_laws.proofs.Deliveries.{for-append, not_gone}
use Rattle.content_laws.specs.Senders.{Deal, AreSenders}
use Rattle.content_laws.specs.Whole.{past_in, tree_in, parts_of, unsent, still, to_come, IsFull, AreFull}

-- only the contents of a tree's own channels count
pub whole_same : (full full2 : ℕ → ℕ → List Item) (t : Tree) → ((g c : ℕ) → HasInlet g c t → full g c ≡ full2 g c) → whole full t ≡ whole full2 t
whole_same full full2 Nothing h = refl
whole_same full full2 (Files all files gave unread) h = refl
whole_same full full2 (Inlet g c gave unread over) h = h g c (refl, refl)
whole_same full full2 (Node op t d inputs) h = ap (op.whole t) (same_functions (λ i. whole full (inputs i)) (λ i. whole full2 (inputs i)) (λ i. whole_same full full2 (inputs i) (λ g c e. h g c (i, e))))

-- ------------------------------------------------------------ fronts and parts

front_drop : {A : Type 0} (xs ys : List A) → IsFront xs ys → xs ++ drop (length xs) ys ≡ ys
front_drop {A} xs ys f = subst (λ l. xs ++ drop (length xs) l ≡ l) f.1 (ap (λ l. xs ++ l) (drop_at xs f.0 (length xs) refl))

drop_same : {A : Type 0} (xs ys : List A) → xs ≡ ys → drop (length xs) ys ≡ []
drop_same {A} xs ys e = subst (λ l. drop (length xs) l ≡ []) (append-nil xs ∙ e) (drop_at xs [] (length xs) refl)

drop_rows : (xs : List Cells) (ys : List Item) → of_rows xs ≡ ys → drop (length xs) ys ≡ []
drop_rows xs ys e = subst (λ l. drop (length xs) l ≡ []) e (go xs)
  where
    go : (xs : List Cells) → drop (length xs) (of_rows xs) ≡ []
    go [] = refl
    go (x ∷ xs) = go xs

nil_left : {A : Type 0} (xs ys : List A) → xs ++ ys ≡ [] → xs ≡ []
nil_left [] ys e = refl
nil_left (x ∷ xs) ys e = cc

nil_right : {A : Type 0} (xs ys : List A) → xs ++ ys ≡ [] → ys ≡ []
nil_right [] ys e = e
nil_right (x ∷ xs) ys e = cc

-- no part is for a channel that doesn't pass
none_for : (passes : ℕ → Bool) (c : ℕ) (xs : Parts) → AllTo passes xs → passes c ≡ false → for_channel c xs ≡ []
none_for passes c [] a e = refl
none_for passes c (x ∷ xs) a e = ap (λ l. cond (eqb x.0 c) (x.1 ∷ []) [] ++ l) (none_for passes c xs a.1 e) ∙ (append-nil (cond {A = List (List Cells)} (eqb x.0 c) (x.1 ∷ []) []) ∙ go (eqb x.0 c) refl)
  where
    go : (b : Bool) → eqb x.0 c ≡ b → cond b (x.1 ∷ []) [] ≡ []
    go false z = refl
    go true z = (let y : true ≡ false = sym a.0 ∙ (ap passes (eqb-true x.0 c z) ∙ e) in cc)

none_of_all : (passes : ℕ → Bool) (split : Split) (c : ℕ) → ((j : ℕ) (b : List Cells) → AllTo passes (split j b)) → passes c ≡ false → (j : ℕ) (bs : List (List Cells)) → for_channel c (all_parts split j bs) ≡ []
none_of_all passes split c a e j [] = refl
none_of_all passes split c a e j (b ∷ bs) = for-append c (split j b) (all_parts split (j + 1) bs) ∙ (ap (λ l. l ++ for_channel c (all_parts split (j + 1) bs)) (none_for passes c (split j b) (a j b) e) ∙ none_of_all passes split c a e (j + 1) bs)

-- ------------------------------------------------------------ stages

-- a number that no stage passes
deepest : List TaskShape → ℕ
deepest [] = 0
deepest (x ∷ xs) = x.stage + deepest xs

below : (xs : List TaskShape) (t : ℕ) → (get_or xs t no_task).stage ≤ deepest xs
unfolding deepest
below [] t = omega arith
below (x ∷ xs) zero = omega arith
below (x ∷ xs) (suc t) = let a : (get_or xs t no_task).stage ≤ deepest xs = below xs t in omega arith

group_is : (o : Option ℕ) (g : ℕ) → is_group o g ≡ true → o ≡ Some g
group_is None g e = cc
group_is (Some h) g e = ap Some (eqb-true h g e)

-- ------------------------------------------------------------ whole contents

module _ (p : Shape) (sh : IsShape p) (size limit : ℕ) (start s : State) (entries : List Entry) (st : IsStart p size limit start) (k : IsReached p size limit start entries s) (deal : ℕ → Deal) where
  inlets : (u g c : ℕ) → HasInlet g c (tree_in s u) → receives_at p u g c ≡ true
  inlets u g c i = (st.fits u).inlets g c (subst (FormReads g c) (k.form u) i)

  told : IsTold p s.run.frame s.run.pasts
  told = (recorded p limit k.steps s.run sh k.own k.run).told

  deeper : (t u g c : ℕ) → receives_at p t g c ≡ true → is_group (task_at p u).sends g ≡ true → (task_at p t).stage < (task_at p u).stage
  deeper t u g c r e = sh.grows t u g c r (group_is (task_at p u).sends g e)

  come_same : (full full2 : ℕ → ℕ → List Item) (g c n : ℕ) → ((u : ℕ) → is_group (task_at p u).sends g ≡ true → whole full (tree_in s u) ≡ whole full2 (tree_in s u)) → to_come p s deal full g c n ≡ to_come p s deal full2 g c n
  come_same full full2 g c zero h = refl
  come_same full full2 g c (suc n) h = rw (come_same full full2 g c n h) (ap (λ l. to_come p s deal full2 g c n ++ l) (one (is_group (task_at p n).sends g) refl))
    where
      one : (b : Bool) → is_group (task_at p n).sends g ≡ b → cond b (of_rows (concat (unsent s n c)) ++ deal n c (still s full n)) [] ≡ cond b (of_rows (concat (unsent s n c)) ++ deal n c (still s full2 n)) []
      one true e = ap (λ l. of_rows (concat (unsent s n c)) ++ deal n c (drop (length (gave_of (tree_in s n))) l)) (h n e)
      one false e = refl

  contents_at : (g c : ℕ) (h : c < width p g) → IsContents p s.run.frame s.run.pasts (sh.has_receiver g c h).0 g c
  contents_at g c h = told.contents (sh.has_receiver g c h).0 g c (sh.has_receiver g c h).2

  abbrev body : (ℕ → ℕ → List Item) → (g c : ℕ) → c < width p g → List Item
  body full g c h = of_rows (concat (took g c (past_in s (sh.has_receiver g c h).0)))
      ++ (of_rows (concat (contents_at g c h).rest) ++ to_come p s deal full g c (length p.tasks))

  abbrev at_channel : (full : ℕ → ℕ → List Item) (g c : ℕ) → (c < width p g) ⊎ (width p g ≤ c) → List Item
  at_channel full g c (inl h) = body full g c h
  at_channel full g c (inr h) = []

  abbrev contents : (ℕ → ℕ → List Item) → ℕ → ℕ → List Item
  contents full g c = at_channel full g c (lt_or_le c (width p g))

  -- contents as far as the last n stages tell
  flow : ℕ → ℕ → ℕ → List Item
  flow zero g c = []
  flow (suc n) g c = contents (flow n) g c

  contents_same : (full full2 : ℕ → ℕ → List Item) (g c : ℕ) → ((u : ℕ) → is_group (task_at p u).sends g ≡ true → whole full (tree_in s u) ≡ whole full2 (tree_in s u)) → contents full g c ≡ contents full2 g c
  contents_same full full2 g c h = go (lt_or_le c (width p g))
    where
      go : (q : (c < width p g) ⊎ (width p g ≤ c)) → at_channel full g c q ≡ at_channel full2 g c q
      go (inl i) = ap (λ l. of_rows (concat (took g c (past_in s (sh.has_receiver g c i).0))) ++ (of_rows (concat (contents_at g c i).rest) ++ l)) (come_same full full2 g c (length p.tasks) h)
      go (inr i) = refl

  -- and once n passes all stages, they tell all
  stable : (n g c : ℕ) → ((u : ℕ) → is_group (task_at p u).sends g ≡ true → deepest p.tasks < (task_at p u).stage + n) → flow (suc n) g c ≡ flow (suc (suc n)) g c
  unfolding flow
  stable zero g c h = contents_same (flow zero) (flow (suc zero)) g c (λ u e. absurd (let a : (task_at p u).stage ≤ deepest p.tasks = below p.tasks u in let b : deepest p.tasks < (task_at p u).stage + 0 = h u e in omega arith))
  stable (suc n) g c h = contents_same (flow (suc n)) (flow (suc (suc n))) g c (λ u e. whole_same (flow (suc n)) (flow (suc (suc n))) (tree_in s u) (λ a d i.
      stable n a d (λ v f. (let x : (task_at p u).stage < (task_at p v).stage = deeper u v a d (inlets u a d i) f in let y : deepest p.tasks < (task_at p u).stage + suc n = h u e in omega arith))))

  full : ℕ → ℕ → List Item
  full = flow (suc (suc (deepest p.tasks)))

  full_is : (g c : ℕ) → full g c ≡ contents full g c
  unfolding full flow
  full_is g c = stable (suc (deepest p.tasks)) g c (λ u e. omega arith)

  filled : (t g c : ℕ) → receives_at p t g c ≡ true → IsFull p s deal full t g c
  filled t g c r = go (lt_or_le c (width p g)) refl
    where
      go : (q : (c < width p g) ⊎ (width p g ≤ c)) → lt_or_le c (width p g) ≡ q → IsFull p s deal full t g c
      go (inr i) e = absurd (let x : c < width p g = sh.inside t g c r in omega arith)
      go (inl i) e = subst (λ j. IsFull p s deal full j g c) (sh.one_receiver (sh.has_receiver g c i).0 t g c (sh.has_receiver g c i).2 r)
          (record { contents = contents_at g c i; all = full_is g c ∙ ap (at_channel full g c) e })

  pub exist : (full : ℕ → ℕ → List Item) × AreFull p s deal full
  exist = (full, filled)

  -- ---------------------------------------------------------- each task reads them

  module _ (senders : AreSenders p start.tasks deal) where
    pub cut_of : (u g : ℕ) (e : is_group (task_at p u).sends g ≡ true) → IsCut (past_in s u) (the_task s.tasks u) (senders u g e).0
    cut_of u g e = subst (IsOut (past_in s u) (the_task s.tasks u)) (k.split u ∙ (senders u g e).1) (k.task u).out

    -- the parts for c of a sender are those sent there, and the others
    pub parts_split : (u g c : ℕ) → is_group (task_at p u).sends g ≡ true → parts_sent c (past_in s u) ++ unsent s u c ≡ for_channel c (parts_of s u)
    parts_split u g c e = front_drop (parts_sent c (past_in s u)) (for_channel c (parts_of s u)) (subst (IsFront (parts_sent c (past_in s u))) (sym (for-append c (handled (past_in s u)) (the_task s.tasks u).parts))
        (f.0 ++ for_channel c (the_task s.tasks u).parts, sym (append_assoc (parts_sent c (past_in s u)) f.0 (for_channel c (the_task s.tasks u).parts)) ∙ ap (λ l. l ++ for_channel c (the_task s.tasks u).parts) f.1))
      where
        f : IsFront (parts_sent c (past_in s u)) (for_channel c (handled (past_in s u)))
        f = k.delivered.front u g c e

    -- no part is for a channel beside the task's targets
    pub aside : (u g c : ℕ) → is_group (task_at p u).sends g ≡ true → has (task_at p u).targets c ≡ false → for_channel c (parts_of s u) ≡ []
    aside u g c e h = ap (for_channel c) (cut_of u g e).parts ∙ none_of_all (has (task_at p u).targets) (senders u g e).0 c ((st.fits u).sends (senders u g e).0 (senders u g e).1).2 h 0 (cut_of u g e).cuts

    pub unsent_aside : (u g c : ℕ) → is_group (task_at p u).sends g ≡ true → has (task_at p u).targets c ≡ false → (parts_sent c (past_in s u) ≡ []) × (unsent s u c ≡ [])
    unsent_aside u g c e h = let z : parts_sent c (past_in s u) ++ unsent s u c ≡ [] = parts_split u g c e ∙ aside u g c e h in
        (nil_left (parts_sent c (past_in s u)) (unsent s u c) z, nil_right (parts_sent c (past_in s u)) (unsent s u c) z)

    module _ (full : ℕ → ℕ → List Item) (all : AreFull p s deal full) where
      come_nil : (g c n : ℕ) → ((u : ℕ) → is_group (task_at p u).sends g ≡ true → (unsent s u c ≡ []) × (deal u c (still s full u) ≡ [])) → to_come p s deal full g c n ≡ []
      come_nil g c zero h = refl
      come_nil g c (suc n) h = rw (come_nil g c n h) (one (is_group (task_at p n).sends g) refl)
        where
          one : (b : Bool) → is_group (task_at p n).sends g ≡ b → cond b (of_rows (concat (unsent s n c)) ++ deal n c (still s full n)) [] ≡ []
          one true e = (let q = h n e in rw (q.0, q.1) refl)
          one false e = refl

      -- where the end was told, nothing is to come
      ended : (t g c : ℕ) → receives_at p t g c ≡ true → ((u : ℕ) → is_group (task_at p u).sends g ≡ true → IsWhole size full (tree_in s u)) → has_end g c (past_in s t) ≡ true
          → (u : ℕ) → is_group (task_at p u).sends g ≡ true → (unsent s u c ≡ []) × (deal u c (still s full u) ≡ [])
      ended t g c r wh o u e = go (has (task_at p u).targets c) refl
        where
          go : (b : Bool) → has (task_at p u).targets c ≡ b → (unsent s u c ≡ []) × (deal u c (still s full u) ≡ [])
          go false b = ((unsent_aside u g c e b).1, (senders u g e).2.aside c (still s full u) b)
          go true b =
              let q = k.delivered.over t g c r o u (rw (e, b) refl) in (
                drop_same (parts_sent c (past_in s u)) (for_channel c (parts_of s u)) (not_gone c (past_in s u) q.1 ∙ ap (for_channel c) (sym (ap (λ l. handled (past_in s u) ++ l) (q.0).0 ∙ append-nil (handled (past_in s u))))),
                ap (deal u c) (drop_rows (gave_of (tree_in s u)) (whole full (tree_in s u)) ((wh u e).all (q.0).1)) ∙ (senders u g e).2.nothing c,
              )

      reads : (t g c : ℕ) → receives_at p t g c ≡ true → ((u : ℕ) → is_group (task_at p u).sends g ≡ true → IsWhole size full (tree_in s u)) → Reads (concat (took g c (past_in s t))) (has_end g c (past_in s t)) (full g c)
      reads t g c r wh = subst (Reads (concat (took g c (past_in s t))) (has_end g c (past_in s t))) (sym f.all) (record {
        front = (of_rows (concat f.contents.rest) ++ to_come p s deal full g c (length p.tasks), refl);
        all = λ o. sym (ap (λ l. of_rows (concat (took g c (past_in s t))) ++ (of_rows (concat l) ++ to_come p s deal full g c (length p.tasks))) (f.contents.over o).0
            ∙ (ap (λ l. of_rows (concat (took g c (past_in s t))) ++ l) (come_nil g c (length p.tasks) (ended t g c r wh o)) ∙ append-nil (of_rows (concat (took g c (past_in s t))))));
      })
        where
          f : IsFull p s deal full t g c
          f = all t g c r

      flow_from : (n t : ℕ) → deepest p.tasks < (task_at p t).stage + n → IsFlow (past_in s t) full (tree_in s t)
      flow_from zero t h = absurd (let a : (task_at p t).stage ≤ deepest p.tasks = below p.tasks t in omega arith)
      flow_from (suc n) t h = λ g c i. reads t g c (inlets t g c i) (λ u e. whole_of size (past_in s u) full (tree_in s u) (k.task u).linked
          (flow_from n u (let x : (task_at p t).stage < (task_at p u).stage = deeper t u g c (inlets t g c i) e in omega arith)))

      pub flows : (t : ℕ) → IsFlow (past_in s t) full (tree_in s t)
      flows t = flow_from (suc (deepest p.tasks)) t (omega arith)

      pub wholes : (t : ℕ) → IsWhole size full (tree_in s t)
      wholes t = whole_of size (past_in s t) full (tree_in s t) (k.task t).linked (flows t)

      pub subtrees : (t : ℕ) (x : Tree) → IsSubtree x (tree_in s t) → IsWhole size full x
      subtrees t x e = fronts_inside size (past_in s t) full x (tree_in s t) (k.task t).linked (flows t) e
