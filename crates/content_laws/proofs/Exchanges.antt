-- The channels of a group share what its senders would give; and what a test passes at them.
use Rattle.std.proofs.Common.{ℕ, zero, suc, ◌+◌, ◌<◌, ◌≤◌, ◌≡◌, ◌≢◌, inl, inr, refl, sym, ap, ◌∙◌, subst, cond, List, [], ◌∷◌, ◌++◌, length, Bool, true, false, Some, arith, append_assoc}
use Rattle.std.specs.List.{sum_by, AllPass}
use Rattle.std.proofs.lemmas.List.{append-nil}
use Rattle.std.proofs.lemmas.List.Sums.{sum_by-append}
use Rattle.std.proofs.Math.ListN.{get_or-eq_default}
use Rattle.run_journal.specs.declared.entry.Entry.{Entry}
use Rattle.task_shape.proofs.Numbers.{same_or_not, lt_or_le}
use Rattle.task_shape.specs.Shape.{Shape, IsShape, no_task, task_at, is_group, has, width}
use Rattle.history_laws.specs.Contents.{took, parts_sent, sent_to, by_sender, parts_in, IsContents}
use Rattle.logical_plan.specs.Items.{Cells, Item, of_rows, concat}
use Rattle.tree_laws.specs.Trees.{gave_of}
use Rattle.tree_laws.specs.Linked.{whole, IsWhole}
use Rattle.tree_laws.specs.Tasks.{Parts, Split, all_parts, IsCut}
use Rattle.tree_laws.specs.Runs.{State, the_task, for_channel, IsStart, IsReached}
use Rattle.tree_laws.proofs.Fronts.{of_rows-append, concat-append, left_of}
use Rattle.tree_laws.proofs.Deliveries.{for-append}
use Rattle.content_laws.specs.Bags.{SameBag, sum_below, together}
use Rattle.content_laws.specs.Subsequences.{IsSubsequence}
use Rattle.content_laws.specs.Senders.{bodies, Deal, AreSenders, SendsOnly, IsOnlySender, SendsInOrder, IsLoneSender}
use Rattle.content_laws.specs.Whole.{past_in, tree_in, parts_of, unsent, still, to_come, IsFull, AreFull, given_weight, given_to}
use Rattle.content_laws.proofs.Bags.{together_weighs, sums_same, sums_add, sums_zero, sums_swap, sums_none, sums_each, weight, weight-append, spread, by_senders, one_sender, all_weigh, fails, none_fails, all_pass}
use Rattle.content_laws.proofs.Flows
use Rattle.content_laws.proofs.Orders.{within-append, within_rows, parts_in_order}

is_false : (b : Bool) → (b ≡ true → ⊥) → b ≡ false
is_false true h = absurd (h refl)
is_false false h = refl

module _ (p : Shape) (sh : IsShape p) (size limit : ℕ) (start s : State) (entries : List Entry) (st : IsStart p size limit start) (k : IsReached p size limit start entries s) (deal : ℕ → Deal) (senders : AreSenders p start.tasks deal) (full : ℕ → ℕ → List Item) (all : AreFull p s deal full) where
  wholes : (t : ℕ) → IsWhole size full (tree_in s t)
  wholes t = Flows.wholes p sh size limit start s entries st k deal senders full all t

  parts_split : (u g c : ℕ) → is_group (task_at p u).sends g ≡ true → parts_sent c (past_in s u) ++ unsent s u c ≡ for_channel c (parts_of s u)
  parts_split u g c e = Flows.parts_split p sh size limit start s entries st k deal senders u g c e

  aside : (u g c : ℕ) → is_group (task_at p u).sends g ≡ true → has (task_at p u).targets c ≡ false → for_channel c (parts_of s u) ≡ []
  aside u g c e h = Flows.aside p sh size limit start s entries st k deal senders u g c e h

  unsent_aside : (u g c : ℕ) → is_group (task_at p u).sends g ≡ true → has (task_at p u).targets c ≡ false → (parts_sent c (past_in s u) ≡ []) × (unsent s u c ≡ [])
  unsent_aside u g c e h = Flows.unsent_aside p sh size limit start s entries st k deal senders u g c e h

  cut_of : (u g : ℕ) (e : is_group (task_at p u).sends g ≡ true) → IsCut (past_in s u) (the_task s.tasks u) (senders u g e).0
  cut_of u g e = Flows.cut_of p sh size limit start s entries st k deal senders u g e

  -- what a tree gave, and what it would still give
  left_whole : (u : ℕ) → of_rows (gave_of (tree_in s u)) ++ still s full u ≡ whole full (tree_in s u)
  left_whole u = left_of (gave_of (tree_in s u)) (whole full (tree_in s u)) (wholes u).front

  -- the channel's contents, with its receiver
  full_at : (g c : ℕ) (h : c < width p g) → IsFull p s deal full (sh.has_receiver g c h).0 g c
  full_at g c h = all (sh.has_receiver g c h).0 g c (sh.has_receiver g c h).2

  -- ---------------------------------------------------------- the channels of a group share what its senders would give

  module _ (w : Item → ℕ) where
    own : ℕ → ℕ → ℕ → ℕ
    own g c u = cond (is_group (task_at p u).sends g) (weight w (for_channel c (parts_of s u)) + sum_by w (deal u c (still s full u))) 0

    come_weight : ℕ → ℕ → ℕ → ℕ
    come_weight g c u = cond (is_group (task_at p u).sends g) (weight w (unsent s u c) + sum_by w (deal u c (still s full u))) 0

    sent_weight : ℕ → ℕ → ℕ → ℕ
    sent_weight g c u = weight w (sent_to p u g c (past_in s u))

    comes : (g c n : ℕ) → sum_by w (to_come p s deal full g c n) ≡ sum_below n (come_weight g c)
    unfolding come_weight
    comes g c zero = refl
    comes g c (suc n) = sum_by-append w (to_come p s deal full g c n) (cond (is_group (task_at p n).sends g) (of_rows (concat (unsent s n c)) ++ deal n c (still s full n)) [])
        ∙ (let a : sum_by w (to_come p s deal full g c n) ≡ sum_below n (come_weight g c) = comes g c n in
        let b : sum_by w (cond (is_group (task_at p n).sends g) (of_rows (concat (unsent s n c)) ++ deal n c (still s full n)) []) ≡ come_weight g c n = one (is_group (task_at p n).sends g) in omega arith)
      where
        one : (b : Bool) → sum_by w (cond b (of_rows (concat (unsent s n c)) ++ deal n c (still s full n)) []) ≡ cond b (weight w (unsent s n c) + sum_by w (deal n c (still s full n))) 0
        one true = sum_by-append w (of_rows (concat (unsent s n c))) (deal n c (still s full n))
        one false = refl

    both : (g c u : ℕ) → sent_weight g c u + come_weight g c u ≡ own g c u
    unfolding sent_weight come_weight own
    both g c u = go (is_group (task_at p u).sends g) refl
      where
        go : (b : Bool) → is_group (task_at p u).sends g ≡ b → weight w (cond b (parts_sent c (past_in s u)) []) + cond b (weight w (unsent s u c) + sum_by w (deal u c (still s full u))) 0 ≡ cond b (weight w (for_channel c (parts_of s u)) + sum_by w (deal u c (still s full u))) 0
        go true e = (let a : weight w (parts_sent c (past_in s u) ++ unsent s u c) ≡ weight w (parts_sent c (past_in s u)) + weight w (unsent s u c) = weight-append w (parts_sent c (past_in s u)) (unsent s u c) in
            let b : weight w (parts_sent c (past_in s u) ++ unsent s u c) ≡ weight w (for_channel c (parts_of s u)) = ap (weight w) (parts_split u g c e) in omega arith)
        go false e = refl

    past_out : (u : ℕ) → length p.tasks ≤ u → (g c : ℕ) → sent_to p u g c (past_in s u) ≡ []
    past_out u h g c = ap (λ x. cond (is_group x.sends g) (parts_sent c (past_in s u)) []) (get_or-eq_default p.tasks no_task h)

    channel_weight : (g c : ℕ) → c < width p g → sum_by w (full g c) ≡ sum_below (length p.tasks) (own g c)
    unfolding sent_weight
    channel_weight g c h =
        let f : IsFull p s deal full (sh.has_receiver g c h).0 g c = full_at g c h in
        let con : IsContents p s.run.frame s.run.pasts (sh.has_receiver g c h).0 g c = f.contents in
        let tk : List (List Cells) = took g c (past_in s (sh.has_receiver g c h).0) in
        let come : List Item = to_come p s deal full g c (length p.tasks) in
        let z : sum_by w (full g c) ≡ sum_by w (of_rows (concat tk) ++ (of_rows (concat con.rest) ++ come)) = ap (sum_by w) f.all in
        let a : sum_by w (of_rows (concat tk) ++ (of_rows (concat con.rest) ++ come)) ≡ weight w tk + sum_by w (of_rows (concat con.rest) ++ come) = sum_by-append w (of_rows (concat tk)) (of_rows (concat con.rest) ++ come) in
        let b : sum_by w (of_rows (concat con.rest) ++ come) ≡ weight w con.rest + sum_by w come = sum_by-append w (of_rows (concat con.rest)) come in
        let d : weight w tk + weight w con.rest ≡ weight w (parts_in con.log) = sym (weight-append w tk con.rest) ∙ ap (weight w) con.all in
        let e : sum_below (length p.tasks) (λ u. weight w (by_sender u con.log)) ≡ weight w (parts_in con.log) = by_senders w (length p.tasks) con.log (λ u l. con.each u ∙ past_out u l g c) in
        let i : sum_below (length p.tasks) (λ u. weight w (by_sender u con.log)) ≡ sum_below (length p.tasks) (sent_weight g c) = sums_same (length p.tasks) (λ u. weight w (by_sender u con.log)) (sent_weight g c) (λ u l. ap (weight w) (con.each u)) in
        let j : sum_by w come ≡ sum_below (length p.tasks) (come_weight g c) = comes g c (length p.tasks) in
        let m : sum_below (length p.tasks) (λ u. sent_weight g c u + come_weight g c u) ≡ sum_below (length p.tasks) (sent_weight g c) + sum_below (length p.tasks) (come_weight g c) = sums_add (length p.tasks) (sent_weight g c) (come_weight g c) in
        let o : sum_below (length p.tasks) (λ u. sent_weight g c u + come_weight g c u) ≡ sum_below (length p.tasks) (own g c) = sums_same (length p.tasks) (λ u. sent_weight g c u + come_weight g c u) (own g c) (λ u l. both g c u) in
        omega arith

    unfoldable give_weight : ℕ → ℕ → ℕ
    give_weight g u = cond (is_group (task_at p u).sends g) (sum_by w (whole full (tree_in s u))) 0

    sender_weight : (g u : ℕ) → sum_below (width p g) (λ c. own g c u) ≡ give_weight g u
    unfolding own give_weight
    sender_weight g u = go (is_group (task_at p u).sends g) refl
      where
        go : (b : Bool) → is_group (task_at p u).sends g ≡ b → sum_below (width p g) (λ c. cond b (weight w (for_channel c (parts_of s u)) + sum_by w (deal u c (still s full u))) 0) ≡ cond b (sum_by w (whole full (tree_in s u))) 0
        go false e = sums_zero (width p g)
        go true e =
            let ps : Parts = parts_of s u in
            let cut : IsCut (past_in s u) (the_task s.tasks u) (senders u g e).0 = cut_of u g e in
            let a : sum_below (width p g) (λ c. weight w (for_channel c ps) + sum_by w (deal u c (still s full u))) ≡ sum_below (width p g) (λ c. weight w (for_channel c ps)) + sum_below (width p g) (λ c. sum_by w (deal u c (still s full u))) = sums_add (width p g) (λ c. weight w (for_channel c ps)) (λ c. sum_by w (deal u c (still s full u))) in
            let b : sum_below (width p g) (λ c. weight w (for_channel c ps)) ≡ weight w (bodies ps) = spread w (width p g) ps (λ c l. aside u g c e (outside c l)) in
            let d : sum_below (width p g) (λ c. sum_by w (deal u c (still s full u))) ≡ sum_by w (still s full u) = (senders u g e).2.dealt w (still s full u) in
            let f : weight w (bodies ps) ≡ weight w cut.cuts = ap (λ l. weight w (bodies l)) cut.parts ∙ all_weigh w (senders u g e).0 (λ j b. (senders u g e).2.kept w j b) 0 cut.cuts in
            let j : weight w cut.cuts ≡ sum_by w (of_rows (gave_of (tree_in s u))) = ap (λ l. sum_by w (of_rows l)) cut.rows in
            let m : sum_by w (of_rows (gave_of (tree_in s u))) + sum_by w (still s full u) ≡ sum_by w (whole full (tree_in s u)) = sym (sum_by-append w (of_rows (gave_of (tree_in s u))) (still s full u)) ∙ ap (sum_by w) (left_whole u) in
            omega arith
          where
            outside : (c : ℕ) → width p g ≤ c → has (task_at p u).targets c ≡ false
            outside c l = is_false (has (task_at p u).targets c) (λ z. (let x : c < width p g = sh.targets_inside u g c (rw (e, z) refl) in omega (arith, x, l)))

    pub exchanged : (g : ℕ) → sum_below (width p g) (λ c. sum_by w (full g c)) ≡ given_weight p s full w g
    unfolding give_weight
    exchanged g = sums_same (width p g) (λ c. sum_by w (full g c)) (λ c. sum_below (length p.tasks) (own g c)) (λ c h. channel_weight g c h)
        ∙ (sums_swap (width p g) (length p.tasks) (own g) ∙ sums_same (length p.tasks) (λ u. sum_below (width p g) (λ c. own g c u)) (give_weight g) (λ u h. sender_weight g u))

  pub shared : (g : ℕ) → SameBag (together (width p g) (full g)) (together (length p.tasks) (given_to p s full g))
  shared g = λ w. together_weighs w (width p g) (full g) ∙ (exchanged w g ∙ sym (together_weighs w (length p.tasks) (given_to p s full g)
      ∙ sums_same (length p.tasks) (λ u. sum_by w (given_to p s full g u)) (λ u. cond (is_group (task_at p u).sends g) (sum_by w (whole full (tree_in s u))) 0) (λ u l. one w u (is_group (task_at p u).sends g))))
    where
      one : (w : Item → ℕ) (u : ℕ) (b : Bool) → sum_by w (cond b (whole full (tree_in s u)) []) ≡ cond b (sum_by w (whole full (tree_in s u))) 0
      one w u true = refl
      one w u false = refl

  -- ---------------------------------------------------------- tests

  pub passed_all : (test : Item → Bool) (g : ℕ) → ((u : ℕ) → is_group (task_at p u).sends g ≡ true → AllPass test (whole full (tree_in s u))) → (c : ℕ) → c < width p g → AllPass test (full g c)
  passed_all test g h c l = all_pass test (full g c) (sums_each (width p g) (λ d. sum_by (fails test) (full g d)) (exchanged (fails test) g ∙ sums_none (length p.tasks) (λ u. cond (is_group (task_at p u).sends g) (sum_by (fails test) (whole full (tree_in s u))) 0) (λ u i. none u (is_group (task_at p u).sends g) refl)) c l)
    where
      none : (u : ℕ) (b : Bool) → is_group (task_at p u).sends g ≡ b → cond b (sum_by (fails test) (whole full (tree_in s u))) 0 ≡ 0
      none u true e = none_fails test (whole full (tree_in s u)) (h u e)
      none u false e = refl

  -- parts of batches that pass, all pass
  cuts_pass : (test : Item → Bool) (c : ℕ) (split : Split) → ((j : ℕ) (b : List Cells) → AllPass test (of_rows (concat (for_channel c (split j b))))) → (j : ℕ) (bs : List (List Cells)) → weight (fails test) (for_channel c (all_parts split j bs)) ≡ 0
  cuts_pass test c split h j [] = refl
  cuts_pass test c split h j (b ∷ bs) = ap (weight (fails test)) (for-append c (split j b) (all_parts split (j + 1) bs)) ∙ (weight-append (fails test) (for_channel c (split j b)) (for_channel c (all_parts split (j + 1) bs))
      ∙ (let x : weight (fails test) (for_channel c (split j b)) ≡ 0 = none_fails test (of_rows (concat (for_channel c (split j b)))) (h j b) in let y : weight (fails test) (for_channel c (all_parts split (j + 1) bs)) ≡ 0 = cuts_pass test c split h (j + 1) bs in omega arith))

  pub passed_at : (test : Item → Bool) (g c : ℕ) → c < width p g → ((u : ℕ) (split : Split) → is_group (task_at p u).sends g ≡ true → (the_task start.tasks u).split ≡ Some split → SendsOnly test c split (deal u)) → AllPass test (full g c)
  unfolding own
  passed_at test g c l h = all_pass test (full g c) (channel_weight (fails test) g c l ∙ sums_none (length p.tasks) (own (fails test) g c) (λ u i. none u (is_group (task_at p u).sends g) refl))
    where
      none : (u : ℕ) (b : Bool) → is_group (task_at p u).sends g ≡ b → cond b (weight (fails test) (for_channel c (parts_of s u)) + sum_by (fails test) (deal u c (still s full u))) 0 ≡ 0
      none u true e = (let o : SendsOnly test c (senders u g e).0 (deal u) = h u (senders u g e).0 e (senders u g e).1 in
          let x : weight (fails test) (for_channel c (parts_of s u)) ≡ 0 = ap (λ l. weight (fails test) (for_channel c l)) (cut_of u g e).parts ∙ cuts_pass test c (senders u g e).0 o.parts 0 (cut_of u g e).cuts in
          let y : sum_by (fails test) (deal u c (still s full u)) ≡ 0 = none_fails test (deal u c (still s full u)) (o.dealt (still s full u)) in omega arith)
      none u false e = refl

  pub passed_gave : (test : Item → Bool) (u : ℕ) → AllPass test (whole full (tree_in s u)) → AllPass test (of_rows (gave_of (tree_in s u)))
  passed_gave test u h = all_pass test (of_rows (gave_of (tree_in s u))) (let a : sum_by (fails test) (of_rows (gave_of (tree_in s u)) ++ still s full u) ≡ sum_by (fails test) (of_rows (gave_of (tree_in s u))) + sum_by (fails test) (still s full u) = sum_by-append (fails test) (of_rows (gave_of (tree_in s u))) (still s full u) in
      let b : sum_by (fails test) (of_rows (gave_of (tree_in s u)) ++ still s full u) ≡ 0 = ap (sum_by (fails test)) (left_whole u) ∙ none_fails test (whole full (tree_in s u)) h in omega arith)

  -- ---------------------------------------------------------- one sender

  -- the other tasks send nothing to this channel
  abbrev NoOther : ℕ → ℕ → ℕ → Type 0
  NoOther u g c = (v : ℕ) → u ≢ v → is_group (task_at p v).sends g ≡ true → (parts_sent c (past_in s v) ≡ []) × (unsent s v c ≡ []) × (deal v c (still s full v) ≡ [])

  module _ (u g c : ℕ) (inside : c < width p g) (sends : is_group (task_at p u).sends g ≡ true) (none_of : NoOther u g c) where
    no_sent : (v : ℕ) → u ≢ v → sent_to p v g c (past_in s v) ≡ []
    no_sent v n = go (is_group (task_at p v).sends g) refl
      where
        go : (b : Bool) → is_group (task_at p v).sends g ≡ b → cond b (parts_sent c (past_in s v)) [] ≡ []
        go true d = (none_of v n d).0
        go false d = refl

    abbrev come_one : ℕ → Bool → List Item
    come_one v b = cond b (of_rows (concat (unsent s v c)) ++ deal v c (still s full v)) []

    none_comes : (v : ℕ) → u ≢ v → come_one v (is_group (task_at p v).sends g) ≡ []
    none_comes v n = go (is_group (task_at p v).sends g) refl
      where
        go : (b : Bool) → is_group (task_at p v).sends g ≡ b → come_one v b ≡ []
        go true d = (let q = none_of v n d in rw (q.1, q.2) refl)
        go false d = refl

    none_before : (n : ℕ) → n ≤ u → to_come p s deal full g c n ≡ []
    none_before zero h = refl
    none_before (suc n) h = rw (none_before n (omega arith)) (none_comes n (λ z. (omega (arith, z, h))))

    one_comes : (n : ℕ) → u < n → to_come p s deal full g c n ≡ come_one u true
    one_comes zero h = absurd (omega arith)
    one_comes (suc n) h = elim (same_or_not u n) [
      | inl q ↦ subst (λ m. to_come p s deal full g c m ++ come_one m (is_group (task_at p m).sends g) ≡ come_one u true) q (rw (none_before u (omega arith)) (ap (come_one u) sends))
      | inr q ↦ ap (λ l. to_come p s deal full g c n ++ l) (none_comes n q) ∙ (append-nil (to_come p s deal full g c n) ∙ one_comes n (omega (arith, h, q)))
    ]

    u_in : u < length p.tasks
    u_in = elim (lt_or_le u (length p.tasks)) [ inl h ↦ h | inr h ↦ (let z : is_group (task_at p u).sends g ≡ false = ap (λ x. is_group x.sends g) (get_or-eq_default p.tasks no_task h) in let y : true ≡ false = sym sends ∙ z in cc) ]

    mine : parts_sent c (past_in s u) ≡ sent_to p u g c (past_in s u)
    mine = sym (ap (λ b. cond b (parts_sent c (past_in s u)) []) sends)

    -- the channel has its parts of what that task gave, and its share of what it would still give
    one_full : full g c ≡ of_rows (concat (for_channel c (parts_of s u))) ++ deal u c (still s full u)
    one_full =
        let f : IsFull p s deal full (sh.has_receiver g c inside).0 g c = full_at g c inside in
        let con : IsContents p s.run.frame s.run.pasts (sh.has_receiver g c inside).0 g c = f.contents in
        let tk : List (List Cells) = took g c (past_in s (sh.has_receiver g c inside).0) in
        let a : tk ++ con.rest ≡ parts_sent c (past_in s u) = con.all ∙ (one_sender u con.log (λ v n. con.each v ∙ no_sent v n) ∙ (con.each u ∙ sym mine)) in
        let b : of_rows (concat tk) ++ of_rows (concat con.rest) ≡ of_rows (concat (parts_sent c (past_in s u))) = sym (of_rows-append (concat tk) (concat con.rest)) ∙ ap of_rows (sym (concat-append tk con.rest) ∙ ap concat a) in
        let d : of_rows (concat (parts_sent c (past_in s u))) ++ of_rows (concat (unsent s u c)) ≡ of_rows (concat (for_channel c (parts_of s u))) = sym (of_rows-append (concat (parts_sent c (past_in s u))) (concat (unsent s u c)))
        ∙ ap of_rows (sym (concat-append (parts_sent c (past_in s u)) (unsent s u c)) ∙ ap concat (parts_split u g c sends)) in
        f.all ∙ (ap (λ l. of_rows (concat tk) ++ (of_rows (concat con.rest) ++ l)) (one_comes (length p.tasks) u_in)
        ∙ (sym (append_assoc (of_rows (concat tk)) (of_rows (concat con.rest)) (of_rows (concat (unsent s u c)) ++ deal u c (still s full u)))
        ∙ (ap (λ l. l ++ (of_rows (concat (unsent s u c)) ++ deal u c (still s full u))) b
        ∙ (sym (append_assoc (of_rows (concat (parts_sent c (past_in s u)))) (of_rows (concat (unsent s u c))) (deal u c (still s full u)))
        ∙ ap (λ l. l ++ deal u c (still s full u)) d))))

  -- all that the task gives goes to this channel
  module _ (u g c : ℕ) (o : IsOnlySender p start.tasks deal u g c) where
    none_of : NoOther u g c
    none_of v n d = ((unsent_aside v g c d beside).0, (unsent_aside v g c d beside).1, (senders v g d).2.aside c (still s full v) beside)
      where
        beside : has (task_at p v).targets c ≡ false
        beside = is_false (has (task_at p v).targets c) (λ z. n (o.alone v (rw (d, z) refl)))

    cuts_here : (split : Split) → ((j : ℕ) (b : List Cells) → concat (for_channel c (split j b)) ≡ b) → (j : ℕ) (bs : List (List Cells)) → concat (for_channel c (all_parts split j bs)) ≡ concat bs
    cuts_here split h j [] = refl
    cuts_here split h j (b ∷ bs) = ap concat (for-append c (split j b) (all_parts split (j + 1) bs)) ∙ (concat-append (for_channel c (split j b)) (for_channel c (all_parts split (j + 1) bs)) ∙ rw (h j b, cuts_here split h (j + 1) bs) refl)

    rows : concat (for_channel c (parts_of s u)) ≡ gave_of (tree_in s u)
    rows = ap (λ l. concat (for_channel c l)) (cut_of u g o.sends).parts
        ∙ (cuts_here (senders u g o.sends).0 (λ j b. o.here (senders u g o.sends).0 (senders u g o.sends).1 j b) 0 (cut_of u g o.sends).cuts ∙ (cut_of u g o.sends).rows)

    pub only_sender : full g c ≡ whole full (tree_in s u)
    only_sender = one_full u g c o.inside o.sends none_of ∙ (ap (λ l. of_rows l ++ deal u c (still s full u)) rows ∙ (ap (λ l. of_rows (gave_of (tree_in s u)) ++ l) (o.dealt (still s full u)) ∙ left_whole u))

  -- the task alone sends to the group, in order
  module _ (u g : ℕ) (o : IsLoneSender p start.tasks deal u g) where
    in_order : SendsInOrder (senders u g o.sends).0 (deal u)
    in_order = o.ordered (senders u g o.sends).0 (senders u g o.sends).1

    gave_in_order : (c : ℕ) → IsSubsequence (concat (for_channel c (parts_of s u))) (gave_of (tree_in s u))
    gave_in_order c = subst (IsSubsequence (concat (for_channel c (parts_of s u)))) (cut_of u g o.sends).rows (subst (λ l. IsSubsequence (concat (for_channel c l)) (concat (cut_of u g o.sends).cuts)) (sym (cut_of u g o.sends).parts)
        (parts_in_order (senders u g o.sends).0 (deal u) in_order c 0 (cut_of u g o.sends).cuts))

    pub lone_sender : (c : ℕ) → c < width p g → IsSubsequence (full g c) (whole full (tree_in s u))
    lone_sender c inside = subst (λ l. IsSubsequence l (whole full (tree_in s u))) (sym (one_full u g c inside o.sends (λ v n d. absurd (n (o.alone v d)))))
        (subst (IsSubsequence (of_rows (concat (for_channel c (parts_of s u))) ++ deal u c (still s full u))) (left_whole u)
        (within-append (of_rows (concat (for_channel c (parts_of s u)))) (of_rows (gave_of (tree_in s u))) (deal u c (still s full u)) (still s full u)
        (within_rows (concat (for_channel c (parts_of s u))) (gave_of (tree_in s u)) (gave_in_order c)) (in_order.dealt c (still s full u))))
