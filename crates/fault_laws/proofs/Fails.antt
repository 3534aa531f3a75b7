-- Why a tree's need is that the run fails.
use Rattle.std.specs.List.{sum_by}
use Rattle.std.proofs.Common.{ℕ, zero, suc, ◌≤◌, ◌≡◌, ◌==◌, inl, inr, refl, sym, ap, ◌∙◌, subst, cond, List, [], ◌∷◌, ◌++◌, length, take, drop, Bool, true, false, Option, Some, None, Ok, Err, arith}
use Rattle.std.proofs.lemmas.Bool.{false≢true}
use Rattle.std.proofs.lemmas.List.Sums.{sum_by-append, sum_by-cons}
use Rattle.dfx_value.specs.declared.fault.ItemFault.{ItemFault}
use Rattle.dfx_value.specs.declared.fault.ItemFault.TheVariants.{Evaluation, Csv, Arrow}
use Rattle.core_frame.specs.Step.{Need, Fail}
use Rattle.history_laws.specs.Histories.{Past}
use Rattle.logical_plan.specs.Items.{Cells, Item, of_rows, faults}
use Rattle.tree_laws.specs.Operators.{Told, Op, IsFront, first_fault}
use Rattle.tree_laws.specs.Trees.{in_files, Desk, File, Tree, Nothing, Files, Inlet, Node, Poll, Gives, Ends, Moves, Asks, poll, form, cause_at, scanned, files_poll, inlet_poll, cut_poll, amount_of, offer_poll, input_poll, idle_poll, node_poll}
use Rattle.tree_laws.specs.Linked.{IsLinked, whole, IsFlow}
use Rattle.join_laws.proofs.Items.{fails, pass_weigh}
use Rattle.answer_laws.proofs.Feeds.{gives, node_reads}
use Rattle.fault_laws.specs.Trees.{is_evaluation, Meets, LeavesPass}
use Rattle.fault_laws.specs.Found.{IsEvaluation, Found}
use Rattle.fault_laws.proofs.Meets.{bad, bads}

-- ------------------------------------------------------------ parts of lists weigh no more

pub take_less : (w : Item → ℕ) (n : ℕ) (xs : List Item) → sum_by w (take n xs) ≤ sum_by w xs
take_less w zero xs = omega arith
take_less w (suc n) [] = omega arith
take_less w (suc n) (x ∷ xs) = (let a = sum_by-cons w x (take n xs) in let b = sum_by-cons w x xs in let c = take_less w n xs in omega arith)

pub drop_less : (w : Item → ℕ) (n : ℕ) (xs : List Item) → sum_by w (drop n xs) ≤ sum_by w xs
drop_less w zero xs = omega arith
drop_less w (suc n) [] = omega arith
drop_less w (suc n) (x ∷ xs) = (let b = sum_by-cons w x xs in let c = drop_less w n xs in omega arith)

pub front_less : (w : Item → ℕ) (xs ys : List Item) → IsFront xs ys → sum_by w xs ≤ sum_by w ys
front_less w xs ys h = (let a = sum_by-append w xs h.0 in let b : sum_by w (xs ++ h.0) ≡ sum_by w ys = ap (sum_by w) h.1 in omega arith)

abbrev pub IsNone : {A : Type 0} → Option A → Type 0
IsNone None = Unit {0}
IsNone (Some x) = ⊥

-- the first fault passes, where all do
first_passes : (test : ItemFault → Bool) (xs : List Item) (f : ItemFault) → sum_by (bad test) xs ≡ 0 → first_fault xs ≡ Some f → test f ≡ true
first_passes test [] f z e = absurd (subst IsNone e tt)
first_passes test (Ok r ∷ xs) f z e = first_passes test xs f (let a = sum_by-cons (bad test) (Ok r) xs in omega arith) e
first_passes test (Err g ∷ xs) f z e =
    let b : g ≡ f = cc in
    let a = sum_by-cons (bad test) (Err g) xs in
    let c : fails test g ≡ 0 = omega arith in
    subst (λ h. test h ≡ true) b (by (test g) c)
  where
    by : (b : Bool) → cond {A = ℕ} b 0 1 ≡ 0 → b ≡ true
    by true e = refl
    by false e = absurd (omega (arith, e))

evaluation : (f : ItemFault) → is_evaluation f ≡ true → IsEvaluation f (cause_at 0 f)
evaluation (Evaluation e) h = (e, refl, refl)
evaluation (Csv t n k r c) h = absurd (false≢true h)
evaluation (Arrow t n k b c p) h = absurd (false≢true h)

module _ (met : ItemFault → Bool) (named : ℕ → ItemFault → Bool) where
  abbrev pub NeedFound : Need (List Cells) → Type 0
  NeedFound (Fail cause) = Found met named cause
  NeedFound _ = Unit {0}

  abbrev pub PollFound : Poll → Type 0
  PollFound (Asks need after) = NeedFound need
  PollFound _ = Unit {0}

  cut : (op : Op) (t : Told) (d : Desk) (inputs : ℕ → Tree) (items : List Item) → sum_by (bad met) items ≡ 0 → sum_by (bad is_evaluation) items ≡ 0 → (o : Option ItemFault) → first_fault items ≡ o → PollFound (cut_poll op t d inputs items o)
  cut op t d inputs items z v None e = tt
  cut op t d inputs items z v (Some f) e = (f, first_passes met items f z e, inl (evaluation f (first_passes is_evaluation items f v e)))

  offer : (op : Op) (t : Told) (d : Desk) (inputs : ℕ → Tree) (consumer : Option ℕ) (amount : ℕ) (refused none : Bool) → PollFound (offer_poll op t d inputs consumer amount refused none)
  offer op t d inputs None amount refused none = tt
  offer op t d inputs (Some c) amount true none = tt
  offer op t d inputs (Some c) amount false true = tt
  offer op t d inputs (Some c) amount false false = tt

  input : (op : Op) (t : Told) (d : Desk) (inputs : ℕ → Tree) (i : ℕ) (asked : Poll) → PollFound asked → PollFound (input_poll op t d inputs i asked)
  input op t d inputs i (Gives rows rest) h = tt
  input op t d inputs i Ends h = tt
  input op t d inputs i (Moves rest) h = tt
  input op t d inputs i (Asks need after) h = h

  idle : (op : Op) (t : Told) (d : Desk) (inputs : ℕ → Tree) (complete : Bool) (waiting : List Cells) (asked : Poll) → PollFound asked → PollFound (idle_poll op t d inputs complete waiting asked)
  idle op t d inputs true waiting asked h = tt
  idle op t d inputs false (x ∷ xs) asked h = offer op t d inputs op.consumer (amount_of op t d.offered) d.refused (amount_of op t d.offered == 0)
  idle op t d inputs false [] asked h = input op t d inputs (op.wanted t) asked h

  node : (size : ℕ) (op : Op) (t : Told) (d : Desk) (inputs : ℕ → Tree) (left : List Item) (asked : Poll) → sum_by (bad met) left ≡ 0 → sum_by (bad is_evaluation) left ≡ 0 → PollFound asked → PollFound (node_poll size op t d inputs left asked)
  node size op t d inputs [] asked z v h = idle op t d inputs (op.is_complete t) d.offered asked h
  node size op t d inputs (x ∷ xs) asked z v h =
      cut op t d inputs (take size (x ∷ xs)) (let a = take_less (bad met) size (x ∷ xs) in omega arith) (let a = take_less (bad is_evaluation) size (x ∷ xs) in omega arith) (first_fault (take size (x ∷ xs))) refl

  scans : (size : ℕ) (all : List Item) (file : File) (files : List File) (gave : List Cells) → sum_by (bad met) file.items ≡ 0 → sum_by (bad (named file.source)) file.items ≡ 0
      → (o : Option ItemFault) → first_fault (take size file.items) ≡ o → PollFound (scanned size all file files gave o)
  scans size all file files gave y z None e = tt
  scans size all file files gave y z (Some f) e = (
    f,
    first_passes met (take size file.items) f (let a = take_less (bad met) size file.items in omega arith) e,
    inr (file.source, refl, first_passes (named file.source) (take size file.items) f (let a = take_less (bad (named file.source)) size file.items in omega arith) e),
  )

  leaf : (size : ℕ) (all : List Item) (files : List File) (gave unread : List Cells) → of_rows gave ++ (of_rows unread ++ in_files files) ≡ all → sum_by (bad met) all ≡ 0
      → LeavesPass named (Files all files gave unread) → PollFound (files_poll size all files gave unread)
  leaf size all files gave (x ∷ xs) e z h = tt
  leaf size all [] gave [] e z h = tt
  leaf size all (file ∷ files) gave [] e z h =
      let rest = in_files files in
      let a : sum_by (bad met) (of_rows gave ++ (file.items ++ rest)) ≡ 0 = ap (sum_by (bad met)) e ∙ z in
      let b = sum_by-append (bad met) (of_rows gave) (file.items ++ rest) in
      let c = sum_by-append (bad met) file.items rest in
      scans size all file files gave (omega arith) (sym (bads (named file.source) file.items) ∙ pass_weigh (named file.source) (faults file.items) h.0) (first_fault (take size file.items)) refl

  channel : (size g c : ℕ) (gave unread : List Cells) (over : Bool) → PollFound (inlet_poll g c gave unread over)
  channel size g c gave (x ∷ xs) over = tt
  channel size g c gave [] true = tt
  channel size g c gave [] false = tt

  pub found : (size : ℕ) (past : Past (List Cells)) (full : ℕ → ℕ → List Item) (t : Tree) → IsLinked size past t → IsFlow past full t → Meets met full (form t) → LeavesPass named t → PollFound (poll size t)
  found size past full Nothing l w m h = tt
  found size past full (Files all files gave unread) l w m h = leaf size all files gave unread l (sym (bads met all) ∙ pass_weigh met (faults all) (m all refl)) h
  found size past full (Inlet g c gave unread over) l w m h = channel size g c gave unread over
  found size past full (Node op t d inputs) l w m h =
      let g = gives size past full (Node op t d inputs) l w in
      let all = op.whole t (λ i. whole full (inputs i)) in
      let z : sum_by (bad met) all ≡ 0 = sym (bads met all) ∙ pass_weigh met (faults all) (m.0 all g) in
      let a = front_less (bad met) (op.items t) all (l.0.is_op.front t (λ i. whole full (inputs i)) l.0.split (node_reads size past full op t d inputs l w)) in
      let b = drop_less (bad met) (length d.gave) (op.items t) in
      let v : sum_by (bad is_evaluation) (op.items t) ≡ 0 = sym (bads is_evaluation (op.items t)) ∙ pass_weigh is_evaluation (faults (op.items t)) (m.1 t l.0.split) in
      let y = drop_less (bad is_evaluation) (length d.gave) (op.items t) in
      let i = op.wanted t in
      node size op t d inputs (drop (length d.gave) (op.items t)) (poll size (inputs i)) (omega arith) (omega arith)
      (found size past full (inputs i) (l.1 i) (λ g c r. w g c (i, r)) (m.2 i) (h i))
