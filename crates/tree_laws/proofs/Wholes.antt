-- What a tree gave is a front of what it would give of whole channels, and all of it where it ends.
use Rattle.std.proofs.Common.{ℕ, ◌≡◌, refl, sym, ap, ◌∙◌, subst, eqb, List, [], ◌∷◌, ◌++◌, length, take, drop, Bool, true, false, Option, Some, None}
use Rattle.std.proofs.lemmas.List.{append-nil}
use Rattle.dfx_value.specs.declared.fault.ItemFault.{ItemFault}
use Rattle.history_laws.specs.Histories.{Past}
use Rattle.history_laws.specs.Contents.{took, has_end}
use Rattle.logical_plan.specs.Items.{Cells, Item, of_rows, concat}
use Rattle.tree_laws.specs.Operators.{first_fault, Told, Op, IsFront, Reads, ReadsAll}
use Rattle.tree_laws.specs.Trees.{Desk, File, in_files, Tree, Nothing, Files, Inlet, Node, Poll, Gives, Ends, Moves, Asks, gave_of, scanned, files_poll, inlet_poll, cut_poll, amount_of, offer_poll, input_poll, idle_poll, node_poll, poll}
use Rattle.tree_laws.specs.Linked.{waiting, IsDesk, IsLinked, whole, IsFlow, IsWhole}
use Rattle.tree_laws.proofs.Fronts.{of_rows-append, front_refl, front_both, front_append, left_of}

files_end : (size : ℕ) (all : List Item) (files : List File) (gave unread : List Cells) → files_poll size all files gave unread ≡ Ends → of_rows gave ++ (of_rows unread ++ in_files files) ≡ all → of_rows gave ≡ all
files_end size all files gave (x ∷ xs) e k = cc
files_end size all [] gave [] e k = sym (append-nil (of_rows gave)) ∙ k
files_end size all (file ∷ files) gave [] e k = go (first_fault (take size file.items)) e
  where
    go : (o : Option ItemFault) → scanned size all file files gave o ≡ Ends → of_rows gave ≡ all
    go None e = cc
    go (Some y) e = cc

inlet_end : (g c : ℕ) (past : Past (List Cells)) (gave unread : List Cells) (over : Bool) → inlet_poll g c gave unread over ≡ Ends → (gave ++ unread ≡ concat (took g c past)) × (over ≡ true → has_end g c past ≡ true) → (gave ≡ concat (took g c past)) × (has_end g c past ≡ true)
inlet_end g c past gave (x ∷ xs) over e k = cc
inlet_end g c past gave [] true e k = (sym (append-nil gave) ∙ k.0, k.1 refl)
inlet_end g c past gave [] false e k = cc

-- ------------------------------------------------------------ only a complete operator with nothing left ends

offer_goes : (op : Op) (t : Told) (d : Desk) (inputs : ℕ → Tree) (o : Option ℕ) (amount : ℕ) (a b : Bool) → offer_poll op t d inputs o amount a b ≡ Ends → ⊥
offer_goes op t d inputs None amount a b e = cc
offer_goes op t d inputs (Some c) amount true b e = cc
offer_goes op t d inputs (Some c) amount false true e = cc
offer_goes op t d inputs (Some c) amount false false e = cc

input_goes : (op : Op) (t : Told) (d : Desk) (inputs : ℕ → Tree) (i : ℕ) (p : Poll) → input_poll op t d inputs i p ≡ Ends → ⊥
input_goes op t d inputs i (Gives rows rest) e = cc
input_goes op t d inputs i Ends e = cc
input_goes op t d inputs i (Moves rest) e = cc
input_goes op t d inputs i (Asks n k) e = cc

idle_end : (op : Op) (t : Told) (d : Desk) (inputs : ℕ → Tree) (c : Bool) (o : List Cells) (p : Poll) → idle_poll op t d inputs c o p ≡ Ends → c ≡ true
idle_end op t d inputs true o p e = refl
idle_end op t d inputs false (x ∷ xs) p e = absurd (offer_goes op t d inputs op.consumer (amount_of op t d.offered) d.refused (eqb (amount_of op t d.offered) 0) e)
idle_end op t d inputs false [] p e = absurd (input_goes op t d inputs (op.wanted t) p e)

cut_goes : (op : Op) (t : Told) (d : Desk) (inputs : ℕ → Tree) (cut : List Item) (o : Option ItemFault) → cut_poll op t d inputs cut o ≡ Ends → ⊥
cut_goes op t d inputs cut None e = cc
cut_goes op t d inputs cut (Some y) e = cc

pub node_end : (size : ℕ) (op : Op) (t : Told) (d : Desk) (inputs : ℕ → Tree) (xs : List Item) (p : Poll) → node_poll size op t d inputs xs p ≡ Ends → (xs ≡ []) × (op.is_complete t ≡ true)
node_end size op t d inputs [] p e = (refl, idle_end op t d inputs (op.is_complete t) d.offered p e)
node_end size op t d inputs (x ∷ xs) p e = absurd (cut_goes op t d inputs (take size (x ∷ xs)) (first_fault (take size (x ∷ xs))) e)

-- ------------------------------------------------------------ whole trees

-- what was taken of an input is read of what it would give
reads_of : (size : ℕ) (full : ℕ → ℕ → List Item) (x : Tree) (rows waits : List Cells) (over : Bool) → IsWhole size full x → gave_of x ≡ rows ++ waits → (over ≡ true → (poll size x ≡ Ends) × (gave_of x ≡ rows)) → Reads rows over (whole full x)
reads_of size full x rows waits over w e k = record {
  front = front_both (of_rows rows) (of_rows (gave_of x)) (whole full x) (subst (λ l. IsFront (of_rows rows) l) (sym (ap of_rows e ∙ of_rows-append rows waits)) (front_append (of_rows rows) (of_rows waits))) w.front;
  all = λ z. (let y = k z in ap of_rows (sym y.1) ∙ w.all y.0);
}

node_whole : (size : ℕ) (full : ℕ → ℕ → List Item) (op : Op) (t : Told) (d : Desk) (inputs : ℕ → Tree) → IsDesk size op t d inputs → ((i : ℕ) → IsWhole size full (inputs i)) → IsWhole size full (Node op t d inputs)
node_whole size full op t d inputs k w = record {
  front = front_both (of_rows d.gave) (op.items t) (op.whole t (λ i. whole full (inputs i))) k.front (k.is_op.front t (λ i. whole full (inputs i)) k.split reads);
  all = λ e. (let y = node_end size op t d inputs (drop (length d.gave) (op.items t)) (poll size (inputs (op.wanted t))) e in
      sym (append-nil (of_rows d.gave)) ∙ (ap (λ l. of_rows d.gave ++ l) (sym y.0) ∙ (left_of d.gave (op.items t) k.front ∙ k.is_op.all t (λ i. whole full (inputs i)) k.split reads y.1)));
}
  where
    reads : ReadsAll t (λ i. whole full (inputs i))
    reads i = reads_of size full (inputs i) (t.taken i) (waiting op t d i) (t.ended i) (w i) (k.taken i) (k.ended i)

pub whole_of : (size : ℕ) (past : Past (List Cells)) (full : ℕ → ℕ → List Item) (t : Tree) → IsLinked size past t → IsFlow past full t → IsWhole size full t
whole_of size past full Nothing k flow = record { front = front_refl []; all = λ e. refl }
whole_of size past full (Files all files gave unread) k flow = record { front = (of_rows unread ++ in_files files, k); all = λ e. files_end size all files gave unread e k }
whole_of size past full (Inlet g c gave unread over) k flow = record {
  front = front_both (of_rows gave) (of_rows (concat (took g c past))) (full g c)
      (subst (λ l. IsFront (of_rows gave) l) (sym (of_rows-append gave unread) ∙ ap of_rows k.0) (front_append (of_rows gave) (of_rows unread)))
      (flow g c (refl, refl)).front;
  all = λ e. (let y = inlet_end g c past gave unread over e k in ap of_rows y.0 ∙ (flow g c (refl, refl)).all y.1);
}
whole_of size past full (Node op t d inputs) k flow = node_whole size full op t d inputs k.0 (λ i. whole_of size past full (inputs i) (k.1 i) (λ g c e. flow g c (i, e)))
