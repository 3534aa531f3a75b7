-- The answer at the root of a task's tree that has ended.
use Rattle.std.proofs.Common.{ℕ, ◌≡◌, refl, sym, ap, ◌∙◌, subst, List, [], ◌∷◌, ◌++◌, length, drop, take, eqb, if◌then◌else◌, Bool, true, false, Option, None, Some, Ok, append_assoc, append-nil}
use Rattle.std.specs.Prelude.{IsSorted}
use Rattle.std.proofs.lemmas.Bool.{true≢false}
use Rattle.std.proofs.lemmas.List.{length-map, map-append}
use Rattle.dfx_value.specs.Rows.{row_cmp}
use Rattle.dfx_value.specs.declared.rows.SortKey.{SortKey}
use Rattle.dfx_value.specs.declared.fault.ItemFault.{ItemFault}
use Rattle.logical_plan.specs.Items.{Cells, Item, rows, of_rows}
use Rattle.logical_plan.specs.Allowed.{Allows}
use Rattle.history_laws.specs.Histories.{Past}
use Rattle.tree_laws.specs.Operators.{Told, Op, Reads, first_fault}
use Rattle.tree_laws.specs.OperatorKinds.{end_op, limit_op}
use Rattle.tree_laws.specs.Trees.{Tree, Desk, Node, Poll, Gives, Ends, Moves, Asks, gave_of, poll, node_poll, idle_poll, offer_poll, input_poll, cut_poll, amount_of}
use Rattle.tree_laws.specs.Linked.{whole, IsLinked, IsWhole, waiting}
use Rattle.sort_laws.specs.Sorting.{sorted, row_before, sort_items}
use Rattle.content_laws.specs.Bags.{Alike}
use Rattle.content_laws.proofs.Items.{rows_of_rows}
use Rattle.sort_laws.proofs.Answers.{limit_taken, all_given, resorted}
use Rattle.sort_laws.proofs.MergeRows.{sort_moves, sort_gives}

-- ---- an operator that has ended

ends : Poll → Bool
ends Ends = true
ends _ = false

no_offer : (op : Op) (t : Told) (d : Desk) (inputs : ℕ → Tree) (c : Option ℕ) (amount : ℕ) (refused none : Bool) → ends (offer_poll op t d inputs c amount refused none) ≡ true → ⊥
unfolding ends
no_offer op t d inputs None amount refused none e = true≢false (sym e)
no_offer op t d inputs (Some c) amount true none e = true≢false (sym e)
no_offer op t d inputs (Some c) amount false true e = true≢false (sym e)
no_offer op t d inputs (Some c) amount false false e = true≢false (sym e)

no_input : (op : Op) (t : Told) (d : Desk) (inputs : ℕ → Tree) (i : ℕ) (asked : Poll) → ends (input_poll op t d inputs i asked) ≡ true → ⊥
unfolding ends
no_input op t d inputs i (Gives rows rest) e = true≢false (sym e)
no_input op t d inputs i Ends e = true≢false (sym e)
no_input op t d inputs i (Moves rest) e = true≢false (sym e)
no_input op t d inputs i (Asks need after) e = true≢false (sym e)

no_cut : (op : Op) (t : Told) (d : Desk) (inputs : ℕ → Tree) (items : List Item) (f : Option ItemFault) → ends (cut_poll op t d inputs items f) ≡ true → ⊥
unfolding ends
no_cut op t d inputs items None e = true≢false (sym e)
no_cut op t d inputs items (Some f) e = true≢false (sym e)

idle_ends : (op : Op) (t : Told) (d : Desk) (inputs : ℕ → Tree) (b : Bool) (offered : List Cells) (asked : Poll) → ends (idle_poll op t d inputs b offered asked) ≡ true → b ≡ true
unfolding ends
idle_ends op t d inputs true offered asked e = refl
idle_ends op t d inputs false (x ∷ xs) asked e = absurd (no_offer op t d inputs op.consumer (amount_of op t d.offered) d.refused (eqb (amount_of op t d.offered) 0) e)
idle_ends op t d inputs false [] asked e = absurd (no_input op t d inputs (op.wanted t) asked e)

node_ends : (size : ℕ) (op : Op) (t : Told) (d : Desk) (inputs : ℕ → Tree) (left : List Item) (asked : Poll) → ends (node_poll size op t d inputs left asked) ≡ true → (left ≡ []) × (op.is_complete t ≡ true)
unfolding ends
node_ends size op t d inputs [] asked e = (refl, idle_ends op t d inputs (op.is_complete t) d.offered asked e)
node_ends size op t d inputs (x ∷ xs) asked e = absurd (no_cut op t d inputs (take size (x ∷ xs)) (first_fault (take size (x ∷ xs))) e)

drop_exact : {A : Type 0} (xs ys : List A) → drop (length xs) (xs ++ ys) ≡ ys
drop_exact [] ys = refl
drop_exact (x ∷ xs) ys = drop_exact xs ys

-- it is complete, and what it gave are all its items
done : (size : ℕ) (past : Past (List Cells)) (op : Op) (t : Told) (d : Desk) (inputs : ℕ → Tree) → IsLinked size past (Node op t d inputs) → poll size (Node op t d inputs) ≡ Ends
    → (op.is_complete t ≡ true) × (of_rows d.gave ≡ op.items t)
unfolding ends
done size past op t d inputs k e =
    let n = node_ends size op t d inputs (drop (length d.gave) (op.items t)) (poll size (inputs (op.wanted t))) (ap ends e) in
    let f = (k.0).front in
    let long : length (of_rows d.gave) ≡ length d.gave = length-map d.gave (λ r. Ok r) in
    let rest : f.0 ≡ [] = sym (drop_exact (of_rows d.gave) f.0) ∙ ((λ i. drop (long i) (f.1 i)) ∙ n.0) in
    (n.1, sym (append-nil (of_rows d.gave)) ∙ (ap (λ l. of_rows d.gave ++ l) (sym rest) ∙ f.1))

-- ---- a limit

limit_reads : (size : ℕ) (past : Past (List Cells)) (full : ℕ → ℕ → List Item) (op : Op) (t : Told) (d : Desk) (inputs : ℕ → Tree) → IsLinked size past (Node op t d inputs) → IsWhole size full (inputs 0)
    → Reads (t.taken 0) (t.ended 0) (whole full (inputs 0))
limit_reads size past full op t d inputs k w =
    let f = w.front in
    let more : List Cells = waiting op t d 0 in
    record {
      front = (
        of_rows more ++ f.0,
        sym (append_assoc (of_rows (t.taken 0)) (of_rows more) f.0)
            ∙ (ap (λ l. l ++ f.0) (sym (map-append (λ r. Ok r) (t.taken 0) more) ∙ ap of_rows (sym ((k.0).taken 0))) ∙ f.1),
      );
      all = λ e. let q = (k.0).ended 0 e in ap of_rows (sym q.1) ∙ w.all q.0;
    }

pub limit_root : (order : List SortKey) (skip : ℕ) (fetch : Option ℕ) (size : ℕ) (past : Past (List Cells)) (full : ℕ → ℕ → List Item)
    (t : Told) (d : Desk) (inputs : ℕ → Tree) (items : List Item)
    → IsLinked size past (Node (limit_op skip fetch) t d inputs) → IsWhole size full (inputs 0)
    → poll size (Node (limit_op skip fetch) t d inputs) ≡ Ends
    → Alike (whole full (inputs 0)) items → IsSorted (row_cmp order) (rows (whole full (inputs 0)))
    → Allows order skip fetch items d.gave
limit_root order skip fetch size past full t d inputs items k w e same sorted =
    let n = done size past (limit_op skip fetch) t d inputs k e in
    subst (Allows order skip fetch items) (sym (ap rows n.1) ∙ rows_of_rows d.gave)
    (limit_taken order skip fetch (t.taken 0) (t.ended 0) (whole full (inputs 0)) items (limit_reads size past full (limit_op skip fetch) t d inputs k w) n.0 same sorted)

-- ---- any other root

pub whole_root : (order : List SortKey) (size : ℕ) (full : ℕ → ℕ → List Item) (root : Tree) (items : List Item)
    → IsWhole size full root → poll size root ≡ Ends
    → Alike (whole full root) items → IsSorted (row_cmp order) (rows (whole full root))
    → Allows order 0 None items (gave_of root)
whole_root order size full root items w e same sorted =
    let all : of_rows (gave_of root) ≡ whole full root = w.all e in
    all_given order (gave_of root) items (subst (λ l. Alike l items) (sym all) same)
    (subst (IsSorted (row_cmp order)) (ap rows (sym all) ∙ rows_of_rows (gave_of root)) sorted)

-- ---- a sort

pub sort_root : (keys : List SortKey) (amount : Told → List Cells → ℕ) (consumer : Option ℕ) (size : ℕ) (past : Past (List Cells))
    (t : Told) (d : Desk) (inputs : ℕ → Tree)
    → IsLinked size past (Node (end_op (sort_items keys) amount consumer) t d inputs)
    → poll size (Node (end_op (sort_items keys) amount consumer) t d inputs) ≡ Ends
    → (poll size (inputs 0) ≡ Ends) × (d.gave ≡ sorted (row_before keys) (gave_of (inputs 0)))
sort_root keys amount consumer size past t d inputs k e =
    let n = done size past (end_op (sort_items keys) amount consumer) t d inputs k e in
    let q = (k.0).ended 0 n.0 in
    let items : of_rows d.gave ≡ sort_items keys (of_rows (t.taken 0)) = n.1 ∙ ap (λ b. if b then sort_items keys (of_rows (t.taken 0)) else []) n.0 in
    let gave : d.gave ≡ sorted (row_before keys) (t.taken 0) =
    sym (rows_of_rows d.gave) ∙ (ap rows items ∙ ((sort_gives keys (of_rows (t.taken 0))).2 ∙ ap (sorted (row_before keys)) (rows_of_rows (t.taken 0)))) in
    (q.0, gave ∙ ap (sorted (row_before keys)) (sym q.1))

pub sort_above : (keys order : List SortKey) (offset : ℕ) (limit : Option ℕ) (items : List Item) (answer : List Cells)
    → Allows order offset limit items answer → IsSorted (row_cmp order) (sorted (row_before keys) answer)
    → Allows order offset limit items (sorted (row_before keys) answer)
sort_above keys order offset limit items answer a s = resorted order offset limit items answer (sorted (row_before keys) answer) a (sort_moves (row_before keys) answer) s
