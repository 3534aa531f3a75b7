-- Each poll of a tree keeps that it agrees with the history, whatever its need is answered.
use Rattle.std.proofs.Common.{ℕ, ◌+◌, ◌≡◌, ◌≢◌, ◌⊎◌, inl, inr, refl, sym, ap, ◌∙◌, subst, eqb, List, [], ◌∷◌, ◌++◌, length, take, drop, Bool, true, false, ◌&&◌, Option, Some, None, arith, append_assoc}
use Rattle.std.proofs.lemmas.Bool.{eq-eqb, lt-ltb, le-ltb}
use Rattle.std.proofs.lemmas.Bool.Decides.{eqb_tells}
use Rattle.std.proofs.lemmas.List.{append-nil, take_all, take-append-drop}
use Rattle.dfx_value.specs.declared.fault.ItemFault.{ItemFault}
use Rattle.task_shape.proofs.Numbers.{lt_or_le}
use Rattle.core_frame.specs.Step.{Need, Scan, Recv, Send, Grow, Free, Writes, Finish, Fail}
use Rattle.history_laws.specs.Histories.{Reply, Go, Batch, Ended, Refused, Gone, Past}
use Rattle.history_laws.specs.Contents.{took_one, took, end_one, has_end}
use Rattle.history_laws.proofs.Lists.{end_more}
use Rattle.logical_plan.specs.Items.{Cells, Item, of_rows, concat}
use Rattle.tree_laws.specs.Operators.{rows_in, first_fault, Told, with_rows, with_flush, Op}
use Rattle.tree_laws.specs.Trees.{Desk, File, in_files, Tree, Nothing, Files, Inlet, Node, Poll, Gives, Ends, Moves, Asks, gave_of, cause_at, files_after, scanned, files_poll, inlet_after, inlet_poll, with_offered, holding, with_input, cut_poll, grown, freed, amount_of, offer_poll, input_poll, idle_poll, node_poll, poll, HasInlet}
use Rattle.tree_laws.specs.Linked.{IsDesk, IsLinked, Asked, IsAfter, Keeps}
use Rattle.tree_laws.proofs.Fronts.{of_rows-append, of_rows_in, took_concat, left_of, or_left, or_right}
use Rattle.tree_laws.proofs.Desks.{form_node, desk_holding, desk_gave, desk_taken, desk_flushed, desk_input, desk_end}

-- a reply that isn't for this tree
abbrev pub NotFor : Tree → Need (List Cells) → Reply (List Cells) → Type 0
NotFor t n x = (g c : ℕ) → HasInlet g c t → took_one g c n x ≡ []

pub linked_other : (size : ℕ) (past : Past (List Cells)) (n : Need (List Cells)) (x : Reply (List Cells)) (t : Tree) → NotFor t n x → IsLinked size past t → IsLinked size (past ++ (n, x) ∷ []) t
linked_other size past n x Nothing a k = tt
linked_other size past n x (Files all files gave unread) a k = k
linked_other size past n x (Inlet g c gave unread over) a k = (
  k.0 ∙ (sym (append-nil (concat (took g c past))) ∙ (ap (λ l. concat (took g c past) ++ concat l) (sym (a g c (refl, refl))) ∙ sym (took_concat g c past n x))),
  λ e. (end_more g c past n x ∙ or_left (has_end g c past) (end_one g c n x) (k.1 e)),
)
linked_other size past n x (Node op t d inputs) a k = (k.0, λ i. linked_other size past n x (inputs i) (λ g c e. a g c (i, e)) (k.1 i))

-- a reply for one tree isn't for another that reads none of its channels
not_for : (t u : Tree) (n : Need (List Cells)) (x : Reply (List Cells)) → ((g c : ℕ) → HasInlet g c t → HasInlet g c u → ⊥) → Asked t n → NotFor u n x
not_for t u Scan x a o g c e = refl
not_for t u (Recv g0 c0) x a o g c e = go x (eqb_tells g0 g) (eqb_tells c0 c)
  where
    go : (x : Reply (List Cells)) → ((eqb g0 g ≡ true) × (g0 ≡ g)) ⊎ ((eqb g0 g ≡ false) × (g0 ≢ g)) → ((eqb c0 c ≡ true) × (c0 ≡ c)) ⊎ ((eqb c0 c ≡ false) × (c0 ≢ c)) → took_one g c (Recv g0 c0) x ≡ []
    go (Batch b) (inl p) (inl q) = absurd (a g c (subst (λ j. HasInlet j c t) p.1 (subst (λ j. HasInlet g0 j t) q.1 o)) e)
    go (Batch b) (inl p) (inr q) = rw (p.0, q.0) refl
    go (Batch b) (inr p) q = rw p.0 refl
    go Go p q = refl
    go Ended p q = refl
    go Refused p q = refl
    go (Gone l) p q = refl
not_for t u (Send d b) x a o g c e = refl
not_for t u (Grow d b) x a o g c e = refl
not_for t u (Free d b) x a o g c e = refl
not_for t u Writes x a o g c e = refl
not_for t u Finish x a o g c e = refl
not_for t u (Fail f) x a o g c e = refl

-- ------------------------------------------------------------ leaves

files_rest : (size : ℕ) (file : File) (files : List File) → take size file.items ++ in_files (files_after size file files) ≡ file.items ++ in_files files
files_rest size file files = elim (lt_or_le (length file.items) size) [
  | inl w ↦ rw (lt-ltb (length file.items) size w) (ap (λ l. l ++ in_files files) (take_all size file.items (omega (arith, w))))
  | inr w ↦ rw (le-ltb (length file.items) size w) (sym (append_assoc (take size file.items) (drop size file.items) (in_files files)) ∙ ap (λ l. l ++ in_files files) (take-append-drop size file.items))
]

scan_keeps : (size : ℕ) (past : Past (List Cells)) (all : List Item) (file : File) (files : List File) (gave : List Cells) (o : Option ItemFault) → first_fault (take size file.items) ≡ o → IsLinked size past (Files all (file ∷ files) gave [])
    → Keeps size past (Files all (file ∷ files) gave []) (scanned size all file files gave o)
scan_keeps size past all file files gave None e k = (
  tt,
  λ x. record {
    linked = ap (λ l. of_rows gave ++ (l ++ in_files (files_after size file files))) (of_rows_in (take size file.items) e) ∙ (ap (λ l. of_rows gave ++ l) (files_rest size file files) ∙ k);
    gave = sym (append-nil gave);
    same = refl;
  },
)
scan_keeps size past all file files gave (Some y) e k = (tt, λ x. record { linked = k; gave = sym (append-nil gave); same = refl })

files_keep : (size : ℕ) (past : Past (List Cells)) (all : List Item) (files : List File) (gave unread : List Cells) → IsLinked size past (Files all files gave unread)
    → Keeps size past (Files all files gave unread) (files_poll size all files gave unread)
files_keep size past all files gave (x ∷ xs) k = record {
  linked = ap (λ l. l ++ ([] ++ in_files files)) (of_rows-append gave (x ∷ xs)) ∙ (append_assoc (of_rows gave) (of_rows (x ∷ xs)) (in_files files) ∙ k);
  gave = refl;
  same = refl;
}
files_keep size past all [] gave [] k = tt
files_keep size past all (file ∷ files) gave [] k = scan_keeps size past all file files gave (first_fault (take size file.items)) refl k

inlet_keeps : (size : ℕ) (past : Past (List Cells)) (g c : ℕ) (gave unread : List Cells) (over : Bool) → IsLinked size past (Inlet g c gave unread over) → Keeps size past (Inlet g c gave unread over) (inlet_poll g c gave unread over)
inlet_keeps size past g c gave (x ∷ xs) over k = record { linked = (append-nil (gave ++ x ∷ xs) ∙ k.0, k.1); gave = refl; same = refl }
inlet_keeps size past g c gave [] true k = tt
inlet_keeps size past g c gave [] false k = ((refl, refl), λ x. after x)
  where
    here : eqb g g && eqb c c ≡ true
    here = rw (eq-eqb g g refl, eq-eqb c c refl) refl

    quiet : (x : Reply (List Cells)) → took_one g c (Recv g c) x ≡ [] → gave ++ [] ≡ concat (took g c (past ++ (Recv g c, x) ∷ []))
    quiet x e = k.0 ∙ (sym (append-nil (concat (took g c past))) ∙ (ap (λ l. concat (took g c past) ++ concat l) (sym e) ∙ sym (took_concat g c past (Recv g c) x)))

    after : (x : Reply (List Cells)) → IsAfter size (past ++ (Recv g c, x) ∷ []) (Inlet g c gave [] false) [] (inlet_after g c gave x)
    after (Batch rows) = record {
      linked = (
        ap (λ l. l ++ rows) (sym (append-nil gave) ∙ k.0) ∙ (ap (λ l. concat (took g c past) ++ l) (sym (append-nil rows)) ∙ (ap (λ l. concat (took g c past) ++ concat l) (let z : rows ∷ [] ≡ took_one g c (Recv g c) (Batch rows) = rw here refl in z) ∙ sym (took_concat g c past (Recv g c) (Batch rows)))),
        λ e. cc,
      );
      gave = sym (append-nil gave);
      same = refl;
    }
    after Ended = record { linked = (quiet Ended refl, λ e. (end_more g c past (Recv g c) Ended ∙ or_right (has_end g c past) (end_one {B = List Cells} g c (Recv g c) Ended) here)); gave = sym (append-nil gave); same = refl }
    after Go = record { linked = (quiet Go refl, λ e. cc); gave = sym (append-nil gave); same = refl }
    after Refused = record { linked = (quiet Refused refl, λ e. cc); gave = sym (append-nil gave); same = refl }
    after (Gone l) = record { linked = (quiet (Gone l) refl, λ e. cc); gave = sym (append-nil gave); same = refl }

-- ------------------------------------------------------------ operators

module _ (size : ℕ) (op : Op) (t : Told) (d : Desk) (inputs : ℕ → Tree) (k : IsDesk size op t d inputs) (past : Past (List Cells)) (below : (i : ℕ) → IsLinked size past (inputs i)) where
  abbrev here : Tree
  here = Node op t d inputs

  -- a reply to a need that names no channel
  own : (n : Need (List Cells)) (x : Reply (List Cells)) (t2 : Told) (d2 : Desk) → ((g c : ℕ) → took_one g c n x ≡ []) → d2.gave ≡ d.gave → IsDesk size op t2 d2 inputs → IsAfter size (past ++ (n, x) ∷ []) here [] (Node op t2 d2 inputs)
  own n x t2 d2 q g k2 = record {
    linked = (k2, λ i. linked_other size past n x (inputs i) (λ a c _. q a c) (below i));
    gave = g ∙ sym (append-nil d.gave);
    same = refl;
  }

  cut_keeps : (xs : List Item) (o : Option ItemFault) → drop (length d.gave) (op.items t) ≡ xs → first_fault (take size xs) ≡ o → Keeps size past here (cut_poll op t d inputs (take size xs) o)
  cut_keeps xs None e f = record { linked = (desk_gave size op t d inputs k (rows_in (take size xs)) (drop size xs, fits), below); gave = refl; same = refl }
    where
      fits : of_rows (d.gave ++ rows_in (take size xs)) ++ drop size xs ≡ op.items t
      fits = ap (λ z. z ++ drop size xs) (of_rows-append d.gave (rows_in (take size xs)) ∙ ap (λ z. of_rows d.gave ++ z) (of_rows_in (take size xs) f))
          ∙ (append_assoc (of_rows d.gave) (take size xs) (drop size xs) ∙ (ap (λ z. of_rows d.gave ++ z) (take-append-drop size xs ∙ sym e) ∙ left_of d.gave (op.items t) k.front))
  cut_keeps xs (Some y) e f = (tt, λ x. own (Fail (cause_at 0 y)) x t d (λ a c. refl) refl k)

  offer_keeps : (o : Option ℕ) (amount : ℕ) (refused none : Bool) → op.consumer ≡ o → op.is_complete t ≡ false → Keeps size past here (offer_poll op t d inputs o amount refused none)
  offer_keeps None amount refused none s c = record { linked = (desk_taken size op t d inputs k (d.held + 0) c, below); gave = sym (append-nil d.gave); same = refl }
  offer_keeps (Some a) amount true none s c = (inl s, λ x. answer x)
    where
      answer : (x : Reply (List Cells)) → IsAfter size (past ++ (Free a d.held, x) ∷ []) here [] (freed op t d inputs x)
      answer Go = own (Free a d.held) Go t (holding d false 0) (λ a b. refl) refl (desk_holding size op t d inputs k false 0)
      answer (Batch rows) = own (Free a d.held) (Batch rows) t d (λ a b. refl) refl k
      answer Ended = own (Free a d.held) Ended t d (λ a b. refl) refl k
      answer Refused = own (Free a d.held) Refused t d (λ a b. refl) refl k
      answer (Gone q) = own (Free a d.held) (Gone q) t d (λ a b. refl) refl k
  offer_keeps (Some a) amount false true s c = record { linked = (desk_taken size op t d inputs k (d.held + 0) c, below); gave = sym (append-nil d.gave); same = refl }
  offer_keeps (Some a) amount false false s c = (inl s, λ x. answer x)
    where
      answer : (x : Reply (List Cells)) → IsAfter size (past ++ (Grow a amount, x) ∷ []) here [] (grown op t d inputs amount x)
      answer Go = own (Grow a amount) Go (with_rows t (op.wanted t) d.offered) (holding (with_offered d []) false (d.held + amount)) (λ a b. refl) refl (desk_taken size op t d inputs k (d.held + amount) c)
      answer Refused = own (Grow a amount) Refused (with_flush t) (holding d true d.held) (λ a b. refl) refl (desk_flushed size op t d inputs k c)
      answer (Batch rows) = own (Grow a amount) (Batch rows) t d (λ a b. refl) refl k
      answer Ended = own (Grow a amount) Ended t d (λ a b. refl) refl k
      answer (Gone q) = own (Grow a amount) (Gone q) t d (λ a b. refl) refl k

  asked_up : (i : ℕ) (n : Need (List Cells)) → Asked (inputs i) n → Asked here n
  asked_up i Scan a = tt
  asked_up i (Recv g c) a = (i, a)
  asked_up i (Send c b) a = a
  asked_up i (Grow c b) a = inr (i, a)
  asked_up i (Free c b) a = inr (i, a)
  asked_up i Writes a = a
  asked_up i Finish a = a
  asked_up i (Fail f) a = tt

  -- the other inputs agree with a history in which nothing else is new
  beside : (past2 : Past (List Cells)) (i : ℕ) (x : Tree) → IsLinked size past2 x → ((j : ℕ) → i ≢ j → IsLinked size past2 (inputs j)) → (j : ℕ) → IsLinked size past2 (with_input inputs i x j)
  beside past2 i x l others j = elim (eqb_tells j i) [
    | inl s ↦ rw s.0 l
    | inr n ↦ rw n.0 (others j (λ e. n.1 (sym e)))
  ]

  input_keeps : (p : Poll) → poll size (inputs (op.wanted t)) ≡ p → op.is_complete t ≡ false → d.offered ≡ [] → Keeps size past (inputs (op.wanted t)) p → Keeps size past here (input_poll op t d inputs (op.wanted t) p)
  input_keeps (Gives rows rest) e c o q = record {
    linked = (desk_input size op t d inputs k (with_offered d rows) rest c o refl q.gave q.same, beside past (op.wanted t) rest q.linked (λ j _. below j));
    gave = sym (append-nil d.gave);
    same = form_node op inputs (op.wanted t) rest q.same;
  }
  input_keeps Ends e c o q = record { linked = (desk_end size op t d inputs k c o e, below); gave = sym (append-nil d.gave); same = refl }
  input_keeps (Moves rest) e c o q = record {
    linked = (desk_input size op t d inputs k d rest c o refl (q.gave ∙ ap (λ l. gave_of (inputs (op.wanted t)) ++ l) (sym o)) q.same, beside past (op.wanted t) rest q.linked (λ j _. below j));
    gave = sym (append-nil d.gave);
    same = form_node op inputs (op.wanted t) rest q.same;
  }
  input_keeps (Asks n f) e c o q = (
    asked_up (op.wanted t) n q.0,
    λ x. (let y = q.1 x in record {
      linked = (
        desk_input size op t d inputs k d (f x) c o refl (y.gave ∙ ap (λ l. gave_of (inputs (op.wanted t)) ++ l) (sym o)) y.same,
        beside (past ++ (n, x) ∷ []) (op.wanted t) (f x) y.linked (λ j m. linked_other size past n x (inputs j) (not_for (inputs (op.wanted t)) (inputs j) n x (λ a b u v. m (k.apart (op.wanted t) j a b u v)) q.0) (below j)),
      );
      gave = sym (append-nil d.gave);
      same = form_node op inputs (op.wanted t) (f x) y.same;
    }),
  )

  idle_keeps : (c : Bool) (o : List Cells) → op.is_complete t ≡ c → d.offered ≡ o → Keeps size past (inputs (op.wanted t)) (poll size (inputs (op.wanted t))) → Keeps size past here (idle_poll op t d inputs c o (poll size (inputs (op.wanted t))))
  idle_keeps true o c e p = tt
  idle_keeps false (x ∷ xs) c e p = offer_keeps op.consumer (amount_of op t d.offered) d.refused (eqb (amount_of op t d.offered) 0) refl c
  idle_keeps false [] c e p = input_keeps (poll size (inputs (op.wanted t))) refl c e p

  node_keeps : (xs : List Item) → drop (length d.gave) (op.items t) ≡ xs → Keeps size past (inputs (op.wanted t)) (poll size (inputs (op.wanted t))) → Keeps size past here (node_poll size op t d inputs xs (poll size (inputs (op.wanted t))))
  node_keeps [] e p = idle_keeps (op.is_complete t) d.offered refl refl p
  node_keeps (x ∷ xs) e p = cut_keeps (x ∷ xs) (first_fault (take size (x ∷ xs))) e refl

pub polled : (size : ℕ) (past : Past (List Cells)) (t : Tree) → IsLinked size past t → Keeps size past t (poll size t)
polled size past Nothing k = tt
polled size past (Files all files gave unread) k = files_keep size past all files gave unread k
polled size past (Inlet g c gave unread over) k = inlet_keeps size past g c gave unread over k
polled size past (Node op t d inputs) k = node_keeps size op t d inputs k.0 past k.1 (drop (length d.gave) (op.items t)) refl (polled size past (inputs (op.wanted t)) (k.1 (op.wanted t)))
