-- What each step of an operator keeps.
use Rattle.std.proofs.Common.{ℕ, ◌≡◌, ◌≢◌, ◌⊎◌, inl, inr, refl, sym, ap, ◌∙◌, subst, eqb, cond, List, [], ◌∷◌, ◌++◌, Bool, true, false, append_assoc}
use Rattle.std.proofs.lemmas.Bool.{eq-eqb}
use Rattle.std.proofs.lemmas.Bool.Decides.{eqb_tells}
use Rattle.std.proofs.lemmas.List.{append-nil}
use Rattle.logical_plan.specs.Items.{Cells, of_rows, concat}
use Rattle.tree_laws.specs.Operators.{Told, with_rows, with_end, with_flush, IsSplit, Op, IsFront}
use Rattle.tree_laws.specs.Trees.{Desk, with_gave, with_offered, holding, with_input, Tree, Ends, poll, gave_of, NodeForm, form, FormReads}
use Rattle.tree_laws.specs.Linked.{waiting, IsDesk}
use Rattle.tree_laws.proofs.Fronts.{front_both, concat-append, never}

-- functions with the same values are one
pub same_functions : {A B : Type 0} (f g : A → B) → ((x : A) → f x ≡ g x) → f ≡ g
same_functions f g h = λ i. λ x. h x i

if_none : (b : Bool) → cond {A = List Cells} b [] [] ≡ []
if_none true = refl
if_none false = refl

if_nil : (b : Bool) (xs : List Cells) → xs ≡ [] → cond b xs [] ≡ []
if_nil true xs e = e
if_nil false xs e = refl

-- ------------------------------------------------------------ one input is another tree

pub input_here : (inputs : ℕ → Tree) (i : ℕ) (x : Tree) → with_input inputs i x i ≡ x
input_here inputs i x = rw (eq-eqb i i refl) refl

pub form_input : (inputs : ℕ → Tree) (i : ℕ) (x : Tree) → form x ≡ form (inputs i) → (j : ℕ) → form (with_input inputs i x j) ≡ form (inputs j)
form_input inputs i x e j = elim (eqb_tells j i) [
  | inl s ↦ rw s.0 (e ∙ ap (λ k. form (inputs k)) (sym s.1))
  | inr n ↦ rw n.0 refl
]

pub form_node : (op : Op) (inputs : ℕ → Tree) (i : ℕ) (x : Tree) → form x ≡ form (inputs i) → NodeForm op (λ j. form (with_input inputs i x j)) ≡ NodeForm op (λ j. form (inputs j))
form_node op inputs i x e = ap (NodeForm op) (same_functions (λ j. form (with_input inputs i x j)) (λ j. form (inputs j)) (form_input inputs i x e))

-- ------------------------------------------------------------ steps

module _ (size : ℕ) (op : Op) (t : Told) (d : Desk) (inputs : ℕ → Tree) (k : IsDesk size op t d inputs) where
  pub desk_holding : (refused : Bool) (held : ℕ) → IsDesk size op t (holding d refused held) inputs
  desk_holding refused held = record { is_op = k.is_op; split = k.split; front = k.front; taken = k.taken; ended = k.ended; apart = k.apart }

  pub desk_gave : (rows : List Cells) → IsFront (of_rows (d.gave ++ rows)) (op.items t) → IsDesk size op t (with_gave d rows) inputs
  desk_gave rows f = record { is_op = k.is_op; split = k.split; front = f; taken = k.taken; ended = k.ended; apart = k.apart }

  -- the rows that wait are taken
  split_taken : IsSplit (with_rows t (op.wanted t) d.offered)
  split_taken = go (eqb 0 (op.wanted t))
    where
      go : (b : Bool) → concat t.closed ++ cond b (t.since ++ d.offered) t.since ≡ cond b (t.taken 0 ++ d.offered) (t.taken 0)
      go true = sym (append_assoc (concat t.closed) t.since d.offered) ∙ ap (λ l. l ++ d.offered) k.split
      go false = k.split

  pub desk_taken : (held : ℕ) → op.is_complete t ≡ false → IsDesk size op (with_rows t (op.wanted t) d.offered) (holding (with_offered d []) false held) inputs
  desk_taken held c = record {
    is_op = k.is_op;
    split = split_taken;
    front = front_both (of_rows d.gave) (op.items t) (op.items (with_rows t (op.wanted t) d.offered)) k.front (k.is_op.grows t d.offered k.split c);
    taken = λ i. k.taken i ∙ (go (eqb i (op.wanted t)) (t.taken i) ∙ ap (λ l. cond (eqb i (op.wanted t)) (t.taken i ++ d.offered) (t.taken i) ++ l) (sym (if_none (eqb i (op.wanted (with_rows t (op.wanted t) d.offered))))));
    ended = λ i e. ((k.ended i e).0, (k.ended i e).1 ∙ other i e (eqb_tells i (op.wanted t)));
    apart = k.apart;
  }
    where
      go : (b : Bool) (xs : List Cells) → xs ++ cond b d.offered [] ≡ cond b (xs ++ d.offered) xs ++ []
      go true xs = sym (append-nil (xs ++ d.offered))
      go false xs = refl

      other : (i : ℕ) → t.ended i ≡ true → ((eqb i (op.wanted t) ≡ true) × (i ≡ op.wanted t)) ⊎ ((eqb i (op.wanted t) ≡ false) × (i ≢ op.wanted t)) → t.taken i ≡ cond (eqb i (op.wanted t)) (t.taken i ++ d.offered) (t.taken i)
      other i e (inl s) = never (t.ended (op.wanted t)) (subst (λ j. t.ended j ≡ true) s.1 e) (k.is_op.wants t k.split c)
      other i e (inr n) = rw n.0 refl

  pub desk_flushed : op.is_complete t ≡ false → IsDesk size op (with_flush t) (holding d true d.held) inputs
  desk_flushed c = record {
    is_op = k.is_op;
    split = append-nil (concat (t.closed ++ t.since ∷ [])) ∙ (concat-append t.closed (t.since ∷ []) ∙ (ap (λ l. concat t.closed ++ l) (append-nil t.since) ∙ k.split));
    front = front_both (of_rows d.gave) (op.items t) (op.items (with_flush t)) k.front (k.is_op.grows_flush t k.split c);
    taken = λ i. k.taken i ∙ ap (λ j. t.taken i ++ cond (eqb i j) d.offered []) (sym (k.is_op.same_side t k.split));
    ended = k.ended;
    apart = k.apart;
  }

  -- the wanted input went on
  pub desk_input : (d2 : Desk) (x : Tree) → op.is_complete t ≡ false → d.offered ≡ [] → d2.gave ≡ d.gave → gave_of x ≡ gave_of (inputs (op.wanted t)) ++ d2.offered → form x ≡ form (inputs (op.wanted t))
      → IsDesk size op t d2 (with_input inputs (op.wanted t) x)
  desk_input d2 x c o g gave same = record {
    is_op = k.is_op;
    split = k.split;
    front = subst (λ z. IsFront (of_rows z) (op.items t)) (sym g) k.front;
    taken = λ i. took i (eqb_tells i (op.wanted t));
    ended = λ i e. ends i e (eqb_tells i (op.wanted t));
    apart = λ i j a b y z. k.apart i j a b (subst (FormReads a b) (form_input inputs (op.wanted t) x same i) y) (subst (FormReads a b) (form_input inputs (op.wanted t) x same j) z);
  }
    where
      all : gave_of (inputs (op.wanted t)) ≡ t.taken (op.wanted t)
      all = k.taken (op.wanted t) ∙ (ap (λ l. t.taken (op.wanted t) ++ l) (if_nil (eqb (op.wanted t) (op.wanted t)) d.offered o) ∙ append-nil (t.taken (op.wanted t)))

      took : (i : ℕ) → ((eqb i (op.wanted t) ≡ true) × (i ≡ op.wanted t)) ⊎ ((eqb i (op.wanted t) ≡ false) × (i ≢ op.wanted t)) → gave_of (with_input inputs (op.wanted t) x i) ≡ t.taken i ++ waiting op t d2 i
      took i (inl s) = rw s.0 (gave ∙ (ap (λ l. l ++ d2.offered) all ∙ ap (λ j. t.taken j ++ d2.offered) (sym s.1)))
      took i (inr n) = rw n.0 (k.taken i ∙ ap (λ b. t.taken i ++ cond b d.offered []) n.0)

      ends : (i : ℕ) → t.ended i ≡ true → ((eqb i (op.wanted t) ≡ true) × (i ≡ op.wanted t)) ⊎ ((eqb i (op.wanted t) ≡ false) × (i ≢ op.wanted t)) → (poll size (with_input inputs (op.wanted t) x i) ≡ Ends) × (gave_of (with_input inputs (op.wanted t) x i) ≡ t.taken i)
      ends i e (inl s) = never (t.ended (op.wanted t)) (subst (λ j. t.ended j ≡ true) s.1 e) (k.is_op.wants t k.split c)
      ends i e (inr n) = rw n.0 (k.ended i e)

  -- the wanted input ended
  pub desk_end : op.is_complete t ≡ false → d.offered ≡ [] → poll size (inputs (op.wanted t)) ≡ Ends → IsDesk size op (with_end t (op.wanted t)) d inputs
  desk_end c o p = record {
    is_op = k.is_op;
    split = k.split;
    front = front_both (of_rows d.gave) (op.items t) (op.items (with_end t (op.wanted t))) k.front (k.is_op.grows_end t k.split c);
    taken = λ i. k.taken i ∙ ap (λ l. t.taken i ++ l) (if_nil (eqb i (op.wanted t)) d.offered o ∙ sym (if_nil (eqb i (op.wanted (with_end t (op.wanted t)))) d.offered o));
    ended = λ i e. ends i e (eqb_tells i (op.wanted t));
    apart = k.apart;
  }
    where
      all : (i : ℕ) → gave_of (inputs i) ≡ t.taken i
      all i = k.taken i ∙ (ap (λ l. t.taken i ++ l) (if_nil (eqb i (op.wanted t)) d.offered o) ∙ append-nil (t.taken i))

      ends : (i : ℕ) → cond (eqb i (op.wanted t)) true (t.ended i) ≡ true → ((eqb i (op.wanted t) ≡ true) × (i ≡ op.wanted t)) ⊎ ((eqb i (op.wanted t) ≡ false) × (i ≢ op.wanted t)) → (poll size (inputs i) ≡ Ends) × (gave_of (inputs i) ≡ t.taken i)
      ends i e (inl s) = (ap (λ j. poll size (inputs j)) s.1 ∙ p, all i)
      ends i e (inr n) = k.ended i (sym (ap (λ b. cond b true (t.ended i)) n.0) ∙ e)
