-- Trees that nothing was asked of, and counts of channels.
use Rattle.std.specs.Prelude.{◌==◌}
use Rattle.std.proofs.Common.{ℕ, ◌+◌, ◌≡◌, refl, sym, ap, ◌∙◌, subst, cond, List, [], ◌∷◌, ◌++◌, Bool, true, false, ◌&&◌, arith, zero-add}
use Rattle.std.proofs.lemmas.Bool.{false≢true}
use Rattle.logical_plan.specs.Items.{Cells, of_rows}
use Rattle.tree_laws.specs.Operators.{Told, Op, IsOp}
use Rattle.tree_laws.specs.Trees.{Desk, in_files, Tree, Nothing, Files, Inlet, Node, gave_of, HasInlet}
use Rattle.tree_laws.specs.Linked.{IsLinked}
use Rattle.tree_laws.specs.Held.{IsApart, IsHolding}
use Rattle.plan_task_laws.specs.Trees.{untold, idle}

-- nothing was read, given or told
abbrev pub IsFresh : Tree → Type 0
IsFresh Nothing = Unit {0}
IsFresh (Files all files gave unread) = (all ≡ in_files files) × (gave ≡ []) × (unread ≡ [])
IsFresh (Inlet g c gave unread over) = (gave ≡ []) × (unread ≡ []) × (over ≡ false)
IsFresh (Node op t d inputs) = IsOp op × (t ≡ untold) × (d ≡ idle) × ((i : ℕ) → IsFresh (inputs i))

pub gave_nothing : (t : Tree) → IsFresh t → gave_of t ≡ []
gave_nothing Nothing h = refl
gave_nothing (Files all files gave unread) h = h.1
gave_nothing (Inlet g c gave unread over) h = h.0
gave_nothing (Node op t d inputs) h = ap (λ (x : Desk). x.gave) h.2

same_either : {A : Type 0} (b : Bool) (x : A) → cond b x x ≡ x
same_either true x = refl
same_either false x = refl

linked_node : (size : ℕ) (op : Op) (inputs : ℕ → Tree) → IsOp op → ((i : ℕ) → gave_of (inputs i) ≡ []) → ((i : ℕ) → IsLinked size [] (inputs i))
    → ((i j g c : ℕ) → HasInlet g c (inputs i) → HasInlet g c (inputs j) → i ≡ j) → IsLinked size [] (Node op untold idle inputs)
linked_node size op inputs o g l a = (
  record {
    is_op = o;
    split = refl;
    front = (op.items untold, refl);
    taken = λ i. g i ∙ sym (same_either (i == op.wanted untold) []);
    ended = λ i e. absurd (false≢true e);
    apart = a;
  },
  l,
)

pub fresh_linked : (size : ℕ) (t : Tree) → IsFresh t → IsApart t → IsLinked size [] t
fresh_linked size Nothing h a = tt
fresh_linked size (Files all files gave unread) h a =
    let P : List Cells → List Cells → Type 0 = λ x y. of_rows x ++ (of_rows y ++ in_files files) ≡ all in
    subst (λ x. P x unread) (sym h.1) (subst (λ y. P [] y) (sym h.2) (sym h.0))
fresh_linked size (Inlet g c gave unread over) h a =
    (subst (λ (x : List Cells). x ++ unread ≡ []) (sym h.0) h.1, λ e. absurd (false≢true (sym h.2 ∙ e)))
fresh_linked size (Node op t d inputs) h a =
    let P : Told → Desk → Type 0 = λ x y. IsLinked size [] (Node op x y inputs) in
    subst (λ x. P x d) (sym h.1) (subst (λ y. P untold y) (sym h.2)
    (linked_node size op inputs h.0 (λ i. gave_nothing (inputs i) (h.3 i)) (λ i. fresh_linked size (inputs i) (h.3 i) (a.3 i)) a.0))

-- and so nothing is held
pub fresh_holds : (t : Tree) → IsFresh t → IsHolding (λ c. 0) t
fresh_holds Nothing h = tt
fresh_holds (Files all files gave unread) h = tt
fresh_holds (Inlet g c gave unread over) h = tt
fresh_holds (Node op t d inputs) h = (λ c s. ap (λ (x : Desk). x.held) h.2, λ i. fresh_holds (inputs i) (h.3 i))

-- ------------------------------------------------------------ counts

abbrev pub pair_one : ℕ × ℕ → ℕ → ℕ → ℕ
pair_one x g c = cond ((x.0 == g) && (x.1 == c)) 1 0

abbrev pub pair_count : List (ℕ × ℕ) → ℕ → ℕ → ℕ
pair_count [] g c = 0
pair_count (x ∷ xs) g c = pair_one x g c + pair_count xs g c

pub pair_count-append : (xs ys : List (ℕ × ℕ)) (g c : ℕ) → pair_count (xs ++ ys) g c ≡ pair_count xs g c + pair_count ys g c
pair_count-append [] ys g c = sym (zero-add _)
pair_count-append (x ∷ xs) ys g c = omega (arith, pair_count-append xs ys g c)

abbrev pub num_count : List ℕ → ℕ → ℕ
num_count [] c = 0
num_count (x ∷ xs) c = cond {A = ℕ} (x == c) 1 0 + num_count xs c

pub num_count-append : (xs ys : List ℕ) (c : ℕ) → num_count (xs ++ ys) c ≡ num_count xs c + num_count ys c
num_count-append [] ys c = sym (zero-add _)
num_count-append (x ∷ xs) ys c = omega (arith, num_count-append xs ys c)
