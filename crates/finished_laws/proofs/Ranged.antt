-- Rows of a width, by their test, and those of a table in its files.
use Rattle.std.proofs.Common.{ℕ, ◌%◌, ◌≡◌, ◌==◌, inl, inr, sym, ap, ◌∙◌, subst, List, [], ◌∷◌, length, get_or, map, filter, true}
use Rattle.node_laws.specs.NodeRows.{Holds}
use Rattle.physical_plan.specs.Numbers.{numbers}
use Rattle.logical_plan.specs.Items.{Cells, Item, rows, concat}
use Rattle.tree_laws.specs.Trees.{in_files}
use Rattle.plan_task_laws.specs.Trees.{dealt_files}
use Rattle.answer_laws.proofs.Weights.{items_fuse}
use Rattle.answer_laws.proofs.Meaning.{both_true, equal_is}
use Rattle.finished_laws.specs.Sound.{are_wide}
use Rattle.finished_laws.proofs.Held.{in_all, apart}

pub wide_row : (w : ℕ) (rs : List Cells) → are_wide w rs ≡ true → (r : Cells) → Holds rs r → length r ≡ w
wide_row w [] h r i = absurd i
wide_row w (s ∷ rs) h r i = (let b = both_true (length s == w) (are_wide w rs) h in elim i [
  | inl e ↦ ap length (sym e) ∙ equal_is (length s) w b.0
  | inr j ↦ wide_row w rs b.1 r j
])

-- the rows of some files of a table are rows of the table
file_of : (F : ℕ → List Item) (files : List (List Item)) → ((i : ℕ) → F i ≡ get_or files i []) → (is : List ℕ) (r : Cells) → Holds (rows (concat (map F is))) r → Holds (rows (concat files)) r
file_of F files same [] r h = absurd h
file_of F files same (i ∷ is) r h = elim (apart (F i) (concat (map F is)) r h) [
  | inl a ↦ in_all files i r (subst (λ xs. Holds (rows xs) r) (same i) a)
  | inr b ↦ file_of F files same is r b
]

pub dealt_row : (F : ℕ → List Item) (all : List (List Item)) → ((i : ℕ) → F i ≡ get_or all i []) → (source files n i : ℕ) (r : Cells) → Holds (rows (in_files (dealt_files F source files n i))) r → Holds (rows (concat all)) r
dealt_row F all same source files n i r h = file_of F all same (filter (λ (f : ℕ). f % n == i) (numbers files)) r (subst (λ xs. Holds (rows xs) r) (items_fuse source F (filter (λ (f : ℕ). f % n == i) (numbers files))) h)
