-- Meaning: a scan over files, of which a batch may be read that isn't asked for yet.
use Rattle.std.specs.Prelude.{ℕ, ◌≡◌, Option, Some, None, List, [], ◌∷◌, take, drop, IsSome}
use Rattle.dfx_value.specs.Items.{Cells, Item}
use Rattle.tree_laws.specs.Operators.{rows_in, first_fault}
use Rattle.tree_laws.specs.Trees.{File, Tree, Files, files_after}
use Rattle.task_stations.specs.Slots.{rows_of}
use Rattle.task_stations.specs.declared.scan.Scan.{Scan}
use Rattle.task_stations.specs.declared.scan.Next.{Next}
use Rattle.task_stations.specs.declared.scan.Next.TheVariants as next

-- what a file gives of the items that it has left: the rows of the next ones, or the first fault among these
abbrev pub IsNext : ℕ → List Item → Option (List Item) → Next → Type 0
IsNext most items now (next.Rows rows) = (first_fault (take most items) ≡ None) × (rows.rows ≡ rows_in (take most items)) × (now ≡ Some (drop most items))
IsNext most items now (next.Refused f) = first_fault (take most items) ≡ Some f

module _ {F : Type 0} (source : F → ℕ) (left : F → Option (List Item)) where
  -- these files are told to have just these items left
  abbrev pub AreFiles : List F → List File → Type 0
  AreFiles [] [] = Unit {0}
  AreFiles (f ∷ fs) (file ∷ files) = (source f ≡ file.source) × (left f ≡ Some file.items) × AreFiles fs files
  AreFiles _ _ = ⊥

  -- rows of the next batch of these files, and what is left after it
  abbrev pub IsRead : ℕ → List File → List Cells → List F → Type 0
  IsRead size [] rows fs = ⊥
  IsRead size (file ∷ files) rows fs = (first_fault (take size file.items) ≡ None) × (rows ≡ rows_in (take size file.items)) × AreFiles fs (files_after size file files)

  abbrev pub Stages : {V : Type 0} → (V → List Cells) → ℕ → List File → Option V → List F → Type 0
  Stages rows_of size files None fs = AreFiles fs files
  Stages rows_of size files (Some rows) fs = IsRead size files (rows_of rows) fs

  abbrev pub IsScan : ℕ → Scan F → Tree → Type 0
  IsScan size s (Files all files gave unread) = (rows_of s.unread ≡ unread) × Stages (λ b. b.rows) size files s.ready (drop s.over s.files.items)
  IsScan size s _ = ⊥

  -- the batch that it asks for is read
  abbrev pub IsReadyScan : ℕ → Scan F → Tree → Type 0
  IsReadyScan size s t = IsScan size s t × IsSome s.ready

abbrev pub OnFiles : Tree → Type 0
OnFiles (Files all files gave unread) = Unit {0}
OnFiles _ = ⊥
