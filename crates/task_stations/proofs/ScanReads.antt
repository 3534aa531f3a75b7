-- A batch that is read of a file.
use Rattle.std.proofs.Common.{ℕ, ◌+◌, ◌≡◌, ◌≤◌, ◌<◌, refl, sym, ap, ◌∙◌, List, [], ◌∷◌, length, take, drop, subst, arith, Option, Some, None, Ok, Err, suc, get_or, slice_set, IsSome, min}
use Rattle.std.proofs.lemmas.Bool.{lt-ltb, le-ltb}
use Rattle.std.proofs.lemmas.List.{drop-set, drop-set-lt, length-take}
use Rattle.std.proofs.Math.Seq.{drop-cons}
use Rattle.core_frame.specs.Step.{Fail}
use Rattle.dfx_value.specs.Items.{Cells, Item}
use Rattle.dfx_value.specs.declared.fault.ItemFault.{ItemFault}
use Rattle.tree_laws.specs.Operators.{rows_in, first_fault}
use Rattle.tree_laws.specs.Trees.{File, Tree, Nothing, Files, Inlet, Node, files_after, poll, cause_at}
use Rattle.task_stations.specs.declared.scan.Scan.{Scan}
use Rattle.task_stations.specs.declared.needs.Need.{Need as Need_}
use Rattle.task_stations.specs.declared.needs.Need.TheVariants as need
use Rattle.task_stations.specs.declared.needs.Step.TheVariants as step
use Rattle.task_stations.specs.Scans.{AreFiles, IsRead, Stages, IsScan, IsReadyScan, OnFiles}
use Rattle.task_stations.specs.Slots.{rows_of}
use Rattle.task_stations.specs.Stands.{StepIs, need_of}

pub only_files : {F : Type 0} (source : F → ℕ) (left : F → Option (List Item)) (size : ℕ) (s : Scan F) (t : Tree) → IsScan source left size s t → OnFiles t
only_files source left size s Nothing k = absurd k
only_files source left size s (Files all files gave unread) k = tt
only_files source left size s (Inlet g c gave unread over) k = absurd k
only_files source left size s (Node op t d inputs) k = absurd k

-- a batch without a fault has a row for each item
rows_long : (xs : List Item) → first_fault xs ≡ None → length (rows_in xs) ≡ length xs
rows_long [] e = refl
rows_long (Ok row ∷ xs) e = ap suc (rows_long xs e)
rows_long (Err f ∷ xs) e = cc

batch_long : (size : ℕ) (xs : List Item) (rows : List Cells) → first_fault (take size xs) ≡ None → rows ≡ rows_in (take size xs) → length rows ≡ min size (length xs)
batch_long size xs rows e r = ap length r ∙ (rows_long (take size xs) e ∙ length-take size xs)

-- where something is left, the list from there
at_place : {A : Type 0} (xs : List A) (n : ℕ) (d : A) → n < length xs → drop n xs ≡ get_or xs n d ∷ drop (n + 1) xs
at_place xs n d w = let e : suc n ≡ n + 1 = omega arith in drop-cons xs n d w ∙ ap (λ z. get_or xs n d ∷ drop z xs) e

after_set : {A : Type 0} (xs : List A) (n : ℕ) (y : A) → drop (n + 1) (slice_set xs n y) ≡ drop (n + 1) xs
after_set xs n y = drop-set-lt (n + 1) xs n y (omega arith)

module _ {F : Type 0} (source : F → ℕ) (left : F → Option (List Item)) where
  read_last : (size : ℕ) (file : File) (files : List File) (f f2 : F) (fs : List F) (rows : List Cells) → AreFiles source left (f ∷ fs) (file ∷ files)
      → first_fault (take size file.items) ≡ None → rows ≡ rows_in (take size file.items) → length rows < size → IsRead source left size (file ∷ files) rows fs
  read_last size file files f f2 fs rows k e r w = (e, r, (let P : List File → Type 0 = AreFiles source left fs in subst P (sym over) k.2))
    where
      short : length file.items < size
      short = omega (arith, batch_long size file.items rows e r, w)

      over : files_after size file files ≡ files
      over = rw (lt-ltb (length file.items) size short) refl

  read_more : (size : ℕ) (file : File) (files : List File) (f f2 : F) (fs : List F) (rows : List Cells) → AreFiles source left (f ∷ fs) (file ∷ files)
      → first_fault (take size file.items) ≡ None → rows ≡ rows_in (take size file.items) → left f2 ≡ Some (drop size file.items) → source f2 ≡ source f → size ≤ length rows
      → IsRead source left size (file ∷ files) rows (f2 ∷ fs)
  read_more size file files f f2 fs rows k e r l s w = (e, r, (let P : List File → Type 0 = AreFiles source left (f2 ∷ fs) in subst P (sym more) (s ∙ k.0, l, k.2)))
    where
      long : size ≤ length file.items
      long = omega (arith, batch_long size file.items rows e r, w)

      more : files_after size file files ≡ record file { items = drop size file.items } ∷ files
      more = rw (le-ltb (length file.items) size long) refl

  pub stages_idle : {V : Type 0} (rows_of : V → List Cells) (size : ℕ) (files : List File) (o : Option V) (fs : List F) → o ≡ None → Stages source left rows_of size files o fs → AreFiles source left fs files
  stages_idle rows_of size files None fs e k = k
  stages_idle rows_of size files (Some r) fs e k = cc

  pub stages_ready : {V : Type 0} (rows_of : V → List Cells) (size : ℕ) (files : List File) (o : Option V) (r : V) (fs : List F) → o ≡ Some r → IsRead source left size files (rows_of r) fs → Stages source left rows_of size files o fs
  stages_ready rows_of size files None r fs e k = cc
  stages_ready {V = V} rows_of size files (Some q) r fs e k = let P : Option V → Type 0 = λ o. Stages source left rows_of size files o fs in subst P (sym e) k

  -- the first file that isn't over was asked
  module _ (size : ℕ) (s s2 : Scan F) (f f2 : F) (fs : List F) (none : rows_of s.unread ≡ []) (idle : s.ready ≡ None) (here : drop s.over s.files.items ≡ f ∷ fs) (same : rows_of s2.unread ≡ rows_of s.unread) where
    are_files : (files : List File) → Stages source left (λ b. b.rows) size files s.ready (drop s.over s.files.items) → AreFiles source left (f ∷ fs) files
    are_files files k = let Q : List F → Type 0 = λ z. AreFiles source left z files in subst Q here (stages_idle (λ b. b.rows) size files s.ready (drop s.over s.files.items) idle k)

    -- it gave rows
    module _ (rows : List Cells) (ready : (files : List File) → IsRead source left size files rows (drop s2.over s2.files.items) → Stages source left (λ b. b.rows) size files s2.ready (drop s2.over s2.files.items)) (some : IsSome s2.ready)
        (read : (file : File) (files : List File) → AreFiles source left (f ∷ fs) (file ∷ files) → IsRead source left size (file ∷ files) rows (drop s2.over s2.files.items)) where
      asks_scan : (all : List Item) (file : File) (files : List File) (gave unread : List Cells) → unread ≡ [] → first_fault (take size file.items) ≡ None → IsReadyScan source left size s2 (Files all (file ∷ files) gave unread)
          → StepIs (IsScan source left size s2) (IsReadyScan source left size s2) (Files all (file ∷ files) gave unread) (poll size (Files all (file ∷ files) gave unread)) (step.Asks need.Scan)
      asks_scan all file files gave [] u e k = rw e (refl, k)
      asks_scan all file files gave (x ∷ xs) u e k = cc

      pub scan_rows : (t : Tree) → IsScan source left size s t → StepIs (IsScan source left size s2) (IsReadyScan source left size s2) t (poll size t) (step.Asks need.Scan)
      scan_rows Nothing k = absurd k
      scan_rows (Inlet g c gave unread over) k = absurd k
      scan_rows (Node op t d inputs) k = absurd k
      scan_rows (Files all [] gave unread) k = absurd (are_files [] k.1)
      scan_rows (Files all (file ∷ files) gave unread) k =
          let r = read file files (are_files (file ∷ files) k.1) in
          asks_scan all file files gave unread (sym k.0 ∙ none) r.0 ((same ∙ k.0, ready (file ∷ files) r), some)

    -- it is refused
    module _ (fault : ItemFault) (m : Need_) (cause : need_of m ≡ Fail (cause_at (source f) fault)) (refused : (items : List Item) → left f ≡ Some items → first_fault (take size items) ≡ Some fault) where
      asks_fail : (all : List Item) (file : File) (files : List File) (gave unread : List Cells) → unread ≡ [] → source f ≡ file.source → first_fault (take size file.items) ≡ Some fault
          → StepIs (IsScan source left size s2) (IsReadyScan source left size s2) (Files all (file ∷ files) gave unread) (poll size (Files all (file ∷ files) gave unread)) (step.Asks m)
      asks_fail all file files gave [] u n e = rw e (cause ∙ ap (λ z. Fail (cause_at z fault)) n, tt)
      asks_fail all file files gave (x ∷ xs) u n e = cc

      pub scan_refused : (t : Tree) → IsScan source left size s t → StepIs (IsScan source left size s2) (IsReadyScan source left size s2) t (poll size t) (step.Asks m)
      scan_refused Nothing k = absurd k
      scan_refused (Inlet g c gave unread over) k = absurd k
      scan_refused (Node op t d inputs) k = absurd k
      scan_refused (Files all [] gave unread) k = absurd (are_files [] k.1)
      scan_refused (Files all (file ∷ files) gave unread) k =
          let a = are_files (file ∷ files) k.1 in asks_fail all file files gave unread (sym k.0 ∙ none) a.0 (refused file.items a.1)

  -- the scan's files as a list, of which this one was asked
  module _ (size : ℕ) (s s2 : Scan F) (f f2 : F) (none : rows_of s.unread ≡ []) (idle : s.ready ≡ None) (within : s.over < length s.files.items) (at : f ≡ get_or s.files.items s.over f)
      (same : rows_of s2.unread ≡ rows_of s.unread) (number : source f2 ≡ source f) where
    pub here_is : drop s.over s.files.items ≡ f ∷ drop (s.over + 1) s.files.items
    here_is = at_place s.files.items s.over f within ∙ ap (λ z. z ∷ drop (s.over + 1) s.files.items) (sym at)

    module _ (rows : List Cells) (read : (items : List Item) → left f ≡ Some items → (first_fault (take size items) ≡ None) × (rows ≡ rows_in (take size items)) × (left f2 ≡ Some (drop size items)))
        (ready : (files : List File) → IsRead source left size files rows (drop s2.over s2.files.items) → Stages source left (λ b. b.rows) size files s2.ready (drop s2.over s2.files.items)) (some : IsSome s2.ready)
        (files : s2.files.items ≡ slice_set s.files.items s.over f2) where
      pub at_last : s2.over ≡ s.over + 1 → length rows < size → (t : Tree) → IsScan source left size s t → StepIs (IsScan source left size s2) (IsReadyScan source left size s2) t (poll size t) (step.Asks need.Scan)
      at_last o w = scan_rows size s s2 f f2 (drop (s.over + 1) s.files.items) none idle here_is same rows ready some
          (λ file more a. let r = read file.items a.1 in
          let P : List F → Type 0 = IsRead source left size (file ∷ more) rows in
          subst P (sym (ap (λ z. drop z s2.files.items) o ∙ (ap (drop (s.over + 1)) files ∙ after_set s.files.items s.over f2)))
          (read_last size file more f f2 (drop (s.over + 1) s.files.items) rows a r.0 r.1 w))

      pub at_more : s2.over ≡ s.over → size ≤ length rows → (t : Tree) → IsScan source left size s t → StepIs (IsScan source left size s2) (IsReadyScan source left size s2) t (poll size t) (step.Asks need.Scan)
      at_more o w = scan_rows size s s2 f f2 (drop (s.over + 1) s.files.items) none idle here_is same rows ready some
          (λ file more a. let r = read file.items a.1 in
          let P : List F → Type 0 = IsRead source left size (file ∷ more) rows in
          subst P (sym (ap (λ z. drop z s2.files.items) o ∙ (ap (drop s.over) files ∙ drop-set s.files.items s.over f2 within)))
          (read_more size file more f f2 (drop (s.over + 1) s.files.items) rows a r.0 r.1 r.2 number w))
