-- What each node of a plan means is what its partitions tell, where those of its inputs tell what they mean.
use Rattle.std.specs.Prelude.{nat_lt}
use Rattle.std.specs.List.{AllPass, sum_by, flat_map}
use Rattle.std.proofs.Common.{ℕ, zero, suc, ◌+◌, ◌<◌, ◌≡◌, ◌==◌, inl, inr, refl, sym, ap, ◌∙◌, subst, List, [], ◌∷◌, ◌++◌, length, map, Bool, true, false, ◌&&◌, not, is_some, Option, Some, None, arith}
use Rattle.std.proofs.lemmas.Bool.{false≢true}
use Rattle.std.proofs.lemmas.Bool.Decides.{eqb_tells}
use Rattle.std.proofs.lemmas.List.{append-nil}
use Rattle.std.proofs.lemmas.List.Sums.{sum_by-append}
use Rattle.plan_props.specs.declared.properties.Partitioning.{Partitioning}
use Rattle.dfx_value.specs.Kinds.{are_of}
use Rattle.dfx_value.specs.KindedRows.{all_are}
use Rattle.dfx_value.specs.declared.kind.Kind.{Kind}
use Rattle.dfx_value.specs.declared.op.AggCall.{AggCall}
use Rattle.dfx_value.specs.declared.op.AggCall.TheVariants.{CountAll, Count, Sum, Min, Max, Avg}
use Rattle.dfx_value.specs.declared.op.JoinKind.{JoinKind}
use Rattle.dfx_value.specs.declared.rows.SortKey.{SortKey}
use Rattle.scalar_exprs.specs.declared.expr.Expr.{Expr}
use Rattle.physical_plan.specs.declared.plan.Plan.{Plan}
use Rattle.physical_plan.specs.declared.plan.Plan.TheOpen.{Plan-F}
use Rattle.physical_plan.specs.declared.plan.Plan.TheViews.{roll-Plan}
use Rattle.physical_plan.specs.declared.plan.Plan.TheFolds.{fold-roll-Plan, para-roll-Plan, map-Plan}
use Rattle.physical_plan.specs.Numbers.{numbers}
use Rattle.logical_plan.specs.Items.{Cells, Item, rows, concat, filtered, projected}
use Rattle.logical_plan.specs.Joins.{joined}
use Rattle.logical_plan.specs.Body.{Tables}
use Rattle.content_laws.specs.Bags.{SameBag, sum_below, together, Alike}
use Rattle.content_laws.proofs.Bags.{sums_front}
use Rattle.tree_laws.specs.Trees.{in_files}
use Rattle.plan_task_laws.specs.Trees.{Doing, dealt_files}
use Rattle.answer_laws.specs.Gives.{Yields, AllYield, AllJoin}
use Rattle.answer_laws.specs.Kept.{AllHold, IsKept}
use Rattle.answer_laws.specs.Meant.{Grouping, Meaning, answered, meant_node, meaning_of, grouping, Phases, TellsBy, Tells, files_of, is_whole, all_told, same_numbers, same_call, same_calls, finishes, told_node, is_told}
use Rattle.phase_laws.specs.Phases.{AreApart}
use Rattle.answer_laws.specs.Parted.{part, LawsOfParts, Delivers}
use Rattle.answer_laws.specs.Answering.{IsInput, IsAnswering}
use Rattle.answer_laws.proofs.Weights.{concat-append, flat_weighs, map_weighs, flat-append, weighed, together_weighs, together_concat, together_all, dealt, listed}

pub both_true : (a b : Bool) → a && b ≡ true → (a ≡ true) × (b ≡ true)
both_true true b h = (refl, h)
both_true false b h = absurd (false≢true h)

pub above_zero : (n : ℕ) → nat_lt 0 n ≡ true → 0 < n
above_zero zero h = absurd (false≢true h)
above_zero (suc n) h = omega arith

pub equal_is : (a b : ℕ) → a == b ≡ true → a ≡ b
equal_is a b h = elim (eqb_tells a b) [
  | inl v ↦ v.1
  | inr v ↦ absurd (false≢true (sym v.0 ∙ h))
]

pub all_pass : (kinds : List Kind) (rs : List Cells) → all_are kinds rs ≡ true → AllPass (are_of kinds) rs
all_pass kinds [] e k d l = absurd (omega arith)
all_pass kinds (r ∷ rs) e zero d l = (both_true (are_of kinds r) (all_are kinds rs) e).0
all_pass kinds (r ∷ rs) e (suc k) d l = all_pass kinds rs (both_true (are_of kinds r) (all_are kinds rs) e).1 k d (omega arith)

pub same_numbers_are : (xs ys : List ℕ) → same_numbers xs ys ≡ true → xs ≡ ys
same_numbers_are [] [] e = refl
same_numbers_are [] (y ∷ ys) e = absurd (false≢true e)
same_numbers_are (x ∷ xs) [] e = absurd (false≢true e)
same_numbers_are (x ∷ xs) (y ∷ ys) e = (let b = both_true (x == y) (same_numbers xs ys) e in ap (λ (z : ℕ). z ∷ xs) (equal_is x y b.0) ∙ ap (λ zs. y ∷ zs) (same_numbers_are xs ys b.1))

same_call_is : (c d : AggCall) → same_call c d ≡ true → c ≡ d
same_call_is CountAll CountAll e = refl
same_call_is (Count a) (Count b) e = ap Count (equal_is a b e)
same_call_is (Sum a) (Sum b) e = ap Sum (equal_is a b e)
same_call_is (Min a) (Min b) e = ap Min (equal_is a b e)
same_call_is (Max a) (Max b) e = ap Max (equal_is a b e)
same_call_is (Avg a) (Avg b) e = ap Avg (equal_is a b e)
same_call_is _ _ e = absurd (false≢true e)

pub same_calls_are : (xs ys : List AggCall) → same_calls xs ys ≡ true → xs ≡ ys
same_calls_are [] [] e = refl
same_calls_are [] (y ∷ ys) e = absurd (false≢true e)
same_calls_are (x ∷ xs) [] e = absurd (false≢true e)
same_calls_are (x ∷ xs) (y ∷ ys) e = (let b = both_true (same_call x y) (same_calls xs ys) e in ap (λ z. z ∷ xs) (same_call_is x y b.0) ∙ ap (λ zs. y ∷ zs) (same_calls_are xs ys b.1))

-- another arrangement of the same bag tells the same
tells_bag : (phases : Phases) (o : Option Grouping) (items : List Item) (xs ys : List (List Item)) → SameBag (concat ys) (concat xs) → TellsBy phases o items xs → TellsBy phases o items ys
tells_bag phases None items xs ys b h = λ w blind. b w ∙ h w blind
tells_bag phases (Some g) items xs ys b h = (h.0, h.1, λ w. b w ∙ h.2 w)

-- without states of groups, it is the items that are told
pub told_whole : (phases : Phases) (o : Option Grouping) (items : List Item) (xs : List (List Item)) → not (is_some o) ≡ true → TellsBy phases o items xs → Alike (concat xs) items
told_whole phases None items xs e h = h
told_whole phases (Some g) items xs e h = absurd (false≢true e)

module _ (f : Doing) (tables : Tables) (spread : Plan-F Plan → Bool) (phases : Phases) (answering : IsAnswering f tables spread phases) (laws : LawsOfParts phases)
    (stands : Plan → List (List Item) → Type 0) (standing : IsKept f stands) (delivers : Delivers spread stands) where
  abbrev Means : Plan → List (List Item) → Type 0
  Means p xs = is_told tables spread p ≡ true → Tells phases (meaning_of tables p) xs

  -- what stands of the partitions, and where the plan can be told, what they tell
  abbrev pub Holds : Plan → List (List Item) → Type 0
  Holds p xs = stands p xs × Means p xs

  -- a node, from its inputs
  level : (z : Plan-F Plan) (xs : List (List Item))
      → (told_node tables spread (map-Plan Plan (Plan × Bool) (λ p. (p, is_told tables spread p)) z) ≡ true → Tells phases (meant_node tables (map-Plan Plan Meaning (meaning_of tables) z)) xs)
      → Means (roll-Plan z) xs
  unfolding is_told meaning_of
  level z xs h = (let a = para-roll-Plan Bool (told_node tables spread) z in let b = fold-roll-Plan Meaning (meant_node tables) z in rw (a, b) h)

  files_read : (table files : ℕ) → files ≡ length (files_of tables table) → map (f.items table) (numbers files) ≡ files_of tables table
  files_read table files e = ap (λ (n : ℕ). map (f.items table) (numbers n)) e ∙ listed (f.items table) (files_of tables table) (λ i. answering.items table i)

  scanned : (table : ℕ) (kinds : List Kind) (files partitions source : ℕ)
      → Means (roll-Plan (Plan-F.Scan table kinds files partitions)) (map (λ (i : ℕ). in_files (dealt_files (f.items table) source files partitions i)) (numbers partitions))
  scanned table kinds files partitions source = level (Plan-F.Scan table kinds files partitions) (map (λ (i : ℕ). in_files (dealt_files (f.items table) source files partitions i)) (numbers partitions)) (λ e w blind. (
      let b = both_true (nat_lt 0 partitions) (files == length (files_of tables table)) e in
      dealt (f.items table) source files partitions (above_zero partitions b.0) w
      ∙ ap (λ xs. sum_by w (concat xs)) (files_read table files (equal_is files (length (files_of tables table)) b.1))))

  filters : (q : Plan) (test : Expr) (xs ys : List (List Item)) → Means q xs → AllYield (f.operator (Plan-F.Filter q test) 1) xs ys → Means (roll-Plan (Plan-F.Filter q test)) ys
  filters q test xs ys h a = level (Plan-F.Filter q test) ys (λ e w blind. (
      let b = both_true (is_told tables spread q) (is_whole (meaning_of tables q)) e in
      let m = meaning_of tables q in
      let t = told_whole phases m.groups m.items xs b.1 (h b.0) in
      let v : Item → ℕ = λ x. sum_by w (filtered test x) in
      weighed w v (f.operator (Plan-F.Filter q test) 1) (λ c t ins s r. ap (sum_by w) (answering.filter q test c t ins s r) ∙ flat_weighs w (filtered test) (ins 0)) xs ys a
      ∙ t v (λ g k. ap (λ (n : ℕ). 0 + n) (blind g k))
      ∙ sym (flat_weighs w (filtered test) m.items)))

  projects : (q : Plan) (items : List Expr) (xs ys : List (List Item)) → Means q xs → AllYield (f.operator (Plan-F.Project q items) 1) xs ys → Means (roll-Plan (Plan-F.Project q items)) ys
  projects q items xs ys h a = level (Plan-F.Project q items) ys (λ e w blind. (
      let b = both_true (is_told tables spread q) (is_whole (meaning_of tables q)) e in
      let m = meaning_of tables q in
      let t = told_whole phases m.groups m.items xs b.1 (h b.0) in
      let v : Item → ℕ = λ x. w (projected items x) in
      weighed w v (f.operator (Plan-F.Project q items) 1) (λ c t ins s r. ap (sum_by w) (answering.project q items c t ins s r) ∙ map_weighs w (projected items) (ins 0)) xs ys a
      ∙ t v blind
      ∙ sym (map_weighs w (projected items) m.items)))

  -- the segments of all partitions
  pub segmented : (q : Plan) (keys : List ℕ) (calls : List AggCall) → IsInput tables spread q → (xs ys : List (List Item)) → AllYield (f.operator (Plan-F.PartialGroup q keys calls) 1) xs ys
      → (segments : List (List Item)) × (concat segments ≡ concat xs) × SameBag (concat ys) (flat_map (phases.first (grouping keys calls (meaning_of tables q))) segments)
  segmented q keys calls i [] [] h = ([], refl, λ w. refl)
  segmented q keys calls i [] (y ∷ ys) h = absurd h
  segmented q keys calls i (x ∷ xs) [] h = absurd h
  segmented q keys calls i (x ∷ xs) (y ∷ ys) h =
      let a = h.0 in
      let g = phases.first (grouping keys calls (meaning_of tables q)) in
      let s = answering.partial q keys calls i a.consumer a.told a.taken a.split a.reads in
      let r = segmented q keys calls i xs ys h.1 in (
        s.0 ++ r.0,
        concat-append s.0 r.0 ∙ ap (λ zs. zs ++ concat r.0) (s.1 ∙ a.are 0) ∙ ap (λ zs. x ++ zs) r.1,
        λ w. (
            let b : sum_by w y ≡ sum_by w (flat_map g s.0) = ap (sum_by w) (a.gives ∙ s.2) in
            let c = sum_by-append w y (concat ys) in
            let d = flat-append w g s.0 r.0 in
            let e = r.2 w in
            omega arith),
      )

  partials : (q : Plan) (keys : List ℕ) (calls : List AggCall) (xs ys : List (List Item)) → Means q xs → AllYield (f.operator (Plan-F.PartialGroup q keys calls) 1) xs ys → Means (roll-Plan (Plan-F.PartialGroup q keys calls)) ys
  partials q keys calls xs ys h a = level (Plan-F.PartialGroup q keys calls) ys (λ e. (
      let b = both_true (is_told tables spread q) (is_whole (meaning_of tables q)) e in
      let m = meaning_of tables q in
      let t = told_whole phases m.groups m.items xs b.1 (h b.0) in
      let s = segmented q keys calls (record { told = b.0; items = b.1 }) xs ys a in
      (s.0, λ w blind. ap (sum_by w) s.1 ∙ t w blind, s.2)))

  sorts : (q : Plan) (keys : List SortKey) (xs ys : List (List Item)) → Means q xs → AllYield (f.operator (Plan-F.Sort q keys) 1) xs ys → Means (roll-Plan (Plan-F.Sort q keys)) ys
  sorts q keys xs ys h a = level (Plan-F.Sort q keys) ys (λ e. (
      let m = meaning_of tables q in
      tells_bag phases m.groups m.items xs ys (λ w. weighed w w (f.operator (Plan-F.Sort q keys) 1) (λ c t ins s r. answering.sort q keys c t ins s r w) xs ys a) (h e)))

  single : (y : List Item) (xs : List (List Item)) → SameBag y (concat xs) → SameBag (concat (y ∷ [])) (concat xs)
  single y xs h = subst (λ zs. SameBag zs (concat xs)) (sym (append-nil y)) h

  merges : (q : Plan) (keys : List SortKey) (xs : List (List Item)) (y : List Item) → Means q xs → Yields (f.operator (Plan-F.Merge q keys) (length xs)) xs y → Means (roll-Plan (Plan-F.Merge q keys)) (y ∷ [])
  merges q keys xs y h a = level (Plan-F.Merge q keys) (y ∷ []) (λ e. (
      let m = meaning_of tables q in
      let b : SameBag y (concat xs) = (λ w. ap (sum_by w) a.gives ∙ answering.merge q keys (length xs) a.consumer a.told a.taken a.split a.reads w ∙ together_all xs a.taken a.are w) in
      tells_bag phases m.groups m.items xs (y ∷ []) (single y xs b) (h e)))

  coalesces : (q : Plan) (xs : List (List Item)) (y : List Item) → Means q xs → SameBag y (concat xs) → Means (roll-Plan (Plan-F.Coalesce q)) (y ∷ [])
  coalesces q xs y h b = level (Plan-F.Coalesce q) (y ∷ []) (λ e. (let m = meaning_of tables q in tells_bag phases m.groups m.items xs (y ∷ []) (single y xs b) (h e)))

  repartitions : (q : Plan) (to : Partitioning) (xs ys : List (List Item)) → Means q xs → SameBag (concat ys) (concat xs) → Means (roll-Plan (Plan-F.Repartition q to)) ys
  repartitions q to xs ys h b = level (Plan-F.Repartition q to) ys (λ e. (let m = meaning_of tables q in tells_bag phases m.groups m.items xs ys b (h e)))

  all_tell : (ps : List Plan) (xs : List (List (List Item))) → AllHold Means ps xs → all_told (λ p. is_whole (meaning_of tables p)) (map (λ (p : Plan). (p, is_told tables spread p)) ps) ≡ true
      → Alike (concat (concat xs)) (concat (map (λ (m : Meaning). m.items) (map (meaning_of tables) ps)))
  all_tell [] [] h e w blind = refl
  all_tell [] (x ∷ xs) h e w blind = absurd h
  all_tell (p ∷ ps) [] h e w blind = absurd h
  all_tell (p ∷ ps) (x ∷ xs) h e w blind =
      let m = meaning_of tables p in
      let b = both_true (is_told tables spread p) (is_whole m && all_told (λ p. is_whole (meaning_of tables p)) (map (λ (p : Plan). (p, is_told tables spread p)) ps)) e in
      let d = both_true (is_whole m) (all_told (λ p. is_whole (meaning_of tables p)) (map (λ (p : Plan). (p, is_told tables spread p)) ps)) b.1 in
      let t = told_whole phases m.groups m.items x d.0 (h.0 b.0) w blind in
      let r = all_tell ps xs h.1 d.1 w blind in
      let a : sum_by w (concat (x ++ concat xs)) ≡ sum_by w (concat x ++ concat (concat xs)) = ap (sum_by w) (concat-append x (concat xs)) in
      let c = sum_by-append w (concat x) (concat (concat xs)) in
      let k = sum_by-append w m.items (concat (map (λ (m : Meaning). m.items) (map (meaning_of tables) ps))) in
      omega arith

  unions : (ps : List Plan) (xs : List (List (List Item))) → AllHold Means ps xs → Means (roll-Plan (Plan-F.UnionAll ps)) (concat xs)
  unions ps xs h = level (Plan-F.UnionAll ps) (concat xs) (λ e w blind. all_tell ps xs h e w blind)

  -- ------------------------------------------------------------ groups

  pub seconds : (q : Plan) (keys : List ℕ) (calls : List AggCall) (g : Grouping) → (meaning_of tables q).groups ≡ Some g → keys ≡ numbers (length g.columns) → calls ≡ g.calls
      → (w : Item → ℕ) (xs ys : List (List Item)) → AllYield (f.operator (Plan-F.FinalGroup q keys calls) 1) xs ys → sum_by w (concat ys) ≡ sum_by w (together (length xs) (λ i. phases.second g (part xs i)))
  seconds q keys calls g e k c w xs ys a = by xs ys a ∙ sym (together_concat w xs (phases.second g))
    where
      by : (xs ys : List (List Item)) → AllYield (f.operator (Plan-F.FinalGroup q keys calls) 1) xs ys → sum_by w (concat ys) ≡ sum_by w (concat (map (phases.second g) xs))
      by [] [] h = refl
      by [] (y ∷ ys) h = absurd h
      by (x ∷ xs) [] h = absurd h
      by (x ∷ xs) (y ∷ ys) h =
          let a = h.0 in
          let b : sum_by w y ≡ sum_by w (phases.second g x) = ap (sum_by w) (a.gives ∙ answering.final q keys calls g e k c a.consumer a.told a.taken a.split a.reads ∙ ap (phases.second g) (a.are 0)) in
          let d = sum_by-append w y (concat ys) in
          let i = sum_by-append w (phases.second g x) (concat (map (phases.second g) xs)) in
          let r = by xs ys h.1 in
          omega arith

  finals : (q : Plan) (keys : List ℕ) (calls : List AggCall) (xs ys : List (List Item)) → Holds q xs → AllYield (f.operator (Plan-F.FinalGroup q keys calls) 1) xs ys → Means (roll-Plan (Plan-F.FinalGroup q keys calls)) ys
  finals q keys calls xs ys h a = level (Plan-F.FinalGroup q keys calls) ys (λ e. (
      let m = meaning_of tables q in
      let t = finishes m.groups keys calls (rows m.items) in
      let b = both_true (is_told tables spread q) (t && spread (Plan-F.FinalGroup q keys calls)) e in
      let d = both_true t (spread (Plan-F.FinalGroup q keys calls)) b.1 in
      by m.groups refl (h.1 b.0) d.0 d.1))
    where
      by : (o : Option Grouping) → (meaning_of tables q).groups ≡ o → TellsBy phases o (meaning_of tables q).items xs → finishes o keys calls (rows (meaning_of tables q).items) ≡ true → spread (Plan-F.FinalGroup q keys calls) ≡ true
          → Tells phases (answered o (meaning_of tables q).items) ys
      by None e t n s = absurd (false≢true n)
      by (Some g) e t n s =
          let items = (meaning_of tables q).items in
          let b = both_true (same_numbers keys (numbers (length g.columns))) (same_calls calls g.calls && all_are g.kinds (rows items)) n in
          let d = both_true (same_calls calls g.calls) (all_are g.kinds (rows items)) b.1 in
          let k = same_numbers_are keys (numbers (length g.columns)) b.0 in
          let c = same_calls_are calls g.calls d.0 in
          let apart = subst (λ (ks : List ℕ). AreApart ks (length xs) (part xs)) k (delivers.gathered q keys calls xs s h.0) in
          λ w blind. seconds q keys calls g e k c w xs ys a
          ∙ laws.grouped g t.0 items (length xs) (part xs) (all_pass g.kinds (rows items) d.1) t.1 (λ v. together_all xs (part xs) (λ i. refl) v ∙ t.2 v) apart w blind

  -- ------------------------------------------------------------ joins

  pub joins_weigh : (kind : JoinKind) (p q : Plan) (keys : List (ℕ × ℕ)) (rest : Option Expr) → IsInput tables spread p → IsInput tables spread q → (w : Item → ℕ) (xs ys zs : List (List Item)) → length xs ≡ length ys
      → AllJoin (f.operator (Plan-F.HashJoin kind p q keys rest) 2) xs ys zs
      → sum_by w (concat zs) ≡ sum_below (length xs) (λ i. sum_by w (joined kind (length (meaning_of tables p).kinds) (length (meaning_of tables q).kinds) keys rest (part xs i) (part ys i)))
  joins_weigh kind p q keys rest u v w [] [] [] l h = refl
  joins_weigh kind p q keys rest u v w [] [] (z ∷ zs) l h = absurd h
  joins_weigh kind p q keys rest u v w [] (y ∷ ys) zs l h = absurd (omega arith)
  joins_weigh kind p q keys rest u v w (x ∷ xs) [] zs l h = absurd (omega arith)
  joins_weigh kind p q keys rest u v w (x ∷ xs) (y ∷ ys) [] l h = absurd h
  joins_weigh kind p q keys rest u v w (x ∷ xs) (y ∷ ys) (z ∷ zs) l h =
      let lw = length (meaning_of tables p).kinds in
      let rw2 = length (meaning_of tables q).kinds in
      let a = h.0 in
      let b : sum_by w z ≡ sum_by w (joined kind lw rw2 keys rest x y) =
      ap (sum_by w) a.gives ∙ answering.join kind p q keys rest u v a.consumer a.told a.taken a.split a.reads w ∙ ap (λ us. sum_by w (joined kind lw rw2 keys rest us (a.taken 1))) (a.are 0) ∙ ap (λ us. sum_by w (joined kind lw rw2 keys rest x us)) (a.are 1) in
      let c = sum_by-append w z (concat zs) in
      let r = joins_weigh kind p q keys rest u v w xs ys zs (omega arith) h.1 in
      let d = sums_front (length xs) (λ i. sum_by w (joined kind lw rw2 keys rest (part (x ∷ xs) i) (part (y ∷ ys) i))) in
      omega arith

  joins : (kind : JoinKind) (p q : Plan) (keys : List (ℕ × ℕ)) (rest : Option Expr) (xs ys zs : List (List Item)) → Holds p xs → Holds q ys
      → AllJoin (f.operator (Plan-F.HashJoin kind p q keys rest) 2) xs ys zs → Means (roll-Plan (Plan-F.HashJoin kind p q keys rest)) zs
  joins kind p q keys rest xs ys zs h i a = level (Plan-F.HashJoin kind p q keys rest) zs (λ e w blind. (
      let m = meaning_of tables p in
      let n = meaning_of tables q in
      let s = spread (Plan-F.HashJoin kind p q keys rest) in
      let b = both_true (is_told tables spread p && is_whole m) ((is_told tables spread q && is_whole n) && s) e in
      let c = both_true (is_told tables spread p) (is_whole m) b.0 in
      let d = both_true (is_told tables spread q && is_whole n) s b.1 in
      let k = both_true (is_told tables spread q) (is_whole n) d.0 in
      let t = told_whole phases m.groups m.items xs c.1 (h.1 c.0) in
      let u = told_whole phases n.groups n.items ys k.1 (i.1 k.0) in
      let o = delivers.matched kind p q keys rest xs ys d.1 h.0 i.0 in
      joins_weigh kind p q keys rest (record { told = c.0; items = c.1 }) (record { told = k.0; items = k.1 }) w xs ys zs o.0 a
      ∙ sym (together_weighs w (length xs) (λ j. joined kind (length m.kinds) (length n.kinds) keys rest (part xs j) (part ys j)))
      ∙ laws.of_joins kind (length m.kinds) (length n.kinds) keys rest (length xs) (part xs) (part ys) m.items n.items
      (λ v bl. together_all xs (part xs) (λ i. refl) v ∙ t v bl)
      (λ v bl. ap (λ (x : ℕ). sum_by v (together x (part ys))) o.0 ∙ together_all ys (part ys) (λ i. refl) v ∙ u v bl)
      o.1 w blind))

  -- ------------------------------------------------------------ every node

  stand_apart : (ps : List Plan) (xs : List (List (List Item))) → AllHold Holds ps xs → AllHold stands ps xs × AllHold Means ps xs
  stand_apart [] [] h = (tt, tt)
  stand_apart [] (x ∷ xs) h = absurd h
  stand_apart (p ∷ ps) [] h = absurd h
  stand_apart (p ∷ ps) (x ∷ xs) h = (let r = stand_apart ps xs h.1 in ((h.0.0, r.0), (h.0.1, r.1)))

  pub kept : IsKept f Holds
  kept = record {
    scan = λ table kinds files partitions source. (standing.scan table kinds files partitions source, scanned table kinds files partitions source);
    filter = λ q test xs ys h a. (standing.filter q test xs ys h.0 a, filters q test xs ys h.1 a);
    project = λ q items xs ys h a. (standing.project q items xs ys h.0 a, projects q items xs ys h.1 a);
    partial = λ q keys calls xs ys h a. (standing.partial q keys calls xs ys h.0 a, partials q keys calls xs ys h.1 a);
    final = λ q keys calls xs ys h a. (standing.final q keys calls xs ys h.0 a, finals q keys calls xs ys h a);
    join = λ kind p q keys rest xs ys zs h i a. (standing.join kind p q keys rest xs ys zs h.0 i.0 a, joins kind p q keys rest xs ys zs h i a);
    sort = λ q keys xs ys h a. (standing.sort q keys xs ys h.0 a, sorts q keys xs ys h.1 a);
    limit = λ q skip fetch xs ys h a. (standing.limit q skip fetch xs ys h.0 a, level (Plan-F.Limit q skip fetch) ys (λ e. absurd (false≢true e)));
    merge = λ q keys xs y h a. (standing.merge q keys xs y h.0 a, merges q keys xs y h.1 a);
    coalesce = λ q xs y h b o. (standing.coalesce q xs y h.0 b o, coalesces q xs y h.1 b);
    repartition = λ q to xs ys h n b s o. (standing.repartition q to xs ys h.0 n b s o, repartitions q to xs ys h.1 b);
    union = λ ps xs h. (let r = stand_apart ps xs h in (standing.union ps xs r.0, unions ps xs r.1));
  }
