-- The tasks of a start are those of the shape.
use Rattle.std.specs.Prelude.{◌%◌}
use Rattle.std.proofs.Common.{ℕ, zero, suc, ◌+◌, ◌<◌, ◌≡◌, refl, sym, ap, ◌∙◌, subst, List, [], ◌∷◌, ◌++◌, length, get_or, true, Option, Some, None, is_some, arith}
use Rattle.std.proofs.lemmas.Bool.{false≢true}
use Rattle.physical_plan.specs.declared.plan.Plan.{Plan}
use Rattle.plan_shape.specs.Layout.{Part, Stage, layout, tasks_of, tasks_from, spills_of, shape, group_of, head_or, tail_of}
use Rattle.physical_plan.specs.Numbers.{numbers_from}
use Rattle.task_shape.specs.Shape.{TaskShape, names, has, no_task}
use Rattle.logical_plan.specs.Items.{Cells}
use Rattle.tree_laws.specs.Trees.{Tree, HasInlet, HasConsumer, gave_of}
use Rattle.tree_laws.specs.Tasks.{Split, Task, IsTask, IsOut}
use Rattle.tree_laws.specs.Runs.{the_task, AllTo, IsStart, no_task as nobody}
use Rattle.tree_laws.specs.Batches.{SendsRows, IsFilled, AreFilled}
use Rattle.tree_laws.specs.Held.{IsApart, IsHolding}
use Rattle.tree_laws.specs.Exits.{HeadsOwn}
use Rattle.content_laws.specs.SenderKinds.{whole_split, hash_split}
use Rattle.content_laws.proofs.Received.{whole_rows, hash_rows}
use Rattle.plan_task_laws.specs.Trees.{Doing, Seed, partitions_of, stages_in}
use Rattle.plan_task_laws.specs.Tops.{Way, Written, ByHash, InTurn, ToOne, ToOwn, Top, tops}
use Rattle.plan_task_laws.specs.Starts.{in_turn, split_by, starting, tasks_by, consumers_in, seeds_of, tasks_in, start_of, tasks_of as start_tasks}
use Rattle.plan_task_laws.specs.Reading.{AreOperators}
use Rattle.plan_task_laws.proofs.Fresh.{fresh_linked, fresh_holds, gave_nothing}
use Rattle.plan_task_laws.proofs.Nodes.{IsPart}
use Rattle.plan_task_laws.proofs.Parts.{AreParts}
use Rattle.plan_task_laws.proofs.Aims.{Aims, AllAim, way_aims, written_aims}
use Rattle.plan_task_laws.proofs.Grown.{AreTops, AllSend, grows}
use Rattle.plan_task_laws.proofs.Read.{reads_has, reserves_has, is_apart, count_names, count_has, numbers_once}

-- a task of the shape and one of the start
pub record TaskFits (size : ℕ) (t : TaskShape) (k : Task) : Type 0 where
  pub inlets : (g c : ℕ) → HasInlet g c k.tree → names t.receives g c ≡ true
  pub consumers : (c : ℕ) → HasConsumer c k.tree → has t.consumers c ≡ true
  pub sends : (split : Split) → k.split ≡ Some split → (g : ℕ) × (t.sends ≡ Some g) × ((j : ℕ) (b : List Cells) → AllTo (has t.targets) (split j b))
  pub splits : is_some k.split ≡ is_some t.sends
  pub task : IsTask size [] k
  pub apart : IsApart k.tree
  pub holds : IsHolding (λ c. 0) k.tree
  pub heads : HeadsOwn k
  pub filled : IsFilled k

abbrev pub AllFit : ℕ → List TaskShape → List Task → Type 0
AllFit size [] [] = Unit {0}
AllFit size [] (k ∷ ks) = ⊥
AllFit size (t ∷ ts) [] = ⊥
AllFit size (t ∷ ts) (k ∷ ks) = TaskFits size t k × AllFit size ts ks

all_both : (size : ℕ) (ts us : List TaskShape) (ks ls : List Task) → AllFit size ts ks → AllFit size us ls → AllFit size (ts ++ us) (ks ++ ls)
all_both size [] us [] ls h i = i
all_both size [] us (k ∷ ks) ls h i = absurd h
all_both size (t ∷ ts) us [] ls h i = absurd h
all_both size (t ∷ ts) us (k ∷ ks) ls h i = (h.0, all_both size ts us ks ls h.1 i)

starts_out : (split : Option Split) (tree : Tree) → gave_of tree ≡ [] → IsOut [] (starting split tree) split
starts_out None tree g = (sym g, refl, refl)
starts_out (Some x) tree g = record { cuts = []; rows = sym g; count = refl; parts = refl }

some_group : (o : Option ℕ) → true ≡ is_some o → (g : ℕ) × (o ≡ Some g)
some_group None e = absurd (false≢true (sym e))
some_group (Some g) e = (g, refl)

starts_heads : (split : Option Split) (tree : Tree) → HeadsOwn (starting split tree)
starts_heads None tree e = refl
starts_heads (Some x) tree e = absurd (false≢true e)

-- a batch that has rows is cut into parts that have rows
abbrev Fills : Option Split → Type 0
Fills o = (x : Split) → o ≡ Some x → SendsRows x

some_is : (x y : Split) → Some x ≡ Some y → x ≡ y
some_is x y e = cc

turn_fills : (n i : ℕ) → SendsRows (in_turn n i)
turn_fills zero i j b h = tt
turn_fills (suc n) i j b h = whole_rows (λ j. (i + j) % suc n) j b h

way_fills : (f : Doing) (w : Way) (i : ℕ) → Fills (split_by f w i)
way_fills f Written i x e = cc
way_fills f (ByHash columns n) i x e = subst SendsRows (some_is (hash_split (f.channel columns n) n) x e) (hash_rows (f.channel columns n) n)
way_fills f (InTurn n) i x e = subst SendsRows (some_is (in_turn n i) x e) (turn_fills n i)
way_fills f ToOne i x e = subst SendsRows (some_is (whole_split (λ j. 0)) x e) (whole_rows (λ j. 0))
way_fills f ToOwn i x e = subst SendsRows (some_is (whole_split (λ j. i)) x e) (whole_rows (λ j. i))

task_fits : (size k m s c : ℕ) (p : Part) (seed : Seed) (split : Option Split) (ts : List ℕ) → IsPart k m p seed → Aims split ts → Fills split → is_some split ≡ is_some (group_of s)
    → TaskFits size (record { stage = s; sends = group_of s; targets = ts; receives = p.receives; consumers = numbers_from c (length p.consumers) }) (starting split (seed.tree c))
task_fits size k m s c p seed split ts h a r e = record {
  inlets = λ g d i. count_names p.receives g d (reads_has (seed.tree c) p.receives g d (h.reads c) i);
  consumers = λ d i. count_has (numbers_from c (length p.consumers)) d (reserves_has (seed.tree c) (numbers_from c (length p.consumers)) d (h.reserves c) i);
  sends = λ x q. (let g = some_group (group_of s) (sym (ap is_some q) ∙ e) in (g.0, g.1, a x q));
  splits = e;
  task = record {
    linked = fresh_linked size (seed.tree c) (h.fresh c) apart;
    out = starts_out split (seed.tree c) (gave_nothing (seed.tree c) (h.fresh c));
    left = λ x d. absurd (false≢true x);
  };
  apart = apart;
  holds = fresh_holds (seed.tree c) (h.fresh c);
  heads = starts_heads split (seed.tree c);
  filled = record { split = r; parts = tt };
}
  where
    apart : IsApart (seed.tree c)
    apart = is_apart (seed.tree c) p.receives (numbers_from c (length p.consumers)) (h.reads c) (h.reserves c) h.once (numbers_once c (length p.consumers))

stage_fits : (size k m s i c : ℕ) (ps : List Part) (ss : List Seed) (f : Doing) (w : Way) (ts : List (List ℕ)) → AreParts k m ps ss → AllAim w i ps ts → ((j : ℕ) → is_some (split_by f w j) ≡ is_some (group_of s))
    → AllFit size (tasks_of s c ps ts) (tasks_by (split_by f w) i c ss)
stage_fits size k m s i c [] [] f w ts h a e = tt
stage_fits size k m s i c [] (x ∷ ss) f w ts h a e = absurd h
stage_fits size k m s i c (p ∷ ps) [] f w ts h a e = absurd h
stage_fits size k m s i c (p ∷ ps) (x ∷ ss) f w ts h a e = (
  task_fits size k m s c p x (split_by f w i) (head_or ts) h.0 (subst (λ (xs : List ℕ). Aims (split_by f w i) xs) (sym a.0) (way_aims f w i)) (way_fills f w i) (e i),
  subst (λ (n : ℕ). AllFit size (tasks_of s (c + length p.consumers) ps (tail_of ts)) (tasks_by (split_by f w) (i + 1) (c + n) ss)) (sym (ap length h.0.consumers))
      (stage_fits size k m s (i + 1) (c + length p.consumers) ps ss f w (tail_of ts) h.1 a.1 e),
)

pub same_spills : (k m : ℕ) (ps : List Part) (ss : List Seed) → AreParts k m ps ss → consumers_in ss ≡ spills_of ps
same_spills k m [] [] h = refl
same_spills k m [] (x ∷ ss) h = absurd h
same_spills k m (p ∷ ps) [] h = absurd h
same_spills k m (p ∷ ps) (x ∷ ss) h = ap (λ bs. bs ++ consumers_in ss) h.0.consumers ∙ ap (λ bs. p.consumers ++ bs) (same_spills k m ps ss h.1)

is_group_at : (s : ℕ) → 0 < s → true ≡ is_some (group_of s)
is_group_at zero h = absurd (omega arith)
is_group_at (suc s) h = refl

stages_fit : (f : Doing) (size s c : ℕ) (xs : List Stage) (ts : List Top) → 0 < s → AreTops f s xs ts → AllSend ts → AllFit size (tasks_from s c xs) (tasks_in f c ts)
stages_fit f size s c [] [] l h o = tt
stages_fit f size s c [] (t ∷ ts) l h o = absurd h
stages_fit f size s c (x ∷ xs) [] l h o = absurd h
stages_fit f size s c (x ∷ xs) (t ∷ ts) l h o =
    let k = t.stage + 1 in
    let m = t.stage + 1 + stages_in t.plan in
    all_both size (tasks_of s c x.parts x.targets) (tasks_from (s + 1) (c + length (spills_of x.parts)) xs) (tasks_by (split_by f t.way) 0 c (seeds_of f t)) (tasks_in f (c + length (consumers_in (seeds_of f t))) ts)
    (stage_fits size k m s 0 c x.parts (seeds_of f t) f t.way x.targets h.0.parts h.0.aims (λ j. o.0 f j ∙ is_group_at s l))
    (subst (λ (n : ℕ). AllFit size (tasks_from (s + 1) (c + length (spills_of x.parts)) xs) (tasks_in f (c + n) ts)) (sym (ap length (same_spills k m x.parts (seeds_of f t) h.0.parts)))
    (stages_fit f size (s + 1) (c + length (spills_of x.parts)) xs ts (omega arith) h.1 o.1))

pub all_fit : (f : Doing) → AreOperators f → (size : ℕ) (p : Plan) → AllFit size (shape p).tasks (start_tasks f p)
unfolding shape
all_fit f are size p =
    let g = grows f are p in
    let ps = (layout p 1).parts in
    let ss = partitions_of f p 1 0 in
    all_both size (tasks_of 0 0 ps []) (tasks_from 1 (0 + length (spills_of ps)) (layout p 1).stages) (tasks_by (split_by f Written) 0 0 ss) (tasks_in f (0 + length (consumers_in ss)) (tops p 1 0))
    (stage_fits size 1 (1 + stages_in p) 0 0 0 ps ss f Written [] (g.parts 1 0) (written_aims 0 ps) (λ j. refl))
    (subst (λ (n : ℕ). AllFit size (tasks_from 1 (0 + length (spills_of ps)) (layout p 1).stages) (tasks_in f (0 + n) (tops p 1 0))) (sym (ap length (same_spills 1 (1 + stages_in p) ps ss (g.parts 1 0))))
    (stages_fit f size 1 (0 + length (spills_of ps)) (layout p 1).stages (tops p 1 0) (omega arith) (g.tops 1 0) (g.sends 1 0)))

-- ------------------------------------------------------------ by place

nobody_fits : (size : ℕ) → TaskFits size no_task nobody
nobody_fits size = record {
  inlets = λ g c h. absurd h;
  consumers = λ c h. absurd h;
  sends = λ split e. absurd (false≢true (ap is_some e));
  splits = refl;
  task = record { linked = tt; out = (refl, refl, refl); left = λ e c. absurd (false≢true e) };
  apart = tt;
  holds = tt;
  heads = λ e. refl;
  filled = record { split = λ x e. absurd (false≢true (ap is_some e)); parts = tt };
}

pub fit_at : (size : ℕ) (ts : List TaskShape) (ks : List Task) (t : ℕ) → AllFit size ts ks → TaskFits size (get_or ts t no_task) (get_or ks t nobody)
fit_at size [] [] t h = nobody_fits size
fit_at size [] (k ∷ ks) t h = absurd h
fit_at size (x ∷ ts) [] t h = absurd h
fit_at size (x ∷ ts) (k ∷ ks) zero h = h.0
fit_at size (x ∷ ts) (k ∷ ks) (suc t) h = fit_at size ts ks t h.1

pub fit_length : (size : ℕ) (ts : List TaskShape) (ks : List Task) → AllFit size ts ks → length ks ≡ length ts
fit_length size [] [] h = refl
fit_length size [] (k ∷ ks) h = absurd h
fit_length size (x ∷ ts) [] h = absurd h
fit_length size (x ∷ ts) (k ∷ ks) h = ap suc (fit_length size ts ks h.1)

pub is_start : (f : Doing) → AreOperators f → (p : Plan) (size limit : ℕ) → IsStart (shape p) size limit (start_of f p limit)
is_start f are p size limit =
    let h = all_fit f are size p in
    record {
      run = refl;
      long = fit_length size (shape p).tasks (start_tasks f p) h;
      task = λ t. (fit_at size (shape p).tasks (start_tasks f p) t h).task;
      fits = λ t. (let k = fit_at size (shape p).tasks (start_tasks f p) t h in record { inlets = k.inlets; consumers = k.consumers; sends = k.sends });
    }

-- the task of the start with this number, as the shape has it
start_fits : (f : Doing) → AreOperators f → (p : Plan) (t : ℕ) → TaskFits 0 (get_or (shape p).tasks t no_task) (the_task (start_tasks f p) t)
start_fits f are p t = fit_at 0 (shape p).tasks (start_tasks f p) t (all_fit f are 0 p)

pub begins : (f : Doing) → AreOperators f → (p : Plan) (t : ℕ) → IsApart (the_task (start_tasks f p) t).tree × IsHolding (λ c. 0) (the_task (start_tasks f p) t).tree
begins f are p t = (let k = start_fits f are p t in (k.apart, k.holds))

pub heads : (f : Doing) → AreOperators f → (p : Plan) (t : ℕ) → HeadsOwn (the_task (start_tasks f p) t)
heads f are p t = (start_fits f are p t).heads

pub filled : (f : Doing) → AreOperators f → (p : Plan) → AreFilled (start_tasks f p)
filled f are p t = (start_fits f are p t).filled
