-- Each task that sends does so in one of the known ways.
use Rattle.std.specs.Prelude.{◌%◌}
use Rattle.std.proofs.Common.{ℕ, zero, suc, ◌+◌, ◌<◌, ◌≤◌, ◌≡◌, ◌⊎◌, inl, inr, refl, sym, ap, ◌∙◌, subst, List, [], ◌∷◌, ◌++◌, length, get_or, true, false, Option, Some, None, is_some, arith, zero-add, add-zero}
use Rattle.std.proofs.lemmas.List.{length-append, append-nil, get_or_append_left, get_or-append-add}
use Rattle.std.proofs.lemmas.Bool.{false≢true, eq-eqb}
use Rattle.physical_plan.specs.declared.plan.Plan.{Plan}
use Rattle.plan_shape.specs.Layout.{Stage, layout, tasks_of, tasks_from, spills_of, stages_of, shape}
use Rattle.physical_plan.specs.Numbers.{numbers}
use Rattle.task_shape.specs.Shape.{TaskShape, Shape, task_at, has, no_task, is_group, width}
use Rattle.logical_plan.specs.Items.{concat}
use Rattle.tree_laws.specs.Tasks.{Split, Task}
use Rattle.tree_laws.specs.Runs.{the_task, for_channel}
use Rattle.content_laws.specs.Senders.{Deal, IsSender, AreSenders, IsOnlySender, SendsInOrder, IsLoneSender}
use Rattle.content_laws.specs.SenderKinds.{whole_split, hash_split, home_deal}
use Rattle.content_laws.proofs.SenderKinds.{whole_sender, hash_sender}
use Rattle.content_laws.proofs.Orders.{within_nil, whole_in_order, hash_in_order}
use Rattle.plan_task_laws.specs.Trees.{Doing, Seed, stages_in}
use Rattle.plan_task_laws.specs.Tops.{Way, Written, ByHash, InTurn, ToOne, ToOwn, Top, all_tops, targets_by, width_by}
use Rattle.plan_task_laws.specs.Starts.{in_turn, split_by, seeds_of, tasks_of as start_tasks}
use Rattle.plan_task_laws.specs.Reading.{AreOperators}
use Rattle.plan_task_laws.specs.Placed.{tasks_before, deal_by, deals_by, deals_in, deal_of, IsHashing, IsOpen, AllOpen, HasChannels}
use Rattle.plan_task_laws.proofs.Parts.{same_length}
use Rattle.plan_task_laws.proofs.Grown.{AreTops}
use Rattle.plan_task_laws.proofs.Aims.{has_number}
use Rattle.plan_task_laws.proofs.Placed.{of_length, all_are, placed, stage_is, group_is, is_group_of, past_end, place_in, sender_of, alone}
use Rattle.plan_task_laws.proofs.Laws.{splits}

-- ------------------------------------------------------------ each task is one of some stage's

abbrev pub Covered : Doing → List Top → ℕ → Type 0
Covered f ts u = (before : List Top) × (t : Top) × (after : List Top) × (i : ℕ) × (ts ≡ before ++ t ∷ after) × (i < length (seeds_of f t)) × (u ≡ tasks_before f before + i)

covered_in : (f : Doing) (s c : ℕ) (xs : List Stage) (ts : List Top) → AreTops f s xs ts → (u : ℕ) → u < length (tasks_from s c xs) → Covered f ts u
covered_in f s c [] [] h u l = absurd (omega arith)
covered_in f s c [] (t ∷ ts) h u l = absurd h
covered_in f s c (x ∷ xs) [] h u l = absurd h
covered_in f s c (x ∷ xs) (t ∷ ts) h u l =
    let n : length (seeds_of f t) ≡ length x.parts = same_length (t.stage + 1) (t.stage + 1 + stages_in t.plan) x.parts (seeds_of f t) h.0.parts in
    let ys = tasks_of s c x.parts x.targets in
    let d = c + length (spills_of x.parts) in
    let zs = tasks_from (s + 1) d xs in
    let m : length ys ≡ length x.parts = of_length s c x.parts x.targets in
    let k : length (ys ++ zs) ≡ length ys + length zs = length-append ys zs in
    elim (place_in ys zs no_task u) [
      | inl w ↦ (let v : u < length ys = w.0 in ([], t, ts, u, refl, omega arith, sym (zero-add u)))
      | inr w ↦ (
          let v : u ≡ length ys + w.0 = w.1 in
          let r = covered_in f (s + 1) d xs ts h.1 w.0 (omega arith) in
          let q : w.0 ≡ tasks_before f r.0 + r.3 = r.6 in
          (t ∷ r.0, r.1, r.2, r.3, ap (λ us. t ∷ us) r.4, r.5, omega arith))
    ]

pub covered : (f : Doing) → AreOperators f → (p : Plan) (u : ℕ) → u < length (shape p).tasks → Covered f (all_tops p) u
unfolding shape
covered f are p u l = covered_in f 0 0 (stages_of (layout p 1)) (all_tops p) (all_are f are p) u l

-- ------------------------------------------------------------ deals

deals_length : (deal : ℕ → Deal) (i : ℕ) (ss : List Seed) → length (deals_by deal i ss) ≡ length ss
deals_length deal i [] = refl
deals_length deal i (s ∷ ss) = ap suc (deals_length deal (i + 1) ss)

deals_at : (deal : ℕ → Deal) (j : ℕ) (ss : List Seed) (i : ℕ) (d : Deal) → i < length ss → get_or (deals_by deal j ss) i d ≡ deal (j + i)
deals_at deal j [] i d l = absurd (omega arith)
deals_at deal j (s ∷ ss) zero d l = ap deal (sym (add-zero j))
deals_at deal j (s ∷ ss) (suc i) d l = deals_at deal (j + 1) ss i d (omega arith) ∙ ap deal (let e : j + 1 + i ≡ j + suc i = omega arith in e)

deal_in : (f : Doing) (before after : List Top) (t : Top) (i : ℕ) (d : Deal) → i < length (seeds_of f t) → get_or (deals_in f (before ++ t ∷ after)) (tasks_before f before + i) d ≡ deal_by f t.way i
deal_in f [] after t i d l =
    let xs = deals_by (deal_by f t.way) 0 (seeds_of f t) in
    let n : length xs ≡ length (seeds_of f t) = deals_length (deal_by f t.way) 0 (seeds_of f t) in
    ap (λ (n : ℕ). get_or (xs ++ deals_in f after) n d) (zero-add i) ∙ get_or_append_left xs (deals_in f after) d i (omega arith) ∙ deals_at (deal_by f t.way) 0 (seeds_of f t) i d l ∙ ap (deal_by f t.way) (zero-add i)
deal_in f (b ∷ before) after t i d l =
    let xs = deals_by (deal_by f b.way) 0 (seeds_of f b) in
    let ys = deals_in f (before ++ t ∷ after) in
    let n : length xs ≡ length (seeds_of f b) = deals_length (deal_by f b.way) 0 (seeds_of f b) in
    let e : length (seeds_of f b) + tasks_before f before + i ≡ length xs + (tasks_before f before + i) = omega arith in
    ap (λ (n : ℕ). get_or (xs ++ ys) n d) e ∙ get_or-append-add xs ys (tasks_before f before + i) d ∙ deal_in f before after t i d l

pub deal_is : (f : Doing) (p : Plan) (before after : List Top) (t : Top) (i : ℕ) → all_tops p ≡ before ++ t ∷ after → i < length (seeds_of f t) → deal_of f p (tasks_before f before + i) ≡ deal_by f t.way i
deal_is f p before after t i e l = ap (λ ts. get_or (deals_in f ts) (tasks_before f before + i) (λ c xs. [])) e ∙ deal_in f before after t i (λ c xs. []) l

-- ------------------------------------------------------------ ways

past_numbers : (n c : ℕ) → has (numbers n) c ≡ false → n ≤ c
past_numbers n c h = elim (lt_or n c) [
  | inl l ↦ absurd (false≢true (sym h ∙ has_number 0 n c (omega arith) (omega arith)))
  | inr l ↦ l
]
  where
    lt_or : (n c : ℕ) → (c < n) ⊎ (n ≤ c)
    lt_or n c = grind arith

turn_sender : (f : Doing) (p : Shape) (u g n i : ℕ) → (task_at p u).targets ≡ numbers n → width p g ≡ n → 0 < n → IsSender p u g (in_turn n i) (home_deal 0)
turn_sender f p u g zero i a b l = absurd (omega arith)
turn_sender f p u g (suc n) i a b l = whole_sender p u g (λ j. (i + j) % suc n) 0 (subst (λ xs. has xs 0 ≡ true) (sym a) refl) (omega arith)

way_sender : (f : Doing) (p : Shape) (u g : ℕ) (w : Way) (i m : ℕ) → IsHashing f → (task_at p u).targets ≡ targets_by w i → width p g ≡ width_by w m → i < m → IsOpen w → is_some (split_by f w i) ≡ true
    → (split : Split) × (split_by f w i ≡ Some split) × IsSender p u g split (deal_by f w i)
way_sender f p u g Written i m h a b l s o = absurd (false≢true o)
way_sender f p u g (ByHash columns n) i m h a b l s o = (
  hash_split (f.channel columns n) n,
  refl,
  hash_sender (f.channel columns n) p u g n (λ row. h columns n row s) s b (λ c q. past_numbers n c (ap (λ xs. has xs c) (sym a) ∙ q)),
)
way_sender f p u g (InTurn n) i m h a b l s o = (in_turn n i, refl, turn_sender f p u g n i a b s)
way_sender f p u g ToOne i m h a b l s o = (whole_split (λ j. 0), refl, whole_sender p u g (λ j. 0) 0 (subst (λ xs. has xs 0 ≡ true) (sym a) refl) (omega arith))
way_sender f p u g ToOwn i m h a b l s o = (whole_split (λ j. i), refl, whole_sender p u g (λ j. i) i (subst (λ xs. has xs i ≡ true) (sym a) (rw (eq-eqb i i refl) refl)) (omega arith))

open_at : (before after : List Top) (t : Top) → AllOpen (before ++ t ∷ after) → IsOpen t.way
open_at [] after t h = h.0
open_at (b ∷ before) after t h = open_at before after t h.1

pub are_senders : (f : Doing) → AreOperators f → IsHashing f → (p : Plan) → HasChannels p → AreSenders (shape p) (start_tasks f p) (deal_of f p)
are_senders f are hashing p wide u g h =
    let v = covered f are p u (past_end (shape p).tasks u g h) in
    let before = v.0 in
    let t = v.1 in
    let after = v.2 in
    let i = v.3 in
    let r = placed f are p before after t v.4 i v.5 in
    let q : task_at (shape p) u ≡ task_at (shape p) (tasks_before f before + i) = ap (task_at (shape p)) v.6 in
    let k : the_task (start_tasks f p) u ≡ the_task (start_tasks f p) (tasks_before f before + i) = ap (the_task (start_tasks f p)) v.6 in
    let e : t.stage ≡ g = group_is t.stage g (ap (λ (o : Option ℕ). is_group o g) (sym r.sends) ∙ ap (λ (x : TaskShape). is_group x.sends g) (sym q) ∙ h) in
    let w = (stage_is f are p before after t v.4).1 in
    let o : is_some (split_by f t.way i) ≡ true = ap (λ (x : Task). is_some x.split) (sym r.task) ∙ ap (λ (x : Task). is_some x.split) (sym k) ∙ splits f are p u ∙ sends_some (task_at (shape p) u).sends g h in
    let s = way_sender f (shape p) u g t.way i (length (seeds_of f t)) hashing (ap (λ (x : TaskShape). x.targets) q ∙ r.targets) (ap (λ (n : ℕ). width (shape p) n) (sym e) ∙ w) v.5 (open_at before after t (subst AllOpen v.4 wide)) o in
    let d : deal_of f p u ≡ deal_by f t.way i = ap (deal_of f p) v.6 ∙ deal_is f p before after t i v.4 v.5 in
    (s.0, ap (λ (x : Task). x.split) k ∙ ap (λ (x : Task). x.split) r.task ∙ s.1, subst (λ (y : Deal). IsSender (shape p) u g s.0 y) (sym d) s.2)
  where
    sends_some : (o : Option ℕ) (g : ℕ) → is_group o g ≡ true → is_some o ≡ true
    sends_some None g h = absurd (false≢true h)
    sends_some (Some x) g h = refl

-- ------------------------------------------------------------ a merging stage

pub only_sender : (f : Doing) → AreOperators f → (p : Plan) (before after : List Top) (t : Top) → all_tops p ≡ before ++ t ∷ after → 0 < t.stage → t.way ≡ ToOwn → (i : ℕ) → i < length (seeds_of f t)
    → IsOnlySender (shape p) (start_tasks f p) (deal_of f p) (tasks_before f before + i) t.stage i
only_sender f are p before after t e g w i l =
    let u = tasks_before f before + i in
    let r = placed f are p before after t e i l in
    let m = (stage_is f are p before after t e).1 in
    let d : deal_of f p u ≡ home_deal i = deal_is f p before after t i e l ∙ ap (λ (v : Way). deal_by f v i) w in
    let q : (the_task (start_tasks f p) u).split ≡ Some (whole_split (λ j. i)) = ap (λ (x : Task). x.split) r.task ∙ ap (λ (v : Way). split_by f v i) w in
    record {
      sends = ap (λ (o : Option ℕ). is_group o t.stage) r.sends ∙ is_group_of t.stage g;
      inside = (let z : width (shape p) t.stage ≡ length (seeds_of f t) = m ∙ ap (λ (v : Way). width_by v (length (seeds_of f t))) w in omega arith);
      alone = λ v h. sym (alone f are p before after t e w v i h);
      here = λ split h j b. (
          let z : whole_split (λ j. i) ≡ split = (let y : Some (whole_split (λ j. i)) ≡ Some split = sym q ∙ h in cc) in
          ap (λ (x : Split). concat (for_channel i (x j b))) (sym z) ∙ rw (eq-eqb i i refl) (append-nil b));
      dealt = λ xs. ap (λ (x : Deal). x i xs) d ∙ rw (eq-eqb i i refl) refl;
    }

-- ------------------------------------------------------------ a stage of one partition

some_is : (x y : Split) → Some x ≡ Some y → x ≡ y
some_is x y e = cc

turn_in_order : (n i : ℕ) → SendsInOrder (in_turn n i) (home_deal 0)
turn_in_order zero i = record { parts = λ c j b. within_nil b; dealt = λ c xs. (whole_in_order (λ j. 0) 0).dealt c xs }
turn_in_order (suc n) i = whole_in_order (λ j. (i + j) % suc n) 0

way_in_order : (f : Doing) (w : Way) (i : ℕ) (split : Split) → split_by f w i ≡ Some split → SendsInOrder split (deal_by f w i)
way_in_order f Written i x e = cc
way_in_order f (ByHash columns n) i x e = subst (λ (y : Split). SendsInOrder y (deal_by f (ByHash columns n) i)) (some_is (hash_split (f.channel columns n) n) x e) (hash_in_order (f.channel columns n) n)
way_in_order f (InTurn n) i x e = subst (λ (y : Split). SendsInOrder y (home_deal 0)) (some_is (in_turn n i) x e) (turn_in_order n i)
way_in_order f ToOne i x e = subst (λ (y : Split). SendsInOrder y (home_deal 0)) (some_is (whole_split (λ j. 0)) x e) (whole_in_order (λ j. 0) 0)
way_in_order f ToOwn i x e = subst (λ (y : Split). SendsInOrder y (home_deal i)) (some_is (whole_split (λ j. i)) x e) (whole_in_order (λ j. i) i)

pub lone_sender : (f : Doing) → AreOperators f → (p : Plan) (before after : List Top) (t : Top) → all_tops p ≡ before ++ t ∷ after → 0 < t.stage → length (seeds_of f t) ≡ 1 → (i : ℕ) → i < length (seeds_of f t)
    → IsLoneSender (shape p) (start_tasks f p) (deal_of f p) (tasks_before f before + i) t.stage
lone_sender f are p before after t e g one i l =
    let u = tasks_before f before + i in
    let r = placed f are p before after t e i l in
    let d : deal_of f p u ≡ deal_by f t.way i = deal_is f p before after t i e l in
    record {
      sends = ap (λ (o : Option ℕ). is_group o t.stage) r.sends ∙ is_group_of t.stage g;
      alone = λ v h. (
          let s = sender_of f are p before after t e v h in
          let k : s.0 < length (seeds_of f t) = s.1 in
          let q : i ≡ s.0 = (omega arith) in
          ap (λ (n : ℕ). tasks_before f before + n) q ∙ sym s.2);
      ordered = λ split h. subst (λ (y : Deal). SendsInOrder split y) (sym d) (way_in_order f t.way i split (sym (ap (λ (x : Task). x.split) r.task) ∙ h));
    }
