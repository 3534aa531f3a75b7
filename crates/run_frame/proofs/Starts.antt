-- The parts of a run before its first entry.
use Rattle.std.proofs.Common.{ℕ, zero, suc, ◌+◌, ◌<◌, ◌≤◌, ◌≡◌, ◌≢◌, ◌⊎◌, inl, inr, refl, sym, ap, ◌∙◌, subst, List, [], ◌∷◌, ◌++◌, length, get_or, set, take, map, cond, eqb, Bool, true, false, Option, Some, None, arith, add-one, get_or-set_same}
use Rattle.std.specs.Prelude.{replicate}
use Rattle.std.proofs.lemmas.Bool.{eq-eqb}
use Rattle.std.proofs.lemmas.Bool.Decides.{eqb_tells}
use Rattle.std.proofs.lemmas.List.{map-set, length-map}
use Rattle.std.proofs.Math.ListN.{length-set, get_or-eq_default}
use Rattle.gate_channels.specs.Gate.{Channel, Gate}
use Rattle.gate_channels.specs.Group.{Grouped, opened_for, opened_gate}
use Rattle.task_shape.specs.Numbers.{one, count}
use Rattle.task_shape.proofs.Numbers.{one_yes, one_no, same_or_not}
use Rattle.fair_pool.specs.Share.{Pool, unreserved}
use Rattle.task_shape.specs.Shape.{Shape, IsShape, TaskShape, no_task, task_at, has, width, sends_at, count_below}
use Rattle.core_frame.specs.Frame.{tabulate, open_channel, open_gate, opening}
use Rattle.core_frame.specs.declared.place.Place.{Place}
use Rattle.core_frame.specs.declared.place.Place.TheVariants.{Woken, OwnedBy, Done}
use Rattle.core_frame.specs.Step.{wake_all}
use Rattle.core_frame.proofs.Lists.{read_other}
use Rattle.core_frame.proofs.Sound.{lawful_opening}
use Rattle.core_frame.specs.Lawful.{IsLawful}
use Rattle.run_frame.specs.Running.{IsRunning, IsRunnable, AllAre, count_unfinished, frame_of}
use Rattle.run_frame.proofs.Tells.{read_default}
use Rattle.run_frame.specs.Counts.{CountsSenders, CountsAt, CountsTask, zeros_for}

-- ------------------------------------------------------------ targets, one by one
pub count_take : (c : ℕ) (xs : List ℕ) (i : ℕ) → i < length xs → count c (take (i + 1) xs) ≡ count c (take i xs) + one (get_or xs i 0) c
count_take c xs i h = rw add-one (at xs i h)
  where
    at : (xs : List ℕ) (i : ℕ) → i < length xs → count c (take (suc i) xs) ≡ count c (take i xs) + one (get_or xs i 0) c
    at [] i h = absurd (omega arith)
    at (x ∷ xs) zero h = omega arith
    at (x ∷ xs) (suc i) h = let r : count c (take (suc i) xs) ≡ count c (take i xs) + one (get_or xs i 0) c = at xs i (omega arith) in omega arith

pub count_counted : (senders before : List ℕ) (at sum : ℕ) (xs : List ℕ) (i c : ℕ) → i < length xs → at ≡ get_or xs i 0 → length senders ≡ length before → c < length before → sum ≡ get_or senders at 0 + 1
    → get_or senders c 0 ≡ get_or before c 0 + count c (take i xs) → get_or (set senders at sum) c 0 ≡ get_or before c 0 + count c (take (i + 1) xs)
count_counted senders before at sum xs i c h e l j s k = elim (same_or_not at c) [
  | inl a ↦ (let t : count c (take (i + 1) xs) ≡ count c (take i xs) + one (get_or xs i 0) c = count_take c xs i h in
      let o : one (get_or xs i 0) c ≡ 1 = one_yes (get_or xs i 0) c (sym e ∙ a) in
      let r : get_or (set senders at sum) c 0 ≡ sum = subst (λ z. get_or (set senders z sum) c 0 ≡ sum) (sym a) (get_or-set_same senders c sum 0 (omega arith)) in
      let q : get_or senders at 0 ≡ get_or senders c 0 = ap (λ z. get_or senders z 0) a in
      omega arith)
  | inr n ↦ (let t : count c (take (i + 1) xs) ≡ count c (take i xs) + one (get_or xs i 0) c = count_take c xs i h in
      let o : one (get_or xs i 0) c ≡ 0 = one_no (get_or xs i 0) c (λ z. n (e ∙ z)) in
      let r : get_or (set senders at sum) c 0 ≡ get_or senders c 0 = read_other senders at c sum 0 n in
      omega arith)
]

-- what is read of a list is read of its image
pub mapped_at : {A C : Type 0} (xs : List A) (i : ℕ) (x : A) (f : A → C) (d : C) → i < length xs → x ≡ get_or xs i x → f x ≡ get_or (map f xs) i d
mapped_at [] i x f d h e = absurd (omega arith)
mapped_at (y ∷ xs) zero x f d h e = ap f e
mapped_at (y ∷ xs) (suc i) x f d h e = mapped_at xs i x f d (omega arith) e

map_more : {A C : Type 0} (xs : List A) (x : A) (f : A → C) → map f (xs ++ x ∷ []) ≡ map f xs ++ f x ∷ []
map_more [] x f = refl
map_more (y ∷ xs) x f = ap (λ ys. f y ∷ ys) (map_more xs x f)

take_more : {A C : Type 0} (ws : List A) (i : ℕ) (w : A) (h : A → C) → i < length ws → map h (take (suc i) ws) ≡ map h (take i ws) ++ h (get_or ws i w) ∷ []
take_more [] i w h l = absurd (omega arith)
take_more (v ∷ ws) zero w h l = refl
take_more (v ∷ ws) (suc i) w h l = ap (λ ys. h v ∷ ys) (take_more ws i w h (omega arith))

-- one more of both
pub maps_more : {A W C : Type 0} (xs ys : List A) (x : A) (ws : List W) (i : ℕ) (w : W) (f : A → C) (h : W → C) → ys ≡ xs ++ x ∷ [] → i < length ws → w ≡ get_or ws i w → map f xs ≡ map h (take i ws) → f x ≡ h w → map f ys ≡ map h (take (i + 1) ws)
maps_more xs ys x ws i w f h e l a m s = rw add-one (ap (map f) e ∙ (map_more xs x f ∙ (ap (λ zs. zs ++ f x ∷ []) m ∙ (ap (λ z. map h (take i ws) ++ z ∷ []) (s ∙ ap h a) ∙ sym (take_more ws i w h l)))))

pub rooms_more : {A : Type 0} (n : ℕ) (xs ys : List A) (x : A) (f : A → ℕ) → ys ≡ xs ++ x ∷ [] → AllAre n (map f xs) → f x ≡ n → AllAre n (map f ys)
rooms_more {A} n xs ys x f e a s = subst (λ zs. AllAre n (map f zs)) (sym e) (at xs a)
  where
    at : (xs : List A) → AllAre n (map f xs) → AllAre n (map f (xs ++ x ∷ []))
    at [] a = (s, tt)
    at (y ∷ xs) a = (a.0, at xs a.1)

-- ------------------------------------------------------------ tasks, one by one
zero_at : (n c : ℕ) → ◌≡◌ {A = ℕ} (get_or (replicate {A = ℕ} n 0) c 0) 0
zero_at zero c = refl
zero_at (suc n) zero = refl
zero_at (suc n) (suc c) = zero_at n c

length_zeros : (n : ℕ) → length (replicate {A = ℕ} n 0) ≡ n
length_zeros zero = refl
length_zeros (suc n) = ap suc (length_zeros n)

row_of : (ws : List ℕ) (g : ℕ) → get_or (map (λ w. replicate {A = ℕ} w 0) ws) g [] ≡ replicate {A = ℕ} (get_or ws g 0) 0
row_of [] g = refl
row_of (w ∷ ws) zero = refl
row_of (w ∷ ws) (suc g) = row_of ws g

pub counts_none : (p : Shape) (rows : List (List ℕ)) → rows ≡ zeros_for p.widths → CountsSenders p 0 rows
counts_none p rows e = rw e (record {
  groups = length-map p.widths (λ w. replicate {A = ℕ} w 0);
  channels = λ g. ap length (row_of p.widths g) ∙ length_zeros (width p g);
  each = λ g c h. ap (λ r. get_or r c 0) (row_of p.widths g) ∙ zero_at (width p g) c;
})

-- the rows of one more group
pub zeros_more : (rows : List (List ℕ)) (ws row : List ℕ) (i : ℕ) → i < length ws → rows ≡ zeros_for (take i ws) → row ≡ replicate (get_or ws i 0) 0 → rows ++ row ∷ [] ≡ zeros_for (take (i + 1) ws)
zeros_more rows ws row i h e r = rw add-one (ap (λ xs. xs ++ row ∷ []) e ∙ (ap (λ x. zeros_for (take i ws) ++ x ∷ []) r ∙ at ws i h))
  where
    at : (ws : List ℕ) (i : ℕ) → i < length ws → zeros_for (take i ws) ++ replicate (get_or ws i 0) 0 ∷ [] ≡ zeros_for (take (suc i) ws)
    at [] i h = absurd (omega arith)
    at (w ∷ ws) zero h = refl
    at (w ∷ ws) (suc i) h = ap (λ xs. replicate w 0 ∷ xs) (at ws i (omega arith))

pub zeros_all : (rows : List (List ℕ)) (ws : List ℕ) (i : ℕ) → length ws ≤ i → rows ≡ zeros_for (take i ws) → rows ≡ zeros_for ws
zeros_all rows ws i h e = e ∙ ap zeros_for (all ws i h)
  where
    all : (ws : List ℕ) (i : ℕ) → length ws ≤ i → take i ws ≡ ws
    all [] zero h = refl
    all [] (suc i) h = refl
    all (w ∷ ws) zero h = absurd (omega arith)
    all (w ∷ ws) (suc i) h = ap (λ xs. w ∷ xs) (all ws i (omega arith))

pub rows_more : {A : Type 0} (xs ys : List A) (x : A) (f : A → List ℕ) (ws : List ℕ) (i : ℕ) → ys ≡ xs ++ x ∷ [] → i < length ws → map f xs ≡ zeros_for (take i ws) → f x ≡ replicate (get_or ws i 0) 0 → map f ys ≡ zeros_for (take (i + 1) ws)
rows_more xs ys x f ws i e h r s = ap (map f) e ∙ (map_more xs x f ∙ zeros_more (map f xs) ws (f x) i h r s)

-- a group without channels
pub counts_past : (g : ℕ) (ts : List ℕ) (rows : List (List ℕ)) → length rows ≤ g → CountsAt g ts rows rows
counts_past g ts rows past = record {
  groups = refl;
  channels = λ h. refl;
  each = λ h c w. other h c w (eqb_tells g h);
}
  where
    other : (h c : ℕ) → c < length (get_or rows h []) → ((eqb g h ≡ true) × (g ≡ h)) ⊎ ((eqb g h ≡ false) × (g ≢ h)) → get_or (get_or rows h []) c 0 ≡ get_or (get_or rows h []) c 0 + cond (eqb g h) (count c ts) 0
    other h c w (inl e) = absurd (let z : length (get_or rows h []) ≡ 0 = ap length (get_or-eq_default rows [] (let j : g ≡ h = e.1 in omega arith)) in omega arith)
    other h c w (inr e) = rw e.0 (omega arith)

pub counts_row : (g : ℕ) (ts : List ℕ) (rows : List (List ℕ)) (row : List ℕ) → g < length rows → length row ≡ length (get_or rows g [])
    → ((c : ℕ) → c < length (get_or rows g []) → get_or row c 0 ≡ get_or (get_or rows g []) c 0 + count c ts) → CountsAt g ts rows (set rows g row)
counts_row g ts rows row i l each = record {
  groups = length-set rows g row;
  channels = λ h. channels h (same_or_not g h);
  each = λ h c w. counted h c w (eqb_tells g h);
}
  where
    channels : (h : ℕ) → (g ≡ h) ⊎ (g ≢ h) → length (get_or (set rows g row) h []) ≡ length (get_or rows h [])
    channels h (inl e) = subst (λ j. length (get_or (set rows g row) j []) ≡ length (get_or rows j [])) e (ap length (get_or-set_same rows g row [] i) ∙ l)
    channels h (inr m) = ap length (read_other rows g h row [] m)

    counted : (h c : ℕ) → c < length (get_or rows h []) → ((eqb g h ≡ true) × (g ≡ h)) ⊎ ((eqb g h ≡ false) × (g ≢ h)) → get_or (get_or (set rows g row) h []) c 0 ≡ get_or (get_or rows h []) c 0 + cond (eqb g h) (count c ts) 0
    counted h c w (inl e) = rw e.0 (subst (λ j. c < length (get_or rows j []) → get_or (get_or (set rows g row) j []) c 0 ≡ get_or (get_or rows j []) c 0 + count c ts) e.1
        (λ v. ap (λ r. get_or r c 0) (get_or-set_same rows g row [] i) ∙ each c v) w)
    counted h c w (inr m) = rw m.0 (ap (λ r. get_or r c 0) (read_other rows g h row [] m.1) ∙ (let z : get_or (get_or rows h []) c 0 ≡ get_or (get_or rows h []) c 0 + 0 = omega arith in z))

-- a row that is written in place
pub counts_set : {A : Type 0} (xs : List A) (g : ℕ) (old new : A) (f : A → List ℕ) (ts : List ℕ) → g < length xs → old ≡ get_or xs g old → length (f new) ≡ length (f old)
    → ((c : ℕ) → c < length (f old) → get_or (f new) c 0 ≡ get_or (f old) c 0 + count c ts) → CountsAt g ts (map f xs) (map f (set xs g new))
counts_set xs g old new f ts i e l each =
    let row : f old ≡ get_or (map f xs) g [] = mapped_at xs g old f [] i e in
    let long : length (map f xs) ≡ length xs = length-map xs f in
    subst (λ rows. CountsAt g ts (map f xs) rows) (sym (map-set f xs g new))
    (counts_row g ts (map f xs) (f new) (omega (arith, long, i)) (l ∙ ap length row) (subst (λ (r : List ℕ). (c : ℕ) → c < length r → get_or (f new) c 0 ≡ get_or r c 0 + count c ts) row each))

count_one : (c : ℕ) (cs : List ℕ) → count c cs ≤ 1 → count c cs ≡ cond (has cs c) 1 0
count_one c [] h = refl
count_one c (x ∷ cs) h = elim (eqb_tells x c) [
  | inl w ↦ rw w.0 (let o : one x c ≡ 1 = one_yes x c w.1 in omega arith)
  | inr w ↦ (let o : one x c ≡ 0 = one_no x c w.1 in let r : count c cs ≡ cond (has cs c) 1 0 = count_one c cs (omega arith) in rw w.0 (omega arith))
]

pub counts_step : (p : Shape) (n : ℕ) (o : Option ℕ) (rows new : List (List ℕ)) → IsShape p → (task_at p n).sends ≡ o → CountsSenders p n rows → CountsTask o (task_at p n).targets rows new → CountsSenders p (n + 1) new
counts_step p n None rows new sh s k e = rw e (record {
  groups = k.groups;
  channels = k.channels;
  each = λ g c h. k.each g c h ∙ rw add-one (rw s (let z : count_below n (λ u. sends_at p u g c) ≡ 0 + count_below n (λ u. sends_at p u g c) = omega arith in z));
})
counts_step p n (Some g) rows new sh s k a = record {
  groups = a.groups ∙ k.groups;
  channels = λ h. a.channels h ∙ k.channels h;
  each = λ h c w. counted h c w (eqb_tells g h) (a.each h c (rw (k.channels h) w)) (k.each h c w);
}
  where
    counted : (h c : ℕ) → c < width p h → ((eqb g h ≡ true) × (g ≡ h)) ⊎ ((eqb g h ≡ false) × (g ≢ h)) → get_or (get_or new h []) c 0 ≡ get_or (get_or rows h []) c 0 + cond (eqb g h) (count c (task_at p n).targets) 0
        → get_or (get_or rows h []) c 0 ≡ count_below n (λ u. sends_at p u h c) → get_or (get_or new h []) c 0 ≡ count_below (n + 1) (λ u. sends_at p u h c)
    counted h c w (inl e) added before = rw add-one (rw (s, e.0) (
        let more : get_or (get_or new h []) c 0 ≡ get_or (get_or rows h []) c 0 + count c (task_at p n).targets = added ∙ ap (λ b. get_or (get_or rows h []) c 0 + cond b (count c (task_at p n).targets) 0) e.0 in
        let once : count c (task_at p n).targets ≡ cond (has (task_at p n).targets c) 1 0 = count_one c (task_at p n).targets (sh.once n c) in
        omega arith))
    counted h c w (inr m) added before = rw add-one (rw (s, m.0) (
        let same : get_or (get_or new h []) c 0 ≡ get_or (get_or rows h []) c 0 + 0 = added ∙ ap (λ b. get_or (get_or rows h []) c 0 + cond b (count c (task_at p n).targets) 0) m.0 in
        omega arith))

pub item_task : (p : Shape) (tasks : List TaskShape) (n : ℕ) (t : TaskShape) → tasks ≡ p.tasks → n < length tasks → t ≡ get_or tasks n t → t ≡ task_at p n
item_task p tasks n t e h i = read_default tasks n t no_task h i ∙ ap (λ ts. get_or ts n no_task) e

pub counts_more : (p : Shape) (n : ℕ) (t : TaskShape) (rows new : List (List ℕ)) → IsShape p → t ≡ task_at p n → CountsSenders p n rows → CountsTask t.sends t.targets rows new → CountsSenders p (n + 1) new
counts_more p n t rows new sh e k a = counts_step p n t.sends rows new sh (sym (ap (λ (u : TaskShape). u.sends) e)) k (subst (λ ts. CountsTask t.sends ts rows new) (ap (λ (u : TaskShape). u.targets) e) a)

-- the targets of a task are channels that are counted
pub counted_inside : (p : Shape) (n : ℕ) (t : TaskShape) (rows : List (List ℕ)) → IsShape p → t ≡ task_at p n → CountsSenders p n rows → (g c : ℕ) → t.sends ≡ Some g → has t.targets c ≡ true → c < length (get_or rows g [])
counted_inside p n t rows sh e k g c s h = subst (λ m. c < m) (sym (k.channels g)) (sh.targets_inside n g c (sends (ap (λ (u : TaskShape). u.sends) (sym e) ∙ s) (ap (λ (u : TaskShape). has u.targets c) (sym e) ∙ h)))
  where
    sends : (task_at p n).sends ≡ Some g → has (task_at p n).targets c ≡ true → sends_at p n g c ≡ true
    sends s h = rw (s, eq-eqb g g refl) h

-- ------------------------------------------------------------ the opening frame
channels_are : {B : Type 0} (row : List ℕ) (F : ℕ → Channel B) → ((c : ℕ) → c < length row → opened_for (get_or row c 0) ≡ F c) → map opened_for row ≡ tabulate (length row) F
channels_are [] F e = refl
channels_are {B} (n ∷ row) F e = ap (λ x. x ∷ map opened_for row) (e 0 (omega arith)) ∙ ap (λ xs. F 0 ∷ xs) (channels_are row (λ c. F (suc c)) (λ c h. e (suc c) (omega arith)))

gates_are : {B : Type 0} (rows : List (List ℕ)) (F : ℕ → Gate B) → ((g : ℕ) → g < length rows → opened_gate (get_or rows g []) ≡ F g) → map opened_gate rows ≡ tabulate (length rows) F
gates_are [] F e = refl
gates_are {B} (r ∷ rows) F e = ap (λ x. x ∷ map opened_gate rows) (e 0 (omega arith)) ∙ ap (λ xs. F 0 ∷ xs) (gates_are rows (λ g. F (suc g)) (λ g h. e (suc g) (omega arith)))

pub gates_open : {B : Type 0} (p : Shape) (rows : List (List ℕ)) → CountsSenders p (length p.tasks) rows → map opened_gate rows ≡ tabulate (length p.widths) (open_gate {B = B} p)
gates_open {B} p rows k = gates_are rows (open_gate p) gate ∙ ap (λ n. tabulate n (open_gate {B = B} p)) k.groups
  where
    gate : (g : ℕ) → g < length rows → opened_gate (get_or rows g []) ≡ open_gate {B = B} p g
    gate g h = ap (λ xs. record { channels = xs; queue = [] })
        (channels_are (get_or rows g []) (open_channel p g) (λ c i. ap (opened_for {B = B}) (k.each g c (subst (λ n. c < n) (k.channels g) i)))
        ∙ ap (λ n. tabulate n (open_channel {B = B} p g)) (k.channels g))

zeros_tabulated : (n : ℕ) → replicate {A = ℕ} n 0 ≡ tabulate {A = ℕ} n (λ _. 0)
zeros_tabulated zero = refl
zeros_tabulated (suc n) = ap (λ xs. 0 ∷ xs) (zeros_tabulated n)

-- waking whoever of them leaves them all woken
wake_woken : (ts : List ℕ) (n : ℕ) → wake_all ts (replicate n Woken) ≡ replicate n Woken
wake_woken [] n = refl
wake_woken (t ∷ ts) n = ap (wake_all ts) (same n t) ∙ wake_woken ts n
  where
    same : (n t : ℕ) → set (replicate n Woken) t Woken ≡ replicate n Woken
    same zero t = refl
    same (suc n) zero = refl
    same (suc n) (suc t) = ap (λ qs. Woken ∷ qs) (same n t)

tabulated : {A : Type 0} (n : ℕ) (x : A) → replicate n x ≡ tabulate n (λ _. x)
tabulated zero x = refl
tabulated (suc n) x = ap (λ xs. x ∷ xs) (tabulated n x)

length_replicated : {A : Type 0} (n : ℕ) (x : A) → length (replicate n x) ≡ n
length_replicated zero x = refl
length_replicated (suc n) x = ap suc (length_replicated n x)

all_unfinished : (n : ℕ) → count_unfinished (replicate n Woken) ≡ n
all_unfinished zero = refl
all_unfinished (suc n) = let r : count_unfinished (replicate n Woken) ≡ n = all_unfinished n in omega arith

pub opening_is : {B : Type 0} (p : Shape) (limit : ℕ) (rows : List (List ℕ)) (gs : List (Grouped B)) (pool : Pool) (queue : List ℕ) (n : ℕ) → n ≡ length p.tasks → CountsSenders p (length p.tasks) rows
    → map (λ y. y.gate) gs ≡ map opened_gate rows → pool ≡ unreserved limit p.spillable → queue ≡ tabulate n (λ t. t)
    → frame_of gs pool queue (replicate n Woken) (replicate n false) None ≡ opening {B = B} p limit
opening_is {B} p limit rows gs pool queue n e k eg ep eq =
    ap (λ xs. record { gates = xs; pool = pool; queue = queue; places = wake_all queue (replicate n Woken); progress = replicate n false; failure = None }) (eg ∙ gates_open p rows k)
    ∙ ap (λ x. record { gates = tabulate (length p.widths) (open_gate {B = B} p); pool = x; queue = queue; places = wake_all queue (replicate n Woken); progress = replicate n false; failure = None })
    (ep ∙ ap (λ hs. record { limit = limit; spillable = p.spillable; held = hs }) (zeros_tabulated (length p.spillable)))
    ∙ ap (λ x. record { gates = tabulate (length p.widths) (open_gate {B = B} p); pool = start; queue = x; places = wake_all queue (replicate n Woken); progress = replicate n false; failure = None }) (eq ∙ ap (λ m. tabulate m (λ t. t)) e)
    ∙ ap (λ x. record { gates = tabulate (length p.widths) (open_gate {B = B} p); pool = start; queue = tabulate (length p.tasks) (λ t. t); places = x; progress = replicate n false; failure = None })
    (wake_woken queue n ∙ (tabulated n Woken ∙ ap (λ m. tabulate m (λ _. Woken)) e))
    ∙ ap (λ x. record { gates = tabulate (length p.widths) (open_gate {B = B} p); pool = start; queue = tabulate (length p.tasks) (λ t. t); places = tabulate (length p.tasks) (λ _. Woken); progress = x; failure = None })
    (tabulated n false ∙ ap (λ m. tabulate m (λ _. false)) e)
  where
    start : Pool
    start = record { limit = limit; spillable = p.spillable; held = tabulate (length p.spillable) (λ _. 0) }

pub opening_running : {B : Type 0} (p : Shape) (limit : ℕ) (rows : List (List ℕ)) (gs : List (Grouped B)) (pool : Pool) (queue : List ℕ) (room n : ℕ) → IsRunnable p → n ≡ length p.tasks → CountsSenders p (length p.tasks) rows
    → map (λ y. y.gate) gs ≡ map opened_gate rows → AllAre n (map (λ y. y.room) gs) → pool ≡ unreserved limit p.spillable → queue ≡ tabulate n (λ t. t) → room ≡ n
    → IsRunning p gs pool queue room (replicate n Woken) (replicate n false) None n
opening_running {B} p limit rows gs pool queue room n plan e k eg all ep eq er = record {
  plan = plan;
  lawful = subst (λ f. IsLawful p f) (sym (opening_is {B = B} p limit rows gs pool queue n e k eg ep eq)) (lawful_opening {B = B} p limit plan.plan);
  long = length_replicated n false ∙ sym (length_replicated n Woken);
  queue_room = er ∙ sym (length_replicated n Woken);
  rooms = subst (λ m. AllAre m (map (λ (y : Grouped B). y.room) gs)) (sym (length_replicated n Woken)) all;
  spillable = ap (λ (x : Pool). x.spillable) ep;
  owned = λ t w h. absurd (none t w h);
  unended = sym (ap count_unfinished (wake_woken queue n) ∙ all_unfinished n);
}
  where
    at_woken : (m t : ℕ) → (get_or (replicate m Woken) t Done ≡ Woken) ⊎ (get_or (replicate m Woken) t Done ≡ Done)
    at_woken zero t = inr refl
    at_woken (suc m) zero = inl refl
    at_woken (suc m) (suc t) = at_woken m t

    none : (t w : ℕ) → get_or (replicate n Woken) t Done ≡ OwnedBy w → ⊥
    none t w h = elim (at_woken n t) [ inl a ↦ (let z : Woken ≡ OwnedBy w = sym a ∙ h in cc) | inr b ↦ (let z : Done ≡ OwnedBy w = sym b ∙ h in cc) ]

-- the same by the lists that were made
pub made_is : {B : Type 0} (p : Shape) (limit : ℕ) (rows : List (List ℕ)) (gs : List (Grouped B)) (pool : Pool) (queue : List ℕ) (n : ℕ) (places : List Place) (progress : List Bool) → n ≡ length p.tasks → CountsSenders p (length p.tasks) rows
    → map (λ y. y.gate) gs ≡ map opened_gate rows → pool ≡ unreserved limit p.spillable → queue ≡ tabulate n (λ t. t) → places ≡ replicate n Woken → progress ≡ replicate n false
    → frame_of gs pool queue places progress None ≡ opening {B = B} p limit
made_is {B} p limit rows gs pool queue n places progress e k eg ep eq a b = rw (a, b) (opening_is {B = B} p limit rows gs pool queue n e k eg ep eq)

pub made_running : {B : Type 0} (p : Shape) (limit : ℕ) (rows : List (List ℕ)) (gs : List (Grouped B)) (pool : Pool) (queue : List ℕ) (room n : ℕ) (places : List Place) (progress : List Bool) → IsRunnable p → n ≡ length p.tasks → CountsSenders p (length p.tasks) rows
    → map (λ y. y.gate) gs ≡ map opened_gate rows → AllAre n (map (λ y. y.room) gs) → pool ≡ unreserved limit p.spillable → queue ≡ tabulate n (λ t. t) → room ≡ n → places ≡ replicate n Woken → progress ≡ replicate n false
    → IsRunning p gs pool queue room places progress None n
made_running {B} p limit rows gs pool queue room n places progress plan e k eg all ep eq er a b = rw (a, b) (opening_running {B = B} p limit rows gs pool queue room n plan e k eg all ep eq er)

pub map_twice : {A C D : Type 0} (xs ys : List A) (f : A → C) (h : C → D) → xs ≡ ys → map (λ x. h (f x)) xs ≡ map h (map f ys)
map_twice {A} xs ys f h e = ap (map (λ x. h (f x))) e ∙ twice ys
  where
    twice : (zs : List A) → map (λ x. h (f x)) zs ≡ map h (map f zs)
    twice [] = refl
    twice (z ∷ zs) = ap (λ ws. h (f z) ∷ ws) (twice zs)

-- ------------------------------------------------------------ all tasks in order
pub count_below_all : (n t : ℕ) → n ≤ t → count t (tabulate n (λ u. u)) ≡ 0
count_below_all n t h = none n (λ u. u) (λ u l. (λ e. (omega (arith, e, l, h))))
  where
    none : (m : ℕ) (F : ℕ → ℕ) → ((u : ℕ) → u < m → F u ≢ t) → count t (tabulate m F) ≡ 0
    none zero F d = refl
    none (suc m) F d = let o : one (F 0) t ≡ 0 = one_no (F 0) t (d 0 (omega arith)) in let r : count t (tabulate m (λ u. F (suc u))) ≡ 0 = none m (λ u. F (suc u)) (λ u l. d (suc u) (omega arith)) in omega arith

pub tabulate_more : {A : Type 0} (n : ℕ) (F : ℕ → A) → tabulate (n + 1) F ≡ tabulate n F ++ F n ∷ []
tabulate_more {A} n F = rw add-one (at n F)
  where
    at : (n : ℕ) (F : ℕ → A) → tabulate (suc n) F ≡ tabulate n F ++ F n ∷ []
    at zero F = refl
    at (suc n) F = ap (λ xs. F 0 ∷ xs) (at n (λ u. F (suc u)))
