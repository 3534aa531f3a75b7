-- The rows of the two phases: each begins with the keys of a row that is grouped, and the second phase has one for each list of keys.
use Rattle.std.specs.Prelude.{take, drop, sum, filter, Result}
use Rattle.std.specs.List.{sum_by}
use Rattle.std.specs.Ordering.{is_eq}
use Rattle.std.specs.declared.cmp.Ordering.{Ordering}
use Rattle.std.proofs.Common.{ℕ, suc, ◌+◌, ◌≡◌, ◌⊎◌, inl, inr, refl, sym, ap, ◌∙◌, subst, cond, List, [], ◌∷◌, ◌++◌, length, map, Bool, true, false, ◌&&◌, not, Option, Ok, Err, arith}
use Rattle.std.proofs.lemmas.Bool.{false≢true}
use Rattle.std.proofs.lemmas.List.{length-append}
use Rattle.std.proofs.lemmas.List.Sums.{sum_by_from}
use Rattle.dfx_value.specs.Checked.{◌>>=◌}
use Rattle.dfx_value.specs.Rows.{cell, cells_at}
use Rattle.dfx_value.specs.declared.fault.EvalFault.{EvalFault}
use Rattle.dfx_value.specs.declared.fault.ItemFault.{ItemFault}
use Rattle.dfx_value.specs.declared.kind.Kind.{Kind}
use Rattle.dfx_value.specs.declared.op.AggCall.{AggCall}
use Rattle.dfx_value.specs.declared.op.AggCall.TheVariants.{CountAll, Count, Sum, Min, Max, Avg}
use Rattle.dfx_value.specs.declared.value.Value.{Value}
use Rattle.plan_props.specs.Meets.{Each, AllEqual}
use Rattle.physical_plan.specs.Numbers.{numbers}
use Rattle.node_laws.specs.NodeRows.{Holds}
use Rattle.physical_plan.specs.Properties.{state_width}
use Rattle.scalar_exprs.specs.Functions.{Outcome}
use Rattle.scalar_exprs.specs.Agg.{argument}
use Rattle.scalar_exprs.specs.Kinds.{argument_kind}
use Rattle.scalar_exprs.specs.Groups.{same_keys, firsts}
use Rattle.logical_plan.specs.Items.{Cells, Item, rows, faults, all_values, as_item}
use Rattle.plan_task_laws.proofs.Branches.{map_length}
use Rattle.node_laws.specs.Nodes.{IsWide}
use Rattle.node_laws.specs.Rows.{GroupRow, AnswerRow, Differ, AllDiffer}
use Rattle.phase_laws.specs.States.{state_of, cells_of}
use Rattle.phase_laws.specs.Phases.{states_of, phase_row, phase_rows, phase_kinds, answers, final_item, one_final, final}
use Rattle.phase_laws.proofs.Items.{rows_both}
use Rattle.answer_laws.specs.Meant.{Grouping}
use Rattle.part_laws.specs.Phased.{the_phases}
use Rattle.finished_laws.specs.Rows.{AreGroups}
use Rattle.finished_laws.proofs.Held.{each_by}
use Rattle.finished_laws.proofs.JoinRows.{no_rows}

-- ------------------------------------------------------------ first rows of groups

kept_holds : (p : Cells → Bool) (xs : List Cells) (r : Cells) → Holds (filter p xs) r → Holds xs r × (p r ≡ true)
kept_holds p [] r i = absurd i
kept_holds p (x ∷ xs) r i = by (p x) refl i (λ j. kept_holds p xs r j)
  where
    by : (b : Bool) → p x ≡ b → Holds (cond b (x ∷ filter p xs) (filter p xs)) r → (Holds (filter p xs) r → Holds xs r × (p r ≡ true)) → Holds (x ∷ xs) r × (p r ≡ true)
    by true e j more = elim j [
      | inl k ↦ (inl k, subst (λ y. p y ≡ true) k e)
      | inr k ↦ (let m = more k in (inr m.0, m.1))
    ]
    by false e j more = (let m = more j in (inr m.0, m.1))

first_holds : (like : Cells → Cells → Bool) (xs : List Cells) (r : Cells) → Holds (firsts like xs) r → Holds xs r
first_holds like [] r i = absurd i
first_holds like (x ∷ xs) r i = elim i [
  | inl e ↦ inl e
  | inr j ↦ inr (first_holds like xs r (kept_holds (λ s. not (like x s)) (firsts like xs) r j).0)
]

-- none is like a later one
abbrev Apart : (Cells → Cells → Bool) → List Cells → Type 0
Apart like [] = Unit {0}
Apart like (x ∷ xs) = ((r : Cells) → Holds xs r → like x r ≡ true → ⊥) × Apart like xs

kept_apart : (like : Cells → Cells → Bool) (p : Cells → Bool) (xs : List Cells) → Apart like xs → Apart like (filter p xs)
kept_apart like p [] a = tt
kept_apart like p (x ∷ xs) a = by (p x) (kept_apart like p xs a.1)
  where
    by : (b : Bool) → Apart like (filter p xs) → Apart like (cond b (x ∷ filter p xs) (filter p xs))
    by true more = (λ r i. a.0 r (kept_holds p xs r i).0, more)
    by false more = more

not_both : (b : Bool) → not b ≡ true → b ≡ true → ⊥
not_both true e i = false≢true e
not_both false e i = false≢true i

firsts_apart : (like : Cells → Cells → Bool) (xs : List Cells) → Apart like (firsts like xs)
firsts_apart like [] = tt
firsts_apart like (x ∷ xs) =
    (λ r i e. not_both (like x r) (kept_holds (λ s. not (like x s)) (firsts like xs) r i).1 e, kept_apart like (λ s. not (like x s)) (firsts like xs) (firsts_apart like xs))

each_mapped : (P : Cells → Type 0) (h : Cells → Cells) (rs : List Cells) → ((r : Cells) → Holds rs r → P (h r)) → Each P (map h rs)
each_mapped P h [] i = tt
each_mapped P h (r ∷ rs) i = (i r (inl refl), each_mapped P h rs (λ s k. i s (inr k)))

-- ------------------------------------------------------------ the first phase

sum_front : (x : ℕ) (xs : List ℕ) → sum (x ∷ xs) ≡ x + sum xs
sum_front x xs = sum_by_from (λ (y : ℕ). y) (0 + x) xs ∙ moved (sum_by (λ (y : ℕ). y) xs) ∙ ap (λ (n : ℕ). x + n) (sym (sum_by_from (λ (y : ℕ). y) 0 xs))
  where
    moved : (n : ℕ) → 0 + x + n ≡ x + (0 + n)
    moved n = omega arith

state_long : (c : AggCall) (k : Option Kind) (vs : List Value) → length (cells_of c k (state_of c vs)) ≡ state_width c
state_long CountAll k vs = refl
state_long (Count c) k vs = refl
state_long (Sum c) k vs = refl
state_long (Min c) k vs = refl
state_long (Max c) k vs = refl
state_long (Avg c) k vs = refl

states_long : (calls : List AggCall) (kinds : List Kind) (group : List Cells) → length (states_of calls kinds group) ≡ sum (map state_width calls)
states_long [] kinds group = refl
states_long (c ∷ calls) kinds group =
    let k = argument_kind c kinds in
    let v = state_of c (map (argument c) group) in
    length-append (cells_of c k v) (states_of calls kinds group)
    ∙ ap (λ (n : ℕ). n + length (states_of calls kinds group)) (state_long c k (map (argument c) group))
    ∙ ap (λ (n : ℕ). state_width c + n) (states_long calls kinds group)
    ∙ sym (sum_front (state_width c) (map state_width calls))

abbrev like_by : List ℕ → Cells → Cells → Bool
like_by columns r s = same_keys (cells_at columns r) (cells_at columns s)

phase_from : (g : Grouping) (xs : List Item) → Each (GroupRow g.columns (rows xs)) (rows (the_phases.first g xs))
phase_from g xs = subst (Each (GroupRow g.columns (rows xs))) (sym (rows_both (faults xs) (phase_rows g.columns g.calls g.kinds (rows xs))))
    (each_mapped (GroupRow g.columns (rows xs)) (λ r. phase_row g.calls g.kinds (cells_at g.columns r) (filter (like_by g.columns r) (rows xs))) (firsts (like_by g.columns) (rows xs))
    (λ r i. (r, states_of g.calls g.kinds (filter (like_by g.columns r) (rows xs)), first_holds (like_by g.columns) (rows xs) r i, refl)))

phase_wide : (g : Grouping) (xs : List Item) → Each (IsWide (length g.columns + sum (map state_width g.calls))) (rows (the_phases.first g xs))
phase_wide g xs = subst (Each (IsWide (length g.columns + sum (map state_width g.calls)))) (sym (rows_both (faults xs) (phase_rows g.columns g.calls g.kinds (rows xs))))
    (each_mapped (IsWide (length g.columns + sum (map state_width g.calls))) (λ r. phase_row g.calls g.kinds (cells_at g.columns r) (filter (like_by g.columns r) (rows xs))) (firsts (like_by g.columns) (rows xs))
    (λ r i. (let more = states_of g.calls g.kinds (filter (like_by g.columns r) (rows xs)) in
    length-append (cells_at g.columns r) more ∙ ap (λ (n : ℕ). n + length more) (map_length (cell r) g.columns) ∙ ap (λ (n : ℕ). length g.columns + n) (states_long g.calls g.kinds (filter (like_by g.columns r) (rows xs))))))

-- ------------------------------------------------------------ the second phase

abbrev value_or : Result Cells EvalFault → Cells
value_or (Ok v) = v
value_or (Err f) = []

abbrev is_ok : Result Cells EvalFault → Bool
is_ok (Ok v) = true
is_ok (Err f) = false

values_long : (os : List Outcome) (vs : Cells) → all_values os ≡ Ok vs → length vs ≡ length os
values_long [] vs e = ap (λ x. length (value_or x)) (sym e)
values_long (o ∷ os) vs e = by o (all_values os) (values_long os) e
  where
    by : (o : Outcome) (m : Result Cells EvalFault) → ((ws : Cells) → m ≡ Ok ws → length ws ≡ length os) → (o >>= λ v. m >>= λ ws. Ok (v ∷ ws)) ≡ Ok vs → length vs ≡ suc (length os)
    by (Ok v) (Ok ws) h i = ap (λ x. length (value_or x)) (sym i) ∙ ap suc (h ws refl)
    by (Ok v) (Err f) h i = absurd (false≢true (ap is_ok i))
    by (Err f) m h i = absurd (false≢true (ap is_ok i))

answers_long : (calls : List AggCall) (kinds : List Kind) (group : List Cells) → length (answers calls kinds group) ≡ length calls
answers_long [] kinds group = refl
answers_long (c ∷ calls) kinds group = ap suc (answers_long calls (drop (state_width c) kinds) (map (drop (state_width c)) group))

-- a row of an item that puts values behind keys
item_row : (keys : Cells) (m : Result Cells EvalFault) (s : Cells) → Holds (rows (as_item (m >>= λ vs. Ok (keys ++ vs)) ∷ [])) s → (vs : Cells) × (m ≡ Ok vs) × (s ≡ keys ++ vs)
item_row keys (Ok vs) s i = elim i [
  | inl e ↦ (vs, refl, sym e)
  | inr k ↦ absurd k
]
item_row keys (Err f) s i = absurd i

split_row : (x : Item) (xs : List Item) (s : Cells) → Holds (rows (x ∷ xs)) s → Holds (rows (x ∷ [])) s ⊎ Holds (rows xs) s
split_row (Ok r) xs s i = elim i [
  | inl e ↦ inl (inl e)
  | inr k ↦ inr k
]
split_row (Err f) xs s i = inr i

mapped_row : (h : Cells → Item) (rs : List Cells) (s : Cells) → Holds (rows (map h rs)) s → (r : Cells) × Holds rs r × Holds (rows (h r ∷ [])) s
mapped_row h [] s i = absurd i
mapped_row h (r ∷ rs) s i = elim (split_row (h r) (map h rs) s i) [
  | inl a ↦ (r, inl refl, a)
  | inr b ↦ (let m = mapped_row h rs s b in (m.0, inr m.1, m.2))
]

equal_same : (xs ys : Cells) → AllEqual xs ys → same_keys xs ys ≡ true
equal_same [] [] h = refl
equal_same [] (y ∷ ys) h = absurd h
equal_same (x ∷ xs) [] h = absurd h
equal_same (x ∷ xs) (y ∷ ys) h = ap (λ (o : Ordering). is_eq o && same_keys xs ys) h.0 ∙ equal_same xs ys h.1

front : (ks : List ℕ) (r vs : Cells) → take (length ks) (cells_at ks r ++ vs) ≡ cells_at ks r
front [] r vs = refl
front (k ∷ ks) r vs = ap (λ xs. cell r k ∷ xs) (front ks r vs)

module _ (ks : List ℕ) (calls : List AggCall) (kinds : List Kind) (all : List Cells) where
  abbrev group : Cells → List Cells
  group r = filter (like_by ks r) all

  abbrev item : Cells → Item
  item r = final_item (length ks) calls kinds (cells_at ks r) (group r)

  abbrev these : Cells → List Outcome
  these r = answers calls (drop (length ks) kinds) (map (drop (length ks)) (group r))

  final_row : (rs : List Cells) (s : Cells) → Holds (rows (map item rs)) s → (r : Cells) × (vs : Cells) × Holds rs r × (s ≡ cells_at ks r ++ vs) × (length vs ≡ length calls)
  final_row rs s i =
      let m = mapped_row item rs s i in
      let v = item_row (cells_at ks m.0) (all_values (these m.0)) s m.2 in
      (m.0, v.0, m.1, v.2, values_long (these m.0) v.0 v.1 ∙ answers_long calls (drop (length ks) kinds) (map (drop (length ks)) (group m.0)))

  row_apart : (r : Cells) (rs : List Cells) → ((q : Cells) → Holds rs q → like_by ks r q ≡ true → ⊥) → (s : Cells) → Holds (rows (item r ∷ [])) s → Each (Differ (length ks) s) (rows (map item rs))
  row_apart r rs never s i =
      let v = item_row (cells_at ks r) (all_values (these r)) s i in
      each_by (Differ (length ks) s) (rows (map item rs)) (λ t j e. (
      let m = final_row rs t j in
      let a : take (length ks) s ≡ cells_at ks r = ap (take (length ks)) v.2 ∙ front ks r v.0 in
      let b : take (length ks) t ≡ cells_at ks m.0 = ap (take (length ks)) m.3 ∙ front ks m.0 m.1 in
      never m.0 m.2 (equal_same (cells_at ks r) (cells_at ks m.0) (subst (λ x. AllEqual x (cells_at ks m.0)) a (subst (AllEqual (take (length ks) s)) b e)))))

  consed : (x : Item) (xs : List Item) → ((s : Cells) → Holds (rows (x ∷ [])) s → Each (Differ (length ks) s) (rows xs)) → AllDiffer (length ks) (rows xs) → AllDiffer (length ks) (rows (x ∷ xs))
  consed (Ok r) xs h d = (h r (inl refl), d)
  consed (Err f) xs h d = d

  all_differ : (rs : List Cells) → Apart (like_by ks) rs → AllDiffer (length ks) (rows (map item rs))
  all_differ [] a = tt
  all_differ (r ∷ rs) a = consed (item r) (map item rs) (row_apart r rs a.0) (all_differ rs a.1)

second_from : (ks : List ℕ) (calls : List AggCall) (kinds : List Kind) (xs : List Item) → Each (AnswerRow ks (rows xs)) (rows (final ks calls kinds xs))
second_from [] calls kinds xs = each_by (AnswerRow [] (rows xs)) (rows (final [] calls kinds xs)) (λ s i. inr refl)
second_from (k ∷ ks) calls kinds xs = each_by (AnswerRow (k ∷ ks) (rows xs)) (rows (final (k ∷ ks) calls kinds xs)) (λ s i. (
    let fs = firsts (like_by (k ∷ ks)) (rows xs) in
    let j = subst (λ rs. Holds rs s) (no_rows (faults xs) (map (item (k ∷ ks) calls kinds (rows xs)) fs)) i in
    let m = final_row (k ∷ ks) calls kinds (rows xs) fs s j in
    inl (m.0, m.1, first_holds (like_by (k ∷ ks)) (rows xs) m.0 m.2, m.3)))

second_once : (ks : List ℕ) (calls : List AggCall) (kinds : List Kind) (xs : List Item) → AllDiffer (length ks) (rows (final ks calls kinds xs))
second_once [] calls kinds xs = by (one_final calls kinds (rows xs) (faults xs))
  where
    by : (x : Item) → AllDiffer 0 (rows (x ∷ []))
    by (Ok r) = (tt, tt)
    by (Err f) = tt
second_once (k ∷ ks) calls kinds xs = (let fs = firsts (like_by (k ∷ ks)) (rows xs) in
    subst (AllDiffer (length (k ∷ ks))) (sym (no_rows (faults xs) (map (item (k ∷ ks) calls kinds (rows xs)) fs))) (all_differ (k ∷ ks) calls kinds (rows xs) fs (firsts_apart (like_by (k ∷ ks)) (rows xs))))

one_wide : (calls : List AggCall) (kinds : List Kind) (all : List Cells) (fs : List ItemFault) (s : Cells) → Holds (rows (one_final calls kinds all fs ∷ [])) s → length s ≡ 0 + length calls
one_wide calls kinds all [] s i =
    let os = answers calls (drop 0 kinds) (map (drop 0) all) in
    let v = item_row [] (all_values os) s i in
    (let e : length s ≡ length calls = ap length v.2 ∙ values_long os v.0 v.1 ∙ answers_long calls (drop 0 kinds) (map (drop 0) all) in omega arith)
one_wide calls kinds all (f ∷ fs) s i = absurd i

second_wide : (ks : List ℕ) (calls : List AggCall) (kinds : List Kind) (xs : List Item) → Each (IsWide (length ks + length calls)) (rows (final ks calls kinds xs))
second_wide [] calls kinds xs = each_by (IsWide (0 + length calls)) (rows (final [] calls kinds xs)) (one_wide calls kinds (rows xs) (faults xs))
second_wide (k ∷ ks) calls kinds xs = each_by (IsWide (length (k ∷ ks) + length calls)) (rows (final (k ∷ ks) calls kinds xs)) (λ s i. (
    let fs = firsts (like_by (k ∷ ks)) (rows xs) in
    let j = subst (λ rs. Holds rs s) (no_rows (faults xs) (map (item (k ∷ ks) calls kinds (rows xs)) fs)) i in
    let m = final_row (k ∷ ks) calls kinds (rows xs) fs s j in
    ap length m.3 ∙ length-append (cells_at (k ∷ ks) m.0) m.1 ∙ ap (λ (n : ℕ). n + length m.1) (map_length (cell m.0) (k ∷ ks)) ∙ ap (λ (n : ℕ). length (k ∷ ks) + n) m.4))

pub groups : AreGroups the_phases
groups = record {
  first = phase_from;
  first_wide = phase_wide;
  second = λ g xs. second_from (numbers (length g.columns)) g.calls (phase_kinds g.columns g.calls g.kinds) xs;
  once = λ g xs. second_once (numbers (length g.columns)) g.calls (phase_kinds g.columns g.calls g.kinds) xs;
  second_wide = λ g xs. second_wide (numbers (length g.columns)) g.calls (phase_kinds g.columns g.calls g.kinds) xs;
}
