-- Tables: filled row by row, they are the groups.
use Rattle.std.proofs.Common.{ℕ, ◌≡◌, refl, sym, ap, ◌∙◌, cond, List, [], ◌∷◌, ◌++◌, map, drop, Bool, true, false, not, ◌||◌, Ok}
use Rattle.std.specs.List.{filter, list_any, fold}
use Rattle.std.proofs.lemmas.Bool.{true≢false}
use Rattle.std.proofs.lemmas.List.{append-nil, append_assoc}
use Rattle.std.proofs.lemmas.List.Folds.{fold-map}
use Rattle.std.proofs.lemmas.List.Sums.{fold-append}
use Rattle.std.proofs.lemmas.List.Elements.{filter-append}
use Rattle.dfx_value.specs.Checked.{◌>>=◌}
use Rattle.dfx_value.specs.declared.kind.Kind.{Kind}
use Rattle.dfx_value.specs.declared.op.AggCall.{AggCall}
use Rattle.dfx_value.specs.Rows.{cells_at}
use Rattle.scalar_exprs.specs.Agg.{argument}
use Rattle.scalar_exprs.specs.Groups.{same_keys, firsts}
use Rattle.scalar_exprs.specs.Kinds.{argument_kind}
use Rattle.logical_plan.specs.Items.{Cells, all_values, as_item}
use Rattle.phase_laws.specs.States.{State, state_of, merged, read, cells_of, finished}
use Rattle.physical_plan.specs.Properties.{state_width}
use Rattle.phase_laws.specs.Phases.{grouped, states_of, phase_row, phase_rows, told_kind, answers, final_item}
use Rattle.phase_laws.specs.Tables.{table_step, table, starts, with_row, all_cells, with_cells, all_finished, finished_item}
use Rattle.key_laws.specs.Entries.{upsert}
use Rattle.phase_laws.proofs.Bags.{Each, each-filter}
use Rattle.key_laws.proofs.Found.{same_keys_laws}
use Rattle.phase_laws.proofs.Groups.{like, not_any, none_kept}
use Rattle.phase_laws.proofs.Core.{map-append, one_step, fold_rows}

-- ---- one row more

firsts_push : {R : Type 0} (rel : R → R → Bool) (rows : List R) (x : R) → firsts rel (rows ++ x ∷ []) ≡ firsts rel rows ++ cond (list_any (λ r. rel r x) rows) [] (x ∷ [])
firsts_push rel [] x = refl
firsts_push rel (r ∷ rs) x =
    ap (λ zs. r ∷ filter (λ s. not (rel r s)) zs) (firsts_push rel rs x)
    ∙ ap (λ zs. r ∷ zs) (filter-append (λ s. not (rel r s)) (firsts rel rs) (cond (list_any (λ r. rel r x) rs) [] (x ∷ [])) ∙ ap (λ zs. filter (λ s. not (rel r s)) (firsts rel rs) ++ zs) (by (list_any (λ r. rel r x) rs) (rel r x) refl))
  where
    by : (a b : Bool) → rel r x ≡ b → filter (λ s. not (rel r s)) (cond a [] (x ∷ [])) ≡ cond (b || a) [] (x ∷ [])
    by true true e = refl
    by true false e = refl
    by false true e = ap (λ b. cond (not b) (x ∷ []) []) e
    by false false e = ap (λ b. cond (not b) (x ∷ []) []) e

-- no two of them are like each other
abbrev Apart : {R : Type 0} → (R → R → Bool) → List R → Type 0
Apart rel [] = Unit {0}
Apart rel (r ∷ rs) = Each (λ s. not (rel r s)) rs × Apart rel rs

apart_filter : {R : Type 0} (rel : R → R → Bool) (p : R → Bool) (rs : List R) → Apart rel rs → Apart rel (filter p rs)
apart_filter rel p [] h = tt
apart_filter rel p (r ∷ rs) h = by (p r) (apart_filter rel p rs h.1)
  where
    by : (b : Bool) → Apart rel (filter p rs) → Apart rel (cond b (r ∷ filter p rs) (filter p rs))
    by true ih = (each-filter (λ s. not (rel r s)) p rs h.0, ih)
    by false ih = ih

passes : {R : Type 0} (p : R → Bool) (rs : List R) → Each p (filter p rs)
passes p [] = tt
passes p (r ∷ rs) = by (p r) refl (passes p rs)
  where
    by : (b : Bool) → p r ≡ b → Each p (filter p rs) → Each p (cond b (r ∷ filter p rs) (filter p rs))
    by true e ih = (e, ih)
    by false e ih = ih

firsts_apart : {R : Type 0} (rel : R → R → Bool) (rs : List R) → Apart rel (firsts rel rs)
firsts_apart rel [] = tt
firsts_apart rel (r ∷ rs) = (passes (λ s. not (rel r s)) (firsts rel rs), apart_filter rel (λ s. not (rel r s)) (firsts rel rs) (firsts_apart rel rs))

any-filter : {R : Type 0} (rel : R → R → Bool) (r x : R) → rel r x ≡ false → ((s : R) → rel r s ≡ true → rel s x ≡ false) → (rs : List R) → list_any (λ s. rel s x) (filter (λ s. not (rel r s)) rs) ≡ list_any (λ s. rel s x) rs
any-filter rel r x e h [] = refl
any-filter rel r x e h (s ∷ ss) = by (rel r s) refl (any-filter rel r x e h ss)
  where
    by : (b : Bool) → rel r s ≡ b → list_any (λ s. rel s x) (filter (λ s. not (rel r s)) ss) ≡ list_any (λ s. rel s x) ss
        → list_any (λ s. rel s x) (cond (not b) (s ∷ filter (λ s. not (rel r s)) ss) (filter (λ s. not (rel r s)) ss)) ≡ (rel s x || list_any (λ s. rel s x) ss)
    by true f ih = ih ∙ ap (λ b. b || list_any (λ s. rel s x) ss) (sym (h s f))
    by false f ih = ap (λ b. rel s x || b) ih

module _ {R S : Type 0} (key : R → Cells) (start : S) (add : S → R → S) where
  abbrev pub entry : List R → R → Cells × S
  entry rows r = (key r, fold add start (filter (like key r) rows))

  abbrev pub entries : List R → List (Cells × S)
  entries rows = map (entry rows) (firsts (like key) rows)

  -- an entry with x more, where it is its own
  abbrev bumped : R → Cells × S → Cells × S
  bumped x e = cond (same_keys e.0 (key x)) (e.0, add e.1 x) e

  entry_push : (rows : List R) (x r : R) → entry (rows ++ x ∷ []) r ≡ bumped x (entry rows r)
  entry_push rows x r =
      ap (λ zs. (key r, fold add start zs)) (filter-append (like key r) rows (x ∷ []))
      ∙ by (like key r x)
    where
      by : (b : Bool) → ◌≡◌ {A = Cells × S} (key r, fold add start (filter (like key r) rows ++ cond b (x ∷ []) [])) (cond b (key r, add (fold add start (filter (like key r) rows)) x) (key r, fold add start (filter (like key r) rows)))
      by true = ap (λ s. (key r, s)) (fold-append add start (filter (like key r) rows) (x ∷ []))
      by false = ap (λ zs. (key r, fold add start zs)) (append-nil (filter (like key r) rows))

  map_same : (f g : R → Cells × S) → ((r : R) → f r ≡ g r) → (rs : List R) → map f rs ≡ map g rs
  map_same f g h [] = refl
  map_same f g h (r ∷ rs) = ap (λ e. e ∷ map f rs) (h r) ∙ ap (λ es. g r ∷ es) (map_same f g h rs)

  -- none of these has the key of x
  untouched : (rows : List R) (x : R) (fs : List R) → Each (λ r. not (like key r x)) fs → map (λ r. bumped x (entry rows r)) fs ≡ map (entry rows) fs
  untouched rows x [] h = refl
  untouched rows x (r ∷ rs) h = by (like key r x) h.0 (untouched rows x rs h.1)
    where
      by : (b : Bool) → not b ≡ true → map (λ r. bumped x (entry rows r)) rs ≡ map (entry rows) rs → cond b (key r, add (fold add start (filter (like key r) rows)) x) (entry rows r) ∷ map (λ r. bumped x (entry rows r)) rs ≡ entry rows r ∷ map (entry rows) rs
      by true e ih = absurd (true≢false (sym e))
      by false e ih = ap (λ es. entry rows r ∷ es) ih

  absent : (rows : List R) (x : R) (fs : List R) → Each (λ r. not (like key r x)) fs → upsert (map (entry rows) fs) (key x) start (λ s. add s x) ≡ map (entry rows) fs ++ (key x, add start x) ∷ []
  absent rows x [] h = refl
  absent rows x (r ∷ rs) h = by (like key r x) h.0 (absent rows x rs h.1)
    where
      by : (b : Bool) → not b ≡ true → upsert (map (entry rows) rs) (key x) start (λ s. add s x) ≡ map (entry rows) rs ++ (key x, add start x) ∷ []
          → cond b ((key r, add (fold add start (filter (like key r) rows)) x) ∷ map (entry rows) rs) (entry rows r ∷ upsert (map (entry rows) rs) (key x) start (λ s. add s x)) ≡ entry rows r ∷ (map (entry rows) rs ++ (key x, add start x) ∷ [])
      by true e ih = absurd (true≢false (sym e))
      by false e ih = ap (λ es. entry rows r ∷ es) ih

  others : (r x : R) → like key r x ≡ true → (fs : List R) → Each (λ s. not (like key r s)) fs → Each (λ s. not (like key s x)) fs
  others r x e [] h = tt
  others r x e (s ∷ ss) h = (ap not (same_keys_laws.symm (key s) (key x) ∙ (sym (same_keys_laws.congr (key r) (key x) (key s) e))) ∙ h.0, others r x e ss h.1)

  present : (rows : List R) (x : R) (fs : List R) → Apart (like key) fs → list_any (λ r. like key r x) fs ≡ true → upsert (map (entry rows) fs) (key x) start (λ s. add s x) ≡ map (λ r. bumped x (entry rows r)) fs
  present rows x [] a h = absurd (true≢false (sym h))
  present rows x (r ∷ rs) a h = by (like key r x) refl (present rows x rs a.1)
    where
      by : (b : Bool) → like key r x ≡ b → (list_any (λ r. like key r x) rs ≡ true → upsert (map (entry rows) rs) (key x) start (λ s. add s x) ≡ map (λ r. bumped x (entry rows r)) rs)
          → cond b ((key r, add (fold add start (filter (like key r) rows)) x) ∷ map (entry rows) rs) (entry rows r ∷ upsert (map (entry rows) rs) (key x) start (λ s. add s x))
          ≡ cond b (key r, add (fold add start (filter (like key r) rows)) x) (entry rows r) ∷ map (λ r. bumped x (entry rows r)) rs
      by true e more = ap (λ es. (key r, add (fold add start (filter (like key r) rows)) x) ∷ es) (sym (untouched rows x rs (others r x e rs a.0)))
      by false e more = ap (λ es. entry rows r ∷ es) (more (ap (λ b. b || list_any (λ r. like key r x) rs) (sym e) ∙ h))

  -- whether a row before is like x is told by the first ones
  any_first : (x : R) (rows : List R) → list_any (λ r. like key r x) (firsts (like key) rows) ≡ list_any (λ r. like key r x) rows
  any_first x [] = refl
  any_first x (r ∷ rs) = by (like key r x) refl (any_first x rs)
    where
      by : (b : Bool) → like key r x ≡ b → list_any (λ r. like key r x) (firsts (like key) rs) ≡ list_any (λ r. like key r x) rs → (b || list_any (λ r. like key r x) (filter (λ s. not (like key r s)) (firsts (like key) rs))) ≡ (b || list_any (λ r. like key r x) rs)
      by true e ih = refl
      by false e ih = any-filter (like key) r x e (λ s f. sym (same_keys_laws.congr (key r) (key s) (key x) f) ∙ e) (firsts (like key) rs) ∙ ih

  new_entry : (rows : List R) (x : R) → list_any (λ r. like key r x) rows ≡ false → entry (rows ++ x ∷ []) x ≡ (key x, add start x)
  new_entry rows x e =
      ap (λ zs. (key x, fold add start zs)) (filter-append (like key x) rows (x ∷ []) ∙ (ap (λ zs. zs ++ cond (like key x x) (x ∷ []) []) (none_kept (like key x) rows (back rows (not_any (λ r. like key r x) rows (ap not e)))) ∙ ap (λ b. cond b (x ∷ []) []) (same_keys_laws.refl (key x))))
    where
      back : (rs : List R) → Each (λ r. not (like key r x)) rs → Each (λ r. not (like key x r)) rs
      back [] h = tt
      back (r ∷ rs) h = (ap not (same_keys_laws.symm (key x) (key r)) ∙ h.0, back rs h.1)

  pub entries_push : (rows : List R) (x : R) → entries (rows ++ x ∷ []) ≡ upsert (entries rows) (key x) start (λ s. add s x)
  entries_push rows x =
      ap (map (entry (rows ++ x ∷ []))) (firsts_push (like key) rows x)
      ∙ (map-append (entry (rows ++ x ∷ [])) (firsts (like key) rows) (cond (list_any (λ r. like key r x) rows) [] (x ∷ []))
      ∙ (ap (λ es. es ++ map (entry (rows ++ x ∷ [])) (cond (list_any (λ r. like key r x) rows) [] (x ∷ []))) (map_same (entry (rows ++ x ∷ [])) (λ r. bumped x (entry rows r)) (entry_push rows x) (firsts (like key) rows))
      ∙ by (list_any (λ r. like key r x) rows) refl))
    where
      by : (b : Bool) → list_any (λ r. like key r x) rows ≡ b → map (λ r. bumped x (entry rows r)) (firsts (like key) rows) ++ map (entry (rows ++ x ∷ [])) (cond b [] (x ∷ [])) ≡ upsert (entries rows) (key x) start (λ s. add s x)
      by true e = append-nil (map (λ r. bumped x (entry rows r)) (firsts (like key) rows)) ∙ sym (present rows x (firsts (like key) rows) (firsts_apart (like key) rows) (any_first x rows ∙ e))
      by false e =
          let none : Each (λ r. not (like key r x)) (firsts (like key) rows) = not_any (λ r. like key r x) (firsts (like key) rows) (ap not (any_first x rows ∙ e)) in
          ap (λ es. es ++ entry (rows ++ x ∷ []) x ∷ []) (untouched rows x (firsts (like key) rows) none)
          ∙ (ap (λ z. map (entry rows) (firsts (like key) rows) ++ z ∷ []) (new_entry rows x e) ∙ sym (absent rows x (firsts (like key) rows) none))

  table_from : (done rows : List R) → fold (table_step key start add) (entries done) rows ≡ entries (done ++ rows)
  table_from done [] = ap entries (sym (append-nil done))
  table_from done (r ∷ rs) = ap (λ t. fold (table_step key start add) t rs) (sym (entries_push done r)) ∙ (table_from (done ++ r ∷ []) rs ∙ ap entries (append_assoc done (r ∷ []) rs))

  -- a table that took the rows one by one has an entry for each key, in the order of first rows, with the state of its rows
  pub table_is : (rows : List R) → table key start add rows ≡ grouped key (λ k group. (k, fold add start group)) rows
  table_is rows = table_from [] rows

map_map : {A B C : Type 0} (f : B → C) (g : A → B) (xs : List A) → map f (map g xs) ≡ map (λ x. f (g x)) xs
map_map f g [] = refl
map_map f g (x ∷ xs) = ap (λ ys. f (g x) ∷ ys) (map_map f g xs)

map_as : {A B : Type 0} (f g : A → B) → ((x : A) → f x ≡ g x) → (xs : List A) → map f xs ≡ map g xs
map_as f g h [] = refl
map_as f g h (x ∷ xs) = ap (λ y. y ∷ map f xs) (h x) ∙ ap (λ ys. g x ∷ ys) (map_as f g h xs)

-- what a table's entries give, by what they give of a group
from_table : {R S X : Type 0} (key : R → Cells) (start : S) (add : S → R → S) (of : Cells × S → X) (ans : Cells → List R → X) → ((k : Cells) (g : List R) → of (k, fold add start g) ≡ ans k g)
    → (rows : List R) → map of (table key start add rows) ≡ grouped key ans rows
from_table key start add of ans h rows = ap (map of) (table_is key start add rows) ∙ (map_map of (entry key start add rows) (firsts (like key) rows) ∙ map_as (λ r. of (entry key start add rows r)) (λ r. ans (key r) (filter (like key r) rows)) (λ r. h (key r) (filter (like key r) rows)) (firsts (like key) rows))

-- ---- the first phase

rows_apart : (c : AggCall) (calls : List AggCall) (s : State) (ss : List State) (g : List Cells) → fold (with_row (c ∷ calls)) (s ∷ ss) g ≡ fold (one_step c) s g ∷ fold (with_row calls) ss g
rows_apart c calls s ss [] = refl
rows_apart c calls s ss (r ∷ rs) = rows_apart c calls (one_step c s r) (with_row calls ss r) rs

cells_are : (calls : List AggCall) (kinds : List Kind) (g : List Cells) → all_cells calls kinds (fold (with_row calls) (starts calls) g) ≡ states_of calls kinds g
cells_are [] kinds g = refl
cells_are (c ∷ calls) kinds g =
    ap (all_cells (c ∷ calls) kinds) (rows_apart c calls (state_of c []) (starts calls) g)
    ∙ (ap (λ s. cells_of c (argument_kind c kinds) s ++ all_cells calls kinds (fold (with_row calls) (starts calls) g)) (fold_rows c [] g)
    ∙ ap (λ vs. cells_of c (argument_kind c kinds) (state_of c (map (argument c) g)) ++ vs) (cells_are calls kinds g))

pub first_table : (columns : List ℕ) (calls : List AggCall) (kinds : List Kind) (rows : List Cells) → map (λ (e : Cells × List State). e.0 ++ all_cells calls kinds e.1) (table (cells_at columns) (starts calls) (with_row calls) rows) ≡ phase_rows columns calls kinds rows
first_table columns calls kinds rows = from_table (cells_at columns) (starts calls) (with_row calls) (λ e. e.0 ++ all_cells calls kinds e.1) (phase_row calls kinds) (λ k g. ap (λ vs. k ++ vs) (cells_are calls kinds g)) rows

-- ---- the second phase

cells_apart : (c : AggCall) (calls : List AggCall) (s : State) (ss : List State) (g : List Cells) → fold (with_cells (c ∷ calls)) (s ∷ ss) g ≡ fold (λ s row. merged c s (read c row)) s g ∷ fold (with_cells calls) ss (map (drop (state_width c)) g)
cells_apart c calls s ss [] = refl
cells_apart c calls s ss (r ∷ rs) = cells_apart c calls (merged c s (read c r)) (with_cells calls ss (drop (state_width c) r)) rs

finished_are : (calls : List AggCall) (kinds : List Kind) (g : List Cells) → all_finished calls kinds (fold (with_cells calls) (starts calls) g) ≡ answers calls kinds g
finished_are [] kinds g = refl
finished_are (c ∷ calls) kinds g =
    ap (all_finished (c ∷ calls) kinds) (cells_apart c calls (state_of c []) (starts calls) g)
    ∙ (ap (λ s. finished c (told_kind c kinds) s ∷ all_finished calls (drop (state_width c) kinds) (fold (with_cells calls) (starts calls) (map (drop (state_width c)) g))) (sym (fold-map (merged c) (read c) (state_of c []) g))
    ∙ ap (λ os. finished c (told_kind c kinds) (fold (merged c) (state_of c []) (map (read c) g)) ∷ os) (finished_are calls (drop (state_width c) kinds) (map (drop (state_width c)) g)))

pub one_finished : (n : ℕ) (calls : List AggCall) (kinds : List Kind) (k : Cells) (g : List Cells) → finished_item n calls kinds (k, fold (λ ss row. with_cells calls ss (drop n row)) (starts calls) g) ≡ final_item n calls kinds k g
one_finished n calls kinds k g = ap (λ os. as_item (all_values os >>= λ vs. Ok (k ++ vs))) (ap (all_finished calls (drop n kinds)) (sym (fold-map (with_cells calls) (drop n) (starts calls) g)) ∙ finished_are calls (drop n kinds) (map (drop n) g))

pub second_table : (keys : List ℕ) (n : ℕ) (calls : List AggCall) (kinds : List Kind) (rows : List Cells)
    → map (finished_item n calls kinds) (table (cells_at keys) (starts calls) (λ ss row. with_cells calls ss (drop n row)) rows) ≡ grouped (cells_at keys) (final_item n calls kinds) rows
second_table keys n calls kinds rows = from_table (cells_at keys) (starts calls) (λ ss row. with_cells calls ss (drop n row)) (finished_item n calls kinds) (final_item n calls kinds) (one_finished n calls kinds) rows
