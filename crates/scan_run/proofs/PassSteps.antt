-- What a chain gives for one row, node by node, and the lines of rows that are taken one by one.
use Rattle.std.proofs.Common.{◌≡◌, refl, ℕ, ◌+◌, ◌<◌, ◌≤◌, List, [], ◌∷◌, ◌++◌, length, map, take, drop, get_or, Option, Result, Ok, Err, ap, sym, ◌∙◌, append_assoc, subst}
use Rattle.std.proofs.lemmas.List.{append-nil, map-append, take_more, take_all, drop_more, take-append-drop}
use Rattle.dfx_value.specs.declared.fault.EvalFault.{EvalFault}
use Rattle.dfx_value.specs.declared.fault.ItemFault.{ItemFault}
use Rattle.dfx_value.specs.declared.fault.ItemFault.TheVariants.{Evaluation}
use Rattle.scalar_exprs.specs.declared.expr.Expr.{Expr}
use Rattle.scalar_exprs.specs.declared.refused.EvalRefused.{EvalRefused}
use Rattle.scalar_exprs.specs.declared.refused.EvalRefused.TheVariants as refused
use Rattle.scalar_exprs.specs.Eval.{eval}
use Rattle.logical_plan.specs.Items.{Cells, Item, tested, filter_items, of_rows, rows, faults}
use Rattle.logical_plan.specs.declared.plan.Logical.{Logical}
use Rattle.result_text.specs.AnswerText.{row_line, row_lines}
use Rattle.scan_run.specs.Chains.{over}
use Rattle.scan_run.specs.Written.{lines}
use Rattle.scan_run.specs.Words.{Passes, Adds}
use Rattle.scan_run.proofs.OverLaws.{clean-append, lines-append, clean-nil, lines-nil, faults-two}

-- a filter over the one row, the fault or nothing
pub filter_one : (test : Expr) (row : Cells) (items : List Item) → items ≡ Ok row ∷ [] → filter_items test items ≡ tested row (eval row test)
filter_one test row items e = ap (filter_items test) e ∙ append-nil (tested row (eval row test))

pub filter_passes : (test : Expr) (row : Cells) (items : List Item) (r : Result (Option Cells) EvalRefused) → items ≡ Ok row ∷ [] → Passes r (tested row (eval row test)) → Passes r (filter_items test items)
filter_passes test row items r e p = rw (filter_one test row items e) p

pub filter_none : (test : Expr) (items : List Item) → items ≡ [] → filter_items test items ≡ []
filter_none test items e = ap (filter_items test) e

pub filter_fault : (test : Expr) (f : EvalFault) (items : List Item) → items ≡ Err (Evaluation f) ∷ [] → filter_items test items ≡ Err (Evaluation f) ∷ []
filter_fault test f items e = ap (filter_items test) e

pub ruleset pass_steps = (filter_passes, filter_none, filter_fault)

-- ---- rows one by one

-- the lines of the rows so far stand behind a text
pub record Added (body : Logical) (batch : List Cells) (count : ℕ) (text made : List ℕ) : Type 0 where
  pub clean : faults (over body (of_rows (take count batch))) ≡ []
  pub made_is : made ≡ text ++ lines body (of_rows (take count batch))

pub added_none : (body : Logical) (batch : List Cells) (text : List ℕ) → Added body batch 0 text text
added_none body batch text = record { clean = clean-nil body; made_is = sym (append-nil text) ∙ ap (λ (t : List ℕ). text ++ t) (sym (lines-nil body)) }

next-row : (batch : List Cells) (i : ℕ) → i < length batch → of_rows (take (i + 1) batch) ≡ of_rows (take i batch) ++ Ok (get_or batch i []) ∷ []
next-row batch i low = ap of_rows (take_more batch i [] low) ∙ map-append Ok (take i batch) (get_or batch i [] ∷ [])

pub added_more : {A : Type 0} (done : A) (body : Logical) (batch : List Cells) (i : ℕ) (text before made : List ℕ) → i < length batch → Added body batch i text before
    → Adds {A = A} (Ok done) (over body (Ok (get_or batch i []) ∷ [])) before made → Added body batch (i + 1) text made
added_more done body batch i text before made low h a = record {
  clean = ap (λ (t : List Item). faults (over body t)) (next-row batch i low) ∙ clean-append body (of_rows (take i batch)) (Ok (get_or batch i []) ∷ []) h.clean ∙ a.0;
  made_is = a.1 ∙ ap (λ (t : List ℕ). t ++ lines body (Ok (get_or batch i []) ∷ [])) h.made_is ∙ append_assoc text (lines body (of_rows (take i batch))) (lines body (Ok (get_or batch i []) ∷ []))
      ∙ ap (λ (t : List ℕ). text ++ t) (sym (ap (lines body) (next-row batch i low) ∙ lines-append body (of_rows (take i batch)) (Ok (get_or batch i []) ∷ [])));
}

pub added_all : {A : Type 0} (done : A) (body : Logical) (batch : List Cells) (i : ℕ) (text made : List ℕ) → length batch ≤ i → Added body batch i text made
    → Adds {A = A} (Ok done) (over body (of_rows batch)) text made
added_all done body batch i text made low h =
    let all : take i batch ≡ batch = take_all i batch low in
    (ap (λ (t : List Cells). faults (over body (of_rows t))) (sym all) ∙ h.clean, h.made_is ∙ ap (λ (t : List Cells). text ++ lines body (of_rows t)) all)

-- a row that meets a fault
pub added_fault : (A B : Type 0) (e : EvalRefused) (body : Logical) (batch : List Cells) (i : ℕ) (text before made now : List ℕ) → i < length batch → Added body batch i text before
    → Adds {A = A} (Err e) (over body (Ok (get_or batch i []) ∷ [])) before made → Adds {A = B} (Err e) (over body (of_rows batch)) text now
added_fault A B (refused.Fault f) body batch i text before made now low h a =
    let split : of_rows batch ≡ of_rows (take i batch) ++ (Ok (get_or batch i []) ∷ of_rows (drop (i + 1) batch)) =
    ap of_rows (sym (take-append-drop i batch) ∙ ap (λ (t : List Cells). take i batch ++ t) (drop_more batch i [] low)) ∙ map-append Ok (take i batch) (get_or batch i [] ∷ drop (i + 1) batch) in (
      a.0 ++ faults (over body (of_rows (drop (i + 1) batch))),
      ap (λ (t : List Item). faults (over body t)) split ∙ clean-append body (of_rows (take i batch)) (Ok (get_or batch i []) ∷ of_rows (drop (i + 1) batch)) h.clean
          ∙ faults-two body (Ok (get_or batch i []) ∷ []) (of_rows (drop (i + 1) batch)) ∙ ap (λ (t : List ItemFault). t ++ faults (over body (of_rows (drop (i + 1) batch)))) a.1,
    )
added_fault A B refused.NoMemory body batch i text before made now low h a = tt

pub rows_refused : (A B : Type 0) (result : Result A EvalRefused) (e found : EvalRefused) (body : Logical) (batch : List Cells) (i : ℕ) (row : Cells) (text before made now : List ℕ)
    → result ≡ Err found → found ≡ e → i < length batch → Added body batch i text before → row ≡ get_or batch i []
    → Adds {A = B} (Err e) (over body (Ok row ∷ [])) before made → Adds result (over body (of_rows batch)) text now
rows_refused A B result e found body batch i row text before made now is same low h at a =
    let here : Adds {A = B} (Err e) (over body (Ok (get_or batch i []) ∷ [])) before made = subst (λ (r : Cells). Adds {A = B} (Err e) (over body (Ok r ∷ [])) before made) at a in
    subst (λ (r : Result A EvalRefused). Adds r (over body (of_rows batch)) text now) (sym (is ∙ ap Err same)) (added_fault B A e body batch i text before made now low h here)
