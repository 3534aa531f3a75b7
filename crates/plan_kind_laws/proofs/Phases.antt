-- Both phases of a grouping have the kinds of the one group.
use Rattle.std.specs.Prelude.{slice_get}
use Rattle.std.specs.List.{list_all}
use Rattle.std.proofs.Common.{ℕ, zero, suc, ◌+◌, ◌<◌, ◌≡◌, refl, sym, ap, ◌∙◌, Bool, true, false, Option, Some, None, is_some, List, [], ◌∷◌, ◌++◌, map, length, drop, arith}
use Rattle.std.proofs.lemmas.Bool.{false≢true, eq-eqb}
use Rattle.std.proofs.lemmas.List.{length-map}
use Rattle.std.proofs.Math.Seq.{drop-append_seam}
use Rattle.dfx_value.specs.declared.kind.Kind.{Kind}
use Rattle.dfx_value.specs.declared.kind.Kind.TheVariants as kind
use Rattle.dfx_value.specs.declared.op.AggCall.{AggCall}
use Rattle.dfx_value.specs.declared.op.AggCall.TheVariants as call
use Rattle.scalar_exprs.specs.Kinds.{◌>>=◌, total_kind, mean_kind, scale_of, argument_kind, call_kind}
use Rattle.logical_plan.specs.Body.{kind_or_text, key_kinds, call_kinds}
use Rattle.physical_plan.specs.declared.plan.Plan.{Plan}
use Rattle.physical_plan.specs.declared.plan.Plan.TheVariants as plan
use Rattle.physical_plan.specs.Numbers.{numbers, numbers_from}
use Rattle.physical_plan.specs.Properties.{state_width}
use Rattle.physical_plan.proofs.Everywhere.{and_parts, both_true}
use Rattle.physical_build.specs.Build.{two_phases}
use Rattle.plan_kinds.specs.Phases.{has_columns, calls_fit, state_kinds, states_kinds, phase_kinds, answer_kind, answer_kinds, summed_kind}
use Rattle.plan_kinds.specs.Kinds.{kinds, provided, partial_kinds, final_kinds, side_by_side}
use Rattle.plan_kinds.proofs.Nodes.{kinds-PartialGroup, kinds-FinalGroup}

-- ---- keys that come first

numbers_length : (n at : ℕ) → length (numbers_from at n) ≡ n
numbers_length zero at = refl
numbers_length (suc n) at = ap suc (numbers_length n (at + 1))

front : (js more : List Kind) (i : ℕ) → i < length js → slice_get (js ++ more) i ≡ slice_get js i
front [] more i h = absurd (omega arith)
front (j ∷ js) more zero h = refl
front (j ∷ js) more (suc i) h = front js more i (omega arith)

there : (js : List Kind) (i : ℕ) → i < length js → is_some (slice_get js i) ≡ true
there [] i h = absurd (omega arith)
there (j ∷ js) zero h = refl
there (j ∷ js) (suc i) h = there js i (omega arith)

all_from : (test : ℕ → Bool) (n at : ℕ) → ((i : ℕ) → i < n → test (at + i) ≡ true) → list_all test (numbers_from at n) ≡ true
all_from test zero at h = refl
all_from test (suc n) at h =
    both_true _ _ (ap test (let e : at ≡ at + 0 = omega arith in e) ∙ h 0 (omega arith))
    (all_from test n (at + 1) (λ i l. ap test (let e : at + 1 + i ≡ at + suc i = omega arith in e) ∙ h (suc i) (omega arith)))

kinds_from : (F : ℕ → Kind) (at : ℕ) (ks : List Kind) → ((i : ℕ) → i < length ks → F (at + i) ≡ kind_or_text (slice_get ks i)) → map F (numbers_from at (length ks)) ≡ ks
kinds_from F at [] h = refl
kinds_from F at (k ∷ ks) h =
    ap (λ x. x ∷ map F (numbers_from (at + 1) (length ks))) (ap F (let e : at ≡ at + 0 = omega arith in e) ∙ h 0 (omega arith))
    ∙ ap (λ xs. k ∷ xs) (kinds_from F (at + 1) ks (λ i l. ap F (let e : at + 1 + i ≡ at + suc i = omega arith in e) ∙ h (suc i) (omega arith)))

zero_more : (i : ℕ) → 0 + i ≡ i
zero_more i = omega arith

pub first_columns : (js more : List Kind) → has_columns (js ++ more) (numbers (length js)) ≡ true
first_columns js more =
    all_from (λ c. is_some (slice_get (js ++ more) c)) (length js) 0
    (λ i h. ap (λ (c : ℕ). is_some (slice_get (js ++ more) c)) (zero_more i) ∙ ap is_some (front js more i h) ∙ there js i h)

pub first_kinds : (js more : List Kind) → key_kinds (js ++ more) (numbers (length js)) ≡ js
first_kinds js more =
    kinds_from (λ c. kind_or_text (slice_get (js ++ more) c)) 0 js
    (λ i h. ap (λ (c : ℕ). kind_or_text (slice_get (js ++ more) c)) (zero_more i) ∙ ap kind_or_text (front js more i h))

-- ---- what state columns tell

no_some : {P : Type 0} → false ≡ true → P
no_some e = absurd (false≢true e)

-- totals of a scale
summed : (s : ℕ) (rest : List Kind) → summed_kind (kind.Int ∷ kind.Dec 38 s ∷ kind.Dec 38 s ∷ kind.Bool ∷ rest) ≡ Some (kind.Dec 38 s)
summed s rest = rw (eq-eqb s s refl) refl

of_sum : (k : Option Kind) (rest : List Kind) → is_some (total_kind k) ≡ true
    → summed_kind (kind.Int ∷ kind.Dec 38 (scale_of k) ∷ kind.Dec 38 (scale_of k) ∷ kind.Bool ∷ rest) ≡ total_kind k
of_sum None rest e = no_some e
of_sum (Some kind.Bool) rest e = no_some e
of_sum (Some kind.Text) rest e = no_some e
of_sum (Some kind.Int) rest e = summed 0 rest
of_sum (Some (kind.Dec p s)) rest e = summed s rest

of_mean : (k : Option Kind) (rest : List Kind) → is_some (mean_kind k) ≡ true
    → (summed_kind (kind.Int ∷ kind.Dec 38 (scale_of k) ∷ kind.Dec 38 (scale_of k) ∷ kind.Bool ∷ rest) >>= λ t. mean_kind (Some t)) ≡ mean_kind k
of_mean None rest e = no_some e
of_mean (Some kind.Bool) rest e = no_some e
of_mean (Some kind.Text) rest e = no_some e
of_mean (Some kind.Int) rest e = ap (λ o. o >>= λ t. mean_kind (Some t)) (summed 0 rest)
of_mean (Some (kind.Dec p s)) rest e = ap (λ o. o >>= λ t. mean_kind (Some t)) (summed s rest)

of_best : (k : Option Kind) → is_some k ≡ true → Some (kind_or_text k) ≡ k
of_best None e = no_some e
of_best (Some k) e = refl

of_count : (k : Option Kind) → is_some (k >>= λ _. Some kind.Int) ≡ true → Some kind.Int ≡ (k >>= λ _. Some kind.Int)
of_count None e = no_some e
of_count (Some k) e = refl

told : (c : AggCall) (columns rest : List Kind) → is_some (call_kind c columns) ≡ true → answer_kind c (state_kinds c (argument_kind c columns) ++ rest) ≡ call_kind c columns
told call.CountAll columns rest e = refl
told (call.Count c) columns rest e = of_count (slice_get columns c) e
told (call.Sum c) columns rest e = of_sum (slice_get columns c) rest e
told (call.Min c) columns rest e = of_best (slice_get columns c) e
told (call.Max c) columns rest e = of_best (slice_get columns c) e
told (call.Avg c) columns rest e = of_mean (slice_get columns c) rest e

behind : (c : AggCall) (k : Option Kind) (rest : List Kind) → drop (state_width c) (state_kinds c k ++ rest) ≡ rest
behind call.CountAll k rest = refl
behind (call.Count c) k rest = refl
behind (call.Sum c) k rest = refl
behind (call.Min c) k rest = refl
behind (call.Max c) k rest = refl
behind (call.Avg c) k rest = refl

answered : (k : Option Kind) (more : List Kind) → is_some k ≡ true → (k >>= λ j. Some (j ∷ more)) ≡ Some (kind_or_text k ∷ more)
answered None more e = no_some e
answered (Some k) more e = refl

answers : (calls : List AggCall) (columns : List Kind) → calls_fit columns calls ≡ true → answer_kinds calls (states_kinds calls columns) ≡ Some (call_kinds columns calls)
answers [] columns e = refl
answers (c ∷ calls) columns e =
    let a = and_parts (is_some (call_kind c columns)) (calls_fit columns calls) e in
    let k = argument_kind c columns in
    let rest = states_kinds calls columns in
    ap (λ o. o >>= λ j. answer_kinds calls (drop (state_width c) (state_kinds c k ++ rest)) >>= λ ks. Some (j ∷ ks)) (told c columns rest a.0)
    ∙ ap (λ states. call_kind c columns >>= λ j. answer_kinds calls states >>= λ ks. Some (j ∷ ks)) (behind c k rest)
    ∙ ap (λ o. call_kind c columns >>= λ j. o >>= λ ks. Some (j ∷ ks)) (answers calls columns a.1)
    ∙ answered (call_kind c columns) (call_kinds columns calls) a.0

-- ---- both phases

second : (js ks : List Kind) (keys : List ℕ) (calls : List AggCall) (states : List Kind) → length js ≡ length keys → answer_kinds calls states ≡ Some ks
    → final_kinds (numbers (length keys)) calls (js ++ states) ≡ Some (js ++ ks)
second js ks keys calls states w e =
    let n = numbers (length js) in
    ap (λ (m : ℕ). final_kinds (numbers m) calls (js ++ states)) (sym w)
    ∙ ap (λ b. side_by_side (provided b (key_kinds (js ++ states) n)) (answer_kinds calls (drop (length n) (js ++ states)))) (first_columns js states)
    ∙ ap (λ v. side_by_side (Some v) (answer_kinds calls (drop (length n) (js ++ states)))) (first_kinds js states)
    ∙ ap (λ (m : ℕ). side_by_side (Some js) (answer_kinds calls (drop m (js ++ states)))) (numbers_length (length js) 0)
    ∙ ap (λ v. side_by_side (Some js) (answer_kinds calls v)) (drop-append_seam js states)
    ∙ ap (λ o. side_by_side (Some js) o) e

pub phases : (p : Plan) (columns : List Kind) (keys : List ℕ) (calls : List AggCall) → kinds p ≡ Some columns → has_columns columns keys ≡ true → calls_fit columns calls ≡ true
    → kinds (two_phases p keys calls) ≡ Some (key_kinds columns keys ++ call_kinds columns calls)
phases p columns keys calls e h f =
    kinds-FinalGroup (plan.PartialGroup p keys calls) (numbers (length keys)) calls
    ∙ ap (λ o. o >>= final_kinds (numbers (length keys)) calls) (kinds-PartialGroup p keys calls)
    ∙ ap (λ o. o >>= partial_kinds keys calls >>= final_kinds (numbers (length keys)) calls) e
    ∙ ap (λ b. provided b (phase_kinds keys calls columns) >>= final_kinds (numbers (length keys)) calls) (both_true _ _ h f)
    ∙ second (key_kinds columns keys) (call_kinds columns calls) keys calls (states_kinds calls columns)
    (length-map keys (λ (k : ℕ). kind_or_text (slice_get columns k))) (answers calls columns f)
