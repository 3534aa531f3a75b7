-- Meaning: where the cause of a failed run comes from.
use Rattle.std.specs.Prelude.{ℕ, ◌≡◌, ◌⊎◌, Bool, true, false, Option, List, [], ◌∷◌}
use Rattle.dfx_value.specs.declared.fault.EvalFault.{EvalFault}
use Rattle.dfx_value.specs.declared.fault.ItemFault.{ItemFault}
use Rattle.dfx_value.specs.declared.fault.ItemFault.TheVariants.{Evaluation}
use Rattle.run_journal.specs.declared.cause.Cause.{Cause}
use Rattle.run_journal.specs.declared.cause.Cause.TheVariants as why
use Rattle.physical_plan.specs.declared.plan.Plan.{Plan}
use Rattle.physical_plan.specs.declared.plan.Plan.TheOpen.{Plan-F}
use Rattle.physical_plan.specs.declared.plan.Plan.TheViews.{roll-Plan}
use Rattle.logical_plan.specs.Items.{faults}
use Rattle.logical_plan.specs.Body.{Tables}
use Rattle.tree_laws.specs.Trees.{File, cause_at}
use Rattle.answer_laws.specs.Meant.{is_told}
use Rattle.finished_laws.specs.Sound.{on_properties}

-- the fault is that of an evaluation, and so is the cause
abbrev pub IsEvaluation : ItemFault → Cause → Type 0
IsEvaluation f cause = (e : EvalFault) × (f ≡ Evaluation e) × (cause ≡ why.Evaluation e)

-- the cause is a fault that passes: of an evaluation by an operator, or in a file of a source with which it passes too
abbrev pub Found : (ItemFault → Bool) → (ℕ → ItemFault → Bool) → Cause → Type 0
Found met named cause =
    (f : ItemFault) × (met f ≡ true) × (IsEvaluation f cause ⊎ ((s : ℕ) × (cause ≡ cause_at s f) × (named s f ≡ true)))

-- ------------------------------------------------------------ one of a list

abbrev pub IsIn : {A : Type 0} → A → List A → Type 0
IsIn x [] = ⊥
IsIn x (y ∷ ys) = (x ≡ y) ⊎ IsIn x ys

-- the cause is one of these faults: of an evaluation by an operator, or in one of these files, at its source
abbrev pub Ends : List ItemFault → List File → Cause → Type 0
Ends met files cause = (f : ItemFault) × IsIn f met
    × (IsEvaluation f cause ⊎ ((x : File) × IsIn x files × IsIn f (faults x.items) × (cause ≡ cause_at x.source f)))

-- a cause that is no fault of a device, of memory or of a reservation
abbrev pub is_of_fault : Cause → Bool
is_of_fault (why.Evaluation f) = true
is_of_fault (why.Csv source number row column) = true
is_of_fault (why.Arrow source number batch column place) = true
is_of_fault _ = false

-- ------------------------------------------------------------ plans and runs

-- the plan can be told, with groups and joins spread as it declares
abbrev pub IsTold : Tables → ℕ → Plan → Type 0
IsTold tables n p = is_told tables (on_properties tables n) p ≡ true

-- or it is a limit of one that can
abbrev pub IsToldTop : Tables → ℕ → Plan → Type 0
IsToldTop tables n p = IsTold tables n p
    ⊎ ((q : Plan) × (skip : ℕ) × (fetch : Option ℕ) × (roll-Plan (Plan-F.Limit q skip fetch) ≡ p) × IsTold tables n q)
