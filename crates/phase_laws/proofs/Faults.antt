-- The faults of the second phase are those of the input or of the meaning.
use Rattle.std.proofs.Common.{ℕ, sym, ap, ◌∙◌, subst, List, [], ◌∷◌, length, Bool}
use Rattle.std.specs.List.{sum_by, flat_map, AllPass}
use Rattle.dfx_value.specs.Kinds.{are_of}
use Rattle.dfx_value.specs.declared.kind.Kind.{Kind}
use Rattle.dfx_value.specs.declared.fault.ItemFault.{ItemFault}
use Rattle.dfx_value.specs.declared.op.AggCall.{AggCall}
use Rattle.logical_plan.specs.Items.{Item, rows, faults, concat}
use Rattle.logical_plan.specs.Groups.{one_group, aggregated}
use Rattle.phase_laws.specs.Phases.{AreApart, phase, phase_kinds, one_final, final}
use Rattle.physical_plan.specs.Numbers.{numbers}
use Rattle.content_laws.specs.Bags.{SameBag, together}
use Rattle.phase_laws.proofs.Bags.{Each, bag_each}
use Rattle.content_laws.proofs.Weights.{none_left}
use Rattle.content_laws.proofs.Items.{bag_faults}
use Rattle.phase_laws.proofs.Items.{each_pass, faults-phase, with_keys, one_item}
use Rattle.phase_laws.proofs.Distinct.{all_from}

pub faults_kept : (columns : List ℕ) (calls : List AggCall) (kinds : List Kind) (segments : List (List Item)) (input : List Item) (n : ℕ) (parts : ℕ → List Item) (test : ItemFault → Bool)
    → AllPass (are_of kinds) (rows input) → SameBag (concat segments) input → SameBag (together n parts) (flat_map (phase columns calls kinds) segments) → AreApart (numbers (length columns)) n parts
    → AllPass test (faults input) → AllPass test (faults (aggregated columns calls kinds input))
    → AllPass test (faults (together n (λ i. final (numbers (length columns)) calls (phase_kinds columns calls kinds) (parts i))))
faults_kept (column ∷ columns) calls kinds segments input n parts test good same came apart own given =
    all_from test _ (bag_each test (faults (aggregated (column ∷ columns) calls kinds input)) (faults (together n (λ i. final (numbers (length (column ∷ columns))) calls (phase_kinds (column ∷ columns) calls kinds) (parts i))))
    (bag_faults (aggregated (column ∷ columns) calls kinds input) (together n (λ i. final (numbers (length (column ∷ columns))) calls (phase_kinds (column ∷ columns) calls kinds) (parts i))) (λ w. sym (with_keys column columns calls kinds segments input n parts good same came apart w)))
    (each_pass test (faults (aggregated (column ∷ columns) calls kinds input)) given))
faults_kept [] calls kinds segments input n parts test good same came apart own given =
    let P : ℕ → Type 0 = λ m. SameBag (together m parts) (flat_map (phase [] calls kinds) segments) in
    let Q : ℕ → Type 0 = λ m. AllPass test (faults (together m (λ i. final [] calls (phase_kinds [] calls kinds) (parts i)))) in
    let one : SameBag (parts 0) (flat_map (phase [] calls kinds) segments) = subst P apart came in
    let faults_same : SameBag (faults (parts 0)) (faults input) = λ v. bag_faults (parts 0) (flat_map (phase [] calls kinds) segments) one v ∙ (ap (sum_by v) (faults-phase [] calls kinds segments) ∙ bag_faults (concat segments) input same v) in
    let known : Each test (faults (parts 0)) = bag_each test (faults input) (faults (parts 0)) (λ v. sym (faults_same v)) (each_pass test (faults input) own) in
    subst Q (sym apart) (all_from test (faults (final [] calls (phase_kinds [] calls kinds) (parts 0))) (by (faults (parts 0)) (faults input) faults_same known (each_pass test (faults (aggregated [] calls kinds input)) given) one))
  where
    by : (fs gs : List ItemFault) → SameBag fs gs → Each test fs → Each test (faults (one_group calls kinds (rows input) gs ∷ [])) → SameBag (parts 0) (flat_map (phase [] calls kinds) segments) → Each test (faults (one_final calls (phase_kinds [] calls kinds) (rows (parts 0)) fs ∷ []))
    by (f ∷ fs) gs e h k one = (h.0, tt)
    by [] [] e h k one = subst (λ x. Each test (faults (x ∷ []))) (sym (one_item calls kinds segments input (parts 0) good same one)) k
    by [] (g ∷ gs) e h k one = none_left g gs e
