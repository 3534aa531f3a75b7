-- What partitions owe to groups and joins.
use Rattle.std.specs.List.{sum_by, flat_map, AllPass}
use Rattle.std.proofs.Common.{ℕ, zero, suc, ◌≡◌, refl, sym, ◌∙◌, subst, List, length, map, Option, arith}
use Rattle.std.proofs.lemmas.List.Sums.{sum_by-append}
use Rattle.dfx_value.specs.Kinds.{are_of}
use Rattle.dfx_value.specs.declared.op.JoinKind.{JoinKind}
use Rattle.scalar_exprs.specs.declared.expr.Expr.{Expr}
use Rattle.physical_plan.specs.Numbers.{numbers}
use Rattle.logical_plan.specs.Items.{Item, rows, concat}
use Rattle.logical_plan.specs.Groups.{aggregated}
use Rattle.logical_plan.specs.Joins.{joined}
use Rattle.content_laws.specs.Bags.{SameBag, together, Alike}
use Rattle.phase_laws.specs.Phases.{phase, phase_kinds, final, AreApart}
use Rattle.phase_laws.proofs.Items.{two_phases}
use Rattle.phase_laws.proofs.Distinct.{distinct_is}
use Rattle.join_laws.specs.Joining.{join_items, AreMatched}
use Rattle.join_laws.proofs.Core.{one_join}
use Rattle.join_laws.proofs.Parts.{parts_alike}
use Rattle.answer_laws.specs.Meant.{Grouping}
use Rattle.answer_laws.specs.Parted.{LawsOfParts}
use Rattle.part_laws.specs.Phased.{the_phases}
use Rattle.part_laws.proofs.Blurs.{blurred, same_rows, alike_blurred, same_blurred, blurred_concat, blurred_together, phases_blur, aggregated_blurs, finals_blur, apart_blurs}

groups : (g : Grouping) (segments : List (List Item)) (input : List Item) (n : ℕ) (parts : ℕ → List Item)
    → AllPass (are_of g.kinds) (rows input) → Alike (concat segments) input → SameBag (together n parts) (flat_map (phase g.columns g.calls g.kinds) segments)
    → AreApart (numbers (length g.columns)) n parts
    → Alike (together n (λ i. final (numbers (length g.columns)) g.calls (phase_kinds g.columns g.calls g.kinds) (parts i))) (aggregated g.columns g.calls g.kinds input)
groups g segments input n parts kinds same bag apart w blind =
    let keys = numbers (length g.columns) in
    let a = subst (AllPass (are_of g.kinds)) (sym (same_rows input)) kinds in
    let b = subst (λ xs. SameBag xs (blurred input)) (sym (blurred_concat segments)) (alike_blurred (concat segments) input same) in
    let c = subst (λ xs. SameBag xs (flat_map (phase g.columns g.calls g.kinds) (map blurred segments))) (sym (blurred_together n parts))
    (subst (SameBag (blurred (together n parts))) (sym (phases_blur g.columns g.calls g.kinds segments)) (same_blurred (together n parts) (flat_map (phase g.columns g.calls g.kinds) segments) bag)) in
    let d = two_phases g.columns g.calls g.kinds (map blurred segments) (blurred input) n (λ i. blurred (parts i)) a b c (apart_blurs keys n parts apart) in
    sym (finals_blur keys g.calls (phase_kinds g.columns g.calls g.kinds) n parts w blind) ∙ d w blind ∙ aggregated_blurs g.columns g.calls g.kinds input w blind

joins : (kind : JoinKind) (lw rw2 : ℕ) (keys : List (ℕ × ℕ)) (rest : Option Expr) (n : ℕ) (lefts rights : ℕ → List Item) (ls rs : List Item)
    → Alike (together n lefts) ls → Alike (together n rights) rs → AreMatched keys n lefts rights
    → Alike (together n (λ i. joined kind lw rw2 keys rest (lefts i) (rights i))) (joined kind lw rw2 keys rest ls rs)
joins kind lw rw2 keys rest n lefts rights ls rs a b m w blind = sym (by n) ∙ parts_alike kind lw rw2 keys rest ls rs n lefts rights a b m w blind
  where
    by : (n : ℕ) → sum_by w (together n (λ i. join_items kind lw rw2 keys rest (lefts i) (rights i))) ≡ sum_by w (together n (λ i. joined kind lw rw2 keys rest (lefts i) (rights i)))
    by zero = refl
    by (suc n) =
        let c = sum_by-append w (together n (λ i. join_items kind lw rw2 keys rest (lefts i) (rights i))) (join_items kind lw rw2 keys rest (lefts n) (rights n)) in
        let d = sum_by-append w (together n (λ i. joined kind lw rw2 keys rest (lefts i) (rights i))) (joined kind lw rw2 keys rest (lefts n) (rights n)) in
        let e = by n in
        let f = one_join w kind lw rw2 keys rest (lefts n) (rights n) in
        omega arith

pub parts : LawsOfParts the_phases
parts = record { grouped = groups; of_joins = joins; distincts = distinct_is }
