-- A plan that can be told reads all its files.
use Rattle.std.specs.Prelude.{nat_lt}
use Rattle.std.proofs.Common.{ℕ, inl, inr, ◌≡◌, ◌==◌, refl, ◌∙◌, subst, List, [], ◌∷◌, length, map, Bool, true, false, ◌&&◌}
use Rattle.std.proofs.lemmas.Bool.{false≢true}
use Rattle.physical_plan.specs.Everywhere.{all_true}
use Rattle.physical_plan.specs.declared.plan.Plan.{Plan}
use Rattle.physical_plan.specs.declared.plan.Plan.TheOpen.{Plan-F}
use Rattle.physical_plan.specs.declared.plan.Plan.TheViews.{roll-Plan}
use Rattle.physical_plan.specs.declared.plan.Plan.TheFolds.{fold-roll-Plan, para-roll-Plan, map-Plan, ind-Plan}
use Rattle.logical_plan.specs.Items.{rows}
use Rattle.logical_plan.specs.Body.{Tables}
use Rattle.plan_task_laws.specs.Sources.{reads_node, reads_all}
use Rattle.answer_laws.specs.Meant.{meaning_of, meant, is_whole, all_told, finishes, files_of, told_node, is_told}
use Rattle.answer_laws.proofs.Meaning.{both_true}
use Rattle.finished_laws.specs.Sound.{on_properties}
use Rattle.fault_laws.specs.Found.{IsToldTop}

module _ (tables : Tables) (spread : Plan-F Plan → Bool) where
  abbrev Reads : Plan → Type 0
  Reads p = is_told tables spread p ≡ true → reads_all p ≡ true

  abbrev Known : Type 0
  Known = (p : Plan) × Reads p

  level : (z : Plan-F Plan) → (told_node tables spread (map-Plan Plan (Plan × Bool) (λ p. (p, is_told tables spread p)) z) ≡ true → reads_node (map-Plan Plan Bool reads_all z) ≡ true) → Reads (roll-Plan z)
  unfolding is_told reads_all
  level z h = (let a = para-roll-Plan Bool (told_node tables spread) z in let b = fold-roll-Plan Bool reads_node z in rw (a, b) h)

  and_both : (a b : Bool) → a ≡ true → b ≡ true → a && b ≡ true
  and_both true b d e = e
  and_both false b d e = absurd (false≢true d)

  abbrev plans : List Known → List Plan
  plans ps = map (λ (p : Known). p.0) ps

  united : (ps : List Known) → all_told (λ p. is_whole (meaning_of tables p)) (map (λ (p : Plan). (p, is_told tables spread p)) (plans ps)) ≡ true → all_true (map reads_all (plans ps)) ≡ true
  united [] e = refl
  united (p ∷ ps) e =
      let all = all_told (λ p. is_whole (meaning_of tables p)) (map (λ (p : Plan). (p, is_told tables spread p)) (plans ps)) in
      let b = both_true (is_told tables spread p.0) (is_whole (meaning_of tables p.0) && all) e in
      let c = both_true (is_whole (meaning_of tables p.0)) all b.1 in
      and_both (reads_all p.0) (all_true (map reads_all (plans ps))) (p.1 b.0) (united ps c.1)

  step : (y : Plan-F Known) → Reads (roll-Plan (map-Plan Known Plan (λ k. k.0) y))
  step (Plan-F.Scan table kinds files partitions) = level (Plan-F.Scan table kinds files partitions) (λ e. (both_true (nat_lt 0 partitions) (files == length (files_of tables table)) e).0)
  step (Plan-F.Filter x t) = level (Plan-F.Filter x.0 t) (λ e. x.1 (both_true (is_told tables spread x.0) (is_whole (meaning_of tables x.0)) e).0)
  step (Plan-F.Project x is) = level (Plan-F.Project x.0 is) (λ e. x.1 (both_true (is_told tables spread x.0) (is_whole (meaning_of tables x.0)) e).0)
  step (Plan-F.PartialGroup x keys calls) = level (Plan-F.PartialGroup x.0 keys calls) (λ e. x.1 (both_true (is_told tables spread x.0) (is_whole (meaning_of tables x.0)) e).0)
  step (Plan-F.FinalGroup x keys calls) = level (Plan-F.FinalGroup x.0 keys calls) (λ e. x.1
      (both_true (is_told tables spread x.0) (finishes (meaning_of tables x.0).groups keys calls (rows (meant tables x.0)) && spread (Plan-F.FinalGroup x.0 keys calls)) e).0)
  step (Plan-F.HashJoin kind x y keys rest) = level (Plan-F.HashJoin kind x.0 y.0 keys rest) (λ e. (
      let b = both_true (is_told tables spread x.0 && is_whole (meaning_of tables x.0)) ((is_told tables spread y.0 && is_whole (meaning_of tables y.0)) && spread (Plan-F.HashJoin kind x.0 y.0 keys rest)) e in
      let c = both_true (is_told tables spread y.0 && is_whole (meaning_of tables y.0)) (spread (Plan-F.HashJoin kind x.0 y.0 keys rest)) b.1 in
      and_both (reads_all x.0) (reads_all y.0) (x.1 (both_true (is_told tables spread x.0) (is_whole (meaning_of tables x.0)) b.0).0)
      (y.1 (both_true (is_told tables spread y.0) (is_whole (meaning_of tables y.0)) c.0).0)))
  step (Plan-F.Sort x keys) = level (Plan-F.Sort x.0 keys) x.1
  step (Plan-F.Merge x keys) = level (Plan-F.Merge x.0 keys) x.1
  step (Plan-F.Coalesce x) = level (Plan-F.Coalesce x.0) x.1
  step (Plan-F.Repartition x to) = level (Plan-F.Repartition x.0 to) x.1
  step (Plan-F.UnionAll xs) = level (Plan-F.UnionAll (plans xs)) (united xs)
  step (Plan-F.Limit x skip fetch) = level (Plan-F.Limit x.0 skip fetch) (λ e. absurd (false≢true e))

  told_reads : (p : Plan) → Reads p
  told_reads = ind-Plan Reads (λ x y is. subst (λ z. Reads (roll-Plan z)) is (step y))

rolled : (z : Plan-F Plan) → reads_all (roll-Plan z) ≡ reads_node (map-Plan Plan Bool reads_all z)
unfolding reads_all
rolled z = fold-roll-Plan Bool reads_node z

pub top_reads : (tables : Tables) (n : ℕ) (p : Plan) → IsToldTop tables n p → reads_all p ≡ true
top_reads tables n p (inl t) = told_reads tables (on_properties tables n) p t
top_reads tables n p (inr l) = subst (λ (y : Plan). reads_all y ≡ true) l.3 (rolled (Plan-F.Limit l.0 l.1 l.2) ∙ told_reads tables (on_properties tables n) l.0 l.4)
