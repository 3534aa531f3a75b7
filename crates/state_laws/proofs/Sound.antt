-- The inputs of a sound node are sound.
use Rattle.std.proofs.Common.{ℕ, ◌+◌, ◌≡◌, sym, ap, ◌∙◌, List, [], ◌∷◌, map, Bool, true, ◌&&◌}
use Rattle.std.proofs.lemmas.Bool.{false≢true}
use Rattle.physical_plan.specs.declared.plan.Plan.{Plan}
use Rattle.physical_plan.specs.declared.plan.Plan.TheOpen.{Plan-F}
use Rattle.physical_plan.specs.declared.plan.Plan.TheViews.{roll-Plan}
use Rattle.physical_plan.specs.declared.plan.Plan.TheFolds.{map-Plan}
use Rattle.physical_plan.specs.Everywhere.{Test, everywhere, node_holds, all_true}
use Rattle.logical_plan.specs.Items.{rows}
use Rattle.logical_plan.specs.Body.{Tables}
use Rattle.plan_task_laws.specs.Trees.{stages_in, sources_in}
use Rattle.answer_laws.specs.Meant.{meaning_of, meant, is_whole, finishes, all_told, told_node, is_told}
use Rattle.answer_laws.proofs.Meaning.{both_true}
use Rattle.finished_laws.specs.Sound.{anyhow, is_met, is_sound}
use Rattle.finished_laws.proofs.Everywhere.{seconds, one_below, two_below}
use Rattle.finished_laws.proofs.Told.{sound, sound_node}
use Rattle.state_laws.proofs.Inherited.{AllFrom, Below}

module _ (tables : Tables) (n : ℕ) where
  abbrev test : Test
  test = is_met tables n

  abbrev pub Sound : Plan → ℕ → ℕ → Type 0
  Sound p k i = is_sound tables n p ≡ true

  abbrev node : Test → Plan-F Plan → Bool
  node t z = node_holds t (map-Plan Plan (Plan × Bool) (λ p. (p, everywhere t p)) z)

  abbrev told : Plan-F Plan → Bool
  told z = told_node tables anyhow (map-Plan Plan (Plan × Bool) (λ p. (p, is_told tables anyhow p)) z)

  level : (z : Plan-F Plan) (k i : ℕ) → (node test z ≡ true → told z ≡ true → Below Sound z k i) → Sound (roll-Plan z) k i → Below Sound z k i
  level z k i h s = (let b = sound_node tables n z s in h b.0 b.1)

  -- the one input of a node
  one : (z : Plan-F Plan) (p : Plan) → test z && (everywhere test p && true) ≡ true → is_told tables anyhow p ≡ true → is_sound tables n p ≡ true
  one z p e t = sound tables n p (one_below (test z) (everywhere test p) e).1 t

  -- and where it has no states of groups
  whole : (z : Plan-F Plan) (p : Plan) → test z && (everywhere test p && true) ≡ true → is_told tables anyhow p && is_whole (meaning_of tables p) ≡ true → is_sound tables n p ≡ true
  whole z p e t = one z p e (both_true (is_told tables anyhow p) (is_whole (meaning_of tables p)) t).0

  united : (ps : List Plan) (k i : ℕ) → all_true (map (everywhere test) ps) ≡ true → all_told (λ p. is_whole (meaning_of tables p)) (map (λ (p : Plan). (p, is_told tables anyhow p)) ps) ≡ true
      → AllFrom Sound ps k i
  united [] k i e t = tt
  united (p ∷ ps) k i e t =
      let w = is_whole (meaning_of tables p) in
      let more = all_told (λ p. is_whole (meaning_of tables p)) (map (λ (p : Plan). (p, is_told tables anyhow p)) ps) in
      let a = both_true (everywhere test p) (all_true (map (everywhere test) ps)) e in
      let b = both_true (is_told tables anyhow p) (w && more) t in
      (sound tables n p a.0 b.0, united ps (k + stages_in p) (i + sources_in p) a.1 (both_true w more b.1).1)

  of_union : (ps : List Plan) → node test (Plan-F.UnionAll ps) ≡ true → all_true (map (everywhere test) ps) ≡ true
  of_union ps e = (let zs = map (λ (x : Plan). (x, everywhere test x)) ps in
      sym (ap all_true (seconds test ps)) ∙ (both_true (test (Plan-F.UnionAll (map (λ (p : Plan × Bool). p.0) zs))) (all_true (map (λ (p : Plan × Bool). p.1) zs)) e).1)

  pub down : (z : Plan-F Plan) (k i : ℕ) → Sound (roll-Plan z) k i → Below Sound z k i
  down (Plan-F.Scan table kinds files partitions) k i s = tt
  down (Plan-F.Filter p cond) k i s = level (Plan-F.Filter p cond) k i (whole (Plan-F.Filter p cond) p) s
  down (Plan-F.Project p items) k i s = level (Plan-F.Project p items) k i (whole (Plan-F.Project p items) p) s
  down (Plan-F.PartialGroup p keys calls) k i s = level (Plan-F.PartialGroup p keys calls) k i (whole (Plan-F.PartialGroup p keys calls) p) s
  down (Plan-F.FinalGroup p keys calls) k i s = level (Plan-F.FinalGroup p keys calls) k i (λ e t. (
      let g = finishes (meaning_of tables p).groups keys calls (rows (meant tables p)) in
      one (Plan-F.FinalGroup p keys calls) p e (both_true (is_told tables anyhow p) (g && true) t).0)) s
  down (Plan-F.HashJoin kind p q keys rest) k i s = level (Plan-F.HashJoin kind p q keys rest) k i (λ e t. (
      let z = Plan-F.HashJoin kind p q keys rest in
      let v = is_whole (meaning_of tables p) in
      let w = is_whole (meaning_of tables q) in
      let b = both_true (is_told tables anyhow p && v) ((is_told tables anyhow q && w) && true) t in
      let c = both_true (is_told tables anyhow p) v b.0 in
      let d = both_true (is_told tables anyhow q && w) true b.1 in
      let e2 = both_true (is_told tables anyhow q) w d.0 in
      let m = two_below (test z) (everywhere test p) (everywhere test q) e in
      (sound tables n p m.1 c.0, sound tables n q m.2 e2.0))) s
  down (Plan-F.Sort p keys) k i s = level (Plan-F.Sort p keys) k i (one (Plan-F.Sort p keys) p) s
  down (Plan-F.Merge p keys) k i s = level (Plan-F.Merge p keys) k i (one (Plan-F.Merge p keys) p) s
  down (Plan-F.Coalesce p) k i s = level (Plan-F.Coalesce p) k i (one (Plan-F.Coalesce p) p) s
  down (Plan-F.Repartition p to) k i s = level (Plan-F.Repartition p to) k i (one (Plan-F.Repartition p to) p) s
  down (Plan-F.UnionAll ps) k i s = level (Plan-F.UnionAll ps) k i (λ e t. united ps k i (of_union ps e) t) s
  down (Plan-F.Limit p skip fetch) k i s = level (Plan-F.Limit p skip fetch) k i (λ e t. absurd (false≢true t)) s
