-- A sound plan can be told, with its groups and joins spread as it declares.
use Rattle.std.proofs.Common.{ℕ, ◌≡◌, refl, sym, ap, ◌∙◌, subst, List, [], ◌∷◌, map, Bool, true, ◌&&◌}
use Rattle.std.proofs.lemmas.Bool.{false≢true}
use Rattle.physical_plan.specs.declared.plan.Plan.{Plan}
use Rattle.physical_plan.specs.declared.plan.Plan.TheOpen.{Plan-F}
use Rattle.physical_plan.specs.declared.plan.Plan.TheViews.{roll-Plan}
use Rattle.physical_plan.specs.declared.plan.Plan.TheFolds.{para-roll-Plan, map-Plan, ind-Plan}
use Rattle.physical_plan.specs.Everywhere.{Test, node_holds, everywhere, all_true}
use Rattle.physical_plan.specs.Needs.{spread_needs, order_needs}
use Rattle.logical_plan.specs.Items.{rows}
use Rattle.logical_plan.specs.Body.{Tables}
use Rattle.answer_laws.specs.Meant.{meaning_of, meant, is_whole, all_told, finishes, told_node, is_told}
use Rattle.answer_laws.proofs.Meaning.{both_true}
use Rattle.node_laws.specs.Tests.{needs_in_range}
use Rattle.finished_laws.specs.Sound.{anyhow, scans_fit, is_met, is_sound, on_properties}
use Rattle.finished_laws.proofs.Everywhere.{both_are, rolled, seconds, one_below, two_below}

module _ (tables : Tables) (n : ℕ) where
  abbrev pub test : Test
  test = is_met tables n

  abbrev spread : Plan-F Plan → Bool
  spread = on_properties tables n

  -- what a node that passes the test has: its needs of distribution and of order, columns in range, and scans of their width
  pub record HasMet (z : Plan-F Plan) : Type 0 where
    pub spread : spread_needs n z ≡ true
    pub order : order_needs z ≡ true
    pub ranges : needs_in_range z ≡ true
    pub fits : scans_fit tables z ≡ true

  pub met_of : (z : Plan-F Plan) → test z ≡ true → HasMet z
  met_of z e =
      let a = both_true (spread_needs n z) (order_needs z && (needs_in_range z && scans_fit tables z)) e in
      let b = both_true (order_needs z) (needs_in_range z && scans_fit tables z) a.1 in
      let c = both_true (needs_in_range z) (scans_fit tables z) b.1 in
      record { spread = a.0; order = b.0; ranges = c.0; fits = c.1 }

  pub told_rolled : (any : Plan-F Plan → Bool) (z : Plan-F Plan) → is_told tables any (roll-Plan z) ≡ told_node tables any (map-Plan Plan (Plan × Bool) (λ p. (p, is_told tables any p)) z)
  unfolding is_told
  told_rolled any z = para-roll-Plan Bool (told_node tables any) z

  pub sound : (q : Plan) → everywhere test q ≡ true → is_told tables anyhow q ≡ true → is_sound tables n q ≡ true
  sound q e t = both_are (everywhere test q) (is_told tables anyhow q) e t

  -- a sound node: its test, that of its inputs, and what it's told by
  pub sound_node : (z : Plan-F Plan) → is_sound tables n (roll-Plan z) ≡ true
      → (node_holds test (map-Plan Plan (Plan × Bool) (λ p. (p, everywhere test p)) z) ≡ true) × (told_node tables anyhow (map-Plan Plan (Plan × Bool) (λ p. (p, is_told tables anyhow p)) z) ≡ true)
  sound_node z e = (let b = both_true (everywhere test (roll-Plan z)) (is_told tables anyhow (roll-Plan z)) e in (sym (rolled test z) ∙ b.0, sym (told_rolled anyhow z) ∙ b.1))

  abbrev Tells : Plan → Type 0
  Tells p = is_sound tables n p ≡ true → is_told tables spread p ≡ true

  abbrev Known : Type 0
  Known = (p : Plan) × Tells p

  abbrev plans : List Known → List Plan
  plans ps = map (λ (p : Known). p.0) ps

  level : (z : Plan-F Plan)
      → (node_holds test (map-Plan Plan (Plan × Bool) (λ p. (p, everywhere test p)) z) ≡ true → told_node tables anyhow (map-Plan Plan (Plan × Bool) (λ p. (p, is_told tables anyhow p)) z) ≡ true
      → told_node tables spread (map-Plan Plan (Plan × Bool) (λ p. (p, is_told tables spread p)) z) ≡ true)
      → Tells (roll-Plan z)
  level z h e = (let b = sound_node z e in told_rolled spread z ∙ h b.0 b.1)

  -- the input of a node
  below : (z : Bool) (p : Known) → z && (everywhere test p.0 && true) ≡ true → is_told tables anyhow p.0 ≡ true → is_told tables spread p.0 ≡ true
  below z p h t = p.1 (sound p.0 (one_below z (everywhere test p.0) h).1 t)

  -- an input that is told, and has no states of groups
  whole_below : (z : Bool) (p : Known) → z && (everywhere test p.0 && true) ≡ true → is_told tables anyhow p.0 && is_whole (meaning_of tables p.0) ≡ true → is_told tables spread p.0 && is_whole (meaning_of tables p.0) ≡ true
  whole_below z p h t = (let b = both_true (is_told tables anyhow p.0) (is_whole (meaning_of tables p.0)) t in both_are (is_told tables spread p.0) (is_whole (meaning_of tables p.0)) (below z p h b.0) b.1)

  united : (ps : List Known) → all_true (map (everywhere test) (plans ps)) ≡ true → all_told (λ p. is_whole (meaning_of tables p)) (map (λ (p : Plan). (p, is_told tables anyhow p)) (plans ps)) ≡ true
      → all_told (λ p. is_whole (meaning_of tables p)) (map (λ (p : Plan). (p, is_told tables spread p)) (plans ps)) ≡ true
  united [] h t = refl
  united (p ∷ ps) h t =
      let w = is_whole (meaning_of tables p.0) in
      let b = both_true (everywhere test p.0) (all_true (map (everywhere test) (plans ps))) h in
      let more = all_told (λ p. is_whole (meaning_of tables p)) (map (λ (p : Plan). (p, is_told tables anyhow p)) (plans ps)) in
      let then = all_told (λ p. is_whole (meaning_of tables p)) (map (λ (p : Plan). (p, is_told tables spread p)) (plans ps)) in
      let c = both_true (is_told tables anyhow p.0) (w && more) t in
      let d = both_true w more c.1 in
      both_are (is_told tables spread p.0) (w && then) (p.1 (sound p.0 b.0 c.0)) (both_are w then d.0 (united ps b.1 d.1))

  step : (y : Plan-F Known) → Tells (roll-Plan (map-Plan Known Plan (λ k. k.0) y))
  step (Plan-F.Scan table kinds files partitions) = level (Plan-F.Scan table kinds files partitions) (λ h t. t)
  step (Plan-F.Filter p cond) = level (Plan-F.Filter p.0 cond) (whole_below (test (Plan-F.Filter p.0 cond)) p)
  step (Plan-F.Project p items) = level (Plan-F.Project p.0 items) (whole_below (test (Plan-F.Project p.0 items)) p)
  step (Plan-F.PartialGroup p keys calls) = level (Plan-F.PartialGroup p.0 keys calls) (whole_below (test (Plan-F.PartialGroup p.0 keys calls)) p)
  step (Plan-F.FinalGroup p keys calls) = level (Plan-F.FinalGroup p.0 keys calls) (λ h t. (
      let z = test (Plan-F.FinalGroup p.0 keys calls) in
      let g = finishes (meaning_of tables p.0).groups keys calls (rows (meant tables p.0)) in
      let s = spread (Plan-F.FinalGroup p.0 keys calls) in
      let b = both_true (is_told tables anyhow p.0) (g && true) t in
      let c = both_true g true b.1 in
      let d = one_below z (everywhere test p.0) h in
      both_are (is_told tables spread p.0) (g && s) (below z p h b.0) (both_are g s c.0 (both_are z (is_sound tables n p.0 && true) d.0 (both_are (is_sound tables n p.0) true (sound p.0 d.1 b.0) refl)))))
  step (Plan-F.HashJoin kind p q keys rest) = level (Plan-F.HashJoin kind p.0 q.0 keys rest) (λ h t. (
      let z = test (Plan-F.HashJoin kind p.0 q.0 keys rest) in
      let s = spread (Plan-F.HashJoin kind p.0 q.0 keys rest) in
      let v = is_whole (meaning_of tables p.0) in
      let w = is_whole (meaning_of tables q.0) in
      let b = both_true (is_told tables anyhow p.0 && v) ((is_told tables anyhow q.0 && w) && true) t in
      let c = both_true (is_told tables anyhow p.0) v b.0 in
      let d = both_true (is_told tables anyhow q.0 && w) true b.1 in
      let e = both_true (is_told tables anyhow q.0) w d.0 in
      let m = two_below z (everywhere test p.0) (everywhere test q.0) h in
      let i = sound p.0 m.1 c.0 in
      let j = sound q.0 m.2 e.0 in
      both_are (is_told tables spread p.0 && v) ((is_told tables spread q.0 && w) && s)
      (both_are (is_told tables spread p.0) v (p.1 i) c.1)
      (both_are (is_told tables spread q.0 && w) s (both_are (is_told tables spread q.0) w (q.1 j) e.1)
      (both_are z (is_sound tables n p.0 && (is_sound tables n q.0 && true)) m.0 (both_are (is_sound tables n p.0) (is_sound tables n q.0 && true) i (both_are (is_sound tables n q.0) true j refl))))))
  step (Plan-F.Sort p keys) = level (Plan-F.Sort p.0 keys) (below (test (Plan-F.Sort p.0 keys)) p)
  step (Plan-F.Merge p keys) = level (Plan-F.Merge p.0 keys) (below (test (Plan-F.Merge p.0 keys)) p)
  step (Plan-F.Coalesce p) = level (Plan-F.Coalesce p.0) (below (test (Plan-F.Coalesce p.0)) p)
  step (Plan-F.Repartition p to) = level (Plan-F.Repartition p.0 to) (below (test (Plan-F.Repartition p.0 to)) p)
  step (Plan-F.UnionAll ps) = level (Plan-F.UnionAll (plans ps)) (λ h t. (
      let z = test (Plan-F.UnionAll (plans ps)) in
      let zs = map (λ (x : Plan). (x, everywhere test x)) (plans ps) in
      united ps (sym (ap all_true (seconds test (plans ps))) ∙ (both_true (test (Plan-F.UnionAll (map (λ (p : Plan × Bool). p.0) zs))) (all_true (map (λ (p : Plan × Bool). p.1) zs)) h).1) t))
  step (Plan-F.Limit p skip fetch) = level (Plan-F.Limit p.0 skip fetch) (λ h t. absurd (false≢true t))

  pub told : (p : Plan) → Tells p
  told = ind-Plan Tells (λ x y is. subst (λ z. Tells (roll-Plan z)) is (step y))
