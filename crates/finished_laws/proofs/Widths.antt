-- The rows of a sound plan have as many columns as it means to have.
use Rattle.std.proofs.Common.{ℕ, ◌+◌, ◌≡◌, refl, sym, ap, ◌∙◌, subst, List, [], ◌∷◌, ◌++◌, length, map, Bool, true, ◌&&◌, Option, Some, None, arith}
use Rattle.std.specs.Prelude.{slice_get}
use Rattle.std.proofs.lemmas.Bool.{false≢true}
use Rattle.std.proofs.lemmas.List.{length-append}
use Rattle.dfx_value.specs.declared.op.AggCall.{AggCall}
use Rattle.physical_plan.specs.declared.plan.Plan.{Plan}
use Rattle.physical_plan.specs.declared.plan.Plan.TheOpen.{Plan-F}
use Rattle.physical_plan.specs.declared.plan.Plan.TheViews.{roll-Plan}
use Rattle.physical_plan.specs.declared.plan.Plan.TheFolds.{fold-roll-Plan, map-Plan, ind-Plan}
use Rattle.physical_plan.specs.declared.properties.Declared.{Declared}
use Rattle.physical_plan.specs.Numbers.{numbers}
use Rattle.physical_plan.specs.Properties.{declared, declared_of, first_width}
use Rattle.physical_plan.specs.Everywhere.{node_holds, everywhere, all_true}
use Rattle.scalar_exprs.specs.Kinds.{kind_of, call_kind}
use Rattle.logical_plan.specs.Items.{Cells, rows}
use Rattle.logical_plan.specs.Body.{Tables, kind_or_text, key_kinds, call_kinds}
use Rattle.plan_task_laws.proofs.Branches.{numbers_length, map_length}
use Rattle.answer_laws.specs.Meant.{Grouping, Meaning, answered, meant_node, meaning_of, meant, first_kinds, is_whole, all_told, finishes, same_numbers, same_calls, told_node, is_told}
use Rattle.answer_laws.proofs.Meaning.{both_true, same_numbers_are, same_calls_are}
use Rattle.answer_laws.proofs.Built.{means}
use Rattle.dfx_value.specs.KindedRows.{all_are}
use Rattle.node_laws.specs.Tests.{width}
use Rattle.finished_laws.specs.Sound.{anyhow, is_met, is_sound}
use Rattle.finished_laws.proofs.Everywhere.{seconds, one_below, two_below}
use Rattle.finished_laws.proofs.Told.{sound, sound_node}

-- what a second phase goes by
pub finished_by : (o : Option Grouping) (keys : List ℕ) (calls : List AggCall) (all : List Cells) → finishes o keys calls all ≡ true
    → (g : Grouping) × (o ≡ Some g) × (keys ≡ numbers (length g.columns)) × (calls ≡ g.calls)
finished_by None keys calls all e = absurd (false≢true e)
finished_by (Some g) keys calls all e =
    let b = both_true (same_numbers keys (numbers (length g.columns))) (same_calls calls g.calls && all_are g.kinds all) e in
    let c = both_true (same_calls calls g.calls) (all_are g.kinds all) b.1 in
    (g, refl, same_numbers_are keys (numbers (length g.columns)) b.0, same_calls_are calls g.calls c.0)

module _ (tables : Tables) (n : ℕ) where
  abbrev here : Plan-F Plan → Bool
  here = is_met tables n

  abbrev Wide : Plan → Type 0
  Wide p = is_sound tables n p ≡ true → is_whole (meaning_of tables p) ≡ true → width p ≡ length (meaning_of tables p).kinds

  abbrev Known : Type 0
  Known = (p : Plan) × Wide p

  abbrev plans : List Known → List Plan
  plans ps = map (λ (p : Known). p.0) ps

  level : (z : Plan-F Plan)
      → (node_holds here (map-Plan Plan (Plan × Bool) (λ p. (p, everywhere here p)) z) ≡ true → told_node tables anyhow (map-Plan Plan (Plan × Bool) (λ p. (p, is_told tables anyhow p)) z) ≡ true
      → is_whole (meant_node tables (map-Plan Plan Meaning (meaning_of tables) z)) ≡ true
      → (declared (map-Plan Plan Declared declared_of z)).width ≡ length (meant_node tables (map-Plan Plan Meaning (meaning_of tables) z)).kinds)
      → Wide (roll-Plan z)
  unfolding declared_of
  level z h e w = (let b = sound_node tables n z e in let d = fold-roll-Plan Declared declared z in let m = means tables z in
      ap (λ (x : Declared). x.width) d ∙ h b.0 b.1 (sym (ap is_whole m) ∙ w) ∙ ap (λ (x : Meaning). length x.kinds) (sym m))

  through : (z : Bool) (p : Known) → z && (everywhere here p.0 && true) ≡ true → is_told tables anyhow p.0 ≡ true → is_whole (meaning_of tables p.0) ≡ true → width p.0 ≡ length (meaning_of tables p.0).kinds
  through z p e t w = p.1 (sound tables n p.0 (one_below z (everywhere here p.0) e).1 t) w

  over : (z : Bool) (p : Known) → z && (everywhere here p.0 && true) ≡ true → is_told tables anyhow p.0 && is_whole (meaning_of tables p.0) ≡ true → width p.0 ≡ length (meaning_of tables p.0).kinds
  over z p e t = (let b = both_true (is_told tables anyhow p.0) (is_whole (meaning_of tables p.0)) t in through z p e b.0 b.1)

  grouped : (keys : List ℕ) (calls : List AggCall) (m : Meaning) (g : Grouping) → m.groups ≡ Some g → keys ≡ numbers (length g.columns) → calls ≡ g.calls → length keys + length calls ≡ length (answered m.groups m.items).kinds
  grouped keys calls m g e k c =
      let a = length-append (key_kinds g.kinds g.columns) (call_kinds g.kinds g.calls) in
      let b = map_length (λ (k : ℕ). kind_or_text (slice_get g.kinds k)) g.columns in
      let d = map_length (λ c. kind_or_text (call_kind c g.kinds)) g.calls in
      let x : length keys ≡ length g.columns = ap length k ∙ numbers_length 0 (length g.columns) in
      let y : length calls ≡ length g.calls = ap length c in
      let z : length keys + length calls ≡ length (key_kinds g.kinds g.columns ++ call_kinds g.kinds g.calls) = omega arith in
      z ∙ ap (λ o. length (answered o m.items).kinds) (sym e)

  first : (ps : List Known) → all_true (map (everywhere here) (plans ps)) ≡ true → all_told (λ p. is_whole (meaning_of tables p)) (map (λ (p : Plan). (p, is_told tables anyhow p)) (plans ps)) ≡ true
      → first_width (map declared_of (plans ps)) ≡ length (first_kinds (map (meaning_of tables) (plans ps)))
  first [] e t = refl
  first (p ∷ ps) e t =
      let w = is_whole (meaning_of tables p.0) in
      let more = all_told (λ p. is_whole (meaning_of tables p)) (map (λ (p : Plan). (p, is_told tables anyhow p)) (plans ps)) in
      let b = both_true (everywhere here p.0) (all_true (map (everywhere here) (plans ps))) e in
      let c = both_true (is_told tables anyhow p.0) (w && more) t in
      p.1 (sound tables n p.0 b.0 c.0) (both_true w more c.1).0

  step : (y : Plan-F Known) → Wide (roll-Plan (map-Plan Known Plan (λ k. k.0) y))
  step (Plan-F.Scan table kinds files partitions) = level (Plan-F.Scan table kinds files partitions) (λ e t w. refl)
  step (Plan-F.Filter p test) = level (Plan-F.Filter p.0 test) (λ e t w. over (here (Plan-F.Filter p.0 test)) p e t)
  step (Plan-F.Project p items) = level (Plan-F.Project p.0 items) (λ e t w. sym (map_length (λ x. kind_or_text (kind_of (meaning_of tables p.0).kinds x)) items))
  step (Plan-F.PartialGroup p keys calls) = level (Plan-F.PartialGroup p.0 keys calls) (λ e t w. absurd (false≢true w))
  step (Plan-F.FinalGroup p keys calls) = level (Plan-F.FinalGroup p.0 keys calls) (λ e t w. (
      let m = meaning_of tables p.0 in
      let b = both_true (is_told tables anyhow p.0) (finishes m.groups keys calls (rows (meant tables p.0)) && true) t in
      let g = finished_by m.groups keys calls (rows (meant tables p.0)) (both_true (finishes m.groups keys calls (rows (meant tables p.0))) true b.1).0 in
      grouped keys calls m g.0 g.1 g.2 g.3))
  step (Plan-F.HashJoin kind p q keys rest) = level (Plan-F.HashJoin kind p.0 q.0 keys rest) (λ e t w. (
      let v = is_whole (meaning_of tables p.0) in
      let u = is_whole (meaning_of tables q.0) in
      let b = both_true (is_told tables anyhow p.0 && v) ((is_told tables anyhow q.0 && u) && true) t in
      let c = both_true (is_told tables anyhow p.0) v b.0 in
      let d = both_true (is_told tables anyhow q.0) u (both_true (is_told tables anyhow q.0 && u) true b.1).0 in
      let m = two_below (here (Plan-F.HashJoin kind p.0 q.0 keys rest)) (everywhere here p.0) (everywhere here q.0) e in
      let i = p.1 (sound tables n p.0 m.1 c.0) c.1 in
      let j = q.1 (sound tables n q.0 m.2 d.0) d.1 in
      let k = length-append (meaning_of tables p.0).kinds (meaning_of tables q.0).kinds in
      ap (λ (x : ℕ). x + width q.0) i ∙ ap (λ (x : ℕ). length (meaning_of tables p.0).kinds + x) j ∙ sym k))
  step (Plan-F.Sort p keys) = level (Plan-F.Sort p.0 keys) (through (here (Plan-F.Sort p.0 keys)) p)
  step (Plan-F.Merge p keys) = level (Plan-F.Merge p.0 keys) (through (here (Plan-F.Merge p.0 keys)) p)
  step (Plan-F.Coalesce p) = level (Plan-F.Coalesce p.0) (through (here (Plan-F.Coalesce p.0)) p)
  step (Plan-F.Repartition p to) = level (Plan-F.Repartition p.0 to) (through (here (Plan-F.Repartition p.0 to)) p)
  step (Plan-F.UnionAll ps) = level (Plan-F.UnionAll (plans ps)) (λ e t w. (
      let zs = map (λ (x : Plan). (x, everywhere here x)) (plans ps) in
      first ps (sym (ap all_true (seconds here (plans ps))) ∙ (both_true (here (Plan-F.UnionAll (map (λ (p : Plan × Bool). p.0) zs))) (all_true (map (λ (p : Plan × Bool). p.1) zs)) e).1) t))
  step (Plan-F.Limit p skip fetch) = level (Plan-F.Limit p.0 skip fetch) (λ e t w. absurd (false≢true t))

  pub wide : (p : Plan) → Wide p
  wide = ind-Plan Wide (λ x y is. subst (λ z. Wide (roll-Plan z)) is (step y))
