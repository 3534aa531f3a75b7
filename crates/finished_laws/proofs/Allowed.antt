-- The root of a finished plan writes rows that the query allows, without a limit and with one.
use Rattle.std.specs.Prelude.{IsSorted, nat_lt}
use Rattle.std.proofs.Common.{ℕ, zero, suc, ◌<◌, ◌≡◌, refl, sym, ap, ◌∙◌, subst, cond, List, Bool, true, false, ◌||◌, is_some, Option, Some, None, arith}
use Rattle.std.proofs.lemmas.Bool.{false≢true, lt-ltb}
use Rattle.dfx_value.specs.Rows.{row_cmp}
use Rattle.plan_props.specs.Satisfies.{satisfies_distribution, satisfies_order}
use Rattle.plan_props.specs.Meets.{Hashing}
use Rattle.physical_plan.specs.declared.plan.Plan.{Plan}
use Rattle.physical_plan.specs.declared.plan.Plan.TheVariants as plan
use Rattle.physical_plan.specs.declared.plan.Plan.TheVariants.{rolls-Limit}
use Rattle.physical_plan.specs.declared.plan.Plan.TheOpen.{Plan-F}
use Rattle.physical_plan.specs.declared.plan.Plan.TheViews.{roll-Plan, out-Plan, out-roll-Plan}
use Rattle.plan_shape.specs.Counts.{counts_of}
use Rattle.plan_shape.specs.Layout.{shape}
use Rattle.physical_build.specs.Build.{sorted_by, body_plan, build}
use Rattle.physical_plan.specs.Properties.{partitions, props}
use Rattle.physical_plan.specs.Everywhere.{Test, everywhere, erased}
use Rattle.physical_plan.specs.Needs.{spread_needs, order_needs}
use Rattle.planned_laws.specs.Finished.{limited_order, LimitAtRoot, IsFinished}
use Rattle.plan_shape.proofs.Lawful.{is_shape}
use Rattle.logical_plan.specs.declared.query.Query.{Query}
use Rattle.logical_plan.specs.Items.{of_rows}
use Rattle.logical_plan.specs.Allowed.{Allows, Allowed}
use Rattle.logical_plan.specs.Body.{Tables, meant_part}
use Rattle.tree_laws.specs.Runs.{State, the_task}
use Rattle.content_laws.specs.Bags.{Alike}
use Rattle.content_laws.proofs.Flows.{exist}
use Rattle.plan_task_laws.specs.Trees.{Doing}
use Rattle.plan_task_laws.specs.Starts.{start_of}
use Rattle.plan_task_laws.specs.Placed.{deal_of}
use Rattle.plan_task_laws.proofs.Begun.{is_start}
use Rattle.sort_laws.proofs.Answers.{all_given, rows_back}
use Rattle.node_laws.specs.Tests.{needs_in_range}
use Rattle.answer_laws.specs.Meant.{Meaning, Phases, is_told, is_whole}
use Rattle.answer_laws.specs.Parted.{LawsOfParts}
use Rattle.answer_laws.specs.Distincts.{has_distincts}
use Rattle.answer_laws.specs.Finished.{IsFinishedRun}
use Rattle.answer_laws.proofs.Meaning.{equal_is}
use Rattle.answer_laws.proofs.Built.{means, erased_rolled, query_means}
use Rattle.answer_laws.proofs.Limited.{limited as top_limited}
use Rattle.finished_laws.specs.Sound.{anyhow, is_sound}
use Rattle.finished_laws.specs.Known.{is_known}
use Rattle.finished_laws.specs.Engine.{IsEngineBy}
use Rattle.finished_laws.proofs.Hashes.{hashing_of}
use Rattle.finished_laws.proofs.Everywhere.{rolled, one_below}
use Rattle.finished_laws.proofs.Channels.{channels}
use Rattle.finished_laws.proofs.Counted.{counted, single}
use Rattle.finished_laws.proofs.Erased.{erased_told}
use Rattle.finished_laws.proofs.Bodies.{body_told, sorted_told}
use Rattle.finished_laws.proofs.Scans.{plan_fits}
use Rattle.finished_laws.proofs.Answers.{is_sound_by, finished, Means, all_kept, one_tells, one_sorts}

abbrev input_or : Plan → Plan-F Plan → Plan
input_or d (Plan-F.Limit p skip fetch) = p
input_or d _ = d

limit_out : (p : Plan) (skip : ℕ) (fetch : Option ℕ) → out-Plan (plan.Limit p skip fetch) ≡ Plan-F.Limit p skip fetch
limit_out p skip fetch = ap out-Plan (sym (rolls-Limit p skip fetch)) ∙ out-roll-Plan (Plan-F.Limit p skip fetch)

limit_input : (p q : Plan) (skip : ℕ) (fetch : Option ℕ) → plan.Limit p skip fetch ≡ plan.Limit q skip fetch → p ≡ q
limit_input p q skip fetch e = ap (input_or p) (sym (limit_out p skip fetch) ∙ ap out-Plan e ∙ limit_out q skip fetch)

module _ (r : Plan) (q : Query) where
  abbrev top_plan : Plan-F Plan
  top_plan = Plan-F.Limit r q.offset q.limit

  below : (test : Test) → everywhere test (roll-Plan top_plan) ≡ true → (test top_plan ≡ true) × (everywhere test r ≡ true)
  below test e = one_below (test top_plan) (everywhere test r) (sym (rolled test top_plan) ∙ e)

  -- a limit's input is one partition
  pub lone : (n : ℕ) → everywhere (spread_needs n) (roll-Plan top_plan) ≡ true → (counts_of r).parts ≡ 1
  unfolding satisfies_distribution
  lone n e = (let b = below (spread_needs n) e in counted n r b.1 ∙ equal_is (partitions r) 1 b.0)

  -- what is under the limit is a tree of the sorted body
  under : (tables : Tables) (files : List ℕ) (n : ℕ) → is_some q.limit || nat_lt 0 q.offset ≡ true → erased (roll-Plan top_plan) ≡ erased (build q files n)
      → erased r ≡ erased (sorted_by q.order (body_plan files n q.body))
  under tables files n some e =
      let x = sorted_by q.order (body_plan files n q.body) in
      let b : build q files n ≡ plan.Limit x q.offset q.limit = ap (λ (c : Bool). cond c (plan.Limit x q.offset q.limit) x) some in
      limit_input (erased r) (erased x) q.offset q.limit
      (sym (erased_rolled tables top_plan) ∙ e ∙ ap erased (b ∙ sym (rolls-Limit x q.offset q.limit)) ∙ erased_rolled tables (Plan-F.Limit x q.offset q.limit))

-- a plan of the sorted body, with its needs met, is sound
module _ (phases : Phases) (lists : LawsOfParts phases) (tables : Tables) (q : Query) (distincts : has_distincts tables q.body ≡ true) (files : List ℕ) (known : is_known tables files q.body ≡ true)
    (n : ℕ) (more : 0 < n) where
  told_by : (p : Plan) → erased p ≡ erased (sorted_by q.order (body_plan files n q.body)) → is_told tables anyhow p ≡ true
  told_by p tree =
      let b = body_plan files n q.body in
      sym (erased_told tables p) ∙ ap (is_told tables anyhow) tree ∙ erased_told tables (sorted_by q.order b)
      ∙ sorted_told phases lists tables files n more q.order b ∙ body_told phases lists tables files n more q.body distincts known

  sound_by : (p : Plan) → erased p ≡ erased (sorted_by q.order (body_plan files n q.body)) → everywhere (spread_needs n) p ≡ true → everywhere order_needs p ≡ true → everywhere needs_in_range p ≡ true → is_sound tables n p ≡ true
  sound_by p tree s o r = is_sound_by tables n p s o r (plan_fits tables files n q.order q.body known p tree) (told_by p tree)

  -- without a limit a finished plan is sound
  pub unlimited : is_some q.limit || nat_lt 0 q.offset ≡ false → (p : Plan) → IsFinished (build q files n) q.order n p → everywhere needs_in_range p ≡ true → is_sound tables n p ≡ true
  unlimited none p fin ranges =
      let x = sorted_by q.order (body_plan files n q.body) in
      sound_by p (fin.tree ∙ ap erased (ap (λ (c : Bool). cond c (plan.Limit x q.offset q.limit) x) none)) fin.spread_met fin.order_met ranges

  -- with one it is that limit of a sound plan
  pub record IsLimited (p : Plan) : Type 0 where
    pub input : Plan
    pub is : roll-Plan (Plan-F.Limit input q.offset q.limit) ≡ p
    pub sound : is_sound tables n input ≡ true
    pub order : satisfies_order (props input) q.order ≡ true
    pub one : (counts_of input).parts ≡ 1

  limited_by : (r : Plan) → is_some q.limit || nat_lt 0 q.offset ≡ true → IsFinished (build q files n) q.order n (roll-Plan (Plan-F.Limit r q.offset q.limit)) → everywhere needs_in_range (roll-Plan (Plan-F.Limit r q.offset q.limit)) ≡ true
      → IsLimited (roll-Plan (Plan-F.Limit r q.offset q.limit))
  limited_by r some fin ranges = record {
    input = r;
    is = refl;
    sound = sound_by r (under r q tables files n some fin.tree) (below r q (spread_needs n) fin.spread_met).1 (below r q order_needs fin.order_met).1 (below r q needs_in_range ranges).1;
    order = (below r q (limited_order q.order) fin.limit_order).0;
    one = lone r q n fin.spread_met;
  }

  pub limited : is_some q.limit || nat_lt 0 q.offset ≡ true → (p : Plan) → IsFinished (build q files n) q.order n p → everywhere needs_in_range p ≡ true → IsLimited p
  limited some p fin ranges =
      let x = sorted_by q.order (body_plan files n q.body) in
      let b : build q files n ≡ plan.Limit x q.offset q.limit = ap (λ (c : Bool). cond c (plan.Limit x q.offset q.limit) x) some in
      let t : LimitAtRoot (Plan-F.Limit x q.offset q.limit) p = subst (λ z. LimitAtRoot z p) (ap out-Plan b ∙ limit_out x q.offset q.limit) fin.limit_top in
      let e : roll-Plan (Plan-F.Limit t.0 q.offset q.limit) ≡ p = rolls-Limit t.0 q.offset q.limit ∙ sym t.1 in
      subst IsLimited e (limited_by t.0 some (subst (IsFinished (build q files n) q.order n) (sym e) fin) (subst (λ z. everywhere needs_in_range z ≡ true) (sym e) ranges))

-- ------------------------------------------------------------ what is written

no_limit_is : (limit : Option ℕ) (offset : ℕ) → is_some limit || nat_lt 0 offset ≡ false → (limit ≡ None) × (offset ≡ 0)
no_limit_is None zero e = (refl, refl)
no_limit_is None (suc k) e = absurd (false≢true (sym e ∙ lt-ltb 0 (suc k) (omega arith)))
no_limit_is (Some m) k e = absurd (false≢true (sym e))

module _ (h : Hashing) (f : Doing) (tables : Tables) (n : ℕ) (phases : Phases) (engine : IsEngineBy h f tables n phases)
    (q : Query) (distincts : has_distincts tables q.body ≡ true) (files : List ℕ) (known : is_known tables files q.body ≡ true) (more : 0 < n) where
  all_rows : is_some q.limit || nat_lt 0 q.offset ≡ false → (p : Plan) → IsFinished (build q files n) q.order n p → everywhere needs_in_range p ≡ true → (s : State) → IsFinishedRun f p s → Allowed q tables (the_task s.tasks 0).output
  all_rows none p fin ranges s run =
      let out = (the_task s.tasks 0).output in
      let sound = unlimited phases engine.lists tables q distincts files known n more none p fin ranges in
      let m = query_means phases engine.lists tables files n q p distincts fin.tree in
      let k = finished h f tables n phases engine p (channels (build q files n) p q.order n more fin) (single (build q files n) p q.order n fin) s run in
      let a = one_tells h f tables n phases engine p (of_rows out) sound (ap is_whole m) k in
      let b = subst (Alike (of_rows out)) (ap (λ (x : Meaning). x.items) m) a in
      let c = subst (IsSorted (row_cmp q.order)) (rows_back out) (one_sorts h f tables n phases engine p (of_rows out) q.order sound fin.root_order k) in
      let z = no_limit_is q.limit q.offset none in
      subst (λ (k : ℕ). Allows q.order k q.limit (meant_part tables q.body).items out) (sym z.1) (subst (λ (l : Option ℕ). Allows q.order 0 l (meant_part tables q.body).items out) (sym z.0) (all_given q.order out (meant_part tables q.body).items b c))

  some_rows : (p : Plan) → IsFinished (build q files n) q.order n p → IsLimited phases engine.lists tables q distincts files known n more p → (s : State) → IsFinishedRun f p s → Allowed q tables (the_task s.tasks 0).output
  some_rows p fin at s run =
      let r = at.input in
      under_limit r at.sound at.order at.one (subst (IsFinished (build q files n) q.order n) (sym at.is) fin) s (subst (λ x. IsFinishedRun f x s) (sym at.is) run)
    where
      under_limit : (r : Plan) → is_sound tables n r ≡ true → satisfies_order (props r) q.order ≡ true → (counts_of r).parts ≡ 1 → IsFinished (build q files n) q.order n (roll-Plan (Plan-F.Limit r q.offset q.limit))
          → (s : State) → IsFinishedRun f (roll-Plan (Plan-F.Limit r q.offset q.limit)) s → Allowed q tables (the_task s.tasks 0).output
      under_limit r sound order one fin s run =
          let z = roll-Plan (Plan-F.Limit r q.offset q.limit) in
          let wide = channels (build q files n) z q.order n more fin in
          let full = exist (shape z) (is_shape z) run.size run.limit (start_of f z run.limit) s run.entries (is_start f engine.operators z run.size run.limit) run.reached (deal_of f z) in
          let m = sym (means tables (Plan-F.Limit r q.offset q.limit)) ∙ query_means phases engine.lists tables files n q z distincts fin.tree in
          top_limited f r q.offset q.limit (engine.limits r q.offset q.limit) one engine.operators (hashing_of h f engine.channels) wide run.size run.limit run.entries s full.0 run.reached full.1
          (Means h f tables n phases engine) (all_kept h f tables n phases engine) q.order (meant_part tables q.body).items
          (λ x k. (
            subst (Alike x) (ap (λ (x : Meaning). x.items) m) (one_tells h f tables n phases engine r x sound (ap is_whole m) k),
            one_sorts h f tables n phases engine r x q.order sound order k,
          )) run.done

  pub allowed : (p : Plan) → IsFinished (build q files n) q.order n p → everywhere needs_in_range p ≡ true → (s : State) → IsFinishedRun f p s → Allowed q tables (the_task s.tasks 0).output
  allowed p fin ranges s run = by (is_some q.limit || nat_lt 0 q.offset) refl
    where
      by : (b : Bool) → is_some q.limit || nat_lt 0 q.offset ≡ b → Allowed q tables (the_task s.tasks 0).output
      by true e = some_rows p fin (limited phases engine.lists tables q distincts files known n more e p fin ranges) s run
      by false e = all_rows e p fin ranges s run
