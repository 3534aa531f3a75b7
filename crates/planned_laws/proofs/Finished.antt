-- A plain plan with its exchanges and its sorts is finished.
use Rattle.std.specs.Prelude.{nat_lt, is_some}
use Rattle.std.proofs.Common.{ℕ, ◌≡◌, refl, sym, ap, ◌∙◌, subst, cond, eqb, Option, Bool, true, false, ◌||◌, List, [], ◌∷◌, map}
use Rattle.std.proofs.lemmas.Bool.{false≢true, eq-eqb}
use Rattle.dfx_value.specs.declared.rows.SortKey.{SortKey}
use Rattle.plan_props.specs.Satisfies.{satisfies_order}
use Rattle.plan_props.specs.declared.properties.Props.{Props}
use Rattle.plan_props.specs.declared.properties.Distribution.TheVariants as need
use Rattle.physical_plan.specs.declared.properties.Declared.{Declared}
use Rattle.physical_plan.specs.declared.plan.Plan.{Plan, out-Plan}
use Rattle.physical_plan.specs.declared.plan.Plan.TheOpen.{Plan-F}
use Rattle.physical_plan.specs.declared.plan.Plan.TheViews.{roll-Plan, roll-out-Plan}
use Rattle.physical_plan.specs.declared.plan.Plan.TheFolds.{map-Plan}
use Rattle.physical_plan.specs.declared.plan.Plan.TheVariants.{Sort, Merge, Limit, outs-Sort, outs-Limit}
use Rattle.physical_plan.specs.Properties.{props, partitions, declared_partitions}
use Rattle.physical_plan.specs.Everywhere.{everywhere, all_true, kids}
use Rattle.physical_plan.specs.Needs.{spread_needs, order_needs}
use Rattle.planned_laws.specs.Finished.{limited_order, no_limit, LimitAtRoot, have_parts, lean, inputs_serve, on_scans, IsFinished}
use Rattle.planned_laws.specs.Plain.{plain_node, plain_child, plain, IsPlain, lone, IsBody}
use Rattle.physical_build.specs.Build.{sorted_by, limited}
use Rattle.physical_plan.proofs.Nodes.{declared-Sort, declared-Merge, declared-Limit}
use Rattle.physical_plan.proofs.Everywhere.{both_true, and_parts, holds-Sort, holds-Limit}
use Rattle.planned_laws.proofs.Weaker.{weaker}
use Rattle.enforce_dist.specs.Distribute.{gathered, gathered_by, distributed, enforce_distribution}
use Rattle.planned_laws.specs.Spread.{lean_exchanges, IsSpread}
use Rattle.enforce_dist.proofs.Nodes.{distributed-Sort, distributed-Limit}
use Rattle.planned_laws.proofs.Spreading.{Spreads, gathered_single}
use Rattle.planned_laws.proofs.Exchanges.{held, counted, is_spread}
use Rattle.enforce_sort.specs.Arrange.{with_sort, enforce_sorting}
use Rattle.enforce_sort.proofs.Nodes.{arranged-Sort, arranged-Merge, arranged-Limit}
use Rattle.planned_laws.proofs.Likes.{like, parts_like}
use Rattle.planned_laws.proofs.Sorting.{stays, Arranges, arranges, order_itself, sorting_keeps, sorted_by as in_order}
use Rattle.planned_laws.proofs.Arranged.{needs_arrange, orders_arrange, lean_arrange, scans_arrange}
use Rattle.planned_laws.proofs.Serving.{serves_arranged, serves_arrange}
use Rattle.planned_laws.proofs.SortedRobins.{found_stays}
use Rattle.planned_laws.proofs.Limits.{no_top}

-- ---- limits

lone_plain : (z : Plan-F Plan) → lone z ≡ true → plain z ≡ true
lone_plain z e = (and_parts (no_limit z) (plain z) e).1

lone_children : (z : Plan-F Plan) → lone z ≡ true → all_true (map plain_child (kids z)) ≡ true
lone_children z e = (and_parts (plain_node z) (all_true (map plain_child (kids z))) (lone_plain z e)).1

unlimited_same : (n : ℕ) (z : Plan-F Plan) (b : Bool) → lone z ≡ true → no_limit (map-Plan Plan Plan (λ p. distributed n p b) z) ≡ true
unlimited_same n (Plan-F.Limit x skip fetch) b e = absurd (false≢true e)
unlimited_same n _ b e = refl

unlimited_spread : (n : ℕ) → Spreads n lone plain_child no_limit
unlimited_spread n = record {
  child = lone_children;
  scan = λ t k f p. refl;
  robin = λ t k f p. refl;
  same = λ z b e t. unlimited_same n z b t;
  group = λ p keys calls b t. refl;
  join = λ kind p q keys rest t. refl;
  limit = λ p skip fetch b t. absurd (false≢true t);
  hash = λ p b d keys c e. refl;
  coalesce = λ p b c e. refl;
  merge = λ p b keys c e o. refl;
}

unlimited_stay : (z : Plan-F Plan) → stays z ≡ true → no_limit z ≡ true → no_limit (map-Plan Plan Plan enforce_sorting z) ≡ true
unlimited_stay (Plan-F.Limit x skip fetch) s e = absurd (false≢true e)
unlimited_stay _ s e = refl

unlimited_arrange : Arranges no_limit no_limit
unlimited_arrange = record {
  same = λ z s t k. unlimited_stay z s t;
  sort = λ p keys t k e. refl;
  below = λ p keys t k e. refl;
  merge = λ p keys t k. refl;
}

ordered_unlimited : (order : List SortKey) (z : Plan-F Plan) → no_limit z ≡ true → limited_order order z ≡ true
ordered_unlimited order (Plan-F.Limit x skip fetch) e = absurd (false≢true e)
ordered_unlimited order _ e = refl

-- ---- the top

no_order : (p : Props) → satisfies_order p [] ≡ true
unfolding satisfies_order
no_order p = refl

-- a sort on top, gathered and arranged, is in order
top_order : (b : Plan) (k : SortKey) (ks : List SortKey) → satisfies_order (props (enforce_sorting (gathered (Sort b (k ∷ ks))))) (k ∷ ks) ≡ true
top_order b k ks = go (eqb (partitions (Sort b (k ∷ ks))) 1)
  where
    sort_in : satisfies_order (props (enforce_sorting (Sort b (k ∷ ks)))) (k ∷ ks) ≡ true
    sort_in = ap (λ (p : Plan). satisfies_order (props p) (k ∷ ks)) (arranged-Sort b (k ∷ ks)) ∙ in_order (k ∷ ks) (enforce_sorting b)

    merge_in : satisfies_order (props (enforce_sorting (Merge (Sort b (k ∷ ks)) (k ∷ ks)))) (k ∷ ks) ≡ true
    merge_in =
        ap (λ (p : Plan). satisfies_order (props p) (k ∷ ks)) (arranged-Merge (Sort b (k ∷ ks)) (k ∷ ks))
        ∙ ap (λ (d : Declared). satisfies_order d.props (k ∷ ks)) (declared-Merge (with_sort (k ∷ ks) (enforce_sorting (Sort b (k ∷ ks)))) (k ∷ ks))
        ∙ order_itself _

    go : (t : Bool) → satisfies_order (props (enforce_sorting (cond t (Sort b (k ∷ ks)) (gathered_by (props (Sort b (k ∷ ks))).ordering (Sort b (k ∷ ks)))))) (k ∷ ks) ≡ true
    go true = sort_in
    go false = ap (λ (d : Declared). satisfies_order (props (enforce_sorting (gathered_by d.props.ordering (Sort b (k ∷ ks))))) (k ∷ ks)) (declared-Sort b (k ∷ ks)) ∙ merge_in

abbrev finish : ℕ → Plan → Plan
finish n p = enforce_sorting (enforce_distribution p n)

-- no limit comes in
none_inside : (n : ℕ) (p : Plan) → everywhere lone p ≡ true → plain_child p ≡ true → everywhere no_limit (finish n p) ≡ true
none_inside n p all top = arranges no_limit no_limit unlimited_arrange (enforce_distribution p n) (held n lone plain_child no_limit (unlimited_spread n) p all top)

unlimited : (n : ℕ) (order : List SortKey) (p : Plan) → everywhere lone p ≡ true → plain_child p ≡ true → everywhere (limited_order order) (finish n p) ≡ true
unlimited n order p all top = weaker no_limit (limited_order order) (ordered_unlimited order) (finish n p) (none_inside n p all top)

-- a plan without a limit has none on top
no_limit_top : (z : Plan-F Plan) (q : Plan) → everywhere no_limit (roll-Plan z) ≡ true → everywhere no_limit q ≡ true → LimitAtRoot z q
no_limit_top (Plan-F.Limit x skip fetch) q e h = absurd (false≢true (no_top (Plan-F.Limit x skip fetch) e))
no_limit_top _ q e h = h

unlimited_top : (n : ℕ) (p : Plan) → everywhere lone p ≡ true → plain_child p ≡ true → LimitAtRoot (out-Plan p) (finish n p)
unlimited_top n p all top =
    let e = weaker lone no_limit (λ z t. (and_parts (no_limit z) (plain z) t).0) p all in
    no_limit_top (out-Plan p) (finish n p) (ap (everywhere no_limit) (roll-out-Plan p) ∙ e) (none_inside n p all top)

-- ---- a plan below its limit

record Topped (n : ℕ) (order : List SortKey) (p : Plan) : Type 0 where
  all : everywhere lone p ≡ true
  top : plain_child p ≡ true
  order_ok : satisfies_order (props (finish n p)) order ≡ true

topped : (n : ℕ) (order : List SortKey) (b : Plan) → IsBody b → Topped n order (sorted_by order b)
topped n [] b h = record { all = h.everywhere_lone; top = h.top_plain; order_ok = no_order (props (finish n b)) }
topped n (k ∷ ks) b h = record {
  all = holds-Sort lone b (k ∷ ks) (both_true _ _ h.top_plain refl) h.everywhere_lone;
  top = ap plain_node (outs-Sort b (k ∷ ks));
  order_ok = ap (λ (q : Plan). satisfies_order (props (enforce_sorting (gathered q))) (k ∷ ks)) (distributed-Sort n b (k ∷ ks) false) ∙ top_order (distributed n b true) k ks;
}

record Finished (n : ℕ) (order : List SortKey) (p : Plan) : Type 0 where
  plain_plan : IsPlain p
  root : satisfies_order (props (finish n p)) order ≡ true
  limits : everywhere (limited_order order) (finish n p) ≡ true
  limit_top : LimitAtRoot (out-Plan p) (finish n p)

-- what a limit on top becomes
limit_finish : (n : ℕ) (p : Plan) (skip : ℕ) (fetch : Option ℕ) → finish n (Limit p skip fetch) ≡ Limit (finish n p) skip fetch
limit_finish n p skip fetch =
    ap (λ (q : Plan). enforce_sorting (gathered q)) (distributed-Limit n p skip fetch false)
    ∙ ap enforce_sorting stays_one
    ∙ arranged-Limit (gathered (distributed n p false)) skip fetch
  where
    one : eqb (partitions (Limit (gathered (distributed n p false)) skip fetch)) 1 ≡ true
    one = eq-eqb _ _ (ap (λ (d : Declared). declared_partitions d) (declared-Limit (gathered (distributed n p false)) skip fetch) ∙ gathered_single (distributed n p false))

    stays_one : gathered (Limit (gathered (distributed n p false)) skip fetch) ≡ Limit (gathered (distributed n p false)) skip fetch
    stays_one = ap (λ (t : Bool). cond t (Limit (gathered (distributed n p false)) skip fetch) (gathered_by (props (Limit (gathered (distributed n p false)) skip fetch)).ordering (Limit (gathered (distributed n p false)) skip fetch))) one

finished : (n : ℕ) (order : List SortKey) (skip : ℕ) (fetch : Option ℕ) (p : Plan) → Topped n order p → Finished n order (limited skip fetch p)
finished n order skip fetch p t = go (is_some fetch || nat_lt 0 skip)
  where
    go : (b : Bool) → Finished n order (cond b (Limit p skip fetch) p)
    go false = record {
      plain_plan = record { everywhere_plain = weaker lone plain lone_plain p t.all; top_plain = t.top };
      root = t.order_ok;
      limits = unlimited n order p t.all t.top;
      limit_top = unlimited_top n p t.all t.top;
    }
    go true = record {
      plain_plan = record { everywhere_plain = holds-Limit plain p skip fetch (both_true _ _ t.top refl) (weaker lone plain lone_plain p t.all); top_plain = ap plain_node (outs-Limit p skip fetch) };
      root = ap (λ (q : Plan). satisfies_order (props q) order) (limit_finish n p skip fetch) ∙ ap (λ (d : Declared). satisfies_order d.props order) (declared-Limit (finish n p) skip fetch) ∙ t.order_ok;
      limits = ap (everywhere (limited_order order)) (limit_finish n p skip fetch) ∙ holds-Limit (limited_order order) (finish n p) skip fetch t.order_ok (unlimited n order p t.all t.top);
      limit_top = subst (λ (z : Plan-F Plan). LimitAtRoot z (finish n (Limit p skip fetch))) (sym (outs-Limit p skip fetch)) (finish n p, limit_finish n p skip fetch, none_inside n p t.all t.top);
    }

together : (n : ℕ) (order : List SortKey) (p : Plan) → Finished n order p → IsSpread p n (enforce_distribution p n) → IsFinished p order n (finish n p)
together n order p f s = record {
  tree = sorting_keeps (enforce_distribution p n) ∙ s.tree;
  spread_met = needs;
  order_met = arranges (spread_needs n) order_needs (orders_arrange (spread_needs n)) (enforce_distribution p n) s.spread_met;
  root_single = parts_like (finish n p) (enforce_distribution p n) (like (enforce_distribution p n)) ∙ s.root_single;
  root_order = f.root;
  limit_order = f.limits;
  limit_top = f.limit_top;
  parts = weaker (spread_needs n) (have_parts n) (counted n) (finish n p) needs;
  lean_nodes = arranges (lean_exchanges n) (lean n) (lean_arrange n) (enforce_distribution p n) s.lean_nodes;
  exchanges_serve = arranges (inputs_serve n) (inputs_serve n) (serves_arrange n) (enforce_distribution p n) s.exchanges_serve;
  root_served = serves_arranged (enforce_distribution p n) need.Single ∙ s.root_served;
  robins = arranges on_scans on_scans scans_arrange (enforce_distribution p n) s.robins;
  spread = found_stays (enforce_distribution p n) s.robins ∙ s.spread;
}
  where
    needs : everywhere (spread_needs n) (finish n p) ≡ true
    needs = arranges (spread_needs n) (spread_needs n) (needs_arrange n) (enforce_distribution p n) s.spread_met

-- the plan of a body, below a sort and a limit where they are asked for
pub is_finished : (b : Plan) (order : List SortKey) (skip : ℕ) (fetch : Option ℕ) (n : ℕ) → IsBody b → IsFinished (limited skip fetch (sorted_by order b)) order n (enforce_sorting (enforce_distribution (limited skip fetch (sorted_by order b)) n))
is_finished b order skip fetch n h =
    let f = finished n order skip fetch (sorted_by order b) (topped n order b h) in
    together n order (limited skip fetch (sorted_by order b)) f (is_spread (limited skip fetch (sorted_by order b)) n f.plain_plan)
