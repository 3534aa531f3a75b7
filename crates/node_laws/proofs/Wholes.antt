-- What each node gives stands.
use Rattle.std.proofs.Common.{ℕ, true, zero, suc, ◌≡◌, ◌+◌, ◌≤◌, refl, sym, ap, ◌∙◌, subst, Some, List, [], ◌∷◌, map, length, sum, arith}
use Rattle.dfx_value.specs.declared.op.JoinKind.{JoinKind}
use Rattle.dfx_value.specs.declared.op.JoinKind.TheVariants.{Inner, Left, Right, Full}
use Rattle.dfx_value.specs.Items.{concat}
use Rattle.scalar_exprs.specs.declared.expr.Expr.{Expr}
use Rattle.plan_props.specs.declared.properties.Partitioning.{Partitioning}
use Rattle.plan_props.specs.declared.properties.Partitioning.TheVariants as parting
use Rattle.plan_props.specs.declared.properties.Distribution.TheVariants as need
use Rattle.plan_props.specs.Satisfies.{satisfies_distribution}
use Rattle.plan_props.specs.Meets.{Row, Hashing, IsHash, Each, part, Meets, Places}
use Rattle.plan_props.proofs.Sound.{each_all, each_map, and_parts, distribution_sound, order_sound}
use Rattle.physical_plan.specs.declared.plan.Plan.{Plan}
use Rattle.physical_plan.specs.declared.plan.Plan.TheOpen.{Plan-F}
use Rattle.physical_plan.specs.declared.plan.Plan.TheViews.{roll-Plan}
use Rattle.physical_plan.specs.declared.plan.Plan.TheFolds.{map-Plan, fold-roll-Plan}
use Rattle.physical_plan.specs.declared.properties.Declared.{Declared}
use Rattle.physical_plan.specs.Properties.{declared_partitions, scattered, filtered, projected, grouped, merged, repartitioned, hash_joined, united, first_width, place_in, kept_columns, item_columns, left_keys, right_keys, state_width, declared, declared_of, props}
use Rattle.physical_plan.specs.Facts.{fact_of}
use Rattle.physical_plan.specs.Everywhere.{kids}
use Rattle.physical_plan.specs.Needs.{group_need, spread_needs, order_needs}
use Rattle.node_laws.specs.Joins.{AllMeet, Sides, Within, PairsWithin}
use Rattle.node_laws.specs.NodeRows.{by_row, kept, values, Holds, HoldsIn, Joined}
use Rattle.node_laws.proofs.Filters.{filter_meets, project_meets}
use Rattle.node_laws.proofs.Others.{sort_meets, repartition_meets, union_meets, left_join_meets, inner_join_meets, single_parts, single_hashed, unordered}
use Rattle.node_laws.specs.Weaves.{Interleaves}
use Rattle.node_laws.specs.Rows.{Begun, RightSides}
use Rattle.node_laws.specs.Nodes.{IsWide, AllWide, Stands, Input, PlanInput, plans_of, inputs_of, AllStand, declared_inputs, rows_of, HaveWidth, JoinRow, Exchanges, NodeGives, NodeNeeds, InRange}
use Rattle.node_laws.proofs.Weavings.{woven_each, merges_interleave, merge_meets}
use Rattle.node_laws.proofs.Cuts.{stretches_meet, stretch_each, begun_meets, begun_each}
use Rattle.node_laws.proofs.Dealings.{deal_meets, coalesce_meets}
use Rattle.node_laws.proofs.Groupings.{partial_meets, final_meets}
use Rattle.node_laws.proofs.Paddings.{right_meets, full_meets}
use Rattle.node_laws.proofs.Ranges.{within_append, pairs_within_append, within_more, pairs_within_more, within_shifted, pairs_within_shifted, pairs_within_joined, place_below, within_renamed, pairs_within_renamed, literals_below}
use Rattle.node_laws.proofs.Widths.{wide_by_row, kept_width, values_width, wide_from, joined_width, wide_append}

-- ---- scans and unions: nothing but counts

scattered_stands : (h : Hashing) (w n : ℕ) (outs : List (List Row)) → length outs ≡ n → AllWide w outs → Stands h (scattered w n) outs
scattered_stands h w n outs c wide = record {
  meets = record {
    count = c ∙ sym (single_parts (parting.Unknown n));
    hashed = λ j. each_all (part outs j) (λ r. single_hashed h (parting.Unknown n) j r tt);
    ordered = λ j. unordered (part outs j);
    same = λ j. each_all (part outs j) (λ r. tt);
    constant = λ i j. each_all (part outs i) (λ r. each_all (part outs j) (λ s. tt));
  };
  wide = wide;
  pairs = tt;
  constants = tt;
}

inputs_meet : (h : Hashing) (is : List Input) → AllStand h is → AllMeet h (declared_inputs is) (rows_of is)
inputs_meet h [] s = tt
inputs_meet h (i ∷ is) s = (s.0.meets, inputs_meet h is s.1)

inputs_wide : (h : Hashing) (w : ℕ) (is : List Input) → AllStand h is → HaveWidth w is → AllWide w (concat (rows_of is))
inputs_wide h w [] s e j = tt
inputs_wide h w (i ∷ is) s e j = wide_append w i.1 (concat (rows_of is)) (λ k. subst (λ (v : ℕ). Each (IsWide v) (part i.1 k)) e.0 (s.0.wide k)) (inputs_wide h w is s.1 e.1) j

-- ---- row by row

filter_stands : (h : Hashing) (test : Expr) (d : Declared) (ins : List (List Row)) → Stands h d ins → PairsWithin d.width (fact_of test).same → Within d.width (fact_of test).constants → Stands h (filtered test d) (by_row (kept test) ins)
filter_stands h test d ins s ps cs = record {
  meets = filter_meets h test d ins s.meets;
  wide = wide_by_row (kept test) d.width d.width ins (λ r t e x. kept_width test d.width r t e x) s.wide;
  pairs = pairs_within_append d.width d.props.same (fact_of test).same s.pairs ps;
  constants = within_append d.width d.props.constants (fact_of test).constants s.constants cs;
}

columns_length : (es : List Expr) → length (item_columns es) ≡ length es
columns_length [] = refl
columns_length (e ∷ es) = let q = columns_length es in omega arith

item_below : (es : List Expr) (c d : ℕ) → place_in (item_columns es) c ≡ Some d → suc d ≤ length es
item_below es c d e = let a = place_below (item_columns es) 0 c d e in let q = columns_length es in omega arith

project_stands : (h : Hashing) (es : List Expr) (d : Declared) (ins : List (List Row)) → Stands h d ins → Stands h (projected es d) (by_row (values es) ins)
project_stands h es d ins s = record {
  meets = project_meets h es d ins s.meets;
  wide = wide_by_row (values es) d.width (length es) ins (λ r t e x. values_width es r t e) s.wide;
  pairs = pairs_within_renamed (length es) (place_in (item_columns es)) (item_below es) d.props.same;
  constants = within_append (length es) _ _ (within_renamed (length es) (place_in (item_columns es)) (item_below es) d.props.constants) (literals_below es 0 (length es) (omega arith));
}

-- ---- groups

keys_length : (keys : List ℕ) → length (kept_columns keys) ≡ length keys
keys_length [] = refl
keys_length (k ∷ ks) = let q = keys_length ks in omega arith

key_below : (keys : List ℕ) (more c d : ℕ) → place_in (kept_columns keys) c ≡ Some d → suc d ≤ length keys + more
key_below keys more c d e = let a = place_below (kept_columns keys) 0 c d e in let q = keys_length keys in omega arith

group_stands : (h : Hashing) (keys : List ℕ) (more : ℕ) (d : Declared) (outs : List (List Row)) → Meets h (grouped (length keys + more) keys d).props outs → AllWide (length keys + more) outs → Stands h (grouped (length keys + more) keys d) outs
group_stands h keys more d outs m w = record {
  meets = m;
  wide = w;
  pairs = pairs_within_renamed (length keys + more) (place_in (kept_columns keys)) (key_below keys more) d.props.same;
  constants = within_renamed (length keys + more) (place_in (kept_columns keys)) (key_below keys more) d.props.constants;
}

-- ---- joins

module _ (h : Hashing) (n : ℕ) (keys : List (ℕ × ℕ)) (d e : Declared) (lefts rights : List (List Row)) (s : Stands h d lefts) (t : Stands h e rights) (pl : Places h (left_keys keys) n lefts) (pr : Places h (right_keys keys) n rights) (kl : Within d.width (left_keys keys)) (kr : Within e.width (right_keys keys)) where
  as_many : n ≡ declared_partitions d
  as_many = sym pl.count ∙ s.meets.count

  left_sides : Sides h keys d lefts
  left_sides = record { wide = s.wide; keys_in = kl; pairs_in = s.pairs; constants_in = s.constants; places = subst (λ (k : ℕ). Places h (left_keys keys) k lefts) as_many pl }

  right_sides : RightSides h keys d lefts rights
  right_sides = record { wide = s.wide; places = subst (λ (k : ℕ). Places h (right_keys keys) k rights) as_many pr }

  join_stands : (kind : JoinKind) (outs : List (List Row)) → Joined (JoinRow kind keys d.width e.width) lefts rights outs → Stands h (hash_joined kind keys d e) outs
  join_stands Inner outs o = record {
    meets = inner_join_meets h keys d e lefts rights left_sides s.meets t.meets outs o;
    wide = joined_width Inner keys d.width e.width lefts rights outs s.wide t.wide o;
    pairs = pairs_within_append (d.width + e.width) _ _ (pairs_within_append (d.width + e.width) _ _ (pairs_within_more d.width e.width d.props.same s.pairs) (pairs_within_shifted d.width e.width e.props.same t.pairs)) (pairs_within_joined d.width e.width keys kl kr);
    constants = within_append (d.width + e.width) _ _ (within_more d.width e.width d.props.constants s.constants) (within_shifted d.width e.width e.props.constants t.constants);
  }
  join_stands Left outs o = record {
    meets = left_join_meets h keys d lefts left_sides s.meets e rights outs o;
    wide = joined_width Left keys d.width e.width lefts rights outs s.wide t.wide o;
    pairs = pairs_within_more d.width e.width d.props.same s.pairs;
    constants = within_more d.width e.width d.props.constants s.constants;
  }
  join_stands Right outs o = record {
    meets = right_meets h keys d e lefts rights outs right_sides s.meets t.meets o;
    wide = joined_width Right keys d.width e.width lefts rights outs s.wide t.wide o;
    pairs = pairs_within_shifted d.width e.width e.props.same t.pairs;
    constants = within_shifted d.width e.width e.props.constants t.constants;
  }
  join_stands Full outs o = record {
    meets = full_meets h keys d e lefts rights outs s.meets o;
    wide = joined_width Full keys d.width e.width lefts rights outs s.wide t.wide o;
    pairs = tt;
    constants = tt;
  }

-- ---- rows that all come from the input

all_in : (ins outs : List (List Row)) → ((j : ℕ) → Each (Holds (part ins j)) (part outs j)) → (j : ℕ) → Each (HoldsIn ins) (part outs j)
all_in ins outs f j = each_map {P = Holds (part ins j)} {Q = HoldsIn ins} (part outs j) (λ r x. (j, x)) (f j)

one_wide : (w : ℕ) (ins : List (List Row)) (out : List Row) → AllWide w ins → Interleaves ins out → AllWide w (out ∷ [])
one_wide w ins out h i zero = woven_each (IsWide w) ins out i h
one_wide w ins out h i (suc j) = tt

exchange_stands : (h : Hashing) (to : Partitioning) (d : Declared) (ins outs : List (List Row)) → Stands h d ins → Exchanges h to ins outs → Stands h (repartitioned to d) outs
exchange_stands h (parting.Hash cs n) d ins outs s x = record { meets = repartition_meets h cs n d ins outs x s.meets; wide = wide_from d.width ins outs s.wide x.dealt.from; pairs = s.pairs; constants = s.constants }
exchange_stands h (parting.RoundRobin n) d ins outs s x = record { meets = deal_meets h n d ins outs x s.meets; wide = wide_from d.width ins outs s.wide x.from; pairs = s.pairs; constants = s.constants }
exchange_stands h parting.Single d ins outs s x = absurd x
exchange_stands h (parting.Unknown n) d ins outs s x = absurd x

-- ---- each node

pub node_stands : (h : Hashing) (n : ℕ) (z : Plan-F Input) (outs : List (List Row)) → AllStand h (kids z) → NodeNeeds h n z → NodeGives h z outs → Stands h (declared (map-Plan Input Declared (λ i. i.0) z)) outs
node_stands h n (Plan-F.Scan table kinds files partitions) outs s need g = scattered_stands h (length kinds) partitions outs g.0 g.1
node_stands h n (Plan-F.Filter i test) outs s need g = subst (Stands h (filtered test i.0)) (sym g) (filter_stands h test i.0 i.1 s.0 need.0 need.1)
node_stands h n (Plan-F.Project i es) outs s need g = subst (Stands h (projected es i.0)) (sym g) (project_stands h es i.0 i.1 s.0)
node_stands h n (Plan-F.PartialGroup i keys calls) outs s need g = group_stands h keys (sum (map state_width calls)) i.0 outs (partial_meets h (length keys + sum (map state_width calls)) keys i.0 i.1 outs g.0 s.0.meets) g.1
node_stands h n (Plan-F.FinalGroup i keys calls) outs s need g = group_stands h keys (length calls) i.0 outs (final_meets h (length keys + length calls) n keys i.0 i.1 outs need g.0 s.0.meets) g.1
node_stands h n (Plan-F.HashJoin kind l r keys rest) outs s need g = join_stands h n keys l.0 r.0 l.1 r.1 s.0 s.1.0 need.0 need.1 need.2 need.3 kind outs g
node_stands h n (Plan-F.Sort i keys) outs s need g = record { meets = sort_meets h keys i.0 i.1 outs g s.0.meets; wide = wide_from i.0.width i.1 outs s.0.wide (all_in i.1 outs g.from); pairs = s.0.pairs; constants = s.0.constants }
node_stands h n (Plan-F.Merge i keys) outs s need g =
    subst (Stands h (merged keys i.0)) (sym g.1)
    (record { meets = merge_meets h keys i.0 i.1 g.0 need g.2 s.0.meets; wide = one_wide i.0.width i.1 g.0 s.0.wide (merges_interleave keys i.1 g.0 g.2); pairs = s.0.pairs; constants = s.0.constants })
node_stands h n (Plan-F.Coalesce i) outs s need g = record { meets = coalesce_meets h i.0 i.1 outs g s.0.meets; wide = wide_from i.0.width i.1 outs s.0.wide g.from; pairs = s.0.pairs; constants = s.0.constants }
node_stands h n (Plan-F.Repartition i to) outs s need g = exchange_stands h to i.0 i.1 outs s.0 g
node_stands h n (Plan-F.UnionAll is) outs s need g =
    subst (Stands h (united (declared_inputs is))) (sym g)
    (record { meets = union_meets h (declared_inputs is) (rows_of is) (inputs_meet h is s); wide = inputs_wide h (first_width (declared_inputs is)) is s need; pairs = tt; constants = tt })
node_stands h n (Plan-F.Limit i skip fetch) outs s need g = record { meets = stretches_meet h i.0.props i.1 outs g s.0.meets; wide = λ j. stretch_each (IsWide i.0.width) i.1 outs g j (s.0.wide j); pairs = s.0.pairs; constants = s.0.constants }

-- ---- nodes of plans, and rows so far

all_declared : (is : List PlanInput) → map declared_of (map (λ (i : PlanInput). i.0) is) ≡ map (λ (i : Input). i.0) (map (λ (i : PlanInput). (declared_of i.0, i.1)) is)
all_declared [] = refl
all_declared (i ∷ is) = ap (λ (ds : List Declared). declared_of i.0 ∷ ds) (all_declared is)

declared_inside : (z : Plan-F PlanInput) → map-Plan Plan Declared declared_of (plans_of z) ≡ map-Plan Input Declared (λ i. i.0) (inputs_of z)
declared_inside (Plan-F.Scan table kinds files partitions) = refl
declared_inside (Plan-F.Filter i test) = refl
declared_inside (Plan-F.Project i es) = refl
declared_inside (Plan-F.PartialGroup i keys calls) = refl
declared_inside (Plan-F.FinalGroup i keys calls) = refl
declared_inside (Plan-F.HashJoin kind l r keys rest) = refl
declared_inside (Plan-F.Sort i keys) = refl
declared_inside (Plan-F.Merge i keys) = refl
declared_inside (Plan-F.Coalesce i) = refl
declared_inside (Plan-F.Repartition i to) = refl
declared_inside (Plan-F.UnionAll is) = ap (λ (ds : List Declared). Plan-F.UnionAll ds) (all_declared is)
declared_inside (Plan-F.Limit i skip fetch) = refl

declared_rolled : (z : Plan-F PlanInput) → declared_of (roll-Plan (plans_of z)) ≡ declared (map-Plan Input Declared (λ i. i.0) (inputs_of z))
unfolding declared_of
declared_rolled z = fold-roll-Plan Declared declared (plans_of z) ∙ ap declared (declared_inside z)

pub plan_stands : (h : Hashing) (n : ℕ) (z : Plan-F PlanInput) (outs : List (List Row)) → AllStand h (kids (inputs_of z)) → NodeNeeds h n (inputs_of z) → NodeGives h (inputs_of z) outs → Stands h (declared_of (roll-Plan (plans_of z))) outs
plan_stands h n z outs s need g = subst (λ (d : Declared). Stands h d outs) (sym (declared_rolled z)) (node_stands h n (inputs_of z) outs s need g)

pub begun_stands : (h : Hashing) (d : Declared) (whole outs : List (List Row)) → Begun whole outs → Stands h d whole → Stands h d outs
begun_stands h d whole outs b s = record { meets = begun_meets h d.props whole outs b s.meets; wide = λ j. begun_each (IsWide d.width) whole outs b j (s.wide j); pairs = s.pairs; constants = s.constants }

-- ---- needs that a plan declares to be satisfied

pub needs_met : (h : Hashing) → IsHash h → (n : ℕ) (z : Plan-F PlanInput) → AllStand h (kids (inputs_of z)) → InRange (inputs_of z) → spread_needs n (plans_of z) ≡ true → order_needs (plans_of z) ≡ true → NodeNeeds h n (inputs_of z)
needs_met h is n (Plan-F.Scan table kinds files partitions) s r d o = tt
needs_met h is n (Plan-F.Filter i test) s r d o = r
needs_met h is n (Plan-F.Project i es) s r d o = tt
needs_met h is n (Plan-F.PartialGroup i keys calls) s r d o = tt
needs_met h is n (Plan-F.FinalGroup i keys calls) s r d o = distribution_sound h is (props i.0) (group_need keys n) i.1 d s.0.meets
needs_met h is n (Plan-F.HashJoin kind l t keys rest) s r d o =
    let a = and_parts (satisfies_distribution (props l.0) (need.JoinHash (left_keys keys) n)) (satisfies_distribution (props t.0) (need.JoinHash (right_keys keys) n)) d in
    (distribution_sound h is (props l.0) (need.JoinHash (left_keys keys) n) l.1 a.0 s.0.meets, distribution_sound h is (props t.0) (need.JoinHash (right_keys keys) n) t.1 a.1 s.1.0.meets, r.0, r.1)
needs_met h is n (Plan-F.Sort i keys) s r d o = tt
needs_met h is n (Plan-F.Merge i keys) s r d o = order_sound h (props i.0) keys i.1 o s.0.meets
needs_met h is n (Plan-F.Coalesce i) s r d o = tt
needs_met h is n (Plan-F.Repartition i to) s r d o = tt
needs_met h is n (Plan-F.UnionAll ks) s r d o = r
needs_met h is n (Plan-F.Limit i skip fetch) s r d o = tt
