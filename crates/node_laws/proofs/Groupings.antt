-- PartialGroup and FinalGroup.
use Rattle.std.specs.Prelude.{◌%◌}
use Rattle.std.specs.List.{filter_map}
use Rattle.std.proofs.Common.{ℕ, suc, ◌≡◌, ◌≢◌, ◌<◌, ◌+◌, ◌⊎◌, inl, inr, sym, ap, ◌∙◌, subst, cond, eqb, Option, Some, Bool, true, false, List, [], ◌∷◌, ◌++◌, length, arith, zero-add}
use Rattle.std.proofs.Math.Nat.{mod-one}
use Rattle.std.proofs.lemmas.Bool.Decides.{eqb_tells}
use Rattle.dfx_value.specs.Rows.{cell}
use Rattle.plan_props.specs.declared.properties.Partitioning.{Partitioning}
use Rattle.plan_props.specs.declared.properties.Partitioning.TheVariants as parting
use Rattle.plan_props.specs.Satisfies.{partition_count}
use Rattle.plan_props.specs.Meets.{Row, Hashing, Each, PairsHold, Agree, Hashed, cells_at, part, Meets, Delivers}
use Rattle.plan_props.proofs.Sound.{each_map, each_all, each_within}
use Rattle.physical_plan.specs.declared.properties.Declared.{Declared}
use Rattle.physical_plan.specs.Properties.{grouped, place_from, place_in, kept_columns, partitioning_renamed, pairs_renamed}
use Rattle.physical_plan.specs.Needs.{group_need}
use Rattle.node_laws.specs.Rows.{GroupRow, PartGroups, AnswerRow, Groups}
use Rattle.node_laws.proofs.Weavings.{each_has}
use Rattle.node_laws.proofs.Others.{unordered}
use Rattle.node_laws.proofs.Meetings.{Moves, hashed_moved, pairs_moved, agree_moved, parts_renamed}

-- the key values stand at the places of their columns
placed : (keys : List ℕ) (r more : Row) (at c d : ℕ) → place_from at (kept_columns keys) c ≡ Some d → (k : ℕ) × (d ≡ at + k) × (cell (cells_at keys r ++ more) k ≡ cell r c)
placed [] r more at c d e = cc
placed (x ∷ keys) r more at c d e = split (λ q. placed keys r more (at + 1) c d q) (eqb_tells x c) e
  where
    later : (k : ℕ) × (d ≡ at + 1 + k) × (cell (cells_at keys r ++ more) k ≡ cell r c) → (k : ℕ) × (d ≡ at + k) × (cell (cell r x ∷ cells_at keys r ++ more) k ≡ cell r c)
    later w = (suc w.0, (let q = w.1 in omega arith), w.2)

    split : (place_from (at + 1) (kept_columns keys) c ≡ Some d → (k : ℕ) × (d ≡ at + 1 + k) × (cell (cells_at keys r ++ more) k ≡ cell r c)) → ((eqb x c ≡ true) × (x ≡ c)) ⊎ ((eqb x c ≡ false) × (x ≢ c)) → cond {A = Option ℕ} (eqb x c) (Some at) (place_from (at + 1) (kept_columns keys) c) ≡ Some d → (k : ℕ) × (d ≡ at + k) × (cell (cell r x ∷ cells_at keys r ++ more) k ≡ cell r c)
    split f (inl y) p =
        let i : Some at ≡ Some d = ap (λ (b : Bool). cond {A = Option ℕ} b (Some at) (place_from (at + 1) (kept_columns keys) c)) (sym y.0) ∙ p in
        let same : at ≡ d = cc in
        (0, omega arith, ap (λ (m : ℕ). cell r m) y.1)
    split f (inr y) p = later (f (ap (λ (b : Bool). cond {A = Option ℕ} b (Some at) (place_from (at + 1) (kept_columns keys) c)) (sym y.0) ∙ p))

group_moves : (keys : List ℕ) (r more s : Row) → s ≡ cells_at keys r ++ more → Moves (place_in (kept_columns keys)) r s
group_moves keys r more s e c d p = let w = placed keys r more 0 c d p in ap (λ (t : Row). cell t d) e ∙ ap (λ (k : ℕ). cell (cells_at keys r ++ more) k) (w.1 ∙ zero-add w.0) ∙ w.2

module _ (h : Hashing) (width : ℕ) (keys : List ℕ) (d : Declared) (ins outs : List (List Row)) (count : length outs ≡ length ins) (rows : (j : ℕ) → Each (GroupRow keys (part ins j)) (part outs j)) (m : Meets h d.props ins) where
  group_hashed : (j : ℕ) (s : Row) → GroupRow keys (part ins j) s → Hashed h (partitioning_renamed (place_in (kept_columns keys)) d.props.partitioning) j s
  group_hashed j s g = hashed_moved (place_in (kept_columns keys)) g.0 s (group_moves keys g.0 g.1 s g.3) h d.props.partitioning j (each_has (Hashed h d.props.partitioning j) (part ins j) g.0 (m.hashed j) g.2)

  group_same : (j : ℕ) (s : Row) → GroupRow keys (part ins j) s → PairsHold (pairs_renamed (place_in (kept_columns keys)) d.props.same) s
  group_same j s g = pairs_moved (place_in (kept_columns keys)) g.0 s (group_moves keys g.0 g.1 s g.3) d.props.same (each_has (PairsHold d.props.same) (part ins j) g.0 (m.same j) g.2)

  group_agree : (i j : ℕ) (s t : Row) → GroupRow keys (part ins i) s → GroupRow keys (part ins j) t → Agree (filter_map (place_in (kept_columns keys)) d.props.constants) s t
  group_agree i j s t g f =
      agree_moved (place_in (kept_columns keys)) g.0 s f.0 t (group_moves keys g.0 g.1 s g.3) (group_moves keys f.0 f.1 t f.3) d.props.constants
      (each_has (Agree d.props.constants g.0) (part ins j) f.0 (each_has (λ r. Each (Agree d.props.constants r) (part ins j)) (part ins i) g.0 (m.constant i j) g.2) f.2)

  pub groups_meet : Meets h (grouped width keys d).props outs
  groups_meet = record {
    count = count ∙ m.count ∙ sym (parts_renamed (place_in (kept_columns keys)) d.props.partitioning);
    hashed = λ j. each_map {P = GroupRow keys (part ins j)} {Q = Hashed h (partitioning_renamed (place_in (kept_columns keys)) d.props.partitioning) j} (part outs j) (group_hashed j) (rows j);
    ordered = λ j. unordered (part outs j);
    same = λ j. each_map {P = GroupRow keys (part ins j)} {Q = PairsHold (pairs_renamed (place_in (kept_columns keys)) d.props.same)} (part outs j) (group_same j) (rows j);
    constant = λ i j. each_map {P = GroupRow keys (part ins i)} {Q = λ s. Each (Agree (filter_map (place_in (kept_columns keys)) d.props.constants) s) (part outs j)} (part outs i)
        (λ s g. each_map {P = GroupRow keys (part ins j)} {Q = Agree (filter_map (place_in (kept_columns keys)) d.props.constants) s} (part outs j) (λ t f. group_agree i j s t g f) (rows j))
        (rows i);
  }

pub partial_meets : (h : Hashing) (width : ℕ) (keys : List ℕ) (d : Declared) (ins outs : List (List Row)) → PartGroups keys ins outs → Meets h d.props ins → Meets h (grouped width keys d).props outs
partial_meets h width keys d ins outs g m = groups_meet h width keys d ins outs g.count g.rows m

-- ---- one group of all rows

no_pairs_left : (ps : List (ℕ × ℕ)) (s : Row) → PairsHold (pairs_renamed (place_in []) ps) s
no_pairs_left [] s = tt
no_pairs_left (p ∷ ps) s = no_pairs_left ps s

none_left : (cs : List ℕ) (s t : Row) → Agree (filter_map (place_in []) cs) s t
none_left [] s t = tt
none_left (c ∷ cs) s t = none_left cs s t

-- the only place below 1 is 0, and every hash is 0 there
sole_place : (h : Hashing) (p : Partitioning) (j : ℕ) (s : Row) → partition_count p ≡ 1 → j < 1 → Hashed h (partitioning_renamed (place_in []) p) j s
sole_place h parting.Single j s e l = tt
sole_place h (parting.RoundRobin n) j s e l = tt
sole_place h (parting.Unknown n) j s e l = tt
sole_place h (parting.Hash (c ∷ cs) n) j s e l = tt
sole_place h (parting.Hash [] n) j s e l = let q : 0 ≡ j = omega arith in ap (λ (m : ℕ). h [] % m) e ∙ mod-one (h []) ∙ q

pub final_meets : (h : Hashing) (width n : ℕ) (keys : List ℕ) (d : Declared) (ins outs : List (List Row)) → Delivers h (group_need keys n) ins → Groups keys ins outs → Meets h d.props ins → Meets h (grouped width keys d).props outs
final_meets h width n [] d ins outs one g m = record {
  count = g.count ∙ m.count ∙ sym (parts_renamed (place_in []) d.props.partitioning);
  hashed = λ j. each_within outs j (λ l s. sole_place h d.props.partitioning j s (sym m.count ∙ one) (subst (λ (k : ℕ). j < k) (g.count ∙ one) l));
  ordered = λ j. unordered (part outs j);
  same = λ j. each_all (part outs j) (λ s. no_pairs_left d.props.same s);
  constant = λ i j. each_all (part outs i) (λ s. each_all (part outs j) (λ t. none_left d.props.constants s t));
}
final_meets h width n (k ∷ ks) d ins outs need g m =
    groups_meet h width (k ∷ ks) d ins outs g.count
    (λ j. each_map {P = AnswerRow (k ∷ ks) (part ins j)} {Q = GroupRow (k ∷ ks) (part ins j)} (part outs j) (λ s. grouped_row (part ins j) s) (g.rows j)) m
  where
    grouped_row : (rows : List Row) (s : Row) → AnswerRow (k ∷ ks) rows s → GroupRow (k ∷ ks) rows s
    grouped_row rows s (inl w) = w
    grouped_row rows s (inr e) = cc
