-- What a join gives of rows, by weights.
use Rattle.std.proofs.Common.{ℕ, ◌+◌, ◌≡◌, refl, sym, ap, ◌∙◌, List, [], ◌∷◌, ◌++◌, Option, Ok, Err, arith}
use Rattle.std.specs.List.{sum_by, flat_map}
use Rattle.std.proofs.lemmas.List.Sums.{sum_by-cons, sum_by-append}
use Rattle.dfx_value.specs.declared.fault.ItemFault.{ItemFault}
use Rattle.dfx_value.specs.declared.op.JoinKind.{JoinKind}
use Rattle.scalar_exprs.specs.declared.expr.Expr.{Expr}
use Rattle.logical_plan.specs.Items.{Cells, Item, rows, faults, of_faults}
use Rattle.logical_plan.specs.Joins.{paired, left_pairs, right_pairs, pairs, nulls, alone, left_alone, right_alone, keeps_left, keeps_right, when, joined}
use Rattle.content_laws.specs.Bags.{SameBag}
use Rattle.join_laws.specs.Joining.{probe, join_items}
use Rattle.content_laws.proofs.Weights.{sum_same, sum-flat_map, sum_swap, sum_by-map}
use Rattle.join_laws.proofs.Sides.{side_bag, side_apart, Nothing, nothing_turned, alone_bag, when_weigh, when_apart, when_none}

module _ (w : Item → ℕ) (kind : JoinKind) (left_width right_width : ℕ) (keys : List (ℕ × ℕ)) (rest : Option Expr) where
  abbrev pub lefts_of : List Cells → List Cells → List Item
  lefts_of ls rs = when (keeps_left kind) (left_alone keys rest right_width ls rs)

  abbrev pub rights_of : List Cells → List Cells → List Item
  rights_of ls rs = when (keeps_right kind) (right_alone keys rest left_width ls rs)

  -- the pairs and the padded rows
  abbrev pub weight : List Cells → List Cells → ℕ
  weight ls rs = (sum_by w (pairs keys rest ls rs) + sum_by w (lefts_of ls rs)) + sum_by w (rights_of ls rs)

  abbrev pub fault_weight : List ItemFault → ℕ
  fault_weight fs = sum_by (λ f. w (Err f)) fs

  pub joined_weighs : (ls rs : List Item) → sum_by w (joined kind left_width right_width keys rest ls rs) ≡ (fault_weight (faults ls) + fault_weight (faults rs)) + weight (rows ls) (rows rs)
  joined_weighs ls rs =
      let fs : List Item = of_faults (faults ls) in
      let gs : List Item = of_faults (faults rs) in
      let all : List Item = pairs keys rest (rows ls) (rows rs) in
      let more : List Item = lefts_of (rows ls) (rows rs) in
      let most : List Item = rights_of (rows ls) (rows rs) in
      let a : sum_by w (((fs ++ gs ++ all) ++ more) ++ most) ≡ sum_by w ((fs ++ gs ++ all) ++ more) + sum_by w most = sum_by-append w ((fs ++ gs ++ all) ++ more) most in
      let b : sum_by w ((fs ++ gs ++ all) ++ more) ≡ sum_by w (fs ++ gs ++ all) + sum_by w more = sum_by-append w (fs ++ gs ++ all) more in
      let c : sum_by w (fs ++ gs ++ all) ≡ sum_by w (fs ++ gs) + sum_by w all = sum_by-append w (fs ++ gs) all in
      let d : sum_by w (fs ++ gs) ≡ sum_by w fs + sum_by w gs = sum_by-append w fs gs in
      let e : sum_by w fs ≡ fault_weight (faults ls) = sum_by-map (λ f. Err f) w (faults ls) in
      let f : sum_by w gs ≡ fault_weight (faults rs) = sum_by-map (λ f. Err f) w (faults rs) in
      omega arith

  -- ---- the operator

  abbrev right_padded : Cells → List Item → List Item
  right_padded r found = alone (nulls left_width ++ r) found

  abbrev left_padded : Cells → List Item → List Item
  left_padded l found = alone (l ++ nulls right_width) found

  abbrev found : Cells → List Item → List Item
  found l items = items

  probes_weigh : (ls rs : List Item) → sum_by w (flat_map (probe kind left_width keys rest ls) rs)
      ≡ fault_weight (faults rs) + (sum_by w (flat_map (right_pairs keys rest (rows ls)) (rows rs)) + sum_by w (rights_of (rows ls) (rows rs)))
  probes_weigh ls [] = let a : sum_by w (when (keeps_right kind) []) ≡ 0 = when_none w (keeps_right kind) in omega arith
  probes_weigh ls (Err f ∷ rs) =
      let a : sum_by w (flat_map (probe kind left_width keys rest ls) (Err f ∷ rs)) ≡ w (Err f) + sum_by w (flat_map (probe kind left_width keys rest ls) rs) = sum_by-cons w (Err f) (flat_map (probe kind left_width keys rest ls) rs) in
      let b : fault_weight (f ∷ faults rs) ≡ w (Err f) + fault_weight (faults rs) = sum_by-cons (λ f. w (Err f)) f (faults rs) in
      let c : sum_by w (flat_map (probe kind left_width keys rest ls) rs) ≡ fault_weight (faults rs) + (sum_by w (flat_map (right_pairs keys rest (rows ls)) (rows rs)) + sum_by w (rights_of (rows ls) (rows rs))) = probes_weigh ls rs in
      omega arith
  probes_weigh ls (Ok r ∷ rs) =
      let pair : List Item = right_pairs keys rest (rows ls) r in
      let pad : List Item = right_padded r pair in
      let more : List Item = flat_map (probe kind left_width keys rest ls) rs in
      let a : sum_by w ((pair ++ when (keeps_right kind) pad) ++ more) ≡ sum_by w (pair ++ when (keeps_right kind) pad) + sum_by w more = sum_by-append w (pair ++ when (keeps_right kind) pad) more in
      let b : sum_by w (pair ++ when (keeps_right kind) pad) ≡ sum_by w pair + sum_by w (when (keeps_right kind) pad) = sum_by-append w pair (when (keeps_right kind) pad) in
      let c : sum_by w more ≡ fault_weight (faults rs) + (sum_by w (flat_map (right_pairs keys rest (rows ls)) (rows rs)) + sum_by w (rights_of (rows ls) (rows rs))) = probes_weigh ls rs in
      let d : sum_by w (pair ++ flat_map (right_pairs keys rest (rows ls)) (rows rs)) ≡ sum_by w pair + sum_by w (flat_map (right_pairs keys rest (rows ls)) (rows rs)) = sum_by-append w pair (flat_map (right_pairs keys rest (rows ls)) (rows rs)) in
      let e : sum_by w (rights_of (rows ls) (r ∷ rows rs)) ≡ sum_by w (when (keeps_right kind) pad) + sum_by w (rights_of (rows ls) (rows rs)) = when_apart w (keeps_right kind) (right_alone keys rest left_width (rows ls) (r ∷ rows rs)) pad (right_alone keys rest left_width (rows ls) (rows rs)) refl in
      omega arith

  -- the pairs in either order
  pairs_turned : (ls rs : List Cells) → sum_by w (flat_map (right_pairs keys rest ls) rs) ≡ sum_by w (pairs keys rest ls rs)
  pairs_turned ls rs =
      sum-flat_map (right_pairs keys rest ls) w rs
      ∙ (sum_same (λ r. sum_by w (right_pairs keys rest ls r)) (λ r. sum_by (λ l. sum_by w (paired keys rest l r)) ls) (λ r. sum-flat_map (λ l. paired keys rest l r) w ls) rs
      ∙ (sum_swap (λ r l. sum_by w (paired keys rest l r)) rs ls
      ∙ (sum_same (λ l. sum_by (λ r. sum_by w (paired keys rest l r)) rs) (λ l. sum_by w (left_pairs keys rest rs l)) (λ l. sym (sum-flat_map (paired keys rest l) w rs)) ls
      ∙ sym (sum-flat_map (left_pairs keys rest rs) w ls))))

  pub one_join : (ls rs : List Item) → sum_by w (join_items kind left_width right_width keys rest ls rs) ≡ sum_by w (joined kind left_width right_width keys rest ls rs)
  one_join ls rs =
      let begin : List Item = flat_map (probe kind left_width keys rest ls) rs in
      let more : List Item = lefts_of (rows ls) (rows rs) in
      let fs : List Item = of_faults (faults ls) in
      let a : sum_by w (begin ++ (more ++ fs)) ≡ sum_by w begin + sum_by w (more ++ fs) = sum_by-append w begin (more ++ fs) in
      let b : sum_by w (more ++ fs) ≡ sum_by w more + sum_by w fs = sum_by-append w more fs in
      let c : sum_by w fs ≡ fault_weight (faults ls) = sum_by-map (λ f. Err f) w (faults ls) in
      let d : sum_by w begin ≡ fault_weight (faults rs) + (sum_by w (flat_map (right_pairs keys rest (rows ls)) (rows rs)) + sum_by w (rights_of (rows ls) (rows rs))) = probes_weigh ls rs in
      let e : sum_by w (flat_map (right_pairs keys rest (rows ls)) (rows rs)) ≡ sum_by w (pairs keys rest (rows ls) (rows rs)) = pairs_turned (rows ls) (rows rs) in
      let f : sum_by w (joined kind left_width right_width keys rest ls rs) ≡ (fault_weight (faults ls) + fault_weight (faults rs)) + weight (rows ls) (rows rs) = joined_weighs ls rs in
      omega arith

  -- ---- rows in another order, and rows apart

  pub weight_bag : (ls ks rs ss : List Cells) → SameBag ls ks → SameBag rs ss → weight ls rs ≡ weight ks ss
  weight_bag ls ks rs ss h k =
      let a : sum_by w (pairs keys rest ls rs) ≡ sum_by w (pairs keys rest ks ss) = side_bag w (paired keys rest) found (λ l xs ys same. same w) rs ss ls ks k h in
      let b : sum_by w (lefts_of ls rs) ≡ sum_by w (lefts_of ks ss) = when_weigh w (keeps_left kind) (left_alone keys rest right_width ls rs) (left_alone keys rest right_width ks ss)
      (side_bag w (paired keys rest) left_padded (λ l xs ys same. ap (sum_by w) (alone_bag (l ++ nulls right_width) xs ys same)) rs ss ls ks k h) in
      let c : sum_by w (rights_of ls rs) ≡ sum_by w (rights_of ks ss) = when_weigh w (keeps_right kind) (right_alone keys rest left_width ls rs) (right_alone keys rest left_width ks ss)
      (side_bag w (λ r l. paired keys rest l r) right_padded (λ r xs ys same. ap (sum_by w) (alone_bag (nulls left_width ++ r) xs ys same)) ls ks rs ss h k) in
      omega arith

  pub weight_apart : (ls ks rs ss : List Cells) → Nothing (paired keys rest) ls ss → Nothing (paired keys rest) ks rs → weight (ls ++ ks) (rs ++ ss) ≡ weight ls rs + weight ks ss
  weight_apart ls ks rs ss h k =
      let a : sum_by w (pairs keys rest (ls ++ ks) (rs ++ ss)) ≡ sum_by w (pairs keys rest ls rs) + sum_by w (pairs keys rest ks ss)
      = ap (sum_by w) (side_apart (paired keys rest) found rs ss ls ks h k) ∙ sum_by-append w (pairs keys rest ls rs) (pairs keys rest ks ss) in
      let b : sum_by w (lefts_of (ls ++ ks) (rs ++ ss)) ≡ sum_by w (lefts_of ls rs) + sum_by w (lefts_of ks ss)
      = when_apart w (keeps_left kind) (left_alone keys rest right_width (ls ++ ks) (rs ++ ss)) (left_alone keys rest right_width ls rs) (left_alone keys rest right_width ks ss) (side_apart (paired keys rest) left_padded rs ss ls ks h k) in
      let c : sum_by w (rights_of (ls ++ ks) (rs ++ ss)) ≡ sum_by w (rights_of ls rs) + sum_by w (rights_of ks ss)
      = when_apart w (keeps_right kind) (right_alone keys rest left_width (ls ++ ks) (rs ++ ss)) (right_alone keys rest left_width ls rs) (right_alone keys rest left_width ks ss)
      (side_apart (λ r l. paired keys rest l r) right_padded ls ks rs ss (nothing_turned (paired keys rest) ks rs k) (nothing_turned (paired keys rest) ls ss h)) in
      omega arith
