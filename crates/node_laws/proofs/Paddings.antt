-- RIGHT and FULL joins.
use Rattle.std.specs.Prelude.{◌%◌}
use Rattle.std.proofs.Common.{ℕ, ◌≡◌, ◌+◌, inl, inr, refl, sym, ap, ◌∙◌, subst, List, [], ◌∷◌, ◌++◌, length}
use Rattle.std.proofs.lemmas.List.{length-replicate}
use Rattle.dfx_value.specs.declared.value.Value.{Value}
use Rattle.dfx_value.specs.declared.value.Value.TheVariants as value
use Rattle.dfx_value.specs.Rows.{cell}
use Rattle.dfx_value.specs.declared.op.JoinKind.TheVariants.{Right, Full}
use Rattle.plan_props.specs.declared.properties.Partitioning.TheVariants as parting
use Rattle.plan_props.specs.Meets.{Row, Hashing, PairsHold, Agree, cells_at, Each, Hashed, part, Meets}
use Rattle.plan_props.proofs.Sound.{each_map, each_all}
use Rattle.physical_plan.specs.declared.properties.Declared.{Declared}
use Rattle.physical_plan.specs.Properties.{or_single, declared_partitions, hash_joined, right_keys, shifted, shifted_columns}
use Rattle.node_laws.specs.NodeRows.{Holds, nulls, Joined}
use Rattle.node_laws.specs.Rows.{RightRow, FullRow, RightSides}
use Rattle.node_laws.proofs.Weavings.{each_has}
use Rattle.node_laws.proofs.Others.{single_parts, single_hashed, unordered, cell_right, right_pairs, right_agree}

module _ (w : ℕ) (l x : Row) (wide : length l ≡ w) where
  columns_behind : (cs : List ℕ) → cells_at (shifted_columns w cs) (l ++ x) ≡ cells_at cs x
  columns_behind [] = refl
  columns_behind (c ∷ cs) = ap (λ (v : Value). v ∷ cells_at (shifted_columns w cs) (l ++ x)) (cell_right l x w c wide) ∙ ap (λ (vs : List Value). cell x c ∷ vs) (columns_behind cs)

-- a row that ends with a right row
abbrev Ends : ℕ → List Row → Row → Type 0
Ends w rs s = (l : Row) × (r : Row) × Holds rs r × (length l ≡ w) × (s ≡ l ++ r)

module _ (h : Hashing) (keys : List (ℕ × ℕ)) (d e : Declared) (lefts rights outs : List (List Row)) (sides : RightSides h keys d lefts rights) (m : Meets h d.props lefts) (mr : Meets h e.props rights) (o : Joined (RightRow keys d.width) lefts rights outs) where
  ends : (j : ℕ) (s : Row) → RightRow keys d.width (part lefts j) (part rights j) s → Ends d.width (part rights j) s
  ends j s (inl a) = (a.0, a.1, a.3, each_has (λ l. length l ≡ d.width) (part lefts j) a.0 (sides.wide j) a.2, a.5)
  ends j s (inr a) = (nulls d.width, a.0, a.1, length-replicate d.width value.Null, a.2)

  ends_hashed : (j : ℕ) (s : Row) → Ends d.width (part rights j) s → Hashed h (or_single (parting.Hash (shifted_columns d.width (right_keys keys)) (declared_partitions d))) j s
  ends_hashed j s a =
      single_hashed h (parting.Hash (shifted_columns d.width (right_keys keys)) (declared_partitions d)) j s
      (ap (λ (t : Row). h (cells_at (shifted_columns d.width (right_keys keys)) t) % declared_partitions d) a.4
      ∙ ap (λ (vs : List Value). h vs % declared_partitions d) (columns_behind d.width a.0 a.1 a.3 (right_keys keys))
      ∙ each_has (λ r. h (cells_at (right_keys keys) r) % declared_partitions d ≡ j) (part rights j) a.1 (sides.places.place j) a.2)

  ends_same : (j : ℕ) (s : Row) → Ends d.width (part rights j) s → PairsHold (shifted d.width e.props.same) s
  ends_same j s a = subst (PairsHold (shifted d.width e.props.same)) (sym a.4) (right_pairs d.width a.0 a.1 a.3 e.props.same (each_has (PairsHold e.props.same) (part rights j) a.1 (mr.same j) a.2))

  ends_agree : (i j : ℕ) (s t : Row) → Ends d.width (part rights i) s → Ends d.width (part rights j) t → Agree (shifted_columns d.width e.props.constants) s t
  ends_agree i j s t a b =
      subst (λ (u : Row). Agree (shifted_columns d.width e.props.constants) u t) (sym a.4) (subst (λ (u : Row). Agree (shifted_columns d.width e.props.constants) (a.0 ++ a.1) u) (sym b.4)
      (right_agree d.width a.0 a.1 b.0 b.1 a.3 b.3 e.props.constants
      (each_has (Agree e.props.constants a.1) (part rights j) b.1 (each_has (λ r. Each (Agree e.props.constants r) (part rights j)) (part rights i) a.1 (mr.constant i j) a.2) b.2)))

  pub right_meets : Meets h (hash_joined Right keys d e).props outs
  right_meets = record {
    count = o.count ∙ m.count ∙ sym (single_parts (parting.Hash (shifted_columns d.width (right_keys keys)) (declared_partitions d)));
    hashed = λ j. each_map {P = RightRow keys d.width (part lefts j) (part rights j)} {Q = Hashed h (or_single (parting.Hash (shifted_columns d.width (right_keys keys)) (declared_partitions d))) j} (part outs j) (λ s a. ends_hashed j s (ends j s a)) (o.rows j);
    ordered = λ j. unordered (part outs j);
    same = λ j. each_map {P = RightRow keys d.width (part lefts j) (part rights j)} {Q = PairsHold (shifted d.width e.props.same)} (part outs j) (λ s a. ends_same j s (ends j s a)) (o.rows j);
    constant = λ i j. each_map {P = RightRow keys d.width (part lefts i) (part rights i)} {Q = λ r. Each (Agree (shifted_columns d.width e.props.constants) r) (part outs j)} (part outs i)
        (λ s a. each_map {P = RightRow keys d.width (part lefts j) (part rights j)} {Q = Agree (shifted_columns d.width e.props.constants) s} (part outs j) (λ t b. ends_agree i j s t (ends i s a) (ends j t b)) (o.rows j))
        (o.rows i);
  }

pub full_meets : (h : Hashing) (keys : List (ℕ × ℕ)) (d e : Declared) (lefts rights outs : List (List Row)) → Meets h d.props lefts → Joined (FullRow keys d.width e.width) lefts rights outs → Meets h (hash_joined Full keys d e).props outs
full_meets h keys d e lefts rights outs m o = record {
  count = o.count ∙ m.count ∙ sym (single_parts (parting.Unknown (declared_partitions d)));
  hashed = λ j. each_all (part outs j) (λ s. single_hashed h (parting.Unknown (declared_partitions d)) j s tt);
  ordered = λ j. unordered (part outs j);
  same = λ j. each_all (part outs j) (λ s. tt);
  constant = λ i j. each_all (part outs i) (λ s. each_all (part outs j) (λ t. tt));
}
