-- What groups and joins need, from what stands of their inputs.
use Rattle.std.specs.List.{list_all, list_any}
use Rattle.std.specs.Ordering.{is_eq}
use Rattle.std.specs.declared.cmp.Ordering.{Ordering}
use Rattle.std.specs.declared.cmp.Ordering.TheVariants.{Less, Equal, Greater}
use Rattle.std.proofs.Common.{ℕ, ◌%◌, ◌≡◌, inl, inr, refl, sym, ap, ◌∙◌, subst, List, [], ◌∷◌, length, map, Bool, true, false, ◌&&◌, ◌||◌, not, arith}
use Rattle.std.proofs.lemmas.Bool.{false≢true}
use Rattle.std.proofs.lemmas.List.Sums.{AllPass-from_list_all}
use Rattle.dfx_value.specs.Order.{value_cmp}
use Rattle.dfx_value.specs.Rows.{cell}
use Rattle.plan_props.specs.declared.properties.Distribution.{Distribution}
use Rattle.plan_props.specs.declared.properties.Distribution.TheVariants as need
use Rattle.plan_props.specs.Satisfies.{satisfies_distribution}
use Rattle.plan_props.specs.Meets as meets
use Rattle.plan_props.specs.Meets.{Hashing, AllEqual, Equals, cells_at, Each}
use Rattle.physical_plan.specs.declared.plan.Plan.{Plan}
use Rattle.physical_plan.specs.declared.plan.Plan.TheOpen.{Plan-F}
use Rattle.node_laws.specs.NodeRows.{Holds}
use Rattle.physical_plan.specs.Properties.{declared_of, props, left_keys, right_keys}
use Rattle.physical_plan.specs.Needs.{group_need}
use Rattle.scalar_exprs.specs.Groups.{same_value}
use Rattle.scalar_exprs.specs.Truth.{is_null}
use Rattle.logical_plan.specs.Items.{Cells, Item, rows}
use Rattle.logical_plan.specs.Joins.{cells_match, keys_match}
use Rattle.logical_plan.specs.Groups.{alike}
use Rattle.logical_plan.specs.Body.{Tables}
use Rattle.plan_task_laws.proofs.Branches.{map_length}
use Rattle.node_laws.specs.Nodes.{Stands}
use Rattle.phase_laws.specs.Phases.{AreApart}
use Rattle.join_laws.specs.Joining.{AreMatched}
use Rattle.plan_props.proofs.Sound.{distribution_sound}
use Rattle.answer_laws.specs.Parted.{part, Delivers}
use Rattle.answer_laws.proofs.Meaning.{both_true}
use Rattle.finished_laws.proofs.Told.{met_of}
use Rattle.finished_laws.specs.Sound.{is_met, is_sound, on_properties, IsAsDeclared}
use Rattle.finished_laws.proofs.Held.{each_at, part_rows}

-- ------------------------------------------------------------ equal keys

pub equal_value : (o : Ordering) → is_eq o ≡ true → o ≡ Equal
equal_value Less h = absurd (false≢true h)
equal_value Equal h = refl
equal_value Greater h = absurd (false≢true h)

alike_equal : (keys : List ℕ) (r s : Cells) → alike keys r s ≡ true → AllEqual (cells_at keys r) (cells_at keys s)
alike_equal [] r s h = tt
alike_equal (k ∷ ks) r s h =
    let b = both_true (same_value (cell r k) (cell s k)) (alike ks r s) h in
    (equal_value (value_cmp (cell r k) (cell s k)) b.0, alike_equal ks r s b.1)

match_equal : (keys : List (ℕ × ℕ)) (l r : Cells) → keys_match keys l r ≡ true → AllEqual (cells_at (left_keys keys) l) (cells_at (right_keys keys) r)
match_equal [] l r h = tt
match_equal (k ∷ ks) l r h =
    let b = both_true (cells_match (cell l k.0) (cell r k.1)) (keys_match ks l r) h in
    let c = both_true (not (is_null (cell l k.0)) && not (is_null (cell r k.1))) (same_value (cell l k.0) (cell r k.1)) b.0 in
    (equal_value (value_cmp (cell l k.0) (cell r k.1)) c.1, match_equal ks l r b.1)

-- ------------------------------------------------------------ rows apart and matched

none_alike : (keys : List ℕ) (r : Cells) (ss : List Cells) → ((s : Cells) → Holds ss s → alike keys r s ≡ true → ⊥) → list_any (alike keys r) ss ≡ false
none_alike keys r [] never = refl
none_alike keys r (s ∷ ss) never = by (alike keys r s) refl (none_alike keys r ss (λ t i. never t (inr i)))
  where
    by : (b : Bool) → alike keys r s ≡ b → list_any (alike keys r) ss ≡ false → (b || list_any (alike keys r) ss) ≡ false
    by true e i = absurd (never s (inl refl) e)
    by false e i = i

all_apart : (keys : List ℕ) (rs ss : List Cells) → ((r s : Cells) → Holds rs r → Holds ss s → alike keys r s ≡ true → ⊥) → list_all (λ r. not (list_any (alike keys r) ss)) rs ≡ true
all_apart keys [] ss never = refl
all_apart keys (r ∷ rs) ss never =
    ap (λ (b : Bool). not b && list_all (λ r. not (list_any (alike keys r) ss)) rs) (none_alike keys r ss (λ s i. never r s (inl refl) i))
    ∙ all_apart keys rs ss (λ t s i j. never t s (inr i) j)

each_here : (P : Cells → Type 0) (rs : List Cells) → ((r : Cells) → Holds rs r → P r) → Each P rs
each_here P [] h = tt
each_here P (r ∷ rs) h = (h r (inl refl), each_here P rs (λ s i. h s (inr i)))

-- ------------------------------------------------------------ needs

module _ (h : Hashing) (hash : meets.IsHash h) (tables : Tables) (n : ℕ) where
  pub delivered_by : (q : Plan) (d : Distribution) (xs : List (List Item)) → satisfies_distribution (props q) d ≡ true → Stands h (declared_of q) (map rows xs) → meets.Delivers h d (map rows xs)
  delivered_by q d xs e s = distribution_sound h hash (props q) d (map rows xs) e s.meets

  gather : (keys : List ℕ) (xs : List (List Item)) → meets.Delivers h (group_need keys n) (map rows xs) → AreApart keys (length xs) (part xs)
  gather [] xs d = sym (map_length rows xs) ∙ d
  gather (k ∷ ks) xs d = λ i j l m.
      AllPass-from_list_all (λ r. not (list_any (alike (k ∷ ks) r) (rows (part xs j)))) (rows (part xs i))
      (all_apart (k ∷ ks) (rows (part xs i)) (rows (part xs j)) (λ r s a b e. (
      let at = each_at (λ r. meets.Each (meets.Together (k ∷ ks) i j r) (meets.part (map rows xs) j)) (meets.part (map rows xs) i) (d.together i j) r (subst (λ rs. Holds rs r) (sym (part_rows xs i)) a) in
      let same : i ≡ j = each_at (meets.Together (k ∷ ks) i j r) (meets.part (map rows xs) j) at s (subst (λ rs. Holds rs s) (sym (part_rows xs j)) b) (alike_equal (k ∷ ks) r s e) in
      omega arith)))

  placed : (keys : List ℕ) (xs : List (List Item)) (i : ℕ) (r : Cells) → meets.Places h keys n (map rows xs) → Holds (rows (part xs i)) r → h (cells_at keys r) % n ≡ i
  placed keys xs i r p a = each_at (λ r. h (cells_at keys r) % n ≡ i) (meets.part (map rows xs) i) (p.place i) r (subst (λ rs. Holds rs r) (sym (part_rows xs i)) a)

  match : (keys : List (ℕ × ℕ)) (xs ys : List (List Item)) → meets.Places h (left_keys keys) n (map rows xs) → meets.Places h (right_keys keys) n (map rows ys)
      → (length xs ≡ length ys) × AreMatched keys (length xs) (part xs) (part ys)
  match keys xs ys p q = (
    sym (map_length rows xs) ∙ p.count ∙ sym q.count ∙ map_length rows ys,
    λ i j a b. each_here (λ l. Each (λ r. keys_match keys l r ≡ true → i ≡ j) (rows (part ys j))) (rows (part xs i)) (λ l c.
        each_here (λ r. keys_match keys l r ≡ true → i ≡ j) (rows (part ys j)) (λ r d e.
        sym (placed (left_keys keys) xs i l p c) ∙ ap (λ (m : ℕ). m % n) (hash.agrees (cells_at (left_keys keys) l) (cells_at (right_keys keys) r) (match_equal keys l r e)) ∙ placed (right_keys keys) ys j r q d)),
  )

  -- plans with the test everywhere declare enough for groups and joins
  pub delivers : Delivers (on_properties tables n) (IsAsDeclared h tables n)
  delivers = record {
    gathered = λ q keys calls xs e s. (
        let z = Plan-F.FinalGroup q keys calls in
        let b = both_true (is_met tables n z) (is_sound tables n q && true) e in
        gather keys xs (delivered_by q (group_need keys n) xs (met_of tables n z b.0).spread (s (both_true (is_sound tables n q) true b.1).0)));
    matched = λ kind p q keys rest xs ys e s t. (
        let z = Plan-F.HashJoin kind p q keys rest in
        let b = both_true (is_met tables n z) (is_sound tables n p && (is_sound tables n q && true)) e in
        let l = satisfies_distribution (props p) (need.JoinHash (left_keys keys) n) in
        let r = satisfies_distribution (props q) (need.JoinHash (right_keys keys) n) in
        let d = both_true l r (met_of tables n z b.0).spread in
        let u = both_true (is_sound tables n p) (is_sound tables n q && true) b.1 in
        match keys xs ys (delivered_by p (need.JoinHash (left_keys keys) n) xs d.0 (s u.0)) (delivered_by q (need.JoinHash (right_keys keys) n) ys d.1 (t (both_true (is_sound tables n q) true u.1).0)));
  }
