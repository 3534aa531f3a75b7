-- Interleavings: what holds of all rows of the partitions holds of the list.
use Rattle.std.proofs.Common.{ℕ, zero, suc, ◌≡◌, inl, inr, refl, subst, false, List, [], ◌∷◌}
use Rattle.std.specs.Prelude.{slice_set}
use Rattle.std.specs.declared.cmp.Ordering.{Ordering}
use Rattle.std.specs.declared.cmp.Ordering.TheVariants.{Less, Equal, Greater}
use Rattle.std.specs.Ordering.{is_gt}
use Rattle.std.proofs.lemmas.Cmp.{upto}
use Rattle.dfx_value.specs.declared.rows.SortKey.{SortKey}
use Rattle.dfx_value.specs.Rows.{row_cmp}
use Rattle.dfx_value.proofs.RowLemmas.{row_cmp_total}
use Rattle.plan_props.specs.Meets.{Row, Hashing, Each, NotBefore, InOrder, AllInOrder, PairsHold, Agree, EachTwo, Meets, part}
use Rattle.plan_props.proofs.Sound.{each_map, each_all}
use Rattle.physical_plan.specs.declared.properties.Declared.{Declared}
use Rattle.physical_plan.specs.Properties.{merged}
use Rattle.node_laws.specs.NodeRows.{Holds, HoldsIn}
use Rattle.node_laws.specs.Weaves.{Interleaves, NotBeforeFirst, Merges}

pub each_has : (P : Row → Type 0) (rs : List Row) (r : Row) → Each P rs → Holds rs r → P r
each_has P [] r e h = absurd h
each_has P (x ∷ rs) r e (inl w) = subst P w e.0
each_has P (x ∷ rs) r e (inr w) = each_has P rs r e.1 w

-- ---- one partition without its first row

taken : (Q : List Row → Type 0) (parts : List (List Row)) (i j : ℕ) (r : Row) (rest : List Row) → part parts i ≡ r ∷ rest → (Q (r ∷ rest) → Q rest) → Q (part parts j) → Q (part (slice_set parts i rest) j)
taken Q [] i j r rest e f q = cc
taken Q (p ∷ ps) zero zero r rest e f q = f (subst Q e q)
taken Q (p ∷ ps) zero (suc j) r rest e f q = q
taken Q (p ∷ ps) (suc i) zero r rest e f q = q
taken Q (p ∷ ps) (suc i) (suc j) r rest e f q = taken Q ps i j r rest e f q

-- ---- facts of rows

pub woven_each : (P : Row → Type 0) (parts : List (List Row)) (out : List Row) → Interleaves parts out → ((j : ℕ) → Each P (part parts j)) → Each P out
woven_each P parts [] w f = tt
woven_each P parts (r ∷ rs) w f = (
  (subst (Each P) w.2 (f w.0)).0,
  woven_each P (slice_set parts w.0 w.1) rs w.3 (λ j. taken (Each P) parts w.0 j r w.1 w.2 (λ q. q.1) (f j)),
)

-- ---- orders

not_greater : (o : Ordering) → (o ≡ Greater → ⊥) → is_gt o ≡ false
not_greater Less n = refl
not_greater Equal n = refl
not_greater Greater n = absurd (n refl)

greater_not : (o : Ordering) → is_gt o ≡ false → o ≡ Greater → ⊥
greater_not Less e g = cc
greater_not Equal e g = cc
greater_not Greater e g = cc

pub not_before_on : (keys : List SortKey) (r s t : Row) → NotBefore keys r s → NotBefore keys s t → NotBefore keys r t
not_before_on keys r s t n m = greater_not (row_cmp keys r t) (upto (row_cmp_total keys) r s t (not_greater (row_cmp keys r s) n) (not_greater (row_cmp keys s t) m))

-- before none of a sorted list, where it isn't after the first
least_of : (keys : List SortKey) (r : Row) (rows : List Row) → NotBeforeFirst keys r rows → InOrder keys rows → Each (NotBefore keys r) rows
least_of keys r [] n o = tt
least_of keys r (s ∷ ss) n o = (n, each_map {P = NotBefore keys s} {Q = NotBefore keys r} ss (λ t m. not_before_on keys r s t n m) o.0)

pub merges_interleave : (keys : List SortKey) (parts : List (List Row)) (out : List Row) → Merges keys parts out → Interleaves parts out
merges_interleave keys parts [] w = w
merges_interleave keys parts (r ∷ rs) w = (w.0, w.1, w.2, merges_interleave keys (slice_set parts w.0 w.1) rs w.4)

pub merges_in_order : (keys : List SortKey) (parts : List (List Row)) (out : List Row) → AllInOrder keys parts → Merges keys parts out → InOrder keys out
merges_in_order keys parts [] o w = tt
merges_in_order keys parts (r ∷ rs) o w = (
  woven_each (NotBefore keys r) (slice_set parts w.0 w.1) rs (merges_interleave keys (slice_set parts w.0 w.1) rs w.4)
      (λ j. taken (Each (NotBefore keys r)) parts w.0 j r w.1 w.2 (λ q. q.1) (least_of keys r (part parts j) (w.3 j) (o j))),
  merges_in_order keys (slice_set parts w.0 w.1) rs (λ j. taken (InOrder keys) parts w.0 j r w.1 w.2 (λ q. q.1) (o j)) w.4,
)

-- ---- rows that all come from the inputs

pub own_rows : (rows : List Row) → Each (Holds rows) rows
own_rows [] = tt
own_rows (r ∷ rs) = (inl refl, each_map {P = Holds rs} {Q = Holds (r ∷ rs)} rs (λ x h. inr h) (own_rows rs))

pub rows_in : (parts : List (List Row)) (j : ℕ) → Each (HoldsIn parts) (part parts j)
rows_in parts j = each_map {P = Holds (part parts j)} {Q = HoldsIn parts} (part parts j) (λ x h. (j, h)) (own_rows (part parts j))

module _ (h : Hashing) (d : Declared) (ins outs : List (List Row)) (m : Meets h d.props ins) (from : (j : ℕ) → Each (HoldsIn ins) (part outs j)) where
  pub same_from : (j : ℕ) → Each (PairsHold d.props.same) (part outs j)
  same_from j = each_map {P = HoldsIn ins} {Q = PairsHold d.props.same} (part outs j) (λ r x. each_has (PairsHold d.props.same) (part ins x.0) r (m.same x.0) x.1) (from j)

  pub constant_from : EachTwo (Agree d.props.constants) outs
  constant_from i j = each_map {P = HoldsIn ins} {Q = λ r. Each (Agree d.props.constants r) (part outs j)} (part outs i)
      (λ r x. each_map {P = HoldsIn ins} {Q = Agree d.props.constants r} (part outs j)
      (λ s y. each_has (Agree d.props.constants r) (part ins y.0) s (each_has (λ r. Each (Agree d.props.constants r) (part ins y.0)) (part ins x.0) r (m.constant x.0 y.0) x.1) y.1) (from j))
      (from i)

-- ---- Merge

of_one : (Q : List Row → Type 0) (out : List Row) (j : ℕ) → Q out → Q [] → Q (part (out ∷ []) j)
of_one Q out zero q e = q
of_one Q out (suc j) q e = e

pub gathered_meets : (h : Hashing) (keys : List SortKey) (d : Declared) (ins : List (List Row)) (out : List Row) → Each (HoldsIn ins) out → InOrder keys out → Meets h d.props ins → Meets h (merged keys d).props (out ∷ [])
gathered_meets h keys d ins out w o m = record {
  count = refl;
  hashed = λ j. each_all (part (out ∷ []) j) (λ r. tt);
  ordered = λ j. of_one (InOrder keys) out j o tt;
  same = same_from h d ins (out ∷ []) m from;
  constant = constant_from h d ins (out ∷ []) m from;
}
  where
    from : (j : ℕ) → Each (HoldsIn ins) (part (out ∷ []) j)
    from j = of_one (Each (HoldsIn ins)) out j w tt

pub merge_meets : (h : Hashing) (keys : List SortKey) (d : Declared) (ins : List (List Row)) (out : List Row) → AllInOrder keys ins → Merges keys ins out → Meets h d.props ins → Meets h (merged keys d).props (out ∷ [])
merge_meets h keys d ins out o w m = gathered_meets h keys d ins out (woven_each (HoldsIn ins) ins out (merges_interleave keys ins out w) (rows_in ins)) (merges_in_order keys ins out o w) m
