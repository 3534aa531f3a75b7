-- What nodes declare follows from what their inputs declare.
use Rattle.std.specs.Prelude.{◌%◌}
use Rattle.std.specs.List.{filter_map, cons_option}
use Rattle.std.proofs.Common.{ℕ, zero, suc, ◌≡◌, refl, sym, ap, ◌∙◌, subst, Option, Some, None, List, [], ◌∷◌, ◌++◌, map, length}
use Rattle.std.specs.declared.cmp.Ordering.{Ordering}
use Rattle.std.specs.declared.cmp.Ordering.TheVariants.{Less, Equal, Greater}
use Rattle.std.specs.Ordering.{ordering_then}
use Rattle.dfx_value.specs.declared.value.Value.{Value}
use Rattle.dfx_value.specs.declared.rows.SortKey.{SortKey}
use Rattle.dfx_value.specs.Rows.{cell, cell_cmp, row_cmp}
use Rattle.plan_props.specs.declared.properties.Partitioning.{Partitioning}
use Rattle.plan_props.specs.declared.properties.Partitioning.TheVariants as parting
use Rattle.plan_props.specs.declared.properties.Props.{Props}
use Rattle.plan_props.specs.Satisfies.{partition_count}
use Rattle.plan_props.specs.Meets.{Row, Hashing, Equals, PairsHold, Agree, cells_at, Each, NotBefore, InOrder, Hashed, part, Meets}
use Rattle.scalar_exprs.specs.Truth.{is_null}
use Rattle.physical_plan.specs.Properties.{Renaming, all_renamed, and_all, hashed_or_unknown, partitioning_renamed, key_before, keys_renamed, pair_before, pairs_renamed}
use Rattle.node_laws.specs.NodeRows.{by_row}

-- ---- partitions

pub part_map : (F : List Row → List Row) → F [] ≡ [] → (parts : List (List Row)) (j : ℕ) → part (map F parts) j ≡ F (part parts j)
part_map F e [] j = sym e
part_map F e (p ∷ ps) zero = refl
part_map F e (p ∷ ps) (suc j) = part_map F e ps j

pub length_map : (F : List Row → List Row) (parts : List (List Row)) → length (map F parts) ≡ length parts
length_map F [] = refl
length_map F (p ∷ ps) = ap suc (length_map F ps)

module _ (g : Row → Option Row) where
  each_got : {P Q : Row → Type 0} → ((r s : Row) → g r ≡ Some s → P r → Q s) → (rs : List Row) → Each P rs → Each Q (filter_map g rs)
  each_got f [] h = tt
  each_got {P} {Q} f (r ∷ rs) h = go (g r) refl (each_got f rs h.1)
    where
      go : (o : Option Row) → g r ≡ o → Each Q (filter_map g rs) → Each Q (cons_option o (filter_map g rs))
      go None e i = i
      go (Some s) e i = (f r s e h.0, i)

  order_got : (keys keys2 : List SortKey) → ((r s r2 s2 : Row) → g r ≡ Some s → g r2 ≡ Some s2 → NotBefore keys r r2 → NotBefore keys2 s s2) → (rs : List Row) → InOrder keys rs → InOrder keys2 (filter_map g rs)
  order_got keys keys2 f [] h = tt
  order_got keys keys2 f (r ∷ rs) h = go (g r) refl (order_got keys keys2 f rs h.1)
    where
      go : (o : Option Row) → g r ≡ o → InOrder keys2 (filter_map g rs) → InOrder keys2 (cons_option o (filter_map g rs))
      go None e i = i
      go (Some s) e i = (each_got {P = NotBefore keys r} {Q = NotBefore keys2 s} (λ r2 s2 q n. f r s r2 s2 e q n) rs h.0, i)

-- ---- renamed columns

-- the new row has the old one's values at the new places
abbrev pub Moves : Renaming → Row → Row → Type 0
Moves f r s = (c d : ℕ) → f c ≡ Some d → cell s d ≡ cell r c

module _ (f : Renaming) (r s : Row) (m : Moves f r s) where
  columns_moved : (cs ds : List ℕ) → all_renamed f cs ≡ Some ds → cells_at ds s ≡ cells_at cs r
  columns_moved [] ds e = let q : ds ≡ [] = cc in ap (λ (xs : List ℕ). cells_at xs s) q
  columns_moved (c ∷ cs) ds e = go (λ xs q. columns_moved cs xs q) (f c) refl (all_renamed f cs) refl e
    where
      go : ((xs : List ℕ) → all_renamed f cs ≡ Some xs → cells_at xs s ≡ cells_at cs r) → (o : Option ℕ) → f c ≡ o → (os : Option (List ℕ)) → all_renamed f cs ≡ os → and_all o os ≡ Some ds → cells_at ds s ≡ cell r c ∷ cells_at cs r
      go more None p os q e = cc
      go more (Some d) p None q e = cc
      go more (Some d) p (Some xs) q e =
          let same : ds ≡ d ∷ xs = cc in
          ap (λ (ys : List ℕ). cells_at ys s) same ∙ ap (λ (v : Value). v ∷ cells_at xs s) (m c d p) ∙ ap (λ (vs : List Value). cell r c ∷ vs) (more xs q)

  pub hashed_moved : (h : Hashing) (p : Partitioning) (j : ℕ) → Hashed h p j r → Hashed h (partitioning_renamed f p) j s
  hashed_moved h parting.Single j x = tt
  hashed_moved h (parting.RoundRobin n) j x = tt
  hashed_moved h (parting.Unknown n) j x = tt
  hashed_moved h (parting.Hash cs n) j x = go (all_renamed f cs) refl
    where
      go : (o : Option (List ℕ)) → all_renamed f cs ≡ o → Hashed h (hashed_or_unknown o n) j s
      go None e = tt
      go (Some ds) e = ap (λ (vs : List Value). h vs % n) (columns_moved cs ds e) ∙ x

  pub pairs_moved : (ps : List (ℕ × ℕ)) → PairsHold ps r → PairsHold (pairs_renamed f ps) s
  pairs_moved [] h = tt
  pairs_moved (p ∷ ps) h = go (pairs_moved ps h.1) (f p.0) refl (f p.1) refl
    where
      go : PairsHold (pairs_renamed f ps) s → (a : Option ℕ) → f p.0 ≡ a → (b : Option ℕ) → f p.1 ≡ b → PairsHold (pair_before a b (pairs_renamed f ps)) s
      go more None e b i = more
      go more (Some a) e None i = more
      go more (Some a) e (Some b) i =
          let x = m p.0 a e in
          let y = m p.1 b i in (
            (
              subst (λ (v : Value). Equals v (cell s b)) (sym x) (subst (λ (v : Value). Equals (cell r p.0) v) (sym y) h.0.0),
              ap is_null x ∙ h.0.1,
            ),
            more,
          )

module _ (f : Renaming) (r s r2 s2 : Row) (m : Moves f r s) (m2 : Moves f r2 s2) where
  pub agree_moved : (cs : List ℕ) → Agree cs r r2 → Agree (filter_map f cs) s s2
  agree_moved [] h = tt
  agree_moved (c ∷ cs) h = go (agree_moved cs h.1) (f c) refl
    where
      go : Agree (filter_map f cs) s s2 → (o : Option ℕ) → f c ≡ o → Agree (cons_option o (filter_map f cs)) s s2
      go more None e = more
      go more (Some d) e = (subst (λ (v : Value). Equals v (cell s2 d)) (sym (m c d e)) (subst (λ (v : Value). Equals (cell r c) v) (sym (m2 c d e)) h.0), more)

  order_moved : (keys : List SortKey) → NotBefore keys r r2 → NotBefore (keys_renamed f keys) s s2
  order_moved [] n e = cc
  order_moved (k ∷ ks) n e = go (λ q. order_moved ks q) (f k.column) refl e
    where
      lower : (o : Ordering) → (NotBefore ks r r2 → NotBefore (keys_renamed f ks) s s2) → (ordering_then o (row_cmp ks r r2) ≡ Greater → ⊥) → ordering_then o (row_cmp (keys_renamed f ks) s s2) ≡ Greater → ⊥
      lower Less g n e = cc
      lower Equal g n e = g n e
      lower Greater g n e = n refl

      go : (NotBefore ks r r2 → NotBefore (keys_renamed f ks) s s2) → (o : Option ℕ) → f k.column ≡ o → row_cmp (key_before k o (keys_renamed f ks)) s s2 ≡ Greater → ⊥
      go more None p e = cc
      go more (Some d) p e =
          lower (cell_cmp k (cell r k.column) (cell r2 k.column)) more n
          (ap (λ (v : Value). ordering_then (cell_cmp k v (cell r2 k.column)) (row_cmp (keys_renamed f ks) s s2)) (sym (m k.column d p))
          ∙ ap (λ (v : Value). ordering_then (cell_cmp k (cell s d) v) (row_cmp (keys_renamed f ks) s s2)) (sym (m2 k.column d p)) ∙ e)

-- ---- nodes that go row by row

pub record Carries (h : Hashing) (g : Row → Option Row) (p p2 : Props) : Type 0 where
  pub count : partition_count p2.partitioning ≡ partition_count p.partitioning
  pub hashed : (r s : Row) (j : ℕ) → g r ≡ Some s → Hashed h p.partitioning j r → Hashed h p2.partitioning j s
  pub ordered : (r s r2 s2 : Row) → g r ≡ Some s → g r2 ≡ Some s2 → NotBefore p.ordering r r2 → NotBefore p2.ordering s s2
  pub same : (r s : Row) → g r ≡ Some s → PairsHold p.same r → PairsHold p2.same s
  pub constant : (r s r2 s2 : Row) → g r ≡ Some s → g r2 ≡ Some s2 → Agree p.constants r r2 → Agree p2.constants s s2

pub meets_by_row : (h : Hashing) (g : Row → Option Row) (p p2 : Props) (parts : List (List Row)) → Carries h g p p2 → Meets h p parts → Meets h p2 (by_row g parts)
meets_by_row h g p p2 parts c m = record {
  count = length_map (filter_map g) parts ∙ m.count ∙ sym c.count;
  hashed = λ j. subst (Each (Hashed h p2.partitioning j)) (sym (part_map (filter_map g) refl parts j)) (each_got g {P = Hashed h p.partitioning j} {Q = Hashed h p2.partitioning j} (λ r s e x. c.hashed r s j e x) (part parts j) (m.hashed j));
  ordered = λ j. subst (InOrder p2.ordering) (sym (part_map (filter_map g) refl parts j)) (order_got g p.ordering p2.ordering c.ordered (part parts j) (m.ordered j));
  same = λ j. subst (Each (PairsHold p2.same)) (sym (part_map (filter_map g) refl parts j)) (each_got g {P = PairsHold p.same} {Q = PairsHold p2.same} c.same (part parts j) (m.same j));
  constant = λ i j.
      subst (λ (ss : List Row). Each (λ s. Each (Agree p2.constants s) (part (by_row g parts) j)) ss) (sym (part_map (filter_map g) refl parts i))
      (each_got g {P = λ r. Each (Agree p.constants r) (part parts j)} {Q = λ s. Each (Agree p2.constants s) (part (by_row g parts) j)}
      (λ r s e x. subst (λ (ss : List Row). Each (Agree p2.constants s) ss) (sym (part_map (filter_map g) refl parts j)) (each_got g {P = Agree p.constants r} {Q = Agree p2.constants s} (λ r2 s2 e2 y. c.constant r s r2 s2 e e2 y) (part parts j) x))
      (part parts i) (m.constant i j));
}

pub parts_renamed : (f : Renaming) (p : Partitioning) → partition_count (partitioning_renamed f p) ≡ partition_count p
parts_renamed f parting.Single = refl
parts_renamed f (parting.RoundRobin n) = refl
parts_renamed f (parting.Unknown n) = refl
parts_renamed f (parting.Hash cs n) = go (all_renamed f cs)
  where
    go : (o : Option (List ℕ)) → partition_count (hashed_or_unknown o n) ≡ n
    go None = refl
    go (Some ds) = refl

pub agree-append : (cs ds : List ℕ) (r s : Row) → Agree cs r s → Agree ds r s → Agree (cs ++ ds) r s
agree-append [] ds r s h i = i
agree-append (c ∷ cs) ds r s h i = (h.0, agree-append cs ds r s h.1 i)

pub pairs-append : (ps qs : List (ℕ × ℕ)) (r : Row) → PairsHold ps r → PairsHold qs r → PairsHold (ps ++ qs) r
pairs-append [] qs r h i = i
pairs-append (p ∷ ps) qs r h i = (h.0, pairs-append ps qs r h.1 i)

-- columns renamed, and further constant columns
pub renamed_carries : (h : Hashing) (g : Row → Option Row) (f : Renaming) (p : Props) (more : List ℕ) → ((r s : Row) → g r ≡ Some s → Moves f r s) → ((r s r2 s2 : Row) → g r ≡ Some s → g r2 ≡ Some s2 → Agree more s s2) →
    Carries h g p (record { partitioning = partitioning_renamed f p.partitioning; ordering = keys_renamed f p.ordering; same = pairs_renamed f p.same; constants = filter_map f p.constants ++ more })
renamed_carries h g f p more m a = record {
  count = parts_renamed f p.partitioning;
  hashed = λ r s j e x. hashed_moved f r s (m r s e) h p.partitioning j x;
  ordered = λ r s r2 s2 e e2 n. order_moved f r s r2 s2 (m r s e) (m r2 s2 e2) p.ordering n;
  same = λ r s e x. pairs_moved f r s (m r s e) p.same x;
  constant = λ r s r2 s2 e e2 x. agree-append (filter_map f p.constants) more s s2 (agree_moved f r s r2 s2 (m r s e) (m r2 s2 e2) p.constants x) (a r s r2 s2 e e2);
}
