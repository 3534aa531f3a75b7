-- The tests are sound.
use Rattle.std.specs.Prelude.{◌%◌}
use Rattle.std.proofs.Common.{ℕ, zero, suc, ◌<◌, ◌≡◌, ◌⊎◌, inl, inr, refl, sym, ap, ◌∙◌, Bool, true, false, ◌&&◌, ◌||◌, List, [], ◌∷◌, ◌++◌, length, subst, cond, eqb, arith}
use Rattle.std.proofs.lemmas.Bool.{eqb-true, false≢true}
use Rattle.std.specs.declared.cmp.Ordering.{Ordering}
use Rattle.std.specs.declared.cmp.Ordering.TheVariants.{Less, Equal, Greater}
use Rattle.std.specs.Ordering.{ordering_then}
use Rattle.dfx_value.specs.declared.rows.SortKey.{SortKey}
use Rattle.dfx_value.specs.Rows.{cell, cell_cmp, row_cmp}
use Rattle.plan_props.specs.declared.properties.Partitioning.{Partitioning}
use Rattle.plan_props.specs.declared.properties.Partitioning.TheVariants as parting
use Rattle.plan_props.specs.declared.properties.Distribution.{Distribution}
use Rattle.plan_props.specs.declared.properties.Distribution.TheVariants as need
use Rattle.plan_props.specs.declared.properties.Props.{Props}
use Rattle.plan_props.specs.Same.{is_same, is_same_as_some, are_each_some, are_same_in_place}
use Rattle.plan_props.specs.Satisfies.{partition_count, hashed_by_some, hashed_by_each, satisfies_distribution, equal_truths, has, is_fixed, struck, same_key, is_front, satisfies_order}
use Rattle.plan_props.specs.Meets.{Row, Hashing, IsHash, Equals, AllEqual, PairsHold, Agree, cells_at, Each, NotBefore, InOrder, Hashed, part, Meets, Together, Gathers, Places, Delivers, AllInOrder}
use Rattle.plan_props.proofs.Cells.{same_back, same_on, cell_equal, equal_cell, cell_alike, keys_alike}
use Rattle.plan_props.proofs.Sames.{same_cells}

-- ---- truths and rows

pub and_parts : (a b : Bool) → a && b ≡ true → (a ≡ true) × (b ≡ true)
and_parts true b h = (refl, h)
and_parts false b h = absurd (false≢true h)

pub or_parts : (a b : Bool) → a || b ≡ true → (a ≡ true) ⊎ (b ≡ true)
or_parts true b h = inl refl
or_parts false b h = inr h

pub both_same : (a b : Bool) → equal_truths a b ≡ true → a ≡ b
both_same true b h = sym h
both_same false true h = absurd (false≢true h)
both_same false false h = refl

pub each_map : {P Q : Row → Type 0} (rs : List Row) → ((r : Row) → P r → Q r) → Each P rs → Each Q rs
each_map [] f h = tt
each_map (r ∷ rs) f h = (f r h.0, each_map rs f h.1)

pub each_both : {P Q R : Row → Type 0} (rs : List Row) → ((r : Row) → P r → Q r → R r) → Each P rs → Each Q rs → Each R rs
each_both [] f h i = tt
each_both (r ∷ rs) f h i = (f r h.0 i.0, each_both rs f h.1 i.1)

pub each_all : {P : Row → Type 0} (rs : List Row) → ((r : Row) → P r) → Each P rs
each_all [] f = tt
each_all (r ∷ rs) f = (f r, each_all rs f)

-- a partition that isn't there has no rows
pub each_within : {P : Row → Type 0} (parts : List (List Row)) (j : ℕ) → (j < length parts → (r : Row) → P r) → Each P (part parts j)
each_within [] j f = tt
each_within (rs ∷ ps) zero f = each_all rs (λ r. f (omega arith) r)
each_within (rs ∷ ps) (suc j) f = each_within ps j (λ l r. f (omega arith) r)

pub each_held : {P Q : Row → Type 0} (parts : List (List Row)) (j : ℕ) → (j < length parts → (r : Row) → P r → Q r) → Each P (part parts j) → Each Q (part parts j)
each_held [] j f h = tt
each_held (rs ∷ ps) zero f h = each_map rs (λ r a. f (omega arith) r a) h
each_held (rs ∷ ps) (suc j) f h = each_held ps j (λ l r a. f (omega arith) r a) h

-- ---- distribution

some_cells : (ps : List (ℕ × ℕ)) (keys : List ℕ) (c : ℕ) (r s : Row) → is_same_as_some ps keys c ≡ true → PairsHold ps r → PairsHold ps s → AllEqual (cells_at keys r) (cells_at keys s) → Equals (cell r c) (cell s c)
some_cells ps [] c r s e h i a = absurd (false≢true e)
some_cells ps (k ∷ keys) c r s e h i a = elim (or_parts (is_same ps k c) (is_same_as_some ps keys c) e) [
  | inl w ↦ same_on (cell r c) (cell r k) (cell s c) (same_back (cell r k) (cell r c) (same_cells r ps k c h w)) (same_on (cell r k) (cell s k) (cell s c) a.0 (same_cells s ps k c i w))
  | inr w ↦ some_cells ps keys c r s w h i a.1
]

each_cells : (ps : List (ℕ × ℕ)) (keys cs : List ℕ) (r s : Row) → are_each_some ps keys cs ≡ true → PairsHold ps r → PairsHold ps s → AllEqual (cells_at keys r) (cells_at keys s) → AllEqual (cells_at cs r) (cells_at cs s)
each_cells ps keys [] r s e h i a = tt
each_cells ps keys (c ∷ cs) r s e h i a =
    let b = and_parts (is_same_as_some ps keys c) (are_each_some ps keys cs) e in
    (some_cells ps keys c r s b.0 h i a, each_cells ps keys cs r s b.1 h i a)

placed_cells : (ps : List (ℕ × ℕ)) (keys cs : List ℕ) (r : Row) → are_same_in_place ps keys cs ≡ true → PairsHold ps r → AllEqual (cells_at keys r) (cells_at cs r)
placed_cells ps [] [] r e h = tt
placed_cells ps (k ∷ keys) (c ∷ cs) r e h =
    let b = and_parts (is_same ps k c) (are_same_in_place ps keys cs) e in
    (same_cells r ps k c h b.0, placed_cells ps keys cs r b.1 h)
placed_cells ps [] (c ∷ cs) r e h = absurd (false≢true e)
placed_cells ps (k ∷ keys) [] r e h = absurd (false≢true e)

module _ (h : Hashing) (hash : IsHash h) where
  together : (same : List (ℕ × ℕ)) (keys : List ℕ) (n : ℕ) (p : Partitioning) (i j : ℕ) (r s : Row) → i < n → j < n → partition_count p ≡ n → hashed_by_some same keys p ≡ true → PairsHold same r → PairsHold same s → Hashed h p i r → Hashed h p j s → Together keys i j r s
  together same keys n parting.Single i j r s l m c e a b x y t = omega arith
  together same keys n (parting.Hash cs k) i j r s l m c e a b x y t =
      let q = hash.agrees (cells_at cs r) (cells_at cs s) (each_cells same keys cs r s e a b t) in
      sym x ∙ ap (λ (z : ℕ). z % k) q ∙ y
  together same keys n (parting.RoundRobin k) i j r s l m c e a b x y t = absurd (false≢true e)
  together same keys n (parting.Unknown k) i j r s l m c e a b x y t = absurd (false≢true e)

  placed : (same : List (ℕ × ℕ)) (keys : List ℕ) (n : ℕ) (p : Partitioning) (j : ℕ) (r : Row) → j < n → partition_count p ≡ n → hashed_by_each same keys p ≡ true → PairsHold same r → Hashed h p j r → h (cells_at keys r) % n ≡ j
  placed same keys n parting.Single j r l c e a x = rw (← c) (omega arith)
  placed same keys n (parting.Hash cs k) j r l c e a x =
      let q = hash.agrees (cells_at keys r) (cells_at cs r) (placed_cells same keys cs r e a) in
      ap (λ (m : ℕ). h (cells_at keys r) % m) (sym c) ∙ ap (λ (z : ℕ). z % k) q ∙ x
  placed same keys n (parting.RoundRobin k) j r l c e a x = absurd (false≢true e)
  placed same keys n (parting.Unknown k) j r l c e a x = absurd (false≢true e)

  abbrev Known : Props → ℕ → Row → Type 0
  Known p j r = PairsHold p.same r × Hashed h p.partitioning j r

  known : (p : Props) (parts : List (List Row)) (j : ℕ) → Meets h p parts → Each (Known p j) (part parts j)
  known p parts j m = each_both {P = PairsHold p.same} {Q = Hashed h p.partitioning j} {R = Known p j} (part parts j) (λ s b y. (b, y)) (m.same j) (m.hashed j)

  gathers : (p : Props) (keys : List ℕ) (n : ℕ) (parts : List (List Row)) → partition_count p.partitioning ≡ n → hashed_by_some p.same keys p.partitioning ≡ true → Meets h p parts → Gathers keys n parts
  gathers p keys n parts c e m = record {
    count = m.count ∙ c;
    together = λ i j. each_held {P = Known p i} {Q = λ r. Each (Together keys i j r) (part parts j)} parts i
        (λ l r a. each_held {P = Known p j} {Q = Together keys i j r} parts j
        (λ k s b. together p.same keys n p.partitioning i j r s (let q = m.count in omega arith) (let q = m.count in omega arith) c e a.0 b.0 a.1 b.1)
        (known p parts j m))
        (known p parts i m);
  }

  places : (p : Props) (keys : List ℕ) (n : ℕ) (parts : List (List Row)) → partition_count p.partitioning ≡ n → hashed_by_each p.same keys p.partitioning ≡ true → Meets h p parts → Places h keys n parts
  places p keys n parts c e m = record {
    count = m.count ∙ c;
    place = λ j. each_held {P = Known p j} {Q = λ r. h (cells_at keys r) % n ≡ j} parts j
        (λ l r a. placed p.same keys n p.partitioning j r (let q = m.count in omega arith) c e a.0 a.1)
        (known p parts j m);
  }

  pub distribution_sound : (p : Props) (d : Distribution) (parts : List (List Row)) → satisfies_distribution p d ≡ true → Meets h p parts → Delivers h d parts
  unfolding satisfies_distribution
  distribution_sound p need.Unspecified parts e m = tt
  distribution_sound p need.Single parts e m = m.count ∙ eqb-true (partition_count p.partitioning) 1 e
  distribution_sound p (need.Hash keys n) parts e m =
      let b = and_parts (eqb (partition_count p.partitioning) n) (hashed_by_some p.same keys p.partitioning) e in
      gathers p keys n parts (eqb-true (partition_count p.partitioning) n b.0) b.1 m
  distribution_sound p (need.JoinHash keys n) parts e m =
      let b = and_parts (eqb (partition_count p.partitioning) n) (hashed_by_each p.same keys p.partitioning) e in
      places p keys n parts (eqb-true (partition_count p.partitioning) n b.0) b.1 m

-- ---- order

has_agrees : (cs : List ℕ) (c : ℕ) (r s : Row) → has cs c ≡ true → Agree cs r s → Equals (cell r c) (cell s c)
has_agrees [] c r s e a = absurd (false≢true e)
has_agrees (x ∷ cs) c r s e a = elim (or_parts (eqb x c) (has cs c) e) [
  | inl w ↦ subst (λ (m : ℕ). Equals (cell r m) (cell s m)) (eqb-true x c w) a.0
  | inr w ↦ has_agrees cs c r s w a.1
]

seen_agrees : (ps : List (ℕ × ℕ)) (seen : List ℕ) (c : ℕ) (r s : Row) → is_same_as_some ps seen c ≡ true → PairsHold ps r → PairsHold ps s → Agree seen r s → Equals (cell r c) (cell s c)
seen_agrees ps [] c r s e h i a = absurd (false≢true e)
seen_agrees ps (k ∷ seen) c r s e h i a = elim (or_parts (is_same ps k c) (is_same_as_some ps seen c) e) [
  | inl w ↦ same_on (cell r c) (cell r k) (cell s c) (same_back (cell r k) (cell r c) (same_cells r ps k c h w)) (same_on (cell r k) (cell s k) (cell s c) a.0 (same_cells s ps k c i w))
  | inr w ↦ seen_agrees ps seen c r s w h i a.1
]

agree-more : (seen : List ℕ) (c : ℕ) (r s : Row) → Agree seen r s → Equals (cell r c) (cell s c) → Agree (seen ++ c ∷ []) r s
agree-more [] c r s a q = (q, tt)
agree-more (x ∷ seen) c r s a q = (a.0, agree-more seen c r s a.1 q)

module _ (p : Props) (r s : Row) (pr : PairsHold p.same r) (ps : PairsHold p.same s) (agree : Agree p.constants r s) where
  fixed_agrees : (seen : List ℕ) (c : ℕ) → is_fixed p seen c ≡ true → Agree seen r s → Equals (cell r c) (cell s c)
  fixed_agrees seen c e a = elim (or_parts (has p.constants c) (is_same_as_some p.same seen c) e) [
    | inl w ↦ has_agrees p.constants c r s w agree
    | inr w ↦ seen_agrees p.same seen c r s w pr ps a
  ]

  -- what is struck decides nothing
  strike : (seen : List ℕ) (keys : List SortKey) → Agree seen r s → row_cmp (struck p seen keys) r s ≡ row_cmp keys r s
  strike seen [] a = refl
  strike seen (k ∷ keys) a = go (is_fixed p seen k.column) refl (cell_cmp k (cell r k.column) (cell s k.column)) refl (λ q. strike (seen ++ k.column ∷ []) keys (agree-more seen k.column r s a q))
    where
      go : (b : Bool) → is_fixed p seen k.column ≡ b → (o : Ordering) → cell_cmp k (cell r k.column) (cell s k.column) ≡ o → (Equals (cell r k.column) (cell s k.column) → row_cmp (struck p (seen ++ k.column ∷ []) keys) r s ≡ row_cmp keys r s) → row_cmp (cond b (struck p (seen ++ k.column ∷ []) keys) (k ∷ struck p (seen ++ k.column ∷ []) keys)) r s ≡ ordering_then (cell_cmp k (cell r k.column) (cell s k.column)) (row_cmp keys r s)
      go true e o q f =
          let same = fixed_agrees seen k.column e a in
          f same ∙ sym (ap (λ (x : Ordering). ordering_then x (row_cmp keys r s)) (cell_equal k (cell r k.column) (cell s k.column) same))
      go false e Less q f = rw q refl
      go false e Equal q f = rw q (f (equal_cell k (cell r k.column) (cell s k.column) q))
      go false e Greater q f = rw q refl

  key_same : (a b : SortKey) → same_key p a b ≡ true → cell_cmp a (cell r a.column) (cell s a.column) ≡ cell_cmp b (cell r b.column) (cell s b.column)
  key_same a b e =
      let x = and_parts (is_same p.same a.column b.column && equal_truths a.descending b.descending) (equal_truths a.nulls_first b.nulls_first) e in
      let y = and_parts (is_same p.same a.column b.column) (equal_truths a.descending b.descending) x.0 in
      cell_alike a (cell r a.column) (cell s a.column) (cell r b.column) (cell s b.column) (same_cells r p.same a.column b.column pr y.0) (same_cells s p.same a.column b.column ps y.0)
      ∙ keys_alike a b (cell r b.column) (cell s b.column) (both_same a.descending b.descending y.1) (both_same a.nulls_first b.nulls_first x.1)

  prefix : (xs ys : List SortKey) → is_front p xs ys ≡ true → NotBefore ys r s → NotBefore xs r s
  prefix [] ys e n q = cc
  prefix (x ∷ xs) [] e n q = absurd (false≢true e)
  prefix (x ∷ xs) (y ∷ ys) e n q =
      let b = and_parts (same_key p x y) (is_front p xs ys) e in
      go (cell_cmp y (cell r y.column) (cell s y.column)) (λ m z. prefix xs ys b.1 m z) n (ap (λ (o : Ordering). ordering_then o (row_cmp xs r s)) (sym (key_same x y b.0)) ∙ q)
    where
      go : (o : Ordering) → (NotBefore ys r s → NotBefore xs r s) → (ordering_then o (row_cmp ys r s) ≡ Greater → ⊥) → ordering_then o (row_cmp xs r s) ≡ Greater → ⊥
      go Less f n q = cc
      go Equal f n q = f n q
      go Greater f n q = n refl

  pub keys_sound : (keys : List SortKey) → satisfies_order p keys ≡ true → NotBefore p.ordering r s → NotBefore keys r s
  unfolding satisfies_order
  keys_sound keys e n q = prefix (struck p [] keys) (struck p [] p.ordering) e (λ z. n (sym (strike [] p.ordering tt) ∙ z)) (strike [] keys tt ∙ q)

pub order_sound : (h : Hashing) (p : Props) (keys : List SortKey) (parts : List (List Row)) → satisfies_order p keys ≡ true → Meets h p parts → AllInOrder keys parts
order_sound h p keys parts e m j = go (part parts j) (m.ordered j) (m.same j) (m.constant j j)
  where
    go : (rs : List Row) → InOrder p.ordering rs → Each (PairsHold p.same) rs → Each (λ r. Each (Agree p.constants r) rs) rs → InOrder keys rs
    go [] o a c = tt
    go (r ∷ rs) o a c = (
      each_both {P = λ s. PairsHold p.same s × Agree p.constants r s} {Q = NotBefore p.ordering r} {R = NotBefore keys r} rs
          (λ s x n. keys_sound p r s a.0 x.0 x.1 keys e n)
          (each_both {P = PairsHold p.same} {Q = Agree p.constants r} {R = λ s. PairsHold p.same s × Agree p.constants r s} rs (λ s x y. (x, y)) a.1 c.0.1)
          o.0,
      go rs o.1 a.1 (each_map {P = λ t. Each (Agree p.constants t) (r ∷ rs)} {Q = λ t. Each (Agree p.constants t) rs} rs (λ t x. x.1) c.1),
    )
