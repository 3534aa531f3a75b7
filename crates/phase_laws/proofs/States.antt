-- States of aggregates: joined, they are those of all values, whatever the order.
use Rattle.std.proofs.Common.{ℕ, suc, ◌+◌, ◌^◌, ◌<◌, ◌≤◌, ◌≡◌, refl, sym, ap, ◌∙◌, subst, cond, ltb, List, [], ◌∷◌, ◌++◌, length, drop, ◌-◌, Bool, true, false, not, ◌||◌, arith, pos, Option, Ok, Err}
use Rattle.dfx_value.specs.Decimal.{at_scale, mean}
use Rattle.scalar_exprs.specs.Functions.{decimal}
use Rattle.scalar_exprs.specs.Kinds.{scale_of, mean_scale}
use Rattle.std.specs.declared.cmp.Ordering.{Ordering}
use Rattle.std.specs.declared.cmp.Ordering.TheVariants.{Less, Equal, Greater}
use Rattle.std.specs.Ordering.{is_gt, is_lt, flip_args, ordering_reverse}
use Rattle.std.specs.Cmp.{IsTotalOrder}
use Rattle.std.proofs.lemmas.Cmp.{upto, back_total}
use Rattle.std.proofs.lemmas.Bool.{true≢false, ltb-true, ltb-false, lt-ltb}
use Rattle.std.proofs.lemmas.List.Sums.{sum_by-append}
use Rattle.dfx_value.specs.Order.{value_cmp}
use Rattle.dfx_value.specs.declared.kind.Kind.{Kind}
use Rattle.dfx_value.specs.declared.fault.EvalFault.TheVariants.{Overflow}
use Rattle.dfx_value.specs.declared.value.Value.{Value}
use Rattle.dfx_value.specs.declared.value.Value.TheVariants as value
use Rattle.dfx_value.specs.declared.op.AggCall.{AggCall}
use Rattle.dfx_value.specs.declared.op.AggCall.TheVariants as call
use Rattle.dfx_value.proofs.OrderLemmas.{value_cmp_total}
use Rattle.scalar_exprs.specs.Truth.{is_null}
use Rattle.scalar_exprs.specs.Agg.{agg, counted, summed, averaged, is_over, total, from_first, present, gains, losses, above, below, unscaled, lesser, greater, least, greatest}
use Rattle.phase_laws.proofs.Bags.{Each}
use Rattle.phase_laws.specs.States.{Totals, State, too_many, capped, past, within, added, better, best, counting, summing, state_of, chosen, merged, cells_of, read, finished, count_answer, sum_answer, mean_answer}
use Rattle.physical_plan.specs.Properties.{state_width}
use Rattle.phase_laws.specs.States.State.{Sums, Best}

-- ---- totals

grown : (n p m a b c : ℕ) → too_many n p m ≡ true → too_many (n + a) (p + b) (m + c) ≡ true
grown n p m a b c h = by (ltb n (2 ^ 63)) (ltb p (10 ^ 38)) (ltb m (10 ^ 38)) (ltb (n + a) (2 ^ 63)) (ltb (p + b) (10 ^ 38)) (ltb (m + c) (10 ^ 38)) refl refl refl refl refl refl h
  where
    by : (x y z i j k : Bool) → ltb n (2 ^ 63) ≡ x → ltb p (10 ^ 38) ≡ y → ltb m (10 ^ 38) ≡ z → ltb (n + a) (2 ^ 63) ≡ i → ltb (p + b) (10 ^ 38) ≡ j → ltb (m + c) (10 ^ 38) ≡ k
        → (not x || not y || not z) ≡ true → (not i || not j || not k) ≡ true
    by x y z false j k e f g h i l t = refl
    by x y z true false k e f g h i l t = refl
    by x y z true true false e f g h i l t = refl
    by false y z true true true e f g h i l t = absurd (let u : 2 ^ 63 ≤ n = ltb-false n (2 ^ 63) e in let v : n + a < 2 ^ 63 = ltb-true (n + a) (2 ^ 63) h in omega arith)
    by true false z true true true e f g h i l t = absurd (let u : 10 ^ 38 ≤ p = ltb-false p (10 ^ 38) f in let v : p + b < 10 ^ 38 = ltb-true (p + b) (10 ^ 38) i in omega arith)
    by true true false true true true e f g h i l t = absurd (let u : 10 ^ 38 ≤ m = ltb-false m (10 ^ 38) g in let v : m + c < 10 ^ 38 = ltb-true (m + c) (10 ^ 38) l in omega arith)
    by true true true true true true e f g h i l t = absurd (true≢false (sym t))

-- what is cut off before a sum is cut off after it
capped_left : (n p m a b c : ℕ) (o q : Bool) → capped ((capped n p m o).count + a) ((capped n p m o).plus + b) ((capped n p m o).minus + c) ((capped n p m o).over || q) ≡ capped (n + a) (p + b) (m + c) (o || q)
unfolding capped
capped_left n p m a b c true q = refl
capped_left n p m a b c false q = by (too_many n p m) refl
  where
    by : (x : Bool) → too_many n p m ≡ x → capped ((cond x past (within n p m)).count + a) ((cond x past (within n p m)).plus + b) ((cond x past (within n p m)).minus + c) ((cond x past (within n p m)).over || q) ≡ capped (n + a) (p + b) (m + c) q
    by false e = refl
    by true e = last q
      where
        last : (q : Bool) → past ≡ cond (q || too_many (n + a) (p + b) (m + c)) past (within (n + a) (p + b) (m + c))
        last true = refl
        last false = ap (λ x. cond x past (within (n + a) (p + b) (m + c))) (sym (grown n p m a b c e))

capped_right : (n p m a b c : ℕ) (o q : Bool) → capped (n + (capped a b c q).count) (p + (capped a b c q).plus) (m + (capped a b c q).minus) (o || (capped a b c q).over) ≡ capped (n + a) (p + b) (m + c) (o || q)
unfolding capped
capped_right n p m a b c o true = last o
  where
    last : (o : Bool) → capped (n + 0) (p + 0) (m + 0) (o || true) ≡ capped (n + a) (p + b) (m + c) (o || true)
    last true = refl
    last false = refl
capped_right n p m a b c o false = by (too_many a b c) refl
  where
    by : (x : Bool) → too_many a b c ≡ x → capped (n + (cond x past (within a b c)).count) (p + (cond x past (within a b c)).plus) (m + (cond x past (within a b c)).minus) (o || (cond x past (within a b c)).over) ≡ capped (n + a) (p + b) (m + c) (o || false)
    by false e = refl
    by true e = last o
      where
        more : too_many (n + a) (p + b) (m + c) ≡ true
        more = let h : too_many (a + n) (b + p) (c + m) ≡ true = grown a b c n p m e in
            let x : a + n ≡ n + a = omega arith in let y : b + p ≡ p + b = omega arith in let z : c + m ≡ m + c = omega arith in
            let P : ℕ → Type 0 = λ i. too_many i (b + p) (c + m) ≡ true in
            let Q : ℕ → Type 0 = λ i. too_many (n + a) i (c + m) ≡ true in
            let R : ℕ → Type 0 = λ i. too_many (n + a) (p + b) i ≡ true in
            subst R z (subst Q y (subst P x h))

        last : (o : Bool) → capped (n + 0) (p + 0) (m + 0) (o || true) ≡ capped (n + a) (p + b) (m + c) (o || false)
        last true = refl
        last false = ap (λ x. cond x past (within (n + a) (p + b) (m + c))) (sym more)

capped_args : (n p m a b c : ℕ) (o q : Bool) → n ≡ a → p ≡ b → m ≡ c → o ≡ q → capped n p m o ≡ capped a b c q
capped_args n p m a b c o q e f g h = ap (λ i. capped i p m o) e ∙ (ap (λ i. capped a i m o) f ∙ (ap (λ i. capped a b i o) g ∙ ap (λ i. capped a b c i) h))

or_swap : (a b c : Bool) → (a || b || c) ≡ (a || c || b)
or_swap true b c = refl
or_swap false true true = refl
or_swap false true false = refl
or_swap false false true = refl
or_swap false false false = refl

-- any totals may be added in any order
added_swap : (s t u : Totals) → added (added s t) u ≡ added (added s u) t
added_swap s t u =
    capped_left (s.count + t.count) (s.plus + t.plus) (s.minus + t.minus) u.count u.plus u.minus (s.over || t.over) u.over
    ∙ (capped_args _ _ _ _ _ _ _ _ (let e : s.count + t.count + u.count ≡ s.count + u.count + t.count = omega arith in e) (let e : s.plus + t.plus + u.plus ≡ s.plus + u.plus + t.plus = omega arith in e) (let e : s.minus + t.minus + u.minus ≡ s.minus + u.minus + t.minus = omega arith in e) (or_swap s.over t.over u.over)
    ∙ sym (capped_left (s.count + u.count) (s.plus + u.plus) (s.minus + u.minus) t.count t.plus t.minus (s.over || u.over) t.over))

-- ---- the best of values

module _ (R : Value → Value → Ordering) (o : IsTotalOrder R) where
  abbrev pub pick : Value → Value → Value
  pick v w = cond (is_gt (R v w)) w v

  not_back : (v w : Value) → is_gt (R v w) ≡ true → is_gt (R w v) ≡ false
  not_back v w h = by (R w v) (o.antisymm v w)
    where
      by : (x : Ordering) → R v w ≡ ordering_reverse x → is_gt x ≡ false
      by Less e = refl
      by Equal e = refl
      by Greater e = absurd (true≢false (sym h ∙ ap is_gt e))

  either : (v w : Value) → is_gt (R v w) ≡ false → is_gt (R w v) ≡ false → R v w ≡ Equal
  either v w h = by (R v w) (o.antisymm w v) h
    where
      by : (x : Ordering) → R w v ≡ ordering_reverse x → is_gt x ≡ false → is_gt (R w v) ≡ false → x ≡ Equal
      by Less e i j = absurd (true≢false (sym (ap is_gt e) ∙ j))
      by Equal e i j = refl
      by Greater e i j = absurd (true≢false i)

  pick_assoc : (v w u : Value) → pick (pick v w) u ≡ pick v (pick w u)
  pick_assoc v w u = by (is_gt (R v w)) (is_gt (R w u)) (is_gt (R v u)) refl refl refl
    where
      by : (x y z : Bool) → is_gt (R v w) ≡ x → is_gt (R w u) ≡ y → is_gt (R v u) ≡ z → pick (cond x w v) u ≡ pick v (cond y u w)
      by true true true e f g = rw (f, g) refl
      by true true false e f g = absurd (true≢false (sym e ∙ upto o v u w g (not_back w u f)))
      by true false z e f g = rw (e, f) refl
      by false true z e f g = refl
      by false false true e f g = absurd (true≢false (sym g ∙ upto o v w u e f))
      by false false false e f g = rw (e, g) refl

  pick_swap : (v w u : Value) → (R w u ≡ Equal → w ≡ u) → pick (pick v w) u ≡ pick (pick v u) w
  pick_swap v w u exact = by (is_gt (R v w)) (is_gt (R v u)) (is_gt (R w u)) (is_gt (R u w)) refl refl refl refl
    where
      by : (x y z t : Bool) → is_gt (R v w) ≡ x → is_gt (R v u) ≡ y → is_gt (R w u) ≡ z → is_gt (R u w) ≡ t → pick (cond x w v) u ≡ pick (cond y u v) w
      by true true true true e f g h = absurd (true≢false (sym h ∙ not_back w u g))
      by true true true false e f g h = rw (g, h) refl
      by true true false true e f g h = rw (g, h) refl
      by true true false false e f g h = rw (g, h) (exact (either w u g h))
      by true false true t e f g h = absurd (true≢false (sym g ∙ upto o w v u (not_back v w e) f))
      by true false false t e f g h = rw (e, g) refl
      by false true z true e f g h = absurd (true≢false (sym h ∙ upto o u v w (not_back v u f) e))
      by false true z false e f g h = rw (f, h) refl
      by false false z t e f g h = rw (e, f) refl

  pick_comm : (w u : Value) → (R w u ≡ Equal → w ≡ u) → pick w u ≡ pick u w
  pick_comm w u exact = by (is_gt (R w u)) (is_gt (R u w)) refl refl
    where
      by : (x y : Bool) → is_gt (R w u) ≡ x → is_gt (R u w) ≡ y → cond x u w ≡ cond y w u
      by true true e f = absurd (true≢false (sym f ∙ not_back w u e))
      by true false e f = refl
      by false true e f = refl
      by false false e f = exact (either w u e f)

  pick_some : (v w : Value) → is_null v ≡ false → is_null w ≡ false → is_null (pick v w) ≡ false
  pick_some v w e f = by (is_gt (R v w))
    where
      by : (x : Bool) → is_null (cond x w v) ≡ false
      by true = f
      by false = e

-- one of two values, whatever the order
pub record IsPick (p : Value → Value → Value) : Type 0 where
  pub assoc : (v w u : Value) → p (p v w) u ≡ p v (p w u)
  pub swap : (v w u : Value) → (value_cmp w u ≡ Equal → w ≡ u) → p (p v w) u ≡ p (p v u) w
  pub comm : (w u : Value) → (value_cmp w u ≡ Equal → w ≡ u) → p w u ≡ p u w
  pub some : (v w : Value) → is_null v ≡ false → is_null w ≡ false → is_null (p v w) ≡ false

pub lesser_is : IsPick lesser
lesser_is = record { assoc = pick_assoc value_cmp value_cmp_total; swap = pick_swap value_cmp value_cmp_total; comm = pick_comm value_cmp value_cmp_total; some = pick_some value_cmp value_cmp_total }

turned : (v w : Value) → is_gt (flip_args value_cmp v w) ≡ is_lt (value_cmp v w)
turned v w = by (value_cmp v w) (value_cmp_total.antisymm w v)
  where
    by : (x : Ordering) → value_cmp w v ≡ ordering_reverse x → is_gt (value_cmp w v) ≡ is_lt x
    by Less e = ap is_gt e
    by Equal e = ap is_gt e
    by Greater e = ap is_gt e

greater_is : (v w : Value) → pick (flip_args value_cmp) (back_total value_cmp_total) v w ≡ greater v w
greater_is v w = ap (λ b. cond b w v) (turned v w)

back_equal : (w u : Value) → value_cmp u w ≡ Equal → value_cmp w u ≡ Equal
back_equal w u e = value_cmp_total.antisymm w u ∙ ap ordering_reverse e

pub greatest_is : IsPick greater
greatest_is = record {
  assoc = λ v w u. ap (λ x. greater x u) (sym (greater_is v w)) ∙ (sym (greater_is _ u) ∙ (pick_assoc (flip_args value_cmp) (back_total value_cmp_total) v w u ∙ (greater_is v _ ∙ ap (greater v) (greater_is w u))));
  swap = λ v w u exact. ap (λ x. greater x u) (sym (greater_is v w)) ∙ (sym (greater_is _ u) ∙ (pick_swap (flip_args value_cmp) (back_total value_cmp_total) v w u (λ e. exact (back_equal w u e)) ∙ (greater_is _ w ∙ ap (λ x. greater x w) (greater_is v u))));
  comm = λ w u exact. sym (greater_is w u) ∙ (pick_comm (flip_args value_cmp) (back_total value_cmp_total) w u (λ e. exact (back_equal w u e)) ∙ greater_is u w);
  some = λ v w e f. sym (ap is_null (greater_is v w)) ∙ pick_some (flip_args value_cmp) (back_total value_cmp_total) v w e f;
}

null_is : (v : Value) → is_null v ≡ true → v ≡ value.Null
null_is value.Null e = refl
null_is (value.Bool b) e = absurd (true≢false (sym e))
null_is (value.Int n) e = absurd (true≢false (sym e))
null_is (value.Dec d) e = absurd (true≢false (sym e))
null_is (value.Text t) e = absurd (true≢false (sym e))

better_swap : (p : Value → Value → Value) → IsPick p → (v w u : Value) → (value_cmp w u ≡ Equal → w ≡ u) → better p (better p v w) u ≡ better p (better p v u) w
better_swap p l v w u exact = by (is_null v) (is_null w) (is_null u) refl refl refl
  where
    by : (x y z : Bool) → is_null v ≡ x → is_null w ≡ y → is_null u ≡ z → better p (better p v w) u ≡ better p (better p v u) w
    by true true true e f g = rw (null_is v e, null_is w f, null_is u g) refl
    by true true false e f g = rw (e, f, g) refl
    by true false true e f g = rw (e, f, g) refl
    by true false false e f g = rw (e, f, g) (l.comm w u exact)
    by false true true e f g = rw (f, g, e) (rw e refl)
    by false true false e f g = rw (e, f, g, l.some v u e g) (rw e refl)
    by false false true e f g = rw (e, f, g, l.some v w e f) (rw e refl)
    by false false false e f g = rw (e, f, g, l.some v w e f, l.some v u e g) (l.swap v w u exact)

better_assoc : (p : Value → Value → Value) → IsPick p → (v w u : Value) → better p (better p v w) u ≡ better p v (better p w u)
better_assoc p l v w u = by (is_null v) (is_null w) (is_null u) refl refl refl
  where
    by : (x y z : Bool) → is_null v ≡ x → is_null w ≡ y → is_null u ≡ z → better p (better p v w) u ≡ better p v (better p w u)
    by true y z e f g = rw e refl
    by false true z e f g = rw (e, f) (rw e refl)
    by false false true e f g = rw (e, f, g) (rw (l.some v w e f, f) refl)
    by false false false e f g = rw (e, f, g) (rw (l.some v w e f, l.some w u f g) (l.assoc v w u))

-- ---- states of lists

present_some : (vs : List Value) → Each (λ v. not (is_null v)) (present vs)
present_some [] = tt
present_some (v ∷ vs) = by (is_null v) refl (present_some vs)
  where
    by : (b : Bool) → is_null v ≡ b → Each (λ v. not (is_null v)) (present vs) → Each (λ v. not (is_null v)) (cond (not b) (v ∷ present vs) (present vs))
    by true e ih = ih
    by false e ih = (ap not e, ih)

none_null : (v : Value) → not (is_null v) ≡ true → is_null v ≡ false
none_null value.Null e = absurd (true≢false (sym e))
none_null (value.Bool b) e = refl
none_null (value.Int n) e = refl
none_null (value.Dec d) e = refl
none_null (value.Text t) e = refl

-- the best of a list is one by one
record IsBest (p : Value → Value → Value) (all : Value → List Value → Value) : Type 0 where
  pub pick : IsPick p
  pub nil : (v : Value) → all v [] ≡ v
  pub cons : (v w : Value) (ws : List Value) → all v (w ∷ ws) ≡ all (p v w) ws

least_best : IsBest lesser least
least_best = record { pick = lesser_is; nil = λ v. refl; cons = λ v w ws. refl }

greatest_best : IsBest greater greatest
greatest_best = record { pick = greatest_is; nil = λ v. refl; cons = λ v w ws. refl }

all_front : (p : Value → Value → Value) (all : Value → List Value → Value) → IsBest p all → (v w : Value) (ws : List Value) → all v (w ∷ ws) ≡ p v (all w ws)
all_front p all l v w [] = l.cons v w [] ∙ (l.nil (p v w) ∙ ap (p v) (sym (l.nil w)))
all_front p all l v w (u ∷ us) =
    l.cons v w (u ∷ us) ∙ (l.cons (p v w) u us ∙ (ap (λ x. all x us) (l.pick.assoc v w u) ∙ (sym (l.cons v (p w u) us) ∙ (all_front p all l v (p w u) us ∙ ap (p v) (sym (l.cons w u us))))))

all_some : (p : Value → Value → Value) (all : Value → List Value → Value) → IsBest p all → (v : Value) (ws : List Value) → is_null v ≡ false → Each (λ v. not (is_null v)) ws → is_null (all v ws) ≡ false
all_some p all l v [] e h = ap is_null (l.nil v) ∙ e
all_some p all l v (w ∷ ws) e h = ap is_null (l.cons v w ws) ∙ all_some p all l (p v w) ws (l.pick.some v w e (none_null w h.0)) h.1

best_cons : (p : Value → Value → Value) (all : Value → List Value → Value) → IsBest p all → (v : Value) (vs : List Value) → best all (present (v ∷ vs)) ≡ better p (best all (present (v ∷ []))) (best all (present vs))
best_cons p all l v vs = by (is_null v) refl
  where
    more : (ws : List Value) → is_null v ≡ false → Each (λ v. not (is_null v)) ws → all v ws ≡ better p (all v []) (best all ws)
    more [] e h = rw (l.nil v, e) refl
    more (w ∷ ws) e h = rw (l.nil v, e, all_some p all l w ws (none_null w h.0) h.1) (all_front p all l v w ws)

    by : (b : Bool) → is_null v ≡ b → best all (cond (not b) (v ∷ present vs) (present vs)) ≡ better p (best all (cond (not b) (v ∷ []) [])) (best all (present vs))
    by true e = refl
    by false e = more (present vs) e (present_some vs)

added_capped : (n p m a b c : ℕ) (o q : Bool) → added (capped n p m o) (capped a b c q) ≡ capped (n + a) (p + b) (m + c) (o || q)
added_capped n p m a b c o q = capped_left n p m (capped a b c q).count (capped a b c q).plus (capped a b c q).minus o (capped a b c q).over ∙ capped_right n p m a b c o q

added_assoc : (s t u : Totals) → added (added s t) u ≡ added s (added t u)
added_assoc s t u =
    capped_left (s.count + t.count) (s.plus + t.plus) (s.minus + t.minus) u.count u.plus u.minus (s.over || t.over) u.over
    ∙ (capped_args _ _ _ _ _ _ _ _ (let e : s.count + t.count + u.count ≡ s.count + (t.count + u.count) = omega arith in e) (let e : s.plus + t.plus + u.plus ≡ s.plus + (t.plus + u.plus) = omega arith in e) (let e : s.minus + t.minus + u.minus ≡ s.minus + (t.minus + u.minus) = omega arith in e) (or_assoc s.over t.over u.over)
    ∙ sym (capped_right s.count s.plus s.minus (t.count + u.count) (t.plus + u.plus) (t.minus + u.minus) s.over (t.over || u.over)))
  where
    or_assoc : (a b c : Bool) → (a || b || c) ≡ (a || (b || c))
    or_assoc true b c = refl
    or_assoc false b c = refl

counted_cons : (v : Value) (vs : List Value) → counting (present (v ∷ vs)) ≡ Sums (added (capped (length (present (v ∷ []))) 0 0 false) (capped (length (present vs)) 0 0 false))
counted_cons v vs = by (is_null v)
  where
    by : (b : Bool) → Sums (capped (length (cond (not b) (v ∷ present vs) (present vs))) 0 0 false) ≡ Sums (added (capped (length (cond (not b) (v ∷ []) [])) 0 0 false) (capped (length (present vs)) 0 0 false))
    by true = ap Sums (sym (added_capped 0 0 0 (length (present vs)) 0 0 false false ∙ capped_args _ _ _ _ _ _ _ _ (omega arith) refl refl refl))
    by false = ap Sums (sym (added_capped 1 0 0 (length (present vs)) 0 0 false false ∙ capped_args _ _ _ _ _ _ _ _ (omega arith) refl refl refl))

summed_cons : (v : Value) (vs : List Value) → summing (present (v ∷ vs)) ≡ Sums (added (capped (length (present (v ∷ []))) (gains (present (v ∷ []))) (losses (present (v ∷ []))) false) (capped (length (present vs)) (gains (present vs)) (losses (present vs)) false))
summed_cons v vs = by (is_null v)
  where
    by : (b : Bool) → summing (cond (not b) (v ∷ present vs) (present vs)) ≡ Sums (added (capped (length (cond (not b) (v ∷ []) [])) (gains (cond (not b) (v ∷ []) [])) (losses (cond (not b) (v ∷ []) [])) false) (capped (length (present vs)) (gains (present vs)) (losses (present vs)) false))
    by true = ap Sums (sym (added_capped 0 0 0 (length (present vs)) (gains (present vs)) (losses (present vs)) false false ∙ capped_args _ _ _ _ _ _ _ _ (omega arith) (omega arith) (omega arith) refl))
    by false = ap Sums (sym (added_capped 1 (gains (v ∷ [])) (losses (v ∷ [])) (length (present vs)) (gains (present vs)) (losses (present vs)) false false
        ∙ capped_args _ _ _ _ _ _ _ _ (omega arith) (sym (sum_by-append (λ v. above (unscaled v)) (v ∷ []) (present vs))) (sym (sum_by-append (λ v. below (unscaled v)) (v ∷ []) (present vs))) refl))

pub state_cons : (c : AggCall) (v : Value) (vs : List Value) → state_of c (v ∷ vs) ≡ merged c (state_of c (v ∷ [])) (state_of c vs)
state_cons call.CountAll v vs = ap Sums (sym (added_capped 1 0 0 (length vs) 0 0 false false ∙ capped_args _ _ _ _ _ _ _ _ (omega arith) refl refl refl))
state_cons (call.Count c) v vs = counted_cons v vs
state_cons (call.Sum c) v vs = summed_cons v vs
state_cons (call.Min c) v vs = ap Best (best_cons lesser least least_best v vs)
state_cons (call.Max c) v vs = ap Best (best_cons greater greatest greatest_best v vs)
state_cons (call.Avg c) v vs = summed_cons v vs

chosen_pick : (c : AggCall) (v w u : Value) → chosen c (chosen c v w) u ≡ chosen c v (chosen c w u)
chosen_pick call.CountAll = better_assoc lesser lesser_is
chosen_pick (call.Count c) = better_assoc lesser lesser_is
chosen_pick (call.Sum c) = better_assoc lesser lesser_is
chosen_pick (call.Min c) = better_assoc lesser lesser_is
chosen_pick (call.Max c) = better_assoc greater greatest_is
chosen_pick (call.Avg c) = better_assoc lesser lesser_is

chosen_swap : (c : AggCall) (v w u : Value) → (value_cmp w u ≡ Equal → w ≡ u) → chosen c (chosen c v w) u ≡ chosen c (chosen c v u) w
chosen_swap call.CountAll = better_swap lesser lesser_is
chosen_swap (call.Count c) = better_swap lesser lesser_is
chosen_swap (call.Sum c) = better_swap lesser lesser_is
chosen_swap (call.Min c) = better_swap lesser lesser_is
chosen_swap (call.Max c) = better_swap greater greatest_is
chosen_swap (call.Avg c) = better_swap lesser lesser_is

-- values that are one where they tie
abbrev pub Ties : State → State → Type 0
Ties (Best w) (Best u) = value_cmp w u ≡ Equal → w ≡ u
Ties (Sums s) _ = Unit {0}
Ties (Best w) (Sums s) = Unit {0}

pub merged_swap : (c : AggCall) (s t u : State) → Ties t u → merged c (merged c s t) u ≡ merged c (merged c s u) t
merged_swap c (Sums s) (Sums t) (Sums u) h = ap Sums (added_swap s t u)
merged_swap c (Sums s) (Sums t) (Best u) h = refl
merged_swap c (Sums s) (Best t) (Sums u) h = refl
merged_swap c (Sums s) (Best t) (Best u) h = refl
merged_swap c (Best s) (Sums t) (Sums u) h = refl
merged_swap c (Best s) (Sums t) (Best u) h = refl
merged_swap c (Best s) (Best t) (Sums u) h = refl
merged_swap c (Best s) (Best t) (Best u) h = ap Best (chosen_swap c s t u h)

-- of the same sort of state
abbrev pub AreAlike : State → State → Type 0
AreAlike (Sums s) (Sums t) = Unit {0}
AreAlike (Best v) (Best w) = Unit {0}
AreAlike (Sums s) (Best w) = ⊥
AreAlike (Best v) (Sums t) = ⊥

pub merged_assoc : (c : AggCall) (s t u : State) → AreAlike t u → merged c (merged c s t) u ≡ merged c s (merged c t u)
merged_assoc c (Sums s) (Sums t) (Sums u) h = ap Sums (added_assoc s t u)
merged_assoc c (Best s) (Best t) (Best u) h = ap Best (chosen_pick c s t u)
merged_assoc c (Sums s) (Best t) (Best u) h = refl
merged_assoc c (Best s) (Sums t) (Sums u) h = refl
merged_assoc c s (Sums t) (Best u) h = absurd h
merged_assoc c s (Best t) (Sums u) h = absurd h

pub one_sort : (c : AggCall) (xs ys : List Value) → AreAlike (state_of c xs) (state_of c ys)
one_sort call.CountAll xs ys = tt
one_sort (call.Count c) xs ys = tt
one_sort (call.Sum c) xs ys = tt
one_sort (call.Min c) xs ys = tt
one_sort (call.Max c) xs ys = tt
one_sort (call.Avg c) xs ys = tt

nothing_counted : (n p m : ℕ) → Sums (added (capped 0 0 0 false) (capped n p m false)) ≡ Sums (capped n p m false)
nothing_counted n p m = ap Sums (added_capped 0 0 0 n p m false false ∙ capped_args _ _ _ _ _ _ _ _ (omega arith) (omega arith) (omega arith) refl)

pub state_none : (c : AggCall) (ys : List Value) → merged c (state_of c []) (state_of c ys) ≡ state_of c ys
state_none call.CountAll ys = nothing_counted (length ys) 0 0
state_none (call.Count c) ys = nothing_counted (length (present ys)) 0 0
state_none (call.Sum c) ys = nothing_counted (length (present ys)) (gains (present ys)) (losses (present ys))
state_none (call.Min c) ys = refl
state_none (call.Max c) ys = refl
state_none (call.Avg c) ys = nothing_counted (length (present ys)) (gains (present ys)) (losses (present ys))

-- what is kept of values and of others, joined, is what is kept of all
pub state-append : (c : AggCall) (xs ys : List Value) → merged c (state_of c xs) (state_of c ys) ≡ state_of c (xs ++ ys)
state-append c [] ys = state_none c ys
state-append c (x ∷ xs) ys =
    ap (λ s. merged c s (state_of c ys)) (state_cons c x xs)
    ∙ (merged_assoc c (state_of c (x ∷ [])) (state_of c xs) (state_of c ys) (one_sort c xs ys)
    ∙ (ap (merged c (state_of c (x ∷ []))) (state-append c xs ys) ∙ sym (state_cons c x (xs ++ ys))))

-- ---- cells and answers

count_back : (n : ℕ) → ◌≡◌ {A = Totals} (record { count = (capped n 0 0 false).count; plus = 0; minus = 0; over = (capped n 0 0 false).over }) (capped n 0 0 false)
unfolding capped
count_back n = by (ltb n (2 ^ 63))
  where
    by : (b : Bool) → ◌≡◌ {A = Totals} (record { count = (cond (not b || false || false) past (within n 0 0)).count; plus = 0; minus = 0; over = (cond (not b || false || false) past (within n 0 0)).over }) (cond (not b || false || false) past (within n 0 0))
    by true = refl
    by false = refl

-- a state is read back from its cells, whatever stands behind them
pub read-cells_of : (c : AggCall) (k : Option Kind) (vs rest : List Value) → read c (cells_of c k (state_of c vs) ++ rest) ≡ state_of c vs
read-cells_of call.CountAll k vs rest = ap Sums (count_back (length vs))
read-cells_of (call.Count c) k vs rest = ap Sums (count_back (length (present vs)))
read-cells_of (call.Sum c) k vs rest = refl
read-cells_of (call.Min c) k vs rest = refl
read-cells_of (call.Max c) k vs rest = refl
read-cells_of (call.Avg c) k vs rest = refl

pub drop-cells_of : (c : AggCall) (k : Option Kind) (vs rest : List Value) → drop (state_width c) (cells_of c k (state_of c vs) ++ rest) ≡ rest
drop-cells_of call.CountAll k vs rest = refl
drop-cells_of (call.Count c) k vs rest = refl
drop-cells_of (call.Sum c) k vs rest = refl
drop-cells_of (call.Min c) k vs rest = refl
drop-cells_of (call.Max c) k vs rest = refl
drop-cells_of (call.Avg c) k vs rest = refl

count_finished : (n : ℕ) → counted n ≡ count_answer (Sums (capped n 0 0 false))
unfolding capped
count_finished n = by (ltb n (2 ^ 63))
  where
    by : (b : Bool) → cond b (Ok (value.Int (pos n))) (Err Overflow) ≡ count_answer (Sums (cond (not b || false || false) past (within n 0 0)))
    by true = refl
    by false = refl

sum_finished : (s : ℕ) (vs : List Value) → summed s vs ≡ sum_answer s (summing vs)
unfolding capped
sum_finished s [] = refl
sum_finished s (v ∷ vs) = by (is_over (v ∷ vs))
  where
    some : ltb 0 (suc (length vs)) ≡ true
    some = lt-ltb 0 (suc (length vs)) (omega arith)

    by : (b : Bool) → cond b (Err Overflow) (Ok (value.Dec (at_scale (total (v ∷ vs)) s))) ≡ sum_answer s (Sums (cond b past (within (suc (length vs)) (gains (v ∷ vs)) (losses (v ∷ vs)))))
    by true = refl
    by false = rw some refl

mean_finished : (s : ℕ) (vs : List Value) → averaged s vs ≡ mean_answer s (summing vs)
unfolding capped
mean_finished s [] = refl
mean_finished s (v ∷ vs) = by (is_over (v ∷ vs))
  where
    some : ltb 0 (suc (length vs)) ≡ true
    some = lt-ltb 0 (suc (length vs)) (omega arith)

    by : (b : Bool) → cond b (Err Overflow) (decimal (mean (at_scale (total (v ∷ vs)) s) (suc (length vs)) (mean_scale s))) ≡ mean_answer s (Sums (cond b past (within (suc (length vs)) (gains (v ∷ vs)) (losses (v ∷ vs)))))
    by true = refl
    by false = rw some refl

best_finished : (all : Value → List Value → Value) (vs : List Value) → from_first all vs ≡ count_answer (Best (best all vs))
best_finished all [] = refl
best_finished all (v ∷ vs) = refl

-- what is kept of all values gives the answer over them
pub agg-finished : (c : AggCall) (k : Option Kind) (vs : List Value) → agg c k vs ≡ finished c k (state_of c vs)
unfolding agg
agg-finished call.CountAll k vs = count_finished (length vs)
agg-finished (call.Count c) k vs = count_finished (length (present vs))
agg-finished (call.Sum c) k vs = sum_finished (scale_of k) (present vs)
agg-finished (call.Min c) k vs = best_finished least (present vs)
agg-finished (call.Max c) k vs = best_finished greatest (present vs)
agg-finished (call.Avg c) k vs = mean_finished (scale_of k) (present vs)
