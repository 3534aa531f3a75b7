-- Sums over what consumers hold, and shares.
use Rattle.std.proofs.Common.{inl, inr, ℕ, zero, suc, ◌+◌, ◌-◌, ◌<◌, ◌≤◌, ◌≡◌, refl, sym, ap, ◌∙◌, List, [], ◌∷◌, length, get_or, set, take, Bool, true, false, cond, sum, arith, min, add-one, subst, replicate, ◌⊎◌}
use Rattle.std.proofs.Math.ListN.{length-set}
use Rattle.std.proofs.lemmas.List.Sums.{sum_by-cons, sum_by-set}
use Rattle.std.proofs.Common.{◌/◌}
use Rattle.std.proofs.lemmas.Bool.Decides.{leb_tells}
use Rattle.fair_pool.specs.Tally.{IsTallied}
use Rattle.fair_pool.specs.Share.{fixed, spillables, Pool, share_of, grants, held_by, room_for, can_spill}

pub sum_set : (xs : List ℕ) (i v : ℕ) → i < length xs → sum (set xs i v) + get_or xs i 0 ≡ sum xs + v
sum_set xs i v h = sum_by-set (λ x. x) xs i v 0 h

pub held_le_sum : (xs : List ℕ) (i : ℕ) → get_or xs i 0 ≤ sum xs
held_le_sum [] i = omega arith
held_le_sum (x ∷ xs) zero = let a : sum (x ∷ xs) ≡ x + sum xs = sum_by-cons (λ y. y) x xs in let b : get_or (x ∷ xs) zero 0 ≡ x = refl in omega arith
held_le_sum (x ∷ xs) (suc i) = let a : sum (x ∷ xs) ≡ x + sum xs = sum_by-cons (λ y. y) x xs in let b : get_or (x ∷ xs) (suc i) 0 ≡ get_or xs i 0 = refl in let h : get_or xs i 0 ≤ sum xs = held_le_sum xs i in omega arith

pub fixed_le_sum : (ss : List Bool) (xs : List ℕ) → fixed ss xs ≤ sum xs
fixed_le_sum [] xs = omega arith
fixed_le_sum (s ∷ ss) [] = omega arith
fixed_le_sum (true ∷ ss) (x ∷ xs) = let a : sum (x ∷ xs) ≡ x + sum xs = sum_by-cons (λ y. y) x xs in let h : fixed ss xs ≤ sum xs = fixed_le_sum ss xs in omega arith
fixed_le_sum (false ∷ ss) (x ∷ xs) = let a : sum (x ∷ xs) ≡ x + sum xs = sum_by-cons (λ y. y) x xs in let h : fixed ss xs ≤ sum xs = fixed_le_sum ss xs in omega arith

-- a spillable consumer's bytes are not among the kept ones
pub fixed_set_spills : (ss : List Bool) (xs : List ℕ) (i v : ℕ) → get_or ss i false ≡ true → fixed ss (set xs i v) ≡ fixed ss xs
fixed_set_spills [] xs i v e = refl
fixed_set_spills (s ∷ ss) [] i v e = refl
fixed_set_spills (s ∷ ss) (x ∷ xs) zero v e = rw e refl
fixed_set_spills (s ∷ ss) (x ∷ xs) (suc i) v e = ap (λ n. cond s 0 x + n) (fixed_set_spills ss xs i v e)

pub fixed_set_keeps : (ss : List Bool) (xs : List ℕ) (i v : ℕ) → i < length ss → i < length xs → get_or ss i false ≡ false → fixed ss (set xs i v) + get_or xs i 0 ≡ fixed ss xs + v
fixed_set_keeps [] xs i v h k e = absurd (omega arith)
fixed_set_keeps (s ∷ ss) [] i v h k e = absurd (omega arith)
fixed_set_keeps (s ∷ ss) (x ∷ xs) zero v h k e = let b : get_or (x ∷ xs) zero 0 ≡ x = refl in rw e (omega arith)
fixed_set_keeps (s ∷ ss) (x ∷ xs) (suc i) v h k e =
    let b : get_or (x ∷ xs) (suc i) 0 ≡ get_or xs i 0 = refl in
    let r : fixed ss (set xs i v) + get_or xs i 0 ≡ fixed ss xs + v = fixed_set_keeps ss xs i v (omega arith) (omega arith) e in
    let f1 : fixed (s ∷ ss) (set (x ∷ xs) (suc i) v) ≡ cond s 0 x + fixed ss (set xs i v) = refl in
    let f2 : fixed (s ∷ ss) (x ∷ xs) ≡ cond s 0 x + fixed ss xs = refl in
    omega arith

pub spillables_some : (ss : List Bool) (i : ℕ) → get_or ss i false ≡ true → 0 < spillables ss
spillables_some [] i e = cc
spillables_some (s ∷ ss) zero e = rw e (omega arith)
spillables_some (s ∷ ss) (suc i) e = let h : 0 < spillables ss = spillables_some ss i e in omega arith

pub spillables_more : (ss : List Bool) (i : ℕ) (d : Bool) → i < length ss → spillables (take (i + 1) ss) ≡ spillables (take i ss) + cond (get_or ss i d) 1 0
spillables_more ss i d h = rw add-one (at ss i h)
  where
    at : (ss : List Bool) (i : ℕ) → i < length ss → spillables (take (suc i) ss) ≡ spillables (take i ss) + cond (get_or ss i d) 1 0
    at [] i h = absurd (omega arith)
    at (s ∷ ss) zero h = omega arith
    at (s ∷ ss) (suc i) h = let r : spillables (take (suc i) ss) ≡ spillables (take i ss) + cond (get_or ss i d) 1 0 = at ss i (omega arith) in
        let a : spillables (take (suc (suc i)) (s ∷ ss)) ≡ cond s 1 0 + spillables (take (suc i) ss) = refl in
        let b : spillables (take (suc i) (s ∷ ss)) ≡ cond s 1 0 + spillables (take i ss) = refl in
        let c : get_or (s ∷ ss) (suc i) d ≡ get_or ss i d = refl in omega arith

pub spillables_le : (ss : List Bool) → spillables ss ≤ length ss
spillables_le [] = omega arith
spillables_le (true ∷ ss) = let h : spillables ss ≤ length ss = spillables_le ss in omega arith
spillables_le (false ∷ ss) = let h : spillables ss ≤ length ss = spillables_le ss in omega arith

pub spillables_yes : (ss : List Bool) (i : ℕ) (d : Bool) → i < length ss → get_or ss i d ≡ true → spillables (take (i + 1) ss) ≡ spillables (take i ss) + 1
spillables_yes ss i d h e = spillables_more ss i d h ∙ ap (λ b. spillables (take i ss) + cond b 1 0) e

pub spillables_no : (ss : List Bool) (i : ℕ) (d : Bool) → i < length ss → get_or ss i d ≡ false → spillables (take (i + 1) ss) ≡ spillables (take i ss)
spillables_no ss i d h e = spillables_more ss i d h ∙ (ap (λ b. spillables (take i ss) + cond b 1 0) e ∙ (omega arith))

pub share_spills : (limit : ℕ) (ss : List Bool) (hs : List ℕ) (c : ℕ) → get_or ss c false ≡ true
    → share_of (record { limit = limit; spillable = ss; held = hs }) c ≡ min (get_or hs c 0 + limit - sum hs) ((limit - fixed ss hs) / spillables ss)
unfolding share_of
share_spills limit ss hs c e = rw e refl

pub share_stays : (limit : ℕ) (ss : List Bool) (hs : List ℕ) (c : ℕ) → get_or ss c false ≡ false → share_of (record { limit = limit; spillable = ss; held = hs }) c ≡ get_or hs c 0 + limit - sum hs
unfolding share_of
share_stays limit ss hs c e = rw e refl

pub grants_yes : (p : Pool) (c b : ℕ) → held_by p c + b ≤ share_of p c → grants p c b ≡ true
unfolding grants
grants_yes p c b h = elim (leb_tells (held_by p c + b) (share_of p c)) [ inl w ↦ w.0 | inr w ↦ absurd (omega (arith, w.1)) ]

pub grants_no : (p : Pool) (c b : ℕ) → share_of p c < held_by p c + b → grants p c b ≡ false
unfolding grants
grants_no p c b h = elim (leb_tells (held_by p c + b) (share_of p c)) [ inl w ↦ absurd (omega (arith, w.1)) | inr w ↦ w.0 ]

-- what an index reads
pub read_at : {A : Type 0} (xs : List A) (i : ℕ) (x d : A) → i < length xs → x ≡ get_or xs i x → x ≡ get_or xs i d
read_at [] i x d h e = absurd (omega arith)
read_at (y ∷ xs) zero x d h e = e
read_at (y ∷ xs) (suc i) x d h e = read_at xs i x d (omega arith) e

pub fixed_has : (ss : List Bool) (xs : List ℕ) (i : ℕ) → i < length ss → i < length xs → get_or ss i false ≡ false → get_or xs i 0 ≤ fixed ss xs
fixed_has ss xs i h k e = let a : fixed ss (set xs i 0) + get_or xs i 0 ≡ fixed ss xs + 0 = fixed_set_keeps ss xs i 0 h k e in omega arith

-- what a consumer that cannot spill holds from now on is within the limit too
pub fixed_held : (ss : List Bool) (xs : List ℕ) (i v limit : ℕ) → i < length ss → i < length xs → get_or ss i false ≡ false → sum (set xs i v) ≤ limit → fixed ss xs - get_or xs i 0 + v ≤ limit
fixed_held ss xs i v limit h k e w =
    let a : fixed ss (set xs i v) + get_or xs i 0 ≡ fixed ss xs + v = fixed_set_keeps ss xs i v h k e in
    let b : fixed ss (set xs i v) ≤ sum (set xs i v) = fixed_le_sum ss (set xs i v) in
    let c : get_or xs i 0 ≤ fixed ss xs = fixed_has ss xs i h k e in
    omega arith

-- the totals after a write
pub tallied_hold : (limit : ℕ) (ss : List Bool) (hs : List ℕ) (all kept kept2 many i v : ℕ) → IsTallied limit ss hs all kept many → i < length ss → sum (set hs i v) ≤ limit
    → ((get_or ss i false ≡ true) × (kept2 ≡ kept)) ⊎ ((get_or ss i false ≡ false) × (kept2 ≡ kept - get_or hs i 0 + v)) → IsTallied limit ss (set hs i v) (all - get_or hs i 0 + v) kept2 many
tallied_hold limit ss hs all kept kept2 many i v t h w k = record {
  long = length-set hs i v ∙ t.long;
  within = w;
  in_all = (let a : sum (set hs i v) + get_or hs i 0 ≡ sum hs + v = sum_set hs i v (rw t.long h) in let b : get_or hs i 0 ≤ sum hs = held_le_sum hs i in omega (arith, t.in_all));
  unspillable = elim k [
    | inl e ↦ e.1 ∙ (t.unspillable ∙ sym (fixed_set_spills ss hs i v e.0))
    | inr e ↦ (let a : fixed ss (set hs i v) + get_or hs i 0 ≡ fixed ss hs + v = fixed_set_keeps ss hs i v h (rw t.long h) e.0 in
        let b : get_or hs i 0 ≤ fixed ss hs = fixed_has ss hs i h (rw t.long h) e.0 in
        omega (arith, t.unspillable, e.1))
  ];
  spillable = t.spillable;
}

sum_zeros : (n : ℕ) → sum (replicate n 0) ≡ 0
sum_zeros zero = refl
sum_zeros (suc n) = let a : sum (0 ∷ replicate n 0) ≡ 0 + sum (replicate n 0) = sum_by-cons (λ y. y) 0 (replicate n 0) in let b : sum (replicate n 0) ≡ 0 = sum_zeros n in omega arith

length_zeros : (n : ℕ) → length {A = ℕ} (replicate n 0) ≡ n
length_zeros zero = refl
length_zeros (suc n) = ap suc (length_zeros n)

fixed_zeros : (ss : List Bool) (n : ℕ) → fixed ss (replicate n 0) ≡ 0
fixed_zeros [] n = refl
fixed_zeros (s ∷ ss) zero = refl
fixed_zeros (true ∷ ss) (suc n) = let h : fixed ss (replicate n 0) ≡ 0 = fixed_zeros ss n in omega arith
fixed_zeros (false ∷ ss) (suc n) = let h : fixed ss (replicate n 0) ≡ 0 = fixed_zeros ss n in omega arith

-- the totals at the start
pub tallied_new : (limit many : ℕ) (ss : List Bool) (hs : List ℕ) → hs ≡ replicate (length ss) 0 → many ≡ spillables ss → IsTallied limit ss hs 0 0 many
tallied_new limit many ss hs e m = subst (λ xs. IsTallied limit ss xs 0 0 many) (sym e) (record {
  long = length_zeros (length ss);
  within = (let a : sum (replicate (length ss) 0) ≡ 0 = sum_zeros (length ss) in omega arith);
  in_all = sym (sum_zeros (length ss));
  unspillable = sym (fixed_zeros ss (length ss));
  spillable = m;
})

share_room : (p : Pool) (c : ℕ) → share_of p c ≤ room_for p c
unfolding share_of
share_room p c = go (can_spill p c)
  where
    go : (s : Bool) → cond s (min (room_for p c) ((p.limit - fixed p.spillable p.held) / spillables p.spillable)) (room_for p c) ≤ room_for p c
    go true = omega arith
    go false = omega arith

sum_set_most : (xs : List ℕ) (i n : ℕ) → sum (set xs i n) + get_or xs i 0 ≤ sum xs + n
sum_set_most [] i n = omega arith
sum_set_most (x ∷ xs) zero n =
    let a : sum (set (x ∷ xs) zero n) ≡ n + sum xs = sum_by-cons (λ y. y) n xs in
    let b : sum (x ∷ xs) ≡ x + sum xs = sum_by-cons (λ y. y) x xs in
    let c : get_or (x ∷ xs) zero 0 ≡ x = refl in
    omega arith
sum_set_most (x ∷ xs) (suc i) n =
    let a : sum (set (x ∷ xs) (suc i) n) ≡ x + sum (set xs i n) = sum_by-cons (λ y. y) x (set xs i n) in
    let b : sum (x ∷ xs) ≡ x + sum xs = sum_by-cons (λ y. y) x xs in
    let c : get_or (x ∷ xs) (suc i) 0 ≡ get_or xs i 0 = refl in
    let h : sum (set xs i n) + get_or xs i 0 ≤ sum xs + n = sum_set_most xs i n in
    omega arith

-- what a share has room for is within the limit, and so is less than what is held
pub grown_within : (p : Pool) (c bytes : ℕ) → sum p.held ≤ p.limit → held_by p c + bytes ≤ share_of p c → sum (set p.held c (held_by p c + bytes)) ≤ p.limit
grown_within p c bytes w k =
    let s : sum (set p.held c (held_by p c + bytes)) + held_by p c ≤ sum p.held + (held_by p c + bytes) = sum_set_most p.held c (held_by p c + bytes) in
    let r : share_of p c ≤ held_by p c + p.limit - sum p.held = share_room p c in
    omega arith

pub shrunk_within : (p : Pool) (c bytes : ℕ) → sum p.held ≤ p.limit → sum (set p.held c (held_by p c - bytes)) ≤ p.limit
shrunk_within p c bytes w =
    let s : sum (set p.held c (held_by p c - bytes)) + held_by p c ≤ sum p.held + (held_by p c - bytes) = sum_set_most p.held c (held_by p c - bytes) in
    omega arith

pub min_same : (x a b c d : ℕ) → x ≡ min a b → a ≡ c → b ≡ d → x ≡ min c d
min_same x a b c d e h k = e ∙ (ap (λ n. min n b) h ∙ ap (λ n. min c n) k)
