-- Every n-th file from a number on.
use Rattle.std.specs.Prelude.{min, ◌%◌, ◌==◌}
use Rattle.std.specs.List.{filter}
use Rattle.std.proofs.Common.{ℕ, zero, suc, ◌+◌, ◌-◌, ◌<◌, ◌≤◌, ◌≡◌, refl, sym, ap, ◌∙◌, ◌⊎◌, inl, inr, cond, Bool, true, false, eqb, List, [], ◌∷◌, ◌++◌, map, append_assoc, arith}
use Rattle.std.proofs.lemmas.Bool.{ne_eqb, eq-eqb}
use Rattle.std.proofs.lemmas.List.{append-nil}
use Rattle.std.proofs.Math.Nat.{mod-eq_of_lt, mod-add-mod, add-mod_right, zero-sub}
use Rattle.physical_plan.specs.Numbers.{numbers, numbers_from}
use Rattle.task_plans.specs.declared.station.ScanFile.{ScanFile}
use Rattle.task_plans.specs.Dealt.{file_at, dealt_from, dealt}

-- numbers for which the test is false are passed over
skip : (T : ℕ → Bool) (m at len : ℕ) → ((j : ℕ) → j < m → T (at + j) ≡ false) → filter T (numbers_from at len) ≡ filter T (numbers_from (at + m) (len - m))
skip T zero at len h =
    ap (λ (x : ℕ). filter T (numbers_from x len)) (let e : at ≡ at + 0 = omega arith in e)
    ∙ ap (λ (x : ℕ). filter T (numbers_from (at + 0) x)) (let e : len ≡ len - 0 = omega arith in e)
skip T (suc m) at zero h = ap (λ (x : ℕ). filter T (numbers_from (at + suc m) x)) (sym (zero-sub (suc m)))
skip T (suc m) at (suc len) h =
    ap (λ b. cond b (at ∷ filter T (numbers_from (at + 1) len)) (filter T (numbers_from (at + 1) len))) (ap T (let e : at ≡ at + 0 = omega arith in e) ∙ h 0 (omega arith))
    ∙ skip T m (at + 1) len (λ j l. ap T (let e : at + 1 + j ≡ at + suc j = omega arith in e) ∙ h (suc j) (omega arith))
    ∙ ap (λ (x : ℕ). filter T (numbers_from x (len - m))) (let e : at + 1 + m ≡ at + suc m = omega arith in e)
    ∙ ap (λ (x : ℕ). filter T (numbers_from (at + suc m) x)) (let e : len - m ≡ suc len - suc m = omega arith in e)

-- no number less than n further on is dealt to the same partition
other : (n i at d : ℕ) → i < n → at % n ≡ i → 0 < d → d < n → (at + d) % n ≡ i → ⊥
other n i at d l e p q h = go (lt_or_le (i + d) n)
  where
    lt_or_le : (a b : ℕ) → (a < b) ⊎ (b ≤ a)
    lt_or_le a b = grind arith

    same : (i + d) % n ≡ i
    same = ap (λ (x : ℕ). (x + d) % n) (sym e) ∙ mod-add-mod at n d ∙ h

    go : ((i + d) < n) ⊎ (n ≤ (i + d)) → ⊥
    go (inl w) = (let a = mod-eq_of_lt w in let b = same in omega arith)
    go (inr w) =
        let a : i + d ≡ (i + d - n) + n = omega arith in
        let b = add-mod_right (i + d - n) n in
        let c = mod-eq_of_lt {n = i + d - n} {m = n} (omega arith) in
        let k = ap (λ (x : ℕ). x % n) a in
        let s = same in omega arith

module _ (source files n i : ℕ) where
  abbrev own : ℕ → Bool
  own x = x % n == i

  pub starts : i < n → dealt_from source files n i i ≡ dealt source files n i
  starts l =
      ap (map (file_at source)) (sym (
      skip own i 0 files (λ j k. ne_eqb ((0 + j) % n) i (λ e. (
      let a : 0 + j ≡ j = omega arith in
      let b = ap (λ (x : ℕ). x % n) a in
      let c = mod-eq_of_lt {n = j} {m = n} (omega arith) in omega arith)))
      ∙ ap (λ (x : ℕ). filter own (numbers_from x (files - i))) (let e : 0 + i ≡ i = omega arith in e)))

  pub next : (at : ℕ) → i < n → at < files → at % n ≡ i → dealt_from source files n i at ≡ file_at source at ∷ dealt_from source files n i (at + n)
  next at l h e =
      ap (map (file_at source)) (
      ap (λ (x : ℕ). filter own (numbers_from at x)) (let k : files - at ≡ suc (files - (at + 1)) = omega arith in k)
      ∙ ap (λ b. cond b (at ∷ filter own (numbers_from (at + 1) (files - (at + 1)))) (filter own (numbers_from (at + 1) (files - (at + 1))))) (eq-eqb (at % n) i e)
      ∙ ap (λ xs. at ∷ xs) (
      skip own (n - 1) (at + 1) (files - (at + 1)) (λ j k. ne_eqb ((at + 1 + j) % n) i (λ g. (
      let a : at + 1 + j ≡ at + (1 + j) = omega arith in
      other n i at (1 + j) l e (omega arith) (omega arith) (ap (λ (x : ℕ). x % n) (sym a) ∙ g))))
      ∙ ap (λ (x : ℕ). filter own (numbers_from x (files - (at + 1) - (n - 1)))) (let k : at + 1 + (n - 1) ≡ at + n = omega arith in k)
      ∙ ap (λ (x : ℕ). filter own (numbers_from (at + n) x)) (let k : files - (at + 1) - (n - 1) ≡ files - (at + n) = omega arith in k)))

  -- past the files there are none
  past : (at : ℕ) → files ≤ at → dealt_from source files n i at ≡ []
  past at l = ap (λ (x : ℕ). map (file_at source) (filter own (numbers_from at x))) (let e : files - at ≡ 0 = omega arith in e)

  capped : (at top : ℕ) → files ≤ top → dealt_from source files n i at ≡ dealt_from source files n i (min at top)
  capped at top l = go (lt_or_le at top)
    where
      lt_or_le : (a b : ℕ) → (a ≤ b) ⊎ (b ≤ a)
      lt_or_le a b = grind arith

      go : (at ≤ top) ⊎ (top ≤ at) → dealt_from source files n i at ≡ dealt_from source files n i (min at top)
      go (inl w) = ap (dealt_from source files n i) (let e : at ≡ min at top = omega arith in e)
      go (inr w) = past at (omega arith) ∙ sym (past (min at top) (omega arith))

  -- a turn of the loop
  pub dealt_step : (all : List ScanFile) (at next_at top : ℕ) → i < n → at < files → files ≤ top → at % n ≡ i → next_at ≡ min (at + n) top
      → all ++ dealt_from source files n i at ≡ dealt source files n i
      → (all ++ file_at source at ∷ []) ++ dealt_from source files n i next_at ≡ dealt source files n i
  dealt_step all at next_at top l h t e m w =
      append_assoc all (file_at source at ∷ []) (dealt_from source files n i next_at) ∙ ap (λ (x : ℕ). all ++ file_at source at ∷ dealt_from source files n i x) m
      ∙ ap (λ xs. all ++ file_at source at ∷ xs) (sym (capped (at + n) top t)) ∙ ap (λ xs. all ++ xs) (sym (next at l h e)) ∙ w

  pub own_step : (at next_at top : ℕ) → files ≤ top → at % n ≡ i → next_at ≡ min (at + n) top → next_at < files → next_at % n ≡ i
  own_step at next_at top t e m h =
      ap (λ (x : ℕ). x % n) (let k : next_at ≡ at + n = omega arith in k) ∙ add-mod_right at n ∙ e

  pub dealt_end : (all : List ScanFile) (at : ℕ) → files ≤ at → all ++ dealt_from source files n i at ≡ dealt source files n i → all ≡ dealt source files n i
  dealt_end all at l w = sym (append-nil all) ∙ ap (λ xs. all ++ xs) (sym (past at l)) ∙ w
