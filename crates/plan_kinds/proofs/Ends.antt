-- No kinds begin with more kinds than they are.
use Rattle.std.proofs.Common.{ℕ, zero, suc, ◌<◌, ◌≡◌, refl, Bool, false, List, [], ◌∷◌, length, drop, arith}
use Rattle.dfx_value.specs.declared.kind.Kind.{Kind}
use Rattle.plan_kinds.specs.Phases.{begins}
use Rattle.plan_kinds.specs.Kinds.{same_kinds}

more : (test : List Kind → List Kind → Bool) → ((k : Kind) (ks : List Kind) → test (k ∷ ks) [] ≡ false)
    → (ks left : List Kind) (i : ℕ) → i < length ks → length left ≡ 0 → test (drop i ks) left ≡ false
more test none [] left i h e = absurd (omega arith)
more test none (k ∷ ks) (l ∷ ls) i h e = absurd (omega arith)
more test none (k ∷ ks) [] zero h e = none k ks
more test none (k ∷ ks) [] (suc i) h e = more test none ks [] i (omega arith) e

pub begins_ends : (ks left : List Kind) (i : ℕ) → i < length ks → length left ≡ 0 → begins (drop i ks) left ≡ false
begins_ends = more begins (λ k ks. refl)

pub same_ends : (ks left : List Kind) (i : ℕ) → i < length ks → length left ≡ 0 → same_kinds (drop i ks) left ≡ false
same_ends = more same_kinds (λ k ks. refl)
