-- What the questions tell.
use Rattle.std.proofs.Common.{ℕ, zero, suc, ◌<◌, ◌≤◌, ◌≡◌, ◌≢◌, ◌⊎◌, inl, inr, refl, sym, ap, ◌∙◌, subst, List, [], ◌∷◌, length, get_or, set, eqb, Bool, true, false, ◌&&◌, not, None, arith, get_or-set_same}
use Rattle.std.proofs.Math.ListN.{length-set, get_or-eq_default}
use Rattle.task_shape.proofs.Numbers.{same_or_not, lt_or_le}
use Rattle.fair_pool.specs.Share.{Pool, held_by, can_spill}
use Rattle.core_frame.specs.Frame.{unfinished}
use Rattle.core_frame.specs.declared.place.Place.{Place}
use Rattle.core_frame.specs.declared.place.Place.TheVariants.{Woken, OwnedBy, AtGate, AtChannel, Done}
use Rattle.core_frame.specs.Step.{wake_all}
use Rattle.core_frame.proofs.Lists.{read_other}
use Rattle.run_frame.specs.Running.{OwnersStand, owner_at}

pub read_default : {A : Type 0} (xs : List A) (i : ℕ) (x d : A) → i < length xs → x ≡ get_or xs i x → x ≡ get_or xs i d
read_default [] i x d h e = absurd (omega arith)
read_default (y ∷ xs) zero x d h e = e
read_default (y ∷ xs) (suc i) x d h e = read_default xs i x d (omega arith) e

pub unfinished_inside : (ps : List Place) (t : ℕ) → unfinished (get_or ps t Done) ≡ true → t < length ps
unfinished_inside ps t e = elim (lt_or_le t (length ps)) [
  | inl h ↦ h
  | inr h ↦ (let z : false ≡ true = sym (ap unfinished (get_or-eq_default ps Done h)) ∙ e in cc)
]

-- a place is kept, or the task is woken
wake_or : (ts : List ℕ) (ps : List Place) (t : ℕ) → (get_or (wake_all ts ps) t Done ≡ get_or ps t Done) ⊎ (owner_at (get_or (wake_all ts ps) t Done) ≡ None)
wake_or [] ps t = inl refl
wake_or (x ∷ ts) ps t = elim (wake_or ts (set ps x Woken) t) [
  | inr e ↦ inr e
  | inl e ↦ after (same_or_not x t) (lt_or_le x (length ps)) e
]
  where
    after : (x ≡ t) ⊎ (x ≢ t) → (x < length ps) ⊎ (length ps ≤ x) → get_or (wake_all ts (set ps x Woken)) t Done ≡ get_or (set ps x Woken) t Done
        → (get_or (wake_all ts (set ps x Woken)) t Done ≡ get_or ps t Done) ⊎ (owner_at (get_or (wake_all ts (set ps x Woken)) t Done) ≡ None)
    after (inr n) i e = inl (e ∙ read_other ps x t Woken Done n)
    after (inl s) (inl i) e = inr (ap owner_at (e ∙ subst (λ j. get_or (set ps x Woken) j Done ≡ Woken) s (get_or-set_same ps x Woken Done i)))
    after (inl s) (inr i) e = inr (ap owner_at (e ∙ get_or-eq_default (set ps x Woken) Done (let l : length (set ps x Woken) ≡ length ps = length-set ps x Woken in let j : x ≡ t = s in omega arith)))

pub kept_owner : (queue : List ℕ) (ps : List Place) (t : ℕ) (x : Place) → OwnersStand queue ps → t < length ps → x ≡ get_or ps t x → owner_at x ≡ owner_at (get_or (wake_all queue ps) t Done)
kept_owner queue ps t x o h e = go x (read_default ps t x Done h e)
  where
    not_owned : (y : Place) → owner_at y ≡ None → y ≡ get_or ps t Done → owner_at y ≡ owner_at (get_or (wake_all queue ps) t Done)
    not_owned y n k = elim (wake_or queue ps t) [ inl a ↦ ap owner_at (k ∙ sym a) | inr b ↦ n ∙ sym b ]

    go : (y : Place) → y ≡ get_or ps t Done → owner_at y ≡ owner_at (get_or (wake_all queue ps) t Done)
    go (OwnedBy w) k = ap owner_at (sym (o t w (sym k)))
    go Woken k = not_owned Woken refl k
    go (AtGate g) k = not_owned (AtGate g) refl k
    go (AtChannel g c) k = not_owned (AtChannel g c) refl k
    go Done k = not_owned Done refl k

-- ------------------------------------------------------------ a consumer that can give back
pub gives_is : (pool : Pool) (c : ℕ) (xs : List Bool) (spills gives : Bool) (held : ℕ) (v : Bool) → pool.spillable ≡ xs → spills ≡ get_or xs c false → held ≡ held_by pool c → gives ≡ (spills && not (eqb held 0)) → gives ≡ v
    → can_spill pool c && not (eqb (held_by pool c) 0) ≡ v
gives_is pool c xs spills gives held v ex es eh eg ev =
    ap (λ b. b && not (eqb (held_by pool c) 0)) (ap (λ ys. get_or ys c false) ex ∙ sym es) ∙ (ap (λ n. spills && not (eqb n 0)) (sym eh) ∙ (sym eg ∙ ev))
