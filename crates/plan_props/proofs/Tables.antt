-- Tables of leaders, step by step.
use Rattle.std.proofs.Common.{ℕ, zero, suc, ◌+◌, ◌<◌, ◌≤◌, ◌≡◌, ◌≢◌, ◌⊎◌, inl, inr, refl, sym, ap, ◌∙◌, Bool, true, false, ◌&&◌, List, [], ◌∷◌, length, get_or, drop, cond, eqb, arith}
use Rattle.std.proofs.lemmas.Bool.Decides.{eqb_tells}
use Rattle.plan_props.specs.Same.{leader, is_same, are_same_in_place}
use Rattle.plan_props.specs.Leaders.{pair_at, replaced, AllBelow}

below_rest : (w : ℕ) (p : ℕ × ℕ) (ps : List (ℕ × ℕ)) → AllBelow w (p ∷ ps) → AllBelow w ps
below_rest w p ps h = record { left = λ k l. h.left (suc k) (omega arith); right = λ k l. h.right (suc k) (omega arith) }

pub leader_below : (w : ℕ) (ps : List (ℕ × ℕ)) (a : ℕ) → AllBelow w ps → a < w → leader ps a < w
unfolding leader
leader_below w [] a h l = l
leader_below w (p ∷ ps) a h l = go (eqb (leader ps a) (leader ps p.1)) (leader_below w ps a (below_rest w p ps h) l) (leader_below w ps p.0 (below_rest w p ps h) (h.left 0 (omega arith)))
  where
    go : (b : Bool) → leader ps a < w → leader ps p.0 < w → cond b (leader ps p.0) (leader ps a) < w
    go true x y = y
    go false x y = x

pub leader_past : (w : ℕ) (ps : List (ℕ × ℕ)) (a : ℕ) → AllBelow w ps → w ≤ a → leader ps a ≡ a
unfolding leader
leader_past w [] a h l = refl
leader_past w (p ∷ ps) a h l = go (eqb_tells (leader ps a) (leader ps p.1)) (leader_past w ps a (below_rest w p ps h) l) (leader_below w ps p.1 (below_rest w p ps h) (h.right 0 (omega arith)))
  where
    go : ((eqb (leader ps a) (leader ps p.1) ≡ true) × (leader ps a ≡ leader ps p.1)) ⊎ ((eqb (leader ps a) (leader ps p.1) ≡ false) × (leader ps a ≢ leader ps p.1)) → leader ps a ≡ a → leader ps p.1 < w → cond (eqb (leader ps a) (leader ps p.1)) (leader ps p.0) (leader ps a) ≡ a
    go (inl w) x y = absurd (omega arith)
    go (inr w) x y = rw w.0 x

pub leader_none : (a : ℕ) → leader [] a ≡ a
unfolding leader
leader_none a = refl

pub leader_all : (ps : List (ℕ × ℕ)) (a : ℕ) → leader (drop (length ps) ps) a ≡ a
unfolding leader
leader_all [] a = refl
leader_all (p ∷ ps) a = leader_all ps a

pub leader_first : (ps : List (ℕ × ℕ)) (a : ℕ) → leader (drop 0 ps) a ≡ leader ps a
leader_first ps a = refl

pub leader_step : (ps : List (ℕ × ℕ)) (i a : ℕ) → i < length ps → leader (drop i ps) a ≡ replaced (leader (drop (i + 1) ps) (pair_at ps i).1) (leader (drop (i + 1) ps) (pair_at ps i).0) (leader (drop (i + 1) ps) a)
unfolding leader
leader_step [] i a h = absurd (omega arith)
leader_step (p ∷ ps) zero a h = refl
leader_step (p ∷ ps) (suc i) a h = let e : suc i + 1 ≡ suc (i + 1) = omega arith in rw e (leader_step ps i a (omega arith))

pub places_differ : (ps : List (ℕ × ℕ)) (keys cs : List ℕ) → length keys ≢ length cs → are_same_in_place ps keys cs ≡ false
places_differ ps [] [] h = absurd (h refl)
places_differ ps [] (c ∷ cs) h = refl
places_differ ps (k ∷ keys) [] h = refl
places_differ ps (k ∷ keys) (c ∷ cs) h = go (is_same ps k c) (places_differ ps keys cs (λ e. h (ap suc e)))
  where
    go : (b : Bool) → are_same_in_place ps keys cs ≡ false → b && are_same_in_place ps keys cs ≡ false
    go true e = e
    go false e = refl

pub at_any : (xs : List ℕ) (i x : ℕ) → i < length xs → x ≡ get_or xs i x → x ≡ get_or xs i 0
at_any [] i x h e = absurd (omega arith)
at_any (y ∷ xs) zero x h e = e
at_any (y ∷ xs) (suc i) x h e = at_any xs i x (omega arith) e

pub leaders_step : (ps : List (ℕ × ℕ)) (i w : ℕ) (old new : List ℕ) (from to : ℕ) → i < length ps → AllBelow w ps → ((k : ℕ) → k < w → get_or old k 0 ≡ leader (drop (i + 1) ps) k) → from ≡ get_or old (pair_at ps i).1 0 → to ≡ get_or old (pair_at ps i).0 0 → ((k : ℕ) → k < w → get_or new k 0 ≡ replaced from to (get_or old k 0)) → (k : ℕ) → k < w → get_or new k 0 ≡ leader (drop i ps) k
leaders_step ps i w old new from to l b h f t n k m =
    n k m
    ∙ ap (λ (x : ℕ). replaced from to x) (h k m)
    ∙ ap (λ (x : ℕ). replaced x to (leader (drop (i + 1) ps) k)) (f ∙ h (pair_at ps i).1 (b.right i l))
    ∙ ap (λ (x : ℕ). replaced (leader (drop (i + 1) ps) (pair_at ps i).1) x (leader (drop (i + 1) ps) k)) (t ∙ h (pair_at ps i).0 (b.left i l))
    ∙ sym (leader_step ps i k l)
