-- A column and its leader: chains, and rows whose pairs hold.
use Rattle.std.proofs.Common.{ℕ, ◌≡◌, ◌≢◌, ◌⊎◌, inl, inr, refl, sym, ap, ◌∙◌, Bool, true, false, List, [], ◌∷◌, subst, cond, eqb}
use Rattle.std.proofs.lemmas.Bool.{eqb-true, eq-eqb}
use Rattle.std.proofs.lemmas.Bool.Decides.{eqb_tells}
use Rattle.dfx_value.specs.Rows.{cell}
use Rattle.plan_props.specs.Same.{Touches, Chain, itself, longer, leader, is_same}
use Rattle.plan_props.specs.Meets.{Row, Equals, PairsHold}
use Rattle.plan_props.proofs.Cells.{same_itself, same_back, same_on}

-- ---- chains

touches_back : (ps : List (ℕ × ℕ)) (a b : ℕ) → Touches ps a b → Touches ps b a
touches_back [] a b h = absurd h
touches_back (p ∷ ps) a b (inl w) = inr (inl w)
touches_back (p ∷ ps) a b (inr (inl w)) = inl w
touches_back (p ∷ ps) a b (inr (inr w)) = inr (inr (touches_back ps a b w))

chain_on : (ps : List (ℕ × ℕ)) (a b c : ℕ) → Chain ps a b → Chain ps b c → Chain ps a c
chain_on ps a b c h itself = h
chain_on ps a b c h (longer i t) = longer (chain_on ps a b _ h i) t

wider : (p : ℕ × ℕ) (ps : List (ℕ × ℕ)) (a b : ℕ) → Chain ps a b → Chain (p ∷ ps) a b
wider p ps a b itself = itself
wider p ps a b (longer h t) = longer (wider p ps a _ h) (inr (inr t))

chain_back : (ps : List (ℕ × ℕ)) (a b : ℕ) → Chain ps a b → Chain ps b a
chain_back ps a b itself = itself
chain_back ps a b (longer {b = m} h t) = chain_on ps b m a (longer itself (touches_back ps m b t)) (chain_back ps a m h)

pub chain_leader : (ps : List (ℕ × ℕ)) (a : ℕ) → Chain ps a (leader ps a)
unfolding leader
chain_leader [] a = itself
chain_leader (p ∷ ps) a = go (eqb_tells (leader ps a) (leader ps p.1)) (chain_leader ps a) (chain_leader ps p.0) (chain_leader ps p.1)
  where
    go : ((eqb (leader ps a) (leader ps p.1) ≡ true) × (leader ps a ≡ leader ps p.1)) ⊎ ((eqb (leader ps a) (leader ps p.1) ≡ false) × (leader ps a ≢ leader ps p.1)) → Chain ps a (leader ps a) → Chain ps p.0 (leader ps p.0) → Chain ps p.1 (leader ps p.1) → Chain (p ∷ ps) a (cond (eqb (leader ps a) (leader ps p.1)) (leader ps p.0) (leader ps a))
    go (inr w) x y z = rw w.0 (wider p ps a (leader ps a) x)
    go (inl w) x y z =
        let to_one : Chain ps a (leader ps p.1) = subst (λ (m : ℕ). Chain ps a m) w.1 x in
        let at_one : Chain ps a p.1 = chain_on ps a (leader ps p.1) p.1 to_one (chain_back ps p.1 (leader ps p.1) z) in
        let over : Chain (p ∷ ps) a p.0 = longer (wider p ps a p.1 at_one) (inr (inl (refl, refl))) in
        rw w.0 (chain_on (p ∷ ps) a p.0 (leader ps p.0) over (wider p ps p.0 (leader ps p.0) y))

same_either : (t : Bool) (x : ℕ) → cond t x x ≡ x
same_either true x = refl
same_either false x = refl

pair_leader : (p : ℕ × ℕ) (ps : List (ℕ × ℕ)) → leader (p ∷ ps) p.0 ≡ leader (p ∷ ps) p.1
unfolding leader
pair_leader p ps = same_either (eqb (leader ps p.0) (leader ps p.1)) (leader ps p.0) ∙ sym (rw (eq-eqb (leader ps p.1) (leader ps p.1) refl) refl)

touches_leader : (ps : List (ℕ × ℕ)) (a b : ℕ) → Touches ps a b → leader ps a ≡ leader ps b
unfolding leader
touches_leader [] a b h = absurd h
touches_leader (p ∷ ps) a b (inl w) = ap (leader (p ∷ ps)) (sym w.0) ∙ pair_leader p ps ∙ ap (leader (p ∷ ps)) w.1
touches_leader (p ∷ ps) a b (inr (inl w)) = sym (ap (leader (p ∷ ps)) (sym w.0) ∙ pair_leader p ps ∙ ap (leader (p ∷ ps)) w.1)
touches_leader (p ∷ ps) a b (inr (inr w)) = ap (λ (x : ℕ). cond (eqb x (leader ps p.1)) (leader ps p.0) x) (touches_leader ps a b w)

pub leader_chain : (ps : List (ℕ × ℕ)) (a b : ℕ) → Chain ps a b → leader ps a ≡ leader ps b
leader_chain ps a b itself = refl
leader_chain ps a b (longer {b = m} h t) = leader_chain ps a m h ∙ touches_leader ps m b t

pub same_chain : (ps : List (ℕ × ℕ)) (a b : ℕ) → is_same ps a b ≡ true → Chain ps a b
same_chain ps a b h =
    let e = eqb-true (leader ps a) (leader ps b) h in
    chain_on ps a (leader ps b) b (subst (λ (m : ℕ). Chain ps a m) e (chain_leader ps a)) (chain_back ps b (leader ps b) (chain_leader ps b))

pub chain_same : (ps : List (ℕ × ℕ)) (a b : ℕ) → Chain ps a b → is_same ps a b ≡ true
chain_same ps a b h = eq-eqb (leader ps a) (leader ps b) (leader_chain ps a b h)

-- ---- rows

module _ (r : Row) where
  touches_cells : (ps : List (ℕ × ℕ)) (a b : ℕ) → PairsHold ps r → Touches ps a b → Equals (cell r a) (cell r b)
  touches_cells [] a b h t = absurd t
  touches_cells (p ∷ ps) a b h (inl w) = subst (λ (m : ℕ). Equals (cell r m) (cell r b)) w.0 (subst (λ (m : ℕ). Equals (cell r p.0) (cell r m)) w.1 h.0.0)
  touches_cells (p ∷ ps) a b h (inr (inl w)) = same_back (cell r b) (cell r a) (subst (λ (m : ℕ). Equals (cell r m) (cell r a)) w.0 (subst (λ (m : ℕ). Equals (cell r p.0) (cell r m)) w.1 h.0.0))
  touches_cells (p ∷ ps) a b h (inr (inr w)) = touches_cells ps a b h.1 w

  chain_cells : (ps : List (ℕ × ℕ)) (a b : ℕ) → PairsHold ps r → Chain ps a b → Equals (cell r a) (cell r b)
  chain_cells ps a b h itself = same_itself (cell r a)
  chain_cells ps a b h (longer {b = m} c t) = same_on (cell r a) (cell r m) (cell r b) (chain_cells ps a m h c) (touches_cells ps m b h t)

  pub same_cells : (ps : List (ℕ × ℕ)) (a b : ℕ) → PairsHold ps r → is_same ps a b ≡ true → Equals (cell r a) (cell r b)
  same_cells ps a b h e = chain_cells ps a b h (same_chain ps a b e)
