-- Partitions in which matching rows lie together.
use Rattle.std.proofs.Common.{ℕ, zero, suc, ◌+◌, ◌≤◌, ◌≡◌, refl, sym, ap, ◌∙◌, subst, cond, List, [], ◌∷◌, ◌++◌, Option, Bool, true, false, Err, arith}
use Rattle.std.specs.List.{sum_by, AllPass}
use Rattle.std.proofs.lemmas.List.Sums.{sum_by-append}
use Rattle.dfx_value.specs.declared.fault.ItemFault.{ItemFault}
use Rattle.dfx_value.specs.declared.op.JoinKind.{JoinKind}
use Rattle.scalar_exprs.specs.declared.expr.Expr.{Expr}
use Rattle.logical_plan.specs.Items.{Cells, Item, rows, faults}
use Rattle.logical_plan.specs.Joins.{keys_match, paired, residual, keeps_left, keeps_right, when, joined}
use Rattle.plan_props.specs.Meets.{Each}
use Rattle.content_laws.specs.Bags.{SameBag, Alike, together}
use Rattle.join_laws.specs.Joining.{join_items, AreMatched}
use Rattle.content_laws.proofs.Bags.{fails, none_fails, all_pass}
use Rattle.content_laws.proofs.Items.{rows-append, faults-append, fault_weight, faults_weigh, bag_faults, alike_rows, alike_weigh}
use Rattle.join_laws.proofs.Items.{each-append, each_more, each_all}
use Rattle.join_laws.proofs.Sides.{Nothing, when_none}
use Rattle.join_laws.proofs.Core.{weight, joined_weighs, one_join, weight_bag, weight_apart}

module _ (keys : List (ℕ × ℕ)) (rest : Option Expr) where
  unpaired : (l r : Cells) → (keys_match keys l r ≡ true → ⊥) → paired keys rest l r ≡ []
  unpaired l r h = by (keys_match keys l r) refl
    where
      by : (b : Bool) → keys_match keys l r ≡ b → cond b (residual rest (l ++ r)) [] ≡ []
      by true e = absurd (h e)
      by false e = refl

  nothing_found : (i j : ℕ) → (i ≡ j → ⊥) → (ls rs : List Cells) → Each (λ l. Each (λ r. keys_match keys l r ≡ true → i ≡ j) rs) ls → Nothing (paired keys rest) ls rs
  nothing_found i j other ls rs h =
      each_more (λ l. Each (λ r. keys_match keys l r ≡ true → i ≡ j) rs) (λ l. Each (λ r. paired keys rest l r ≡ []) rs)
      (λ l k. each_more (λ r. keys_match keys l r ≡ true → i ≡ j) (λ r. paired keys rest l r ≡ []) (λ r e. unpaired l r (λ m. other (e m))) rs k) ls h

  nothing-append : (ls rs ss : List Cells) → Nothing (paired keys rest) ls rs → Nothing (paired keys rest) ls ss → Nothing (paired keys rest) ls (rs ++ ss)
  nothing-append [] rs ss h k = tt
  nothing-append (l ∷ ls) rs ss h k = (each-append (λ r. paired keys rest l r ≡ []) rs ss h.0 k.0, nothing-append ls rs ss h.1 k.1)

  -- the left rows of the partitions before, with the right rows of this one
  before_left : (m n : ℕ) (lefts rights : ℕ → List Item) → m ≤ n → AreMatched keys (suc n) lefts rights → Nothing (paired keys rest) (rows (together m lefts)) (rows (rights n))
  before_left zero n lefts rights l h = tt
  before_left (suc m) n lefts rights l h =
      subst (λ zs. Nothing (paired keys rest) zs (rows (rights n))) (sym (rows-append (together m lefts) (lefts m)))
      (each-append (λ l. Each (λ r. paired keys rest l r ≡ []) (rows (rights n))) (rows (together m lefts)) (rows (lefts m)) (before_left m n lefts rights (omega arith) h)
      (nothing_found m n (λ e. omega arith) (rows (lefts m)) (rows (rights n)) (h m n (omega arith) (omega arith))))

  before_right : (m n : ℕ) (lefts rights : ℕ → List Item) → m ≤ n → AreMatched keys (suc n) lefts rights → Nothing (paired keys rest) (rows (lefts n)) (rows (together m rights))
  before_right zero n lefts rights l h = each_all (λ l. Each (λ r. paired keys rest l r ≡ []) []) (λ r. tt) (rows (lefts n))
  before_right (suc m) n lefts rights l h =
      subst (λ zs. Nothing (paired keys rest) (rows (lefts n)) zs) (sym (rows-append (together m rights) (rights m)))
      (nothing-append (rows (lefts n)) (rows (together m rights)) (rows (rights m)) (before_right m n lefts rights (omega arith) h)
      (nothing_found n m (λ e. omega arith) (rows (lefts n)) (rows (rights m)) (h n m (omega arith) (omega arith))))

  module _ (w : Item → ℕ) (kind : JoinKind) (left_width right_width : ℕ) where
    abbrev weighs : List Cells → List Cells → ℕ
    weighs = weight w kind left_width right_width keys rest

    abbrev faulty : List Item → ℕ
    faulty xs = sum_by (λ f. w (Err f)) (faults xs)

    faulty-append : (xs ys : List Item) → faulty (xs ++ ys) ≡ faulty xs + faulty ys
    faulty-append xs ys = ap (sum_by (λ f. w (Err f))) (faults-append xs ys) ∙ sum_by-append (λ f. w (Err f)) (faults xs) (faults ys)

    parts_weigh : (n : ℕ) (lefts rights : ℕ → List Item) → AreMatched keys n lefts rights
        → sum_by w (together n (λ i. join_items kind left_width right_width keys rest (lefts i) (rights i)))
        ≡ (faulty (together n lefts) + faulty (together n rights)) + weighs (rows (together n lefts)) (rows (together n rights))
    parts_weigh zero lefts rights h =
        let a : sum_by w (when (keeps_left kind) []) ≡ 0 = when_none w (keeps_left kind) in
        let b : sum_by w (when (keeps_right kind) []) ≡ 0 = when_none w (keeps_right kind) in
        omega arith
    parts_weigh (suc n) lefts rights h =
        let here : List Item = join_items kind left_width right_width keys rest (lefts n) (rights n) in
        let others : List Item = together n (λ i. join_items kind left_width right_width keys rest (lefts i) (rights i)) in
        let a : sum_by w (others ++ here) ≡ sum_by w others + sum_by w here = sum_by-append w others here in
        let b : sum_by w others ≡ (faulty (together n lefts) + faulty (together n rights)) + weighs (rows (together n lefts)) (rows (together n rights))
        = parts_weigh n lefts rights (λ i j l m. h i j (omega arith) (omega arith)) in
        let c : sum_by w here ≡ (faulty (lefts n) + faulty (rights n)) + weighs (rows (lefts n)) (rows (rights n))
        = one_join w kind left_width right_width keys rest (lefts n) (rights n) ∙ joined_weighs w kind left_width right_width keys rest (lefts n) (rights n) in
        let d : faulty (together n lefts ++ lefts n) ≡ faulty (together n lefts) + faulty (lefts n) = faulty-append (together n lefts) (lefts n) in
        let e : faulty (together n rights ++ rights n) ≡ faulty (together n rights) + faulty (rights n) = faulty-append (together n rights) (rights n) in
        let f : weighs (rows (together n lefts ++ lefts n)) (rows (together n rights ++ rights n)) ≡ weighs (rows (together n lefts)) (rows (together n rights)) + weighs (rows (lefts n)) (rows (rights n))
        = ap (λ zs. weighs zs (rows (together n rights ++ rights n))) (rows-append (together n lefts) (lefts n))
        ∙ (ap (λ zs. weighs (rows (together n lefts) ++ rows (lefts n)) zs) (rows-append (together n rights) (rights n))
        ∙ weight_apart w kind left_width right_width keys rest (rows (together n lefts)) (rows (lefts n)) (rows (together n rights)) (rows (rights n))
        (before_left n n lefts rights (omega arith) h) (before_right n n lefts rights (omega arith) h)) in
        omega arith

    -- all partitions, by any arrangement of their rows
    pub all_weigh : (ls rs : List Item) (n : ℕ) (lefts rights : ℕ → List Item) → SameBag (rows (together n lefts)) (rows ls) → SameBag (rows (together n rights)) (rows rs) → AreMatched keys n lefts rights
        → sum_by w (together n (λ i. join_items kind left_width right_width keys rest (lefts i) (rights i)))
        ≡ (faulty (together n lefts) + faulty (together n rights)) + weighs (rows ls) (rows rs)
    all_weigh ls rs n lefts rights h k matched =
        parts_weigh n lefts rights matched
        ∙ ap (λ m. (faulty (together n lefts) + faulty (together n rights)) + m) (weight_bag w kind left_width right_width keys rest (rows (together n lefts)) (rows ls) (rows (together n rights)) (rows rs) h k)

    pub parts_join : (ls rs : List Item) (n : ℕ) (lefts rights : ℕ → List Item) → SameBag (rows (together n lefts)) (rows ls) → SameBag (rows (together n rights)) (rows rs) → AreMatched keys n lefts rights
        → faulty (together n lefts) ≡ faulty ls → faulty (together n rights) ≡ faulty rs
        → sum_by w (together n (λ i. join_items kind left_width right_width keys rest (lefts i) (rights i))) ≡ sum_by w (joined kind left_width right_width keys rest ls rs)
    parts_join ls rs n lefts rights h k matched e f =
        all_weigh ls rs n lefts rights h k matched
        ∙ (ap (λ m. (m + faulty (together n rights)) + weighs (rows ls) (rows rs)) e
        ∙ (ap (λ m. (faulty ls + m) + weighs (rows ls) (rows rs)) f ∙ sym (joined_weighs w kind left_width right_width keys rest ls rs)))

-- ---- the laws

pub parts_alike : (kind : JoinKind) (left_width right_width : ℕ) (keys : List (ℕ × ℕ)) (rest : Option Expr) (ls rs : List Item) (n : ℕ) (lefts rights : ℕ → List Item)
    → Alike (together n lefts) ls → Alike (together n rights) rs → AreMatched keys n lefts rights
    → Alike (together n (λ i. join_items kind left_width right_width keys rest (lefts i) (rights i))) (joined kind left_width right_width keys rest ls rs)
parts_alike kind left_width right_width keys rest ls rs n lefts rights h k matched = λ w alike.
    parts_join keys rest w kind left_width right_width ls rs n lefts rights (alike_rows (together n lefts) ls h) (alike_rows (together n rights) rs k) matched
    (alike_weigh (together n lefts) ls h (λ f. w (Err f)) alike) (alike_weigh (together n rights) rs k (λ f. w (Err f)) alike)

pub parts_same : (kind : JoinKind) (left_width right_width : ℕ) (keys : List (ℕ × ℕ)) (rest : Option Expr) (ls rs : List Item) (n : ℕ) (lefts rights : ℕ → List Item)
    → SameBag (together n lefts) ls → SameBag (together n rights) rs → AreMatched keys n lefts rights
    → SameBag (together n (λ i. join_items kind left_width right_width keys rest (lefts i) (rights i))) (joined kind left_width right_width keys rest ls rs)
parts_same kind left_width right_width keys rest ls rs n lefts rights h k matched = λ w.
    parts_join keys rest w kind left_width right_width ls rs n lefts rights (alike_rows (together n lefts) ls (λ v same. h v)) (alike_rows (together n rights) rs (λ v same. k v)) matched
    (bag_faults (together n lefts) ls h (λ f. w (Err f))) (bag_faults (together n rights) rs k (λ f. w (Err f)))

pub parts_faults : (kind : JoinKind) (left_width right_width : ℕ) (keys : List (ℕ × ℕ)) (rest : Option Expr) (ls rs : List Item) (n : ℕ) (lefts rights : ℕ → List Item) (test : ItemFault → Bool)
    → Alike (together n lefts) ls → Alike (together n rights) rs → AreMatched keys n lefts rights
    → AllPass test (faults (together n lefts)) → AllPass test (faults (together n rights)) → AllPass test (faults (joined kind left_width right_width keys rest ls rs))
    → AllPass test (faults (together n (λ i. join_items kind left_width right_width keys rest (lefts i) (rights i))))
parts_faults kind left_width right_width keys rest ls rs n lefts rights test h k matched a b c =
    let given : List Item = together n (λ i. join_items kind left_width right_width keys rest (lefts i) (rights i)) in
    let meant : List Item = joined kind left_width right_width keys rest ls rs in
    let w : Item → ℕ = fault_weight (fails test) in
    let d : sum_by (fails test) (faults given) ≡ sum_by w given = faults_weigh (fails test) given in
    let e : sum_by w given ≡ (sum_by (fails test) (faults (together n lefts)) + sum_by (fails test) (faults (together n rights))) + weight w kind left_width right_width keys rest (rows ls) (rows rs)
    = all_weigh keys rest w kind left_width right_width ls rs n lefts rights (alike_rows (together n lefts) ls h) (alike_rows (together n rights) rs k) matched in
    let f : sum_by (fails test) (faults (together n lefts)) ≡ 0 = none_fails test (faults (together n lefts)) a in
    let g : sum_by (fails test) (faults (together n rights)) ≡ 0 = none_fails test (faults (together n rights)) b in
    let i : sum_by w meant ≡ (sum_by (fails test) (faults ls) + sum_by (fails test) (faults rs)) + weight w kind left_width right_width keys rest (rows ls) (rows rs) = joined_weighs w kind left_width right_width keys rest ls rs in
    let j : sum_by w meant ≡ 0 = sym (faults_weigh (fails test) meant) ∙ none_fails test (faults meant) c in
    let z : sum_by (fails test) (faults given) ≡ 0 = omega arith in
    all_pass test (faults given) z
