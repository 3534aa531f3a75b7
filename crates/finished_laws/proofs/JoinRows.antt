-- Each row of a join is a pair of rows that match, or a row of a kept side with NULLs.
use Rattle.std.specs.List.{flat_map}
use Rattle.std.proofs.Common.{ℕ, ◌≡◌, inl, inr, refl, sym, subst, List, [], ◌∷◌, ◌++◌, Bool, true, false, ◌&&◌, not, Option, Some, None, Ok, Err, cond}
use Rattle.std.proofs.lemmas.Bool.{not-true}
use Rattle.dfx_value.specs.declared.fault.ItemFault.{ItemFault}
use Rattle.dfx_value.specs.declared.op.JoinKind.{JoinKind}
use Rattle.dfx_value.specs.declared.op.JoinKind.TheVariants.{Inner, Left, Right, Full}
use Rattle.dfx_value.specs.Order.{value_cmp}
use Rattle.dfx_value.specs.Rows.{cell}
use Rattle.node_laws.specs.NodeRows.{Holds, InnerRow, Matches}
use Rattle.node_laws.specs.Nodes.{JoinRow}
use Rattle.scalar_exprs.specs.declared.expr.Expr.{Expr}
use Rattle.scalar_exprs.specs.Eval.{Outcome, eval}
use Rattle.scalar_exprs.specs.Groups.{same_value}
use Rattle.scalar_exprs.specs.Truth.{is_null, is_true}
use Rattle.logical_plan.specs.Items.{Cells, Item, rows, faults, of_faults, tested}
use Rattle.logical_plan.specs.Joins.{cells_match, keys_match, residual, paired, left_pairs, right_pairs, pairs, alone, left_alone, right_alone, nulls, keeps_left, keeps_right, when, joined}
use Rattle.answer_laws.proofs.Meaning.{both_true}
use Rattle.finished_laws.proofs.Held.{apart}
use Rattle.finished_laws.proofs.Delivered.{equal_value}

pub no_rows : (fs : List ItemFault) (xs : List Item) → rows (of_faults fs ++ xs) ≡ rows xs
no_rows [] xs = refl
no_rows (f ∷ fs) xs = no_rows fs xs

in_flat : (F : Cells → List Item) (ls : List Cells) (s : Cells) → Holds (rows (flat_map F ls)) s → (l : Cells) × Holds ls l × Holds (rows (F l)) s
in_flat F [] s i = absurd i
in_flat F (l ∷ ls) s i = elim (apart (F l) (flat_map F ls) s i) [
  | inl a ↦ (l, inl refl, a)
  | inr b ↦ (let r = in_flat F ls s b in (r.0, inr r.1, r.2))
]

-- ------------------------------------------------------------ pairs

matched : (keys : List (ℕ × ℕ)) (l r : Cells) → keys_match keys l r ≡ true → Matches keys l r
matched [] l r h = tt
matched (k ∷ ks) l r h =
    let b = both_true (cells_match (cell l k.0) (cell r k.1)) (keys_match ks l r) h in
    let c = both_true (not (is_null (cell l k.0)) && not (is_null (cell r k.1))) (same_value (cell l k.0) (cell r k.1)) b.0 in
    let d = both_true (not (is_null (cell l k.0))) (not (is_null (cell r k.1))) c.0 in
    (equal_value (value_cmp (cell l k.0) (cell r k.1)) c.1, not-true (is_null (cell l k.0)) d.0, matched ks l r b.1)

tested_row : (row : Cells) (o : Outcome) (s : Cells) → Holds (rows (tested row o)) s → row ≡ s
tested_row row (Ok v) s i = by (is_true v) i
  where
    by : (b : Bool) → Holds (rows (cond b (Ok row ∷ []) [])) s → row ≡ s
    by true j = elim j [ inl e ↦ e | inr k ↦ absurd k ]
    by false j = absurd j
tested_row row (Err f) s i = absurd i

residual_row : (rest : Option Expr) (row s : Cells) → Holds (rows (residual rest row)) s → row ≡ s
residual_row None row s i = elim i [ inl e ↦ e | inr k ↦ absurd k ]
residual_row (Some test) row s i = tested_row row (eval row test) s i

pair_row : (keys : List (ℕ × ℕ)) (rest : Option Expr) (l r s : Cells) → Holds (rows (paired keys rest l r)) s → Matches keys l r × (s ≡ l ++ r)
pair_row keys rest l r s i = by (keys_match keys l r) refl i
  where
    by : (b : Bool) → keys_match keys l r ≡ b → Holds (rows (cond b (residual rest (l ++ r)) [])) s → Matches keys l r × (s ≡ l ++ r)
    by true e j = (matched keys l r e, sym (residual_row rest (l ++ r) s j))
    by false e j = absurd j

inner : (keys : List (ℕ × ℕ)) (rest : Option Expr) (ls rs : List Cells) (s : Cells) → Holds (rows (pairs keys rest ls rs)) s → InnerRow keys ls rs s
inner keys rest ls rs s i =
    let a = in_flat (left_pairs keys rest rs) ls s i in
    let b = in_flat (paired keys rest a.0) rs s a.2 in
    let c = pair_row keys rest a.0 b.0 s b.2 in
    (a.0, b.0, a.1, b.1, c.0, c.1)

-- ------------------------------------------------------------ kept rows

alone_row : (padded : Cells) (found : List Item) (s : Cells) → Holds (rows (alone padded found)) s → s ≡ padded
alone_row padded [] s i = elim i [ inl e ↦ sym e | inr k ↦ absurd k ]
alone_row padded (x ∷ found) s i = absurd i

abbrev LeftAlone : ℕ → List Cells → Cells → Type 0
LeftAlone v ls s = (l : Cells) × Holds ls l × (s ≡ l ++ nulls v)

abbrev RightAlone : ℕ → List Cells → Cells → Type 0
RightAlone w rs s = (r : Cells) × Holds rs r × (s ≡ nulls w ++ r)

lefts : (keys : List (ℕ × ℕ)) (rest : Option Expr) (v : ℕ) (ls rs : List Cells) (s : Cells) → Holds (rows (left_alone keys rest v ls rs)) s → LeftAlone v ls s
lefts keys rest v ls rs s i =
    let a = in_flat (λ l. alone (l ++ nulls v) (left_pairs keys rest rs l)) ls s i in
    (a.0, a.1, alone_row (a.0 ++ nulls v) (left_pairs keys rest rs a.0) s a.2)

rights : (keys : List (ℕ × ℕ)) (rest : Option Expr) (w : ℕ) (ls rs : List Cells) (s : Cells) → Holds (rows (right_alone keys rest w ls rs)) s → RightAlone w rs s
rights keys rest w ls rs s i =
    let a = in_flat (λ r. alone (nulls w ++ r) (right_pairs keys rest ls r)) rs s i in
    (a.0, a.1, alone_row (nulls w ++ a.0) (right_pairs keys rest ls a.0) s a.2)

module _ (w v : ℕ) (keys : List (ℕ × ℕ)) (rest : Option Expr) (ls rs : List Cells) (s : Cells) where
  abbrev P : List Item
  P = pairs keys rest ls rs

  abbrev L : List Item
  L = left_alone keys rest v ls rs

  abbrev R : List Item
  R = right_alone keys rest w ls rs

  of_pair : (kind : JoinKind) → InnerRow keys ls rs s → JoinRow kind keys w v ls rs s
  of_pair Inner a = a
  of_pair Left a = inl a
  of_pair Right a = inl a
  of_pair Full a = inl (inl a)

  of_left : (kind : JoinKind) → Holds (rows (when (keeps_left kind) L)) s → JoinRow kind keys w v ls rs s
  of_left Inner a = absurd a
  of_left Left a = inr (lefts keys rest v ls rs s a)
  of_left Right a = absurd a
  of_left Full a = inr (lefts keys rest v ls rs s a)

  of_right : (kind : JoinKind) → Holds (rows (when (keeps_right kind) R)) s → JoinRow kind keys w v ls rs s
  of_right Inner a = absurd a
  of_right Left a = absurd a
  of_right Right a = inr (rights keys rest w ls rs s a)
  of_right Full a = inl (inr (rights keys rest w ls rs s a))

pub join_row : (kind : JoinKind) (w v : ℕ) (keys : List (ℕ × ℕ)) (rest : Option Expr) (ls rs : List Item) (s : Cells) → Holds (rows (joined kind w v keys rest ls rs)) s → JoinRow kind keys w v (rows ls) (rows rs) s
join_row kind w v keys rest ls rs s i =
    let fs = of_faults (faults ls) in
    let gs = of_faults (faults rs) in
    let p = pairs keys rest (rows ls) (rows rs) in
    let l = when (keeps_left kind) (left_alone keys rest v (rows ls) (rows rs)) in
    let r = when (keeps_right kind) (right_alone keys rest w (rows ls) (rows rs)) in
    elim (apart (fs ++ gs ++ p ++ l) r s i) [
      | inl a ↦ elim (apart (fs ++ gs ++ p) l s a) [
        | inl b ↦ elim (apart (fs ++ gs) p s b) [
          | inl c ↦ absurd (none (faults rs) s (subst (λ xs. Holds xs s) (no_rows (faults ls) gs) c))
          | inr d ↦ of_pair w v keys rest (rows ls) (rows rs) s kind (inner keys rest (rows ls) (rows rs) s d)
        ]
        | inr b ↦ of_left w v keys rest (rows ls) (rows rs) s kind b
      ]
      | inr a ↦ of_right w v keys rest (rows ls) (rows rs) s kind a
    ]
  where
    none : (hs : List ItemFault) (s : Cells) → Holds (rows (of_faults hs)) s → ⊥
    none [] s i = i
    none (g ∷ hs) s i = none hs s i
