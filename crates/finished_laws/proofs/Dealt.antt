-- Bags of rows as rows that are dealt; and their order, where they come of one partition.
use Rattle.std.proofs.Common.{ℕ, zero, suc, ◌≡◌, ◌≤◌, inl, inr, refl, sym, ap, ◌∙◌, subst, List, [], ◌∷◌, length, get_or, map, Ok, Err, arith}
use Rattle.std.proofs.lemmas.Bool.{cases_lt}
use Rattle.std.proofs.lemmas.List.{append-nil}
use Rattle.plan_props.specs.Meets.{Row, Each, part}
use Rattle.node_laws.specs.NodeRows.{HoldsIn, Dealt, IsSubsequence as AreSomeOf}
use Rattle.logical_plan.specs.Items.{Item, rows, concat}
use Rattle.content_laws.specs.Bags.{SameBag}
use Rattle.content_laws.specs.Subsequences.{IsSubsequence}
use Rattle.plan_task_laws.proofs.Branches.{map_length}
use Rattle.node_laws.specs.Nodes.{IsWide}
use Rattle.answer_laws.specs.Kept.{KeepsOrder}
use Rattle.finished_laws.proofs.Held.{each_by, each_at, part_rows, from_bag}

pub rows_long : (xs : List (List Item)) → length (map rows xs) ≡ length xs
rows_long xs = map_length rows xs

pub past : (ys : List (List Item)) (j : ℕ) → length ys ≤ j → get_or ys j [] ≡ []
past [] j l = refl
past (y ∷ ys) zero l = absurd (omega arith)
past (y ∷ ys) (suc j) l = past ys j (omega arith)

-- ------------------------------------------------------------ where rows come from

pub bag_from : (xs : List (List Item)) (y : List Item) → SameBag y (concat xs) → Each (HoldsIn (map rows xs)) (rows y)
bag_from xs y b = each_by (HoldsIn (map rows xs)) (rows y) (from_bag xs (y ∷ []) (subst (λ zs. SameBag zs (concat xs)) (sym (append-nil y)) b) 0)

-- all rows of one list have the width of the rows that they come from
pub one_wide : (w : ℕ) (ins : List (List Row)) (out : List Row) → ((i : ℕ) → Each (IsWide w) (part ins i)) → Each (HoldsIn ins) out → (j : ℕ) → Each (IsWide w) (part (out ∷ []) j)
one_wide w ins out all from zero = each_by (IsWide w) out (λ r k. (let i = each_at (HoldsIn ins) out from r k in each_at (IsWide w) (part ins i.0) (all i.0) r i.1))
one_wide w ins out all from (suc j) = tt

-- ------------------------------------------------------------ the order of one partition

later : (rs ss : List Row) (s : Row) → AreSomeOf rs ss → AreSomeOf rs (s ∷ ss)
later [] ss s h = tt
later (r ∷ rs) ss s h = inr h

some_rows : (xs ys : List Item) → IsSubsequence xs ys → AreSomeOf (rows xs) (rows ys)
some_rows xs [] h = subst (λ zs. AreSomeOf (rows zs) []) (sym h) tt
some_rows xs (Ok r ∷ ys) (inl h) = later (rows xs) (rows ys) r (some_rows xs ys h)
some_rows xs (Ok r ∷ ys) (inr h) = subst (λ zs. AreSomeOf (rows zs) (r ∷ rows ys)) (sym h.1) (inl (refl, some_rows h.0 ys h.2))
some_rows xs (Err f ∷ ys) (inl h) = some_rows xs ys h
some_rows xs (Err f ∷ ys) (inr h) = subst (λ zs. AreSomeOf (rows zs) (rows ys)) (sym h.1) (some_rows h.0 ys h.2)

-- the one list that there is
only_rows : (xs : List (List Item)) → length xs ≡ 1 → rows (concat xs) ≡ part (map rows xs) 0
only_rows [] e = absurd (omega arith)
only_rows (x ∷ []) e = ap rows (append-nil x)
only_rows (x ∷ y ∷ xs) e = absurd (omega arith)

ordered_rows : (xs ys : List (List Item)) → KeepsOrder xs ys → length (map rows xs) ≡ 1 → (j : ℕ) → AreSomeOf (part (map rows ys) j) (part (map rows xs) 0)
ordered_rows xs ys o e j =
    let one : length xs ≡ 1 = sym (rows_long xs) ∙ e in
    subst (λ rs. AreSomeOf rs (part (map rows xs) 0)) (sym (part_rows ys j)) (elim (cases_lt j (length ys)) [
      | inl l ↦ subst (AreSomeOf (rows (get_or ys j []))) (only_rows xs one) (some_rows (get_or ys j []) (concat xs) (o one j l))
      | inr l ↦ subst (λ y. AreSomeOf (rows y) (part (map rows xs) 0)) (sym (past ys j l)) tt
    ])

-- ------------------------------------------------------------ dealt

pub dealt : (xs ys : List (List Item)) → SameBag (concat ys) (concat xs) → KeepsOrder xs ys → Dealt (length ys) (map rows xs) (map rows ys)
dealt xs ys b o = record {
  count = rows_long ys;
  from = λ j. each_by (HoldsIn (map rows xs)) (get_or (map rows ys) j []) (from_bag xs ys b j);
  none_lost = λ i. each_by (HoldsIn (map rows ys)) (get_or (map rows xs) i []) (from_bag ys xs (λ w. sym (b w)) i);
  order = ordered_rows xs ys o;
}
