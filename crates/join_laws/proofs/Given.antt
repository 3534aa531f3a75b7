-- What holds of each row that a join gives.
use Rattle.std.proofs.Common.{ℕ, ◌≡◌, refl, sym, subst, cond, List, [], ◌∷◌, ◌++◌, Option, Some, None, Bool, true, false, Ok, Err}
use Rattle.std.specs.List.{flat_map}
use Rattle.dfx_value.specs.declared.fault.ItemFault.{ItemFault}
use Rattle.dfx_value.specs.declared.op.JoinKind.{JoinKind}
use Rattle.scalar_exprs.specs.declared.expr.Expr.{Expr}
use Rattle.scalar_exprs.specs.Eval.{Outcome, eval}
use Rattle.scalar_exprs.specs.Truth.{is_true}
use Rattle.logical_plan.specs.Items.{Cells, Item, rows, faults, of_faults, tested}
use Rattle.logical_plan.specs.Joins.{keys_match, residual, paired, left_pairs, right_pairs, nulls, alone, left_alone, keeps_left, keeps_right, when}
use Rattle.plan_props.specs.Meets.{Each}
use Rattle.join_laws.specs.Joining.{probe, last, join_items}
use Rattle.content_laws.proofs.Items.{rows-append}
use Rattle.join_laws.proofs.Items.{each-append}

module _ (P : Cells → Type 0) where
  abbrev pub EachGiven : List Item → Type 0
  EachGiven items = Each P (rows items)

  given-append : (xs ys : List Item) → EachGiven xs → EachGiven ys → EachGiven (xs ++ ys)
  given-append xs ys h k = subst (Each P) (sym (rows-append xs ys)) (each-append P (rows xs) (rows ys) h k)

  given_faults : (fs : List ItemFault) → EachGiven (of_faults fs)
  given_faults [] = tt
  given_faults (f ∷ fs) = given_faults fs

  given_all : (Q : Cells → Type 0) (f : Cells → List Item) → ((x : Cells) → Q x → EachGiven (f x)) → (xs : List Cells) → Each Q xs → EachGiven (flat_map f xs)
  given_all Q f h [] e = tt
  given_all Q f h (x ∷ xs) e = given-append (f x) (flat_map f xs) (h x e.0) (given_all Q f h xs e.1)

  given_tested : (row : Cells) (o : Outcome) → P row → EachGiven (tested row o)
  given_tested row (Err f) h = tt
  given_tested row (Ok v) h = by (is_true v)
    where
      by : (b : Bool) → EachGiven (cond b (Ok row ∷ []) [])
      by true = (h, tt)
      by false = tt

  given_rest : (rest : Option Expr) (row : Cells) → P row → EachGiven (residual rest row)
  given_rest None row h = (h, tt)
  given_rest (Some test) row h = given_tested row (eval row test) h

  given_pair : (keys : List (ℕ × ℕ)) (rest : Option Expr) (l r : Cells) → (keys_match keys l r ≡ true → P (l ++ r)) → EachGiven (paired keys rest l r)
  given_pair keys rest l r h = by (keys_match keys l r) refl
    where
      by : (b : Bool) → keys_match keys l r ≡ b → EachGiven (cond b (residual rest (l ++ r)) [])
      by true e = given_rest rest (l ++ r) (h e)
      by false e = tt

  given_alone : (padded : Cells) (found : List Item) → P padded → EachGiven (alone padded found)
  given_alone padded [] h = (h, tt)
  given_alone padded (x ∷ xs) h = tt

  given_when : (b : Bool) (items : List Item) → (b ≡ true → EachGiven items) → EachGiven (when b items)
  given_when true items h = h refl
  given_when false items h = tt

  -- a row is that of a pair, or a padded row of a kept side
  module _ (Q S : Cells → Type 0) (kind : JoinKind) (left_width right_width : ℕ) (keys : List (ℕ × ℕ)) (rest : Option Expr)
      (pair : (l r : Cells) → Q l → S r → keys_match keys l r ≡ true → P (l ++ r))
      (left : keeps_left kind ≡ true → (l : Cells) → Q l → P (l ++ nulls right_width))
      (right : keeps_right kind ≡ true → (r : Cells) → S r → P (nulls left_width ++ r)) where
    given_right : (ls : List Cells) (r : Cells) → Each Q ls → S r → EachGiven (right_pairs keys rest ls r)
    given_right ls r h k = given_all Q (λ l. paired keys rest l r) (λ l q. given_pair keys rest l r (pair l r q k)) ls h

    given_probes : (ls rs : List Item) → Each Q (rows ls) → Each S (rows rs) → EachGiven (flat_map (probe kind left_width keys rest ls) rs)
    given_probes ls [] h k = tt
    given_probes ls (Err f ∷ rs) h k = given_probes ls rs h k
    given_probes ls (Ok r ∷ rs) h k =
        let padded : List Item = alone (nulls left_width ++ r) (right_pairs keys rest (rows ls) r) in
        given-append (right_pairs keys rest (rows ls) r ++ when (keeps_right kind) padded) (flat_map (probe kind left_width keys rest ls) rs)
        (given-append (right_pairs keys rest (rows ls) r) (when (keeps_right kind) padded) (given_right (rows ls) r h k.0)
        (given_when (keeps_right kind) padded (λ e. given_alone (nulls left_width ++ r) (right_pairs keys rest (rows ls) r) (right e r k.0))))
        (given_probes ls rs h k.1)

    pub given : (ls rs : List Item) → Each Q (rows ls) → Each S (rows rs) → EachGiven (join_items kind left_width right_width keys rest ls rs)
    given ls rs h k =
        given-append (flat_map (probe kind left_width keys rest ls) rs) (last kind right_width keys rest ls rs) (given_probes ls rs h k)
        (given-append (when (keeps_left kind) (left_alone keys rest right_width (rows ls) (rows rs))) (of_faults (faults ls))
        (given_when (keeps_left kind) (left_alone keys rest right_width (rows ls) (rows rs))
        (λ e. given_all Q (λ l. alone (l ++ nulls right_width) (left_pairs keys rest (rows rs) l)) (λ l q. given_alone (l ++ nulls right_width) (left_pairs keys rest (rows rs) l) (left e l q)) (rows ls) h))
        (given_faults (faults ls)))
