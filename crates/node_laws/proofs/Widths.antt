-- Rows have the width that is declared.
use Rattle.std.specs.List.{filter_map, cons_option}
use Rattle.std.proofs.Common.{ℕ, zero, suc, ◌≡◌, ◌+◌, inl, inr, refl, sym, ap, ◌∙◌, subst, cond, Option, Some, None, Ok, Err, Bool, true, false, List, [], ◌∷◌, ◌++◌, length, length-append}
use Rattle.std.proofs.lemmas.List.{length-replicate}
use Rattle.dfx_value.specs.declared.value.Value.TheVariants as value
use Rattle.dfx_value.specs.declared.op.JoinKind.{JoinKind}
use Rattle.dfx_value.specs.declared.op.JoinKind.TheVariants.{Inner, Left, Right, Full}
use Rattle.scalar_exprs.specs.declared.expr.Expr.{Expr}
use Rattle.scalar_exprs.specs.Eval.{Outcome, eval}
use Rattle.plan_props.specs.Meets.{Row, Each, part}
use Rattle.plan_props.proofs.Sound.{each_map}
use Rattle.node_laws.specs.NodeRows.{HoldsIn, by_row, is_yes, kept, values, value_before, InnerRow, LeftRow, nulls, Joined}
use Rattle.node_laws.proofs.Meetings.{part_map}
use Rattle.node_laws.specs.Rows.{RightRow, FullRow}
use Rattle.node_laws.specs.Nodes.{IsWide, AllWide, JoinRow}
use Rattle.node_laws.proofs.Weavings.{each_has}

each_kept : (g : Row → Option Row) (P Q : Row → Type 0) → ((r s : Row) → g r ≡ Some s → P r → Q s) → (rs : List Row) → Each P rs → Each Q (filter_map g rs)
each_kept g P Q f [] h = tt
each_kept g P Q f (r ∷ rs) h = go (g r) refl (each_kept g P Q f rs h.1)
  where
    go : (o : Option Row) → g r ≡ o → Each Q (filter_map g rs) → Each Q (cons_option o (filter_map g rs))
    go None e i = i
    go (Some s) e i = (f r s e h.0, i)

pub wide_by_row : (g : Row → Option Row) (w v : ℕ) (parts : List (List Row)) → ((r s : Row) → g r ≡ Some s → IsWide w r → IsWide v s) → AllWide w parts → AllWide v (by_row g parts)
wide_by_row g w v parts f h j = subst (Each (IsWide v)) (sym (part_map (filter_map g) refl parts j)) (each_kept g (IsWide w) (IsWide v) f (part parts j) (h j))

pub kept_width : (test : Expr) (w : ℕ) (r s : Row) → kept test r ≡ Some s → IsWide w r → IsWide w s
kept_width test w r s e h = go (is_yes (eval r test)) e
  where
    go : (b : Bool) → cond {A = Option Row} b (Some r) None ≡ Some s → IsWide w s
    go true e = let q : r ≡ s = cc in subst (IsWide w) q h
    go false e = cc

pub values_width : (es : List Expr) (r s : Row) → values es r ≡ Some s → IsWide (length es) s
values_width [] r s e = let q : [] ≡ s = cc in subst (IsWide 0) q refl
values_width (x ∷ es) r s e = go (λ vs q. values_width es r vs q) (eval r x) (values es r) refl e
  where
    go : ((vs : Row) → values es r ≡ Some vs → IsWide (length es) vs) → (o : Outcome) → (q : Option Row) → values es r ≡ q → value_before o q ≡ Some s → IsWide (suc (length es)) s
    go f (Ok v) (Some vs) p e = let q : v ∷ vs ≡ s = cc in subst (IsWide (suc (length es))) q (ap suc (f vs p))
    go f (Ok v) None p e = cc
    go f (Err x) q p e = cc

-- rows that all come from the inputs
pub wide_from : (w : ℕ) (ins outs : List (List Row)) → AllWide w ins → ((j : ℕ) → Each (HoldsIn ins) (part outs j)) → AllWide w outs
wide_from w ins outs h from j = each_map {P = HoldsIn ins} {Q = IsWide w} (part outs j) (λ r x. each_has (IsWide w) (part ins x.0) r (h x.0) x.1) (from j)

-- ---- joins

beside_width : (w v : ℕ) (l r s : Row) → IsWide w l → IsWide v r → s ≡ l ++ r → IsWide (w + v) s
beside_width w v l r s h i e = ap length e ∙ length-append l r ∙ ap (λ (n : ℕ). n + length r) h ∙ ap (λ (n : ℕ). w + n) i

nulls_width : (w : ℕ) → IsWide w (nulls w)
nulls_width w = length-replicate w value.Null

module _ (keys : List (ℕ × ℕ)) (w v : ℕ) (ls rs : List Row) (hl : Each (IsWide w) ls) (hr : Each (IsWide v) rs) where
  inner_width : (s : Row) → InnerRow keys ls rs s → IsWide (w + v) s
  inner_width s a = beside_width w v a.0 a.1 s (each_has (IsWide w) ls a.0 hl a.2) (each_has (IsWide v) rs a.1 hr a.3) a.5

  left_width : (s : Row) → LeftRow keys v ls rs s → IsWide (w + v) s
  left_width s (inl a) = inner_width s a
  left_width s (inr a) = beside_width w v a.0 (nulls v) s (each_has (IsWide w) ls a.0 hl a.1) (nulls_width v) a.2

  right_width : (s : Row) → RightRow keys w ls rs s → IsWide (w + v) s
  right_width s (inl a) = inner_width s a
  right_width s (inr a) = beside_width w v (nulls w) a.0 s (nulls_width w) (each_has (IsWide v) rs a.0 hr a.1) a.2

  full_width : (s : Row) → FullRow keys w v ls rs s → IsWide (w + v) s
  full_width s (inl a) = right_width s a
  full_width s (inr a) = beside_width w v a.0 (nulls v) s (each_has (IsWide w) ls a.0 hl a.1) (nulls_width v) a.2

  join_width : (kind : JoinKind) (s : Row) → JoinRow kind keys w v ls rs s → IsWide (w + v) s
  join_width Inner s a = inner_width s a
  join_width Left s a = left_width s a
  join_width Right s a = right_width s a
  join_width Full s a = full_width s a

pub joined_width : (kind : JoinKind) (keys : List (ℕ × ℕ)) (w v : ℕ) (lefts rights outs : List (List Row)) → AllWide w lefts → AllWide v rights → Joined (JoinRow kind keys w v) lefts rights outs → AllWide (w + v) outs
joined_width kind keys w v lefts rights outs hl hr o j = each_map {P = JoinRow kind keys w v (part lefts j) (part rights j)} {Q = IsWide (w + v)} (part outs j) (λ s a. join_width keys w v (part lefts j) (part rights j) (hl j) (hr j) kind s a) (o.rows j)

-- ---- unions

pub wide_append : (w : ℕ) (ps qs : List (List Row)) → AllWide w ps → AllWide w qs → AllWide w (ps ++ qs)
wide_append w [] qs h i j = i j
wide_append w (p ∷ ps) qs h i zero = h 0
wide_append w (p ∷ ps) qs h i (suc j) = wide_append w ps qs (λ k. h (suc k)) i j
