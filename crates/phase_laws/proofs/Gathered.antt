-- Rows that are gathered by their keys lie apart.
use Rattle.std.proofs.Common.{ℕ, ◌<◌, ◌≡◌, refl, sym, ◌∙◌, subst, List, [], ◌∷◌, Bool, true, false, not, ◌||◌, arith}
use Rattle.std.specs.Prelude.{slice_index_or}
use Rattle.std.specs.List.{list_any}
use Rattle.std.specs.Cmp.{Equal-is}
use Rattle.std.proofs.lemmas.Bool.{true≢false, and_parts}
use Rattle.dfx_value.specs.Order.{value_cmp}
use Rattle.dfx_value.specs.declared.value.Value.{Value}
use Rattle.dfx_value.specs.Rows.{cells_at}
use Rattle.scalar_exprs.specs.Groups.{same_keys, same_value}
use Rattle.logical_plan.specs.Items.{Cells, Item, rows}
use Rattle.logical_plan.specs.Groups.{alike}
use Rattle.phase_laws.specs.Phases.{AreApart}
use Rattle.content_laws.specs.Bags.{row_parts}
use Rattle.plan_props.specs.Meets.{AllEqual, Each as EachRow, Gathers, Hashing, Delivers}
use Rattle.physical_plan.specs.Needs.{group_need}
use Rattle.phase_laws.proofs.Bags.{Each}
use Rattle.content_laws.proofs.Items.{length-row_parts, row_parts_at}
use Rattle.phase_laws.proofs.Distinct.{all_from}

all_equal : (a b : List Value) → same_keys a b ≡ true → AllEqual a b
all_equal [] [] e = tt
all_equal (x ∷ xs) (y ∷ ys) e = let p = and_parts (same_value x y) (same_keys xs ys) e in ((Equal-is (value_cmp x y)).0 p.0, all_equal xs ys p.1)
all_equal [] (y ∷ ys) e = absurd (true≢false (sym e))
all_equal (x ∷ xs) [] e = absurd (true≢false (sym e))

none_of : (keys : List ℕ) (i j : ℕ) → (i ≡ j → ⊥) → (r : Cells) (ys : List Cells) → EachRow (λ s. AllEqual (cells_at keys r) (cells_at keys s) → i ≡ j) ys → not (list_any (alike keys r) ys) ≡ true
none_of keys i j other r [] h = refl
none_of keys i j other r (s ∷ ss) h = by (alike keys r s) refl (none_of keys i j other r ss h.1)
  where
    by : (b : Bool) → alike keys r s ≡ b → not (list_any (alike keys r) ss) ≡ true → not (b || list_any (alike keys r) ss) ≡ true
    by true e ih = absurd (other (h.0 (all_equal (cells_at keys r) (cells_at keys s) e)))
    by false e ih = ih

each_apart : (keys : List ℕ) (i j : ℕ) → (i ≡ j → ⊥) → (xs ys : List Cells) → EachRow (λ r. EachRow (λ s. AllEqual (cells_at keys r) (cells_at keys s) → i ≡ j) ys) xs → Each (λ r. not (list_any (alike keys r) ys)) xs
each_apart keys i j other [] ys h = tt
each_apart keys i j other (r ∷ rs) ys h = (none_of keys i j other r ys h.0, each_apart keys i j other rs ys h.1)

pub gathered : (column : ℕ) (columns : List ℕ) (n : ℕ) (parts : ℕ → List Item) → Gathers (column ∷ columns) n (row_parts n parts) → AreApart (column ∷ columns) n parts
gathered column columns n parts h = λ i j l m. all_from _ (rows (parts i)) (each_apart (column ∷ columns) i j (λ e. omega arith) (rows (parts i)) (rows (parts j)) (lying i j l m))
  where
    LieTogether : ℕ → ℕ → List Cells → List Cells → Type 0
    LieTogether i j xs ys = EachRow (λ r. EachRow (λ s. AllEqual (cells_at (column ∷ columns) r) (cells_at (column ∷ columns) s) → i ≡ j) ys) xs

    lying : (i j : ℕ) → i < j → j < n → LieTogether i j (rows (parts i)) (rows (parts j))
    lying i j l m =
        subst (LieTogether i j (rows (parts i))) (row_parts_at n j parts m)
        (subst (λ zs. LieTogether i j zs (slice_index_or (row_parts n parts) j [])) (row_parts_at n i parts (omega arith)) (h.together i j))

-- what a second phase needs of its input
pub needed : (h : Hashing) (keys : List ℕ) (n : ℕ) (parts : ℕ → List Item) → Delivers h (group_need keys n) (row_parts n parts) → AreApart keys n parts
needed h [] n parts e = sym (length-row_parts n parts) ∙ e
needed h (column ∷ columns) n parts e = gathered column columns n parts e
