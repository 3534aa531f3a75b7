-- Rows that lists hold, one by one.
use Rattle.std.specs.List.{list_any}
use Rattle.std.proofs.Common.{ℕ, zero, suc, ◌≡◌, ◌⊎◌, inl, inr, refl, sym, ap, ◌∙◌, subst, List, [], ◌∷◌, ◌++◌, get_or, map, Bool, true, false, ◌||◌, Ok, Err}
use Rattle.std.proofs.lemmas.Bool.{false≢true}
use Rattle.plan_props.specs.Meets as rows_of
use Rattle.plan_props.specs.Meets.{Row}
use Rattle.node_laws.specs.NodeRows.{Holds, HoldsIn}
use Rattle.logical_plan.specs.Items.{Cells, Item, rows, concat}
use Rattle.content_laws.specs.Bags.{SameBag}
use Rattle.sort_laws.proofs.Identity.{items, items_exact}
use Rattle.sort_laws.proofs.Bags.{bag_any}

pub each_by : (P : Row → Type 0) (rs : List Row) → ((r : Row) → Holds rs r → P r) → rows_of.Each P rs
each_by P [] h = tt
each_by P (r ∷ rs) h = (h r (inl refl), each_by P rs (λ s i. h s (inr i)))

pub each_at : (P : Row → Type 0) (rs : List Row) → rows_of.Each P rs → (r : Row) → Holds rs r → P r
each_at P [] h r i = absurd i
each_at P (s ∷ rs) h r i = elim i [
  | inl e ↦ subst P e h.0
  | inr j ↦ each_at P rs h.1 r j
]

-- the rows of a partition
pub part_rows : (xs : List (List Item)) (j : ℕ) → get_or (map rows xs) j [] ≡ rows (get_or xs j [])
part_rows [] j = refl
part_rows (x ∷ xs) zero = refl
part_rows (x ∷ xs) (suc j) = part_rows xs j

either : (a b : Bool) → a || b ≡ true → (a ≡ true) ⊎ (b ≡ true)
either true b h = inl refl
either false b h = inr h

or_right : (a b : Bool) → b ≡ true → a || b ≡ true
or_right true b h = refl
or_right false b h = h

or_left : (a b : Bool) → a ≡ true → a || b ≡ true
or_left true b h = refl
or_left false b h = absurd (false≢true h)

-- an item is there
abbrev pub is_there : Cells → List Item → Bool
is_there r xs = list_any (items (Ok r)) xs

pub there : (r : Cells) (xs : List Item) → Holds (rows xs) r → is_there r xs ≡ true
there r [] h = absurd h
there r (Ok s ∷ xs) h = elim h [
  | inl e ↦ or_left (items (Ok r) (Ok s)) (is_there r xs) (subst (λ (x : Cells). items (Ok r) (Ok x) ≡ true) (sym e) (items_exact.own (Ok r)))
  | inr i ↦ or_right (items (Ok r) (Ok s)) (is_there r xs) (there r xs i)
]
there r (Err g ∷ xs) h = there r xs h

abbrev row_in : Item → Cells → Cells
row_in (Ok s) r = s
row_in (Err g) r = r

pub held : (r : Cells) (xs : List Item) → is_there r xs ≡ true → Holds (rows xs) r
held r [] h = absurd (false≢true h)
held r (Ok s ∷ xs) h = elim (either (items (Ok r) (Ok s)) (is_there r xs) h) [
  | inl e ↦ inl (sym (ap (λ x. row_in x r) (items_exact.same (Ok r) (Ok s) e)))
  | inr i ↦ inr (held r xs i)
]
held r (Err g ∷ xs) h = held r xs h

pub bag_holds : (xs ys : List Item) → SameBag ys xs → (r : Cells) → Holds (rows ys) r → Holds (rows xs) r
bag_holds xs ys b r h = held r xs (sym (bag_any (items (Ok r)) ys xs b) ∙ there r ys h)

rows-append : (xs ys : List Item) → rows (xs ++ ys) ≡ rows xs ++ rows ys
rows-append [] ys = refl
rows-append (Ok r ∷ xs) ys = ap (λ rs. r ∷ rs) (rows-append xs ys)
rows-append (Err g ∷ xs) ys = rows-append xs ys

pub in_front : (xs ys : List Item) (r : Cells) → Holds (rows xs) r → Holds (rows (xs ++ ys)) r
in_front [] ys r h = absurd h
in_front (Ok s ∷ xs) ys r h = elim h [
  | inl e ↦ inl e
  | inr i ↦ inr (in_front xs ys r i)
]
in_front (Err g ∷ xs) ys r h = in_front xs ys r h

pub in_back : (xs ys : List Item) (r : Cells) → Holds (rows ys) r → Holds (rows (xs ++ ys)) r
in_back [] ys r h = h
in_back (Ok s ∷ xs) ys r h = inr (in_back xs ys r h)
in_back (Err g ∷ xs) ys r h = in_back xs ys r h

pub apart : (xs ys : List Item) (r : Cells) → Holds (rows (xs ++ ys)) r → Holds (rows xs) r ⊎ Holds (rows ys) r
apart [] ys r h = inr h
apart (Ok s ∷ xs) ys r h = elim h [
  | inl e ↦ inl (inl e)
  | inr i ↦ elim (apart xs ys r i) [
    | inl a ↦ inl (inr a)
    | inr b ↦ inr b
  ]
]
apart (Err g ∷ xs) ys r h = apart xs ys r h

pub in_all : (xs : List (List Item)) (j : ℕ) (r : Cells) → Holds (rows (get_or xs j [])) r → Holds (rows (concat xs)) r
in_all [] j r h = absurd h
in_all (x ∷ xs) zero r h = in_front x (concat xs) r h
in_all (x ∷ xs) (suc j) r h = in_back x (concat xs) r (in_all xs j r h)

pub in_some : (xs : List (List Item)) (r : Cells) → Holds (rows (concat xs)) r → HoldsIn (map rows xs) r
in_some [] r h = absurd h
in_some (x ∷ xs) r h = elim (apart x (concat xs) r h) [
  | inl a ↦ (0, a)
  | inr b ↦ (let i = in_some xs r b in (suc i.0, i.1))
]

-- rows of partitions that are one bag with others
pub from_bag : (xs ys : List (List Item)) → SameBag (concat ys) (concat xs) → (j : ℕ) (r : Cells) → Holds (get_or (map rows ys) j []) r → HoldsIn (map rows xs) r
from_bag xs ys b j r h = in_some xs r (bag_holds (concat xs) (concat ys) b r (in_all ys j r (subst (λ rs. Holds rs r) (part_rows ys j) h)))
