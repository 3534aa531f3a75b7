-- Fronts of lists, rows among items, and histories one step longer.
use Rattle.std.proofs.Common.{ℕ, suc, ◌≡◌, refl, sym, ap, ◌∙◌, subst, List, [], ◌∷◌, ◌++◌, length, drop, Bool, true, false, ◌||◌, None, Ok, Err, append_assoc}
use Rattle.std.proofs.lemmas.List.{append-nil, map-append, drop_at}
use Rattle.core_frame.specs.Step.{Need}
use Rattle.history_laws.specs.Histories.{Reply, Past}
use Rattle.history_laws.specs.Contents.{took_one, took}
use Rattle.history_laws.proofs.Lists.{took_more}
use Rattle.logical_plan.specs.Items.{Cells, Item, of_rows, concat}
use Rattle.tree_laws.specs.Operators.{rows_in, first_fault, IsFront}

pub of_rows-append : (xs ys : List Cells) → of_rows (xs ++ ys) ≡ of_rows xs ++ of_rows ys
of_rows-append xs ys = map-append (λ row. Ok row) xs ys

pub of_rows_long : (xs : List Cells) → length (of_rows xs) ≡ length xs
of_rows_long [] = refl
of_rows_long (x ∷ xs) = ap suc (of_rows_long xs)

-- items without a fault are their rows
pub of_rows_in : (xs : List Item) → first_fault xs ≡ None → of_rows (rows_in xs) ≡ xs
of_rows_in [] e = refl
of_rows_in (Ok x ∷ xs) e = ap (λ l. Ok x ∷ l) (of_rows_in xs e)
of_rows_in (Err x ∷ xs) e = cc

pub front_refl : {A : Type 0} (xs : List A) → IsFront xs xs
front_refl xs = ([], append-nil xs)

pub front_both : {A : Type 0} (xs ys zs : List A) → IsFront xs ys → IsFront ys zs → IsFront xs zs
front_both xs ys zs a b = (a.0 ++ b.0, sym (append_assoc xs a.0 b.0) ∙ (ap (λ l. l ++ b.0) a.1 ∙ b.1))

pub front_append : {A : Type 0} (xs ys : List A) → IsFront xs (xs ++ ys)
front_append xs ys = (ys, refl)

pub concat-append : {A : Type 0} (xs ys : List (List A)) → concat (xs ++ ys) ≡ concat xs ++ concat ys
concat-append [] ys = refl
concat-append (x ∷ xs) ys = ap (λ l. x ++ l) (concat-append xs ys) ∙ sym (append_assoc x (concat xs) (concat ys))

pub took_concat : (g c : ℕ) (past : Past (List Cells)) (n : Need (List Cells)) (x : Reply (List Cells)) → concat (took g c (past ++ (n, x) ∷ [])) ≡ concat (took g c past) ++ concat (took_one g c n x)
took_concat g c past n x = ap concat (took_more g c past n x) ∙ concat-append (took g c past) (took_one g c n x)

-- a front, and then what is left of the items
pub left_of : (gave : List Cells) (items : List Item) → IsFront (of_rows gave) items → of_rows gave ++ drop (length gave) items ≡ items
left_of gave items f = subst (λ l. of_rows gave ++ drop (length gave) l ≡ l) f.1 (ap (λ l. of_rows gave ++ l) (drop_at (of_rows gave) f.0 (length gave) (of_rows_long gave)))

pub or_left : (a b : Bool) → a ≡ true → a || b ≡ true
or_left true b e = refl
or_left false b e = cc

pub or_right : (a b : Bool) → b ≡ true → a || b ≡ true
or_right true b e = refl
or_right false b e = e

pub never : {A : Type 0} (b : Bool) → b ≡ true → b ≡ false → A
never b x y = (let z : true ≡ false = sym x ∙ y in cc)
