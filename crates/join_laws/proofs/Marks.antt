-- Marks of left rows that gave something.
use Rattle.std.proofs.Common.{ℕ, suc, ◌≡◌, refl, sym, ap, ◌∙◌, cond, List, [], ◌∷◌, ◌++◌, map, length, replicate, Option, Bool, true, false, not, ◌&&◌, ◌||◌, Ok}
use Rattle.std.specs.Prelude.{slice_set}
use Rattle.std.specs.List.{flat_map, fold}
use Rattle.std.proofs.lemmas.Bool.{or_right}
use Rattle.std.proofs.lemmas.List.{append_assoc, get_or_at, set_at, length-map}
use Rattle.scalar_exprs.specs.declared.expr.Expr.{Expr}
use Rattle.logical_plan.specs.Items.{Cells, Item}
use Rattle.logical_plan.specs.Joins.{keys_match, residual, paired, left_pairs, nulls, alone, left_alone}
use Rattle.tree_laws.specs.OperatorKinds.{is_empty}
use Rattle.join_laws.specs.Tables.{matches, places_of, marked, marks_after, unmarked}
use Rattle.join_laws.proofs.Found.{longer, matches_are}

-- whether there are any
abbrev pub gives_any : List Item → Bool
gives_any items = not (is_empty items)

map_same : {A B : Type 0} (f g : A → B) → ((x : A) → f x ≡ g x) → (xs : List A) → map f xs ≡ map g xs
map_same f g h [] = refl
map_same f g h (x ∷ xs) = ap (λ y. y ∷ map f xs) (h x) ∙ ap (λ ys. g x ∷ ys) (map_same f g h xs)

or_no : (b : Bool) → (b || false) ≡ b
or_no true = refl
or_no false = refl

or_assoc : (a b c : Bool) → ((a || b) || c) ≡ (a || (b || c))
or_assoc true b c = refl
or_assoc false b c = refl

-- ---- the rows of some places marked

-- marks of the rows before, and of the rows from this place on
at_places : (rest : Option Expr) (r : Cells) (test mark : Cells → Bool) (before ls : List Cells) (done : List Bool) (n : ℕ) → length before ≡ n → length done ≡ n
    → marked rest (before ++ ls) r (done ++ map mark ls) (places_of test n ls) ≡ done ++ map (λ l. mark l || (test l && gives_any (residual rest (l ++ r)))) ls
at_places rest r test mark before [] done n e f = refl
at_places rest r test mark before (l ∷ ls) done n e f =
    by (test l) (λ b.
    let more : marked rest ((before ++ l ∷ []) ++ ls) r ((done ++ b ∷ []) ++ map mark ls) (places_of test (suc n) ls) ≡ (done ++ b ∷ []) ++ after ls
    = at_places rest r test mark (before ++ l ∷ []) ls (done ++ b ∷ []) (suc n) (longer before n l e) (longer done n b f) in
    sym (ap (λ zs. marked rest zs r (done ++ b ∷ map mark ls) (places_of test (suc n) ls)) (append_assoc before (l ∷ []) ls))
    ∙ (sym (ap (λ zs. marked rest ((before ++ l ∷ []) ++ ls) r zs (places_of test (suc n) ls)) (append_assoc done (b ∷ []) (map mark ls)))
    ∙ (more ∙ append_assoc done (b ∷ []) (after ls))))
  where
    after : List Cells → List Bool
    after = map (λ l. mark l || (test l && gives_any (residual rest (l ++ r))))

    all : List Bool → List Bool
    all marks = marked rest (before ++ l ∷ ls) r marks (places_of test (suc n) ls)

    set_here : (none : Bool) → cond none (done ++ mark l ∷ map mark ls) (slice_set (done ++ mark l ∷ map mark ls) n true) ≡ done ++ (mark l || not none) ∷ map mark ls
    set_here false = set_at done (mark l) (map mark ls) true n f ∙ ap (λ b. done ++ b ∷ map mark ls) (sym (or_right (mark l) true refl))
    set_here true = ap (λ b. done ++ b ∷ map mark ls) (sym (or_no (mark l)))

    by : (b : Bool) → ((b : Bool) → all (done ++ b ∷ map mark ls) ≡ done ++ b ∷ after ls)
        → marked rest (before ++ l ∷ ls) r (done ++ mark l ∷ map mark ls) (cond b (n ∷ places_of test (suc n) ls) (places_of test (suc n) ls))
        ≡ done ++ (mark l || (b && gives_any (residual rest (l ++ r)))) ∷ after ls
    by false ih = ih (mark l) ∙ ap (λ b. done ++ b ∷ after ls) (sym (or_no (mark l)))
    by true ih =
        ap (λ row. all (cond (is_empty (residual rest (row ++ r))) (done ++ mark l ∷ map mark ls) (slice_set (done ++ mark l ∷ map mark ls) n true))) (get_or_at before l ls [] n e)
        ∙ (ap all (set_here (is_empty (residual rest (l ++ r)))) ∙ ih (mark l || gives_any (residual rest (l ++ r))))

-- ---- one right row after the other

any_found : (keys : List (ℕ × ℕ)) (rest : Option Expr) (l r : Cells) → (keys_match keys l r && gives_any (residual rest (l ++ r))) ≡ gives_any (paired keys rest l r)
any_found keys rest l r = by (keys_match keys l r)
  where
    by : (b : Bool) → (b && gives_any (residual rest (l ++ r))) ≡ gives_any (cond b (residual rest (l ++ r)) [])
    by true = refl
    by false = refl

any-append : (xs ys : List Item) → gives_any (xs ++ ys) ≡ (gives_any xs || gives_any ys)
any-append [] ys = refl
any-append (x ∷ xs) ys = refl

one_marked : (keys : List (ℕ × ℕ)) (rest : Option Expr) (ls : List Cells) (r : Cells) (mark : Cells → Bool) → marked rest ls r (map mark ls) (matches keys ls r) ≡ map (λ l. mark l || gives_any (paired keys rest l r)) ls
one_marked keys rest ls r mark =
    ap (marked rest ls r (map mark ls)) (matches_are keys ls r)
    ∙ (at_places rest r (λ l. keys_match keys l r) mark [] ls [] 0 refl refl
    ∙ map_same (λ l. mark l || (keys_match keys l r && gives_any (residual rest (l ++ r)))) (λ l. mark l || gives_any (paired keys rest l r)) (λ l. ap (λ b. mark l || b) (any_found keys rest l r)) ls)

marked_from : (keys : List (ℕ × ℕ)) (rest : Option Expr) (ls rs : List Cells) (mark : Cells → Bool) → fold (λ marks r. marked rest ls r marks (matches keys ls r)) (map mark ls) rs ≡ map (λ l. mark l || gives_any (left_pairs keys rest rs l)) ls
marked_from keys rest ls [] mark = map_same mark (λ l. mark l || false) (λ l. sym (or_no (mark l))) ls
marked_from keys rest ls (r ∷ rs) mark =
    ap (λ marks. fold (λ marks r. marked rest ls r marks (matches keys ls r)) marks rs) (one_marked keys rest ls r mark)
    ∙ (marked_from keys rest ls rs (λ l. mark l || gives_any (paired keys rest l r))
    ∙ map_same (λ l. (mark l || gives_any (paired keys rest l r)) || gives_any (left_pairs keys rest rs l)) (λ l. mark l || gives_any (paired keys rest l r ++ left_pairs keys rest rs l))
    (λ l. or_assoc (mark l) (gives_any (paired keys rest l r)) (gives_any (left_pairs keys rest rs l)) ∙ ap (λ b. mark l || b) (sym (any-append (paired keys rest l r) (left_pairs keys rest rs l)))) ls)

none_yet : (ls : List Cells) → replicate (length ls) false ≡ map (λ l. false) ls
none_yet [] = refl
none_yet (l ∷ ls) = ap (λ zs. false ∷ zs) (none_yet ls)

-- a left row is marked where some right row gave something with it
pub marks_are : (keys : List (ℕ × ℕ)) (rest : Option Expr) (ls rs : List Cells) → marks_after keys rest ls rs ≡ map (λ l. gives_any (left_pairs keys rest rs l)) ls
marks_are keys rest ls rs = ap (λ marks. fold (λ marks r. marked rest ls r marks (matches keys ls r)) marks rs) (none_yet ls) ∙ marked_from keys rest ls rs (λ l. false)

unmarked_are : (width : ℕ) (has : Cells → List Item) (ls : List Cells) → unmarked width ls (map (λ l. gives_any (has l)) ls) ≡ flat_map (λ l. alone (l ++ nulls width) (has l)) ls
unmarked_are width has [] = refl
unmarked_are width has (l ∷ ls) = by (has l) (unmarked_are width has ls)
  where
    by : (items : List Item) → unmarked width ls (map (λ l. gives_any (has l)) ls) ≡ flat_map (λ l. alone (l ++ nulls width) (has l)) ls
        → cond (gives_any items) (unmarked width ls (map (λ l. gives_any (has l)) ls)) (Ok (l ++ nulls width) ∷ unmarked width ls (map (λ l. gives_any (has l)) ls))
        ≡ alone (l ++ nulls width) items ++ flat_map (λ l. alone (l ++ nulls width) (has l)) ls
    by [] ih = ap (λ zs. Ok (l ++ nulls width) ∷ zs) ih
    by (item ∷ items) ih = ih

-- those without a mark are the rows that are padded
pub lefts_are : (keys : List (ℕ × ℕ)) (rest : Option Expr) (width : ℕ) (ls rs : List Cells) → unmarked width ls (marks_after keys rest ls rs) ≡ left_alone keys rest width ls rs
lefts_are keys rest width ls rs = ap (unmarked width ls) (marks_are keys rest ls rs) ∙ unmarked_are width (left_pairs keys rest rs) ls

pub marks-length : (keys : List (ℕ × ℕ)) (rest : Option Expr) (ls rs : List Cells) → length (marks_after keys rest ls rs) ≡ length ls
marks-length keys rest ls rs = ap length (marks_are keys rest ls rs) ∙ length-map ls (λ l. gives_any (left_pairs keys rest rs l))
