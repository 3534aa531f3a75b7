-- Fields that stand in kept bytes, when more is kept.
use Rattle.std.proofs.Common.{All, ◌≡◌, refl, ℕ, zero, suc, ◌-◌, ◌≤◌, ◌<◌, List, [], ◌∷◌, ◌++◌, length, drop, get_or, ap, sym, ◌∙◌, arith}
use Rattle.std.specs.Prelude.{slice_range}
use Rattle.std.proofs.lemmas.List.{take_all, length-drop, take-append-le}
use Rattle.csv_records.specs.Cursors.{fields_in, Lies}
use Rattle.csv_records.specs.Windows.{Begins}
use Rattle.csv_records.specs.declared.span.Span.{Span}
use Rattle.csv_records.proofs.WindowSteps.{part_of_front}

same_field : (xs ys : List ℕ) (s : Span) → Begins xs ys → Lies (length xs) s → slice_range ys s.from s.to ≡ slice_range xs s.from s.to
same_field xs ys s b h = sym (part_of_front ys s.from s.to (length xs) h.order h.within) ∙ ap (λ (zs : List ℕ). slice_range zs s.from s.to) b.is

-- what is kept longer has the same fields
pub fields_kept : (xs ys : List ℕ) (spans : List Span) (m : ℕ) → Begins xs ys → All (Lies m) spans → m ≤ length xs
    → fields_in ys spans ≡ fields_in xs spans
fields_kept xs ys [] m b h l = refl
fields_kept xs ys (s ∷ spans) m b h l =
    let lies : Lies m s = h 0 s (omega arith) in
    let first : slice_range ys s.from s.to ≡ slice_range xs s.from s.to =
    same_field xs ys s b (record { order = lies.order; within = omega (arith, lies.within) }) in
    let rest : fields_in ys spans ≡ fields_in xs spans = fields_kept xs ys spans m b (λ k d o. h (suc k) d (omega arith)) l in
    cc

pub begins-append : (xs ys : List ℕ) → Begins xs (xs ++ ys)
begins-append xs ys = record { is = take-append-le (length xs) xs ys (omega arith) ∙ take_all (length xs) xs (omega arith) }

pub begins_itself : (xs : List ℕ) → Begins xs xs
begins_itself xs = record { is = take_all (length xs) xs (omega arith) }

-- one field more
pub lies_more : (m n : ℕ) (spans : List Span) (s : Span) → m ≤ n → All (Lies m) spans → Lies n s → All (Lies n) (spans ++ s ∷ [])
lies_more m n [] s h l k zero d o = k
lies_more m n [] s h l k (suc i) d o = absurd (omega arith)
lies_more m n (t ∷ ts) s h l k zero d o = let lies : Lies m t = l 0 t (omega arith) in record { order = lies.order; within = omega (arith, lies.within) }
lies_more m n (t ∷ ts) s h l k (suc i) d o = lies_more m n ts s h (λ j e p. l (suc j) e (omega arith)) k i d (omega arith)

pub lies_wider : (m n : ℕ) (spans : List Span) → m ≤ n → All (Lies m) spans → All (Lies n) spans
lies_wider m n spans h l k d o = let lies : Lies m (get_or spans k d) = l k d o in record { order = lies.order; within = omega (arith, lies.within) }

pub no_lies : (m : ℕ) → All (Lies m) []
no_lies m k d o = absurd (omega arith)

pub fields-push : (xs : List ℕ) (spans : List Span) (s : Span) → fields_in xs (spans ++ s ∷ []) ≡ fields_in xs spans ++ slice_range xs s.from s.to ∷ []
fields-push xs [] s = refl
fields-push xs (t ∷ ts) s = ap (λ (fs : List (List ℕ)). slice_range xs t.from t.to ∷ fs) (fields-push xs ts s)

-- the bytes from a place on are those up to the end
pub last_field : (xs : List ℕ) (i : ℕ) → slice_range xs i (length xs) ≡ drop i xs
last_field xs i = take_all (length xs - i) (drop i xs) (omega (arith, length-drop i xs))

pub field_at : (xs : List ℕ) (spans : List Span) (i : ℕ) (d : Span) → i < length spans
    → get_or (fields_in xs spans) i [] ≡ slice_range xs (get_or spans i d).from (get_or spans i d).to
field_at xs [] i d h = absurd (omega arith)
field_at xs (s ∷ spans) zero d h = refl
field_at xs (s ∷ spans) (suc i) d h = field_at xs spans i d (omega arith)

pub ruleset span_steps = (fields_kept, begins-append, begins_itself, lies_more, lies_wider, no_lies, fields-push, last_field, field_at)
