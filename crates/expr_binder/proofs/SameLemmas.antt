-- Lists of unequal lengths aren't the same, place by place.
use Rattle.std.proofs.Common.{◌≡◌, ◌≢◌, refl, ap, suc, Bool, true, false, ◌&&◌, List, [], ◌∷◌, length, map}
use Rattle.sql_grammar.specs.declared.ast.ExprAst.{ExprAst}
use Rattle.expr_binder.specs.Same.{Is, all_same, arms_same}

never : (b c : Bool) → false ≡ c → false ≡ (b && c)
never true c h = h
never false c h = refl

pub uneven : (f : ExprAst → Is) (xs ys : List ExprAst) → length xs ≢ length ys → false ≡ all_same (map f xs) ys
uneven f [] [] h = absurd (h refl)
uneven f [] (y ∷ ys) h = refl
uneven f (x ∷ xs) [] h = refl
uneven f (x ∷ xs) (y ∷ ys) h = never (f x y) (all_same (map f xs) ys) (uneven f xs ys (λ e. h (ap suc e)))

pub uneven_arms : (f : ExprAst × ExprAst → Is × Is) (xs ys : List (ExprAst × ExprAst)) → length xs ≢ length ys → false ≡ arms_same (map f xs) ys
uneven_arms f [] [] h = absurd (h refl)
uneven_arms f [] (y ∷ ys) h = refl
uneven_arms f (x ∷ xs) [] h = refl
uneven_arms f (x ∷ xs) (y ∷ ys) h = never ((f x).0 y.0 && (f x).1 y.1) (arms_same (map f xs) ys) (uneven_arms f xs ys (λ e. h (ap suc e)))
