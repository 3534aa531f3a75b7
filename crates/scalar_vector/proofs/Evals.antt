-- An expression on rows, constructor by constructor, from its parts on the rows that they are asked for.
use Rattle.std.proofs.Common.{◌≡◌, refl, ℕ, ◌+◌, ◌≤◌, ◌<◌, Bool, true, false, not, Option, Some, None, List, [], ◌∷◌, ◌++◌, Result, Ok, Err, map, take, drop, length, get_or, ap, sym, ◌∙◌}
use Rattle.std.specs.Prelude.{if◌then◌else◌, replicate}
use Rattle.std.proofs.lemmas.List.{map-append}
use Rattle.scalar_vector.proofs.Loops.{at-drop, drop-all}
use Rattle.dfx_value.specs.Checked.{◌>>=◌}
use Rattle.dfx_value.specs.Rows.{cell}
use Rattle.dfx_value.specs.declared.kind.Kind.{Kind}
use Rattle.dfx_value.specs.declared.op.Op.{Op}
use Rattle.dfx_value.specs.declared.value.Value.{Value}
use Rattle.dfx_value.specs.declared.value.Value.TheVariants as value
use Rattle.dfx_value.specs.declared.fault.EvalFault.{EvalFault}
use Rattle.scalar_exprs.specs.declared.expr.Expr.{Expr}
use Rattle.scalar_exprs.specs.declared.expr.Expr.TheVariants.{Column, Const, Not, Neg, IsNull, Binary, Case, Coalesce, Cast, Abs, Length}
use Rattle.scalar_exprs.specs.Functions.{Outcome, operated}
use Rattle.scalar_exprs.specs.Truth.{is_true, is_null}
use Rattle.scalar_exprs.specs.Eval.{eval, or_else}
use Rattle.scalar_exprs.specs.Steps.{of_arms, coalesced}
use Rattle.scalar_exprs.proofs.EvalLemmas.{eval-Column, eval-Const, eval-Not, eval-Neg, eval-IsNull, eval-Binary, eval-Case, eval-Coalesce, eval-Cast, eval-Abs, eval-Length}
use Rattle.scalar_vector.specs.declared.unary.Unary.TheVariants as unary
use Rattle.scalar_vector.specs.Steps.{applied}
use Rattle.scalar_vector.specs.Fronts.{Front, before, front, row_at, evals}
use Rattle.scalar_vector.specs.Woven.{followed, paired, marked, unmarked, Level, joined, rebuilt}
use Rattle.scalar_vector.specs.Arms.{arm_level, part_level, left_by}
use Rattle.scalar_vector.proofs.Fronts.{front_agree, front-unary, front-binary, front-parted, front-settled, rebuilt-snoc}

front-values : {A : Type 0} (f : A → Value) (xs : List A) → front (map (λ x. Ok (f x)) xs) ≡ record { values = map f xs; fault = None }
front-values f [] = refl
front-values f (x ∷ xs) = ap (before (Ok (f x))) (front-values f xs)

pub map_constant : {A : Type 0} (v : Value) (xs : List A) → map (λ _. v) xs ≡ replicate (length xs) v
map_constant v [] = refl
map_constant v (x ∷ xs) = ap (λ (l : List Value). v ∷ l) (map_constant v xs)

pub evals-Column : (rs : List (List Value)) (ps : List ℕ) (k : ℕ) → evals rs ps (Column k) ≡ record { values = map (λ p. cell (row_at rs p) k) ps; fault = None }
unfolding evals
evals-Column rs ps k = front_agree (λ p. eval (row_at rs p) (Column k)) (λ p. Ok (cell (row_at rs p) k)) (λ p. eval-Column (row_at rs p) k) ps
    ∙ front-values (λ p. cell (row_at rs p) k) ps

pub evals-Const : (rs : List (List Value)) (ps : List ℕ) (v : Value) (kind : Kind) → evals rs ps (Const v kind) ≡ record { values = replicate (length ps) v; fault = None }
unfolding evals
evals-Const rs ps v kind = front_agree (λ p. eval (row_at rs p) (Const v kind)) (λ p. Ok v) (λ p. eval-Const (row_at rs p) v kind) ps
    ∙ front-values (λ p. v) ps ∙ ap (λ (l : List Value). record { values = l; fault = None }) (map_constant v ps)

on_one : (rs : List (List Value)) (ps : List ℕ) (e a : Expr) (h : Value → Outcome) → ((row : List Value) → eval row e ≡ (eval row a >>= h))
    → evals rs ps e ≡ followed (front (map h (evals rs ps a).values)) (evals rs ps a).fault
unfolding evals
on_one rs ps e a h same = front_agree (λ p. eval (row_at rs p) e) (λ p. eval (row_at rs p) a >>= h) (λ p. same (row_at rs p)) ps
    ∙ front-unary (λ p. eval (row_at rs p) a) h ps

pub evals-Not : (rs : List (List Value)) (ps : List ℕ) (a : Expr) → evals rs ps (Not a) ≡ followed (front (map (applied unary.Not) (evals rs ps a).values)) (evals rs ps a).fault
evals-Not rs ps a = on_one rs ps (Not a) a (applied unary.Not) (λ row. eval-Not row a)

pub evals-Neg : (rs : List (List Value)) (ps : List ℕ) (a : Expr) → evals rs ps (Neg a) ≡ followed (front (map (applied unary.Neg) (evals rs ps a).values)) (evals rs ps a).fault
evals-Neg rs ps a = on_one rs ps (Neg a) a (applied unary.Neg) (λ row. eval-Neg row a)

pub evals-IsNull : (rs : List (List Value)) (ps : List ℕ) (a : Expr) → evals rs ps (IsNull a) ≡ followed (front (map (applied unary.IsNull) (evals rs ps a).values)) (evals rs ps a).fault
evals-IsNull rs ps a = on_one rs ps (IsNull a) a (applied unary.IsNull) (λ row. eval-IsNull row a)

pub evals-Cast : (rs : List (List Value)) (ps : List ℕ) (a : Expr) (kind : Kind) → evals rs ps (Cast a kind) ≡ followed (front (map (applied (unary.Cast kind)) (evals rs ps a).values)) (evals rs ps a).fault
evals-Cast rs ps a kind = on_one rs ps (Cast a kind) a (applied (unary.Cast kind)) (λ row. eval-Cast row a kind)

pub evals-Abs : (rs : List (List Value)) (ps : List ℕ) (a : Expr) → evals rs ps (Abs a) ≡ followed (front (map (applied unary.Abs) (evals rs ps a).values)) (evals rs ps a).fault
evals-Abs rs ps a = on_one rs ps (Abs a) a (applied unary.Abs) (λ row. eval-Abs row a)

pub evals-Length : (rs : List (List Value)) (ps : List ℕ) (a : Expr) → evals rs ps (Length a) ≡ followed (front (map (applied unary.Length) (evals rs ps a).values)) (evals rs ps a).fault
evals-Length rs ps a = on_one rs ps (Length a) a (applied unary.Length) (λ row. eval-Length row a)

pub evals-Binary : (rs : List (List Value)) (ps : List ℕ) (op : Op) (a b : Expr)
    → evals rs ps (Binary op a b) ≡ paired (operated op) (evals rs ps a) (evals rs (take (length (evals rs ps a).values) ps) b)
unfolding evals
evals-Binary rs ps op a b = front_agree (λ p. eval (row_at rs p) (Binary op a b)) (λ p. eval (row_at rs p) a >>= λ v. eval (row_at rs p) b >>= λ w. operated op v w) (λ p. eval-Binary (row_at rs p) op a b) ps
    ∙ front-binary (λ p. eval (row_at rs p) a) (λ p. eval (row_at rs p) b) (operated op) ps

-- CASE arm by arm

no-arm : (row : List Value) (other : Expr) → eval row (Case [] other) ≡ eval row other
no-arm row other = eval-Case row [] other

arm-result : (r o : Outcome) → ((r >>= λ v. Ok (Some v)) >>= λ found. or_else found o) ≡ r
arm-result (Ok v) o = refl
arm-result (Err e) o = refl

arm-choice : (b : Bool) (r o : Outcome) (rest : Result (Option Value) EvalFault)
    → ((if b then (r >>= λ v. Ok (Some v)) else rest) >>= λ found. or_else found o) ≡ (if b then r else (rest >>= λ found. or_else found o))
arm-choice true r o rest = arm-result r o
arm-choice false r o rest = refl

arm-test : (t r o : Outcome) (rest : Result (Option Value) EvalFault)
    → ((t >>= λ v. if is_true v then (r >>= λ w. Ok (Some w)) else rest) >>= λ found. or_else found o)
    ≡ (t >>= λ v. if is_true v then r else (rest >>= λ found. or_else found o))
arm-test (Ok v) r o rest = arm-choice (is_true v) r o rest
arm-test (Err e) r o rest = refl

an-arm : (row : List Value) (arm : Expr × Expr) (arms : List (Expr × Expr)) (other : Expr)
    → eval row (Case (arm ∷ arms) other) ≡ (eval row arm.0 >>= λ v. if is_true v then eval row arm.1 else eval row (Case arms other))
an-arm row arm arms other = eval-Case row (arm ∷ arms) other ∙ arm-test (eval row arm.0) (eval row arm.1) (eval row other) (of_arms row arms)
    ∙ ap (λ (o : Outcome). eval row arm.0 >>= λ v. if is_true v then eval row arm.1 else o) (sym (eval-Case row arms other))

pub evals-no-arm : (rs : List (List Value)) (ps : List ℕ) (other : Expr) → evals rs ps (Case [] other) ≡ evals rs ps other
unfolding evals
evals-no-arm rs ps other = front_agree (λ p. eval (row_at rs p) (Case [] other)) (λ p. eval (row_at rs p) other) (λ p. no-arm (row_at rs p) other) ps

pub evals-arm : (rs : List (List Value)) (ps : List ℕ) (arm : Expr × Expr) (arms : List (Expr × Expr)) (other : Expr)
    → evals rs ps (Case (arm ∷ arms) other) ≡ joined (arm_level rs ps arm) (evals rs (left_by (arm_level rs ps arm) ps) (Case arms other))
unfolding evals
evals-arm rs ps arm arms other = front_agree (λ p. eval (row_at rs p) (Case (arm ∷ arms) other))
    (λ p. eval (row_at rs p) arm.0 >>= λ v. if is_true v then eval (row_at rs p) arm.1 else eval (row_at rs p) (Case arms other)) (λ p. an-arm (row_at rs p) arm arms other) ps
    ∙ front-parted (λ p. eval (row_at rs p) arm.0) (λ p. eval (row_at rs p) arm.1) (λ p. eval (row_at rs p) (Case arms other)) is_true ps

-- COALESCE part by part

part-value : (v : Value) (b : Bool) (rest : Outcome) → (if b then rest else Ok v) ≡ (if not b then Ok v else rest)
part-value v true rest = refl
part-value v false rest = refl

part-choice : (o rest : Outcome) → (o >>= λ v. if is_null v then rest else Ok v) ≡ (o >>= λ v. if not (is_null v) then Ok v else rest)
part-choice (Ok v) rest = part-value v (is_null v) rest
part-choice (Err e) rest = refl

a-part : (row : List Value) (part : Expr) (parts : List Expr)
    → eval row (Coalesce (part ∷ parts)) ≡ (eval row part >>= λ v. if not (is_null v) then Ok v else eval row (Coalesce parts))
a-part row part parts = eval-Coalesce row (part ∷ parts) ∙ part-choice (eval row part) (coalesced row parts)
    ∙ ap (λ (o : Outcome). eval row part >>= λ v. if not (is_null v) then Ok v else o) (sym (eval-Coalesce row parts))

pub evals-no-part : (rs : List (List Value)) (ps : List ℕ) → evals rs ps (Coalesce []) ≡ record { values = replicate (length ps) value.Null; fault = None }
unfolding evals
evals-no-part rs ps = front_agree (λ p. eval (row_at rs p) (Coalesce [])) (λ p. Ok value.Null) (λ p. eval-Coalesce (row_at rs p) []) ps
    ∙ front-values (λ p. value.Null) ps ∙ ap (λ (l : List Value). record { values = l; fault = None }) (map_constant value.Null ps)

pub evals-part : (rs : List (List Value)) (ps : List ℕ) (part : Expr) (parts : List Expr)
    → evals rs ps (Coalesce (part ∷ parts)) ≡ joined (part_level rs ps part) (evals rs (left_by (part_level rs ps part) ps) (Coalesce parts))
unfolding evals
evals-part rs ps part parts = front_agree (λ p. eval (row_at rs p) (Coalesce (part ∷ parts)))
    (λ p. eval (row_at rs p) part >>= λ v. if not (is_null v) then Ok v else eval (row_at rs p) (Coalesce parts)) (λ p. a-part (row_at rs p) part parts) ps
    ∙ front-settled (λ p. eval (row_at rs p) part) (λ p. eval (row_at rs p) (Coalesce parts)) (λ v. not (is_null v)) ps

pub ruleset levels = (evals-Column, evals-Const, evals-Not, evals-Neg, evals-IsNull, evals-Cast, evals-Abs, evals-Length, evals-Binary)

-- the loops

level-is : (rs : List (List Value)) (ps : List ℕ) (arm : Expr × Expr) (tests taken : Front) (marks : List Bool) (chosen : List ℕ)
    → tests ≡ evals rs ps arm.0 → marks ≡ map is_true tests.values → chosen ≡ marked marks ps → taken ≡ evals rs chosen arm.1
    → record { marks = marks; ended = tests.fault; taken = taken } ≡ arm_level rs ps arm
level-is rs ps arm tests taken marks chosen t m k r =
    ap (λ (f : Front). record { marks = marks; ended = tests.fault; taken = f }) r
    ∙ ap (λ (l : List ℕ). record { marks = marks; ended = tests.fault; taken = evals rs l arm.1 }) k
    ∙ ap (λ (l : List Bool). record { marks = l; ended = tests.fault; taken = evals rs (marked l ps) arm.1 }) m
    ∙ ap (λ (f : Front). record { marks = map is_true f.values; ended = f.fault; taken = evals rs (marked (map is_true f.values) ps) arm.1 }) t

arms-move : (ls : List Level) (l : Level) (rs : List (List Value)) (left next : List ℕ) (arms : List (Expr × Expr)) (i : ℕ) (arm : Expr × Expr) (other : Expr) (whole : Front)
    → i < length arms → arm ≡ get_or arms i arm → l ≡ arm_level rs left arm → next ≡ unmarked l.marks left
    → rebuilt ls (evals rs left (Case (drop i arms) other)) ≡ whole
    → rebuilt (ls ++ l ∷ []) (evals rs next (Case (drop (i + 1) arms) other)) ≡ whole
arms-move ls l rs left next arms i arm other whole within here level rest e =
    rebuilt-snoc ls l (evals rs next (Case (drop (i + 1) arms) other))
    ∙ ap (λ (ps : List ℕ). rebuilt ls (joined l (evals rs ps (Case (drop (i + 1) arms) other)))) rest
    ∙ ap (λ (k : Level). rebuilt ls (joined k (evals rs (unmarked k.marks left) (Case (drop (i + 1) arms) other)))) level
    ∙ ap (rebuilt ls) (sym (evals-arm rs left arm (drop (i + 1) arms) other))
    ∙ ap (λ (a : Expr × Expr). rebuilt ls (evals rs left (Case (a ∷ drop (i + 1) arms) other))) here
    ∙ ap (λ (as' : List (Expr × Expr)). rebuilt ls (evals rs left (Case as' other))) (sym (at-drop arms i arm within)) ∙ e

pub arms-step : {X : Type 0} (f : X → Level) (ls new : List X) (l : X) (rs : List (List Value)) (left here : List ℕ) (arms : List (Expr × Expr)) (i : ℕ) (arm : Expr × Expr)
    (tests taken : Front) (marks : List Bool) (chosen next : List ℕ) (other : Expr) (whole : Front)
    → i < length arms → arm ≡ get_or arms i arm → here ≡ left
    → tests ≡ evals rs here arm.0 → marks ≡ map is_true tests.values → chosen ≡ marked marks here → next ≡ unmarked marks here → taken ≡ evals rs chosen arm.1
    → f l ≡ record { marks = marks; ended = tests.fault; taken = taken } → new ≡ ls ++ l ∷ []
    → rebuilt (map f ls) (evals rs left (Case (drop i arms) other)) ≡ whole → rebuilt (map f new) (evals rs next (Case (drop (i + 1) arms) other)) ≡ whole
arms-step f ls new l rs left here arms i arm tests taken marks chosen next other whole within item same t m k n r level pushed e =
    ap (λ (xs : List _). rebuilt (map f xs) (evals rs next (Case (drop (i + 1) arms) other))) pushed
    ∙ ap (λ (ks : List Level). rebuilt ks (evals rs next (Case (drop (i + 1) arms) other))) (map-append f ls (l ∷ []))
    ∙ arms-move (map f ls) (f l) rs here next arms i arm other whole within item
    (level ∙ level-is rs here arm tests taken marks chosen t m k r) (n ∙ ap (λ (j : Level). unmarked j.marks here) (sym level))
    (ap (λ (ps : List ℕ). rebuilt (map f ls) (evals rs ps (Case (drop i arms) other))) same ∙ e)

parts-move : (ls : List Level) (l : Level) (rs : List (List Value)) (left next : List ℕ) (parts : List Expr) (i : ℕ) (part : Expr) (whole : Front)
    → i < length parts → part ≡ get_or parts i part → l ≡ part_level rs left part → next ≡ left_by (part_level rs left part) left
    → rebuilt ls (evals rs left (Coalesce (drop i parts))) ≡ whole
    → rebuilt (ls ++ l ∷ []) (evals rs next (Coalesce (drop (i + 1) parts))) ≡ whole
parts-move ls l rs left next parts i part whole within here level rest e =
    rebuilt-snoc ls l (evals rs next (Coalesce (drop (i + 1) parts)))
    ∙ ap (λ (k : Level). rebuilt ls (joined k (evals rs next (Coalesce (drop (i + 1) parts))))) level
    ∙ ap (λ (ps : List ℕ). rebuilt ls (joined (part_level rs left part) (evals rs ps (Coalesce (drop (i + 1) parts))))) rest
    ∙ ap (rebuilt ls) (sym (evals-part rs left part (drop (i + 1) parts)))
    ∙ ap (λ (a : Expr). rebuilt ls (evals rs left (Coalesce (a ∷ drop (i + 1) parts)))) here
    ∙ ap (λ (as' : List Expr). rebuilt ls (evals rs left (Coalesce as'))) (sym (at-drop parts i part within)) ∙ e

pub parts-step : {X : Type 0} (f : X → Level) (ls new : List X) (l : X) (rs : List (List Value)) (left here next : List ℕ) (parts : List Expr) (i : ℕ) (part : Expr) (whole : Front)
    → i < length parts → part ≡ get_or parts i part → here ≡ left → f l ≡ part_level rs here part → next ≡ left_by (part_level rs here part) here → new ≡ ls ++ l ∷ []
    → rebuilt (map f ls) (evals rs left (Coalesce (drop i parts))) ≡ whole
    → rebuilt (map f new) (evals rs next (Coalesce (drop (i + 1) parts))) ≡ whole
parts-step f ls new l rs left here next parts i part whole within item same level rest pushed e =
    ap (λ (xs : List _). rebuilt (map f xs) (evals rs next (Coalesce (drop (i + 1) parts)))) pushed
    ∙ ap (λ (ks : List Level). rebuilt ks (evals rs next (Coalesce (drop (i + 1) parts)))) (map-append f ls (l ∷ []))
    ∙ parts-move (map f ls) (f l) rs here next parts i part whole within item level rest
    (ap (λ (ps : List ℕ). rebuilt (map f ls) (evals rs ps (Coalesce (drop i parts)))) same ∙ e)

pub arms-end : (ls : List Level) (rs : List (List Value)) (left : List ℕ) (arms : List (Expr × Expr)) (i : ℕ) (other : Expr) (whole : Front) → length arms ≤ i
    → rebuilt ls (evals rs left (Case (drop i arms) other)) ≡ whole → rebuilt ls (evals rs left other) ≡ whole
arms-end ls rs left arms i other whole end e = ap (rebuilt ls) (sym (evals-no-arm rs left other))
    ∙ ap (λ (as' : List (Expr × Expr)). rebuilt ls (evals rs left (Case as' other))) (sym (drop-all arms i end)) ∙ e

pub parts-end : (ls : List Level) (rs : List (List Value)) (left here : List ℕ) (parts : List Expr) (i n : ℕ) (whole : Front) → length parts ≤ i → n ≡ length here → here ≡ left
    → rebuilt ls (evals rs left (Coalesce (drop i parts))) ≡ whole → rebuilt ls (record { values = replicate n value.Null; fault = None }) ≡ whole
parts-end ls rs left here parts i n whole end many same e =
    ap (λ (m : ℕ). rebuilt ls (record { values = replicate m value.Null; fault = None })) (many ∙ ap length same)
    ∙ ap (rebuilt ls) (sym (evals-no-part rs left))
    ∙ ap (λ (as' : List Expr). rebuilt ls (evals rs left (Coalesce as'))) (sym (drop-all parts i end)) ∙ e

-- a column

pub map_agree : (f g : ℕ → Value) → ((p : ℕ) → f p ≡ g p) → (ps : List ℕ) → map f ps ≡ map g ps
map_agree f g same [] = refl
map_agree f g same (p ∷ ps) = let here = same p in let rest = map_agree f g same ps in cc
