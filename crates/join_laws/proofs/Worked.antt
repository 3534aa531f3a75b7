-- Worked cases of joins, by computing.
use Rattle.std.proofs.Common.{◌≡◌, refl, arith, ◌+◌, ◌<◌, ℕ, pos, zero, suc, true, false, List, [], ◌∷◌, ◌++◌, Some, None, Ok, Err}
use Rattle.dfx_value.specs.Order.{value_cmp}
use Rattle.dfx_value.specs.Decimal.{units, at_scale}
use Rattle.dfx_value.specs.declared.fault.EvalFault.TheVariants.{Overflow, DivideByZero}
use Rattle.dfx_value.specs.declared.fault.ItemFault.TheVariants.{Evaluation}
use Rattle.dfx_value.specs.declared.op.JoinKind.TheVariants.{Left, Full}
use Rattle.dfx_value.specs.declared.value.Value.{Value}
use Rattle.dfx_value.specs.declared.value.Value.TheVariants.{Null, Bool, Int, Dec}
use Rattle.scalar_exprs.specs.declared.expr.Expr.{Expr}
use Rattle.scalar_exprs.specs.Eval.{eval}
use Rattle.logical_plan.specs.Items.{Cells, Item, rows}
use Rattle.logical_plan.specs.Joins.{joined}
use Rattle.content_laws.specs.Bags.{together, Alike}
use Rattle.join_laws.specs.Joining.{join_items, joined_parts, AreMatched}
use Rattle.join_laws.proofs.Parts.{parts_alike}
use Rattle.join_laws.specs.Tables.{entered, matches}
use Rattle.join_laws.specs.States.{Join, JoinState, at_start, accepted, ended}

abbrev int : ℕ → Value
int n = Int (pos n)

-- the number at two places behind the point
abbrev dec : ℕ → Value
dec n = Dec (at_scale (pos n) 2)

abbrev two : Value → Value → Cells
two v w = v ∷ w ∷ []

abbrev keys : List (ℕ × ℕ)
keys = (0, 0) ∷ []

-- a key of another kind, a left row whose pair has a fault, NULL keys, and a row that nothing matches
abbrev lefts : List Item
lefts = Ok (two (int 1) (int 4)) ∷ Ok (two Null (int 7)) ∷ Err (Evaluation Overflow) ∷ Ok (two (int 2) (int 6)) ∷ Ok (two (int 3) (int 1)) ∷ []

abbrev rights : List Item
rights = Ok (two (dec 100) (int 2)) ∷ Ok (two (int 2) (int 0)) ∷ Ok (two Null (int 1)) ∷ Err (Evaluation DivideByZero) ∷ Ok (two (int 1) (int 5)) ∷ []

-- with a test that is true of the first pair, a fault of the second, and unknown of the third
full : (test : Expr) → eval (two (int 1) (int 4) ++ two (dec 100) (int 2)) test ≡ Ok (Bool true) → eval (two (int 2) (int 6) ++ two (int 2) (int 0)) test ≡ Err Overflow → eval (two (int 1) (int 4) ++ two (int 1) (int 5)) test ≡ Ok Null
    → join_items Full 2 2 keys (Some test) lefts rights
    ≡ Ok (two (int 1) (int 4) ++ two (dec 100) (int 2)) ∷ Err (Evaluation Overflow) ∷ Ok (two Null Null ++ two Null (int 1)) ∷ Err (Evaluation DivideByZero) ∷ Ok (two Null Null ++ two (int 1) (int 5))
    ∷ Ok (two Null (int 7) ++ two Null Null) ∷ Ok (two (int 3) (int 1) ++ two Null Null) ∷ Err (Evaluation Overflow) ∷ []
unfolding value_cmp units
full test a b c = rw (a, b, c) refl

-- the table leaves NULL keys out, and finds a key of another kind
table : entered (0 ∷ []) [] 0 (rows lefts) ≡ (int 1 ∷ [], 0 ∷ []) ∷ (int 2 ∷ [], 2 ∷ []) ∷ (int 3 ∷ [], 3 ∷ []) ∷ []
unfolding value_cmp units
table = refl

found : matches keys (rows lefts) (two (dec 100) (int 2)) ≡ 0 ∷ []
unfolding value_cmp units
found = refl

none_found : matches keys (rows lefts) (two Null (int 1)) ≡ []
unfolding value_cmp units
none_found = refl

-- a row whose match lies in another partition would be padded
abbrev at : Item → ℕ → ℕ → List Item
at x zero zero = x ∷ []
at x (suc n) (suc i) = at x n i
at x _ _ = []

apart : together 2 (λ i. join_items Left 2 2 keys None (at (Ok (two (int 1) (int 4))) 0 i) (at (Ok (two (int 1) (int 5))) 1 i)) ≡ Ok (two (int 1) (int 4) ++ two Null Null) ∷ []
unfolding value_cmp units
apart = refl

one : joined Left 2 2 keys None (Ok (two (int 1) (int 4)) ∷ []) (Ok (two (int 1) (int 5)) ∷ []) ≡ Ok (two (int 1) (int 4) ++ two (int 1) (int 5)) ∷ []
unfolding value_cmp units
one = refl

-- ---- partitions that meet the premises: matching rows lie in those of one number

abbrev halves : Item → Item → ℕ → List Item
halves x y zero = x ∷ []
halves x y (suc n) = y ∷ []

abbrev some_lefts : ℕ → List Item
some_lefts = halves (Ok (two (int 1) (int 4))) (Ok (two (int 2) (int 6)))

abbrev some_rights : ℕ → List Item
some_rights = halves (Ok (two (dec 100) (int 2))) (Ok (two (int 3) (int 5)))

matched : AreMatched keys 2 some_lefts some_rights
unfolding value_cmp units
matched zero zero l m = ((λ e. refl, tt), tt)
matched zero (suc j) l m = ((λ e. cc, tt), tt)
matched (suc i) zero l m = ((λ e. cc, tt), tt)
matched (suc i) (suc j) l m = ((λ e. omega arith, tt), tt)

turned : Alike (together 2 some_rights) (some_rights 1 ++ some_rights 0)
turned w same = omega arith

halves_joined : Alike (joined_parts Full 2 2 keys None 2 some_lefts some_rights) (joined Full 2 2 keys None (together 2 some_lefts) (some_rights 1 ++ some_rights 0))
halves_joined = parts_alike Full 2 2 keys None (together 2 some_lefts) (some_rights 1 ++ some_rights 0) 2 some_lefts some_rights (λ w same. refl) turned matched

halves_are : joined_parts Full 2 2 keys None 2 some_lefts some_rights
    ≡ Ok (two (int 1) (int 4) ++ two (dec 100) (int 2)) ∷ Ok (two Null Null ++ two (int 3) (int 5)) ∷ Ok (two (int 2) (int 6) ++ two Null Null) ∷ []
unfolding value_cmp units
halves_are = refl

-- ---- the operator's state, call by call: left rows, their end, right rows and their end

abbrev join : Join
join = record { kind = Full; left_width = 2; right_width = 2; keys = keys; rest = None; amount = λ t rows. 0; consumer = None }

abbrev after_lefts : JoinState
after_lefts = ended join (accepted join at_start (two (int 1) (int 4) ∷ two Null (int 7) ∷ []))

abbrev after_rights : JoinState
after_rights = ended join (accepted join after_lefts (two (int 3) (int 5) ∷ two (dec 100) (int 2) ∷ []))

marked_are : after_rights.marks ≡ true ∷ false ∷ []
unfolding value_cmp units
marked_are = refl

waiting_are : after_rights.waiting
    ≡ Ok (two Null Null ++ two (int 3) (int 5)) ∷ Ok (two (int 1) (int 4) ++ two (dec 100) (int 2)) ∷ Ok (two Null (int 7) ++ two Null Null) ∷ []
unfolding value_cmp units
waiting_are = refl
