-- Equal values, and keys over them.
use Rattle.std.proofs.Common.{ℕ, ◌≡◌, refl, ap, ◌∙◌, Bool, true, false, List, [], ◌∷◌, cond}
use Rattle.std.specs.declared.cmp.Ordering.{Ordering}
use Rattle.std.specs.declared.cmp.Ordering.TheVariants.{Less, Equal, Greater}
use Rattle.std.specs.Ordering.{ordering_then, nat_cmp}
use Rattle.std.proofs.lemmas.Cmp.{tied_itself, tied_back, alike_right, nat_cmp_total}
use Rattle.dfx_value.specs.declared.value.Value.{Value}
use Rattle.dfx_value.specs.declared.value.Value.TheVariants as value
use Rattle.dfx_value.specs.declared.rows.SortKey.{SortKey}
use Rattle.dfx_value.specs.Order.{value_cmp}
use Rattle.dfx_value.specs.Rows.{null_rank, directed, cell_cmp}
use Rattle.dfx_value.proofs.OrderLemmas.{value_cmp_total}
use Rattle.dfx_value.proofs.RowLemmas.{cell_cmp_total}
use Rattle.plan_props.specs.Meets.{Equals, AllEqual}

pub same_itself : (a : Value) → Equals a a
same_itself a = tied_itself value_cmp_total a

pub same_back : (a b : Value) → Equals a b → Equals b a
same_back a b h = tied_back value_cmp_total a b h

pub same_on : (a b c : Value) → Equals a b → Equals b c → Equals a c
same_on a b c h i = value_cmp_total.congr a b c h ∙ i

pub all_same_back : (xs ys : List Value) → AllEqual xs ys → AllEqual ys xs
all_same_back [] [] h = tt
all_same_back (x ∷ xs) (y ∷ ys) h = (same_back x y h.0, all_same_back xs ys h.1)
all_same_back [] (y ∷ ys) h = absurd h
all_same_back (x ∷ xs) [] h = absurd h

-- equal values are equal_truths NULL or equal_truths not
ranks : (k : SortKey) (a b : Value) → Equals a b → null_rank k a ≡ null_rank k b
unfolding value_cmp
ranks k value.Null value.Null h = refl
ranks k value.Null (value.Bool b) h = cc
ranks k value.Null (value.Int b) h = cc
ranks k value.Null (value.Dec b) h = cc
ranks k value.Null (value.Text b) h = cc
ranks k (value.Bool a) value.Null h = cc
ranks k (value.Int a) value.Null h = cc
ranks k (value.Dec a) value.Null h = cc
ranks k (value.Text a) value.Null h = cc
ranks k _ _ h = refl

directed_equal : (b : Bool) (x y : Value) → Equals x y → directed b x y ≡ Equal
directed_equal false x y h = h
directed_equal true x y h = same_back x y h

directed_same : (b : Bool) (x y : Value) → directed b x y ≡ Equal → Equals x y
directed_same false x y h = h
directed_same true x y h = same_back y x h

pub cell_equal : (k : SortKey) (a b : Value) → Equals a b → cell_cmp k a b ≡ Equal
cell_equal k a b h =
    let e = ranks k a b h in
    ap (λ (n : ℕ). ordering_then (nat_cmp n (null_rank k b)) (directed k.descending a b)) e
    ∙ ap (λ (o : Ordering). ordering_then o (directed k.descending a b)) (tied_itself nat_cmp_total (null_rank k b))
    ∙ directed_equal k.descending a b h

then_parts : (o p : Ordering) → ordering_then o p ≡ Equal → p ≡ Equal
then_parts Less p h = cc
then_parts Equal p h = h
then_parts Greater p h = cc

pub equal_cell : (k : SortKey) (a b : Value) → cell_cmp k a b ≡ Equal → Equals a b
equal_cell k a b h = directed_same k.descending a b (then_parts (nat_cmp (null_rank k a) (null_rank k b)) (directed k.descending a b) h)

-- a key sees equal values alike
pub cell_alike : (k : SortKey) (a b c d : Value) → Equals a c → Equals b d → cell_cmp k a b ≡ cell_cmp k c d
cell_alike k a b c d h i = (cell_cmp_total k).congr a c b (cell_equal k a c h) ∙ alike_right (cell_cmp_total k) b d c (cell_equal k b d i)

pub null_alike : (a b : Value) → Equals a b → null_rank (record { column = 0; descending = false; nulls_first = true }) a ≡ null_rank (record { column = 0; descending = false; nulls_first = true }) b
null_alike a b h = ranks (record { column = 0; descending = false; nulls_first = true }) a b h

null_ranks : (a b : SortKey) (v : Value) → a.nulls_first ≡ b.nulls_first → null_rank a v ≡ null_rank b v
null_ranks a b value.Null n = ap (λ (t : Bool). cond {A = ℕ} t 0 2) n
null_ranks a b _ n = refl

-- two keys of one direction and NULL place
pub keys_alike : (a b : SortKey) (u v : Value) → a.descending ≡ b.descending → a.nulls_first ≡ b.nulls_first → cell_cmp a u v ≡ cell_cmp b u v
keys_alike a b u v d n =
    ap (λ (m : ℕ). ordering_then (nat_cmp m (null_rank a v)) (directed a.descending u v)) (null_ranks a b u n)
    ∙ ap (λ (m : ℕ). ordering_then (nat_cmp (null_rank b u) m) (directed a.descending u v)) (null_ranks a b v n)
    ∙ ap (λ (t : Bool). ordering_then (nat_cmp (null_rank b u) (null_rank b v)) (directed t u v)) d
