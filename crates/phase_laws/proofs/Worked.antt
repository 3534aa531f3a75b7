-- Worked cases of the two phases, by computing.
use Rattle.std.proofs.Common.{◌≡◌, refl, sym, ap, ◌∙◌, arith, ◌+◌, not, zero, suc, ℕ, false, length, ◌*◌, ◌^◌, ℤ, pos, negsuc, List, [], ◌∷◌, Ok, Err}
use Rattle.std.specs.List.{flat_map, sum_by, list_any, AllPass}
use Rattle.std.proofs.lemmas.List.Sums.{AllPass-from_list_all}
use Rattle.dfx_value.specs.Kinds.{are_of}
use Rattle.phase_laws.proofs.Items.{two_phases}
use Rattle.dfx_value.specs.Order.{value_cmp}
use Rattle.dfx_value.specs.Decimal.{units, at_scale, mean, half_away, fit, nearest}
use Rattle.dfx_value.specs.declared.value.Value.{Value}
use Rattle.dfx_value.specs.declared.value.Value.TheVariants.{Null, Bool, Int, Dec}
use Rattle.dfx_value.specs.declared.kind.Kind.{Kind}
use Rattle.dfx_value.specs.declared.kind.Kind.TheVariants as kind
use Rattle.dfx_value.specs.declared.fault.EvalFault.TheVariants.{Overflow, DivideByZero}
use Rattle.dfx_value.specs.declared.fault.ItemFault.TheVariants.{Evaluation}
use Rattle.dfx_value.specs.declared.op.AggCall.{AggCall}
use Rattle.dfx_value.specs.declared.op.AggCall.TheVariants as call
use Rattle.scalar_exprs.specs.Agg.{agg}
use Rattle.logical_plan.specs.Items.{Item, rows, concat}
use Rattle.logical_plan.specs.Groups.{alike, aggregated, distinct}
use Rattle.phase_laws.specs.States.{capped}
use Rattle.phase_laws.specs.Phases.{phase, phase_kinds, final, AreApart}
use Rattle.physical_plan.specs.Numbers.{numbers}
use Rattle.content_laws.specs.Bags.{together, SameBag, Alike}

abbrev pub int : ℕ → Value
int n = Int (pos n)

abbrev pub dec : ℤ → Value
dec z = Dec (at_scale z 2)

abbrev pub two : Value → Value → Item
two v w = Ok (v ∷ w ∷ [])

abbrev pub fault : Item
fault = Err (Evaluation DivideByZero)

abbrev pub kinds : List Kind
kinds = kind.Int ∷ kind.Dec 38 2 ∷ []

-- the second phase over rows of the first by these columns
abbrev pub ended : List ℕ → List AggCall → List Kind → List Item → List Item
ended columns calls kinds = final (numbers (length columns)) calls (phase_kinds columns calls kinds)

abbrev pub calls : List AggCall
calls = call.CountAll ∷ call.Count 1 ∷ call.Sum 1 ∷ call.Min 1 ∷ call.Max 1 ∷ []

abbrev pub segments : List (List Item)
segments = (two (int 1) (dec (pos 150)) ∷ two Null Null ∷ []) ∷ [] ∷ (two (int 1) Null ∷ two (int 2) (dec (negsuc 224)) ∷ fault ∷ []) ∷ (two Null (dec (pos 300)) ∷ two (int 1) (dec (negsuc 24)) ∷ []) ∷ []

-- the rows of the first phase: the state of only NULLs among them
first_rows : phase (0 ∷ []) (call.Sum 1 ∷ call.Min 1 ∷ []) kinds (two Null Null ∷ two (int 1) (dec (pos 150)) ∷ two (int 1) (dec (negsuc 24)) ∷ [])
    ≡ Ok (Null ∷ int 0 ∷ dec (pos 0) ∷ dec (pos 0) ∷ Bool false ∷ Null ∷ [])
    ∷ Ok (int 1 ∷ int 2 ∷ dec (pos 150) ∷ dec (pos 25) ∷ Bool false ∷ dec (negsuc 24) ∷ []) ∷ []
unfolding capped value_cmp units agg
first_rows = refl

-- with keys, in one partition: the same items in the same order, but for the place of faults
keyed : ended (0 ∷ []) calls kinds (flat_map (phase (0 ∷ []) calls kinds) segments) ≡ aggregated (0 ∷ []) calls kinds (concat segments)
unfolding capped value_cmp units agg
keyed = refl

means : ended (0 ∷ []) (call.Avg 1 ∷ []) kinds (flat_map (phase (0 ∷ []) (call.Avg 1 ∷ []) kinds) segments) ≡ aggregated (0 ∷ []) (call.Avg 1 ∷ []) kinds (concat segments)
unfolding capped value_cmp units mean half_away fit nearest agg
means = refl

-- without keys: the fault alone; no rows: one item
unkeyed : ended [] calls kinds (flat_map (phase [] calls kinds) segments) ≡ aggregated [] calls kinds (concat segments)
unfolding capped value_cmp units agg
unkeyed = refl

no_rows : ended [] calls kinds (flat_map (phase [] calls kinds) ([] ∷ [] ∷ [])) ≡ aggregated [] calls kinds []
unfolding capped value_cmp units agg
no_rows = refl

no_rows_is : aggregated [] calls kinds [] ≡ Ok (int 0 ∷ int 0 ∷ Null ∷ Null ∷ Null ∷ []) ∷ []
unfolding capped value_cmp units agg
no_rows_is = refl

-- no calls
none : ended (0 ∷ []) [] kinds (flat_map (phase (0 ∷ []) [] kinds) segments) ≡ aggregated (0 ∷ []) [] kinds (concat segments)
unfolding capped value_cmp units agg
none = refl

distinct_rows : ended (0 ∷ 1 ∷ []) [] kinds (flat_map (phase (numbers 2) [] kinds) segments) ≡ distinct (concat segments)
unfolding capped value_cmp units agg
distinct_rows = refl

-- past the range: in the second phase alone, and in a segment, where the other sign doesn't bring it back
abbrev pub much : Item
much = two (int 1) (dec (pos (6 * 10 ^ 37)))

past_late : ended (0 ∷ []) (call.Sum 1 ∷ []) kinds (flat_map (phase (0 ∷ []) (call.Sum 1 ∷ []) kinds) ((much ∷ []) ∷ (much ∷ []) ∷ [])) ≡ Err (Evaluation Overflow) ∷ []
unfolding capped value_cmp units agg
past_late = refl

past_early : ended (0 ∷ []) (call.Sum 1 ∷ []) kinds (flat_map (phase (0 ∷ []) (call.Sum 1 ∷ []) kinds) ((much ∷ much ∷ []) ∷ (two (int 1) (dec (negsuc 5)) ∷ []) ∷ [])) ≡ Err (Evaluation Overflow) ∷ []
unfolding capped value_cmp units agg
past_early = refl

past_whole : aggregated (0 ∷ []) (call.Sum 1 ∷ []) kinds (much ∷ much ∷ two (int 1) (dec (negsuc 5)) ∷ []) ≡ Err (Evaluation Overflow) ∷ []
unfolding capped value_cmp units agg
past_whole = refl

-- ---- what is false without its premise

-- rows that aren't of the kinds: the least of equal values, and the first key, hang on the order
abbrev pub three : Item
three = two (int 1) (Dec (at_scale (pos 15) 1))

other_scale : aggregated (0 ∷ []) (call.Min 1 ∷ []) kinds (two (int 1) (dec (pos 150)) ∷ three ∷ []) ≡ two (int 1) (dec (pos 150)) ∷ []
unfolding value_cmp units agg
other_scale = refl

other_scale_back : aggregated (0 ∷ []) (call.Min 1 ∷ []) kinds (three ∷ two (int 1) (dec (pos 150)) ∷ []) ≡ three ∷ []
unfolding value_cmp units agg
other_scale_back = refl

-- DISTINCT of rows without columns has no item where there is none, and the two phases have one
no_columns : distinct [] ≡ []
no_columns = refl

no_columns_final : ended [] [] [] (flat_map (phase [] [] []) []) ≡ Ok [] ∷ []
no_columns_final = refl

-- without keys in two partitions: two items
two_parts : together 2 (λ i. ended [] (call.CountAll ∷ []) kinds []) ≡ Ok (int 0 ∷ []) ∷ Ok (int 0 ∷ []) ∷ []
unfolding capped
two_parts = refl

-- ---- a case that meets the premises of the law: two partitions, one of them in another order, with a fault

abbrev pub input : List Item
input = two (int 1) (dec (pos 150)) ∷ two (int 2) (dec (pos 300)) ∷ fault ∷ two (int 1) (dec (negsuc 24)) ∷ []

abbrev pub cuts : List (List Item)
cuts = (two (int 1) (dec (pos 150)) ∷ []) ∷ (two (int 1) (dec (negsuc 24)) ∷ two (int 2) (dec (pos 300)) ∷ fault ∷ []) ∷ []

abbrev pub partial : ℕ → ℤ → ℕ → ℕ → Item
partial key least plus minus = Ok (int key ∷ dec least ∷ int 1 ∷ dec (pos plus) ∷ dec (pos minus) ∷ Bool false ∷ [])

abbrev pub few : List AggCall
few = call.Min 1 ∷ call.Avg 1 ∷ []

abbrev pub halves : ℕ → List Item
halves zero = partial 1 (negsuc 24) 0 25 ∷ partial 1 (pos 150) 150 0 ∷ []
halves (suc n) = partial 2 (pos 300) 300 0 ∷ fault ∷ []

abbrev first_list : List Item
first_list = partial 1 (pos 150) 150 0 ∷ fault ∷ partial 1 (negsuc 24) 0 25 ∷ partial 2 (pos 300) 300 0 ∷ []

first_list_is : flat_map (phase (0 ∷ []) few kinds) cuts ≡ first_list
unfolding capped value_cmp units
first_list_is = refl

swapped : (a b c d : Item) → SameBag (a ∷ b ∷ c ∷ d ∷ []) (b ∷ d ∷ a ∷ c ∷ [])
swapped a b c d w = let x : sum_by w (a ∷ b ∷ c ∷ d ∷ []) ≡ 0 + w a + w b + w c + w d = refl in let y : sum_by w (b ∷ d ∷ a ∷ c ∷ []) ≡ 0 + w b + w d + w a + w c = refl in omega arith

moved : (a b c d : Item) → SameBag (a ∷ d ∷ b ∷ c ∷ []) (a ∷ b ∷ c ∷ d ∷ [])
moved a b c d w = let x : sum_by w (a ∷ d ∷ b ∷ c ∷ []) ≡ 0 + w a + w d + w b + w c = refl in let y : sum_by w (a ∷ b ∷ c ∷ d ∷ []) ≡ 0 + w a + w b + w c + w d = refl in omega arith

apart_halves : AreApart (numbers 1) 2 halves
unfolding value_cmp units
apart_halves zero zero l m = absurd (omega arith)
apart_halves zero (suc j) l m = AllPass-from_list_all (λ r. not (list_any (alike (0 ∷ []) r) (rows (halves (suc j))))) (rows (halves zero)) refl
apart_halves (suc i) j l m = absurd (omega arith)

meets : Alike (together 2 (λ i. final (numbers 1) few (phase_kinds (0 ∷ []) few kinds) (halves i))) (aggregated (0 ∷ []) few kinds input)
meets = two_phases (0 ∷ []) few kinds cuts input 2 halves kinded (moved _ _ _ _) first_rows_are apart_halves
  where
    kinded : AllPass (are_of kinds) (rows input)
    kinded = AllPass-from_list_all (are_of kinds) (rows input) refl

    first_rows_are : SameBag (together 2 halves) (flat_map (phase (0 ∷ []) few kinds) cuts)
    first_rows_are = λ w. swapped _ _ _ _ w ∙ ap (sum_by w) (sym first_list_is)
