-- What the fields of CSV files write is of their columns' kinds.
use Rattle.std.specs.Prelude.{option_and_then, ⊤}
use Rattle.std.specs.Str.{is_utf8}
use Rattle.std.proofs.Common.{◌≡◌, refl, ℕ, ◌+◌, ℤ, Bool, true, false, cond, eqb, eqb-true, Option, Some, None, List, [], ◌∷◌, length, Result, Ok, Err, subst, sym, inl, inr}
use Rattle.std.proofs.lemmas.Bool.{and_from, cases_Bool}
use Rattle.dfx_value.specs.Checked.{◌>>=◌}
use Rattle.dfx_value.specs.Kinds.{is_of, are_of}
use Rattle.dfx_value.specs.Number.{Number}
use Rattle.dfx_value.specs.Parse.{filled, parsed, dec_of, bool_of, int_of}
use Rattle.dfx_value.specs.declared.kind.Kind.{Kind}
use Rattle.dfx_value.specs.declared.kind.Kind.TheVariants as kind
use Rattle.dfx_value.specs.declared.value.Value.{Value}
use Rattle.dfx_value.specs.declared.value.Value.TheVariants as value
use Rattle.csv_source.specs.declared.refused.CsvRefused.{CsvRefused}
use Rattle.csv_source.specs.declared.refused.CsvRefused.TheVariants as refused
use Rattle.csv_source.specs.CsvItems.{Item, value_or, field_value, cells_from, record_item}
use Rattle.scalar_exprs.proofs.ValueKinds.{null_is_of, FitsNumber, dec_fits, FitsInt, int_fits}

-- ---- fields

abbrev pub ValueFits : Kind → Option Value → Type 0
ValueFits k (Some v) = is_of k v ≡ true
ValueFits k None = ⊤

filled_fits : (k : Kind) (t : List ℕ) → ValueFits k (filled k t)
filled_fits kind.Bool t = go (bool_of t) where
  go : (o : Option Bool) → ValueFits kind.Bool (option_and_then (λ b. Some (value.Bool b)) o)
  go (Some b) = refl
  go None = tt
filled_fits kind.Int t = go (int_of t) (int_fits t) where
  go : (o : Option ℤ) → FitsInt o → ValueFits kind.Int (option_and_then (λ n. Some (value.Int n)) o)
  go (Some n) h = h
  go None h = tt
filled_fits (kind.Dec p s) t = go (dec_of p s t) (dec_fits p s t) where
  go : (o : Option Number) → FitsNumber p s o → ValueFits (kind.Dec p s) (option_and_then (λ d. Some (value.Dec d)) o)
  go (Some d) h = h
  go None h = tt
filled_fits kind.Text t = go (is_utf8 t) refl where
  go : (b : Bool) → is_utf8 t ≡ b → ValueFits kind.Text (cond b (Some (value.Text t)) None)
  go true e = e
  go false e = tt

pub parsed_fits : (k : Kind) (t : List ℕ) → ValueFits k (parsed k t)
parsed_fits k [] = null_is_of k
parsed_fits k (b ∷ t) = filled_fits k (b ∷ t)

abbrev FieldFits : Kind → Result Value CsvRefused → Type 0
FieldFits k (Ok v) = is_of k v ≡ true
FieldFits k (Err e) = ⊤

field_fits : (n c : ℕ) (k : Kind) (t : List ℕ) → FieldFits k (field_value n c k t)
field_fits n c k t = go (is_utf8 t) where
  or_refused : (o : Option Value) → ValueFits k o → FieldFits k (value_or (refused.Value n c) o)
  or_refused (Some v) h = h
  or_refused None h = tt

  go : (b : Bool) → FieldFits k (cond b (value_or (refused.Value n c) (parsed k t)) (Err (refused.NotUtf8 n)))
  go true = or_refused (parsed k t) (parsed_fits k t)
  go false = tt

-- ---- records

-- a row of these kinds, or none
abbrev pub RecordFits : List Kind → Item → Type 0
RecordFits ks (Ok vs) = are_of ks vs ≡ true
RecordFits ks (Err e) = ⊤

cell_more : (k : Kind) (ks : List Kind) (x : Result Value CsvRefused) (rest : Item) → FieldFits k x → RecordFits ks rest → RecordFits (k ∷ ks) (x >>= λ v. rest >>= λ vs. Ok (v ∷ vs))
cell_more k ks (Err e) rest p q = tt
cell_more k ks (Ok v) (Err e) p q = tt
cell_more k ks (Ok v) (Ok vs) p q = and_from (is_of k v) (are_of ks vs) p q

cells_fit : (n c : ℕ) (ks : List Kind) (fs : List (List ℕ)) → length fs ≡ length ks → RecordFits ks (cells_from n c ks fs)
cells_fit n c [] fs e = refl
cells_fit n c (k ∷ ks) [] e = cc
cells_fit n c (k ∷ ks) (f ∷ fs) e =
    let less : length fs ≡ length ks = (cc) in
    cell_more k ks (field_value n c k f) (cells_from n (c + 1) ks fs) (field_fits n c k f) (cells_fit n (c + 1) ks fs less)

pub record_fits : (ks : List Kind) (n : ℕ) (fields : List (List ℕ)) → RecordFits ks (record_item ks n fields)
record_fits ks n fields = elim (cases_Bool (eqb (length fields) (length ks))) [
  | inl same ↦ subst (λ b. RecordFits ks (cond b (cells_from n 1 ks fields) (Err (refused.Fields n)))) (sym same) (cells_fit n 1 ks fields (eqb-true (length fields) (length ks) same))
  | inr other ↦ subst (λ b. RecordFits ks (cond b (cells_from n 1 ks fields) (Err (refused.Fields n)))) (sym other) tt
]
