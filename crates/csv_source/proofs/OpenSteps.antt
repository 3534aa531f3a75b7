-- The header of a file, and what is left under it.
use Rattle.std.proofs.Common.{◌≡◌, ◌≢◌, refl, ℕ, zero, suc, ◌+◌, ◌^◌, ◌≤◌, ◌<◌, Bool, true, false, ◌&&◌, ◌==◌, cond, List, [], ◌∷◌, length, Option, Some, None, option_map, Err, ap, sym, ◌∙◌, arith, eq-eqb, ne_eqb}
use Rattle.csv.specs.Reading.{strip_bom}
use Rattle.csv.specs.declared.parser.State.TheVariants as st
use Rattle.dfx_value.specs.declared.kind.Kind.{Kind}
use Rattle.csv_source.specs.declared.refused.CsvRefused.TheVariants as refused
use Rattle.csv_source.specs.CsvItems.{Item, items_from, items_under}
use Rattle.csv_source.specs.Records.{Fields, Takes, HasNone, records_at}
use Rattle.csv_source.specs.Scans.{Counts}
use Rattle.csv_source.proofs.RecordSteps.{length-records_at}

length-strip_bom : (xs : List ℕ) → length (strip_bom xs) ≤ length xs
unfolding strip_bom
length-strip_bom [] = omega arith
length-strip_bom (a ∷ []) = omega arith
length-strip_bom (a ∷ b ∷ []) = omega arith
length-strip_bom (a ∷ b ∷ c ∷ rest) = either_way ((a == 0xEF) && (b == 0xBB) && (c == 0xBF)) where
  either_way : (t : Bool) → length (cond t rest (a ∷ b ∷ c ∷ rest)) ≤ suc (suc (suc (length rest)))
  either_way true = omega arith
  either_way false = omega arith

pub open_none : (o : Option (List Fields)) (rs : List Fields) (kinds : List Kind) → HasNone o → o ≡ Some rs → items_under kinds rs ≡ []
open_none None rs kinds h e = cc
open_none (Some xs) rs kinds h e = let same : rs ≡ [] = (cc) in rw same refl

same_records : (xs ys : List Fields) → Some xs ≡ Some ys → ys ≡ xs
same_records xs ys e = (cc)

pub open_rows : (o now : Option (List Fields)) (rs : List Fields) (kinds : List Kind) (header : Fields)
    → Takes o header now → o ≡ Some rs → length header ≡ length kinds → option_map (items_from kinds 1) now ≡ Some (items_under kinds rs)
open_rows None now rs kinds header t e same = cc
open_rows (Some []) now rs kinds header t e same = absurd t
open_rows (Some (h ∷ hs)) now rs kinds header t e same =
    let all : rs ≡ h ∷ hs = same_records (h ∷ hs) rs e in
    let fits : (length h == length kinds) ≡ true = eq-eqb (length h) (length kinds) (ap length t.0 ∙ same) in
    rw (t.1, all, fits) refl

pub open_refused : (o now : Option (List Fields)) (rs : List Fields) (kinds : List Kind) (header : Fields)
    → Takes o header now → o ≡ Some rs → length header ≢ length kinds → items_under kinds rs ≡ Err (refused.Header (length header)) ∷ []
open_refused None now rs kinds header t e other = cc
open_refused (Some []) now rs kinds header t e other = absurd t
open_refused (Some (h ∷ hs)) now rs kinds header t e other =
    let all : rs ≡ h ∷ hs = same_records (h ∷ hs) rs e in
    let same : length h ≡ length header = ap length t.0 in
    let differs : (length h == length kinds) ≡ false = ne_eqb (length h) (length kinds) (λ x. other (sym same ∙ x)) in
    rw (all, differs, same) refl

pub open_counts : (o now : Option (List Fields)) (all : List ℕ) (header : Fields)
    → Takes o header now → o ≡ Some (records_at st.StartRecord (strip_bom all)) → length all + 2 < 2 ^ 64 → Counts now 1
open_counts None now all header t e small = cc
open_counts (Some []) now all header t e small = absurd t
open_counts (Some (h ∷ hs)) now all header t e small =
    let whole : records_at st.StartRecord (strip_bom all) ≡ h ∷ hs = same_records (h ∷ hs) _ e in
    let many : length (records_at st.StartRecord (strip_bom all)) ≡ suc (length hs) = ap length whole in
    rw t.1 (omega (arith, many, length-records_at st.StartRecord (strip_bom all), length-strip_bom all))

pub ruleset open_steps = (open_none, open_rows, open_refused, open_counts)
