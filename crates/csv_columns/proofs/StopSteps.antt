-- Refusals behind the rows of a batch.
use Rattle.std.proofs.Common.{◌≡◌, ℕ, ◌≤◌, true, List, length, ap, ◌∙◌, sym, rules}
use Rattle.dfx_value.specs.KindedRows.{KindedRows}
use Rattle.dfx_value.specs.declared.kind.Kind.{Kind}
use Rattle.dfx_value.specs.declared.value.Value.{Value as Cell}
use Rattle.csv_source.specs.CsvItems.{Item, is_bad}
use Rattle.csv_source.specs.declared.refused.CsvRefused.{CsvRefused}
use Rattle.csv_columns.specs.ScanView.{IsRefusedBehind}
use Rattle.csv_columns.specs.Stops.{StopsAs, StopsIn, IsFront}
use Rattle.csv_columns.specs.declared.reading.Stopped.{Stopped}
use Rattle.csv_columns.specs.declared.reading.Stopped.TheVariants as stopped

pub stops_in : (s : Stopped) (batch : KindedRows) (refusal : CsvRefused) (count : ℕ) (items : List Item) (rows : List (List Cell))
    → StopsAs s batch refusal → batch.rows ≡ rows → (is_bad refusal ≡ true → IsRefusedBehind count items rows refusal) → StopsIn count items s
stops_in (stopped.Record given e) batch refusal count items rows h same behind =
    let here : IsRefusedBehind count items rows refusal = behind (ap is_bad (sym h.1) ∙ h.2) in
    rw (h.0, same, h.1) here
stops_in (stopped.Call e) batch refusal count items rows h same behind = tt

pub stops_front : (s : Stopped) (batch : KindedRows) (refusal : CsvRefused) (kinds : List Kind) (most : ℕ)
    → StopsAs s batch refusal → batch.kinds ≡ kinds → length batch.rows ≤ most → IsFront kinds most s
stops_front (stopped.Record given e) batch refusal kinds most h same few = (ap (λ (b : KindedRows). b.kinds) h.0 ∙ same, rw h.0 few, h.2)
stops_front (stopped.Call e) batch refusal kinds most h same few = h.0
