-- Rows in front of a refusal.
use Rattle.std.proofs.Common.{◌≡◌, ℕ, ◌<◌, List, [], ◌∷◌, Option, Some, None, Result, Ok, Err, IfOk, IfErr, subst}
use Rattle.dfx_value.specs.KindedRows.{KindedRows}
use Rattle.dfx_value.specs.declared.value.Value.{Value as Cell}
use Rattle.csv_source.specs.CsvItems.{Item}
use Rattle.csv_source.specs.ScanView.{GivesRows, IsRefused}
use Rattle.csv_source.specs.declared.refused.CsvRefused.{CsvRefused}
use Rattle.csv_columns.specs.ScanView.{GivesFront}

pub refused_first : (count : ℕ) (items : List Item) (e : CsvRefused) → 0 < count → items ≡ Err e ∷ [] → IsRefused count items e
refused_first count items e some is = record { rows = []; few = some; is = is }

pub next_gives : (r : Result KindedRows CsvRefused) (batch : KindedRows) (refusal : Option CsvRefused) (count : ℕ) (items : List Item) (left : Option (List Item))
    → IfOk r (λ b. (b ≡ batch) × (refusal ≡ None)) → GivesFront count items batch.rows refusal left → IfOk r (λ b. GivesRows count items b.rows left)
next_gives (Ok b) batch refusal count items left h gives =
    let plain : GivesRows count items batch.rows left = subst (λ (o : Option CsvRefused). GivesFront count items batch.rows o left) h.1 gives in
    rw h.0 plain
next_gives (Err e) batch refusal count items left h gives = tt

pub next_refused : (r : Result KindedRows CsvRefused) (e : CsvRefused) (refusal : Option CsvRefused) (count : ℕ) (items : List Item) (rows : List (List Cell)) (left : Option (List Item))
    → IfErr r (λ e. refusal ≡ Some e) → GivesFront count items rows refusal left → r ≡ Err e → IsRefused count items e
next_refused (Ok b) e refusal count items rows left h gives is = cc
next_refused (Err x) e refusal count items rows left h gives is =
    let same : x ≡ e = (cc) in
    let behind = subst (λ (o : Option CsvRefused). GivesFront count items rows o left) h gives in
    let found : IsRefused count items x = record { rows = rows; few = behind.few; is = behind.is } in
    subst (λ (y : CsvRefused). IsRefused count items y) same found

pub ruleset front_steps = (refused_first)
