-- What is at hand after a step over the bytes that are kept.
use Rattle.std.proofs.Common.{All, ◌≡◌, refl, ℕ, ◌≤◌, List, [], ◌++◌, length, take, drop, ap, sym, ◌∙◌, arith}
use Rattle.std.proofs.lemmas.List.{drop_all, drop-append-le, take-append-drop}
use Rattle.csv.specs.declared.parser.State.{State}
use Rattle.csv_records.specs.Cursors.{AtHand, Joins, TakesRun, fields_in, Lies}
use Rattle.csv_records.specs.Windows.{Begins}
use Rattle.csv_records.specs.declared.span.Span.{Span}
use Rattle.csv_records.proofs.SpanSteps.{fields_kept, begins-append}

-- no field has begun, and a byte is passed
pub passes : (old : AtHand) (kept more ahead rest : List ℕ) (spans : List Span) (start n at now : ℕ)
    → old ≡ record { fields = fields_in kept spans; field = drop start kept; bytes = ahead; at = at }
    → All (Lies start) spans → start ≤ length kept → length kept ≤ start
    → Begins kept more → n ≡ length more → rest ≡ drop 1 ahead → now ≡ at
    → ◌≡◌ {A = AtHand} (record { fields = fields_in more spans; field = drop n more; bytes = rest; at = now })
    (record { fields = old.fields; field = old.field; bytes = drop 1 old.bytes; at = old.at })
passes old kept more ahead rest spans start n at now e lies within none begins size bytes place =
    let fields : fields_in more spans ≡ fields_in kept spans = fields_kept kept more spans start begins lies within in
    let empty : drop start kept ≡ [] = drop_all start kept none in
    let ended : drop n more ≡ [] = drop_all n more (omega arith) in
    rw (e, bytes, place, fields, empty, ended) refl

-- the fields stay where bytes are kept behind them
pub fields_stay : (old : AtHand) (kept more run ahead : List ℕ) (spans : List Span) (start at : ℕ)
    → old ≡ record { fields = fields_in kept spans; field = drop start kept; bytes = ahead; at = at }
    → All (Lies start) spans → start ≤ length kept → more ≡ kept ++ run → fields_in more spans ≡ old.fields
fields_stay old kept more run ahead spans start at e lies within joined =
    ap (λ (xs : List ℕ). fields_in xs spans) joined
    ∙ fields_kept kept (kept ++ run) spans start (begins-append kept run) lies within
    ∙ sym (ap (λ (o : AtHand). o.fields) e)

-- bytes are kept that join the field at hand
pub takes_run : (s t : State) (old : AtHand) (kept more ahead rest : List ℕ) (spans : List Span) (start at now n : ℕ)
    → old ≡ record { fields = fields_in kept spans; field = drop start kept; bytes = ahead; at = at }
    → All (Lies start) spans → start ≤ length kept → more ≡ kept ++ take n ahead → rest ≡ drop n ahead → now ≡ at
    → Joins s (take n ahead) t
    → TakesRun s t old (record { fields = fields_in more spans; field = drop start more; bytes = rest; at = now })
takes_run s t old kept more ahead rest spans start at now n e lies within joined left place joins = record {
  run = take n ahead;
  joins = joins;
  bytes = ap (λ (o : AtHand). o.bytes) e ∙ sym (take-append-drop n ahead) ∙ ap (λ (xs : List ℕ). take n ahead ++ xs) (sym left);
  field = ap (drop start) joined ∙ drop-append-le start kept (take n ahead) within
      ∙ sym (ap (λ (o : AtHand). o.field ++ take n ahead) e);
  fields = fields_stay old kept more (take n ahead) ahead spans start at e lies within joined;
  at = place ∙ sym (ap (λ (o : AtHand). o.at) e);
}
