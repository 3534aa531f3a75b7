-- Meaning: what the words and the files ask for, or the first refusal in its order: the words, the
-- script's file, what the script is prepared to, what is built, the number of files, and their
-- presence. `all` are the contents of the files.
use Rattle.std.specs.Prelude.{ℕ, Bool, true, false, ◌&&◌, ◌==◌, nat_lt, List, [], ◌∷◌, length, slice_get, unwrap_or, Option, Some, None, Result, Ok, Err, if◌then◌else◌}
use Rattle.dfx_outside.specs.Contents.{Contents, content}
use Rattle.logical_plan.specs.declared.query.Query.{Query}
use Rattle.dfx_prepare.specs.Preparing.{Path, followed, prepared}
use Rattle.failure_text.specs.declared.failure.Failure.{Failure}
use Rattle.failure_text.specs.declared.failure.Failure.TheVariants as failure
use Rattle.dfx_prepare.specs.declared.prepared.Prepared.{Prepared}
use Rattle.scan_run.specs.Chains.{Scanned, scanned, is_chain}
use Rattle.csv_source.specs.TableItems.{missing}
use Rattle.dfx_top.specs.CommandWords.{request_of, default_partitions, Command}
use Rattle.dfx_top.specs.declared.words.Request.{Request}
use Rattle.dfx_top.specs.declared.words.Request.TheVariants as request

abbrev pub partitions_for : Request → ℕ
partitions_for request.Query = default_partitions
partitions_for (request.Explain n) = n

abbrev pub Ready : Type 0
Ready = Request × Prepared

abbrev pub ready : Request → Prepared → Result Ready Failure
ready r p = Ok (r, p)

-- a request over the text of its script
abbrev pub by_script : Contents → Request → List ℕ → Result Ready Failure
by_script all r text = followed (prepared text all (partitions_for r)) (ready r)

abbrev pub by_text : Contents → Request → Path → Option (List ℕ) → Result Ready Failure
by_text all r path None = Err (failure.Missing path)
by_text all r path (Some text) = by_script all r text

abbrev pub by_words : Contents → Option Command → Result Ready Failure
by_words all None = Err failure.Words
by_words all (Some (r, path)) = by_text all r path (content all path)

-- the request of the words, and what its script is prepared to
abbrev pub asked : List (List ℕ) → Contents → Result Ready Failure
asked words all = by_words all (request_of words)

abbrev pub text_at : Contents → Option Command → Option (List ℕ)
text_at all None = None
text_at all (Some (r, path)) = content all path

-- the text of the script that the words name, where there is one
abbrev pub script_text : List (List ℕ) → Contents → Option (List ℕ)
script_text words all = text_at all (request_of words)

-- ---- queries

abbrev pub is_empty : {A : Type 0} → List A → Bool
is_empty [] = true
is_empty (x ∷ xs) = false

abbrev pub is_none : {A : Type 0} → Option A → Bool
is_none None = true
is_none (Some x) = false

-- the queries that are run: Filters and Projects over one Scan, all rows in any order
abbrev pub is_built : Query → Bool
is_built q =
    is_chain q.body && (is_empty q.order && (q.offset == 0 && is_none q.limit))

abbrev pub paths_for : Prepared → Option Scanned → List Path
paths_for p None = []
paths_for p (Some s) = unwrap_or (slice_get p.paths s.table) []

-- the files of the table that a query scans
abbrev pub scan_paths : Prepared → List Path
scan_paths p = paths_for p (scanned p.query.body)

abbrev pub path_at : List Path → ℕ → Path
path_at paths file = unwrap_or (slice_get paths file) []

abbrev pub by_missing : List Path → Option ℕ → Option Failure
by_missing paths None = None
by_missing paths (Some file) = Some (failure.Missing (path_at paths file))

-- at most 512 files are read
abbrev pub by_count : Contents → List Path → Option Failure
by_count all paths =
    if nat_lt 512 (length paths) then Some (failure.TooManySources (length paths))
    else by_missing paths (missing all paths)

-- why a prepared query isn't run, if so
unfoldable pub not_run : Contents → Prepared → Option Failure
not_run all p = if is_built p.query then by_count all (scan_paths p) else Some failure.NotBuilt

-- ---- refusals before anything is written

abbrev pub by_request : Contents → Ready → Option Failure
by_request all (request.Query, p) = not_run all p
by_request all (request.Explain n, p) = None

abbrev pub by_asked : Contents → Result Ready Failure → Option Failure
by_asked all (Err f) = Some f
by_asked all (Ok r) = by_request all r

-- the refusal that the words and the files call for, if so: nothing is written then
abbrev pub refused : List (List ℕ) → Contents → Option Failure
refused words all = by_asked all (asked words all)
