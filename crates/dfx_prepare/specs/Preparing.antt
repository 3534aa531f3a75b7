-- Meaning: what the text of a script is prepared to over files of these contents, for n partitions,
-- or its first refusal: its tokens, its grammar, its tables in the order of their statements, and
-- its names and kinds.
use Rattle.std.specs.Prelude.{ℕ, ◌≡◌, Bool, List, [], ◌∷◌, map, filter, length, Result, Ok, Err, if◌then◌else◌}
use Rattle.dfx_outside.specs.Contents.{Contents, has_folder}
use Rattle.sql_lexer.specs.Tokens.{Tokens}
use Rattle.sql_lexer.specs.declared.token.Token.{Token}
use Rattle.sql_lexer.specs.declared.refused.LexRefused.{LexRefused}
use Rattle.sql_grammar.specs.Parsed.{parsed}
use Rattle.sql_grammar.specs.declared.ast.Script.{Script}
use Rattle.sql_grammar.specs.declared.ast.TableAst.{TableAst}
use Rattle.sql_grammar.specs.declared.refused.SyntaxRefused.{SyntaxRefused}
use Rattle.typed_exprs.specs.Answer.{Answer}
use Rattle.sql_binder.specs.Bound.{bound}
use Rattle.typed_exprs.specs.Refusals.{named}
use Rattle.sql_tables.specs.Tables.{declared}
use Rattle.sql_tables.specs.declared.schema.Schema.{Schema}
use Rattle.logical_plan.specs.declared.query.Query.{Query}
use Rattle.physical_plan.specs.declared.plan.Plan.{Plan}
use Rattle.physical_build.specs.Build.{build}
use Rattle.enforce_dist.specs.Distribute.{enforce_distribution}
use Rattle.enforce_sort.specs.Arrange.{enforce_sorting}
use Rattle.dfx_prepare.specs.Listings.{listing, is_folder, is_csv}
use Rattle.failure_text.specs.declared.failure.Failure.{Failure}
use Rattle.failure_text.specs.declared.failure.Failure.TheVariants as failure
use Rattle.dfx_prepare.specs.declared.prepared.Prepared.{Prepared}

abbrev pub Path : Type 0
Path = List ℕ

abbrev pub of_parsed : Result Script SyntaxRefused → Result Script Failure
of_parsed (Ok script) = Ok script
of_parsed (Err refused) = Err (failure.Syntax refused)

abbrev pub of_tokens : List ℕ → Result (List Token) LexRefused → Result Script Failure
of_tokens text (Ok tokens) = of_parsed (parsed text tokens)
of_tokens text (Err refused) = Err (failure.Lexer refused)

-- the script that a text spells
unfoldable pub script_of : List ℕ → Result Script Failure
script_of text = of_tokens text (Tokens text)

-- the files of a folder of CSV files
abbrev pub folder_files : Contents → Path → Result (List Path) Failure
folder_files all folder =
    if has_folder all folder then Ok (filter is_csv (listing all folder))
    else Err (failure.Missing folder)

-- the files of a table; those of a folder are looked up, a single one isn't
abbrev pub table_files : Contents → TableAst → Result (List Path) Failure
table_files all t =
    if t.arrow then Err failure.NotBuilt
    else (if is_folder t.location then folder_files all t.location else Ok (t.location ∷ []))

-- what follows an answer; a refusal is the last word
abbrev pub followed : {A B : Type 0} → Result A Failure → (A → Result B Failure) → Result B Failure
followed (Ok x) next = next x
followed (Err refusal) next = Err refusal

-- the files of each table, or the first refusal
abbrev pub files_of : Contents → List TableAst → Result (List (List Path)) Failure
files_of all [] = Ok []
files_of all (t ∷ ts) =
    followed (table_files all t) (λ paths. followed (files_of all ts) (λ more. Ok (paths ∷ more)))

-- the columns of a table as its statement declares them
abbrev pub schema_of : TableAst → Schema
schema_of t = declared t.columns

abbrev pub of_bound : Answer Query → Result Query Failure
of_bound (Ok q) = Ok q
of_bound (Err refusal) = Err (failure.Binder (named refusal))

-- the query of a script over its tables
unfoldable pub query_of : Script → Result Query Failure
query_of script = of_bound (bound script (map schema_of script.tables))

-- the finished plan of a query over tables of so many files
abbrev pub plan_of : Query → List ℕ → ℕ → Plan
plan_of q files n = enforce_sorting (enforce_distribution (build q files n) n)

abbrev pub table_names : List TableAst → List (List ℕ)
table_names tables = map (λ t. t.name) tables

abbrev pub are_arrow : List TableAst → List Bool
are_arrow tables = map (λ t. t.arrow) tables

-- a query over these files of the tables
abbrev pub with_files : List TableAst → ℕ → List (List Path) → Query → Prepared
with_files tables n paths q = record {
  query = q;
  plan = plan_of q (map length paths) n;
  tables = table_names tables;
  paths = paths;
  arrow = are_arrow tables;
}

-- what a script is prepared to over these files of its tables
abbrev pub prepared_over : Script → ℕ → List (List Path) → Result Prepared Failure
prepared_over script n paths =
    followed (query_of script) (λ q. Ok (with_files script.tables n paths q))

-- what a script is prepared to
abbrev pub prepared_script : Contents → ℕ → Script → Result Prepared Failure
prepared_script all n script = followed (files_of all script.tables) (prepared_over script n)

-- what a text is prepared to
abbrev pub prepared : List ℕ → Contents → ℕ → Result Prepared Failure
prepared text all n = followed (script_of text) (prepared_script all n)

-- ---- whatever the files are

-- over some files of each table, it is what the script is prepared to
pub record IsOf (script : Script) (n : ℕ) (p : Prepared) : Type 0 where
  pub each : length p.paths ≡ length script.tables
  pub is : prepared_over script n p.paths ≡ Ok p

abbrev pub IsOfScript : Result Script Failure → ℕ → Prepared → Type 0
IsOfScript (Ok script) n p = IsOf script n p
IsOfScript (Err refusal) n p = ⊥

-- so for the script that a text spells
abbrev pub IsOfText : List ℕ → ℕ → Prepared → Type 0
IsOfText text n p = IsOfScript (script_of text) n p
