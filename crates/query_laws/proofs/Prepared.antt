-- What a script is prepared to: its bound query, with its plan, over as many lists of files as it has tables.
use Rattle.std.proofs.Common.{ℕ, suc, ◌+◌, ◌≡◌, refl, sym, ap, ◌∙◌, List, [], ◌∷◌, length, map, Result, Ok, Err, subst, arith}
use Rattle.dfx_outside.specs.Contents.{Contents}
use Rattle.sql_lexer.specs.Tokens.{Tokens}
use Rattle.sql_lexer.specs.declared.token.Token.{Token}
use Rattle.sql_lexer.specs.declared.refused.LexRefused.{LexRefused}
use Rattle.sql_grammar.specs.Parsed.{parsed}
use Rattle.sql_grammar.specs.declared.refused.SyntaxRefused.{SyntaxRefused}
use Rattle.sql_grammar.specs.declared.ast.Script.{Script}
use Rattle.sql_grammar.specs.declared.ast.TableAst.{TableAst}
use Rattle.typed_exprs.specs.Answer.{Answer}
use Rattle.sql_binder.specs.Bound.{bound}
use Rattle.logical_plan.specs.declared.query.Query.{Query}
use Rattle.dfx_prepare.specs.Preparing.{Path, schema_of, of_parsed, of_tokens, script_of, of_bound, query_of, plan_of, table_files, followed, files_of, with_files, prepared_over, prepared_script, prepared}
use Rattle.failure_text.specs.declared.failure.Failure.{Failure}
use Rattle.dfx_prepare.specs.declared.prepared.Prepared.{Prepared}
use Rattle.dfx_prepare.proofs.Meant.{query_is}
use Rattle.kind_laws.specs.Tables.{table_kinds, file_counts}
use Rattle.query_laws.specs.Runs.{csv_tables}

-- the query is the one that the script means, the plan is its plan, and each table has a list of files
pub record IsOf (script : Script) (n : ℕ) (p : Prepared) : Type 0 where
  pub query : bound script (map schema_of script.tables) ≡ Ok p.query
  pub plan : p.plan ≡ plan_of p.query (map length p.paths) n
  pub each : length p.paths ≡ length script.tables

counted : (all : Contents) (ts : List TableAst) (paths : List (List Path)) → files_of all ts ≡ Ok paths → length paths ≡ length ts
counted all [] paths e = (let a : [] ≡ paths = cc in ap length (sym a))
counted all (t ∷ ts) paths e = by_table (table_files all t) (counted all ts) e
  where
    by_rest : (files : List Path) (r : Result (List (List Path)) Failure) → files_of all ts ≡ r
        → ((more : List (List Path)) → files_of all ts ≡ Ok more → length more ≡ length ts)
        → followed r (λ more. Ok (files ∷ more)) ≡ Ok paths → length paths ≡ suc (length ts)
    by_rest files (Ok more) is k h = (let a : files ∷ more ≡ paths = cc in ap length (sym a) ∙ ap suc (k more is))
    by_rest files (Err refusal) is k h = cc

    by_table : (r : Result (List Path) Failure)
        → ((more : List (List Path)) → files_of all ts ≡ Ok more → length more ≡ length ts)
        → followed r (λ files. followed (files_of all ts) (λ more. Ok (files ∷ more))) ≡ Ok paths → length paths ≡ suc (length ts)
    by_table (Ok files) k h = by_rest files (files_of all ts) refl k h
    by_table (Err refusal) k h = cc

of_query : (script : Script) (n : ℕ) (paths : List (List Path)) (p : Prepared) → length paths ≡ length script.tables → (r : Result Query Failure) → query_of script ≡ r
    → followed r (λ q. Ok (with_files script.tables n paths q)) ≡ Ok p → IsOf script n p
of_query script n paths p l (Ok q) e h = (let a : with_files script.tables n paths q ≡ p = cc in
    subst (IsOf script n) a (record { query = query_is script q e; plan = refl; each = l }))
of_query script n paths p l (Err refusal) e h = cc

of_files : (all : Contents) (n : ℕ) (script : Script) (p : Prepared) (r : Result (List (List Path)) Failure) → files_of all script.tables ≡ r → followed r (prepared_over script n) ≡ Ok p → IsOf script n p
of_files all n script p (Ok paths) e h = of_query script n paths p (counted all script.tables paths e) (query_of script) refl h
of_files all n script p (Err refusal) e h = cc

pub is_of : (text : List ℕ) (all : Contents) (n : ℕ) (script : Script) (p : Prepared) → script_of text ≡ Ok script → prepared text all n ≡ Ok p → IsOf script n p
is_of text all n script p s e = of_files all n script p (files_of all script.tables) refl (sym (ap (λ r. followed r (prepared_script all n)) s) ∙ e)

-- ------------------------------------------------------------ its tables

pub kinds_are : (ts : List TableAst) (paths : List (List Path)) → length paths ≡ length ts → table_kinds (csv_tables ts paths) ≡ map (λ (t : TableAst). (schema_of t).kinds) ts
kinds_are [] paths e = refl
kinds_are (t ∷ ts) [] e = cc
kinds_are (t ∷ ts) (files ∷ paths) e = ap (λ ks. (schema_of t).kinds ∷ ks) (kinds_are ts paths (omega arith))

pub counts_are : (ts : List TableAst) (paths : List (List Path)) → length paths ≡ length ts → file_counts (csv_tables ts paths) ≡ map length paths
counts_are [] [] e = refl
counts_are [] (files ∷ paths) e = cc
counts_are (t ∷ ts) [] e = cc
counts_are (t ∷ ts) (files ∷ paths) e = ap (λ ns. length files ∷ ns) (counts_are ts paths (omega arith))
