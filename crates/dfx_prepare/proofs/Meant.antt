-- What a script is prepared to: the query that the script means, of tokens of the text that spells it; so it is well-kinded, and each Scan of it has few columns, of kinds that are kinds.
use Rattle.std.specs.Prelude.{◌≡◌, ℕ, true, List, map, Result, Ok, Err}
use Rattle.std.specs.Result.{IfOk}
use Rattle.std.proofs.Common.{refl, ap, sym, subst, ◌∙◌, length}
use Rattle.sql_lexer.specs.Tokens.{Tokens}
use Rattle.sql_lexer.specs.declared.token.Token.{Token}
use Rattle.sql_lexer.specs.declared.refused.LexRefused.{LexRefused}
use Rattle.sql_grammar.specs.Parsed.{parsed}
use Rattle.sql_grammar.specs.declared.refused.SyntaxRefused.{SyntaxRefused}
use Rattle.sql_grammar.specs.declared.ast.Script.{Script}
use Rattle.typed_exprs.specs.Answer.{Answer}
use Rattle.sql_binder.specs.Bound.{bound}
use Rattle.logical_plan.specs.declared.query.Query.{Query}
use Rattle.binder_kind_laws.specs.Scans.{has_sound_scans}
use Rattle.binder_kind_laws.specs.Scripts.{declared_kinds}
use Rattle.binder_kind_laws.proofs.Bounds.{declared_kinded}
use Rattle.binder_kind_laws.proofs.Spelled.{spelled}
use Rattle.binder_kind_laws.proofs.Few.{scans_sound}
use Rattle.kind_laws.specs.Kinded.{is_well_kinded}
use Rattle.failure_text.specs.declared.failure.Failure.{Failure}
use Rattle.dfx_prepare.specs.Preparing.{Path, schema_of, of_parsed, of_tokens, script_of, of_bound, query_of, followed, with_files, IsOf}
use Rattle.dfx_prepare.specs.declared.prepared.Prepared.{Prepared}

bound_is : (a : Answer Query) (q : Query) → of_bound a ≡ Ok q → a ≡ Ok q
bound_is (Ok x) q e = (let a : x ≡ q = cc in ap Ok a)
bound_is (Err refusal) q e = cc

pub query_is : (script : Script) (q : Query) → query_of script ≡ Ok q → bound script (map schema_of script.tables) ≡ Ok q
unfolding query_of
query_is script q e = bound_is (bound script (map schema_of script.tables)) q e

of_tokens_is : (text : List ℕ) (script : Script) (r : Result (List Token) LexRefused) → of_tokens text r ≡ Ok script → (tokens : List Token) × (parsed text tokens ≡ Ok script)
of_tokens_is text script (Ok tokens) e = (tokens, go (parsed text tokens) e)
  where
    go : (r : Result Script SyntaxRefused) → of_parsed r ≡ Ok script → r ≡ Ok script
    go (Ok s) e = let a : s ≡ script = cc in ap Ok a
    go (Err refused) e = cc
of_tokens_is text script (Err refused) e = cc

-- the tokens of a text that spells a script are parsed to it
pub spells : (text : List ℕ) (script : Script) → script_of text ≡ Ok script → (tokens : List Token) × (parsed text tokens ≡ Ok script)
unfolding script_of
spells text script e = of_tokens_is text script (Tokens text) e

followed_query : (script : Script) (n : ℕ) (paths : List (List Path)) (p : Prepared) (r : Result Query Failure) → followed r (λ q. Ok (with_files script.tables n paths q)) ≡ Ok p → r ≡ Ok p.query
followed_query script n paths p (Ok q) h = (let a : with_files script.tables n paths q ≡ p = cc in ap (λ (x : Prepared). Ok x.query) a)
followed_query script n paths p (Err refusal) h = cc

pub scans_of : (text : List ℕ) (script : Script) (n : ℕ) (r : Result Prepared Failure) → script_of text ≡ Ok script → IfOk r (λ p. IsOf script n p)
    → IfOk r (λ p. has_sound_scans p.query.body ≡ true)
scans_of text script n (Ok p) e h =
    let t = spells text script e in
    scans_sound text t.0 script p.query t.1 (query_is script p.query (followed_query script n p.paths p (query_of script) h.is))
scans_of text script n (Err f) e h = tt

-- over the tables that a script declares
abbrev IsKinded : Script → Result Prepared Failure → Type 0
IsKinded script r = IfOk r (λ p. is_well_kinded (map declared_kinds script.tables) p.query.body ≡ true)

kinded_script : (text : List ℕ) (script : Script) (n : ℕ) (r : Result Prepared Failure) → script_of text ≡ Ok script → IfOk r (λ p. IsOf script n p) → IsKinded script r
kinded_script text script n (Ok p) e h =
    let t = spells text script e in
    (declared_kinded script p.query (spelled text t.0 script t.1) (query_is script p.query (followed_query script n p.paths p (query_of script) h.is))).body
kinded_script text script n (Err f) e h = tt

same_script : (e : Result Script Failure) (script s : Script) → e ≡ Ok script → e ≡ Ok s → script ≡ s
same_script (Ok x) script s a b = cc
same_script (Err f) script s a b = cc

pub kinded_of : (text : List ℕ) (script s : Script) (n : ℕ) (r : Result Prepared Failure) → script_of text ≡ Ok script → IfOk r (λ p. IsOf script n p) → script_of text ≡ Ok s → IsKinded s r
kinded_of text script s n r e h is =
    subst (λ (x : Script). IsKinded x r) (same_script (script_of text) script s e is) (kinded_script text script n r e h)
