-- A list of kinds that has ended.
use Rattle.std.proofs.Common.{◌≡◌, refl, ap, sym, ◌∙◌, ℕ, List, [], ◌∷◌, ◌++◌, drop, length, ◌≤◌}
use Rattle.std.proofs.Math.ListN.{drop_of_length-le}
use Rattle.std.proofs.lemmas.List.{append-nil}
use Rattle.dfx_value.specs.declared.kind.Kind.{Kind}
use Rattle.typed_exprs.specs.Scopes.{Columns}
use Rattle.sql_tables.specs.Tables.{columns_under}

columns_of_none : (alias : List ℕ) (ns : List (List ℕ)) → columns_under alias ns [] ≡ []
columns_of_none alias [] = refl
columns_of_none alias (n ∷ ns) = refl

-- those so far are all
pub all_named : (alias : List ℕ) (k : ℕ) (ns : List (List ℕ)) (ks : List Kind) (done all : Columns) → length ks ≤ k → done ++ columns_under alias (drop k ns) (drop k ks) ≡ all → done ≡ all
all_named alias k ns ks done all h e = sym (append-nil done) ∙ sym (ap (λ (xs : Columns). done ++ xs) (ap (columns_under alias (drop k ns)) (drop_of_length-le ks h) ∙ columns_of_none alias (drop k ns))) ∙ e
