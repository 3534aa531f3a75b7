-- What a text spells: each select has an item, and each column that a table declares has a kind that is one.
use Rattle.std.specs.Prelude.{nat_le, nat_lt, ◌+◌, ◌≤◌}
use Rattle.std.specs.List.{list_all}
use Rattle.std.proofs.Common.{ℕ, zero, suc, ◌≡◌, refl, ◌∙◌, sym, ap, subst, cond, Bool, true, false, ◌&&◌, Option, Some, None, Ok, List, [], ◌∷◌, ◌++◌, map, length, length-append, arith}
use Rattle.std.proofs.lemmas.Bool.{and_parts, and_from, lt-ltb, le-leb, false≢true}
use Rattle.std.proofs.lemmas.List.{length-map}
use Rattle.dfx_value.specs.Kinds.{is_kind, are_kinds}
use Rattle.dfx_value.specs.declared.kind.Kind.{Kind}
use Rattle.dfx_value.specs.declared.kind.Kind.TheVariants as kind
use Rattle.sql_lexer.specs.declared.token.Token as lexed
use Rattle.sql_grammar.specs.declared.class.Class.{Class}
use Rattle.sql_grammar.specs.declared.class.Class.TheVariants as c
use Rattle.sql_grammar.specs.declared.ast.ItemAst.{ItemAst}
use Rattle.sql_grammar.specs.declared.ast.FromAst.{FromAst}
use Rattle.sql_grammar.specs.declared.ast.FromAst.TheVariants.{Named}
use Rattle.sql_grammar.specs.declared.ast.JoinAst.{JoinAst}
use Rattle.sql_grammar.specs.declared.ast.SelectAst.{SelectAst}
use Rattle.sql_grammar.specs.declared.ast.TableAst.{TableAst}
use Rattle.sql_grammar.specs.declared.ast.Script.{Script}
use Rattle.sql_grammar.specs.Class.{Token, Tokens, among, starts}
use Rattle.sql_grammar.specs.Grammar.{Limits, limits, beyond, one, names, simple_types, forms}
use Rattle.sql_grammar.specs.Trees.{is_within, small, or_zero, kind_of, or_empty, alias_or, join_ast, select_of}
use Rattle.sql_grammar.specs.Reader.{Stop, Read, done, stop, unexpected, too_deep, too_many, Reader, and_then, ◌>>=◌, pure, matching, terminal, either, maybe, turns_within, turns, over, up_to, charge, inside, ahead, at_end}
use Rattle.sql_grammar.specs.Reading as r
use Rattle.sql_grammar.specs.Reading.{Readers}
use Rattle.sql_grammar.specs.Parsed.{tokens_of, read, answer, parsed}
use Rattle.binder_kind_laws.specs.Scripts.{all_have, select_has_items, from_has_items, join_has_items, has_items, declares_kinds, declared_kinds}
use Rattle.binder_kind_laws.specs.Scans.{are_few}
use Rattle.binder_kind_laws.proofs.Items.{named_items, derived_items, join_items, select_items, one_more}

-- ---- what readers give

abbrev IsRead : {A : Type 0} → (A → Type 0) → Read A → Type 0
IsRead P (done a n ts) = P a
IsRead P (stop k ts) = Unit {0}

-- whatever it reads is so
abbrev Gives : {A : Type 0} → (A → Type 0) → Reader A → Type 0
Gives P f = (n : ℕ) (ts : Tokens) → IsRead P (f n ts)

then_read : {A B : Type 0} (P : A → Type 0) (Q : B → Type 0) (a : Read A) (g : A → Reader B) → IsRead P a → ((x : A) → P x → Gives Q (g x)) → IsRead Q (and_then a g)
then_read P Q (done x n ts) g h k = k x h n ts
then_read P Q (stop s ts) g h k = tt

both : {A B : Type 0} (P : A → Type 0) (Q : B → Type 0) (f : Reader A) (g : A → Reader B) → Gives P f → ((x : A) → P x → Gives Q (g x)) → Gives Q (f >>= g)
both P Q f g h k n ts = then_read P Q (f n ts) g (h n ts) k

any_read : {A B : Type 0} (Q : B → Type 0) (a : Read A) (g : A → Reader B) → ((x : A) → Gives Q (g x)) → IsRead Q (and_then a g)
any_read Q (done x n ts) g k = k x n ts
any_read Q (stop s ts) g k = tt

-- behind anything
behind : {A B : Type 0} (Q : B → Type 0) (f : Reader A) (g : A → Reader B) → ((x : A) → Gives Q (g x)) → Gives Q (f >>= g)
behind Q f g k n ts = any_read Q (f n ts) g k

choice : {A : Type 0} (P : A → Type 0) (b : Bool) (x y : Read A) → IsRead P x → IsRead P y → IsRead P (cond {A = Read A} b x y)
choice P true x y h i = h
choice P false x y h i = i

either_gives : {A : Type 0} (P : A → Type 0) (cs : List Class) (f g : Reader A) → Gives P f → Gives P g → Gives P (either cs f g)
either_gives P cs f g h i n ts = choice P (starts cs ts) (f n ts) (g n ts) (h n ts) (i n ts)

ahead_gives : {A : Type 0} (P : A → Type 0) (test : Tokens → Bool) (f g : Reader A) → Gives P f → Gives P g → Gives P (ahead test f g)
ahead_gives P test f g h i n ts = choice P (test ts) (f n ts) (g n ts) (h n ts) (i n ts)

over_gives : {A : Type 0} (P : A → Type 0) (k : Stop) (cs : List Class) → Gives P (over {A = A} k cs)
over_gives P k cs n ts = choice P (starts cs ts) (stop k ts) (stop unexpected ts) tt tt

inside_gives : {A : Type 0} (P : A → Type 0) (cs : List Class) (d : ℕ) (f : Reader A) → Gives P f → Gives P (inside cs d f)
inside_gives P cs zero f h = over_gives P too_deep cs
inside_gives P cs (suc d) f h = h

-- where there is one
abbrev Maybe : {A : Type 0} → (A → Type 0) → Option A → Type 0
Maybe P None = Unit {0}
Maybe P (Some x) = P x

maybe_gives : {A : Type 0} (P : A → Type 0) (cs : List Class) (f : Reader A) → Gives P f → Gives (Maybe P) (maybe cs f)
maybe_gives P cs f h = either_gives (Maybe P) cs (f >>= λ a. pure (Some a)) (pure None) (both P (Maybe P) f (λ a. pure (Some a)) h (λ x p n ts. p)) (λ n ts. tt)

within_gives : {S : Type 0} (P : S → Type 0) (cs : List Class) (p : S → Reader S) → ((s : S) → P s → Gives P (p s)) → (k : ℕ) (s : S) → P s → Gives P (turns_within cs p k s)
unfolding turns_within
within_gives P cs p h zero s q n ts = q
within_gives P cs p h (suc k) s q n ts = choice P (starts cs ts) (and_then (p s n ts) (λ next. turns_within cs p k next)) (done s n ts) (then_read P P (p s n ts) (λ next. turns_within cs p k next) (h s q n ts) (λ x i. within_gives P cs p h k x i)) q

turns_give : {S : Type 0} (P : S → Type 0) (cs : List Class) (p : S → Reader S) → ((s : S) → P s → Gives P (p s)) → (s : S) → P s → Gives P (turns cs p s)
turns_give P cs p h s q n ts = within_gives P cs p h (length ts) s q n ts

up_to_gives : {S : Type 0} (P : S → Type 0) (cs : List Class) (p : S → Reader S) (full : Reader S) → ((s : S) → P s → Gives P (p s)) → Gives P full → (k : ℕ) (s : S) → P s → Gives P (up_to cs p full k s)
unfolding up_to
up_to_gives P cs p full h f zero s q = either_gives P cs full (pure s) f (λ n ts. q)
up_to_gives P cs p full h f (suc k) s q = either_gives P cs (p s >>= λ next. up_to cs p full k next) (pure s) (both P P (p s) (λ next. up_to cs p full k next) (h s q) (λ x i. up_to_gives P cs p full h f k x i)) (λ n ts. q)

matching_gives : (passes : Token → Bool) → Gives (λ t. passes t ≡ true) (matching passes)
unfolding matching
matching_gives passes n [] = tt
matching_gives passes n (t ∷ ts) = go (passes t) refl
  where
    go : (b : Bool) → passes t ≡ b → IsRead (λ u. passes u ≡ true) (cond {A = Read Token} b (done t n ts) (stop unexpected (t ∷ ts)))
    go true e = e
    go false e = tt

-- ---- lists

full_gives : {S : Type 0} (P : S → Type 0) (cs : List Class) → Gives P (r.full {S = S} cs)
full_gives P cs = behind P (terminal (one c.Comma)) (λ comma. over too_many cs) (λ t. over_gives P too_many cs)

listing_gives : {S : Type 0} (P : S → Type 0) (cs : List Class) (q : S → Reader S) → ((s : S) → P s → Gives P (q s)) → (more : ℕ) (s : S) → P s → Gives P (r.listing cs q more s)
listing_gives P cs q h more s p = up_to_gives P (one c.Comma) (r.behind q) (r.full cs) (λ x i. behind P (terminal (one c.Comma)) (λ comma. q x) (λ t. h x i)) (full_gives P cs) more s p

-- a list of which this holds with one item, and with one more
listed_gives : {A : Type 0} (P : List A → Type 0) (cs : List Class) (more : ℕ) (p : Reader A) → Gives P (r.item_of p []) → ((found : List A) → P found → Gives P (r.item_of p found)) → Gives P (r.listed cs more p)
listed_gives P cs more p first step = both P P (r.item_of p []) (λ x. r.listing cs (r.item_of p) more x) first (λ x i. listing_gives P cs (r.item_of p) step more x i)

enclosed_gives : {A : Type 0} (P : List A → Type 0) (cs : List Class) (more : ℕ) (p : Reader A) → Gives P (r.item_of p []) → ((found : List A) → P found → Gives P (r.item_of p found)) → Gives P (r.enclosed cs more p)
enclosed_gives P cs more p first step =
    behind P (terminal (one c.Open)) _ (λ t. both P P (r.listed cs more p) _ (listed_gives P cs more p first step) (λ found i. behind P (terminal (one c.Close)) (λ close. pure found) (λ u n ts. i)))

-- ---- how long lists are

abbrev Long : {A : Type 0} → ℕ → List A → Type 0
Long n xs = length xs ≤ n

pair_read : {A : Type 0} (P Q : A → Type 0) (a : Read A) → IsRead P a → IsRead Q a → IsRead (λ x. P x × Q x) a
pair_read P Q (done x n ts) h k = (h, k)
pair_read P Q (stop s ts) h k = tt

pair_gives : {A : Type 0} (P Q : A → Type 0) (f : Reader A) → Gives P f → Gives Q f → Gives (λ x. P x × Q x) f
pair_gives P Q f h k n ts = pair_read P Q (f n ts) (h n ts) (k n ts)

-- one longer than what was found
abbrev OneMore : {A : Type 0} → List A → List A → Type 0
OneMore found xs = length xs ≡ suc (length found)

item_long : {A : Type 0} (p : Reader A) (found : List A) → Gives (OneMore found) (r.item_of p found)
item_long p found = behind (OneMore found) p (λ next. pure (found ++ next ∷ [])) (λ x n ts. (let a = length-append found (x ∷ []) in omega arith))

up_to_long : {A : Type 0} (cs : List Class) (p : List A → Reader (List A)) (full : Reader (List A)) → ((P : List A → Type 0) → Gives P full)
    → ((s : List A) → Gives (OneMore s) (p s)) → (k : ℕ) (s : List A) → Gives (Long (length s + k)) (up_to cs p full k s)
unfolding up_to
up_to_long cs p full none h zero s = either_gives (Long (length s + 0)) cs full (pure s) (none (Long (length s + 0))) (λ n ts. omega arith)
up_to_long cs p full none h (suc k) s = either_gives (Long (length s + suc k)) cs (p s >>= λ next. up_to cs p full k next) (pure s)
    (both (OneMore s) (Long (length s + suc k)) (p s) (λ next. up_to cs p full k next) (h s)
    (λ x i. subst (λ m. Gives (Long m) (up_to cs p full k x)) (omega arith) (up_to_long cs p full none h k x)))
    (λ n ts. omega arith)

listed_long : {A : Type 0} (cs : List Class) (more : ℕ) (p : Reader A) → Gives (Long (suc more)) (r.listed cs more p)
listed_long cs more p = both (OneMore []) (Long (suc more)) (r.item_of p []) (λ x. r.listing cs (r.item_of p) more x) (item_long p [])
    (λ x i. subst (λ m. Gives (Long m) (r.listing cs (r.item_of p) more x)) (let a : length x ≡ 1 = i in omega arith)
    (up_to_long (one c.Comma) (r.behind (r.item_of p)) (r.full cs) (λ P. full_gives P cs)
    (λ s. behind (OneMore s) (terminal (one c.Comma)) (λ comma. r.item_of p s) (λ t. item_long p s)) more x))

enclosed_long : {A : Type 0} (cs : List Class) (more : ℕ) (p : Reader A) → Gives (Long (suc more)) (r.enclosed cs more p)
enclosed_long cs more p =
    behind (Long (suc more)) (terminal (one c.Open)) _ (λ t. both (Long (suc more)) (Long (suc more)) (r.listed cs more p) _ (listed_long cs more p)
    (λ found i. behind (Long (suc more)) (terminal (one c.Close)) (λ close. pure found) (λ u n ts. i)))

-- ---- kinds

abbrev Real : Kind → Type 0
Real k = is_kind k ≡ true

abbrev Between : ℕ → ℕ → ℕ → Type 0
Between least most n = (nat_le least n && nat_le n most) ≡ true

within_most : (least most : ℕ) (o : Option ℕ) → is_within least most o ≡ true → Between least most (or_zero o)
within_most least most None h = absurd (false≢true h)
within_most least most (Some n) h = h

number_gives : (least most : ℕ) → Gives (Between least most) (r.number_from least most)
unfolding r.number_from
number_gives least most =
    both (λ t. (among t.class (one c.Number) && is_within least most (small 0 t.text)) ≡ true) (Between least most) (matching (λ t. among t.class (one c.Number) && is_within least most (small 0 t.text))) (λ t. pure (or_zero (small 0 t.text)))
    (matching_gives (λ t. among t.class (one c.Number) && is_within least most (small 0 t.text)))
    (λ t h n ts. within_most least most (small 0 t.text) (and_parts (among t.class (one c.Number)) (is_within least most (small 0 t.text)) h).1)

decimal_gives : Gives Real r.decimal
unfolding r.decimal
decimal_gives =
    behind Real (terminal (one c.DecimalType)) _ (λ word. behind Real (terminal (one c.Open)) _ (λ open_.
    both (Between 1 38) Real (r.number_from 1 38) _ (number_gives 1 38) (λ p h. behind Real (terminal (one c.Comma)) _ (λ comma.
    both (Between 0 p) Real (r.number_from 0 p) _ (number_gives 0 p) (λ s i. behind Real (terminal (one c.Close)) (λ close. pure (kind.Dec p s)) (λ close n ts. and_from (nat_le 1 p && nat_le p 38) (nat_le s p) h (and_parts (nat_le 0 s) (nat_le s p) i).1))))))

simple_real : (k : Class) → Real (kind_of k)
simple_real c.IntType = refl
simple_real c.TextType = refl
simple_real _ = refl

type_gives : Gives Real r.type_name
unfolding r.type_name r.simple_type
type_gives = either_gives Real simple_types (terminal simple_types >>= λ t. pure (kind_of t.class)) r.decimal (behind Real (terminal simple_types) (λ t. pure (kind_of t.class)) (λ t n ts. simple_real t.class)) decimal_gives

abbrev Declared : List ℕ × Kind → Type 0
Declared x = Real x.1

column_gives : Gives Declared r.column
unfolding r.column
column_gives = behind Declared (terminal names) (λ name. r.type_name >>= λ k. pure (name.text, k)) (λ name. both Real Declared r.type_name (λ k. pure (name.text, k)) type_gives (λ k h n ts. h))

abbrev kinds_of_columns : List (List ℕ × Kind) → List Kind
kinds_of_columns cs = map (λ (x : List ℕ × Kind). x.1) cs

abbrev Columns : List (List ℕ × Kind) → Type 0
Columns cs = are_kinds (kinds_of_columns cs) ≡ true

kinds_more : (cs : List (List ℕ × Kind)) (x : List ℕ × Kind) → Columns cs → Real x.1 → Columns (cs ++ x ∷ [])
kinds_more [] x h i = and_from (is_kind x.1) true i refl
kinds_more (y ∷ ys) x h i = let b = and_parts (is_kind y.1) (are_kinds (kinds_of_columns ys)) h in and_from (is_kind y.1) _ b.0 (kinds_more ys x b.1 i)

item_gives : (found : List (List ℕ × Kind)) → Columns found → Gives Columns (r.item_of r.column found)
item_gives found h = both Declared Columns r.column (λ next. pure (found ++ next ∷ [])) column_gives (λ x i n ts. kinds_more found x h i)

-- columns with kinds, and at most one and so many more
abbrev Listed : ℕ → List (List ℕ × Kind) → Type 0
Listed more cs = Columns cs × Long (suc more) cs

columns_give : (more : ℕ) → Gives (Listed more) (r.columns_of more)
unfolding r.columns_of
columns_give more =
    pair_gives Columns (Long (suc more)) (r.enclosed names more r.column)
    (enclosed_gives Columns names more r.column (item_gives [] refl) item_gives) (enclosed_long names more r.column)

-- a table's columns are as few, and each has a kind
abbrev is_listed : ℕ → TableAst → Bool
is_listed more t = declares_kinds t && nat_le (length (declared_kinds t)) (suc more)

few_kinds : (more : ℕ) (cs : List (List ℕ × Kind)) → Long (suc more) cs → nat_le (length (kinds_of_columns cs)) (suc more) ≡ true
few_kinds more cs h = le-leb (length (kinds_of_columns cs)) (suc more) (subst (λ n. n ≤ suc more) (sym (length-map cs (λ (x : List ℕ × Kind). x.1))) h)

or_none : (more : ℕ) (o : Option (List (List ℕ × Kind))) → Maybe (Listed more) o
    → (are_kinds (kinds_of_columns (or_empty o)) && nat_le (length (kinds_of_columns (or_empty o))) (suc more)) ≡ true
or_none more None h = few_kinds more [] (omega arith)
or_none more (Some cs) h = and_from (are_kinds (kinds_of_columns cs)) (nat_le (length (kinds_of_columns cs)) (suc more)) h.0 (few_kinds more cs h.1)

abbrev Table : ℕ → TableAst → Type 0
Table more t = is_listed more t ≡ true

create_gives : (more : ℕ) → Gives (Table more) (r.create more)
unfolding r.create
create_gives more = let T = Table more in
    behind T (terminal (one c.Create)) _ (λ create_. behind T (terminal (one c.External)) _ (λ external. behind T (terminal (one c.Table)) _ (λ table. behind T (terminal names) _ (λ name.
    both (Maybe (Listed more)) T (maybe (one c.Open) (r.columns_of more)) _ (maybe_gives (Listed more) (one c.Open) (r.columns_of more) (columns_give more)) (λ columns h.
    behind T (terminal (one c.Stored)) _ (λ stored. behind T (terminal (one c.As)) _ (λ as_. behind T (terminal forms) _ (λ form. behind T (maybe (one c.With) r.header_row) _ (λ header.
    behind T (terminal (one c.Location)) _ (λ location. behind T (terminal (one c.Str)) _ (λ path. behind T (maybe (one c.Options) (r.settings more)) _ (λ options n ts. or_none more columns h))))))))))))

abbrev Tables : ℕ → List TableAst → Type 0
Tables more ts = list_all (is_listed more) ts ≡ true

tables_more : (more : ℕ) (ts : List TableAst) (t : TableAst) → Tables more ts → Table more t → Tables more (ts ++ t ∷ [])
tables_more more [] t h i = and_from (is_listed more t) true i refl
tables_more more (u ∷ us) t h i = let b = and_parts (is_listed more u) (list_all (is_listed more) us) h in and_from (is_listed more u) _ b.0 (tables_more more us t b.1 i)

declared_gives : (more : ℕ) (tables : List TableAst) → Tables more tables → Gives (Tables more) (r.declared more tables)
unfolding r.declared
declared_gives more tables h = both (Table more) (Tables more) (r.create more) _ (create_gives more) (λ t i. behind (Tables more) (terminal (one c.Semicolon)) (λ semicolon. pure (tables ++ t ∷ [])) (λ u n ts. tables_more more tables t h i))

-- ---- selects

abbrev Selects : List SelectAst → Type 0
Selects ss = all_have (map select_has_items ss) ≡ true

abbrev From : FromAst → Type 0
From f = from_has_items f ≡ true

abbrev Joins : List JoinAst → Type 0
Joins js = all_have (map join_has_items js) ≡ true

abbrev Items : List ItemAst → Type 0
Items is = nat_lt 0 (length is) ≡ true

module _ (l : Limits) (d : ℕ) (below : Readers) (nested : Gives Selects below.union) where
  abbrev Nested : ℕ × List SelectAst → Type 0
  Nested x = Selects x.1

  nested_gives : Gives Nested (r.nested l d below)
  unfolding r.nested
  nested_gives = behind Nested (terminal (one c.Open)) _ (λ open_. both Selects Nested below.union _ nested (λ parts h. behind Nested (terminal (one c.Close)) (λ close. pure (open_.place, parts)) (λ close n ts. h)))

  derived_gives : Gives From (r.derived_table l d below)
  unfolding r.derived_table
  derived_gives = both Nested From (inside (one c.Open) d (r.nested l d below)) _ (inside_gives Nested (one c.Open) d (r.nested l d below) nested_gives)
      (λ found h. behind From r.called _ (λ alias n ts. derived_items found.1 alias.text found.0 ∙ h))

  named_gives : Gives From (r.table_name l d below)
  unfolding r.table_name
  named_gives =
      behind From (charge l.tables 1 names (terminal names)) (λ t. maybe r.called_first r.called >>= λ alias. pure (Named t.text (alias_or alias t.text) t.place))
      (λ t. behind From (maybe r.called_first r.called) (λ alias. pure (Named t.text (alias_or alias t.text) t.place)) (λ alias n ts. named_items t.text (alias_or alias t.text) t.place))

  from_gives : Gives From (r.from_of l d below)
  unfolding r.from_of
  from_gives = either_gives From (one c.Open) (r.derived_table l d below) (r.table_name l d below) derived_gives named_gives

  join_gives : (joins : List JoinAst) → Joins joins → Gives Joins (r.join_of l d below joins)
  unfolding r.join_of join_ast
  join_gives joins h =
      behind Joins (r.join_words l d below) _ (λ k. both From Joins (r.from_of l d below) _ from_gives (λ right i. behind Joins (terminal (one c.On)) _ (λ on. behind Joins (r.whole_expr l d below) _ (λ e n ts.
      one_more join_has_items joins (join_ast k right e) h (join_items (record { kind = k; right = right; on = e }) ∙ i)))))

  items_give : Gives Items (r.listed r.item_first l.more (r.select_item l d below))
  items_give = listed_gives Items r.item_first l.more (r.select_item l d below)
      (behind Items (r.select_item l d below) (λ next. pure ([] ++ next ∷ [])) (λ i n ts. refl))
      (λ found h. behind Items (r.select_item l d below) (λ next. pure (found ++ next ∷ [])) (λ i n ts. let e = length-append found (i ∷ []) in lt-ltb 0 (length (found ++ i ∷ [])) (omega arith)))

  abbrev Select : SelectAst → Type 0
  Select s = select_has_items s ≡ true

  select_gives : Gives Select (r.select l d below)
  unfolding r.select select_of
  select_gives =
      behind Select (terminal (one c.Select)) _ (λ select_. behind Select (maybe (one c.Distinct) (terminal (one c.Distinct))) _ (λ distinct.
      both Items Select (r.listed r.item_first l.more (r.select_item l d below)) _ items_give (λ items h. behind Select (terminal (one c.From)) _ (λ from_.
      both From Select (r.from_of l d below) _ from_gives (λ first i.
      both Joins Select (turns r.join_first (r.join_of l d below) []) _ (turns_give Joins r.join_first (r.join_of l d below) join_gives [] refl) (λ joins j.
      behind Select (maybe (one c.Where) (r.where_of l d below)) _ (λ test. behind Select (maybe (one c.Group) (r.group_by l d below)) _ (λ groups. behind Select (maybe (one c.Having) (r.having_of l d below)) _ (λ having n ts.
      select_items _ ∙ and_from (nat_lt 0 (length items)) _ h (and_from (from_has_items first) _ i j))))))))))

  united_gives : (parts : List SelectAst) → Selects parts → Gives Selects (r.united l d below parts)
  unfolding r.united
  united_gives parts h = behind Selects (terminal (one c.Union)) _ (λ union. behind Selects (terminal (one c.All)) _ (λ all. both Select Selects (r.select l d below) (λ next. pure (parts ++ next ∷ [])) select_gives (λ s i n ts. one_more select_has_items parts s h i)))

  union_gives : Gives Selects (r.union_of l d below)
  unfolding r.union_of
  union_gives = both Select Selects (r.select l d below) _ select_gives (λ first h. turns_give Selects (one c.Union) (r.united l d below) united_gives (first ∷ []) (and_from (select_has_items first) true h refl))

-- at each level of nesting
under_gives : (l : Limits) (d : ℕ) → Gives Selects (r.under l d).union
unfolding r.under
under_gives l zero = over_gives Selects too_deep []
under_gives l (suc d) = union_gives l d (r.under l d) (under_gives l d)

-- ---- scripts

abbrev pub IsScript : ℕ → Script → Type 0
IsScript more s = (has_items s ≡ true) × (list_all (is_listed more) s.tables ≡ true)

script_gives : (l : Limits) (tables d : ℕ) → Gives (IsScript l.more) (r.script_within l tables d)
unfolding r.script_within
script_gives l tables d = let T = Tables l.more in let S = IsScript l.more in
    both T S (up_to (one c.Create) (r.declared l.more) (over too_many (one c.Create)) tables []) _
    (up_to_gives T (one c.Create) (r.declared l.more) (over too_many (one c.Create)) (declared_gives l.more) (over_gives T too_many (one c.Create)) tables [] refl) (λ declared h.
    both Selects S (r.union_of l d (r.under l d)) _ (union_gives l d (r.under l d) (under_gives l d)) (λ parts i.
    behind S (maybe (one c.Order) (r.order_by l d (r.under l d))) _ (λ order. behind S (maybe (one c.Limit) (r.number l d (r.under l d) c.Limit)) _ (λ limit.
    behind S (maybe (one c.Offset) (r.number l d (r.under l d) c.Offset)) _ (λ offset. behind S (maybe (one c.Semicolon) (terminal (one c.Semicolon))) _ (λ end n ts. (i, h)))))))

end_gives : (P : Script → Type 0) (s : Script) → P s → Gives P (at_end s)
end_gives P s h n [] = h
end_gives P s h n (t ∷ ts) = tt

answered : (P : Script → Type 0) (end : ℕ) (x : Read Script) (s : Script) → IsRead P x → answer end x ≡ Ok s → P s
answered P end (done a n rest) s h e = let q : a ≡ s = cc in subst P q h
answered P end (stop k rest) s h e = go k e
  where
    go : (k : Stop) → answer end (stop k rest) ≡ Ok s → P s
    go unexpected e = cc
    go too_deep e = cc
    go too_many e = cc

all_kinds : (more : ℕ) (ts : List TableAst) → list_all (is_listed more) ts ≡ true → list_all declares_kinds ts ≡ true
all_kinds more [] h = refl
all_kinds more (t ∷ ts) h =
    let a = and_parts (is_listed more t) (list_all (is_listed more) ts) h in
    and_from (declares_kinds t) (list_all declares_kinds ts) (and_parts (declares_kinds t) (nat_le (length (declared_kinds t)) (suc more)) a.0).0 (all_kinds more ts a.1)

all_few : (ts : List TableAst) → list_all (is_listed 255) ts ≡ true → list_all are_few (map declared_kinds ts) ≡ true
all_few [] h = refl
all_few (t ∷ ts) h =
    let a = and_parts (is_listed 255 t) (list_all (is_listed 255) ts) h in
    and_from (are_few (declared_kinds t)) (list_all are_few (map declared_kinds ts)) (and_parts (declares_kinds t) (are_few (declared_kinds t)) a.0).1 (all_few ts a.1)

-- the script that a text spells has items, and its tables have kinds, at most 256 each
pub record IsSpelled (s : Script) : Type 0 where
  pub items : has_items s ≡ true
  pub kinds : list_all declares_kinds s.tables ≡ true
  pub few : list_all are_few (map declared_kinds s.tables) ≡ true

pub spelled : (text : List ℕ) (tokens : List lexed.Token) (script : Script) → parsed text tokens ≡ Ok script → IsSpelled script
unfolding read
spelled text tokens script e =
    let h : IsScript 255 script = answered (IsScript 255) (length text) (read (tokens_of text tokens)) script
    (both (IsScript 255) (IsScript 255) (r.script_at 0) at_end (script_gives (limits 0) (beyond 0 64) (beyond 0 64)) (end_gives (IsScript 255)) 0 (tokens_of text tokens)) e in
    record { items = h.0; kinds = all_kinds 255 script.tables h.1; few = all_few script.tables h.1 }
