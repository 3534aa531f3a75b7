-- Small scripts and what reading them gives.
use Rattle.std.proofs.Common.{◌≡◌, ℕ, [], ◌∷◌, None, refl}
use Rattle.dfx_value.specs.declared.op.Op.TheVariants as op
use Rattle.sql_grammar.specs.declared.class.Class.{Class}
use Rattle.sql_grammar.specs.declared.class.Class.TheVariants as class
use Rattle.sql_grammar.specs.declared.ast.NodeAst.TheVariants as node
use Rattle.sql_grammar.specs.declared.ast.ItemAst.TheVariants as item
use Rattle.sql_grammar.specs.declared.ast.FromAst.TheVariants as from
use Rattle.sql_grammar.specs.Class.{Token}
use Rattle.sql_grammar.specs.Reader.{done, stop, unexpected, only, matching, turns_within, up_to}
use Rattle.sql_grammar.specs.Trees.{at, binary, select_of}
use Rattle.sql_grammar.specs.Grammar.{limits}
use Rattle.sql_grammar.specs.Reading.{script_at, script_within, under, union_of, select, select_item, named_item, all_of_item, one_item, whole_expr, disjunction, conjunction, negation_of, test_of, suffix, sum_of, product_of, unary_of, prim, named, after, plain, bare, constant, within, among_of, members, member, from_of, table_name}

t : Class → ℕ → Token
t c n = record { class = c; text = n ∷ []; place = n }

-- SELECT a FROM t
plain_script : only (script_at 0) 0 (t class.Select 0 ∷ t class.Name 1 ∷ t class.From 2 ∷ t class.Name 3 ∷ [])
    ≡ done (record {
      tables = [];
      parts = select_of (t class.Select 0) None (item.One (at 1 (node.Name None (1 ∷ []))) None ∷ []) (from.Named (3 ∷ []) (3 ∷ []) 3) [] None None None ∷ [];
      order = [];
      limit = None;
      offset = None;
    }) 1 []
unfolding t script_within under union_of select select_item named_item one_item whole_expr disjunction conjunction negation_of test_of suffix sum_of product_of unary_of prim named after plain bare from_of table_name matching turns_within up_to
plain_script = refl

-- SELECT FROM t: FROM is refused
no_item : only (script_at 0) 0 (t class.Select 0 ∷ t class.From 1 ∷ t class.Name 2 ∷ []) ≡ stop unexpected (t class.From 1 ∷ t class.Name 2 ∷ [])
unfolding t script_within under union_of select select_item named_item one_item whole_expr disjunction conjunction negation_of test_of suffix sum_of product_of unary_of prim named after plain bare from_of table_name matching turns_within up_to
no_item = refl

-- a NOT IN (1, 2): the count around it stands as it was
not_in : only (whole_expr (limits 0) 1 (under (limits 0) 1)) 5 (t class.Name 0 ∷ t class.Not 1 ∷ t class.In 2 ∷ t class.Open 3 ∷ t class.Number 4 ∷ t class.Comma 5 ∷ t class.Number 6 ∷ t class.Close 7 ∷ [])
    ≡ done (at 2 (node.Not (binary 2 op.Or (binary 2 op.Eq (at 0 (node.Name None (0 ∷ []))) (at 4 (node.Number (4 ∷ [])))) (binary 2 op.Eq (at 0 (node.Name None (0 ∷ []))) (at 6 (node.Number (6 ∷ []))))))) 5 []
unfolding t under whole_expr disjunction conjunction negation_of test_of suffix within among_of members member sum_of product_of unary_of prim constant named after plain bare matching turns_within up_to
not_in = refl

-- t . *
all_of : only (select_item (limits 0) 0 (under (limits 0) 0)) 0 (t class.Name 0 ∷ t class.Dot 1 ∷ t class.Star 2 ∷ []) ≡ done (item.AllOf (0 ∷ []) 0) 0 []
unfolding t select_item named_item all_of_item matching
all_of = refl
