-- Words: the kinds of a union's inputs, one after the other.
use Rattle.std.specs.Prelude.{Bool, true, Option, Some, None, List, option_map}
use Rattle.std.specs.Global.{Vec}
use Rattle.dfx_value.specs.declared.kind.Kind.{Kind}
use Rattle.plan_kinds.specs.Kinds.{same_kinds, agreed_kinds, union_kinds}

abbrev pub items_of : Option (Vec Kind) → Option (List Kind)
items_of = option_map (λ (v : Vec Kind). v.items)

-- the kinds of the inputs before, where there is one, else these
abbrev pub first_or : Option (List Kind) → List Kind → List Kind
first_or (Some ks) js = ks
first_or None js = js

abbrev pub agree : Option (List Kind) → List Kind → Bool
agree (Some ks) js = same_kinds ks js
agree None js = true

-- the kinds of a union, where inputs before these have such
abbrev pub united_behind : Option (List Kind) → List (Option (List Kind)) → Option (List Kind)
united_behind None others = union_kinds others
united_behind (Some ks) others = agreed_kinds ks others
