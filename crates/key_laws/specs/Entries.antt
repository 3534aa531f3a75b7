-- Meaning: entries by keys, in the order in which their keys were first met.
use Rattle.std.specs.Prelude.{Option, Some, None, List, [], ◌∷◌, if◌then◌else◌}
use Rattle.dfx_value.specs.declared.value.Value.{Value}
use Rattle.scalar_exprs.specs.Groups.{same_keys}

-- the entry of a key changed; where the key is a new one, an entry at the end, changed from the
-- start
abbrev pub upsert : {S : Type 0} → List (List Value × S) → List Value → S → (S → S) → List (List Value × S)
upsert [] key start f = (key, f start) ∷ []
upsert (e ∷ es) key start f = if same_keys e.0 key then (e.0, f e.1) ∷ es else e ∷ upsert es key start f

-- what stands at a key
abbrev pub find : {S : Type 0} → List (List Value × S) → List Value → Option S
find [] key = None
find (e ∷ es) key = if same_keys e.0 key then Some e.1 else find es key
