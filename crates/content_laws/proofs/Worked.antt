-- The worked rows of the README, computed from the definitions.
use Rattle.std.proofs.Common.{ℕ, ◌≡◌, inl, inr, refl, List, [], ◌∷◌, length, Some, None, true, false, Ok, Err}
use Rattle.dfx_value.specs.declared.fault.ItemFault.{ItemFault}
use Rattle.dfx_value.specs.declared.value.Value.TheVariants as value
use Rattle.task_shape.specs.Shape.{Shape}
use Rattle.core_frame.specs.Frame.{opening}
use Rattle.core_frame.specs.Step.{Send, Recv}
use Rattle.history_laws.specs.Histories.{Past, Go, Batch, Gone}
use Rattle.logical_plan.specs.Items.{Cells, Item}
use Rattle.tree_laws.specs.Trees.{Files, Inlet}
use Rattle.tree_laws.specs.Tasks.{Parts, Task}
use Rattle.tree_laws.specs.Runs.{State}
use Rattle.content_laws.specs.Subsequences.{IsSubsequence}
use Rattle.content_laws.specs.Senders.{Deal}
use Rattle.content_laws.specs.SenderKinds.{whole_split, home_deal, hash_split, hash_deal}
use Rattle.content_laws.specs.Whole.{unsent, to_come}

-- rows of one cell
yes : Cells
yes = value.Bool true ∷ []

no : Cells
no = value.Bool false ∷ []

shape : Shape
shape = record {
  tasks = record { stage = 0; sends = None; targets = []; receives = (1, 0) ∷ []; consumers = [] }
      ∷ record { stage = 1; sends = Some 1; targets = 0 ∷ []; receives = []; consumers = [] }
      ∷ record { stage = 1; sends = Some 1; targets = 0 ∷ []; receives = []; consumers = [] } ∷ [];
  widths = 0 ∷ 1 ∷ [];
  spillable = [];
}

sender : List Item → List Cells → Parts → Task
sender all gave parts = record { tree = Files all [] gave []; header = false; split = Some (whole_split (λ j. 0)); batches = 0; parts = parts; leaving = false; output = [] }

root : Task
root = record { tree = Inlet 1 0 [] [] false; header = false; split = None; batches = 0; parts = []; leaving = false; output = [] }

-- task 0 took what task 1 sent
state : Past (List Cells) → Task → Task → State
state past first second = record {
  run = record { frame = opening shape 100; pasts = ((Recv 1 0, Batch (yes ∷ [])) ∷ []) ∷ past ∷ [] ∷ [] };
  tasks = root ∷ first ∷ second ∷ [];
}

deal : ℕ → Deal
deal u = home_deal 0

some_to_come : (f : ItemFault) → to_come shape
    (state ((Send 0 (yes ∷ []), Go) ∷ []) (sender (Ok yes ∷ Ok no ∷ Ok yes ∷ []) (yes ∷ no ∷ []) ((0, no ∷ []) ∷ [])) (sender (Ok no ∷ Err f ∷ []) [] []))
    deal (λ g c. []) 1 0 3 ≡ Ok no ∷ Ok yes ∷ Ok no ∷ Err f ∷ []
unfolding shape state sender root deal yes no
some_to_come f = refl

one_refused : unsent (state ((Send 0 (yes ∷ []), Go) ∷ (Send 0 (no ∷ []), Gone false) ∷ []) (sender (Ok yes ∷ Ok no ∷ []) (yes ∷ no ∷ []) []) root) 1 0 ≡ (no ∷ []) ∷ []
unfolding state sender root yes no
one_refused = refl

by_length : hash_split length 2 0 (yes ∷ [] ∷ no ∷ []) ≡ (0, [] ∷ []) ∷ (1, yes ∷ no ∷ []) ∷ []
unfolding yes no
by_length = refl

no_empty_part : hash_split length 2 0 (yes ∷ []) ≡ (1, yes ∷ []) ∷ []
unfolding yes
no_empty_part = refl

faults_first : (f : ItemFault) → hash_deal length 0 (Err f ∷ Ok yes ∷ []) ≡ Err f ∷ []
unfolding yes
faults_first f = refl

rows_at_their_own : (f : ItemFault) → hash_deal length 1 (Err f ∷ Ok yes ∷ []) ≡ Ok yes ∷ []
unfolding yes
rows_at_their_own f = refl

-- some rows of three, in their order, are a subsequence; in another order they aren't
in_order : IsSubsequence (no ∷ yes ∷ []) (yes ∷ no ∷ yes ∷ [])
in_order = inl (inr (yes ∷ [], refl, inr ([], refl, refl)))

turned : IsSubsequence (no ∷ yes ∷ []) (yes ∷ no ∷ []) → ⊥
unfolding yes no
turned (inl (inl e)) = cc
turned (inl (inr (rest, e, f))) = cc
turned (inr (rest, e, f)) = cc
