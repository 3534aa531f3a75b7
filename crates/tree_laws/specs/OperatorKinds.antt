-- Meaning: kinds of operators, over what each does to items.
use Rattle.std.specs.Prelude.{ℕ, zero, suc, ◌+◌, ◌==◌, nat_le, Bool, true, false, not, ◌&&◌, ◌||◌, if◌then◌else◌, Option, Some, None, List, [], ◌∷◌, ◌++◌, length, take, drop}
use Rattle.std.specs.List.{flat_map}
use Rattle.logical_plan.specs.Items.{Cells, Item, of_rows, concat}
use Rattle.tree_laws.specs.Operators.{Told, Op}

-- of each item something by itself: a filter, a projection
abbrev pub each_op : (Item → List Item) → Op
each_op f = record {
  items = λ t. flat_map f (of_rows (t.taken 0));
  wanted = λ t. 0;
  is_complete = λ t. t.ended 0;
  amount = λ t rows. 0;
  consumer = None;
  whole = λ t inputs. flat_map f (inputs 0);
}

-- something of all items, after their end: a sort, the answers of groups
abbrev pub end_op : (List Item → List Item) → (Told → List Cells → ℕ) → Option ℕ → Op
end_op f amount consumer = record {
  items = λ t. if t.ended 0 then f (of_rows (t.taken 0)) else [];
  wanted = λ t. 0;
  is_complete = λ t. t.ended 0;
  amount = amount;
  consumer = consumer;
  whole = λ t inputs. f (inputs 0);
}

abbrev pub closed_items : (List Item → List Item) → List (List Cells) → List Item
closed_items f [] = []
closed_items f (rows ∷ more) = f (of_rows rows) ++ closed_items f more

-- something of each segment, as flushes and the end close them: the first phase of groups
abbrev pub segment_op : (List Item → List Item) → (Told → List Cells → ℕ) → Option ℕ → Op
segment_op f amount consumer = record {
  items = λ t. closed_items f t.closed ++ (if t.ended 0 then f (of_rows t.since) else []);
  wanted = λ t. 0;
  is_complete = λ t. t.ended 0;
  amount = amount;
  consumer = consumer;
  whole = λ t inputs. closed_items f t.closed ++ f (drop (length (concat t.closed)) (inputs 0));
}

abbrev pub cut : ℕ → Option ℕ → List Item → List Item
cut skip None items = drop skip items
cut skip (Some fetch) items = take fetch (drop skip items)

-- no later row is in the cut
abbrev pub has_cut : ℕ → Option ℕ → List Cells → Bool
has_cut skip None rows = false
has_cut skip (Some fetch) rows = (fetch == 0) || nat_le (skip + fetch) (length rows)

-- the items after the first `skip`, at most `fetch` of them: a limit
abbrev pub limit_op : ℕ → Option ℕ → Op
limit_op skip fetch = record {
  items = λ t. cut skip fetch (of_rows (t.taken 0));
  wanted = λ t. 0;
  is_complete = λ t. t.ended 0 || has_cut skip fetch (t.taken 0);
  amount = λ t rows. 0;
  consumer = None;
  whole = λ t inputs. cut skip fetch (inputs 0);
}

-- input 0 to its end; then what each item of input 1 gives with all those of input 0, and after its end what both give: a hash join
abbrev pub join_op : (List Item → Item → List Item) → (List Item → List Item → List Item) → (Told → List Cells → ℕ) → Option ℕ → Op
join_op probe last amount consumer = record {
  items = λ t. if t.ended 0 then flat_map (probe (of_rows (t.taken 0))) (of_rows (t.taken 1)) ++ (if t.ended 1 then last (of_rows (t.taken 0)) (of_rows (t.taken 1)) else []) else [];
  wanted = λ t. if t.ended 0 then 1 else 0;
  is_complete = λ t. t.ended 0 && t.ended 1;
  amount = amount;
  consumer = consumer;
  whole = λ t inputs. flat_map (probe (inputs 0)) (inputs 1) ++ last (inputs 0) (inputs 1);
}

-- ------------------------------------------------------------ a merge

-- which input gives its front next: it isn't known, since one that goes on has none; nobody, since all are over; or this one
pub data Pick : Type 0 where
  Unknown : Pick
  Nobody : Pick
  Takes : (input : ℕ) (front : Item) → Pick

-- with input n beside those below it: a front before theirs
abbrev pub pick_with : (Item → Item → Bool) → ℕ → Pick → List Item → Bool → Pick
pick_with before n Unknown items over = Unknown
pick_with before n Nobody [] over = if over then Nobody else Unknown
pick_with before n Nobody (x ∷ xs) over = Takes n x
pick_with before n (Takes i y) [] over = if over then Takes i y else Unknown
pick_with before n (Takes i y) (x ∷ xs) over = if before x y then Takes n x else Takes i y

-- of the inputs below n, the first one with a least front
abbrev pub pick : (Item → Item → Bool) → ℕ → (ℕ → List Item) → (ℕ → Bool) → Pick
pick before zero inputs over = Nobody
pick before (suc n) inputs over = pick_with before n (pick before n inputs over) (inputs n) (over n)

abbrev pub without_front : (ℕ → List Item) → ℕ → ℕ → List Item
without_front inputs i j = if j == i then drop 1 (inputs j) else inputs j

-- what a merge gives, and what it leaves of each input
pub record Merged : Type 0 where
  pub given : List Item
  pub left : ℕ → List Item

abbrev pub merged_by : Pick → (ℕ → List Item) → (ℕ → Merged) → Merged
merged_by Unknown inputs rest = record { given = []; left = inputs }
merged_by Nobody inputs rest = record { given = []; left = inputs }
merged_by (Takes i x) inputs rest = record { given = x ∷ (rest i).given; left = (rest i).left }

-- at most so many fronts, one after the other
abbrev pub merged : (Item → Item → Bool) → ℕ → ℕ → (ℕ → List Item) → (ℕ → Bool) → Merged
merged before n zero inputs over = record { given = []; left = inputs }
merged before n (suc m) inputs over = merged_by (pick before n inputs over) inputs (λ i. merged before n m (without_front inputs i) over)

abbrev pub lengths : ℕ → (ℕ → List Item) → ℕ
lengths zero inputs = 0
lengths (suc n) inputs = lengths n inputs + length (inputs n)

abbrev pub merge : (Item → Item → Bool) → ℕ → (ℕ → List Item) → (ℕ → Bool) → Merged
merge before n inputs over = merged before n (lengths n inputs) inputs over

-- the least number below n that passes, or d
abbrev pub first_below : ℕ → (ℕ → Bool) → ℕ → ℕ
first_below zero passes d = d
first_below (suc n) passes d = first_below n passes (if passes n then n else d)

abbrev pub all_over : ℕ → (ℕ → Bool) → Bool
all_over zero over = true
all_over (suc n) over = over n && all_over n over

abbrev pub is_empty : List Item → Bool
is_empty [] = true
is_empty (_ ∷ _) = false

-- what was taken of each input
abbrev pub items_of : Told → ℕ → List Item
items_of t i = of_rows (t.taken i)

-- the least front of n inputs, again and again, while each that hasn't ended has one: a merge. It asks the first that hasn't ended
-- and has none; there is one where it isn't complete
abbrev pub merge_op : (Item → Item → Bool) → ℕ → Op
merge_op before n = record {
  items = λ t. (merge before n (items_of t) t.ended).given;
  wanted = λ t. first_below n (λ i. not (t.ended i) && is_empty ((merge before n (items_of t) t.ended).left i)) (first_below n (λ i. not (t.ended i)) 0);
  is_complete = λ t. all_over n t.ended;
  amount = λ t rows. 0;
  consumer = None;
  whole = λ t inputs. (merge before n inputs (λ _. true)).given;
}
