-- Meaning: the stages of a plan, its tasks, and what each sends to and receives from.
use Rattle.std.specs.Prelude.{ℕ, zero, suc, ◌+◌, Bool, true, false, Option, Some, None, List, [], ◌∷◌, ◌++◌, length, map, replicate}
use Rattle.plan_props.specs.Satisfies.{partition_count}
use Rattle.physical_plan.specs.declared.plan.Plan.{Plan}
use Rattle.physical_plan.specs.declared.plan.Plan.TheOpen.{Plan-F}
use Rattle.physical_plan.specs.declared.plan.Plan.TheFolds.{fold-Plan}
use Rattle.plan_shape.specs.declared.counting.StageTask.{StageTask}
use Rattle.task_shape.specs.Shape.{TaskShape, Shape}
use Rattle.physical_plan.specs.Numbers.{numbers, numbers_from}

-- what one partition of a node needs: the channels that it receives from, by group then channel,
-- and for each of its consumers whether it is spillable, node before inputs
pub record Part : Type 0 where
  pub receives : List (ℕ × ℕ)
  pub consumers : List Bool

-- a stage: the partitions of its top node, for each task the channels that it sends to, and the channels of its group
pub record Stage : Type 0 where
  pub parts : List Part
  pub targets : List (List ℕ)
  pub width : ℕ

-- a subtree: its partitions, and the stages that open in it, in order
pub record Laid : Type 0 where
  pub parts : List Part
  pub stages : List Stage

abbrev pub laid : List Part → List Stage → Laid
laid ps ss = record { parts = ps; stages = ss }

abbrev pub bare : Part
bare = record { receives = []; consumers = [] }

abbrev pub consuming : Bool → Part → Part
consuming b p = record { receives = p.receives; consumers = b ∷ p.consumers }

abbrev pub side_by_side : Part → Part → Part
side_by_side a b = record { receives = a.receives ++ b.receives; consumers = a.consumers ++ b.consumers }

-- partition by partition; what is left over stands alone
abbrev pub beside : List Part → List Part → List Part
beside [] qs = qs
beside (p ∷ ps) [] = p ∷ ps
beside (p ∷ ps) (q ∷ qs) = side_by_side p q ∷ beside ps qs

-- a partition that receives from one channel of a group
abbrev pub reader : ℕ → ℕ → Part
reader g c = record { receives = (g, c) ∷ []; consumers = [] }

abbrev pub readers : ℕ → ℕ → List Part
readers g n = map (λ (c : ℕ). reader g c) (numbers n)

abbrev pub merger : ℕ → ℕ → Part
merger g n = record { receives = map (λ (c : ℕ). (g, c)) (numbers n); consumers = [] }

-- a subtree, from the number of the next stage that opens
abbrev pub Laying : Type 0
Laying = ℕ → Laid

-- the input of an exchange is a stage of its own
abbrev pub opened : List Part → List (List ℕ) → ℕ → Laid → Laid
opened above targets width below = laid above (record { parts = below.parts; targets = targets; width = width } ∷ below.stages)

abbrev pub exchanged : ℕ → ℕ → Laid → Laid
exchanged n k below = opened (readers k n) (map (λ (p : Part). numbers n) below.parts) n below

abbrev pub coalesced : ℕ → Laid → Laid
coalesced k below = opened (readers k 1) (map (λ (p : Part). 0 ∷ []) below.parts) 1 below

abbrev pub merging : ℕ → Laid → Laid
merging k below = opened (merger k (length below.parts) ∷ []) (map (λ (c : ℕ). c ∷ []) (numbers (length below.parts))) (length below.parts) below

abbrev pub laid_beside : Laid → Laid → Laid
laid_beside l r = laid (map (consuming false) (beside l.parts r.parts)) (l.stages ++ r.stages)

abbrev pub lay_both : Laid → Laying → ℕ → Laid
lay_both l right k = laid_beside l (right (k + length l.stages))

abbrev pub laid_after : Laid → Laid → Laid
laid_after l r = laid (l.parts ++ r.parts) (l.stages ++ r.stages)

-- the inputs of a union, end to end
abbrev pub end_to_end : List Laying → Laying
end_to_end [] k = laid [] []
end_to_end (l ∷ ls) k = (λ (a : Laid). laid_after a (end_to_end ls (k + length a.stages))) (l k)

abbrev pub with_consumer : Bool → Laid → Laid
with_consumer b l = laid (map (consuming b) l.parts) l.stages

abbrev pub lay : Plan-F Laying → Laying
lay (Plan-F.Scan table kinds files partitions) k = laid (replicate partitions bare) []
lay (Plan-F.Filter input test) k = input k
lay (Plan-F.Project input items) k = input k
lay (Plan-F.PartialGroup input keys calls) k = with_consumer true (input k)
lay (Plan-F.FinalGroup input keys calls) k = with_consumer false (input k)
lay (Plan-F.HashJoin kind left right keys rest) k = lay_both (left k) right k
lay (Plan-F.Sort input keys) k = with_consumer true (input k)
lay (Plan-F.Merge input keys) k = merging k (input (k + 1))
lay (Plan-F.Coalesce input) k = coalesced k (input (k + 1))
lay (Plan-F.Repartition input to) k = exchanged (partition_count to) k (input (k + 1))
lay (Plan-F.UnionAll inputs) k = end_to_end inputs k
lay (Plan-F.Limit input skip fetch) k = input k

unfoldable pub layout : Plan → Laying
layout = fold-Plan Laying lay

-- ---- tasks

abbrev pub group_of : ℕ → Option ℕ
group_of zero = None
group_of (suc s) = Some (suc s)

abbrev pub head_or : List (List ℕ) → List ℕ
head_or [] = []
head_or (t ∷ ts) = t

abbrev pub tail_of : List (List ℕ) → List (List ℕ)
tail_of [] = []
tail_of (t ∷ ts) = ts

-- the tasks of a stage, from a consumer on
abbrev pub tasks_of : ℕ → ℕ → List Part → List (List ℕ) → List TaskShape
tasks_of s c [] ts = []
tasks_of s c (p ∷ ps) ts =
    record { stage = s; sends = group_of s; targets = head_or ts; receives = p.receives; consumers = numbers_from c (length p.consumers) }
    ∷ tasks_of s (c + length p.consumers) ps (tail_of ts)

abbrev pub spills_of : List Part → List Bool
spills_of [] = []
spills_of (p ∷ ps) = p.consumers ++ spills_of ps

abbrev pub tasks_from : ℕ → ℕ → List Stage → List TaskShape
tasks_from s c [] = []
tasks_from s c (x ∷ xs) = tasks_of s c x.parts x.targets ++ tasks_from (s + 1) (c + length (spills_of x.parts)) xs

abbrev pub spills_from : List Stage → List Bool
spills_from [] = []
spills_from (x ∷ xs) = spills_of x.parts ++ spills_from xs

abbrev pub widths_of : List Stage → List ℕ
widths_of xs = map (λ (x : Stage). x.width) xs

-- stage 0 is the root's, and its group has no channels
abbrev pub stages_of : Laid → List Stage
stages_of l = record { parts = l.parts; targets = []; width = 0 } ∷ l.stages

abbrev pub shape_from : List Stage → Shape
shape_from xs = record { tasks = tasks_from 0 0 xs; widths = widths_of xs; spillable = spills_from xs }

unfoldable pub shape : Plan → Shape
shape plan = shape_from (stages_of (layout plan 1))

-- ---- the same tasks by their places: by stage, then partition

abbrev pub stage_tasks : ℕ → ℕ → List Part → List StageTask
stage_tasks s i [] = []
stage_tasks s i (p ∷ ps) = record { stage = s; partition = i } ∷ stage_tasks s (i + 1) ps

abbrev pub tasks_by_stage : ℕ → List Stage → List StageTask
tasks_by_stage s [] = []
tasks_by_stage s (x ∷ xs) = stage_tasks s 0 x.parts ++ tasks_by_stage (s + 1) xs

unfoldable pub stages : Plan → List StageTask
stages plan = tasks_by_stage 0 (stages_of (layout plan 1))
