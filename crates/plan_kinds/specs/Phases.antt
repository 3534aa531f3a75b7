-- Meaning: the kinds of the columns that the two phases of a grouping give.
use Rattle.std.specs.Prelude.{ℕ, Bool, true, false, ◌&&◌, Option, Some, None, is_some, List, [], ◌∷◌, ◌++◌, drop, slice_get}
use Rattle.std.specs.List.{list_all}
use Rattle.dfx_value.specs.declared.kind.Kind.{Kind}
use Rattle.dfx_value.specs.declared.kind.Kind.TheVariants as kind
use Rattle.dfx_value.specs.declared.op.AggCall.{AggCall}
use Rattle.dfx_value.specs.declared.op.AggCall.TheVariants as call
use Rattle.scalar_exprs.specs.Kinds.{◌>>=◌, same, only_if, argument_kind, call_kind, scale_of, total_kind, mean_kind}
use Rattle.logical_plan.specs.Body.{kind_or_text, key_kinds}
use Rattle.physical_plan.specs.Properties.{state_width}

-- ---- keys and calls over columns of these kinds

abbrev pub has_columns : List Kind → List ℕ → Bool
has_columns columns = list_all (λ c. is_some (slice_get columns c))

-- each call has a kind, so its argument is a column
abbrev pub calls_fit : List Kind → List AggCall → Bool
calls_fit columns = list_all (λ c. is_some (call_kind c columns))

-- ---- the first phase: keys, then the states of each call

-- the kinds of the state columns of a call, whose argument has this kind
abbrev pub state_kinds : AggCall → Option Kind → List Kind
state_kinds call.CountAll k = kind.Int ∷ kind.Bool ∷ []
state_kinds (call.Count c) k = kind.Int ∷ kind.Bool ∷ []
state_kinds (call.Sum c) k = kind.Int ∷ kind.Dec 38 (scale_of k) ∷ kind.Dec 38 (scale_of k) ∷ kind.Bool ∷ []
state_kinds (call.Min c) k = kind_or_text k ∷ []
state_kinds (call.Max c) k = kind_or_text k ∷ []
state_kinds (call.Avg c) k = kind.Int ∷ kind.Dec 38 (scale_of k) ∷ kind.Dec 38 (scale_of k) ∷ kind.Bool ∷ []

abbrev pub states_kinds : List AggCall → List Kind → List Kind
states_kinds [] kinds = []
states_kinds (c ∷ calls) kinds = state_kinds c (argument_kind c kinds) ++ states_kinds calls kinds

abbrev pub phase_kinds : List ℕ → List AggCall → List Kind → List Kind
phase_kinds columns calls kinds = key_kinds kinds columns ++ states_kinds calls kinds

-- ---- the second phase, which knows the kinds of those columns alone

-- the first kinds are these
abbrev pub begins : List Kind → List Kind → Bool
begins [] ks = true
begins (j ∷ js) [] = false
begins (j ∷ js) (k ∷ ks) = same j k && begins js ks

abbrev pub counted_kind : List Kind → Option Kind
counted_kind states = only_if (begins (kind.Int ∷ kind.Bool ∷ []) states) kind.Int

-- the kind of the totals of SUM and AVG
abbrev pub summed_kind : List Kind → Option Kind
summed_kind states =
    total_kind (slice_get states 1) >>= λ t. only_if (begins (kind.Int ∷ t ∷ t ∷ kind.Bool ∷ []) states) t

-- the kind of a call's answer, from the kinds of its state columns and of those behind them
abbrev pub answer_kind : AggCall → List Kind → Option Kind
answer_kind call.CountAll states = counted_kind states
answer_kind (call.Count c) states = counted_kind states
answer_kind (call.Sum c) states = summed_kind states
answer_kind (call.Min c) states = slice_get states 0
answer_kind (call.Max c) states = slice_get states 0
answer_kind (call.Avg c) states = summed_kind states >>= λ t. mean_kind (Some t)

-- of all calls, whose state columns these are
abbrev pub answer_kinds : List AggCall → List Kind → Option (List Kind)
answer_kinds [] [] = Some []
answer_kinds [] (k ∷ ks) = None
answer_kinds (c ∷ calls) states =
    answer_kind c states >>= λ k. answer_kinds calls (drop (state_width c) states) >>= λ ks. Some (k ∷ ks)
