-- The worked examples of the README, computed from the definitions.
use Rattle.std.proofs.Common.{ℕ, ◌≡◌, refl, [], ◌∷◌, false}
use Rattle.gate_channels.specs.Gate.{Gate, is_open, some_live, sent, received, ended, dropped, held, awaited}
use Rattle.gate_channels.specs.Group.{opened_for}

-- two channels with two senders each, and batches as numbers
fresh : Gate ℕ
fresh = record { channels = opened_for 2 ∷ opened_for 2 ∷ []; queue = [] }

-- two batches in the first channel, one in the second
full : Gate ℕ
unfolding fresh sent
full = (sent (sent (sent fresh 0 7).gate 0 8).gate 1 9).gate

a_full_gate_is_closed : is_open full.channels ≡ false
unfolding fresh full sent
a_full_gate_is_closed = refl

a_batch_of_two_wakes_nobody : (received (held full 5) 0).woken ≡ []
unfolding fresh full sent received held
a_batch_of_two_wakes_nobody = refl

the_last_batch_wakes_the_gate : (received (received (held full 5) 0).gate 1).woken ≡ 5 ∷ []
unfolding fresh full sent received held
the_last_batch_wakes_the_gate = refl

two_waiting : Gate ℕ
unfolding full held
two_waiting = held (held full 4) 5

a_drop_wakes_the_gate_in_order : (dropped two_waiting 0).woken ≡ 4 ∷ 5 ∷ []
unfolding fresh full two_waiting sent dropped held
a_drop_wakes_the_gate_in_order = refl

the_gate_stays_closed : is_open (dropped two_waiting 0).gate.channels ≡ false
unfolding fresh full two_waiting sent dropped held
the_gate_stays_closed = refl

the_other_drop_wakes_them_again : (dropped (held (held (dropped two_waiting 0).gate 4) 5) 1).woken ≡ 4 ∷ 5 ∷ []
unfolding fresh full two_waiting sent dropped held
the_other_drop_wakes_them_again = refl

nobody_receives_any_more : some_live (dropped (dropped two_waiting 0).gate 1).gate.channels ≡ false
unfolding fresh full two_waiting sent dropped held
nobody_receives_any_more = refl

-- a receiver waits at an empty channel until the last of its senders ends, or a batch comes
waiting : Gate ℕ
unfolding fresh awaited
waiting = awaited fresh 0 6

the_first_end_wakes_nobody : (ended waiting 0).woken ≡ []
unfolding fresh waiting awaited ended
the_first_end_wakes_nobody = refl

the_last_end_wakes_the_receiver : (ended (ended waiting 0).gate 0).woken ≡ 6 ∷ []
unfolding fresh waiting awaited ended
the_last_end_wakes_the_receiver = refl

a_batch_wakes_the_receiver : (sent waiting 0 7).woken ≡ 6 ∷ []
unfolding fresh waiting awaited sent
a_batch_wakes_the_receiver = refl
