-- Meaning: the need of a task by what its code asks, and the reply by what its code is answered.
use Rattle.std.specs.Prelude.{ℕ, ◌≡◌, Option, Some, List}
use Rattle.core_frame.specs.Step.{Need, Scan, Recv, Send, Grow, Free, Writes, Finish, Fail}
use Rattle.history_laws.specs.Histories.{Reply, Go, Batch, Ended, Refused, Gone}
use Rattle.logical_plan.specs.Items.{Cells}
use Rattle.run_tasks.specs.declared.task.Ask.{Ask}
use Rattle.run_tasks.specs.declared.task.Ask.TheVariants as ask
use Rattle.run_tasks.specs.declared.task.Answer.{Answer}
use Rattle.run_tasks.specs.declared.task.Answer.TheVariants as answer

-- this is asked where this is the need
abbrev pub IsAsk : Ask → Option (Need (List Cells)) → Type 0
IsAsk ask.Scan need = need ≡ Some Scan
IsAsk (ask.Receive group channel) need = need ≡ Some (Recv group channel)
IsAsk (ask.Send channel) need = (part : List Cells) × (need ≡ Some (Send channel part))
IsAsk (ask.Grow consumer bytes) need = need ≡ Some (Grow consumer bytes)
IsAsk (ask.Free consumer) need = (bytes : ℕ) × (need ≡ Some (Free consumer bytes))
IsAsk ask.Write need = need ≡ Some Writes
IsAsk ask.Finish need = need ≡ Some Finish
IsAsk (ask.Fail cause) need = need ≡ Some (Fail cause)

abbrev pub reply_is : {B : Type 0} → (B → List Cells) → Answer B → Reply (List Cells)
reply_is rows answer.Go = Go
reply_is rows (answer.Batch batch) = Batch (rows batch)
reply_is rows answer.Ended = Ended
reply_is rows answer.Refused = Refused
reply_is rows (answer.Gone last) = Gone last
