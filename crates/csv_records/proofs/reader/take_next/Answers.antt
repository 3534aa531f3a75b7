use Rattle.std.proofs.Common.{rules, arith, ◌≡◌, ◌≤◌, ◌<◌, true, false, Ok, Some, None}
use Rattle.csv.specs.Machine.{is_end}
use Rattle.csv_records.specs.Left.{count_left}
use Rattle.csv_records.specs.Places.{state_of, action_of}
use Rattle.csv_records.specs.declared.machine.Place.TheVariants as place
use Rattle.csv_records.proofs.RecordSteps.{run_fewer}
use Rattle.csv_records.proofs.ReadSteps.{looked, ends_there, ends_by, goes_by, less_by}
use Rattle.csv_records.proofs.reader.take_next.Goals as goal

pub returns-in-Ok-None-clause-some : goal.returns-in-Ok-None-clause-some
returns-in-Ok-None-clause-some g c p same =
    let told = g.S.Source.told c.args.source.now in
    let now = c.next_byte.new.self in
    let at_start : p ≡ place.StartRecord = cc in
    let over : c.next_byte.result ≡ Ok None = search rules in
    let left = rw c.bytes.invariant.told at c.in-Ok-None.ensures.left in
    let end = rw c.bytes.invariant.told at c.next_byte.ensures.end over in
    let tracks = looked (state_of c.bytes.place) (state_of c.take_run-joined.result) c.bytes.cursor c.take_run-joined.new.self now told _
    c.take_run-joined.ensures c.bytes.invariant.tracks left c.in-Ok-None.ensures.fields c.in-Ok-None.ensures.field in
    rw at_start (ends_there (state_of c.take_run-joined.result) now c.end_text.new.self told _ tracks end (search rules)
    c.in-Ok.ensures.fields c.in-Ok.ensures.bytes c.in-Ok.ensures.at)

pub returns-then-eq-clause-some : goal.returns-then-eq-clause-some
returns-then-eq-clause-some g c p same =
    let told = g.S.Source.told c.args.source.now in
    let now = c.next_byte.new.self in
    let at_next : p ≡ c.step-next.result.0 = cc in
    let given : c.next_byte.result ≡ Ok (Some c.in-Ok-Some.byte) = search rules in
    let is = c.next_byte.ensures.some c.in-Ok-Some.byte given in
    let left = rw c.bytes.invariant.told at c.in-Ok-Some.ensures.left in
    let tracks = looked (state_of c.bytes.place) (state_of c.take_run-joined.result) c.bytes.cursor c.take_run-joined.new.self now told _
    c.take_run-joined.ensures c.bytes.invariant.tracks left c.in-Ok-Some.ensures.fields c.in-Ok-Some.ensures.field in
    let ends : is_end (action_of c.step-next.result.1) ≡ true = search rules in
    rw at_next (ends_by (state_of c.take_run-joined.result) (state_of c.step-next.result.0) (action_of c.step-next.result.1) c.in-Ok-Some.byte
    now c.put.new.self told _ tracks is c.in-Ok-put.ensures.bytes c.in-Ok-put.ensures.at c.step-next.ensures.is c.in-Ok-put.ensures.fields ends)

pub bytes-preserved : goal.bytes-preserved
bytes-preserved g c =
    let told = g.S.Source.told c.args.source.now in
    let size = g.S.Source.size c.args.source.now in
    let ran = c.take_run-joined.new.self in
    let now = c.next_byte.new.self in
    let given : c.next_byte.result ≡ Ok (Some c.in-Ok-Some.byte) = search rules in
    let is = c.next_byte.ensures.some c.in-Ok-Some.byte given in
    let left = rw c.bytes.invariant.told at c.in-Ok-Some.ensures.left in
    let tracks = looked (state_of c.bytes.place) (state_of c.take_run-joined.result) c.bytes.cursor ran now told _
    c.take_run-joined.ensures c.bytes.invariant.tracks left c.in-Ok-Some.ensures.fields c.in-Ok-Some.ensures.field in
    let goes : is_end (action_of c.step-next.result.1) ≡ false = search rules in
    let ran_few : count_left size ran.bytes ran.at ≤ count_left size c.bytes.cursor.bytes c.bytes.cursor.at =
    run_fewer (state_of c.bytes.place) (state_of c.take_run-joined.result) c.bytes.cursor ran size c.take_run-joined.ensures in
    let now_few : count_left size now.bytes now.at ≤ count_left size ran.bytes ran.at = rw c.bytes.invariant.size at c.in-Ok-Some.ensures.most in
    let less : count_left size c.put.new.self.bytes c.put.new.self.at < count_left size now.bytes now.at =
    less_by c.in-Ok-Some.byte size now c.put.new.self is c.in-Ok-put.ensures.bytes c.in-Ok-put.ensures.at in
    record {
      tracks = goes_by (state_of c.take_run-joined.result) (state_of c.step-next.result.0) (action_of c.step-next.result.1) c.in-Ok-Some.byte
          now c.put.new.self told _ tracks is c.in-Ok-put.ensures.bytes c.in-Ok-put.ensures.at c.step-next.ensures.is
          c.in-Ok-put.ensures.fields (c.in-Ok-put.ensures.field c.in-Ok-Some.byte is) goes;
      told = search rules;
      size = search rules;
      later = search rules;
      most = omega (arith, less, now_few, ran_few, c.bytes.invariant.most);
      taken = λ _. omega (arith, less, now_few, ran_few, c.bytes.invariant.most);
    }
