-- Looks taken one by one. A look that does not fit what its thread showed before, or that shows
-- what its thread cannot have done, is refused: a busy look is taken in its place. So whatever a
-- thread shows, a pass goes on for the others. Doranjei's own rule.
use Rattle.std.specs.Prelude.{ℕ, ◌==◌, ◌-◌, ◌^◌, not, min, nat_lt, List, map, Option}
use Rattle.std.specs.Prelude.{Some, None, if◌then◌else◌}
use Rattle.std.specs.List.{enumerate_from}
use Rattle.std.specs.Option.{is_some, option_or}
use Rattle.cal_machine.specs.Table.{Table}
use Rattle.cal_signal.specs.declared.record.Record.{Record}
use Rattle.cal_signal.specs.declared.shown.Shown.{Shown}
use Rattle.cal_signal.specs.declared.look.Look.{Look}
use Rattle.cal_signal.specs.declared.look.Look.TheVariants as found
use Rattle.cal_signal.specs.Tests.{is_shaped, is_shown_after, is_busy_pair}
use Rattle.cal_policy.specs.declared.history.look.Seen.{Seen}
use Rattle.cal_policy.specs.declared.history.look.Seen.TheVariants.{Whole, Busy, Ahead, Foreign}
use Rattle.cal_policy.specs.declared.history.input.Input.{Input}
use Rattle.cal_policy.specs.declared.history.entry.PassEntry.{PassEntry}
use Rattle.cal_policy.specs.declared.judgement.look_fault.LookFault.{LookFault}
use Rattle.cal_policy.specs.declared.judgement.look_fault.LookFault.TheVariants as faults
use Rattle.cal_policy.specs.declared.judgement.open_input.FoundLook.{FoundLook}
use Rattle.cal_policy.specs.History.{actions_of, looks_of, sent_to}
use Rattle.cal_policy.specs.History.Looks.{last_shown}
use Rattle.cal_policy.specs.Judgement.Judging.{judged}
use Rattle.cal_policy.specs.Judgement.OpenInput.{judged_input}

-- why a record at this place does not fit what its thread showed last: it is misshapen, its place
-- is lower, it is another one at the same place, or one of the words that never fall is lower
abbrev pub misfit_of_record : Shown → ℕ → Record → Option LookFault
misfit_of_record last number rec =
    if not (is_shaped rec) then Some faults.Misshapen
    else if is_shown_after last (record { number = number; rec = rec }) then None
    else if nat_lt number last.number then Some faults.PlaceFell
    else if number == last.number then Some faults.Changed else Some faults.WordFell

-- why a look does not fit what its thread showed last
abbrev pub misfit_of : Shown → Look → Option LookFault
misfit_of last (found.Busy first second) =
    if is_busy_pair first second then None else Some faults.NoPair
misfit_of last (found.Whole number rec) = misfit_of_record last number rec

-- why a judged look is not kept, if that is its thread's doing
abbrev pub fault_judged : Seen → Option LookFault
fault_judged (Whole number rec) = None
fault_judged (Busy first second) = None
fault_judged (Ahead number rec) = Some faults.Ahead
fault_judged (Foreign number rec) = Some faults.Foreign

-- why a look at thread k is refused after this history: it does not fit, or else it is ahead or
-- foreign
abbrev pub fault_of : ℕ → List PassEntry → ℕ → Look → Option LookFault
fault_of cores history k look = option_or (misfit_of (last_shown (looks_of history) k) look)
    (fault_judged (judged cores (actions_of history) k look))

-- the look that is taken for a refused one: the pair of a page on which its first record is being
-- written, which fits whatever was shown
abbrev pub refused_look : Look
refused_look = found.Busy 1 1

-- the look that is taken of one at thread k
abbrev pub taken_look : ℕ → List PassEntry → ℕ → Look → Look
taken_look cores history k look =
    if is_some (fault_of cores history k look) then refused_look else look

-- the same with the ring's room, which is as it was given
abbrev pub taken_found : ℕ → List PassEntry → ℕ × FoundLook → FoundLook
taken_found cores history one = record {
  look = taken_look cores history one.0 one.1.look;
  room = one.1.room;
}

-- what is taken of what was found of each thread, the first of them thread 0
abbrev pub taken_looks : ℕ → List PassEntry → List FoundLook → List FoundLook
taken_looks cores history looks = map (taken_found cores history) (enumerate_from 0 looks)

-- the input of the pass that takes looks one by one: each refused look is busy, the others are as
-- given
abbrev pub taken_input : Table → List PassEntry → ℕ → ℕ → List FoundLook → Input
taken_input table history now bandwidth looks =
    judged_input table history now bandwidth (taken_looks table.cores history looks)

-- how many commands were sent to thread k, as far as 64 bits say it
abbrev pub sent_as_u64 : List PassEntry → ℕ → ℕ
sent_as_u64 history k = min (sent_to (actions_of history) k) (2 ^ 64 - 1)
