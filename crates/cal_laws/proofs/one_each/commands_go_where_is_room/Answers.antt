use Rattle.cal_laws.proofs.Common.{◌≡◌, ℕ, ◌<◌, Bool, true, false, cond, eqb, List, [], ◌∷◌, length, Option, Some, refl, ap, subst, arith, eqb-true, ThreadsAreOfTheirTask, IsTable, Command, Run, Park, Action, Free, Unban, Ban, Revoke, Cap, Grant, command_to, sends, placement_of, Setting, so_far, has_room, IsSound, ActionIsOneMore, LastThreadIsPlaced, ChosenHasWaitedLongest, ChosenIsOfLeastClass, VictimHasMostMisses, setting_at, made_at}
use Rattle.cal_laws.proofs.ExclusionLemmas.Excluded.{last_loser}
use Rattle.cal_laws.proofs.ChoiceLemmas.Granted.{grant_facts}
use Rattle.cal_laws.proofs.PointLemmas.EachAction.{sound_at}
use Rattle.cal_laws.proofs.CauseLemmas.Revoked.{takes_held, revocable}
use Rattle.cal_laws.proofs.one_each.commands_go_where_is_room.Goals as goal

-- a command goes to its thread alone
goes_to : (s : Setting) (thread k : ℕ) (command : Command) → has_room s thread ≡ true → 0 < length (command_to k (Some thread) command) → has_room s k ≡ true
goes_to s thread k command room lt = choose (eqb thread k) refl lt
  where
    choose : (b : Bool) → eqb thread k ≡ b → 0 < length (cond b (command ∷ []) []) → has_room s k ≡ true
    choose true e lt = subst (λ n. has_room s n ≡ true) (eqb-true thread k e) room
    choose false e lt = absurd (omega (arith, lt))

room_for : ActionIsOneMore → LastThreadIsPlaced → ChosenIsOfLeastClass → VictimHasMostMisses → ThreadsAreOfTheirTask → ChosenHasWaitedLongest → (s : Setting) (acts : List Action) (a : Action) →
    IsTable s.table → IsSound s acts a → (k : ℕ) → 0 < length (sends k (so_far s acts) a) → has_room s k ≡ true
room_for more last least most numbered longest s acts (Free core) ok sound k lt = absurd (omega (arith, lt))
room_for more last least most numbered longest s acts (Unban core) ok sound k lt = absurd (omega (arith, lt))
room_for more last least most numbered longest s acts (Ban core thread started) ok sound k lt = absurd (omega (arith, lt))
room_for more last least most numbered longest s acts (Cap task cap) ok sound k lt = absurd (omega (arith, lt))
room_for more last least most numbered longest s acts (Grant core thread class) ok sound k lt =
    goes_to s thread k (Run core) (grant_facts numbered longest s acts core thread class sound.made).room lt
room_for more last least most numbered longest s acts (Revoke core cause) ok sound k lt =
    let x : List Action = so_far s acts in
    let facts = revocable more least most s acts core cause ok sound.made (takes_held s.table x core cause sound.fits) in
    let thread = last_loser x core facts.loser (last x core) (sound.steady.granted core facts.loser (ap placement_of facts.held)) in
    let P : Option ℕ → Type 0 = λ o. 0 < length (command_to k o Park) in
    goes_to s facts.loser.thread k Park facts.room (subst P thread lt)

pub returns : goal.returns
returns c = λ here is action e k lt.
    room_for c.action_is_one_more.ensures c.last_thread_is_placed.ensures c.chosen_is_of_least_class.ensures c.victim_has_most_misses.ensures c.threads_are_of_their_task.ensures
    c.chosen_has_waited_longest.ensures (setting_at here) (made_at here) action is.table (sound_at c.legal_is_sound.ensures here is action e) k lt
