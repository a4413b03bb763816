-- What a permitted action sends: at most one command, to a thread that may be sent one.
use Rattle.cal_guard.proofs.Common.{◌≡◌, ℕ, ◌+◌, ◌<◌, ◌≤◌, Bool, true, false, cond, eqb, List, [], ◌∷◌, ◌++◌, length, take, Option, Some, sym, ap, arith, subst, ⊎_elim, refl, eqb-true, cases_lt, Command, Run, Park, Action, Free, Unban, Ban, Revoke, Cap, Grant, actions_of, command_to, sends, sent_to, placement_of, Setting, so_far, IsSteady, LastThreadIsPlaced, sent_push, Point, actions_at, last_loser, within_pass, MayBeSent, MayBeMade, IsPermitted, IsPermittedPoint, PermittedIsSafe}
use Rattle.cal_laws.specs.Point.{setting_at}
use Rattle.cal_guard.proofs.Steady.{each_permitted}

-- at most one command to thread k, and that only where the thread may be sent one
pub record SendsFew (s : Setting) (acts : List Action) (a : Action) (k : ℕ) : Type 0 where
  pub few : length (sends k (so_far s acts) a) ≤ 1
  pub may : 0 < length (sends k (so_far s acts) a) → MayBeSent s acts k

to_one : (s : Setting) (acts : List Action) (thread k : ℕ) (command : Command) → MayBeSent s acts thread →
    (length (command_to k (Some thread) command) ≤ 1) × (0 < length (command_to k (Some thread) command) → MayBeSent s acts k)
to_one s acts thread k command may = choose (eqb thread k) refl
  where
    choose : (b : Bool) → eqb thread k ≡ b → (length (cond b (command ∷ []) []) ≤ 1) × (0 < length (cond b (command ∷ []) []) → MayBeSent s acts k)
    choose true e = (omega arith, λ lt. subst (λ n. MayBeSent s acts n) (eqb-true thread k e) may)
    choose false e = (omega arith, λ lt. absurd (omega (arith, lt)))

none : (s : Setting) (acts : List Action) (a : Action) (k : ℕ) → length (sends k (so_far s acts) a) ≡ 0 → SendsFew s acts a k
none s acts a k e = record { few = omega arith; may = λ lt. absurd (omega (arith, lt)) }

pub sends_few : LastThreadIsPlaced → (s : Setting) (acts : List Action) (a : Action) → IsSteady s.table (so_far s acts) → MayBeMade s acts a → (k : ℕ) → SendsFew s acts a k
sends_few last s acts (Free core) steady may k = none s acts (Free core) k refl
sends_few last s acts (Unban core) steady may k = none s acts (Unban core) k refl
sends_few last s acts (Ban core thread started) steady may k = none s acts (Ban core thread started) k refl
sends_few last s acts (Cap task cap) steady may k = none s acts (Cap task cap) k refl
sends_few last s acts (Grant core thread class) steady may k = let both = to_one s acts thread k (Run core) may.send in record { few = both.0; may = both.1 }
sends_few last s acts (Revoke core cause) steady may k =
    let x : List Action = so_far s acts in
    let thread = last_loser x core may.loser (last x core) (steady.granted core may.loser (ap placement_of may.held)) in
    let both = to_one s acts may.loser.thread k Park may.send in
    let P : Option ℕ → Type 0 = λ o. (length (command_to k o Park) ≤ 1) × (0 < length (command_to k o Park) → MayBeSent s acts k) in
    let there = subst P (sym thread) both in record { few = there.0; may = there.1 }

-- the action is permitted, in a steady state
record IsPermittedInSteady (s : Setting) (acts : List Action) (a : Action) : Type 0 where
  steady : IsSteady s.table (so_far s acts)
  permitted : IsPermitted s acts a

one_step : LastThreadIsPlaced → (s : Setting) (k : ℕ) (acts : List Action) (a : Action) → IsPermittedInSteady s acts a →
    sent_to (so_far s acts) k ≤ sent_to (actions_of s.history) k + 1 → sent_to (so_far s acts ++ a ∷ []) k ≤ sent_to (actions_of s.history) k + 1
one_step last s k acts a is was =
    let few = sends_few last s acts a is.steady is.permitted.may k in
    let sum = sent_push (so_far s acts) a k in
    let at_most = few.few in ⊎_elim
    (λ some. let unsent = (few.may some).unsent in omega (arith, sum, at_most, unsent))
    (λ no. omega (arith, sum, no, was))
    (cases_lt 0 (length (sends k (so_far s acts) a)))

pub at_most_one : PermittedIsSafe → LastThreadIsPlaced → (here : Point) → IsPermittedPoint here → (k : ℕ) →
    sent_to (actions_at here) k ≤ sent_to (actions_of (take here.pass here.history)) k + 1
at_most_one safe last here is k =
    let n = sent_to (actions_of (take here.pass here.history)) k in
    within_pass IsPermittedInSteady here.table here.history
    (record {
      at = λ p entry e i a f. record {
        steady = ((safe here.table here.history is.permitted).actions.at p entry e i a f).steady;
        permitted = (each_permitted here.table here.history is.permitted).at p entry e i a f;
      };
    })
    here.pass here.entry is.entry (λ x. sent_to x k ≤ n + 1) (one_step last (setting_at here) k) (omega arith) here.made is.made
