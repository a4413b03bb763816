-- The rounds of a replay, one after the other.
use Rattle.std.proofs.Common.{◌≡◌, ℕ, ◌+◌, ◌≤◌, [], List, length, map, take, refl, sym, ap, subst, ◌∙◌, arith}
use Rattle.std.specs.Prelude.{max, min}
use Rattle.std.proofs.Math.Seq.{take-length}
use Rattle.std.proofs.lemmas.List.{length-map}
use Rattle.cal_command.specs.Rings.{SenderView}
use Rattle.cal_machine.specs.Table.{Table}
use Rattle.cal_policy.specs.declared.history.entry.PassEntry.{PassEntry}
use Rattle.cal_run.specs.Outcome.{figures_of}
use Rattle.cal_run.specs.Workers.{HaveMade, Seat, pages_of_seats, rings_of_seats, seat_of, seats_of}
use Rattle.cal_run.specs.declared.workers.worker.Worker.{Worker}
use Rattle.cal_signal.specs.Ends.{ObserverView}
use Rattle.cal_kthread.specs.Team.{IsTeam}
use Rattle.cal_trace.specs.declared.arrivals.Arrivals.{Arrivals}
use Rattle.cal_trace.specs.declared.arrivals.GivenPass.{GivenPass}
use Rattle.cal_replay.specs.Parts.{AreGivenPasses, AreReplayParts, AreReplayedUpTo}
use Rattle.cal_replay.specs.Passes.{HasReplayed, IsOneEnd}
use Rattle.cal_replay.specs.declared.ending.ReplayParts.{ReplayParts}

module _ (table : Table) (arrivals : Arrivals) where
  -- with other passes and turns made, at the same ends
  pub parts_more : (h more : List PassEntry) (j k : ℕ) (before after : ReplayParts) → AreReplayParts table arrivals h j before → HasReplayed table more after.replayer → IsOneEnd before.replayer after.replayer
      → HaveMade arrivals k after.workers.items → seats_of after.workers.items ≡ seats_of before.workers.items → after.watch ≡ before.watch → AreReplayParts table arrivals more k after
  parts_more h more j k before after are replayed ends made seats watch = record {
    replayed = replayed;
    turns = made;
    threads = sym (length-map after.workers.items (λ (w : Worker). seat_of w.thread)) ∙ ap (λ (l : List Seat). length l) seats ∙ length-map before.workers.items (λ (w : Worker). seat_of w.thread) ∙ are.threads;
    others = record {
      observed = ends.pages ∙ are.others.observed ∙ ap pages_of_seats (sym seats);
      watched = ap (λ w. map (λ (o : ObserverView). o.page) w.observers) watch ∙ are.others.watched ∙ ap pages_of_seats (sym seats);
      sent = ends.rings ∙ are.others.sent ∙ ap rings_of_seats (sym seats);
    };
    team = subst (λ (l : List Seat). IsTeam (map (λ (s : Seat). s.place) l)) (sym seats) are.team;
  }

  -- before the first round nothing was made
  pub opened_up_to : (history : List PassEntry) (parts : ReplayParts) → AreReplayParts table arrivals [] 0 parts → AreReplayedUpTo table arrivals history 0 parts
  opened_up_to history parts are =
      let no_pass : 0 ≡ min 0 (length arrivals.passes) = omega arith in
      let no_turn : 0 ≡ min 0 (length arrivals.turns) = omega arith in
      record {
        parts = subst (λ n. AreReplayParts table arrivals (take n history) (min 0 (length arrivals.turns)) parts) no_pass
            (subst (λ n. AreReplayParts table arrivals [] n parts) no_turn are);
        given = subst (λ n. AreGivenPasses arrivals n (take n history)) no_pass refl;
      }

  -- after the last all was made
  pub all_parts : (history : List PassEntry) (parts : ReplayParts) → length history ≡ length arrivals.passes → AreReplayedUpTo table arrivals history (max (length arrivals.passes) (length arrivals.turns)) parts
      → AreReplayParts table arrivals history (length arrivals.turns) parts
  all_parts history parts many up =
      let p : min (max (length arrivals.passes) (length arrivals.turns)) (length arrivals.passes) ≡ length history = omega (arith, many) in
      let t : min (max (length arrivals.passes) (length arrivals.turns)) (length arrivals.turns) ≡ length arrivals.turns = omega arith in
      subst (λ (l : List PassEntry). AreReplayParts table arrivals l (length arrivals.turns) parts) (take-length history)
      (subst (λ n. AreReplayParts table arrivals (take n history) (length arrivals.turns) parts) p
      (subst (λ n. AreReplayParts table arrivals (take (min (max (length arrivals.passes) (length arrivals.turns)) (length arrivals.passes)) history) n parts) t up.parts))

  pub all_given : (history : List PassEntry) (parts : ReplayParts) → length history ≡ length arrivals.passes → AreReplayedUpTo table arrivals history (max (length arrivals.passes) (length arrivals.turns)) parts
      → map figures_of history ≡ arrivals.passes
  all_given history parts many up =
      let n = min (max (length arrivals.passes) (length arrivals.turns)) (length arrivals.passes) in
      let h : n ≡ length history = omega (arith, many) in
      let g : n ≡ length arrivals.passes = omega arith in
      sym (ap (λ (l : List PassEntry). map figures_of l) (ap (λ m. take m history) h ∙ take-length history))
      ∙ up.given ∙ ap (λ m. take m arrivals.passes) g ∙ take-length arrivals.passes
