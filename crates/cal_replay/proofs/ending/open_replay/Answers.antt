use Rattle.std.proofs.Common.{◌≡◌, ◌∙◌, [], List, length, map, ap, subst, sym}
use Rattle.std.proofs.lemmas.List.{length-map}
use Rattle.cal_command.specs.Rings.{SenderView}
use Rattle.cal_machine.specs.TableTasks.{threads_of_table}
use Rattle.cal_policy.specs.History.Found.{looks_at}
use Rattle.cal_policy.specs.History.{actions_of, commands_to}
use Rattle.cal_policy.specs.declared.history.entry.PassEntry.{PassEntry}
use Rattle.cal_run.specs.Workers.{seat_of}
use Rattle.cal_run.specs.declared.workers.worker.Worker.{Worker}
use Rattle.cal_run.proofs.CollectorLemmas.Opened.{no_pass_yet}
use Rattle.cal_sched.specs.Scheduler.{HaveSeenNothing, HaveSentNothing}
use Rattle.cal_signal.specs.Ends.{ObserverView}
use Rattle.cal_replay.proofs.ending.open_replay.Goals as goal

pub new-requires-clause-pages : goal.new-requires-clause-pages
new-requires-clause-pages c =
    ap (λ (l : List ObserverView). length l) c.end-observers.ensures.observers ∙ c.end-observers.ensures.kept.pages ∙ ap threads_of_table c.in-Ok.ensures.parts.together.same_table

pub new-requires-clause-rings : goal.new-requires-clause-rings
new-requires-clause-rings c =
    ap (λ (l : List SenderView). length l) c.end-observers.ensures.senders ∙ c.end-observers.ensures.kept.rings ∙ ap threads_of_table c.in-Ok.ensures.parts.together.same_table

pub new-requires-clause-unseen : goal.new-requires-clause-unseen
new-requires-clause-unseen c =
    let s = c.in-Ok.parts.scheduler in
    let none = no_pass_yet c.args.arrivals.now s c.in-Ok.ensures.parts.passes in
    subst (λ (l : List ObserverView). HaveSeenNothing l) (sym c.end-observers.ensures.observers)
    (λ k observer at. c.end-observers.ensures.kept.looks k observer at ∙ ap (λ (h : List PassEntry). looks_at h k) none)

pub new-requires-clause-unsent : goal.new-requires-clause-unsent
new-requires-clause-unsent c =
    let s = c.in-Ok.parts.scheduler in
    let none = no_pass_yet c.args.arrivals.now s c.in-Ok.ensures.parts.passes in
    subst (λ (l : List SenderView). HaveSentNothing l) (sym c.end-observers.ensures.senders)
    (λ k sender at. c.end-observers.ensures.kept.sent k sender at ∙ ap (λ (h : List PassEntry). commands_to (actions_of h) k) none)

pub returns : goal.returns
returns c =
    let parts = c.in-Ok.parts in
    let together = c.in-Ok.ensures.parts.together in
    let ends = c.in_ok-replayer.ensures.ends in
    record {
      parts = record {
        replayed = c.in_ok-replayer.ensures.nothing;
        turns = c.in-Ok.ensures.parts.turns;
        threads = sym (length-map parts.workers.items (λ (w : Worker). seat_of w.thread)) ∙ together.threads;
        others = record {
          observed = ap (λ v. map (λ (o : ObserverView). o.page) v.items) ends.0 ∙ ap (λ (l : List ObserverView). map (λ (o : ObserverView). o.page) l) c.end-observers.ensures.observers ∙ together.pages;
          watched = together.watched;
          sent = ap (λ v. map (λ (s : SenderView). s.ring) v.items) ends.1 ∙ ap (λ (l : List SenderView). map (λ (s : SenderView). s.ring) l) c.end-observers.ensures.senders ∙ together.rings;
        };
        team = together.team;
      };
    }
