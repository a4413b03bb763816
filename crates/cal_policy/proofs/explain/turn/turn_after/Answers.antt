-- Each turn is followed by the next of its part, and the last of a part by the first of the next.
use Rattle.cal_policy.proofs.Common.{◌≡◌, ◌+◌, length, ap, refl, arith, Table, unban_at, bans_at, grant_of_kind_at, freed_of, granted_of}
use Rattle.cal_machine.specs.declared.task.Kind.TheVariants as kinds
use Rattle.cal_policy.specs.Explain.Turns.{unbanned_of, bounded_of}
use Rattle.cal_policy.proofs.ExplainLemmas.{turn_more, turn_last}
use Rattle.cal_policy.proofs.explain.turn.turn_after.Goals as goal

pub returns-in-Unban-2-clause-follows : goal.returns-in-Unban-2-clause-follows
returns-in-Unban-2-clause-follows c = λ s e.
    let core = c.in-Unban.core in
    let all = ap (λ (t : Table). t.cores) e in
    let bound = rw c.in-Unban.is at c.requires.turn in
    let last : core + 1 ≡ s.table.cores = omega (arith, all, bound) in
    rw c.in-Unban.is (turn_last (unban_at s) (freed_of s) core s.table.cores last)

pub returns-in-Ban-clause-follows : goal.returns-in-Ban-clause-follows
returns-in-Ban-clause-follows c = λ s e.
    rw c.in-Ban.is (turn_more (bans_at s) (unbanned_of s) c.in-Ban.core (c.in-Ban.core + 1) refl)

pub returns-in-Ban-2-clause-follows : goal.returns-in-Ban-2-clause-follows
returns-in-Ban-2-clause-follows c = λ s e.
    let core = c.in-Ban.core in
    let all = ap (λ (t : Table). t.cores) e in
    let bound = rw c.in-Ban.is at c.requires.turn in
    let last : core + 1 ≡ s.table.cores = omega (arith, all, bound) in
    rw c.in-Ban.is (turn_more (bans_at s) (unbanned_of s) core s.table.cores last)

pub returns-in-LatencyCritical-clause-follows : goal.returns-in-LatencyCritical-clause-follows
returns-in-LatencyCritical-clause-follows c = λ s e.
    let task = c.in-LatencyCritical.task in
    rw c.in-LatencyCritical.is (turn_more (grant_of_kind_at kinds.LatencyCritical s) (bounded_of s) task (task + 1) refl)

pub returns-in-LatencyCritical-2-clause-follows : goal.returns-in-LatencyCritical-2-clause-follows
returns-in-LatencyCritical-2-clause-follows c = λ s e.
    let task = c.in-LatencyCritical.task in
    let all = ap (λ (t : Table). length t.tasks) e in
    let bound = rw c.in-LatencyCritical.is at c.requires.turn in
    let last : task + 1 ≡ length s.table.tasks = omega (arith, all, bound) in
    rw c.in-LatencyCritical.is
    (turn_last (grant_of_kind_at kinds.LatencyCritical s) (bounded_of s) task (length s.table.tasks) last)

pub returns-in-BestEffort-clause-follows : goal.returns-in-BestEffort-clause-follows
returns-in-BestEffort-clause-follows c = λ s e.
    let task = c.in-BestEffort.task in
    rw c.in-BestEffort.is (turn_more (grant_of_kind_at kinds.BestEffort s) (granted_of s) task (task + 1) refl)

pub returns-in-BestEffort-2-clause-follows : goal.returns-in-BestEffort-2-clause-follows
returns-in-BestEffort-2-clause-follows c = λ s e.
    let task = c.in-BestEffort.task in
    let all = ap (λ (t : Table). length t.tasks) e in
    let bound = rw c.in-BestEffort.is at c.requires.turn in
    let last : task + 1 ≡ length s.table.tasks = omega (arith, all, bound) in
    rw c.in-BestEffort.is
    (turn_more (grant_of_kind_at kinds.BestEffort s) (granted_of s) task (length s.table.tasks) last)
