-- The counts and sets are kept up with the one holder that an action changes.
use Rattle.cal_policy.proofs.Common.{◌∙◌, ap, subst, sym, arith, has, IfSome, threads_of_table, Holder, holder_in, holder_at, is_thread_for, IsSorted}
use Rattle.cal_policy.specs.Board.Survey.{CountsOneMore}
use Rattle.cal_policy.proofs.BoardLemmas.StateKept.{names_fixed, names_threads, placed_at}
use Rattle.cal_policy.proofs.BoardLemmas.DebtsKept.{low_core}
use Rattle.cal_policy.proofs.BoardLemmas.Surveyed.{Surveys_moved, counted_at, few_left}
use Rattle.cal_policy.proofs.BoardLemmas.Sorted.{Sorts_moved}
use Rattle.cal_policy.proofs.BoardLemmas.OpenCores.{changes_named}
use Rattle.cal_policy.proofs.BoardLemmas.Unshown.{shows_moved}
use Rattle.cal_policy.proofs.board.Board.apply.Goals as goal

pub remove-requires-clause-counted : goal.remove-requires-clause-counted
remove-requires-clause-counted c =
    let table = c.args.config.now in
    let old = c.args.self.now in
    rw c.holder_at-before.ensures (counted_at table old.holding c.core_changed_by-core.result old.survey
    (c.core_changed_by-core.ensures.below table.cores (threads_of_table table) c.requires.names) c.requires.ready.counts)

pub add-requires-clause-few : goal.add-requires-clause-few
add-requires-clause-few c =
    let table = c.args.config.now in
    let old = c.args.self.now in
    few_left table (holder_in old.holding) c.holder_at-before.result old.survey c.remove.new.self (omega (arith, c.requires.table.machine.most))
    c.requires.ready.counts c.remove.ensures.counted

pub add-requires-clause-thread : goal.add-requires-clause-thread
add-requires-clause-thread c =
    let table = c.args.config.now in
    rw c.holder_at-after.ensures (placed_at (threads_of_table table) c.apply.new.self c.core_changed_by-core.result
    (c.apply.ensures.sound (threads_of_table table) c.requires.ready.own.holding (names_threads table c.args.action c.requires.table c.requires.names)))

pub returns-clause-agrees : goal.returns-clause-agrees
returns-clause-agrees c = λ x a. record {
  holding = c.apply.ensures.agrees x a.holding;
  bans = c.apply-2.ensures.agree x a.bans;
  caps = c.apply-3.ensures x a.caps;
  banned = c.note_ban.ensures.banned x (rw c.move_core.ensures.banned a.banned);
  debts = c.note-3.ensures x a.debts (λ k is. c.holder_at-before.ensures ∙ ap (holder_at c.args.self.now.holding) (c.core_changed_by-core.ensures.changed ∙ is)
      ∙ a.holding.holders k (low_core c.args.action k is (names_fixed c.args.config.now c.args.action c.requires.table c.requires.names)));
}

pub returns-clause-ready : goal.returns-clause-ready
returns-clause-ready c =
    let table = c.args.config.now in
    let old = c.args.self.now in
    let core = c.core_changed_by-core.result in
    let fixed = names_fixed table c.args.action c.requires.table c.requires.names in
    let threads = names_threads table c.args.action c.requires.table c.requires.names in
    let Less : Holder → Type 0 = λ a. CountsOneMore table a c.remove.new.self old.survey in
    let More : Holder → Type 0 = λ a. CountsOneMore table a c.remove.new.self c.add.new.self in
    let At : Holder → Type 0 = λ a. IfSome core (λ k. IsSorted k a c.move_core.new.self) in
    record {
      sound = record { holding = c.apply.ensures.sound 128 c.requires.ready.sound.holding fixed; bans = c.apply-2.ensures.sound 128 c.requires.ready.sound.bans fixed };
      own = record {
        holding = c.apply.ensures.sound (threads_of_table table) c.requires.ready.own.holding threads;
        bans = c.apply-2.ensures.sound (threads_of_table table) c.requires.ready.own.bans threads;
      };
      counts = Surveys_moved table old.holding c.apply.new.self core old.survey c.remove.new.self c.add.new.self
          (c.core_changed_by-core.ensures.below table.cores (threads_of_table table) c.requires.names)
          (λ k off. c.apply.ensures.others k (λ same. off (c.core_changed_by-core.ensures.changed ∙ same)))
          c.requires.ready.counts (subst Less c.holder_at-before.ensures c.remove.ensures.counted) (subst More c.holder_at-after.ensures c.add.ensures.counted);
      sets = λ k lt. c.note_ban.ensures.others k (holder_in c.apply.new.self k)
          (Sorts_moved old.holding c.apply.new.self core old.sets c.move_core.new.self
          (λ j off. c.apply.ensures.others j (λ same. off (c.core_changed_by-core.ensures.changed ∙ same)))
          c.requires.ready.sets (subst At c.holder_at-after.ensures c.move_core.ensures.sorted) c.move_core.ensures.others k lt);
      opens = c.note-2.ensures.kept (holder_in old.holding) old.sets.banned c.requires.ready.opens (record {
        holders = λ k off. c.apply.ensures.others k (changes_named c.args.action k off);
        bans = λ k off. c.note_ban.ensures.elsewhere k off ∙ ap (λ set. has set k) c.move_core.ensures.banned;
      });
      recent = record {
        cores = λ t lt k. (c.note.ensures.kept c.requires.ready.recent).cores t lt k ∙ sym (ap (is_thread_for table t) (c.apply.ensures.granted k));
      };
      keeping = c.requires.ready.keeping;
      shows = shows_moved (holder_in old.holding) (holder_in c.apply.new.self) _ old.unshown _ core
          (λ k off. c.apply.ensures.others k (λ same. off (c.core_changed_by-core.ensures.changed ∙ same)))
          c.note_changed.ensures.before c.note_changed.ensures.changed c.requires.ready.shows;
    }
