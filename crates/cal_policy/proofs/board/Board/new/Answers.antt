-- Before any action every core is free.
use Rattle.cal_policy.proofs.Common.{◌∙◌, ap, subst, sym, threads_of_table, Holder, holder_in, IsSorted, is_thread_for}
use Rattle.cal_policy.proofs.BoardLemmas.Surveyed.{Surveys_free}
use Rattle.cal_policy.proofs.BoardLemmas.OpenCores.{opens_free}
use Rattle.cal_policy.proofs.BoardLemmas.Unshown.{shows_free}
use Rattle.cal_policy.proofs.board.Board.new.Goals as goal

pub returns-clause-ready : goal.returns-clause-ready
returns-clause-ready c = λ table. record {
  sound = record { holding = c.new.ensures.sound 128; bans = c.new-6.ensures.sound 128 };
  own = record { holding = c.new.ensures.sound (threads_of_table table); bans = c.new-6.ensures.sound (threads_of_table table) };
  counts = Surveys_free table (holder_in c.new.result) c.new-2.result c.new.ensures.free
      c.new-2.ensures.held c.new-2.ensures.booked c.new-2.ensures.placed c.new-2.ensures.awaited;
  sets = λ k lt. let At : Holder → Type 0 = λ a. IsSorted k a c.new-3.result in
      subst At (sym (c.new.ensures.free k)) (c.new-3.ensures.sorted k lt);
  opens = opens_free (holder_in c.new.result) c.new-3.result.banned c.new-4.result c.new.ensures.free
      (λ k lt. c.new-3.ensures.banned.banned k lt) c.new-4.ensures.idle c.new-4.ensures.alone c.new-4.ensures.beside;
  recent = record { cores = λ t lt k. c.new-5.ensures t k ∙ sym (ap (is_thread_for table t) (c.new.ensures.ungranted k)) };
  keeping = c.new-9.ensures.sets;
  shows = shows_free (holder_in c.new.result) _ _ c.new.ensures.free;
}
