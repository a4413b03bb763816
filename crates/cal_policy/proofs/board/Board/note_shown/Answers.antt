-- Only the set is another.
use Rattle.cal_policy.proofs.Common.{inl, inr, ⊎_elim, holder_in, kept_in, IsShownOn}
use Rattle.cal_policy.proofs.BoardLemmas.Unshown.{shows_out}
use Rattle.cal_policy.proofs.board.Board.note_shown.Goals as goal

pub returns-clause-stands : goal.returns-clause-stands
returns-clause-stands c = λ s acts st. record {
  agrees = record { holding = st.agrees.holding; bans = st.agrees.bans; caps = st.agrees.caps; banned = st.agrees.banned; debts = st.agrees.debts };
  fresh = st.fresh;
  looks = st.looks;
  before = st.before;
}

pub returns-clause-ready : goal.returns-clause-ready
returns-clause-ready c = λ table r.
    let old = c.args.self.now in
    let core = c.args.core in
    let On : Type 0 = IsShownOn (kept_in old.keeping) core (holder_in old.holding core) in
    record {
      sound = record { holding = r.sound.holding; bans = r.sound.bans };
      own = record { holding = r.own.holding; bans = r.own.bans };
      counts = r.counts;
      sets = r.sets;
      opens = r.opens;
      recent = r.recent;
      keeping = r.keeping;
      shows = shows_out (holder_in old.holding) (kept_in old.keeping) core old.unshown c.take_out.new.unshown
          (λ k off. ⊎_elim (λ still. inl still) (λ both. inr (both.0, c.is_shown-is_shown.ensures both.1)) (c.take_out.ensures k off)) r.shows;
    }
