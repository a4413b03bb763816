use Rattle.cal_guard.proofs.Common.{[], ◌∷◌, length-append, subst, append_assoc, arith, Action, actions_of, so_far, HeldAreLow}
use Rattle.cal_guard.proofs.Low.{low_push}
use Rattle.cal_guard.proofs.Standing.{stands_more}
use Rattle.cal_guard.proofs.passing.Passing.take.Goals as goal

pub returns-clause-after : goal.returns-clause-after
returns-clause-after c = λ s acts is.
    let a : Action = c.args.action in record {
      stands = stands_more c.args.self.now.board c.apply.new.self s acts a is.stands c.apply.ensures.keeping
          (c.apply.ensures.agrees (so_far s acts) is.stands.agrees) (c.apply.ensures.fresh acts is.stands.fresh);
      sent = c.note_sent.ensures s acts is.stands.agrees is.sent;
    }

pub returns-clause-inside : goal.returns-clause-inside
returns-clause-inside c = λ s acts is permitted.
    let a : Action = c.args.action in
    let grown = length-append acts (a ∷ []) in
    let was = is.made in
    let lt = c.requires.few in
    let after = returns-clause-after c s acts (record { stands = is.stands; sent = is.sent }) in
    record {
      stands = after.stands;
      sent = after.sent;
      made = omega (arith, grown, was);
      few = omega (arith, grown, was, lt);
      low = subst (HeldAreLow s.table) (append_assoc (actions_of s.history) acts (a ∷ [])) (low_push s.table (so_far s acts) a permitted.fits is.low);
    }
