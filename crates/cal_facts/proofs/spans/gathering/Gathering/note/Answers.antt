use Rattle.cal_facts.proofs.Common.{◌∙◌, ◌++◌, ap, sym, ended_of, made_in, each_of_push, lifted_in, lifted_of}
use Rattle.cal_measure.proofs.SpanLemmas.StaysKept.{ended_push}
use Rattle.cal_measure.specs.Turns.{one_of}
use Rattle.cal_facts.proofs.spans.gathering.Gathering.note.Goals as goal

pub returns : goal.returns
returns c = λ moves h. record {
  tracker = c.note-over.ensures.tracks moves h.tracker;
  bans = c.note-lifted.ensures.tracks moves h.bans;
  ended = c.in_ok-put_one.ensures
      ∙ ap (λ ys. ys ++ one_of c.note-over.result) h.ended
      ∙ ap (λ ys. ended_of moves ++ ys) (c.note-over.ensures.over moves h.tracker)
      ∙ sym (ended_push moves c.args.pass c.args.action);
  lifted = c.in_ok-put_one-2.ensures
      ∙ ap (λ ys. ys ++ one_of c.note-lifted.result) h.lifted
      ∙ ap (λ ban. lifted_of moves ++ one_of ban) (c.note-lifted.ensures.over moves h.bans)
      ∙ sym (each_of_push lifted_in moves (made_in c.args.pass c.args.action));
}
