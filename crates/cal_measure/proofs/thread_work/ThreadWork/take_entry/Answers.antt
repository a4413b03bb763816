use Rattle.cal_measure.proofs.Common.{◌<◌, ◌+◌, ◌^◌, ◌++◌, ◌∷◌, ◌∙◌, ℕ, List, [], length, ap, subst, sym, arith, length-append, each_of, each_of_push, AreTurnsSoFar, turn_by, turns_of, stolen_by}
use Rattle.cal_kthread.specs.Limits.{most_entries-is}
use Rattle.cal_measure.specs.declared.turns.Turn.{Turn}
use Rattle.cal_measure.proofs.ThreadTurns.{thefts_few, turns_few}
use Rattle.cal_measure.proofs.thread_work.ThreadWork.take_entry.Goals as goal

pub returns : goal.returns
returns c = λ journal so_far short.
    let entry = c.args.entry in
    let thefts = each_of stolen_by journal in
    let room : length journal + 1 < 2 ^ 64 = let grown = length-append journal (entry ∷ []) in let most = most_entries-is in omega (arith, grown, most, short) in
    let fewer = turns_few journal in
    let fewest = thefts_few journal in
    record {
      short = short;
      served = c.served_after-self.ensures journal so_far.served;
      thefts = c.counted-self.ensures thefts (omega (arith, room, fewest)) so_far.thefts
          ∙ ap (λ (l : List ℕ). length l) (ap (λ l. thefts ++ l) (c.stolen_by.ensures journal) ∙ sym (each_of_push stolen_by journal entry));
      turns = subst (λ (l : List Turn). AreTurnsSoFar l c.take.new.self)
          (ap (λ l. turns_of journal ++ l) (c.turn_by.ensures journal so_far.served) ∙ sym (each_of_push turn_by journal entry))
          (c.in_ok-take.ensures (turns_of journal) (omega (arith, room, fewer)) so_far.turns);
    }
