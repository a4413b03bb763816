use Rattle.std.proofs.Common.{◌≡◌, take, length}
use Rattle.cal_signal.proofs.words.load_words.Given as goal

abbrev pub invariant-loop-i : goal.invariant-loop-i
invariant-loop-i l = (l.seat.table_id ≡ l.initial.seat.table_id) × (l.seat.id ≡ l.initial.seat.id) × (length l.words ≡ 9) × (l.seat.me ≡ (record l.initial.seat.me.0 { read = take l.i l.words }, l.initial.seat.me.1))
