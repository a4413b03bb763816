use Rattle.std.proofs.Common.{◌≡◌, take}
use Rattle.cal_signal.proofs.words.store_words.Given as goal

abbrev pub invariant-loop-i : goal.invariant-loop-i
invariant-loop-i l = (l.seat.table_id ≡ l.initial.seat.table_id) × (l.seat.id ≡ l.initial.seat.id) × (l.seat.me ≡ (record l.initial.seat.me.0 { stored = take l.i l.words }, l.initial.seat.me.1))
