use Rattle.std.proofs.Common.{map}
use Rattle.cal_machine.proofs.Keys.{all_of_table}
use Rattle.cal_machine.proofs.fields.has_only.Goals as goal

pub loop-key-init : goal.loop-key-init
loop-key-init c = rw (c.into_iter-key-iterator.ensures.into_iter_gives, c.keys-key-items.ensures.rest) (all_of_table (map (λ k. k.now) c.args.keys.now) c.args.table.now.entries)
