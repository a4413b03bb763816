use Rattle.std.proofs.Common.{◌≡◌, map}
use Rattle.toml.specs.View.{table_view}
use Rattle.cal_machine.specs.Fields.{has_only}
use Rattle.cal_machine.proofs.Keys.{all_known}
use Rattle.cal_machine.proofs.fields.has_only.Given as goal

abbrev pub invariant-loop-key : goal.invariant-loop-key
invariant-loop-key l = has_only (map (λ k. k.now) l.keys) (table_view l.table) ≡ all_known (map (λ k. k.now) l.keys) l.key-iterator
