-- Looks that are no news, where somebody else chooses the actions.
use Rattle.std.specs.Prelude.{List}
use Rattle.cal_machine.specs.Table.{Table}
use Rattle.cal_policy.specs.declared.history.entry.PassEntry.{PassEntry}
use Rattle.cal_policy.specs.Judgement.Settled.{SettledAreNoNews}
use Rattle.cal_guard.specs.Permitted.{IsPermittedHistory}

-- after a permitted history a settled thread that shows the same once more is no news
abbrev pub PermittedSettledIsNoNews : Type 0
PermittedSettledIsNoNews = (table : Table) (history : List PassEntry) →
    IsPermittedHistory table history → SettledAreNoNews table history
