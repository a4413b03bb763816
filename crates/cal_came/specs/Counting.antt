-- From when the requests of a run are counted, and which of them are ranked.
use Rattle.cal_trace.specs.declared.arrivals.Arrivals.{Arrivals}
use Rattle.cal_came.specs.Came.{each_own}
use Rattle.cal_came.specs.Windows.{whole}
use Rattle.cal_came.specs.declared.counted.Counted.{Counted}

-- each request counted from its own turn, and all of them ranked
abbrev pub as_given : Arrivals → Counted
as_given arrivals = record { came = each_own arrivals; window = whole }
