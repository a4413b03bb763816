-- The classes of cores, and their order.
use Rattle.std.specs.Prelude.{ℕ, Bool, true, false, nat_lt}
use Rattle.cal_policy.specs.declared.history.core_class.CoreClass.{CoreClass}
use Rattle.cal_policy.specs.declared.history.core_class.CoreClass.TheVariants as classes

-- the number of a class
abbrev pub class_number : CoreClass → ℕ
class_number classes.Sibling = 1
class_number classes.RecentlyUsed = 2
class_number classes.OtherIdle = 3
class_number classes.BestEffortBurstable = 4
class_number classes.LatencyCriticalBurstable = 5

-- a core of the class is nobody's
abbrev pub is_idle : CoreClass → Bool
is_idle classes.Sibling = true
is_idle classes.RecentlyUsed = true
is_idle classes.OtherIdle = true
is_idle classes.BestEffortBurstable = false
is_idle classes.LatencyCriticalBurstable = false

-- a core of the first class is rather chosen than one of the second
abbrev pub comes_before : CoreClass → CoreClass → Bool
comes_before class other = nat_lt (class_number class) (class_number other)
