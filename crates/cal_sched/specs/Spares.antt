-- The lists that a watch has for rounds to come.
use Rattle.std.specs.Prelude.{◌≡◌, ℕ, ◌≤◌, List, [], Some, slice_get}
use Rattle.std.specs.Vec.{vec_capacity}
use Rattle.std.specs.declared.vec.Vec.{Vec}
use Rattle.std.specs.declared.alloc.Global.{Global}
use Rattle.cal_signal.specs.declared.look.Look.{Look}

-- each is empty and has room for that many looks
abbrev pub AreSpare : ℕ → List (Vec Look Global) → Type 0
AreSpare pages lists = (i : ℕ) (list : Vec Look Global) → slice_get lists i ≡ Some list →
    (list.items ≡ []) × (pages ≤ vec_capacity list)
