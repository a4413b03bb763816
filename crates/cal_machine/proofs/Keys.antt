-- Looking through the keys of a table.
use Rattle.std.proofs.Common.{◌≡◌, ◌&&◌, ℕ, List, [], ◌∷◌, Bool, true, String, string_bytes, refl, ap}
use Rattle.std.specs.declared.alloc.Global.{Global}
use Rattle.std.specs.Map.{keys_of}
use Rattle.toml.specs.View.{members_view}
use Rattle.toml.specs.declared.value.Value.{Value}
use Rattle.cal_machine.specs.Fields.{has_only, is_one_of}

-- each of these is one of the keys
abbrev pub all_known : List (List ℕ) → List (String Global) → Bool
all_known keys [] = true
all_known keys (key ∷ rest) = is_one_of keys (string_bytes key) && all_known keys rest

pub all_of_table : (keys : List (List ℕ)) (entries : List (String Global × Value)) → has_only keys (members_view entries) ≡ all_known keys (keys_of entries)
all_of_table keys [] = refl
all_of_table keys (entry ∷ entries) = ap (λ (b : Bool). is_one_of keys (string_bytes entry.0) && b) (all_of_table keys entries)
