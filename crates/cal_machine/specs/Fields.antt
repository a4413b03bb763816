-- What a TOML table has at its keys.
use Rattle.std.specs.Prelude.{◌&&◌, ◌||◌, ℕ, ℤ, pos, negsuc, List, [], ◌∷◌, Bool, true}
use Rattle.std.specs.Prelude.{false, codes, nat_le, Result, Ok, Err, if◌then◌else◌}
use Rattle.std.specs.Str.{bytes_eq}
use Rattle.toml.specs.Data.{Data, Items, Members, no_members, member}
use Rattle.toml.specs.Data.{get_member, as_integer, as_str, as_array, as_table}
use Rattle.cal_machine.specs.Machine.{is_machine}
use Rattle.cal_machine.specs.Outcome.{or_fault}
use Rattle.cal_machine.specs.declared.task.Kind.{Kind}
use Rattle.cal_machine.specs.declared.task.Kind.TheVariants.{LatencyCritical, BestEffort}
use Rattle.cal_machine.specs.declared.fault.ConfigFault.{ConfigFault}
use Rattle.cal_machine.specs.declared.fault.ConfigFault.TheVariants.{UnknownKey, MissingKey}
use Rattle.cal_machine.specs.declared.fault.ConfigFault.TheVariants.{WrongType, OutOfRange}

-- A key is one of these.
abbrev pub is_one_of : List (List ℕ) → List ℕ → Bool
is_one_of [] key = false
is_one_of (known ∷ keys) key = bytes_eq known key || is_one_of keys key

-- A table has no other keys than these.
abbrev pub has_only : List (List ℕ) → Members → Bool
has_only keys no_members = true
has_only keys (member key value members) = is_one_of keys key && has_only keys members

-- The table, if it has no other keys than these.
abbrev pub known_keys : List (List ℕ) → Members → Result Members ConfigFault
known_keys keys members = if has_only keys members then Ok members else Err UnknownKey

-- What stands at a key.
abbrev pub value_at : List ℕ → Members → Result Data ConfigFault
value_at key members = or_fault MissingKey (get_member key members)

-- The types of values.
abbrev pub integer_of : Data → Result ℤ ConfigFault
integer_of value = or_fault WrongType (as_integer value)

abbrev pub string_of : Data → Result (List ℕ) ConfigFault
string_of value = or_fault WrongType (as_str value)

abbrev pub items_of : Data → Result Items ConfigFault
items_of value = or_fault WrongType (as_array value)

abbrev pub table_of : Data → Result Members ConfigFault
table_of value = or_fault WrongType (as_table value)

-- A number from the least to the most.
abbrev pub number_in : ℕ → ℕ → ℤ → Result ℕ ConfigFault
number_in least most (pos n) = if nat_le least n && nat_le n most then Ok n else Err OutOfRange
number_in least most (negsuc n) = Err OutOfRange

-- A number of cores: even, 2 to MOST_CORES.
abbrev pub cores_in : ℤ → Result ℕ ConfigFault
cores_in (pos n) = if is_machine n then Ok n else Err OutOfRange
cores_in (negsuc n) = Err OutOfRange

-- A kind: `lc` or `be`.
abbrev pub kind_in : List ℕ → Result Kind ConfigFault
kind_in text = if bytes_eq text (codes "lc") then Ok LatencyCritical
    else if bytes_eq text (codes "be") then Ok BestEffort else Err OutOfRange
