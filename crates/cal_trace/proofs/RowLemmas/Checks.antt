-- What checks that passed say.
use Rattle.cal_trace.proofs.Common.{◌≡◌, ◌==◌, ◌&&◌, nat_lt, ℕ, Bool, true, false, Result, Ok, refl, ap, subst, and_parts, Look, FoundLook, check, is_possible, look_of, look_row, has_numbers, number_at, Fields, LookForm, FaultKind}
use Rattle.cal_trace.specs.declared.fault.FaultKind.TheVariants as kind

abbrev pub good : {X : Type 0} → X → Result X FaultKind
good x = Ok x

pub same_ok : {X : Type 0} (x y : X) → good x ≡ good y → x ≡ y
same_ok x y e = cc

pub check_one : {X : Type 0} (a : Bool) (k : FaultKind) (more : Result X FaultKind) (y : X) → check a k more ≡ Ok y → (a ≡ true) × (more ≡ Ok y)
check_one true k more y h = (refl, h)
check_one false k more y h = cc

pub check_two : {X : Type 0} (a b : Bool) (k l : FaultKind) (x y : X) → check a k (check b l (Ok x)) ≡ Ok y → (a ≡ true) × (b ≡ true) × (x ≡ y)
check_two true true k l x y h = (refl, refl, same_ok x y h)
check_two true false k l x y h = cc
check_two false b k l x y h = cc

pub check_three : {X : Type 0} (a b c : Bool) (k l m : FaultKind) (x y : X) → check a k (check b l (check c m (Ok x))) ≡ Ok y → (a ≡ true) × (b ≡ true) × (c ≡ true) × (x ≡ y)
check_three true true true k l m x y h = (refl, refl, refl, same_ok x y h)
check_three true true false k l m x y h = cc
check_three true false c k l m x y h = cc
check_three false b c k l m x y h = cc

-- the look of a row that passed
pub row_look : (form : LookForm) (thread : ℕ) (fields : Fields) (found : FoundLook) → look_row form thread fields ≡ Ok found → (look_of form fields ≡ found.look) × (is_possible found.look ≡ true)
row_look form thread fields found e =
    let look = look_of form fields in
    let room = nat_lt (number_at fields 2) 2 in
    let c = check_three (has_numbers fields) (number_at fields 1 == thread) (room && is_possible look) kind.Number kind.Order kind.Range (record { look = look; room = number_at fields 2 == 1 }) found e in
    let same : look ≡ found.look = ap (λ (f : FoundLook). f.look) c.3 in
    (same, subst (λ (l : Look). is_possible l ≡ true) same (and_parts room (is_possible look) c.2).1)
