-- The action rows of a history: a row's action, or the first of its checks that fails.
use Rattle.std.specs.Prelude.{◌&&◌, nat_le, nat_lt, ℕ, Bool, codes, Option, Some, None, Result, Ok}
use Rattle.std.specs.Prelude.{Err, if◌then◌else◌}
use Rattle.csv.specs.Records.{field_at}
use Rattle.cal_machine.specs.declared.task_table.TheConstants.{MOST_LIMIT}
use Rattle.cal_policy.specs.declared.history.action.Action.{Action}
use Rattle.cal_policy.specs.declared.history.action.Action.TheVariants.{Free, Unban, Ban, Revoke}
use Rattle.cal_policy.specs.declared.history.action.Action.TheVariants.{Cap, Grant}
use Rattle.cal_policy.specs.declared.history.action.Cause.TheVariants as causes
use Rattle.cal_trace.specs.Rows.RowFields.{is_row, is_word, is_number_at, number_at, has_numbers}
use Rattle.cal_trace.specs.Rows.LookRows.{check}
use Rattle.cal_trace.specs.Rows.{Fields}
use Rattle.cal_trace.specs.declared.history.action_rows.ActionForm.{ActionForm}
use Rattle.cal_trace.specs.declared.history.action_rows.ActionForm.TheVariants as form
use Rattle.cal_trace.specs.declared.history.action_rows.Extent.{Extent}
use Rattle.cal_trace.specs.declared.fault.FaultKind.{FaultKind}
use Rattle.cal_trace.specs.declared.fault.FaultKind.TheVariants as kind

-- whether a row is a revocation for this cause, with so many fields
abbrev pub is_revocation : ℕ → Fields → Bool → Bool
is_revocation count fields cause = is_row (codes "revoke") count fields && cause

-- the form of a revocation, a cap or a grant
abbrev pub later_action_form : Fields → Option ActionForm
later_action_form fields =
    if is_revocation 4 fields (is_word (field_at fields 2) (codes "ban"))
    then Some form.RevokeForBan
    else if is_revocation 3 fields (is_word (field_at fields 2) (codes "bandwidth"))
    then Some form.RevokeForBandwidth
    else if is_revocation 4 fields (is_word (field_at fields 2) (codes "preempt"))
    then Some form.RevokeForTask
    else if is_row (codes "cap") 3 fields then Some form.Cap
    else if is_row (codes "grant") 4 fields then Some form.Grant
    else None

-- what an action row is, by its first field, its cause and its number of fields
abbrev pub action_form : Fields → Option ActionForm
action_form fields =
    if is_row (codes "free") 2 fields then Some form.Free
    else if is_row (codes "unban") 2 fields then Some form.Unban
    else if is_row (codes "ban") 4 fields then Some form.Ban
    else later_action_form fields

-- a row that names a core of the table
abbrev pub core_row : Extent → Fields → Result ℕ FaultKind
core_row extent fields =
    check (has_numbers fields) kind.Number (
    check (nat_lt (number_at fields 1) extent.cores) kind.Range (
    Ok (number_at fields 1)))

abbrev pub ban_row : Extent → Fields → Result Action FaultKind
ban_row extent fields =
    check (has_numbers fields) kind.Number (
    check (nat_lt (number_at fields 1) extent.cores &&
    nat_lt (number_at fields 2) extent.threads) kind.Range (
    Ok (Ban (number_at fields 1) (number_at fields 2) (number_at fields 3))))

-- the core and what the cause names, which is below this number
abbrev pub revoke_row : Extent → ℕ → Fields → Result (ℕ × ℕ) FaultKind
revoke_row extent below fields =
    check (is_number_at fields 1 && is_number_at fields 3) kind.Number (
    check (nat_lt (number_at fields 1) extent.cores &&
    nat_lt (number_at fields 3) below) kind.Range (
    Ok (number_at fields 1, number_at fields 3)))

abbrev pub revoke_for_bandwidth_row : Extent → Fields → Result Action FaultKind
revoke_for_bandwidth_row extent fields =
    check (is_number_at fields 1) kind.Number (
    check (nat_lt (number_at fields 1) extent.cores) kind.Range (
    Ok (Revoke (number_at fields 1) causes.Bandwidth)))

abbrev pub cap_row : Extent → Fields → Result Action FaultKind
cap_row extent fields =
    check (has_numbers fields) kind.Number (
    check (nat_lt (number_at fields 1) extent.tasks &&
    nat_le (number_at fields 2) MOST_LIMIT) kind.Range (
    Ok (Cap (number_at fields 1) (number_at fields 2))))

abbrev pub grant_row : Extent → Fields → Result Action FaultKind
grant_row extent fields =
    check (has_numbers fields) kind.Number (
    check (nat_lt (number_at fields 1) extent.cores && nat_lt (number_at fields 2) extent.threads &&
    nat_le 1 (number_at fields 3) && nat_le (number_at fields 3) 5) kind.Range (
    Ok (Grant (number_at fields 1) (number_at fields 2) (number_at fields 3))))

-- a row's value, made into an action
abbrev pub made : {X : Type 0} → (X → Action) → Result X FaultKind → Result Action FaultKind
made make (Err k) = Err k
made make (Ok x) = Ok (make x)

-- the action of a row of this form
abbrev pub action_row : ActionForm → Extent → Fields → Result Action FaultKind
action_row form.Free extent fields = made (λ core. Free core) (core_row extent fields)
action_row form.Unban extent fields = made (λ core. Unban core) (core_row extent fields)
action_row form.Ban extent fields = ban_row extent fields
action_row form.RevokeForBan extent fields =
    made (λ p. Revoke p.0 (causes.Ban p.1)) (revoke_row extent extent.cores fields)
action_row form.RevokeForBandwidth extent fields = revoke_for_bandwidth_row extent fields
action_row form.RevokeForTask extent fields =
    made (λ p. Revoke p.0 (causes.Preempt p.1)) (revoke_row extent extent.tasks fields)
action_row form.Cap extent fields = cap_row extent fields
action_row form.Grant extent fields = grant_row extent fields
