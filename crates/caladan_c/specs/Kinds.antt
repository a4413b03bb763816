-- What a call of one kind finds in a handle: of a closed handle nothing, and of another kind's neither.
use Rattle.std.specs.Prelude.{Option, Some, None, option_and_then}
use Rattle.caladan_c.specs.Standing.{Standing}
use Rattle.caladan_c.specs.GuardView.{GuardView}
use Rattle.caladan_c.specs.AuditView.{AuditView}
use Rattle.caladan_c.specs.declared.handle.Handle.{Handle}
use Rattle.caladan_c.specs.declared.handle.kept.Kept.{Kept}
use Rattle.caladan_c.specs.declared.handle.kept.Kept.TheVariants as kept

abbrev pub as_scheduler : Kept → Option Standing
as_scheduler (kept.Scheduler scheduler) = Some scheduler
as_scheduler (kept.Guard guard) = None
as_scheduler (kept.Audit audit) = None

abbrev pub as_guard : Kept → Option GuardView
as_guard (kept.Scheduler scheduler) = None
as_guard (kept.Guard guard) = Some guard
as_guard (kept.Audit audit) = None

abbrev pub as_audit : Kept → Option AuditView
as_audit (kept.Scheduler scheduler) = None
as_audit (kept.Guard guard) = None
as_audit (kept.Audit audit) = Some audit

-- the scheduler that the handle keeps
abbrev pub scheduler_in : Handle → Option Standing
scheduler_in handle = option_and_then as_scheduler handle.pointer.kept

-- the guard
abbrev pub guard_in : Handle → Option GuardView
guard_in handle = option_and_then as_guard handle.pointer.kept

-- the audit
abbrev pub audit_in : Handle → Option AuditView
audit_in handle = option_and_then as_audit handle.pointer.kept
