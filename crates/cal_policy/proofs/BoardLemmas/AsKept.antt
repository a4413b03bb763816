-- What is asked of a holder does not depend on how numbers of commands are kept.
use Rattle.cal_policy.proofs.Common.{◌&&◌, ◌≡◌, ℕ, List, Option, Some, None, refl, option_map, Table, Action, Holder, Held, Leaving, is_held_for, is_booked_for, is_with, Setting, is_held_with_room, may_be_emptied, leaves_for, idle_class, class_by, kept_placement, kept_holder}
use Rattle.cal_policy.specs.declared.board.holders.Placement as placements
use Rattle.cal_policy.specs.declared.board.holders.Holder.TheVariants.{Free}
use Rattle.cal_policy.specs.declared.history.action.Cause.TheVariants.{Ban, Bandwidth, Preempt}

pub held_as_kept : (table : Table) (t : ℕ) (h : Holder) → is_held_for table t (kept_holder h) ≡ is_held_for table t h
held_as_kept table t Free = refl
held_as_kept table t (Held placement) = refl
held_as_kept table t (Leaving placement cause) = refl

pub booked_as_kept : (table : Table) (t : ℕ) (h : Holder) → is_booked_for table t (kept_holder h) ≡ is_booked_for table t h
booked_as_kept table t Free = refl
booked_as_kept table t (Held placement) = refl
booked_as_kept table t (Leaving placement cause) = refl

pub with_as_kept : (k : ℕ) (h : Holder) → is_with k (kept_holder h) ≡ is_with k h
with_as_kept k Free = refl
with_as_kept k (Held placement) = refl
with_as_kept k (Leaving placement cause) = refl

pub leaves_as_kept : (t : ℕ) (h : Holder) → leaves_for t (kept_holder h) ≡ leaves_for t h
leaves_as_kept t Free = refl
leaves_as_kept t (Held placement) = refl
leaves_as_kept t (Leaving placement (Ban by)) = refl
leaves_as_kept t (Leaving placement Bandwidth) = refl
leaves_as_kept t (Leaving placement (Preempt task)) = refl

pub thread_as_kept : (o : Option placements.Placement) →
    option_map (λ (p : placements.Placement). p.thread) (option_map kept_placement o) ≡ option_map (λ (p : placements.Placement). p.thread) o
thread_as_kept None = refl
thread_as_kept (Some placement) = refl

pub idle_as_kept : (table : Table) (t : ℕ) (beside : Holder) (last : Option ℕ) → idle_class table t (kept_holder beside) last ≡ idle_class table t beside last
idle_as_kept table t Free last = refl
idle_as_kept table t (Held placement) last = refl
idle_as_kept table t (Leaving placement cause) last = refl

pub class_as_kept : (s : Setting) (acts : List Action) (t c : ℕ) (h : Holder) → class_by s acts t c (kept_holder h) ≡ class_by s acts t c h
class_as_kept s acts t c Free = refl
class_as_kept s acts t c (Held placement) = refl
class_as_kept s acts t c (Leaving placement cause) = refl

pub emptied_as_kept : (s : Setting) (x : List Action) (h : Holder) → may_be_emptied s x (kept_holder h) ≡ may_be_emptied s x h
emptied_as_kept s x Free = refl
emptied_as_kept s x (Held placement) = refl
emptied_as_kept s x (Leaving placement cause) = refl

-- a holder that can lose its core, as it is kept
pub loses_as_kept : (s : Setting) (t : ℕ) (h : Holder) →
    (is_held_for s.table t (kept_holder h) && is_held_with_room s (kept_holder h)) ≡ (is_held_for s.table t h && is_held_with_room s h)
loses_as_kept s t Free = refl
loses_as_kept s t (Held placement) = refl
loses_as_kept s t (Leaving placement cause) = refl
