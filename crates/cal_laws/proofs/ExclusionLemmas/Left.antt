-- At a safe place a core is freed only where its thread was shown to have left it.
use Rattle.cal_laws.proofs.Common.{◌≡◌, ◌<◌, ℕ, true, List, Some, leb, eqb, ltb, not, refl, and_parts, leb-true, eqb-true, ltb-true, Action, Free, Holder, holder_of, placement_of, is_free, Setting, so_far, kept_now, has_left, shows_left, IsSafe}
use Rattle.cal_policy.specs.declared.board.holders.Placement as placements
use Rattle.cal_policy.specs.declared.board.holders.Holder.TheVariants as holders
use Rattle.cal_laws.specs.Acknowledged.{HasBeenLeft}

left_by : (s : Setting) (acts : List Action) (core : ℕ) (p : placements.Placement) → core < s.table.cores → placement_of (holder_of (so_far s acts) core) ≡ Some p →
    has_left (kept_now s p.thread) p.number ≡ true → HasBeenLeft s acts core
left_by s acts core p own e left =
    let both = and_parts (leb p.number (kept_now s p.thread).taken) (eqb (kept_now s p.thread).running 0) left in
    record { own = own; left = p; holder = e; acknowledged = leb-true _ _ both.0; on_none = eqb-true _ _ both.1 }

left_where : (s : Setting) (acts : List Action) (core : ℕ) (h : Holder) → core < s.table.cores → placement_of (holder_of (so_far s acts) core) ≡ placement_of h →
    shows_left (kept_now s) h ≡ true → HasBeenLeft s acts core
left_where s acts core holders.Free own e left = cc
left_where s acts core (holders.Held p) own e left = left_by s acts core p own e left
left_where s acts core (holders.Leaving p cause) own e left = left_by s acts core p own e left

pub was_left : (s : Setting) (acts : List Action) (core : ℕ) → IsSafe s acts (Free core) → HasBeenLeft s acts core
was_left s acts core safe =
    let own = ltb-true core s.table.cores (and_parts (ltb core s.table.cores) (not (is_free (holder_of (so_far s acts) core))) safe.fits).0 in
    left_where s acts core (holder_of (so_far s acts) core) own refl safe.left
