-- The thread of a core's last grant, as it is kept.
use Rattle.std.proofs.Common.{◌≡◌, Option, Some, None, sym, ap, option_map}
use Rattle.cal_policy.specs.declared.board.holders.Placement.{Placement}
use Rattle.cal_policy.specs.Board.{kept_placement}

-- to keep a placement leaves its thread
pub kept_thread : (placed kept : Option Placement) → kept ≡ option_map kept_placement placed →
    option_map (λ (p : Placement). p.thread) placed ≡ option_map (λ (p : Placement). p.thread) kept
kept_thread None kept is = sym (ap (option_map (λ (p : Placement). p.thread)) is)
kept_thread (Some placement) kept is = sym (ap (option_map (λ (p : Placement). p.thread)) is)
