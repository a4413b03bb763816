-- Bans and caps are kept up with one more action.
use Rattle.cal_policy.proofs.Common.{◌≡◌, ℕ, ◌<◌, List, [], ◌∷◌, ◌++◌, length, set, Option, Some, None, sym, ◌∙◌, eqb, Action, Unban, Ban, Cap, BannedFor, ban_of, last_cap, BansAgree, CapsAgree, unwrap_if}
use Rattle.cal_policy.specs.declared.board.bans.Bans.{Bans}
use Rattle.cal_policy.specs.declared.board.caps.Caps.{Caps}
use Rattle.cal_policy.proofs.ListLemmas.OneMore.{set_says, or_if}
use Rattle.cal_policy.proofs.HistoryLemmas.OneMore.{ban_push, last_cap_push}

pub Bans_ban : (b : Bans) (x : List Action) (core thread started : ℕ) → length b.bans ≡ 128 → core < 128 → BansAgree b x →
    BansAgree (record { bans = set b.bans core (Some (record { thread = thread; started = started })) }) (x ++ Ban core thread started ∷ [])
Bans_ban b x core thread started len low s =
    let ban : Option BannedFor = Some (record { thread = thread; started = started }) in record {
      bans = λ c lt. set_says b.bans None (ban_of x) 128 core ban len low s.bans c lt
          ∙ sym (ban_push x (Ban core thread started) c ∙ unwrap_if (eqb core c) ban (ban_of x c));
    }

pub Bans_unban : (b : Bans) (x : List Action) (core : ℕ) → length b.bans ≡ 128 → core < 128 → BansAgree b x →
    BansAgree (record { bans = set b.bans core None }) (x ++ Unban core ∷ [])
Bans_unban b x core len low s = record {
  bans = λ c lt. set_says b.bans None (ban_of x) 128 core None len low s.bans c lt
      ∙ sym (ban_push x (Unban core) c ∙ unwrap_if (eqb core c) None (ban_of x c));
}

-- an action that names no ban
pub Bans_same : (b : Bans) (x : List Action) (a : Action) → ((c : ℕ) → ban_of (x ++ a ∷ []) c ≡ ban_of x c) → BansAgree b x → BansAgree b (x ++ a ∷ [])
Bans_same b x a e s = record { bans = λ c lt. s.bans c lt ∙ sym (e c) }

pub Caps_cap : (b : Caps) (x : List Action) (task cap : ℕ) → length b.caps ≡ 16 → task < 16 → CapsAgree b x →
    CapsAgree (record { caps = set b.caps task (Some cap) }) (x ++ Cap task cap ∷ [])
Caps_cap b x task cap len low s = record {
  caps = λ t lt. set_says b.caps None (last_cap x) 16 task (Some cap) len low s.caps t lt
      ∙ sym (last_cap_push x (Cap task cap) t ∙ or_if (eqb task t) cap (last_cap x t));
}

-- an action that caps no task
pub Caps_same : (b : Caps) (x : List Action) (a : Action) → ((t : ℕ) → last_cap (x ++ a ∷ []) t ≡ last_cap x t) → CapsAgree b x → CapsAgree b (x ++ a ∷ [])
Caps_same b x a e s = record { caps = λ t lt. s.caps t lt ∙ sym (e t) }
