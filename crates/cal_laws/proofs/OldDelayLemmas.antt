-- Delays by the queues alone.
use Rattle.cal_laws.proofs.Common.{◌≡◌, ℕ, zero, suc, ltb, max, List, [], ◌∷◌, ◌++◌, Option, Some, None, refl, ap, ◌∙◌, arith, option_or, unwrap_or, Record, thread_of, limit_of, Seen, greatest_below, last_after, looks_of, to_keep_at, kept_by, Setting, kept_now, waited, record_delay, thread_delay}
use Rattle.std.proofs.Math.Nat.{max-zero}
use Rattle.cal_signal.specs.Records.{zero_record}
use Rattle.cal_laws.specs.OldDelay.{HasNoneSuspended, queue_delay, ShowNoneSuspended, AreOfQueues}

pub of_queue : (now : ℕ) (rec : Record) → HasNoneSuspended rec → record_delay now rec ≡ queue_delay now rec
of_queue now rec h =
    let queued = waited now (ltb 0 rec.queued) rec.oldest in
    ap (λ paused. max queued (waited now (ltb 0 paused) rec.since)) h.paused ∙ max-zero queued

greatest_same : (f g : ℕ → ℕ) (n : ℕ) → ((k : ℕ) → f k ≡ g k) → greatest_below f n ≡ greatest_below g n
greatest_same f g zero e = refl
greatest_same f g (suc n) e = rw (greatest_same f g n e, e n) refl

none_in_either : (o p : Option Record) → ((rec : Record) → o ≡ Some rec → HasNoneSuspended rec) → ((rec : Record) → p ≡ Some rec → HasNoneSuspended rec) →
    (rec : Record) → option_or o p ≡ Some rec → HasNoneSuspended rec
none_in_either None p e f rec is = f rec is
none_in_either (Some r) p e f rec is = e rec is

none_in_last : (k : ℕ) (before looks : List (List Seen)) → ShowNoneSuspended looks → (rec : Record) →
    last_after (λ (before : List (List Seen)) (seen : List Seen). to_keep_at seen k) before looks ≡ Some rec → HasNoneSuspended rec
none_in_last k before [] h rec is = cc
none_in_last k before (seen ∷ looks) h rec is =
    none_in_either _ (to_keep_at seen k)
    (none_in_last k (before ++ seen ∷ []) looks (λ i d lt. h (suc i) d (omega arith))) (h zero seen (omega arith) k) rec is

none_or_zero : (o : Option Record) → ((rec : Record) → o ≡ Some rec → HasNoneSuspended rec) → HasNoneSuspended (unwrap_or o zero_record)
none_or_zero None e = record { paused = refl; since = refl }
none_or_zero (Some rec) e = e rec refl

-- what is kept of looks without suspended requests has none either
none_kept : (looks : List (List Seen)) (k : ℕ) → ShowNoneSuspended looks → HasNoneSuspended (kept_by looks k)
none_kept looks k h = none_or_zero _ (none_in_last k [] looks h)

pub of_queues : (s : Setting) → ShowNoneSuspended (looks_of s.history ++ s.input.seen ∷ []) → AreOfQueues s
of_queues s h =
    let thread : (k : ℕ) → thread_delay s k ≡ queue_delay s.input.now (kept_now s k) = λ k. of_queue s.input.now (kept_now s k) (none_kept (looks_of s.history ++ s.input.seen ∷ []) k h) in
    record {
      thread = thread;
      task = λ t. greatest_same (λ j. thread_delay s (thread_of s.table t j)) (λ j. queue_delay s.input.now (kept_now s (thread_of s.table t j))) (limit_of s.table t)
          (λ j. thread (thread_of s.table t j));
    }
