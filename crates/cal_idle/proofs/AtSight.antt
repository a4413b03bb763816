-- What a host sees of idle passes.
use Rattle.std.proofs.Common.{◌≡◌, ℕ, suc, zero, List, [], ◌∷◌, ◌++◌, Option, Some, None, refl, sym, ap, ◌∙◌, subst, slice_get, ◌⊎◌, inl, inr}
use Rattle.std.specs.Option.{IfSome, unwrap_or, option_and_then, option_map, option_or}
use Rattle.cal_signal.specs.declared.record.Record.{Record}
use Rattle.cal_signal.specs.declared.shown.Shown.{Shown}
use Rattle.cal_policy.specs.declared.history.entry.PassEntry.{PassEntry}
use Rattle.cal_policy.specs.declared.history.look.Seen.{Seen}
use Rattle.cal_policy.specs.declared.history.look.Seen.TheVariants.{Whole, Busy, Ahead, Foreign}
use Rattle.cal_policy.specs.History.{looks_of}
use Rattle.cal_policy.specs.History.Looks.{kept_by, last_shown, record_to_keep, shown_by, shown_at, to_keep_at}
use Rattle.cal_policy.specs.History.Lists.{last_after}
use Rattle.cal_signal.specs.Records.{zero_record}
use Rattle.cal_signal.specs.Shown.{nothing_shown}
use Rattle.cal_policy.specs.Judgement.Settled.{seen_again}
use Rattle.cal_policy.proofs.HistoryLemmas.OneMore.{kept_push, shown_push}
use Rattle.cal_idle.proofs.Leaving.{looks_push}
use Rattle.cal_idle.specs.Idle.{TellsNothingNew}
use Rattle.cal_idle.specs.AtSight.{SameLooksAreIdle, IsTaken, AreAllTaken, RecordsOnceMoreAreIdle}

-- ---- the looks of the pass before ----

-- what a look gives is what is said last, where it was the last to say it
again : {X Y : Type 0} (f : X → Option Y) (o : Option X) (x : X) (old : Y) → o ≡ Some x → IfSome (f x) (λ y. y ≡ unwrap_or (option_and_then f o) old)
again f o x old e = subst (λ o. IfSome (f x) (λ y. y ≡ unwrap_or (option_and_then f o) old)) (sym e) (itself (f x) old)
  where
    itself : {Y : Type 0} (o : Option Y) (old : Y) → IfSome o (λ y. y ≡ unwrap_or o old)
    itself None old = tt
    itself (Some y) old = refl

tells_nothing : (looks : List (List Seen)) (last : List Seen) (k : ℕ) (seen : Seen) → slice_get last k ≡ Some seen → TellsNothingNew (looks ++ last ∷ []) k seen
tells_nothing looks last k seen at = record {
  shown = subst (λ (old : Shown). IfSome (shown_by seen) (λ shown. shown ≡ old)) (sym (shown_push looks last k)) (again shown_by (slice_get last k) seen (last_shown looks k) at);
  kept = subst (λ (old : Record). IfSome (record_to_keep seen) (λ rec. rec ≡ old)) (sym (kept_push looks last k)) (again record_to_keep (slice_get last k) seen (kept_by looks k) at);
}

pub same_looks : SameLooksAreIdle
same_looks before entry once = record {
  nothing_done = once.nothing_done;
  nothing_new = λ k seen at.
      let there : looks_of before ≡ looks_of once.earlier ++ once.last.input.seen ∷ [] = ap looks_of once.after ∙ looks_push once.earlier once.last in
      subst (λ (looks : List (List Seen)). TellsNothingNew looks k seen) (sym there)
      (tells_nothing (looks_of once.earlier) once.last.input.seen k seen (ap (λ l. slice_get l k) (sym once.looks) ∙ at));
}

-- ---- the records that were shown last ----

or_map : {X Y : Type 0} (h : X → Y) (a b : Option X) → option_or (option_map h a) (option_map h b) ≡ option_map h (option_or a b)
or_map h None b = refl
or_map h (Some x) b = refl

abbrev rec_of : Option Shown → Option Record
rec_of o = option_map (λ (shown : Shown). shown.rec) o

-- a pass's look at a thread lets be kept what it carried
kept_at : (o : Option Seen) → ((seen : Seen) → o ≡ Some seen → IsTaken seen) → option_and_then record_to_keep o ≡ rec_of (option_and_then shown_by o)
kept_at None taken = refl
kept_at (Some seen) taken = taken seen refl

taken_last : (k : ℕ) (before : List (List Seen)) (history : List PassEntry) →
    ((p : ℕ) (entry : PassEntry) → slice_get history p ≡ Some entry → (j : ℕ) (seen : Seen) → slice_get entry.input.seen j ≡ Some seen → IsTaken seen) →
    last_after (λ before seen. to_keep_at seen k) before (looks_of history) ≡ rec_of (last_after (λ before seen. shown_at seen k) before (looks_of history))
taken_last k before [] each = refl
taken_last k before (entry ∷ history) each =
    let later = taken_last k (before ++ entry.input.seen ∷ []) history (λ p other at. each (suc p) other at) in
    let own = kept_at (slice_get entry.input.seen k) (λ seen at. each zero entry refl k seen at) in
    (λ i. option_or (later i) (own i))
    ∙ or_map (λ (shown : Shown). shown.rec) (last_after (λ before seen. shown_at seen k) (before ++ entry.input.seen ∷ []) (looks_of history)) (shown_at entry.input.seen k)

or_zero : (o : Option Shown) → unwrap_or (rec_of o) zero_record ≡ (unwrap_or o nothing_shown).rec
or_zero None = refl
or_zero (Some shown) = refl

-- where each was taken, what is kept is what was shown last
settled : (history : List PassEntry) (k : ℕ) → AreAllTaken history → kept_by (looks_of history) k ≡ (last_shown (looks_of history) k).rec
settled history k all = ap (λ o. unwrap_or o zero_record) (taken_last k [] history all.taken) ∙ or_zero (last_after (λ before seen. shown_at seen k) [] (looks_of history))

-- a look without a record lets none be kept
none_kept : (seen : Seen) → shown_by seen ≡ None → record_to_keep seen ≡ None
none_kept (Busy one two) e = refl
none_kept (Whole number rec) e = cc
none_kept (Ahead number rec) e = cc
none_kept (Foreign number rec) e = cc

pub once_more : RecordsOnceMoreAreIdle
once_more before entry all shows = record {
  nothing_done = shows.nothing_done;
  nothing_new = λ k seen at. told k seen (shows.nothing_else k seen at);
}
  where
    told : (k : ℕ) (seen : Seen) → (shown_by seen ≡ None) ⊎ (seen ≡ seen_again (last_shown (looks_of before) k)) → TellsNothingNew (looks_of before) k seen
    told k seen (inl none) = record {
      shown = subst (λ (o : Option Shown). IfSome o (λ shown. shown ≡ last_shown (looks_of before) k)) (sym none) tt;
      kept = subst (λ (o : Option Record). IfSome o (λ rec. rec ≡ kept_by (looks_of before) k)) (sym (none_kept seen none)) tt;
    }
    told k seen (inr once) = subst (λ (s : Seen). TellsNothingNew (looks_of before) k s) (sym once) (record { shown = refl; kept = sym (settled before k all) })
