use Rattle.cal_trace.proofs.Common.{◌≡◌, ◌<◌, ◌∙◌, ℕ, Ok, List, get_or, sym, ap, refl, length, [], get_or_default, fields_of, nothing_shown, Shown, SignalPass, SignalReading, SoFar, passes_of, next_thread, last_shown, looks_in, so_far, HasPlaces, KeepsSignals, Version}
use Rattle.cal_trace.proofs.SignalLemmas.LastShown.{next_below}
use Rattle.cal_trace.proofs.SignalLemmas.NextLook.{takes-look, keeps-look}
use Rattle.cal_trace.proofs.signals.reading.SignalReading.take_look.Goals as goal

pub index-requires : goal.index-requires
index-requires c = rw c.requires (next_below c.args.self.now.threads c.in_ok-thread.thread (so_far [] c.args.self.now).at_hand (sym c.in_ok-thread.ensures))

-- what a thread showed last is at its place
last_at : (given : List SignalPass) (old : SignalReading) (k : ℕ) (last : Shown) → HasPlaces old → KeepsSignals given old → next_thread looks_in old.threads (so_far given old).at_hand ≡ Ok k
    → last ≡ get_or old.shown.items k last → (k < length old.shown.items) × (last ≡ last_shown k (passes_of (so_far given old)))
last_at given old k last places kept next is =
    let below = next_below old.threads k (so_far given old).at_hand next in
    let within : k < length old.shown.items = rw (← places, old.shown.ok.0) at below in
    (within, is ∙ get_or_default old.shown.items k last nothing_shown within ∙ kept.shown k below)

pub returns-then-not-may_follow-clause-takes : goal.returns-then-not-may_follow-clause-takes
returns-then-not-may_follow-clause-takes c = λ given kept.
    let old = c.args.self.now in
    let k = c.in_ok-thread.thread in
    let at = last_at given old k c.index.result.now c.requires kept (sym c.in_ok-thread.ensures) c.index.ensures in
    let e = takes-look (so_far given old) old.threads k c.args.look c.in_ok-found.found (fields_of c.args.row.now) c.index.result.now (sym c.in_ok-thread.ensures) (sym c.in_ok-found.ensures) at.1 in
    e ∙ rw (← c.shown_with-shown.ensures, ← c.may_follow.ensures.test, c.if-not-may_follow.true) refl

pub returns-clause-takes : goal.returns-clause-takes
returns-clause-takes c = λ given kept.
    let old = c.args.self.now in
    let k = c.in_ok-thread.thread in
    let at = last_at given old k c.index.result.now c.requires kept (sym c.in_ok-thread.ensures) c.index.ensures in
    let e = takes-look (so_far given old) old.threads k c.args.look c.in_ok-found.found (fields_of c.args.row.now) c.index.result.now (sym c.in_ok-thread.ensures) (sym c.in_ok-found.ensures) at.1 in
    e ∙ rw (← c.shown_with-shown.ensures, ← c.may_follow.ensures.test, c.if-not-may_follow.false, c.in_ok-add_look.ensures.added given) refl

pub returns-clause-kept : goal.returns-clause-kept
returns-clause-kept c = λ given kept.
    let old = c.args.self.now in
    let k = c.in_ok-thread.thread in
    let same = ap (λ (f : ℕ × Version). f.0) c.add_look.ensures.file in
    let at = last_at given old k c.index.result.now c.requires kept (sym c.in_ok-thread.ensures) c.index.ensures in
    record {
      counted = c.in_ok-add_look.ensures.counted given kept.counted;
      shown = λ j lt. rw (c.add_look.ensures.shown, c.shown_with-shown.ensures)
          (keeps-look (so_far given old) old.threads k j c.in_ok-found.found c.index.result.now old.shown.items (sym c.in_ok-thread.ensures) at.1 at.0 (kept.shown j (rw same at lt))
          ∙ ap (λ (s : SoFar SignalPass). last_shown j (passes_of s)) (sym (c.in_ok-add_look.ensures.added given)));
    }
