-- One more look.
use Rattle.cal_trace.proofs.Common.{◌≡◌, ◌<◌, ◌∙◌, ℕ, Ok, refl, sym, ap, get_or, slice_set, length, inl, inr, List, eqb_tells, get_or-set_other, get_or-set_same, Fields, nothing_shown, is_shown_after, check, look_row, SignalPass, SoFar, passes_of, with_more, add_look, take_look, next_thread, last_shown, next_look, shown_by, looks_in, with_look, LookForm, Shown, FoundLook}
use Rattle.std.specs.Option.{unwrap_or}
use Rattle.cal_trace.specs.declared.fault.FaultKind.TheVariants as kind
use Rattle.cal_trace.proofs.SignalLemmas.LastShown.{kept-own, kept-other}

-- what a look row says, by what its thread showed last
pub takes-look : (so_far : SoFar SignalPass) (threads thread : ℕ) (form : LookForm) (found : FoundLook) (fields : Fields) (last : Shown)
    → next_thread looks_in threads so_far.at_hand ≡ Ok thread → look_row form thread fields ≡ Ok found → last ≡ last_shown thread (passes_of so_far)
    → take_look with_look (next_look so_far form fields) so_far (next_thread looks_in threads so_far.at_hand)
    ≡ add_look with_look so_far (check (is_shown_after last (unwrap_or (shown_by found.look) last)) kind.Backwards (Ok found))
takes-look so_far threads thread form found fields last h1 h2 h3 = rw (h1, h2, h3) refl

-- what each thread showed last, after a look
pub keeps-look : (so_far : SoFar SignalPass) (threads thread k : ℕ) (seen : FoundLook) (last : Shown) (list : List Shown) → next_thread looks_in threads so_far.at_hand ≡ Ok thread
    → last ≡ last_shown thread (passes_of so_far) → thread < length list → get_or list k nothing_shown ≡ last_shown k (passes_of so_far)
    → get_or (slice_set list thread (unwrap_or (shown_by seen.look) last)) k nothing_shown ≡ last_shown k (passes_of (with_more (with_look seen) so_far))
keeps-look so_far threads thread k seen last list h is within e =
    let shown = unwrap_or (shown_by seen.look) last in
    elim (eqb_tells k thread) [
      | inl same ↦ rw same.1 (get_or-set_same list thread shown nothing_shown within ∙ ap (unwrap_or (shown_by seen.look)) is ∙ sym (kept-own so_far threads thread seen h))
      | inr other ↦ get_or-set_other list thread k shown nothing_shown other.1 ∙ e ∙ sym (kept-other so_far threads thread k seen h other.1)
    ]
