-- What one more event makes of each projection.
use Rattle.cal_linear.proofs.Common.{◌≡◌, ℕ, List, [], ◌∷◌, ◌++◌, sym, ap, subst, ◌∙◌, append_assoc, append-nil, option_to_list, filter_map, Table, Policy, last_from, filter_map-push, Entry, Seen, Event, entry_in, history_in, watch_in, watches_in}
use Rattle.cal_linear.proofs.Along.{adds_to, journal_after, journal_along, place_of_read, floor_along, looks_with, looks_after, looks_along}
use Rattle.cal_linear.proofs.LegalAlong.{IsAllowedAlong, AllowedAfter, IsLegalAlong}

pub history_push : (es : List Event) (e : Event) → history_in (es ++ e ∷ []) ≡ history_in es ++ option_to_list (entry_in e)
history_push es e = filter_map-push entry_in es e

pub watches_push : (es : List Event) (e : Event) → watches_in (es ++ e ∷ []) ≡ watches_in es ++ option_to_list (watch_in e)
watches_push es e = filter_map-push watch_in es e

journal_after_push : (k : ℕ) (own : List Entry) (before es : List Event) (e : Event) →
    journal_after k own before (es ++ e ∷ []) ≡ journal_after k own before es ++ adds_to k (journal_after k own before es) (history_in (before ++ es)) e
journal_after_push k own before [] e = ap (λ b. own ++ adds_to k own (history_in b) e) (sym (append-nil before))
journal_after_push k own before (x ∷ es) e =
    let next : List Entry = own ++ adds_to k own (history_in before) x in
    journal_after_push k next (before ++ x ∷ []) es e
    ∙ ap (λ b. journal_after k next (before ++ x ∷ []) es ++ adds_to k (journal_after k next (before ++ x ∷ []) es) (history_in b) e) (append_assoc before (x ∷ []) es)

pub journal_push : (k : ℕ) (es : List Event) (e : Event) → journal_along (es ++ e ∷ []) k ≡ journal_along es k ++ adds_to k (journal_along es k) (history_in es) e
journal_push k es e = journal_after_push k [] [] es e

looks_after_push : (looks : List Seen) (before es : List Event) (e : Event) → looks_after looks before (es ++ e ∷ []) ≡ looks_with (looks_after looks before es) (before ++ es) e
looks_after_push looks before [] e = ap (λ b. looks_with looks b e) (sym (append-nil before))
looks_after_push looks before (x ∷ es) e =
    let next : List Seen = looks_with looks before x in
    looks_after_push next (before ++ x ∷ []) es e
    ∙ ap (λ b. looks_with (looks_after next (before ++ x ∷ []) es) b e) (append_assoc before (x ∷ []) es)

pub looks_push : (es : List Event) (e : Event) → looks_along (es ++ e ∷ []) ≡ looks_with (looks_along es) es e
looks_push es e = looks_after_push [] [] es e

pub floor_push : (j : ℕ) (es : List Event) (e : Event) → floor_along (es ++ e ∷ []) j ≡ last_from 0 (filter_map (place_of_read j) es ++ option_to_list (place_of_read j e))
floor_push j es e = ap (λ l. last_from 0 l) (filter_map-push (place_of_read j) es e)

allowed_push : (policy : Policy) (table : Table) (before es : List Event) (e : Event) → AllowedAfter policy table before es → IsAllowedAlong policy table (before ++ es) e → AllowedAfter policy table before (es ++ e ∷ [])
allowed_push policy table before [] e _ may = (subst (λ b. IsAllowedAlong policy table b e) (append-nil before) may, tt)
allowed_push policy table before (x ∷ es) e each may = (each.0, allowed_push policy table (before ++ x ∷ []) es e each.1 (subst (λ b. IsAllowedAlong policy table b e) (sym (append_assoc before (x ∷ []) es)) may))

pub legal_push : (policy : Policy) (table : Table) (es : List Event) (e : Event) → IsLegalAlong policy table es → IsAllowedAlong policy table es e → IsLegalAlong policy table (es ++ e ∷ [])
legal_push policy table es e legal may = allowed_push policy table [] es e legal may
