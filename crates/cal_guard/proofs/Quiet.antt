-- After a permitted history a kept record is judged Whole wherever it is found.
use Rattle.cal_guard.proofs.Common.{◌≡◌, ◌≢◌, ℕ, ◌+◌, ◌-◌, ◌<◌, ◌≤◌, Bool, true, false, eqb, leb, ltb, List, [], ◌∷◌, ◌++◌, length, take, Some, refl, sym, ap, subst, ◌∙◌, arith, ⊎_elim, unwrap_or, option_and_then, take-length, and_from, le-leb, nat_tests, nil_from_length, slice_get_cases, Table, Action, PassEntry, Seen, Whole, Holder, placement_of, actions_of, looks_of, holder_of, sent_to, kept_now, kept_push, shown_push, Point, actions_at, IsPermittedPoint, PermittedIsOrderly, KeptRecordsAreTrue, KeptThreadsAreOnCore, IsPermittedHistory}
use Rattle.std.proofs.Common.{eq-eqb}
use Rattle.cal_signal.specs.declared.record.Record.{Record}
use Rattle.cal_signal.specs.declared.shown.Shown.{Shown}
use Rattle.cal_signal.specs.declared.look.Look.TheVariants as found
use Rattle.cal_policy.specs.declared.board.holders.Holder.TheVariants as holders
use Rattle.cal_policy.specs.declared.board.holders.Placement as placements
use Rattle.cal_policy.specs.History.Looks.{kept_by, last_shown, record_to_keep}
use Rattle.cal_policy.specs.Judgement.Judging.{judged, is_foreign, is_acknowledged_by}
use Rattle.cal_laws.specs.Ends.{end_of}
use Rattle.cal_laws.specs.Kept.{IsOnItsCore}
use Rattle.cal_laws.specs.Point.{setting_at}
use Rattle.cal_laws.proofs.KeptLemmas.Truth.{looks_more}
use Rattle.cal_laws.proofs.PointLemmas.EndPoints.{is_end}
use Rattle.cal_guard.specs.Settled.{PermittedSettledIsNoNews}
use Rattle.cal_guard.proofs.GoneLemmas.{last_is_shaped}

-- the record acknowledges no more than was sent, and a core that it shows the thread has
record IsTrueOf (table : Table) (x : List Action) (k : ℕ) (rec : Record) : Type 0 where
  pub sent : rec.taken ≤ sent_to x k
  pub own : rec.running ≢ 0 → IsOnItsCore table x k rec

acknowledges : (k : ℕ) (rec : Record) (h : Holder) (p : placements.Placement) → placement_of h ≡ Some p → p.thread ≡ k → p.number ≤ rec.taken → is_acknowledged_by k rec h ≡ true
acknowledges k rec holders.Free p is thread le = cc
acknowledges k rec (holders.Held q) p is thread le =
    let same : q ≡ p = ap (λ o. unwrap_or o q) is in
    let t : q.thread ≡ k = ap (λ (o : placements.Placement). o.thread) same ∙ thread in
    let n : q.number ≡ p.number = ap (λ (o : placements.Placement). o.number) same in
    and_from (eqb q.thread k) (leb q.number rec.taken) (eq-eqb q.thread k t) (le-leb q.number rec.taken (omega (arith, n, le)))
acknowledges k rec (holders.Leaving q cause) p is thread le =
    let same : q ≡ p = ap (λ o. unwrap_or o q) is in
    let t : q.thread ≡ k = ap (λ (o : placements.Placement). o.thread) same ∙ thread in
    let n : q.number ≡ p.number = ap (λ (o : placements.Placement). o.number) same in
    and_from (eqb q.thread k) (leb q.number rec.taken) (eq-eqb q.thread k t) (le-leb q.number rec.taken (omega (arith, n, le)))

not_foreign : (table : Table) (x : List Action) (k : ℕ) (rec : Record) → IsTrueOf table x k rec → is_foreign table.cores x k rec ≡ false
not_foreign table x k rec is = go (eqb rec.running 0) refl
  where
    go : (b : Bool) → eqb rec.running 0 ≡ b → is_foreign table.cores x k rec ≡ false
    go true off = rw off refl
    go false on =
        let shows : rec.running ≢ 0 = λ e. (let bad : true ≡ false = sym (eq-eqb rec.running 0 e) ∙ on in cc) in
        let there = is.own shows in
        let low : leb rec.running table.cores ≡ true = le-leb rec.running table.cores there.low in
        let ack : is_acknowledged_by k rec (holder_of x (rec.running - 1)) ≡ true = acknowledges k rec (holder_of x (rec.running - 1)) there.place there.there there.thread there.acknowledged in
        rw (on, low, ack) refl

whole : (table : Table) (x : List Action) (k number : ℕ) (rec : Record) → IsTrueOf table x k rec → judged table.cores x k (found.Whole number rec) ≡ Whole number rec
whole table x k number rec is =
    let least : rec.taken ≤ sent_to x k = is.sent in
    let ahead : ltb (sent_to x k) rec.taken ≡ false = grind (arith, nat_tests) in
    rw (ahead, not_foreign table x k rec is) refl

-- at the end of a permitted history each kept record is true
kept_is_true : KeptRecordsAreTrue → KeptThreadsAreOnCore → (table : Table) (h : List PassEntry) (k : ℕ) → IsPermittedHistory table h → IsTrueOf table (actions_of h) k (kept_by (looks_of h) k)
kept_is_true records threads table h k permitted = ⊎_elim
    (λ there.
    let entry = there.0 in
    let some : 0 < length h = let lt = there.1 in omega (arith, lt) in
    let p : ℕ = length h - 1 in
    let last : p + 1 ≡ length h = omega (arith, some) in
    let here : Point = end_of table h entry in
    let at : IsPermittedPoint here = record { permitted = permitted; entry = there.2; made = omega arith } in
    let looks : looks_of h ≡ looks_of (take p h) ++ entry.input.seen ∷ [] = sym (ap looks_of (ap (λ n. take n h) last ∙ take-length h)) ∙ looks_more h p entry there.2 in
    let acts : actions_at here ≡ actions_of h = (is_end table h entry some there.2).all in
    let P : List Action → Type 0 = λ x. IsTrueOf table x k (kept_now (setting_at here) k) in
    let Q : List (List Seen) → Type 0 = λ l. IsTrueOf table (actions_of h) k (kept_by l k) in
    subst Q (sym looks) (subst P acts (record { sent = (records here at k).sent; own = threads here at k })))
    (λ past.
    let none : h ≡ [] = nil_from_length h (let no = past.0 in omega (arith, no)) in
    let R : List PassEntry → Type 0 = λ l. IsTrueOf table (actions_of l) k (kept_by (looks_of l) k) in
    subst R (sym none) (record { sent = omega arith; own = λ on. absurd (on refl) }))
    (slice_get_cases h (length h - 1)).1

pub settled_is_no_news : PermittedIsOrderly → KeptRecordsAreTrue → KeptThreadsAreOnCore → PermittedSettledIsNoNews
settled_is_no_news orderly records threads table h permitted k settled =
    let looks = looks_of h in
    let last : Shown = last_shown looks k in
    let shape = last_is_shaped table h k (orderly table h permitted) in
    record {
      fits = (shape, record { not_below = omega arith; same = λ e. refl; later = λ lt. absurd (omega (arith, lt)) });
      whole = (let P : Record → Type 0 = λ rec. judged table.cores (actions_of h) k (found.Whole last.number rec) ≡ Whole last.number rec in
          subst P settled (whole table (actions_of h) k last.number (kept_by looks k) (kept_is_true records threads table h k permitted)));
      kept = λ seen at. kept_push looks seen k ∙ ap (λ o. unwrap_or (option_and_then record_to_keep o) (kept_by looks k)) at ∙ sym settled;
      shown = λ seen at. shown_push looks seen k ∙ rw at refl;
    }
