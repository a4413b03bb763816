-- What a kept record says was so when it was kept.
use Rattle.cal_laws.proofs.Common.{◌≡◌, ◌≢◌, ℕ, ◌+◌, ◌-◌, ◌<◌, ◌≤◌, zero, suc, Bool, true, false, ◌&&◌, not, cond, eqb, leb, ltb, List, [], ◌∷◌, ◌++◌, length, take, Option, Some, None, refl, sym, ap, ◌∙◌, arith, subst, ⊎_elim, slice_get, unwrap_or, option_and_then, and_parts, ltb-false, leb-true, eqb-true, nat_tests, map-append, slice_get_cases, slice_get_within, Table, Record, Action, PassEntry, Seen, Holder, actions_of, looks_of, holder_of, sent_to, placement_of, kept_by, record_to_keep, kept_now, LookIsOneMore, Point, setting_at, made_at, IsSafeHistory, IsSafePoint, take_next}
use Rattle.cal_policy.specs.declared.history.look.Seen.TheVariants.{Whole, Busy, Ahead, Foreign}
use Rattle.cal_policy.specs.declared.board.holders.Holder.TheVariants as holders
use Rattle.cal_policy.specs.Judgement.Judging.{IsInput, is_acknowledged_by, is_foreign}
use Rattle.cal_policy.proofs.HistoryLemmas.OneMore.{sent_grows}
use Rattle.cal_laws.specs.Kept.{IsOnItsCore, WasKeptOnCore, IsTrueRecord}
use Rattle.cal_laws.proofs.PointLemmas.EachAction.{actions_more}

-- what is known of a record that the looks before pass n let be kept
pub record IsTrueBefore (table : Table) (history : List PassEntry) (k n : ℕ) (rec : Record) : Type 0 where
  pub sent : rec.taken ≤ sent_to (actions_of (take n history)) k
  pub shown : rec.running ≢ 0 → (pass : ℕ) × (pass < n) × WasKeptOnCore table history k rec pass

on_core : (table : Table) (x : List Action) (k : ℕ) (rec : Record) (h : Holder) → rec.running ≤ table.cores → placement_of (holder_of x (rec.running - 1)) ≡ placement_of h →
    is_acknowledged_by k rec h ≡ true → IsOnItsCore table x k rec
on_core table x k rec holders.Free low e is = cc
on_core table x k rec (holders.Held p) low e is =
    let both = and_parts (eqb p.thread k) (leb p.number rec.taken) is in
    record { low = low; place = p; there = e; thread = eqb-true _ _ both.0; acknowledged = leb-true _ _ both.1 }
on_core table x k rec (holders.Leaving p cause) low e is =
    let both = and_parts (eqb p.thread k) (leb p.number rec.taken) is in
    record { low = low; place = p; there = e; thread = eqb-true _ _ both.0; acknowledged = leb-true _ _ both.1 }

not_foreign : (a b : Bool) → (not a && not b) ≡ false → a ≡ false → b ≡ true
not_foreign true b e f = cc
not_foreign false true e f = refl
not_foreign false false e f = cc

native : (table : Table) (x : List Action) (k : ℕ) (rec : Record) → is_foreign table.cores x k rec ≡ false → rec.running ≢ 0 → IsOnItsCore table x k rec
native table x k rec e on =
    let some : eqb rec.running 0 ≡ false = grind (arith, nat_tests) in
    let h = holder_of x (rec.running - 1) in
    let both = and_parts (leb rec.running table.cores) (is_acknowledged_by k rec h)
    (not_foreign (eqb rec.running 0) (leb rec.running table.cores && is_acknowledged_by k rec h) e some) in
    on_core table x k rec h (leb-true _ _ both.0) refl both.1

-- a look that was judged Whole was neither ahead nor foreign
whole_is : (number : ℕ) (rec : Record) (ahead foreign : Bool) → Whole number rec ≡ cond ahead (Ahead number rec) (cond foreign (Foreign number rec) (Whole number rec)) →
    (ahead ≡ false) × (foreign ≡ false)
whole_is number rec true foreign e = cc
whole_is number rec false true e = cc
whole_is number rec false false e = (refl, refl)

-- the record of a Whole look
pub fresh : (table : Table) (history : List PassEntry) (k n : ℕ) (entry : PassEntry) (number : ℕ) (rec : Record) → slice_get history n ≡ Some entry → IsInput table (take n history) entry.input →
    slice_get entry.input.seen k ≡ Some (Whole number rec) → (rec.taken ≤ sent_to (actions_of (take n history)) k) × (rec.running ≢ 0 → WasKeptOnCore table history k rec n)
fresh table history k n entry number rec e pass is =
    let x = actions_of (take n history) in
    let both = whole_is number rec (ltb (sent_to x k) rec.taken) (is_foreign table.cores x k rec) (pass.as_judged k (Whole number rec) is) in
    (ltb-false _ _ both.0, λ on. record { entry = entry; is_pass = e; number = number; whole = is; on_core = native table x k rec both.1 on })

-- after the looks of pass n
pub record IsTrueIn (table : Table) (history : List PassEntry) (k n : ℕ) (rec : Record) : Type 0 where
  pub sent : rec.taken ≤ sent_to (actions_of (take n history)) k
  pub shown : rec.running ≢ 0 → (pass : ℕ) × (pass < n + 1) × WasKeptOnCore table history k rec pass

still : (table : Table) (history : List PassEntry) (k n : ℕ) (rec : Record) → IsTrueBefore table history k n rec → IsTrueIn table history k n rec
still table history k n rec was = record {
  sent = was.sent;
  shown = λ on. let shown = was.shown on in let before = shown.1 in (shown.0, omega (arith, before), shown.2);
}

looked : (table : Table) (history : List PassEntry) (k n : ℕ) (entry : PassEntry) (old : Record) → slice_get history n ≡ Some entry → IsInput table (take n history) entry.input →
    IsTrueBefore table history k n old → (o : Option Seen) → slice_get entry.input.seen k ≡ o → IsTrueIn table history k n (unwrap_or (option_and_then record_to_keep o) old)
looked table history k n entry old e pass was None is = still table history k n old was
looked table history k n entry old e pass was (Some (Busy first second)) is = still table history k n old was
looked table history k n entry old e pass was (Some (Ahead number rec)) is = still table history k n old was
looked table history k n entry old e pass was (Some (Foreign number rec)) is = still table history k n old was
looked table history k n entry old e pass was (Some (Whole number rec)) is =
    let new = fresh table history k n entry number rec e pass is in
    record { sent = new.0; shown = λ on. (n, omega arith, new.1 on) }

true_in : LookIsOneMore → (table : Table) (history : List PassEntry) (k n : ℕ) (entry : PassEntry) → slice_get history n ≡ Some entry → IsInput table (take n history) entry.input →
    IsTrueBefore table history k n (kept_by (looks_of (take n history)) k) → IsTrueIn table history k n (kept_by (looks_of (take n history) ++ entry.input.seen ∷ []) k)
true_in one table history k n entry e pass was =
    subst (IsTrueIn table history k n) (sym (one (looks_of (take n history)) entry.input.seen k))
    (looked table history k n entry (kept_by (looks_of (take n history)) k) e pass was (slice_get entry.input.seen k) refl)

pub looks_more : (history : List PassEntry) (n : ℕ) (entry : PassEntry) → slice_get history n ≡ Some entry → looks_of (take (n + 1) history) ≡ looks_of (take n history) ++ entry.input.seen ∷ []
looks_more history n entry e = ap looks_of (take_next history n entry e) ∙ map-append (λ (entry : PassEntry). entry.input.seen) (take n history) (entry ∷ [])

on_to_next : LookIsOneMore → (table : Table) (history : List PassEntry) (k n : ℕ) (entry : PassEntry) → slice_get history n ≡ Some entry → IsInput table (take n history) entry.input →
    IsTrueBefore table history k n (kept_by (looks_of (take n history)) k) → IsTrueBefore table history k (n + 1) (kept_by (looks_of (take (n + 1) history)) k)
on_to_next one table history k n entry e pass was =
    let now = true_in one table history k n entry e pass was in
    let grown = sent_grows (actions_of (take n history)) entry.actions k in
    let same = ap (λ l. sent_to l k) (actions_more history n entry e) in
    let P : Record → Type 0 = λ rec. IsTrueBefore table history k (n + 1) rec in
    subst P (sym (ap (λ l. kept_by l k) (looks_more history n entry e))) (record { sent = (let said = now.sent in omega (arith, said, grown, same)); shown = now.shown })

true_before : LookIsOneMore → (table : Table) (history : List PassEntry) → IsSafeHistory table history → (k n : ℕ) → n ≤ length history →
    IsTrueBefore table history k n (kept_by (looks_of (take n history)) k)
true_before one table history safe k zero le = record { sent = omega arith; shown = λ on. absurd (on refl) }
true_before one table history safe k (suc n) le = ⊎_elim
    (λ found.
    let next : suc n ≡ n + 1 = omega arith in
    let P : ℕ → Type 0 = λ m. IsTrueBefore table history k m (kept_by (looks_of (take m history)) k) in
    subst P (sym next) (on_to_next one table history k n found.0 found.2 (safe.inputs n found.0 found.2) (true_before one table history safe k n (omega arith))))
    (λ past. absurd (let no = past.0 in omega arith))
    (slice_get_cases history n).1

-- each kept record is true at each point
pub true_at : LookIsOneMore → (here : Point) → IsSafePoint here → (k : ℕ) → IsTrueRecord here k (kept_now (setting_at here) k)
true_at one here is k =
    let within = slice_get_within here.history here.pass here.entry is.entry in
    let now = true_in one here.table here.history k here.pass here.entry is.entry (is.history.inputs here.pass here.entry is.entry)
    (true_before one here.table here.history is.history k here.pass (omega (arith, within))) in
    let said = now.sent in
    let grown = sent_grows (actions_of (take here.pass here.history)) (made_at here) k in
    record {
      sent = omega (arith, said, grown);
      shown = λ on. let shown = now.shown on in let before = shown.1 in (shown.0, omega (arith, before), shown.2);
    }
