-- Pages and floors only grow.
use Rattle.cal_world.proofs.Common.{◌≡◌, ℕ, ◌<◌, ◌≤◌, ◌⊎◌, List, [], ◌∷◌, ◌++◌, length, length-append, slice_index_or, inl, inr, refl, ap, ◌∙◌, arith, subst, cases_eq, get_or_append_left, filter_map-append, Table, Record, zero_record, page_of, each_of_push, records_of, record_in, Event, Take, Yield, Publish, Read, Skip, Decide, Watch, NoSuchPlace, entries_for, journal_in, published_by, read_floor, record_at, IsSafeEvent}
use Rattle.cal_world.proofs.ScheduleLemmas.SinceDecide.{floor_same, floor_other, floor_here}

-- an event adds to what a thread published, or nothing
pub published_more : (before : List Event) (event : Event) (k : ℕ) →
    published_by (before ++ event ∷ []) k ≡ published_by before k ++ records_of (entries_for k before event)
published_more before event k = ap records_of (each_of_push (entries_for k) before event) ∙ filter_map-append record_in (journal_in before k) (entries_for k before event)

-- of thread k: its floor is not below what it was, it is a place of the page, and the places that
-- were are as they were
pub record Grows (before after : List Event) (k : ℕ) : Type 0 where
  pub floor : read_floor before k ≤ read_floor after k
  pub within : read_floor after k ≤ length (published_by after k)
  pub same : (i : ℕ) → i ≤ length (published_by before k) → record_at after k i ≡ record_at before k i

page_grows : (before : List Event) (event : Event) (k i : ℕ) → i ≤ length (published_by before k) → record_at (before ++ event ∷ []) k i ≡ record_at before k i
page_grows before event k i low =
    let new : List Record = records_of (entries_for k before event) in
    ap (λ rs. slice_index_or (page_of rs) i zero_record) (published_more before event k) ∙ get_or_append_left (page_of (published_by before k)) new zero_record i (omega arith)

longer : (before : List Event) (event : Event) (k : ℕ) → length (published_by before k) ≤ length (published_by (before ++ event ∷ []) k)
longer before event k =
    let n = ap length (published_more before event k) in
    let m = length-append (published_by before k) (records_of (entries_for k before event)) in omega arith

still : (before : List Event) (event : Event) (k : ℕ) → read_floor (before ++ event ∷ []) k ≡ read_floor before k → read_floor before k ≤ length (published_by before k) →
    Grows before (before ++ event ∷ []) k
still before event k e within =
    let more = longer before event k in record {
      floor = omega arith;
      within = omega arith;
      same = page_grows before event k;
    }

read_grows : (before : List Event) (thread number k : ℕ) → read_floor before thread ≤ number → number < length (page_of (published_by before thread)) →
    (thread ≡ k) ⊎ (thread ≡ k → ⊥) → read_floor before k ≤ length (published_by before k) → Grows before (before ++ Read thread number ∷ []) k
read_grows before thread number k low inside (inr off) within = still before (Read thread number) k (floor_other before thread number k off) within
read_grows before thread number k low inside (inl same) within =
    let P : ℕ → Type 0 = λ k. Grows before (before ++ Read thread number ∷ []) k in
    let here = floor_here before thread number in
    let more = longer before (Read thread number) thread in
    subst P same (record {
      floor = omega arith;
      within = omega arith;
      same = page_grows before (Read thread number) thread;
    })

pub grows : (table : Table) (before : List Event) (event : Event) → IsSafeEvent table before event → (k : ℕ) → read_floor before k ≤ length (published_by before k) → Grows before (before ++ event ∷ []) k
grows table before (Take thread) allowed k within = still before (Take thread) k (floor_same before (Take thread) k refl) within
grows table before (Yield thread) allowed k within = still before (Yield thread) k (floor_same before (Yield thread) k refl) within
grows table before (Publish thread rec) allowed k within = still before (Publish thread rec) k (floor_same before (Publish thread rec) k refl) within
grows table before (Skip thread seen) allowed k within = still before (Skip thread seen) k (floor_same before (Skip thread seen) k refl) within
grows table before (Decide entry) allowed k within = still before (Decide entry) k (floor_same before (Decide entry) k refl) within
grows table before (Watch thread number) allowed k within = still before (Watch thread number) k (floor_same before (Watch thread number) k refl) within
grows table before (Read thread number) allowed k within =
    let place = allowed NoSuchPlace in read_grows before thread number k place.0 place.1 (cases_eq thread k) within
