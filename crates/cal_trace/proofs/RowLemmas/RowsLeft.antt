-- The rows that a reader has still to give, step by step.
use Rattle.cal_trace.proofs.Common.{Bor, ◌≡◌, ◌<◌, ◌≤◌, ◌+◌, ◌-◌, ◌==◌, ◌&&◌, not, if◌then◌else◌, ℕ, zero, suc, Bool, true, false, List, [], ◌∷◌, ◌++◌, length, Option, Some, None, refl, sym, ap, ◌∙◌, arith, add-one, take, drop, Reached, ReadRecord, default_config, records, records_from, records_next, source_of, strip_bom, has_failed, is_bom, Fields, rows_from}
use Rattle.csv.specs.Machine.{Read, next_record, step, in_field, start_field, start_record, ends_with, is_end, ends_at_end, fields_after, field_after}
use Rattle.csv.specs.declared.parser.Action.{Action}
use Rattle.csv.specs.declared.parser.Action.TheVariants as act
use Rattle.csv.specs.declared.parser.Terminator.TheVariants as term
use Rattle.csv.specs.declared.parser.State.{State}
use Rattle.csv.specs.declared.parser.State.TheVariants as st
use Rattle.csv.specs.declared.reader.Reader.{Reader}
use Rattle.csv.proofs.ReadFacts.{rows-end, rows-more}

-- where a byte has ended a record, the end of the text ends no other
Quiet : State × Action → Type 0
Quiet q = is_end q.1 ≡ true → ends_at_end q.0 ≡ false

either : (b : Bool) (x y : State × Action) → Quiet x → Quiet y → Quiet (if b then x else y)
either true x y p q = p
either false x y p q = q

after : (b : Bool) → Quiet ((if b then st.AfterCr else st.StartRecord), act.EndRecord)
unfolding Quiet
after true h = refl
after false h = refl

goes : (s : State) (a : Action) → is_end a ≡ false → Quiet (s, a)
unfolding Quiet
goes s a e h = cc

field : (c : ℕ) → Quiet (in_field default_config c)
field c = either (c == 44) _ _ (goes _ _ refl) (either (ends_with term.CRLF c) _ _ (after (c == 13)) (goes _ _ refl))

first_field : (c : ℕ) → Quiet (start_field default_config c)
first_field c = either (c == 34) _ _ (goes _ _ refl) (field c)

first : (c : ℕ) → Quiet (start_record default_config c)
first c = either (ends_with term.CRLF c) _ _ (goes _ _ refl) (first_field c)

between : (s : State) (c : ℕ) → Quiet (step default_config s c)
between st.StartRecord c = first c
between st.StartField c = first_field c
between st.InField c = field c
between st.InQuoted c = either (c == 34) _ _ (goes _ _ refl) (goes _ _ refl)
between st.InEscape c = goes _ _ refl
between st.AfterQuote c = either (c == 34) _ _ (goes _ _ refl) (field c)
between st.InComment c = either (c == 10) _ _ (goes _ _ refl) (goes _ _ refl)
between st.AfterCr c = either (c == 10) _ _ (goes _ _ refl) (first c)

-- a record takes a byte at least, if there is one
record Shorter (q : Read) (xs : List ℕ) : Type 0 where
  pub state : ends_at_end q.1 ≡ false
  pub rest : length q.2 ≤ length xs - 1

at_end : (b : Bool) (fields : List (List ℕ)) (q : Read) → (if b then Some (fields, st.StartRecord, []) else None) ≡ Some q → Shorter q []
at_end true fields q e = let h : (fields, st.StartRecord, []) ≡ q = cc in rw (← h) (record { state = refl; rest = omega arith })
at_end false fields q e = cc

at_byte : (b : Bool) (s : State) (a : Action) (c : ℕ) (fields : List (List ℕ)) (xs : List ℕ) (later : Option Read) (q : Read)
    → is_end a ≡ b → Quiet (s, a) → ((later ≡ Some q) → Shorter q xs)
    → (if b then Some (fields, s, xs) else later) ≡ Some q → Shorter q (c ∷ xs)
unfolding Quiet
at_byte true s a c fields xs later q is quiet goes_on e = let h : (fields, s, xs) ≡ q = cc in rw (← h) (record { state = quiet is; rest = omega arith })
at_byte false s a c fields xs later q is quiet goes_on e = let h = goes_on e in record { state = h.state; rest = omega (arith, h.rest) }

takes_some : (s : State) (fields : List (List ℕ)) (field xs : List ℕ) (q : Read) → next_record default_config s fields field xs ≡ Some q → Shorter q xs
unfolding next_record
takes_some s fields field [] q e = at_end (ends_at_end s) _ q e
takes_some s fields field (c ∷ xs) q e = at_byte (is_end (step default_config s c).1) _ _ c _ xs _ q refl (between s c) (takes_some (step default_config s c).0 (fields_after (step default_config s c).1 fields field) (field_after (step default_config s c).1 c field) xs q) e

-- between two rows there is no next one where no byte is left
none_left : (s : State) → ends_at_end s ≡ false → next_record default_config s [] [] [] ≡ None
unfolding next_record
none_left s e = rw e refl

-- a next row leaves fewer bytes than there were
takes_one : (s : State) (xs : List ℕ) (q : Read) → ends_at_end s ≡ false → next_record default_config s [] [] xs ≡ Some q → (ends_at_end q.1 ≡ false) × (length q.2 < length xs)
takes_one s [] q e h = cc (none_left s e)
takes_one s (c ∷ xs) q e h = let t = takes_some s [] [] (c ∷ xs) q h in (t.state, omega (arith, t.rest))

-- as many turns as there are bytes and one more give all the rows
enough : (n m : ℕ) (s : State) (xs : List ℕ) → ends_at_end s ≡ false → length xs < n → length xs < m → records_from default_config n s xs ≡ records_from default_config m s xs
unfolding records_from
enough zero m s xs e p q = absurd (omega arith)
enough (suc n) zero s xs e p q = absurd (omega arith)
enough (suc n) (suc m) s xs e p q = by (next_record default_config s [] [] xs) refl (λ r. enough n m r.1 r.2)
  where
    by : (r : Option Read) → next_record default_config s [] [] xs ≡ r
        → ((r : Read) → ends_at_end r.1 ≡ false → length r.2 < n → length r.2 < m → records_from default_config n r.1 r.2 ≡ records_from default_config m r.1 r.2)
        → records_next (records_from default_config n) r ≡ records_next (records_from default_config m) r
    by None h more = refl
    by (Some r) h more =
        let t = takes_one s xs r e h in
        ap (λ (x : List Fields). r.0 ∷ x) (more r t.0 (omega (arith, t.1)) (omega (arith, t.1)))

-- no more rows than bytes
few : (n : ℕ) (s : State) (xs : List ℕ) → ends_at_end s ≡ false → length (records_from default_config n s xs) ≤ length xs
unfolding records_from
few zero s xs e = omega arith
few (suc n) s xs e = by (next_record default_config s [] [] xs) refl (λ r. few n r.1 r.2)
  where
    by : (r : Option Read) → next_record default_config s [] [] xs ≡ r
        → ((r : Read) → ends_at_end r.1 ≡ false → length (records_from default_config n r.1 r.2) ≤ length r.2)
        → length (records_next (records_from default_config n) r) ≤ length xs
    by None h more = omega arith
    by (Some r) h more =
        let t = takes_one s xs r e h in
        let rest = more r t.0 in
        omega (arith, t.1, rest)

no_longer : (text : List ℕ) → length (strip_bom text) ≤ length text
unfolding strip_bom
no_longer [] = omega arith
no_longer (a ∷ []) = omega arith
no_longer (a ∷ b ∷ []) = omega arith
no_longer (a ∷ b ∷ c ∷ rest) = by (is_bom a b c)
  where
    by : (t : Bool) → length (if t then rest else a ∷ b ∷ c ∷ rest) ≤ length (a ∷ b ∷ c ∷ rest)
    by true = omega arith
    by false = omega arith

-- no more rows than bytes of the text
pub few_rows : (text : List ℕ) → length (records default_config (strip_bom text)) ≤ length text
few_rows text = let a = few (length (strip_bom text) + 1) st.StartRecord (strip_bom text) refl in omega (arith, a, no_longer text)

-- a reader over a slice knows its bytes while it has not failed
pub has_source : (rdr : Reader (Bor (List ℕ))) → has_failed rdr ≡ false → (y : List ℕ) × (source_of (λ s. Some s.now) rdr ≡ Some y)
has_source rdr going = rw going (by (not rdr.bom_checked && (rdr.at == 0) && (rdr.filled == 0)))
  where
    by : (b : Bool) → (y : List ℕ) × ((if b then Some (strip_bom rdr.rdr.now) else Some (drop rdr.at (take rdr.filled rdr.buffer) ++ rdr.rdr.now)) ≡ Some y)
    by true = (_, refl)
    by false = (_, refl)

-- the first row, and those after it
one_row : (s s2 : State) (y z : List ℕ) (f : Fields) (p : Read) → ends_at_end s ≡ false → next_record default_config s [] [] y ≡ Some p
    → f ≡ p.0 → p.1 ≡ s2 → p.2 ≡ z → (rows_from s (Some y) ≡ f ∷ rows_from s2 (Some z)) × (ends_at_end s2 ≡ false)
unfolding records_from
one_row s s2 y z f p quiet next is_f is_state is_bytes =
    let t = takes_one s y p quiet next in
    let same = enough (length y) (length p.2 + 1) p.1 p.2 t.0 t.1 (omega arith) in
    (rw (is_f, ← is_state, ← is_bytes, add-one (length y), next, same) refl, rw (← is_state) t.0)

-- a read that found a record took the first of the rows to come
pub takes_first : (a b : Reader (Bor (List ℕ))) (f : Fields) → a.config ≡ default_config → has_failed a ≡ false → ends_at_end a.state ≡ false
    → ReadRecord (λ s. Some s.now) a b true f
    → (rows_from a.state (source_of (λ s. Some s.now) a) ≡ f ∷ rows_from b.state (source_of (λ s. Some s.now) b)) × (ends_at_end b.state ≡ false)
unfolding Reached
takes_first a b f plain going quiet r =
    let (y, is_y) = has_source a going in
    let (z, is_z, reached) = rows-more (λ s. Some s.now) a b f default_config a.state y y [] plain is_y (refl, refl) r in
    let (p, next, is_f, ends) = reached in
    let t = one_row a.state b.state y z f p quiet next is_f ends.0 ends.1 in
    (ap (rows_from a.state) is_y ∙ t.0 ∙ ap (λ (x : Option (List ℕ)). f ∷ rows_from b.state x) (sym is_z), t.1)

-- a read that found none was at the end
pub takes_none : (a b : Reader (Bor (List ℕ))) (f : Fields) → a.config ≡ default_config → has_failed a ≡ false
    → ReadRecord (λ s. Some s.now) a b false f → rows_from a.state (source_of (λ s. Some s.now) a) ≡ []
unfolding records_from
takes_none a b f plain going r =
    let (y, is_y) = has_source a going in
    let none = rows-end (λ s. Some s.now) a b f default_config y plain is_y r in
    rw (is_y, add-one (length y), none) refl
