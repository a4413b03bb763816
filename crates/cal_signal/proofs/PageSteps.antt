-- The steps of a page of records, and what the nine words of a record are.
use Rattle.cal_signal.proofs.Common.{◌≡◌, ℕ, zero, suc, ◌+◌, ◌%◌, ◌<◌, Bool, true, false, List, [], ◌∷◌, length, take, get_or, refl, ap, ◌∙◌, arith, none, State, Me, step, opening, Allows, Splits, Joins, View, Record, words_of, record_of, zero_record, MayFollow, last_published, sees, parts_of, Kept, opening_view, no_part, publisher_part, observer_part, without_watcher, watcher_part, both_parts, both_looking, both_reading, learned, opened, wrote, spared, closed, started, peeked, ended}
use Rattle.cal_signal.proofs.Looking as looking
use Rattle.cal_signal.proofs.Publishing as publishing
use Rattle.cal_signal.proofs.Cutting as cutting

-- nine words make a record with these words
pub words_back : (ws : List ℕ) → length ws ≡ 9 → words_of (record_of ws) ≡ ws
words_back [] z = absurd (omega arith)
words_back (a ∷ []) z = absurd (omega arith)
words_back (a ∷ b ∷ []) z = absurd (omega arith)
words_back (a ∷ b ∷ c ∷ []) z = absurd (omega arith)
words_back (a ∷ b ∷ c ∷ d ∷ []) z = absurd (omega arith)
words_back (a ∷ b ∷ c ∷ d ∷ e ∷ []) z = absurd (omega arith)
words_back (a ∷ b ∷ c ∷ d ∷ e ∷ f ∷ []) z = absurd (omega arith)
words_back (a ∷ b ∷ c ∷ d ∷ e ∷ f ∷ g ∷ []) z = absurd (omega arith)
words_back (a ∷ b ∷ c ∷ d ∷ e ∷ f ∷ g ∷ h ∷ []) z = absurd (omega arith)
words_back (a ∷ b ∷ c ∷ d ∷ e ∷ f ∷ g ∷ h ∷ i ∷ []) z = refl
words_back (a ∷ b ∷ c ∷ d ∷ e ∷ f ∷ g ∷ h ∷ i ∷ j ∷ xs) z = absurd (omega arith)

-- the words of a record, all stored
pub all_stored : (stored : List ℕ) (count : ℕ) (r : Record) → count ≡ 9 → stored ≡ take count (words_of r) → stored ≡ words_of r
all_stored stored count r full e = e ∙ ap (λ (k : ℕ). take k (words_of r)) full

abbrev pub Law : State (Unit {0}) (View Record) → Type 0
Law = Kept words_of 9 MayFollow zero_record

abbrev pub M : Type 0
M = Me (Unit {0}) (View Record)

-- the parts of a publisher's seat, one by one
abbrev pub Alone : View Record → Type 0
Alone v = parts_of v ≡ (true, false, false)

pub publishes_of : (v : View Record) → Alone v → v.publishes ≡ true
publishes_of v part = ap (λ (t : Bool × Bool × Bool). t.0) part

blind : (v : View Record) → Alone v → v.observes ≡ false
blind v part = ap (λ (t : Bool × Bool × Bool). t.1) part

unwatching : (v : View Record) → Alone v → v.watches ≡ false
unwatching v part = ap (λ (t : Bool × Bool × Bool). t.2) part

pub starts : (slots id : ℕ) (me : M) → Allows Law slots id me 0 (λ x. x) (started (step slots 0 0 0 none) me)
starts = looking.starts words_of record_of 9 MayFollow zero_record

pub peeks : (slots id : ℕ) (me : M) (i : ℕ) → i ≡ length me.0.read → i < 9 → Allows Law slots id me (i + 1) (λ x. x) (peeked (step slots (i + 1) 0 0 none) me)
peeks = looking.peeks words_of record_of 9 MayFollow zero_record

pub ends : (slots id : ℕ) (me : M) → sees me.0 ≡ true → me.0.first % 2 ≡ 0 → length me.0.read ≡ 9
    → Allows Law slots id me 0 (λ x. x) (ended record_of MayFollow zero_record (step slots 0 0 0 none) me)
ends slots id me = looking.ends words_of record_of 9 MayFollow zero_record slots id me (λ x. refl) (λ x. refl)

pub opens : (slots id : ℕ) (me : M) (odd : ℕ) → me.0.publishes ≡ true → me.0.version % 2 ≡ 0 → odd ≡ me.0.version + 1
    → Allows Law slots id me 0 (λ _. odd) (λ _. opened (step slots 0 odd 0 none) me odd)
opens = publishing.opens words_of record_of 9 MayFollow zero_record

pub writes : (slots id : ℕ) (me : M) (i b : ℕ) → me.0.publishes ≡ true → me.0.version % 2 ≡ 1 → i ≡ length me.0.stored → i < 9
    → Allows Law slots id me (i + 1) (λ _. b) (λ _. wrote (step slots (i + 1) b 0 none) me b)
writes = publishing.writes words_of record_of 9 MayFollow zero_record

pub spares : (slots id : ℕ) (me : M) (i : ℕ) → me.0.publishes ≡ true → me.0.version % 2 ≡ 1 → i ≡ length me.0.stored → i < 9
    → Allows Law slots id me (i + 1) (λ x. x) (spared words_of zero_record (step slots (i + 1) 0 0 none) me)
spares = publishing.spares words_of record_of 9 MayFollow zero_record

pub closes : (slots id : ℕ) (me : M) (even : ℕ) → me.0.publishes ≡ true → me.0.version % 2 ≡ 1 → even ≡ me.0.version + 1 → length me.0.stored ≡ 9
    → MayFollow (last_published me.0.published) (record_of me.0.stored) → Allows Law slots id me 0 (λ _. even) (λ _. closed record_of (step slots 0 even 0 none) me even)
closes slots id me even = publishing.closes words_of record_of 9 MayFollow zero_record slots id me even words_back

pub splits : (id : ℕ) (v : View Record) → Splits Law id v (publisher_part v) (observer_part v)
splits = cutting.splits words_of record_of 9 MayFollow zero_record

pub splits_watcher : (id : ℕ) (v : View Record) → v.observes ≡ true → v.watches ≡ true → Splits Law id v (without_watcher v) (watcher_part v)
splits_watcher = cutting.splits_watcher words_of record_of 9 MayFollow zero_record

pub joins : (id : ℕ) (v : View Record) (other : ℕ) (w : View Record) → Alone v → sees w ≡ true → Joins Law id v other w (both_parts v w) no_part
joins id v other w part = cutting.joins words_of record_of 9 MayFollow zero_record id v other w (publishes_of v part) (blind v part) (unwatching v part)

pub joins_looking : (id : ℕ) (v : View Record) (other : ℕ) (w : View Record) → Alone v → sees w ≡ true → Joins Law id v other w (both_looking v w) no_part
joins_looking id v other w part = cutting.joins_looking words_of record_of 9 MayFollow zero_record id v other w (publishes_of v part) (blind v part) (unwatching v part)

pub joins_reading : (id : ℕ) (v : View Record) (other : ℕ) (w : View Record) → Alone v → sees w ≡ true → Joins Law id v other w (both_reading zero_record v w) no_part
joins_reading id v other w part = cutting.joins_reading words_of record_of 9 MayFollow zero_record id v other w (publishes_of v part) (blind v part) (unwatching v part)

pub learns : (slots id : ℕ) (me : M) → me.0.publishes ≡ true → sees me.0 ≡ true → Allows Law slots id me 0 (λ x. x) (learned MayFollow zero_record (step slots 0 0 0 none) me)
learns = cutting.learns words_of record_of 9 MayFollow zero_record

nought : (i : ℕ) → i < 9 → get_or (words_of zero_record) i 0 ≡ 0
nought zero h = refl
nought (suc zero) h = refl
nought (suc (suc zero)) h = refl
nought (suc (suc (suc zero))) h = refl
nought (suc (suc (suc (suc zero)))) h = refl
nought (suc (suc (suc (suc (suc zero))))) h = refl
nought (suc (suc (suc (suc (suc (suc zero)))))) h = refl
nought (suc (suc (suc (suc (suc (suc (suc zero))))))) h = refl
nought (suc (suc (suc (suc (suc (suc (suc (suc zero)))))))) h = refl
nought (suc (suc (suc (suc (suc (suc (suc (suc (suc i))))))))) h = absurd (omega arith)

-- the ten words of a new page
abbrev pub blank_words : List ℕ
blank_words = 0 ∷ 0 ∷ 0 ∷ 0 ∷ 0 ∷ 0 ∷ 0 ∷ 0 ∷ 0 ∷ 0 ∷ []

blank : (i : ℕ) → get_or {A = ℕ} blank_words i 0 ≡ 0
blank zero = refl
blank (suc zero) = refl
blank (suc (suc zero)) = refl
blank (suc (suc (suc zero))) = refl
blank (suc (suc (suc (suc zero)))) = refl
blank (suc (suc (suc (suc (suc zero))))) = refl
blank (suc (suc (suc (suc (suc (suc zero)))))) = refl
blank (suc (suc (suc (suc (suc (suc (suc zero))))))) = refl
blank (suc (suc (suc (suc (suc (suc (suc (suc zero)))))))) = refl
blank (suc (suc (suc (suc (suc (suc (suc (suc (suc zero))))))))) = refl
blank (suc (suc (suc (suc (suc (suc (suc (suc (suc (suc i)))))))))) = refl

pub begins : Law (opening blank_words [] opening_view)
begins = cutting.begins words_of record_of 9 MayFollow zero_record nought blank_words refl blank
