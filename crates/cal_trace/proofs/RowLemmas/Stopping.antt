-- What an error of `csv` leaves of a reader of rows.
use Rattle.cal_trace.proofs.Common.{◌≡◌, ℕ, List, Option, true, false, refl, sym, ◌∙◌, false≢true, ExplainsRead, has_failed, is_flexible, stops_reader, IsRefused, kind_of, IsReading}
use Rattle.csv.specs.declared.error.ErrorKind.{ErrorKind}
use Rattle.csv.specs.declared.error.ErrorKind.TheVariants as why
use Rattle.csv.specs.declared.reader.Reader.{Reader}
use Rattle.cal_trace.specs.declared.rows.Rows.{Rows}

-- a reader that takes rows of any length, as bytes, stops at each error
stops : {R : Type 0} (rem : R → Option (List ℕ)) (old new : Reader R) (k : ErrorKind) → is_flexible old ≡ true → ExplainsRead rem old new false k → stops_reader k ≡ true
stops rem old new (why.Io e) flexible h = refl
stops rem old new why.OutOfMemory flexible h = refl
stops rem old new (why.UnequalLengths pos expected len) flexible h = absurd (false≢true (sym h.0 ∙ flexible))
stops rem old new (why.Utf8 pos err) flexible h = absurd (false≢true h.0)
stops rem old new (why.Serialize text) flexible h = absurd h
stops rem old new (why.Deserialize pos err) flexible h = absurd h

-- and so each is of memory, or one that `csv` answered
told : (k : ErrorKind) (before after : Rows) → IsReading before → has_failed after.reader ≡ true → IsRefused (kind_of k)
told (why.Io e) before after reading stopped = record { before = before; reading = reading; after = after; stopped = stopped }
told why.OutOfMemory before after reading stopped = tt
told (why.UnequalLengths pos expected len) before after reading stopped = record { before = before; reading = reading; after = after; stopped = stopped }
told (why.Utf8 pos err) before after reading stopped = record { before = before; reading = reading; after = after; stopped = stopped }
told (why.Serialize text) before after reading stopped = record { before = before; reading = reading; after = after; stopped = stopped }
told (why.Deserialize pos err) before after reading stopped = record { before = before; reading = reading; after = after; stopped = stopped }

pub refused_by : (rem : _ → Option (List ℕ)) (k : ErrorKind) (before after : Rows) → IsReading before → ExplainsRead rem before.reader after.reader false k
    → has_failed after.reader ≡ stops_reader k → IsRefused (kind_of k)
refused_by rem k before after reading why fails = told k before after reading (fails ∙ stops rem before.reader after.reader k reading.flexible why)
