-- The records of a page: each is shaped, and later than those before it.
use Rattle.cal_world.proofs.Common.{ℕ, ◌<◌, ◌≤◌, zero, suc, List, [], ◌∷◌, length, get_or, arith, Record, zero_record, IsLater, IsShaped, MayFollow, Chain}
use Rattle.cal_signal.proofs.Following.{later_trans, later_refl}

later_than_first : (x : Record) (l : List Record) (j : ℕ) → Chain MayFollow x l → j < length (x ∷ l) → IsLater x (get_or (x ∷ l) j zero_record)
later_than_first x l zero chain low = later_refl x
later_than_first x [] (suc j) chain low = absurd (omega arith)
later_than_first x (y ∷ l) (suc j) chain low = later_trans x y (get_or (y ∷ l) j zero_record) chain.0.0 (later_than_first y l j chain.1 (omega arith))

pub later_at : (x : Record) (l : List Record) (i j : ℕ) → Chain MayFollow x l → i ≤ j → j < length (x ∷ l) → IsLater (get_or (x ∷ l) i zero_record) (get_or (x ∷ l) j zero_record)
later_at x l zero j chain le low = later_than_first x l j chain low
later_at x l (suc i) zero chain le low = absurd (omega arith)
later_at x [] (suc i) (suc j) chain le low = absurd (omega arith)
later_at x (y ∷ l) (suc i) (suc j) chain le low = later_at y l i j chain.1 (omega arith) (omega arith)

pub zero_shaped : IsShaped zero_record
zero_shaped = (omega arith, omega arith)

shaped_past : (i : ℕ) → IsShaped (get_or [] i zero_record)
shaped_past i = zero_shaped

pub shaped_at : (x : Record) (l : List Record) (i : ℕ) → IsShaped x → Chain MayFollow x l → IsShaped (get_or (x ∷ l) i zero_record)
shaped_at x l zero shaped chain = shaped
shaped_at x [] (suc i) shaped chain = shaped_past i
shaped_at x (y ∷ l) (suc i) shaped chain = shaped_at y l i chain.0.1 chain.1
