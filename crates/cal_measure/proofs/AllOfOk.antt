-- What is promised of a value in several clauses.
use Rattle.cal_measure.proofs.Common.{Result, Ok, Err, IfOk}

pub all_of_ok : {T E : Type 0} (r : Result T E) (P Q R All : T → Type 0) → ((value : T) → P value → Q value → R value → All value) →
    IfOk r P → IfOk r Q → IfOk r R → IfOk r All
all_of_ok (Ok value) P Q R All all p q r = all value p q r
all_of_ok (Err fault) P Q R All all p q r = tt
