-- The end of a history, and what stands there.
use Rattle.cal_laws.proofs.Common.{◌≡◌, ℕ, ◌+◌, ◌-◌, ◌<◌, List, [], ◌∷◌, ◌++◌, length, take, Some, None, refl, sym, ap, ◌∙◌, arith, ⊎_elim, slice_get, take-length, slice_get_cases, Table, PassEntry, actions_of}
use Rattle.cal_laws.specs.Ends.{end_of, IsEnd, EndsArePoints}
use Rattle.cal_laws.proofs.PointLemmas.EachAction.{actions_more}

-- past its last member a list has none
none_past : {X : Type 0} (xs : List X) → slice_get xs (length xs) ≡ None
none_past [] = refl
none_past (x ∷ xs) = none_past xs

-- an entry is the last one: all actions of the history are made after its own
pub is_end : (table : Table) (history : List PassEntry) (entry : PassEntry) → 0 < length history → slice_get history (length history - 1) ≡ Some entry → IsEnd history (end_of table history entry)
is_end table history entry some e =
    let p : ℕ = length history - 1 in
    let last : p + 1 ≡ length history = omega arith in
    record {
      all = ap (λ xs. actions_of (take p history) ++ xs) (take-length entry.actions) ∙ sym (actions_more history p entry e) ∙ ap (λ n. actions_of (take n history)) last
          ∙ ap actions_of (take-length history);
      last = none_past entry.actions;
    }

pub ends : EndsArePoints
ends table history ok legal some = ⊎_elim
    (λ found. record {
      entry = found.0;
      point = record { table = ok; legal = legal; entry = found.2; made = omega arith };
      end = is_end table history found.0 some found.2;
    })
    (λ past. absurd (let no = past.0 in omega (arith, no, some)))
    (slice_get_cases history (length history - 1)).1
