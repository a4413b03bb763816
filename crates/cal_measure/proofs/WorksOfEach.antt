-- What the turns of each thread come to, while one after the other ends.
use Rattle.cal_measure.proofs.Common.{◌≡◌, ◌∙◌, ℕ, List, [], ◌∷◌, ◌++◌, length, subst, refl, sym, arith, append_assoc, AllZip, append-nil, Entry, AreTotalsOf, AreTotalsOfEach, IsThreadWorkOf, ThreadTotals}
use Rattle.cal_measure.specs.declared.thread_work.ThreadWork.{ThreadWork}

-- one more at the end of both
pub zip_more : {X Y : Type 0} (R : X → Y → Type 0) (xs : List X) (ys : List Y) (x : X) (y : Y) → AllZip R xs ys → R x y → AllZip R (xs ++ x ∷ []) (ys ++ y ∷ [])
zip_more R [] [] x y all one = (one, tt)
zip_more R [] (b ∷ ys) x y all one = absurd all
zip_more R (a ∷ xs) [] x y all one = absurd all
zip_more R (a ∷ xs) (b ∷ ys) x y all one = (all.0, zip_more R xs ys x y all.1 one)

-- the first threads have ended, and these are the others
pub record AreEndedUpTo (last : ℕ) (journals : List (List Entry)) (totals : List ThreadTotals) (rest : List ThreadWork) : Type 0 where
  pub done : List (List Entry)
  pub begun : List (List Entry)
  pub whole : done ++ begun ≡ journals
  pub ended : AreTotalsOfEach last done totals
  pub others : AllZip IsThreadWorkOf begun rest

pub none_ended : (last : ℕ) (journals : List (List Entry)) (works : List ThreadWork) → AllZip IsThreadWorkOf journals works → AreEndedUpTo last journals [] works
none_ended last journals works each = record { done = []; begun = journals; whole = refl; ended = tt; others = each }

pub one_ended : (last : ℕ) (journals : List (List Entry)) (totals : List ThreadTotals) (work : ThreadWork) (rest : List ThreadWork) (now : ThreadTotals) →
    AreEndedUpTo last journals totals (work ∷ rest) → ((journal : List Entry) → IsThreadWorkOf journal work → AreTotalsOf last journal now) →
    AreEndedUpTo last journals (totals ++ now ∷ []) rest
one_ended last journals totals work rest now upto step = go upto.done upto.begun upto.whole upto.ended upto.others
  where
    go : (done begun : List (List Entry)) → done ++ begun ≡ journals → AreTotalsOfEach last done totals → AllZip IsThreadWorkOf begun (work ∷ rest) →
        AreEndedUpTo last journals (totals ++ now ∷ []) rest
    go done [] whole ended others = absurd others
    go done (j ∷ js) whole ended others = record {
      done = done ++ j ∷ [];
      begun = js;
      whole = append_assoc done (j ∷ []) js ∙ whole;
      ended = zip_more (AreTotalsOf last) done totals j now ended (step j others.0);
      others = others.1;
    }

pub all_ended : (last : ℕ) (journals : List (List Entry)) (totals : List ThreadTotals) (rest : List ThreadWork) →
    AreEndedUpTo last journals totals rest → length rest ≡ 0 → AreTotalsOfEach last journals totals
all_ended last journals totals rest upto none = go upto.done upto.begun rest upto.whole upto.ended upto.others none
  where
    go : (done begun : List (List Entry)) (works : List ThreadWork) → done ++ begun ≡ journals → AreTotalsOfEach last done totals → AllZip IsThreadWorkOf begun works →
        length works ≡ 0 → AreTotalsOfEach last journals totals
    go done [] [] whole ended others none = subst (λ (l : List (List Entry)). AreTotalsOfEach last l totals) (sym (append-nil done) ∙ whole) ended
    go done [] (w ∷ ws) whole ended others none = absurd others
    go done (j ∷ js) [] whole ended others none = absurd others
    go done (j ∷ js) (w ∷ ws) whole ended others none = absurd (omega (arith, none))
