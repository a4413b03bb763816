-- What threads served, thread by thread.
use Rattle.cal_facts.proofs.Common.{◌≡◌, ◌<◌, ◌+◌, ◌∙◌, ℕ, List, [], ◌∷◌, ◌++◌, length, map, take, get_or, refl, sym, ap, arith, add-zero, append_assoc, append-nil, length-take, take_more, AreTotalsOfEach, ThreadTotals, served_by, served_from, Served}
use Rattle.cal_kthread.specs.declared.journal.entry.Entry.{Entry}

-- what these threads served, of which the first has this number
abbrev pub totals_from : ℕ → List ThreadTotals → List Served
totals_from n [] = []
totals_from n (t ∷ ts) = map (served_by n) t.services.items ++ totals_from (n + 1) ts

pub totals_end : (n : ℕ) (ts : List ThreadTotals) (t : ThreadTotals) → totals_from n (ts ++ t ∷ []) ≡ totals_from n ts ++ map (served_by (n + length ts)) t.services.items
totals_end n [] t = rw (add-zero n) (append-nil (map (served_by n) t.services.items))
totals_end n (x ∷ ts) t =
    let m : n + 1 + length ts ≡ n + length (x ∷ ts) = omega arith in
    ap (λ ys. map (served_by n) x.services.items ++ ys) (rw m at (totals_end (n + 1) ts t))
    ∙ sym (append_assoc (map (served_by n) x.services.items) (totals_from (n + 1) ts) (map (served_by (n + length (x ∷ ts))) t.services.items))

-- with the next thread
pub totals_more : (ts : List ThreadTotals) (k : ℕ) (d : ThreadTotals) → k < length ts →
    totals_from 0 (take (k + 1) ts) ≡ totals_from 0 (take k ts) ++ map (served_by k) (get_or ts k d).services.items
totals_more ts k d low =
    let long : 0 + length (take k ts) ≡ k = omega (arith, length-take k ts, low) in
    ap (λ (l : List ThreadTotals). totals_from 0 l) (take_more ts k d low) ∙ (rw long at (totals_end 0 (take k ts) (get_or ts k d)))

-- it is what their journals tell of
pub totals_told : (last n : ℕ) (journals : List (List Entry)) (ts : List ThreadTotals) → AreTotalsOfEach last journals ts → served_from last n journals ≡ totals_from n ts
totals_told last n [] [] are = refl
totals_told last n [] (t ∷ ts) are = absurd are
totals_told last n (j ∷ js) [] are = absurd are
totals_told last n (j ∷ js) (t ∷ ts) are =
    ap (λ l. map (served_by n) l ++ served_from last (n + 1) js) (sym are.0.services)
    ∙ ap (λ l. map (served_by n) t.services.items ++ l) (totals_told last (n + 1) js ts are.1)
