-- The actions of one pass more.
use Rattle.cal_facts.proofs.Common.{◌≡◌, ◌<◌, ◌+◌, ◌∙◌, ℕ, List, [], ◌∷◌, ◌++◌, length, map, take, sym, ap, arith, add-zero, append_assoc, append-nil, length-map, length-take, made_in, moves_from, moves_of, PassEntry, GivenPass}
use Rattle.cal_run.specs.Outcome.{figures_of}

moves_end : (p : ℕ) (h : List PassEntry) (e : PassEntry) → moves_from p (h ++ e ∷ []) ≡ moves_from p h ++ map (made_in (p + length h)) e.actions
moves_end p [] e = rw (add-zero p) (append-nil (map (made_in p) e.actions))
moves_end p (x ∷ h) e =
    let m : p + 1 + length h ≡ p + length (x ∷ h) = omega arith in
    ap (λ ys. map (made_in p) x.actions ++ ys) (rw m at (moves_end (p + 1) h e))
    ∙ sym (append_assoc (map (made_in p) x.actions) (moves_from (p + 1) h) (map (made_in (p + length (x ∷ h))) e.actions))

-- a history of as many passes as were given has that many
pub passed_count : (h : List PassEntry) (passes : List GivenPass) (p : ℕ) → p < length passes → map figures_of h ≡ take p passes → length h ≡ p
passed_count h passes p low passed =
    let of_map = length-map h figures_of in
    let of_take = length-take p passes in
    let same = ap (λ (l : List GivenPass). length l) passed in
    omega (arith, of_map, of_take, same, low)

-- the actions of a history with pass p more
pub moves_passed : (h : List PassEntry) (e : PassEntry) (p : ℕ) → length h ≡ p → moves_of (h ++ e ∷ []) ≡ moves_of h ++ map (made_in p) e.actions
moves_passed h e p long =
    let is : 0 + length h ≡ p = omega (arith, long) in
    rw is at (moves_end 0 h e)
