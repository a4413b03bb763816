-- A permitted history can always go on.
use Rattle.cal_guard.proofs.Common.{◌≡◌, ℕ, ◌+◌, zero, suc, [], ◌∷◌, ◌++◌, length, take, Some, None, sym, subst, arith, ⊎_elim, slice_get, take-append_seam, append-nil, take-append-le, slice_get_within, PassEntry, actions_of, NoneHeld, NoneOverCap, IsPermittedPass, DoingNothingIsPermitted, PermittedGoesOn}
use Rattle.cal_guard.proofs.Emptying.{mended}
use Rattle.cal_machine.proofs.Places.{slice_get_parts}

pub nothing : DoingNothingIsPermitted
nothing table history input permitted =
    let same = sym (append-nil (actions_of history)) in
    let was = mended table history permitted in record {
      each = λ i a e. let no : None ≡ Some a = e in cc;
      short = omega arith;
      settled = record { emptied = subst NoneHeld same was.emptied; lowered = subst (NoneOverCap table) same was.lowered };
    }

pub goes_on : PermittedGoesOn
goes_on table history entry permitted pass = record {
  passes = λ p e is. ⊎_elim (λ old. earlier p e old) (λ new. last p new.0 e new.1 new.2) (slice_get_parts history (entry ∷ []) p e is);
}
  where
    earlier : (p : ℕ) (e : PassEntry) → slice_get history p ≡ Some e → IsPermittedPass table (take p (history ++ entry ∷ [])) e
    earlier p e old =
        let low = slice_get_within history p e old in
        subst (λ before. IsPermittedPass table before e) (sym (take-append-le p history (entry ∷ []) (omega arith))) (permitted.passes p e old)

    last : (p j : ℕ) (e : PassEntry) → p ≡ length history + j → slice_get (entry ∷ []) j ≡ Some e → IsPermittedPass table (take p (history ++ entry ∷ [])) e
    last p zero e at is =
        let seam : p ≡ length history = omega arith in
        let same : entry ≡ e = cc in
        subst (λ n. IsPermittedPass table (take n (history ++ entry ∷ [])) e) (sym seam)
        (subst (λ before. IsPermittedPass table before e) (sym (take-append_seam history (entry ∷ []))) (subst (λ x. IsPermittedPass table history x) same pass))
    last p (suc j) e at is = let no : None ≡ Some e = is in cc
