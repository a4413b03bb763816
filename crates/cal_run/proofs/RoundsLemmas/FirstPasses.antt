-- The first passes of a run.
use Rattle.cal_run.proofs.Common.{◌≡◌, ℕ, List, length, map, take, sym, ap, subst, ◌∙◌, min, length-map, length-take, take_min, Table, IsLegalBy, PassEntry, Policy, Arrivals, figures_of, AreFirstPasses}

-- a history of the policy, where that and the table are the same
pub legal_alike : (policy by : Policy) (table other : Table) (history : List PassEntry) → policy ≡ by → table ≡ other → IsLegalBy policy table history → IsLegalBy by other history
legal_alike policy by table other history same is legal =
    subst (λ (p : Policy). IsLegalBy p other history) same (subst (λ (t : Table). IsLegalBy policy t history) is legal)

-- the first passes, where the policy and the table are the same
pub first_alike : (policy by : Policy) (table other : Table) (arrivals : Arrivals) (history : List PassEntry) → policy ≡ by → table ≡ other
    → AreFirstPasses policy table arrivals history → AreFirstPasses by other arrivals history
first_alike policy by table other arrivals history same is first =
    record { legal = legal_alike policy by table other history same is first.legal; given = first.given }

-- a history of the policy of the first passes that are given
pub first_passes : (policy : Policy) (table : Table) (arrivals : Arrivals) (p : ℕ) (history : List PassEntry) → IsLegalBy policy table history
    → map figures_of history ≡ take p arrivals.passes → AreFirstPasses policy table arrivals history
first_passes policy table arrivals p history legal given =
    let many : length history ≡ min p (length arrivals.passes) = sym (length-map history figures_of) ∙ ap (λ l. length l) given ∙ length-take p arrivals.passes in
    record { legal = legal; given = given ∙ sym (take_min p arrivals.passes) ∙ ap (λ n. take n arrivals.passes) (sym many) }
