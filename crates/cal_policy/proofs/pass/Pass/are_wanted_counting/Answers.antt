use Rattle.cal_policy.proofs.Common.{◌≡◌, ◌&&◌, ℕ, nat_lt, sym, ap, ◌∙◌, subst, Option, IfSome, open_cores, lacking, setting_in, so_far}
use Rattle.cal_policy.proofs.AssuredLemmas.Lacking.{some_lacking, none_wanted, wanted_told}
use Rattle.cal_policy.proofs.pass.Pass.are_wanted_counting.Goals as goal

pub returns-then-lacking-eq0-clause-wanted : goal.returns-then-lacking-eq0-clause-wanted
returns-then-lacking-eq0-clause-wanted c = λ h acts st known.
    let s = setting_in c.args.self.now h in
    let x = so_far s acts in
    none_wanted (open_cores s.table x) (lacking s x) (sym (c.lacking_counted-lacking.ensures.lacking h acts st known) ∙ c.if-lacking-eq0.true)
    ∙ ap (λ b. b && nat_lt (open_cores s.table x) (lacking s x)) (sym (some_lacking s x))

pub returns-then-lacking-eq0-clause-counted : goal.returns-then-lacking-eq0-clause-counted
returns-then-lacking-eq0-clause-counted c = λ h acts st known.
    let s = setting_in c.args.self.now h in
    let P : Option ℕ → Type 0 = λ o. IfSome o (λ n. n ≡ lacking s (so_far s acts)) in
    subst P (sym c.lacking_counted-lacking.ensures.counted) (c.lacking_counted-lacking.ensures.lacking h acts st known)

pub returns-clause-wanted : goal.returns-clause-wanted
returns-clause-wanted c = λ h acts st known.
    let s = setting_in c.args.self.now h in
    let x = so_far s acts in
    ap (λ n. nat_lt n c.lacking_counted-lacking.result) (c.open_cores.ensures x st.agrees)
    ∙ ap (nat_lt (open_cores s.table x)) (c.lacking_counted-lacking.ensures.lacking h acts st known)
    ∙ wanted_told (open_cores s.table x) (lacking s x)
    ∙ ap (λ b. b && nat_lt (open_cores s.table x) (lacking s x)) (sym (some_lacking s x))

pub returns-clause-counted : goal.returns-clause-counted
returns-clause-counted c = λ h acts st known.
    let s = setting_in c.args.self.now h in
    let P : Option ℕ → Type 0 = λ o. IfSome o (λ n. n ≡ lacking s (so_far s acts)) in
    subst P (sym c.lacking_counted-lacking.ensures.counted) (c.lacking_counted-lacking.ensures.lacking h acts st known)
