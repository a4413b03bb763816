-- Every history of this policy is permitted.
use Rattle.cal_guard.proofs.Common.{◌≡◌, ℕ, ◌+◌, ◌≤◌, zero, suc, List, [], ◌++◌, length, take, Some, None, inl, refl, sym, ap, ◌∙◌, arith, subst, ⊎_elim, append-nil, slice_get_cases, slice_get_within, Table, IsTable, Action, PassEntry, actions_of, sent_to, NoPairBanned, IsSteady, Setting, setting_of, so_far, none_banned, Steady_start, none_counted, NoneHeld, HaveOneCore, actions_more, NoneOverCap, IsPermitted, ArePermitted, IsPermittedHistory}
use Rattle.cal_policy.proofs.ListLemmas.EachAfter.{each_at}
use Rattle.cal_policy.specs.Assured.Pass.{pass_of, IsPass, IsLegal}
use Rattle.cal_policy.proofs.AssuredLemmas.Lengths.{pass_short}
use Rattle.cal_guard.proofs.AssuredLemmas.Permitting.{Laws, First, IsPermittedWhole, pass_permitted}

-- what stands between two passes
pub record Ready (table : Table) (x : List Action) : Type 0 where
  pub steady : IsSteady table x
  pub one : HaveOneCore table x
  pub apart : NoPairBanned x
  pub emptied : NoneHeld x
  pub lowered : NoneOverCap table x

ready_start : (table : Table) → Ready table []
ready_start table = record {
  steady = Steady_start table;
  one = λ c d p q lt low e f same. let no : None ≡ Some p = e in cc;
  apart = none_banned;
  emptied = record { empty = λ c b. cc };
  lowered = record { within = λ t best. omega (arith, none_counted table.cores) };
}

-- a pass begins there
begins : (table : Table) (before : List PassEntry) (entry : PassEntry) → Ready table (actions_of before) → First (setting_of table before entry) []
begins table before entry ready =
    let s : Setting = setting_of table before entry in
    let at : so_far s [] ≡ actions_of before = append-nil (actions_of before) in
    let P : List Action → Type 0 = λ x. Ready table x in
    let there : Ready table (so_far s []) = subst P (sym at) ready in
    let unsent : (k : ℕ) → sent_to (so_far s []) k ≡ sent_to (actions_of before) k = λ k. ap (λ l. sent_to l k) at in
    record {
      early = record {
        stage = record {
          base = record { steady = there.steady; one = there.one; apart = there.apart; sent = λ k. inl (unsent k) };
          emptied = there.emptied;
          lowered = there.lowered;
        };
        ungranted = λ c. refl;
      };
      unsent = unsent;
    }

whole_pass : Laws → (table : Table) (before : List PassEntry) (entry : PassEntry) → IsTable table → Ready table (actions_of before) → IsPermittedWhole (setting_of table before entry)
whole_pass laws table before entry ok ready = pass_permitted laws (setting_of table before entry) ok (begins table before entry ready)

-- and leaves what the next one begins with
ready_after : Laws → (table : Table) (before : List PassEntry) (entry : PassEntry) → IsTable table → IsPass table before entry → Ready table (actions_of before) → Ready table (actions_of before ++ entry.actions)
ready_after laws table before entry ok pass ready =
    let stage = (whole_pass laws table before entry ok ready).after in
    let P : List Action → Type 0 = λ acts. Ready table (actions_of before ++ acts) in
    let there : Ready table (so_far (setting_of table before entry) (pass_of (setting_of table before entry))) =
    record { steady = stage.base.steady; one = stage.base.one; apart = stage.base.apart; emptied = stage.emptied; lowered = stage.lowered } in
    subst P (sym pass.actions) there

pub ready_at : Laws → (table : Table) (history : List PassEntry) → IsTable table → IsLegal table history → (p : ℕ) → p ≤ length history → Ready table (actions_of (take p history))
ready_at laws table history ok legal zero le = ready_start table
ready_at laws table history ok legal (suc p) le = ⊎_elim
    (λ found.
    let P : List Action → Type 0 = λ x. Ready table x in
    let one : suc p ≡ p + 1 = omega arith in
    let after = ready_after laws table (take p history) found.0 ok (legal.passes p found.0 found.2) (ready_at laws table history ok legal p (omega arith)) in
    subst P (sym (ap (λ n. actions_of (take n history)) one ∙ actions_more history p found.0 found.2)) after)
    (λ past. absurd (let no = past.0 in omega (arith, no, le)))
    (slice_get_cases history p).1

are_permitted : (s : Setting) → IsTable s.table → NoPairBanned (actions_of s.history) → IsPermittedWhole s → ArePermitted s (pass_of s)
are_permitted s ok apart whole = record {
  each = λ i a e. each_at (IsPermitted s) [] (pass_of s) i a whole.each e;
  short = pass_short s ok apart;
  settled = record { emptied = whole.after.emptied; lowered = whole.after.lowered };
}

pub passes_permitted : Laws → (table : Table) (history : List PassEntry) → IsTable table → IsLegal table history → IsPermittedHistory table history
passes_permitted laws table history ok legal = record {
  passes = λ p entry e.
      let within = slice_get_within history p entry e in
      let pass = legal.passes p entry e in
      let s : Setting = setting_of table (take p history) entry in
      let P : List Action → Type 0 = λ acts. ArePermitted s acts in
      let ready = ready_at laws table history ok legal p (omega (arith, within)) in
      let whole = whole_pass laws table (take p history) entry ok ready in
      record { input = pass.input; actions = subst P (sym pass.actions) (are_permitted s ok ready.apart whole) };
}
