-- A pass that grants a short task fewer cores than it needs leaves as many coming to it as it needs more, or
-- all calm; and it does not where all was calm and nothing was being left.
use Rattle.cal_guarantee.proofs.Common.{◌≡◌, ℕ, ◌+◌, ◌<◌, ◌≤◌, ◌⊎◌, true, List, [], ◌++◌, length, Some, refl, ap, sym, ◌∙◌, subst, arith, inl, inr, ⊎_elim, false_from_ne_true, IsTable, threads_of_table, Action, actions_of, holder_of, Setting, so_far, has_room, frees, EachAfter, IsSteady, count_le, is_leaving, unbans, leaves_for, coming, is_short, waits_short, unbanned_of, bounded_of, pass_of, turn_in_place, granted_to, needs_at}
use Rattle.cal_guarantee.proofs.Steps.{IsStep, acts_steps, unbans_steps}
use Rattle.cal_guarantee.proofs.Acting.{acts_short}
use Rattle.cal_guarantee.proofs.KeptAlong.{NoGrant, AreShort, along, steady_step}
use Rattle.cal_guarantee.proofs.Unbanned.{after_unbans}
use Rattle.cal_guarantee.proofs.Calm.{IsCalm, NoneLeaves, Rests, calm_along, calm_frees, leaves_chain}
use Rattle.cal_guarantee.proofs.PassTurns.{before_turn, with_turn, from_freed, turn_freed, ToOther, ToShortOther, freed_steady, freed_waits, freed_steps, the_turn}
use Rattle.cal_guarantee.proofs.Left.{left_along}
use Rattle.cal_guarantee.proofs.Nothing.{within_along, within_there, calm_at}
use Rattle.cal_guarantee.proofs.Quiet.{rest_calm, all_open}
use Rattle.cal_guarantee.proofs.TurnKeeps.{ToShortSelf}
use Rattle.cal_guarantee.proofs.TurnEnds.{short_there, turn_begins, short_still, none_open_still, coming_or_none}
use Rattle.cal_guarantee.proofs.OwedWhole.{enough_ungiven}

self_short : (s : Setting) (t : ℕ) → AreShort (ToShortSelf s t) s
self_short s t acts u g = let S : ℕ → Type 0 = λ v. is_short s.table (so_far s acts) v ≡ true in subst S (sym g.0) g.1

module _ (s : Setting) (t : ℕ) (ok : IsTable s.table) (lt : t < length s.table.tasks) (steady : IsSteady s.table (actions_of s.history))
    (waiting : waits_short s (so_far s (bounded_of s)) t ≡ true) (few : granted_to s.table t (with_turn s t) < needs_at s t) where
  self_steps : EachAfter (IsStep ⊥ (ToShortSelf s t) s) (before_turn s t) (turn_in_place s (before_turn s t) (Some t))
  self_steps = acts_steps ⊥ (ToShortSelf s t) s (before_turn s t) t s.table.cores ok lt
      (λ n core low may taken. (refl, acts_short s (before_turn s t) t n (short_there s t ok lt steady waiting few) may))

  turn_steady : IsSteady s.table (so_far s (with_turn s t))
  turn_steady = along s (IsStep ⊥ (ToShortSelf s t) s) (IsSteady s.table) (λ now a q was. steady_step ⊥ (ToShortSelf s t) s now a q was) (before_turn s t)
      (turn_in_place s (before_turn s t) (Some t)) self_steps (turn_begins s t ok lt steady waiting few)

  -- calm at the end of its turn, calm at the end of the pass
  end_calm : IsCalm s.table (so_far s (with_turn s t)) → IsCalm s.table (so_far s (pass_of s)) × NoneLeaves (so_far s (with_turn s t)) (so_far s (pass_of s))
  end_calm calm = rest_calm s t ok lt steady (short_still s t ok lt steady waiting few) (none_open_still s t ok lt steady waiting few) calm turn_steady

  -- what comes to it at the end of the turn comes to it at the end of the pass
  coming_on : coming s (so_far s (with_turn s t)) t ≤ coming s (so_far s (pass_of s)) t
  coming_on =
      let now = with_turn s t in
      let turn = the_turn s t ok lt in
      let P : List Action → Type 0 = λ all. coming s (so_far s now) t ≤ coming s (so_far s all) t in
      subst P (sym turn.pass) (count_le (λ c. leaves_for t (holder_of (so_far s (now ++ turn.rest)) c)) (λ c. leaves_for t (holder_of (so_far s now) c)) s.table.cores
      (λ c low is. ap (leaves_for t) (left_along ⊥ (ToOther t) s t c now turn.rest turn.each turn_steady is) ∙ is))

  pub coming_or_calm : ((k : ℕ) → k < threads_of_table s.table → has_room s k ≡ true) →
      (needs_at s t ≤ coming s (so_far s (pass_of s)) t + granted_to s.table t (with_turn s t)) ⊎ IsCalm s.table (so_far s (pass_of s))
  coming_or_calm rooms = ⊎_elim
      (λ enough. inl (omega (arith, enough, coming_on)))
      (λ nothing.
      let there = within_along ⊥ (ToShortSelf s t) s (self_short s t) (before_turn s t) (turn_in_place s (before_turn s t) (Some t)) self_steps (within_there s t ok lt steady waiting) in
      inr (end_calm (calm_at s t (with_turn s t) (short_still s t ok lt steady waiting few) there rooms nothing.1 nothing.0)).0)
      (coming_or_none s t ok lt steady waiting few)

  -- a pass that begins calm ends calm
  pub calm_whole : IsCalm s.table (actions_of s.history) → IsCalm s.table (so_far s (pass_of s)) × NoneLeaves (actions_of s.history) (so_far s (pass_of s))
  calm_whole calm =
      let h = actions_of s.history in
      let x = so_far s (frees s []) in
      let b = so_far s (before_turn s t) in
      let y = so_far s (with_turn s t) in
      let z = so_far s (pass_of s) in
      let first = calm_frees s calm in
      let upto = calm_along (Unit {0}) (ToShortOther s t) s (λ acts core thread g. g.good.1) (frees s []) (from_freed s t) (freed_steps s t ok lt steady waiting)
      (freed_steady s t ok lt steady waiting) first.0 in
      let P : List Action → Type 0 = λ now. Rests s.table x (so_far s now) in
      let there : Rests s.table x b = subst P (sym (turn_freed s t)) upto in
      let turn = calm_along ⊥ (ToShortSelf s t) s (λ acts core thread g. self_short s t acts g.task g.good) (before_turn s t) (turn_in_place s (before_turn s t) (Some t)) self_steps there.0 there.1 in
      let rest = end_calm turn.1 in
      (rest.0, leaves_chain h b z (leaves_chain h x b first.1 there.2) (leaves_chain b y z turn.2 rest.1))

  -- and one that begins calm, and after whose first part nothing is being left, grants what the task needs
  pub none_left_whole : IsCalm s.table (actions_of s.history) → ((c : ℕ) → c < s.table.cores → is_leaving (holder_of (so_far s (frees s [])) c) ≡ true → ⊥) → ⊥
  none_left_whole calm gone =
      let first = freed_steady s t ok lt steady waiting in
      let x = so_far s (unbanned_of s) in
      let end = calm_along (Unit {0}) NoGrant s (λ acts core thread g. absurd g.good) (frees s []) (unbans s (frees s [])) (unbans_steps (Unit {0}) NoGrant s (frees s []) tt) first (calm_frees s calm).0 in
      enough_ungiven s t ok lt steady waiting few (⊎_elim
      (λ enough. enough)
      (λ below. all_open s x ok end.0 end.1 (λ c low. false_from_ne_true (is_leaving (holder_of x c)) (λ is. gone c low (end.2.before c is))) below)
      (after_unbans s t (frees s []) lt first (freed_waits s t ok lt steady waiting)))
