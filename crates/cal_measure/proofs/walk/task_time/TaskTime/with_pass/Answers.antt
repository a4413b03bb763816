use Rattle.cal_measure.proofs.Common.{◌≡◌, ◌∙◌, ◌+◌, ◌-◌, ◌*◌, ◌<◌, ◌++◌, ◌∷◌, [], ℕ, Bool, List, Some, length, length-append, take, cond, ap, sym, subst, arith, Agrees, KeepingAgrees, actions_of, looks_of, booked_by, PassEntry, held_after, left_after, found_congested, is_congested_at}
use Rattle.cal_policy.specs.declared.history.look.Seen.{Seen}
use Rattle.cal_policy.proofs.BoardLemmas.Replayed.{looks_push}
use Rattle.cal_measure.proofs.OneMore.{congested_before, greatest, held_before, left_before, no_ticks, slice_here, summed, take_before, take_here}
use Rattle.cal_measure.proofs.walk.task_time.TaskTime.with_pass.Goals as goal

pub returns : goal.returns
returns c = λ h e few state clock lasting was.
    let table = c.args.config.now in
    let t = c.args.task in
    let h2 : List PassEntry = h ++ e ∷ [] in
    let lasts : ℕ = c.args.timing.lasts in
    let long = length-append h (e ∷ []) in
    let low : length h < 1048576 = few in
    let x = actions_of h2 in
    let y = actions_of (take (length h + 1) h2) in
    let agrees : Agrees c.args.board.now y = subst (λ (l : List PassEntry). Agrees c.args.board.now (actions_of l)) (sym (take_here h e)) state.actions in
    let holds : c.held_by-holds.result ≡ held_after table h2 t (length h) = c.held_by-holds.ensures.held y agrees in
    let booked = c.booked_by.ensures y agrees in
    let leaves : c.saturating_sub-leaves.result ≡ left_after table h2 t (length h) =
    c.saturating_sub-leaves.ensures ∙ ap (λ n. n - c.held_by-holds.result) booked ∙ ap (λ n. booked_by table y t - n) holds in
    let looks : KeepingAgrees c.args.board.now.keeping (looks_of h ++ e.input.seen ∷ []) =
    subst (λ (l : List (List Seen)). KeepingAgrees c.args.board.now.keeping l) (looks_push h e) state.looks in
    let found : c.is_congested_when_ready.result ≡ found_congested table h t (Some e) =
    subst (λ n. c.is_congested_when_ready.result ≡ found_congested table h t (Some e)) clock (rw clock at c.is_congested_when_ready.ensures (looks_of h ++ e.input.seen ∷ []) looks) in
    let is_found : c.is_congested_when_ready.result ≡ is_congested_at table h2 t (length h) =
    found ∙ sym (ap (λ (l : List PassEntry). found_congested table l t (Some e)) (take_before h e)) ∙ sym (ap (found_congested table (take (length h) h2) t) (slice_here h e)) in
    let held_sum : c.saturating_add.result ≡ c.args.self.held + c.core_time-held.result = let a = c.saturating_add.ensures in let b = was.few_held in let d = c.core_time-held.ensures.few in omega (arith, a, b, d, low) in
    let leaving_sum : c.saturating_add-2.result ≡ c.args.self.leaving + c.core_time-leaving.result = let a = c.saturating_add-2.ensures in let b = was.few_leaving in let d = c.core_time-leaving.ensures.few in omega (arith, a, b, d, low) in
    let congested_sum : c.saturating_add-3.result ≡ c.args.self.congested + c.ticks_if-congested.result = let a = c.saturating_add-3.ensures in let b = was.few_congested in let d = c.ticks_if-congested.type_inv in omega (arith, a, b, d, low) in
    let at_end : (p : ℕ) → length h2 ≡ p + 1 → length h ≡ p = λ p is. omega (arith, is, long) in
    record {
      most = c.max.ensures ∙ greatest h e (held_after table h t) (held_after table h2 t) (held_before table h e t) _ _ was.most holds;
      held = held_sum ∙ summed h e (λ p l. held_after table h t p * l) (λ p l. held_after table h2 t p * l)
          (λ p l lt. ap (λ n. n * l) (held_before table h e t p lt)) (λ p. omega arith) (λ p. omega arith)
          c.args.self.held c.core_time-held.result lasts was.held lasting
          (λ none. c.core_time-held.ensures.time ∙ ap (λ l. c.args.self.holds * l) none ∙ omega arith)
          (λ p is. c.core_time-held.ensures.time ∙ ap (λ n. n * lasts) (was.holds p is));
      leaving = leaving_sum ∙ summed h e (λ p l. left_after table h t p * l) (λ p l. left_after table h2 t p * l)
          (λ p l lt. ap (λ n. n * l) (left_before table h e t p lt)) (λ p. omega arith) (λ p. omega arith)
          c.args.self.leaving c.core_time-leaving.result lasts was.leaving lasting
          (λ none. c.core_time-leaving.ensures.time ∙ ap (λ l. c.args.self.leaves * l) none ∙ omega arith)
          (λ p is. c.core_time-leaving.ensures.time ∙ ap (λ n. n * lasts) (was.leaves p is));
      congested = congested_sum ∙ summed h e (λ p l. cond (is_congested_at table h t p) l 0) (λ p l. cond (is_congested_at table h2 t p) l 0)
          (λ p l lt. ap (λ (b : Bool). cond b l 0) (congested_before table h e t p lt)) (λ p. no_ticks (is_congested_at table h t p)) (λ p. no_ticks (is_congested_at table h2 t p))
          c.args.self.congested c.ticks_if-congested.result lasts was.congested lasting
          (λ none. c.ticks_if-congested.ensures ∙ ap (λ l. cond c.args.self.found l 0) none ∙ no_ticks c.args.self.found)
          (λ p is. c.ticks_if-congested.ensures ∙ ap (λ (b : Bool). cond b lasts 0) (was.found p is));
      holds = λ p is. holds ∙ ap (held_after table h2 t) (at_end p is);
      leaves = λ p is. leaves ∙ ap (left_after table h2 t) (at_end p is);
      found = λ p is. is_found ∙ ap (λ n. is_congested_at table h2 t n) (at_end p is);
      few_held = let b = was.few_held in let d = c.core_time-held.ensures.few in omega (arith, held_sum, b, d, long);
      few_leaving = let b = was.few_leaving in let d = c.core_time-leaving.ensures.few in omega (arith, leaving_sum, b, d, long);
      few_congested = let b = was.few_congested in let d = c.ticks_if-congested.type_inv in omega (arith, congested_sum, b, d, long);
    }
