use Rattle.cal_measure.proofs.Common.{◌≡◌, ◌∙◌, ◌+◌, ◌<◌, ◌++◌, ◌∷◌, [], ℕ, Bool, List, length, length-append, cond, ap, refl, arith, PassEntry, is_over_limit}
use Rattle.cal_measure.specs.declared.states.CoreState.TheVariants as states
use Rattle.cal_measure.proofs.OneMore.{no_ticks, over_before, state_summed, summed}
use Rattle.cal_measure.proofs.walk.machine_time.MachineTime.lasted.Goals as goal

pub returns : goal.returns
returns c = λ table h e few lasting was.
    let h2 : List PassEntry = h ++ e ∷ [] in
    let lasts : ℕ = c.args.lasts in
    let long = length-append h (e ∷ []) in
    let low : length h < 1048576 = few in
    let so_far = c.args.self.numbers in
    let lasted : c.saturating_add.result ≡ so_far.lasted + lasts = let a = c.saturating_add.ensures in let b = was.numbers.few_lasted in let d = c.ranges.lasts in omega (arith, a, b, d, low) in
    let held : c.saturating_add-2.result ≡ so_far.held + c.core_time-held.result = let a = c.saturating_add-2.ensures in let b = was.numbers.few_held in let d = c.core_time-held.ensures.few in omega (arith, a, b, d, low) in
    let leaving : c.saturating_add-3.result ≡ so_far.leaving + c.core_time-leaving.result = let a = c.saturating_add-3.ensures in let b = was.numbers.few_leaving in let d = c.core_time-leaving.ensures.few in omega (arith, a, b, d, low) in
    let banned : c.saturating_add-4.result ≡ so_far.banned + c.core_time-banned.result = let a = c.saturating_add-4.ensures in let b = was.numbers.few_banned in let d = c.core_time-banned.ensures.few in omega (arith, a, b, d, low) in
    let free : c.saturating_add-5.result ≡ so_far.free + c.core_time-free.result = let a = c.saturating_add-5.ensures in let b = was.numbers.few_free in let d = c.core_time-free.ensures.few in omega (arith, a, b, d, low) in
    let over : c.saturating_add-6.result ≡ so_far.over_limit + c.ticks_if-over.result = let a = c.saturating_add-6.ensures in let b = was.numbers.few_over in let d = c.ticks_if-over.type_inv in omega (arith, a, b, d, low) in
    record {
      are = record {
        lasted = lasted ∙ summed h e (λ p l. l) (λ p l. l) (λ p l lt. refl) (λ p. refl) (λ p. refl) so_far.lasted lasts lasts was.numbers.are.lasted lasting (λ none. none) (λ p is. refl);
        held = held ∙ state_summed table h e states.Held so_far.held c.core_time-held.result lasts c.args.self.held was.numbers.are.held lasting c.core_time-held.ensures.time was.held;
        leaving = leaving ∙ state_summed table h e states.Leaving so_far.leaving c.core_time-leaving.result lasts c.args.self.leaving was.numbers.are.leaving lasting c.core_time-leaving.ensures.time was.leaving;
        banned = banned ∙ state_summed table h e states.Banned so_far.banned c.core_time-banned.result lasts c.args.self.banned was.numbers.are.banned lasting c.core_time-banned.ensures.time was.banned;
        free = free ∙ state_summed table h e states.Free so_far.free c.core_time-free.result lasts c.args.self.free was.numbers.are.free lasting c.core_time-free.ensures.time was.free;
        over_limit = over ∙ summed h e (λ p l. cond (is_over_limit table h p) l 0) (λ p l. cond (is_over_limit table h2 p) l 0)
            (λ p l lt. ap (λ (b : Bool). cond b l 0) (over_before table h e p lt)) (λ p. no_ticks (is_over_limit table h p)) (λ p. no_ticks (is_over_limit table h2 p))
            so_far.over_limit c.ticks_if-over.result lasts was.numbers.are.over_limit lasting
            (λ none. c.ticks_if-over.ensures ∙ ap (λ l. cond c.args.self.is_over l 0) none ∙ no_ticks c.args.self.is_over)
            (λ p is. c.ticks_if-over.ensures ∙ ap (λ (b : Bool). cond b lasts 0) (was.is_over p is));
        few = let b = was.numbers.few_lasted in let d = c.ranges.lasts in omega (arith, lasted, b, d, low);
      };
      few_lasted = let b = was.numbers.few_lasted in let d = c.ranges.lasts in omega (arith, lasted, b, d, long);
      few_held = let b = was.numbers.few_held in let d = c.core_time-held.ensures.few in omega (arith, held, b, d, long);
      few_leaving = let b = was.numbers.few_leaving in let d = c.core_time-leaving.ensures.few in omega (arith, leaving, b, d, long);
      few_banned = let b = was.numbers.few_banned in let d = c.core_time-banned.ensures.few in omega (arith, banned, b, d, long);
      few_free = let b = was.numbers.few_free in let d = c.core_time-free.ensures.few in omega (arith, free, b, d, long);
      few_over = let b = was.numbers.few_over in let d = c.ticks_if-over.type_inv in omega (arith, over, b, d, long);
    }
