-- No thread before this one may be granted a core, so the first that may be is one to choose from.
use Rattle.cal_policy.proofs.Common.{◌≡◌, ◌+◌, ◌<◌, ℕ, Bool, None, nat_lt, refl, ap, sym, ◌∙◌, arith, is_some, thread_of, limit_of, Task, setting_in, best_below, thread_rank, so_far}
use Rattle.cal_policy.proofs.ListLemmas.OneNumberMore.{best_more, some_is_best}
use Rattle.cal_policy.proofs.pass.Pass.has_thread.Goals as goal

beats : ℕ → ℕ → Bool
beats rank best = nat_lt best rank

pub loop-j-preserved : goal.loop-j-preserved
unfolding beats
loop-j-preserved c = λ h acts st.
    let s = setting_in c.args.self.now h in
    let x = so_far s acts in
    let table = c.args.self.now.config.now in
    sym (best_more beats (λ (j : ℕ). thread_rank s x (thread_of table c.args.task j)) c.loop-j.j None None (sym (c.loop-j.invariant h acts st))
    (c.in_default.ensures h acts st ∙ ap (λ first. thread_rank s x (first + c.loop-j.j)) c.threads_of-first.ensures.first))

pub returns-in-Some : goal.returns-in-Some
unfolding beats
returns-in-Some c = λ h acts st.
    let s = setting_in c.args.self.now h in
    let x = so_far s acts in
    let table = c.args.self.now.config.now in
    let limit = ap (λ (t : Task). t.limit) c.task-j-end.ensures.task in
    let below : c.loop-j.j < limit_of table c.args.task = omega (arith, limit) in
    sym (some_is_best beats (λ (j : ℕ). thread_rank s x (thread_of table c.args.task j)) (limit_of table c.args.task) c.loop-j.j _ below refl
    (c.in-Some.ensures h acts st ∙ ap (λ first. thread_rank s x (first + c.loop-j.j)) c.threads_of-first.ensures.first))

pub returns : goal.returns
unfolding beats
returns c = λ h acts st.
    let s = setting_in c.args.self.now h in
    let x = so_far s acts in
    let table = c.args.self.now.config.now in
    let limit = ap (λ (t : Task). t.limit) c.task-j-end.ensures.task in
    let all : c.loop-j.j ≡ limit_of table c.args.task = omega (arith, limit) in
    sym (ap is_some (ap (best_below beats (λ (j : ℕ). thread_rank s x (thread_of table c.args.task j))) (sym all) ∙ c.loop-j.invariant h acts st))
