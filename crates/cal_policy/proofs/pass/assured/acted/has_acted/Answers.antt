-- What the actions up to each say of the task.
use Rattle.cal_policy.proofs.Common.{◌≡◌, ◌+◌, ◌||◌, ◌∷◌, ◌++◌, [], Bool, true, false, ℕ, List, take, drop, refl, sym, ap, ◌∙◌, take-append-drop, take_more, take_all, Table, Action, is_act_of, has_acted}
use Rattle.cal_policy.proofs.AssuredLemmas.Acts.{acted_more}
use Rattle.cal_policy.proofs.pass.assured.acted.has_acted.Goals as goal

either_so : (a b : Bool) → a ≡ false → (a || (b || false)) ≡ b
either_so true b e = cc
either_so false true e = refl
either_so false false e = refl

-- one action more
one_more : (table : Table) (acts : List Action) (t n : ℕ) (a : Action) → has_acted table (take n acts) t ≡ false → take (n + 1) acts ≡ take n acts ++ a ∷ [] →
    has_acted table (take (n + 1) acts) t ≡ is_act_of table t a
one_more table acts t n a none e =
    ap (λ l. has_acted table l t) e ∙ acted_more table (take n acts) (a ∷ []) t ∙ either_so (has_acted table (take n acts) t) (is_act_of table t a) none

or_true : (a b : Bool) → a ≡ true → (a || b) ≡ true
or_true true b e = refl
or_true false b e = cc

-- what the first say all say
first_say : (table : Table) (acts : List Action) (t n : ℕ) → has_acted table (take n acts) t ≡ true → has_acted table acts t ≡ true
first_say table acts t n e =
    ap (λ l. has_acted table l t) (sym (take-append-drop n acts)) ∙ acted_more table (take n acts) (drop n acts) t ∙ or_true (has_acted table (take n acts) t) (has_acted table (drop n acts) t) e

pub loop-action-preserved : goal.loop-action-preserved
loop-action-preserved c =
    one_more c.args.config.now c.args.acts.now c.args.task c.loop-action.action-index _ c.loop-action.invariant (take_more c.args.acts.now c.loop-action.action-index _ c.loop-action-test.true)
    ∙ sym c.is_act_of.ensures ∙ c.if-is_act_of.false

pub returns-then-is_act_of : goal.returns-then-is_act_of
returns-then-is_act_of c =
    sym (first_say c.args.config.now c.args.acts.now c.args.task (c.loop-action.action-index + 1)
    (one_more c.args.config.now c.args.acts.now c.args.task c.loop-action.action-index _ c.loop-action.invariant (take_more c.args.acts.now c.loop-action.action-index _ c.loop-action-test.true)
    ∙ sym c.is_act_of.ensures ∙ c.if-is_act_of.true))

pub returns : goal.returns
returns c =
    sym (ap (λ l. has_acted c.args.config.now l c.args.task) (sym (take_all c.loop-action.action-index c.args.acts.now c.loop-action-test.false)) ∙ c.loop-action.invariant)
