use Rattle.cal_guard.proofs.Common.{◌≡◌, ℕ, ◌+◌, ◌<◌, ◌++◌, length, take, Some, None, true, false, refl, sym, ap, subst, ◌∙◌, arith, length-append, take_all, append-nil, slice_get-get_or, slice_get_past, Action, Setting, setting_at, so_far, each_more, each_all, each_at, after_more, IsPermitted, IsInside, IsAfter, NamesTable, Free, wrong_next}
use Rattle.cal_guard.proofs.Sent.{not_some}
use Rattle.cal_guard.proofs.Taking.{none_wrong}
use Rattle.cal_guard.proofs.Wrong.{right, settles, settles_back}
use Rattle.cal_guard.proofs.passing.Passing.take_each.Goals as goal

pub loop-place-init : goal.loop-place-init
loop-place-init c = record {
  run = λ h acts is. record {
    each = λ i lt a e. absurd (omega (arith, lt));
    inside = subst (IsInside c.args.self.now (setting_at c.args.config.now c.args.terms.now h)) (sym (append-nil acts)) is;
  };
  after = λ s acts is. subst (IsAfter c.args.self.now s) (sym (append-nil acts)) is;
  follow = λ i lt a e. absurd (omega (arith, lt));
  made = omega arith;
  ready = c.requires.ready;
}

pub wrong_with-requires-clause-ready : goal.wrong_with-requires-clause-ready
wrong_with-requires-clause-ready c = c.loop-place.invariant.ready

pub returns-in-Some-clause-exact : goal.returns-in-Some-clause-exact
returns-in-Some-clause-exact c = λ h acts is.
    let run = c.loop-place.invariant.run h acts is in
    let n = c.loop-place.place in
    let actions = c.args.actions.now in
    let s : Setting = setting_at c.args.config.now c.args.terms.now h in
    let P : ℕ → Action → Type 0 = λ j a. IsPermitted s (acts ++ take j actions) a in (
      λ yes. let no : false ≡ true = yes in cc,
      λ may.
          let p = each_at P actions n _ c.loop-place-test.true may.each in
          let none = none_wrong s acts actions n _ c.loop-place-test.true may p in
          let both : Some c.in-Some.why ≡ None = sym c.in-Some.is ∙ c.wrong_with.ensures.wrong h (acts ++ take n actions) run.inside ∙ none in cc,
    )

pub returns-in-Some-clause-first : goal.returns-in-Some-clause-first
returns-in-Some-clause-first c = λ h acts is.
    let run = c.loop-place.invariant.run h acts is in
    let n = c.loop-place.place in
    let actions = c.args.actions.now in
    let s : Setting = setting_at c.args.config.now c.args.terms.now h in record {
      within = (let lt = c.loop-place-test.true in omega (arith, lt));
      before = λ i a lt e. run.each i lt a e;
      why = ap (wrong_next s (acts ++ take n actions)) (slice_get-get_or actions n _ c.loop-place-test.true) ∙ sym (c.wrong_with.ensures.wrong h (acts ++ take n actions) run.inside) ∙ c.in-Some.is;
    }

pub returns-in-Some-clause-ready : goal.returns-in-Some-clause-ready
returns-in-Some-clause-ready c = c.loop-place.invariant.ready

pub take-requires-clause-ready : goal.take-requires-clause-ready
take-requires-clause-ready c = c.loop-place.invariant.ready

pub loop-place-preserved : goal.loop-place-preserved
loop-place-preserved c = record {
  run = λ h acts is.
      let run = c.loop-place.invariant.run h acts is in
      let n = c.loop-place.place in
      let actions = c.args.actions.now in
      let s : Setting = setting_at c.args.config.now c.args.terms.now h in
      let P : ℕ → Action → Type 0 = λ j a. IsPermitted s (acts ++ take j actions) a in
      let none = not_some c.wrong_with.result c.in_default.not-Some in
      let p = right s (acts ++ take n actions) _ run.inside.low (sym (c.wrong_with.ensures.wrong h (acts ++ take n actions) run.inside) ∙ none) in record {
        each = each_more P actions n _ run.each p;
        inside = subst (IsInside c.take.new.self s) (after_more acts actions n _ c.loop-place-test.true) (c.take.ensures.inside s (acts ++ take n actions) run.inside p);
      };
  after = λ s acts is.
      let n = c.loop-place.place in
      let actions = c.args.actions.now in
      subst (IsAfter c.take.new.self s) (after_more acts actions n _ c.loop-place-test.true) (c.take.ensures.after s (acts ++ take n actions) (c.loop-place.invariant.after s acts is));
  follow =
      let P : ℕ → Action → Type 0 = λ i a. NamesTable c.args.config.now a × (c.args.self.now.made + i < 338) in
      let few = c.in_default.ensures.few in
      let made = c.loop-place.invariant.made in
      each_more P c.args.actions.now c.loop-place.place (Free 0) c.loop-place.invariant.follow (c.in_default.ensures.names, omega (arith, few, made));
  made = let made = c.loop-place.invariant.made in let more = c.take.ensures.made in omega (arith, made, more);
  ready = c.take.ensures.ready;
}

pub left_undone-requires-clause-ready : goal.left_undone-requires-clause-ready
left_undone-requires-clause-ready c = c.loop-place.invariant.ready

pub returns-in-Some-left_undone-clause-exact : goal.returns-in-Some-left_undone-clause-exact
returns-in-Some-left_undone-clause-exact c = λ h acts is.
    let run = c.loop-place.invariant.run h acts is in
    let n = c.loop-place.place in
    let actions = c.args.actions.now in
    let s : Setting = setting_at c.args.config.now c.args.terms.now h in
    let whole : take n actions ≡ actions = take_all n actions c.loop-place-test.false in
    let inside = subst (λ l. IsInside c.loop-place.self s (acts ++ l)) whole run.inside in (
      λ yes. let no : false ≡ true = yes in cc,
      λ may. let both : Some c.in-Some-left_undone.why ≡ None = sym c.in-Some-left_undone.is ∙ c.left_undone.ensures (so_far s (acts ++ actions)) inside.stands.agrees ∙ settles_back s (acts ++ actions) may.settled in cc,
    )

pub returns-in-Some-left_undone-clause-first : goal.returns-in-Some-left_undone-clause-first
returns-in-Some-left_undone-clause-first c = λ h acts is.
    let run = c.loop-place.invariant.run h acts is in
    let n = c.loop-place.place in
    let actions = c.args.actions.now in
    let s : Setting = setting_at c.args.config.now c.args.terms.now h in
    let P : ℕ → Action → Type 0 = λ j a. IsPermitted s (acts ++ take j actions) a in
    let whole : take n actions ≡ actions = take_all n actions c.loop-place-test.false in
    let all : take (length actions) actions ≡ actions = take_all (length actions) actions (omega arith) in
    let inside = subst (λ l. IsInside c.loop-place.self s (acts ++ l)) whole run.inside in record {
      within = omega arith;
      before = λ i a lt e. each_all P actions n c.loop-place-test.false run.each i a e;
      why = ap (wrong_next s (acts ++ take (length actions) actions)) (slice_get_past actions (length actions) (omega arith))
          ∙ ap (λ l. wrong_next s (acts ++ l) None) all ∙ sym (c.left_undone.ensures (so_far s (acts ++ actions)) inside.stands.agrees) ∙ c.in-Some-left_undone.is;
    }

pub returns-in-Some-left_undone-clause-ready : goal.returns-in-Some-left_undone-clause-ready
returns-in-Some-left_undone-clause-ready c = c.loop-place.invariant.ready

pub returns-clause-exact : goal.returns-clause-exact
returns-clause-exact c = λ h acts is.
    let run = c.loop-place.invariant.run h acts is in
    let n = c.loop-place.place in
    let actions = c.args.actions.now in
    let s : Setting = setting_at c.args.config.now c.args.terms.now h in
    let P : ℕ → Action → Type 0 = λ j a. IsPermitted s (acts ++ take j actions) a in
    let inside = subst (λ l. IsInside c.loop-place.self s (acts ++ l)) (take_all n actions c.loop-place-test.false) run.inside in
    let sum = length-append acts actions in
    let few = inside.few in (
      λ yes. record {
        each = each_all P actions n c.loop-place-test.false run.each;
        short = omega (arith, sum, few);
        settled = settles s (acts ++ actions) inside.low
            (sym (c.left_undone.ensures (so_far s (acts ++ actions)) inside.stands.agrees) ∙ not_some c.left_undone.result c.in_default-left_undone.not-Some);
      },
      λ may. refl,
    )

pub returns-clause-inside : goal.returns-clause-inside
returns-clause-inside c = λ ok h acts is.
    let run = c.loop-place.invariant.run h acts is in
    let n = c.loop-place.place in
    let actions = c.args.actions.now in
    let s : Setting = setting_at c.args.config.now c.args.terms.now h in
    subst (λ l. IsInside c.loop-place.self s (acts ++ l)) (take_all n actions c.loop-place-test.false) run.inside

pub returns-clause-ready : goal.returns-clause-ready
returns-clause-ready c = c.loop-place.invariant.ready

pub returns-clause-after : goal.returns-clause-after
returns-clause-after c = λ ok s acts is.
    subst (λ l. IsAfter c.loop-place.self s (acts ++ l)) (take_all c.loop-place.place c.args.actions.now c.loop-place-test.false) (c.loop-place.invariant.after s acts is)

pub returns-clause-follow : goal.returns-clause-follow
returns-clause-follow c = λ ok.
    let P : ℕ → Action → Type 0 = λ i a. NamesTable c.args.config.now a × (c.args.self.now.made + i < 338) in
    each_all P c.args.actions.now c.loop-place.place c.loop-place-test.false c.loop-place.invariant.follow

pub returns-clause-made : goal.returns-clause-made
returns-clause-made c = λ ok. let made = c.loop-place.invariant.made in let past = c.loop-place-test.false in omega (arith, made, past)
