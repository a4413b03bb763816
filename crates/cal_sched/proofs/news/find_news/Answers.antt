use Rattle.cal_sched.proofs.Common.{◌≡◌, ℕ, ◌+◌, ◌<◌, ◌≤◌, true, false, List, [], ◌∷◌, ◌++◌, Some, slice_get, length, refl, sym, ap, subst, ◌∙◌, arith, rules, slice_get_read, ObserverView, SenderView, threads_of_table, PassEntry, FoundLook, actions_of, looks_of, judged, IsFitLook, IsOpenAt, HaveFoundSo, HasLooked, HasAsked, some_same}
use Rattle.cal_policy.specs.declared.judgement.open_pass.OpenPass.{OpenPass}
use Rattle.cal_policy.specs.History.Looks.{last_shown}
use Rattle.cal_sched.proofs.Below.{Below-none, Below-more}
use Rattle.cal_sched.proofs.Fitting.{next_fits}
use Rattle.cal_sched.proofs.Found.{Looks, Asks, FoundBelow, FoundBelow-all}
use Rattle.cal_sched.proofs.news.find_news.Goals as goal
use Rattle.cal_sched.proofs.news.find_news.Goals.{then-not-pass_over, else-not-pass_over}

pub loop-k-init : goal.loop-k-init
loop-k-init c = record {
  count = (c.requires.begun []).count;
  found = rw c.requires.nothing (record { pages = Below-none Looks c.args.observers.now; rings = Below-none Asks c.args.senders.now });
  taken = λ h quiet agrees so. rw c.requires.nothing (c.requires.begun h);
}

pub loop-k-preserved : goal.loop-k-preserved
loop-k-preserved c =
    let k = c.loop-k.k in
    let threads : c.threads-k-end.result ≡ threads_of_table c.args.config.now = c.threads-k-end.ensures.count in
    let lt : k < c.threads-k-end.result = c.loop-k-test.true in
    let pages : length c.args.observers.now ≡ threads_of_table c.args.config.now = c.requires.pages in
    let rings : length c.args.senders.now ≡ threads_of_table c.args.config.now = c.requires.rings in
    let found = c.loop-k.found in
    let old : OpenPass = c.loop-k.pass in
    let below : FoundBelow k c.args.observers.now c.loop-k.observers c.args.senders.now c.loop-k.senders found = c.loop-k.invariant.found in
    let many_pages : length c.loop-k.observers ≡ length c.args.observers.now = below.pages.same_many in
    let many_rings : length c.loop-k.senders ≡ length c.args.senders.now = below.rings.same_many in
    let low_page : k < length c.loop-k.observers = omega arith in
    let low_ring : k < length c.loop-k.senders = omega arith in
    let one : FoundLook = record { look = c.observe-look.result; room = c.room-room.result } in
    let was : ObserverView = c.index-observers-k.result in
    let had : SenderView = c.index-senders-k.result in
    let at : slice_get c.loop-k.observers k ≡ Some was = slice_get_read c.loop-k.observers (length c.loop-k.observers) k was refl low_page c.index-observers-k.is in
    let on : slice_get c.loop-k.senders k ≡ Some had = slice_get_read c.loop-k.senders (length c.loop-k.senders) k had refl low_ring c.index-senders-k.is in
    let looked : HasLooked was c.observe-look.new.self c.observe-look.result = rw c.index-observers-k.is (record {
      page = c.observe-look.ensures.page;
      looks = c.observe-look.ensures.looks;
      found = c.observe-look.ensures.found;
    }) in
    let asked : HasAsked had c.room-room.new.self c.room-room.result = rw c.index-senders-k.is (record {
      ring = c.room-room.ensures.same.0;
      sent = c.room-room.ensures.same.1;
      kept = c.room-room.ensures.kept;
      known = c.room-room.ensures.known;
    }) in
    let added : c.note.new.self ≡ found ++ one ∷ [] = c.note.ensures in
    let count : old.count ≡ k = c.loop-k.invariant.count in
    let first : slice_get c.args.observers.now k ≡ Some was = sym (below.pages.rest k (omega arith)) ∙ at in
    let fits : (h : List PassEntry) → HaveFoundSo h c.args.observers.now → IsFitLook (last_shown (looks_of h) k) (judged c.args.config.now.cores (actions_of h) k one.look) = λ h so.
    next_fits c.args.config.now h k one.look was c.observe-look.new.self (so k was first) looked in
    record {
      count = elim c.if-not-pass_over.branch [
        | then-not-pass_over w ↦
            let over : c.pass_over.result ≡ false = search rules in
            rw w.pass-is (w.take.ensures.count ∙ ap (λ (p : OpenPass). p.count + 1) (c.pass_over.ensures.same over) ∙ ap (λ n. n + 1) count)
        | else-not-pass_over w ↦
            let over : c.pass_over.result ≡ true = search rules in
            rw w.pass-is (c.pass_over.ensures.count over ∙ ap (λ n. n + 1) count)
      ];
      found = rw added (record {
        pages = Below-more Looks k c.args.observers.now c.loop-k.observers found c.observe-look.new.self one (omega arith) below.pages (λ w e. rw (some_same w was (sym e ∙ at)) looked);
        rings = Below-more Asks k c.args.senders.now c.loop-k.senders found c.room-room.new.self one (omega arith) below.rings (λ w e. rw (some_same w had (sym e ∙ on)) asked);
      });
      taken = λ h quiet agrees so.
          let is : IsOpenAt c.args.config.now h found old = c.loop-k.invariant.taken h quiet agrees so in
          rw added (elim c.if-not-pass_over.branch [
            | then-not-pass_over w ↦
                let over : c.pass_over.result ≡ false = search rules in
                let same : c.pass_over.new.self ≡ old = c.pass_over.ensures.same over in
                let Fits : ℕ → Type 0 = λ n. IsFitLook (last_shown (looks_of h) n) (judged c.args.config.now.cores (actions_of h) n one.look) in
                let Open : OpenPass → Type 0 = λ p. IsOpenAt c.args.config.now h found p in
                let fit : Fits c.pass_over.new.self.count = subst Fits (sym (ap (λ (p : OpenPass). p.count) same ∙ count)) (fits h so) in
                rw w.pass-is (w.take.ensures.taken h found agrees (subst Open (sym same) is) fit)
            | else-not-pass_over w ↦
                let over : c.pass_over.result ≡ true = search rules in
                rw w.pass-is (c.pass_over.ensures.taken over c.args.config.now h found quiet agrees is)
          ]);
    }

pub returns : goal.returns
returns c =
    let k = c.loop-k.k in
    let threads : c.threads-k-end.result ≡ threads_of_table c.args.config.now = c.threads-k-end.ensures.count in
    let ge : c.threads-k-end.result ≤ k = c.loop-k-test.false in
    let le : k ≤ c.threads-k-end.result = c.loop-k.auto.k-end in
    let pages : length c.args.observers.now ≡ threads_of_table c.args.config.now = c.requires.pages in
    let count : c.loop-k.pass.count ≡ k = c.loop-k.invariant.count in
    record {
      all = omega arith;
      found = FoundBelow-all k c.args.observers.now c.loop-k.observers c.args.senders.now c.loop-k.senders c.loop-k.found (omega arith) c.loop-k.invariant.found;
      taken = c.loop-k.invariant.taken;
    }
