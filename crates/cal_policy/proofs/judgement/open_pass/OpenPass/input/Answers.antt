-- Look by look the lists are those of what was found.
use Rattle.cal_policy.proofs.Common.{◌≡◌, ◌+◌, ◌<◌, ◌++◌, ◌∷◌, [], List, Bool, length, take, sym, ap, subst, ◌∙◌, arith, length-append, length-take, take_all, take_next, slice_get_at, threads_of_table, PassEntry, Seen, FoundLook, actions_of, judged, IsOfFound, judged_input, KeepingAgrees}
use Rattle.cal_policy.proofs.BoardLemmas.Replayed.{looks_push}
use Rattle.cal_policy.proofs.JudgementLemmas.OpenInput.{found_push}
use Rattle.cal_policy.proofs.JudgementLemmas.OpenPass.{seen_after, room_at}
use Rattle.cal_policy.proofs.judgement.open_pass.OpenPass.input.Goals as goal

pub loop-k-init : goal.loop-k-init
loop-k-init c = record {
  threads = c.requires.room;
  size = ap length c.requires.empty.0;
  found = λ h found is agrees. record { seen = c.requires.empty.0; rooms = c.requires.empty.1 };
}

pub loop-k-preserved : goal.loop-k-preserved
loop-k-preserved c =
    let k = c.loop-k.k in
    let table = c.args.config.now in
    let i = c.loop-k.invariant in
    let lists = c.loop-k.lists in
    let size : length lists.seen ≡ k = i.size in
    let count : c.args.self.now.count ≡ threads_of_table table = c.requires.all in record {
      threads = c.push.ensures.threads ∙ i.threads;
      size = ap length c.push.ensures.seen ∙ length-append lists.seen (c.seen_of.result ∷ []) ∙ ap (λ n. n + 1) size;
      found = λ h found is agrees.
          let many : c.args.self.now.count ≡ length found = is.count in
          let one = slice_get_at found k (omega arith) in
          let low : k < 128 = omega arith in
          let lt : k < length found = omega arith in
          let place : length (take k found) ≡ k = simp length-take (omega arith) in
          rw (take_next found k one.0 one.1)
          (found_push table h (take k found) one.0 lists c.push.new.self (i.found h found is agrees)
          (c.push.ensures.seen
          ∙ ap (λ (s : Seen). lists.seen ++ s ∷ []) (c.seen_of.ensures ∙ seen_after table h found c.args.self.now c.args.board.now.keeping k one.0 is agrees low one.1
          ∙ ap (λ j. judged table.cores (actions_of h) j one.0.look) (sym place)))
          (c.push.ensures.rooms ∙ ap (λ (r : Bool). lists.rooms ++ r ∷ []) (c.has_room.ensures table h found is lt ∙ room_at found k one.0 one.1)));
    }

pub returns : goal.returns
returns c = λ h found actions is agrees.
    let k = c.loop-k.k in
    let table = c.args.config.now in
    let entry : PassEntry = record { input = judged_input table h c.args.now c.args.bandwidth found; actions = actions } in
    let count : c.args.self.now.count ≡ threads_of_table table = c.requires.all in
    let many : c.args.self.now.count ≡ length found = is.count in
    let looks = subst (KeepingAgrees c.args.board.now.keeping) (looks_push h entry) agrees.looks in
    let all : take k found ≡ found = take_all k found (omega arith) in
    c.finish.ensures.judged table h found (subst (λ (l : List FoundLook). IsOfFound table h l c.loop-k.lists) all (c.loop-k.invariant.found h found is looks))
