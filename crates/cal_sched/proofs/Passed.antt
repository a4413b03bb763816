-- One pass more: what was found is its input, what was decided is sent, and what a scheduler keeps
-- holds again.
use Rattle.cal_sched.proofs.Common.{◌≡◌, ℕ, ◌<◌, true, false, List, [], ◌∷◌, ◌++◌, length, Some, slice_get, slice_index_or, option_map, refl, sym, ap, subst, ◌∙◌, arith, length-append, slice_get_within, slice_get-map, unwrap_or-slice_get, Record, ObserverView, whole_of, SenderView, FoundLook, PassEntry, Policy, board_in, IsStateAfter, judged_input, rooms_found, IsInput, IsLegalBy, HasLooked, HasAsked, HaveFound, HaveSent, pass_on, SchedulerView, IsKept, MaySend, slice_get_at}
use Rattle.std.specs.Option.{unwrap_or}
use Rattle.cal_policy.specs.declared.book.Book.{Book}
use Rattle.cal_policy.specs.declared.history.input.Input.{Input}
use Rattle.cal_policy.specs.History.Found.{looks_at}
use Rattle.cal_policy.proofs.PolicyLemmas.{legal_more_by, pass_from}
use Rattle.cal_sched.proofs.Fitting.{found_is_input, found_in, looks_at-append}

module _ (s : SchedulerView) (now bandwidth : ℕ) (looked : List ObserverView) (asked : List SenderView) (found : List FoundLook) where
  -- the input of the pass, and the pass itself
  abbrev input_found : Input
  input_found = judged_input s.table s.history now bandwidth found

  abbrev pass_found : PassEntry
  pass_found = pass_on s.policy s.table s.history input_found

  pub is_input : IsKept s → HaveFound s.observers looked s.senders asked found → IsInput s.table s.history input_found
  is_input kept finds =
      found_is_input s.table s.history now bandwidth s.observers looked found kept.pages finds.pages finds.one_each kept.looks finds.looks

  pub is_legal : IsKept s → HaveFound s.observers looked s.senders asked found → IsLegalBy s.policy s.table (s.history ++ pass_found ∷ [])
  is_legal kept finds =
      legal_more_by s.policy s.table s.history pass_found kept.legal (pass_from s.policy s.table s.history pass_found (is_input kept finds) refl)

  -- the room that is known where the pass was told of it
  room_found : (k : ℕ) (one : FoundLook) → slice_get found k ≡ Some one → slice_index_or (rooms_found found) k false ≡ one.room
  room_found k one at =
      sym (unwrap_or-slice_get (rooms_found found) k false)
      ∙ ap (λ o. unwrap_or o false) (slice_get-map (λ (f : FoundLook). f.room) found k ∙ ap (option_map (λ (f : FoundLook). f.room)) at)

  pub may_send : (book : Book) → book.policy ≡ s.policy → IsKept s → HaveFound s.observers looked s.senders asked found → IsStateAfter (board_in book) (s.history ++ pass_found ∷ [])
      → MaySend s.table book (s.history ++ pass_found ∷ []) asked
  may_send book same kept finds agrees = record {
    before = s.history;
    last = pass_found;
    whole = refl;
    legal = subst (λ (p : Policy). IsLegalBy p s.table (s.history ++ pass_found ∷ [])) (sym same) (is_legal kept finds);
    agrees = agrees;
    rings = finds.rings ∙ kept.rings;
    sent = λ k is at.
        let it = asked_at k is at in
        it.4.sent ∙ kept.sent k it.0 it.2;
    room = λ k is at told.
        let it = asked_at k is at in
        let known : it.1.room ≡ true = sym (room_found k it.1 it.3) ∙ told in
        it.4.known.0 known;
  }
    where
      asked_at : (k : ℕ) (is : SenderView) → slice_get asked k ≡ Some is → (was : SenderView) × (one : FoundLook) × (slice_get s.senders k ≡ Some was) × (slice_get found k ≡ Some one) × HasAsked was is one.room
      asked_at k is at =
          let low : k < length asked = slice_get_within asked k is at in
          let rings : length asked ≡ length s.senders = finds.rings in
          let all : length s.senders ≡ length s.observers = kept.rings ∙ sym kept.pages in
          let each : length found ≡ length s.observers = finds.one_each in
          let was = slice_get_at s.senders k (omega arith) in
          let one = slice_get_at found k (omega arith) in
          (was.0, one.0, was.1, one.1, finds.rooms k was.0 is one.0 was.1 at one.1)

  pub kept_after : (sent : List SenderView) → IsKept s → length s.history < 1048576 → HaveFound s.observers looked s.senders asked found
      → HaveSent asked sent (s.history ++ pass_found ∷ []) → IsKept (record { table = s.table; policy = s.policy; history = s.history ++ pass_found ∷ []; observers = looked; senders = sent })
  kept_after sent kept few finds sends = record {
    legal = is_legal kept finds;
    few = omega (arith, length-append s.history (pass_found ∷ []));
    pages = finds.pages ∙ kept.pages;
    rings = sends.rings ∙ finds.rings ∙ kept.rings;
    looks = λ k is at.
        let low : k < length looked = slice_get_within looked k is at in
        let pages : length looked ≡ length s.observers = finds.pages in
        let each : length found ≡ length s.observers = finds.one_each in
        let was = slice_get_at s.observers k (omega arith) in
        let one = slice_get_at found k (omega arith) in
        let looks : HasLooked was.0 is one.0.look = finds.looks k was.0 is one.0 was.1 at one.1 in
        looks.looks ∙ ap (λ (ls : List (ℕ × Record)). ls ++ whole_of one.0.look) (kept.looks k was.0 was.1)
        ∙ ap (λ (ls : List (ℕ × Record)). looks_at s.history k ++ ls) (sym (found_in s.table s.history found k one.0 one.1))
        ∙ sym (looks_at-append k s.history pass_found);
    sent = sends.sent;
  }
