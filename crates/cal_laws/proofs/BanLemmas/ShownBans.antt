-- After a pass each ban is still shown.
use Rattle.cal_laws.proofs.Common.{◌≡◌, ◌⊎◌, inl, inr, ℕ, ◌+◌, ◌<◌, zero, suc, Bool, true, false, cond, eqb, List, [], ◌∷◌, ◌++◌, take, Option, Some, None, refl, sym, ap, ◌∙◌, arith, append_assoc, subst, ⊎_elim, unwrap_or, eqb-true, eq-eqb, and_parts, cases_lt, append-nil, take_all, slice_get_cases, sibling_of, Action, Unban, Ban, Revoke, Cap, Grant, BannedFor, in_turn, holder_of, ban_of, ban_made, is_held, Setting, so_far, kept_now, frees, still_shows, unban_for, unban_at, ban_due, ban_for, pass_of, ActionIsOneMore, ChosenIsOfLeastClass, Point, IsPoint, setting_at, actions_at, next_at, IsShown, so_far_push}
use Rattle.cal_policy.specs.declared.history.action.Cause.TheVariants as causes
use Rattle.cal_laws.proofs.BanLemmas.BanDue.{is_due}
use Rattle.cal_laws.proofs.PointLemmas.PassKeeps.{IsKeptInPass, nothing_more, pass_keeps}
use Rattle.cal_machine.proofs.Siblings.{sibling_back}

-- each ban of the cores below n is shown
record AreShown (s : Setting) (acts : List Action) (n : ℕ) : Type 0 where
  shown : (c : ℕ) (ban : BannedFor) → c < n → ban_of (so_far s acts) c ≡ Some ban → IsShown s c ban

-- what one more action says of a ban
ban_after : ActionIsOneMore → (s : Setting) (acts : List Action) (a : Action) (c : ℕ) →
    ban_of (so_far s (acts ++ a ∷ [])) c ≡ unwrap_or (ban_made c (so_far s acts) a) (ban_of (so_far s acts) c)
ban_after more s acts a c = ap (λ x. ban_of x c) (so_far_push s acts a) ∙ (more (so_far s acts) a).ban c

-- the kept record shows a ban that does not end
shows : (s : Setting) (c : ℕ) (ban : BannedFor) → still_shows (kept_now s ban.thread) (sibling_of c) ban.started ≡ true → IsShown s c ban
shows s c ban e =
    let both = and_parts (eqb (kept_now s ban.thread).running (sibling_of c + 1)) (eqb (kept_now s ban.thread).started ban.started) e in
    record { running = eqb-true _ _ both.0; request = eqb-true _ _ both.1 }

-- what is left of a ban after the end of one: it stood before, and on core c it is shown
record IsLeft (s : Setting) (acts : List Action) (c d : ℕ) (ban : BannedFor) : Type 0 where
  before : ban_of (so_far s acts) d ≡ Some ban
  shown : d ≡ c → IsShown s d ban

gone_by : (b : Bool) (o : Option BannedFor) (ban : BannedFor) → unwrap_or (cond b (Some None) None) o ≡ Some ban → (b ≡ false) × (o ≡ Some ban)
gone_by true o ban e = cc
gone_by false o ban e = (refl, e)

left_one : ActionIsOneMore → (s : Setting) (acts : List Action) (c d : ℕ) (old ban : BannedFor) → ban_of (so_far s acts) c ≡ Some old → (b : Bool) →
    still_shows (kept_now s old.thread) (sibling_of c) old.started ≡ b → ban_of (so_far s (acts ++ cond b [] (Unban c ∷ []))) d ≡ Some ban → IsLeft s acts c d ban
left_one more s acts c d old ban was true e is =
    let Q : List Action → Type 0 = λ l. ban_of (so_far s l) d ≡ Some ban in
    let before : ban_of (so_far s acts) d ≡ Some ban = subst Q (append-nil acts) is in record {
      before = before;
      shown = λ same.
          let here : ban_of (so_far s acts) d ≡ Some old = ap (ban_of (so_far s acts)) same ∙ was in
          let one : old ≡ ban = cc in
          let S : BannedFor → Type 0 = λ x. IsShown s d x in
          let T : ℕ → Type 0 = λ n. IsShown s n old in
          subst S one (subst T (sym same) (shows s c old e));
    }
left_one more s acts c d old ban was false e is =
    let parts = gone_by (eqb c d) (ban_of (so_far s acts) d) ban (sym (ban_after more s acts (Unban c) d) ∙ is) in record {
      before = parts.1;
      shown = λ same. let here : eqb c d ≡ true = eq-eqb c d (sym same) in absurd (let no : true ≡ false = sym here ∙ parts.0 in cc);
    }

left_for : ActionIsOneMore → (s : Setting) (acts : List Action) (c d : ℕ) (ban : BannedFor) (o : Option BannedFor) → ban_of (so_far s acts) c ≡ o →
    ban_of (so_far s (acts ++ unban_for s c o)) d ≡ Some ban → IsLeft s acts c d ban
left_for more s acts c d ban None was is =
    let Q : List Action → Type 0 = λ l. ban_of (so_far s l) d ≡ Some ban in
    let before : ban_of (so_far s acts) d ≡ Some ban = subst Q (append-nil acts) is in record {
      before = before;
      shown = λ same. absurd (let none : ban_of (so_far s acts) d ≡ None = ap (ban_of (so_far s acts)) same ∙ was in let no : None ≡ Some ban = sym none ∙ before in cc);
    }
left_for more s acts c d ban (Some old) was is = left_one more s acts c d old ban was (still_shows (kept_now s old.thread) (sibling_of c) old.started) refl is

-- after the second part each ban is shown
unban_more : ActionIsOneMore → (s : Setting) (acts : List Action) (n : ℕ) → AreShown s acts n → AreShown s (acts ++ unban_at s acts n) (suc n)
unban_more more s acts n h = record {
  shown = λ d ban lt is.
      let rest = left_for more s acts n d ban (ban_of (so_far s acts) n) refl is in
      ⊎_elim (λ below. h.shown d ban below rest.before) (λ least. rest.shown (omega arith)) (cases_lt d n);
}

unbans_shown : ActionIsOneMore → (s : Setting) (before : List Action) (n : ℕ) → AreShown s (before ++ in_turn (unban_at s) before n) n
unbans_shown more s before zero = record { shown = λ c ban lt is. absurd (omega arith) }
unbans_shown more s before (suc n) =
    let Q : List Action → Type 0 = λ l. AreShown s l (suc n) in
    let now = before ++ in_turn (unban_at s) before n in
    subst Q (append_assoc before (in_turn (unban_at s) before n) (unban_at s now n)) (unban_more more s now n (unbans_shown more s before n))

-- an action that names no ban leaves all shown
quiet : ActionIsOneMore → (s : Setting) (acts : List Action) (a : Action) (n : ℕ) → ((c : ℕ) → ban_made c (so_far s acts) a ≡ None) → AreShown s acts n → AreShown s (acts ++ a ∷ []) n
quiet more s acts a n none h = record {
  shown = λ c ban lt is. h.shown c ban lt (sym (ban_after more s acts a c ∙ ap (λ o. unwrap_or o (ban_of (so_far s acts) c)) (none c)) ∙ is);
}

-- a new ban is shown
new_by : (b : Bool) (new ban : BannedFor) (o : Option BannedFor) → unwrap_or (cond b (Some (Some new)) None) o ≡ Some ban → ((b ≡ true) × (new ≡ ban)) ⊎ (o ≡ Some ban)
new_by true new ban o e = inl (refl, cc)
new_by false new ban o e = inr e

ban_shown : ActionIsOneMore → (s : Setting) (acts : List Action) (by thread n : ℕ) → (kept_now s thread).running ≡ by + 1 → AreShown s acts n →
    AreShown s (acts ++ Ban (sibling_of by) thread (kept_now s thread).started ∷ []) n
ban_shown more s acts by thread n running h =
    let started = (kept_now s thread).started in
    let new : BannedFor = record { thread = thread; started = started } in record {
      shown = λ c ban lt is. ⊎_elim
          (λ here.
          let S : BannedFor → Type 0 = λ x. IsShown s c x in
          let back : sibling_of c ≡ by = ap sibling_of (sym (eqb-true (sibling_of by) c here.0)) ∙ sibling_back by in
          subst S here.1 (record { running = running ∙ ap (λ k. k + 1) (sym back); request = refl }))
          (λ old. h.shown c ban lt old)
          (new_by (eqb (sibling_of by) c) new ban (ban_of (so_far s acts) c) (sym (ban_after more s acts (Ban (sibling_of by) thread started) c) ∙ is));
    }

ban_then : ActionIsOneMore → (s : Setting) (acts : List Action) (ban : Action) (by n : ℕ) (b : Bool) → AreShown s (acts ++ ban ∷ []) n →
    AreShown s (acts ++ ban ∷ cond b (Revoke (sibling_of by) (causes.Ban by) ∷ []) []) n
ban_then more s acts ban by n true h =
    let Q : List Action → Type 0 = λ l. AreShown s l n in
    let revoke = Revoke (sibling_of by) (causes.Ban by) in
    subst Q (append_assoc acts (ban ∷ []) (revoke ∷ [])) (quiet more s (acts ++ ban ∷ []) revoke n (λ c. refl) h)
ban_then more s acts ban by n false h = h

ban_for_shown : ActionIsOneMore → (s : Setting) (acts : List Action) (by n : ℕ) → by < s.table.cores → (o : Option ℕ) → ban_due s (so_far s acts) by ≡ o → AreShown s acts n →
    AreShown s (acts ++ ban_for s (so_far s acts) by o) n
ban_for_shown more s acts by n lt None e h = nothing_more (λ l. AreShown s l n) acts h
ban_for_shown more s acts by n lt (Some thread) e h =
    ban_then more s acts (Ban (sibling_of by) thread (kept_now s thread).started) by n (is_held (holder_of (so_far s acts) (sibling_of by)))
    (ban_shown more s acts by thread n (is_due s acts by thread (record { core = lt; due = e })).request.shown h)

shown_kept : ActionIsOneMore → (s : Setting) → IsKeptInPass s (λ l. AreShown s l s.table.cores)
shown_kept more s = record {
  ban = λ acts c lt h. ban_for_shown more s acts c s.table.cores lt (ban_due s (so_far s acts) c) refl h;
  revoke = λ acts core cause h. quiet more s acts (Revoke core cause) s.table.cores (λ c. refl) h;
  cap = λ acts task cap h. quiet more s acts (Cap task cap) s.table.cores (λ c. refl) h;
  grant = λ acts core thread class free h. quiet more s acts (Grant core thread class) s.table.cores (λ c. refl) h;
}

pass_shown : ActionIsOneMore → ChosenIsOfLeastClass → (s : Setting) → AreShown s (pass_of s) s.table.cores
pass_shown more law s = pass_keeps law s (λ l. AreShown s l s.table.cores) (shown_kept more s) (unbans_shown more s (frees s []) s.table.cores)

-- at the end of a pass each ban of a core of the machine is shown
pub shown_at_end : ActionIsOneMore → ChosenIsOfLeastClass → (here : Point) → IsPoint here → next_at here ≡ None → (core : ℕ) (ban : BannedFor) → core < here.table.cores →
    ban_of (actions_at here) core ≡ Some ban → IsShown (setting_at here) core ban
shown_at_end more law here is end core ban lt e =
    let s = setting_at here in
    let Q : List Action → Type 0 = λ l. AreShown s l here.table.cores in
    let whole : AreShown s here.entry.actions here.table.cores = subst Q (sym (is.legal.passes here.pass here.entry is.entry).actions) (pass_shown more law s) in
    ⊎_elim
    (λ found. absurd (let no : None ≡ Some found.0 = sym end ∙ found.2 in cc))
    (λ past. let made : AreShown s (take here.made here.entry.actions) here.table.cores = subst Q (sym (take_all here.made here.entry.actions past.0)) whole in made.shown core ban lt e)
    (slice_get_cases here.entry.actions here.made).1
