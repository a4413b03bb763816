-- What is true of a state is true of its twin.
use Rattle.cal_guard.proofs.Common.{◌≡◌, ℕ, ◌+◌, ◌<◌, zero, suc, cond, List, [], ◌∷◌, length, Option, Some, None, get_or, refl, sym, ap, subst, ◌∙◌, arith, ⊎_elim, slice_get, IfSome, option_map, cases_lt, get_or_past, Table, threads_of_table, has_thread, Action, PassEntry, Seen, Busy, Board, Holder, is_thread_for, Setting, placement_of, holder_in, IsReady, IsStateAfter, Stands, Agrees, KeepingAgrees, Listed, Noted, Passing, IsInside, AreShown, AreTwins, IsSpareOf, HasPlaces}
use Rattle.cal_policy.specs.declared.board.holders.Holder.TheVariants as holders
use Rattle.cal_policy.specs.declared.board.holders.Placement as placements
use Rattle.cal_policy.specs.Board.RecentCores.{last_thread_in}
use Rattle.cal_policy.specs.declared.board.bans.BannedFor as bans
use Rattle.cal_policy.specs.declared.judgement.open_pass.OpenPass.{OpenPass}
use Rattle.cal_policy.specs.Judgement.OpenPass.{noted_in}
use Rattle.cal_policy.specs.declared.board.records.Keeping.{Keeping}
use Rattle.cal_policy.specs.Board.Survey.{Surveys}
use Rattle.cal_guard.specs.declared.pass_looks.PassLooks.{PassLooks}

-- two boards that agree with the same actions agree with the same others
agree_alike : (a b : Board) (x y : List Action) → Agrees a x → Agrees b x → Agrees a y → Agrees b y
agree_alike a b x y ax bx ay = record {
  holding = record {
    granted = λ c lt. bx.holding.granted c lt ∙ sym (ax.holding.granted c lt) ∙ ay.holding.granted c lt;
    holders = λ c lt. bx.holding.holders c lt ∙ sym (ax.holding.holders c lt) ∙ ay.holding.holders c lt;
    sent = λ k lt. bx.holding.sent k lt ∙ sym (ax.holding.sent k lt) ∙ ay.holding.sent k lt;
  };
  bans = record { bans = λ c lt. bx.bans.bans c lt ∙ sym (ax.bans.bans c lt) ∙ ay.bans.bans c lt };
  caps = record { caps = λ t lt. bx.caps.caps t lt ∙ sym (ax.caps.caps t lt) ∙ ay.caps.caps t lt };
  banned = record { banned = λ c lt. bx.banned.banned c lt ∙ sym (ax.banned.banned c lt) ∙ ay.banned.banned c lt };
  debts = record { owed = λ c lt. bx.debts.owed c lt ∙ sym (ax.debts.owed c lt) ∙ ay.debts.owed c lt };
}

-- records that agree with the same looks agree with the same others
keep_alike : (a b : Keeping) (x y : List (List Seen)) → KeepingAgrees a x → KeepingAgrees b x → KeepingAgrees a y → KeepingAgrees b y
keep_alike a b x y ax bx ay = record {
  kept = λ k lt. bx.kept k lt ∙ sym (ax.kept k lt) ∙ ay.kept k lt;
  shown = λ k lt. bx.shown k lt ∙ sym (ax.shown k lt) ∙ ay.shown k lt;
}

stand_alike : (a b : Board) (s t : Setting) (acts more : List Action) → Stands a s acts → Stands b s acts → Stands a t more → Stands b t more
stand_alike a b s t acts more sa sb st = record {
  agrees = agree_alike a b _ _ sa.agrees sb.agrees st.agrees;
  fresh = record { fresh = λ c lt. sb.fresh.fresh c lt ∙ sym (sa.fresh.fresh c lt) ∙ st.fresh.fresh c lt };
  looks = keep_alike a.keeping b.keeping _ _ sa.looks sb.looks st.looks;
  before = record { before = λ k lt. sb.before.before k lt ∙ sym (sa.before.before k lt) ∙ st.before.before k lt };
}

-- a twin is inside each pass that the other is inside of, and after each history
pub twin_inside : (p q : Passing) → AreTwins p q → (s : Setting) (acts : List Action) → IsInside p s acts → IsInside q s acts
twin_inside p q twins s acts is = record {
  stands = stand_alike p.board q.board twins.setting s twins.acts acts twins.one.stands twins.other.stands is.stands;
  sent = record { sent = λ k lt. twins.other.sent.sent k lt ∙ sym (twins.one.sent.sent k lt) ∙ is.sent.sent k lt };
  made = twins.made ∙ is.made;
  few = is.few;
  low = is.low;
}

pub twin_state : (p q : Passing) → AreTwins p q → (h : List PassEntry) → IsStateAfter p.board h → IsStateAfter q.board h
twin_state p q twins h is = record {
  actions = agree_alike p.board q.board _ _ twins.one.stands.agrees twins.other.stands.agrees is.actions;
  looks = keep_alike p.board.keeping q.board.keeping _ _ twins.one.stands.looks twins.other.stands.looks is.looks;
}

pub twin_back : (p q : Passing) → AreTwins p q → AreTwins q p
twin_back p q twins = record { setting = twins.setting; acts = twins.acts; one = twins.other; other = twins.one; made = sym twins.made }

-- a copy of a state that has a twin is a spare of it
pub copy_is_spare : (p q r : Passing) → AreTwins p q → r ≡ p → IsSpareOf p r
copy_is_spare p q r twins same =
    let P : Passing → Type 0 = λ x. IsSpareOf p x in
    subst P (sym same) (record {
      twins = record { setting = twins.setting; acts = twins.acts; one = twins.one; other = twins.one; made = refl };
      ready = λ table ready. ready;
    })

-- lists of as many places that have the same below that number have the same everywhere
same_places : {X : Type 0} (xs ys : List X) (n : ℕ) (d : X) → length xs ≡ n → length ys ≡ n → ((c : ℕ) → c < n → get_or ys c d ≡ get_or xs c d) → (c : ℕ) → get_or ys c d ≡ get_or xs c d
same_places xs ys n d lx ly same c = ⊎_elim (λ lt. same c lt) (λ le. get_or_past ys c d (omega (arith, ly, le)) ∙ sym (get_or_past xs c d (omega (arith, lx, le)))) (cases_lt c n)

-- counts of the cores that the same holders have
surveys_alike : (one other : Table) (held kept : ℕ → Holder) (a b : Board) → ((c : ℕ) → kept c ≡ held c) → Surveys one held a.survey → Surveys one kept b.survey →
    Surveys other held a.survey → Surveys other kept b.survey
surveys_alike one other held kept a b same sa sb wa =
    let all : kept ≡ held = λ i c. same c i in
    let P : (ℕ → Holder) → Type 0 = λ f. Surveys one f b.survey in
    let Q : (ℕ → Holder) → Type 0 = λ f. Surveys other f b.survey in
    let there : Surveys one held b.survey = subst P all sb in
    subst Q (sym all) (record {
      held = λ t lt. there.held t lt ∙ sym (sa.held t lt) ∙ wa.held t lt;
      booked = λ t lt. there.booked t lt ∙ sym (sa.booked t lt) ∙ wa.booked t lt;
      placed = λ k lt. there.placed k lt ∙ sym (sa.placed k lt) ∙ wa.placed k lt;
      awaited = λ t lt. there.awaited t lt ∙ sym (sa.awaited t lt) ∙ wa.awaited t lt;
    })

pub ready_alike : (one other : Table) (a b : Board) (x : List Action) → HasPlaces a → HasPlaces b → Agrees a x → Agrees b x → IsReady one a → IsReady one b → IsReady other a → IsReady other b
ready_alike one other a b x wide wide2 ax bx ra rb other_a =
    let n = threads_of_table other in
    let grants = same_places a.holding.granted b.holding.granted 128 None wide.granted wide2.granted (λ c lt. bx.holding.granted c lt ∙ sym (ax.holding.granted c lt)) in
    let keeps = same_places a.holding.holders b.holding.holders 128 holders.Free wide.holders wide2.holders (λ c lt. bx.holding.holders c lt ∙ sym (ax.holding.holders c lt)) in
    let banned = same_places a.bans.bans b.bans.bans 128 None wide.bans wide2.bans (λ c lt. bx.bans.bans c lt ∙ sym (ax.bans.bans c lt)) in
    record {
      sound = rb.sound;
      own = record {
        holding = record {
          granted = λ c. (let P : Option placements.Placement → Type 0 = λ o. IfSome o (λ placement. placement.thread < n) in subst P (sym (grants c)) (other_a.own.holding.granted c));
          holders = λ c. (let P : Holder → Type 0 = λ h. IfSome (placement_of h) (λ placement. placement.thread < n) in subst P (sym (keeps c)) (other_a.own.holding.holders c));
          sent = rb.own.holding.sent;
        };
        bans = record { bans = λ c. (let P : Option bans.BannedFor → Type 0 = λ o. IfSome o (λ ban. ban.thread < n) in subst P (sym (banned c)) (other_a.own.bans.bans c)) };
      };
      counts = surveys_alike one other (holder_in a.holding) (holder_in b.holding) a b keeps ra.counts rb.counts other_a.counts;
      sets = rb.sets;
      opens = rb.opens;
      recent = record {
        cores = λ t lt c.
            let same : last_thread_in b.holding c ≡ last_thread_in a.holding c = ap (option_map (λ (p : placements.Placement). p.thread)) (grants c) in
            rb.recent.cores t lt c ∙ ap (is_thread_for one t) same ∙ sym (ra.recent.cores t lt c) ∙ other_a.recent.cores t lt c ∙ ap (is_thread_for other t) (sym same);
      };
      keeping = rb.keeping;
      shows = rb.shows;
    }

-- the looks that show what is noted, and at each other thread a busy page
one_noted : OpenPass → ℕ → Seen
one_noted pass k = cond (has_thread pass.listed k) (noted_in pass k) (Busy 1 1)

all_noted : OpenPass → ℕ → ℕ → List Seen
all_noted pass first zero = []
all_noted pass first (suc n) = one_noted pass first ∷ all_noted pass (first + 1) n

noted_there : (pass : OpenPass) (first n k : ℕ) → k < n → slice_get (all_noted pass first n) k ≡ Some (one_noted pass (first + k))
unfolding all_noted
noted_there pass first zero k lt = absurd (omega (arith, lt))
noted_there pass first (suc n) zero lt = let e : first ≡ first + 0 = omega arith in ap (λ j. Some (one_noted pass j)) e
noted_there pass first (suc n) (suc k) lt =
    let e : first + 1 + k ≡ first + suc k = omega arith in
    noted_there pass (first + 1) n k (omega (arith, lt)) ∙ ap (λ j. Some (one_noted pass j)) e

pub some_looks : (looks : PassLooks) → (seen : List Seen) × AreShown looks seen
unfolding one_noted
some_looks (Listed listed) = (listed.now, refl)
some_looks (Noted pass) = (all_noted pass.now 0 128, record { shows = λ k lt. let e : 0 + k ≡ k = omega arith in noted_there pass.now 0 128 k lt ∙ ap (λ j. Some (one_noted pass.now j)) e })
