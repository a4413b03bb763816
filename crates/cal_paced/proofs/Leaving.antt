-- What a thread has left over after a turn, by what the turn handed out.
use Rattle.cal_paced.proofs.Common.{◌≡◌, ℕ, ◌+◌, ◌-◌, ◌<◌, ◌≤◌, Bool, true, false, nat_le, if◌then◌else◌, is_some, Option, Some, None, IfSome, List, refl, sym, ap, subst, ◌∙◌, ◌&&◌, arith, nat_lt, option_map, nat_tests, core_in_turn, does_work, provided_if, turned_on, worked_if, work_in_turn, ThreadView, KernelView, Answers, arrived, taken, provided, shown, fronted, Entry, MOST_CORES, Request, IsShaped, running_word, zero_record, Record, entry_of_work, work, IsTurnTold, last_record, comes_to_turn, left_over, WHOLE}
use Rattle.cal_command.specs.Rings.{TakerView}
use Rattle.cal_kthread.proofs.TurnLemmas.Publishing.{last_snoc}
use Rattle.cal_kthread.specs.Queue.{QueueView}
use Rattle.cal_kthread.specs.declared.journal.entry.Entry.TheVariants.{Served}
use Rattle.cal_kthread.specs.declared.queue.waiting.Waiting.{Waiting}
use Rattle.cal_kthread.specs.declared.turn.current.Current.{Current}
use Rattle.cal_kthread.specs.declared.turn.sources.Source.{Source}
use Rattle.cal_signal.specs.Ends.{PublisherView}
use Rattle.cal_kthread.specs.declared.turn.done.Worked.{Worked}
use Rattle.cal_kthread.specs.declared.turn.entries.TurnEntries.{TurnEntries}

-- what is left over by the entry of the third step, and by the core on which the thread then is
abbrev pub told_left : ℕ → (ℕ → ℕ) → Option Entry → Option ℕ → ℕ
told_left saved shares (Some entry) core = 0
told_left saved shares None None = saved
told_left saved shares None (Some core) = if nat_lt (saved + shares core) WHOLE then saved + shares core else saved + shares core - WHOLE

low-total : (c total : ℕ) → c < MOST_CORES → false ≡ (nat_lt c MOST_CORES && nat_le WHOLE total) → nat_lt total WHOLE ≡ true
low-total c total low is = grind (arith, nat_tests)

high-total : (c total : ℕ) → true ≡ (nat_lt c MOST_CORES && nat_le WHOLE total) → nat_lt total WHOLE ≡ false
high-total c total is = grind (arith, nat_tests)

-- a request that was worked on
worked-on : (saved : ℕ) (shares : ℕ → ℕ) (c : ℕ) (last : Bool) (entry : Entry) (current : Current) → nat_lt (saved + shares c) WHOLE ≡ false
    → told_left saved shares (if last then Some entry else None) (Some c) ≡ left_over saved shares (Some c) (if last then None else Some current)
worked-on saved shares c true entry current high = rw high refl
worked-on saved shares c false entry current high = refl

module _ (publisher : PublisherView) (taker : TakerView) (queue : QueueView) (sources : List Source) (misses : ℕ) where
  abbrev thread : Option ℕ → Option Current → Option Waiting → ThreadView
  thread core current front = record { publisher = publisher; taker = taker; queue = queue; sources = sources; core = core; current = current; front = front; misses = misses }

  finds-at : (now : ℕ) (core : Option ℕ) (current : Option Current) (front answer : Option Waiting) (theft : Option (ℕ × Waiting))
      → (provided now answer theft (thread core current front)).0.core ≡ core
  finds-at now None current front answer theft = refl
  finds-at now (Some core) (Some current) front answer theft = refl
  finds-at now (Some core) None (Some next) answer theft = refl
  finds-at now (Some core) None None (Some w) theft = refl
  finds-at now (Some core) None None None None = refl
  finds-at now (Some core) None None None (Some theft) = refl

  -- the third step, done or not
  third-at : (saved : ℕ) (shares : ℕ → ℕ) (does : Bool) (core : Option ℕ) (current : Option Current) (front : Option Waiting)
      → IfSome core (λ c. does ≡ comes_to_turn saved shares c) → let z = worked_if does (thread core current front) in IfSome z.0.core (λ c. c < MOST_CORES)
      → told_left saved shares z.1 z.0.core ≡ left_over saved shares core z.0.current
  third-at saved shares true None current front fits low = refl
  third-at saved shares false None current front fits low = refl
  third-at saved shares false (Some c) current front fits low = rw (low-total c (saved + shares c) low fits) refl
  third-at saved shares true (Some c) None front fits low = rw (high-total c (saved + shares c) fits) refl
  third-at saved shares true (Some c) (Some current) front fits low =
      worked-on saved shares c (nat_le current.remaining 1) (Served current.waiting.request.id) (record current { remaining = current.remaining - 1 }) (high-total c (saved + shares c) fits)

-- what it finds to work on moves no thread
pub finds : (does : Bool) (now : ℕ) (answer : Option Waiting) (theft : Option (ℕ × Waiting)) (t : ThreadView) → (provided_if does now answer theft t).0.core ≡ t.core
finds true now answer theft t = finds-at t.publisher t.taker t.queue t.sources t.misses now t.core t.current t.front answer theft
finds false now answer theft t = refl

third : (saved : ℕ) (shares : ℕ → ℕ) (does : Bool) (t : ThreadView) → IfSome t.core (λ c. does ≡ comes_to_turn saved shares c)
    → let z = worked_if does t in IfSome z.0.core (λ c. c < MOST_CORES) → told_left saved shares z.1 z.0.core ≡ left_over saved shares t.core z.0.current
third saved shares does t fits low = third-at t.publisher t.taker t.queue t.sources t.misses saved shares does t.core t.current t.front fits low

-- whether it does its work is by the core
does-by : (saved : ℕ) (shares : ℕ → ℕ) (works : ℕ → Bool) → ((c : ℕ) → works c ≡ comes_to_turn saved shares c) → (core : Option ℕ) → IfSome core (λ c. does_work works core ≡ comes_to_turn saved shares c)
does-by saved shares works all None = tt
does-by saved shares works all (Some c) = all c

-- what a turn told is what the definition gives
pub left-told : (saved : ℕ) (shares : ℕ → ℕ) (works : ℕ → Bool) (now : ℕ) (request : Option Request) (answers : Answers) (before : KernelView)
    → ((c : ℕ) → works c ≡ comes_to_turn saved shares c) → let after = turned_on works now request answers before in IfSome after.thread.core (λ c. c < MOST_CORES)
    → told_left saved shares (work_in_turn works now request answers before) after.thread.core ≡ left_over saved shares (core_in_turn now request answers before) after.thread.current
left-told saved shares works now request answers before all low =
    let t = (taken now answers.command (arrived now request before.thread).0).0 in
    let does = does_work works t.core in
    let u = (provided_if does now answers.own answers.theft t).0 in
    let same : u.core ≡ t.core = finds does now answers.own answers.theft t in
    let P : Option ℕ → Type 0 = λ core. IfSome core (λ c. does ≡ comes_to_turn saved shares c) in
    let Q : Option ℕ → Type 0 = λ core. told_left saved shares (worked_if does u).1 (worked_if does u).0.core ≡ left_over saved shares core (worked_if does u).0.current in
    subst Q same (third saved shares does u (subst P (sym same) (does-by saved shares works all t.core)) low)

-- the record of a turn shows the core on which it leaves the thread
running-after : (works : ℕ → Bool) (now : ℕ) (request : Option Request) (answers : Answers) (before : KernelView)
    → let after = turned_on works now request answers before in (last_record after).running ≡ running_word after.thread.core
running-after works now request answers before =
    let t = (taken now answers.command (arrived now request before.thread).0).0 in
    let does = does_work works t.core in
    let u = (worked_if does (provided_if does now answers.own answers.theft t).0).0 in
    let w = fronted answers.front u in
    ap (λ (r : Record). r.running) (last_snoc zero_record w.publisher.published (shown now w))

low-core : (core : Option ℕ) → running_word core ≤ MOST_CORES → IfSome core (λ c. c < MOST_CORES)
low-core None within = tt
low-core (Some c) within = omega (arith, within)

-- by the running word: off a core nothing changes, and on one its share is added
told-off : (saved : ℕ) (shares : ℕ → ℕ) (core : Option ℕ) → running_word core ≡ 0 → told_left saved shares None core ≡ saved
told-off saved shares None off = refl
told-off saved shares (Some c) off = absurd (omega (arith, off))

told-by : (total : ℕ) (b : Bool) → nat_lt total WHOLE ≡ b → (if nat_lt total WHOLE then total else total - WHOLE) ≡ (if b then total else total - WHOLE)
told-by total b is = ap (λ (q : Bool). if q then total else total - WHOLE) is

told-low : (saved : ℕ) (shares : ℕ → ℕ) (core : Option ℕ) (running share : ℕ) → running_word core ≡ running → (running ≡ 0 → ⊥) → share ≡ shares (running - 1) → saved + share < WHOLE
    → told_left saved shares None core ≡ saved + share
told-low saved shares None running share is on own low = absurd (on (sym is))
told-low saved shares (Some c) running share is on own low =
    let same : running - 1 ≡ c = omega (arith, is) in
    let at : shares c ≡ share = sym (own ∙ ap shares same) in
    told-by (saved + shares c) true (grind (arith, nat_tests, at, low)) ∙ ap (λ (n : ℕ). saved + n) at

told-high : (saved : ℕ) (shares : ℕ → ℕ) (core : Option ℕ) (running share : ℕ) → running_word core ≡ running → (running ≡ 0 → ⊥) → share ≡ shares (running - 1) → WHOLE ≤ saved + share
    → told_left saved shares None core ≡ saved + share - WHOLE
told-high saved shares None running share is on own high = absurd (on (sym is))
told-high saved shares (Some c) running share is on own high =
    let same : running - 1 ≡ c = omega (arith, is) in
    let at : shares c ≡ share = sym (own ∙ ap shares same) in
    told-by (saved + shares c) false (grind (arith, nat_tests, at, high)) ∙ ap (λ (n : ℕ). saved + n - WHOLE) at

-- a third step that did something, and one that did nothing
told-done : (saved : ℕ) (shares : ℕ → ℕ) (worked : Option Worked) (core : Option ℕ) → is_some worked ≡ true → told_left saved shares (option_map entry_of_work worked) core ≡ 0
told-done saved shares (Some w) core done = refl
told-done saved shares None core done = absurd (cc)

told-none : (saved : ℕ) (shares : ℕ → ℕ) (worked : Option Worked) (core : Option ℕ) → is_some worked ≡ false → told_left saved shares (option_map entry_of_work worked) core ≡ told_left saved shares None core
told-none saved shares None core none = refl
told-none saved shares (Some w) core none = absurd (cc)

module _ (works : ℕ → Bool) (now : ℕ) (request : Option Request) (answers : Answers) (before after : KernelView) (entries : TurnEntries) where
  pub core-shown : IsTurnTold works now request answers before after entries → entries.published.shown.running ≡ running_word after.thread.core
  core-shown told =
      ap (λ (r : Record). r.running) (told.shows ∙ ap last_record told.thread)
      ∙ running-after works now request answers before
      ∙ ap (λ (k : KernelView). running_word k.thread.core) (sym told.thread)

  -- what is left over by what a turn handed out
  pub left-is : (saved : ℕ) (shares : ℕ → ℕ) → IsTurnTold works now request answers before after entries → ((c : ℕ) → works c ≡ comes_to_turn saved shares c)
      → IsShaped entries.published.shown
      → told_left saved shares (work entries) after.thread.core ≡ left_over saved shares (core_in_turn now request answers before) after.thread.current
  left-is saved shares told all shaped =
      let is = turned_on works now request answers before in
      let P : ℕ → Type 0 = λ n. n ≤ MOST_CORES in
      let within : running_word is.thread.core ≤ MOST_CORES =
      subst P (core-shown told ∙ ap (λ (k : KernelView). running_word k.thread.core) told.thread) shaped.0 in
      (λ i. told_left saved shares (told.work i) (told.thread i).thread.core)
      ∙ left-told saved shares works now request answers before all (low-core is.thread.core within)
      ∙ ap (λ (k : KernelView). left_over saved shares (core_in_turn now request answers before) k.thread.current) (sym told.thread)

  -- nothing where its third step did something
  pub left-done : (saved : ℕ) (shares : ℕ → ℕ) → IsTurnTold works now request answers before after entries → ((c : ℕ) → works c ≡ comes_to_turn saved shares c)
      → IsShaped entries.published.shown → is_some entries.worked ≡ true
      → 0 ≡ left_over saved shares (core_in_turn now request answers before) after.thread.current
  left-done saved shares told all shaped done = sym (told-done saved shares entries.worked after.thread.core done) ∙ left-is saved shares told all shaped

  -- and where it did nothing: what there was, off a core
  pub left-off : (saved : ℕ) (shares : ℕ → ℕ) → IsTurnTold works now request answers before after entries → ((c : ℕ) → works c ≡ comes_to_turn saved shares c)
      → IsShaped entries.published.shown → is_some entries.worked ≡ false → entries.published.shown.running ≡ 0
      → saved ≡ left_over saved shares (core_in_turn now request answers before) after.thread.current
  left-off saved shares told all shaped none off =
      sym (told-off saved shares after.thread.core (sym (core-shown told) ∙ off)) ∙ sym (told-none saved shares entries.worked after.thread.core none) ∙ left-is saved shares told all shaped

  -- and on a core its share more, up to a turn's whole work
  pub left-low : (saved share : ℕ) (shares : ℕ → ℕ) → IsTurnTold works now request answers before after entries → ((c : ℕ) → works c ≡ comes_to_turn saved shares c)
      → IsShaped entries.published.shown → is_some entries.worked ≡ false → (entries.published.shown.running ≡ 0 → ⊥)
      → share ≡ shares (entries.published.shown.running - 1) → saved + share < WHOLE
      → saved + share ≡ left_over saved shares (core_in_turn now request answers before) after.thread.current
  left-low saved share shares told all shaped none on own low =
      sym (told-low saved shares after.thread.core entries.published.shown.running share (sym (core-shown told)) on own low) ∙ sym (told-none saved shares entries.worked after.thread.core none)
      ∙ left-is saved shares told all shaped

  pub left-high : (saved share : ℕ) (shares : ℕ → ℕ) → IsTurnTold works now request answers before after entries → ((c : ℕ) → works c ≡ comes_to_turn saved shares c)
      → IsShaped entries.published.shown → is_some entries.worked ≡ false → (entries.published.shown.running ≡ 0 → ⊥)
      → share ≡ shares (entries.published.shown.running - 1) → WHOLE ≤ saved + share
      → saved + share - WHOLE ≡ left_over saved shares (core_in_turn now request answers before) after.thread.current
  left-high saved share shares told all shaped none on own high =
      sym (told-high saved shares after.thread.core entries.published.shown.running share (sym (core-shown told)) on own high) ∙ sym (told-none saved shares entries.worked after.thread.core none)
      ∙ left-is saved shares told all shaped
