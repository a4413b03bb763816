-- The spans of a history show what its cores are in.
use Rattle.cal_measure.proofs.Common.{◌≡◌, ◌⊎◌, ◌<◌, ◌≤◌, ◌+◌, ◌∙◌, ℕ, zero, suc, List, [], ◌∷◌, ◌++◌, map, take, drop, Option, Some, None, IfSome, option_map, inl, inr, refl, sym, ap, subst, arith, add-zero, append_assoc, Contains, eqb_tells, append-nil, some_same, each_of_append, each_after, Action, Free, Unban, Ban, Revoke, Cap, Grant, Cause, PassEntry, Move, made_in, moves_from, moves_of, granted, ended, span_at, ending, ended_by, open_of, spans_of, one_of, Span}
use Rattle.std.proofs.lemmas.List.Elements.{Contains-append_left, Contains-append_right, Contains-append_cases, Contains-push, Contains-push_cases}
use Rattle.cal_measure.specs.Spans.{ended_of}
use Rattle.cal_measure.specs.Spans.Laws.{GoesOn, Shows, IsOf}
use Rattle.cal_measure.proofs.SpanLemmas.StaysKept.{revoked, stay_made, stay_after, stay_push, stay_more}

-- what each move ends, told what came before it
abbrev ends : List Move → Move → List Span
ends before m = ended_by before m.pass m.action

-- each of these moves was made in a pass of which R says so
abbrev AllPasses : (ℕ → Type 0) → List Move → Type 0
AllPasses R [] = Unit {0}
AllPasses R (m ∷ moves) = R m.pass × AllPasses R moves

all-append : (R : ℕ → Type 0) (xs ys : List Move) → AllPasses R xs → AllPasses R ys → AllPasses R (xs ++ ys)
all-append R [] ys hx hy = hy
all-append R (m ∷ xs) ys hx hy = (hx.0, all-append R xs ys hx.1 hy)

all-made : (R : ℕ → Type 0) (p : ℕ) (actions : List Action) → R p → AllPasses R (map (made_in p) actions)
all-made R p [] h = tt
all-made R p (a ∷ actions) h = (h, all-made R p actions h)

all-from : (n p : ℕ) (history : List PassEntry) → n ≤ p → AllPasses (λ q. n ≤ q) (moves_from p history)
all-from n p [] le = tt
all-from n p (entry ∷ history) le =
    all-append (λ q. n ≤ q) (map (made_in p) entry.actions) (moves_from (p + 1) history) (all-made (λ q. n ≤ q) p entry.actions le) (all-from n (p + 1) history (omega arith))

all-below : (n p k : ℕ) (history : List PassEntry) → p + k ≤ n → AllPasses (λ q. q < n) (moves_from p (take k history))
all-below n p zero history le = tt
all-below n p (suc k) [] le = tt
all-below n p (suc k) (entry ∷ history) le =
    let now : p < n = omega arith in
    all-append (λ q. q < n) (map (made_in p) entry.actions) (moves_from (p + 1) (take k history)) (all-made (λ q. q < n) p entry.actions now) (all-below n (p + 1) k history (omega arith))

-- the moves of the first k passes, and the rest
moves-split : (p k : ℕ) (history : List PassEntry) → moves_from p history ≡ moves_from p (take k history) ++ moves_from (p + k) (drop k history)
moves-split p zero history = rw (add-zero p) refl
moves-split p (suc k) [] = refl
moves-split p (suc k) (entry ∷ history) =
    let m : p + 1 + k ≡ p + suc k = omega arith in
    ap (λ ys. map (made_in p) entry.actions ++ ys) (rw m at (moves-split (p + 1) k history))
    ∙ sym (append_assoc (map (made_in p) entry.actions) (moves_from (p + 1) (take k history)) (moves_from (p + suc k) (drop k history)))

-- what holds of every span that is begun, and goes on holding when it is left, holds of the span that a core is in
map-keeps : (P : Span → Type 0) (p : ℕ) (cause : Cause) → ((s : Span) → P s → P (revoked p cause s)) → (stay : Option Span) → IfSome stay P → IfSome (option_map (revoked p cause) stay) P
map-keeps P p cause left None h = tt
map-keeps P p cause left (Some s) h = left s h

made-keeps : (P : Span → Type 0) (c p : ℕ) (a : Action) → ((core thread class : ℕ) → core ≡ c → P (granted p core thread class)) → ((cause : Cause) (s : Span) → P s → P (revoked p cause s))
    → (stay : Option Span) → IfSome stay P → IfSome (stay_made c p a stay) P
made-keeps P c p (Grant core thread class) new left stay h = elim (eqb_tells core c) [ inl same ↦ rw same.0 (new core thread class same.1) | inr other ↦ rw other.0 h ]
made-keeps P c p (Revoke core cause) new left stay h = elim (eqb_tells core c) [ inl same ↦ rw same.0 (map-keeps P p cause (left cause) stay h) | inr other ↦ rw other.0 h ]
made-keeps P c p (Free core) new left stay h = elim (eqb_tells core c) [ inl same ↦ rw same.0 tt | inr other ↦ rw other.0 h ]
made-keeps P c p (Unban core) new left stay h = h
made-keeps P c p (Ban core thread started) new left stay h = h
made-keeps P c p (Cap task cap) new left stay h = h

after-keeps : (P : Span → Type 0) (R : ℕ → Type 0) (c : ℕ) → ((p core thread class : ℕ) → R p → core ≡ c → P (granted p core thread class)) → ((p : ℕ) (cause : Cause) (s : Span) → P s → P (revoked p cause s))
    → (moves : List Move) → AllPasses R moves → (stay : Option Span) → IfSome stay P → IfSome (stay_after c stay moves) P
after-keeps P R c new left [] all stay h = h
after-keeps P R c new left (m ∷ moves) all stay h =
    after-keeps P R c new left moves all.1 (stay_made c m.pass m.action stay)
    (made-keeps P c m.pass m.action (λ core thread class e. new m.pass core thread class all.0 e) (left m.pass) stay h)

all-any : (moves : List Move) → AllPasses (λ p. Unit {0}) moves
all-any [] = tt
all-any (m ∷ moves) = (tt, all-any moves)

-- a span that a core is in is the core's, and has not ended
pub stay-open : (moves : List Move) (c : ℕ) → IfSome (span_at moves c) (λ s. (s.core ≡ c) × (s.to ≡ None))
stay-open moves c = subst (λ (o : Option Span). IfSome o (λ s. (s.core ≡ c) × (s.to ≡ None))) (stay_more c [] moves)
    (after-keeps (λ s. (s.core ≡ c) × (s.to ≡ None)) (λ p. Unit {0}) c (λ p core thread class r e. (e, refl)) (λ p cause s h. h) moves (all-any moves) None tt)

stay-began : (n : ℕ) (moves : List Move) (c : ℕ) → AllPasses (λ p. p < n) moves → IfSome (span_at moves c) (λ s. s.from < n)
stay-began n moves c all = subst (λ (o : Option Span). IfSome o (λ s. s.from < n)) (stay_more c [] moves)
    (after-keeps (λ s. s.from < n) (λ p. p < n) c (λ p core thread class r e. r) (λ p cause s h. h) moves all None tt)

-- what is said of a span that is there
pub of-some : (P : Span → Type 0) (o : Option Span) (s : Span) → o ≡ Some s → IfSome o P → P s
of-some P o s e h = subst (λ (q : Option Span). IfSome q P) e h

-- the spans that cores are in
open-has : (moves : List Move) (cores c : ℕ) (s : Span) → c < cores → span_at moves c ≡ Some s → Contains (open_of moves cores) s
open-has moves zero c s lt e = absurd (omega arith)
open-has moves (suc n) c s lt e =
    elim (eqb_tells c n) [
      | inl same ↦ Contains-append_right (open_of moves n) (one_of (span_at moves n)) s
          (subst (λ (k : ℕ). Contains (one_of (span_at moves k)) s) same.1 (subst (λ (o : Option Span). Contains (one_of o) s) (sym e) (Contains-push [] s)))
      | inr other ↦ let other_one = other.1 in
          let less : c < n = grind arith in
          Contains-append_left (open_of moves n) (one_of (span_at moves n)) s (open-has moves n c s less e)
    ]

one-has : (o : Option Span) (s : Span) → Contains (one_of o) s → o ≡ Some s
one-has None s h = let lt = h.1 in absurd (omega arith)
one-has (Some t) s h = elim (Contains-push_cases [] t s h) [ inl none ↦ (let lt = none.1 in absurd (omega arith)) | inr e ↦ ap Some e ]

open-is : (moves : List Move) (cores : ℕ) (s : Span) → Contains (open_of moves cores) s → (c : ℕ) × (span_at moves c ≡ Some s)
open-is moves zero s h = let lt = h.1 in absurd (omega arith)
open-is moves (suc n) s h =
    elim (Contains-append_cases (open_of moves n) (one_of (span_at moves n)) s h) [
      | inl below ↦ open-is moves n s below
      | inr last ↦ (n, one-has (span_at moves n) s last)
    ]

-- what a move does with a span that a core is in: it ends it, or lets it go on
outcome : (before : List Move) (c p : ℕ) (a : Action) (stay : Span) → span_at before c ≡ Some stay
    → Contains (ended_by before p a) (ended p stay) ⊎ ((next : Span) × (stay_made c p a (Some stay) ≡ Some next) × IsOf stay next × (next.to ≡ stay.to))
outcome before c p (Grant core thread class) stay e =
    elim (eqb_tells core c) [
      | inl same ↦ inl (subst (λ (k : ℕ). Contains (ending p (span_at before k)) (ended p stay)) (sym same.1) (subst (λ (o : Option Span). Contains (ending p o) (ended p stay)) (sym e) (Contains-push [] (ended p stay))))
      | inr other ↦ inr (stay, rw other.0 refl, record { core = refl; thread = refl; class = refl; from = refl }, refl)
    ]
outcome before c p (Free core) stay e =
    elim (eqb_tells core c) [
      | inl same ↦ inl (subst (λ (k : ℕ). Contains (ending p (span_at before k)) (ended p stay)) (sym same.1) (subst (λ (o : Option Span). Contains (ending p o) (ended p stay)) (sym e) (Contains-push [] (ended p stay))))
      | inr other ↦ inr (stay, rw other.0 refl, record { core = refl; thread = refl; class = refl; from = refl }, refl)
    ]
outcome before c p (Revoke core cause) stay e =
    elim (eqb_tells core c) [
      | inl same ↦ inr (revoked p cause stay, rw same.0 refl, record { core = refl; thread = refl; class = refl; from = refl }, refl)
      | inr other ↦ inr (stay, rw other.0 refl, record { core = refl; thread = refl; class = refl; from = refl }, refl)
    ]
outcome before c p (Unban core) stay e = inr (stay, refl, record { core = refl; thread = refl; class = refl; from = refl }, refl)
outcome before c p (Ban core thread started) stay e = inr (stay, refl, record { core = refl; thread = refl; class = refl; from = refl }, refl)
outcome before c p (Cap task cap) stay e = inr (stay, refl, record { core = refl; thread = refl; class = refl; from = refl }, refl)

of-of : (a b d : Span) → IsOf a b → IsOf b d → IsOf a d
of-of a b d h k = record { core = k.core ∙ h.core; thread = k.thread ∙ h.thread; class = k.class ∙ h.class; from = k.from ∙ h.from }

-- the stay shows among these
abbrev Found : ℕ → Span → List Span → Type 0
Found n stay spans = (span : Span) × Contains spans span × IsOf stay span × Shows span n

told : (n c cores : ℕ) → c < cores → (before rest : List Move) (stay : Span) → span_at before c ≡ Some stay → stay.to ≡ None → stay.from < n → AllPasses (λ p. n ≤ p) rest
    → Found n stay (each_after ends before rest ++ open_of (before ++ rest) cores)
told n c cores lt before [] stay e opened began all =
    let whole : span_at (before ++ []) c ≡ Some stay = ap (λ (x : List Move). span_at x c) (append-nil before) ∙ e in (
      stay,
      open-has (before ++ []) cores c stay lt whole,
      record { core = refl; thread = refl; class = refl; from = refl },
      record { began = began; goes_on = subst (λ (o : Option ℕ). GoesOn n o) (sym opened) tt },
    )
told n c cores lt before (m ∷ rest) stay e opened began all =
    let more = each_after ends (before ++ m ∷ []) rest in
    let last = open_of (before ++ m ∷ rest) cores in
    elim (outcome before c m.pass m.action stay e) [
      | inl over ↦ (
        ended m.pass stay,
        Contains-append_left (ends before m ++ more) last (ended m.pass stay) (Contains-append_left (ends before m) more (ended m.pass stay) over),
        record { core = refl; thread = refl; class = refl; from = refl },
        record { began = began; goes_on = all.0 },
      )
      | inr on ↦
          let next = on.0 in
          let now : span_at (before ++ m ∷ []) c ≡ Some next = stay_push before m.pass m.action c ∙ ap (stay_made c m.pass m.action) e ∙ on.1 in
          let early : next.from < n = subst (λ (k : ℕ). k < n) (sym on.2.from) began in
          let found = told n c cores lt (before ++ m ∷ []) rest next now (on.3 ∙ opened) early all.1 in
          let same : (before ++ m ∷ []) ++ rest ≡ before ++ m ∷ rest = append_assoc before (m ∷ []) rest in
          let inside : Contains (more ++ last) found.0 = subst (λ (x : List Move). Contains (more ++ open_of x cores) found.0) same found.1 in (
            found.0,
            subst (λ (xs : List Span). Contains xs found.0) (sym (append_assoc (ends before m) more last)) (Contains-append_right (ends before m) (more ++ last) found.0 inside),
            of-of stay next found.0 on.2 found.2,
            found.3,
          )
    ]

-- a span that a move ends is the one that its core was in
ending-is : (p : ℕ) (o : Option Span) (s : Span) → Contains (ending p o) s → (t : Span) × (o ≡ Some t) × (s ≡ ended p t)
ending-is p None s h = let lt = h.1 in absurd (omega arith)
ending-is p (Some t) s h = elim (Contains-push_cases [] (ended p t) s h) [ inl none ↦ (let lt = none.1 in absurd (omega arith)) | inr e ↦ (t, refl, sym e) ]

by-is : (before : List Move) (p : ℕ) (a : Action) (s : Span) → Contains (ended_by before p a) s → (t : Span) × (span_at before s.core ≡ Some t) × (s ≡ ended p t)
by-is before p (Grant core thread class) s h =
    let r = ending-is p (span_at before core) s h in
    let at : s.core ≡ core = ap (λ (x : Span). x.core) r.2 ∙ (of-some (λ x. (x.core ≡ core) × (x.to ≡ None)) (span_at before core) r.0 r.1 (stay-open before core)).0 in
    (r.0, ap (span_at before) at ∙ r.1, r.2)
by-is before p (Free core) s h =
    let r = ending-is p (span_at before core) s h in
    let at : s.core ≡ core = ap (λ (x : Span). x.core) r.2 ∙ (of-some (λ x. (x.core ≡ core) × (x.to ≡ None)) (span_at before core) r.0 r.1 (stay-open before core)).0 in
    (r.0, ap (span_at before) at ∙ r.1, r.2)
by-is before p (Revoke core cause) s h = let lt = h.1 in absurd (omega arith)
by-is before p (Unban core) s h = let lt = h.1 in absurd (omega arith)
by-is before p (Ban core thread started) s h = let lt = h.1 in absurd (omega arith)
by-is before p (Cap task cap) s h = let lt = h.1 in absurd (omega arith)

-- what ended in earlier passes shows no more
early-over : (n : ℕ) (before rest : List Move) (s : Span) → AllPasses (λ p. p < n) rest → Contains (each_after ends before rest) s → Shows s n → ⊥
early-over n before [] s all h shows = let lt = h.1 in absurd (omega arith)
early-over n before (m ∷ rest) s all h shows =
    elim (Contains-append_cases (ends before m) (each_after ends (before ++ m ∷ []) rest) s h) [
      | inl now ↦
          let r = by-is before m.pass m.action s now in
          let on : n ≤ m.pass = subst (λ (x : Span). GoesOn n x.to) r.2 shows.goes_on in
          let under : m.pass < n = all.0 in
          omega arith
      | inr later ↦ early-over n (before ++ m ∷ []) rest s all.1 later shows
    ]

-- what later passes end was there, or began after
late-is : (P : Span → Type 0) (n c : ℕ) → ((p core thread class : ℕ) → n ≤ p → core ≡ c → P (granted p core thread class)) → ((p : ℕ) (cause : Cause) (s : Span) → P s → P (revoked p cause s))
    → ((p : ℕ) (s : Span) → P s → P (ended p s)) → (before rest : List Move) (s : Span) → AllPasses (λ p. n ≤ p) rest → IfSome (span_at before c) P → s.core ≡ c
    → Contains (each_after ends before rest) s → P s
late-is P n c new left over before [] s all h at has = let lt = has.1 in absurd (omega arith)
late-is P n c new left over before (m ∷ rest) s all h at has =
    elim (Contains-append_cases (ends before m) (each_after ends (before ++ m ∷ []) rest) s has) [
      | inl now ↦
          let r = by-is before m.pass m.action s now in
          let is : span_at before c ≡ Some r.0 = ap (span_at before) (sym at) ∙ r.1 in
          subst P (sym r.2) (over m.pass r.0 (of-some P (span_at before c) r.0 is h))
      | inr later ↦
          let next : IfSome (span_at (before ++ m ∷ []) c) P = subst (λ (o : Option Span). IfSome o P) (sym (stay_push before m.pass m.action c))
          (made-keeps P c m.pass m.action (λ core thread class e. new m.pass core thread class all.0 e) (left m.pass) (span_at before c) h) in
          late-is P n c new left over (before ++ m ∷ []) rest s all.1 next at later
    ]

-- the spans of a history: those that the first n passes ended, those that the rest did, and those that go on
parted : (cores n : ℕ) (history : List PassEntry) → spans_of cores history
    ≡ ended_of (moves_of (take n history)) ++ (each_after ends (moves_of (take n history)) (moves_from n (drop n history)) ++ open_of (moves_of (take n history) ++ moves_from n (drop n history)) cores)
parted cores n history =
    let first = moves_of (take n history) in
    let rest = moves_from n (drop n history) in
    let zero_n : 0 + n ≡ n = omega arith in
    let split : moves_of history ≡ first ++ rest = moves-split 0 n history ∙ ap (λ (k : ℕ). first ++ moves_from k (drop n history)) zero_n in
    ap (λ (x : List Move). ended_of x ++ open_of x cores) split
    ∙ ap (λ (ys : List Span). ys ++ open_of (first ++ rest) cores) (each_of_append ends first rest)
    ∙ append_assoc (ended_of first) (each_after ends first rest) (open_of (first ++ rest) cores)

pub stays-shown : (cores : ℕ) (history : List PassEntry) (n c : ℕ) (stay : Span) → c < cores → span_at (moves_of (take n history)) c ≡ Some stay
    → (span : Span) × Contains (spans_of cores history) span × IsOf stay span × Shows span n
stays-shown cores history n c stay lt e =
    let first = moves_of (take n history) in
    let rest = moves_from n (drop n history) in
    let opened = of-some (λ s. (s.core ≡ c) × (s.to ≡ None)) (span_at first c) stay e (stay-open first c) in
    let fits : 0 + n ≤ n = omega arith in
    let began = of-some (λ s. s.from < n) (span_at first c) stay e (stay-began n first c (all-below n 0 n history fits)) in
    let self : n ≤ n = omega arith in
    let found = told n c cores lt first rest stay e opened.1 began (all-from n n (drop n history) self) in
    let later = each_after ends first rest ++ open_of (first ++ rest) cores in
    (found.0, subst (λ (xs : List Span). Contains xs found.0) (sym (parted cores n history)) (Contains-append_right (ended_of first) later found.0 found.1), found.2, found.3)

-- the span that a core was in, or one that began after
abbrev IsLateOr : ℕ → Option Span → Span → Type 0
IsLateOr n o s = (n ≤ s.from) ⊎ ((t : Span) × (o ≡ Some t) × IsOf t s)

itself : (n : ℕ) (o : Option Span) → IfSome o (IsLateOr n o)
itself n None = tt
itself n (Some s) = inr (s, refl, record { core = refl; thread = refl; class = refl; from = refl })

late-left : (n : ℕ) (o : Option Span) (p : ℕ) (cause : Cause) (s : Span) → IsLateOr n o s → IsLateOr n o (revoked p cause s)
late-left n o p cause s h = elim h [ inl a ↦ inl a | inr w ↦ inr (w.0, w.1, record { core = w.2.core; thread = w.2.thread; class = w.2.class; from = w.2.from }) ]

late-over : (n : ℕ) (o : Option Span) (p : ℕ) (s : Span) → IsLateOr n o s → IsLateOr n o (ended p s)
late-over n o p s h = elim h [ inl a ↦ inl a | inr w ↦ inr (w.0, w.1, record { core = w.2.core; thread = w.2.thread; class = w.2.class; from = w.2.from }) ]

shown-is : (cores : ℕ) (history : List PassEntry) (n : ℕ) (span : Span) → Contains (spans_of cores history) span → Shows span n
    → IsLateOr n (span_at (moves_of (take n history)) span.core) span
shown-is cores history n span has shows =
    let first = moves_of (take n history) in
    let rest = moves_from n (drop n history) in
    let was = span_at first span.core in
    let fits : 0 + n ≤ n = omega arith in
    let self : n ≤ n = omega arith in
    let late = all-from n n (drop n history) self in
    let inside = subst (λ (xs : List Span). Contains xs span) (parted cores n history) has in
    elim (Contains-append_cases (ended_of first) (each_after ends first rest ++ open_of (first ++ rest) cores) span inside) [
      | inl before ↦ absurd (early-over n [] first span (all-below n 0 n history fits) before shows)
      | inr after ↦ elim (Contains-append_cases (each_after ends first rest) (open_of (first ++ rest) cores) span after) [
        | inl closed ↦ late-is (IsLateOr n was) n span.core (λ p core thread class le e. inl le) (late-left n was) (late-over n was) first rest span late (itself n was) refl closed
        | inr opened ↦
            let at = open-is (first ++ rest) cores span opened in
            let core = (of-some (λ s. (s.core ≡ at.0) × (s.to ≡ None)) (span_at (first ++ rest) at.0) span at.1 (stay-open (first ++ rest) at.0)).0 in
            let whole : stay_after span.core was rest ≡ Some span = stay_more span.core first rest ∙ ap (span_at (first ++ rest)) core ∙ at.1 in
            of-some (IsLateOr n was) (stay_after span.core was rest) span whole
            (after-keeps (IsLateOr n was) (λ p. n ≤ p) span.core (λ p core thread class le e. inl le) (late-left n was) rest late was (itself n was))
      ]
    ]

pub shown-stays : (cores : ℕ) (history : List PassEntry) (n : ℕ) (span : Span) → Contains (spans_of cores history) span → Shows span n
    → (stay : Span) × (span_at (moves_of (take n history)) span.core ≡ Some stay) × IsOf stay span
shown-stays cores history n span has shows =
    elim (shown-is cores history n span has shows) [
      | inl late ↦ let began = shows.began in absurd (omega arith)
      | inr is ↦ is
    ]

pub spans-apart : (cores : ℕ) (history : List PassEntry) (n : ℕ) (one other : Span) → Contains (spans_of cores history) one → Contains (spans_of cores history) other
    → one.core ≡ other.core → Shows one n → Shows other n → IsOf one other
spans-apart cores history n one other has has_other core shows shows_other =
    let a = shown-stays cores history n one has shows in
    let b = shown-stays cores history n other has_other shows_other in
    let same : Some a.0 ≡ Some b.0 = sym a.1 ∙ ap (span_at (moves_of (take n history))) core ∙ b.1 in
    let is : a.0 ≡ b.0 = some_same a.0 b.0 same in
    record {
      core = b.2.core ∙ ap (λ (x : Span). x.core) (sym is) ∙ sym a.2.core;
      thread = b.2.thread ∙ ap (λ (x : Span). x.thread) (sym is) ∙ sym a.2.thread;
      class = b.2.class ∙ ap (λ (x : Span). x.class) (sym is) ∙ sym a.2.class;
      from = b.2.from ∙ ap (λ (x : Span). x.from) (sym is) ∙ sym a.2.from;
    }
