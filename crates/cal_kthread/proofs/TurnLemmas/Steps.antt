-- The steps of a turn, one after the other.
use Rattle.cal_kthread.proofs.Common.{◌≡◌, ℕ, ◌<◌, Bool, true, false, Option, Some, IfSome, List, length, sym, ap, subst, ◌∙◌, Request, last_published, MayFollow, Entry, Waiting, IsJournalOf, ThreadView, KernelView, provided_if, worked_if, turned_if, Answers, arrived, taken, fronted, shown, published, noted}
use Rattle.cal_kthread.proofs.TurnLemmas.Agreeing.{arrives, takes, provides, works, fronts, publishes}

abbrev Stepped : Type 0
Stepped = ThreadView × Option Entry

provides-if : (does : Bool) (j : List Entry) (now : ℕ) (answer : Option Waiting) (theft : Option (ℕ × Waiting)) (t : ThreadView) → IfSome theft (λ place. place.0 < length t.sources) → IsJournalOf j t
    → let a = provided_if does now answer theft t in IsJournalOf (noted j a.1) a.0
provides-if true j now answer theft t within a = provides j now answer theft t within a
provides-if false j now answer theft t within a = a

works-if : (does : Bool) (j : List Entry) (t : ThreadView) → IsJournalOf j t → let a = worked_if does t in IsJournalOf (noted j a.1) a.0
works-if true j t a = works j t a
works-if false j t a = a

-- the third step is done or not; a, b, c and d are what the first four steps made of the thread and put into the journal, and f
-- what the sixth did
module _ (does : Bool) (now : ℕ) (request : Option Request) (answers : Answers) (k : KernelView) (a b c d : Stepped) (e : ThreadView) (f : ThreadView × Entry) (j : List Entry)
    (arriving : a ≡ arrived now request k.thread) (taking : b ≡ taken now answers.command a.0) (providing : c ≡ provided_if does now answers.own answers.theft b.0) (working : d ≡ worked_if does c.0)
    (fronting : e ≡ fronted answers.front d.0) (publishing : f ≡ published now e) (noting : j ≡ noted (noted (noted (noted (noted k.journal a.1) b.1) c.1) d.1) (Some f.1)) where
  -- together they are a turn
  pub turns : record { number = k.number; journal = j; thread = f.0 } ≡ turned_if does now request answers k
  turns = let took : b ≡ taken now answers.command (arrived now request k.thread).0 = taking ∙ ap (λ (z : Stepped). taken now answers.command z.0) arriving in
      let provision = providing ∙ ap (λ (z : Stepped). provided_if does now answers.own answers.theft z.0) took in
      let work = working ∙ ap (λ (z : Stepped). worked_if does z.0) provision in
      let front = fronting ∙ ap (λ (z : Stepped). fronted answers.front z.0) work in
      let publication = publishing ∙ ap (published now) front in
      (λ i. record { number = k.number; journal = noting i; thread = f.0 })
      ∙ (λ i. record { number = k.number; journal = noted (noted (noted (noted (noted k.journal (arriving i).1) (took i).1) (provision i).1) (work i).1) (Some (publication i).1); thread = (publication i).0 })

  -- and the thread and its journal agree after them
  pub agrees : IsJournalOf k.journal k.thread → IfSome answers.theft (λ theft. theft.0 < length b.0.sources) → MayFollow (last_published e.publisher.published) (shown now e) → IsJournalOf j f.0
  agrees before within follows =
      let one : IsJournalOf (noted k.journal a.1) a.0 = subst (λ (z : Stepped). IsJournalOf (noted k.journal z.1) z.0) (sym arriving) (arrives k.journal now request k.thread before) in
      let two : IsJournalOf (noted (noted k.journal a.1) b.1) b.0 = subst (λ (z : Stepped). IsJournalOf (noted (noted k.journal a.1) z.1) z.0) (sym taking) (takes _ now answers.command a.0 one) in
      let three : IsJournalOf (noted (noted (noted k.journal a.1) b.1) c.1) c.0 =
      subst (λ (z : Stepped). IsJournalOf (noted (noted (noted k.journal a.1) b.1) z.1) z.0) (sym providing) (provides-if does _ now answers.own answers.theft b.0 within two) in
      let four : IsJournalOf (noted (noted (noted (noted k.journal a.1) b.1) c.1) d.1) d.0 = subst (λ (z : Stepped). IsJournalOf (noted (noted (noted (noted k.journal a.1) b.1) c.1) z.1) z.0) (sym working) (works-if does _ c.0 three) in
      let five : IsJournalOf (noted (noted (noted (noted k.journal a.1) b.1) c.1) d.1) e = subst (IsJournalOf (noted (noted (noted (noted k.journal a.1) b.1) c.1) d.1)) (sym fronting) (fronts _ answers.front d.0 four) in
      let six : IsJournalOf (noted (noted (noted (noted (noted k.journal a.1) b.1) c.1) d.1) (Some f.1)) f.0 =
      subst (λ (z : ThreadView × Entry). IsJournalOf (noted (noted (noted (noted (noted k.journal a.1) b.1) c.1) d.1) (Some z.1)) z.0) (sym publishing) (publishes _ now e follows five) in
      subst (λ l. IsJournalOf l f.0) (sym noting) six
