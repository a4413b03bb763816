use Rattle.cal_signal.proofs.Common.{◌≡◌, ℕ, ◌+◌, ◌%◌, ◌≤◌, List, [], ◌∷◌, ◌++◌, length, take, get_or, rules, sym, refl, ap, ◌∙◌, arith, take_more, take_all, length-take-le, words_of, last_published}
use Rattle.cal_signal.proofs.PageSteps.{M, writes, spares}
use Rattle.cal_signal.proofs.words.store_words.Goals as goal
use Rattle.cal_signal.proofs.words.store_words.Goals.{then-words-i, else-words-i}

pub store-requires : goal.store-requires
store-requires c = let e = c.loop-i.invariant.2 in let wide : length c.args.words ≡ 9 = search rules in (
  search rules,
  search rules,
  writes _ _ _ _ _ (ap (λ (m : M). m.0.publishes) e ∙ c.requires.open.0) (ap (λ (m : M). m.0.version % 2) e ∙ c.requires.open.1)
      (let room : c.loop-i.i ≤ length c.args.words = omega arith in sym (ap (λ (m : M). length m.0.stored) e ∙ length-take-le c.loop-i.i c.args.words room)) c.loop-i-test.true,
)

pub load-requires : goal.load-requires
load-requires c = let e = c.loop-i.invariant.2 in let wide : length c.args.words ≡ 9 = search rules in (
  search rules,
  search rules,
  spares _ _ _ _ (ap (λ (m : M). m.0.publishes) e ∙ c.requires.open.0) (ap (λ (m : M). m.0.version % 2) e ∙ c.requires.open.1)
      (let room : c.loop-i.i ≤ length c.args.words = omega arith in sym (ap (λ (m : M). length m.0.stored) e ∙ length-take-le c.loop-i.i c.args.words room)) c.loop-i-test.true,
)

pub loop-i-init : goal.loop-i-init
loop-i-init c = (refl, refl, λ i. (record c.args.seat.now.me.0 { stored = c.requires.open.2 i }, c.args.seat.now.me.1))

pub loop-i-preserved : goal.loop-i-preserved
loop-i-preserved c =
    let e = c.loop-i.invariant in
    let wide : length c.args.words ≡ 9 = search rules in
    let room : c.loop-i.i ≤ length c.args.words = omega arith in
    let longer : (z : M) (b : ℕ) → (z ≡ (record c.loop-i.seat.me.0 { stored = c.loop-i.seat.me.0.stored ++ b ∷ [] }, c.loop-i.seat.me.1)) → b ≡ get_or c.args.words c.loop-i.i 0
    → z ≡ (record c.args.seat.now.me.0 { stored = take (c.loop-i.i + 1) c.args.words }, c.args.seat.now.me.1) = λ z b is one. (
    is ∙ (ap (λ (m : M). (record m.0 { stored = m.0.stored ++ b ∷ [] }, m.1)) e.2
    ∙ ap (λ (l : List ℕ). (record c.args.seat.now.me.0 { stored = l }, c.args.seat.now.me.1)) (ap (λ (x : ℕ). take c.loop-i.i c.args.words ++ x ∷ []) one ∙ sym (take_more c.args.words c.loop-i.i 0 (omega arith))))
    ) in
    elim c.if-words-i.branch [
      | then-words-i w ↦
          let found : w.load.result ≡ get_or c.args.last c.loop-i.i 0 = w.load.ensures.2.0
          ∙ (ap (λ (m : M). get_or (words_of (last_published m.0.published)) (length m.0.stored) 0) e.2
          ∙ (ap (λ (k : ℕ). get_or (words_of (last_published c.args.seat.now.me.0.published)) k 0) (length-take-le c.loop-i.i c.args.words room)
          ∙ ap (λ (l : List ℕ). get_or l c.loop-i.i 0) (sym c.requires.last))) in (
            ap (λ z. z.table_id) w.seat-is ∙ (w.load.ensures.0 ∙ e.0),
            ap (λ z. z.id) w.seat-is ∙ (w.load.ensures.1 ∙ e.1),
            ap (λ z. z.me) w.seat-is ∙ longer w.load.new.seat.me w.load.result w.load.ensures.2.1 (found ∙ sym w.if-words-i.true),
          )
      | else-words-i w ↦ (
        ap (λ z. z.table_id) w.seat-is ∙ (w.store.ensures.0 ∙ e.0),
        ap (λ z. z.id) w.seat-is ∙ (w.store.ensures.1 ∙ e.1),
        ap (λ z. z.me) w.seat-is ∙ longer w.store.new.seat.me (get_or c.args.words c.loop-i.i 0) w.store.ensures.2 refl,
      )
    ]

pub returns : goal.returns
returns c = let e = c.loop-i.invariant in let wide : length c.args.words ≡ 9 = search rules in let all : c.loop-i.i ≡ 9 = omega arith in record {
  same = (e.0, e.1);
  view = e.2 ∙ ap (λ (l : List ℕ). (record c.args.seat.now.me.0 { stored = l }, c.args.seat.now.me.1)) (take_all c.loop-i.i c.args.words (omega arith));
}
