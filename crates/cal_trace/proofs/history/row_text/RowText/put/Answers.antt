use Rattle.cal_trace.proofs.Common.{rules, ◌≡◌, ◌+◌, ◌-◌, ◌^◌, ◌<◌, ◌≤◌, ◌++◌, ◌∷◌, ◌∙◌, List, ℕ, decimal, drop, length, length-append, ap, arith, drop-set, length-drop}
use Rattle.std.proofs.lemmas.Fmt.{length-decimal-le}
use Rattle.cal_trace.proofs.history.row_text.RowText.put.Goals as goal

-- a number has no more digits than there is room for
few_digits : (n : ℕ) → n < 2 ^ 64 → length (decimal n) ≤ 20
few_digits n small = length-decimal-le 20 n (omega arith) (omega (arith, small)) small

pub write_digits-digits-requires : goal.write_digits-digits-requires
write_digits-digits-requires c =
    let few : length (decimal c.args.number) ≤ 20 = few_digits c.args.number (search rules) in
    let long : length c.self.inside.bytes ≡ 253 = search rules in
    let whole = length-drop c.self.inside.start c.self.inside.bytes in
    let is : length (drop c.self.inside.start c.self.inside.bytes) ≡ length c.args.self.now = ap (λ (l : List ℕ). length l) c.self.view_is in
    let room : length c.args.self.now + 21 ≤ 253 = c.requires in
    let within : c.self.inside.start ≤ 253 = c.self.invariant in
    (omega (arith, few, long, whole, is, room, within), omega (arith, long, within))

pub overflow_sub-self : goal.overflow_sub-self
overflow_sub-self c =
    let few : length (decimal c.args.number) ≤ 20 = few_digits c.args.number (search rules) in
    let long : length c.self.inside.bytes ≡ 253 = search rules in
    let whole = length-drop c.self.inside.start c.self.inside.bytes in
    let is : length (drop c.self.inside.start c.self.inside.bytes) ≡ length c.args.self.now = ap (λ (l : List ℕ). length l) c.self.view_is in
    let room : length c.args.self.now + 21 ≤ 253 = c.requires in
    let within : c.self.inside.start ≤ 253 = c.self.invariant in
    let put = c.write_digits-digits.ensures.start in
    omega (arith, few, long, whole, is, room, within, put)

pub returns-clause-text : goal.returns-clause-text
returns-clause-text c =
    let r = c.write_digits-digits.result in
    let buf = c.write_digits-digits.new.buf in
    let few : length (decimal c.args.number) ≤ 20 = few_digits c.args.number (search rules) in
    let long : length c.self.inside.bytes ≡ 253 = search rules in
    let kept : length buf ≡ length c.self.inside.bytes = search rules in
    let whole = length-drop c.self.inside.start c.self.inside.bytes in
    let is : length (drop c.self.inside.start c.self.inside.bytes) ≡ length c.args.self.now = ap (λ (l : List ℕ). length l) c.self.view_is in
    let room : length c.args.self.now + 21 ≤ 253 = c.requires in
    let within : c.self.inside.start ≤ 253 = c.self.invariant in
    let put = c.write_digits-digits.ensures.start in
    let inside : r - 1 < length buf = omega (arith, few, long, kept, whole, is, room, within, put) in
    let next : r - 1 + 1 ≡ r = omega (arith, few, long, whole, is, room, within, put) in
    drop-set buf (r - 1) 44 inside
    ∙ ap (λ (n : ℕ). 44 ∷ drop n buf) next
    ∙ ap (λ (l : List ℕ). 44 ∷ l) (c.write_digits-digits.ensures.written ∙ ap (λ (l : List ℕ). decimal c.args.number ++ l) c.self.view_is)

pub returns-clause-short : goal.returns-clause-short
returns-clause-short c =
    let few : length (decimal c.args.number) ≤ 20 = few_digits c.args.number (search rules) in
    let long = ap (λ (l : List ℕ). length l) (returns-clause-text c) in
    let both = length-append (decimal c.args.number) c.args.self.now in
    omega (arith, few, long, both)
