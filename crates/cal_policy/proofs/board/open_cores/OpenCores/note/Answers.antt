-- The sets are kept up with the core that the action names, and with its sibling.
use Rattle.cal_policy.proofs.Common.{◌≡◌, ℕ, eqb, cond, sym, ◌∙◌, subst, has, holder_in, is_alone_by, is_beside_held_by}
use Rattle.cal_policy.proofs.BoardLemmas.OpenCores.{opens_one}
use Rattle.cal_policy.proofs.board.open_cores.OpenCores.note.Goals as goal

pub returns-in-Some : goal.returns-in-Some
returns-in-Some c = record {
  kept = λ holder bans o same.
      let new = c.sort.new.self in
      let old = c.args.self.now in
      let now = holder_in c.args.holding.now in
      let core = c.in-Some.core in
      let Alone : ℕ → Type 0 = λ n. (k : ℕ) → has new.alone k ≡ cond (eqb k n) (is_alone_by now c.args.banned.now n)
      (cond (eqb k core) (is_alone_by now c.args.banned.now core) (has old.alone k)) in
      let Beside : ℕ → Type 0 = λ n. (k : ℕ) → has new.beside_held k ≡ cond (eqb k n) (is_beside_held_by now c.args.banned.now n)
      (cond (eqb k core) (is_beside_held_by now c.args.banned.now core) (has old.beside_held k)) in
      opens_one c.args.action holder now bans c.args.banned.now core old new (sym c.core_named_by.ensures.named ∙ c.in-Some.is) o same
      c.sort.ensures.idle (subst Alone c.sibling-beside.ensures.value c.sort.ensures.alone)
      (subst Beside c.sibling-beside.ensures.value c.sort.ensures.beside);
}
