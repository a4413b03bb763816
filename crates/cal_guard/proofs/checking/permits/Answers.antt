use Rattle.cal_guard.proofs.Common.{[], sym, subst, ◌∙◌, ◌↔◌, IsOk, IsInside, MayEndWith, Setting, Begun, setting}
use Rattle.cal_guard.proofs.Taking.{whole, whole_back}
use Rattle.cal_guard.proofs.checking.permits.Goals as goal

pub returns : goal.returns
returns c =
    let table = c.args.config.now in
    let h = c.args.before.now in
    let s : Setting = setting table h c.args.input.now in
    let begun : Begun = record { history = h; seen = c.args.input.now.seen } in
    let P : Setting → Type 0 = λ t. IsInside c.begin.new.self t [] in
    let inside = c.begin.ensures.inside table h c.args.input.now c.as_slice.ensures c.requires.permitted (record { actions = c.board_of-board.ensures.agrees; looks = c.board_of-board.ensures.keeping }) in
    let same = c.of-terms.ensures h in
    let Q : Setting → Type 0 = λ t. IsOk c.take_each.result ↔ MayEndWith t [] c.args.actions.now in
    let exact = subst Q (sym same) (c.take_each.ensures.exact begun [] (subst P same inside)) in (
      λ yes. whole s c.args.actions.now (exact.0 (sym c.is_ok.ensures.value ∙ yes)),
      λ all. c.is_ok.ensures.value ∙ exact.1 (whole_back s c.args.actions.now all),
    )
