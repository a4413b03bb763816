-- Actions that name no holder leave the cores where they are.
use Rattle.cal_laws.proofs.Common.{◌≡◌, ℕ, List, [], ◌∷◌, ◌++◌, None, ap, ◌∙◌, unwrap_or, Table, Action, holder_of, holder_made, is_held_for, held_by, Setting, so_far, ActionIsOneMore, so_far_push}
use Rattle.cal_laws.proofs.ListLemmas.Below.{count_same}

-- two lists of actions after which each core is with the same thread
abbrev pub SameHolders : List Action → List Action → Type 0
SameHolders x y = (c : ℕ) → holder_of y c ≡ holder_of x c

pub holders_after : ActionIsOneMore → (s : Setting) (acts : List Action) (a : Action) → ((c : ℕ) → holder_made c (so_far s acts) a ≡ None) →
    SameHolders (so_far s acts) (so_far s (acts ++ a ∷ []))
holders_after more s acts a none c =
    ap (λ x. holder_of x c) (so_far_push s acts a) ∙ (more (so_far s acts) a).holder c ∙ ap (λ o. unwrap_or o (holder_of (so_far s acts) c)) (none c)

pub held_same : (table : Table) (x y : List Action) → SameHolders x y → (t : ℕ) → held_by table y t ≡ held_by table x t
held_same table x y e t = count_same (λ c. is_held_for table t (holder_of y c)) (λ c. is_held_for table t (holder_of x c)) table.cores (λ c. ap (is_held_for table t) (e c))
