-- A board that is kept up with one more pass.
use Rattle.cal_policy.proofs.Common.{◌≡◌, List, [], ◌∷◌, ◌++◌, ap, ◌∙◌, map-append, append-nil, flat_map-append, PassEntry, actions_of, looks_of}

pub actions_push : (h : List PassEntry) (entry : PassEntry) → actions_of (h ++ entry ∷ []) ≡ actions_of h ++ entry.actions
actions_push h entry = flat_map-append (λ (e : PassEntry). e.actions) h (entry ∷ []) ∙ ap (λ l. actions_of h ++ l) (append-nil entry.actions)

pub looks_push : (h : List PassEntry) (entry : PassEntry) → looks_of (h ++ entry ∷ []) ≡ looks_of h ++ entry.input.seen ∷ []
looks_push h entry = map-append (λ (e : PassEntry). e.input.seen) h (entry ∷ [])
