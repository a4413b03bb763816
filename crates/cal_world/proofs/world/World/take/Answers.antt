use Rattle.cal_world.proofs.Common.{◌≡◌, List, [], ◌∷◌, ◌++◌, sym, ap, ◌∙◌, subst, Event, IsAllowedBy, IsLegalListBy, Past, IsPresent}
use Rattle.cal_world.proofs.ScheduleLemmas.Pasts.{list_more}
use Rattle.cal_world.proofs.WorldLemmas.Present.{has_thread}
use Rattle.cal_world.proofs.world.World.take.Goals as goal

pub note-requires : goal.note-requires
note-requires c =
    let P : Past → Type 0 = λ past. IsAllowedBy past.policy past.table past.events c.args.event.now in
    has_thread c.self.inside.policy c.self.inside.config c.self.inside.events.items c.args.event.now c.self.inside.present c.self.invariant.kept (subst P (sym c.self.view_is) c.requires)

pub returns-clause-legal : goal.returns-clause-legal
returns-clause-legal c =
    let policy = c.self.inside.policy in
    let table = c.self.inside.config in
    let events : List Event = c.self.inside.events.items in
    let P : Past → Type 0 = λ past. IsAllowedBy past.policy past.table past.events c.args.event.now in
    let allowed : IsAllowedBy policy table events c.args.event.now = subst P (sym c.self.view_is) c.requires in
    let all : events ++ c.args.event.now ∷ [] ≡ c.push_reserved.new.self.items =
    sym (c.push_reserved.ensures.items ∙ ap (λ (es : List Event). es ++ c.in_ok-copy.copy ∷ []) c.in_ok-reserve.ensures.items ∙ ap (λ (e : Event). events ++ e ∷ []) c.in_ok-copy.ensures) in
    subst (IsLegalListBy policy table) all (list_more policy table events c.args.event.now c.self.invariant.legal allowed)

pub invariant_of-self-2 : goal.invariant_of-self-2
invariant_of-self-2 c =
    let policy = c.self.inside.policy in
    let table = c.self.inside.config in
    let events : List Event = c.self.inside.events.items in
    let is = c.self.invariant in
    let P : Past → Type 0 = λ past. IsAllowedBy past.policy past.table past.events c.args.event.now in
    let allowed : IsAllowedBy policy table events c.args.event.now = subst P (sym c.self.view_is) c.requires in
    let all : events ++ c.args.event.now ∷ [] ≡ c.push_reserved.new.self.items =
    sym (c.push_reserved.ensures.items ∙ ap (λ (es : List Event). es ++ c.in_ok-copy.copy ∷ []) c.in_ok-reserve.ensures.items ∙ ap (λ (e : Event). events ++ e ∷ []) c.in_ok-copy.ensures) in
    let Q : List Event → Type 0 = λ es. IsPresent table es c.note.new.self in record {
      ok = is.ok;
      legal = subst (IsLegalListBy policy table) all (list_more policy table events c.args.event.now is.legal allowed);
      kept = subst Q all (c.in_ok-note.ensures.ok policy table events is.ok is.legal allowed is.kept);
    }
