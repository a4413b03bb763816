-- The names from outside these proofs that several of them cite, passed on from one place. Declares nothing.
pub use Rattle.atomic_table.proofs.Lists.{at_longer, at_set, at_snoc, set_else}
pub use Rattle.atomic_table.specs.Table.{Allows, Joins, Me, Splits, State, keeps, opening, step, stepped}
pub use Rattle.cal_signal.specs.Pages.{Chain, FitsFrom, FitsSomePage, IsPage, floor_from, floor_of, last_from, last_published}
pub use Rattle.cal_signal.specs.Records.{IsLater, IsShaped, MayFollow, is_same, record_of, words_of, zero_record}
pub use Rattle.cal_signal.specs.Rule.{Kept, Knows, Observes, Sole, parts_of, sees}
pub use Rattle.cal_signal.specs.Steps.{both_looking, both_parts, both_reading, closed, ended, learned, no_part, observer_part, opened, opening_view, peeked, publisher_part, spared, started, watcher_part, without_watcher, wrote}
pub use Rattle.cal_signal.specs.declared.record.Record.{Record}
pub use Rattle.cal_signal.specs.declared.view.View.{View}
pub use Rattle.std.proofs.Common.{Bool, List, [], ap, arith, false, get_or, get_or-set_other, get_or-set_same, inl, inr, le_refl, length, length-set, nat_le, nat_lt, refl, rules, set, subst, suc, sym, take, true, true≢false, zero, ℕ, ⊎_elim, ◌%◌, ◌&&◌, ◌*◌, ◌++◌, ◌+◌, ◌/◌, ◌<◌, ◌==◌, ◌||◌, ◌∙◌, ◌∷◌, ◌≡◌, ◌≢◌, ◌≤◌, ◌⊎◌}
pub use Rattle.std.proofs.lemmas.List.{ext_get_or, get_or_append_left, get_or_push, length-take-le, length_push, set-get_or, take_all, take_more, take_more_set}
pub use lib.ListN.{get_elem?}
pub use mathlib.Core.Logic.{dite, ◌↔◌}
pub use mathlib.Core.Option.{Option, none, some, some-injective, some-ne-none}
