-- The words in which the walks of the three pointers are written.
pub use mathlib.Core.Path.{refl, sym, subst}
pub use Rattle.std.specs.Prelude.{None, ◌≡◌, true, false, Option, Some}
pub use mathlib.Core.List.{List, [], ◌∷◌, ◌++◌}
pub use lib.Dec.{T, lit<}
pub use mir.Syntax.{Ty, ty_ptr, ty_struct, tcons, tnil}
pub use seplogic.Ra.Ura.{Ura}
pub use mir.Val.{Val, vnull, vstruct, vcons, vnil, has_ty, WT}
pub use base.Logic.{SProp, ent, emp, id⊢}
pub use base.Fml.{ftrue, fsep}
pub use prog.Memory.{Memory}
pub use prog.Routine.{Routine}
pub use prog.Wp.{WpFn, Tables}
pub use types.Logic.{Logic}
pub use contract.Monad.{Fun, fact}
unfoldable pub use contract.Running.{tables, tables_of}
pub use sound.WpLaws.{WpFn-mono}
pub use types.Kit.{Item, ‵, raw, ◌⊛◌, ◌$◌, ◌∵◌, !, qed, by, move, drop, use1, join, split, fsplit, fjoin, fpack, feq_i, suffices, done, rewrite}
pub use types.Part.{agg, whole, sub}
pub use types.Run.{no_more, and_then, lit, returns, enter, stop, fld, of_opd}
pub use types.ByLocal.{alloc_all, pass_all, free_all, look_at, get, sets, get_in}
pub use denote.Exit.{yes}
pub use denote.RattleType.{Valss}
pub use denote.Builtin.{RawPtr}
pub use denote.RawPtr.{null_ptr}
pub use denote.Signature.{type_at}
pub use denote.Steps.{nothing, heard}
pub use denote.Struct.Struct.{within}
pub use denote.Struct.Owning.{shape, to}
pub use denote.Triple.Spec.{triple_of}
pub use denote.Triple.Table.{entered}
pub use denote.Triple.Walked.{says, Stays, stay_dropped, walk_of, ends_at, Goes-dropped, walk_Meets}
pub use Rattle.std.proofs.alloc.Calls.{α, handle_tells}
pub use Rattle.std.proofs.ResultValues.{and_tt}
pub use Rattle.std.proofs.BoxSteps.Form.{P, D, B, word, box_typed}
pub use Rattle.std.specs.Option.{is_some}
pub use Rattle.std.proofs.BoxSteps.Steps.{box_out, box_in}
