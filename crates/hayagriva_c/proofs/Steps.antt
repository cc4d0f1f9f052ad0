-- The names that the walks cite.
pub use Rattle.std.proofs.Common.{◌≡◌, ℕ, ◌≤◌, List, [], ◌∷◌, refl, sym, ap, ◌∙◌, lit<, nltb→le, w8, w64, MutBor, arith, length, w32}
pub use Rattle.std.proofs.raw_atomic.Walks.{proved}
pub use base.Fraction.{full_share}
pub use base.Logic.{id⊢, fst∗, snd∗, never, via}
pub use base.Fml.{ftrue, fat, flft, fres, fsep}
pub use mir.Syntax.{ty_int, named}
pub use mir.Val.{Val, vunit, vint, vptr, vbool}
pub use contract.Monad.{fact}
pub use contract.Running.{tables}
pub use types.Logic.{sem}
pub use types.Kit.{‵, raw, ◌⊛◌, some, later, prop, at_ret, Sq, ◌$◌, ◌∵◌, !, qed, done, move, keep, drop, use1, use2, use3, split, join, fsplit, fsplit3, fjoin, feq_i, feq_l, pick, await, rewrite, regoal, suffices, frame, group}
pub use types.Run.{enter, of_opd, lit, unit_lit, bin, addr, load, look, store, stop, fld, hop, no_more, and_then, assigns, assigns_last, first, blocks, branches, skips, exec, returns, returns_within, well_typed, from}
pub use types.ByLocal.{alloc_all, pass_all, free_all, look_at, get, through, sets, lands_as, env, look_in_at, get_in}
pub use denote.Builtin.{u8, usize, bool, unit, u32, u64, i32}
pub use denote.Exit.{yes}
pub use denote.Laws.{Is, shows}
pub use denote.Plain.{uint_in, uint_out, uint_Makes, uint_vals, uint_Tells, uint_Lawful, bool_vals, bool_Tells, bool_Lawful}
pub use denote.RawPtr.{Ptr, RawPtr, block_ptr, lies_at, in_a_block, rawptr_vals, rawptr_Tells, rawptr_Lawful, ptr_val}
pub use denote.Ref.{Bor, ShrRef, MutRef, mut_vals, mut_Tells, shr_vals, shr_Tells}
pub use denote.Signature.{plain, types_at}
pub use denote.Steps.{nothing, owned, opens, closes, tied, ties, heard, peeks, only}
pub use denote.Triple.Call.{calls_at}
pub use denote.Triple.Clauses.{lasts, at_exit}
pub use denote.Triple.Entry.{on_entry, alive}
pub use denote.Triple.Spec.{triple_of}
pub use denote.Triple.Walked.{Stays, walk_of, says, stay_dropped, Goes-dropped, stay_ref, Goes-ref, ends_at}
pub use denote.Triple.Table.{framed}
pub use Rattle.std.specs.Prelude.{Bool}
pub use prog.Wp.{WpFn}
pub use types.Part.{agg, whole, sub}
pub use denote.RattleType.{owns}
pub use denote.Slice.{ShrSlice, MutSlice, slice_val, shr_slice_vals, shr_slice_Tells, mut_slice_vals, mut_slice_Tells}
