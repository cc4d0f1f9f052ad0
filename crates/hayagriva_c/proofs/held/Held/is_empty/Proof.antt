-- What is owned says whether the pointer is null, and that it may be asked.
use Rattle.hayagriva_c.proofs.Steps.{◌≡◌, List, [], ◌∷◌, refl, sym, lit<, proved, full_share, ftrue, flft, named, Val, fact, tables, sem, ‵, ◌⊛◌, ◌$◌, ◌∵◌, !, qed, done, move, keep, use1, split, join, fsplit, fsplit3, fjoin, feq_i, feq_l, rewrite, suffices, frame, group, enter, of_opd, lit, bin, load, stop, fld, returns, alloc_all, pass_all, free_all, look_at, get, through, sets, shows, Ptr, block_ptr, MutRef, mut_vals, mut_Tells, ptr_val, plain, nothing, opens, closes, peeks, Stays, walk_of, says, stay_ref, Goes-ref, ends_at, never, fst∗, snd∗, via}
use mathlib.Core.Bool.{Bool, true, false}
use mathlib.Core.Path.{subst}
use lib.Dec.{T}
use seplogic.Ra.Ura.{Ura}
use base.Logic.{ent, never_e, guard_i}
use base.Fml.{feq}
use contract.Monad.{fact_i, fact_mono, fact_use}
use types.Kit.{given, learn, by}
use types.ByLocal.{is}
use types.Logic.{Logic}
use types.Part.{whole, sub, look_in}
use mir.Raw.{raw as bare}
use mir.Syntax.{ty_ptr, ptr_eq}
use mir.Val.{vnull, vbool, op2_val, has_ty, WT}
use denote.Memory.{cell_at, lone}
use denote.RawPtr.{null_ptr, Testable, tests_null, lies_at}
use Rattle.std.proofs.GlobalToken.{dealloc_token-Testable}
use Rattle.std.specs.Prelude.{Option, None, Some, is_none}
use Rattle.std.specs.contracts.impls.GlobalAllocator.TheImpl.{ghosts}
use Rattle.std.specs.declared.alloc.Global.{Global}
use Rattle.hayagriva_c.specs.Held.{content_owns}
use Rattle.hayagriva_c.specs.contracts.content.Content.{the_row as X}
use Rattle.hayagriva_c.specs.contracts.held.Held.is_empty as f
use Rattle.hayagriva_c.proofs.held.Held.is_empty.Statement.{statement}
use Rattle.hayagriva_c.proofs.held.Held.is_empty.Code as code
use Rattle.hayagriva_c.specs.contracts.held.Held.{the_row as R}
use Rattle.hayagriva_c.proofs.held.Held.TheLaws.{lowers}

abbrev stayed : Stays f.ended.signature.params f.ended.kept
stayed = (stay_ref (0 ∷ []) tt (plain (λ _. R)), tt)

abbrev is_null : Ptr → Bool
is_null (block_ptr b o) = false
is_null null_ptr = true

answer : (s : Ptr) → op2_val ptr_eq (ptr_val s) vnull ≡ vbool (is_null s)
answer (block_ptr b o) = refl
answer null_ptr = refl

typed : (s : Ptr) → T (has_ty ty_ptr (ptr_val s)) × WT (ptr_val s)
typed (block_ptr b o) = (tt, tt)
typed null_ptr = (tt, record { fits = lit< tt })

abbrev Told : Option X.Denot → Ptr → Type 0
Told c p = Testable p × (is_null p ≡ is_none c)

at_null : (p : Ptr) → p ≡ null_ptr → Told None p
at_null p e = subst (Told None) (sym e) (lit< tt, refl)

module _ {M : Type 1} {𝓤 : Ura M} (𝓛 : Logic 𝓤) (a : Global) where
  told : (c : Option X.Denot) (p : Ptr) → ent 𝓤 (sem 𝓛 (content_owns a p c)) (fact 𝓤 (Told c p))
  told None p = qed 𝓛 (‵ (feq Ptr p null_ptr) ∷ []) {P = fact 𝓤 (Told None p)} (feq_l ! (λ e. by ! (fact_i 𝓤 (Told None p) _ (at_null p e))))
  told (Some x) (block_ptr b o) =
      via 𝓤 _ (snd∗ 𝓤 (sem 𝓛 (lies_at X full_share (block_ptr b o) x)) (sem 𝓛 (ghosts.dealloc_token a (bare (lone X.mir)) (block_ptr b o))))
      (via 𝓤 _ (dealloc_token-Testable 𝓛 a (bare (lone X.mir)) (block_ptr b o)) (fact_mono 𝓤 (Testable (block_ptr b o)) (Told (Some x) (block_ptr b o)) (λ t. (t, refl))))
  told (Some x) null_ptr = via 𝓤 (never 𝓤) (fst∗ 𝓤 (never 𝓤) (sem 𝓛 (ghosts.dealloc_token a (bare (lone X.mir)) null_ptr))) (never_e 𝓤 _)

pub is_empty_spec : {M : Type 1} → statement M
is_empty_spec 𝓤 𝓛 𝓜 𝓡 wired =
    let c = f.clauses 𝓛 𝓜.mem 𝓡.returns in let W = walk_of 𝓛 f.ended stayed c in let 𝓣 = tables 𝓤 𝓛.H 𝓜 𝓡 𝓡.env in
    proved 𝓛 f.ended stayed c 𝓜 𝓡 (Goes-ref 𝓛 1 0 tt (plain (λ _. R)), tt)
    f.Key.name code.function (code.unfolded 𝓤 𝓛.H 𝓜 𝓡 wired)
    (λ κs. (mut_vals, tt)) (λ κs. (mut_Tells (named 0) κs.0 R, tt)) (λ κs qs bounds a _ are.
    let b = a.0.ref_ptr.0 in let o = a.0.ref_ptr.1 in let h = a.0.now in let vs = mut_vals a.0 in
    let y : W.Ghost = ((κs, qs, bounds, a, (vs, tt)), tt) in
    let Heap = content_owns h.alloc h.ptr h.content in
    qed 𝓛 (((‵ (flft κs.0 qs.0) ⊛ ‵ ftrue) ⊛ ‵ ((MutRef (named 0) κs.0 R).own_val a.0 vs) ⊛ ‵ ftrue) ∷ ‵ ftrue ∷ []) ∵
    split ! $ split ! $ move ! (2 ∷ []) $ split ! $ keep ! (0 ∷ 2 ∷ []) $
    enter ! _ _ _ _ _ $ alloc_all ! (λ l. pass_all ! refl ((tt, tt), tt) $
    fsplit3 ! $ move ! (1 ∷ 2 ∷ 3 ∷ []) $ opens ! tt R b o (λ us.
    move ! (1 ∷ []) $ peeks ! R _ (shows 𝓛 R) h us (λ shown. fsplit ! $ move ! (1 ∷ []) $
    use1 𝓛 (given (Told h.content h.ptr) (‵ Heap)) (fact_use 𝓤 (Told h.content h.ptr) (told 𝓛 h.alloc h.content h.ptr) (guard_i 𝓤 (Told h.content h.ptr) (sem 𝓛 Heap))) $ learn ! (λ t.
    let word = lowers.val_is h us shown in
    let Cell = λ (ws : List Val). ‵ (cell_at full_share R.mir ws b o) in
    rewrite ! 2 Cell word refl $
    -- [what is owned; what the fields own; the struct's cell; the open borrow, in three entries]
    sets ! (of_opd ! (load ! (through ! refl (fld ! refl (stop !))) (look_in ! 2 (sub ! 0 refl (whole !))))) refl (typed h.ptr) $
    sets ! (is ! (bin ! (get ! refl) (lit ! tt) (tests_null h.ptr t.0)) (answer h.ptr)) refl (tt, tt) $
    rewrite ! 2 Cell (sym word) refl $
    move ! (1 ∷ []) $ fjoin ! $ move ! (1 ∷ []) $ closes ! tt R h us b o $
    -- [two parts of self; the token; self's first part]
    returns ! (look_at ! 0 refl) $ free_all ! refl $ move ! (3 ∷ []) $
    suffices ! _ (ends_at 𝓛 f.ended stayed c y (vbool (is_null h.ptr)) (is_null h.ptr) (h, tt) (tt, tt)) $ says ! (t.1, refl) $
    group ! 3 $ nothing ! $ move ! (1 ∷ 0 ∷ []) $ join ! $ nothing ! $ move ! (2 ∷ 0 ∷ []) $ join ! $ frame ! $ frame ! $
    feq_i ! _ (vbool (is_null h.ptr) ∷ []) _ refl $ done !)))))
