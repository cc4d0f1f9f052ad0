-- The content is lent for the time of the call, all else is handed on, and the content comes back as the call left it.
use Rattle.hayagriva_c.proofs.Steps.{ !, Is, MutBor, MutRef, Ptr, RawPtr, ShrSlice, Stays, WpFn, [], addr, alive, alloc_all, and_then, at_exit, await, block_ptr, calls_at, done, drop, ends_at, enter, fjoin, flft, framed, free_all, fsep, fsplit, ftrue, full_share, get, group, heard, id⊢, in_a_block, join, lands_as, lasts, later, length, look_at, move, mut_Tells, mut_vals, named, no_more, nothing, pass_all, peeks, pick, prop, proved, ptr_val, qed, raw, rawptr_Tells, rawptr_vals, refl, regoal, returns, sets, shows, shr_slice_Tells, shr_slice_vals, slice_val, some, split, stop, suffices, tables, through, triple_of, u32, u8, uint_Lawful, use1, use2, use3, vptr, w32, walk_of, ‵, ℕ, ◌$◌, ◌∵◌, ◌∷◌, ◌⊛◌}
use base.Fml.{fex, flent}
use denote.Lend.{lends_ref, ref_back}
use denote.Memory.{mem, part_at}
use types.Kit.{fpack}
use types.SemTy.{Body}
use types.Tokens.{lft_new, lft_end}
use Rattle.hayagriva_c.proofs.Handed.{all_handed, all_go}
use Rattle.hayagriva_c.specs.Changing.{PushGives}
use Rattle.hayagriva_c.specs.Owned.{owned}
use Rattle.hayagriva_c.specs.contracts.content.Content.{the_row as R}
use Rattle.hayagriva_c.specs.contracts.fault.Fault.{the_row as Fault}
use Rattle.hayagriva_c.specs.contracts.changing.haya_library_push as f
use Rattle.hayagriva_c.proofs.changing.haya_library_push.Statement.{statement}
use Rattle.hayagriva_c.proofs.changing.haya_library_push.Code as code
use Rattle.hayagriva_c.specs.contracts.changes.library_push as g
use Rattle.hayagriva_c.proofs.changes.library_push.Met.{met}

abbrev stayed : Stays f.ended.signature.params f.ended.kept
stayed = all_handed f.ended.signature.params f.ended.kept

pub haya_library_push_spec : {M : Type 1} → statement M
haya_library_push_spec 𝓤 𝓛 𝓜 𝓡 wired =
    let c = f.clauses 𝓛 𝓜.mem 𝓡.returns in let W = walk_of 𝓛 f.ended stayed c in let 𝓣 = tables 𝓤 𝓛.H 𝓜 𝓡 𝓡.env in
    proved 𝓛 f.ended stayed c 𝓜 𝓡 (all_go 𝓛 2 f.ended.signature.params f.ended.kept)
    f.Key.name code.function (code.unfolded 𝓤 𝓛.H 𝓜 𝓡 wired)
    (λ κs. (rawptr_vals, (shr_slice_vals, (mut_vals, tt))))
    (λ κs. (rawptr_Tells, (shr_slice_Tells (named 0) κs.0 u8, (mut_Tells (named 1) κs.1.0 Fault, tt)))) (λ κs qs bounds a was are.
    let y : Ptr → W.Ghost = λ p. ((κs, qs, bounds, (p, a.1), (rawptr_vals p, (shr_slice_vals a.1.0, (mut_vals a.1.1.0, tt)))), was) in
    let vs = (y a.0).0.4 in
    let Rest = ‵ (fsep ((ShrSlice (named 0) κs.0 u8).own_val a.1.0 vs.1.0) (fsep ((MutRef (named 1) κs.1.0 Fault).own_val a.1.1.0 vs.1.1.0) ftrue)) in
    qed 𝓛 ((raw (alive 𝓛 f.signature κs qs) ⊛ (‵ (RawPtr.own_val a.0 (rawptr_vals a.0)) ⊛ Rest)) ∷ ‵ (owned a.0 was) ∷ []) ∵
    split ! $ move ! (1 ∷ []) $ split ! $ drop ! $ move ! (2 ∷ []) $
    in_a_block ! a.0 (λ p. owned p was) (id⊢ 𝓤 _) (λ b o e.
    regoal ! (λ p. prop (WpFn 𝓤 𝓛.H 𝓣.C 𝓣.Λ code.function (ptr_val p ∷ slice_val a.1.0.ref_ptr (length a.1.0.now) ∷ vptr a.1.1.0.ref_ptr.0 a.1.1.0.ref_ptr.1 ∷ []) (W.post (y p)))) e refl $
    enter ! _ _ _ _ _ $
    alloc_all ! (λ l. pass_all ! refl ((tt, tt), ((tt, (tt, (record { fits = are.1.0.0.1.0 }, tt))), ((tt, tt), tt))) $
    -- [the content; what is handed on; the tokens; the locals]
    lft_new ! tt (λ α. move ! (1 ∷ []) $
    use1 𝓛 (later (some (λ (γ : ℕ). ‵ ((MutRef (named 0) (α ∷ []) R).own_val (record { ref_ptr = (b, o); ghost_name = γ; now = was }) (vptr b o ∷ [])) ⊛ ‵ (flent (α ∷ []) (Body (mem R) b o γ)))))
    (lends_ref 𝓛 R (named 0) (α ∷ []) was b o) $ await ! tt $ pick ! (λ γ. split ! $
    -- [the loan; the lender's part; its token; what is handed on; the tokens; the locals]
    sets ! (addr ! (through ! refl (stop !))) refl (tt, tt) $
    sets ! (addr ! (through ! refl (stop !))) refl (tt, tt) $
    let r : MutBor R.Denot = record { ref_ptr = (b, o); ghost_name = γ; now = was } in
    let G = triple_of 𝓛 g.signature (g.spec 𝓛 𝓜.mem 𝓡.returns) in
    let z : G.Ghost = (((α ∷ [], κs), (full_share, qs), tt, (r, a.1), (vptr b o ∷ [], vs.1)), tt) in
    move ! (0 ∷ 3 ∷ []) $ join ! $ move ! (2 ∷ 3 ∷ 0 ∷ []) $ join ! $ join ! $
    nothing ! $ move ! (1 ∷ 0 ∷ []) $ use2 𝓛 (raw (G.pre z)) (id⊢ 𝓤 _) $
    calls_at ! (framed 𝓤 𝓛.H 𝓜 (tables 𝓤 𝓛.H 𝓜 𝓡 𝓡.env)) G (met 𝓤 𝓛 𝓜 𝓡 (code.calls-hayagriva_c::changes::library_push 𝓡.env wired)) z
    (and_then ! (get ! refl) (and_then ! (get ! refl) (and_then ! (get ! refl) (no_more !)))) (λ v.
    use1 𝓛 (later (some (λ (u : ℕ). ((‵ (flft (α ∷ []) full_share) ⊛ (raw (alive 𝓛 f.signature κs qs))) ⊛ ‵ (u32.own_val u (v ∷ []))) ⊛
    some (λ (ws : R.Denot × (Unit {0} × (Fault.Denot × (Unit {0})))). ‵ (lasts g.ended z.0.0 z.0.3 ws) ⊛ raw ((g.clauses 𝓛 𝓜.mem 𝓡.returns z.0.0 z.0.3).ensures tt u (at_exit g.ended z.0.0 z.0.3 ws)))))) (id⊢ 𝓤 _) $
    await ! tt $ pick ! (λ u. split ! $ split ! $ split ! $ lft_end ! tt $
    move ! (3 ∷ []) $ pick ! (λ ws. split ! $ move ! (1 ∷ []) $ heard ! _ (λ holds. fsplit ! $ fsplit ! $
    -- [the content's last value; its borrow; what is left; the loan is over; the tokens; the number; the lender's part]
    move ! (3 ∷ 6 ∷ 0 ∷ []) $ use3 𝓛 (later (‵ (part_at R full_share ws.0 b o))) (ref_back 𝓛 R (α ∷ []) γ ws.0 b o) $ await ! tt $
    -- [the content; its borrow; what is left; the tokens; the number]
    move ! (4 ∷ []) $
    peeks ! u32 (Is u32) (shows 𝓛 u32) u (v ∷ []) (λ is. lands_as ! refl refl ((uint_Lawful 𝓛 w32).typed u _ is).0 $
    returns ! (look_at ! 0 refl) $ free_all ! refl $
    suffices ! _ (ends_at 𝓛 f.ended stayed c (y (block_ptr b o)) v u (tt, ws.1) (tt, (tt, (tt, tt)))) $
    -- [the number; the content; its borrow; what is left; the tokens]
    nothing ! $ fpack ! (PushGives a.1.0.now was ws.0 u a.1.1.0.now ws.1.1.0) (λ _. ftrue) holds $
    move ! (2 ∷ 0 ∷ []) $ fjoin ! $ fpack ! R.Denot (λ content. fsep (owned (block_ptr b o) content) (fex (PushGives a.1.0.now was content u a.1.1.0.now ws.1.1.0) (λ _. ftrue))) ws.0 $
    -- [the content, of which this holds; the number; its borrow; what is left; the tokens]
    move ! (2 ∷ []) $ drop ! $ nothing ! $ move ! (0 ∷ 3 ∷ []) $ fjoin ! $ move ! (3 ∷ 0 ∷ 2 ∷ []) $ group ! 3 $ done !))))))))))
