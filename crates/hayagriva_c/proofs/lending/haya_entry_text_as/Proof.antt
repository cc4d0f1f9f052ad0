-- The pointer is lent on as a reference, all else is handed on, and the token comes back.
use Rattle.hayagriva_c.proofs.Steps.{ !, Bor, Is, List, MutRef, MutSlice, Ptr, RawPtr, ShrRef, ShrSlice, Stays, WpFn, [], addr, agg, alive, alloc_all, and_then, at_exit, await, block_ptr, calls_at, done, drop, ends_at, enter, fld, flft, frame, framed, free_all, from, fsep, fsplit, fst∗, ftrue, get, get_in, group, hop, id⊢, in_a_block, join, lands_as, lasts, later, length, look_at, look_in_at, move, mut_Tells, mut_slice_Tells, mut_slice_vals, mut_vals, named, never, no_more, nothing, pass_all, peeks, pick, prop, proved, ptr_val, qed, raw, rawptr_Tells, rawptr_vals, refl, regoal, returns, sem, sets, shows, shr_Tells, shr_slice_Tells, shr_slice_vals, shr_vals, slice_val, some, split, stop, sub, suffices, tables, through, triple_of, u32, u8, uint_Lawful, uint_Tells, uint_vals, use1, use2, usize, vint, vptr, w32, walk_of, whole, ‵, ℕ, ◌$◌, ◌∵◌, ◌∷◌, ◌⊛◌}
use Rattle.hayagriva_c.proofs.Handed.{all_handed, all_go}
use Rattle.hayagriva_c.specs.Lent.{lent, token}
use Rattle.hayagriva_c.specs.contracts.content.Content.{the_row as R}
use Rattle.haya_views.specs.contracts.entry_id.EntryId.{the_row as Id}
use Rattle.hayagriva_c.specs.contracts.lending.haya_entry_text_as as f
use Rattle.hayagriva_c.proofs.lending.haya_entry_text_as.Statement.{statement}
use Rattle.hayagriva_c.proofs.lending.haya_entry_text_as.Code as code
use Rattle.hayagriva_c.specs.contracts.asking.entry_text_as as g
use Rattle.hayagriva_c.proofs.asking.entry_text_as.Met.{met}

abbrev stayed : Stays f.ended.signature.params f.ended.kept
stayed = all_handed f.ended.signature.params f.ended.kept

pub haya_entry_text_as_spec : {M : Type 1} → statement M
haya_entry_text_as_spec 𝓤 𝓛 𝓜 𝓡 wired =
    let c = f.clauses 𝓛 𝓜.mem 𝓡.returns in let W = walk_of 𝓛 f.ended stayed c in let 𝓣 = tables 𝓤 𝓛.H 𝓜 𝓡 𝓡.env in
    proved 𝓛 f.ended stayed c 𝓜 𝓡 (all_go 𝓛 4 f.ended.signature.params f.ended.kept)
    f.Key.name code.function (code.unfolded 𝓤 𝓛.H 𝓜 𝓡 wired)
    (λ κs. (rawptr_vals, (shr_vals, (shr_slice_vals, (uint_vals w32, (mut_slice_vals, (mut_vals, tt)))))))
    (λ κs. (rawptr_Tells, (shr_Tells (named 0) κs.0 Id, (shr_slice_Tells (named 1) κs.1.0 u8, (uint_Tells w32, (mut_slice_Tells (named 2) κs.1.1.0 u8, (mut_Tells (named 3) κs.1.1.1.0 usize, tt))))))) (λ κs qs bounds a loan are.
    let y : Ptr → W.Ghost = λ p. ((κs, qs, bounds, (p, a.1), (rawptr_vals p, (shr_vals a.1.0, (shr_slice_vals a.1.1.0, ((uint_vals w32) a.1.1.1.0, (mut_slice_vals a.1.1.1.1.0, (mut_vals a.1.1.1.1.1.0, tt))))))), loan) in
    let vs = (y a.0).0.4 in
    let Rest = ‵ (fsep ((ShrRef (named 0) κs.0 Id).own_val a.1.0 vs.1.0) (fsep ((ShrSlice (named 1) κs.1.0 u8).own_val a.1.1.0 vs.1.1.0) (fsep (u32.own_val a.1.1.1.0 vs.1.1.1.0) (fsep ((MutSlice (named 2) κs.1.1.0 u8).own_val a.1.1.1.1.0 vs.1.1.1.1.0) (fsep ((MutRef (named 3) κs.1.1.1.0 usize).own_val a.1.1.1.1.1.0 vs.1.1.1.1.1.0) ftrue))))) in
    qed 𝓛 ((raw (alive 𝓛 f.signature κs qs) ⊛ (‵ (RawPtr.own_val a.0 (rawptr_vals a.0)) ⊛ Rest)) ∷ ‵ (lent a.0 loan) ∷ []) ∵
    split ! $ move ! (1 ∷ []) $ split ! $ drop ! $ move ! (2 ∷ []) $
    in_a_block ! a.0 (λ p. lent p loan) (fst∗ 𝓤 (never 𝓤) (sem 𝓛 (token loan))) (λ b o e.
    regoal ! (λ p. prop (WpFn 𝓤 𝓛.H 𝓣.C 𝓣.Λ code.function (ptr_val p ∷ vptr a.1.0.ref_ptr.0 a.1.0.ref_ptr.1 ∷ slice_val a.1.1.0.ref_ptr (length a.1.1.0.now) ∷ vint w32 a.1.1.1.0 ∷ slice_val a.1.1.1.1.0.ref_ptr (length a.1.1.1.1.0.now) ∷ vptr a.1.1.1.1.1.0.ref_ptr.0 a.1.1.1.1.1.0.ref_ptr.1 ∷ []) (W.post (y p)))) e refl $
    enter ! _ _ _ _ _ $
    alloc_all ! (λ l. pass_all ! refl ((tt, tt), ((tt, tt), ((tt, (tt, (record { fits = are.1.1.0.0.1.0 }, tt))), ((tt, record { fits = are.1.1.1.0.1 }), ((tt, (tt, (record { fits = are.1.1.1.1.0.0.1.0 }, tt))), ((tt, tt), tt)))))) $
    fsplit ! $
    -- [the reference; its token; what is handed on; the tokens; the locals]
    sets ! (addr ! (through ! refl (stop !))) refl (tt, tt) $
    sets ! (addr ! (from ! (fld ! refl (hop ! (look_in_at ! 5 (sub ! 0 refl (whole !))) (stop !))))) refl (tt, tt) $
    sets ! (agg ! (and_then ! (get ! refl) (and_then ! (get_in ! (fld ! refl (stop !)) (sub ! 1 refl (whole !))) (no_more !)))) refl (tt, (tt, (record { fits = are.1.1.1.1.0.0.1.0 }, tt))) $
    sets ! (addr ! (through ! refl (stop !))) refl (tt, tt) $
    let r1 : Bor R.Denot = record { ref_ptr = (b, o); now = loan.value } in
    let G = triple_of 𝓛 g.signature (g.spec 𝓛 𝓜.mem 𝓡.returns) in
    let z : G.Ghost = (((loan.while, κs), (loan.share, qs), tt, (r1, a.1), (vptr b o ∷ [], vs.1)), tt) in
    move ! (0 ∷ 2 ∷ []) $ join ! $ move ! (1 ∷ 2 ∷ []) $ join ! $ join ! $
    nothing ! $ move ! (1 ∷ 0 ∷ []) $ use2 𝓛 (raw (G.pre z)) (id⊢ 𝓤 _) $
    calls_at ! (framed 𝓤 𝓛.H 𝓜 (tables 𝓤 𝓛.H 𝓜 𝓡 𝓡.env)) G (met 𝓤 𝓛 𝓜 𝓡 (code.calls-hayagriva_c::asking::entry_text_as 𝓡.env wired)) z
    (and_then ! (get ! refl) (and_then ! (get ! refl) (and_then ! (get ! refl) (and_then ! (get ! refl) (and_then ! (get ! refl) (and_then ! (get ! refl) (no_more !))))))) (λ v.
    use1 𝓛 (later (some (λ (u : ℕ). ((‵ (flft loan.while loan.share) ⊛ (raw (alive 𝓛 f.signature κs qs))) ⊛ ‵ (u32.own_val u (v ∷ []))) ⊛
    some (λ (ws : Unit {0} × (Unit {0} × (Unit {0} × (Unit {0} × (List u8.Denot × (usize.Denot × (Unit {0}))))))). ‵ (lasts g.ended z.0.0 z.0.3 ws) ⊛ raw ((g.clauses 𝓛 𝓜.mem 𝓡.returns z.0.0 z.0.3).ensures tt u (at_exit g.ended z.0.0 z.0.3 ws)))))) (id⊢ 𝓤 _) $
    await ! tt $ pick ! (λ u. split ! $ split ! $ split ! $
    move ! (3 ∷ []) $ pick ! (λ ws. split ! $
    -- [what the call left; what it ensures; the token; the tokens; the number]
    move ! (4 ∷ []) $
    peeks ! u32 (Is u32) (shows 𝓛 u32) u (v ∷ []) (λ is. lands_as ! refl refl ((uint_Lawful 𝓛 w32).typed u _ is).0 $
    returns ! (look_at ! 0 refl) $ free_all ! refl $
    suffices ! _ (ends_at 𝓛 f.ended stayed c (y (block_ptr b o)) v u ws (tt, (tt, (tt, (tt, (tt, (tt, tt))))))) $
    move ! (4 ∷ 1 ∷ 0 ∷ []) $ group ! 3 $ frame ! $ move ! (1 ∷ 0 ∷ []) $ join ! $ done !)))))))
