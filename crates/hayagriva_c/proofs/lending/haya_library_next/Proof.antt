-- Both pointers are lent on as references, all else is handed on, and the tokens come back.
use Rattle.hayagriva_c.proofs.Steps.{ !, Bor, Is, List, MutRef, MutSlice, Ptr, RawPtr, Stays, WpFn, [], addr, agg, alive, alloc_all, and_then, at_exit, await, block_ptr, calls_at, done, drop, ends_at, enter, fjoin, fld, flft, frame, framed, free_all, from, fsep, fsplit, fst∗, ftrue, get, get_in, group, hop, id⊢, in_a_block, join, lands_as, lasts, later, length, look_at, look_in_at, move, mut_Tells, mut_slice_Tells, mut_slice_vals, mut_vals, named, never, no_more, nothing, pass_all, peeks, pick, prop, proved, ptr_val, qed, raw, rawptr_Tells, rawptr_vals, refl, regoal, returns, sem, sets, shows, slice_val, some, split, stop, sub, suffices, tables, through, triple_of, u32, uint_Lawful, use1, use2, usize, vptr, w32, walk_of, whole, ‵, ℕ, ◌$◌, ◌∵◌, ◌∷◌, ◌⊛◌}
use Rattle.hayagriva_c.proofs.Handed.{all_handed, all_go}
use Rattle.hayagriva_c.specs.Lent.{both_lent, lent, token}
use Rattle.hayagriva_c.specs.contracts.content.Content.{the_row as R}
use Rattle.haya_views.specs.contracts.entry_id.EntryId.{the_row as Id}
use Rattle.hayagriva_c.specs.contracts.lending.haya_library_next as f
use Rattle.hayagriva_c.proofs.lending.haya_library_next.Statement.{statement}
use Rattle.hayagriva_c.proofs.lending.haya_library_next.Code as code
use Rattle.hayagriva_c.specs.contracts.asking.library_next as g
use Rattle.hayagriva_c.proofs.asking.library_next.Met.{met}

abbrev stayed : Stays f.ended.signature.params f.ended.kept
stayed = all_handed f.ended.signature.params f.ended.kept

pub haya_library_next_spec : {M : Type 1} → statement M
haya_library_next_spec 𝓤 𝓛 𝓜 𝓡 wired =
    let c = f.clauses 𝓛 𝓜.mem 𝓡.returns in let W = walk_of 𝓛 f.ended stayed c in let 𝓣 = tables 𝓤 𝓛.H 𝓜 𝓡 𝓡.env in
    proved 𝓛 f.ended stayed c 𝓜 𝓡 (all_go 𝓛 3 f.ended.signature.params f.ended.kept)
    f.Key.name code.function (code.unfolded 𝓤 𝓛.H 𝓜 𝓡 wired)
    (λ κs. (rawptr_vals, (rawptr_vals, (mut_vals, (mut_vals, (mut_slice_vals, tt))))))
    (λ κs. (rawptr_Tells, (rawptr_Tells, (mut_Tells (named 0) κs.0 usize, (mut_Tells (named 1) κs.1.0 Id, (mut_slice_Tells (named 2) κs.1.1.0 Id, tt)))))) (λ κs qs bounds a loans are.
    let y : Ptr → Ptr → W.Ghost = λ p p'. ((κs, qs, bounds, (p, (p', a.1.1)), (rawptr_vals p, (rawptr_vals p', (mut_vals a.1.1.0, (mut_vals a.1.1.1.0, (mut_slice_vals a.1.1.1.1.0, tt)))))), loans) in
    let vs = (y a.0 a.1.0).0.4 in
    let Rest = ‵ (fsep ((MutRef (named 0) κs.0 usize).own_val a.1.1.0 vs.1.1.0) (fsep ((MutRef (named 1) κs.1.0 Id).own_val a.1.1.1.0 vs.1.1.1.0) (fsep ((MutSlice (named 2) κs.1.1.0 Id).own_val a.1.1.1.1.0 vs.1.1.1.1.0) ftrue))) in
    qed 𝓛 ((raw (alive 𝓛 f.signature κs qs) ⊛ (‵ (RawPtr.own_val a.0 (rawptr_vals a.0)) ⊛ ‵ (RawPtr.own_val a.1.0 (rawptr_vals a.1.0)) ⊛ Rest)) ∷ ‵ (both_lent a.0 a.1.0 loans) ∷ []) ∵
    split ! $ move ! (1 ∷ []) $ split ! $ drop ! $ split ! $ drop ! $ move ! (2 ∷ []) $ fsplit ! $
    in_a_block ! a.0 (λ p. lent p loans.0) (fst∗ 𝓤 (never 𝓤) (sem 𝓛 (token loans.0))) (λ b o e. move ! (1 ∷ []) $
    in_a_block ! a.1.0 (λ p. lent p loans.1) (fst∗ 𝓤 (never 𝓤) (sem 𝓛 (token loans.1))) (λ b' o' e'.
    regoal ! (λ p. prop (WpFn 𝓤 𝓛.H 𝓣.C 𝓣.Λ code.function (ptr_val p ∷ ptr_val a.1.0 ∷ vptr a.1.1.0.ref_ptr.0 a.1.1.0.ref_ptr.1 ∷ vptr a.1.1.1.0.ref_ptr.0 a.1.1.1.0.ref_ptr.1 ∷ slice_val a.1.1.1.1.0.ref_ptr (length a.1.1.1.1.0.now) ∷ []) (W.post (y p a.1.0)))) e refl $
    regoal ! (λ p. prop (WpFn 𝓤 𝓛.H 𝓣.C 𝓣.Λ code.function (ptr_val (block_ptr b o) ∷ ptr_val p ∷ vptr a.1.1.0.ref_ptr.0 a.1.1.0.ref_ptr.1 ∷ vptr a.1.1.1.0.ref_ptr.0 a.1.1.1.0.ref_ptr.1 ∷ slice_val a.1.1.1.1.0.ref_ptr (length a.1.1.1.1.0.now) ∷ []) (W.post (y (block_ptr b o) p)))) e' refl $
    enter ! _ _ _ _ _ $
    alloc_all ! (λ l. pass_all ! refl ((tt, tt), ((tt, tt), ((tt, tt), ((tt, tt), ((tt, (tt, (record { fits = are.1.1.1.1.0.0.1.0 }, tt))), tt))))) $
    -- [the second loan; the first; what is handed on; the tokens; the locals]
    fsplit ! $ move ! (2 ∷ []) $ fsplit ! $
    -- [the first reference; its token; the second; its token; what is handed on; the tokens; the locals]
    sets ! (addr ! (through ! refl (stop !))) refl (tt, tt) $
    sets ! (addr ! (through ! refl (stop !))) refl (tt, tt) $
    sets ! (addr ! (through ! refl (stop !))) refl (tt, tt) $
    sets ! (addr ! (through ! refl (stop !))) refl (tt, tt) $
    sets ! (addr ! (from ! (fld ! refl (hop ! (look_in_at ! 5 (sub ! 0 refl (whole !))) (stop !))))) refl (tt, tt) $
    sets ! (agg ! (and_then ! (get ! refl) (and_then ! (get_in ! (fld ! refl (stop !)) (sub ! 1 refl (whole !))) (no_more !)))) refl (tt, (tt, (record { fits = are.1.1.1.1.0.0.1.0 }, tt))) $
    let r1 : Bor R.Denot = record { ref_ptr = (b, o); now = loans.0.value } in
    let r2 : Bor R.Denot = record { ref_ptr = (b', o'); now = loans.1.value } in
    let G = triple_of 𝓛 g.signature (g.spec 𝓛 𝓜.mem 𝓡.returns) in
    let z : G.Ghost = (((loans.0.while, (loans.1.while, κs)), (loans.0.share, (loans.1.share, qs)), tt, (r1, (r2, a.1.1)), (vptr b o ∷ [], (vptr b' o' ∷ [], vs.1.1))), tt) in
    move ! (0 ∷ 2 ∷ 4 ∷ []) $ group ! 3 $ move ! (1 ∷ 2 ∷ 3 ∷ []) $ group ! 3 $ join ! $
    nothing ! $ move ! (1 ∷ 0 ∷ []) $ use2 𝓛 (raw (G.pre z)) (id⊢ 𝓤 _) $
    calls_at ! (framed 𝓤 𝓛.H 𝓜 (tables 𝓤 𝓛.H 𝓜 𝓡 𝓡.env)) G (met 𝓤 𝓛 𝓜 𝓡 (code.calls-hayagriva_c::asking::library_next 𝓡.env wired)) z
    (and_then ! (get ! refl) (and_then ! (get ! refl) (and_then ! (get ! refl) (and_then ! (get ! refl) (and_then ! (get ! refl) (no_more !)))))) (λ v.
    use1 𝓛 (later (some (λ (u : ℕ). ((‵ (flft loans.0.while loans.0.share) ⊛ (‵ (flft loans.1.while loans.1.share) ⊛ (raw (alive 𝓛 f.signature κs qs)))) ⊛ ‵ (u32.own_val u (v ∷ []))) ⊛
    some (λ (ws : Unit {0} × (Unit {0} × (usize.Denot × (Id.Denot × (List Id.Denot × (Unit {0})))))). ‵ (lasts g.ended z.0.0 z.0.3 ws) ⊛ raw ((g.clauses 𝓛 𝓜.mem 𝓡.returns z.0.0 z.0.3).ensures tt u (at_exit g.ended z.0.0 z.0.3 ws)))))) (id⊢ 𝓤 _) $
    await ! tt $ pick ! (λ u. split ! $ split ! $ split ! $ move ! (1 ∷ []) $ split ! $ move ! (2 ∷ []) $
    -- [the first token; the second; the tokens; the number; the rest]
    move ! (4 ∷ []) $ pick ! (λ ws. split ! $
    -- [what the call left; what it ensures; the two tokens; the tokens; the number]
    move ! (5 ∷ []) $
    peeks ! u32 (Is u32) (shows 𝓛 u32) u (v ∷ []) (λ is. lands_as ! refl refl ((uint_Lawful 𝓛 w32).typed u _ is).0 $
    returns ! (look_at ! 0 refl) $ free_all ! refl $
    suffices ! _ (ends_at 𝓛 f.ended stayed c (y (block_ptr b o) (block_ptr b' o')) v u ws (tt, (tt, (tt, (tt, (tt, tt)))))) $
    move ! (5 ∷ 1 ∷ 0 ∷ []) $ group ! 3 $ frame ! $ move ! (1 ∷ 2 ∷ []) $ fjoin ! $ join ! $ done !))))))))
