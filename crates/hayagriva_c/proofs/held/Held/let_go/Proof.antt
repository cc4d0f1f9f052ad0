-- `let_go` lets two fields go, which own nothing.
use Rattle.std.proofs.Common.{List, [], ◌∷◌, ◌++◌, refl, sym, subst}
use mir.Val.{Val, vunit}
use base.Logic.{SProp, ent, id⊢}
use prog.Wp.{WpFn}
use types.Kit.{‵, raw, ◌⊛◌, ◌$◌, ◌∵◌, !, qed, by, keep, split, fjoin, feq_i, suffices}
use types.Run.{of_opd, unit_lit, returns, enter}
use types.ByLocal.{alloc_all, pass_all, free_all, look_at, sets}
use contract.Running.{tables}
use denote.Exit.{yes}
use denote.RattleType.{RattleType, owns}
use denote.Signature.{types_at, plain}
use denote.Steps.{nothing}
use denote.Param.{layout}
use denote.Triple.Entry.{alive}
use denote.Triple.Walked.{Stays, stay_dropped, walk_of, Goes-dropped}
use Rattle.std.proofs.cell.Inside.{one}
use Rattle.std.proofs.raw_atomic.Walks.{proved_at, leaves}
use Rattle.hayagriva_c.specs.contracts.held.Held.{the_row}
use Rattle.hayagriva_c.proofs.held.Held.TheLaws.{the_row_laws}
use Rattle.hayagriva_c.specs.contracts.held.Held.let_go.{ended, clauses}
use Rattle.hayagriva_c.specs.contracts.held.Held.let_go.Key.{name as #self}
use Rattle.hayagriva_c.proofs.held.Held.let_go.Statement.{statement}
use Rattle.hayagriva_c.proofs.held.Held.let_go.Code as code

pub let_go_spec : {M : Type 1} → statement M
let_go_spec 𝓤 𝓛 𝓜 𝓡 wired =
    let H = 𝓛.H in let 𝓣 = tables 𝓤 H 𝓜 𝓡 𝓡.env in let R : RattleType = the_row in let c = clauses 𝓛 𝓜.mem 𝓡.returns in
    let hs : Stays ended.signature.params ended.kept = (stay_dropped (plain (λ _. R)) yes, tt) in
    proved_at 𝓛 ended hs c 𝓜 𝓡 (Goes-dropped 𝓛 0 (plain (λ _. R)) yes (λ κs x f. refl), tt) #self code.function (code.unfolded 𝓤 H 𝓜 𝓡 wired) (λ z are.
    let κs = z.0.0 in let qs = z.0.1 in let Post : Val → SProp 𝓤 = (walk_of 𝓛 ended hs c).post z in let Run : List Val → SProp 𝓤 = λ ws. WpFn 𝓤 H 𝓣.C 𝓣.Λ code.function ws Post in
    let v = z.0.3.0 in let h = one (layout R) z.0.4.0 ((the_row_laws.lawful 𝓛).typed v z.0.4.0 are.0) in
    qed 𝓛 ((raw (alive 𝓛 ended.signature κs qs) ⊛ ‵ (owns (types_at ended.signature.params κs) z.0.3 z.0.4)) ∷ raw ((c κs z.0.3).requires z.1) ∷ []) ∵ split ! $ keep ! (0 ∷ []) $
    suffices ! (Run (h.0 ∷ [])) (subst (λ (us : List Val). ent 𝓤 (Run (h.0 ∷ [])) (Run us)) (sym (λ i. h.1 i ++ [])) (id⊢ 𝓤 (Run (h.0 ∷ [])))) $
    enter ! 𝓣.C 𝓣.Λ code.function (h.0 ∷ []) Post $ alloc_all ! (λ l. pass_all ! refl (h.2, tt) $
    sets ! (of_opd ! (unit_lit !)) refl (tt, tt) $ nothing ! $ feq_i ! (List Val) (vunit ∷ []) (vunit ∷ []) refl $ nothing ! $ nothing ! $ fjoin ! $
    returns ! (look_at ! 0 refl) $ free_all ! refl $ keep ! (3 ∷ 0 ∷ 1 ∷ 2 ∷ []) $ by ! (leaves 𝓛 ended hs c z vunit tt (tt, tt) (tt, tt))))
