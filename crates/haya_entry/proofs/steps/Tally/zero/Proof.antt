-- `zero` makes a token with the count 0.
use Rattle.std.proofs.Common.{List, [], ◌∷◌, refl}
use Rattle.std.proofs.raw_atomic.Walks.{proved}
use base.Fml.{ftrue}
use base.Logic.{ent, emp}
use mir.Syntax.{Sym}
use mir.Val.{Val, vstruct, vcons, vnil}
use seplogic.Ra.Ura.{Ura}
use types.Logic.{Logic, sem}
use denote.RattleType.{RattleType}
use denote.Shadow.{makes_shadow}
use denote.Struct.Struct.{Struct}
use Rattle.std.specs.contracts.marker.PhantomData as marker
use types.Kit.{‵, raw, ◌$◌, ◌∵◌, !, qed, done, move, keep, join, fjoin, suffices, use0}
use types.Run.{enter, no_more, and_then, returns}
use types.ByLocal.{alloc_all, pass_all, free_all, look_at, get, sets}
use types.Part.{agg}
use denote.Builtin.{unit}
use denote.Steps.{nothing}
use denote.Triple.Entry.{on_entry}
use denote.Triple.Walked.{Stays, walk_of, says, ends_at}
use Rattle.haya_entry.specs.contracts.steps.Tally.zero as f
use Rattle.haya_entry.proofs.steps.Tally.zero.Statement.{statement}
use Rattle.haya_entry.proofs.steps.Tally.zero.Code as code
use Rattle.haya_entry.specs.contracts.steps.Tally as tally

-- the machine value of a token
abbrev token : Val
token = vstruct (vcons (vstruct vnil) vnil)

module _ (ν : Sym) (types : List RattleType) (T : RattleType) where
  abbrev Mark : RattleType
  Mark = Struct (record { name = ν; args = []; types = types; fields = (marker.the_field T).row ∷ [] })

  made : {M : Type 1} {𝓤 : Ura M} (𝓛 : Logic 𝓤) → ent 𝓤 (emp 𝓤) (sem 𝓛 (Mark.own_val (tt, tt) (token ∷ [])))
  made 𝓛 = makes_shadow 𝓛 (Mark.own_val (tt, tt) (token ∷ [])) (λ vss. (tt, ((λ uss. (tt, tt)), tt))) ((vstruct vnil ∷ [], tt), (refl, ((tt, (refl, tt)), tt)))

abbrev stayed : Stays f.ended.signature.params f.ended.kept
stayed = tt

pub zero_spec : {M : Type 1} → statement M
zero_spec 𝓤 𝓛 𝓜 𝓡 wired =
    let c = f.clauses 𝓛 𝓜.mem 𝓡.returns in let W = walk_of 𝓛 f.ended stayed c in
    proved 𝓛 f.ended stayed c 𝓜 𝓡 tt
    f.Key.name code.function (code.unfolded 𝓤 𝓛.H 𝓜 𝓡 wired)
    (λ κs. tt) (λ κs. tt) (λ κs qs bounds a _ are.
    let y : W.Ghost = ((κs, qs, bounds, a, tt), tt) in
    qed 𝓛 (raw (on_entry 𝓛 f.ended.signature κs qs a tt) ∷ ‵ ftrue ∷ []) ∵ keep ! [] $
    enter ! _ _ _ _ _ $ alloc_all ! (λ l. pass_all ! refl (tt) $
    sets ! (agg ! (no_more !)) refl (tt, tt) $ sets ! (agg ! (and_then ! (get ! refl) (no_more !))) refl (tt, (tt, tt)) $
    returns ! (look_at ! 0 refl) $ free_all ! refl $
    suffices ! _ (ends_at 𝓛 f.ended stayed c y token (record { marker = record {}; count = 0 }) tt tt) $ says ! refl $
    use0 𝓛 (‵ ((Mark (tally.the_type).name [] unit).own_val (tt, tt) (token ∷ []))) (made (tally.the_type).name [] unit 𝓛) $
    nothing ! $ move ! (1 ∷ 0 ∷ []) $ fjoin ! $ nothing ! $ join ! $ nothing ! $ join ! $ done !))
