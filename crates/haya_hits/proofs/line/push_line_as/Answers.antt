use Rattle.std.proofs.Common.{◌≡◌, ◌++◌, [], ◌∷◌, refl, sym, ap, ◌∙◌, append_assoc, append-nil, arith}
use Rattle.std.specs.Prelude.{string_bytes}
use Rattle.std.specs.List.{flat_map}
use Rattle.std.proofs.lemmas.List.{map-id}
use Rattle.std.proofs.lemmas.Map.Iter.{iter_end}
use Rattle.hayagriva.specs.Library.{key_of}
use Rattle.hayagriva.specs.Tree.{view}
use Rattle.haya_hits.specs.Line.{binding_text, names_of}
use Rattle.haya_hits.specs.Shown.{shown_as}
use Rattle.haya_hits.proofs.line.push_line_as.Goals as goal

pub loop-name-init : goal.loop-name-init
loop-name-init c =
    let old = string_bytes c.args.text.now in
    c.in_ok-push_text.ensures ∙ ap (λ l. old ++ l) (ap (shown_as c.args.show) c.key.ensures ∙ sym (append-nil _))

pub returns : goal.returns
returns c =
    let ys = c.in_ok-names.names.entries in
    let end =
    iter_end (λ x. x) ys c.loop-name.yielded c.into_iter-name-iterator.result c.loop-name.name-iterator c.next.new.self c.next.result c.into_iter-name-iterator.ensures.into_iter_gives.0
    c.loop-name.yielded_by c.in-None.is c.next.ensures.steps in
    let whole : c.loop-name.yielded ≡ ys = sym (map-id c.loop-name.yielded) ∙ end.0 in
    let old = string_bytes c.args.text.now in
    let show = shown_as c.args.show in
    let key = show (key_of (view c.args.hit.now.entry.now)) in (
      key ++ flat_map (binding_text show) (names_of ys) ++ 10 ∷ [],
      record { names = names_of ys; all = c.in_ok-names.ensures.all; order = c.in_ok-names.ensures.order; text = refl },
      c.in_ok-push-3.ensures.bytes
          ∙ ap (λ l. string_bytes c.loop-name.text ++ l) (c.in_ok-push-3.ensures.ascii (omega arith))
          ∙ ap (λ l. l ++ 10 ∷ []) c.loop-name.invariant
          ∙ append_assoc old _ _
          ∙ ap (λ l. old ++ (key ++ flat_map (binding_text show) (names_of l) ++ 10 ∷ [])) whole,
    )
