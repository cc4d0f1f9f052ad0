use Rattle.std.proofs.Common.{rules, ◌≡◌, ◌++◌, ◌∷◌, ◌∙◌, None, Some, Option, List, ℕ, ap, sym, refl, subst, option_map, map, append_assoc}
use Rattle.std.proofs.lemmas.List.{map-append}
use Rattle.std.specs.Option.{option_to_list}
use Rattle.haya_entry.specs.SerialNumber.{only_serial, serial_entry, several_serials}
use Rattle.haya_questions.specs.Value.{TextValue, value_view}
use Rattle.haya_questions.proofs.fields.push_serials.Goals as goal
use Rattle.haya_questions.proofs.fields.push_serials.Goals.{in-Some+in_ok-push, in_default}

pub returns : goal.returns
returns c =
    let s = c.args.numbers.now in
    let rest = map (λ e. TextValue e.1) (several_serials s) in
    let all : map value_view c.numbers.values.items ≡ map value_view c.match-only.values.items ++ rest = search rules in
    elim c.match-only.branch [
      | in-Some+in_ok-push w ↦
          let e = serial_entry w.in-Some.number.now in
          let only : only_serial s ≡ Some e = sym c.only.ensures ∙ ap (λ o. option_map (λ n. serial_entry n.now) o) w.in-Some.is in
          let text : map value_view c.match-only.values.items ++ rest ≡ map value_view c.args.values.now.items ++ TextValue e.1 ∷ rest = rw (w.values-is, w.in_ok-push.ensures.items, map-append value_view c.args.values.now.items _, append_assoc (map value_view c.args.values.now.items) _ rest, w.as_str.ensures.value) refl in
          subst (λ (o : Option (List ℕ × List ℕ)). map value_view c.numbers.values.items ≡ map value_view c.args.values.now.items ++ map (λ e. TextValue e.1) (option_to_list o ++ several_serials s)) (sym only) (all ∙ text)
      | in_default w ↦
          let none : only_serial s ≡ None = sym c.only.ensures ∙ ap (λ o. option_map (λ n. serial_entry n.now) o) w.in_default.is in
          subst (λ (o : Option (List ℕ × List ℕ)). map value_view c.numbers.values.items ≡ map value_view c.args.values.now.items ++ map (λ e. TextValue e.1) (option_to_list o ++ several_serials s)) (sym none) (rw w.values-is at all)
    ]
