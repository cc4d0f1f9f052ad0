use Rattle.std.proofs.Common.{◌≡◌, ◌<◌, [], ◌∷◌, ◌++◌, length, map, option_map, ap, ◌∙◌, append_assoc, sym, subst, rules, arith}
use Rattle.std.specs.Prelude.{codes, OnOk}
use Rattle.std.proofs.lemmas.List.{length-map}
use Rattle.json.specs.Token as Token
use Rattle.json.specs.Json as json
use Rattle.json.specs.Tree.{json_tokens, members_tokens}
use Rattle.haya_entry.specs.Tree.{fields, parents, trees, view}
use Rattle.haya_entry.proofs.Trees.{parents_is}
use Rattle.haya_json.specs.Printed.{also, type_json, key_of_its_own, field_members, people_members, number_members, last_members, parent_members, parents_json}
use Rattle.haya_json.proofs.Written.{object_written}
use Rattle.haya_json.proofs.WrittenEntries.{not_one, some_parents, whole}
use Rattle.haya_json.proofs.writing.entries.+printed.Goals as goal
use Rattle.haya_json.proofs.writing.entries.+printed.Goals.{write_some-in_default-via-then-parents-lt1, write_some-in_default-via-else-parents-lt1+else-parents-lt2}

pub write_entry-returns-clause-value : goal.write_entry-returns-clause-value
write_entry-returns-clause-value t c =
    let below = option_map (λ k. k.now) c.args.below in
    let f = fields (view c.args.entry.now) in
    let ps = map view c.as_slice.result.now in
    let old = c.args.out.now.tokens in
    let under : ps ≡ parents (view c.args.entry.now) = ap (map view) c.as_slice.ensures.value ∙ sym (parents_is c.args.entry.now) in
    let last = parent_members c.key-2.result.now (trees ps) in
    let numbers = last_members f last in
    let people = number_members f numbers in
    let texts = people_members f people in
    let all = field_members f last in
    object_written old c.begin_object.new.self.tokens c.write_parents.new.out.tokens c.end_object.new.self.tokens
    (json.member (codes "type") (type_json c.entry_type.result) (also (codes "key") json.string (key_of_its_own below c.key.result.now) all))
    c.in_ok-begin_object.ensures.ok
    (c.in_ok-write_parents.ensures.member ∙ c.in_ok-write_last.ensures.members last ∙ c.in_ok-write_numbers.ensures.members numbers ∙ c.in_ok-write_people.ensures.members people
    ∙ c.in_ok-write_texts.ensures.members texts ∙ c.in_ok-write_key.ensures.member all ∙ c.in_ok-write_type.ensures.member _)
    c.in_ok-end_object.ensures.ok
    ∙ ap (λ j. old ++ json_tokens j) (whole below (view c.args.entry.now) c.entry_type.result c.key.result.now c.key-2.result.now ps c.entry_type.ensures c.key.ensures c.key-2.ensures under)

pub write_parents-returns-clause-member : goal.write_parents-returns-clause-member
write_parents-returns-clause-member t c =
    let ps = map view c.args.parents.now in
    let old = c.args.out.now.tokens in
    let all = parents_json c.args.key.now (trees ps) in
    let name = Token.key (codes "parent") ∷ [] in
    let end = members_tokens json.no_members in
    let some : c.write_some.new.out.tokens ≡ c.key.new.self.tokens ++ json_tokens all = search rules in
    let named : c.key.new.self.tokens ≡ old ++ name = c.in_ok-key.ensures.ok in
    let more : 0 < length ps = search (rules, length-map) in
    ap (λ ts. ts ++ end) (some ∙ ap (λ ts. ts ++ json_tokens all) named) ∙ append_assoc (old ++ name) (json_tokens all) end ∙ append_assoc old name (json_tokens all ++ end)
    ∙ ap (λ ms. old ++ members_tokens ms) (some_parents c.args.key.now ps more)

pub write_some-returns-in_default-clause-value : goal.write_some-returns-in_default-clause-value
write_some-returns-in_default-clause-value t c =
    let ps = map view c.args.parents.now in
    let several : length ps ≡ 1 → ⊥ =
    elim c.in_default.branch [
      | write_some-in_default-via-then-parents-lt1 w ↦ search (rules, length-map, arith)
      | write_some-in_default-via-else-parents-lt1+else-parents-lt2 w ↦ search (rules, length-map, arith)
    ] in
    subst (λ j. OnOk c.write_each.result (c.write_each.new.out.tokens ≡ c.args.out.now.tokens ++ json_tokens j)) (not_one c.args.key.now ps several) c.write_each.ensures.value
