use Rattle.std.proofs.Common.{◌∙◌, ◌++◌, List, ℕ, ap}
use Rattle.std.specs.Prelude.{codes, map}
use Rattle.json.specs.Json as json
use Rattle.json.specs.Json.{Members}
use Rattle.json.specs.Tree.{json_tokens}
use Rattle.haya_people.specs.Person.{PersonView, person_view}
use Rattle.haya_json.specs.Printed.{one_or_many_json, person_json, roles_json}
use Rattle.haya_json.proofs.Written.{object_written}
use Rattle.haya_json.proofs.writing.people.PersonsWithRolesToJson.write_json.Goals as goal

abbrev names : List PersonView → Members
names ps = json.member (codes "names") (one_or_many_json person_json ps) json.no_members

abbrev parts : List ℕ → List PersonView → Members
parts role ps = json.member (codes "role") (json.string role) (names ps)

pub returns-clause-value : goal.returns-clause-value
unfolding roles_json
returns-clause-value c =
    let role = c.name.result.now in
    let ps = map person_view c.as_slice.result.now in
    object_written c.args.out.now.tokens c.begin_object.new.self.tokens c.write_many.new.out.tokens c.end_object.new.self.tokens (parts role ps)
    c.in_ok-begin_object.ensures.ok (c.in_ok-write_many.ensures.member json.no_members ∙ c.in_ok-write_text.ensures.member (names ps)) c.in_ok-end_object.ensures.ok
    ∙ ap (λ xs. c.args.out.now.tokens ++ json_tokens (json.object (parts role (map person_view xs)))) c.as_slice.ensures.value
    ∙ ap (λ n. c.args.out.now.tokens ++ json_tokens (json.object (parts n (map person_view c.args.self.now.names.items)))) c.name.ensures
