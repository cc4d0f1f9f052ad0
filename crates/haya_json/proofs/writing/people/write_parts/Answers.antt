use Rattle.std.proofs.Common.{◌≡◌, ◌∙◌, ◌++◌, ap, rules}
use Rattle.std.specs.Prelude.{codes}
use Rattle.json.specs.Json as json
use Rattle.json.specs.Tree.{members_tokens}
use Rattle.haya_people.specs.Person.{person_view}
use Rattle.haya_json.specs.Printed.{also, also_true}
use Rattle.haya_json.proofs.Written.{also_written, object_written}
use Rattle.haya_json.proofs.writing.people.write_parts.Goals as goal

pub returns-clause-value : goal.returns-clause-value
returns-clause-value c =
    let p = person_view c.args.person.now in
    let alias = also (codes "alias") json.string p.alias json.no_members in
    let comma = also_true (codes "comma-suffix") p.comma_suffix alias in
    let suffix = also (codes "suffix") json.string p.suffix comma in
    let prefix = also (codes "prefix") json.string p.prefix suffix in
    let given = also (codes "given-name") json.string p.given_name prefix in
    let named : c.as_str.result.now ≡ p.name = search rules in
    object_written c.args.out.now.tokens c.begin_object.new.self.tokens c.also_text-4.new.out.tokens c.end_object.new.self.tokens (json.member (codes "name") (json.string p.name) given)
    c.in_ok-begin_object.ensures.ok
    (also_written _ _ _ _ _ _ c.in_ok-also_text-4.ensures.member c.text_of-4.ensures json.no_members
    ∙ c.in_ok-also_true.ensures.member alias
    ∙ also_written _ _ _ _ _ _ c.in_ok-also_text-3.ensures.member c.text_of-3.ensures comma
    ∙ also_written _ _ _ _ _ _ c.in_ok-also_text-2.ensures.member c.text_of-2.ensures suffix
    ∙ also_written _ _ _ _ _ _ c.in_ok-also_text.ensures.member c.text_of.ensures prefix
    ∙ c.in_ok-write_text.ensures.member given
    ∙ ap (λ n. c.begin_object.new.self.tokens ++ members_tokens (json.member (codes "name") (json.string n) given)) named)
    c.in_ok-end_object.ensures.ok
