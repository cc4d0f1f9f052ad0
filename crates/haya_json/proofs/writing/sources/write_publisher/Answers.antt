use Rattle.std.proofs.Common.{◌∙◌, ◌++◌, Option, ap}
use Rattle.std.specs.Prelude.{codes, option_map}
use Rattle.json.specs.Json as json
use Rattle.json.specs.Json.{Members}
use Rattle.json.specs.Tree.{json_tokens}
use Rattle.haya_text.specs.Texts.{TextView, text_view}
use Rattle.haya_values.specs.Publisher.{publisher_view}
use Rattle.haya_json.specs.Printed.{also, format_json}
use Rattle.haya_json.proofs.Written.{object_written}
use Rattle.haya_json.proofs.writing.sources.write_publisher.Goals as goal

abbrev parts : Option TextView → Option TextView → Members
parts name location = also (codes "name") format_json name (also (codes "location") format_json location json.no_members)

pub returns-clause-value : goal.returns-clause-value
returns-clause-value c =
    let name = option_map (λ t. text_view t.now) c.name.result in
    let location = option_map (λ t. text_view t.now) c.location.result in
    object_written c.args.out.now.tokens c.begin_object.new.self.tokens c.also-2.new.out.tokens c.end_object.new.self.tokens (parts name location)
    c.in_ok-begin_object.ensures.ok
    (c.in_ok-also-2.ensures.member json.no_members ∙ c.in_ok-also.ensures.member (also (codes "location") format_json location json.no_members)) c.in_ok-end_object.ensures.ok
    ∙ ap (λ l. c.args.out.now.tokens ++ json_tokens (json.object (parts name l))) c.location.ensures
    ∙ ap (λ n. c.args.out.now.tokens ++ json_tokens (json.object (parts n (publisher_view c.args.publisher.now).location))) c.name.ensures
