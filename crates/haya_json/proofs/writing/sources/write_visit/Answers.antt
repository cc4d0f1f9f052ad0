use Rattle.std.proofs.Common.{◌∙◌}
use Rattle.std.specs.Prelude.{codes}
use Rattle.json.specs.Json as json
use Rattle.haya_json.specs.Printed.{date_json}
use Rattle.haya_json.proofs.Written.{object_written}
use Rattle.haya_json.proofs.writing.sources.write_visit.Goals as goal

pub returns-clause-value : goal.returns-clause-value
returns-clause-value c =
    let date = json.member (codes "date") (date_json c.args.date.now) json.no_members in
    object_written c.args.out.now.tokens c.begin_object.new.self.tokens c.write_member.new.out.tokens c.end_object.new.self.tokens (json.member (codes "value") (json.string c.args.address.now) date)
    c.in_ok-begin_object.ensures.ok (c.in_ok-write_member.ensures.member json.no_members ∙ c.in_ok-write_text.ensures.member date) c.in_ok-end_object.ensures.ok
