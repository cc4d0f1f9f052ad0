use Rattle.std.proofs.Common.{◌∙◌}
use Rattle.std.specs.Prelude.{codes}
use Rattle.json.specs.Json as json
use Rattle.haya_json.proofs.Written.{object_written}
use Rattle.haya_json.proofs.writing.texts.write_forms.Goals as goal

pub returns-clause-value : goal.returns-clause-value
returns-clause-value c =
    let behind = json.member (codes "short") (json.string c.args.short.now) json.no_members in
    object_written c.args.out.now.tokens c.begin_object.new.self.tokens c.write_text-2.new.out.tokens c.end_object.new.self.tokens (json.member (codes "value") (json.string c.args.value.now) behind)
    c.in_ok-begin_object.ensures.ok (c.in_ok-write_text-2.ensures.member json.no_members ∙ c.in_ok-write_text.ensures.member behind) c.in_ok-end_object.ensures.ok
