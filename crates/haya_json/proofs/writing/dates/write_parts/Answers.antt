use Rattle.std.proofs.Common.{◌∙◌}
use Rattle.std.specs.Prelude.{codes}
use Rattle.json.specs.Json as json
use Rattle.haya_json.specs.Printed.{also, also_true, byte_json, season_json, whole_json}
use Rattle.haya_json.proofs.Written.{object_written}
use Rattle.haya_json.proofs.writing.dates.write_parts.Goals as goal

pub returns-clause-value : goal.returns-clause-value
returns-clause-value c =
    let d = c.args.date.now in
    let season = also (codes "season") season_json d.season json.no_members in
    let approximate = also_true (codes "approximate") d.approximate season in
    let day = also (codes "day") byte_json d.day approximate in
    let month = also (codes "month") byte_json d.month day in
    object_written c.args.out.now.tokens c.begin_object.new.self.tokens c.also_season.new.out.tokens c.end_object.new.self.tokens (json.member (codes "year") (whole_json d.year) month)
    c.in_ok-begin_object.ensures.ok
    (c.in_ok-also_season.ensures.member json.no_members ∙ c.in_ok-also_true.ensures.member season ∙ c.in_ok-also_byte-2.ensures.member approximate
    ∙ c.in_ok-also_byte.ensures.member day ∙ c.in_ok-write_member.ensures.member month)
    c.in_ok-end_object.ensures.ok
