use Rattle.std.proofs.Common.{rules}
use Rattle.json.specs.Value.{value_view}
use Rattle.haya_json.proofs.OneMember.{member_found}
use Rattle.haya_json.proofs.member_lines.read_member_line.Goals as goal

pub returns-in-Ok-clause-entry : goal.returns-in-Ok-clause-entry
returns-in-Ok-clause-entry c = record {
  name = c.in_ok-name.name.now;
  value = value_view c.in_ok-name.json;
  parsed = member_found c.args.line.now c.in_ok-name.name.now (value_view c.in_ok-name.json) (search rules);
  unique = search rules;
  read = search rules;
}
