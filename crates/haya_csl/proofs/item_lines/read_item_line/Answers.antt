use Rattle.std.proofs.Common.{rules}
use Rattle.json.specs.Json.{value}
use Rattle.json.specs.Lex.{tokens}
use Rattle.json.specs.Value.{value_view}
use Rattle.haya_json.proofs.ValuesAlone.{alone}
use Rattle.haya_csl.proofs.item_lines.read_item_line.Goals as goal

pub returns-in-Ok-clause-entry : goal.returns-in-Ok-clause-entry
returns-in-Ok-clause-entry c = record {
  value = value_view c.in_ok-item.item;
  parsed = alone (value 127 (tokens c.args.line.now)) (value_view c.in_ok-item.item) (search rules);
  unique = search rules;
  read = search rules;
}
