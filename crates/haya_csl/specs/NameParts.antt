-- The parts of a name, and persons, by value.
use Rattle.std.specs.Prelude.{List, map, option_map, string_bytes}
use Rattle.haya_people.specs.Person.{PersonView, person_view}
use Rattle.haya_people.specs.declared.person.Person.{Person}
use Rattle.haya_json.specs.Notes.{losts_view}
use Rattle.haya_csl.specs.Names.{PartsView}
use Rattle.haya_csl.specs.declared.names.NameParts.{NameParts}

abbrev pub parts_view : NameParts → PartsView
parts_view n = record {
  parts = record {
    family = option_map string_bytes n.family;
    given = option_map string_bytes n.given;
    suffix = option_map string_bytes n.suffix;
    non_dropping = option_map string_bytes n.non_dropping;
    dropping = option_map string_bytes n.dropping;
    literal = option_map string_bytes n.literal;
    comma_suffix = n.comma_suffix;
  };
  lost = losts_view n.lost.items;
}

abbrev pub persons_view : List Person → List PersonView
persons_view persons = map person_view persons
