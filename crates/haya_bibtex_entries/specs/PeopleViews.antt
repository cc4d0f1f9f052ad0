-- Persons of fields by value.
use Rattle.std.specs.Prelude.{map, string_bytes}
use Rattle.haya_people.specs.Person.{person_view}
use Rattle.haya_people.specs.Roles.{roles_view}
use Rattle.haya_bibtex_entries.specs.People as people
use Rattle.haya_bibtex_entries.specs.declared.people.Affiliated.{Affiliated}
use Rattle.haya_bibtex_entries.specs.declared.people.Editors.{Editors}

abbrev pub editors_view : Editors → people.Editors
editors_view e = record {
  persons = map person_view e.persons.items;
  passed_over = map string_bytes e.passed_over.items;
}

abbrev pub affiliated_view : Affiliated → people.Affiliated
affiliated_view a = record {
  lists = map roles_view a.lists.items;
  passed_over = map string_bytes a.passed_over.items;
}
