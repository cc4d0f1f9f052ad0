-- The texts of the parts of a name by value.
use Rattle.std.specs.Prelude.{string_bytes}
use Rattle.haya_bibtex_names.specs.Plain as plain
use Rattle.haya_bibtex_names.specs.declared.plain.NameTexts.{NameTexts}

abbrev pub name_view : NameTexts → plain.NameTexts
name_view t = record {
  family = string_bytes t.family;
  prefix = string_bytes t.prefix;
  given = string_bytes t.given;
  suffix = string_bytes t.suffix;
}
