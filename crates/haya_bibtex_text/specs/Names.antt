-- Sets of names.
use Rattle.std.specs.Prelude.{ℕ, Bool, ◌||◌, List, encode_utf8_all}
use Rattle.std.specs.BTreeSet.{contains_text}
use Rattle.std.specs.Str.{bytes_eq}
use Rattle.haya_bibtex_text.specs.declared.names.Names.{Names as NameSet}

-- a set of names, as a test
abbrev pub Names : Type 0
Names = List ℕ → Bool

abbrev pub with_name : Names → List ℕ → Names
with_name names name n = bytes_eq name n || names n

abbrev pub names_view : NameSet → Names
names_view s n = contains_text s.texts (encode_utf8_all n)
