-- What the items of a text come to: entries with their fields, and what is passed over.
use Rattle.std.specs.Prelude.{ℕ, Bool, false, List, [], ◌∷◌, ◌++◌, map, if◌then◌else◌}
use Rattle.std.specs.List.{list_all, list_any}
use Rattle.std.specs.Str.{bytes_eq}
use Rattle.haya_bibtex_text.specs.Classes.{is_white}
use Rattle.haya_bibtex_text.specs.Fields.{RawField}
use Rattle.haya_bibtex_text.specs.Items.{RawItem, sign, strings, entry}
use Rattle.haya_bibtex_text.specs.Names.{Names, with_name}
use Rattle.haya_bibtex_text.specs.Predefined.{predefined_strings}
use Rattle.haya_bibtex_text.specs.Strings.{Strings, with_definition, lowercase, value_text, value_unknown_names}

-- a field: its name in lower case, and its text
pub record FieldText : Type 0 where
  pub name : List ℕ
  pub text : List ℕ

-- an entry: its type in lower case, its key as it is written, and its fields
pub record EntryTexts : Type 0 where
  pub kind : List ℕ
  pub key : List ℕ
  pub fields : List FieldText

-- what is passed over: a field that comes again, an entry whose key came before, a name of no
-- string, each with its name in lower case; or a sign `@`
pub data Note : Type 0 where
  field_again : List ℕ → Note
  key_again : List ℕ → Note
  unknown_string : List ℕ → Note
  stray_at : Note

pub record BibliographyTexts : Type 0 where
  pub entries : List EntryTexts
  pub passed_over : List Note

-- a field with the texts of the strings
abbrev pub field_text : Strings → RawField → FieldText
field_text ss f = record { name = lowercase f.name; text = value_text ss f.value }

abbrev pub is_blank : FieldText → Bool
is_blank f = list_all is_white f.text

-- the fields whose text isn't white
abbrev pub field_if_filled : Strings → RawField → List FieldText
field_if_filled ss f = if is_blank (field_text ss f) then [] else field_text ss f ∷ []

abbrev pub filled_fields : Strings → List RawField → List FieldText
filled_fields ss [] = []
filled_fields ss (f ∷ fs) = field_if_filled ss f ++ filled_fields ss fs

-- a field has this name
abbrev pub comes_again : List FieldText → List ℕ → Bool
comes_again fs n = list_any (λ f. bytes_eq f.name n) fs

-- of several fields with one name the last stays
abbrev pub last_fields : List FieldText → List FieldText
last_fields [] = []
last_fields (f ∷ fs) = if comes_again fs f.name then last_fields fs else f ∷ last_fields fs

-- the names of the others
abbrev pub other_names : List FieldText → List (List ℕ)
other_names [] = []
other_names (f ∷ fs) = if comes_again fs f.name then f.name ∷ other_names fs else other_names fs

-- the names of no string in the values of fields
abbrev pub unknown_names : Strings → List RawField → List (List ℕ)
unknown_names ss [] = []
unknown_names ss (f ∷ fs) = value_unknown_names ss f.value ++ unknown_names ss fs

abbrev pub entry_texts : Strings → List ℕ → List ℕ → List RawField → EntryTexts
entry_texts ss kind key fs =
    record { kind = lowercase kind; key = key; fields = last_fields (filled_fields ss fs) }

abbrev pub entry_notes : Strings → List RawField → List Note
entry_notes ss fs =
    map unknown_string (unknown_names ss fs) ++ map field_again (other_names (filled_fields ss fs))

-- the strings behind a definition of some
abbrev pub with_definitions : Strings → List RawField → Strings
with_definitions ss [] = ss
with_definitions ss (f ∷ fs) = with_definitions (with_definition ss f) fs

abbrev pub definition_notes : Strings → List RawField → List Note
definition_notes ss [] = []
definition_notes ss (f ∷ fs) =
    map unknown_string (value_unknown_names ss f.value)
    ++ definition_notes (with_definition ss f) fs

-- the strings and the keys behind an item
abbrev pub strings_behind : Strings → RawItem → Strings
strings_behind ss sign = ss
strings_behind ss (strings fs) = with_definitions ss fs
strings_behind ss (entry kind key fs) = ss

abbrev pub keys_behind : Names → RawItem → Names
keys_behind keys sign = keys
keys_behind keys (strings fs) = keys
keys_behind keys (entry kind key fs) = with_name keys key

-- the entry that an item is, if its key is new
abbrev pub item_entries : Strings → Names → RawItem → List EntryTexts
item_entries ss keys sign = []
item_entries ss keys (strings fs) = []
item_entries ss keys (entry kind key fs) =
    if keys key then [] else entry_texts ss kind key fs ∷ []

-- what is passed over of an item
abbrev pub item_notes : Strings → Names → RawItem → List Note
item_notes ss keys sign = stray_at ∷ []
item_notes ss keys (strings fs) = definition_notes ss fs
item_notes ss keys (entry kind key fs) =
    if keys key then key_again (lowercase kind) ∷ [] else entry_notes ss fs

-- these entries and notes, and then those behind them
abbrev pub bibliography_from : List EntryTexts → List Note → BibliographyTexts → BibliographyTexts
bibliography_from es ns b = record { entries = es ++ b.entries; passed_over = ns ++ b.passed_over }

-- what items come to, behind strings that are defined and entries with these keys
abbrev pub bibliography_behind : Strings → Names → List RawItem → BibliographyTexts
bibliography_behind ss keys [] = record { entries = []; passed_over = [] }
bibliography_behind ss keys (i ∷ is) =
    bibliography_from (item_entries ss keys i) (item_notes ss keys i)
    (bibliography_behind (strings_behind ss i) (keys_behind keys i) is)

-- what the items of a text come to
abbrev pub bibliography : List RawItem → BibliographyTexts
bibliography is = bibliography_behind predefined_strings (λ _. false) is
