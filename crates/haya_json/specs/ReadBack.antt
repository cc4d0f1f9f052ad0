-- Libraries that are read back from what is printed of them.
use Rattle.std.specs.Prelude.{◌≡◌, ◌≤◌, List, [], ◌∷◌, None, Option, IfSome, Result, Ok}
use Rattle.json.specs.Json as json
use Rattle.json.specs.Json.{Json, max_depth}
use Rattle.json.specs.Strict.{HasUniqueKeys}
use Rattle.json.specs.Print.{print}
use Rattle.json.specs.Tree.{HasNumbers, depth as nesting, json_tokens}
use Rattle.haya_time.specs.DurationPrint.{duration_text, range_text}
use Rattle.haya_entry.specs.Tree.{Tree, Trees, Fields, node, no_trees, one_more}
use Rattle.hayagriva.specs.Library.{key_of}
use Rattle.haya_json.specs.Entries.{entry_of}
use Rattle.haya_json.specs.Refusal.{Refusal}
use Rattle.haya_json.specs.Parts.{plain_of}
use Rattle.haya_json.specs.Values.{format_of, persons_of, affiliated_of, date_of, publisher_of, url_of, number_of, number_or_text_of, pages_or_text_of, range_or_text_of, duration_or_text_of, serials_of}
use Rattle.haya_json.specs.Libraries.{Describes, library_of}
use Rattle.haya_json.specs.Printed.{one_or_many_json, format_json, person_json, roles_json, date_json, publisher_json, url_json, pages_json, typed_json, number_json, number_or_text_json, serial_json, json_of, library_json}

-- The JSON of the library can be read, since it nests no deeper than 128, its numbers are numbers
-- and no object in it has a member twice; and it says the library.
pub record SaysItself (library : List Tree) : Type 0 where
  pub nests : nesting (library_json library) ≤ max_depth
  pub numbers : HasNumbers (library_json library)
  pub unique : HasUniqueKeys (library_json library)
  pub read : library_of (library_json library) ≡ Ok library

-- The same of one entry, but for how deep its JSON nests: under the entry's key it says the entry.
pub record EntrySaysItself (t : Tree) : Type 0 where
  pub numbers : HasNumbers (json_of None t)
  pub unique : HasUniqueKeys (json_of None t)
  pub read : entry_of (key_of t) None (json_of None t) ≡ Ok t

-- the bytes that are printed of the library describe it
abbrev pub ReadsBack : List Tree → Type 0
ReadsBack library = Describes (print (json_tokens (library_json library))) library

-- ---- value by value

-- the value is read from what is printed of it
abbrev pub IsBack : {V : Type 0} → (Json → Result V Refusal) → (V → Json) → Option V → Type 0
IsBack read print o = IfSome o (λ v. read (print v) ≡ Ok v)

-- each value of the fields is read from what is printed of it
pub record FieldsAreBack (f : Fields) : Type 0 where
  pub title : IsBack format_of format_json f.title
  pub location : IsBack format_of format_json f.location
  pub organization : IsBack format_of format_json f.organization
  pub archive : IsBack format_of format_json f.archive
  pub archive_location : IsBack format_of format_json f.archive_location
  pub call_number : IsBack format_of format_json f.call_number
  pub note : IsBack format_of format_json f.note
  pub abstract_ : IsBack format_of format_json f.abstract_
  pub genre : IsBack format_of format_json f.genre
  pub authors : IsBack persons_of (one_or_many_json person_json) f.authors
  pub editors : IsBack persons_of (one_or_many_json person_json) f.editors
  pub affiliated : IsBack affiliated_of (one_or_many_json roles_json) f.affiliated
  pub date : IsBack date_of date_json f.date
  pub publisher : IsBack publisher_of publisher_json f.publisher
  pub url : IsBack url_of url_json f.url
  pub issue : IsBack number_or_text_of number_or_text_json f.issue
  pub chapter : IsBack number_or_text_of number_or_text_json f.chapter
  pub volume : IsBack number_or_text_of number_or_text_json f.volume
  pub edition : IsBack number_or_text_of number_or_text_json f.edition
  pub volume_total : IsBack number_of number_json f.volume_total
  pub page_total : IsBack number_of number_json f.page_total
  pub page_range : IsBack pages_or_text_of pages_json f.page_range
  pub time_range : IsBack range_or_text_of (typed_json range_text) f.time_range
  pub runtime : IsBack duration_or_text_of (typed_json duration_text) f.runtime
  pub serial_number : IsBack serials_of serial_json f.serial_number
  pub language : IsBack plain_of json.string f.language

-- the same of an entry and all its ancestors
abbrev mutual
  pub TreeIsBack : Tree → Type 0
  TreeIsBack (node f ps) = FieldsAreBack f × TreesAreBack ps

  pub TreesAreBack : Trees → Type 0
  TreesAreBack no_trees = Unit {0}
  TreesAreBack (one_more t ts) = TreeIsBack t × TreesAreBack ts

-- the same of the entries of a library
abbrev pub EntriesAreBack : List Tree → Type 0
EntriesAreBack [] = Unit {0}
EntriesAreBack (t ∷ ts) = TreeIsBack t × EntriesAreBack ts
