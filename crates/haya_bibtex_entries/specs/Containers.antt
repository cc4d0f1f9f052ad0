-- Where the titles of journals and books go that an entry names.
use Rattle.std.specs.Prelude.{◌&&◌, ◌||◌, not, Bool, true, false, List, Option, None, Some, codes, if◌then◌else◌}
use Rattle.haya_entry.specs.declared.types.EntryType.{EntryType}
use Rattle.haya_entry.specs.declared.types.EntryType.TheVariants as type
use Rattle.haya_bibtex_inherited.specs.Entries.{FieldBytes, has_field}
use Rattle.haya_bibtex_entries.specs.declared.containers.Container.{Container}
use Rattle.haya_bibtex_entries.specs.declared.containers.Container.TheVariants.{Book, Journal, Nothing, Own}
use Rattle.haya_bibtex_entries.specs.declared.kinds.Host.{Host}
use Rattle.haya_bibtex_entries.specs.declared.kinds.Kind.{Kind}
use Rattle.haya_bibtex_entries.specs.declared.kinds.Takes.{Takes}
use Rattle.haya_bibtex_entries.specs.declared.kinds.Takes.TheVariants as takes

abbrev pub has_journal : List FieldBytes → Bool
has_journal fs =
    has_field fs (codes "journaltitle")
    || has_field fs (codes "journal")
    || has_field fs (codes "journalsubtitle")
    || has_field fs (codes "journaltitleaddon")

abbrev pub has_book : List FieldBytes → Bool
has_book fs =
    has_field fs (codes "booktitle")
    || has_field fs (codes "booksubtitle")
    || has_field fs (codes "booktitleaddon")

abbrev pub has_title : List FieldBytes → Bool
has_title fs =
    has_field fs (codes "title")
    || has_field fs (codes "subtitle")
    || has_field fs (codes "titleaddon")

-- proceedings, collections, books and works of reference have the title of a book
abbrev pub is_book : Takes → Bool
is_book takes.Proceedings = true
is_book takes.Book = true
is_book takes.Reference = true
is_book t = false

-- a host has the title that is usual for it, or the other one where that alone is there
abbrev pub container_of_host : Takes → List FieldBytes → Container
container_of_host t fs =
    if is_book t then (if not (has_book fs) && has_journal fs then Journal else Book)
    else (if not (has_journal fs) && has_book fs then Book else Journal)

abbrev pub is_periodical : EntryType → Bool
is_periodical type.Periodical = true
is_periodical t = false

abbrev pub container_by : Option Host → EntryType → List FieldBytes → Container
container_by (Some h) t fs = container_of_host h.takes fs
container_by None t fs = if is_periodical t && not (has_title fs) then Own else Nothing

-- A journal or a book that has the entry in it is the host's title. A periodical without a title
-- has the journal's.
abbrev pub container_of : Kind → List FieldBytes → Container
container_of k fs = container_by k.host k.entry fs
