-- The fields that have a place, by their names. All others are passed over.
use Rattle.std.specs.Prelude.{ℕ, ◌&&◌, ◌||◌, Bool, true, false, List, [], ◌∷◌, is_some, unwrap_or, codes, if◌then◌else◌}
use Rattle.std.specs.Borrow.{Bor}
use Rattle.std.specs.Map.{lookup}
use Rattle.std.specs.Str.{bytes_eq}
use Rattle.haya_bibtex_inherited.specs.Entries.{FieldBytes, has_field, is_among}
use Rattle.haya_bibtex_entries.specs.Containers.{container_of}
use Rattle.haya_bibtex_entries.specs.Dates.{address_of}
use Rattle.haya_bibtex_entries.specs.Kinds.{host_takes, is_subtype, takes_authors, takes_subtype}
use Rattle.haya_bibtex_entries.specs.declared.containers.Container.{Container}
use Rattle.haya_bibtex_entries.specs.declared.containers.Container.TheVariants.{Book, Journal, Own}
use Rattle.haya_bibtex_entries.specs.declared.kinds.Kind.{Kind}

-- ---- fields that have a place where another field, or the type, gives them one

abbrev pub is_of_journal : Container → Bool
is_of_journal Journal = true
is_of_journal Own = true
is_of_journal c = false

abbrev pub is_of_book : Container → Bool
is_of_book Book = true
is_of_book c = false

abbrev pub is_short_of_journal : Container → Bool
is_short_of_journal Journal = true
is_short_of_journal c = false

abbrev pub is_subtype_read : Kind → List FieldBytes → Bool
is_subtype_read k fs =
    host_takes takes_subtype k && (is_subtype (codes "newspaper") fs || is_subtype (codes "magazine") fs)

abbrev pub Names : Type 0
Names = List (List ℕ × Bool)

-- what is beside another field
abbrev pub side_names : Kind → List FieldBytes → Names
side_names k fs =
    (codes "editortype", has_field fs (codes "editor"))
    ∷ (codes "editoratype", has_field fs (codes "editora"))
    ∷ (codes "editorbtype", has_field fs (codes "editorb"))
    ∷ (codes "editorctype", has_field fs (codes "editorc"))
    ∷ (codes "eprinttype", has_field fs (codes "eprint"))
    ∷ (codes "archiveprefix", has_field fs (codes "eprint"))
    ∷ (codes "urldate", is_some (address_of fs))
    ∷ (codes "entrysubtype", is_subtype_read k fs)
    ∷ []

-- what a conference and a host have
abbrev pub parent_names : Kind → List FieldBytes → Names
parent_names k fs =
    (codes "eventtitle", k.is_given)
    ∷ (codes "eventtitleaddon", k.is_given)
    ∷ (codes "eventdate", k.is_given)
    ∷ (codes "bookauthor", host_takes takes_authors k)
    ∷ side_names k fs

-- titles of journals and books
abbrev pub container_names : Kind → List FieldBytes → Names
container_names k fs =
    (codes "journaltitle", is_of_journal (container_of k fs))
    ∷ (codes "journal", is_of_journal (container_of k fs))
    ∷ (codes "journalsubtitle", is_of_journal (container_of k fs))
    ∷ (codes "journaltitleaddon", is_of_journal (container_of k fs))
    ∷ (codes "booktitle", is_of_book (container_of k fs))
    ∷ (codes "booksubtitle", is_of_book (container_of k fs))
    ∷ (codes "booktitleaddon", is_of_book (container_of k fs))
    ∷ (codes "shortjournal", is_short_of_journal (container_of k fs))
    ∷ parent_names k fs

-- ---- fields that always have one, though another one may be preferred

abbrev pub placed_names : List (List ℕ)
placed_names =
    codes "title" ∷ codes "subtitle" ∷ codes "titleaddon" ∷ codes "shorttitle" ∷ codes "maintitle"
    ∷ codes "mainsubtitle" ∷ codes "maintitleaddon" ∷ codes "series" ∷ codes "shortseries"
    ∷ codes "author" ∷ codes "editor" ∷ codes "editora" ∷ codes "editorb" ∷ codes "editorc"
    ∷ codes "translator" ∷ codes "afterword" ∷ codes "foreword" ∷ codes "introduction"
    ∷ codes "annotator" ∷ codes "commentator" ∷ codes "holder" ∷ codes "director"
    ∷ codes "publisher" ∷ codes "location" ∷ codes "address" ∷ codes "institution"
    ∷ codes "school" ∷ codes "organization" ∷ codes "venue" ∷ codes "date" ∷ codes "year"
    ∷ codes "month" ∷ codes "day" ∷ codes "origtitle" ∷ codes "origdate" ∷ codes "origyear"
    ∷ codes "origpublisher" ∷ codes "origlocation" ∷ codes "volume" ∷ codes "number"
    ∷ codes "issue" ∷ codes "edition" ∷ codes "version" ∷ codes "chapter" ∷ codes "pages"
    ∷ codes "volumes" ∷ codes "pagetotal" ∷ codes "doi" ∷ codes "isbn" ∷ codes "issn"
    ∷ codes "pmid" ∷ codes "pmcid" ∷ codes "eid" ∷ codes "eprint" ∷ codes "url"
    ∷ codes "howpublished" ∷ codes "crossref" ∷ codes "xdata" ∷ codes "note" ∷ codes "addendum"
    ∷ codes "annotation" ∷ codes "annote" ∷ codes "abstract" ∷ codes "type" ∷ codes "library"
    ∷ codes "langid" ∷ codes "hyphenation" ∷ codes "language" ∷ codes "langidopts" ∷ []

abbrev pub is_always_placed : List ℕ → Bool
is_always_placed n = is_among placed_names n

-- the names of the code's table by value
abbrev pub name_view : Bor (List ℕ) → List ℕ
name_view n = n.now

-- ---- all of them

abbrev pub is_placed : Kind → List FieldBytes → List ℕ → Bool
is_placed k fs n =
    if is_always_placed n then true
    else unwrap_or (lookup (bytes_eq n) (container_names k fs)) false
