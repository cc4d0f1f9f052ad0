-- Worked rows of the definitions: an article in a journal, which appears in a site, and in a book.
use Rattle.std.proofs.Common.{◌≡◌, true, false, [], ◌∷◌, None, Some, refl}
use Rattle.std.specs.Prelude.{codes}
use Rattle.haya_entry.specs.declared.types.EntryType.TheVariants.{Article, Book, Periodical, Web}
use Rattle.haya_entry.specs.EntryType.{type_read}
use Rattle.haya_entry.specs.Levels.{ancestors, height}
use Rattle.haya_entry.specs.Names.{has_name, has_all}
use Rattle.haya_entry.specs.Tree.{Tree, size, at, at_list, new_entry, parents, with_parents, keyed_serial_number, with_keyed_serial_number}

abbrev site : Tree
site = new_entry (codes "site") Web

abbrev journal : Tree
journal = with_parents (site ∷ []) (new_entry (codes "journal") Periodical)

abbrev book : Tree
book = new_entry (codes "book") Book

abbrev article : Tree
article = with_parents (journal ∷ book ∷ []) (new_entry (codes "article") Article)

size_row : size article ≡ 4
size_row = refl

at_rows :
    (at article [] ≡ Some article)
    × (at article (1 ∷ []) ≡ Some book)
    × (at article (0 ∷ 0 ∷ []) ≡ Some site)
    × (at article (2 ∷ []) ≡ None)
    × (at article (1 ∷ 0 ∷ []) ≡ None)
at_rows = (refl, refl, refl, refl, refl)

at_list_rows :
    (at_list (parents article) (0 ∷ 0 ∷ []) ≡ Some site)
    × (at_list (parents article) [] ≡ None)
at_list_rows = (refl, refl)

-- an article with a DOI, and with a number under a key that is no name
abbrev with_doi : Tree
with_doi = with_keyed_serial_number (codes "doi") (codes "10.1/a") article

abbrev with_type : Tree
with_type = with_keyed_serial_number (codes "type") (codes "7") article

serial_rows :
    (keyed_serial_number (codes "doi") with_doi ≡ Some (codes "10.1/a"))
    × (keyed_serial_number (codes "isbn") with_doi ≡ None)
serial_rows = (refl, refl)

name_rows :
    (has_name with_doi (codes "doi") ≡ true)
    × (has_name with_doi (codes "serial-number") ≡ true)
    × (has_name with_doi (codes "isbn") ≡ false)
    × (has_name with_type (codes "type") ≡ false)
    × (has_name article (codes "serial-number") ≡ false)
name_rows = (refl, refl, refl, refl, refl)

all_rows :
    (has_all (codes "doi" ∷ codes "serial-number" ∷ []) with_doi ≡ true)
    × (has_all (codes "doi" ∷ codes "language" ∷ []) with_doi ≡ false)
    × (has_all [] article ≡ true)
all_rows = (refl, refl, refl)

type_rows :
    (type_read (codes "Book") ≡ Some Book)
    × (type_read (codes "book") ≡ Some Book)
    × (type_read (codes "BOOK") ≡ None)
    × (type_read (codes "bOOK") ≡ None)
    × (type_read [] ≡ None)
type_rows = (refl, refl, refl, refl, refl)

-- the ancestors of the article: the journal and the book, then the site
level_rows :
    (ancestors article ≡ (0 ∷ []) ∷ (1 ∷ []) ∷ (0 ∷ 0 ∷ []) ∷ [])
    × (height article ≡ 2)
    × (ancestors site ≡ [])
level_rows = (refl, refl, refl)
