-- What becomes of names where an entry gives its fields to another.
use Rattle.std.specs.Prelude.{ℕ, Bool, false, not, ◌&&◌, ◌||◌, List, [], ◌∷◌, ◌++◌}
use Rattle.std.specs.Prelude.{Option, Some, None, codes, eqb, is_some, if◌then◌else◌}
use Rattle.std.specs.List.{starts_with}
use Rattle.std.specs.Str.{bytes_eq}
use Rattle.haya_bibtex_inherited.specs.Entries.{is_among}
use Rattle.haya_bibtex_inherited.specs.declared.changes.Changes.{Changes}
use Rattle.haya_bibtex_inherited.specs.declared.changes.Titles.{Titles}
use Rattle.haya_bibtex_inherited.specs.declared.changes.Titles.TheVariants as titles
use Rattle.haya_bibtex_inherited.specs.declared.reference.Link.{Link}
use Rattle.haya_bibtex_inherited.specs.declared.reference.Link.TheVariants as link

-- names that no entry inherits
abbrev pub own_names : List (List ℕ)
own_names =
    codes "crossref" ∷ codes "xref" ∷ codes "xdata" ∷ codes "ids" ∷ codes "entryset"
    ∷ codes "entrysubtype" ∷ codes "execute" ∷ codes "label" ∷ codes "options"
    ∷ codes "presort" ∷ codes "related" ∷ codes "relatedoptions" ∷ codes "relatedstring"
    ∷ codes "relatedtype" ∷ codes "shorthand" ∷ codes "shorthandintro" ∷ codes "sortkey"
    ∷ codes "key" ∷ []

-- names that are inherited together, or not at all
abbrev pub date_names : List (List ℕ)
date_names = codes "date" ∷ codes "year" ∷ codes "month" ∷ codes "day" ∷ []

abbrev pub short_titles : List (List ℕ)
short_titles =
    codes "shorttitle" ∷ codes "sorttitle" ∷ codes "indextitle" ∷ codes "indexsorttitle" ∷ []

-- types of which a book is the whole, those of which a book or another volume is, and those of
-- which a periodical is
abbrev pub parts_of_books : List (List ℕ)
parts_of_books = codes "inbook" ∷ codes "bookinbook" ∷ codes "suppbook" ∷ []

abbrev pub parts_of_volumes : List (List ℕ)
parts_of_volumes =
    codes "inbook" ∷ codes "bookinbook" ∷ codes "suppbook" ∷ codes "incollection"
    ∷ codes "suppcollection" ∷ codes "inreference" ∷ codes "inproceedings"
    ∷ codes "conference" ∷ []

abbrev pub parts_of_periodicals : List (List ℕ)
parts_of_periodicals = codes "article" ∷ codes "suppperiodical" ∷ codes "review" ∷ []

abbrev pub books : List (List ℕ)
books = codes "book" ∷ codes "mvbook" ∷ []

-- a type of works in several volumes
abbrev pub is_multivolume : List ℕ → Bool
is_multivolume kind = starts_with eqb kind (codes "mv")

-- what becomes of the titles of an entry of the first type, in one of the second that refers to it
abbrev pub titles_between : List ℕ → List ℕ → Titles
titles_between source target =
    if is_multivolume source then titles.Main
    else if is_among parts_of_volumes target then titles.Book
    else if bytes_eq source (codes "periodical") && is_among parts_of_periodicals target
    then titles.Journal
    else titles.Same

-- what changes between two types
abbrev pub changes_between : Link → List ℕ → List ℕ → Changes
changes_between link.Xdata source target =
    record { titles = titles.Same; book_author = false; no_short_titles = false }
changes_between link.Crossref source target = record {
  titles = titles_between source target;
  book_author = is_among books source && is_among parts_of_books target;
  no_short_titles = is_multivolume source
      || (is_among parts_of_volumes target || is_among parts_of_periodicals target);
}

-- names, and what they become
abbrev pub NewNames : Type 0
NewNames = List (List ℕ × List ℕ)

abbrev pub name_under : NewNames → List ℕ → Option (List ℕ)
name_under [] n = None
name_under (r ∷ rs) n = if bytes_eq n r.0 then Some r.1 else name_under rs n

abbrev pub new_titles : Titles → NewNames
new_titles titles.Same = []
new_titles titles.Main =
    (codes "title", codes "maintitle")
    ∷ (codes "subtitle", codes "mainsubtitle")
    ∷ (codes "titleaddon", codes "maintitleaddon") ∷ []
new_titles titles.Book =
    (codes "title", codes "booktitle")
    ∷ (codes "subtitle", codes "booksubtitle")
    ∷ (codes "titleaddon", codes "booktitleaddon") ∷ []
new_titles titles.Journal =
    (codes "title", codes "journaltitle")
    ∷ (codes "subtitle", codes "journalsubtitle")
    ∷ (codes "titleaddon", codes "journaltitleaddon") ∷ []

abbrev pub new_authors : Bool → NewNames
new_authors b = if b then (codes "author", codes "bookauthor") ∷ [] else []

-- the name that a name changes to
abbrev pub new_name : Changes → List ℕ → Option (List ℕ)
new_name c n = name_under (new_titles c.titles ++ new_authors c.book_author) n

-- the name is inherited as it is, by an entry that has a date or hasn't
abbrev pub keeps_name : Changes → Bool → List ℕ → Bool
keeps_name c dated n =
    not (is_among own_names n || (is_some (name_under (new_titles c.titles) n)
    || ((c.no_short_titles && is_among short_titles n) || (dated && is_among date_names n))))
