-- The types of entries, by their names.
use Rattle.std.specs.Prelude.{ℕ, Bool, ◌||◌, List, [], ◌∷◌, Option, codes, find}
use Rattle.std.specs.Str.{bytes_eq, str_to_ascii_lowercase}
use Rattle.haya_entry.specs.declared.types.EntryType.{EntryType}
use Rattle.haya_entry.specs.declared.types.EntryType.TheVariants.{Article, Chapter, Entry, Anthos, Report, Thesis, Web, Scene, Artwork, Patent, Case, Newspaper, Legislation, Manuscript, Post, Misc, Performance, Periodical, Proceedings, Book, Blog, Reference, Conference, Anthology, Repository, Thread, Video, Audio, Exhibition, Original}

-- the name of a type, as it is written
abbrev pub type_name : EntryType → List ℕ
type_name Article = codes "Article"
type_name Chapter = codes "Chapter"
type_name Entry = codes "Entry"
type_name Anthos = codes "Anthos"
type_name Report = codes "Report"
type_name Thesis = codes "Thesis"
type_name Web = codes "Web"
type_name Scene = codes "Scene"
type_name Artwork = codes "Artwork"
type_name Patent = codes "Patent"
type_name Case = codes "Case"
type_name Newspaper = codes "Newspaper"
type_name Legislation = codes "Legislation"
type_name Manuscript = codes "Manuscript"
type_name Post = codes "Post"
type_name Misc = codes "Misc"
type_name Performance = codes "Performance"
type_name Periodical = codes "Periodical"
type_name Proceedings = codes "Proceedings"
type_name Book = codes "Book"
type_name Blog = codes "Blog"
type_name Reference = codes "Reference"
type_name Conference = codes "Conference"
type_name Anthology = codes "Anthology"
type_name Repository = codes "Repository"
type_name Thread = codes "Thread"
type_name Video = codes "Video"
type_name Audio = codes "Audio"
type_name Exhibition = codes "Exhibition"
type_name Original = codes "Original"

-- every type
abbrev pub all_types : List EntryType
all_types =
    Article ∷ Chapter ∷ Entry ∷ Anthos ∷ Report ∷ Thesis ∷ Web ∷ Scene ∷ Artwork ∷ Patent ∷
    Case ∷ Newspaper ∷ Legislation ∷ Manuscript ∷ Post ∷ Misc ∷ Performance ∷ Periodical ∷
    Proceedings ∷ Book ∷ Blog ∷ Reference ∷ Conference ∷ Anthology ∷ Repository ∷ Thread ∷
    Video ∷ Audio ∷ Exhibition ∷ Original ∷ []

-- the text with its ASCII letters in lower case
abbrev pub in_lower_case : List ℕ → List ℕ
in_lower_case text = str_to_ascii_lowercase text

-- whether the text is the type's name, as it is written or all in lower case
abbrev pub is_named : List ℕ → EntryType → Bool
is_named text k = bytes_eq text (type_name k) || bytes_eq text (in_lower_case (type_name k))

-- the type with this name
abbrev pub type_read : List ℕ → Option EntryType
type_read text = find (is_named text) all_types
