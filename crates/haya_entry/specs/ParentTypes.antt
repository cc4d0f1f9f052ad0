-- The types of works that an entry appears in, by its own type.
use Rattle.std.specs.Prelude.{Bool, true, false, List, [], ◌∷◌}
use Rattle.haya_entry.specs.declared.types.EntryType.{EntryType}
use Rattle.haya_entry.specs.declared.types.EntryType.TheVariants.{Article, Chapter, Entry, Anthos, Report, Web, Scene, Artwork, Case, Newspaper, Legislation, Post, Misc, Performance, Periodical, Proceedings, Book, Blog, Reference, Conference, Anthology, Thread, Video, Audio, Exhibition}

-- the type of a parent where nothing else is known of it
abbrev pub default_parent : EntryType → EntryType
default_parent Article = Periodical
default_parent Chapter = Book
default_parent Entry = Reference
default_parent Anthos = Anthology
default_parent Web = Web
default_parent Scene = Video
default_parent Artwork = Exhibition
default_parent Legislation = Anthology
default_parent Post = Post
default_parent Video = Video
default_parent Audio = Audio
default_parent _ = Misc

-- the types of containers, the most fitting first
abbrev pub container_types : EntryType → List EntryType
container_types Article =
    Book ∷ Proceedings ∷ Conference ∷ Periodical ∷ Newspaper ∷ Blog ∷ Reference ∷ Web ∷ []
container_types Anthos = Book ∷ Anthology ∷ Reference ∷ Report ∷ []
container_types Chapter = Book ∷ Anthology ∷ Reference ∷ Report ∷ []
container_types Case = Book ∷ Anthology ∷ Reference ∷ Report ∷ []
container_types Report = Book ∷ Anthology ∷ []
container_types Web = Web ∷ []
container_types Scene = Audio ∷ Video ∷ Performance ∷ Artwork ∷ []
container_types Post = Thread ∷ Blog ∷ Web ∷ []
container_types Thread = Thread ∷ Web ∷ Blog ∷ []
container_types _ = []

-- whether the parents of an entry of this type may be its collections; an entry of any other type
-- has those of its parents
abbrev pub is_collected : EntryType → Bool
is_collected Anthology = true
is_collected Newspaper = true
is_collected Performance = true
is_collected Periodical = true
is_collected Proceedings = true
is_collected Book = true
is_collected Reference = true
is_collected Exhibition = true
is_collected _ = false

-- whether an entry of this type is a part of what it appears in, and may go without a title of its
-- own
abbrev pub is_part : EntryType → Bool
is_part Chapter = true
is_part Scene = true
is_part _ = false
