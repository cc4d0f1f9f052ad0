-- The types of CSL 1.0.2: the type of an item's entry, what it appears in, and what goes there.
use Rattle.std.specs.Prelude.{ℕ, nat_le, Bool, true, false, ◌&&◌, ◌||◌, List, [], ◌∷◌, length, map, take, Option, None, Some, is_some, option_and_then, option_map, unwrap_or, codes, if◌then◌else◌}
use Rattle.std.specs.Char.{to_ascii_lowercase}
use Rattle.std.specs.Map.{lookup}
use Rattle.std.specs.Str.{bytes_eq}
use Rattle.json.specs.Json as json
use Rattle.json.specs.Json.{Json}
use Rattle.json.specs.Find.{get}
use Rattle.haya_entry.specs.declared.types.EntryType.{EntryType}
use Rattle.haya_entry.specs.declared.types.EntryType.TheVariants as type
use Rattle.haya_json.specs.Parts.{member_of, text_in}
use Rattle.haya_csl.specs.declared.kinds.Kind.{Kind}
use Rattle.haya_csl.specs.declared.kinds.Own.{Own}
use Rattle.haya_csl.specs.declared.kinds.Own.TheVariants as own
use Rattle.haya_csl.specs.declared.kinds.Takes.{Takes}
use Rattle.haya_csl.specs.declared.kinds.Takes.TheVariants as takes

-- an item of its own
abbrev pub alone : EntryType → Kind
alone entry = record { entry = entry; own = own.Usual; host = None; venue = None }

-- one that appears in another, which takes these members
abbrev pub appears_in : EntryType → EntryType → Takes → Kind
appears_in entry host taken = record {
  entry = entry;
  own = own.Usual;
  host = Some (record { entry = host; takes = taken });
  venue = None;
}

-- one of its own with other places for some members
abbrev pub with_own : EntryType → Own → Kind
with_own entry rule = record { entry = entry; own = rule; host = None; venue = None }

-- one that was shown or given at an event
abbrev pub given_at : EntryType → EntryType → Kind
given_at entry venue = record { entry = entry; own = own.Usual; host = None; venue = Some venue }

-- ---- types that other members decide

-- a value that is as if it weren't there: null, or an empty text, list or object
abbrev pub is_empty : Json → Bool
is_empty json.null = true
is_empty (json.string []) = true
is_empty (json.array json.no_items) = true
is_empty (json.object json.no_members) = true
is_empty _ = false

-- a member, but where it is empty
abbrev pub unless_empty : Option Json → Option Json
unless_empty None = None
unless_empty (Some j) = if is_empty j then None else Some j

-- the member with this name, if there is one and it isn't empty
abbrev pub filled : List ℕ → Json → Option Json
filled name item = unless_empty (get name item)

-- whether the item has it
abbrev pub has : List ℕ → Json → Bool
has name item = is_some (filled name item)

abbrev pub in_periodical : EntryType → Kind
in_periodical entry = appears_in entry type.Periodical takes.Issue

-- an article of a periodical, or a preprint in an archive, which may be named as a publisher
abbrev pub article_in : Json → Kind
article_in item =
    if has (codes "container-title") item then in_periodical type.Article
    else if has (codes "archive") item then appears_in type.Article type.Repository takes.Archive
    else if has (codes "publisher") item then
    appears_in type.Article type.Repository takes.Publisher
    else alone type.Article

-- a part of an anthology, which has editors, or of a book
abbrev pub chapter_in : Json → Kind
chapter_in item =
    if has (codes "editor") item then appears_in type.Anthos type.Anthology takes.Book
    else appears_in type.Chapter type.Book takes.Book

-- an article where it is published, otherwise what somebody keeps
abbrev pub letter_in : Json → Kind
letter_in item =
    if has (codes "container-title") item then
    appears_in type.Article type.Periodical takes.Title
    else alone type.Manuscript

-- the text of a member, or none
abbrev pub text_at : List ℕ → Json → List ℕ
text_at name item = unwrap_or (option_and_then text_in (member_of name item)) []

-- whether the text begins with the word, in any case
abbrev pub begins_with : List ℕ → List ℕ → Bool
begins_with word text =
    nat_le (length word) (length text)
    && bytes_eq (map to_ascii_lowercase (take (length word) text)) (map to_ascii_lowercase word)

-- whether the word appears in the text, in any case
abbrev pub says : List ℕ → List ℕ → Bool
says word [] = false
says word (b ∷ bs) = begins_with word (b ∷ bs) || says word bs

abbrev pub says_audio : List ℕ → Bool
says_audio text = says (codes "radio") text || says (codes "podcast") text
    || says (codes "audio") text

-- a broadcast, which is heard or seen
abbrev pub broadcast_in : Json → Kind
broadcast_in item =
    let kind = if says_audio (text_at (codes "medium") item)
    || says_audio (text_at (codes "genre") item) then type.Audio else type.Video in
    record (appears_in kind kind takes.Title) { own = own.Broadcast }

-- ---- the table

abbrev pub always : Kind → Json → Kind
always kind item = kind

abbrev pub KindTable : Type 0
KindTable = List (List ℕ × (Json → Kind))

-- what is performed, stored, kept or held
abbrev pub later_kinds : KindTable
later_kinds =
    (codes "speech", always (given_at type.Performance type.Conference))
    ∷ (codes "performance", always (alone type.Performance))
    ∷ (codes "interview", letter_in)
    ∷ (codes "personal_communication", letter_in)
    ∷ (codes "software", always (alone type.Repository))
    ∷ (codes "dataset", always (appears_in type.Repository type.Repository takes.Title))
    ∷ (codes "event", always (alone type.Conference))
    ∷ (codes "document", always (alone type.Misc))
    ∷ []

-- what is seen, heard or drawn
abbrev pub media_kinds : KindTable
media_kinds =
    (codes "motion_picture", always (appears_in type.Video type.Video takes.Title))
    ∷ (codes "broadcast", broadcast_in)
    ∷ (codes "song", always (appears_in type.Audio type.Audio takes.Volume))
    ∷ (codes "musical_score", always (appears_in type.Artwork type.Anthology takes.Title))
    ∷ (codes "map", always (appears_in type.Artwork type.Anthology takes.Title))
    ∷ (codes "figure", always (appears_in type.Artwork type.Book takes.Figure))
    ∷ (codes "graphic", always (given_at type.Artwork type.Exhibition))
    ∷ later_kinds

-- what is law, or on the web
abbrev pub law_kinds : KindTable
law_kinds =
    (codes "legal_case", always (appears_in type.Case type.Reference takes.Volume))
    ∷ (codes "hearing", always (appears_in type.Case type.Reference takes.Volume))
    ∷ (codes "legislation", always (appears_in type.Legislation type.Anthology takes.Volume))
    ∷ (codes "bill", always (appears_in type.Legislation type.Anthology takes.Volume))
    ∷ (codes "regulation", always (appears_in type.Legislation type.Anthology takes.Volume))
    ∷ (codes "treaty", always (appears_in type.Legislation type.Anthology takes.Volume))
    ∷ (codes "webpage", always (appears_in type.Web type.Web takes.Title))
    ∷ (codes "post-weblog", always (appears_in type.Article type.Blog takes.Title))
    ∷ (codes "post", always (appears_in type.Post type.Thread takes.Title))
    ∷ media_kinds

-- what is a work of its own
abbrev pub book_kinds : KindTable
book_kinds =
    (codes "book", always (alone type.Book))
    ∷ (codes "classic", always (alone type.Book))
    ∷ (codes "pamphlet", always (alone type.Book))
    ∷ (codes "thesis", always (with_own type.Thesis own.Institution))
    ∷ (codes "manuscript", always (alone type.Manuscript))
    ∷ (codes "patent", always (alone type.Patent))
    ∷ (codes "report", always (with_own type.Report own.Institution))
    ∷ (codes "standard", always (with_own type.Report own.Institution))
    ∷ (codes "periodical", always (with_own type.Periodical own.Periodical))
    ∷ (codes "collection", always (alone type.Anthology))
    ∷ law_kinds

abbrev pub paper : Kind
paper = record {
  entry = type.Article;
  own = own.Usual;
  host = Some (record { entry = type.Proceedings; takes = takes.Proceedings });
  venue = Some type.Conference;
}

-- all of them
abbrev pub kind_table : KindTable
kind_table =
    (codes "article-journal", always (in_periodical type.Article))
    ∷ (codes "article-magazine", always (in_periodical type.Article))
    ∷ (codes "review", always (in_periodical type.Article))
    ∷ (codes "review-book", always (in_periodical type.Article))
    ∷ (codes "article", article_in)
    ∷ (
      codes "article-newspaper",
      always (appears_in type.Article type.Newspaper takes.Newspaper),
    )
    ∷ (codes "paper-conference", always paper)
    ∷ (codes "chapter", chapter_in)
    ∷ (codes "entry", always (appears_in type.Entry type.Reference takes.Reference))
    ∷ (codes "entry-dictionary", always (appears_in type.Entry type.Reference takes.Reference))
    ∷ (codes "entry-encyclopedia", always (appears_in type.Entry type.Reference takes.Reference))
    ∷ book_kinds

abbrev pub kind_among : KindTable → List ℕ → Json → Option Kind
kind_among table name item = option_map (λ kind. kind item) (lookup (bytes_eq name) table)

-- the kind of an item whose type has this name
abbrev pub kind_named : List ℕ → Json → Option Kind
kind_named name item = kind_among kind_table name item

-- the kind of an item; without a type, or with one that is refused, it is a document
abbrev pub kind_by : Option (List ℕ) → Json → Kind
kind_by None item = alone type.Misc
kind_by (Some name) item = unwrap_or (kind_named name item) (alone type.Misc)

abbrev pub kind_of : Json → Kind
kind_of item = kind_by (option_and_then text_in (member_of (codes "type") item)) item
