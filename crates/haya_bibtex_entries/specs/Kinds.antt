-- The types of entries: the type of the entry that is read, what it appears in, and what its number
-- is.
use Rattle.std.specs.Prelude.{ℕ, ◌||◌, Bool, true, false, List, [], ◌∷◌, Option, None, Some, option_map, unwrap_or, codes, if◌then◌else◌}
use Rattle.std.specs.Borrow.{Bor}
use Rattle.std.specs.Map.{lookup}
use Rattle.std.specs.Option.{option_map_or}
use Rattle.std.specs.Str.{bytes_eq, trim}
use Rattle.haya_entry.specs.declared.types.EntryType.{EntryType}
use Rattle.haya_entry.specs.declared.types.EntryType.TheVariants as type
use Rattle.haya_bibtex_inherited.specs.Entries.{FieldBytes, has_field, text_of}
use Rattle.haya_bibtex_entries.specs.declared.kinds.Kind.{Kind}
use Rattle.haya_bibtex_entries.specs.declared.kinds.NumberRule.{NumberRule}
use Rattle.haya_bibtex_entries.specs.declared.kinds.NumberRule.TheVariants as number
use Rattle.haya_bibtex_entries.specs.declared.kinds.PublisherRule.TheVariants as publisher
use Rattle.haya_bibtex_entries.specs.declared.rules.Rule.{Rule}
use Rattle.haya_bibtex_entries.specs.declared.rules.Rule.TheVariants as rule
use Rattle.haya_bibtex_entries.specs.declared.kinds.Takes.{Takes}
use Rattle.haya_bibtex_entries.specs.declared.kinds.Takes.TheVariants as takes

-- ---- what a host takes, beside a title

abbrev pub takes_publisher : Takes → Bool
takes_publisher takes.Issue = true
takes_publisher takes.Proceedings = true
takes_publisher takes.Book = true
takes_publisher takes.Reference = true
takes_publisher t = false

abbrev pub takes_volume : Takes → Bool
takes_volume takes.Issue = true
takes_volume takes.Proceedings = true
takes_volume takes.Book = true
takes_volume takes.Reference = true
takes_volume takes.Volume = true
takes_volume t = false

abbrev pub takes_issue : Takes → Bool
takes_issue takes.Issue = true
takes_issue takes.Proceedings = true
takes_issue t = false

abbrev pub takes_edition : Takes → Bool
takes_edition takes.Newspaper = true
takes_edition takes.Book = true
takes_edition takes.Reference = true
takes_edition t = false

abbrev pub takes_editors : Takes → Bool
takes_editors takes.Proceedings = true
takes_editors takes.Book = true
takes_editors takes.Reference = true
takes_editors t = false

abbrev pub takes_authors : Takes → Bool
takes_authors takes.Book = true
takes_authors t = false

abbrev pub takes_isbn : Takes → Bool
takes_isbn takes.Proceedings = true
takes_isbn takes.Book = true
takes_isbn takes.Reference = true
takes_isbn t = false

abbrev pub takes_issn : Takes → Bool
takes_issn takes.Issue = true
takes_issn takes.Newspaper = true
takes_issn takes.Proceedings = true
takes_issn t = false

-- the place of a newspaper's publisher is the newspaper's
abbrev pub takes_location : Takes → Bool
takes_location takes.Newspaper = true
takes_location t = false

-- the subtype of an entry says what of the press it appears in
abbrev pub takes_subtype : Takes → Bool
takes_subtype takes.Issue = true
takes_subtype takes.Newspaper = true
takes_subtype t = false

-- whether there is a host that takes something
abbrev pub host_takes : (Takes → Bool) → Kind → Bool
host_takes taken k = option_map_or (λ h. taken h.takes) k.host false

-- ---- kinds

-- an entry of its own
abbrev pub alone : EntryType → NumberRule → Kind
alone entry n = record {
  entry = entry;
  host = None;
  is_given = false;
  publisher = publisher.Usual;
  number = n;
}

-- one that appears in another, which takes these fields
abbrev pub appears_in : EntryType → EntryType → Takes → NumberRule → Kind
appears_in entry host taken n =
    record (alone entry n) { host = Some (record { entry = host; takes = taken }) }

-- one that was given at a conference
abbrev pub given : Kind → Kind
given k = record k { is_given = true }

-- one of an institution
abbrev pub of_institution : EntryType → Kind
of_institution entry = record (alone entry number.Serial) { publisher = publisher.Institution }

abbrev pub of_patent : Kind
of_patent = record (alone type.Patent number.Serial) { publisher = publisher.Patent }

-- ---- types that other fields decide

-- the subtype of an entry is this word
abbrev pub is_subtype : List ℕ → List FieldBytes → Bool
is_subtype word fs =
    option_map_or (λ t. bytes_eq (trim t) word) (text_of fs (codes "entrysubtype")) false

abbrev pub in_newspaper : Kind
in_newspaper = appears_in type.Article type.Newspaper takes.Newspaper number.Issue

abbrev pub in_periodical : Kind
in_periodical = appears_in type.Article type.Periodical takes.Issue number.Issue

abbrev pub article_in : List FieldBytes → Kind
article_in fs = if is_subtype (codes "newspaper") fs then in_newspaper else in_periodical

abbrev pub has_event : List FieldBytes → Bool
has_event fs =
    has_field fs (codes "eventtitle")
    || has_field fs (codes "eventdate")
    || has_field fs (codes "venue")

-- what wasn't published may have been given at a conference
abbrev pub unpublished_in : List FieldBytes → Kind
unpublished_in fs =
    if has_event fs then given (alone type.Performance number.Serial)
    else alone type.Manuscript number.Serial

abbrev pub is_in_journal : List FieldBytes → Bool
is_in_journal fs = has_field fs (codes "journaltitle") || has_field fs (codes "journal")

-- a letter may have been published
abbrev pub letter_in : List FieldBytes → Kind
letter_in fs = if is_in_journal fs then article_in fs else alone type.Manuscript number.Serial

-- ---- the table

-- a paper in the proceedings of a conference
abbrev pub paper : Kind
paper = given (appears_in type.Article type.Proceedings takes.Proceedings number.Series)

-- the kind of an entry by what decides it
abbrev pub kind_by : Rule → List FieldBytes → Kind
kind_by (rule.Alone entry n) fs = alone entry n
kind_by (rule.Given entry n) fs = given (alone entry n)
kind_by (rule.In entry host taken n) fs = appears_in entry host taken n
kind_by (rule.Institution entry) fs = of_institution entry
kind_by rule.Patent fs = of_patent
kind_by rule.Paper fs = paper
kind_by rule.Newspaper fs = in_newspaper
kind_by rule.Article fs = article_in fs
kind_by rule.Unpublished fs = unpublished_in fs
kind_by rule.Letter fs = letter_in fs

-- all types that are known: what appears in issues, parts of books, works of their own, what an
-- institution gives out, what is kept, what is stored or on the web, what is seen, heard or
-- performed, and law
abbrev pub rules : List (List ℕ × Rule)
rules =
    (codes "article", rule.Article)
    ∷ (codes "suppperiodical", rule.Article)
    ∷ (codes "review", rule.Article)
    ∷ (codes "newspaper", rule.Newspaper)
    ∷ (codes "newsarticle", rule.Newspaper)
    ∷ (codes "inproceedings", rule.Paper)
    ∷ (codes "conference", rule.Paper)
    ∷ (codes "incollection", rule.In type.Anthos type.Anthology takes.Book number.Series)
    ∷ (codes "suppcollection", rule.In type.Anthos type.Anthology takes.Book number.Series)
    ∷ (codes "inbook", rule.In type.Chapter type.Book takes.Book number.Series)
    ∷ (codes "suppbook", rule.In type.Chapter type.Book takes.Book number.Series)
    ∷ (codes "bookinbook", rule.In type.Chapter type.Book takes.Book number.Series)
    ∷ (codes "inreference", rule.In type.Entry type.Reference takes.Reference number.Series)
    ∷ (codes "book", rule.Alone type.Book number.Series)
    ∷ (codes "mvbook", rule.Alone type.Book number.Series)
    ∷ (codes "booklet", rule.Alone type.Book number.Serial)
    ∷ (codes "commentary", rule.Alone type.Book number.Serial)
    ∷ (codes "collection", rule.Alone type.Anthology number.Series)
    ∷ (codes "mvcollection", rule.Alone type.Anthology number.Series)
    ∷ (codes "reference", rule.Alone type.Reference number.Series)
    ∷ (codes "mvreference", rule.Alone type.Reference number.Series)
    ∷ (codes "proceedings", rule.Given type.Proceedings number.Series)
    ∷ (codes "mvproceedings", rule.Given type.Proceedings number.Series)
    ∷ (codes "manual", rule.Alone type.Reference number.Serial)
    ∷ (codes "periodical", rule.Alone type.Periodical number.Issue)
    ∷ (codes "thesis", rule.Institution type.Thesis)
    ∷ (codes "phdthesis", rule.Institution type.Thesis)
    ∷ (codes "mastersthesis", rule.Institution type.Thesis)
    ∷ (codes "report", rule.Institution type.Report)
    ∷ (codes "techreport", rule.Institution type.Report)
    ∷ (codes "standard", rule.Institution type.Report)
    ∷ (codes "unpublished", rule.Unpublished)
    ∷ (codes "letter", rule.Letter)
    ∷ (codes "letters", rule.Letter)
    ∷ (codes "patent", rule.Patent)
    ∷ (codes "misc", rule.Alone type.Misc number.Serial)
    ∷ (codes "set", rule.Alone type.Misc number.Serial)
    ∷ (codes "artwork", rule.Alone type.Artwork number.Serial)
    ∷ (codes "image", rule.Alone type.Artwork number.Serial)
    ∷ (codes "software", rule.Alone type.Repository number.Serial)
    ∷ (codes "softwareversion", rule.Alone type.Repository number.Serial)
    ∷ (codes "softwaremodule", rule.Alone type.Repository number.Serial)
    ∷ (codes "codefragment", rule.Alone type.Repository number.Serial)
    ∷ (codes "dataset", rule.In type.Repository type.Repository takes.Title number.Serial)
    ∷ (codes "data", rule.In type.Repository type.Repository takes.Title number.Serial)
    ∷ (codes "online", rule.In type.Web type.Web takes.Title number.Serial)
    ∷ (codes "electronic", rule.In type.Web type.Web takes.Title number.Serial)
    ∷ (codes "www", rule.In type.Web type.Web takes.Title number.Serial)
    ∷ (codes "video", rule.In type.Video type.Video takes.Title number.Serial)
    ∷ (codes "movie", rule.In type.Video type.Video takes.Title number.Serial)
    ∷ (codes "audio", rule.In type.Audio type.Audio takes.Volume number.Serial)
    ∷ (codes "music", rule.In type.Audio type.Audio takes.Volume number.Serial)
    ∷ (codes "performance", rule.Given type.Performance number.Serial)
    ∷ (codes "jurisdiction", rule.In type.Case type.Reference takes.Volume number.Serial)
    ∷ (codes "legislation", rule.In type.Legislation type.Anthology takes.Volume number.Serial)
    ∷ (codes "legal", rule.In type.Legislation type.Anthology takes.Volume number.Serial)
    ∷ []

-- the rows of the code's table by value
abbrev pub rule_view : Bor (List ℕ) × Rule → List ℕ × Rule
rule_view r = (r.0.now, r.1)

-- the kind of a type; one that isn't known is none
abbrev pub kind_named : List ℕ → List FieldBytes → Option Kind
kind_named name fs = option_map (λ r. kind_by r fs) (lookup (bytes_eq name) rules)

-- the kind of an entry; of an unknown type it is anything
abbrev pub kind_of : List ℕ → List FieldBytes → Kind
kind_of name fs = unwrap_or (kind_named name fs) (alone type.Misc number.Serial)
