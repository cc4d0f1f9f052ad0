-- The table of titles.
use Rattle.std.specs.Prelude.{ℕ, ◌++◌, Bool, List, [], ◌∷◌, Option, None, Some, option_and_then, option_map, codes, if◌then◌else◌}
use Rattle.std.specs.Option.{option_or}
use Rattle.haya_bibtex_fields.specs.FieldTexts.{title_in, unknown_of}
use Rattle.haya_bibtex_fields.specs.Genres.{series_in}
use Rattle.haya_bibtex_fields.specs.Titles.{TitleBytes, short_title, short_title_unknown, whole_title, with_short}
use Rattle.haya_bibtex_inherited.specs.Entries.{FieldBytes, text_of}
use Rattle.haya_bibtex_entries.specs.Containers.{container_of}
use Rattle.haya_bibtex_entries.specs.Drafts.{RowView}
use Rattle.haya_bibtex_entries.specs.Rows.{commands, row}
use Rattle.haya_bibtex_entries.specs.Values.{title_value}
use Rattle.haya_bibtex_entries.specs.declared.containers.Container.{Container}
use Rattle.haya_bibtex_entries.specs.declared.containers.Container.TheVariants.{Book, Journal, Own}
use Rattle.haya_bibtex_entries.specs.declared.draft.Level.{Level}
use Rattle.haya_bibtex_entries.specs.declared.draft.Level.TheVariants as level
use Rattle.haya_bibtex_entries.specs.declared.kinds.Host.{Host}
use Rattle.haya_bibtex_entries.specs.declared.kinds.Kind.{Kind}

abbrev pub own_texts : List FieldBytes → TitleBytes
own_texts fs = record {
  title = text_of fs (codes "title");
  subtitle = text_of fs (codes "subtitle");
  addition = text_of fs (codes "titleaddon");
}

abbrev pub journal_texts : List FieldBytes → TitleBytes
journal_texts fs = record {
  title = option_or (text_of fs (codes "journaltitle")) (text_of fs (codes "journal"));
  subtitle = text_of fs (codes "journalsubtitle");
  addition = text_of fs (codes "journaltitleaddon");
}

abbrev pub book_texts : List FieldBytes → TitleBytes
book_texts fs = record {
  title = text_of fs (codes "booktitle");
  subtitle = text_of fs (codes "booksubtitle");
  addition = text_of fs (codes "booktitleaddon");
}

abbrev pub main_texts : List FieldBytes → TitleBytes
main_texts fs = record {
  title = text_of fs (codes "maintitle");
  subtitle = text_of fs (codes "mainsubtitle");
  addition = text_of fs (codes "maintitleaddon");
}

abbrev pub event_texts : List FieldBytes → TitleBytes
event_texts fs = record {
  title = text_of fs (codes "eventtitle");
  subtitle = None;
  addition = text_of fs (codes "eventtitleaddon");
}

abbrev pub original_texts : List FieldBytes → TitleBytes
original_texts fs = record {
  title = text_of fs (codes "origtitle");
  subtitle = None;
  addition = None;
}

-- ---- rows

-- texts joined as a title, with the short form that is written, if there is one
abbrev pub title_row : Level → TitleBytes → Option (List ℕ) → RowView
title_row l texts short =
    row l (option_map (λ t. title_value t) (short_title texts short))
    (commands (short_title_unknown texts short))

-- the title of an entry that has one is its own short form where it has a subtitle
abbrev pub whole_title_row : TitleBytes → Option (List ℕ) → RowView
whole_title_row texts short =
    row level.Own (option_map (λ t. title_value t) (whole_title texts short))
    (commands (short_title_unknown texts short))

abbrev pub own_title_row : Container → List FieldBytes → RowView
own_title_row Own fs = title_row level.Own (journal_texts fs) (text_of fs (codes "shorttitle"))
own_title_row c fs = whole_title_row (own_texts fs) (text_of fs (codes "shorttitle"))

-- a journal's title may have a short form
abbrev pub host_title_row : Option Host → Container → List FieldBytes → Option RowView
host_title_row (Some h) Journal fs =
    Some (title_row (level.Host h.entry) (journal_texts fs) (text_of fs (codes "shortjournal")))
host_title_row (Some h) Book fs = Some (title_row (level.Host h.entry) (book_texts fs) None)
host_title_row h c fs = None

abbrev pub main_title_row : List FieldBytes → RowView
main_title_row fs = title_row level.Main (main_texts fs) None

abbrev pub series_row : Option (List ℕ) → Option (List ℕ) → RowView
series_row series short =
    row level.Series
    (option_map (λ t. title_value t)
    (with_short (option_and_then series_in series) (option_and_then title_in short)))
    (commands (unknown_of series ++ unknown_of short))

abbrev pub series_title_row : List FieldBytes → RowView
series_title_row fs = series_row (text_of fs (codes "series")) (text_of fs (codes "shortseries"))

abbrev pub conference_title_row : Bool → List FieldBytes → Option RowView
conference_title_row is_given fs =
    if is_given then Some (title_row level.Conference (event_texts fs) None) else None

abbrev pub original_title_row : List FieldBytes → RowView
original_title_row fs = title_row level.Original (original_texts fs) None

abbrev pub title_rows : Kind → List FieldBytes → List (Option RowView)
title_rows k fs =
    Some (own_title_row (container_of k fs) fs)
    ∷ host_title_row k.host (container_of k fs) fs
    ∷ Some (main_title_row fs)
    ∷ []

abbrev pub other_title_rows : Kind → List FieldBytes → List (Option RowView)
other_title_rows k fs =
    Some (series_title_row fs)
    ∷ conference_title_row k.is_given fs
    ∷ Some (original_title_row fs)
    ∷ []
