-- The kinds of works, by the names that BibLaTeX has for them, and series.
use Rattle.std.specs.Prelude.{ℕ, List, [], ◌∷◌, ◌++◌, codes, Option}
use Rattle.haya_text.specs.Chunks.{Chunk}
use Rattle.haya_bibtex_fields.specs.FieldTexts.{formatted_in, plain_in, title_in}
use Rattle.haya_bibtex_fields.specs.Tables.{Table, named_or}

-- theses, reports and other works, then patents, and requests for them
unfoldable pub genres : Table
genres =
    (codes "mathesis", codes "Master" ++ (226 ∷ 128 ∷ 153 ∷ codes "s thesis"))
    ∷ (codes "mastersthesis", codes "Master" ++ (226 ∷ 128 ∷ 153 ∷ codes "s thesis"))
    ∷ (codes "phdthesis", codes "PhD thesis")
    ∷ (codes "bathesis", codes "Bachelor" ++ (226 ∷ 128 ∷ 153 ∷ codes "s thesis"))
    ∷ (codes "candthesis", codes "Candidate thesis")
    ∷ (codes "techreport", codes "technical report")
    ∷ (codes "resreport", codes "research report")
    ∷ (codes "software", codes "computer software")
    ∷ (codes "datacd", codes "data CD")
    ∷ (codes "audiocd", codes "audio CD")
    ∷ (codes "patent", codes "patent")
    ∷ (codes "patentde", codes "German patent")
    ∷ (codes "patenteu", codes "European patent")
    ∷ (codes "patentfr", codes "French patent")
    ∷ (codes "patentuk", codes "British patent")
    ∷ (codes "patentus", codes "U.S. patent")
    ∷ (codes "patreq", codes "patent request")
    ∷ (codes "patreqde", codes "German patent request")
    ∷ (codes "patreqeu", codes "European patent request")
    ∷ (codes "patreqfr", codes "French patent request")
    ∷ (codes "patrequk", codes "British patent request")
    ∷ (codes "patrequs", codes "U.S. patent request") ∷ []

abbrev pub series_names : Table
series_names = (codes "newseries", codes "New series") ∷ (codes "oldseries", codes "Old series") ∷ []

-- what a type of a work says: the text of a name, or any other text as it is
abbrev pub genre_in : List ℕ → Option (List Chunk)
genre_in text = named_or genres (plain_in text) (formatted_in text)

-- the title of a series, of which two have names
abbrev pub series_in : List ℕ → Option (List Chunk)
series_in text = named_or series_names (plain_in text) (title_in text)
