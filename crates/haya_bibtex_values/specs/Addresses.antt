-- Addresses on the web, and DOIs.
use Rattle.std.specs.Prelude.{ℕ, ◌==◌, not, Bool, false, List, [], ◌∷◌, codes, drop, if◌then◌else◌}
use Rattle.std.specs.Char.{is_whitespace}
use Rattle.std.specs.List.{list_any, prefix_len}
use Rattle.haya_bibtex_values.specs.Fronts.{begins_in_any_case, begins_with}

abbrev pub is_more : List ℕ → Bool
is_more [] = false
is_more (c ∷ cs) = not (list_any is_whitespace (c ∷ cs))

-- an address: a scheme, and at least one character behind it, none white
abbrev pub is_address : List ℕ → Bool
is_address text =
    if begins_with (codes "http://") text then is_more (drop 7 text)
    else if begins_with (codes "https://") text then is_more (drop 8 text)
    else if begins_with (codes "ftp://") text then is_more (drop 6 text)
    else false

-- ---- DOIs

abbrev pub is_blank : ℕ → Bool
is_blank c = c == 32

abbrev pub without_blanks : List ℕ → List ℕ
without_blanks text = drop (prefix_len is_blank text) text

-- a text behind its scheme without the host of DOIs, if that is there
abbrev pub behind_host : List ℕ → List ℕ → List ℕ
behind_host whole text =
    if begins_in_any_case (codes "doi.org/") text then drop 8 text
    else if begins_in_any_case (codes "dx.doi.org/") text then drop 11 text
    else if begins_in_any_case (codes "www.doi.org/") text then drop 12 text
    else whole

-- a DOI without what people write in front of it
abbrev pub doi_in : List ℕ → List ℕ
doi_in text =
    if begins_in_any_case (codes "http://") text then behind_host text (drop 7 text)
    else if begins_in_any_case (codes "https://") text then behind_host text (drop 8 text)
    else if begins_in_any_case (codes "doi:") text then without_blanks (drop 4 text)
    else text
