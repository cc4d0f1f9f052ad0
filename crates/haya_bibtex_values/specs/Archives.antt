-- Numbers of archives.
use Rattle.std.specs.Prelude.{ℕ, Bool, List, codes, drop, if◌then◌else◌}
use Rattle.haya_bibtex_values.specs.Addresses.{without_blanks}
use Rattle.haya_bibtex_values.specs.Fronts.{begins_in_any_case}

-- a number with the name of arXiv in front, in any case
abbrev pub is_of_arxiv : List ℕ → Bool
is_of_arxiv text = begins_in_any_case (codes "arxiv:") text

-- a number of arXiv without that name, and the blanks behind it
abbrev pub arxiv_number : List ℕ → List ℕ
arxiv_number text = if is_of_arxiv text then without_blanks (drop 6 text) else text
