-- Where a balanced text ends, by value.
use Rattle.std.specs.Prelude.{ℕ, ◌<◌, ⊤}
use Rattle.haya_bibtex_text.specs.Groups.{End, closed, stray, nowhere}
use Rattle.haya_bibtex_text.specs.declared.groups.End.{End as EndOf}
use Rattle.haya_bibtex_text.specs.declared.groups.End.TheVariants.{Closed, Stray, Nowhere}

abbrev pub end_view : EndOf → End
end_view (Closed n) = closed n
end_view (Stray n) = stray n
end_view Nowhere = nowhere

-- it is before so many characters
abbrev pub IsBefore : ℕ → EndOf → Type 0
IsBefore len (Closed n) = n < len
IsBefore len (Stray n) = n < len
IsBefore len Nowhere = ⊤
