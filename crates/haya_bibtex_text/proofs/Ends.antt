-- An end so many characters later.
use Rattle.std.proofs.Common.{ℕ, ◌+◌}
use Rattle.haya_bibtex_text.specs.Groups.{End, closed, stray, nowhere}

abbrev pub ends_later : ℕ → End → End
ends_later n (closed k) = closed (n + k)
ends_later n (stray k) = stray (n + k)
ends_later n nowhere = nowhere
