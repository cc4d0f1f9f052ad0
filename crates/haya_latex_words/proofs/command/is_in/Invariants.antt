use Rattle.std.proofs.Common.{◌≡◌, drop, map}
use Rattle.std.specs.List.{list_any}
use Rattle.std.specs.Str.{bytes_eq}
use Rattle.haya_latex_words.specs.CommandViews.{word_view}
use Rattle.haya_latex_words.proofs.command.is_in.Given as goal

-- the word is found where it is in the rest of the table
abbrev pub invariant-rows : goal.invariant-rows
invariant-rows l = list_any (bytes_eq l.word) (map word_view l.table) ≡ list_any (bytes_eq l.word) (map word_view (drop l.name-index l.table))
