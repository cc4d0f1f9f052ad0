use Rattle.std.proofs.Common.{◌≡◌, drop, map}
use Rattle.haya_latex_words.specs.Commands.{meaning_in}
use Rattle.haya_latex_words.specs.CommandViews.{row_view}
use Rattle.haya_latex_words.proofs.command.meaning_in.Given as goal

-- the word is found where it is in the rest of the table
abbrev pub invariant-rows : goal.invariant-rows
invariant-rows l = meaning_in (map row_view l.table) l.word ≡ meaning_in (map row_view (drop l.name-index l.table)) l.word
