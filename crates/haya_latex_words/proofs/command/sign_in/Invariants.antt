use Rattle.std.proofs.Common.{◌≡◌, drop, map}
use Rattle.std.specs.Map.{lookup}
use Rattle.std.specs.Str.{bytes_eq}
use Rattle.haya_latex_words.specs.CommandViews.{sign_view}
use Rattle.haya_latex_words.proofs.command.sign_in.Given as goal

-- the word is found where it is in the rest of the table
abbrev pub invariant-rows : goal.invariant-rows
invariant-rows l = lookup (bytes_eq l.word) (map sign_view l.table) ≡ lookup (bytes_eq l.word) (map sign_view (drop l.name-index l.table))
