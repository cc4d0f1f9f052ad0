use denote.Shadow.{shadow}
use denote.Text.{Utf8}
use Rattle.std.proofs.Common.{◌≡◌, ◌++◌, length}
use Rattle.std.specs.Str.{chars}
use Rattle.haya_characters.proofs.lists.chars_of.Given as goal

-- the characters so far, and those of what is left, are those of the text
abbrev pub invariant-parts : goal.invariant-parts
invariant-parts l = shadow (Utf8 l.left) × (l.list.items ++ chars l.left ≡ chars l.text)

abbrev pub decreases-parts : goal.decreases-parts
decreases-parts l = length l.left
