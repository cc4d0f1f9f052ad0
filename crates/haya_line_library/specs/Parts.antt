-- A library's text in parts.
use Rattle.std.specs.Prelude.{◌≡◌, ℕ, List, Some}
use Rattle.std.specs.List.{last_or}
use Rattle.hayagriva.specs.Parts.{AreApart}
use Rattle.hayagriva.specs.Tree.{Tree}
use Rattle.haya_lines.specs.Signs.{line_feed}
use Rattle.haya_line_library.specs.Input.{Describes}

-- empty, or the last byte is a line feed
abbrev pub AreWholeLines : List ℕ → Type 0
AreWholeLines text = last_or (Some line_feed) text ≡ Some line_feed

-- no key is in the libraries of both
abbrev pub DescribeApart : List ℕ → List ℕ → Type 0
DescribeApart first second = (a b : List Tree) → Describes first a → Describes second b
    → AreApart a b
