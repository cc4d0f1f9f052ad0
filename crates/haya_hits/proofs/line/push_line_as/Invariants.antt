use Rattle.std.proofs.Common.{◌≡◌, ◌++◌}
use Rattle.std.specs.Prelude.{string_bytes}
use Rattle.std.specs.List.{flat_map}
use Rattle.hayagriva.specs.Library.{key_of}
use Rattle.hayagriva.specs.Tree.{view}
use Rattle.haya_hits.specs.Line.{binding_text, names_of}
use Rattle.haya_hits.specs.Shown.{shown_as}
use Rattle.haya_hits.proofs.line.push_line_as.Given as goal

-- behind the text, the key and the names so far
abbrev pub invariant-loop-name : goal.invariant-loop-name
invariant-loop-name l =
    string_bytes l.text ≡ string_bytes l.fn.text ++ (shown_as l.show (key_of (view l.hit.entry.now)) ++ flat_map (binding_text (shown_as l.show)) (names_of l.yielded))
