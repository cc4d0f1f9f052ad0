use Rattle.std.proofs.Common.{◌≡◌, ◌++◌, drop}
use Rattle.std.specs.Prelude.{map, string_bytes}
use Rattle.haya_slices.specs.Layout.{list_text, text_from}
use Rattle.haya_slices.proofs.printing.list_text.Given as goal

abbrev pub invariant-elements : goal.invariant-elements
invariant-elements l =
    string_bytes l.text
    ++ text_from l.brackets l.is_first (map (λ s. s.now) (drop l.element-index l.elements))
    ≡ list_text l.brackets (map (λ s. s.now) l.elements)
