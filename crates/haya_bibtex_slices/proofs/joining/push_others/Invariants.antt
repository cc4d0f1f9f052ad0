use Rattle.std.proofs.Common.{◌≡◌, ◌++◌, ◌∷◌, flat_map, map, take}
use Rattle.std.specs.Prelude.{string_bytes}
use Rattle.haya_bibtex_slices.specs.Texts.{ended}
use Rattle.haya_bibtex_slices.proofs.joining.push_others.Given as goal

abbrev pub invariant-others : goal.invariant-others
invariant-others l =
    string_bytes l.text
    ≡ string_bytes l.initial.text
    ++ flat_map (λ q. 10 ∷ ended q) (map (λ s. s.now) (take l.part-index l.others))
