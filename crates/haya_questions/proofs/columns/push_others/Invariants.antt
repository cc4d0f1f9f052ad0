use Rattle.std.proofs.Common.{◌≡◌, ◌++◌, drop, flat_map, map}
use Rattle.std.specs.Prelude.{string_bytes}
use Rattle.haya_questions.proofs.columns.push_others.Given as goal

-- what is pushed and what is left are what was pushed and all
abbrev pub invariant-others : goal.invariant-others
invariant-others l =
    string_bytes l.text ++ flat_map (λ t. l.separator ++ t) (map string_bytes (drop l.other-index l.others))
    ≡ string_bytes l.initial.text ++ flat_map (λ t. l.separator ++ t) (map string_bytes l.others)
