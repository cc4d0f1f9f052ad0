use Rattle.std.proofs.Common.{◌≡◌, drop, map}
use Rattle.std.specs.Prelude.{◌==◌}
use Rattle.std.specs.List.{slice_split}
use Rattle.haya_bibtex_fields.specs.Languages.{comma, variant_among}
use Rattle.haya_bibtex_fields.proofs.languages.variant_among.Given as goal

-- none of the options so far names one
abbrev pub invariant-options : goal.invariant-options
invariant-options l =
    variant_among (map (λ t. t.now) (drop l.option-index l.option-items))
    ≡ variant_among (slice_split (λ b. b == comma) l.fn.text)
