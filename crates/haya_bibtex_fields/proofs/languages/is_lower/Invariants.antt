use Rattle.std.proofs.Common.{◌≡◌, drop, map}
use Rattle.std.specs.Char.{to_ascii_lowercase}
use Rattle.haya_bibtex_fields.proofs.languages.is_lower.Given as goal

-- the text is in lower case if the rest of it is
abbrev pub invariant-bytes : goal.invariant-bytes
invariant-bytes l =
    map to_ascii_lowercase (drop l.byte-index l.byte-items) ≡ drop l.byte-index l.byte-items →
    map to_ascii_lowercase l.byte-items ≡ l.byte-items
