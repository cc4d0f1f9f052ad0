use Rattle.std.proofs.Common.{◌≡◌, ◌++◌, flat_map}
use Rattle.std.specs.Prelude.{string_bytes}
use Rattle.std.specs.Char.{encode_utf8}
use Rattle.haya_hits.specs.Shown.{shown_key}
use Rattle.haya_hits.proofs.shown.push_escaped.Given as goal

-- the characters so far are shown
abbrev pub invariant-characters : goal.invariant-characters
invariant-characters l = string_bytes l.line ≡ string_bytes l.fn.line ++ flat_map (λ c. shown_key (encode_utf8 c)) l.yielded
