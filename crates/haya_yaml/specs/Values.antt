-- Values that a text with its lines is, from its front to its end.
use Rattle.std.specs.Prelude.{ℕ, List, Bool, Option, if◌then◌else◌}
use Rattle.json.specs.Json.{Json}
use Rattle.haya_yaml_text.specs.Flow.{flow_value, plain, whole}
use Rattle.haya_yaml_text.specs.declared.scalar.Style.TheVariants.{Plain}

-- a plain scalar, or a value in brackets or quotes
abbrev pub flat : Bool → ℕ → List ℕ → Option Json
flat bare depth text = if bare then whole (plain Plain text) else whole (flow_value depth text)
