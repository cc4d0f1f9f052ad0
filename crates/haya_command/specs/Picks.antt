-- Which entries are wanted.
use Rattle.std.specs.Prelude.{Bool, if◌then◌else◌}
use Rattle.hayagriva.specs.Syntax.{Syntax, Neg}

-- the selector that holds where a selector does, or, inverted, where it doesn't
abbrev pub wanted : Bool → Syntax → Syntax
wanted invert s = if invert then Neg s else s
