-- Errors that say something of the text.
use Rattle.std.specs.Prelude.{⊤}
use Rattle.haya_yaml_text.specs.declared.fault.ReadError.{ReadError}
use Rattle.haya_yaml_text.specs.declared.fault.ReadError.TheVariants.{Refused, OutOfMemory}

-- the text says nothing
abbrev pub IsRefused : ReadError → Type 0
IsRefused (Refused f) = ⊤
IsRefused OutOfMemory = ⊥
