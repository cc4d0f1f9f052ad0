-- The kind of the elements of inputs one after another.
use Rattle.std.specs.Prelude.{◌≡◌, ℕ, List, String, string_bytes}
use Rattle.std.specs.declared.alloc.Global.{Global}
use Rattle.haya_command.specs.Source.{IsKindError}
use Rattle.haya_command.specs.declared.error.CommandError.{CommandError}
use Rattle.haya_command.specs.declared.error.CommandError.TheVariants as fault
use Rattle.haya_command.specs.declared.source_error.SourceError.{SourceError}
use Rattle.haya_command.specs.declared.source_form.SourceForm.{SourceForm}
use Rattle.haya_formats.specs.declared.format.Format.{Format}

-- the fault of the input that is called so and is in a format, which the form doesn't print behind
-- one in the first format
pub record IsKindFaultBehind (form : SourceForm) (first format : Format) (name : List ℕ)
    (e : CommandError) : Type 0 where
  pub called : String Global
  pub error : SourceError
  pub is : e ≡ fault.Source called error
  pub same : string_bytes called ≡ name
  pub of_kind : IsKindError form first format error
