-- Why a text is no selector, by value.
use Rattle.std.specs.Prelude.{ℕ, List, Option, Some, None, string_bytes}
use Rattle.haya_selectors.specs.declared.selector.SelectorError.{SelectorError}
use Rattle.haya_selectors.specs.declared.selector.SelectorError.TheVariants as error

pub data Fault : Type 0 where
  MissingValue : Fault
  MalformedAttribute : Fault
  MissingComma : Fault
  UnbalancedParens : Fault
  UnknownEntryType : List ℕ → Fault

-- the fault that an error is; out of memory is none
abbrev pub fault : SelectorError → Option Fault
fault error.MissingValue = Some MissingValue
fault error.MalformedAttribute = Some MalformedAttribute
fault error.MissingComma = Some MissingComma
fault error.UnbalancedParens = Some UnbalancedParens
fault (error.UnknownEntryType name) = Some (UnknownEntryType (string_bytes name))
fault error.OutOfMemory = None
