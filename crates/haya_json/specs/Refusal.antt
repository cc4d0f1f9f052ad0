-- Why a value is refused, and where it stands.
use Rattle.std.specs.Prelude.{◌≡◌, ◌⊎◌, ℕ, List, [], ◌∷◌, map, Result, Ok, Err, string_bytes}
use Rattle.haya_json.specs.declared.fault.Why.{Why}
use Rattle.haya_json.specs.declared.fault.Why.TheVariants.{NotObject}
use Rattle.haya_json.specs.declared.fault.Step.{Step}
use Rattle.haya_json.specs.declared.fault.Step.TheVariants.{Name, Place}
use Rattle.haya_json.specs.declared.fault.ValueError.{ValueError}
use Rattle.haya_json.specs.declared.fault.ValueError.TheVariants.{Refused, OutOfMemory}

-- a step into a value: to the member with this name, or to the item at this place, from 0 on
pub data StepView : Type 0 where
  to_member : List ℕ → StepView
  to_item : ℕ → StepView

-- the steps that lead to a value, and why it is refused
pub record Refusal : Type 0 where
  pub path : List StepView
  pub why : Why

-- the refusal of a value itself
abbrev pub here : Why → Refusal
here why = record { path = []; why = why }

-- the value itself is refused
abbrev pub refused : {T : Type 0} → Why → Result T Refusal
refused why = Err (here why)

-- the same seen from one step further out
abbrev pub from_outside : StepView → Refusal → Refusal
from_outside step r = record { path = step ∷ r.path; why = r.why }

-- what is read of a value that stands behind a step
abbrev pub within : {T : Type 0} → StepView → Result T Refusal → Result T Refusal
within step (Ok x) = Ok x
within step (Err r) = Err (from_outside step r)

-- what follows from what is read, or the refusal
abbrev pub and_then : {T U E : Type 0} → Result T E → (T → Result U E) → Result U E
and_then (Ok x) f = f x
and_then (Err e) f = Err e

-- ---- of the code's faults

abbrev pub step_view : Step → StepView
step_view (Name text) = to_member (string_bytes text)
step_view (Place n) = to_item n

-- the refusal of a path and a reason
abbrev pub refusal_at : List Step → Why → Refusal
refusal_at path why = record { path = map step_view path; why = why }

-- the refusal of a fault that isn't out of memory
abbrev pub refusal_of : ValueError → Refusal
refusal_of (Refused path why) = refusal_at path.items why
refusal_of OutOfMemory = here NotObject

-- the refusal that is read, or out of memory
abbrev pub IsFaultOf : {T : Type 0} → Result T Refusal → ValueError → Type 0
IsFaultOf read e = (e ≡ OutOfMemory) ⊎ (read ≡ Err (refusal_of e))

-- the fault that e is from one step further out, or out of memory
pub record IsOutside (step : StepView) (e f : ValueError) : Type 0 where
  pub memory : e ≡ OutOfMemory → f ≡ OutOfMemory
  pub refusal : (f ≡ OutOfMemory) ⊎ (refusal_of f ≡ from_outside step (refusal_of e))
