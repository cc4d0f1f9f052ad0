-- What a value says, and what is lost of it.
use Rattle.std.specs.Prelude.{List, [], ◌∷◌, Option, None, Some, option_map}
use Rattle.haya_json.specs.Notes.{LostView, all_behind, lost_here, losts_view, unread}
use Rattle.haya_json.specs.Refusal.{StepView}
use Rattle.haya_json.specs.declared.fault.Why.{Why}
use Rattle.haya_csl.specs.declared.said.Said.{Said}

-- what a value says, if anything, and what is lost of it
pub record SaidView (V : Type 0) : Type 0 where
  pub value : Option V
  pub lost : List LostView

-- this, and nothing is lost
abbrev pub says : {V : Type 0} → V → SaidView V
says v = record { value = Some v; lost = [] }

-- nothing, and nothing is lost
abbrev pub says_none : {V : Type 0} → SaidView V
says_none = record { value = None; lost = [] }

-- nothing, as the value isn't read
abbrev pub not_read : {V : Type 0} → Why → SaidView V
not_read why = record { value = None; lost = lost_here (unread why) ∷ [] }

-- the same, seen from one step further out
abbrev pub said_behind : {V : Type 0} → StepView → SaidView V → SaidView V
said_behind step s = record { value = s.value; lost = all_behind step s.lost }

-- ---- of the code's values

abbrev pub said_view : {T V : Type 0} → (T → V) → Said T → SaidView V
said_view view s = record { value = option_map view s.value; lost = losts_view s.lost.items }
