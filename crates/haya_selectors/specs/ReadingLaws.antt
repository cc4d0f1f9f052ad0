-- Laws on reading.
use Rattle.std.specs.Prelude.{◌≡◌, ◌↔◌, ℕ, List, Result, Ok, Err}
use Rattle.haya_selectors.specs.Descent.{Outcome, Read, Failed, selector_read}
use Rattle.haya_selectors.specs.Fault.{Fault}
use Rattle.haya_selectors.specs.Grammar.{Form, Reads, Fails, ReadsNames, FailsNames}
use Rattle.haya_selectors.specs.Reading.{TextReads, TextFails}
use Rattle.haya_selectors.specs.Syntax.{Syntax}
use Rattle.haya_selectors.specs.Token.{Token, AreTokens}

-- exactly one value meets P
abbrev pub ExactlyOne : {A : Type 0} → (A → Type 0) → Type 0
ExactlyOne {A} P = (a : A) × P a × ((b : A) → P b → b ≡ a)

abbrev pub Has : Form → List Token → Outcome Syntax → Type 0
Has form ts (Read s rest) = Reads form ts s rest
Has form ts (Failed f) = Fails form ts f

abbrev pub HasNames : List Token → Outcome (List (List ℕ)) → Type 0
HasNames ts (Read names rest) = ReadsNames ts names rest
HasNames ts (Failed f) = FailsNames ts f

-- each form reads each list of tokens in one way, or has one fault
abbrev pub OneOutcome : Type 0
OneOutcome = (form : Form) (ts : List Token) → ExactlyOne (Has form ts)

-- so does a bracket list, behind its `[` or a `,`
abbrev pub OneListOutcome : Type 0
OneListOutcome = (ts : List Token) → ExactlyOne (HasNames ts)

-- each text is cut into tokens in one way
abbrev pub OneCut : Type 0
OneCut = (text : List ℕ) → ExactlyOne (λ ts. AreTokens ts text)

abbrev pub TextHas : List ℕ → Result Syntax Fault → Type 0
TextHas text (Ok s) = TextReads text s
TextHas text (Err f) = TextFails text f

-- each text reads as one selector, or has one fault
abbrev pub OneReading : Type 0
OneReading = (text : List ℕ) → ExactlyOne (TextHas text)

-- which is the one that `selector_read` computes
abbrev pub IsComputed : Type 0
IsComputed = (text : List ℕ) (r : Result Syntax Fault) → (selector_read text ≡ r) ↔ TextHas text r
