-- What a text says. One that is empty is as if the member weren't there.
use Rattle.std.specs.Prelude.{ℕ, List, [], ◌∷◌, Option, None, Some, option_map}
use Rattle.json.specs.Json.{Json}
use Rattle.haya_text.specs.Chunks.{Chunk}
use Rattle.haya_text.specs.Texts.{TextView, without_short}
use Rattle.haya_json.specs.Parts.{text_in}
use Rattle.haya_json.specs.declared.fault.Why.{Why}
use Rattle.haya_json.specs.declared.fault.Why.TheVariants.{NotText}
use Rattle.haya_csl.specs.Markup.{markup_read}
use Rattle.haya_csl.specs.Said.{SaidView, not_read, says, says_none}

-- what is said, by a view of it
abbrev pub said_as : {V W : Type 0} → (V → W) → SaidView V → SaidView W
said_as view s = record { value = option_map view s.value; lost = s.lost }

-- a list, but where it is empty
abbrev pub says_some : {A : Type 0} → List A → SaidView (List A)
says_some [] = says_none
says_some (x ∷ xs) = says (x ∷ xs)

-- what is read, or why nothing is
abbrev pub says_or : {V : Type 0} → Why → Option V → SaidView V
says_or why None = not_read why
says_or why (Some v) = says v

-- what a text says, unless it is empty
abbrev pub by_text : {V : Type 0} → (List ℕ → SaidView V) → Option (List ℕ) → SaidView V
by_text says_of None = not_read NotText
by_text says_of (Some []) = says_none
by_text says_of (Some (b ∷ bs)) = says_of (b ∷ bs)

abbrev pub text_said : {V : Type 0} → (List ℕ → SaidView V) → Json → SaidView V
text_said says_of j = by_text says_of (text_in j)

-- the text as it is
abbrev pub plain_said : Json → SaidView (List ℕ)
plain_said j = text_said (λ text. says text) j

-- the chunks of a text with CSL's markup
abbrev pub markup_said : Json → SaidView (List Chunk)
markup_said j = text_said (λ text. says_some (markup_read text)) j

-- the same as a text without a short form
abbrev pub format_said : Json → SaidView TextView
format_said j = said_as without_short (markup_said j)
