-- Values that are typed or a text, by value.
use Rattle.std.specs.Prelude.{ℕ, List, Option, None, Some, ⊤, string_bytes}
use Rattle.haya_values.specs.declared.maybe_typed.MaybeTyped.{MaybeTyped}
use Rattle.haya_values.specs.declared.maybe_typed.MaybeTyped.TheVariants as maybe

-- a value, or the bytes of a text
pub data TypedOrText (V : Type 0) : Type 0 where
  Typed : V → TypedOrText V
  Text : List ℕ → TypedOrText V

-- the typed value as it is seen, or the text
abbrev pub maybe_typed_view : {T V : Type 0} → (T → V) → MaybeTyped T → TypedOrText V
maybe_typed_view view (maybe.Typed value) = Typed (view value)
maybe_typed_view view (maybe.String text) = Text (string_bytes text)

-- what a text reads as: the value that it writes, otherwise the text itself
abbrev pub typed_or_text : {V : Type 0} → Option V → List ℕ → TypedOrText V
typed_or_text (Some value) text = Typed value
typed_or_text None text = Text text

-- the typed value, if it is one
abbrev pub as_typed : {V : Type 0} → TypedOrText V → Option V
as_typed (Typed value) = Some value
as_typed (Text text) = None

abbrev pub IsTyped : {T : Type 0} → MaybeTyped T → Type 0
IsTyped (maybe.Typed value) = ⊤
IsTyped (maybe.String text) = ⊥

-- the bytes that are printed: those of the typed value, as far as its type says them, or the text
abbrev pub shown : {T : Type 0} → (T → Option (List ℕ)) → MaybeTyped T → Option (List ℕ)
shown output (maybe.Typed value) = output value
shown output (maybe.String text) = Some (string_bytes text)
