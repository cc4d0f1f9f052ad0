-- What the characters of a text read as.
use Rattle.std.specs.Prelude.{◌≡◌, ℕ, ◌<◌, List, [], ◌++◌, take, drop, length, IfErr, IfOk, IfSome, IsErr, IsOk, Option, Some, None, Result, Ok, Err}
use Rattle.std.specs.Str.{IsCharBoundary, chars}
use Rattle.haya_selectors.specs.declared.selector.Selector.{Selector}
use Rattle.haya_selectors.specs.declared.selector.SelectorError.{SelectorError}
use Rattle.haya_selectors.specs.Descent.{selector_read}
use Rattle.haya_selectors.specs.Fault.{Fault, fault}
use Rattle.haya_selectors.specs.Grammar.{ExprForm, Reads, Fails}
use Rattle.haya_selectors.specs.Syntax.{Syntax, syntax}
use Rattle.haya_selectors.specs.Token.{Token, AreTokens, EndsInNoSpace}

-- the text reads as this selector: an expression at its front, whatever follows
pub record TextReads (text : List ℕ) (s : Syntax) : Type 0 where
  pub tokens : List Token
  pub rest : List Token
  pub cut : AreTokens tokens text
  pub reads : Reads ExprForm tokens s rest

-- the text is no selector, for this fault
pub record TextFails (text : List ℕ) (f : Fault) : Type 0 where
  pub tokens : List Token
  pub cut : AreTokens tokens text
  pub fails : Fails ExprForm tokens f

-- what a reader may answer for a text; out of memory says nothing of it
abbrev pub TextGives : List ℕ → Result Selector SelectorError → Type 0
TextGives text (Ok s) = TextReads text (syntax s)
TextGives text (Err e) = IfSome (fault e) (TextFails text)

-- the same by the computed reading
abbrev pub IsRead : List ℕ → Result Selector SelectorError → Type 0
IsRead text (Ok s) = selector_read text ≡ Ok (syntax s)
IsRead text (Err e) = IfSome (fault e) (λ f. selector_read text ≡ Err f)

-- what is said of the selector that the text reads as, where it reads as one, or of its fault,
-- where it has one
abbrev pub IfReads : List ℕ → (Syntax → Type 0) → Type 0
IfReads text P = IfOk (selector_read text) P

abbrev pub IfFails : List ℕ → (Fault → Type 0) → Type 0
IfFails text P = IfErr (selector_read text) P

-- a place is told exactly where the characters are no selector
abbrev pub IsFaultTold : List ℕ → Option ℕ → Type 0
IsFaultTold text None = IsOk (selector_read text)
IsFaultTold text (Some place) = IsErr (selector_read text)

-- and it is one of the text, where a character begins or the text ends
abbrev pub IsFaultPlace : List ℕ → Option ℕ → Type 0
IsFaultPlace text told = IsFaultTold (chars text) told × IfSome told (IsCharBoundary text)

-- what a reader answers, without the place that it tells
abbrev pub without_end : Result (Selector × ℕ) SelectorError → Result Selector SelectorError
without_end (Ok p) = Ok p.0
without_end (Err e) = Err e

-- the tokens of a text before those that are left end at this byte: the last of them does
pub record EndsBeforeLeft (left : List Token) (text : List ℕ) (end : ℕ) : Type 0 where
  pub taken : List Token
  pub whole : AreTokens (taken ++ left) (chars text)
  pub boundary : IsCharBoundary text end
  pub front : AreTokens taken (chars (take end text))
  pub behind : AreTokens left (chars (drop end text))
  pub tight : 0 < length taken → EndsInNoSpace (chars (take end text))

-- The selector at the front of a text ends at this byte: with its last token. What is before reads
-- as it alone, and what is behind has the tokens that are left.
pub record EndsAt (text : List ℕ) (s : Syntax) (end : ℕ) : Type 0 where
  pub tokens : List Token
  pub left : List Token
  pub whole : AreTokens (tokens ++ left) (chars text)
  pub reads : Reads ExprForm (tokens ++ left) s left
  pub boundary : IsCharBoundary text end
  pub front : AreTokens tokens (chars (take end text))
  pub alone : Reads ExprForm tokens s []
  pub tight : EndsInNoSpace (chars (take end text))
  pub behind : AreTokens left (chars (drop end text))
