-- What there is one of: outcomes of a form, and of a text.
use Rattle.std.proofs.Common.{◌≡◌, List, ℕ, refl, sym, ap, subst, ◌∙◌}
use Rattle.std.specs.Prelude.{IfSome, Option, Some, None, Result, Ok, Err}
use Rattle.haya_selectors.specs.declared.selector.Selector.{Selector}
use Rattle.haya_selectors.specs.declared.selector.SelectorError.{SelectorError}
use Rattle.haya_selectors.specs.Cut.{cut}
use Rattle.haya_selectors.specs.Descent.{Outcome, Read, Failed, read, read_names, enough, selector_or_fault, selector_read}
use Rattle.haya_selectors.specs.Fault.{Fault, fault}
use Rattle.haya_selectors.specs.Grammar.{ExprForm, Fails}
use Rattle.haya_selectors.specs.Parser.{Gives}
use Rattle.haya_selectors.specs.Reading.{IsRead, TextFails, TextGives}
use Rattle.haya_selectors.specs.ReadingLaws.{Has, HasNames, OneListOutcome, OneOutcome, TextHas, OneReading, IsComputed}
use Rattle.haya_selectors.specs.Syntax.{Syntax, syntax}
use Rattle.haya_selectors.specs.Token.{Token, AreTokens}
use Rattle.haya_selectors.proofs.OneCut.{cut_is, only_cut}
use Rattle.haya_selectors.proofs.Parsing.{of_part}
use Rattle.haya_selectors.proofs.Runs.{names_fail, names_run, same_outcome}
use Rattle.haya_selectors.proofs.Totals.{has_names_read, has_read}

pub one_outcome : OneOutcome
one_outcome form ts = let o = read (enough form ts) form ts in (o, has_read form ts, λ b h. same_outcome form ts b o h (has_read form ts))

only_names : (ts : List Token) (o : Outcome (List (List ℕ))) → HasNames ts o → o ≡ read_names ts
only_names ts (Read names rest) h = sym (names_run h)
only_names ts (Failed f) h = sym (names_fail h)

pub one_list_outcome : OneListOutcome
one_list_outcome ts = (read_names ts, has_names_read ts, only_names ts)

text_has : (text : List ℕ) (ts : List Token) → AreTokens ts text → (o : Outcome Syntax) → Has ExprForm ts o → TextHas text (selector_or_fault o)
text_has text ts a (Read s rest) h = record { tokens = ts; rest = rest; cut = a; reads = h }
text_has text ts a (Failed f) h = record { tokens = ts; cut = a; fails = h }

-- what a text has is what its one cut has
outcome_of : (text : List ℕ) (b : Result Syntax Fault) → TextHas text b → (o : Outcome Syntax) × Has ExprForm (cut None text) o × (b ≡ selector_or_fault o)
outcome_of text (Ok s) h = (Read s h.rest, rw (only_cut h.cut) at h.reads, refl)
outcome_of text (Err f) h = (Failed f, rw (only_cut h.cut) at h.fails, refl)

reading_has : (text : List ℕ) → TextHas text (selector_read text)
unfolding selector_read
reading_has text = let ts = cut None text in text_has text ts (cut_is text) (read (enough ExprForm ts) ExprForm ts) (has_read ExprForm ts)

only_reading : (text : List ℕ) (b : Result Syntax Fault) → TextHas text b → b ≡ selector_read text
unfolding selector_read
only_reading text b h =
    let ts = cut None text in
    let p = outcome_of text b h in p.2 ∙ ap selector_or_fault (same_outcome ExprForm ts p.0 (read (enough ExprForm ts) ExprForm ts) p.1 (has_read ExprForm ts))

pub one_reading : OneReading
one_reading text = (selector_read text, reading_has text, only_reading text)

pub is_computed : IsComputed
is_computed text r = (λ e. subst (TextHas text) e (reading_has text), λ h. sym (only_reading text r h))

-- what the parser gives for the tokens of a text
pub text_gives : (text : List ℕ) (ts rest : List Token) (r : Result Selector SelectorError) → AreTokens ts text → Gives ExprForm ts rest r → TextGives text r
text_gives text ts rest (Ok s) a h = record { tokens = ts; rest = rest; cut = a; reads = h }
text_gives text ts rest (Err e) a h = let whole : (f : Fault) → Fails ExprForm ts f → TextFails text f = λ f k. record { tokens = ts; cut = a; fails = k } in of_part whole _ h

-- what a reader answers for a text is its computed reading
pub is_read : (text : List ℕ) (result : Result Selector SelectorError) → TextGives text result → IsRead text result
is_read text (Ok s) h = (is_computed text (Ok (syntax s))).1 h
is_read text (Err e) h = by (fault e) h
  where
    by : (o : Option Fault) → IfSome o (TextFails text) → IfSome o (λ f. selector_read text ≡ Err f)
    by None h = tt
    by (Some f) h = (is_computed text (Err f)).1 h
