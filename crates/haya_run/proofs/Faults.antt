-- Where nothing is printed.
use Rattle.std.proofs.Common.{◌≡◌, ℕ, List, ◌++◌, Option, None, Some, Ok, Err, sym, ◌∙◌, ap, subst, append-nil}
use Rattle.std.specs.Io.KnownBytes.{Consumes, IsAtEnd, Keeps}
use Rattle.std.specs.Prelude.{String, string_bytes, IfSome}
use Rattle.std.specs.Str.{IsUtf8, chars}
use Rattle.std.specs.Str.Lines.{lines}
use Rattle.hayagriva.specs.Fault.{Fault}
use Rattle.hayagriva.specs.Reading.{TextReads, TextFails}
use Rattle.hayagriva.specs.Syntax.{Syntax}
use Rattle.hayagriva.proofs.OneOutcome.{one_reading}
use Rattle.haya_lines.specs.Line.{Row}
use Rattle.haya_line_library.specs.Input.{rows_read}
use Rattle.haya_run.specs.Output.{KeepsAtFault}

-- where what is on the output stays as it is
pub kept : (word : List ℕ) (unread before after : Option (List ℕ)) → Keeps before after → KeepsAtFault word unread before after
kept word unread before after k = record { no_selector = λ _ _. k; no_text = λ _ _ _. k; faulty_line = λ _ _ _ _. k }

-- the same for a first word, if there is one
pub kept_at_first : {B : Type 0} (first : Option (String B)) (unread before after : Option (List ℕ)) → Keeps before after
    → IfSome first (λ word. KeepsAtFault (string_bytes word) unread before after)
kept_at_first None unread before after k = tt
kept_at_first (Some word) unread before after k = kept (string_bytes word) unread before after k

-- a text that reads as a selector has no fault
no_fault : (text : List ℕ) (s : Syntax) (f : Fault) → TextReads text s → TextFails text f → ⊥
no_fault text s f reads fails =
    let one = one_reading text in
    let read = one.2 (Ok s) reads in
    let failed = one.2 (Err f) fails in
    cc

-- all that was left is what was consumed
whole : (unread left : Option (List ℕ)) (text all : List ℕ) → unread ≡ Some all → Consumes unread left text → IsAtEnd left → all ≡ text
whole None left text all is c e = cc
whole (Some xs) None text all is c e = absurd c
whole (Some xs) (Some ys) text all is c e =
    let same : xs ≡ all = cc in sym same ∙ c ∙ ap (λ l. text ++ l) e ∙ append-nil text

-- where all was read, something may be printed only where there is no fault
pub kept_where_read : (word : List ℕ) (unread left before after : Option (List ℕ)) (text : List ℕ) (s : Syntax) (rows : List Row)
    → TextReads (chars word) s → Consumes unread left text → IsAtEnd left → IsUtf8 text → rows_read 1 0 (lines text) ≡ Ok rows
    → KeepsAtFault word unread before after
kept_where_read word unread left before after text s rows reads consumed ends utf8 described = record {
  no_selector = λ fault fails. absurd (no_fault (chars word) s fault reads fails);
  no_text = λ all is not. absurd (not (subst IsUtf8 (sym (whole unread left text all is consumed ends)) utf8));
  faulty_line = λ all fault is faulty.
      let same = whole unread left text all is consumed ends in
      let read = ap (λ t. rows_read 1 0 (lines t)) same ∙ described in
      absurd (let wrong = sym faulty ∙ read in cc);
}
