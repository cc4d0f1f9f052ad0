-- A text has one outcome.
use Rattle.std.proofs.Common.{◌≡◌, ℕ, List, ◌⊎◌, Result, Ok, Err, inl, inr, ap, refl, sym, ◌∙◌}
use Rattle.haya_bibtex_text.specs.Bibliography.{BibliographyTexts, bibliography}
use Rattle.haya_bibtex_text.specs.Items.{RawItem, Says}
use Rattle.haya_bibtex_text.specs.Outcomes.{ErrsBy, HasFault, IsRefused, Reads, by_grammar, by_strings, error_of}
use Rattle.haya_bibtex_text.specs.Stops.{StopsBy}
use Rattle.haya_bibtex_text.specs.declared.fault.Stop.{Stop}
use Rattle.haya_bibtex_text.specs.declared.fault.Stop.TheVariants as stop
use Rattle.haya_bibtex_text.specs.Uses.{room_of, spend, uses}
use Rattle.haya_bibtex_text.specs.Position.{fault_of}
use Rattle.haya_bibtex_text.specs.declared.fault.Fault.{Fault}
use Rattle.haya_bibtex_text.specs.declared.fault.Refusal.{Refusal}
use Rattle.haya_bibtex_text.specs.declared.fault.ReadError.{ReadError}
use Rattle.haya_bibtex_text.specs.declared.fault.ReadError.TheVariants.{OutOfMemory, Refused}
use Rattle.haya_bibtex_text.proofs.SomeOutcome.{of_text, refused, says}
use Rattle.haya_bibtex_text.proofs.Reading.{one_text, one_text_fault, text_or_fault}

pub same_bibliography : (text : List ℕ) (b c : BibliographyTexts) → Reads text b → Reads text c → b ≡ c
same_bibliography text b c r s = r.is ∙ ap bibliography (one_text r.said s.said) ∙ sym s.is

-- what is left of the room of a text, or the fault, is one
spent : {text : List ℕ} {is js : List RawItem} → Says text is → Says text js →
    spend (room_of text) (uses is) ≡ spend (room_of text) (uses js)
spent {text} a b = ap (λ (v : List RawItem). spend (room_of text) (uses v)) (one_text a b)

err_is : {f g : Refusal} {r : Result ℕ Refusal} → r ≡ Err f → r ≡ Err g → f ≡ g
err_is a b = cc

ok_or_err : {n : ℕ} {f : Refusal} {r : Result ℕ Refusal} → r ≡ Ok n → r ≡ Err f → ⊥
ok_or_err a b = cc

one_refusal : {text : List ℕ} {f g : Refusal} → IsRefused text f → IsRefused text g → f ≡ g
one_refusal (by_grammar a) (by_grammar b) = one_text_fault a b
one_refusal (by_grammar a) (by_strings s e) = absurd (text_or_fault s a)
one_refusal (by_strings s e) (by_grammar b) = absurd (text_or_fault s b)
one_refusal (by_strings s e) (by_strings t d) = err_is (sym (spent s t) ∙ e) d

reads_or_refused : {text : List ℕ} {is : List RawItem} {n : ℕ} {f : Refusal} → Says text is →
    spend (room_of text) (uses is) ≡ Ok n → IsRefused text f → ⊥
reads_or_refused s e (by_grammar a) = text_or_fault s a
reads_or_refused s e (by_strings t d) = ok_or_err (sym (spent s t) ∙ e) d

pub same_fault : (text : List ℕ) (f g : Fault) → HasFault text f → HasFault text g → f ≡ g
same_fault text f g h k = h.is ∙ ap (fault_of text) (one_refusal h.refused k.refused) ∙ sym k.is

pub not_both : (text : List ℕ) (b : BibliographyTexts) (f : Fault) → Reads text b → HasFault text f → ⊥
not_both text b f r h = reads_or_refused r.said r.fits h.refused

-- the error of a stop
pub errs_of_refusal : (text : List ℕ) (e : Stop) → StopsBy (IsRefused text) e → ErrsBy (HasFault text) (error_of text e)
errs_of_refusal text (stop.Refused f) fails = record { refusal = f; refused = fails; is = refl }
errs_of_refusal text stop.OutOfMemory fails = tt

pub errs_by : (P Q : Fault → Type 0) → ((f : Fault) → P f → Q f) → (e : ReadError) → ErrsBy P e → ErrsBy Q e
errs_by P Q more (Refused f) p = more f p
errs_by P Q more OutOfMemory p = tt

pub some_outcome : (text : List ℕ) → ((b : BibliographyTexts) × Reads text b) ⊎ ((f : Fault) × HasFault text f)
some_outcome text =
    elim (of_text text) [
      | says {is} said ↦ outcome_of is said (spend (room_of text) (uses is)) refl
      | refused {f} fails ↦ inr (fault_of text f, record { refusal = f; refused = by_grammar fails; is = refl })
    ]
  where
    outcome_of : (is : List RawItem) → Says text is → (r : Result ℕ Refusal) → spend (room_of text) (uses is) ≡ r →
        ((b : BibliographyTexts) × Reads text b) ⊎ ((f : Fault) × HasFault text f)
    outcome_of is said (Ok n) e = inl (bibliography is, record { items = is; said = said; room = n; fits = e; is = refl })
    outcome_of is said (Err f) e = inr (fault_of text f, record { refusal = f; refused = by_strings said e; is = refl })
