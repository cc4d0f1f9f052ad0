-- What a text says, or why it says nothing.
use Rattle.std.specs.Prelude.{◌≡◌, ℕ, List, ⊤, Ok, Err}
use Rattle.haya_bibtex_text.specs.Bibliography.{BibliographyTexts, bibliography}
use Rattle.haya_bibtex_text.specs.Items.{Fails, RawItem, Says}
use Rattle.haya_bibtex_text.specs.Position.{fault_of}
use Rattle.haya_bibtex_text.specs.Uses.{room_of, spend, uses}
use Rattle.haya_bibtex_text.specs.declared.fault.Fault.{Fault}
use Rattle.haya_bibtex_text.specs.declared.fault.ReadError.{ReadError}
use Rattle.haya_bibtex_text.specs.declared.fault.ReadError.TheVariants.{OutOfMemory, Refused}
use Rattle.haya_bibtex_text.specs.declared.fault.Refusal.{Refusal}
use Rattle.haya_bibtex_text.specs.declared.fault.Stop.{Stop}
use Rattle.haya_bibtex_text.specs.declared.fault.Stop.TheVariants as stop

-- the text says this bibliography: it is what its items come to, and there is room for what strings
-- stand for in them
pub record Reads (text : List ℕ) (b : BibliographyTexts) : Type 0 where
  pub items : List RawItem
  pub said : Says text items
  pub room : ℕ
  pub fits : spend (room_of text) (uses items) ≡ Ok room
  pub is : b ≡ bibliography items

-- the text is refused: it isn't by the grammar, or there is no room for a use of a string
pub data IsRefused : List ℕ → Refusal → Type 0 where
  by_grammar : {text : List ℕ} {f : Refusal} → Fails text f → IsRefused text f
  by_strings : {text : List ℕ} {items : List RawItem} {f : Refusal} → Says text items →
      spend (room_of text) (uses items) ≡ Err f → IsRefused text f

-- this is the text's first fault
pub record HasFault (text : List ℕ) (f : Fault) : Type 0 where
  pub refusal : Refusal
  pub refused : IsRefused text refusal
  pub is : f ≡ fault_of text refusal

-- the error is one of these faults; out of memory says nothing of the text
abbrev pub ErrsBy : (Fault → Type 0) → ReadError → Type 0
ErrsBy P (Refused f) = P f
ErrsBy P OutOfMemory = ⊤

-- the error of a stop
abbrev pub error_of : List ℕ → Stop → ReadError
error_of text (stop.Refused f) = Refused (fault_of text f)
error_of text stop.OutOfMemory = OutOfMemory
