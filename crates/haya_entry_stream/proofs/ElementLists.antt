-- The entries of the elements of an input, from those of their lines.
use Rattle.std.proofs.Common.{◌≡◌, ℕ, ◌==◌, Bool, true, false, List, [], ◌∷◌, Option, None, Some, option_map, refl, sym, ◌∙◌, subst, append-nil}
use Rattle.std.specs.Io.KnownBytes.{Consumes}
use Rattle.std.proofs.lemmas.Bool.{eq-eqb, eqb-true}
use Rattle.hayagriva.specs.Tree.{Tree}
use Rattle.haya_json_elements.specs.Elements.{element_lines, lines_from}
use Rattle.haya_json_elements.specs.Remaining.{lines_remaining, reader_of}
use Rattle.haya_json_elements.specs.declared.lines.ElementLines.{ElementLines}
use Rattle.haya_json_elements.specs.declared.place.Brackets.{Brackets}
use Rattle.haya_json_elements.specs.declared.place.Place.{Place}
use Rattle.haya_entry_stream.specs.Lent.{known_while}
use Rattle.haya_entry_stream.specs.Listed.{AnswersEnough, AnswersList, AnswersPart}
use Rattle.haya_entry_stream.specs.declared.error.ListError.{ListError}
use Rattle.haya_line_stream.specs.declared.error.StreamError.{StreamError}

-- ---- a reader that is lent

-- what is read of known bytes leaves known ones
known_after : (text : List ℕ) (f : List ℕ → List ℕ) (same : Bool) (known : Option (List ℕ)) (bs : List ℕ) → Consumes (Some text) (option_map f (known_while same known)) bs → same ≡ true
known_after text f true known bs read = refl
known_after text f false known bs read = absurd read

module _ {X : Type 0} (name : X → ℕ) (loan : ℕ) (remaining : X → Option (List ℕ)) where
  -- the lines of a reader that is known while it is that of the loan
  abbrev pub lent_lines : ElementLines X → Option (List ℕ)
  lent_lines l = lines_remaining (λ x. known_while (name x == loan) (remaining x)) l

  lent_is : (l : ElementLines X) → (name (reader_of l) == loan) ≡ true → lent_lines l ≡ lines_remaining remaining l
  lent_is l same = rw same refl

  module _ (old new : ElementLines X) (of_loan : name (reader_of old) ≡ loan) (text : List ℕ) (left : lines_remaining remaining old ≡ Some text) where
    old_text : lent_lines old ≡ Some text
    old_text = lent_is old (eq-eqb (name (reader_of old)) loan of_loan) ∙ left

    same : (bs : List ℕ) → Consumes (lent_lines old) (lent_lines new) bs → (name (reader_of new) == loan) ≡ true
    same bs read =
        known_after text (lines_from new.brackets new.place) (name (reader_of new) == loan) (remaining (reader_of new)) bs (subst (λ o. Consumes o (lent_lines new) bs) old_text read)

    -- one who reads known lines keeps the loan
    pub loan_kept : (bs : List ℕ) → Consumes (lent_lines old) (lent_lines new) bs → name (reader_of new) ≡ name (reader_of old)
    loan_kept bs read = eqb-true (name (reader_of new)) loan (same bs read) ∙ sym of_loan

    -- what is read of the lines of a lent reader is read of those of the reader
    of_reader : (P : Option (List ℕ) → Option (List ℕ) → Type 0) (bs : List ℕ) → Consumes (lent_lines old) (lent_lines new) bs → P (lent_lines old) (lent_lines new)
        → P (Some text) (lines_remaining remaining new)
    of_reader P bs read holds = subst (λ o. P (Some text) o) (lent_is new (same bs read)) (subst (λ o. P o (lent_lines new)) old_text holds)

    module _ {S : Type 0} {answers : S → Tree → List ℕ → S → Type 0} {is_done : S → Bool} {s : S} {before after : Option (List ℕ)} where
      pub list_of_reader : {IsList : List ℕ → List Tree → Type 0} {t : S} → AnswersList IsList answers is_done s t (lent_lines old) (lent_lines new) before after
          → AnswersList IsList answers is_done s t (Some text) (lines_remaining remaining new) before after
      list_of_reader {IsList} {t} a = of_reader (λ unread rest. AnswersList IsList answers is_done s t unread rest before after) a.text a.read a

      pub enough_of_reader : {BeginsList : Option (List ℕ) → List ℕ → List Tree → Type 0} {t : S} → AnswersEnough BeginsList answers is_done s t (lent_lines old) (lent_lines new) before after
          → AnswersEnough BeginsList answers is_done s t (Some text) (lines_remaining remaining new) before after
      enough_of_reader {BeginsList} {t} a = of_reader (λ unread rest. AnswersEnough BeginsList answers is_done s t unread rest before after) a.text a.read a

      pub part_of_reader : {BeginsList : Option (List ℕ) → List ℕ → List Tree → Type 0} {L E : Type 0} {IsFault : List ℕ → L → Type 0} {refuses : S → Tree → E → Type 0} {Leaves : List ℕ → List Tree → StreamError (ListError L E) → Type 0} {t : S} {fault : StreamError (ListError L E)}
          → AnswersPart BeginsList IsFault Leaves answers is_done refuses s t (lent_lines old) (lent_lines new) before after fault
          → AnswersPart BeginsList IsFault Leaves answers is_done refuses s t (Some text) (lines_remaining remaining new) before after fault
      part_of_reader {BeginsList} {IsFault} {refuses} {Leaves} {t} {fault} a =
          of_reader (λ unread rest. AnswersPart BeginsList IsFault Leaves answers is_done refuses s t unread rest before after fault) a.text a.read a

-- ---- all elements

-- no byte is left where no line is
nothing_left : (b : Brackets) (p : Place) (ys : List ℕ) → lines_from b p ys ≡ [] → ys ≡ []
nothing_left b p [] none = refl
nothing_left b p (y ∷ ys) none = absurd (cc)

-- where all lines of the elements of a text are read, all of it is
all_read : {S X : Type 0} (reads : List ℕ → List Tree → Type 0) (answers : S → Tree → List ℕ → S → Type 0) (is_done : S → Bool) (s t : S) (b : Brackets) (text : List ℕ)
    (before after : Option (List ℕ)) (l : ElementLines X) (left : Option (List ℕ))
    → AnswersList reads answers is_done s t (Some (element_lines b text)) (option_map (lines_from l.brackets l.place) left) before after
    → AnswersList (λ bytes entries. reads (element_lines b bytes) entries) answers is_done s t (Some text) left before after
all_read reads answers is_done s t b text before after l None a = absurd a.read
all_read reads answers is_done s t b text before after l (Some ys) a =
    let none : ys ≡ [] = nothing_left l.brackets l.place ys a.at_end in
    record {
      text = text;
      replies = a.replies;
      read = rw none (sym (append-nil text));
      at_end = none;
      list = rw (a.read, a.at_end, append-nil a.text) a.list;
      run = a.run;
      prints = a.prints;
    }

-- the same of all that a reader had left, which was lent and is back
pub all_elements : {S R X : Type 0} (remaining : R → Option (List ℕ)) (first back : R) (reader : X → R) (l : ElementLines X) (b : Brackets) {reads : List ℕ → List Tree → Type 0}
    {answers : S → Tree → List ℕ → S → Type 0} {is_done : S → Bool} {s t : S} {text : List ℕ} {before after : Option (List ℕ)} → back ≡ reader (reader_of l) → remaining first ≡ Some text
    → AnswersList reads answers is_done s t (Some (element_lines b text)) (lines_remaining (λ x. remaining (reader x)) l) before after
    → AnswersList (λ bytes entries. reads (element_lines b bytes) entries) answers is_done s t (remaining first) (remaining back) before after
all_elements remaining first back reader l b {reads} {answers} {is_done} {s} {t} {text} {before} {after} is_back known a =
    rw (is_back, known) (all_read reads answers is_done s t b text before after l (remaining (reader (reader_of l))) a)
