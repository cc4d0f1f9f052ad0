-- The elements of an input whose bytes are known, as they are asked.
use Rattle.std.proofs.Common.{◌≡◌, ◌≢◌, ◌⊎◌, inl, inr, IsTrue, ℕ, List, [], Option, None, Some, refl, sym, ◌∙◌, subst, append-nil, IsFalse}
use Rattle.haya_command.specs.Form.{is_library}
use Rattle.std.specs.List.{AllZip}
use Rattle.std.specs.Io.KnownBytes.{Consumes, IsAtEnd}
use Rattle.std.specs.Str.Lines.{lines}
use Rattle.hayagriva.specs.Syntax.{Syntax}
use Rattle.hayagriva.specs.Tree.{Tree}
use Rattle.haya_csl.proofs.ItemLists as item_lists
use Rattle.haya_csl.specs.declared.item_key.ItemKey.{ItemKey}
use Rattle.haya_json.specs.Notes.{NotesView, first_note, kept_of, none_kept}
use Rattle.haya_json.proofs.MemberLists as member_lists
use Rattle.haya_json_elements.specs.Elements.{nonempty_lines}
use Rattle.haya_entry_stream.specs.EntryLines.{IsFaultOf, LeavesReader, ReadsFirst, ReadsLines}
use Rattle.haya_entry_stream.specs.Listed.{AnswersEnough, AnswersList, AnswersPart, entries_of, printed_of}
use Rattle.haya_entry_stream.specs.declared.error.EntryError.{EntryError}
use Rattle.haya_entry_stream.specs.declared.error.EntryError.TheVariants as entry_fault
use Rattle.haya_entry_stream.specs.declared.error.ListError.{ListError}
use Rattle.haya_json.specs.declared.error.ElementError.{ElementError}
use Rattle.haya_json.specs.declared.error.ReadError.TheVariants.{OutOfMemory}
use Rattle.haya_printing.specs.declared.error.LinesError.{LinesError}
use Rattle.haya_line_stream.specs.declared.error.StreamError.{StreamError}
use Rattle.haya_command.specs.AskedLines.{BeginsLines, BeginsListIn, FirstElementError, IsElementError, IsElementErrorFor, IsErrorIn, IsLineIn, IsListIn, IsOutOfMemory, ReadsElement, ReadsLine, asked_lines, lines_told}
use Rattle.haya_command.specs.Reading.{IsLoss}
use Rattle.haya_command.specs.Streamed.{AsksFirst, AsksInput, AsksPart, IsStreamError, TellsBefore, TellsPart}
use Rattle.haya_command.specs.declared.error.CommandError.{CommandError}
use Rattle.haya_command.specs.declared.error.CommandError.TheVariants as fault
use Rattle.haya_command.specs.declared.error.LibraryError.{LibraryError}
use Rattle.haya_command.specs.declared.error.LibraryError.TheVariants.{Element}
use Rattle.haya_formats.specs.declared.format.Format.{Format}
use Rattle.haya_formats.specs.declared.format.Format.TheVariants as format
use Rattle.haya_formats.specs.declared.format.Format.TheVariants.{CslJson}
use Rattle.haya_command.specs.declared.options.Options.{Options}
use Rattle.haya_command.proofs.EntryLists.{begins_list, element_error, first_of_all, loss_tells, loss_why, memory_or, reads_list, says_line, stream_tells, told_kept}
use Rattle.haya_command.proofs.Streams.{Asks, done, asks_enough, asks_input, asks_part, options_kept, selector_kept, stream_why}

-- an input that is read to its end is the text
whole_text : (unread left : Option (List ℕ)) (text bytes : List ℕ) → unread ≡ Some text → Consumes unread left bytes → IsAtEnd left → bytes ≡ text
whole_text unread left text bytes known read ends = by left (subst (λ u. Consumes u left bytes) known read) ends
  where
    by : (l : Option (List ℕ)) → Consumes (Some text) l bytes → IsAtEnd l → bytes ≡ text
    by None read ends = absurd read
    by (Some rest) read ends = sym (append-nil bytes) ∙ sym (rw ends at read)

-- the lines of an array, or of an object, say what it lists
pub items_listed : (key : ItemKey) (text : List ℕ) (entries : List Tree) → AllZip (IsLineIn (CslJson key)) (nonempty_lines (lines (asked_lines (CslJson key) text))) entries → IsListIn (CslJson key) text entries
items_listed key text entries each =
    item_lists.list_of_lines key text entries (kept_of (lines_told (CslJson key) (lines (asked_lines (CslJson key) text)))) (record { each = each; notes = refl })

pub members_listed : (text : List ℕ) (entries : List Tree) → AllZip (IsLineIn format.Hayagriva) (nonempty_lines (lines (asked_lines format.Hayagriva text))) entries → IsListIn format.Hayagriva text entries
members_listed text entries each =
    member_lists.list_of_lines text entries (kept_of (lines_told format.Hayagriva (lines (asked_lines format.Hayagriva text)))) (record { each = each; notes = refl })

module _ {S R : Type 0} (options : S → Options) (selector : S → Syntax) (hits : S → ℕ) (format : Format) (number : R → ℕ) (kept : R → NotesView) (Is : R → Type 0)
    (says : R → List ℕ → Tree → R → Type 0) (refuses : R → List ℕ → ElementError → Type 0)
    (reads_element : (r : R) (line : List ℕ) (entry : Tree) (q : R) → Is r → says r line entry q → Is q × ReadsElement format (number r) (kept r) line entry (number q) (kept q))
    (refuses_element : (r : R) (line : List ℕ) (e : ElementError) → Is r → refuses r line e → IsElementError format (number r) line e)
    (begins_in : (left : Option (List ℕ)) (part : List ℕ) (entries : List Tree) → BeginsLines format part entries → BeginsListIn format left part entries)
    (tells_in : (part : List ℕ) (entries : List Tree) (k : NotesView) (e : CommandError) → TellsBefore format part entries k e → TellsPart format part entries k e) where
  abbrev Reads : R → R → List ℕ → List Tree → Type 0
  Reads r q part entries = ReadsFirst says part entries r q

  line_read : (r : R) (line : List ℕ) (entry : Tree) (q : R) → Is r → says r line entry q → Is q × ReadsLine format (kept r) line entry (kept q)
  line_read = says_line format number kept Is says refuses reads_element refuses_element

  module _ (s t : S) (not : IsFalse (is_library (options s).to)) (r q : R) (is : Is r) (none : kept r ≡ none_kept)
      (listed_in : (text : List ℕ) (entries : List Tree) → AllZip (IsLineIn format) (nonempty_lines (lines (asked_lines format text))) entries → IsListIn format text entries)
      (unread left before after : Option (List ℕ)) (text : List ℕ) (known : unread ≡ Some text) where
    abbrev pub All : Type 0
    All = AnswersList (λ bytes entries. ReadsLines says (lines (asked_lines format bytes)) entries r q) (Asks options selector hits) (done options selector hits) s t unread left before after

    abbrev pub Enough : Type 0
    Enough = (behind : Option (List ℕ)) × AnswersEnough (λ _ part entries. Reads r q part entries) (Asks options selector hits) (done options selector hits) s t (Some (asked_lines format text)) behind before after

    begins : (behind : Option (List ℕ)) (part : List ℕ) (entries : List Tree) → Reads r q part entries → BeginsListIn format behind part entries
    begins behind part entries reads = begins_in behind part entries (begins_list format kept Is says line_read r is part entries q reads)

    -- all are asked, or enough
    pub elements_asked : (IsTrue (options t).strict → first_note (kept q) ≡ None) → All ⊎ Enough
        → (options t ≡ options s) × (selector t ≡ selector s)
        × (AsksInput format (options s) (selector s) (hits s) (hits t) (kept q) unread left before after
        ⊎ (behind : Option (List ℕ)) × AsksFirst format (options s) (selector s) (hits s) (hits t) (Some (asked_lines format text)) behind before after)
    elements_asked accepted (inl a) =
        let same = options_kept options selector hits s t a.replies not a.run in (
          same,
          selector_kept options selector hits s t a.replies not a.run,
          inl (asks_input options selector hits s t not unread left before after format (kept q) _
              (λ bytes entries reads.
              let all = reads_list format kept Is says line_read r is _ entries q reads in
              (listed_in bytes entries all.listed, all.all ∙ told_kept format (lines (asked_lines format bytes)) (kept r) none)) (λ strict. accepted (rw same strict)) a),
        )
    elements_asked accepted (inr (behind, a)) = (
      options_kept options selector hits s t a.replies not a.run,
      selector_kept options selector hits s t a.replies not a.run,
      inr (behind, asks_enough options selector hits s t not (Some (asked_lines format text)) behind before after format (λ _ part entries. Reads r q part entries) (begins behind) a),
    )

    -- a strict run, or out of memory: what was read is asked, and what is printed of it written
    pub elements_noted : (name : List ℕ) (k : NotesView) (e : CommandError) → (e ≡ fault.OutOfMemory) ⊎ (IsTrue (options t).strict × IsLoss name (kept q) e) → All ⊎ Enough
        → (behind : Option (List ℕ)) × AsksPart format name (options s) (selector s) (hits s) k (Some (asked_lines format text)) behind before after e
    elements_noted name k e why (inl a) =
        let same = options_kept options selector hits s t a.replies not a.run in
        let whole = whole_text unread left text a.text known a.read a.at_end in
        let ls = asked_lines format text in
        let reads = first_of_all format kept Is says line_read ls (entries_of a.replies) r q (subst (λ x. ReadsLines says (lines (asked_lines format x)) (entries_of a.replies) r q) whole a.list) in (
          Some [],
          asks_part options selector hits s t not (Some ls) (Some []) before after format name k e ls ls a.replies (printed_of a.replies) [] (sym (append-nil ls)) (inl (refl, refl))
              (begins (Some []) ls (entries_of a.replies) reads) a.run (sym (append-nil (printed_of a.replies)))
              (loss_why format kept Is says line_read r is none (options s) (options t) name ls (entries_of a.replies) q e same reads why)
              (tells_in ls (entries_of a.replies) k e (loss_tells format (options t).strict name ls (entries_of a.replies) (kept q) k e why)) a.prints,
        )
    elements_noted name k e why (inr (behind, a)) =
        let same = options_kept options selector hits s t a.replies not a.run in (
          behind,
          asks_part options selector hits s t not (Some (asked_lines format text)) behind before after format name k e a.text a.part a.replies (printed_of a.replies) [] a.read a.of_text
              (begins behind a.part (entries_of a.replies) a.list) a.run (sym (append-nil (printed_of a.replies)))
              (loss_why format kept Is says line_read r is none (options s) (options t) name a.part (entries_of a.replies) q e same a.list why)
              (tells_in a.part (entries_of a.replies) k e (loss_tells format (options t).strict name a.part (entries_of a.replies) (kept q) k e why)) a.prints,
        )

  module _ (error_in : (part : List ℕ) (x : ElementError) → (x.error ≡ OutOfMemory) ⊎ FirstElementError format part x → IsErrorIn format part (Element x))
      (s : S) (not : IsFalse (is_library (options s).to)) (r : R) (is : Is r) (first : number r ≡ 0) (none : kept r ≡ none_kept) (before after : Option (List ℕ)) (text : List ℕ) where
    fault_in : (part : List ℕ) (l : EntryError ElementError) (e : LibraryError) → IsElementErrorFor l e → IsFaultOf says refuses r part l → IsErrorIn format part e
    fault_in part l e is_for at = let x = element_error format number kept Is says refuses reads_element refuses_element r is first part l e is_for at in rw x.1 (error_in part x.0 x.2)

    -- the first are asked, and there the stream has a fault
    module _ (leaves : R → List ℕ → ElementError → R → Type 0) (left_kept : (p : R) (line : List ℕ) (x : ElementError) (u : R) → leaves p line x u → (x.error ≡ OutOfMemory) ⊎ (kept u ≡ kept p)) where
      line_kept : (n : ℕ) (x : ElementError) (e : LibraryError) (p : R) (line : List ℕ) (u : R) → IsElementErrorFor (entry_fault.Line n x) e → leaves p line x u → IsOutOfMemory e ⊎ (kept u ≡ kept p)
      line_kept n x e p line u is_for left = rw is_for (left_kept p line x u left)

      too_many : (e : LibraryError) → IsElementErrorFor entry_fault.TooMany e → IsOutOfMemory e
      too_many e is_for = rw is_for refl

      pub elements_stopped : (q : R) (t : S) (name : List ℕ) (declines : S → Tree → LinesError → Type 0) (sf : StreamError (ListError (EntryError ElementError) LinesError)) (e : CommandError)
          → (e ≡ fault.OutOfMemory) ⊎ IsStreamError IsElementErrorFor name sf e
          → (behind : Option (List ℕ)) × AnswersPart (λ _ part entries. (u : R) × Reads r u part entries) (IsFaultOf says refuses r) (LeavesReader says leaves r q) (Asks options selector hits)
          (done options selector hits) declines s t (Some (asked_lines format text)) behind before after sf
          → (behind : Option (List ℕ)) × AsksPart format name (options s) (selector s) (hits s) (kept q) (Some (asked_lines format text)) behind before after e
      elements_stopped q t name declines sf e is_for (behind, a) = (
        behind,
        asks_part options selector hits s a.last not (Some (asked_lines format text)) behind before after format name (kept q) e a.text a.part a.replies a.written a.unwritten a.read a.of_text
            (begins_in behind a.part (entries_of a.replies) (begins_list format kept Is says line_read r is a.part (entries_of a.replies) a.list.0 a.list.1)) a.run a.parts
            (stream_why (options s) format name (IsFaultOf says refuses r) _ IsElementErrorFor fault_in a.part a.unwritten sf e is_for a.why)
            (tells_in a.part (entries_of a.replies) (kept q) e
            (stream_tells format kept Is says line_read r is none leaves IsElementErrorFor line_kept too_many name a.part (entries_of a.replies) q sf e is_for a.leaves)) a.prints,
      )

-- the notes are as they were at an error that isn't out of memory
pub same_notes : (x : ElementError) (a b : NotesView) → (x.error ≢ OutOfMemory → a ≡ b) → (x.error ≡ OutOfMemory) ⊎ (a ≡ b)
same_notes x a b otherwise = memory_or x.error (a ≡ b) otherwise
