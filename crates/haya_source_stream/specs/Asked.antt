-- The elements of an input, asked one after another.
use Rattle.std.specs.Prelude.{◌≡◌, ◌⊎◌, ◌+◌, ◌==◌, ℕ, MatchBool, List, [], ◌∷◌, ◌++◌, IsTrue, Option, None, Some, filter, length, map}
use Rattle.std.specs.Io.KnownBytes.{Appends, Consumes, IsAtEnd}
use Rattle.std.specs.List.{AllZip}
use Rattle.std.specs.Str.{IsUtf8}
use Rattle.hayagriva.specs.Holds.{holds}
use Rattle.hayagriva.specs.Query.{IsHit}
use Rattle.hayagriva.specs.Syntax.{Syntax}
use Rattle.hayagriva.specs.Tree.{Tree}
use Rattle.hayagriva.specs.declared.query.Hit.{Hit}
use Rattle.haya_asked.specs.Asked.{passes}
use Rattle.haya_asked.specs.declared.questions.Questions.{Questions}
use Rattle.haya_json_elements.specs.Elements.{nonempty_lines}
use Rattle.haya_json.specs.Notes.{NotesView, all_kept, kept_of, notes_view}
use Rattle.haya_parts.specs.Answered.{IsUnwritten, IsWriteFault}
use Rattle.haya_questions.specs.Test.{test_view}
use Rattle.haya_source.specs.Elements.{AreElementsOf, Element, SayEntries, parts_of}
use Rattle.haya_source_stream.specs.Enough.{IsWithin, has_enough}
use Rattle.haya_source_stream.specs.Kinds.{element_kind}
use Rattle.haya_source_stream.specs.Parts.{BeginParts, IsOutOfMemory, IsPartError, IsRefusedPart, PartSays, count_of, counted, part_told, parts_told}
use Rattle.haya_source_stream.specs.Printed.{told_text}
use Rattle.haya_source_stream.specs.declared.asker.SourceAsker.{SourceAsker}
use Rattle.haya_source_stream.specs.declared.asking.Asking.{Asking}
use Rattle.haya_source_stream.specs.declared.error.PartError.{PartError}
use Rattle.haya_source_stream.specs.declared.kind.StreamedKind.{StreamedKind}
use Rattle.haya_line_stream.specs.declared.error.StreamError.{StreamError}
use Rattle.haya_line_stream.specs.declared.error.StreamError.TheVariants.{CannotRead, CannotWrite, NotText, OutOfMemory, Refused}

-- ---- hits

-- elements, and the hits that their entries are
abbrev pub Found : Type 0
Found = List (Element × Hit)

-- of elements those whose entries a selector holds of, with their hits
abbrev pub AreFound : Syntax → List Element → Found → Type 0
AreFound s es found =
    AllZip (λ e f. (f.0 ≡ e) × IsHit s e.1 f.1) (filter (λ e. holds s e.1) es) found

-- of these those that pass all tests
abbrev pub passing : Questions → Found → Found
passing questions found = filter (λ f. passes (map test_view questions.tests.items) f.1) found

-- the bytes of their elements
abbrev pub found_parts : Found → List (List ℕ)
found_parts found = map (λ f. f.0.0) found

-- Elements are asked: of those that are asked for this is printed, behind so many, and they are
-- counted.
pub record TellsElements (asking : Asking) (before after : ℕ) (es : List Element)
    (printed : List ℕ) : Type 0 where
  pub found : Found
  pub are : AreFound asking.selector es found
  pub prints : printed
      ≡ told_text asking.shown asking.kind before (found_parts (passing asking.questions.now found))
  pub count : after ≡ before + length (passing asking.questions.now found)

-- the same, and they are no more than are wanted
pub record AsksElements (asking : Asking) (before after : ℕ) (es : List Element)
    (printed : List ℕ) : Type 0 where
  pub tells : TellsElements asking before after es printed
  pub within : IsWithin asking.questions.now.max before → IsWithin asking.questions.now.max after

-- a hit is told by its element, where it passes all tests
abbrev pub TellsHit : Asking → ℕ → ℕ → List ℕ → Hit → List ℕ → List ℕ → Type 0
TellsHit asking before after part hit old new =
    MatchBool (passes (map test_view asking.questions.now.tests.items) hit)
    ((after ≡ before + 1) × (new ≡ old ++ told_text asking.shown asking.kind before (part ∷ [])))
    ((after ≡ before) × (new ≡ old))

-- ---- one part

-- a part that isn't empty is an element, which is asked, and what is told of it is kept
pub record AnswersPart (s : SourceAsker) (part printed : List ℕ) (t : SourceAsker) : Type 0 where
  pub answered : MatchBool (length part == 0)
      ((printed ≡ []) × (t.hits ≡ s.hits) × (notes_view t.notes ≡ notes_view s.notes))
      ((entry : Tree) × PartSays s.asking.kind part entry
      × TellsElements s.asking s.hits t.hits ((part, entry) ∷ []) printed
      × (notes_view t.notes ≡ all_kept (part_told s.asking.kind part) (notes_view s.notes)))
  pub number : t.number ≡ s.number + count_of s.asking.kind part
  pub same : t.asking ≡ s.asking

abbrev pub AnswersTurn : SourceAsker → Option (List ℕ) → List ℕ → SourceAsker → Type 0
AnswersTurn s (Some part) printed t = AnswersPart s part printed t
AnswersTurn s None printed t = printed ≡ []

-- why a part isn't answered; what is told is kept, but where memory is out
abbrev pub RefusesTurn : SourceAsker → Option (List ℕ) → PartError → SourceAsker → Type 0
RefusesTurn s (Some part) e t =
    IsPartError s.asking.kind s.number part e
    × (IsOutOfMemory e ⊎ (notes_view t.notes ≡ notes_view s.notes))
RefusesTurn s None e t = ⊥

-- ---- an input

-- all input that was left is a text, its elements are asked, and those of the hits that are asked
-- for are printed; what is told of them is kept
pub record AsksSource (asking : Asking) (hits : ℕ) (t : SourceAsker)
    (unread left before after : Option (List ℕ)) : Type 0 where
  pub text : List ℕ
  pub es : List Element
  pub printed : List ℕ
  pub read : Consumes unread left text
  pub at_end : IsAtEnd left
  pub are : AreElementsOf (element_kind asking.kind) text es
  pub asks : AsksElements asking hits t.hits es printed
  pub notes : notes_view t.notes ≡ kept_of (parts_told asking.kind (parts_of es))
  pub same : t.asking ≡ asking
  pub prints : Appends before after printed

-- the first elements of a text, up to some that is held
pub record BeginElements (kind : StreamedKind) (text : List ℕ) (es : List Element) (held : List ℕ)
    : Type 0 where
  pub taken : List ℕ
  pub parts : List (List ℕ)
  pub is : text ≡ taken ++ held
  pub begin : BeginParts kind taken parts held
  pub are : parts_of es ≡ nonempty_lines parts
  pub each : SayEntries (element_kind kind) es

-- the first elements of the input are asked: their hits are enough
pub record AsksFirst (asking : Asking) (hits : ℕ) (t : SourceAsker)
    (unread left before after : Option (List ℕ)) : Type 0 where
  pub text : List ℕ
  pub es : List Element
  pub held : List ℕ
  pub printed : List ℕ
  pub read : Consumes unread left text
  pub begin : BeginElements asking.kind text es held
  pub asks : AsksElements asking hits t.hits es printed
  pub enough : IsTrue (has_enough t.asking t.hits)
  pub notes : notes_view t.notes ≡ kept_of (parts_told asking.kind (parts_of es))
  pub same : t.asking ≡ asking
  pub prints : Appends before after printed

-- What a fault says of what is held behind parts of which so many are counted. Nothing is said where
-- memory is out, or a read or a write fails.
abbrev pub Why : StreamedKind → ℕ → List ℕ → StreamError PartError → Type 0
Why kind n held (CannotRead e) = Unit {0}
Why kind n held (CannotWrite e) = Unit {0}
Why kind n held NotText = (part : List ℕ) × IsRefusedPart kind held part × (¬ IsUtf8 part)
Why kind n held (Refused e) =
    (part : List ℕ) × IsRefusedPart kind held part × IsPartError kind n part e
Why kind n held OutOfMemory = Unit {0}

-- what is told of these parts is kept, but where memory is out or a write fails
abbrev pub IsKept : StreamedKind → List (List ℕ) → NotesView → StreamError PartError → Type 0
IsKept kind parts kept (CannotRead e) = kept ≡ kept_of (parts_told kind parts)
IsKept kind parts kept (CannotWrite e) = Unit {0}
IsKept kind parts kept NotText = kept ≡ kept_of (parts_told kind parts)
IsKept kind parts kept (Refused e) = IsOutOfMemory e ⊎ (kept ≡ kept_of (parts_told kind parts))
IsKept kind parts kept OutOfMemory = Unit {0}

-- The first elements of the input are asked, and there it stops: what is printed of them is
-- written, or, where a write fails, a first part of it.
pub record AsksUpTo (asking : Asking) (hits : ℕ) (t : SourceAsker)
    (unread left before after : Option (List ℕ)) (fault : StreamError PartError) : Type 0 where
  pub text : List ℕ
  pub es : List Element
  pub held : List ℕ
  pub count : ℕ
  pub written : List ℕ
  pub unwritten : List ℕ
  pub read : Consumes unread left text
  pub begin : BeginElements asking.kind text es held
  pub asks : AsksElements asking hits count es (written ++ unwritten)
  pub why : Why asking.kind (counted asking.kind begin.parts) held fault
  pub kept : IsKept asking.kind (parts_of es) (notes_view t.notes) fault
  pub all_written : IsUnwritten unwritten fault
  pub prints : Appends before after written

-- all elements of the input are asked, and a write fails: of what is printed of them a first part
-- is written
pub record AsksUnwritten (asking : Asking) (hits : ℕ)
    (unread left before after : Option (List ℕ)) : Type 0 where
  pub text : List ℕ
  pub es : List Element
  pub count : ℕ
  pub written : List ℕ
  pub unwritten : List ℕ
  pub read : Consumes unread left text
  pub at_end : IsAtEnd left
  pub are : AreElementsOf (element_kind asking.kind) text es
  pub asks : AsksElements asking hits count es (written ++ unwritten)
  pub prints : Appends before after written

-- where the asking of an input stops
abbrev pub AsksPart : Asking → ℕ → SourceAsker → Option (List ℕ) → Option (List ℕ)
    → Option (List ℕ) → Option (List ℕ) → StreamError PartError → Type 0
AsksPart asking hits t unread left before after fault =
    AsksUpTo asking hits t unread left before after fault
    ⊎ (IsWriteFault fault × AsksUnwritten asking hits unread left before after)
