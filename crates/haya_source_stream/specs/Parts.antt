-- The parts of an input: its elements, and of lines also those that are empty.
use Rattle.std.specs.Prelude.{◌≡◌, ◌+◌, ℕ, List, [], flat_map, length, max, sum_by}
use Rattle.std.specs.Str.Lines.{lines}
use Rattle.haya_csl.specs.ItemLines as item_lines
use Rattle.haya_json_elements.specs.declared.place.Brackets.TheVariants.{Curly, Square}
use Rattle.hayagriva.specs.Tree.{Tree}
use Rattle.haya_json.specs.JsonLines as json_lines
use Rattle.haya_json.specs.MemberLines as member_lines
use Rattle.haya_json.specs.Notes.{NoteView}
use Rattle.haya_json.specs.declared.error.ReadError.TheVariants as read
use Rattle.haya_line_library.specs.Input.{rows_read}
use Rattle.haya_line_library.specs.TextReading.{FaultInText}
use Rattle.haya_line_library.specs.declared.error.InputError.{InputError}
use Rattle.haya_line_library.specs.declared.error.InputError.TheVariants as input
use Rattle.haya_line_slices.specs.Coming.{AreLineParts, EntriesDivide}
use Rattle.haya_line_slices.specs.declared.coming.EntryParts.{EntryParts}
use Rattle.haya_parts.specs.Divided.{Begins, IsRefused}
use Rattle.haya_parts.specs.LineParts.{AreLines, LinesDivide}
use Rattle.haya_parts.specs.ListParts.{AreElements, ListDivides}
use Rattle.haya_parts.specs.declared.enclosed.InCurly.{InCurly}
use Rattle.haya_parts.specs.declared.enclosed.InSquare.{InSquare}
use Rattle.haya_parts.specs.declared.line_parts.LineParts.{LineParts}
use Rattle.haya_parts.specs.declared.list_parts.ListParts.{ListParts}
use Rattle.haya_slices.specs.Layout.{IsLaidOut}
use Rattle.haya_source.specs.Elements.{Says}
use Rattle.haya_source_stream.specs.Kinds.{element_kind}
use Rattle.haya_source_stream.specs.declared.error.PartError.{PartError}
use Rattle.haya_source_stream.specs.declared.error.PartError.TheVariants.{Element, Line, Lines, OutOfMemory}
use Rattle.haya_source_stream.specs.declared.kind.StreamedKind.{StreamedKind}
use Rattle.haya_source_stream.specs.declared.kind.StreamedKind.TheVariants as kinds
use Rattle.haya_source_stream.specs.declared.kind.StreamedKind.TheVariants.{Items, JsonLines, Members}

-- ---- one part

-- the entry that a part says
abbrev pub PartSays : StreamedKind → List ℕ → Tree → Type 0
PartSays kind part entry = Says (element_kind kind) part entry

-- what is told of a part: what is lost of its entry
abbrev pub part_told : StreamedKind → List ℕ → List NoteView
part_told (Items by) part = item_lines.line_told by part
part_told Members part = member_lines.line_told part
part_told JsonLines part = json_lines.line_told part
part_told kinds.Lines part = []

-- of parts
abbrev pub parts_told : StreamedKind → List (List ℕ) → List NoteView
parts_told kind parts = flat_map (part_told kind) parts

-- how many are counted for a part, as faults have their number: one, or of entries in lines as many
-- as it has, and one for an empty line
abbrev pub count_of : StreamedKind → List ℕ → ℕ
count_of (Items by) part = 1
count_of Members part = 1
count_of JsonLines part = 1
count_of kinds.Lines part = max 1 (length (lines part))

-- for parts
abbrev pub counted : StreamedKind → List (List ℕ) → ℕ
counted kind parts = sum_by (count_of kind) parts

-- the fault of a line, of those behind so many others
abbrev pub IsLineFault : ℕ → List ℕ → InputError → Type 0
IsLineFault n part (input.Line number fault) =
    (at : ℕ) × (number ≡ n + at) × FaultInText (rows_read 1 0 (lines part)) (input.Line at fault)
IsLineFault n part input.OutOfMemory = ⊥

-- why the part behind those of which so many are counted says no entry
abbrev pub IsPartError : StreamedKind → ℕ → List ℕ → PartError → Type 0
IsPartError (Items by) n part (Element e) =
    (e.number ≡ n + 1) × item_lines.IsItemLineErrorOf by n part e.error
IsPartError Members n part (Element e) =
    (e.number ≡ n + 1) × member_lines.IsMemberLineErrorOf part e.error
IsPartError JsonLines n part (Line e) =
    (e.line ≡ n + 1) × json_lines.IsJsonLineErrorOf part e.error
IsPartError kinds.Lines n part (Lines e) = IsLineFault n part e
IsPartError kind n part OutOfMemory = Unit {0}
IsPartError kind n part _ = ⊥

-- memory was out where a part was read, or asked
abbrev pub IsOutOfMemory : PartError → Type 0
IsOutOfMemory (Element e) = e.error ≡ read.OutOfMemory
IsOutOfMemory (Line e) = e.error ≡ read.OutOfMemory
IsOutOfMemory (Lines e) = e ≡ input.OutOfMemory
IsOutOfMemory OutOfMemory = Unit {0}

-- ---- a text

-- the parts of a whole text
abbrev pub AreParts : StreamedKind → List ℕ → List (List ℕ) → Type 0
AreParts (Items by) text parts = IsLaidOut Square text parts
AreParts Members text parts = IsLaidOut Curly text parts
AreParts JsonLines text parts = parts ≡ lines text
AreParts kinds.Lines text parts = AreLineParts text parts

-- the first parts of a text, up to some that is held, however it goes on
abbrev pub BeginParts : StreamedKind → List ℕ → List (List ℕ) → List ℕ → Type 0
BeginParts (Items by) taken parts held =
    (d : ListParts InSquare) × Begins (ListDivides Square) d taken parts held
BeginParts Members taken parts held =
    (d : ListParts InCurly) × Begins (ListDivides Curly) d taken parts held
BeginParts JsonLines taken parts held = (d : LineParts) × Begins LinesDivide d taken parts held
BeginParts kinds.Lines taken parts held =
    (d : EntryParts) × Begins EntriesDivide d taken parts held

-- what is refused of what is held: the next part, the last, or bytes that are none, and a comma
abbrev pub IsRefusedPart : StreamedKind → List ℕ → List ℕ → Type 0
IsRefusedPart (Items by) held part =
    (d : ListParts InSquare) × IsRefused (ListDivides Square) (AreElements Square) d held part
IsRefusedPart Members held part =
    (d : ListParts InCurly) × IsRefused (ListDivides Curly) (AreElements Curly) d held part
IsRefusedPart JsonLines held part = (d : LineParts) × IsRefused LinesDivide AreLines d held part
IsRefusedPart kinds.Lines held part =
    (d : EntryParts) × IsRefused EntriesDivide (λ _. AreLineParts) d held part
