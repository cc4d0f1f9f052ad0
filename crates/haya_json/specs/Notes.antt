-- What is told of an input: what is lost of its entries, in the order of the text.
use Rattle.std.specs.Prelude.{◌≡◌, ℕ, Bool, true, false, ◌+◌, ◌-◌, List, [], ◌∷◌, ◌++◌, Option, None, Some, filter, flat_map, fold, length, map, nat_lt, not, option_map, slice_get, string_bytes, take, Result, Ok, Err, if◌then◌else◌}
use Rattle.haya_json.specs.Ignored.{counts_of}
use Rattle.haya_json.specs.Refusal.{Refusal, StepView, step_view}
use Rattle.haya_json.specs.Tally.{Counts, as_count, counted, tally}
use Rattle.haya_json.specs.declared.fault.Why.{Why}
use Rattle.haya_json.specs.declared.notes.Loss.{Loss}
use Rattle.haya_json.specs.declared.notes.Loss.TheVariants as loss
use Rattle.haya_json.specs.declared.notes.Lost.{Lost}
use Rattle.haya_json.specs.declared.notes.Note.{Note}
use Rattle.haya_json.specs.declared.notes.Notes.{Notes}

-- What is lost of a value: it is counted under this name, as it has no place or loses a part; it
-- isn't read, for this reason; or the key of an entry comes again.
pub data LossView : Type 0 where
  named : List ℕ → LossView
  unread : Why → LossView
  again : LossView

-- what is lost at the end of these steps
pub record LostView : Type 0 where
  pub path : List StepView
  pub loss : LossView

-- what is lost of the entry with this key
pub record NoteView : Type 0 where
  pub key : List ℕ
  pub lost : LostView

-- what is lost of a value itself
abbrev pub lost_here : LossView → LostView
lost_here loss = record { path = []; loss = loss }

-- a value that is refused is lost: it isn't read
abbrev pub lost_of : Refusal → LostView
lost_of r = record { path = r.path; loss = unread r.why }

-- what is lost of a value, by what it reads as
abbrev pub refusal_lost : {V : Type 0} → Result V Refusal → List LostView
refusal_lost (Ok v) = []
refusal_lost (Err r) = lost_of r ∷ []

-- the same seen from one step further out
abbrev pub lost_behind : StepView → LostView → LostView
lost_behind step lost = record { path = step ∷ lost.path; loss = lost.loss }

abbrev pub all_behind : StepView → List LostView → List LostView
all_behind step losts = map (lost_behind step) losts

-- what is lost of the entry with this key
abbrev pub note_of : List ℕ → LostView → NoteView
note_of key lost = record { key = key; lost = lost }

abbrev pub notes_under : List ℕ → List LostView → List NoteView
notes_under key losts = map (note_of key) losts

-- ---- what is kept of notes

-- the names under which a loss is counted
abbrev pub names_of : LossView → List (List ℕ)
names_of (named name) = name ∷ []
names_of _ = []

abbrev pub is_named : LossView → Bool
is_named (named name) = true
is_named _ = false

-- the names of notes that are counted
abbrev pub names_in : List NoteView → List (List ℕ)
names_in notes = flat_map (λ n. names_of n.lost.loss) notes

-- the notes that are told one by one
abbrev pub lines_in : List NoteView → List NoteView
lines_in notes = filter (λ n. not (is_named n.lost.loss)) notes

-- the first of these, if it is counted
abbrev pub first_named : List NoteView → Option NoteView
first_named [] = None
first_named (n ∷ notes) = if is_named n.lost.loss then Some n else None

-- what is kept of notes: the names that are counted, each with how often it comes; the first note,
-- if it is one of these; the first ten of the others, and the number of those behind them
pub record NotesView : Type 0 where
  pub counts : Counts
  pub first_named : Option NoteView
  pub lines : List NoteView
  pub more : ℕ

abbrev pub kept_of : List NoteView → NotesView
kept_of notes = record {
  counts = tally (names_in notes);
  first_named = first_named notes;
  lines = take 10 (lines_in notes);
  more = as_count (length (lines_in notes) - 10);
}

-- ---- step by step

-- the first note that is counted: the one that was first, or this where nothing was noted before
abbrev pub first_after : NoteView → Counts → List NoteView → Option NoteView → Option NoteView
first_after n [] [] first = Some n
first_after n _ _ first = first

-- what is kept after one more note
abbrev pub line_kept : NoteView → NotesView → NotesView
line_kept n kept =
    if nat_lt (length kept.lines) 10 then record kept { lines = kept.lines ++ n ∷ [] }
    else record kept { more = as_count (kept.more + 1) }

abbrev pub name_kept : List ℕ → NoteView → NotesView → NotesView
name_kept name n kept = record kept {
  counts = counted name kept.counts;
  first_named = first_after n kept.counts kept.lines kept.first_named;
}

abbrev pub kept_by : LossView → NoteView → NotesView → NotesView
kept_by (named name) n kept = name_kept name n kept
kept_by _ n kept = line_kept n kept

abbrev pub kept_after : NoteView → NotesView → NotesView
kept_after n kept = kept_by n.lost.loss n kept

-- what is kept after each of these notes, in turn
abbrev pub all_kept : List NoteView → NotesView → NotesView
all_kept notes kept = fold (λ so_far n. kept_after n so_far) kept notes

abbrev pub none_kept : NotesView
none_kept = record { counts = []; first_named = None; lines = []; more = 0 }

-- nothing is kept
abbrev pub IsNone : NotesView → Type 0
IsNone kept = (kept.counts ≡ []) × (kept.lines ≡ [])

-- the first note of all
abbrev pub first_among : Option NoteView → List NoteView → Option NoteView
first_among (Some n) lines = Some n
first_among None lines = slice_get lines 0

abbrev pub first_note : NotesView → Option NoteView
first_note kept = first_among kept.first_named kept.lines

-- ---- of the code's values

abbrev pub loss_view : Loss → LossView
loss_view (loss.Named name) = named (string_bytes name)
loss_view (loss.Unread why text) = unread why
loss_view loss.Again = again

abbrev pub lost_view : Lost → LostView
lost_view lost = record { path = map step_view lost.path.items; loss = loss_view lost.loss }

abbrev pub losts_view : List Lost → List LostView
losts_view losts = map lost_view losts

abbrev pub note_view : Note → NoteView
note_view note = note_of (string_bytes note.key) (lost_view note.lost)

abbrev pub notes_view : Notes → NotesView
notes_view notes = record {
  counts = counts_of notes.ignored;
  first_named = option_map note_view notes.first_named;
  lines = map note_view notes.lines.items;
  more = notes.more;
}
