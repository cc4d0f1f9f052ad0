-- What is answered of a library and of its entries.
use Rattle.std.specs.Prelude.{◌≡◌, ◌⊎◌, ◌==◌, ℕ, Bool, false, List, Option, None, Some, if◌then◌else◌, length}
use Rattle.std.specs.Str.{IsUtf8}
use Rattle.haya_entry.specs.Names.{has_name}
use Rattle.haya_entry.specs.Tree.{Tree, parents}
use Rattle.haya_selectors.specs.Holds.{holds}
use Rattle.hayagriva.specs.Library.{get}
use Rattle.haya_views.specs.FieldTexts.{field_text}
use Rattle.haya_views.specs.InOrder.{entry_at, parent_at}
use Rattle.haya_views.specs.declared.entry_id.EntryId.{EntryId}
use Rattle.haya_views.specs.declared.text_form.TextForm.{TextForm}
use Rattle.haya_views.specs.declared.text_form.TextForm.TheVariants.{MarkedUp, Plain, Short}
use Rattle.hayagriva_c.specs.Room.{filled}
use Rattle.hayagriva_c.specs.declared.content.Asked.{Asked}

-- how many entries there are
abbrev pub size_of : Option (List Tree) → ℕ
size_of None = 0
size_of (Some library) = length library

-- how many parents it has
abbrev pub count_of_parents : Option Tree → ℕ
count_of_parents None = 0
count_of_parents (Some t) = length (parents t)

-- ---- numbers of entries

-- the code 0 and a number that means what is asked; or there is no such entry, and the number is
-- as it was
abbrev pub IdGiven : List Tree → Option Tree → ℕ → EntryId → EntryId → Type 0
IdGiven library None code old new = (code ≡ 2) × (new ≡ old)
IdGiven library (Some t) code old new = (code ≡ 0) × (entry_at library new ≡ Some t)

-- the number of the entry with a key, which is none that isn't UTF-8
abbrev pub KeyGives : Option (List Tree) → List ℕ → ℕ → EntryId → EntryId → Type 0
KeyGives None key code old new = (code ≡ 2) × (new ≡ old)
KeyGives (Some library) key code old new =
    (IsUtf8 key × IdGiven library (get key library) code old new)
    ⊎ (¬ IsUtf8 key × ((code ≡ 2) × (new ≡ old)))

-- the number of the parent at a place, or out of memory
abbrev pub ParentGives : Option (List Tree) → EntryId → ℕ → ℕ → EntryId → EntryId → Type 0
ParentGives None id place code old new = (code ≡ 2) × (new ≡ old)
ParentGives (Some library) id place code old new =
    IdGiven library (parent_at library id place) code old new ⊎ ((code ≡ 6) × (new ≡ old))

-- ---- texts in a room

-- the code alone: nothing is written
abbrev pub Leaves : ℕ → ℕ → ℕ → List ℕ → List ℕ → Type 0
Leaves c code len old new = (code ≡ c) × ((len ≡ 0) × (new ≡ old))

-- as much of the text as there is room for is written, and its length is answered
abbrev pub IsWritten : List ℕ → ℕ → ℕ → List ℕ → List ℕ → Type 0
IsWritten text code len old new = (code ≡ 0) × ((len ≡ length text) × (new ≡ filled text old))

-- a text of the entry is written, or there is no entry
abbrev pub WrittenOf : (Tree → List ℕ) → Option Tree → ℕ → ℕ → List ℕ → List ℕ → Type 0
WrittenOf text None code len old new = Leaves 2 code len old new
WrittenOf text (Some t) code len old new = IsWritten (text t) code len old new

-- a name is written, or there is none
abbrev pub NameGives : Option (List ℕ) → ℕ → ℕ → List ℕ → List ℕ → Type 0
NameGives None code len old new = Leaves 3 code len old new
NameGives (Some name) code len old new = IsWritten name code len old new

-- the name of a row is written and its count is told, or there is no such row
abbrev pub NoteGives : Option (List ℕ × ℕ) → ℕ → ℕ → List ℕ → List ℕ → ℕ → ℕ → Type 0
NoteGives None code len old new before after = Leaves 3 code len old new × (after ≡ before)
NoteGives (Some row) code len old new before after =
    IsWritten row.0 code len old new × (after ≡ row.1)

-- the form with a number
abbrev pub text_form : ℕ → Option TextForm
text_form n =
    if n == 0 then Some MarkedUp else
    if n == 1 then Some Plain else
    if n == 2 then Some Short else None

-- the text, in what may be a form, of the field with a name, which is none that isn't UTF-8, or out of
-- memory
abbrev pub TextGives : Option TextForm → Option Tree → List ℕ → ℕ → ℕ → List ℕ → List ℕ → Type 0
TextGives None t name code len old new = Leaves 7 code len old new
TextGives (Some form) None name code len old new = Leaves 2 code len old new
TextGives (Some form) (Some t) name code len old new =
    Leaves 6 code len old new
    ⊎ ((IsUtf8 name × NameGives (field_text t name form) code len old new)
    ⊎ (¬ IsUtf8 name × Leaves 3 code len old new))

-- ---- tests

-- whether it has a name, which is none that isn't UTF-8
abbrev pub HasName : Option Tree → List ℕ → Bool → Type 0
HasName None name has = has ≡ false
HasName (Some t) name has =
    (IsUtf8 name × (has ≡ has_name t name)) ⊎ (¬ IsUtf8 name × (has ≡ false))

-- whether the selector holds there, or out of memory
abbrev pub MatchGives : Option Tree → Option Asked → ℕ → Bool → Bool → Type 0
MatchGives None asked code old new = (code ≡ 2) × (new ≡ old)
MatchGives (Some t) None code old new = (code ≡ 4) × (new ≡ old)
MatchGives (Some t) (Some asked) code old new =
    ((code ≡ 0) × (new ≡ holds asked.selector t)) ⊎ ((code ≡ 6) × (new ≡ old))
