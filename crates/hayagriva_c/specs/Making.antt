-- What is made of bytes behind a pointer, or told.
use Rattle.std.specs.Prelude.{◌≡◌, ◌⊎◌, ℕ, List, Some}
use Rattle.haya_formats.specs.Block.{without_mark}
use Rattle.hayagriva_c.specs.Faults.{IsMemory, Tells}
use Rattle.hayagriva_c.specs.Noted.{noted}
use Rattle.hayagriva_c.specs.Notes.{NotesOf}
use Rattle.hayagriva_c.specs.Reading.{AsksAs, Says, WhyNoLibrary, WhyNoSelector}
use Rattle.hayagriva_c.specs.declared.content.Asked.{Asked}
use Rattle.hayagriva_c.specs.declared.content.Content.TheVariants.{Library, Selector}
use Rattle.hayagriva_c.specs.declared.content.Shelf.{Shelf}
use Rattle.hayagriva_c.specs.declared.fault.Fault.{Fault}
use Rattle.hayagriva_c.specs.declared.held.Held.{Held}
use Rattle.hayagriva_c.specs.declared.told.Told.{Told}

-- the pointer leads to what it led to, and what is told of the bytes is in the fault, or that an
-- allocation failed
pub record Refuses (Why : Told → Type 0) (c : ℕ) (old new : Held) (after : Fault) : Type 0 where
  pub kept : new.content ≡ old.content
  pub told : Told
  pub why : Why told
  pub code : c ≡ told.code
  pub fault : Tells told after ⊎ IsMemory after

-- there is no memory for what the bytes say
pub record NoMemory (c : ℕ) (old new : Held) (after : Fault) : Type 0 where
  pub kept : new.content ≡ old.content
  pub code : c ≡ 6
  pub fault : IsMemory after

-- the pointer leads to the library that the bytes say, with what is passed over of them; the fault
-- is as it was
pub record MadeLibrary (format : ℕ) (bytes : List ℕ) (c : ℕ) (new : Held) (before after : Fault) : Type 0 where
  pub shelf : Shelf
  pub holds : new.content ≡ Some (Library shelf)
  pub says : Says format (without_mark bytes) shelf.library
  pub notes : NotesOf format (without_mark bytes) (noted shelf.notes.items)
  pub code : c ≡ 0
  pub same : after ≡ before

abbrev pub LibraryRead : ℕ → List ℕ → ℕ → Held → Held → Fault → Fault → Type 0
LibraryRead format bytes code old new before after =
    MadeLibrary format bytes code new before after
    ⊎ (Refuses (WhyNoLibrary format (without_mark bytes)) code old new after ⊎ NoMemory code old new after)

-- the pointer leads to the selector at the front of the bytes, and its end is told
pub record MadeSelector (bytes : List ℕ) (c end : ℕ) (new : Held) (before after : Fault) : Type 0 where
  pub asked : Asked
  pub holds : new.content ≡ Some (Selector asked)
  pub asks : AsksAs bytes asked end
  pub code : c ≡ 0
  pub same : after ≡ before

abbrev pub SelectorRead : List ℕ → ℕ → ℕ → ℕ → Held → Held → Fault → Fault → Type 0
SelectorRead bytes code used end old new before after =
    MadeSelector bytes code end new before after
    ⊎ ((end ≡ used) × (Refuses (WhyNoSelector bytes) code old new after ⊎ NoMemory code old new after))
