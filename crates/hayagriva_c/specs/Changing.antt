-- What a call that changes a library leaves behind the pointer.
use Rattle.std.specs.Prelude.{◌≡◌, ◌≢◌, ◌⊎◌, ℕ, List, [], ◌∷◌, Option, None, Some, Vec, length}
use Rattle.std.specs.Str.{IsUtf8}
use Rattle.std.specs.declared.alloc.Global.{Global}
use Rattle.haya_entry.specs.Tree.{Tree}
use Rattle.haya_json.specs.Libraries.{Describes}
use Rattle.haya_json.specs.Told.{Tells}
use Rattle.hayagriva.specs.Library.{get, push, remove}
use Rattle.hayagriva_c.specs.Faults.{IsEmpty, IsMemory, Tells as FaultTells}
use Rattle.hayagriva_c.specs.Noted.{noted}
use Rattle.hayagriva_c.specs.Notes.{AreCounted}
use Rattle.hayagriva_c.specs.Reading.{WhyNotJson}
use Rattle.hayagriva_c.specs.Told.{IsTold}
use Rattle.hayagriva_c.specs.declared.content.Content.{Content}
use Rattle.hayagriva_c.specs.declared.content.Content.TheVariants.{Library, Selector, Text, Words}
use Rattle.hayagriva_c.specs.declared.content.Shelf.{Shelf}
use Rattle.hayagriva_c.specs.declared.fault.Fault.{Fault}
use Rattle.hayagriva_c.specs.declared.notes.Noted.{Noted}
use Rattle.hayagriva_c.specs.declared.told.Told.{Told}

-- ---- an entry in a text

-- the bytes say a library in hayagriva's file format, of this entry alone
abbrev pub SaysEntry : List ℕ → Tree → Type 0
SaysEntry bytes entry = IsUtf8 bytes × Describes bytes (entry ∷ [])

-- the bytes aren't text, they have an error of that format, or they say no entry or several
pub data WhyNoEntry (bytes : List ℕ) (told : Told) : Type 0 where
  no_text_of_entry : ¬ IsUtf8 bytes → IsTold 5 0 0 0 [] [] [] told → WhyNoEntry bytes told
  refused_entry : IsUtf8 bytes → WhyNotJson bytes told → WhyNoEntry bytes told
  not_one : IsUtf8 bytes → (library : List Tree) → Describes bytes library → length library ≢ 1 →
      IsTold 9 0 0 0 [] [] [] told → WhyNoEntry bytes told

-- ---- push

-- The library has the entry in the place of the one with its key, or last, and these rows. All else is
-- as it was.
pub record HasPut (entry : Tree) (notes : Vec Noted Global) (old new : Shelf) (c : ℕ) (before after : Fault) : Type 0 where
  pub now : new ≡ record old { library = push entry old.library; notes = notes }
  pub code : c ≡ 0
  pub same : after ≡ before

-- there is no memory for it, and the library is as it was
pub record HasNoRoom (old new : Shelf) (c : ℕ) (after : Fault) : Type 0 where
  pub kept : new ≡ old
  pub code : c ≡ 6
  pub fault : IsMemory after

abbrev pub Puts : Tree → Vec Noted Global → Shelf → Shelf → ℕ → Fault → Fault → Type 0
Puts entry notes old new code before after =
    HasPut entry notes old new code before after ⊎ HasNoRoom old new code after

-- the bytes say the entry that is put, and the rows are what is passed over of them
pub record PutsEntry (bytes : List ℕ) (old new : Shelf) (c : ℕ) (before after : Fault) : Type 0 where
  pub entry : Tree
  pub notes : Vec Noted Global
  pub says : SaysEntry bytes entry
  pub told : AreCounted (Tells bytes) (noted notes.items)
  pub put : Puts entry notes old new c before after

-- the library is as it was, and why the bytes say no entry is in the fault, or that an allocation
-- failed
pub record RefusesEntry (bytes : List ℕ) (old new : Shelf) (c : ℕ) (after : Fault) : Type 0 where
  pub kept : new ≡ old
  pub told : Told
  pub why : WhyNoEntry bytes told
  pub code : c ≡ told.code
  pub fault : FaultTells told after ⊎ IsMemory after

abbrev pub PushesInto : List ℕ → Shelf → Shelf → ℕ → Fault → Fault → Type 0
PushesInto bytes old new code before after =
    PutsEntry bytes old new code before after ⊎ RefusesEntry bytes old new code after

-- ---- remove

-- the entry with the key is taken out; or there is none, and the library is as it was
abbrev pub RemovesKey : List ℕ → Option Tree → Shelf → Shelf → ℕ → Type 0
RemovesKey key None old new code = (code ≡ 2) × (new ≡ old)
RemovesKey key (Some t) old new code =
    (code ≡ 0) × (new ≡ record old { library = remove key old.library })

-- there is none with a key that isn't UTF-8
abbrev pub RemovesFrom : List ℕ → Shelf → Shelf → ℕ → Type 0
RemovesFrom key old new code =
    (IsUtf8 key × RemovesKey key (get key old.library) old new code)
    ⊎ (¬ IsUtf8 key × ((code ≡ 2) × (new ≡ old)))

-- ---- behind the pointer

-- the pointer leads to a library still, which has changed so
abbrev pub IsChanged : (Shelf → Type 0) → Content → Type 0
IsChanged Holds new = (shelf : Shelf) × (new ≡ Library shelf) × Holds shelf

-- it is no library, and is as it was
pub record IsOther (old new : Content) (c : ℕ) (after : Fault) : Type 0 where
  pub kept : new ≡ old
  pub code : c ≡ 4
  pub fault : IsEmpty 4 after

abbrev pub PushGives : List ℕ → Content → Content → ℕ → Fault → Fault → Type 0
PushGives bytes (Library old) new code before after =
    IsChanged (λ shelf. PushesInto bytes old shelf code before after) new
PushGives bytes (Selector asked) new code before after = IsOther (Selector asked) new code after
PushGives bytes (Words words) new code before after = IsOther (Words words) new code after
PushGives bytes (Text text) new code before after = IsOther (Text text) new code after

abbrev pub RemoveGives : List ℕ → Content → Content → ℕ → Type 0
RemoveGives key (Library old) new code = IsChanged (λ shelf. RemovesFrom key old shelf code) new
RemoveGives key (Selector asked) new code = (code ≡ 4) × (new ≡ Selector asked)
RemoveGives key (Words words) new code = (code ≡ 4) × (new ≡ Words words)
RemoveGives key (Text text) new code = (code ≡ 4) × (new ≡ Text text)
