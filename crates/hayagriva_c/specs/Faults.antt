-- What a fault of C's says, and a text that was written for it.
use Rattle.std.specs.Prelude.{◌≡◌, ℕ, Option, None, Some, Vec}
use Rattle.std.specs.declared.alloc.Global.{Global}
use Rattle.hayagriva_c.specs.Texts.{TextIs}
use Rattle.hayagriva_c.specs.declared.content.Content.TheVariants.{Text, Words}
use Rattle.hayagriva_c.specs.declared.fault.Fault.{Fault}
use Rattle.hayagriva_c.specs.declared.fault.Written.{Written}
use Rattle.hayagriva_c.specs.declared.told.Told.{Told}

-- a code without words or place
pub record IsEmpty (c : ℕ) (fault : Fault) : Type 0 where
  pub code : fault.code ≡ c
  pub offset : fault.offset ≡ 0
  pub line : fault.line ≡ 0
  pub column : fault.column ≡ 0
  pub pointer : fault.pointer.len ≡ 0
  pub name : fault.name.len ≡ 0
  pub reason : fault.reason.len ≡ 0
  pub words : fault.words.content ≡ None

abbrev pub IsMemory : Fault → Type 0
IsMemory = IsEmpty 6

-- the fault has the parts that are told, and its texts are the words, which it holds
pub record Tells (told : Told) (fault : Fault) : Type 0 where
  pub code : fault.code ≡ told.code
  pub offset : fault.offset ≡ told.offset
  pub line : fault.line ≡ told.line
  pub column : fault.column ≡ told.column
  pub pointer : TextIs told.words.pointer fault.pointer
  pub name : TextIs told.words.name fault.name
  pub reason : TextIs told.words.reason fault.reason
  pub words : fault.words.content ≡ Some (Words told.words)

-- what is written has the bytes, which it holds
abbrev pub IsWrittenOut : Vec ℕ Global → Option Written → Type 0
IsWrittenOut bytes None = Unit {0}
IsWrittenOut bytes (Some written) =
    TextIs bytes written.text × (written.bytes.content ≡ Some (Text bytes))
