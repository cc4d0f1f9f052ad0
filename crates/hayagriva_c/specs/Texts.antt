-- Bytes that a handle owns, as C sees them.
use Rattle.std.specs.Prelude.{◌≡◌, ℕ, Vec, length}
use Rattle.std.specs.Vec.{vec_ptr}
use Rattle.std.specs.declared.alloc.Global.{Global}
use Rattle.hayagriva_c.specs.declared.texts.Text.{Text}

-- the text begins where the block of the list does, and is as long as the list: since a list's
-- block has its items, the bytes behind the pointer are these
pub record TextIs (bytes : Vec ℕ Global) (text : Text) : Type 0 where
  pub at : text.at ≡ vec_ptr bytes
  pub len : text.len ≡ length bytes.items
