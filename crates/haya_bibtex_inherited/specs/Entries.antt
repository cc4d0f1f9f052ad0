-- Entries by value. Their texts are lists of bytes.
use Rattle.std.specs.Prelude.{ℕ, Bool, List, [], ◌∷◌, Option, Some, None, if◌then◌else◌}
use Rattle.std.specs.Borrow.{Bor}
use Rattle.std.specs.List.{list_any}
use Rattle.std.specs.Str.{bytes_eq}

pub record FieldBytes : Type 0 where
  pub name : List ℕ
  pub text : List ℕ

pub record EntryBytes : Type 0 where
  pub kind : List ℕ
  pub key : List ℕ
  pub fields : List FieldBytes

-- a field has this name
abbrev pub has_field : List FieldBytes → List ℕ → Bool
has_field fs n = list_any (λ f. bytes_eq f.name n) fs

-- the text of the first field with this name
abbrev pub text_of : List FieldBytes → List ℕ → Option (List ℕ)
text_of [] n = None
text_of (f ∷ fs) n = if bytes_eq f.name n then Some f.text else text_of fs n

-- the name is one of these
abbrev pub is_among : List (List ℕ) → List ℕ → Bool
is_among ns n = list_any (bytes_eq n) ns

-- the names of the code's tables by value
abbrev pub name_view : Bor (List ℕ) → List ℕ
name_view n = n.now
