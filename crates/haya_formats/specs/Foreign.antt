-- Inputs that are no text in UTF-8, by their first bytes.
use Rattle.std.specs.Prelude.{ℕ, ◌||◌, ◌&&◌, Bool, List, [], ◌∷◌, ◌++◌, Option, Some, None, codes, nat_eq, slice_get, if◌then◌else◌}
use Rattle.std.specs.List.{starts_with}
use Rattle.std.specs.Option.{option_eq, option_or}
use Rattle.haya_formats.specs.declared.foreign.Foreign.{Foreign}
use Rattle.haya_formats.specs.declared.foreign.Foreign.TheVariants.{Utf16, Utf16Le, Utf16Be, Utf32, Utf32Le, Utf32Be, Gzip, Bzip2, Xz, Zstd, Zip, Pdf, Sqlite}

-- the first bytes of a kind of file
abbrev pub Signature : Type 0
Signature = List ℕ × Foreign

-- byte order marks
abbrev pub marks : List Signature
marks =
    (0xFF ∷ 0xFE ∷ 0 ∷ 0 ∷ [], Utf32)
    ∷ (0 ∷ 0 ∷ 0xFE ∷ 0xFF ∷ [], Utf32)
    ∷ (0xFF ∷ 0xFE ∷ [], Utf16)
    ∷ (0xFE ∷ 0xFF ∷ [], Utf16)
    ∷ []

-- what programs that compress files begin them with
abbrev pub archives : List Signature
archives =
    (0x1F ∷ 0x8B ∷ [], Gzip)
    ∷ (codes "BZh", Bzip2)
    ∷ (0xFD ∷ codes "7zXZ" ++ 0 ∷ [], Xz)
    ∷ (0x28 ∷ 0xB5 ∷ 0x2F ∷ 0xFD ∷ [], Zstd)
    ∷ (codes "PK" ++ 3 ∷ 4 ∷ [], Zip)
    ∷ (codes "PK" ++ 5 ∷ 6 ∷ [], Zip)
    ∷ []

-- the first bytes of other files that aren't text
abbrev pub documents : List Signature
documents = (codes "%PDF-", Pdf) ∷ (codes "SQLite format 3" ++ 0 ∷ [], Sqlite) ∷ []

-- what has the first signature that the bytes begin with
abbrev pub signed_in : List Signature → List ℕ → Option Foreign
signed_in [] bytes = None
signed_in (s ∷ more) bytes =
    if starts_with nat_eq bytes s.0 then Some s.1 else signed_in more bytes

-- whether a byte is there, and zero
abbrev pub zero_at : List ℕ → ℕ → Bool
zero_at bytes i = option_eq nat_eq (slice_get bytes i) (Some 0)

-- the encoding of a text in which the first four bytes, or as many as there are, have a zero, by
-- which of them are
abbrev pub wide_text : List ℕ → Option Foreign
wide_text bytes =
    if zero_at bytes 0 && zero_at bytes 1 then Some Utf32Be
    else if zero_at bytes 2 && zero_at bytes 3 then Some Utf32Le
    else if zero_at bytes 0 || zero_at bytes 2 then Some Utf16Be
    else if zero_at bytes 1 || zero_at bytes 3 then Some Utf16Le
    else None

-- what the bytes are that an input begins with, where they aren't those of a text in UTF-8
abbrev pub foreign_of : List ℕ → Option Foreign
foreign_of bytes =
    option_or (option_or (option_or (signed_in marks bytes) (signed_in archives bytes))
    (signed_in documents bytes)) (wide_text bytes)
