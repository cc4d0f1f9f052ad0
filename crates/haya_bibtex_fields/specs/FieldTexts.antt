-- What the text of a field says, as chunks or as plain text. Texts are their bytes.
use Rattle.std.specs.Prelude.{ℕ, List, [], ◌∷◌, map, Option, None, Some, encode_utf8_all, string_bytes}
use Rattle.std.specs.Char.{encode_utf8}
use Rattle.std.specs.Str.{chars}
use Rattle.haya_latex.specs.Texts.{text_chars, text_unknown}
use Rattle.haya_latex.specs.declared.kinds.Kind.{Kind}
use Rattle.haya_latex.specs.declared.kinds.Kind.TheVariants as kind
use Rattle.haya_latex.specs.declared.runs.Run.{Run}
use Rattle.haya_text.specs.Chunks.{Chunk, push_str}
use Rattle.haya_text.specs.declared.strings.kind.ChunkKind.{ChunkKind}
use Rattle.haya_text.specs.declared.strings.kind.ChunkKind.TheVariants.{Normal, Verbatim, Math}
use Rattle.haya_bibtex_fields.specs.declared.texts.Kept.{Kept}
use Rattle.haya_bibtex_fields.specs.declared.texts.Kept.TheVariants.{All, NoVerbatim}

-- a list, unless it is empty
abbrev pub unless_empty : {A : Type 0} → List A → Option (List A)
unless_empty [] = None
unless_empty (x ∷ xs) = Some (x ∷ xs)

-- chunks, and others behind them: each joins the one before it where that is of its kind
abbrev pub followed_by : List Chunk → List Chunk → List Chunk
followed_by cs [] = cs
followed_by cs (d ∷ ds) = followed_by (push_str cs d.0 d.1) ds

-- the kinds of a title: all three
abbrev pub title_kind : Kind → ChunkKind
title_kind kind.Normal = Normal
title_kind kind.Verbatim = Verbatim
title_kind kind.Math = Math
title_kind kind.Free = Normal
title_kind kind.Special = Verbatim

-- the kinds of any other text: case is only a question of titles
abbrev pub plain_kind : Kind → ChunkKind
plain_kind kind.Normal = Normal
plain_kind kind.Verbatim = Normal
plain_kind kind.Math = Math
plain_kind kind.Free = Normal
plain_kind kind.Special = Normal

-- the kinds that are kept
abbrev pub kind_in : Kept → Kind → ChunkKind
kind_in All = title_kind
kind_in NoVerbatim = plain_kind

-- a character as a chunk
abbrev pub character_chunk : (Kind → ChunkKind) → ℕ × Kind → Chunk
character_chunk kind_of c = (encode_utf8 c.0, kind_of c.1)

-- the chunks of characters
abbrev pub chunks_of : (Kind → ChunkKind) → List (ℕ × Kind) → List Chunk
chunks_of kind_of cs = followed_by [] (map (character_chunk kind_of) cs)

-- the same by runs of characters
abbrev pub run_chunk : (Kind → ChunkKind) → Run → Chunk
run_chunk kind_of r = (string_bytes r.text, kind_of r.kind)

abbrev pub chunks_of_runs : (Kind → ChunkKind) → List Run → List Chunk
chunks_of_runs kind_of rs = followed_by [] (map (run_chunk kind_of) rs)

abbrev pub run_text : Run → List ℕ
run_text r = string_bytes r.text

-- what a text says as a title, as any other formatted text, and as plain text: its characters
-- alone; nothing, where it is empty
abbrev pub title_in : List ℕ → Option (List Chunk)
title_in text = unless_empty (chunks_of title_kind (text_chars (chars text)))

abbrev pub formatted_in : List ℕ → Option (List Chunk)
formatted_in text = unless_empty (chunks_of plain_kind (text_chars (chars text)))

abbrev pub plain_in : List ℕ → Option (List ℕ)
plain_in text = unless_empty (encode_utf8_all (map (λ c. c.0) (text_chars (chars text))))

-- the commands in a text that aren't known, in order
abbrev pub unknown_in : List ℕ → List (List ℕ)
unknown_in text = text_unknown (chars text)

-- the same where there may be no text
abbrev pub unknown_of : Option (List ℕ) → List (List ℕ)
unknown_of None = []
unknown_of (Some text) = unknown_in text
