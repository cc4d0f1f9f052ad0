-- What is serialized is read back.
use Rattle.std.proofs.Common.{◌≡◌, ℕ, Bool, true, false, cond, ◌&&◌, List, [], ◌∷◌, ◌++◌, refl, ap, sym, ◌∙◌, append_assoc, flat_map, Ok, Some}
use lib.Utf8.{scalar, scalars}
use Rattle.std.proofs.lemmas.Str.{chars-encodes, encodes-append, encode_ascii, scalars-chars}
use Rattle.std.proofs.Common.{lit<}
use Rattle.std.specs.Char.{encode_utf8}
use Rattle.std.specs.Prelude.{option_map}
use Rattle.std.specs.Result.{result_ok}
use Rattle.std.specs.Str.{chars, encode_utf8_all}
use Rattle.haya_text.specs.declared.strings.kind.ChunkKind.{ChunkKind}
use Rattle.haya_text.specs.declared.strings.kind.ChunkKind.TheVariants.{Normal, Verbatim, Math}
use Rattle.haya_text.specs.Chunks.{Chunk, characters_of_kind, characters}
use Rattle.haya_text.specs.Normal.{runs, norm}
use Rattle.haya_text.specs.Printing.{is_control, escape_of, to_serialized}
use Rattle.haya_text.specs.Reading.{result_after, kind_in, scan, chunks_read}
use Rattle.haya_text.proofs.Pushes.{AllUtf8}
use Rattle.haya_text.proofs.Scans.{result_after-append, result_after-nil, scan-plain, scan-backslash, scan-escape}
use Rattle.haya_text.proofs.Tells.{and-both, both-and}

-- the characters that a text is escaped as
escapes : List ℕ → List ℕ
escapes [] = []
escapes (c ∷ cs) = cond (is_control c) (92 ∷ c ∷ escapes cs) (c ∷ escapes cs)

-- a chunk as it is serialized, and what comes after it
written : ChunkKind → List ℕ → List ℕ → List ℕ
written Normal cs after = escapes cs ++ after
written Verbatim cs after = 123 ∷ (escapes cs ++ 125 ∷ after)
written Math cs after = 36 ∷ (escapes cs ++ 36 ∷ after)

-- the characters that chunks are serialized as
serials : List Chunk → List ℕ
serials [] = []
serials (c ∷ cs) = written c.1 (chars c.0) (serials cs)

encodes-escapes : (cs : List ℕ) → encode_utf8_all (escapes cs) ≡ flat_map escape_of cs
unfolding escapes
encodes-escapes [] = refl
encodes-escapes (c ∷ cs) = by_control (is_control c) (encodes-escapes cs)
  where
    by_control : (b : Bool) → encode_utf8_all (escapes cs) ≡ flat_map escape_of cs → encode_utf8_all (cond b (92 ∷ c ∷ escapes cs) (c ∷ escapes cs)) ≡ cond b (92 ∷ encode_utf8 c) (encode_utf8 c) ++ flat_map escape_of cs
    by_control true e = rw (encode_ascii 92 (lit< tt), e) refl
    by_control false e = rw e refl

encodes-serials : (cs : List Chunk) → encode_utf8_all (serials cs) ≡ to_serialized cs
unfolding serials written
encodes-serials [] = refl
encodes-serials ((text, Normal) ∷ cs) = encodes-append (escapes (chars text)) (serials cs) ∙ rw (encodes-escapes (chars text), encodes-serials cs) refl
encodes-serials ((text, Verbatim) ∷ cs) =
    rw (encode_ascii 123 (lit< tt), encodes-append (escapes (chars text)) (125 ∷ serials cs), encodes-escapes (chars text), encode_ascii 125 (lit< tt), encodes-serials cs) (ap (λ t. 123 ∷ t) (sym (append_assoc (flat_map escape_of (chars text)) (125 ∷ []) (to_serialized cs))))
encodes-serials ((text, Math) ∷ cs) =
    rw (encode_ascii 36 (lit< tt), encodes-append (escapes (chars text)) (36 ∷ serials cs), encodes-escapes (chars text), encode_ascii 36 (lit< tt), encodes-serials cs) (ap (λ t. 36 ∷ t) (sym (append_assoc (flat_map escape_of (chars text)) (36 ∷ []) (to_serialized cs))))

scalars-append : (cs ds : List ℕ) → scalars cs ≡ true → scalars ds ≡ true → scalars (cs ++ ds) ≡ true
scalars-append [] ds p q = q
scalars-append (c ∷ cs) ds p q = let both = and-both (scalar c) (scalars cs) p in both-and (scalar c) (scalars (cs ++ ds)) both.0 (scalars-append cs ds both.1 q)

scalars-escapes : (cs : List ℕ) → scalars cs ≡ true → scalars (escapes cs) ≡ true
unfolding escapes
scalars-escapes [] p = refl
scalars-escapes (c ∷ cs) p =
    let both = and-both (scalar c) (scalars cs) p in
    by_control (is_control c) (both-and (scalar c) (scalars (escapes cs)) both.0 (scalars-escapes cs both.1))
  where
    by_control : (b : Bool) → (scalar c && scalars (escapes cs)) ≡ true → scalars (cond b (92 ∷ c ∷ escapes cs) (c ∷ escapes cs)) ≡ true
    by_control true h = h
    by_control false h = h

scalars-written : (k : ChunkKind) (cs after : List ℕ) → scalars cs ≡ true → scalars after ≡ true → scalars (written k cs after) ≡ true
unfolding written
scalars-written Normal cs after p q = scalars-append (escapes cs) after (scalars-escapes cs p) q
scalars-written Verbatim cs after p q = scalars-append (escapes cs) (125 ∷ after) (scalars-escapes cs p) q
scalars-written Math cs after p q = scalars-append (escapes cs) (36 ∷ after) (scalars-escapes cs p) q

scalars-serials : (cs : List Chunk) → AllUtf8 cs → scalars (serials cs) ≡ true
unfolding serials
scalars-serials [] u = refl
scalars-serials (c ∷ cs) u = scalars-written c.1 (chars c.0) (serials cs) (scalars-chars c.0 u.0) (scalars-serials cs u.1)

chars-to_serialized : (cs : List Chunk) → AllUtf8 cs → chars (to_serialized cs) ≡ serials cs
chars-to_serialized cs u = ap chars (sym (encodes-serials cs)) ∙ chars-encodes (serials cs) (scalars-serials cs u)

-- escaped characters are read as themselves
scan-escapes : (d : ℕ) (m : Bool) (cs after : List ℕ) → scan d m false (escapes cs ++ after) ≡ result_after (characters_of_kind (kind_in d m) cs) (scan d m false after)
unfolding escapes
scan-escapes d m [] after = sym (result_after-nil _)
scan-escapes d m (c ∷ cs) after =
    by_control (is_control c) refl (ap (result_after ((c, kind_in d m) ∷ [])) (scan-escapes d m cs after) ∙ sym (result_after-append ((c, kind_in d m) ∷ []) (characters_of_kind (kind_in d m) cs) (scan d m false after)))
  where
    by_control : (b : Bool) → is_control c ≡ b
        → result_after ((c, kind_in d m) ∷ []) (scan d m false (escapes cs ++ after)) ≡ result_after (characters_of_kind (kind_in d m) (c ∷ cs)) (scan d m false after)
        → scan d m false (cond b (92 ∷ c ∷ escapes cs) (c ∷ escapes cs) ++ after) ≡ result_after (characters_of_kind (kind_in d m) (c ∷ cs)) (scan d m false after)
    by_control true h more = scan-backslash d m (c ∷ (escapes cs ++ after)) ∙ scan-escape d m c (escapes cs ++ after) h ∙ more
    by_control false h more = scan-plain d m c (escapes cs ++ after) h ∙ more

scan-written : (k : ChunkKind) (cs after : List ℕ) → scan 0 false false (written k cs after) ≡ result_after (characters_of_kind k cs) (scan 0 false false after)
unfolding written
scan-written Normal cs after = scan-escapes 0 false cs after
scan-written Verbatim cs after = scan-escapes 1 false cs (125 ∷ after)
scan-written Math cs after = scan-escapes 0 true cs (36 ∷ after)

scan-serials : (cs : List Chunk) → scan 0 false false (serials cs) ≡ Ok (characters cs)
unfolding serials
scan-serials [] = refl
scan-serials (c ∷ cs) = scan-written c.1 (chars c.0) (serials cs) ∙ ap (result_after (characters_of_kind c.1 (chars c.0))) (scan-serials cs)

-- every serialized list of chunks is read, as its normal form
pub reads-to_serialized : (cs : List Chunk) → AllUtf8 cs → chunks_read (to_serialized cs) ≡ Some (norm cs)
reads-to_serialized cs u = ap (λ r. option_map runs (result_ok r)) (ap (scan 0 false false) (chars-to_serialized cs u) ∙ scan-serials cs)
