-- Chunks by runs, by bytes and by characters.
use Rattle.std.proofs.Common.{◌≡◌, ℕ, ◌<◌, Bool, true, false, cond, List, [], ◌∷◌, ◌++◌, length, map, refl, ap, sym, ◌∙◌, append_assoc, arith, string_bytes, flat_map}
use denote.Enum.Bare.{sameb}
use Rattle.haya_text.specs.contracts.strings.kind.ChunkKind.{the_type}
use Rattle.haya_text.specs.declared.strings.kind.ChunkKind.{ChunkKind}
use Rattle.haya_text.specs.declared.strings.kind.ChunkKind.TheVariants.{Normal, Verbatim, Math}
use Rattle.haya_text.specs.Chunks.{Chunk, ends_in, grow_last, push_str}
use Rattle.haya_latex.specs.declared.kinds.Kind.{Kind}
use Rattle.haya_latex.specs.RunViews.{HasText, run_bytes}
use Rattle.haya_latex.specs.Texts.{bytes_of, char_bytes}
use Rattle.haya_latex.specs.declared.runs.Run.{Run}
use Rattle.haya_bibtex_fields.specs.FieldTexts.{character_chunk, chunks_of, chunks_of_runs, followed_by, run_chunk, run_text, unless_empty}
use Rattle.std.specs.Prelude.{All, Some, encode_utf8, encode_utf8_all}
use Rattle.std.proofs.lemmas.List.Elements.{All-head, All-tail}
use Rattle.std.proofs.lemmas.Str.{len_utf8_bounds, length-encode}

same_kinds : (k : ChunkKind) → sameb the_type k k ≡ true
same_kinds Normal = refl
same_kinds Verbatim = refl
same_kinds Math = refl

grow_grow : (cs : List Chunk) (a b : List ℕ) → grow_last (grow_last cs a) b ≡ grow_last cs (a ++ b)
grow_grow [] a b = refl
grow_grow (c ∷ []) a b = ap (λ t. (t, c.1) ∷ []) (append_assoc c.0 a b)
grow_grow (c ∷ d ∷ []) a b = ap (λ t. c ∷ (t, d.1) ∷ []) (append_assoc d.0 a b)
grow_grow (c ∷ d ∷ e ∷ es) a b = ap (λ cs. c ∷ cs) (grow_grow (d ∷ e ∷ es) a b)

ends_grow : (cs : List Chunk) (k : ChunkKind) (a : List ℕ) → ends_in k (grow_last cs a) ≡ ends_in k cs
ends_grow [] k a = refl
ends_grow (c ∷ []) k a = refl
ends_grow (c ∷ d ∷ []) k a = refl
ends_grow (c ∷ d ∷ e ∷ es) k a = ends_grow (d ∷ e ∷ es) k a

ends_new : (cs : List Chunk) (k : ChunkKind) (a : List ℕ) → ends_in k (cs ++ (a, k) ∷ []) ≡ true
ends_new [] k a = same_kinds k
ends_new (c ∷ []) k a = same_kinds k
ends_new (c ∷ d ∷ ds) k a = ends_new (d ∷ ds) k a

grow_new : (cs : List Chunk) (k : ChunkKind) (a b : List ℕ) →
    grow_last (cs ++ (a, k) ∷ []) b ≡ cs ++ (a ++ b, k) ∷ []
grow_new [] k a b = refl
grow_new (c ∷ []) k a b = refl
grow_new (c ∷ d ∷ ds) k a b = ap (λ cs. c ∷ cs) (grow_new (d ∷ ds) k a b)

-- two pushes of one kind are one
pub push_push : (cs : List Chunk) (k : ChunkKind) (a b : List ℕ) →
    push_str (push_str cs a k) b k ≡ push_str cs (a ++ b) k
push_push cs k a b = by_end (ends_in k cs) refl
  where
    by_end : (e : Bool) → ends_in k cs ≡ e → push_str (cond e (grow_last cs a) (cs ++ (a, k) ∷ [])) b k ≡ cond e (grow_last cs (a ++ b)) (cs ++ (a ++ b, k) ∷ [])
    by_end true h =
        let e : ends_in k (grow_last cs a) ≡ true = ends_grow cs k a ∙ h in
        rw e (grow_grow cs a b)
    by_end false h = rw (ends_new cs k a) (grow_new cs k a b)

pub followed_append : (cs xs ys : List Chunk) → followed_by cs (xs ++ ys) ≡ followed_by (followed_by cs xs) ys
followed_append cs [] ys = refl
followed_append cs (x ∷ xs) ys = followed_append (push_str cs x.0 x.1) xs ys

-- a byte as a chunk
abbrev pub byte_chunk : (Kind → ChunkKind) → ℕ × Kind → Chunk
byte_chunk kind_of b = (b.0 ∷ [], kind_of b.1)

abbrev pub by_bytes : (Kind → ChunkKind) → List (ℕ × Kind) → List Chunk
by_bytes kind_of bs = map (byte_chunk kind_of) bs

-- a text that isn't empty is pushed as its bytes are
bytes_pushed : (kind_of : Kind → ChunkKind) (cs : List Chunk) (k : Kind) (b : ℕ) (bs : List ℕ) →
    followed_by cs (by_bytes kind_of (bytes_of k (b ∷ bs))) ≡ push_str cs (b ∷ bs) (kind_of k)
bytes_pushed kind_of cs k b [] = refl
bytes_pushed kind_of cs k b (c ∷ bs) =
    bytes_pushed kind_of (push_str cs (b ∷ []) (kind_of k)) k c bs
    ∙ push_push cs (kind_of k) (b ∷ []) (c ∷ bs)

pub text_pushed : (kind_of : Kind → ChunkKind) (cs : List Chunk) (k : Kind) (text : List ℕ) → 0 < length text →
    followed_by cs (by_bytes kind_of (bytes_of k text)) ≡ push_str cs text (kind_of k)
text_pushed kind_of cs k [] some = absurd (omega arith)
text_pushed kind_of cs k (b ∷ bs) some = bytes_pushed kind_of cs k b bs

pub by_bytes-append : (kind_of : Kind → ChunkKind) (xs ys : List (ℕ × Kind)) →
    by_bytes kind_of (xs ++ ys) ≡ by_bytes kind_of xs ++ by_bytes kind_of ys
by_bytes-append kind_of [] ys = refl
by_bytes-append kind_of (x ∷ xs) ys = ap (λ l. byte_chunk kind_of x ∷ l) (by_bytes-append kind_of xs ys)

has_text : (r : Run) → HasText r → 0 < length (string_bytes r.text)
has_text r h = let e = r.text.bytes.ok.0 in omega (arith, e)

-- the chunks of runs are those of their bytes
pub runs_by_bytes : (kind_of : Kind → ChunkKind) (cs : List Chunk) (rs : List Run) → All HasText rs →
    followed_by cs (map (run_chunk kind_of) rs) ≡ followed_by cs (by_bytes kind_of (flat_map run_bytes rs))
runs_by_bytes kind_of cs [] some = refl
runs_by_bytes kind_of cs (r ∷ rs) some =
    let text = string_bytes r.text in
    let here : followed_by cs (by_bytes kind_of (run_bytes r)) ≡ push_str cs text (kind_of r.kind) =
    text_pushed kind_of cs r.kind text (has_text r (All-head HasText r rs some)) in
    runs_by_bytes kind_of (push_str cs text (kind_of r.kind)) rs (All-tail HasText r rs some)
    ∙ ap (λ (l : List Chunk). followed_by l (by_bytes kind_of (flat_map run_bytes rs))) (sym here)
    ∙ sym (followed_append cs (by_bytes kind_of (run_bytes r)) (by_bytes kind_of (flat_map run_bytes rs)))
    ∙ ap (followed_by cs) (sym (by_bytes-append kind_of (run_bytes r) (flat_map run_bytes rs)))

-- and so are the chunks of characters
pub characters_by_bytes : (kind_of : Kind → ChunkKind) (cs : List Chunk) (xs : List (ℕ × Kind)) →
    followed_by cs (map (character_chunk kind_of) xs) ≡ followed_by cs (by_bytes kind_of (flat_map char_bytes xs))
characters_by_bytes kind_of cs [] = refl
characters_by_bytes kind_of cs (x ∷ xs) =
    let text = encode_utf8 x.0 in
    let some : 0 < length text = omega (arith, length-encode x.0, (len_utf8_bounds x.0).0) in
    let here : followed_by cs (by_bytes kind_of (char_bytes x)) ≡ push_str cs text (kind_of x.1) =
    text_pushed kind_of cs x.1 text some in
    characters_by_bytes kind_of (push_str cs text (kind_of x.1)) xs
    ∙ ap (λ (l : List Chunk). followed_by l (by_bytes kind_of (flat_map char_bytes xs))) (sym here)
    ∙ sym (followed_append cs (by_bytes kind_of (char_bytes x)) (by_bytes kind_of (flat_map char_bytes xs)))
    ∙ ap (followed_by cs) (sym (by_bytes-append kind_of (char_bytes x) (flat_map char_bytes xs)))

-- so runs with the bytes of characters have their chunks
pub runs_as_characters : (kind_of : Kind → ChunkKind) (rs : List Run) (xs : List (ℕ × Kind)) →
    flat_map run_bytes rs ≡ flat_map char_bytes xs → All HasText rs →
    chunks_of_runs kind_of rs ≡ chunks_of kind_of xs
runs_as_characters kind_of rs xs same some =
    runs_by_bytes kind_of [] rs some
    ∙ ap (λ bs. followed_by [] (by_bytes kind_of bs)) same
    ∙ sym (characters_by_bytes kind_of [] xs)

-- a text with the bytes of characters is their one chunk
text_as_characters : (kind_of : Kind → ChunkKind) (k : Kind) (text : List ℕ) (xs : List (ℕ × Kind)) →
    flat_map char_bytes xs ≡ bytes_of k text → 0 < length text →
    chunks_of kind_of xs ≡ (text, kind_of k) ∷ []
text_as_characters kind_of k text xs same some =
    characters_by_bytes kind_of [] xs
    ∙ ap (λ bs. followed_by [] (by_bytes kind_of bs)) same
    ∙ text_pushed kind_of [] k text some

-- which isn't empty
pub one_chunk_in : (kind_of : Kind → ChunkKind) (k : Kind) (text : List ℕ) (xs : List (ℕ × Kind)) →
    flat_map char_bytes xs ≡ bytes_of k text → 0 < length text →
    unless_empty (chunks_of kind_of xs) ≡ Some ((text, kind_of k) ∷ [])
one_chunk_in kind_of k text xs same some = ap unless_empty (text_as_characters kind_of k text xs same some)

-- ---- plain text

values_of : (k : Kind) (bs : List ℕ) → map (λ b. b.0) (bytes_of k bs) ≡ bs
values_of k [] = refl
values_of k (b ∷ bs) = ap (λ l. b ∷ l) (values_of k bs)

values-append : (xs ys : List (ℕ × Kind)) →
    map (λ b. b.0) (xs ++ ys) ≡ map (λ b. b.0) xs ++ map (λ b. b.0) ys
values-append [] ys = refl
values-append (x ∷ xs) ys = ap (λ l. x.0 ∷ l) (values-append xs ys)

-- the bytes of runs are their texts
plain_runs : (rs : List Run) → flat_map run_text rs ≡ map (λ b. b.0) (flat_map run_bytes rs)
plain_runs [] = refl
plain_runs (r ∷ rs) =
    ap (λ l. string_bytes r.text ++ l) (plain_runs rs)
    ∙ ap (λ l. l ++ map (λ b. b.0) (flat_map run_bytes rs)) (sym (values_of r.kind (string_bytes r.text)))
    ∙ sym (values-append (run_bytes r) (flat_map run_bytes rs))

-- the bytes of characters are those of the text that they are
plain_characters : (xs : List (ℕ × Kind)) →
    map (λ b. b.0) (flat_map char_bytes xs) ≡ encode_utf8_all (map (λ c. c.0) xs)
plain_characters [] = refl
plain_characters (x ∷ xs) =
    values-append (char_bytes x) (flat_map char_bytes xs)
    ∙ ap (λ l. l ++ map (λ b. b.0) (flat_map char_bytes xs)) (values_of x.1 (encode_utf8 x.0))
    ∙ ap (λ l. encode_utf8 x.0 ++ l) (plain_characters xs)

-- so runs with the bytes of characters are their plain text
pub runs_as_plain : (rs : List Run) (xs : List (ℕ × Kind)) → flat_map run_bytes rs ≡ flat_map char_bytes xs →
    flat_map run_text rs ≡ encode_utf8_all (map (λ c. c.0) xs)
runs_as_plain rs xs same = plain_runs rs ∙ ap (λ bs. map (λ b. b.0) bs) same ∙ plain_characters xs

-- a text with the bytes of characters is theirs
text_as_plain : (k : Kind) (text : List ℕ) (xs : List (ℕ × Kind)) → flat_map char_bytes xs ≡ bytes_of k text →
    text ≡ encode_utf8_all (map (λ c. c.0) xs)
text_as_plain k text xs same = sym (values_of k text) ∙ (sym (ap (λ bs. map (λ b. b.0) bs) same) ∙ plain_characters xs)

some_text : (text : List ℕ) → 0 < length text → unless_empty text ≡ Some text
some_text [] some = absurd (omega arith)
some_text (b ∷ bs) some = refl

pub plain_text_in : (k : Kind) (text : List ℕ) (xs : List (ℕ × Kind)) →
    flat_map char_bytes xs ≡ bytes_of k text → 0 < length text →
    unless_empty (encode_utf8_all (map (λ c. c.0) xs)) ≡ Some text
plain_text_in k text xs same some = ap unless_empty (sym (text_as_plain k text xs same)) ∙ some_text text some
