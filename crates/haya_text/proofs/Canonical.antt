-- Longest runs have the characters that they are made of, and what is read is in longest runs.
use Rattle.std.proofs.Common.{◌≡◌, ◌≢◌, ℕ, Bool, true, false, List, [], ◌∷◌, ◌++◌, refl, ap, sym, ◌∙◌, Some, subst, arith, length, length-append}
use denote.Enum.Bare.{sameb, same_true, true_same}
use lib.Utf8.{scalar, scalars}
use Rattle.std.proofs.lemmas.List.{append-nil}
use Rattle.std.proofs.lemmas.Str.{chars-append, chars-encodes, scalars-chars, encodes-chars, IsUtf8-append, length-encode, len_utf8_bounds}
use Rattle.std.specs.Char.{encode_utf8}
use Rattle.std.specs.Str.{IsUtf8, chars, encode_utf8_all}
use Rattle.haya_text.specs.contracts.strings.kind.ChunkKind.{the_type}
use Rattle.haya_text.specs.declared.strings.kind.ChunkKind.{ChunkKind}
use Rattle.haya_text.specs.Chunks.{Chunk, Character, characters_of_kind, characters}
use Rattle.haya_text.specs.Grammar.{Extent, Body, no_body, body_plain, body_backslash, body_escape, Items, no_items, plain, lone_backslash, escape, group, math, open_group, open_math, ReadsAs}
use Rattle.haya_text.specs.Normal.{with_first, runs, norm, IsNormal}
use Rattle.haya_text.specs.Printing.{to_serialized}
use Rattle.haya_text.specs.Reading.{chunks_read}
use Rattle.haya_text.proofs.Grammars.{reads-as}
use Rattle.haya_text.proofs.Pushes.{AllUtf8}
use Rattle.haya_text.proofs.Serials.{reads-to_serialized}
use Rattle.haya_text.proofs.Tells.{and-both, both-and}

-- every character is one of Unicode
abbrev AllScalars : List Character → Type 0
AllScalars [] = Unit {0}
AllScalars (x ∷ xs) = (scalar x.0 ≡ true) × AllScalars xs

AllScalars-append : (xs ys : List Character) → AllScalars xs → AllScalars ys → AllScalars (xs ++ ys)
AllScalars-append [] ys p q = q
AllScalars-append (x ∷ xs) ys p q = (p.0, AllScalars-append xs ys p.1 q)

scalars-split : (cs ds : List ℕ) → scalars (cs ++ ds) ≡ true → (scalars cs ≡ true) × (scalars ds ≡ true)
scalars-split [] ds p = (refl, p)
scalars-split (c ∷ cs) ds p =
    let both = and-both (scalar c) (scalars (cs ++ ds)) p in
    let rest = scalars-split cs ds both.1 in
    (both-and (scalar c) (scalars cs) both.0 rest.0, rest.1)

-- what is read of characters of Unicode
body-scalars : {e : Extent} {text : List ℕ} {xs : List Character} → Body e text xs → scalars text ≡ true → AllScalars xs
body-scalars no_body p = tt
body-scalars (body_plain {c = c} {cs = cs} h r) p = let both = and-both (scalar c) (scalars cs) p in (both.0, body-scalars r both.1)
body-scalars (body_backslash a r) p = (refl, body-scalars r p)
body-scalars (body_escape {c = c} {cs = cs} h r) p = let both = and-both (scalar c) (scalars cs) p in (both.0, body-scalars r both.1)

items-scalars : {e : Extent} {k : ChunkKind} {text : List ℕ} {xs : List Character} → Items e k text xs → scalars text ≡ true → AllScalars xs
items-scalars no_items p = tt
items-scalars (plain {c = c} {cs = cs} h r) p = let both = and-both (scalar c) (scalars cs) p in (both.0, items-scalars r both.1)
items-scalars (lone_backslash a r) p = (refl, items-scalars r p)
items-scalars (escape {c = c} {cs = cs} h r) p = let both = and-both (scalar c) (scalars cs) p in (both.0, items-scalars r both.1)
items-scalars (group inner cs ys xs e z body r) p =
    let parts = scalars-split inner (125 ∷ cs) (sym (ap scalars e) ∙ p) in
    subst AllScalars (sym z) (AllScalars-append ys xs (items-scalars body parts.0) (items-scalars r parts.1))
items-scalars (math inner cs ys xs e z body r) p =
    let parts = scalars-split inner (36 ∷ cs) (sym (ap scalars e) ∙ p) in
    subst AllScalars (sym z) (AllScalars-append ys xs (body-scalars body parts.0) (items-scalars r parts.1))
items-scalars (open_group body) p = items-scalars body p
items-scalars (open_math body) p = body-scalars body p

-- one character as bytes
IsUtf8-one : (c : ℕ) → scalar c ≡ true → IsUtf8 (encode_utf8 c)
IsUtf8-one c h = (c ∷ [], (both-and (scalar c) true h refl, append-nil (encode_utf8 c)))

chars-one : (c : ℕ) → scalar c ≡ true → chars (encode_utf8 c) ≡ c ∷ []
chars-one c h = ap chars (sym (append-nil (encode_utf8 c))) ∙ chars-encodes (c ∷ []) (both-and (scalar c) true h refl)

-- a character before chunks
AllUtf8-with_first : (x : Character) (cs : List Chunk) → scalar x.0 ≡ true → AllUtf8 cs → AllUtf8 (with_first x cs)
AllUtf8-with_first x [] h u = (IsUtf8-one x.0 h, tt)
AllUtf8-with_first x (c ∷ cs) h u = by_kind (sameb the_type x.1 c.1) refl
  where
    by_kind : (b : Bool) → sameb the_type x.1 c.1 ≡ b → AllUtf8 (with_first x (c ∷ cs))
    by_kind true e = rw e (IsUtf8-append (encode_utf8 x.0) c.0 (IsUtf8-one x.0 h) u.0, u.1)
    by_kind false e = rw e (IsUtf8-one x.0 h, u)

characters-with_first : (x : Character) (cs : List Chunk) → scalar x.0 ≡ true → characters (with_first x cs) ≡ x ∷ characters cs
characters-with_first x [] h = rw (chars-one x.0 h) refl
characters-with_first x (c ∷ cs) h = by_kind (sameb the_type x.1 c.1) refl
  where
    by_kind : (b : Bool) → sameb the_type x.1 c.1 ≡ b → characters (with_first x (c ∷ cs)) ≡ x ∷ characters (c ∷ cs)
    by_kind true e =
        let k : x.1 ≡ c.1 = same_true the_type tt x.1 c.1 e in
        rw (e, chars-append (encode_utf8 x.0) c.0 (IsUtf8-one x.0 h), chars-one x.0 h, ← k) refl
    by_kind false e = rw (e, chars-one x.0 h) refl

AllUtf8-runs : (xs : List Character) → AllScalars xs → AllUtf8 (runs xs)
AllUtf8-runs [] h = tt
AllUtf8-runs (x ∷ xs) h = AllUtf8-with_first x (runs xs) h.0 (AllUtf8-runs xs h.1)

characters-runs : (xs : List Character) → AllScalars xs → characters (runs xs) ≡ xs
characters-runs [] h = refl
characters-runs (x ∷ xs) h = characters-with_first x (runs xs) h.0 ∙ ap (λ l. x ∷ l) (characters-runs xs h.1)

-- what is read of a text
read-scalars : (text : List ℕ) (cs : List Chunk) → IsUtf8 text → (r : ReadsAs text cs) → AllScalars r.xs
read-scalars text cs u r = items-scalars r.items (scalars-chars text u)

pub read-norm : (text : List ℕ) (cs : List Chunk) → IsUtf8 text → chunks_read text ≡ Some cs → norm cs ≡ cs
read-norm text cs u h =
    let r = reads-as text cs h in
    ap norm r.runs ∙ ap runs (characters-runs r.xs (read-scalars text cs u r)) ∙ sym r.runs

read-utf8 : (text : List ℕ) (cs : List Chunk) → IsUtf8 text → chunks_read text ≡ Some cs → AllUtf8 cs
read-utf8 text cs u h = let r = reads-as text cs h in subst AllUtf8 (sym r.runs) (AllUtf8-runs r.xs (read-scalars text cs u r))

-- what is read is read back from its serialized text
pub read-back : (text : List ℕ) (cs : List Chunk) → IsUtf8 text → chunks_read text ≡ Some cs → chunks_read (to_serialized cs) ≡ Some cs
read-back text cs u h = reads-to_serialized cs (read-utf8 text cs u h) ∙ ap (λ ds. Some ds) (read-norm text cs u h)

pub alike-to_serialized : (s t : List ℕ) (cs ds : List Chunk) → IsUtf8 s → IsUtf8 t → chunks_read s ≡ Some cs → chunks_read t ≡ Some ds → to_serialized cs ≡ to_serialized ds → cs ≡ ds
alike-to_serialized s t cs ds u v g h e =
    let one = read-back s cs u g in
    let two = read-back t ds v h in
    let both : chunks_read (to_serialized cs) ≡ chunks_read (to_serialized ds) = ap chunks_read e in
    cc

-- longest runs are normal
encode_some : (c : ℕ) (bs : List ℕ) → encode_utf8 c ++ bs ≢ []
encode_some c bs e = omega (arith, length-encode c, len_utf8_bounds c, length-append (encode_utf8 c) bs, ap length e)

differ : (j k : ChunkKind) → sameb the_type j k ≡ false → j ≢ k
differ j k h e = let same = true_same the_type j k e in cc

IsNormal-with_first : (x : Character) (cs : List Chunk) → IsNormal cs → IsNormal (with_first x cs)
IsNormal-with_first x [] n = λ e. encode_some x.0 [] (append-nil (encode_utf8 x.0) ∙ e)
IsNormal-with_first x (c ∷ []) n = by_kind (sameb the_type x.1 c.1) refl
  where
    by_kind : (b : Bool) → sameb the_type x.1 c.1 ≡ b → IsNormal (with_first x (c ∷ []))
    by_kind true h = rw h (encode_some x.0 c.0)
    by_kind false h = rw h ((λ e. encode_some x.0 [] (append-nil (encode_utf8 x.0) ∙ e)), differ x.1 c.1 h, n)
IsNormal-with_first x (c ∷ d ∷ cs) n = by_kind (sameb the_type x.1 c.1) refl
  where
    by_kind : (b : Bool) → sameb the_type x.1 c.1 ≡ b → IsNormal (with_first x (c ∷ d ∷ cs))
    by_kind true h =
        let k : x.1 ≡ c.1 = same_true the_type tt x.1 c.1 h in
        rw h (encode_some x.0 c.0, (λ e. n.1 (sym k ∙ e)), n.2)
    by_kind false h = rw h ((λ e. encode_some x.0 [] (append-nil (encode_utf8 x.0) ∙ e)), differ x.1 c.1 h, n)

pub IsNormal-runs : (xs : List Character) → IsNormal (runs xs)
IsNormal-runs [] = tt
IsNormal-runs (x ∷ xs) = IsNormal-with_first x (runs xs) (IsNormal-runs xs)

AllScalars-characters_of_kind : (k : ChunkKind) (cs : List ℕ) → scalars cs ≡ true → AllScalars (characters_of_kind k cs)
AllScalars-characters_of_kind k [] p = tt
AllScalars-characters_of_kind k (c ∷ cs) p = let both = and-both (scalar c) (scalars cs) p in (both.0, AllScalars-characters_of_kind k cs both.1)

AllScalars-characters : (cs : List Chunk) → AllUtf8 cs → AllScalars (characters cs)
AllScalars-characters [] u = tt
AllScalars-characters (c ∷ cs) u = AllScalars-append (characters_of_kind c.1 (chars c.0)) (characters cs) (AllScalars-characters_of_kind c.1 (chars c.0) (scalars-chars c.0 u.0)) (AllScalars-characters cs u.1)

pub characters-norm : (cs : List Chunk) → AllUtf8 cs → characters (norm cs) ≡ characters cs
characters-norm cs u = characters-runs (characters cs) (AllScalars-characters cs u)

-- chunks do not begin with one of this kind
BeginsNot : ChunkKind → List Chunk → Type 0
BeginsNot k [] = Unit {0}
BeginsNot k (c ∷ cs) = k ≢ c.1

differs : (j k : ChunkKind) → j ≢ k → sameb the_type j k ≡ false
differs j k n = by_kind (sameb the_type j k) refl
  where
    by_kind : (b : Bool) → sameb the_type j k ≡ b → sameb the_type j k ≡ false
    by_kind true h = absurd (n (same_true the_type tt j k h))
    by_kind false h = h

with_first-other : (x : Character) (cs : List Chunk) → BeginsNot x.1 cs → with_first x cs ≡ (encode_utf8 x.0, x.1) ∷ cs
unfolding BeginsNot
with_first-other x [] n = refl
with_first-other x (c ∷ cs) n = rw (differs x.1 c.1 n) refl

-- a run of one kind before others
runs-characters_of_kind : (k : ChunkKind) (c : ℕ) (cs : List ℕ) (xs : List Character) → BeginsNot k (runs xs) → runs (characters_of_kind k (c ∷ cs) ++ xs) ≡ (encode_utf8_all (c ∷ cs), k) ∷ runs xs
runs-characters_of_kind k c [] xs n = with_first-other (c, k) (runs xs) n ∙ ap (λ bs. (bs, k) ∷ runs xs) (sym (append-nil (encode_utf8 c)))
runs-characters_of_kind k c (d ∷ cs) xs n = rw (runs-characters_of_kind k d cs xs n, true_same the_type k k refl) refl

begins : (c : Chunk) (cs : List Chunk) → IsNormal (c ∷ cs) → BeginsNot c.1 cs
unfolding BeginsNot
begins c [] n = tt
begins c (d ∷ cs) n = n.1

rest : (c : Chunk) (cs : List Chunk) → IsNormal (c ∷ cs) → IsNormal cs
rest c [] n = tt
rest c (d ∷ cs) n = n.2

some : (c : Chunk) (cs : List Chunk) → IsNormal (c ∷ cs) → c.0 ≢ []
some c [] n = n
some c (d ∷ cs) n = n.0

pub norm-normal : (cs : List Chunk) → AllUtf8 cs → IsNormal cs → norm cs ≡ cs
norm-normal [] u n = refl
norm-normal (c ∷ cs) u n = by_text (chars c.0) refl (norm-normal cs u.1 (rest c cs n))
  where
    by_text : (text : List ℕ) → chars c.0 ≡ text → norm cs ≡ cs → norm (c ∷ cs) ≡ c ∷ cs
    by_text [] e more = absurd (some c cs n (sym (encodes-chars c.0 u.0) ∙ ap encode_utf8_all e))
    by_text (d ∷ ds) e more =
        let same : encode_utf8_all (d ∷ ds) ≡ c.0 = sym (ap encode_utf8_all e) ∙ encodes-chars c.0 u.0 in
        ap (λ t. runs (characters_of_kind c.1 t ++ characters cs)) e ∙ runs-characters_of_kind c.1 d ds (characters cs) (subst (BeginsNot c.1) (sym more) (begins c cs n))
        ∙ ap (λ (p : Chunk × List Chunk). p.0 ∷ p.1) (λ i. ((same i, c.1), more i))

-- one chunk that isn't empty
pub chunk-back : (bytes : List ℕ) (kind : ChunkKind) → IsUtf8 bytes → bytes ≢ [] → chunks_read (to_serialized ((bytes, kind) ∷ [])) ≡ Some ((bytes, kind) ∷ [])
chunk-back bytes kind u some =
    let one : List Chunk = (bytes, kind) ∷ [] in
    reads-to_serialized one (u, tt) ∙ ap (λ ds. Some ds) (norm-normal one (u, tt) some)
