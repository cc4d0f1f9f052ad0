-- Pushes keep longest runs.
use Rattle.std.proofs.Common.{◌≡◌, ◌≢◌, ℕ, Bool, true, false, List, [], ◌∷◌, ◌++◌, refl, ap, sym, ◌∙◌, append_assoc}
use Rattle.std.proofs.lemmas.List.{append-nil}
use Rattle.std.proofs.lemmas.Str.{encodes-chars}
use denote.Enum.Bare.{sameb, same_true}
use Rattle.std.specs.Char.{encode_utf8}
use Rattle.std.specs.Str.{chars, encode_utf8_all, IsUtf8}
use Rattle.haya_text.specs.contracts.strings.kind.ChunkKind.{the_type}
use Rattle.haya_text.specs.declared.strings.kind.ChunkKind.{ChunkKind}
use Rattle.haya_text.specs.declared.strings.kind.ChunkKind.TheVariants.{Normal, Verbatim, Math}
use Rattle.haya_text.specs.Chunks.{Chunk, Character, characters, characters_of_kind, ends_in, grow_last, push_str}
use Rattle.haya_text.specs.Normal.{with_first, runs, norm}

-- a character before a push
with_first-push_str : (y : Character) (ps : List Chunk) (text : List ℕ) (kind : ChunkKind) → with_first y (push_str ps text kind) ≡ push_str (with_first y ps) text kind
with_first-push_str y [] text kind = by_kind (sameb the_type y.1 kind) refl
  where
    by_kind : (b : Bool) → sameb the_type y.1 kind ≡ b → with_first y ((text, kind) ∷ []) ≡ push_str ((encode_utf8 y.0, y.1) ∷ []) text kind
    by_kind true h = simp h
    by_kind false h = simp h
with_first-push_str y (p ∷ []) text kind = by_kinds (sameb the_type y.1 p.1) refl (sameb the_type p.1 kind) refl
  where
    by_kinds : (b : Bool) → sameb the_type y.1 p.1 ≡ b → (d : Bool) → sameb the_type p.1 kind ≡ d → with_first y (push_str (p ∷ []) text kind) ≡ push_str (with_first y (p ∷ [])) text kind
    by_kinds true h true k =
        let l : sameb the_type y.1 kind ≡ true = ap (λ x. sameb the_type x kind) (same_true the_type tt y.1 p.1 h) ∙ k in
        simp (h, k, l, append_assoc)
    by_kinds true h false k =
        let l : sameb the_type y.1 kind ≡ false = ap (λ x. sameb the_type x kind) (same_true the_type tt y.1 p.1 h) ∙ k in
        simp (h, k, l)
    by_kinds false h true k = simp (h, k)
    by_kinds false h false k = simp (h, k)
with_first-push_str y (p ∷ q ∷ ps) text kind = by_kinds (sameb the_type y.1 p.1) refl (ends_in kind (q ∷ ps)) refl
  where
    by_kinds : (b : Bool) → sameb the_type y.1 p.1 ≡ b → (d : Bool) → ends_in kind (q ∷ ps) ≡ d → with_first y (push_str (p ∷ q ∷ ps) text kind) ≡ push_str (with_first y (p ∷ q ∷ ps)) text kind
    by_kinds true h true k = simp (h, k)
    by_kinds true h false k = simp (h, k)
    by_kinds false h true k = simp (h, k)
    by_kinds false h false k = simp (h, k)

-- a character more
runs-push_str : (xs : List Character) (x : Character) → runs (xs ++ x ∷ []) ≡ push_str (runs xs) (encode_utf8 x.0) x.1
runs-push_str [] x = refl
runs-push_str (y ∷ xs) x = ap (with_first y) (runs-push_str xs x) ∙ with_first-push_str y (runs xs) (encode_utf8 x.0) x.1

-- a push of one character keeps the longest runs
pub norm-push_str : (old new : List Chunk) (c : ℕ) (kind : ChunkKind) → old ≡ norm old → new ≡ push_str old (encode_utf8 c) kind → characters new ≡ characters old ++ (c, kind) ∷ [] → new ≡ norm new
norm-push_str old new c kind h e f =
    e ∙ ap (λ ps. push_str ps (encode_utf8 c) kind) h ∙ sym (runs-push_str (characters old) (c, kind)) ∙ ap runs (sym f)

-- a second push of a kind is one push with the first
grow_last-twice : (ps : List Chunk) (a b : List ℕ) → grow_last (grow_last ps a) b ≡ grow_last ps (a ++ b)
grow_last-twice [] a b = refl
grow_last-twice (p ∷ []) a b = rw (append_assoc p.0 a b) refl
grow_last-twice (p ∷ q ∷ []) a b = ap (λ cs. p ∷ cs) (grow_last-twice (q ∷ []) a b)
grow_last-twice (p ∷ q ∷ r ∷ ps) a b = ap (λ cs. p ∷ cs) (grow_last-twice (q ∷ r ∷ ps) a b)

ends_in-grown : (ps : List Chunk) (a : List ℕ) (kind : ChunkKind) → ends_in kind (grow_last ps a) ≡ ends_in kind ps
ends_in-grown [] a kind = refl
ends_in-grown (p ∷ []) a kind = refl
ends_in-grown (p ∷ q ∷ []) a kind = refl
ends_in-grown (p ∷ q ∷ r ∷ ps) a kind = ends_in-grown (q ∷ r ∷ ps) a kind

sameb_self : (kind : ChunkKind) → sameb the_type kind kind ≡ true
sameb_self Normal = refl
sameb_self Verbatim = refl
sameb_self Math = refl

ends_in-added : (ps : List Chunk) (a : List ℕ) (kind : ChunkKind) → ends_in kind (ps ++ (a, kind) ∷ []) ≡ true
ends_in-added [] a kind = sameb_self kind
ends_in-added (p ∷ []) a kind = sameb_self kind
ends_in-added (p ∷ q ∷ ps) a kind = ends_in-added (q ∷ ps) a kind

grow_last-added : (ps : List Chunk) (a b : List ℕ) (kind : ChunkKind) → grow_last (ps ++ (a, kind) ∷ []) b ≡ ps ++ (a ++ b, kind) ∷ []
grow_last-added [] a b kind = refl
grow_last-added (p ∷ []) a b kind = refl
grow_last-added (p ∷ q ∷ ps) a b kind = ap (λ cs. p ∷ cs) (grow_last-added (q ∷ ps) a b kind)

push_str-twice : (ps : List Chunk) (a b : List ℕ) (kind : ChunkKind) → push_str (push_str ps a kind) b kind ≡ push_str ps (a ++ b) kind
push_str-twice ps a b kind = by_end (ends_in kind ps) refl
  where
    by_end : (e : Bool) → ends_in kind ps ≡ e → push_str (push_str ps a kind) b kind ≡ push_str ps (a ++ b) kind
    by_end true h =
        let l : ends_in kind (grow_last ps a) ≡ true = ends_in-grown ps a kind ∙ h in
        simp (h, l, grow_last-twice ps a b)
    by_end false h =
        let l : ends_in kind (ps ++ (a, kind) ∷ []) ≡ true = ends_in-added ps a kind in
        simp (h, l, grow_last-added ps a b kind)

-- a character and then more of its kind
runs-push_run : (xs : List Character) (c : ℕ) (cs : List ℕ) (kind : ChunkKind) → runs (xs ++ characters_of_kind kind (c ∷ cs)) ≡ push_str (runs xs) (encode_utf8_all (c ∷ cs)) kind
runs-push_run xs c [] kind = rw (append-nil (encode_utf8 c)) (runs-push_str xs (c, kind))
runs-push_run xs c (d ∷ ds) kind =
    ap runs (sym (append_assoc xs ((c, kind) ∷ []) (characters_of_kind kind (d ∷ ds))))
    ∙ runs-push_run (xs ++ (c, kind) ∷ []) d ds kind
    ∙ ap (λ ps. push_str ps (encode_utf8_all (d ∷ ds)) kind) (runs-push_str xs (c, kind))
    ∙ push_str-twice (runs xs) (encode_utf8 c) (encode_utf8_all (d ∷ ds)) kind

runs-push_characters : (xs : List Character) (cs : List ℕ) (kind : ChunkKind) → cs ≢ [] → runs (xs ++ characters_of_kind kind cs) ≡ push_str (runs xs) (encode_utf8_all cs) kind
runs-push_characters xs [] kind h = absurd (h refl)
runs-push_characters xs (c ∷ cs) kind h = runs-push_run xs c cs kind

-- a push of a text that isn't empty keeps the longest runs
pub norm-push_text : (old new : List Chunk) (text : List ℕ) (kind : ChunkKind) → IsUtf8 text → text ≢ [] → old ≡ norm old → new ≡ push_str old text kind
    → characters new ≡ characters old ++ characters_of_kind kind (chars text) → new ≡ norm new
norm-push_text old new text kind u some h e f =
    let bytes : encode_utf8_all (chars text) ≡ text = encodes-chars text u in
    let any : chars text ≢ [] = λ none. some (sym bytes ∙ ap encode_utf8_all none) in
    e ∙ ap (λ ps. push_str ps text kind) h ∙ ap (λ t. push_str (norm old) t kind) (sym bytes)
    ∙ sym (runs-push_characters (characters old) (chars text) kind any) ∙ ap runs (sym f)
