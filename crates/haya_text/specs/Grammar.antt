-- The grammar of chunked texts, and what they read as.
use Rattle.std.specs.Prelude.{◌≡◌, ◌==◌, ◌||◌, ◌++◌, ℕ, true, false, List, [], ◌∷◌, length}
use Rattle.std.specs.Str.{chars, encode_utf8_all}
use Rattle.haya_text.specs.declared.strings.kind.ChunkKind.{ChunkKind}
use Rattle.haya_text.specs.declared.strings.kind.ChunkKind.TheVariants.{Normal, Verbatim, Math}
use Rattle.haya_text.specs.Chunks.{Chunk, Character}
use Rattle.haya_text.specs.Normal.{runs}
use Rattle.haya_text.specs.Printing.{is_control}
use Rattle.haya_text.specs.Signs.{backslash, open_brace, close_brace, dollar}

-- whether anything may follow, or the text ends here, and groups and math may be left open
pub data Extent : Type 0 where
  closed : Extent
  at_end : Extent

-- a backslash before this stands for itself: no control character follows it
abbrev pub Alone : Extent → List ℕ → Type 0
Alone closed [] = ⊥
Alone at_end [] = Unit {0}
Alone extent (c ∷ cs) = is_control c ≡ false

-- what stands between dollars, with its characters
pub data Body : Extent → List ℕ → List Character → Type 0 where
  no_body : {e : Extent} → Body e [] []
  body_plain : {e : Extent} {c : ℕ} {cs : List ℕ} {xs : List Character}
      → (c == backslash || c == dollar) ≡ false → Body e cs xs
      → Body e (c ∷ cs) ((c, Math) ∷ xs)
  body_backslash : {e : Extent} {cs : List ℕ} {xs : List Character} → Alone e cs → Body e cs xs
      → Body e (backslash ∷ cs) ((backslash, Math) ∷ xs)
  body_escape : {e : Extent} {c : ℕ} {cs : List ℕ} {xs : List Character} → is_control c ≡ true
      → Body e cs xs → Body e (backslash ∷ c ∷ cs) ((c, Math) ∷ xs)

-- items outside math, with their characters: plain ones have this kind
pub data Items : Extent → ChunkKind → List ℕ → List Character → Type 0 where
  no_items : {e : Extent} {k : ChunkKind} → Items e k [] []
  plain : {e : Extent} {k : ChunkKind} {c : ℕ} {cs : List ℕ} {xs : List Character}
      → is_control c ≡ false → Items e k cs xs → Items e k (c ∷ cs) ((c, k) ∷ xs)
  lone_backslash : {e : Extent} {k : ChunkKind} {cs : List ℕ} {xs : List Character} → Alone e cs
      → Items e k cs xs → Items e k (backslash ∷ cs) ((backslash, k) ∷ xs)
  escape : {e : Extent} {k : ChunkKind} {c : ℕ} {cs : List ℕ} {xs : List Character}
      → is_control c ≡ true → Items e k cs xs → Items e k (backslash ∷ c ∷ cs) ((c, k) ∷ xs)
  group : {e : Extent} {k : ChunkKind} {text : List ℕ} {zs : List Character}
      (inner cs : List ℕ) (ys xs : List Character)
      → text ≡ inner ++ close_brace ∷ cs → zs ≡ ys ++ xs → Items closed Verbatim inner ys
      → Items e k cs xs → Items e k (open_brace ∷ text) zs
  math : {e : Extent} {k : ChunkKind} {text : List ℕ} {zs : List Character}
      (inner cs : List ℕ) (ys xs : List Character)
      → text ≡ inner ++ dollar ∷ cs → zs ≡ ys ++ xs → Body closed inner ys → Items e k cs xs
      → Items e k (dollar ∷ text) zs
  open_group : {k : ChunkKind} {inner : List ℕ} {ys : List Character}
      → Items at_end Verbatim inner ys → Items at_end k (open_brace ∷ inner) ys
  open_math : {k : ChunkKind} {inner : List ℕ} {ys : List Character} → Body at_end inner ys
      → Items at_end k (dollar ∷ inner) ys

-- the text is items, and these are their characters in longest runs
pub record ReadsAs (text : List ℕ) (cs : List Chunk) : Type 0 where
  pub xs : List Character
  pub items : Items at_end Normal (chars text) xs
  pub runs : cs ≡ runs xs

-- the text is closed items of so many bytes, and then a closing brace that no backslash escapes
pub record IsRefusedAt (place : ℕ) (text : List ℕ) : Type 0 where
  pub before : List ℕ
  pub after : List ℕ
  pub xs : List Character
  pub items : Items closed Normal before xs
  pub cut : chars text ≡ before ++ close_brace ∷ after
  pub bytes : place ≡ length (encode_utf8_all before)
