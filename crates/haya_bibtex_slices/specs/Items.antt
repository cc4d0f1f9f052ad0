-- The items of a text as they are in it, and what each says alone.
use Rattle.std.specs.Prelude.{◌≡◌, ℕ, All, List, [], ◌∷◌, ◌++◌, ⊤, Option, Some, None, flat_map}
use Rattle.std.specs.List.{AllZip}
use Rattle.std.specs.Str.{chars}
use Rattle.haya_bibtex_text.specs.Bibliography.{BibliographyTexts, EntryTexts}
use Rattle.haya_bibtex_text.specs.Outcomes.{Reads}

-- an item by its bytes: of an entry its key, none of a preamble and of definitions of strings
pub record Item : Type 0 where
  pub part : List ℕ
  pub key : Option (List ℕ)

-- no entry, or one that has the key
abbrev pub IsNamed : Option (List ℕ) → List EntryTexts → Type 0
IsNamed None es = es ≡ []
IsNamed (Some key) es = (e : EntryTexts) × (es ≡ e ∷ []) × (e.key ≡ chars key)

-- an item, alone, is by the grammar, and says so much
pub record Says (item : Item) : Type 0 where
  pub read : BibliographyTexts
  pub reads : Reads (chars item.part) read
  pub named : IsNamed item.key read.entries

-- parts of a text, one behind the other
abbrev pub AreInOrder : List Item → List ℕ → Type 0
AreInOrder [] text = ⊤
AreInOrder (i ∷ is) text =
    (gap : List ℕ) × (behind : List ℕ) × (text ≡ gap ++ (i.part ++ behind))
    × AreInOrder is behind

-- parts of a text, one behind the other, of which each alone says what an item does
pub record AreItemsOf (text : List ℕ) (items : List Item) : Type 0 where
  pub parts : AreInOrder items text
  pub each : All Says items

-- the items of all texts, in order, those of a text behind those of the one before it
pub record AreItemsIn (texts : List (List ℕ)) (items : List Item) : Type 0 where
  pub of_texts : List (List Item)
  pub each : AllZip AreItemsOf texts of_texts
  pub all : items ≡ flat_map (λ is. is) of_texts
