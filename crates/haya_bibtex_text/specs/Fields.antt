-- The fields of an entry.
use Rattle.std.specs.Prelude.{◌≡◌, ℕ, suc, ◌==◌, List, [], ◌∷◌, length, take, drop, Ok, Err, if◌then◌else◌}
use Rattle.std.specs.List.{prefix_len}
use Rattle.haya_bibtex_text.specs.Blanks.{behind_blank}
use Rattle.haya_bibtex_text.specs.Classes.{in_name}
use Rattle.haya_bibtex_text.specs.Pieces.{RawPiece, Read, fault}
use Rattle.haya_bibtex_text.specs.Signs.{comma, equals}
use Rattle.haya_bibtex_text.specs.Values.{FailsValue, IsValue}
use Rattle.haya_bibtex_text.specs.declared.fault.FaultKind.TheVariants as kind
use Rattle.haya_bibtex_text.specs.declared.fault.Refusal.{Refusal}

-- a field as it is written: its name, and the pieces of its value
pub record RawField : Type 0 where
  pub name : List ℕ
  pub value : List RawPiece

-- what begins a text where a field may begin, or behind one: the closing bracket, a comma and a
-- blank, another character, or nothing; and what is left
pub data Front : Type 0 where
  ended : List ℕ → Front
  more : List ℕ → Front
  other : Front
  nothing : Front

abbrev pub front : ℕ → List ℕ → Front
front close [] = nothing
front close (c ∷ cs) =
    if c == close then ended cs else if c == comma then more (behind_blank cs) else other

-- an equals sign and a blank behind a name
abbrev pub equals_behind : ℕ → List ℕ → List ℕ → Read (List ℕ)
equals_behind entry name [] = Err (fault kind.Open entry)
equals_behind entry name (c ∷ cs) =
    if c == equals then Ok (name, behind_blank cs) else Err (fault kind.Equals (suc (length cs)))

abbrev pub head_by : ℕ → ℕ → List ℕ → Read (List ℕ)
head_by entry n cs =
    if n == 0 then Err (fault kind.Name (length cs))
    else equals_behind entry (take n cs) (behind_blank (drop n cs))

-- the name of a field, and what is left behind it, an equals sign and blanks
abbrev pub head_at : ℕ → List ℕ → Read (List ℕ)
head_at entry cs = head_by entry (prefix_len in_name cs) cs

-- the text begins with this field, and a blank; the rest is left
pub data IsField (entry : ℕ) : List ℕ → RawField → List ℕ → Type 0 where
  field : {text left rest : List ℕ} {f : RawField} → head_at entry text ≡ Ok (f.name, left) →
      IsValue entry left f.value rest → IsField entry text f rest

pub data FailsField (entry : ℕ) : List ℕ → Refusal → Type 0 where
  no_head : {text : List ℕ} {f : Refusal} → head_at entry text ≡ Err f → FailsField entry text f
  no_value : {text left name : List ℕ} {f : Refusal} → head_at entry text ≡ Ok (name, left) →
      FailsValue entry left f → FailsField entry text f

-- the text begins with these fields, up to the closing bracket; the rest is left
pub data AreFields (entry close : ℕ) : List ℕ → List RawField → List ℕ → Type 0 where
  no_field : {text rest : List ℕ} → front close text ≡ ended rest →
      AreFields entry close text [] rest
  behind_comma : {text next rest : List ℕ} {fs : List RawField} → front close text ≡ more next →
      AreFields entry close next fs rest → AreFields entry close text fs rest
  last_field : {text left rest : List ℕ} {f : RawField} → front close text ≡ other →
      IsField entry text f left → front close left ≡ ended rest →
      AreFields entry close text (f ∷ []) rest
  next_field : {text left next rest : List ℕ} {f : RawField} {fs : List RawField} →
      front close text ≡ other → IsField entry text f left → front close left ≡ more next →
      AreFields entry close next fs rest → AreFields entry close text (f ∷ fs) rest

-- the first fault of fields
pub data FailFields (entry close : ℕ) : List ℕ → Refusal → Type 0 where
  left_open : {text : List ℕ} → front close text ≡ nothing →
      FailFields entry close text (fault kind.Open entry)
  fails_behind_comma : {text next : List ℕ} {f : Refusal} → front close text ≡ more next →
      FailFields entry close next f → FailFields entry close text f
  fails_field : {text : List ℕ} {f : Refusal} → front close text ≡ other →
      FailsField entry text f → FailFields entry close text f
  field_left_open : {text left : List ℕ} {f : RawField} → front close text ≡ other →
      IsField entry text f left → front close left ≡ nothing →
      FailFields entry close text (fault kind.Open entry)
  no_comma : {text left : List ℕ} {f : RawField} → front close text ≡ other →
      IsField entry text f left → front close left ≡ other →
      FailFields entry close text (fault kind.Comma (length left))
  fails_later : {text left next : List ℕ} {f : RawField} {g : Refusal} →
      front close text ≡ other → IsField entry text f left → front close left ≡ more next →
      FailFields entry close next g → FailFields entry close text g
