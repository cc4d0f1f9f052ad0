-- The items of a text: its entries, the definitions of strings, and the signs `@` that begin
-- neither.
use Rattle.std.specs.Prelude.{◌≡◌, ℕ, suc, ◌-◌, ◌+◌, true, false, List, [], ◌∷◌, ◌++◌, Some, None, length, take, drop, codes, Ok, Err, ◌==◌, if◌then◌else◌}
use Rattle.std.specs.List.{prefix_len}
use Rattle.haya_bibtex_text.specs.Blanks.{behind_blank}
use Rattle.haya_bibtex_text.specs.Classes.{in_key}
use Rattle.haya_bibtex_text.specs.Fields.{AreFields, FailFields, RawField, ended, front, more, nothing, other}
use Rattle.haya_bibtex_text.specs.Groups.{End, closed, end_of, nowhere, stray}
use Rattle.haya_bibtex_text.specs.Openings.{Opening, behind_at, is_called, is_remark, is_skipped, opening_at}
use Rattle.haya_bibtex_text.specs.Pieces.{Read, fault}
use Rattle.haya_bibtex_text.specs.declared.fault.FaultKind.TheVariants as kind
use Rattle.haya_bibtex_text.specs.declared.fault.Refusal.{Refusal}

-- an item: a sign `@`, fields that define strings, or an entry with its type, its key and its
-- fields
pub data RawItem : Type 0 where
  sign : RawItem
  strings : List RawField → RawItem
  entry : List ℕ → List ℕ → List RawField → RawItem

-- how many characters a comment or a preamble has, and what is left behind it; so many characters
-- are left at its `@`
abbrev pub comment_by : ℕ → List ℕ → End → Read ℕ
comment_by at cs (closed n) = Ok (n, drop (suc n) cs)
comment_by at cs (stray n) = Err (fault kind.Brace (length cs - n))
comment_by at cs nowhere = Err (fault kind.Open at)

abbrev pub comment_at : ℕ → ℕ → List ℕ → Read ℕ
comment_at at close cs = comment_by at cs (end_of close cs)

-- a key of so many characters
abbrev pub key_by : ℕ → ℕ → List ℕ → Read (List ℕ)
key_by at n [] = Err (fault kind.Open at)
key_by at n (c ∷ cs) =
    if n == 0 then Err (fault kind.Key (suc (length cs)))
    else Ok (take n (c ∷ cs), behind_blank (drop n (c ∷ cs)))

-- the key of an entry, and what is left behind it and a blank
abbrev pub key_at : ℕ → ℕ → List ℕ → Read (List ℕ)
key_at at close cs = key_by at (prefix_len (in_key close) cs) cs

-- what follows the opening bracket and a blank is this item of the type, and the rest; so
-- many characters are left at its `@`
pub data IsItem (at close : ℕ) (name : List ℕ) : List ℕ → RawItem → List ℕ → Type 0 where
  defines : {text rest : List ℕ} {fs : List RawField} →
      is_called (codes "string") name ≡ true → AreFields at close text fs rest →
      IsItem at close name text (strings fs) rest
  key_alone : {text key left rest : List ℕ} → is_called (codes "string") name ≡ false →
      key_at at close text ≡ Ok (key, left) → front close left ≡ ended rest →
      IsItem at close name text (entry name key []) rest
  with_fields : {text key left next rest : List ℕ} {fs : List RawField} →
      is_called (codes "string") name ≡ false → key_at at close text ≡ Ok (key, left) →
      front close left ≡ more next → AreFields at close next fs rest →
      IsItem at close name text (entry name key fs) rest

pub data FailsItem (at close : ℕ) (name : List ℕ) : List ℕ → Refusal → Type 0 where
  fails_strings : {text : List ℕ} {f : Refusal} → is_called (codes "string") name ≡ true →
      FailFields at close text f → FailsItem at close name text f
  no_key : {text : List ℕ} {f : Refusal} → is_called (codes "string") name ≡ false →
      key_at at close text ≡ Err f → FailsItem at close name text f
  key_left_open : {text key left : List ℕ} → is_called (codes "string") name ≡ false →
      key_at at close text ≡ Ok (key, left) → front close left ≡ nothing →
      FailsItem at close name text (fault kind.Open at)
  no_comma_behind_key : {text key left : List ℕ} → is_called (codes "string") name ≡ false →
      key_at at close text ≡ Ok (key, left) → front close left ≡ other →
      FailsItem at close name text (fault kind.Comma (length left))
  fails_fields : {text key left next : List ℕ} {f : Refusal} →
      is_called (codes "string") name ≡ false → key_at at close text ≡ Ok (key, left) →
      front close left ≡ more next → FailFields at close next f → FailsItem at close name text f

-- the item of an `@` that begins no entry, by what follows it: there is none where that is
-- `comment`
abbrev pub signs : List ℕ → List RawItem
signs next = if is_remark next then [] else sign ∷ []

-- the text says these items
pub data Says : List ℕ → List RawItem → Type 0 where
  no_more : {text : List ℕ} → behind_at false text ≡ None → Says text []
  stray_sign : {text next : List ℕ} {is all : List RawItem} →
      behind_at false text ≡ Some next → opening_at next ≡ None → Says next is →
      all ≡ signs next ++ is → Says text all
  skipped : {text next rest : List ℕ} {o : Opening} {n : ℕ} {is : List RawItem} →
      behind_at false text ≡ Some next → opening_at next ≡ Some o → is_skipped o.kind ≡ true →
      comment_at (length next + 1) o.close o.rest ≡ Ok (n, rest) → Says rest is → Says text is
  an_item : {text next rest : List ℕ} {o : Opening} {i : RawItem} {is : List RawItem} →
      behind_at false text ≡ Some next → opening_at next ≡ Some o → is_skipped o.kind ≡ false →
      IsItem (length next + 1) o.close o.kind (behind_blank o.rest) i rest → Says rest is →
      Says text (i ∷ is)

-- the first fault of a text
pub data Fails : List ℕ → Refusal → Type 0 where
  behind_stray : {text next : List ℕ} {f : Refusal} → behind_at false text ≡ Some next →
      opening_at next ≡ None → Fails next f → Fails text f
  in_skipped : {text next : List ℕ} {o : Opening} {f : Refusal} →
      behind_at false text ≡ Some next → opening_at next ≡ Some o → is_skipped o.kind ≡ true →
      comment_at (length next + 1) o.close o.rest ≡ Err f → Fails text f
  behind_skipped : {text next rest : List ℕ} {o : Opening} {n : ℕ} {f : Refusal} →
      behind_at false text ≡ Some next → opening_at next ≡ Some o → is_skipped o.kind ≡ true →
      comment_at (length next + 1) o.close o.rest ≡ Ok (n, rest) → Fails rest f → Fails text f
  in_item : {text next : List ℕ} {o : Opening} {f : Refusal} → behind_at false text ≡ Some next →
      opening_at next ≡ Some o → is_skipped o.kind ≡ false →
      FailsItem (length next + 1) o.close o.kind (behind_blank o.rest) f → Fails text f
  behind_item : {text next rest : List ℕ} {o : Opening} {i : RawItem} {f : Refusal} →
      behind_at false text ≡ Some next → opening_at next ≡ Some o → is_skipped o.kind ≡ false →
      IsItem (length next + 1) o.close o.kind (behind_blank o.rest) i rest → Fails rest f →
      Fails text f
