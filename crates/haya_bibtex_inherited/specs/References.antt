-- The keys by which an entry refers to others.
use Rattle.std.specs.Prelude.{◌==◌, ◌+◌, ℕ, List, [], ◌∷◌, ◌++◌, Option, Some, None, codes, map}
use Rattle.std.specs.Prelude.{if◌then◌else◌, length}
use Rattle.std.specs.List.{flat_map, slice_split}
use Rattle.std.specs.Option.{option_map}
use Rattle.std.specs.Str.{bytes_eq, trim}
use Rattle.haya_bibtex_inherited.specs.Entries.{EntryBytes, text_of}
use Rattle.haya_bibtex_inherited.specs.declared.reference.Link.{Link}
use Rattle.haya_bibtex_inherited.specs.declared.reference.Link.TheVariants as link

abbrev pub comma : ℕ
comma = 44

-- a key, and the field in which it is
pub record ReferenceBytes : Type 0 where
  pub link : Link
  pub key : List ℕ

-- the key that a text is, without white space around it; white space alone is none
abbrev pub key_in : List ℕ → List (List ℕ)
key_in t = if length (trim t) == 0 then [] else trim t ∷ []

-- the keys of a text between its commas
abbrev pub keys_in : List ℕ → List (List ℕ)
keys_in t = flat_map key_in (slice_split (λ b. b == comma) t)

abbrev pub references_by : Link → List (List ℕ) → List ReferenceBytes
references_by l ks = map (λ k. record { link = l; key = k }) ks

abbrev pub xdata_references : Option (List ℕ) → List ReferenceBytes
xdata_references None = []
xdata_references (Some t) = references_by link.Xdata (keys_in t)

abbrev pub crossref_references : Option (List ℕ) → List ReferenceBytes
crossref_references None = []
crossref_references (Some t) = references_by link.Crossref (key_in t)

-- the references of an entry: those in `xdata`, and then the one in `crossref`
abbrev pub references : EntryBytes → List ReferenceBytes
references e =
    xdata_references (text_of e.fields (codes "xdata"))
    ++ crossref_references (text_of e.fields (codes "crossref"))

-- where the first entry with a key is
abbrev pub position_of : List EntryBytes → List ℕ → Option ℕ
position_of [] k = None
position_of (e ∷ es) k =
    if bytes_eq e.key k then Some 0 else option_map (λ i. i + 1) (position_of es k)

-- the name of the field
abbrev pub link_name : Link → List ℕ
link_name link.Xdata = codes "xdata"
link_name link.Crossref = codes "crossref"
