-- The elements of texts that are read one after another.
use Rattle.std.proofs.Common.{◌≡◌, ◌<◌, ℕ, suc, zero, List, [], ◌∷◌, ◌++◌, None, Option, Some, Result, Ok, Err, map, refl, sym, ap, ◌∙◌, append-nil, arith, flat_map, get_or, length}
use Rattle.std.specs.Prelude.{OnErr, OnOk, slice_get}
use Rattle.std.specs.Io.KnownBytes.{Keeps}
use Rattle.std.specs.List.{AllByRecursion, AllZip}
use Rattle.std.proofs.lemmas.Grind.{flat_map-append}
use Rattle.hayagriva.proofs.Parts.{AllZip-append}
use Rattle.hayagriva.specs.Library.{key_of}
use Rattle.hayagriva.specs.Query.{hit_entry}
use Rattle.hayagriva.specs.Tree.{Tree}
use Rattle.hayagriva.specs.declared.query.Hit.{Hit}
use Rattle.haya_formats.specs.declared.format.Format.{Format}
use Rattle.haya_formats.specs.declared.format.Format.TheVariants.{Bibtex, CslJson, Hayagriva, JsonLines, Lines, Yaml}
use Rattle.haya_source.specs.Elements as source
use Rattle.haya_source.specs.Elements.{AreElementsOf, Element}
use Rattle.haya_source.specs.Places.{ArePlacesOf, kept_part, part_for}
use Rattle.haya_source.specs.declared.kind.ElementKind.{ElementKind}
use Rattle.haya_source.specs.declared.places.Places.{Places}
use Rattle.haya_command.specs.Reading.{Describes}
use Rattle.haya_command.specs.Source.{AreElementsIn}
use Rattle.haya_command.specs.SourceForm.{kind_in, kind_of}
use Rattle.haya_command.specs.declared.source_form.SourceForm.{SourceForm}
use Rattle.haya_command.specs.declared.source_form.SourceForm.TheVariants as form

-- ---- lists

pub all-push : {X : Type 0} (P : X → Type 0) (xs : List X) (x : X) → AllByRecursion P xs → P x
    → AllByRecursion P (xs ++ x ∷ [])
all-push P [] x h p = (p, tt)
all-push P (y ∷ xs) x h p = (h.0, all-push P xs x h.1 p)

pub all-map-at : {X Y : Type 0} (P : Y → Type 0) (f : X → Y) (xs : List X) (i : ℕ) (d : X) → i < length xs
    → AllByRecursion P (map f xs) → P (f (get_or xs i d))
all-map-at P f [] i d within h = absurd (omega arith)
all-map-at P f (x ∷ xs) zero d within h = h.0
all-map-at P f (x ∷ xs) (suc i) d within h = all-map-at P f xs i d (omega arith) h.1

-- ---- the elements of one text more

pub no-elements : (kind : ElementKind) → AreElementsIn kind [] []
no-elements kind = record { parts = []; each = tt; all = refl }

pub elements-more : (kind : ElementKind) (texts : List (List ℕ)) (before : List Element) (text : List ℕ) (es : List Element)
    → AreElementsIn kind texts before → AreElementsOf kind text es → AreElementsIn kind (texts ++ text ∷ []) (before ++ es)
elements-more kind texts before text es are more = record {
  parts = are.parts ++ es ∷ [];
  each = AllZip-append (AreElementsOf kind) texts (text ∷ []) are.parts (es ∷ []) are.each (more, tt);
  all =
      ap (λ l. l ++ es) are.all
      ∙ sym (flat_map-append (λ p. p) are.parts (es ∷ []) ∙ ap (λ l. flat_map (λ p. p) are.parts ++ l) (append-nil es));
}

-- ---- the library of a text, by the kind of its elements

same-kind : {A : Type 0} {a b : A} → Some a ≡ Some b → a ≡ b
same-kind h = cc

pub described : (f : SourceForm) (format : Format) (kind : ElementKind) (text : List ℕ) (library : List Tree)
    → kind_in f format ≡ Some kind → Describes format text library → source.Describes kind text library
described form.Source format kind text library is h = of_kind format is h
  where
    of_kind : (format : Format) → kind_of format ≡ Some kind → Describes format text library → source.Describes kind text library
    of_kind Hayagriva is h = let same = same-kind is in rw (← same) h
    of_kind (CslJson key) is h = let same = same-kind is in rw (← same) h
    of_kind JsonLines is h = let same = same-kind is in rw (← same) h
    of_kind Yaml is h = let same = same-kind is in rw (← same) h
    of_kind Lines is h = let same = same-kind is in rw (← same) h
    of_kind Bibtex is h = let no : ⊥ = cc (is) in absurd no
described form.CslJson (CslJson key) kind text library is h = let same = same-kind is in rw (← same) h
described form.CslJson Hayagriva kind text library is h = let no : ⊥ = cc (is) in absurd no
described form.CslJson Yaml kind text library is h = let no : ⊥ = cc (is) in absurd no
described form.CslJson JsonLines kind text library is h = let no : ⊥ = cc (is) in absurd no
described form.CslJson Lines kind text library is h = let no : ⊥ = cc (is) in absurd no
described form.CslJson Bibtex kind text library is h = let no : ⊥ = cc (is) in absurd no

-- ---- what holds beside a result

pub beside : {T E : Type 0} (r : Result T E) (X : Type 0) → X → OnOk r X
beside (Ok t) X x = x
beside (Err e) X x = tt

pub beside_fault : {T E : Type 0} (r : Result T E) (X : Type 0) → X → OnErr r X
beside_fault (Ok t) X x = tt
beside_fault (Err e) X x = x

pub keeps_twice : (a b c : Option (List ℕ)) → Keeps a b → Keeps b c → Keeps a c
keeps_twice None b c ab bc = tt
keeps_twice (Some x) None c ab bc = absurd ab
keeps_twice (Some x) (Some y) None ab bc = absurd bc
keeps_twice (Some x) (Some y) (Some z) ab bc = bc ∙ ab

-- ---- no input

pub none-first : {X : Type 0} (xs : List X) → slice_get xs 0 ≡ None → xs ≡ []
none-first [] h = refl
none-first (x ∷ xs) h = let no : ⊥ = cc (h) in absurd no

-- ---- the parts of hits

-- where each hit has a part under its key, the last element that has this key has these bytes
pub parts-found : {S : Type 0} (bytes : S → List ℕ) (es : List Element) (places : Places) → ArePlacesOf es places → (hits : List Hit) (parts : List S)
    → map (λ hit. kept_part places (key_of (hit_entry hit))) hits ≡ map (λ s. Some (bytes s)) parts
    → AllZip (λ hit part. part_for (key_of (hit_entry hit)) es ≡ Some part) hits (map bytes parts)
parts-found bytes es places are [] [] same = tt
parts-found bytes es places are [] (p ∷ ps) same = let no : ⊥ = cc (same) in absurd no
parts-found bytes es places are (h ∷ hs) [] same = let no : ⊥ = cc (same) in absurd no
parts-found bytes es places are (h ∷ hs) (p ∷ ps) same =
    let here : kept_part places (key_of (hit_entry h)) ≡ Some (bytes p) = cc (same) in
    let behind : map (λ hit. kept_part places (key_of (hit_entry hit))) hs ≡ map (λ s. Some (bytes s)) ps = cc (same) in
    (sym (are (key_of (hit_entry h))) ∙ here, parts-found bytes es places are hs ps behind)
