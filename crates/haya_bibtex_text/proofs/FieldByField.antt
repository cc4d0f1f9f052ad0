-- Fields that are read one after another.
use Rattle.std.proofs.Common.{◌≡◌, ◌++◌, ℕ, List, [], ◌∷◌, append_assoc}
use Rattle.haya_bibtex_text.specs.Fields.{AreFields, IsField, RawField, ended, front, more, other}
use Rattle.haya_bibtex_text.specs.Fields.{last_field, next_field}

-- what those so far and the fields of any rest come to
abbrev pub Continues : ℕ → ℕ → List ℕ → List RawField → List ℕ → Type 0
Continues e close text acc at =
    (fs : List RawField) (rest : List ℕ) → AreFields e close at fs rest
    → AreFields e close text (acc ++ fs) rest

pub field_next : (e close : ℕ) (text at left next : List ℕ) (acc new : List RawField) (f : RawField)
    → Continues e close text acc at → front close at ≡ other → IsField e at f left
    → front close left ≡ more next → new ≡ acc ++ (f ∷ []) → Continues e close text new next
field_next e close text at left next acc new f so_far begins read joint is fs rest v =
    rw (is, append_assoc acc (f ∷ []) fs) (so_far (f ∷ fs) rest (next_field begins read joint v))

pub field_last : (e close : ℕ) (text at left rest : List ℕ) (acc new : List RawField) (f : RawField)
    → Continues e close text acc at → front close at ≡ other → IsField e at f left
    → front close left ≡ ended rest → new ≡ acc ++ (f ∷ []) → AreFields e close text new rest
field_last e close text at left rest acc new f so_far begins read end is =
    rw is (so_far (f ∷ []) rest (last_field begins read end))
