-- Worked rows: what the definitions compute to.
use Rattle.std.proofs.Common.{◌≡◌, refl, None, Some, Ok, Err, [], ◌∷◌, true, false, Bool}
use Rattle.std.specs.Prelude.{codes, ℕ, List, encode_utf8_all, Option}
use Rattle.std.specs.Str.{chars, trim_start, trim_end}
use Rattle.unicode_segmentation.proofs.Computing.{unicode_segmentation}
use Rattle.haya_people.specs.declared.person.PersonError.TheVariants.{Empty, TooManyParts}
use Rattle.haya_people.specs.FirstName.{delimiter_behind, delimited}
use Rattle.haya_people.specs.Forms.{name_first, given_first}
use Rattle.haya_people.specs.Initials.{initials_of, is_separator, begins_with_hyphen, is_upper}
use Rattle.haya_people.specs.Person.{PersonView}
use Rattle.haya_people.specs.Reading.{person_read, person_of, name_of, prefix_of}
use Rattle.haya_people.specs.Words.{words}

abbrev parts : List ℕ → Option (List ℕ) → Option (List ℕ) → Option (List ℕ) → PersonView
parts name given_name prefix suffix = record {
  name = name;
  given_name = given_name;
  prefix = prefix;
  suffix = suffix;
  comma_suffix = false;
  alias = None;
}

abbrev dissmer : PersonView
dissmer = parts (codes "Dissmer") (Some (codes "Courtney Deliah")) (Some (codes "van")) (Some (codes "Jr."))

read_rows :
    (person_read (codes "van Dissmer,Jr., Courtney Deliah") ≡ Ok dissmer)
    × (person_read (codes "Foo bar") ≡ Ok (parts [] None (Some (codes "Foo bar")) None))
    × (person_read (codes "de la  cruz") ≡ Ok (parts (codes "cruz") None (Some (codes "de la")) None))
    × (person_read (codes "Von Der Leyen,Ursula") ≡ Ok (parts (codes "Von Der Leyen") (Some (codes "Ursula")) None None))
    × (person_read (codes "Doe,") ≡ Ok (parts (codes "Doe") (Some []) None None))
    × (person_read (codes "a,b,c,d") ≡ Err TooManyParts)
    × (person_of [] ≡ Err Empty)
unfolding unicode_segmentation person_of name_of prefix_of words chars trim_start trim_end
read_rows = (refl, refl, refl, refl, refl, refl, refl)

abbrev by : List ℕ → Bool → List ℕ → List ℕ
by delimiter with_hyphen given_name = initials_of (record { delimiter = delimiter; with_hyphen = with_hyphen }) given_name

initials_rows :
    (by (codes ". ") true (codes "Jean de") ≡ codes "J. de")
    × (by (codes ".") false (codes "Jean de") ≡ codes "J. de")
    × (by (codes ".") true (codes "jean") ≡ codes " jean")
    × (by (codes ". ") true (codes "Hans-Joseph") ≡ codes "H.-J.")
    × (by (codes ". ") false (codes "Hans-Joseph") ≡ codes "H. J.")
    × (by [] true (codes "Hans-Joseph") ≡ codes "H-J")
    × (by (codes ". ") true (encode_utf8_all (0x1C5 ∷ 0x75 ∷ [])) ≡ encode_utf8_all (0x1C5 ∷ 0x2E ∷ []))
unfolding unicode_segmentation initials_of is_separator begins_with_hyphen is_upper words chars trim_end
initials_rows = (refl, refl, refl, refl, refl, refl, refl)

form_rows :
    (name_first false false dissmer ≡ codes "van Dissmer, Courtney Deliah, Jr.")
    × (name_first true true dissmer ≡ codes "Dissmer, C. D. van, Jr.")
    × (name_first false true (parts (codes "Dissmer") None (Some (codes "van")) None) ≡ codes "Dissmervan")
    × (given_first false dissmer ≡ codes "Courtney Deliah van Dissmer Jr.")
    × (delimited (codes ".") (codes "James T") ≡ codes "James T.")
unfolding unicode_segmentation name_first given_first delimited delimiter_behind initials_of is_separator begins_with_hyphen is_upper words chars trim_end
form_rows = (refl, refl, refl, refl, refl)
