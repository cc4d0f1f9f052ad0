-- Names of persons and institutions.
use Rattle.std.specs.Prelude.{ℕ, ◌+◌, Bool, false, List, [], ◌∷◌, ◌++◌, Option, None, Some, is_some, not, option_map, unwrap_or, codes, ◌||◌, if◌then◌else◌}
use Rattle.std.specs.Map.{lookup}
use Rattle.std.specs.Str.{bytes_eq}
use Rattle.json.specs.Json as json
use Rattle.json.specs.Json.{Json, Items, Members}
use Rattle.json.specs.Find.{is_null}
use Rattle.haya_people.specs.Person.{PersonView}
use Rattle.haya_text.specs.Printing.{text_display}
use Rattle.haya_json.specs.Notes.{LostView, all_behind, lost_behind, lost_here, named, unread}
use Rattle.haya_json.specs.Parts.{text_in}
use Rattle.haya_json.specs.Refusal.{to_item, to_member}
use Rattle.haya_json.specs.declared.fault.Why.TheVariants.{NotList, NotObject, NotTruth, Missing}
use Rattle.haya_csl.specs.Markup.{markup_read}
use Rattle.haya_csl.specs.Said.{SaidView, not_read, says, says_none}
use Rattle.haya_csl.specs.Texts.{said_as, says_some, text_said}

-- ---- the parts of a name

pub record NameView : Type 0 where
  pub family : Option (List ℕ)
  pub given : Option (List ℕ)
  pub suffix : Option (List ℕ)
  pub non_dropping : Option (List ℕ)
  pub dropping : Option (List ℕ)
  pub literal : Option (List ℕ)
  pub comma_suffix : Bool

-- the parts that are read so far, and what is lost so far
pub record PartsView : Type 0 where
  pub parts : NameView
  pub lost : List LostView

abbrev pub no_parts : PartsView
no_parts = record {
  parts = record {
    family = None;
    given = None;
    suffix = None;
    non_dropping = None;
    dropping = None;
    literal = None;
    comma_suffix = false;
  };
  lost = [];
}

-- the text of a part, without CSL's markup
abbrev pub part_said : Json → SaidView (List ℕ)
part_said j = text_said (λ text. says_some (text_display (markup_read text))) j

-- whether a text in the place of true or false says true
abbrev pub is_true : List ℕ → Bool
is_true [] = false
is_true text = not (bytes_eq text (codes "0") || bytes_eq text (codes "false"))

abbrev pub truth_in : Option (List ℕ) → SaidView Bool
truth_in None = not_read NotTruth
truth_in (Some text) = says (is_true text)

-- true or false, or a number or a text in its place
abbrev pub truth_said : Json → SaidView Bool
truth_said (json.boolean b) = says b
truth_said j = truth_in (text_in j)

-- what is lost behind what is lost so far
abbrev pub with_lost : List LostView → PartsView → PartsView
with_lost lost so_far = record { parts = so_far.parts; lost = so_far.lost ++ lost }

-- what makes of a value under a name, and of the parts so far, the parts after it
abbrev pub PartSetter : Type 0
PartSetter = List ℕ → Json → PartsView → PartsView

abbrev pub part_setter : {V : Type 0} → (Json → SaidView V) → (Option V → NameView → NameView)
    → PartSetter
part_setter read put name j so_far =
    with_lost (all_behind (to_member name) (read j).lost)
    (record { parts = put (read j).value so_far.parts; lost = so_far.lost })

abbrev pub part_table : List (List ℕ × PartSetter)
part_table =
    (codes "family", part_setter part_said (λ v n. record n { family = v }))
    ∷ (codes "given", part_setter part_said (λ v n. record n { given = v }))
    ∷ (codes "suffix", part_setter part_said (λ v n. record n { suffix = v }))
    ∷ (codes "non-dropping-particle", part_setter part_said (λ v n. record n { non_dropping = v }))
    ∷ (codes "dropping-particle", part_setter part_said (λ v n. record n { dropping = v }))
    ∷ (codes "literal", part_setter part_said (λ v n. record n { literal = v }))
    ∷ (
      codes "comma-suffix",
      part_setter truth_said (λ v n. record n { comma_suffix = unwrap_or v false }),
    )
    ∷ []

-- a member that is no part is lost, under the name of the member that has the names and its own
abbrev pub lost_part : List ℕ → List ℕ → List LostView
lost_part of name =
    lost_behind (to_member name) (lost_here (named ((of ++ codes ", member ") ++ name))) ∷ []

abbrev pub no_part : List ℕ → PartSetter
no_part of name j so_far = with_lost (lost_part of name) so_far

-- the parts after this one; one that is null is as if it weren't there
abbrev pub with_named_part : List ℕ → PartSetter
with_named_part of name = (unwrap_or (lookup (bytes_eq name) part_table) (no_part of)) name

abbrev pub with_part : List ℕ → PartSetter
with_part of name j so_far = if is_null j then so_far else with_named_part of name j so_far

-- the same of all members in turn
abbrev pub parts_set : List ℕ → Members → PartsView → PartsView
parts_set of json.no_members so_far = so_far
parts_set of (json.member k j ms) so_far = parts_set of ms (with_part of k j so_far)

-- ---- persons

-- both particles, joined by a blank
abbrev pub particles : Option (List ℕ) → Option (List ℕ) → Option (List ℕ)
particles None non_dropping = non_dropping
particles (Some dropping) None = Some dropping
particles (Some dropping) (Some non_dropping) = Some ((dropping ++ codes " ") ++ non_dropping)

-- the whole name of an institution
abbrev pub whole_name : List ℕ → PersonView
whole_name name = record {
  name = name;
  given_name = None;
  prefix = None;
  suffix = None;
  comma_suffix = false;
  alias = None;
}

abbrev pub person_named : List ℕ → Option (List ℕ) → NameView → PersonView
person_named name given n = record {
  name = name;
  given_name = given;
  prefix = particles n.dropping n.non_dropping;
  suffix = n.suffix;
  comma_suffix = n.comma_suffix;
  alias = None;
}

-- a part beside a whole name is lost
abbrev pub beside_text : List ℕ → List ℕ → List ℕ
beside_text of name = ((of ++ codes ", ") ++ name) ++ codes " beside literal"

abbrev pub part_beside : List ℕ → List ℕ → LostView
part_beside of name = lost_behind (to_member name) (lost_here (named (beside_text of name)))

abbrev pub beside : List ℕ → List ℕ → Option (List ℕ) → List LostView
beside of name None = []
beside of name (Some part) = part_beside of name ∷ []

-- the same of a part that is true
abbrev pub true_beside : List ℕ → List ℕ → Bool → List LostView
true_beside of name is_true = if is_true then part_beside of name ∷ [] else []

-- the institution of a whole name, beside which other parts are lost
abbrev pub institution : List ℕ → PartsView → SaidView PersonView
institution of p = record {
  value = option_map whole_name p.parts.literal;
  lost =
      (((((p.lost ++ beside of (codes "family") p.parts.family)
      ++ beside of (codes "given") p.parts.given)
      ++ beside of (codes "suffix") p.parts.suffix)
      ++ beside of (codes "non-dropping-particle") p.parts.non_dropping)
      ++ beside of (codes "dropping-particle") p.parts.dropping)
      ++ true_beside of (codes "comma-suffix") p.parts.comma_suffix;
}

-- the family name and the given one, which is the name itself where it is alone
abbrev pub name_by : Option (List ℕ) → Option (List ℕ) → Option (List ℕ × Option (List ℕ))
name_by (Some family) given = Some (family, given)
name_by None (Some given) = Some (given, None)
name_by None None = None

-- a suffix, its comma or a particle without a name is lost
abbrev pub nameless : NameView → List LostView
nameless n =
    if (is_some n.suffix || is_some (particles n.dropping n.non_dropping)) || n.comma_suffix then
    lost_here (unread Missing) ∷ []
    else []

abbrev pub person_by : Option (List ℕ × Option (List ℕ)) → PartsView → SaidView PersonView
person_by None p = record { value = None; lost = p.lost ++ nameless p.parts }
person_by (Some name) p =
    record { value = Some (person_named name.0 name.1 p.parts); lost = p.lost }

abbrev pub person : PartsView → SaidView PersonView
person p = person_by (name_by p.parts.family p.parts.given) p

abbrev pub person_of_parts : List ℕ → PartsView → SaidView PersonView
person_of_parts of p = if is_some p.parts.literal then institution of p else person p

-- an object of the parts of a name, or a whole name; null is none
abbrev pub name_said : List ℕ → Json → SaidView PersonView
name_said of (json.object ms) = person_of_parts of (parts_set of ms no_parts)
name_said of (json.string text) = said_as whole_name (part_said (json.string text))
name_said of json.null = says_none
name_said of _ = not_read NotObject

-- ---- lists of names

-- a person, if one is said, in front of others
abbrev pub person_before : Option PersonView → List PersonView → List PersonView
person_before None persons = persons
person_before (Some person) persons = person ∷ persons

-- the persons of items
abbrev pub persons_in : List ℕ → Items → List PersonView
persons_in of json.no_items = []
persons_in of (json.item j js) = person_before (name_said of j).value (persons_in of js)

-- what is lost of items, the first of which is at this place
abbrev pub lost_in : List ℕ → ℕ → Items → List LostView
lost_in of n json.no_items = []
lost_in of n (json.item j js) =
    all_behind (to_item n) (name_said of j).lost ++ lost_in of (n + 1) js

-- one person, as a list
abbrev pub alone : SaidView PersonView → SaidView (List PersonView)
alone said = said_as (λ person. person ∷ []) said

-- an array of names, or one alone; `of` is the name of the member that has them
abbrev pub names_said : List ℕ → Json → SaidView (List PersonView)
names_said of (json.array js) =
    record { value = (says_some (persons_in of js)).value; lost = lost_in of 0 js }
names_said of (json.object ms) = alone (name_said of (json.object ms))
names_said of (json.string text) = alone (name_said of (json.string text))
names_said of _ = not_read NotList
