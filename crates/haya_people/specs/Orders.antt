-- The orders of persons: lists of keys, of which the first that differs decides.
use Rattle.std.specs.Prelude.{◌≡◌, ℕ, Bool, true, false, List, [], ◌∷◌, ◌++◌, Option, Some, map, option_map, unwrap_or}
use Rattle.std.specs.Cmp.Lexicographic.{slice_cmp}
use Rattle.std.specs.declared.cmp.Ordering.{Ordering}
use Rattle.std.specs.declared.cmp.Ordering.TheVariants as order
use Rattle.std.specs.List.{IsAnyAnswer, list_any}
use Rattle.std.specs.Borrow.{Bor}
use Rattle.std.specs.Option.{option_cmp, option_copied}
use Rattle.std.specs.Ordering.{nat_cmp, bool_cmp, ordering_then}
use Rattle.std.specs.Str.{chars}
use Rattle.haya_text.specs.declared.strings.format.LongShortForm.{LongShortForm}
use Rattle.haya_text.specs.declared.strings.format.LongShortForm.TheVariants.{Long, Short}
use Rattle.haya_people.specs.Person.{PersonView}
use Rattle.haya_people.specs.Particles.{folded, name_without_particle, name_particles}

-- texts by their bytes
abbrev pub text_cmp : List ℕ → List ℕ → Ordering
text_cmp = slice_cmp nat_cmp

-- a text that may be missing, which comes first then
abbrev pub part_cmp : Option (List ℕ) → Option (List ℕ) → Ordering
part_cmp = option_cmp text_cmp

-- the first of these that is not `Equal`
abbrev pub first_difference : List Ordering → Ordering
first_difference [] = order.Equal
first_difference (o ∷ os) = ordering_then o (first_difference os)

-- the order of persons by their parts as they are
abbrev pub person_cmp : PersonView → PersonView → Ordering
person_cmp p q = first_difference (
    text_cmp p.name q.name
    ∷ part_cmp p.given_name q.given_name
    ∷ part_cmp p.suffix q.suffix
    ∷ part_cmp p.prefix q.prefix
    ∷ bool_cmp p.comma_suffix q.comma_suffix
    ∷ part_cmp p.alias q.alias
    ∷ [])

-- the characters of the name and of the given name
abbrev pub name_characters : PersonView → List ℕ
name_characters p = chars p.name ++ chars (unwrap_or p.given_name [])

-- whether some character of the name or of the given name passes the test
abbrev pub is_cjk : (ℕ → Bool) → PersonView → Bool
is_cjk test p = list_any test (name_characters p)

-- the parts that two CJK names are compared by
abbrev pub cjk_parts : LongShortForm → PersonView → List (Option (List ℕ))
cjk_parts Long p = Some p.name ∷ p.given_name ∷ []
cjk_parts Short p = Some p.name ∷ []

-- this form of the name, these particles, given name and suffix
abbrev pub split_parts : List ℕ → Option (List ℕ) → PersonView → List (Option (List ℕ))
split_parts name particles p = Some name ∷ particles ∷ p.given_name ∷ p.suffix ∷ []

-- the parts of two other names, with their particles where they stand, and demoted
abbrev pub plain_parts : PersonView → List (Option (List ℕ))
plain_parts p = split_parts p.name p.prefix p

abbrev pub demoted_parts : List (List ℕ) → PersonView → List (Option (List ℕ))
demoted_parts table p = split_parts (name_without_particle table p.name) (name_particles table p) p

-- the parts of a name of which it is told whether it is CJK
abbrev pub csl_parts : LongShortForm → Bool → List (List ℕ) → Bool × PersonView
    → List (Option (List ℕ))
csl_parts form demoted table (true, p) = cjk_parts form p
csl_parts form false table (false, p) = plain_parts p
csl_parts form true table (false, p) = demoted_parts table p

-- two lists of parts by their first difference in default case fold
abbrev pub folded_parts : List (Option (List ℕ)) → List (Option (List ℕ))
folded_parts parts = map (option_map folded) parts

abbrev pub parts_cmp : List (Option (List ℕ)) → List (Option (List ℕ)) → Ordering
parts_cmp xs ys = slice_cmp part_cmp (folded_parts xs) (folded_parts ys)

-- two parts that are lent, in default case fold
abbrev pub pair_cmp : Option (Bor (List ℕ)) × Option (Bor (List ℕ)) → Ordering
pair_cmp pair =
    part_cmp (option_map folded (option_copied pair.0)) (option_map folded (option_copied pair.1))

-- the order of a style's lists, for two names of which it is told whether they are CJK: those that
-- are not come first, and otherwise their parts decide
abbrev pub csl_cmp : LongShortForm → Bool → List (List ℕ) → Bool × PersonView → Bool × PersonView
    → Ordering
csl_cmp form demoted table p q =
    ordering_then (bool_cmp p.0 q.0)
    (parts_cmp (csl_parts form demoted table p) (csl_parts form demoted table q))

-- the same by a test of characters
abbrev pub csl_cmp_by : (ℕ → Bool) → LongShortForm → Bool → List (List ℕ) → PersonView → PersonView
    → Ordering
csl_cmp_by test form demoted table p q =
    csl_cmp form demoted table (is_cjk test p, p) (is_cjk test q, q)

-- the same by a predicate of which `answers` tells what it may answer of a character
abbrev pub IsCslOrder : (ℕ → Bool → Type 0) → LongShortForm → Bool → List (List ℕ) → PersonView
    → PersonView → Ordering → Type 0
IsCslOrder answers form demoted table p q o =
    (mine : Bool) × (theirs : Bool)
    × IsAnyAnswer answers (name_characters p) mine
    × IsAnyAnswer answers (name_characters q) theirs
    × (o ≡ csl_cmp form demoted table (mine, p) (theirs, q))

-- each time it is asked of a character, the predicate answers as the test does
abbrev pub AnswersAs : (ℕ → Bool → Type 0) → (ℕ → Bool) → Type 0
AnswersAs answers test = (c : ℕ) (answer : Bool) → answers c answer → answer ≡ test c
