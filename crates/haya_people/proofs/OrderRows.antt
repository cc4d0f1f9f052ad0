-- Worked rows of the definitions of particles, articles, tables and orders.
use Rattle.std.proofs.Common.{◌≡◌, true, false, [], ◌∷◌, None, Some, refl}
use Rattle.std.specs.Prelude.{codes}
use Rattle.std.specs.declared.cmp.Ordering.TheVariants as order
use Rattle.haya_text.specs.declared.strings.format.LongShortForm.TheVariants.{Long, Short}
use Rattle.haya_people.specs.Orders.{person_cmp, csl_parts}
use Rattle.haya_people.specs.Particles.{beginnings, joined, name_without_article}
use Rattle.haya_people.specs.Person.{PersonView}
use Rattle.haya_people.specs.Tables.{is_sorted_table, is_listed}

beginnings_row : beginnings (codes "Von Der Leyen") ≡ codes "Von" ∷ codes "Von Der" ∷ []
beginnings_row = refl

joined_rows :
    (joined (Some (codes "van")) (Some []) ≡ Some (codes "van "))
    × (joined (Some (codes "van")) None ≡ Some (codes "van"))
    × (joined None (Some (codes "von")) ≡ Some (codes "von"))
    × (joined None None ≡ None)
joined_rows = (refl, refl, refl, refl)

article_rows :
    (name_without_article (codes "The" ∷ []) (codes "The Press") ≡ codes "Press")
    × (name_without_article (codes "The" ∷ []) (codes "the Press") ≡ codes "the Press")
    × (name_without_article (codes "The" ∷ []) (codes "The ") ≡ codes "The ")
    × (name_without_article (codes "The" ∷ []) (codes "The") ≡ codes "The")
article_rows = (refl, refl, refl, refl)

table_rows :
    (is_sorted_table (codes "von der" ∷ codes "von" ∷ []) ≡ false)
    × (is_sorted_table (codes "von" ∷ codes "von" ∷ codes "von der" ∷ []) ≡ true)
    × (is_sorted_table [] ≡ true)
    × (is_listed (codes "von" ∷ []) (codes "Von") ≡ false)
table_rows = (refl, refl, refl, refl)

abbrev jane : PersonView
jane = record {
  name = codes "Doe";
  given_name = Some (codes "Jane");
  prefix = None;
  suffix = None;
  comma_suffix = false;
  alias = None;
}

-- a suffix counts before a prefix, and a missing one comes first
order_rows :
    (person_cmp jane (record jane { suffix = Some (codes "Jr.") }) ≡ order.Less)
    × (person_cmp (record jane { prefix = Some (codes "z") }) (record jane { suffix = Some [] }) ≡ order.Less)
    × (person_cmp (record jane { comma_suffix = true }) (record jane { alias = Some (codes "z") }) ≡ order.Greater)
    × (person_cmp jane jane ≡ order.Equal)
order_rows = (refl, refl, refl, refl)

parts_rows :
    (csl_parts Short true [] (true, jane) ≡ Some (codes "Doe") ∷ [])
    × (csl_parts Long true [] (true, jane) ≡ Some (codes "Doe") ∷ Some (codes "Jane") ∷ [])
    × (csl_parts Short false [] (false, jane) ≡ Some (codes "Doe") ∷ None ∷ Some (codes "Jane") ∷ None ∷ [])
parts_rows = (refl, refl, refl)
