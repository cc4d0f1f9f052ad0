-- What is asked of the hits of a selector.
use Rattle.std.specs.Prelude.{◌≡◌, ◌==◌, ◌&&◌, ℕ, Bool, true, false, List, Option, None, Some, filter, is_none, length, map, take}
use Rattle.std.specs.List.{list_all}
use Rattle.hayagriva.specs.declared.query.Hit.{Hit}
use Rattle.haya_questions.specs.Order.{hit_order}
use Rattle.haya_questions.specs.Place.{place_view}
use Rattle.haya_questions.specs.Ranked.{IsSortOf}
use Rattle.haya_questions.specs.SortText.{sort_key_view}
use Rattle.haya_questions.specs.Test.{TestView, holds, test_view}
use Rattle.haya_asked.specs.Alike.{is_like}
use Rattle.haya_asked.specs.Firsts.{first_order, firsts, is_shared}
use Rattle.haya_asked.specs.declared.questions.Questions.{Questions}
use Rattle.haya_asked.specs.declared.questions.Repeats.{Repeats}
use Rattle.haya_asked.specs.declared.questions.Repeats.TheVariants.{Kept, Dropped, Alone}

-- whether a hit passes all tests
abbrev pub passes : List TestView → Hit → Bool
passes tests hit = list_all (λ t. holds t hit) tests

-- those that share values with others, by the places of the first of them, otherwise as they were
abbrev pub AreShared : (Hit → Hit → Bool) → List Hit → List Hit → Type 0
AreShared is_like hits found =
    IsSortOf (first_order is_like hits) (filter (is_shared is_like hits) hits) found

-- what is left of hits that share values: all, the first, or those that do
abbrev pub AreLeft : Repeats → List Hit → List Hit → Type 0
AreLeft Kept hits left = left ≡ hits
AreLeft (Dropped places) hits left = left ≡ firsts (is_like (map place_view places.items)) hits
AreLeft (Alone places) hits left = AreShared (is_like (map place_view places.items)) hits left

-- so many at most, from the first on
abbrev pub at_most : Option ℕ → List Hit → List Hit
at_most None hits = hits
at_most (Some n) hits = take n hits

-- the hits that are asked for: those that pass the tests, sorted by the keys, what is left of those
-- that share values, and of them so many at most
pub record AreAsked (questions : Questions) (hits asked : List Hit) : Type 0 where
  pub sorted : List Hit
  pub left : List Hit
  pub sort : IsSortOf (hit_order (map sort_key_view questions.keys.items))
      (filter (passes (map test_view questions.tests.items)) hits) sorted
  pub repeats : AreLeft questions.repeats sorted left
  pub first : asked ≡ at_most questions.max left

abbrev pub keeps_repeats : Repeats → Bool
keeps_repeats Kept = true
keeps_repeats (Dropped places) = false
keeps_repeats (Alone places) = false

-- whether nothing is asked
abbrev pub asks_nothing : Questions → Bool
asks_nothing questions =
    length questions.tests.items == 0
    && (length questions.keys.items == 0
    && (keeps_repeats questions.repeats && is_none questions.max))
