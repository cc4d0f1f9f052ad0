-- Hits with what they are sorted by.
use Rattle.std.specs.Prelude.{◌≡◌, Bool, List, [], ◌∷◌, Some, Box, All, IsPermutation, IsSorted, filter, map, string_bytes}
use Rattle.std.specs.List.Sorted.{ties}
use Rattle.std.specs.Ordering.{is_lt, on, then_cmp}
use Rattle.std.specs.declared.cmp.Ordering.{Ordering}
use Rattle.std.specs.declared.alloc.Global.{Global}
use Rattle.haya_numbers.specs.Numeric.{numeric_view}
use Rattle.haya_numbers.specs.Pages.{parts}
use Rattle.haya_people.specs.Person.{person_view}
use Rattle.hayagriva.specs.declared.query.Hit.{Hit}
use Rattle.haya_questions.specs.Order.{Rank, SortKeyView, all_tied, duration_rank, of_kind, person_rank, ranks_at, ranks_order}
use Rattle.haya_questions.specs.SortText.{sort_key_view}
use Rattle.haya_questions.specs.declared.rank.RankKind.TheVariants as kind
use Rattle.haya_questions.specs.declared.rank.ValueRank.{ValueRank}
use Rattle.haya_questions.specs.declared.rank.ValueRank.TheVariants as rank
use Rattle.haya_questions.specs.declared.sort_key.SortKey.{SortKey}
use Rattle.haya_questions.specs.declared.sorting.RankedHit.{RankedHit}

-- a rank by value
unfoldable pub rank_view : ValueRank → Rank
rank_view (rank.Date date) = record (of_kind kind.Date) { date = Some date }
rank_view (rank.Number number) =
    record (of_kind kind.Number) { number = Some (numeric_view number) }
rank_view (rank.Pages pages) = record (of_kind kind.Pages) { pages = Some (parts pages) }
rank_view (rank.Duration duration) = duration_rank duration
rank_view (rank.Person person) = person_rank (person_view person)
rank_view (rank.Text fold text) = record (of_kind kind.Text) {
  fold = Some (string_bytes fold);
  text = Some (string_bytes text);
}
rank_view (rank.Untyped text) = record (of_kind kind.Untyped) { text = Some (string_bytes text) }

-- what a hit is sorted by at each place
abbrev pub ranked : List SortKeyView → Hit → List (List Rank)
ranked keys hit = map (λ key. ranks_at key.place hit) keys

-- the same as it is kept beside a hit
abbrev pub ranks_of : RankedHit → List (List Rank)
ranks_of kept =
    map rank_view kept.first.items ∷ map (λ ranks. map rank_view ranks.items) kept.others.items

abbrev pub boxed_ranks : Box RankedHit Global → List (List Rank)
boxed_ranks kept = ranks_of kept.value

-- the first of the lists, and the others
abbrev pub first_ranks : List (List Rank) → List Rank
first_ranks [] = []
first_ranks (ranks ∷ others) = ranks

abbrev pub other_ranks : List (List Rank) → List (List Rank)
other_ranks [] = []
other_ranks (ranks ∷ others) = others

-- the order of what is kept, by the keys' directions
abbrev pub ranked_order : List Bool → List (List Rank) → List (List Rank) → Ordering
ranked_order [] = all_tied
ranked_order (is_reversed ∷ directions) =
    then_cmp (on first_ranks (ranks_order is_reversed)) (on other_ranks (ranked_order directions))

abbrev pub directions : List SortKey → List Bool
directions keys = map (λ key. key.is_reversed) (map sort_key_view keys)

-- a list sorted by an order: the same elements, in order, and those that tie as they were
pub record IsSortOf {A : Type 0} (order : A → A → Ordering) (before after : List A) : Type 0 where
  pub same : IsPermutation before after
  pub sorted : IsSorted order after
  pub stable : All (λ x. filter (ties (λ a b. is_lt (order a b)) x) after
      ≡ filter (ties (λ a b. is_lt (order a b)) x) before) before
