-- The orders are total preorders.
use Rattle.std.proofs.Common.{Bool, true, false, List, [], ◌∷◌, refl}
use Rattle.std.specs.Cmp.{IsTotalOrder, back_total, bool_cmp_total, int_cmp_total, nat_cmp_total, on_total, then_total}
use Rattle.std.specs.Cmp.Lexicographic.{lists_total, nat_list_cmp_total, options_total}
use Rattle.haya_numbers.specs.Numeric.{csl_order, numbers}
use Rattle.haya_numbers.specs.Pages.{part_end, part_start}
use Rattle.haya_numbers.specs.PagesOrder.{kind_place, pages_order, part_order}
use Rattle.haya_people.specs.PersonOrder.{views_total}
use Rattle.haya_time.specs.DateOrder.{approximate_without, date_csl_cmp}
use Rattle.haya_time.specs.DurationOrder.{IsTotalOrder-duration_cmp}
use Rattle.haya_questions.specs.Order.{SortKeyView, all_tied, directed, hit_order, is_missing, kinds_before, named_order, rank_order, ranks_at, ranks_order, typed_order}
use Rattle.haya_questions.specs.Ranked.{first_ranks, other_ranks, ranked_order}

dates : IsTotalOrder date_csl_cmp
dates =
    then_total (on_total (λ d. d.year) int_cmp_total)
    (then_total (on_total (λ d. d.month) (options_total nat_cmp_total))
    (then_total (on_total (λ d. approximate_without d.month d) bool_cmp_total)
    (then_total (on_total (λ d. d.day) (options_total nat_cmp_total))
    (on_total (λ d. approximate_without d.day d) bool_cmp_total))))

numerics : IsTotalOrder csl_order
numerics = on_total (λ n. numbers n.value) (lists_total int_cmp_total)

page_parts : IsTotalOrder part_order
page_parts =
    then_total (on_total kind_place nat_cmp_total)
    (then_total (on_total part_start (options_total numerics)) (on_total part_end (options_total numerics)))

pages : IsTotalOrder pages_order
pages = lists_total page_parts

typed : IsTotalOrder typed_order
typed =
    then_total (on_total (λ r. kinds_before r.kind) nat_cmp_total)
    (then_total (on_total (λ r. r.date) (options_total dates))
    (then_total (on_total (λ r. r.number) (options_total numerics))
    (on_total (λ r. r.pages) (options_total pages))))

named : IsTotalOrder named_order
named =
    then_total (on_total (λ r. r.duration) (options_total IsTotalOrder-duration_cmp))
    (then_total (on_total (λ r. r.person) (options_total views_total))
    (then_total (on_total (λ r. r.fold) (options_total nat_list_cmp_total))
    (on_total (λ r. r.text) (options_total nat_list_cmp_total))))

pub rank_total : IsTotalOrder rank_order
unfolding rank_order
rank_total = then_total typed named

directed_total : (is_reversed : Bool) → IsTotalOrder (directed is_reversed)
directed_total true = back_total (lists_total rank_total)
directed_total false = lists_total rank_total

pub ranks_total : (is_reversed : Bool) → IsTotalOrder (ranks_order is_reversed)
unfolding ranks_order
ranks_total is_reversed = then_total (on_total is_missing bool_cmp_total) (directed_total is_reversed)

tied : {A : Type 0} → IsTotalOrder {K = A} all_tied
tied = record { antisymm = λ x y. refl; trans = λ x y z h g. h; congr = λ x y z h. refl }

pub hits_total : (keys : List SortKeyView) → IsTotalOrder (hit_order keys)
hits_total [] = tied
hits_total (key ∷ keys) = then_total (on_total (ranks_at key.place) (ranks_total key.is_reversed)) (hits_total keys)

pub ranked_total : (directions : List Bool) → IsTotalOrder (ranked_order directions)
ranked_total [] = tied
ranked_total (is_reversed ∷ directions) =
    then_total (on_total first_ranks (ranks_total is_reversed)) (on_total other_ranks (ranked_total directions))
