use Rattle.std.proofs.Common.{map, take}
use Rattle.std.specs.Fmt.{HasWritten, IsPlainFormatter}
use Rattle.haya_numbers.specs.Pages.{part_view}
use Rattle.haya_numbers.specs.PagesRoundTrip.{exact_pages}
use Rattle.haya_numbers.proofs.page.round_trip.ExactPagesDisplay.fmt.Given as goal

-- the parts so far are written
abbrev pub invariant-loop-part : goal.invariant-loop-part
invariant-loop-part g l =
    IsPlainFormatter l.initial.f → HasWritten g.W.Write.write_str_gives l.initial.f (exact_pages (map part_view (take l.part-index l.part-items))) l.f
