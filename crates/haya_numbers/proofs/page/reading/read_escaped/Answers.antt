use Rattle.std.proofs.Common.{Err, refl}
use Rattle.std.proofs.lemmas.Result.{err_from_is_err_and}
use Rattle.std.specs.Result.{result_and}
use Rattle.std.specs.Str.{chars}
use Rattle.haya_numbers.specs.Pages.{EscapedRange}
use Rattle.haya_numbers.specs.PagesReading.{both_read}
use Rattle.haya_numbers.specs.declared.page.PageRangesPartErr.TheVariants.{Malformed}
use Rattle.haya_numbers.proofs.ReadLemmas.{escaped-more, fault-along}
use Rattle.haya_numbers.proofs.page.reading.read_escaped.Goals as goal

pub returns-in-Some : goal.returns-in-Some
returns-in-Some c = rw (escaped-more EscapedRange (chars c.args.start.now) (chars c.args.behind.now) (chars c.in-Some.end.now) (chars c.in-Some.field-0-1.now) c.in-Some.ensures, c.in_ok-read_both.ensures) refl

pub returns-in_err-read_both : goal.returns-in_err-read_both
returns-in_err-read_both c =
    let p = err_from_is_err_and c.from_residual.result c.from_residual.ensures.1 in
    rw (p.1, p.2, escaped-more EscapedRange (chars c.args.start.now) (chars c.args.behind.now) (chars c.in-Some.end.now) (chars c.in-Some.field-0-1.now) c.in-Some.ensures)
    (fault-along (λ r. result_and r (Err Malformed)) (both_read (chars c.args.start.now) (chars c.in-Some.end.now)) c.in_err-read_both.field-0.0 (λ _. refl) c.in_err-read_both.ensures)
