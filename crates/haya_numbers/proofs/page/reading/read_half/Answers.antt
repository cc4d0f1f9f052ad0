use Rattle.std.proofs.Common.{◌≡◌, ap}
use Rattle.std.proofs.lemmas.Result.{err_from_is_err_and}
use Rattle.std.specs.Result.{result_map_both}
use Rattle.std.specs.Str.{chars}
use Rattle.haya_numbers.specs.NumericReading.{numeric_read}
use Rattle.haya_numbers.specs.Pages.{fault_of}
use Rattle.haya_numbers.specs.PagesReading.{trim_chars}
use Rattle.haya_numbers.proofs.ReadLemmas.{chars-trim, fault-in_number}
use Rattle.haya_numbers.proofs.page.reading.read_half.Goals as goal

pub returns-in_err-from_str : goal.returns-in_err-from_str
returns-in_err-from_str c =
    let p = err_from_is_err_and c.from_residual.result c.from_residual.ensures.1 in
    let trimmed : chars c.trim.result.now ≡ trim_chars (chars c.args.half.now) = chars-trim c.args.half.now c.trim.result.now c.utf8.half c.trim.utf8 c.trim.ensures.trim in
    rw (p.1, p.2, ← trimmed) (fault-in_number (numeric_read c.trim.result.now) c.in_err-from_str.field-0.0 c.in_err-from_str.ensures.exact)

pub returns : goal.returns
returns c =
    let trimmed : chars c.trim.result.now ≡ trim_chars (chars c.args.half.now) = chars-trim c.args.half.now c.trim.result.now c.utf8.half c.trim.utf8 c.trim.ensures.trim in
    rw (← trimmed) (ap (result_map_both (λ n. n) fault_of) c.in_ok-from_str.ensures.value)
