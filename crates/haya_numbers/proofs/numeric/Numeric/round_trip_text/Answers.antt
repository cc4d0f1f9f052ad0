use Rattle.std.proofs.Common.{◌≡◌, sym, ◌∙◌, rules}
use Rattle.std.specs.Prelude.{string_bytes}
use Rattle.haya_numbers.specs.Numeric.{numeric_view}
use Rattle.haya_numbers.specs.NumericPrinted.{shown_numeric}
use Rattle.haya_numbers.proofs.RoundTrips.{number_shown}
use Rattle.haya_numbers.proofs.numeric.Numeric.round_trip_text.Goals as goal

pub returns-then-reads_back : goal.returns-then-reads_back
returns-then-reads_back c =
    let back = sym c.reads_back.ensures ∙ c.if-reads_back.true in
    let shown : string_bytes c.in_ok-shown.shown ≡ shown_numeric (numeric_view c.args.self.now) = search rules in
    shown ∙ sym (number_shown (numeric_view c.args.self.now) back)
