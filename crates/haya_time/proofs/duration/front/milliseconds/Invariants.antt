use Rattle.std.proofs.Common.{◌≡◌, ◌+◌, ◌*◌, ◌≤◌, true, drop}
use Rattle.std.specs.Char.{is_ascii_digit}
use Rattle.std.specs.List.{list_all}
use Rattle.haya_time.proofs.DurationNumbers.{tenths}
use Rattle.haya_time.proofs.duration.front.milliseconds.Given as goal

abbrev pub invariant-digits : goal.invariant-digits
invariant-digits l = record {
  read : l.ten_thousandths + tenths l.weight (drop l.digit-index l.digit-items) ≡ tenths 1000 l.digit-items;
  left : list_all is_ascii_digit (drop l.digit-index l.digit-items) ≡ true;
  fits : l.ten_thousandths + 10 * l.weight ≤ 10000;
}
