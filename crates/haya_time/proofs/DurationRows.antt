-- Worked rows of the definitions.
use Rattle.std.proofs.Common.{◌≡◌, refl, Ok, Err}
use Rattle.std.specs.Prelude.{codes}
use Rattle.std.specs.Fmt.{digits}
use Rattle.ucd_category.proofs.Computing.{ucd_category}
use Rattle.haya_time.specs.declared.duration.reading.DurationError.TheVariants.{Malformed, TooLarge}
use Rattle.haya_time.specs.DurationPrint.{duration_text}
use Rattle.haya_time.specs.DurationReading.{duration_read, range_read}
use Rattle.haya_time.specs.DurationValues.{milliseconds}

rounds_half_up : milliseconds (codes "5005") ≡ 501
rounds_half_up = refl

rounds_down : milliseconds (codes "00049") ≡ 0
rounds_down = refl

carries : duration_read (codes "90:00") ≡ Ok (record { days = 0; hours = 1; minutes = 30; seconds = 0; milliseconds = 0 })
unfolding ucd_category
carries = refl

reads_fraction : duration_read (codes "00 : 00 : 01 : 00,5 ") ≡ Ok (record { days = 0; hours = 0; minutes = 1; seconds = 0; milliseconds = 500 })
unfolding ucd_category
reads_fraction = refl

rounds_to_a_second : duration_read (codes "01:00,9995") ≡ Err TooLarge
unfolding ucd_category
rounds_to_a_second = refl

space_at_the_end : duration_read (codes "01:00 ") ≡ Err Malformed
unfolding ucd_category
space_at_the_end = refl

large_start_first : range_read (codes "01:61:48,5x") ≡ Err TooLarge
unfolding ucd_category
large_start_first = refl

seconds_not_closed : range_read (codes "01:61:48x") ≡ Err Malformed
unfolding ucd_category
seconds_not_closed = refl

colons_first : range_read (codes "01:61:48,5:") ≡ Err Malformed
unfolding ucd_category
colons_first = refl

hours_beside_days : duration_text (record { days = 10; hours = 0; minutes = 0; seconds = 0; milliseconds = 0 }) ≡ codes "10:00:00:00"
unfolding digits
hours_beside_days = refl
