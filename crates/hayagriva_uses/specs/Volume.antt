use Rattle.std.specs.Prelude.{ℕ, List}
use Rattle.std.specs.Result.{result_ok}
use Rattle.haya_numbers.specs.Numeric.{NumericView}
use Rattle.haya_numbers.specs.NumericReading.{numeric_read}
use Rattle.haya_values.specs.MaybeTyped.{TypedOrText, typed_or_text}

-- the number that a text writes, or the text
abbrev pub volume : List ℕ → TypedOrText NumericView
volume text = typed_or_text (result_ok (numeric_read text)) text
