-- Texts with a short form, by value.
use Rattle.std.specs.Prelude.{ℕ, List, Option, None, Some, option_map, unwrap_or}
use Rattle.haya_text.specs.declared.strings.format.FormatString.{FormatString}
use Rattle.haya_text.specs.declared.strings.format.LongShortForm.{LongShortForm}
use Rattle.haya_text.specs.declared.strings.format.LongShortForm.TheVariants.{Long, Short}
use Rattle.haya_text.specs.Chunks.{Chunk, chunks, plain_text}
use Rattle.haya_text.specs.Printing.{text_display}
use Rattle.haya_text.specs.Reading.{chunks_read}

-- the chunks of the long form, and of the short one
pub record TextView : Type 0 where
  pub value : List Chunk
  pub short : Option (List Chunk)

abbrev pub text_view : FormatString → TextView
text_view text = record {
  value = chunks text.value;
  short = option_map (λ b. chunks b.value) text.short;
}

abbrev pub without_short : List Chunk → TextView
without_short cs = record { value = cs; short = None }

-- one chunk of plain text, without a short form
abbrev pub plain_view : List ℕ → TextView
plain_view bytes = without_short (plain_text bytes)

-- one chunk of plain text in either form
abbrev pub with_short : List ℕ → List ℕ → TextView
with_short value short = record { value = plain_text value; short = Some (plain_text short) }

-- what a text reads as: its chunks, without a short form
abbrev pub text_read : List ℕ → Option TextView
text_read text = option_map without_short (chunks_read text)

-- the form that is wanted; the long one takes the place of a missing short one
abbrev pub select : LongShortForm → TextView → List Chunk
select Long text = text.value
select Short text = unwrap_or text.short text.value

-- the short form as it is displayed, or the long one in its place
abbrev pub short_display : TextView → List ℕ
short_display text = text_display (select Short text)
