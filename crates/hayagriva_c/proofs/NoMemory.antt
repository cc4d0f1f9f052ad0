-- No memory to read a text is told in each format.
use Rattle.std.proofs.Common.{ℕ, List, inr}
use Rattle.hayagriva_c.specs.Reading.{WhyNotIn}
use Rattle.hayagriva_c.specs.Told.{IsMemoryTold}
use Rattle.hayagriva_c.specs.declared.reading.Format.{Format}
use Rattle.hayagriva_c.specs.declared.reading.Format.TheVariants.{Lines, Json, Csl, JsonLines, Yaml, Bibtex}
use Rattle.hayagriva_c.specs.declared.told.Told.{Told}

pub memory_in : (format : Format) (text : List ℕ) (told : Told) → IsMemoryTold told → WhyNotIn format text told
memory_in Lines text told memory = inr memory
memory_in Json text told memory = inr memory
memory_in Csl text told memory = inr memory
memory_in JsonLines text told memory = inr memory
memory_in Yaml text told memory = inr memory
memory_in Bibtex text told memory = inr memory
