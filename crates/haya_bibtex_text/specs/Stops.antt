-- Why reading stops.
use Rattle.std.specs.Prelude.{⊤}
use Rattle.haya_bibtex_text.specs.declared.fault.Refusal.{Refusal}
use Rattle.haya_bibtex_text.specs.declared.fault.Stop.{Stop}
use Rattle.haya_bibtex_text.specs.declared.fault.Stop.TheVariants.{Refused, OutOfMemory}

-- by a fault that is one of these; out of memory says nothing
abbrev pub StopsBy : (Refusal → Type 0) → Stop → Type 0
StopsBy F (Refused f) = F f
StopsBy F OutOfMemory = ⊤
