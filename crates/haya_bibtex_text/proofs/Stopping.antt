-- Why nothing is read, of a part and of the whole.
use Rattle.haya_bibtex_text.specs.Stops.{StopsBy}
use Rattle.haya_bibtex_text.specs.declared.fault.Refusal.{Refusal}
use Rattle.haya_bibtex_text.specs.declared.fault.Stop.{Stop}
use Rattle.haya_bibtex_text.specs.declared.fault.Stop.TheVariants.{Refused, OutOfMemory}

-- the fault of a part is that of the whole
pub stops_whole : (F G : Refusal → Type 0) → ((f : Refusal) → F f → G f) → (e : Stop)
    → StopsBy F e → StopsBy G e
stops_whole F G whole (Refused f) part = whole f part
stops_whole F G whole OutOfMemory part = tt
