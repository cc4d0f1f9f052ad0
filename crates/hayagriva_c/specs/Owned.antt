-- What C owes where a call changes what a pointer leads to, and gets back.
use base.Fml.{Fml, fex, fsep, ftrue}
use denote.RawPtr.{Ptr}
use Rattle.std.specs.Ptr.{points_to}
use Rattle.hayagriva_c.specs.contracts.content.Content.{the_row}

-- at the pointer is a content that is nobody else's for the time of the call: no other call reads it
abbrev pub owned : Ptr → the_row.Denot → Fml
owned p content = points_to the_row p content

-- at the pointer is one of which this holds
abbrev pub owned_as : Ptr → (the_row.Denot → Type 0) → Fml
owned_as p Holds =
    fex the_row.Denot (λ content. fsep (owned p content) (fex (Holds content) (λ _. ftrue)))
