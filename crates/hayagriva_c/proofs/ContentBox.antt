-- What is held and its parts own what a box of the content owns.
use mir.Syntax.{impl, tnil, dnil}
use mathlib.Core.List.{[]}
use denote.Signature.{Slot, plain}
use Rattle.std.proofs.BoxSteps.Form.{Bx}
use Rattle.std.specs.contracts.alloc.Global as Heap
use Rattle.std.specs.contracts.impls.GlobalAllocator.TheImpl.{ghosts, dict}
use Rattle.std.proofs.alloc.Global.TheLaws as heap
use Rattle.hayagriva_c.specs.contracts.content.Content as Content
use Rattle.hayagriva_c.proofs.content.Content.TheLaws as content
use Rattle.hayagriva_c.specs.contracts.parts.Parts as Parts
use Rattle.hayagriva_c.specs.contracts.held.Held as Held

abbrev pub E : Bx
E = record { row = Content.the_row; laws = content.the_row_laws; al = record { row = Heap.the_row; laws = heap.the_row_laws; g = ghosts; d = dict; drops = impl [] tnil dnil } }

abbrev pub FromParts : Slot 0
FromParts = plain (λ _. Parts.the_row Content.the_row Heap.the_row ghosts)

abbrev pub FromHeld : Slot 0
FromHeld = plain (λ _. Held.the_row)
