-- What a pointer to a content owns.
use base.Fml.{Fml, feq}
use base.Stored.{Coded}
use denote.RawPtr.{Ptr, null_ptr}
use Rattle.std.specs.Box.Ownership.{box_owns}
use Rattle.std.specs.Coded.{coded_option}
use Rattle.std.specs.Prelude.{Option, None, Some}
use Rattle.std.specs.declared.alloc.Global.{Global}
use Rattle.std.specs.contracts.impls.GlobalAllocator.TheImpl.{ghosts}
use Rattle.hayagriva_c.specs.contracts.content.Content.{the_row}

-- nothing at null, otherwise a box of the content
abbrev pub content_owns : Global → Ptr → Option the_row.Denot → Fml
content_owns alloc p None = feq Ptr p null_ptr
content_owns alloc p (Some content) = box_owns (ghosts.dealloc_token alloc) the_row p content

abbrev pub content_coded : Coded (Option the_row.Denot)
content_coded = coded_option the_row.coded
