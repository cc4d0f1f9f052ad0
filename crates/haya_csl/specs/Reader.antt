-- The reader of texts with markup, by value.
use Rattle.haya_text.specs.Chunks.{chunks}
use Rattle.haya_csl.specs.Markup.{Marked}
use Rattle.haya_csl.specs.declared.markup.Reader.{Reader}

abbrev pub reader_view : Reader → Marked
reader_view r = record { depth = r.depth; read = chunks r.read }
