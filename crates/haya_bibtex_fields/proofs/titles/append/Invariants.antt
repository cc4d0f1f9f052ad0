use Rattle.std.proofs.Common.{◌≡◌, drop, map}
use Rattle.haya_text.specs.Chunks.{chunk_view, chunks}
use Rattle.haya_bibtex_fields.specs.FieldTexts.{followed_by}
use Rattle.haya_bibtex_fields.proofs.titles.append.Given as goal

-- the text so far, and the chunks that are left behind it, are the whole
abbrev pub invariant-chunks : goal.invariant-chunks
invariant-chunks l =
    followed_by (chunks l.text) (map chunk_view (drop l.chunk-index l.more.0.items))
    ≡ followed_by (chunks l.initial.text) (chunks l.more)
