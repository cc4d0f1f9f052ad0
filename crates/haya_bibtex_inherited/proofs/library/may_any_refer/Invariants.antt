use Rattle.std.proofs.Common.{map, take}
use Rattle.haya_bibtex_inherited.specs.Views.{entry_bytes}
use Rattle.haya_bibtex_inherited.proofs.Alone.{ReferToNone}
use Rattle.haya_bibtex_inherited.proofs.library.may_any_refer.Given as goal

-- none so far does
abbrev pub invariant-entries : goal.invariant-entries
invariant-entries l = ReferToNone (map entry_bytes (take l.entry-index l.entries))
