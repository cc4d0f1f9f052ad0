use Rattle.std.proofs.Common.{◌≡◌, subst}
use Rattle.std.specs.Prelude.{IfOk}
use Rattle.haya_bibtex_inherited.specs.Entries.{EntryBytes}
use Rattle.haya_bibtex_inherited.specs.Views.{entry_view}
use Rattle.haya_bibtex_entries.specs.Entries.{entry_said, filled, reading_view, said_of}
use Rattle.haya_bibtex_entries.specs.Kinds.{kind_of}
use Rattle.haya_bibtex_entries.specs.declared.kinds.Kind.{Kind}
use Rattle.haya_bibtex_entries.proofs.reading.read_entry.Goals as goal

pub returns-in-Ok : goal.returns-in-Ok
unfolding entry_said
returns-in-Ok c =
    let e : EntryBytes = entry_view c.args.entry.now in
    let kind : c.kind_of-kind.result ≡ kind_of e.kind e.fields =
    rw (c.new-fields.ensures, c.as_slice.ensures.value) at c.kind_of-kind.ensures in
    subst (λ (k : Kind). IfOk c.read_fields.result (λ r. reading_view r ≡ said_of (filled e k))) kind c.read_fields.ensures
