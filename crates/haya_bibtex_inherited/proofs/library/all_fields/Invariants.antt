use Rattle.std.proofs.Common.{◌≡◌, drop, map}
use Rattle.std.specs.Prelude.{fold}
use Rattle.haya_bibtex_inherited.specs.FieldNames.{KnowsNames}
use Rattle.haya_bibtex_inherited.specs.Inherited.{all_fields, with_source}
use Rattle.haya_bibtex_inherited.specs.Lists.{have_same_rank, lists_view}
use Rattle.haya_bibtex_inherited.specs.Sources.{sources_view}
use Rattle.haya_bibtex_inherited.specs.Views.{entry_bytes, fields_view}
use Rattle.haya_bibtex_inherited.proofs.library.all_fields.Given as goal

-- the fields so far, with what the sources that are left give, are those with all
abbrev pub invariant-sources : goal.invariant-sources
invariant-sources l =
    let back = have_same_rank l.ranks in
    let es = map entry_bytes l.entries in
    let all = lists_view l.lists in
    record {
      knows : KnowsNames l.fields;
      fields : fold (with_source back es all l.place) (fields_view l.fields.list.items) (sources_view (drop l.source-index l.found))
          ≡ all_fields back es all l.place;
    }
