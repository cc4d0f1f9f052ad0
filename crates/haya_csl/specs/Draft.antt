-- The entries that an item makes, by value.
use Rattle.std.specs.Prelude.{List, map}
use Rattle.haya_entry.specs.Tree.{view}
use Rattle.haya_json.specs.Notes.{losts_view}
use Rattle.haya_json.specs.declared.notes.Lost.{Lost}
use Rattle.haya_csl.specs.Items.{DraftView, MemberView}
use Rattle.haya_csl.specs.declared.draft.Draft.{Draft}

abbrev pub draft_view : Draft → DraftView
draft_view d = record {
  own = view d.own;
  host = map view d.host.items;
  venue = map view d.venue.items;
  series = map view d.series.items;
  original = map view d.original.items;
}

-- the entries after a member, and what is lost of it
abbrev pub member_view : List Lost → Draft → MemberView
member_view losts d = record { after = draft_view d; lost = losts_view losts }
