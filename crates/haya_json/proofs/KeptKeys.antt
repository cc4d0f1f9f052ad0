-- Setters keep the key of an entry, and so an entry has the key that it is under.
use Rattle.std.proofs.Common.{◌≡◌, ℕ, Bool, true, false, cond, List, [], ◌∷◌, Option, None, Some, Result, Ok, refl, sym, ap, ◌∙◌}
use Rattle.std.specs.Prelude.{⊤, codes, is_some, if◌then◌else◌, ◌&&◌}
use Rattle.std.specs.Map.{lookup}
use Rattle.std.specs.Str.{bytes_eq}
use Rattle.json.specs.Json as json
use Rattle.json.specs.Json.{Json, Members}
use Rattle.json.specs.Find.{is_null}
use Rattle.haya_entry.specs.ParentTypes.{default_parent}
use Rattle.haya_entry.specs.Tree.{Tree, Fields, node, fields, with_parents}
use Rattle.haya_entry.specs.declared.types.EntryType.{EntryType}
use Rattle.hayagriva.specs.Library.{key_of}
use Rattle.haya_json.specs.Entries.{ParentsView, after_member, entry_begun, entry_of, kind_of, members_said, parents_said, type_of, with_member}
use Rattle.haya_json.specs.Fields.{EntryView, Setter, entry_alone, entry_but, field_setter, field_table, none_lost, read_into, serial_setter, set_by, with_field}
use Rattle.haya_json.specs.LostParts.{date_part, format_part, many_lost, parts_lost, person_part, publisher_part, range_part, roles_part, url_part}
use Rattle.haya_json.specs.Notes.{LostView, lost_here, refusal_lost, unread}
use Rattle.haya_json.specs.Parts.{plain_of}
use Rattle.haya_json.specs.Refusal.{Refusal}
use Rattle.haya_json.specs.Values.{format_of, persons_of, affiliated_of, date_of, publisher_of, url_of, number_of, number_or_text_of, pages_or_text_of, range_or_text_of, duration_or_text_of, serials_of}
use Rattle.haya_json.specs.declared.fault.Why.TheVariants.{Twice}
use Rattle.haya_json.proofs.TextsRead.{ok_same}

-- ---- setters

KeepsKey : Setter → Type 0
KeepsKey set = (j : Json) (t : Tree) → key_of (set j t).entry ≡ key_of t

field_keeps : {V : Type 0} (read : Json → Result V Refusal) (lost : Json → List LostView) (get : Fields → Option V) (put : Option V → Fields → Fields)
    → ((v : Option V) (f : Fields) → (put v f).key ≡ f.key) → KeepsKey (field_setter read lost get put)
unfolding KeepsKey
field_keeps read lost get put keeps j (node f ps) = keeps (read_into (read j) (lost j) (get f)).after f

serial_keeps : KeepsKey serial_setter
unfolding KeepsKey
serial_keeps j t = by (is_some (fields t).serial_number)
  where
    set : Setter
    set = field_setter serials_of none_lost (λ f. f.serial_number) (λ v f. record f { serial_number = v })

    by : (b : Bool) → key_of (if b then entry_but (lost_here (unread Twice)) t else set j t).entry ≡ key_of t
    by true = refl
    by false = field_keeps serials_of none_lost (λ f. f.serial_number) (λ v f. record f { serial_number = v }) (λ v f. refl) j t

AllKeep : List (List ℕ × Setter) → Type 0
AllKeep [] = ⊤
AllKeep (row ∷ rows) = KeepsKey row.1 × AllKeep rows

-- the setter of a name in a table
setter_keeps : (rows : List (List ℕ × Setter)) (name : List ℕ) → AllKeep rows → KeepsKey (set_by (lookup (bytes_eq name) rows) name)
unfolding KeepsKey AllKeep
setter_keeps [] name h j t = refl
setter_keeps (row ∷ rows) name h j t = by (setter_keeps rows name h.1 j t) (bytes_eq name row.0)
  where
    by : key_of (set_by (lookup (bytes_eq name) rows) name j t).entry ≡ key_of t → (b : Bool)
        → key_of (set_by (cond b (Some row.1) (lookup (bytes_eq name) rows)) name j t).entry ≡ key_of t
    by rest true = h.0 j t
    by rest false = rest

table_keeps : AllKeep field_table
unfolding AllKeep
table_keeps = (
  field_keeps persons_of (many_lost person_part (codes "author")) (λ f. f.authors) (λ v f. record f { authors = v }) (λ v f. refl),
  (
    field_keeps persons_of (many_lost person_part (codes "editor")) (λ f. f.editors) (λ v f. record f { editors = v }) (λ v f. refl),
    (
      field_keeps affiliated_of (many_lost roles_part (codes "affiliated")) (λ f. f.affiliated) (λ v f. record f { affiliated = v }) (λ v f. refl),
      (
        field_keeps date_of (parts_lost date_part (codes "date")) (λ f. f.date) (λ v f. record f { date = v }) (λ v f. refl),
        (
          field_keeps publisher_of (parts_lost publisher_part (codes "publisher")) (λ f. f.publisher) (λ v f. record f { publisher = v }) (λ v f. refl),
          (
            field_keeps url_of (parts_lost url_part (codes "url")) (λ f. f.url) (λ v f. record f { url = v }) (λ v f. refl),
            (
              field_keeps plain_of none_lost (λ f. f.language) (λ v f. record f { language = v }) (λ v f. refl),
              (
                field_keeps format_of (parts_lost format_part (codes "title")) (λ f. f.title) (λ v f. record f { title = v }) (λ v f. refl),
                (
                  field_keeps format_of (parts_lost format_part (codes "location")) (λ f. f.location) (λ v f. record f { location = v }) (λ v f. refl),
                  (
                    field_keeps format_of (parts_lost format_part (codes "organization")) (λ f. f.organization) (λ v f. record f { organization = v }) (λ v f. refl),
                    (
                      field_keeps format_of (parts_lost format_part (codes "archive")) (λ f. f.archive) (λ v f. record f { archive = v }) (λ v f. refl),
                      (
                        field_keeps format_of (parts_lost format_part (codes "archive-location")) (λ f. f.archive_location) (λ v f. record f { archive_location = v }) (λ v f. refl),
                        (
                          field_keeps format_of (parts_lost format_part (codes "call-number")) (λ f. f.call_number) (λ v f. record f { call_number = v }) (λ v f. refl),
                          (
                            field_keeps format_of (parts_lost format_part (codes "note")) (λ f. f.note) (λ v f. record f { note = v }) (λ v f. refl),
                            (
                              field_keeps format_of (parts_lost format_part (codes "abstract")) (λ f. f.abstract_) (λ v f. record f { abstract_ = v }) (λ v f. refl),
                              (
                                field_keeps format_of (parts_lost format_part (codes "genre")) (λ f. f.genre) (λ v f. record f { genre = v }) (λ v f. refl),
                                (
                                  field_keeps number_or_text_of none_lost (λ f. f.issue) (λ v f. record f { issue = v }) (λ v f. refl),
                                  (
                                    field_keeps number_or_text_of none_lost (λ f. f.chapter) (λ v f. record f { chapter = v }) (λ v f. refl),
                                    (
                                      field_keeps number_or_text_of none_lost (λ f. f.volume) (λ v f. record f { volume = v }) (λ v f. refl),
                                      (
                                        field_keeps number_or_text_of none_lost (λ f. f.edition) (λ v f. record f { edition = v }) (λ v f. refl),
                                        (
                                          field_keeps number_of none_lost (λ f. f.volume_total) (λ v f. record f { volume_total = v }) (λ v f. refl),
                                          (
                                            field_keeps number_of none_lost (λ f. f.page_total) (λ v f. record f { page_total = v }) (λ v f. refl),
                                            (
                                              field_keeps pages_or_text_of none_lost (λ f. f.page_range) (λ v f. record f { page_range = v }) (λ v f. refl),
                                              (
                                                field_keeps range_or_text_of (parts_lost range_part (codes "time-range")) (λ f. f.time_range) (λ v f. record f { time_range = v }) (λ v f. refl),
                                                (
                                                  field_keeps duration_or_text_of none_lost (λ f. f.runtime) (λ v f. record f { runtime = v }) (λ v f. refl),
                                                  (serial_keeps, (serial_keeps, tt)),
                                                ),
                                              ),
                                            ),
                                          ),
                                        ),
                                      ),
                                    ),
                                  ),
                                ),
                              ),
                            ),
                          ),
                        ),
                      ),
                    ),
                  ),
                ),
              ),
            ),
          ),
        ),
      ),
    ),
  ),
)

with_parents_key : (ps : List Tree) (t : Tree) → key_of (with_parents ps t) ≡ key_of t
with_parents_key ps (node f qs) = refl

member_keeps : (default : Option EntryType) (name : List ℕ) (j : Json) (parents : ParentsView) (t : Tree)
    → key_of (with_member default name j parents t).entry ≡ key_of t
unfolding KeepsKey
member_keeps default name j parents t =
    by (is_null j) (bytes_eq name (codes "type")) (bytes_eq name (codes "parent")) (bytes_eq name (codes "key") && is_some default)
  where
    by : (null type parent key : Bool)
        → key_of
        (if null then entry_alone t
        else if type then record { entry = t; lost = refusal_lost (type_of j) }
        else if parent then record { entry = with_parents parents.entries t; lost = parents.lost }
        else if key then record { entry = t; lost = refusal_lost (plain_of j) }
        else with_field name j t).entry
        ≡ key_of t
    by true type parent key = refl
    by false true parent key = refl
    by false false true key = with_parents_key parents.entries t
    by false false false true = refl
    by false false false false = setter_keeps field_table name table_keeps j t

members_keep : (key : List ℕ) (default : Option EntryType) (kind : EntryType) (ms : Members) (v : EntryView) → key_of (members_said key default kind ms v).entry ≡ key_of v.entry
members_keep key default kind json.no_members v = refl
members_keep key default kind (json.member k j ms) v =
    let ps = parents_said key (default_parent kind) j in
    members_keep key default kind ms (after_member k v.lost (with_member default k j ps v.entry)) ∙ member_keeps default k j ps v.entry

-- an entry of a library has the key that it is under
pub entry_key : (key : List ℕ) (j : Json) (t : Tree) → entry_of key None j ≡ Ok t → key_of t ≡ key
entry_key key json.null t is = cc
entry_key key (json.boolean b) t is = cc
entry_key key (json.number s) t is = cc
entry_key key (json.string s) t is = cc
entry_key key (json.array js) t is = cc
entry_key key (json.object ms) t is =
    let same : (members_said key None (kind_of None (json.object ms)) ms (entry_begun key None (json.object ms))).entry ≡ t = ok_same is in
    ap key_of (sym same) ∙ members_keep key None (kind_of None (json.object ms)) ms (entry_begun key None (json.object ms))
