-- Each member of an item is read, or told.
use Rattle.std.proofs.Common.{◌≡◌, inl, inr, ℕ, Bool, true, false, List, [], ◌∷◌, ◌++◌, Option, None, Some, Ok, map, refl, sym, ap, ◌∙◌, subst, arith}
use Rattle.std.specs.Prelude.{◌⊎◌, codes, is_some, option_map, slice_get, unwrap_or, IsSomeAnd, IsTrue, ⊤, if◌then◌else◌}
use Rattle.std.specs.BTreeMap.{insert_entry}
use Rattle.std.specs.Cmp.Lexicographic.{slice_cmp}
use Rattle.std.specs.List.{Contains}
use Rattle.std.specs.Map.{lookup}
use Rattle.std.specs.Ordering.{nat_cmp, match_ordering}
use Rattle.std.specs.declared.cmp.Ordering.{Ordering}
use Rattle.std.specs.declared.cmp.Ordering.TheVariants.{Less, Equal, Greater}
use Rattle.std.specs.Result.{result_ok}
use Rattle.std.specs.Str.{bytes_eq, chars}
use Rattle.std.proofs.lemmas.Cmp.{nat_list_cmp_total, tied_itself}
use Rattle.std.proofs.lemmas.Map.Lookups.{exact_bytes}
use Rattle.std.proofs.lemmas.Slice.Eq.{bytes_eq-Decides}
use Rattle.std.proofs.lemmas.List.{get_or-map, length-map}
use Rattle.std.proofs.lemmas.List.Elements.{Contains-append_left, Contains-append_right}
use Rattle.json.specs.Json as json
use Rattle.json.specs.Json.{Json, Members}
use Rattle.haya_text.specs.Chunks.{Chunk}
use Rattle.haya_text.specs.Texts.{TextView, without_short}
use Rattle.haya_people.specs.Roles.{RoleView, RolesView}
use Rattle.haya_numbers.specs.NumericReading.{numeric_read}
use Rattle.haya_numbers.specs.PagesReading.{pages_read}
use Rattle.haya_time.specs.DurationReading.{duration_read}
use Rattle.haya_time.specs.declared.date.Date.{Date}
use Rattle.haya_values.specs.MaybeTyped.{Typed, typed_or_text}
use Rattle.haya_entry.specs.SerialNumber.{Serials, with_serial, serial_text as text_under}
use Rattle.haya_entry.specs.Tree.{Fields, Tree, node, keyed_serial_number, new_entry, with_keyed_serial_number}
use Rattle.haya_entry.specs.declared.types.EntryType.{EntryType}
use Rattle.haya_entry.specs.declared.types.EntryType.TheVariants as type
use Rattle.haya_json.specs.Fields.{EntryView}
use Rattle.haya_json.specs.Notes.{LostView, all_behind, lost_behind, lost_here, named, unread}
use Rattle.haya_json.specs.Parts.{text_in}
use Rattle.haya_json.specs.Refusal.{to_member}
use Rattle.haya_json.specs.declared.fault.Why.{Why}
use Rattle.haya_json.specs.declared.fault.Why.TheVariants.{NotDate, NotDuration, NotList, NotNumber, NotObject, NotText, UnknownType}
use Rattle.haya_json.proofs.TextsRead.{ok_same}
use Rattle.haya_csl.specs.Dates.{date_said, dated, object_said, range_said, start_said, text_said as date_text}
use Rattle.haya_csl.specs.DateTexts.{date_in, plain, range_start}
use Rattle.haya_csl.specs.Fields.{SetView, Setter, count_said, field_setter, location_of, lost_visit, name_of_publisher, number_said, number_setter, pages_said, role_setter, runtime_said, said_at, serial_setter, setter_of, visit_date_setter, with_authors, with_date, with_editors, with_language, with_publisher_name, with_publisher_place, with_short, with_short_title, with_text, with_title}
use Rattle.haya_csl.specs.Items.{DraftView, MemberView, after_member, chosen, citation_key_lost, is_place_again, item_key, item_said, item_under, members_set, new_draft, only_lost, parent_set, parents_after, role_of, set_at, type_lost, with_field, with_member, with_role_or_place}
use Rattle.haya_csl.specs.Kinds.{is_empty, kind_named, kind_of}
use Rattle.haya_csl.specs.Markup.{markup_read}
use Rattle.haya_csl.specs.Members.{beside, place_of}
use Rattle.haya_csl.specs.Names.{names_said}
use Rattle.haya_csl.specs.ReadOrTold.{AddsNothing, Has, HasField, HasNumber, HasPersons, HasSerial, IsKeptWithUrl, IsOfItem, IsPut, IsRead, IsNames, IsReadOrTold, LeavesNone, SaysNoDate, SaysNoNames, SaysNothing, dated_url, entries_after, entry_at, joined, long_title, short_title, text_of}
use Rattle.haya_csl.specs.Said.{SaidView, says}
use Rattle.haya_csl.specs.Serials.{archive_number_said, bare, keyed, serial_key, serial_said, serial_text}
use Rattle.haya_csl.specs.Texts.{by_text, format_said, markup_said, plain_said, said_as, says_or, says_some, text_said}
use Rattle.haya_csl.specs.declared.fields.Field.{Field}
use Rattle.haya_csl.specs.declared.fields.Field.TheVariants as field
use Rattle.haya_csl.specs.declared.fields.NumberField.{NumberField}
use Rattle.haya_csl.specs.declared.fields.NumberField.TheVariants as numbers
use Rattle.haya_csl.specs.declared.fields.SerialField.{SerialField}
use Rattle.haya_csl.specs.declared.fields.TextField.{TextField}
use Rattle.haya_csl.specs.declared.fields.TextField.TheVariants as texts
use Rattle.haya_csl.specs.declared.item_key.ItemKey.{ItemKey}
use Rattle.haya_csl.specs.declared.item_key.ItemKey.TheVariants.{CitationKey, Id}
use Rattle.haya_csl.specs.declared.kinds.Kind.{Kind}
use Rattle.haya_csl.specs.declared.members.Choice.{Choice}
use Rattle.haya_csl.specs.declared.members.Choice.TheVariants.{Put, Pass}
use Rattle.haya_csl.specs.declared.members.Level.{Level}
use Rattle.haya_csl.specs.declared.members.Level.TheVariants as level
use Rattle.haya_csl.specs.declared.members.Place.{Place}

-- ---- lists

pub Contains-map : {X Y : Type 0} (f : X → Y) (xs : List X) (x : X) → Contains xs x → Contains (map f xs) (f x)
Contains-map f xs x has = (has.0, rw length-map has.1, get_or-map f xs has.0 x (f x) has.1 ∙ ap f has.2)

-- ---- what a value says, adds or loses

-- it says something, or adds nothing, or something is lost
abbrev pub SaysOr : {V : Type 0} → SaidView V → Type 0 → Type 0
SaysOr {V} said Nothing = ((v : V) × (said.value ≡ Some v)) ⊎ (Nothing ⊎ ((x : LostView) × Contains said.lost x))

pub first_lost : (x : LostView) (xs : List LostView) → Contains (x ∷ xs) x
first_lost x xs = (0, omega arith, refl)

pub told_one : (x : LostView) → (y : LostView) × Contains (x ∷ []) y
told_one x = (x, first_lost x [])

says_any : {V : Type 0} (said : SaidView V) → SaysOr said (SaysNothing said)
says_any {V} said = by said.value refl said.lost refl
  where
    by : (o : Option V) → said.value ≡ o → (losts : List LostView) → said.lost ≡ losts → SaysOr said (SaysNothing said)
    by (Some v) is losts are = inl (v, is)
    by None is [] are = inr (inl (is, are))
    by None is (x ∷ xs) are = inr (inr (x, rw are (first_lost x xs)))

says_as : {V W N : Type 0} (view : V → W) (said : SaidView V) → SaysOr said N → SaysOr (said_as view said) N
says_as view said (inl v) = inl (view v.0, ap (option_map view) v.1)
says_as view said (inr other) = inr other

pub says_list : {A : Type 0} (xs : List A) → SaysOr (says_some xs) (xs ≡ [])
says_list [] = inr (inl refl)
says_list (x ∷ xs) = inl (x ∷ xs, refl)

says_read : {V N : Type 0} (why : Why) (o : Option V) → SaysOr (says_or why o) N
says_read why None = inr (inr (told_one (lost_here (unread why))))
says_read why (Some v) = inl (v, refl)

pub says_text : {V A : Type 0} (says_of : List ℕ → SaidView V) (left : List ℕ → List A) → ((text : List ℕ) → SaysOr (says_of text) (left text ≡ []))
    → (j : Json) → SaysOr (text_said says_of j) (LeavesNone left j)
says_text says_of left of_text j = by (text_in j)
  where
    by : (o : Option (List ℕ)) → SaysOr (by_text says_of o) (IsSomeAnd o (λ text. (text ≡ []) ⊎ (left text ≡ [])))
    by None = inr (inr (told_one (lost_here (unread NotText))))
    by (Some []) = inr (inl (inl refl))
    by (Some (b ∷ bs)) = further (of_text (b ∷ bs))
      where
        further : SaysOr (says_of (b ∷ bs)) (left (b ∷ bs) ≡ []) → SaysOr (says_of (b ∷ bs)) ((let text : List ℕ = b ∷ bs in text ≡ []) ⊎ (left (b ∷ bs) ≡ []))
        further (inl v) = inl v
        further (inr (inl none)) = inr (inl (inr none))
        further (inr (inr lost)) = inr (inr lost)

says_plain : (j : Json) → SaysOr (plain_said j) (LeavesNone (λ text. text) j)
says_plain j = says_text (λ text. says text) (λ text. text) (λ text. inl (text, refl)) j

says_markup : (j : Json) → SaysOr (markup_said j) (LeavesNone markup_read j)
says_markup j = says_text (λ text. says_some (markup_read text)) markup_read (λ text. says_list (markup_read text)) j

says_format : (j : Json) → SaysOr (format_said j) (LeavesNone markup_read j)
says_format j = says_as without_short (markup_said j) (says_markup j)

says_number : (j : Json) → SaysOr (number_said j) (LeavesNone (λ text. text) j)
says_number j =
    says_text (λ text. says (typed_or_text (result_ok (numeric_read text)) text)) (λ text. text) (λ text. inl (typed_or_text (result_ok (numeric_read text)) text, refl)) j

says_count : (j : Json) → SaysOr (count_said j) (LeavesNone (λ text. text) j)
says_count j =
    says_text (λ text. says_or NotNumber (result_ok (numeric_read text))) (λ text. text) (λ text. says_read NotNumber (result_ok (numeric_read text))) j

says_pages : (j : Json) → SaysOr (pages_said j) (LeavesNone (λ text. text) j)
says_pages j =
    says_text (λ text. says (typed_or_text (result_ok (pages_read (chars text))) text)) (λ text. text) (λ text. inl (typed_or_text (result_ok (pages_read (chars text))) text, refl)) j

says_runtime : (j : Json) → SaysOr (runtime_said j) (LeavesNone (λ text. text) j)
says_runtime j =
    says_text (λ text. says_or NotDuration (result_ok (duration_read (chars text)))) (λ text. text) (λ text. says_read NotDuration (result_ok (duration_read (chars text)))) j

says_serial : (s : SerialField) (j : Json) → SaysOr (serial_said s j) (LeavesNone (serial_text s) j)
says_serial s j =
    says_text (λ text. keyed (serial_key s text) (serial_text s text)) (serial_text s)
    (λ text. says_as (λ n. (serial_key s text, n)) (says_some (serial_text s text)) (says_list (serial_text s text))) j

says_archive : (j : Json) → SaysOr (archive_number_said j) (LeavesNone (λ text. markup_read (bare text)) j)
says_archive j =
    says_as without_short (text_said (λ text. says_some (markup_read (bare text))) j)
    (says_text (λ text. says_some (markup_read (bare text))) (λ text. markup_read (bare text)) (λ text. says_list (markup_read (bare text))) j)

-- a date in a text
pub says_dated : {N : Type 0} (o : Option Date) → SaysOr (dated o) N
says_dated None = inr (inr (told_one (lost_here (unread NotDate))))
says_dated (Some d) = inl (d, refl)

says_start : {N : Type 0} (name : List ℕ) (o : Option Date) → SaysOr (start_said name o) N
says_start name None = inr (inr (told_one (lost_here (unread NotDate))))
says_start name (Some d) = inl (d, refl)

says_range : {N : Type 0} (name text : List ℕ) (o : Option (List ℕ)) → SaysOr (range_said name text o) N
says_range name text None = says_dated (date_in text)
says_range name text (Some start) = says_start name (date_in start)

pub says_any_text : {N : Type 0} (name text : List ℕ) → (text ≡ [] → N) → SaysOr (date_text name text) N
unfolding date_text
says_any_text name [] none = inr (inl (none refl))
says_any_text name (b ∷ bs) none = says_range name (plain (b ∷ bs)) (range_start (plain (b ∷ bs)))

says_date_text : (name text : List ℕ) → SaysOr (date_text name text) (SaysNothing (date_text name text) × (⊥ ⊎ ((text ≡ []) ⊎ (text ≡ []))))
unfolding date_text
says_date_text name [] = inr (inl ((refl, refl), inr (inl refl)))
says_date_text name (b ∷ bs) = says_range name (plain (b ∷ bs)) (range_start (plain (b ∷ bs)))

says_names : (name : List ℕ) (j : Json) → SaysOr (names_said name j) (SaysNoNames name j)
says_names name j = by j (says_any (names_said name j))
  where
    so : (j : Json) → IsNames j → SaysOr (names_said name j) (SaysNothing (names_said name j)) → SaysOr (names_said name j) (SaysNoNames name j)
    so j form (inl v) = inl v
    so j form (inr (inl none)) = inr (inl (none, form))
    so j form (inr (inr lost)) = inr (inr lost)

    by : (j : Json) → SaysOr (names_said name j) (SaysNothing (names_said name j)) → SaysOr (names_said name j) (SaysNoNames name j)
    by (json.array js) h = so (json.array js) tt h
    by (json.object ms) h = so (json.object ms) tt h
    by (json.string text) h = so (json.string text) tt h
    by (json.number text) h = inr (inr (told_one (lost_here (unread NotList))))
    by (json.boolean b) h = inr (inr (told_one (lost_here (unread NotList))))
    by json.null h = inr (inr (told_one (lost_here (unread NotList))))

says_date : (name : List ℕ) (j : Json) → SaysOr (date_said name j) (SaysNoDate name j)
unfolding date_said
says_date name (json.object ms) = so (says_any (object_said name ms))
  where
    so : SaysOr (object_said name ms) (SaysNothing (object_said name ms)) → SaysOr (object_said name ms) (SaysNothing (object_said name ms) × (⊤ ⊎ LeavesNone (λ text. text) (json.object ms)))
    so (inl v) = inl v
    so (inr (inl none)) = inr (inl (none, inl tt))
    so (inr (inr lost)) = inr (inr lost)
says_date name (json.string text) = says_date_text name text
says_date name (json.number text) = says_date_text name text
says_date name (json.array js) = inr (inr (told_one (lost_here (unread NotObject))))
says_date name (json.boolean b) = inr (inr (told_one (lost_here (unread NotObject))))
says_date name json.null = inr (inr (told_one (lost_here (unread NotObject))))

-- ---- what a value sets

-- it is set and there, or adds nothing, or something is lost
abbrev Sets : (Tree → Type 0) → Type 0 → SetView → Type 0
Sets There Nothing s = ((s.is_set ≡ true) × There s.after) ⊎ (Nothing ⊎ ((x : LostView) × Contains s.lost x))

-- a field, as the value says it
sets_field : {V N : Type 0} (read : Json → SaidView V) (put : V → Fields → Fields) (field : Fields → Option V) → ((v : V) (f : Fields) → field (put v f) ≡ Some v)
    → (j : Json) (t : Tree) → SaysOr (read j) N → Sets (Has field (read j)) N (field_setter read put j t)
sets_field read put field there j (node f ps) (inl v) = inl (rw v.1 refl, rw v.1 (there v.0 f))
sets_field read put field there j t (inr other) = inr other

-- the same by a view of the value
sets_view : {V W N : Type 0} (view : V → W) (read : Json → SaidView V) (put : V → Fields → Fields) (field : Fields → Option W) → ((v : V) (f : Fields) → field (put v f) ≡ Some (view v))
    → (j : Json) (t : Tree) → SaysOr (read j) N → Sets (Has field (said_as view (read j))) N (field_setter read put j t)
sets_view view read put field there j (node f ps) (inl v) = inl (rw v.1 refl, rw v.1 (there v.0 f))
sets_view view read put field there j t (inr other) = inr other

text_there : (f : TextField) (v : TextView) (all : Fields) → text_of f (with_text f v all) ≡ Some v
text_there texts.Location v all = refl
text_there texts.Organization v all = refl
text_there texts.Archive v all = refl
text_there texts.ArchiveLocation v all = refl
text_there texts.CallNumber v all = refl
text_there texts.Note v all = refl
text_there texts.Abstract v all = refl
text_there texts.Genre v all = refl

short_there : (v : List Chunk) (f : Fields) → short_title (with_short_title v f) ≡ Some v
short_there v f = by f.title
  where
    by : (title : Option TextView) → option_map (λ t. unwrap_or t.short t.value) (Some (with_short v title)) ≡ Some v
    by None = refl
    by (Some t) = refl

number_set : (f : NumberField) (name : List ℕ) (item j : Json) (t : Tree) → Sets (HasNumber f j) (LeavesNone (λ text. text) j) (number_setter f j t)
number_set numbers.Volume name item j t = sets_field number_said _ (λ f. f.volume) (λ v f. refl) j t (says_number j)
number_set numbers.Issue name item j t = sets_field number_said _ (λ f. f.issue) (λ v f. refl) j t (says_number j)
number_set numbers.Edition name item j t = sets_field number_said _ (λ f. f.edition) (λ v f. refl) j t (says_number j)
number_set numbers.Chapter name item j t = sets_field number_said _ (λ f. f.chapter) (λ v f. refl) j t (says_number j)
number_set numbers.VolumeTotal name item j t = sets_field count_said _ (λ f. f.volume_total) (λ v f. refl) j t (says_count j)
number_set numbers.PageTotal name item j t = sets_field count_said _ (λ f. f.page_total) (λ v f. refl) j t (says_count j)
number_set numbers.Pages name item j t = sets_field pages_said _ (λ f. f.page_range) (λ v f. refl) j t (says_pages j)
number_set numbers.Runtime name item j t = sets_view Typed runtime_said _ (λ f. f.runtime) (λ v f. refl) j t (says_runtime j)

-- a serial number is found under its key
found : (k v : List ℕ) (es : Serials) → lookup (bytes_eq k) (insert_entry (slice_cmp nat_cmp) es k v) ≡ Some v
found k v [] = rw ((bytes_eq-Decides k k).1 refl) refl
found k v (e ∷ es) = by (found k v es) (slice_cmp nat_cmp k e.0) refl (bytes_eq k e.0) refl
  where
    by : lookup (bytes_eq k) (insert_entry (slice_cmp nat_cmp) es k v) ≡ Some v
        → (o : Ordering) → slice_cmp nat_cmp k e.0 ≡ o → (same : Bool) → bytes_eq k e.0 ≡ same
        → lookup (bytes_eq k) (match_ordering o ((k, v) ∷ e ∷ es) ((e.0, v) ∷ es) (e ∷ insert_entry (slice_cmp nat_cmp) es k v)) ≡ Some v
    by below Less h same is = rw ((bytes_eq-Decides k k).1 refl) refl
    by below Equal h same is = rw (exact_bytes k e.0 h) (rw ((bytes_eq-Decides e.0 e.0).1 refl) refl)
    by below Greater h false is = rw is below
    by below Greater h true is = absurd (apart h is)
      where
        apart : slice_cmp nat_cmp k e.0 ≡ Greater → bytes_eq k e.0 ≡ true → ⊥
        apart h a =
            let same : k ≡ e.0 = (bytes_eq-Decides k e.0).0 a in
            let equal = tied_itself nat_list_cmp_total e.0 in
            let greater = rw same at h in
            cc

under_key : (k v : List ℕ) (t : Tree) → keyed_serial_number k (with_keyed_serial_number k v t) ≡ Some v
under_key k v (node f ps) = by f.serial_number
  where
    by : (s : Option Serials) → text_under k (Some (with_serial k v s)) ≡ Some v
    by None = found k v []
    by (Some es) = found k v es

serial_set : (s : SerialField) (j : Json) (t : Tree) → Sets (HasSerial (serial_said s j)) (LeavesNone (serial_text s) j) (serial_setter s j t)
serial_set s j t = by (says_serial s j)
  where
    by : SaysOr (serial_said s j) (LeavesNone (serial_text s) j) → Sets (HasSerial (serial_said s j)) (LeavesNone (serial_text s) j) (serial_setter s j t)
    by (inl n) = inl (rw n.1 refl, rw n.1 (under_key n.0.0 n.0.1 t))
    by (inr other) = inr other

-- persons with a role come last
persons_set : (role : RoleView) (name : List ℕ) (j : Json) (t : Tree) → Sets (HasPersons role (names_said name j)) (SaysNoNames name j) (role_setter role name j t)
persons_set role name j (node f ps) = by (says_names name j)
  where
    last : (lists : List RolesView) (r : RolesView) → Contains (lists ++ r ∷ []) r
    last lists r = Contains-append_right lists (r ∷ []) r (0, omega arith, refl)

    by : SaysOr (names_said name j) (SaysNoNames name j) → Sets (HasPersons role (names_said name j)) (SaysNoNames name j) (role_setter role name j (node f ps))
    by (inl v) = inl (rw v.1 refl, rw v.1 (last (unwrap_or f.affiliated []) _))
    by (inr other) = inr other

-- the date of a visit goes with the address, or is lost
visit_set : (name : List ℕ) (item j : Json) (t : Tree) → Sets (λ t. ⊥) (SaysNoDate name j ⊎ IsKeptWithUrl item) (visit_date_setter name item j t)
visit_set name item j t = by (says_date name j) (is_some (said_at (codes "URL") plain_said item)) refl
  where
    by : SaysOr (date_said name j) (SaysNoDate name j) → (has_url : Bool) → is_some (said_at (codes "URL") plain_said item) ≡ has_url
        → Sets (λ t. ⊥) (SaysNoDate name j ⊎ IsKeptWithUrl item) (visit_date_setter name item j t)
    by (inl d) true is = inr (inl (inr is))
    by (inl d) false is = inr (inr (lost_visit, rw (is, d.1) (Contains-append_right (date_said name j).lost (lost_visit ∷ []) lost_visit (first_lost lost_visit []))))
    by (inr (inl none)) has_url is = inr (inl (inl none))
    by (inr (inr lost)) has_url is = inr (inr (lost.0, Contains-append_left (date_said name j).lost _ lost.0 lost.1))

field_set : (f : Field) (name : List ℕ) (item j : Json) (t : Tree) → Sets (HasField f name item j) (AddsNothing f name item j) (setter_of f name item j t)
field_set field.Title name item j t = sets_field markup_said with_title long_title (λ v f. refl) j t (says_markup j)
field_set field.ShortTitle name item j t = sets_field markup_said with_short_title short_title short_there j t (says_markup j)
field_set field.Authors name item j t = sets_field (names_said name) with_authors (λ f. f.authors) (λ v f. refl) j t (says_names name j)
field_set field.Editors name item j t = sets_field (names_said name) with_editors (λ f. f.editors) (λ v f. refl) j t (says_names name j)
field_set field.Date name item j t = sets_field (date_said name) with_date (λ f. f.date) (λ v f. refl) j t (says_date name j)
field_set field.VisitDate name item j t = visit_set name item j t
field_set field.Url name item j t = sets_view (dated_url item) plain_said _ (λ f. f.url) (λ v f. refl) j t (says_plain j)
field_set field.PublisherName name item j t = sets_field format_said with_publisher_name (λ f. name_of_publisher f.publisher) (λ v f. refl) j t (says_format j)
field_set field.PublisherPlace name item j t = sets_field format_said with_publisher_place (λ f. location_of f.publisher) (λ v f. refl) j t (says_format j)
field_set field.Language name item j t = sets_field plain_said with_language (λ f. f.language) (λ v f. refl) j t (says_plain j)
field_set (field.Text f) name item j t = sets_field format_said (with_text f) (text_of f) (text_there f) j t (says_format j)
field_set field.ArchiveNumber name item j t = sets_field archive_number_said (with_text texts.CallNumber) (λ f. f.call_number) (λ v f. refl) j t (says_archive j)
field_set (field.Number f) name item j t = number_set f name item j t
field_set (field.Serial f) name item j t = serial_set f j t

-- ---- at the entry that a member goes to

module _ (key : List ℕ) (set : Setter) (There : Tree → Type 0) (Nothing : Type 0) (j : Json) (sets : (t : Tree) → Sets There Nothing (set j t)) where
  -- of a value that is set at one of the entries
  abbrev Placed : Option Tree → List LostView → Type 0
  Placed o losts = (Nothing ⊎ IsSomeAnd o There) ⊎ ((x : LostView) × Contains losts x)

  at_own : (t : Tree) → Placed (Some (set j t).after) (set j t).lost
  at_own t = by (sets t)
    where
      by : Sets There Nothing (set j t) → Placed (Some (set j t).after) (set j t).lost
      by (inl there) = inl (inr there.1)
      by (inr (inl none)) = inl (inl none)
      by (inr (inr lost)) = inr lost

  at_parent : (kind : EntryType) (ts : List Tree) → Placed (slice_get (parents_after (parent_set key kind set j ts) ts) 0) (parent_set key kind set j ts).lost
  at_parent kind (t ∷ ts) = at_own t
  at_parent kind [] = by (sets (new_entry key kind))
    where
      by : Sets There Nothing (set j (new_entry key kind))
          → Placed (slice_get (parents_after (set j (new_entry key kind)) []) 0) (set j (new_entry key kind)).lost
      by (inl there) = inl (inr (rw there.0 there.1))
      by (inr (inl none)) = inl (inl none)
      by (inr (inr lost)) = inr lost

  at_place : (l : Level) (d : DraftView) → Placed (entry_at l (set_at l key set j d).after) (set_at l key set j d).lost
  at_place level.Own d = at_own d.own
  at_place (level.Host kind) d = at_parent kind d.host
  at_place (level.Venue kind) d = at_parent kind d.venue
  at_place level.Series d = at_parent type.Anthology d.series
  at_place level.Original d = at_parent type.Original d.original

-- ---- the members in turn

module _ (by : ItemKey) (kind : Kind) (key : List ℕ) (item : Json) where
  set_joined : (first ms : Members) (m : MemberView) → members_set by kind key item (joined first ms) m ≡ members_set by kind key item ms (members_set by kind key item first m)
  set_joined json.no_members ms m = refl
  set_joined (json.member k j more) ms m = set_joined more ms (after_member k m.lost (with_member by kind key k item j m.after))

  still_lost : (ms : Members) (m : MemberView) (x : LostView) → Contains m.lost x → Contains (members_set by kind key item ms m).lost x
  still_lost json.no_members m x h = h
  still_lost (json.member k j ms) m x h =
      still_lost ms (after_member k m.lost (with_member by kind key k item j m.after)) x
      (Contains-append_left m.lost (all_behind (to_member k) (with_member by kind key k item j m.after).lost) x h)

  -- ---- one of them

  -- a member is read, or something of it is lost
  abbrev ReadOr : Option RoleView → Option Place → List ℕ → Json → MemberView → Type 0
  ReadOr role place name j m = IsRead role place name item j m.after ⊎ ((x : LostView) × Contains m.lost x)

  by_choice : (l : Level) (c : Choice) (name : List ℕ) (j : Json) (d : DraftView) → IsPut l c name item j (chosen l c key name item j d).after ⊎ ((x : LostView) × Contains (chosen l c key name item j d).lost x)
  by_choice l Pass name j d = inr (told_one (lost_here (named (beside name item))))
  by_choice l (Put f) name j d = at_place key (setter_of f name item) (HasField f name item j) (AddsNothing f name item j) j (field_set f name item j) l d

  by_role : (role : Option RoleView) (place : Option Place) (name : List ℕ) (j : Json) (d : DraftView) → ReadOr role place name j (with_role_or_place role place key name item j d)
  by_role (Some role) place name j d = set_so (persons_set role name j d.own)
    where
      set_so : Sets (HasPersons role (names_said name j)) (SaysNoNames name j) (role_setter role name j d.own) → ReadOr (Some role) place name j (with_role_or_place (Some role) place key name item j d)
      set_so (inl there) = inl (inr there.1)
      set_so (inr (inl none)) = inl (inl none)
      set_so (inr (inr lost)) = inr lost
  by_role None None name j d = inr (told_one (lost_here (named name)))
  by_role None (Some place) name j d = by_choice place.level place.choice name j d

  -- the same of any member
  abbrev Turn : List ℕ → Json → MemberView → Type 0
  Turn name j m = IsTrue (is_empty j) ⊎ (IsOfItem by name item j ⊎ (IsRead (role_of name) (place_of kind name item) name item j m.after ⊎ ((x : LostView) × Contains m.lost x)))

  turn : (name : List ℕ) (j : Json) (d : DraftView) → Turn name j (with_member by kind key name item j d)
  turn name j d =
      cases (is_empty j) refl (bytes_eq name (codes "id")) refl (bytes_eq name (codes "citation-key")) refl (bytes_eq name (codes "type")) refl (is_place_again name item j) refl
    where
      by_citation_key : (by : ItemKey) (o : Option (List ℕ)) → text_in j ≡ o → name ≡ codes "citation-key"
          → IsOfItem by name item j ⊎ ((x : LostView) × Contains (citation_key_lost by j) x)
      by_citation_key CitationKey None is same = inr (lost_here (unread NotText), rw is (first_lost (lost_here (unread NotText)) []))
      by_citation_key CitationKey (Some t) is same = inl (inr (inl (same, (refl, rw is tt))))
      by_citation_key Id o is same = inr (told_one (lost_here (named (codes "citation-key"))))

      by_type : (o : Option (List ℕ)) → text_in j ≡ o → name ≡ codes "type" → IsOfItem by name item j ⊎ ((x : LostView) × Contains (type_lost o item) x)
      by_type None is same = inr (told_one (lost_here (unread NotText)))
      by_type (Some t) is same = known (is_some (kind_named t item)) refl
        where
          known : (b : Bool) → is_some (kind_named t item) ≡ b → IsOfItem by name item j ⊎ ((x : LostView) × Contains (if b then [] else lost_here (unread UnknownType) ∷ []) x)
          known true has = inl (inr (inr (inl (same, rw is has))))
          known false has = inr (told_one (lost_here (unread UnknownType)))

      of_item : (m : MemberView) → IsOfItem by name item j ⊎ ((x : LostView) × Contains m.lost x) → Turn name j m
      of_item m (inl own) = inr (inl own)
      of_item m (inr lost) = inr (inr (inr lost))

      of_field : (m : MemberView) → ReadOr (role_of name) (place_of kind name item) name j m → Turn name j m
      of_field m (inl read) = inr (inr (inl read))
      of_field m (inr lost) = inr (inr (inr lost))

      cases : (empty : Bool) → is_empty j ≡ empty → (id : Bool) → bytes_eq name (codes "id") ≡ id → (citation : Bool) → bytes_eq name (codes "citation-key") ≡ citation
          → (type : Bool) → bytes_eq name (codes "type") ≡ type → (again : Bool) → is_place_again name item j ≡ again
          → Turn name j (if empty then only_lost [] d else if id then only_lost [] d else if citation then only_lost (citation_key_lost by j) d
          else if type then only_lost (type_lost (text_in j) item) d else if again then only_lost [] d else with_field kind key name item j d)
      cases true e id i citation c type t again a = inl e
      cases false e true i citation c type t again a = inr (inl (inl ((bytes_eq-Decides name (codes "id")).0 i)))
      cases false e false i true c type t again a = of_item (only_lost (citation_key_lost by j) d) (by_citation_key by (text_in j) refl ((bytes_eq-Decides name (codes "citation-key")).0 c))
      cases false e false i false c true t again a = of_item (only_lost (type_lost (text_in j) item) d) (by_type (text_in j) refl ((bytes_eq-Decides name (codes "type")).0 t))
      cases false e false i false c false t true a = inr (inl (inr (inr (inr a))))
      cases false e false i false c false t false a = of_field (with_field kind key name item j d) (by_role (role_of name) (place_of kind name item) name j d)

-- ---- the members of an item

module _ (by : ItemKey) (first behind : Members) (name : List ℕ) (j : Json) (key : List ℕ) where
  abbrev ms : Members
  ms = joined first (json.member name j behind)

  abbrev whole : Json
  whole = json.object ms

  abbrev start : MemberView
  start = only_lost [] (new_draft key (kind_of whole).entry)

  -- the entries before the member, and after it
  abbrev begun : MemberView
  begun = members_set by (kind_of whole) key whole first start

  abbrev taken : MemberView
  taken = with_member by (kind_of whole) key name whole j begun.after

  same_after : entries_after by key whole (joined first (json.member name j json.no_members)) ≡ taken.after
  same_after = ap (λ (m : MemberView). m.after) (set_joined by (kind_of whole) key whole first (json.member name j json.no_members) start)

  -- what is lost of it is lost of the item
  still : (x : LostView) → Contains taken.lost x → Contains (item_under by key whole ms).lost (lost_behind (to_member name) x)
  still x has =
      subst (λ (m : MemberView). Contains m.lost (lost_behind (to_member name) x)) (sym (set_joined by (kind_of whole) key whole first (json.member name j behind) start))
      (still_lost by (kind_of whole) key whole behind (after_member name begun.lost taken) (lost_behind (to_member name) x)
      (Contains-append_right begun.lost (all_behind (to_member name) taken.lost) (lost_behind (to_member name) x) (Contains-map (lost_behind (to_member name)) taken.lost x has)))

  by_turn : Turn by (kind_of whole) key whole name j taken
      → IsReadOrTold by name whole j (entries_after by key whole (joined first (json.member name j json.no_members))) (item_under by key whole ms).lost
  by_turn (inl empty) = inl empty
  by_turn (inr (inl own)) = inr (inl own)
  by_turn (inr (inr (inl read))) =
      inr (inr (inl (subst (λ (d : DraftView). IsRead (role_of name) (place_of (kind_of whole) name whole) name whole j d) (sym same_after) read)))
  by_turn (inr (inr (inr lost))) = inr (inr (inr (lost.0, still lost.0 lost.1)))

  pub member_read_or_told : (said : EntryView) → item_key by whole ≡ Ok key → item_said by whole ≡ Ok said
      → IsReadOrTold by name whole j (entries_after by key whole (joined first (json.member name j json.no_members))) said.lost
  member_read_or_told said keyed is =
      let same : item_under by key whole ms ≡ said = ok_same (rw keyed at is) in
      subst (λ (v : EntryView). IsReadOrTold by name whole j (entries_after by key whole (joined first (json.member name j json.no_members))) v.lost) same
      (by_turn (turn by (kind_of whole) key whole name j begun.after))
