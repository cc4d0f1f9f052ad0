-- Each member of a date is read, or told.
use Rattle.std.proofs.Common.{◌≡◌, inl, inr, ℕ, Bool, true, false, cond, List, [], ◌∷◌, ◌++◌, Option, None, Some, refl, sym, ap, ◌∙◌, subst}
use Rattle.std.specs.Prelude.{◌⊎◌, ◌||◌, codes, is_some, option_and_then, IfSome, IsSomeAnd, MatchOption, ⊤, if◌then◌else◌}
use Rattle.std.specs.List.{Contains}
use Rattle.std.specs.Str.{bytes_eq}
use Rattle.std.proofs.lemmas.Slice.Eq.{bytes_eq-Decides}
use Rattle.std.proofs.lemmas.List.Elements.{Contains-append_left, Contains-append_right}
use Rattle.json.specs.Json as json
use Rattle.json.specs.Json.{Json, Members}
use Rattle.json.specs.Find.{at, get_member, is_null, later_or}
use Rattle.haya_time.specs.declared.date.Date.{Date}
use Rattle.haya_time.specs.declared.date.Season.{Season}
use Rattle.haya_time.specs.declared.date.Season.TheVariants.{Spring, Summer, Autumn, Winter}
use Rattle.haya_json.specs.Notes.{LostView, all_behind, lost_behind, lost_here, named, unread}
use Rattle.haya_json.specs.Parts.{member_of, text_in}
use Rattle.haya_json.specs.Refusal.{to_item, to_member}
use Rattle.haya_json.specs.declared.fault.Why.TheVariants.{NotDate, NotList, NotText, NotTruth}
use Rattle.haya_csl.specs.DateNumbers.{date_at, month_seasons, part_season, unless_zero}
use Rattle.haya_csl.specs.DateTexts.{plain}
use Rattle.haya_csl.specs.Dates.{after_member, after_value, all_unknown, circa_by, date_by, date_said, dates_said, first_said, first_text, followed_by, in_season_said, is_known, is_season, keeps, keeps_but, next_text, part_at, parts_said, range_end, reader_of, season_by, season_read, season_text, spare_text, truth_in, unknown_lost, unknown_name, with_first_season}
use Rattle.haya_csl.specs.DatesReadOrTold.{DatePartIsReadOrTold, HasDatePart, HasNoDate, HasNoParts, SaysAll, season_in}
use Rattle.haya_csl.specs.ReadOrTold.{LeavesNone}
use Rattle.haya_csl.specs.Said.{SaidView, said_behind}
use Rattle.haya_csl.specs.declared.dates.calendar.Part.{Part}
use Rattle.haya_csl.specs.declared.dates.calendar.Part.TheVariants.{Missing, Unread, Number}
use Rattle.haya_csl.proofs.ReadOrTold.{Contains-map, SaysOr, first_lost, says_any_text, says_dated, told_one}

-- ---- what a date keeps

all_same : (d : Date) → SaysAll d d
all_same d = record { year = refl; month = refl; day = refl; season = by d.season; approximate = λ h. h }
  where
    by : (o : Option Season) → IfSome o (λ s. o ≡ Some s)
    by None = tt
    by (Some s) = refl

all_through : (a b c : Date) → SaysAll a b → SaysAll b c → SaysAll a c
all_through a b c f g = record {
  year = g.year ∙ f.year;
  month = g.month ∙ f.month;
  day = g.day ∙ f.day;
  season = by a.season f.season;
  approximate = λ h. g.approximate (f.approximate h);
}
  where
    further : (o : Option Season) (s : Season) → o ≡ Some s → IfSome o (λ r. c.season ≡ Some r) → c.season ≡ Some s
    further o s is h = (rw is at h)

    by : (o : Option Season) → IfSome o (λ s. b.season ≡ Some s) → IfSome o (λ s. c.season ≡ Some s)
    by None h = tt
    by (Some s) h = further b.season s h g.season

-- a date that is there is kept
abbrev StillSays : Option Date → Option Date → Type 0
StillSays before after = MatchOption before ⊤ (λ d. IsSomeAnd after (SaysAll d))

still_same : (o : Option Date) → StillSays o o
still_same None = tt
still_same (Some d) = all_same d

still_through : (a b c : Option Date) → StillSays a b → StillSays b c → StillSays a c
still_through None b c f g = tt
still_through (Some d) None c f g = absurd f
still_through (Some d) (Some e) None f g = absurd g
still_through (Some d) (Some e) (Some h) f g = all_through d e h f g

spare_keeps : (spare : List ℕ) (d : Date) (o : Option (List ℕ)) → StillSays (Some d) (spare_text spare d o).value
spare_keeps spare d None = all_same d
spare_keeps spare d (Some []) = all_same d
spare_keeps spare d (Some (b ∷ bs)) = all_same d

text_keeps : (spare name : List ℕ) (found : Option Date) (j : Json) → StillSays found (next_text spare name found j).value
text_keeps spare name None j = tt
text_keeps spare name (Some d) j = spare_keeps spare d (text_in j)

season_kept : (s : Season) (d : Date) (o : Option Season) → d.season ≡ o → StillSays (Some d) (with_first_season s d o).value
season_kept s d None is = record { year = refl; month = refl; day = refl; season = rw is tt; approximate = λ h. h }
season_kept s d (Some first) is = by (is_season s first)
  where
    by : (b : Bool) → StillSays (Some d) (if b then keeps (Some d) else keeps_but (named (codes "season")) (Some d)).value
    by true = all_same d
    by false = all_same d

in_season_kept : (found : Option Date) (o : Option Season) → StillSays found (in_season_said found o).value
unfolding in_season_said
in_season_kept found None = still_same found
in_season_kept None (Some s) = tt
in_season_kept (Some d) (Some s) = season_kept s d d.season refl

season_keeps : (found : Option Date) (o : Option (List ℕ)) → StillSays found (season_by found o).value
unfolding season_text
season_keeps found None = still_same found
season_keeps found (Some []) = still_same found
season_keeps found (Some (b ∷ bs)) = in_season_kept found (season_read (plain (b ∷ bs)))

circa_keeps : (found : Option Date) (o : Option Bool) → StillSays found (circa_by found o).value
circa_keeps found None = still_same found
circa_keeps found (Some false) = still_same found
circa_keeps None (Some true) = tt
circa_keeps (Some d) (Some true) = record { year = refl; month = refl; day = refl; season = (all_same d).season; approximate = λ h. rw h refl }

-- ---- what a member says

says_parts : (y m d : Part) → SaysOr (date_by y m d) ((y ≡ Missing) × ((m ≡ Missing) × (d ≡ Missing)))
says_parts Unread m d = inr (inr (told_one (lost_here (unread NotDate))))
says_parts Missing Unread d = inr (inr (told_one (lost_here (unread NotDate))))
says_parts Missing (Number n) d = inr (inr (told_one (lost_here (unread NotDate))))
says_parts Missing Missing Unread = inr (inr (told_one (lost_here (unread NotDate))))
says_parts Missing Missing (Number n) = inr (inr (told_one (lost_here (unread NotDate))))
says_parts Missing Missing Missing = inr (inl (refl, (refl, refl)))
says_parts (Number y) Missing Missing = says_dated (date_at y Missing Missing None)
says_parts (Number y) Missing Unread = inr (inr (told_one (lost_here (unread NotDate))))
says_parts (Number y) Missing (Number d) = inr (inr (told_one (lost_here (unread NotDate))))
says_parts (Number y) Unread d = says_dated (date_at y Unread d (part_season month_seasons Unread))
says_parts (Number y) (Number m) d = says_dated (date_at y (Number m) d (part_season month_seasons (Number m)))

says_first : (j : Json) → SaysOr (parts_said j) (HasNoParts j)
says_first json.null = inr (inl tt)
says_first (json.array parts) = by (is_some (at 3 (json.array parts)))
  where
    by : (b : Bool) → SaysOr (if b then keeps_but (unread NotDate) None else date_by (part_at 0 (json.array parts)) (unless_zero (part_at 1 (json.array parts))) (unless_zero (part_at 2 (json.array parts))))
        (HasNoParts (json.array parts))
    by true = inr (inr (told_one (lost_here (unread NotDate))))
    by false = says_parts (part_at 0 (json.array parts)) (unless_zero (part_at 1 (json.array parts))) (unless_zero (part_at 2 (json.array parts)))
says_first (json.boolean b) = inr (inr (told_one (lost_here (unread NotList))))
says_first (json.number s) = inr (inr (told_one (lost_here (unread NotList))))
says_first (json.string s) = inr (inr (told_one (lost_here (unread NotList))))
says_first (json.object ms) = inr (inr (told_one (lost_here (unread NotList))))

says_behind : (j : Json) → SaysOr (said_behind (to_item 0) (parts_said j)) (HasNoParts j)
says_behind j = by (says_first j)
  where
    by : SaysOr (parts_said j) (HasNoParts j) → SaysOr (said_behind (to_item 0) (parts_said j)) (HasNoParts j)
    by (inl v) = inl v
    by (inr (inl none)) = inr (inl none)
    by (inr (inr lost)) = inr (inr (lost_behind (to_item 0) lost.0, Contains-map (lost_behind (to_item 0)) (parts_said j).lost lost.0 lost.1))

says_dates : (name : List ℕ) (found : Option Date) (j : Json) → SaysOr (dates_said name found j) (HasNoDate j)
says_dates name found (json.array dates) = by (is_some (at 1 (json.array dates))) (at 0 (json.array dates))
  where
    by : (b : Bool) (o : Option Json) → SaysOr (first_said name b o) (MatchOption o ⊤ HasNoParts)
    by b None = inr (inl tt)
    by false (Some j) = says_behind j
    by true (Some j) =
        inr (inr (
          lost_here (named (range_end name)),
          Contains-append_right (said_behind (to_item 0) (parts_said j)).lost _ (lost_here (named (range_end name))) (first_lost (lost_here (named (range_end name))) []),
        ))
says_dates name found json.null = inr (inr (told_one (lost_here (unread NotList))))
says_dates name found (json.boolean b) = inr (inr (told_one (lost_here (unread NotList))))
says_dates name found (json.number s) = inr (inr (told_one (lost_here (unread NotList))))
says_dates name found (json.string s) = inr (inr (told_one (lost_here (unread NotList))))
says_dates name found (json.object ms) = inr (inr (told_one (lost_here (unread NotList))))

says_first_text : (name : List ℕ) (o : Option (List ℕ)) → SaysOr (first_text name o) (IsSomeAnd o (λ text. (text ≡ []) ⊎ (text ≡ [])))
says_first_text name None = inr (inr (told_one (lost_here (unread NotText))))
says_first_text name (Some text) = says_any_text name text (λ empty. inl empty)

-- a text is the date, or empty, or something is lost
text_read : (spare name : List ℕ) (found : Option Date) (j : Json)
    → (IsSomeAnd (next_text spare name None j).value (λ d. (next_text spare name found j).value ≡ Some d)) ⊎ (LeavesNone (λ text. text) j ⊎ ((x : LostView) × Contains (next_text spare name found j).lost x))
text_read spare name None j = by (says_first_text name (text_in j))
  where
    by : SaysOr (first_text name (text_in j)) (LeavesNone (λ text. text) j)
        → (IsSomeAnd (first_text name (text_in j)).value (λ d. (first_text name (text_in j)).value ≡ Some d)) ⊎ (LeavesNone (λ text. text) j ⊎ ((x : LostView) × Contains (first_text name (text_in j)).lost x))
    by (inl d) = inl (rw d.1 refl)
    by (inr other) = inr other
text_read spare name (Some d) j = by (text_in j)
  where
    by : (o : Option (List ℕ))
        → (IsSomeAnd (first_text name o).value (λ e. (spare_text spare d o).value ≡ Some e)) ⊎ (IsSomeAnd o (λ text. (text ≡ []) ⊎ (text ≡ [])) ⊎ ((x : LostView) × Contains (spare_text spare d o).lost x))
    by None = inr (inr (told_one (lost_here (named spare))))
    by (Some []) = inr (inl (inl refl))
    by (Some (b ∷ bs)) = inr (inr (told_one (lost_here (named spare))))

same_season : (s first : Season) → is_season s first ≡ true → s ≡ first
same_season Spring Spring h = refl
same_season Summer Summer h = refl
same_season Autumn Autumn h = refl
same_season Winter Winter h = refl
same_season Spring Summer h = cc
same_season Spring Autumn h = cc
same_season Spring Winter h = cc
same_season Summer Spring h = cc
same_season Summer Autumn h = cc
same_season Summer Winter h = cc
same_season Autumn Spring h = cc
same_season Autumn Summer h = cc
same_season Autumn Winter h = cc
same_season Winter Spring h = cc
same_season Winter Summer h = cc
same_season Winter Autumn h = cc

-- a season is the date's, or the text is empty, or something is lost
first_season : (s : Season) (d : Date) (o : Option Season) → d.season ≡ o → IsSomeAnd (with_first_season s d o).value (λ e. e.season ≡ Some s) ⊎ ((x : LostView) × Contains (with_first_season s d o).lost x)
first_season s d None is = inl refl
first_season s d (Some first) is = by (is_season s first) refl
  where
    by : (b : Bool) → is_season s first ≡ b
        → IsSomeAnd (if b then keeps (Some d) else keeps_but (named (codes "season")) (Some d)).value (λ e. e.season ≡ Some s)
        ⊎ ((x : LostView) × Contains (if b then keeps (Some d) else keeps_but (named (codes "season")) (Some d)).lost x)
    by true h = inl (is ∙ ap Some (sym (same_season s first h)))
    by false h = inr (told_one (lost_here (named (codes "season"))))

season_found : (found : Option Date) (o : Option Season) → (IsSomeAnd o (λ s. IsSomeAnd (in_season_said found o).value (λ e. e.season ≡ Some s))) ⊎ ((x : LostView) × Contains (in_season_said found o).lost x)
unfolding in_season_said
season_found found None = inr (told_one (lost_here (unread NotDate)))
season_found None (Some s) = inr (told_one (lost_here (named (codes "season"))))
season_found (Some d) (Some s) = first_season s d d.season refl

season_there : (found : Option Date) (j : Json)
    → (IsSomeAnd (season_in j) (λ s. IsSomeAnd (season_by found (text_in j)).value (λ e. e.season ≡ Some s))) ⊎ (LeavesNone (λ text. text) j ⊎ ((x : LostView) × Contains (season_by found (text_in j)).lost x))
unfolding season_text
season_there found j = by (text_in j)
  where
    further : (text : List ℕ) (N : Type 0)
        → (IsSomeAnd (season_read (plain text)) (λ s. IsSomeAnd (in_season_said found (season_read (plain text))).value (λ e. e.season ≡ Some s))) ⊎ ((x : LostView) × Contains (in_season_said found (season_read (plain text))).lost x)
        → (IsSomeAnd (season_read (plain text)) (λ s. IsSomeAnd (in_season_said found (season_read (plain text))).value (λ e. e.season ≡ Some s))) ⊎ (N ⊎ ((x : LostView) × Contains (in_season_said found (season_read (plain text))).lost x))
    further text N (inl h) = inl h
    further text N (inr h) = inr (inr h)

    by : (o : Option (List ℕ))
        → (IsSomeAnd (option_and_then (λ text. season_read (plain text)) o) (λ s. IsSomeAnd (season_by found o).value (λ e. e.season ≡ Some s)))
        ⊎ (IsSomeAnd o (λ text. (text ≡ []) ⊎ (text ≡ [])) ⊎ ((x : LostView) × Contains (season_by found o).lost x))
    by None = inr (inr (told_one (lost_here (unread NotDate))))
    by (Some []) = inr (inl (inl refl))
    by (Some (b ∷ bs)) = further (b ∷ bs) (let text : List ℕ = b ∷ bs in (text ≡ []) ⊎ (text ≡ [])) (season_found found (season_read (plain (b ∷ bs))))

any_or_true : (b : Bool) → b || true ≡ true
any_or_true true = refl
any_or_true false = refl

circa_there : (found : Option Date) (o : Option Bool)
    → ((o ≡ Some true) × IsSomeAnd (circa_by found o).value (λ e. e.approximate ≡ true)) ⊎ ((o ≡ Some false) ⊎ ((x : LostView) × Contains (circa_by found o).lost x))
circa_there found None = inr (inr (told_one (lost_here (unread NotTruth))))
circa_there found (Some false) = inr (inl refl)
circa_there None (Some true) = inr (inr (told_one (lost_here (named (codes "circa")))))
circa_there (Some d) (Some true) = inl (refl, any_or_true d.approximate)

-- ---- the members in turn

some_of : {T : Type 0} (o : Option T) (P : T → Type 0) → IsSomeAnd o P → (x : T) × ((o ≡ Some x) × P x)
some_of None P h = absurd h
some_of (Some x) P h = (x, (refl, h))

some_with : {T : Type 0} (o : Option T) (P Q : T → Type 0) → ((x : T) → P x → Q x) → IsSomeAnd o P → IsSomeAnd o Q
some_with None P Q f h = absurd h
some_with (Some x) P Q f h = f x h

then_says : (d : Date) (before after : Option Date) → before ≡ Some d → StillSays before after → IsSomeAnd after (SaysAll d)
then_says d before after is h = (rw is at h)

has_season : (s : Season) (o : Option Season) (P : Season → Type 0) → o ≡ Some s → IfSome o P → P s
has_season s o P is h = (rw is at h)

same_value : {A : Type 0} {a b : A} → Some a ≡ Some b → a ≡ b
same_value h = cc

-- a member that dates don't have is among those that are lost
unknown_among : (of name : List ℕ) (j : Json) → is_null j ≡ false → is_known name ≡ false → (ms : Members) → get_member name ms ≡ Some j
    → Contains (all_unknown of ms) (lost_behind (to_member name) (lost_here (named (unknown_name of name))))
unknown_among of name j some unknown json.no_members has = cc
unknown_among of name j some unknown (json.member k i more) has = by (unknown_among of name j some unknown more) (get_member name more) refl (bytes_eq k name) refl has
  where
    by : (get_member name more ≡ Some j → Contains (all_unknown of more) (lost_behind (to_member name) (lost_here (named (unknown_name of name)))))
        → (later : Option Json) → get_member name more ≡ later → (b : Bool) → bytes_eq k name ≡ b → later_or later (cond b (Some i) None) ≡ Some j
        → Contains (unknown_lost of k i ++ all_unknown of more) (lost_behind (to_member name) (lost_here (named (unknown_name of name))))
    by rest (Some l) is b h has =
        Contains-append_right (unknown_lost of k i) (all_unknown of more) (lost_behind (to_member name) (lost_here (named (unknown_name of name)))) (rest (is ∙ has))
    by rest None is false h has = cc
    by rest None is true h has =
        let here : i ≡ j = same_value has in
        let named_so : k ≡ name = (bytes_eq-Decides k name).0 h in
        Contains-append_left (unknown_lost of k i) (all_unknown of more) (lost_behind (to_member name) (lost_here (named (unknown_name of name))))
        (rw (here, named_so, some, unknown) (first_lost (lost_behind (to_member name) (lost_here (named (unknown_name of name)))) []))

module _ (of : List ℕ) (ms : Members) where
  abbrev after : SaidView Date → List ℕ → SaidView Date
  after so_far name = after_member of (json.object ms) so_far name

  abbrev parts_in : SaidView Date
  parts_in = after (keeps None) (codes "date-parts")

  abbrev raw_in : SaidView Date
  raw_in = after parts_in (codes "raw")

  abbrev edtf_in : SaidView Date
  edtf_in = after raw_in (codes "edtf")

  abbrev literal_in : SaidView Date
  literal_in = after edtf_in (codes "literal")

  abbrev season_now : SaidView Date
  season_now = after literal_in (codes "season")

  abbrev all_in : SaidView Date
  all_in = after season_now (codes "circa")

  value_kept : (name : List ℕ) (so_far : SaidView Date) → ((found : Option Date) (j : Json) → StillSays found (reader_of name of found j).value) → StillSays so_far.value (after so_far name).value
  unfolding after_member
  value_kept name so_far keeps = by (member_of name (json.object ms))
    where
      by : (o : Option Json) → StillSays so_far.value (after_value of name so_far o).value
      by None = still_same so_far.value
      by (Some j) = keeps so_far.value j

  lost_kept : (name : List ℕ) (so_far : SaidView Date) (x : LostView) → Contains so_far.lost x → Contains (after so_far name).lost x
  unfolding after_member
  lost_kept name so_far x h = by (member_of name (json.object ms))
    where
      by : (o : Option Json) → Contains (after_value of name so_far o).lost x
      by None = h
      by (Some j) = Contains-append_left so_far.lost (all_behind (to_member name) (reader_of name of so_far.value j).lost) x h

  -- ---- one of them

  module _ (name : List ℕ) (j : Json) (has : get_member name ms ≡ Some j) (some : is_null j ≡ false) where
    found : member_of name (json.object ms) ≡ Some j
    found = rw (has, some) refl

    taken : (so_far : SaidView Date) → after so_far name ≡ followed_by name so_far (reader_of name of so_far.value j)
    unfolding after_member
    taken so_far = ap (after_value of name so_far) found

    value_taken : (so_far : SaidView Date) → (after so_far name).value ≡ (reader_of name of so_far.value j).value
    value_taken so_far = ap (λ (s : SaidView Date). s.value) (taken so_far)

    lost_taken : (so_far : SaidView Date) (x : LostView) → Contains (reader_of name of so_far.value j).lost x → Contains (after so_far name).lost (lost_behind (to_member name) x)
    lost_taken so_far x h =
        subst (λ (s : SaidView Date). Contains s.lost (lost_behind (to_member name) x)) (sym (taken so_far))
        (Contains-append_right so_far.lost (all_behind (to_member name) (reader_of name of so_far.value j).lost) (lost_behind (to_member name) x)
        (Contains-map (lost_behind (to_member name)) (reader_of name of so_far.value j).lost x h))

    -- what is lost of it is told
    told_so : (so_far : SaidView Date) → ((x : LostView) → Contains (after so_far name).lost x → Contains all_in.lost x)
        → (x : LostView) × Contains (reader_of name of so_far.value j).lost x → DatePartIsReadOrTold of ms name j
    unfolding date_said
    told_so so_far later lost =
        inr (inr (inr (
          lost.0,
          Contains-append_left all_in.lost (all_unknown of ms) (lost_behind (to_member name) lost.0)
              (later (lost_behind (to_member name) lost.0) (lost_taken so_far lost.0 lost.1)),
        )))

    read_so : IsSomeAnd all_in.value (HasDatePart of name j) → DatePartIsReadOrTold of ms name j
    unfolding date_said
    read_so h = inr (inr (inl h))

    -- a date that the member says is the date
    dated_so : (so_far : SaidView Date) → StillSays (after so_far name).value all_in.value → (d : Date) → (reader_of name of None j).value ≡ Some d
        → (reader_of name of so_far.value j).value ≡ Some d → DatePartIsReadOrTold of ms name j
    dated_so so_far later d alone is =
        read_so (some_with all_in.value (SaysAll d) (HasDatePart of name j) (λ e h. inl (rw alone h))
        (then_says d (after so_far name).value all_in.value (value_taken so_far ∙ is) later))

  -- ---- what is kept behind each

  later_season : StillSays season_now.value all_in.value
  later_season = value_kept (codes "circa") season_now (λ f j. circa_keeps f (truth_in j))

  later_literal : StillSays literal_in.value all_in.value
  later_literal = still_through literal_in.value season_now.value all_in.value (value_kept (codes "season") literal_in (λ f j. season_keeps f (text_in j))) later_season

  later_edtf : StillSays edtf_in.value all_in.value
  later_edtf = still_through edtf_in.value literal_in.value all_in.value (value_kept (codes "literal") edtf_in (λ f j. text_keeps (codes "literal date") of f j)) later_literal

  later_raw : StillSays raw_in.value all_in.value
  later_raw = still_through raw_in.value edtf_in.value all_in.value (value_kept (codes "edtf") raw_in (λ f j. text_keeps (codes "edtf date") of f j)) later_edtf

  later_parts : StillSays parts_in.value all_in.value
  later_parts = still_through parts_in.value raw_in.value all_in.value (value_kept (codes "raw") parts_in (λ f j. text_keeps (codes "raw date") of f j)) later_raw

  lost_season : (x : LostView) → Contains season_now.lost x → Contains all_in.lost x
  lost_season x h = lost_kept (codes "circa") season_now x h

  lost_literal : (x : LostView) → Contains literal_in.lost x → Contains all_in.lost x
  lost_literal x h = lost_season x (lost_kept (codes "season") literal_in x h)

  lost_edtf : (x : LostView) → Contains edtf_in.lost x → Contains all_in.lost x
  lost_edtf x h = lost_literal x (lost_kept (codes "literal") edtf_in x h)

  lost_raw : (x : LostView) → Contains raw_in.lost x → Contains all_in.lost x
  lost_raw x h = lost_edtf x (lost_kept (codes "edtf") raw_in x h)

  lost_parts : (x : LostView) → Contains parts_in.lost x → Contains all_in.lost x
  lost_parts x h = lost_raw x (lost_kept (codes "raw") parts_in x h)

  -- ---- each of them

  parts_part : (j : Json) → get_member (codes "date-parts") ms ≡ Some j → is_null j ≡ false → DatePartIsReadOrTold of ms (codes "date-parts") j
  parts_part j has some = by (says_dates of None j)
    where
      by : SaysOr (dates_said of None j) (HasNoDate j) → DatePartIsReadOrTold of ms (codes "date-parts") j
      by (inl d) = dated_so (codes "date-parts") j has some (keeps None) later_parts d.0 d.1 d.1
      by (inr (inl none)) = inr (inl (inl (refl, none)))
      by (inr (inr lost)) = told_so (codes "date-parts") j has some (keeps None) lost_parts lost

  -- a date in a text
  text_part : (name spare : List ℕ) (so_far : SaidView Date) → ((f : Option Date) (i : Json) → reader_of name of f i ≡ next_text spare of f i)
      → StillSays (after so_far name).value all_in.value → ((x : LostView) → Contains (after so_far name).lost x → Contains all_in.lost x)
      → (j : Json) → get_member name ms ≡ Some j → is_null j ≡ false → DatePartIsReadOrTold of ms name j
  text_part name spare so_far is later later_lost j has some = by (text_read spare of so_far.value j)
    where
      by : (IsSomeAnd (next_text spare of None j).value (λ d. (next_text spare of so_far.value j).value ≡ Some d))
          ⊎ (LeavesNone (λ text. text) j ⊎ ((x : LostView) × Contains (next_text spare of so_far.value j).lost x)) → DatePartIsReadOrTold of ms name j
      by (inl read) =
          let d = some_of (next_text spare of None j).value (λ d. (next_text spare of so_far.value j).value ≡ Some d) read in
          dated_so name j has some so_far later d.0 (ap (λ (s : SaidView Date). s.value) (is None j) ∙ d.1.0) (ap (λ (s : SaidView Date). s.value) (is so_far.value j) ∙ d.1.1)
      by (inr (inl none)) = inr (inl (inr (inl none)))
      by (inr (inr lost)) = told_so name j has some so_far later_lost (lost.0, subst (λ (s : SaidView Date). Contains s.lost lost.0) (sym (is so_far.value j)) lost.1)

  season_part : (j : Json) → get_member (codes "season") ms ≡ Some j → is_null j ≡ false → DatePartIsReadOrTold of ms (codes "season") j
  season_part j has some = by (season_there literal_in.value j)
    where
      by_season : (s : Season) → season_in j ≡ Some s → (e : Date) → (season_by literal_in.value (text_in j)).value ≡ Some e → e.season ≡ Some s → DatePartIsReadOrTold of ms (codes "season") j
      by_season s is e at in_e =
          read_so (codes "season") j has some
          (some_with all_in.value (SaysAll e) (HasDatePart of (codes "season") j)
          (λ d h. inr (inl (refl, rw is (has_season s e.season (λ r. d.season ≡ Some r) in_e h.season))))
          (then_says e season_now.value all_in.value (value_taken (codes "season") j has some literal_in ∙ at) later_season))

      by : (IsSomeAnd (season_in j) (λ s. IsSomeAnd (season_by literal_in.value (text_in j)).value (λ e. e.season ≡ Some s)))
          ⊎ (LeavesNone (λ text. text) j ⊎ ((x : LostView) × Contains (season_by literal_in.value (text_in j)).lost x)) → DatePartIsReadOrTold of ms (codes "season") j
      by (inl read) =
          let s = some_of (season_in j) (λ s. IsSomeAnd (season_by literal_in.value (text_in j)).value (λ e. e.season ≡ Some s)) read in
          let e = some_of (season_by literal_in.value (text_in j)).value (λ e. e.season ≡ Some s.0) s.1.1 in
          by_season s.0 s.1.0 e.0 e.1.0 e.1.1
      by (inr (inl none)) = inr (inl (inr (inl none)))
      by (inr (inr lost)) = told_so (codes "season") j has some literal_in lost_season lost

  circa_part : (j : Json) → get_member (codes "circa") ms ≡ Some j → is_null j ≡ false → DatePartIsReadOrTold of ms (codes "circa") j
  circa_part j has some = by (circa_there season_now.value (truth_in j))
    where
      by : ((truth_in j ≡ Some true) × IsSomeAnd (circa_by season_now.value (truth_in j)).value (λ e. e.approximate ≡ true))
          ⊎ ((truth_in j ≡ Some false) ⊎ ((x : LostView) × Contains (circa_by season_now.value (truth_in j)).lost x)) → DatePartIsReadOrTold of ms (codes "circa") j
      by (inl read) =
          read_so (codes "circa") j has some
          (some_with all_in.value (λ e. e.approximate ≡ true) (HasDatePart of (codes "circa") j) (λ d h. inr (inr (refl, (read.0, h))))
          (subst (λ (o : Option Date). IsSomeAnd o (λ e. e.approximate ≡ true)) (sym (value_taken (codes "circa") j has some season_now)) read.1))
      by (inr (inl is_not)) = inr (inl (inr (inr (refl, is_not))))
      by (inr (inr lost)) = told_so (codes "circa") j has some season_now (λ x h. h) lost

  -- a member that dates don't have
  unknown_part : (name : List ℕ) (j : Json) → get_member name ms ≡ Some j → is_null j ≡ false → is_known name ≡ false → DatePartIsReadOrTold of ms name j
  unfolding date_said
  unknown_part name j has some unknown =
      inr (inr (inr (
        lost_here (named (unknown_name of name)),
        Contains-append_right all_in.lost (all_unknown of ms) (lost_behind (to_member name) (lost_here (named (unknown_name of name)))) (unknown_among of name j some unknown ms has),
      )))

  known_part : (name known : List ℕ) (j : Json) → bytes_eq name known ≡ true → ((i : Json) → get_member known ms ≡ Some i → is_null i ≡ false → DatePartIsReadOrTold of ms known i)
      → get_member name ms ≡ Some j → is_null j ≡ false → DatePartIsReadOrTold of ms name j
  known_part name known j same read has some =
      let is : name ≡ known = (bytes_eq-Decides name known).0 same in
      subst (λ (n : List ℕ). DatePartIsReadOrTold of ms n j) (sym is) (read j (rw is at has) some)

  filled_part : (name : List ℕ) (j : Json) → get_member name ms ≡ Some j → is_null j ≡ false → DatePartIsReadOrTold of ms name j
  filled_part name j has some =
      by (bytes_eq name (codes "date-parts")) refl (bytes_eq name (codes "raw")) refl (bytes_eq name (codes "edtf")) refl (bytes_eq name (codes "literal")) refl
      (bytes_eq name (codes "season")) refl (bytes_eq name (codes "circa")) refl
    where
      by : (p : Bool) → bytes_eq name (codes "date-parts") ≡ p → (r : Bool) → bytes_eq name (codes "raw") ≡ r → (e : Bool) → bytes_eq name (codes "edtf") ≡ e
          → (l : Bool) → bytes_eq name (codes "literal") ≡ l → (s : Bool) → bytes_eq name (codes "season") ≡ s → (c : Bool) → bytes_eq name (codes "circa") ≡ c
          → DatePartIsReadOrTold of ms name j
      by true is r r1 e e1 l l1 s s1 c c1 = known_part name (codes "date-parts") j is parts_part has some
      by false p1 true is e e1 l l1 s s1 c c1 = known_part name (codes "raw") j is (text_part (codes "raw") (codes "raw date") parts_in (λ f i. refl) later_raw lost_raw) has some
      by false p1 false r1 true is l l1 s s1 c c1 = known_part name (codes "edtf") j is (text_part (codes "edtf") (codes "edtf date") raw_in (λ f i. refl) later_edtf lost_edtf) has some
      by false p1 false r1 false e1 true is s s1 c c1 =
          known_part name (codes "literal") j is (text_part (codes "literal") (codes "literal date") edtf_in (λ f i. refl) later_literal lost_literal) has some
      by false p1 false r1 false e1 false l1 true is c c1 = known_part name (codes "season") j is season_part has some
      by false p1 false r1 false e1 false l1 false s1 true is = known_part name (codes "circa") j is circa_part has some
      by false p1 false r1 false e1 false l1 false s1 false c1 = unknown_part name j has some (rw (p1, r1, e1, l1, s1, c1) refl)

pub date_part_read_or_told : (of : List ℕ) (ms : Members) (name : List ℕ) (j : Json) → get_member name ms ≡ Some j → DatePartIsReadOrTold of ms name j
date_part_read_or_told of ms name j has = by (is_null j) refl
  where
    by : (b : Bool) → is_null j ≡ b → DatePartIsReadOrTold of ms name j
    by true null = inl null
    by false some = filled_part of ms name j has some
