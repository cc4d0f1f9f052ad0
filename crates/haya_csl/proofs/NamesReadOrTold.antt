-- Each member of a name is read, or told, and so is each name of a list.
use Rattle.std.proofs.Common.{◌≡◌, inl, inr, ℕ, ◌+◌, zero, suc, Bool, true, false, cond, List, [], ◌∷◌, ◌++◌, Option, None, Some, refl, sym, ap, ◌∙◌, subst, arith, append_assoc, append-nil}
use Rattle.std.specs.Prelude.{◌⊎◌, ◌||◌, codes, is_some, unwrap_or, IsSomeAnd, if◌then◌else◌}
use Rattle.std.specs.List.{Contains}
use Rattle.std.specs.Str.{bytes_eq}
use Rattle.std.proofs.lemmas.Slice.Eq.{bytes_eq-Decides}
use Rattle.std.proofs.lemmas.List.Elements.{Contains-append_left, Contains-append_right}
use Rattle.json.specs.Json as json
use Rattle.json.specs.Json.{Items, Json, Members}
use Rattle.json.specs.Find.{get_item, get_member, is_null, later_or}
use Rattle.haya_text.specs.Printing.{text_display}
use Rattle.haya_people.specs.Person.{PersonView}
use Rattle.haya_json.specs.Notes.{LostView, all_behind, lost_behind, lost_here, named, unread}
use Rattle.haya_json.specs.Refusal.{to_item, to_member}
use Rattle.haya_json.specs.declared.fault.Why.TheVariants.{Missing, NotTruth}
use Rattle.haya_csl.specs.Markup.{markup_read}
use Rattle.haya_csl.specs.Names.{NameView, PartSetter, PartsView, alone, beside, beside_text, institution, is_true, lost_in, lost_part, name_by, name_said, names_said, nameless, no_part, no_parts, part_beside, part_said, part_setter, particles, parts_set, person, person_before, person_by, person_named, person_of_parts, persons_in, true_beside, truth_said, with_named_part, with_part}
use Rattle.haya_csl.specs.NamesReadOrTold.{HasPart, HasText, IsAlone, IsAmong, IsPartTold, PartIsReadOrTold, TellsAt}
use Rattle.haya_csl.specs.ReadOrTold.{LeavesNone}
use Rattle.haya_csl.specs.Said.{SaidView}
use Rattle.haya_csl.specs.Texts.{says_some}
use Rattle.haya_csl.proofs.ReadOrTold.{Contains-map, SaysOr, first_lost, says_list, says_text, told_one}

same_value : {A : Type 0} {a b : A} → Some a ≡ Some b → a ≡ b
same_value h = cc

-- ---- one part after all members

-- the setter that a name finds, by what it is equal to
abbrev setter_by : Bool → Bool → Bool → Bool → Bool → Bool → Bool → List ℕ → PartSetter
setter_by f g s n d l c of =
    unwrap_or
    (cond f (Some (part_setter part_said (λ v p. record p { family = v })))
    (cond g (Some (part_setter part_said (λ v p. record p { given = v })))
    (cond s (Some (part_setter part_said (λ v p. record p { suffix = v })))
    (cond n (Some (part_setter part_said (λ v p. record p { non_dropping = v })))
    (cond d (Some (part_setter part_said (λ v p. record p { dropping = v })))
    (cond l (Some (part_setter part_said (λ v p. record p { literal = v })))
    (cond c (Some (part_setter truth_said (λ v p. record p { comma_suffix = unwrap_or v false }))) None)))))))
    (no_part of)

-- a member of another name keeps a part
abbrev Keeps : {T : Type 0} → (NameView → T) → List ℕ → Type 0
Keeps part name = (of k : List ℕ) (j : Json) (p : PartsView) → bytes_eq k name ≡ false → part (with_named_part of k j p).parts ≡ part p.parts

keeps_family : Keeps (λ p. p.family) (codes "family")
keeps_family of k j p other = rw other (by (bytes_eq k (codes "given")) (bytes_eq k (codes "suffix")) (bytes_eq k (codes "non-dropping-particle")) (bytes_eq k (codes "dropping-particle")) (bytes_eq k (codes "literal")) (bytes_eq k (codes "comma-suffix")))
  where
    by : (g s n d l c : Bool) → (setter_by false g s n d l c of k j p).parts.family ≡ p.parts.family
    by true s n d l c = refl
    by false true n d l c = refl
    by false false true d l c = refl
    by false false false true l c = refl
    by false false false false true c = refl
    by false false false false false true = refl
    by false false false false false false = refl

keeps_given : Keeps (λ p. p.given) (codes "given")
keeps_given of k j p other = rw other (by (bytes_eq k (codes "family")) (bytes_eq k (codes "suffix")) (bytes_eq k (codes "non-dropping-particle")) (bytes_eq k (codes "dropping-particle")) (bytes_eq k (codes "literal")) (bytes_eq k (codes "comma-suffix")))
  where
    by : (f s n d l c : Bool) → (setter_by f false s n d l c of k j p).parts.given ≡ p.parts.given
    by true s n d l c = refl
    by false true n d l c = refl
    by false false true d l c = refl
    by false false false true l c = refl
    by false false false false true c = refl
    by false false false false false true = refl
    by false false false false false false = refl

keeps_suffix : Keeps (λ p. p.suffix) (codes "suffix")
keeps_suffix of k j p other = rw other (by (bytes_eq k (codes "family")) (bytes_eq k (codes "given")) (bytes_eq k (codes "non-dropping-particle")) (bytes_eq k (codes "dropping-particle")) (bytes_eq k (codes "literal")) (bytes_eq k (codes "comma-suffix")))
  where
    by : (f g n d l c : Bool) → (setter_by f g false n d l c of k j p).parts.suffix ≡ p.parts.suffix
    by true g n d l c = refl
    by false true n d l c = refl
    by false false true d l c = refl
    by false false false true l c = refl
    by false false false false true c = refl
    by false false false false false true = refl
    by false false false false false false = refl

keeps_non_dropping : Keeps (λ p. p.non_dropping) (codes "non-dropping-particle")
keeps_non_dropping of k j p other = rw other (by (bytes_eq k (codes "family")) (bytes_eq k (codes "given")) (bytes_eq k (codes "suffix")) (bytes_eq k (codes "dropping-particle")) (bytes_eq k (codes "literal")) (bytes_eq k (codes "comma-suffix")))
  where
    by : (f g s d l c : Bool) → (setter_by f g s false d l c of k j p).parts.non_dropping ≡ p.parts.non_dropping
    by true g s d l c = refl
    by false true s d l c = refl
    by false false true d l c = refl
    by false false false true l c = refl
    by false false false false true c = refl
    by false false false false false true = refl
    by false false false false false false = refl

keeps_dropping : Keeps (λ p. p.dropping) (codes "dropping-particle")
keeps_dropping of k j p other = rw other (by (bytes_eq k (codes "family")) (bytes_eq k (codes "given")) (bytes_eq k (codes "suffix")) (bytes_eq k (codes "non-dropping-particle")) (bytes_eq k (codes "literal")) (bytes_eq k (codes "comma-suffix")))
  where
    by : (f g s n l c : Bool) → (setter_by f g s n false l c of k j p).parts.dropping ≡ p.parts.dropping
    by true g s n l c = refl
    by false true s n l c = refl
    by false false true n l c = refl
    by false false false true l c = refl
    by false false false false true c = refl
    by false false false false false true = refl
    by false false false false false false = refl

keeps_literal : Keeps (λ p. p.literal) (codes "literal")
keeps_literal of k j p other = rw other (by (bytes_eq k (codes "family")) (bytes_eq k (codes "given")) (bytes_eq k (codes "suffix")) (bytes_eq k (codes "non-dropping-particle")) (bytes_eq k (codes "dropping-particle")) (bytes_eq k (codes "comma-suffix")))
  where
    by : (f g s n d c : Bool) → (setter_by f g s n d false c of k j p).parts.literal ≡ p.parts.literal
    by true g s n d c = refl
    by false true s n d c = refl
    by false false true n d c = refl
    by false false false true d c = refl
    by false false false false true c = refl
    by false false false false false true = refl
    by false false false false false false = refl

keeps_comma_suffix : Keeps (λ p. p.comma_suffix) (codes "comma-suffix")
keeps_comma_suffix of k j p other = rw other (by (bytes_eq k (codes "family")) (bytes_eq k (codes "given")) (bytes_eq k (codes "suffix")) (bytes_eq k (codes "non-dropping-particle")) (bytes_eq k (codes "dropping-particle")) (bytes_eq k (codes "literal")))
  where
    by : (f g s n d l : Bool) → (setter_by f g s n d l false of k j p).parts.comma_suffix ≡ p.parts.comma_suffix
    by true g s n d l = refl
    by false true s n d l = refl
    by false false true n d l = refl
    by false false false true d l = refl
    by false false false false true l = refl
    by false false false false false true = refl
    by false false false false false false = refl

-- of members with one name the last sets the part
module _ {T : Type 0} (of : List ℕ) (part : NameView → T) (name : List ℕ) (read : Json → T) (keeps : Keeps part name)
    (takes : (j : Json) (p : PartsView) → part (with_named_part of name j p).parts ≡ read j) where
  kept_by : (k : List ℕ) (j : Json) (p : PartsView) → bytes_eq k name ≡ false → part (with_part of k j p).parts ≡ part p.parts
  kept_by k j p other = by (is_null j)
    where
      by : (b : Bool) → part (if b then p else with_named_part of k j p).parts ≡ part p.parts
      by true = refl
      by false = keeps of k j p other

  no_more : (ms : Members) (p : PartsView) → get_member name ms ≡ None → part (parts_set of ms p).parts ≡ part p.parts
  no_more json.no_members p none = refl
  no_more (json.member k j ms) p none = by (no_more ms (with_part of k j p)) (get_member name ms) refl (bytes_eq k name) refl none
    where
      by : (get_member name ms ≡ None → part (parts_set of ms (with_part of k j p)).parts ≡ part (with_part of k j p).parts)
          → (later : Option Json) → get_member name ms ≡ later → (same : Bool) → bytes_eq k name ≡ same → later_or later (cond same (Some j) None) ≡ None
          → part (parts_set of ms (with_part of k j p)).parts ≡ part p.parts
      by rest None is false other h = rest is ∙ kept_by k j p other
      by rest None is true other h = cc
      by rest (Some i) is same other h = cc

  set_last : (ms : Members) (p : PartsView) (j : Json) → get_member name ms ≡ Some j → is_null j ≡ false → part (parts_set of ms p).parts ≡ read j
  set_last json.no_members p j has some = cc
  set_last (json.member k i ms) p j has some = by (λ h. set_last ms (with_part of k i p) j h some) (get_member name ms) refl (bytes_eq k name) refl has
    where
      by : (get_member name ms ≡ Some j → part (parts_set of ms (with_part of k i p)).parts ≡ read j)
          → (later : Option Json) → get_member name ms ≡ later → (same : Bool) → bytes_eq k name ≡ same → later_or later (cond same (Some i) None) ≡ Some j
          → part (parts_set of ms (with_part of k i p)).parts ≡ read j
      by rest (Some l) is same h has = rest (is ∙ has)
      by rest None is false h has = cc
      by rest None is true h has =
          let here : i ≡ j = same_value has in
          let named_so : k ≡ name = (bytes_eq-Decides k name).0 h in
          no_more ms (with_part of k i p) is ∙ rw (here, named_so, some) (takes j p)

-- ---- what is lost of parts

-- what is lost so far stays lost
later_lost : (of k : List ℕ) (j : Json) (p : PartsView) (x : LostView) → Contains p.lost x → Contains (with_part of k j p).lost x
later_lost of k j p x h =
    null (is_null j)
  where
    by : (f g s n d l c : Bool) → Contains (setter_by f g s n d l c of k j p).lost x
    by true g s n d l c = Contains-append_left p.lost (all_behind (to_member k) (part_said j).lost) x h
    by false true s n d l c = Contains-append_left p.lost (all_behind (to_member k) (part_said j).lost) x h
    by false false true n d l c = Contains-append_left p.lost (all_behind (to_member k) (part_said j).lost) x h
    by false false false true d l c = Contains-append_left p.lost (all_behind (to_member k) (part_said j).lost) x h
    by false false false false true l c = Contains-append_left p.lost (all_behind (to_member k) (part_said j).lost) x h
    by false false false false false true c = Contains-append_left p.lost (all_behind (to_member k) (part_said j).lost) x h
    by false false false false false false true = Contains-append_left p.lost (all_behind (to_member k) (truth_said j).lost) x h
    by false false false false false false false = Contains-append_left p.lost (lost_part of k) x h

    null : (b : Bool) → Contains (if b then p else with_named_part of k j p).lost x
    null true = h
    null false =
        by (bytes_eq k (codes "family")) (bytes_eq k (codes "given")) (bytes_eq k (codes "suffix")) (bytes_eq k (codes "non-dropping-particle")) (bytes_eq k (codes "dropping-particle")) (bytes_eq k (codes "literal")) (bytes_eq k (codes "comma-suffix"))

stays_lost : (of : List ℕ) (ms : Members) (p : PartsView) (x : LostView) → Contains p.lost x → Contains (parts_set of ms p).lost x
stays_lost of json.no_members p x h = h
stays_lost of (json.member k j ms) p x h = stays_lost of ms (with_part of k j p) x (later_lost of k j p x h)

-- what a member loses is lost after all of them
lost_of_member : (of name : List ℕ) (ms : Members) (p : PartsView) (j : Json) (x : LostView) → get_member name ms ≡ Some j → is_null j ≡ false
    → ((q : PartsView) → Contains (with_named_part of name j q).lost x) → Contains (parts_set of ms p).lost x
lost_of_member of name json.no_members p j x has some loses = cc
lost_of_member of name (json.member k i ms) p j x has some loses =
    by (λ h. lost_of_member of name ms (with_part of k i p) j x h some loses) (get_member name ms) refl (bytes_eq k name) refl has
  where
    by : (get_member name ms ≡ Some j → Contains (parts_set of ms (with_part of k i p)).lost x)
        → (later : Option Json) → get_member name ms ≡ later → (same : Bool) → bytes_eq k name ≡ same → later_or later (cond same (Some i) None) ≡ Some j
        → Contains (parts_set of ms (with_part of k i p)).lost x
    by rest (Some l) is same h has = rest (is ∙ has)
    by rest None is false h has = cc
    by rest None is true h has =
        let here : i ≡ j = same_value has in
        let named_so : k ≡ name = (bytes_eq-Decides k name).0 h in
        stays_lost of ms (with_part of k i p) x (rw (here, named_so, some) (loses p))

-- ---- what a part makes of a person

-- a text is there, or told
abbrev TextOr : List ℕ → List ℕ → SaidView PersonView → Type 0
TextOr name v said = IsSomeAnd said.value (λ p. HasText p v) ⊎ IsPartTold name said.lost

module _ (of : List ℕ) (p : PartsView) where
  -- what is lost beside a whole name, part by part
  abbrev beside_family : List LostView
  beside_family = beside of (codes "family") p.parts.family

  abbrev beside_given : List LostView
  beside_given = beside of (codes "given") p.parts.given

  abbrev beside_suffix : List LostView
  beside_suffix = beside of (codes "suffix") p.parts.suffix

  abbrev beside_non_dropping : List LostView
  beside_non_dropping = beside of (codes "non-dropping-particle") p.parts.non_dropping

  abbrev beside_dropping : List LostView
  beside_dropping = beside of (codes "dropping-particle") p.parts.dropping

  abbrev beside_comma : List LostView
  beside_comma = true_beside of (codes "comma-suffix") p.parts.comma_suffix

  abbrev so_far_1 : List LostView
  so_far_1 = p.lost ++ beside_family

  abbrev so_far_2 : List LostView
  so_far_2 = so_far_1 ++ beside_given

  abbrev so_far_3 : List LostView
  so_far_3 = so_far_2 ++ beside_suffix

  abbrev so_far_4 : List LostView
  so_far_4 = so_far_3 ++ beside_non_dropping

  abbrev so_far_5 : List LostView
  so_far_5 = so_far_4 ++ beside_dropping

  from_5 : (x : LostView) → Contains so_far_5 x → Contains (institution of p).lost x
  from_5 x h = Contains-append_left so_far_5 beside_comma x h

  from_4 : (x : LostView) → Contains so_far_4 x → Contains (institution of p).lost x
  from_4 x h = from_5 x (Contains-append_left so_far_4 beside_dropping x h)

  from_3 : (x : LostView) → Contains so_far_3 x → Contains (institution of p).lost x
  from_3 x h = from_4 x (Contains-append_left so_far_3 beside_non_dropping x h)

  from_2 : (x : LostView) → Contains so_far_2 x → Contains (institution of p).lost x
  from_2 x h = from_3 x (Contains-append_left so_far_2 beside_suffix x h)

  from_1 : (x : LostView) → Contains so_far_1 x → Contains (institution of p).lost x
  from_1 x h = from_2 x (Contains-append_left so_far_1 beside_given x h)

  from_0 : (x : LostView) → Contains p.lost x → Contains (institution of p).lost x
  from_0 x h = from_1 x (Contains-append_left p.lost beside_family x h)

  -- and so is what is lost of parts, after the person is made
  said_lost : (x : LostView) → Contains p.lost x → Contains (person_of_parts of p).lost x
  said_lost x h = by (is_some p.parts.literal)
    where
      named_lost : (o : Option (List ℕ × Option (List ℕ))) → Contains (person_by o p).lost x
      named_lost None = Contains-append_left p.lost (nameless p.parts) x h
      named_lost (Some name) = h

      by : (b : Bool) → Contains (if b then institution of p else person p).lost x
      by true = from_0 x h
      by false = named_lost (name_by p.parts.family p.parts.given)

  one_beside : (name : List ℕ) (o : Option (List ℕ)) (v : List ℕ) → o ≡ Some v → Contains (beside of name o) (part_beside of name)
  one_beside name o v is = rw is (first_lost (part_beside of name) [])

  -- a part is told beside a whole name, or the person has it
  there_or : (name v : List ℕ) → Contains (institution of p).lost (part_beside of name) → TextOr name v (person p) → TextOr name v (person_of_parts of p)
  there_or name v told there = by (is_some p.parts.literal)
    where
      by : (b : Bool) → TextOr name v (if b then institution of p else person p)
      by true = inr (inl (lost_here (named (beside_text of name)), told))
      by false = there

  -- what every named person has
  named_there : (name v : List ℕ) → ((first : List ℕ) (second : Option (List ℕ)) → HasText (person_named first second p.parts) v)
      → (is_some p.parts.suffix || is_some (particles p.parts.dropping p.parts.non_dropping)) || p.parts.comma_suffix ≡ true → TextOr name v (person p)
  named_there name v has some = by (name_by p.parts.family p.parts.given)
    where
      by : (o : Option (List ℕ × Option (List ℕ))) → TextOr name v (person_by o p)
      by (Some n) = inl (has n.0 n.1)
      by None = inr (inr (Contains-append_right p.lost (nameless p.parts) (lost_here (unread Missing)) (rw some (first_lost (lost_here (unread Missing)) []))))

  family_there : (v : List ℕ) → p.parts.family ≡ Some v → TextOr (codes "family") v (person_of_parts of p)
  family_there v has =
      there_or (codes "family") v
      (from_1 (part_beside of (codes "family")) (Contains-append_right p.lost beside_family (part_beside of (codes "family")) (one_beside (codes "family") p.parts.family v has)))
      (rw has (inl (inl refl)))

  given_there : (v : List ℕ) → p.parts.given ≡ Some v → TextOr (codes "given") v (person_of_parts of p)
  given_there v has =
      there_or (codes "given") v
      (from_2 (part_beside of (codes "given")) (Contains-append_right so_far_1 beside_given (part_beside of (codes "given")) (one_beside (codes "given") p.parts.given v has)))
      (by p.parts.family refl)
    where
      by : (o : Option (List ℕ)) → p.parts.family ≡ o → TextOr (codes "given") v (person p)
      by (Some f) is = rw (is, has) (inl (inr (inl refl)))
      by None is = rw (is, has) (inl (inl refl))

  suffix_there : (v : List ℕ) → p.parts.suffix ≡ Some v → TextOr (codes "suffix") v (person_of_parts of p)
  suffix_there v has =
      there_or (codes "suffix") v
      (from_3 (part_beside of (codes "suffix")) (Contains-append_right so_far_2 beside_suffix (part_beside of (codes "suffix")) (one_beside (codes "suffix") p.parts.suffix v has)))
      (named_there (codes "suffix") v (λ first second. inr (inr (inl has))) (rw has refl))

  some_prefix : (o : Option (List ℕ)) (s c : Bool) → is_some o ≡ true → (s || is_some o) || c ≡ true
  some_prefix o true c is = refl
  some_prefix o false c is = rw is refl

  non_dropping_there : (v : List ℕ) → p.parts.non_dropping ≡ Some v → TextOr (codes "non-dropping-particle") v (person_of_parts of p)
  non_dropping_there v has =
      there_or (codes "non-dropping-particle") v
      (from_4 (part_beside of (codes "non-dropping-particle"))
      (Contains-append_right so_far_3 beside_non_dropping (part_beside of (codes "non-dropping-particle")) (one_beside (codes "non-dropping-particle") p.parts.non_dropping v has)))
      (named_there (codes "non-dropping-particle") v (λ first second. inr (inr (inr (rw has (in_prefix p.parts.dropping)))))
      (some_prefix (particles p.parts.dropping p.parts.non_dropping) (is_some p.parts.suffix) p.parts.comma_suffix (rw has (is_there p.parts.dropping))))
    where
      in_prefix : (o : Option (List ℕ)) → IsSomeAnd (particles o (Some v)) (λ prefix. (front : List ℕ) × (back : List ℕ) × (prefix ≡ front ++ (v ++ back)))
      in_prefix None = ([], [], sym (append-nil v))
      in_prefix (Some d) = (d ++ codes " ", [], ap (λ (r : List ℕ). (d ++ codes " ") ++ r) (sym (append-nil v)))

      is_there : (o : Option (List ℕ)) → is_some (particles o (Some v)) ≡ true
      is_there None = refl
      is_there (Some d) = refl

  dropping_there : (v : List ℕ) → p.parts.dropping ≡ Some v → TextOr (codes "dropping-particle") v (person_of_parts of p)
  dropping_there v has =
      there_or (codes "dropping-particle") v
      (from_5 (part_beside of (codes "dropping-particle"))
      (Contains-append_right so_far_4 beside_dropping (part_beside of (codes "dropping-particle")) (one_beside (codes "dropping-particle") p.parts.dropping v has)))
      (named_there (codes "dropping-particle") v (λ first second. inr (inr (inr (rw has (in_prefix p.parts.non_dropping)))))
      (some_prefix (particles p.parts.dropping p.parts.non_dropping) (is_some p.parts.suffix) p.parts.comma_suffix (rw has (is_there p.parts.non_dropping))))
    where
      in_prefix : (o : Option (List ℕ)) → IsSomeAnd (particles (Some v) o) (λ prefix. (front : List ℕ) × (back : List ℕ) × (prefix ≡ front ++ (v ++ back)))
      in_prefix None = ([], [], sym (append-nil v))
      in_prefix (Some n) = ([], codes " " ++ n, append_assoc v (codes " ") n)

      is_there : (o : Option (List ℕ)) → is_some (particles (Some v) o) ≡ true
      is_there None = refl
      is_there (Some n) = refl

  literal_there : (v : List ℕ) → p.parts.literal ≡ Some v → TextOr (codes "literal") v (person_of_parts of p)
  literal_there v has = rw has (inl (inl refl))

  -- a comma before the suffix
  abbrev CommaOr : SaidView PersonView → Type 0
  CommaOr said = IsSomeAnd said.value (λ q. q.comma_suffix ≡ true) ⊎ IsPartTold (codes "comma-suffix") said.lost

  comma_there : p.parts.comma_suffix ≡ true → CommaOr (person_of_parts of p)
  comma_there has = by (is_some p.parts.literal)
    where
      any_true : (s : Bool) → s || true ≡ true
      any_true true = refl
      any_true false = refl

      by_name : (o : Option (List ℕ × Option (List ℕ))) → CommaOr (person_by o p)
      by_name (Some n) = inl has
      by_name None = inr (inr (Contains-append_right p.lost (nameless p.parts) (lost_here (unread Missing))
          (rw (has, any_true (is_some p.parts.suffix || is_some (particles p.parts.dropping p.parts.non_dropping))) (first_lost (lost_here (unread Missing)) []))))

      by : (b : Bool) → CommaOr (if b then institution of p else person p)
      by true =
          inr (inl (
            lost_here (named (beside_text of (codes "comma-suffix"))),
            Contains-append_right so_far_5 beside_comma (part_beside of (codes "comma-suffix")) (rw has (first_lost (part_beside of (codes "comma-suffix")) [])),
          ))
      by false = by_name (name_by p.parts.family p.parts.given)

-- ---- the members of a name

says_part : (j : Json) → SaysOr (part_said j) (LeavesNone (λ text. text_display (markup_read text)) j)
says_part j = says_text (λ text. says_some (text_display (markup_read text))) (λ text. text_display (markup_read text)) (λ text. says_list (text_display (markup_read text))) j

says_truth : (j : Json) → ((b : Bool) × ((truth_said j).value ≡ Some b)) ⊎ ((x : LostView) × Contains (truth_said j).lost x)
says_truth (json.boolean b) = inl (b, refl)
says_truth json.null = inr (told_one (lost_here (unread NotTruth)))
says_truth (json.number s) = inl (is_true s, refl)
says_truth (json.string s) = inl (is_true s, refl)
says_truth (json.array js) = inr (told_one (lost_here (unread NotTruth)))
says_truth (json.object ms) = inr (told_one (lost_here (unread NotTruth)))

module _ (of : List ℕ) (ms : Members) where
  -- something is lost of a member
  told_part : (name : List ℕ) (j : Json) (x : LostView) → get_member name ms ≡ Some j → is_null j ≡ false
      → ((q : PartsView) → Contains (with_named_part of name j q).lost (lost_behind (to_member name) x)) → IsPartTold name (name_said of (json.object ms)).lost
  told_part name j x has some loses =
      inl (x, said_lost of (parts_set of ms no_parts) (lost_behind (to_member name) x) (lost_of_member of name ms no_parts j (lost_behind (to_member name) x) has some loses))

  behind_part : (name : List ℕ) (q : PartsView) (losts : List LostView) (x : LostView) → Contains losts x → Contains (q.lost ++ all_behind (to_member name) losts) (lost_behind (to_member name) x)
  behind_part name q losts x h = Contains-append_right q.lost (all_behind (to_member name) losts) (lost_behind (to_member name) x) (Contains-map (lost_behind (to_member name)) losts x h)

  text_part : (name : List ℕ) (part : NameView → Option (List ℕ)) → Keeps part name
      → ((j : Json) (q : PartsView) → part (with_named_part of name j q).parts ≡ (part_said j).value)
      → ((j : Json) (q : PartsView) → (with_named_part of name j q).lost ≡ q.lost ++ all_behind (to_member name) (part_said j).lost)
      → ((q : PartsView) (v : List ℕ) → part q.parts ≡ Some v → TextOr name v (person_of_parts of q))
      → (j : Json) → get_member name ms ≡ Some j → is_null j ≡ false → PartIsReadOrTold of ms name j
  text_part name part keeps takes loses there j has some = by (says_part j)
    where
      by_text : (v : List ℕ) → (part_said j).value ≡ Some v → TextOr name v (name_said of (json.object ms)) → PartIsReadOrTold of ms name j
      by_text v is (inl read) = inr (inr (inl (in_person (name_said of (json.object ms)).value read)))
        where
          in_person : (o : Option PersonView) → IsSomeAnd o (λ p. HasText p v) → IsSomeAnd o (HasPart name j)
          in_person None none = absurd none
          in_person (Some p) here = inl (rw is here)
      by_text v is (inr told) = inr (inr (inr told))

      by : SaysOr (part_said j) (LeavesNone (λ text. text_display (markup_read text)) j) → PartIsReadOrTold of ms name j
      by (inl v) = by_text v.0 v.1 (there (parts_set of ms no_parts) v.0 (set_last of part name (λ i. (part_said i).value) keeps takes ms no_parts j has some ∙ v.1))
      by (inr (inl none)) = inr (inl (inl none))
      by (inr (inr lost)) = inr (inr (inr (told_part name j lost.0 has some (λ q. rw (loses j q) (behind_part name q (part_said j).lost lost.0 lost.1)))))

  comma_part : (j : Json) → get_member (codes "comma-suffix") ms ≡ Some j → is_null j ≡ false → PartIsReadOrTold of ms (codes "comma-suffix") j
  comma_part j has some = by (says_truth j)
    where
      set : (parts_set of ms no_parts).parts.comma_suffix ≡ unwrap_or (truth_said j).value false
      set = set_last of (λ n. n.comma_suffix) (codes "comma-suffix") (λ i. unwrap_or (truth_said i).value false) keeps_comma_suffix (λ i q. refl) ms no_parts j has some

      by_person : (truth_said j).value ≡ Some true
          → IsSomeAnd (name_said of (json.object ms)).value (λ q. q.comma_suffix ≡ true) ⊎ IsPartTold (codes "comma-suffix") (name_said of (json.object ms)).lost
          → PartIsReadOrTold of ms (codes "comma-suffix") j
      by_person is (inl read) = inr (inr (inl (in_person (name_said of (json.object ms)).value read)))
        where
          in_person : (o : Option PersonView) → IsSomeAnd o (λ q. q.comma_suffix ≡ true) → IsSomeAnd o (HasPart (codes "comma-suffix") j)
          in_person None none = absurd none
          in_person (Some p) here = inr (refl, is ∙ ap Some (sym here))
      by_person is (inr told) = inr (inr (inr told))

      by : ((b : Bool) × ((truth_said j).value ≡ Some b)) ⊎ ((x : LostView) × Contains (truth_said j).lost x) → PartIsReadOrTold of ms (codes "comma-suffix") j
      by (inl (true, is)) = by_person is (comma_there of (parts_set of ms no_parts) (set ∙ rw is refl))
      by (inl (false, is)) = inr (inl (inr (refl, is)))
      by (inr lost) = inr (inr (inr (told_part (codes "comma-suffix") j lost.0 has some (λ q. behind_part (codes "comma-suffix") q (truth_said j).lost lost.0 lost.1))))

  known_part : (name known : List ℕ) (j : Json) → bytes_eq name known ≡ true → ((i : Json) → get_member known ms ≡ Some i → is_null i ≡ false → PartIsReadOrTold of ms known i)
      → get_member name ms ≡ Some j → is_null j ≡ false → PartIsReadOrTold of ms name j
  known_part name known j same read has some =
      let is : name ≡ known = (bytes_eq-Decides name known).0 same in
      subst (λ (n : List ℕ). PartIsReadOrTold of ms n j) (sym is) (read j (rw is at has) some)

  filled_part : (name : List ℕ) (j : Json) → get_member name ms ≡ Some j → is_null j ≡ false → PartIsReadOrTold of ms name j
  filled_part name j has some =
      by (bytes_eq name (codes "family")) refl (bytes_eq name (codes "given")) refl (bytes_eq name (codes "suffix")) refl (bytes_eq name (codes "non-dropping-particle")) refl
      (bytes_eq name (codes "dropping-particle")) refl (bytes_eq name (codes "literal")) refl (bytes_eq name (codes "comma-suffix")) refl
    where
      by : (f : Bool) → bytes_eq name (codes "family") ≡ f → (g : Bool) → bytes_eq name (codes "given") ≡ g → (s : Bool) → bytes_eq name (codes "suffix") ≡ s
          → (n : Bool) → bytes_eq name (codes "non-dropping-particle") ≡ n → (d : Bool) → bytes_eq name (codes "dropping-particle") ≡ d
          → (l : Bool) → bytes_eq name (codes "literal") ≡ l → (c : Bool) → bytes_eq name (codes "comma-suffix") ≡ c → PartIsReadOrTold of ms name j
      by true is g g1 s s1 n n1 d d1 l l1 c c1 =
          known_part name (codes "family") j is (text_part (codes "family") (λ p. p.family) keeps_family (λ i q. refl) (λ i q. refl) (family_there of)) has some
      by false f1 true is s s1 n n1 d d1 l l1 c c1 =
          known_part name (codes "given") j is (text_part (codes "given") (λ p. p.given) keeps_given (λ i q. refl) (λ i q. refl) (given_there of)) has some
      by false f1 false g1 true is n n1 d d1 l l1 c c1 =
          known_part name (codes "suffix") j is (text_part (codes "suffix") (λ p. p.suffix) keeps_suffix (λ i q. refl) (λ i q. refl) (suffix_there of)) has some
      by false f1 false g1 false s1 true is d d1 l l1 c c1 =
          known_part name (codes "non-dropping-particle") j is
          (text_part (codes "non-dropping-particle") (λ p. p.non_dropping) keeps_non_dropping (λ i q. refl) (λ i q. refl) (non_dropping_there of)) has some
      by false f1 false g1 false s1 false n1 true is l l1 c c1 =
          known_part name (codes "dropping-particle") j is
          (text_part (codes "dropping-particle") (λ p. p.dropping) keeps_dropping (λ i q. refl) (λ i q. refl) (dropping_there of)) has some
      by false f1 false g1 false s1 false n1 false d1 true is c c1 =
          known_part name (codes "literal") j is (text_part (codes "literal") (λ p. p.literal) keeps_literal (λ i q. refl) (λ i q. refl) (literal_there of)) has some
      by false f1 false g1 false s1 false n1 false d1 false l1 true is = known_part name (codes "comma-suffix") j is comma_part has some
      by false f1 false g1 false s1 false n1 false d1 false l1 false c1 =
          inr (inr (inr (told_part name j (lost_here (named ((of ++ codes ", member ") ++ name))) has some
          (λ q. rw (f1, g1, s1, n1, d1, l1, c1) (Contains-append_right q.lost (lost_part of name) (lost_behind (to_member name) (lost_here (named ((of ++ codes ", member ") ++ name))))
          (first_lost (lost_behind (to_member name) (lost_here (named ((of ++ codes ", member ") ++ name)))) []))))))

pub part_read_or_told : (of : List ℕ) (ms : Members) (name : List ℕ) (j : Json) → get_member name ms ≡ Some j → PartIsReadOrTold of ms name j
part_read_or_told of ms name j has = by (is_null j) refl
  where
    by : (b : Bool) → is_null j ≡ b → PartIsReadOrTold of ms name j
    by true null = inl null
    by false some = filled_part of ms name j has some

-- ---- lists

pub name_among : (of : List ℕ) (js : Items) (n : ℕ) (j : Json) (p : PersonView) → get_item n js ≡ Some j → (name_said of j).value ≡ Some p → IsAmong of js p
name_among of js n j p found is = some (persons_in of js) (among js n found)
  where
    behind_any : (o : Option PersonView) (persons : List PersonView) → Contains persons p → Contains (person_before o persons) p
    behind_any None persons has = has
    behind_any (Some q) persons has = Contains-append_right (q ∷ []) persons p has

    among : (js : Items) (n : ℕ) → get_item n js ≡ Some j → Contains (persons_in of js) p
    among json.no_items n found = cc
    among (json.item i more) zero found = let same : i ≡ j = same_value found in rw (same, is) (0, omega arith, refl)
    among (json.item i more) (suc n) found = behind_any (name_said of i).value (persons_in of more) (among more n found)

    some : (persons : List PersonView) → Contains persons p → IsSomeAnd (says_some persons).value (λ all. Contains all p)
    some [] has = omega (arith, has.1)
    some (q ∷ qs) has = has

pub told_at : (of : List ℕ) (js : Items) (n : ℕ) (j : Json) (x : LostView) → get_item n js ≡ Some j → Contains (name_said of j).lost x → TellsAt of js n x
told_at of js n j x found has = let same : 0 + n ≡ n = omega arith in subst (λ (k : ℕ). Contains (lost_in of 0 js) (lost_behind (to_item k) x)) same (there js n 0 found)
  where
    there : (js : Items) (n m : ℕ) → get_item n js ≡ Some j → Contains (lost_in of m js) (lost_behind (to_item (m + n)) x)
    there json.no_items n m found = cc
    there (json.item i more) zero m found =
        let same : i ≡ j = same_value found in
        let place : m ≡ m + zero = omega arith in
        subst (λ (k : ℕ). Contains (lost_in of m (json.item i more)) (lost_behind (to_item k) x)) place
        (Contains-append_left (all_behind (to_item m) (name_said of i).lost) (lost_in of (m + 1) more) (lost_behind (to_item m) x)
        (Contains-map (lost_behind (to_item m)) (name_said of i).lost x (rw same has)))
    there (json.item i more) (suc n) m found =
        let place : (m + 1) + n ≡ m + suc n = omega arith in
        subst (λ (k : ℕ). Contains (lost_in of m (json.item i more)) (lost_behind (to_item k) x)) place
        (Contains-append_right (all_behind (to_item m) (name_said of i).lost) (lost_in of (m + 1) more) (lost_behind (to_item (m + 1 + n)) x) (there more n (m + 1) found))

-- a name that is in no list
pub said_alone : (of : List ℕ) (j : Json) → IsAlone j → names_said of j ≡ alone (name_said of j)
said_alone of (json.object ms) is = refl
said_alone of (json.string text) is = refl
said_alone of (json.number text) is = absurd is
said_alone of (json.array js) is = absurd is
said_alone of (json.boolean b) is = absurd is
said_alone of json.null is = absurd is
