-- A list that is divided as it comes.
use Rattle.std.proofs.Common.{◌≡◌, ◌⊎◌, inl, inr, ℕ, suc, ◌+◌, ◌-◌, ◌<◌, ◌≤◌, Bool, true, false, cond, List, [], ◌∷◌, ◌++◌, length, length-append, take, drop, get_or, refl, sym, ap, ◌∙◌, subst, append_assoc, append-nil, take-append-drop, arith}
use Rattle.std.proofs.Math.ListN.{get_or-append}
use Rattle.std.proofs.Math.Seq.{drop-cons}
use Rattle.std.proofs.lemmas.List.{drop-append-le, length-drop, take-append-le}
use Rattle.haya_json_elements.specs.Steps.{closing_bracket, opening_bracket, step}
use Rattle.haya_json_elements.specs.declared.place.Brackets.{Brackets}
use Rattle.haya_json_elements.specs.declared.place.Mode.{Mode}
use Rattle.haya_json_elements.specs.declared.place.Mode.TheVariants.{Between}
use Rattle.haya_json_elements.specs.declared.place.Place.TheVariants.{Element as InElement, Next as InNext}
use Rattle.haya_slices.specs.Coming.{HasPassed, HasSeen}
use Rattle.haya_slices.specs.Layout.{IsLaidOut, IsWhite, inside}
use Rattle.haya_slices.specs.Scan.{BeginsWith, end_byte}
use Rattle.haya_slices.specs.declared.coming.Search.{Search}
use Rattle.haya_slices.proofs.Listed.{last_found, no_elements, none_found, one_found}
use Rattle.haya_slices.proofs.Scanned.{white-append}
use Rattle.haya_parts.proofs.Moving.{rest_left}
use Rattle.haya_parts.specs.Divided.{Begins}
use Rattle.haya_parts.specs.ListParts.{IsAt, IsLaidOutBut, IsSeen, ListDivides}
use Rattle.haya_parts.specs.declared.list_parts.ListParts.{ListParts}
use Rattle.haya_parts.specs.declared.list_parts.ListPlace.{ListPlace}
use Rattle.haya_parts.specs.declared.list_parts.ListPlace.TheVariants.{Front, Opened, Next, Closed}

-- ---- bytes that go on

passed_on : (b : Brackets) (bytes more : List ℕ) (len : ℕ) (mode : Mode) (depth : ℕ)
    → HasPassed b bytes len mode depth → HasPassed b (bytes ++ more) len mode depth
passed_on b bytes more len mode depth p =
    let within : len ≤ length bytes = p.within in
    let both = length-append bytes more in
    record {
      within = omega arith;
      leads = λ ys.
          ap (λ t. inside b Between 0 (t ++ ys)) (take-append-le len bytes more within) ∙ p.leads ys;
    }

pub seen_on : (b : Brackets) (bytes more : List ℕ) (search : Search) → HasSeen b bytes search
    → HasSeen b (bytes ++ more) search
seen_on b bytes more search s =
    let within : search.white ≤ length bytes = s.within in
    let both = length-append bytes more in
    let left = length-drop search.white bytes in
    record {
      within = omega arith;
      before = subst IsWhite (sym (take-append-le search.white bytes more within)) s.before;
      passed =
          subst (λ t. HasPassed b t search.len search.mode search.depth)
          (sym (drop-append-le search.white bytes more within))
          (passed_on b (drop search.white bytes) more search.len search.mode search.depth s.passed);
      begins = λ some.
          let short : search.len ≤ length (drop search.white bytes) = s.passed.within in
          let here : get_or (bytes ++ more) search.white 0 ≡ get_or bytes search.white 0 =
          get_or-append bytes more 0 search.white (omega arith) in
          ap (step b InNext) here ∙ s.begins some ∙ ap (step b (InElement Between 0)) (sym here);
    }

pub with_on : (b : Brackets) (bytes more element behind : List ℕ) (is_last : _)
    → BeginsWith b bytes element is_last behind
    → BeginsWith b (bytes ++ more) element is_last (behind ++ more)
with_on b bytes more element behind is_last w = record {
  first = w.first;
  is = ap (λ l. l ++ more) w.is ∙ append_assoc w.first (end_byte b is_last ∷ behind) more;
  padded = w.padded;
  element_is = w.element_is;
}

-- what is taken of what is held is taken of the text
pub taken_on : (taken held front behind more : List ℕ) → held ≡ front ++ behind
    → taken ++ (held ++ more) ≡ (taken ++ front) ++ (behind ++ more)
taken_on taken held front behind more split =
    ap (λ l. taken ++ (l ++ more)) split
    ∙ ap (λ l. taken ++ l) (append_assoc front behind more)
    ∙ sym (append_assoc taken front (behind ++ more))

-- ---- from place to place

module _ (b : Brackets) (text rest : List ℕ) where
  -- an element may begin
  pub may_begin : (place : ListPlace) (parts : List (List ℕ)) → (place ≡ Opened) ⊎ (place ≡ Next)
      → IsAt b place text parts rest → IsLaidOutBut b text parts rest
  may_begin place parts (inl opened) at =
      let here : IsAt b Opened text parts rest = subst (λ p. IsAt b p text parts rest) opened at in
      subst (λ ps. IsLaidOutBut b text ps rest) (sym here.0) (none_found b text rest here.1)
  may_begin place parts (inr next) at = subst (λ p. IsAt b p text parts rest) next at

  -- white space in front
  pub front_white : (parts : List (List ℕ)) (white behind : List ℕ) → IsAt b Front text parts rest
      → rest ≡ white ++ behind → IsWhite white → IsAt b Front text parts behind
  front_white parts white behind at split is = (
    at.0,
    (
      at.1.0 ++ white,
      at.1.1 ∙ ap (λ l. at.1.0 ++ l) split ∙ sym (append_assoc at.1.0 white behind),
      white-append at.1.0 white at.1.2 is,
    ),
  )

  -- the bracket that opens
  pub front_opens : (parts : List (List ℕ)) (behind : List ℕ) → IsAt b Front text parts rest
      → rest ≡ opening_bracket b ∷ behind → IsAt b Opened text parts behind
  front_opens parts behind at split =
      (at.0, record { front = at.1.0; is = at.1.1 ∙ ap (λ l. at.1.0 ++ l) split; before = at.1.2 })

  -- the bracket that closes, behind white space alone
  pub opened_closes : (parts : List (List ℕ)) (white behind : List ℕ)
      → IsAt b Opened text parts rest → rest ≡ white ++ closing_bracket b ∷ behind → IsWhite white
      → IsAt b Closed text parts behind
  opened_closes parts white behind at split is = λ behind_white.
      subst (IsLaidOut b text) (sym at.0)
      (no_elements b text rest behind at.1
      (record { front = white; is = split; before = is }) behind_white)

  -- white space behind
  pub closed_white : (parts : List (List ℕ)) (white behind : List ℕ)
      → IsAt b Closed text parts rest → rest ≡ white ++ behind → IsWhite white
      → IsAt b Closed text parts behind
  closed_white parts white behind at split is = λ behind_white.
      at (subst IsWhite (sym split) (white-append white behind is behind_white))

  -- an element and what is behind it
  pub element_next : (place : ListPlace) (parts : List (List ℕ)) (element behind : List ℕ)
      → (place ≡ Opened) ⊎ (place ≡ Next) → IsAt b place text parts rest
      → BeginsWith b rest element false behind
      → IsAt b Next text (parts ++ element ∷ []) behind
  element_next place parts element behind begun at w =
      one_found b text parts rest element behind (may_begin place parts begun at) w

  pub element_closes : (place : ListPlace) (parts : List (List ℕ)) (element behind : List ℕ)
      → (place ≡ Opened) ⊎ (place ≡ Next) → IsAt b place text parts rest
      → BeginsWith b rest element true behind
      → IsAt b Closed text (parts ++ element ∷ []) behind
  element_closes place parts element behind begun at w = λ behind_white.
      last_found b text parts rest element behind (may_begin place parts begun at) w behind_white

-- ---- what is taken of a list

-- the same text, of which a front is taken
pub at_moved : (b : Brackets) (place : ListPlace) (taken held front behind more : List ℕ)
    (parts : List (List ℕ)) → held ≡ front ++ behind
    → IsAt b place (taken ++ (held ++ more)) parts (behind ++ more)
    → IsAt b place ((taken ++ front) ++ (behind ++ more)) parts (behind ++ more)
at_moved b place taken held front behind more parts split at =
    subst (λ t. IsAt b place t parts (behind ++ more))
    (taken_on taken held front behind more split) at

-- where the bytes behind a front stand, there the text is divided
begins_moved : {B : Type 0} (b : Brackets) (d : ListParts B) (taken held front behind : List ℕ) (parts : List (List ℕ))
    → held ≡ front ++ behind
    → ((more : List ℕ) → IsAt b d.place (taken ++ (held ++ more)) parts (behind ++ more))
    → ((more : List ℕ) → IsSeen b d.place (behind ++ more) d.search)
    → Begins (ListDivides b) d (taken ++ front) parts behind
begins_moved b d taken held front behind parts split at seen more = record {
  at = at_moved b d.place taken held front behind more parts split (at more);
  seen = seen more;
}

-- none of the bytes are looked at
abbrev pub IsFresh : Search → Type 0
IsFresh search = (b : Brackets) (bytes : List ℕ) → HasSeen b bytes search

pub fresh_seen : (b : Brackets) (place : ListPlace) (rest : List ℕ) (search : Search)
    → IsFresh search → IsSeen b place rest search
fresh_seen b Front rest search fresh = tt
fresh_seen b Opened rest search fresh = fresh b rest
fresh_seen b Next rest search fresh = fresh b rest
fresh_seen b Closed rest search fresh = tt

-- the rest is looked at where an element may begin
pub seen_at : (b : Brackets) (place : ListPlace) (rest : List ℕ) (search : Search)
    → (place ≡ Opened) ⊎ (place ≡ Next) → IsSeen b place rest search → HasSeen b rest search
seen_at b Front rest search (inl e) s = absurd (cc)
seen_at b Front rest search (inr e) s = absurd (cc)
seen_at b Opened rest search e s = s
seen_at b Next rest search e s = s
seen_at b Closed rest search (inl e) s = absurd (cc)
seen_at b Closed rest search (inr e) s = absurd (cc)

pub at_seen : (b : Brackets) (place : ListPlace) (rest : List ℕ) (search : Search)
    → HasSeen b rest search → IsSeen b place rest search
at_seen b Front rest search s = tt
at_seen b Opened rest search s = s
at_seen b Next rest search s = s
at_seen b Closed rest search s = tt

suc_is : (n : ℕ) → suc n ≡ n + 1
suc_is n = omega arith

cut_at : (bytes : List ℕ) (at : ℕ) (x : ℕ) → at < length bytes → get_or bytes at 0 ≡ x
    → bytes ≡ take at bytes ++ x ∷ drop (at + 1) bytes
cut_at bytes at x within is =
    sym (take-append-drop at bytes)
    ∙ ap (λ l. take at bytes ++ l)
    (drop-cons bytes at 0 within ∙ ap (λ y. y ∷ drop (suc at) bytes) is
    ∙ ap (λ k. x ∷ drop k bytes) (suc_is at))

-- the same of bytes behind which others come
cut_on : (bytes front behind more : List ℕ) → bytes ≡ front ++ behind
    → bytes ++ more ≡ front ++ (behind ++ more)
cut_on bytes front behind more is = ap (λ l. l ++ more) is ∙ append_assoc front behind more

module _ {B : Type 0} (b : Brackets) (d : ListParts B) (taken held : List ℕ) (parts : List (List ℕ))
    (begins : Begins (ListDivides b) d taken parts held) where
  -- the place is this one
  at_place : (place : ListPlace) → d.place ≡ place → (more : List ℕ)
      → IsAt b place (taken ++ (held ++ more)) parts (held ++ more)
  at_place place is more =
      subst (λ p. IsAt b p (taken ++ (held ++ more)) parts (held ++ more)) is (begins more).at

  -- white space is taken, in front of a list or behind it
  pub front_white_taken : (n : ℕ) → d.place ≡ Front → n ≤ length held → IsWhite (take n held)
      → Begins (ListDivides b) d (taken ++ take n held) parts (drop n held)
  front_white_taken n is within white =
      begins_moved b d taken held (take n held) (drop n held) parts (sym (take-append-drop n held))
      (λ more. subst (λ p. IsAt b p (taken ++ (held ++ more)) parts (drop n held ++ more))
      (sym is)
      (front_white b (taken ++ (held ++ more)) (held ++ more) parts (take n held)
      (drop n held ++ more) (at_place Front is more)
      (cut_on held (take n held) (drop n held) more (sym (take-append-drop n held))) white))
      (λ more. subst (λ p. IsSeen b p (drop n held ++ more) d.search) (sym is) tt)

  pub closed_white_taken : (n : ℕ) → d.place ≡ Closed → n ≤ length held → IsWhite (take n held)
      → Begins (ListDivides b) d (taken ++ take n held) parts (drop n held)
  closed_white_taken n is within white =
      begins_moved b d taken held (take n held) (drop n held) parts (sym (take-append-drop n held))
      (λ more. subst (λ p. IsAt b p (taken ++ (held ++ more)) parts (drop n held ++ more))
      (sym is)
      (closed_white b (taken ++ (held ++ more)) (held ++ more) parts (take n held)
      (drop n held ++ more) (at_place Closed is more)
      (cut_on held (take n held) (drop n held) more (sym (take-append-drop n held))) white))
      (λ more. subst (λ p. IsSeen b p (drop n held ++ more) d.search) (sym is) tt)

  -- the bracket that opens is
  pub opening_taken : (search : Search) → IsFresh search → d.place ≡ Front → 0 < length held
      → get_or held 0 0 ≡ opening_bracket b
      → Begins (ListDivides b) (record { place = Opened; search = search; kind = d.kind })
      (taken ++ take 1 held) parts (drop 1 held)
  opening_taken search fresh is some opens =
      begins_moved b (record { place = Opened; search = search; kind = d.kind }) taken held
      (take 1 held) (drop 1 held) parts (sym (take-append-drop 1 held))
      (λ more. front_opens b (taken ++ (held ++ more)) (held ++ more) parts
      (drop 1 held ++ more) (at_place Front is more)
      (cut_on held (opening_bracket b ∷ []) (drop 1 held) more
      (cut_at held 0 (opening_bracket b) some opens)))
      (λ more. fresh b (drop 1 held ++ more))

  -- the bracket that closes an empty list is
  pub closing_taken : (search : Search) (at : ℕ) → d.place ≡ Opened → at < length held
      → IsWhite (take at held) → get_or held at 0 ≡ closing_bracket b
      → Begins (ListDivides b) (record { place = Closed; search = search; kind = d.kind })
      (taken ++ take (at + 1) held) parts (drop (at + 1) held)
  closing_taken search at is within white closes =
      begins_moved b (record { place = Closed; search = search; kind = d.kind }) taken held
      (take (at + 1) held) (drop (at + 1) held) parts (sym (take-append-drop (at + 1) held))
      (λ more. opened_closes b (taken ++ (held ++ more)) (held ++ more) parts (take at held)
      (drop (at + 1) held ++ more) (at_place Opened is more)
      (cut_on held (take at held) (closing_bracket b ∷ drop (at + 1) held) more
      (cut_at held at (closing_bracket b) within closes)) white)
      (λ more. tt)

  -- an element is, and what is behind it
  module _ (search : Search) (fresh : IsFresh search) (element behind : List ℕ)
      (may : (d.place ≡ Opened) ⊎ (d.place ≡ Next)) where
    abbrev pub next_place : Bool → ListPlace
    next_place is_last = cond is_last Closed Next

    element_at : (is_last : Bool) → BeginsWith b held element is_last behind
        → (more : List ℕ)
        → IsAt b (next_place is_last) (taken ++ (held ++ more)) (parts ++ element ∷ [])
        (behind ++ more)
    element_at true w more =
        element_closes b (taken ++ (held ++ more)) (held ++ more) d.place parts element
        (behind ++ more) may (begins more).at (with_on b held more element behind true w)
    element_at false w more =
        element_next b (taken ++ (held ++ more)) (held ++ more) d.place parts element
        (behind ++ more) may (begins more).at (with_on b held more element behind false w)

    pub element_taken : (is_last : Bool) (place : ListPlace) (n : ℕ)
        → BeginsWith b held element is_last behind → place ≡ next_place is_last
        → n ≡ length held - length behind
        → Begins (ListDivides b) (record { place = place; search = search; kind = d.kind })
        (taken ++ take n held) (parts ++ element ∷ []) (drop n held)
    element_taken is_last place n w is count =
        let back : drop n held ≡ behind =
        ap (λ k. drop k held) count
        ∙ rest_left held (w.first ++ end_byte b is_last ∷ []) behind (length behind)
        (w.is ∙ sym (append_assoc w.first (end_byte b is_last ∷ []) behind)) refl in
        begins_moved b (record { place = place; search = search; kind = d.kind }) taken held
        (take n held) (drop n held) (parts ++ element ∷ []) (sym (take-append-drop n held))
        (λ more. subst (λ p. IsAt b p (taken ++ (held ++ more)) (parts ++ element ∷ [])
        (drop n held ++ more)) (sym is)
        (subst (λ t. IsAt b (next_place is_last) (taken ++ (held ++ more))
        (parts ++ element ∷ []) (t ++ more)) (sym back) (element_at is_last w more)))
        (λ more. fresh_seen b place (drop n held ++ more) search fresh)

  -- more of it is looked at
  pub looked_on : (search : Search) → HasSeen b held search
      → Begins (ListDivides b) (record { place = d.place; search = search; kind = d.kind }) taken
      parts held
  looked_on search seen more = record {
    at = (begins more).at;
    seen = at_seen b d.place (held ++ more) search (seen_on b held more search seen);
  }

  -- none of it is
  pub looked_anew : (search : Search) → IsFresh search
      → Begins (ListDivides b) (record { place = d.place; search = search; kind = d.kind }) taken
      parts held
  looked_anew search fresh more = record {
    at = (begins more).at;
    seen = fresh_seen b d.place (held ++ more) search fresh;
  }

  -- what is held has been looked at so far
  pub held_seen : (d.place ≡ Opened) ⊎ (d.place ≡ Next) → HasSeen b held d.search
  held_seen may =
      subst (λ t. HasSeen b t d.search) (append-nil held)
      (seen_at b d.place (held ++ []) d.search may (begins []).seen)

  -- nothing but white space is left
  pub list_ended : d.place ≡ Closed → IsWhite held → IsLaidOut b (taken ++ held) parts
  list_ended is white =
      subst (λ t. IsLaidOut b (taken ++ t) parts) (append-nil held)
      (at_place Closed is [] (subst IsWhite (sym (append-nil held)) white))
