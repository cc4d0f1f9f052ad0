-- Where an entry ends in bytes of which more may come, and what is taken of a text there.
use Rattle.std.proofs.Common.{inr, ◌≡◌, ℕ, ◌+◌, ◌<◌, ◌≤◌, true, false, List, [], ◌∷◌, ◌++◌, Some, drop, length, length-append, take, refl, sym, ap, ◌∙◌, subst, append_assoc, append-nil, below_more, arith}
use Rattle.std.specs.Prelude.{flat_map, slice_index}
use Rattle.std.specs.List.{concat, last_or}
use Rattle.std.specs.Str.Lines.{lines, strip_carriage_return}
use Rattle.std.proofs.Math.Seq.{take-append_seam}
use Rattle.std.proofs.lemmas.List.{drop-append-le, get_or_append_left, take-append-drop, take-append-le, take_all, take_more}
use Rattle.haya_line_library.proofs.Parts.{lines-append}
use Rattle.haya_line_slices.specs.Coming.{AreLineParts, EntriesDivide, IsAt, IsBehind, IsFront, NeverBefore}
use Rattle.haya_line_slices.specs.EntryLines.{BeginNone, begins_entry}
use Rattle.haya_line_slices.specs.Scan.{EndsAt}
use Rattle.haya_line_slices.specs.declared.coming.EntryParts.{EntryParts}
use Rattle.haya_line_slices.specs.declared.coming.EntryPlace.TheVariants.{Entry, Front}
use Rattle.haya_line_slices.proofs.Ends.{drop-all, front-stays, last-behind, none-left, one-more}
use Rattle.haya_line_slices.proofs.Starts.{begins-line, begins-more, begins-none, begins-pres, first_of}
use Rattle.haya_line_stream.specs.Turns.{HasNoFeed}
use Rattle.haya_line_stream.proofs.Taken.{line_first}
use Rattle.haya_parts.specs.Divided.{Begins}
use Rattle.haya_parts.specs.LineParts.{IsLineEnd}
use Rattle.haya_parts.proofs.LineEnds.{held_line}

-- ---- bytes that go on

-- four bytes tell whether an entry begins
begins-told : (xs ys : List ℕ) → 4 ≤ length xs → begins_entry xs ≡ false → begins_entry (xs ++ ys) ≡ false
begins-told [] ys long none = absurd (omega (arith, long))
begins-told (a ∷ []) ys long none = absurd (omega (arith, long))
begins-told (a ∷ b ∷ []) ys long none = absurd (omega (arith, long))
begins-told (a ∷ b ∷ c ∷ []) ys long none = absurd (omega (arith, long))
begins-told (a ∷ b ∷ c ∷ d ∷ xs) ys long none =
    begins-pres (a ∷ b ∷ c ∷ d ∷ xs ++ ys) ∙ sym (begins-pres (a ∷ b ∷ c ∷ d ∷ xs)) ∙ none

-- a byte more
module _ (held : List ℕ) (at : ℕ) (within : at < length held) (never : NeverBefore held at) where
  none-here : ((more : List ℕ) → slice_index (held ++ more) at ≡ 10 → begins_entry (drop (at + 1) (held ++ more)) ≡ false)
      → NeverBefore held (at + 1)
  none-here here = λ more. below_more _ _ (never more) (here more)

  -- which is no line feed
  pub another-byte : (slice_index held at ≡ 10 → ⊥) → NeverBefore held (at + 1)
  another-byte other =
      none-here (λ more feed. absurd (other (sym (get_or_append_left held more 0 at within) ∙ feed)))

  -- or is one, and enough bytes are behind it
  pub none-told : begins_entry (drop (at + 1) held) ≡ false → 4 ≤ length (drop (at + 1) held)
      → NeverBefore held (at + 1)
  none-told none long =
      none-here
      (λ more feed.
      ap begins_entry (drop-append-le (at + 1) held more (omega arith))
      ∙ begins-told (drop (at + 1) held) more long none)

  -- or an entry begins behind it
  pub entry-ends : slice_index held at ≡ 10 → begins_entry (drop (at + 1) held) ≡ true → (more : List ℕ)
      → EndsAt (held ++ more) (at + 1)
  entry-ends feed begins more = record {
    within = omega (arith, length-append held more);
    some = λ some. omega arith;
    ends = inr (
      at,
      refl,
      get_or_append_left held more 0 at within ∙ feed,
      ap begins_entry (drop-append-le (at + 1) held more (omega arith))
          ∙ begins-more (drop (at + 1) held) more begins,
    );
    none = λ k before. never more k (omega (arith, before));
  }

-- an entry that begins has a byte
begins-long : (xs : List ℕ) → begins_entry xs ≡ true → 0 < length xs
begins-long [] h = absurd (cc (h))
begins-long (x ∷ xs) h = omega arith

-- ---- what is taken

carried : (d : EntryParts) (text text' : List ℕ) (parts parts' : List (List ℕ)) (rest rest' : List ℕ)
    → text ≡ text' → parts ≡ parts' → rest ≡ rest' → EntriesDivide d text parts rest
    → EntriesDivide d text' parts' rest'
carried d text text' parts parts' rest rest' t p r h =
    subst (λ x. EntriesDivide d x parts' rest') t
    (subst (λ x. EntriesDivide d text x rest') p (subst (EntriesDivide d text parts) r h))

moved : (taken held more : List ℕ) (n : ℕ)
    → taken ++ (held ++ more) ≡ (taken ++ take n held) ++ (drop n held ++ more)
moved taken held more n =
    ap (λ l. taken ++ (l ++ more)) (sym (take-append-drop n held))
    ∙ ap (λ l. taken ++ l) (append_assoc (take n held) (drop n held) more)
    ∙ sym (append_assoc taken (take n held) (drop n held ++ more))

no-feed-yet : (bytes : List ℕ) → HasNoFeed (take 0 bytes)
no-feed-yet bytes = λ k d within. absurd (omega arith)

both-none : (xs ys : List (List ℕ)) → BeginNone xs → BeginNone ys → BeginNone (xs ++ ys)
both-none [] ys h k = k
both-none (x ∷ xs) ys h k = (h.0, both-none xs ys h.1 k)

module _ (d : EntryParts) (taken held : List ℕ) (parts : List (List ℕ))
    (begins : Begins EntriesDivide d taken parts held) where
  pub looked-within : d.looked ≤ length held
  looked-within = subst (λ t. d.looked ≤ length t) (append-nil held) (begins []).within

  -- in front of the first entry
  module _ (place : d.place ≡ Front) where
    in-front : (more : List ℕ) → IsFront d.looked (taken ++ (held ++ more)) parts (held ++ more)
    in-front more =
        subst (λ p. IsAt p d.looked (taken ++ (held ++ more)) parts (held ++ more)) place (begins more).at

    held-front : IsFront d.looked (taken ++ held) parts held
    held-front = subst (λ t. IsFront d.looked (taken ++ t) parts t) (append-nil held) (in-front [])

    pub looked-none : HasNoFeed (take d.looked held)
    looked-none = held-front.none

    -- all that is held is looked at
    pub front-looked : HasNoFeed held
        → Begins EntriesDivide (record { place = Front; looked = length held }) taken parts held
    front-looked none more =
        let here = in-front more in
        record {
          at = record {
            front = here.front;
            is = here.is;
            whole = here.whole;
            before = here.before;
            all = here.all;
            none = subst HasNoFeed (sym (take-append_seam held more)) none;
          };
          within = omega (arith, length-append held more);
        }

    -- a line that is no entry is taken
    pub line-taken : begins_entry held ≡ false → (at : ℕ) → IsLineEnd held at
        → Begins EntriesDivide (record { place = Front; looked = 0 }) (taken ++ take (at + 1) held)
        (parts ++ strip_carriage_return (take at held) ∷ []) (drop (at + 1) held)
    line-taken other at end more =
        let here = in-front more in
        let piece = take at held in
        let line = strip_carriage_return piece in
        let n = at + 1 in
        let front = here.front ++ take n held in
        let piece_is : take n held ≡ piece ++ 10 ∷ [] =
        take_more held at 0 end.within ∙ ap (λ x. piece ++ x ∷ []) end.feed in
        let one : lines (take n held) ≡ line ∷ [] = ap lines piece_is ∙ line_first piece [] end.none in
        let all : lines front ≡ lines here.front ++ line ∷ [] =
        lines-append here.front (take n held) here.whole ∙ ap (λ l. lines here.front ++ l) one in
        let none : begins_entry line ≡ false =
        ap (λ l. begins_entry (first_of l)) (sym one) ∙ sym (begins-line (take n held))
        ∙ begins-none (take n held) (drop n held) (ap begins_entry (take-append-drop n held) ∙ other) in
        carried (record { place = Front; looked = 0 }) (taken ++ (held ++ more)) _ _ _ _ _
        (moved taken held more n) refl refl
        (record {
          at = record {
            front = front;
            is =
                here.is ∙ ap (λ l. here.front ++ (l ++ more)) (sym (take-append-drop n held))
                ∙ ap (λ l. here.front ++ l) (append_assoc (take n held) (drop n held) more)
                ∙ sym (append_assoc here.front (take n held) (drop n held ++ more));
            whole =
                ap (λ l. last_or (Some 10) l)
                (ap (λ l. here.front ++ l) piece_is ∙ sym (append_assoc here.front piece (10 ∷ [])))
                ∙ last-behind (here.front ++ piece) 10 (Some 10);
            before = subst BeginNone (sym all) (both-none (lines here.front) (line ∷ []) here.before (none, tt));
            all = ap (λ l. l ++ line ∷ []) here.all ∙ sym all;
            none = no-feed-yet (drop n held ++ more);
          };
          within = omega arith;
        })

    -- the first entry begins
    pub first-begins : begins_entry held ≡ true
        → Begins EntriesDivide (record { place = Entry; looked = 0 }) taken parts held
    first-begins starts more =
        let here = in-front more in
        let there = begins-more held more starts in
        record {
          at = record {
            entries = [];
            parted = record {
              front = here.front;
              is = here.is;
              whole = ap lines here.is ∙ lines-append here.front (held ++ more) here.whole;
              before = here.before;
              each = tt;
              next = inr there;
            };
            all = here.all ∙ sym (append-nil (lines here.front));
            begins = there;
            none = λ k before. absurd (omega (arith, before));
          };
          within = omega arith;
        }

    -- the text ends
    pub front-ended : length held ≡ 0 → AreLineParts (taken ++ held) parts
    front-ended none =
        let here = held-front in
        let empty : held ≡ [] = none-left held none in
        record {
          entries = [];
          are = record {
            front = here.front;
            is = here.is ∙ ap (λ l. here.front ++ l) empty;
            whole = ap lines (here.is ∙ ap (λ l. here.front ++ l) empty ∙ append-nil here.front) ∙ sym (append-nil (lines here.front));
            before = here.before;
            each = tt;
          };
          all = here.all ∙ sym (append-nil (lines here.front));
        }

    pub line-ended : begins_entry held ≡ false → HasNoFeed held → 0 < length held
        → AreLineParts (taken ++ held) (parts ++ held ∷ [])
    line-ended other none some =
        let here = held-front in
        let one = held_line held none some in
        let front = here.front ++ held in
        let all : lines front ≡ lines here.front ++ held ∷ [] =
        lines-append here.front held here.whole ∙ ap (λ l. lines here.front ++ l) one in
        record {
          entries = [];
          are = record {
            front = front;
            is = here.is ∙ sym (append-nil front);
            whole = ap lines here.is ∙ sym (append-nil (lines front));
            before = subst BeginNone (sym all) (both-none (lines here.front) (held ∷ []) here.before (other, tt));
            each = tt;
          };
          all = ap (λ l. l ++ held ∷ []) here.all ∙ sym all ∙ sym (append-nil (lines front));
        }

  -- at an entry
  module _ (place : d.place ≡ Entry) where
    behind : (more : List ℕ) → IsBehind d.looked (taken ++ (held ++ more)) parts (held ++ more)
    behind more =
        subst (λ p. IsAt p d.looked (taken ++ (held ++ more)) parts (held ++ more)) place (begins more).at

    pub looked-never : NeverBefore held d.looked
    looked-never = λ more. (behind more).none

    -- more of what is held is looked at
    pub entry-looked : (looked : ℕ) → looked ≤ length held → NeverBefore held looked
        → Begins EntriesDivide (record { place = Entry; looked = looked }) taken parts held
    entry-looked looked within never more =
        let here = behind more in
        record {
          at = record {
            entries = here.entries;
            parted = here.parted;
            all = here.all;
            begins = here.begins;
            none = never more;
          };
          within = omega (arith, within, length-append held more);
        }

    -- an entry is taken
    pub entry-taken : (at : ℕ) → at < length held → slice_index held at ≡ 10
        → begins_entry (drop (at + 1) held) ≡ true → NeverBefore held at
        → Begins EntriesDivide (record { place = Entry; looked = 0 }) (taken ++ take (at + 1) held)
        (parts ++ take (at + 1) held ∷ []) (drop (at + 1) held)
    entry-taken at within feed next never more =
        let here = behind more in
        let n = at + 1 in
        let rest = held ++ more in
        let text = taken ++ rest in
        let long : 0 < length rest = omega (arith, within, length-append held more) in
        let ends = entry-ends held at within never feed next more in
        let parted = one-more text here.entries rest n here.parted long ends in
        let part : take n rest ≡ take n held = take-append-le n held more (omega arith) in
        let left : drop n rest ≡ drop n held ++ more = drop-append-le n held more (omega arith) in
        carried (record { place = Entry; looked = 0 }) text _ _ _ _ _ (moved taken held more n)
        (ap (λ p. parts ++ p ∷ []) part) left
        (record {
          at = record {
            entries = here.entries ++ take n rest ∷ [];
            parted = parted;
            all =
                ap (λ l. l ++ take n rest ∷ []) here.all
                ∙ append_assoc (lines here.parted.front) here.entries (take n rest ∷ [])
                ∙ ap (λ f. lines f ++ (here.entries ++ take n rest ∷ []))
                (sym (front-stays text here.entries rest n here.parted long ends));
            begins = ap begins_entry left ∙ begins-more (drop n held) more next;
            none = λ k before. absurd (omega (arith, before));
          };
          within = omega arith;
        })

    -- the text ends with it
    pub entry-ended : EndsAt held (length held) → AreLineParts (taken ++ held) (parts ++ held ∷ [])
    entry-ended ends =
        let here : IsBehind d.looked (taken ++ held) parts held =
        subst (λ t. IsBehind d.looked (taken ++ t) parts t) (append-nil held) (behind []) in
        let text = taken ++ held in
        let n = length held in
        let long = begins-long held here.begins in
        let parted = one-more text here.entries held n here.parted long ends in
        let all_of : take n held ≡ held = take_all n held (omega arith) in
        let none : drop n held ≡ [] = drop-all held in
        let entries = here.entries ++ take n held ∷ [] in
        subst (λ p. AreLineParts text (parts ++ p ∷ [])) all_of
        (record {
          entries = entries;
          are = record {
            front = parted.front;
            is =
                parted.is
                ∙ ap (λ l. parted.front ++ l) (ap (λ l. concat entries ++ l) none ∙ append-nil (concat entries));
            whole =
                parted.whole
                ∙ ap (λ l. lines parted.front ++ l)
                (ap (λ r. flat_map lines entries ++ lines r) none ∙ append-nil (flat_map lines entries));
            before = parted.before;
            each = parted.each;
          };
          all =
              ap (λ l. l ++ take n held ∷ []) here.all
              ∙ append_assoc (lines here.parted.front) here.entries (take n held ∷ [])
              ∙ ap (λ f. lines f ++ entries)
              (sym (front-stays text here.entries held n here.parted long ends));
        })

-- ---- a state at its place

module _ (e : EntryParts) (looked : ℕ) (taken : List ℕ) (parts : List (List ℕ)) (held : List ℕ)
    (is : e.looked ≡ looked) where
  pub placed-front : e.place ≡ Front
      → Begins EntriesDivide (record { place = Front; looked = looked }) taken parts held
      → Begins EntriesDivide e taken parts held
  placed-front place begins more =
      let text = taken ++ (held ++ more) in
      let rest = held ++ more in
      let h = begins more in
      record {
        at = subst (λ p. IsAt p e.looked text parts rest) (sym place)
            (subst (λ n. IsFront n text parts rest) (sym is) h.at);
        within = subst (λ n. n ≤ length rest) (sym is) h.within;
      }

  pub placed-entry : e.place ≡ Entry
      → Begins EntriesDivide (record { place = Entry; looked = looked }) taken parts held
      → Begins EntriesDivide e taken parts held
  placed-entry place begins more =
      let text = taken ++ (held ++ more) in
      let rest = held ++ more in
      let h = begins more in
      record {
        at = subst (λ p. IsAt p e.looked text parts rest) (sym place)
            (subst (λ n. IsBehind n text parts rest) (sym is) h.at);
        within = subst (λ n. n ≤ length rest) (sym is) h.within;
      }
