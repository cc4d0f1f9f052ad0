-- What parts that are answered say of an input.
use Rattle.std.proofs.Common.{◌≡◌, ◌⊎◌, inl, inr, ℕ, ◌==◌, false, cond, List, [], ◌∷◌, ◌++◌, ◌+◌, Option, length, refl, zero-add, sym, ap, ◌∙◌, subst, arith}
use Rattle.std.specs.Prelude.{not}
use Rattle.std.specs.List.{AllByRecursion}
use Rattle.std.proofs.lemmas.Bool.Decides.{nat_tests}
use Rattle.std.proofs.lemmas.List.Elements.{filter-append}
use Rattle.haya_json_elements.specs.Elements.{nonempty_lines}
use Rattle.haya_json_elements.specs.declared.place.Brackets.{Brackets}
use Rattle.haya_json.proofs.NotesKept.{kept_from_none}
use Rattle.haya_json.specs.Notes.{all_kept, kept_of, none_kept, notes_view}
use Rattle.haya_parts.specs.Answered.{AnswersAll, AnswersEnough, AnswersPart as Stopped, AnswersUnwritten, IsWriteFault, Replies, Why as PartWhy, parts_of as reply_parts, printed_of}
use Rattle.haya_parts.specs.Divided.{Begins, IsRefused}
use Rattle.std.specs.Str.Lines.{lines}
use Rattle.haya_line_slices.proofs.PlainLines.{none-in-front}
use Rattle.haya_line_slices.specs.Coming.{AreLineParts}
use Rattle.haya_line_slices.specs.EntryLines.{AreEntryParts, IsEntryPart}
use Rattle.haya_slices.specs.Layout.{IsElement, IsLaidOut}
use Rattle.haya_source.specs.Elements.{Element, IsDivided, SayEntries, parts_of}
use Rattle.haya_source.specs.declared.kind.ElementKind.TheVariants as element
use Rattle.haya_source_stream.specs.Asked.{AnswersTurn, AsksFirst, AsksPart, AsksSource, AsksUnwritten, AsksUpTo, IsKept, RefusesTurn, Why}
use Rattle.haya_source_stream.specs.Kinds.{element_kind}
use Rattle.haya_source_stream.specs.Parts.{AreParts, BeginParts, IsPartError, IsRefusedPart, counted, parts_told}
use Rattle.haya_source_stream.specs.declared.asker.SourceAsker.{SourceAsker}
use Rattle.haya_source_stream.specs.declared.asking.Asking.{Asking}
use Rattle.haya_source_stream.specs.declared.error.PartError.{PartError}
use Rattle.haya_source_stream.specs.declared.kind.StreamedKind.{StreamedKind}
use Rattle.haya_source_stream.specs.declared.kind.StreamedKind.TheVariants.{Items, JsonLines, Lines, Members}
use Rattle.haya_line_stream.specs.declared.error.StreamError.{StreamError}
use Rattle.haya_line_stream.specs.declared.error.StreamError.TheVariants.{CannotRead, CannotWrite, NotText, OutOfMemory, Refused}
use Rattle.haya_source_stream.proofs.Turns.{Ran, is_done, ran}

-- ---- elements among the parts

-- no entry in lines is empty
filled_entries : (parts : List (List ℕ)) → AllByRecursion IsEntryPart parts → nonempty_lines parts ≡ parts
filled_entries [] h = refl
filled_entries ([] ∷ ps) h = absurd (let clash = h.0.is in cc)
filled_entries ((x ∷ p) ∷ ps) h =
    let some : (length (x ∷ p) == 0) ≡ false = grind (arith, nat_tests) in
    ap (λ c. cond (not c) ((x ∷ p) ∷ nonempty_lines ps) (nonempty_lines ps)) some
    ∙ ap (λ l. (x ∷ p) ∷ l) (filled_entries ps h.1)

-- the entries of a text in lines are all that its parts say
entries_divided : (text : List ℕ) (parts : List (List ℕ)) (es : List Element) → AreLineParts text parts
    → parts_of es ≡ nonempty_lines parts → SayEntries element.Lines es → AreEntryParts text (parts_of es)
entries_divided text parts es are is each =
    let front = lines are.are.front in
    let split : parts_of es ≡ nonempty_lines front ++ are.entries =
    is ∙ ap nonempty_lines are.all ∙ filter-append (λ line. not (length line == 0)) front are.entries
    ∙ ap (λ l. nonempty_lines front ++ l) (filled_entries are.entries are.are.each) in
    let none = none-in-front are.are.front are.are.before es are.entries split each in
    subst (AreEntryParts text) (sym (split ∙ ap (λ l. l ++ are.entries) none)) are.are

-- no element is empty
filled : (b : Brackets) (parts : List (List ℕ)) → AllByRecursion (IsElement b) parts
    → nonempty_lines parts ≡ parts
filled b [] h = refl
filled b ([] ∷ ps) h = absurd (let clash = h.0.closed in cc)
filled b ((x ∷ p) ∷ ps) h =
    let some : (length (x ∷ p) == 0) ≡ false = grind (arith, nat_tests) in
    ap (λ c. cond (not c) ((x ∷ p) ∷ nonempty_lines ps) (nonempty_lines ps)) some
    ∙ ap (λ l. (x ∷ p) ∷ l) (filled b ps h.1)

divided : (kind : StreamedKind) (text : List ℕ) (parts : List (List ℕ)) (es : List Element)
    → AreParts kind text parts → parts_of es ≡ nonempty_lines parts
    → SayEntries (element_kind kind) es → IsDivided (element_kind kind) text (parts_of es)
divided (Items by) text parts es are is each =
    subst (IsLaidOut _ text) (sym (is ∙ filled _ parts are.elements)) are
divided Members text parts es are is each =
    subst (IsLaidOut _ text) (sym (is ∙ filled _ parts are.elements)) are
divided JsonLines text parts es are is each = is ∙ ap nonempty_lines are
divided Lines text parts es are is each = entries_divided text parts es are is each

-- ---- an input

module _ {D : Type 0} (divides : D → List ℕ → List (List ℕ) → List ℕ → Type 0)
    (are_parts : D → List ℕ → List (List ℕ) → Type 0) (s : SourceAsker)
    (begin : (d : D) (taken held : List ℕ) (parts : List (List ℕ))
    → Begins divides d taken parts held → BeginParts s.asking.kind taken parts held)
    (refused : (d : D) (held part : List ℕ) → IsRefused divides are_parts d held part
    → IsRefusedPart s.asking.kind held part)
    (number : s.number ≡ 0) (fresh : notes_view s.notes ≡ none_kept) where
  -- what is told of the elements of parts
  told : (t : SourceAsker) (replies : Replies) (r : Ran s t replies)
      → notes_view t.notes ≡ kept_of (parts_told s.asking.kind (parts_of r.es))
  told t replies r =
      r.notes ∙ ap (all_kept (parts_told s.asking.kind (parts_of r.es))) fresh
      ∙ kept_from_none (parts_told s.asking.kind (parts_of r.es))

  module _ (unread left before after : Option (List ℕ)) where
    module _ (d : D) (whole : (text : List ℕ) (parts : List (List ℕ)) → are_parts d text parts
        → AreParts s.asking.kind text parts) where
      pub all_asked : (t : SourceAsker)
          → AnswersAll (are_parts d) AnswersTurn is_done s t unread left before after
          → AsksSource s.asking s.hits t unread left before after
      all_asked t a =
          let r = ran a.replies s t a.run in
          record {
            text = a.text;
            es = r.es;
            printed = printed_of a.replies;
            read = a.read;
            at_end = a.at_end;
            are = record {
              divided = divided s.asking.kind a.text (reply_parts a.replies) r.es
                  (whole a.text (reply_parts a.replies) a.are) r.are r.each;
              each = r.each;
            };
            asks = r.asks;
            notes = told t a.replies r;
            same = r.same;
            prints = a.prints;
          }

      pub unwritten_asked :
          AnswersUnwritten (are_parts d) AnswersTurn is_done s unread left before after
          → AsksUnwritten s.asking s.hits unread left before after
      unwritten_asked a =
          let r = ran a.replies s a.last a.run in
          record {
            text = a.text;
            es = r.es;
            count = a.last.hits;
            written = a.written;
            unwritten = a.unwritten;
            read = a.read;
            at_end = a.at_end;
            are = record {
              divided = divided s.asking.kind a.text (reply_parts a.replies) r.es
                  (whole a.text (reply_parts a.replies) a.are) r.are r.each;
              each = r.each;
            };
            asks = rw a.parts at r.asks;
            prints = a.prints;
          }

    pub first_asked : (d : D) (t : SourceAsker)
        → AnswersEnough divides AnswersTurn is_done d s t unread left before after
        → AsksFirst s.asking s.hits t unread left before after
    first_asked d t a =
        let f = a.first in
        let r = ran f.replies s t f.run in
        record {
          text = f.taken ++ a.held;
          es = r.es;
          held = a.held;
          printed = a.printed;
          read = f.read;
          begin = record {
            taken = f.taken;
            parts = reply_parts f.replies;
            is = refl;
            begin = begin d f.taken a.held (reply_parts f.replies) f.begins;
            are = r.are;
            each = r.each;
          };
          asks = rw (← f.prints) at r.asks;
          enough = a.enough;
          notes = told t f.replies r;
          same = r.same;
          prints = a.prints;
        }

    module _ (last t : SourceAsker) (replies : Replies) (r : Ran s last replies) (d : D)
        (held : List ℕ) where
      why : (fault : StreamError PartError)
          → PartWhy divides are_parts RefusesTurn d held last t fault
          → Why s.asking.kind (counted s.asking.kind (reply_parts replies)) held fault
      why (CannotRead e) w = tt
      why (CannotWrite e) w = tt
      why NotText w = (w.0, refused d held w.0 w.1, w.2)
      why (Refused e) w =
          let behind : last.number ≡ counted s.asking.kind (reply_parts replies) =
          r.number_is ∙ ap (λ n. n + counted s.asking.kind (reply_parts replies)) number
          ∙ zero-add (counted s.asking.kind (reply_parts replies)) in (
            w.0,
            refused d held w.0 w.1,
            subst (λ n. IsPartError s.asking.kind n w.0 e) behind
                (subst (λ x. IsPartError x.kind last.number w.0 e) r.same w.2.0),
          )
      why OutOfMemory w = tt

      kept : (fault : StreamError PartError)
          → PartWhy divides are_parts RefusesTurn d held last t fault
          → IsKept s.asking.kind (parts_of r.es) (notes_view t.notes) fault
      kept (CannotRead e) w = ap (λ x. notes_view x.notes) w ∙ told last replies r
      kept (CannotWrite e) w = tt
      kept NotText w = ap (λ x. notes_view x.notes) w.3 ∙ told last replies r
      kept (Refused e) w = elim w.2.1 [
        | inl none ↦ inl none
        | inr same ↦ inr (same ∙ told last replies r)
      ]
      kept OutOfMemory w = tt

    pub part_asked : (t : SourceAsker) (fault : StreamError PartError)
        → Stopped divides are_parts AnswersTurn RefusesTurn is_done s t unread left before after fault
        → AsksUpTo s.asking s.hits t unread left before after fault
    part_asked t fault a =
        let f = a.first in
        let r = ran f.replies s a.last f.run in
        record {
          text = f.taken ++ a.held;
          es = r.es;
          held = a.held;
          count = a.last.hits;
          written = a.written;
          unwritten = a.unwritten;
          read = f.read;
          begin = record {
            taken = f.taken;
            parts = reply_parts f.replies;
            is = refl;
            begin = begin a.divider f.taken a.held (reply_parts f.replies) f.begins;
            are = r.are;
            each = r.each;
          };
          asks = rw (← f.prints) at r.asks;
          why = why a.last t f.replies r a.divider a.held fault a.why;
          kept = kept a.last t f.replies r a.divider a.held fault a.why;
          all_written = a.all_written;
          prints = a.prints;
        }

-- ---- the same where the asker has begun with an input

module _ {D : Type 0} (divides : D → List ℕ → List (List ℕ) → List ℕ → Type 0)
    (are_parts : D → List ℕ → List (List ℕ) → Type 0) (before_it s : SourceAsker)
    (asking : s.asking ≡ before_it.asking) (hits : s.hits ≡ before_it.hits)
    (begin : (d : D) (taken held : List ℕ) (parts : List (List ℕ))
    → Begins divides d taken parts held → BeginParts before_it.asking.kind taken parts held)
    (refused : (d : D) (held part : List ℕ) → IsRefused divides are_parts d held part
    → IsRefusedPart before_it.asking.kind held part)
    (number : s.number ≡ 0) (fresh : notes_view s.notes ≡ none_kept)
    (unread left before after : Option (List ℕ)) (d : D)
    (whole : (text : List ℕ) (parts : List (List ℕ)) → are_parts d text parts
    → AreParts before_it.asking.kind text parts) where
  begin_now : (e : D) (taken held : List ℕ) (parts : List (List ℕ))
      → Begins divides e taken parts held → BeginParts s.asking.kind taken parts held
  begin_now e taken held parts b =
      subst (λ a. BeginParts a.kind taken parts held) (sym asking) (begin e taken held parts b)

  refused_now : (e : D) (held part : List ℕ) → IsRefused divides are_parts e held part
      → IsRefusedPart s.asking.kind held part
  refused_now e held part r =
      subst (λ a. IsRefusedPart a.kind held part) (sym asking) (refused e held part r)

  whole_now : (text : List ℕ) (parts : List (List ℕ)) → are_parts d text parts
      → AreParts s.asking.kind text parts
  whole_now text parts a = subst (λ x. AreParts x.kind text parts) (sym asking) (whole text parts a)

  -- what holds of what is asked holds of what was
  as_before : (P : Asking → ℕ → Type 0) → P s.asking s.hits → P before_it.asking before_it.hits
  as_before P p =
      subst (λ n. P before_it.asking n) hits (subst (λ a. P a s.hits) asking p)

  pub asked_of : (e : D) (t : SourceAsker)
      → AnswersAll (are_parts d) AnswersTurn is_done s t unread left before after
      ⊎ AnswersEnough divides AnswersTurn is_done e s t unread left before after
      → AsksSource before_it.asking before_it.hits t unread left before after
      ⊎ AsksFirst before_it.asking before_it.hits t unread left before after
  asked_of e t (inl a) =
      inl (as_before (λ x n. AsksSource x n t unread left before after)
      (all_asked divides are_parts s begin_now refused_now number fresh unread left before after d
      whole_now t a))
  asked_of e t (inr a) =
      inr (as_before (λ x n. AsksFirst x n t unread left before after)
      (first_asked divides are_parts s begin_now refused_now number fresh unread left before after e t a))

  pub part_of : (t : SourceAsker) (fault : StreamError PartError)
      → Stopped divides are_parts AnswersTurn RefusesTurn is_done s t unread left before after fault
      ⊎ (IsWriteFault fault
      × AnswersUnwritten (are_parts d) AnswersTurn is_done s unread left before after)
      → AsksPart before_it.asking before_it.hits t unread left before after fault
  part_of t fault (inl a) =
      inl (as_before (λ x n. AsksUpTo x n t unread left before after fault)
      (part_asked divides are_parts s begin_now refused_now number fresh unread left before after t
      fault a))
  part_of t fault (inr a) =
      inr (
        a.0,
        as_before (λ x n. AsksUnwritten x n unread left before after)
            (unwritten_asked divides are_parts s begin_now refused_now number fresh unread left before after
            d whole_now a.1),
      )
