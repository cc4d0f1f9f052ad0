-- Entries that are asked in turn are those of a library.
use Rattle.std.proofs.Common.{◌≡◌, ◌≢◌, IsTrue, ℕ, ◌+◌, ◌<◌, Bool, false, List, [], ◌∷◌, ◌++◌, Option, None, Some, length, refl, sym, ap, ◌∙◌, subst, append_assoc, append-nil, arith, true≢false}
use Rattle.std.specs.Prelude.{◌↔◌, All, map, string_bytes}
use Rattle.std.specs.List.{FoldsTo}
use Rattle.std.specs.Str.{bytes_eq, chars}
use Rattle.std.proofs.lemmas.Bool.{or_parts}
use Rattle.std.proofs.lemmas.List.Elements.{All-cons, All-nil}
use Rattle.std.proofs.lemmas.List.Kept.{AllPairs-cons}
use Rattle.std.proofs.lemmas.Slice.Eq.{bytes_eq-Decides}
use Rattle.json.specs.Json.{array, document}
use Rattle.haya_csl.specs.Taken.{TakesList}
use Rattle.haya_csl.specs.Told as csl
use Rattle.haya_csl.specs.Told.{TellsAsCsl}
use Rattle.haya_csl.specs.declared.item_key.ItemKey.{ItemKey}
use Rattle.haya_entry_stream.specs.Listed.{Replies, Run, entries_of, printed_of}
use Rattle.haya_formats.specs.declared.format.Format.TheVariants.{CslJson}
use Rattle.haya_json.proofs.NotesKept.{none_of_first}
use Rattle.haya_json.specs.Notes.{NotesView, first_note, kept_of, none_kept}
use Rattle.hayagriva.specs.Library.{AreDistinct, key_of}
use Rattle.hayagriva.specs.Reading.{TextReads}
use Rattle.hayagriva.specs.Syntax.{Syntax}
use Rattle.hayagriva.specs.Tree.{Tree}
use Rattle.haya_command.specs.Answer.{IsAnswer}
use Rattle.haya_command.specs.AskedLines.{IsListIn}
use Rattle.haya_command.specs.InTurn.{AnswersTexts, AsksNew, was_seen}
use Rattle.haya_command.specs.Picks.{wanted}
use Rattle.haya_command.specs.Reading.{IsWhole, format_in}
use Rattle.haya_command.specs.Streamable.{is_streamable}
use Rattle.haya_command.specs.Streamed.{AreCounted, IsWithin, end_text, passing, start_text}
use Rattle.haya_command.specs.declared.in_turn.Turns.{Turns}
use Rattle.haya_command.specs.declared.options.Options.{Options}
use Rattle.haya_command.proofs.OneList.{one_list_read}
use Rattle.haya_command.proofs.Streams.{Asks, all_answered, counted, done}

abbrev options_of : Turns → Options
options_of s = s.asker.options.now

abbrev selector_of : Turns → Syntax
selector_of s = s.asker.selector

abbrev hits_of : Turns → ℕ
hits_of s = s.asker.hits

-- ---- entries

-- entries that are asked one after another are answered, and no key comes twice, or was seen before
record AreAskedInTurn (s t : Turns) (entries : List Tree) : Type 0 where
  replies : Replies
  of_entries : entries_of replies ≡ entries
  run : Run (Asks options_of selector_of hits_of) (done options_of selector_of hits_of) s replies t
  printed : string_bytes t.printed ≡ string_bytes s.printed ++ printed_of replies
  distinct : AreDistinct entries
  unseen : All (λ key. was_seen s.seen key ≡ false) (map key_of entries)

another_key : (a b : List ℕ) → bytes_eq a b ≡ false → a ≢ b
another_key a b differ same = true≢false (sym ((bytes_eq-Decides a b).1 same) ∙ differ)

asked_in_turn : (entries : List Tree) (s t : Turns) → FoldsTo AsksNew s entries t → AreAskedInTurn s t entries
asked_in_turn [] s t run = record {
  replies = [];
  of_entries = refl;
  run = run;
  printed = rw (← run) (sym (append-nil (string_bytes s.printed)));
  distinct = λ i j d low high. let never : ⊥ = omega arith in absurd never;
  unseen = All-nil (λ key. was_seen s.seen key ≡ false);
}
asked_in_turn (e ∷ es) s t run =
    let u = run.0 in
    let one : AsksNew s e u = run.1 in
    let rest = asked_in_turn es u t run.2 in
    let others : (i : ℕ) (d : List ℕ) → i < length (map key_of es) → _ = λ i d h. or_parts _ _ (sym (one.seen _) ∙ rest.unseen i d h) in
    record {
      replies = (e, one.printed) ∷ rest.replies;
      of_entries = ap (λ l. e ∷ l) rest.of_entries;
      run = (u, (one.wanted, one.asks), rest.run);
      printed = rest.printed ∙ ap (λ l. l ++ printed_of rest.replies) one.behind ∙ append_assoc (string_bytes s.printed) one.printed (printed_of rest.replies);
      distinct = AllPairs-cons (λ k l. k ≢ l) (key_of e) (map key_of es) (λ i d h. another_key _ _ (others i d h).0) rest.distinct;
      unseen = All-cons (λ key. was_seen s.seen key ≡ false) (key_of e) (map key_of es) one.new (λ i d h. (others i d h).1);
    }

-- ---- a text

none_within : (max : Option ℕ) → IsWithin max 0
none_within None = tt
none_within (Some most) = omega arith

-- of a list of distinct keys nothing is told where there is no first note
nothing_told : (by : ItemKey) (text : List ℕ) (js : _) (kept : NotesView) → document text ≡ Some (array js) → TellsAsCsl by text kept → first_note kept ≡ None → TellsAsCsl by text none_kept
nothing_told by text js kept parsed told none =
    let ns = csl.told by (array js) in
    let is : kept ≡ kept_of ns = rw parsed at told in
    let no : ns ≡ [] = none_of_first ns (ap first_note (sym is) ∙ none) in
    rw parsed (sym (ap kept_of no))

-- the same of equal options, selectors and entries
counted_as : (o p : Options) (q r : Syntax) (n m : ℕ) (xs ys : List Tree) (printed : List ℕ) → o ≡ p → q ≡ r → xs ≡ ys → AreCounted o q n m xs printed → AreCounted p r n m ys printed
counted_as o p q r n m xs ys printed same_options same_selector same_entries are =
    subst (λ x. AreCounted x r n m ys printed) same_options (subst (λ x. AreCounted o x n m ys printed) same_selector (subst (λ x. AreCounted o q n m x printed) same_entries are))

-- what was printed when all are asked
printed_as : (all last first more start : List ℕ) (o p q : Options) (n m : ℕ) → all ≡ last ++ end_text o n → last ≡ first ++ more → first ≡ start → o ≡ p → p ≡ q → n ≡ m → all ≡ (start ++ more) ++ end_text q m
printed_as all last first more start o p q n m ended behind begun same_last same_first same_count =
    ended ∙ ap (λ l. l ++ end_text o n) (behind ∙ ap (λ l. l ++ more) begun) ∙ ap (λ x. (start ++ more) ++ end_text x n) (same_last ∙ same_first) ∙ ap (λ k. (start ++ more) ++ end_text q k) same_count

module _ (options : Options) (text : List ℕ) (by : ItemKey) (format : format_in options text ≡ CslJson by) where
  pub answered_in_turn : (syntax : Syntax) (s t : Turns) (kept : NotesView) (printed : List ℕ) (found : Bool)
      → TextReads (chars (string_bytes options.selector)) syntax → selector_of s ≡ wanted options.invert syntax → options_of s ≡ options → IsTrue (is_streamable options) → hits_of s ≡ 0
      → string_bytes s.printed ≡ start_text options → TakesList AsksNew by text kept s t → (IsTrue options.strict → first_note kept ≡ None)
      → printed ≡ string_bytes t.printed ++ end_text (options_of t) (hits_of t) → (IsTrue found ↔ (0 < hits_of t)) → AnswersTexts options (text ∷ []) printed found
  answered_in_turn syntax s t kept printed found reads selector same streamable zero begun takes strict ended some =
      let entries = takes.entries in
      let a = asked_in_turn entries s t takes.run in
      let c = counted options_of selector_of hits_of a.replies s t s.asker.streams a.run in
      let are = counted_as (options_of s) options (selector_of s) (wanted options.invert syntax) (hits_of s) (hits_of t) (entries_of a.replies) entries (printed_of a.replies) same selector a.of_entries c.are in
      let max = options.questions.max in
      let count : hits_of t ≡ hits_of s + length (passing options are.hits) = are.count in
      let n : hits_of t ≡ length (passing options are.hits) = omega (arith, count, zero) in
      let within : IsWithin max (length (passing options are.hits)) = subst (IsWithin max) n (are.within (subst (IsWithin max) (sym zero) (none_within max))) in
      let answer = all_answered options syntax streamable reads entries are.hits (printed_of a.replies) found are.are within are.told (subst (λ k. IsTrue found ↔ (0 < k)) n some) in
      let all = printed_as printed (string_bytes t.printed) (string_bytes s.printed) (printed_of a.replies) (start_text options) (options_of t) (options_of s) options (hits_of t) (length (passing options are.hits)) ended
      a.printed begun c.same_options same n in
      let list : IsListIn (format_in options text) text entries = subst (λ f. IsListIn f text entries) (sym format) takes.list in
      let whole : IsTrue options.strict → IsWhole (format_in options text) text =
      λ is. subst (λ f. IsWhole f text) (sym format) (nothing_told by text takes.list.items kept takes.list.parsed (takes.told a.distinct) (strict is)) in
      record {
        library = entries;
        reads = one_list_read options text entries whole list a.distinct;
        answers = subst (λ l. IsAnswer options entries l found) (sym all) answer;
      }
