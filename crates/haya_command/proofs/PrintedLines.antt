-- What is printed of hits as lines of JSON lists their entries.
use Rattle.std.proofs.Common.{◌≡◌, ◌≢◌, ℕ, ◌-◌, ◌≤◌, Bool, true, false, cond, ◌==◌, List, [], ◌∷◌, ◌++◌, Some, None, Ok, length, map, refl, sym, ap, ◌∙◌, subst, arith}
use Rattle.std.specs.Prelude.{All, codes, filter, max, slice_index}
use Rattle.std.specs.Bool.{Decides}
use Rattle.std.specs.Cmp.Lexicographic.{slice_cmp}
use Rattle.std.specs.List.{AllPairs, AllZip, concat, last_or}
use Rattle.std.specs.List.Sorted.{IsStrictlySortedBy}
use Rattle.std.specs.Map.{keys_of}
use Rattle.std.specs.Ordering.{eq_by_cmp, nat_cmp}
use Rattle.std.specs.Str.Lines.{lines, lines_of_parts, strip_carriage_return}
use Rattle.std.proofs.lemmas.Bool.Decides.{nat_tests}
use Rattle.std.proofs.lemmas.List.Elements.{All-get_or, All-head, All-tail, All-weaker}
use Rattle.std.proofs.lemmas.List.Splits.{slice_split_at}
use Rattle.std.proofs.lemmas.Map.Keys.{IsDistinct-from_sorted}
use Rattle.std.proofs.lemmas.Map.Made.{AllPairs-from_IsDistinct}
use Rattle.std.proofs.lemmas.Map.Text.{is_eq-slice_cmp}
use Rattle.std.proofs.lemmas.Slice.Eq.{bytes_eq-Decides}
use Rattle.json.specs.Json as json
use Rattle.json.specs.Json.{Json, max_depth}
use Rattle.json.specs.Print.{print, print_from}
use Rattle.json.specs.Strict.{keys}
use Rattle.json.specs.Token as Token
use Rattle.json.specs.Token.{Token as AToken}
use Rattle.json.specs.Tree.{HasNumbers, depth as nesting, json_tokens, members_depth}
use Rattle.json.proofs.Printed.Trees.{document-print}
use Rattle.hayagriva.specs.Holds.{holds}
use Rattle.hayagriva.specs.Library.{key_of}
use Rattle.hayagriva.specs.Query.{AreHits, IsHit, hit_entry}
use Rattle.hayagriva.specs.Syntax.{Syntax}
use Rattle.hayagriva.specs.Tree.{Tree, node}
use Rattle.hayagriva.specs.declared.query.Hit.{Hit}
use Rattle.haya_hits.specs.Line.{AreLines}
use Rattle.haya_line_library.specs.Parts.{AreWholeLines}
use Rattle.haya_json.specs.Entries.{entry_of}
use Rattle.haya_json.specs.JsonLines.{AreEntriesOf, IsListOf, entry_in}
use Rattle.haya_json.specs.JsonLines as json_lines
use Rattle.haya_json.specs.Printed.{json_of}
use Rattle.haya_json.specs.ReadBack.{EntrySaysItself}
use Rattle.haya_json.specs.Readable.{EntriesAreReadable, TreeIsReadable}
use Rattle.haya_json.specs.Refusal.{to_member, within}
use Rattle.haya_json.proofs.Sounds.{IsSound, MembersAreSound, built_none, built_one, object_sound}
use Rattle.haya_lines.specs.Signs.{line_feed}
use Rattle.haya_command.specs.Printed.{FitsLine, IsJsonLineOf, hit_json, name_members, names_json}
use Rattle.haya_command.proofs.JsonParts.{IsListOf-append}

-- ---- the object of a line

-- texts that compare as equal are equal
same_bytes : (a b : List ℕ) → Decides (eq_by_cmp (slice_cmp nat_cmp) a b) (a ≡ b)
same_bytes a b = subst (λ r. Decides r (a ≡ b)) (sym (is_eq-slice_cmp a b)) (bytes_eq-Decides a b)

-- the names of the members of names
names_keys : (names : List (List ℕ × List ℕ)) → keys (name_members names json.no_members) ≡ keys_of names
names_keys [] = refl
names_keys (p ∷ ps) = ap (λ ks. p.0 ∷ ks) (names_keys ps)

-- the members of names can be read
names_members : (names : List (List ℕ × List ℕ)) → MembersAreSound (name_members names json.no_members)
names_members [] = (tt, tt)
names_members (p ∷ ps) = let rest = names_members ps in ((tt, rest.0), (tt, rest.1))

-- they nest nothing
names_depth : (names : List (List ℕ × List ℕ)) → members_depth (name_members names json.no_members) ≡ 0
names_depth [] = refl
names_depth (p ∷ ps) = ap (max 0) (names_depth ps)

-- names in byte order are distinct
names_sound : (names : List (List ℕ × List ℕ)) → IsStrictlySortedBy (slice_cmp nat_cmp) (keys_of names) → IsSound (names_json names)
names_sound names order =
    let members = names_members names in
    let distinct = AllPairs-from_IsDistinct same_bytes (keys_of names) (IsDistinct-from_sorted (slice_cmp nat_cmp) (keys_of names) order) in
    (members.0, (subst (AllPairs (λ a b. a ≢ b)) (sym (names_keys names)) distinct, members.1))

-- the object of a hit can be read
hit_sound : (names : List (List ℕ × List ℕ)) (t : Tree) → IsStrictlySortedBy (slice_cmp nat_cmp) (keys_of names) → EntrySaysItself t → IsSound (hit_json (key_of t) names t)
hit_sound names t order says =
    object_sound
    (built_one (codes "key") (json.string (key_of t)) (tt, tt)
    (built_one (codes "bindings") (names_json names) (names_sound names order)
    (built_one (codes "entry") (json_of None t) (says.numbers, says.unique) built_none)))
    refl

-- it nests no deeper than a reader takes
hit_nests : (names : List (List ℕ × List ℕ)) (t : Tree) → FitsLine t → nesting (hit_json (key_of t) names t) ≤ max_depth
hit_nests names t fits = omega (arith, names_depth names)

-- it says the entry
hit_says : (names : List (List ℕ × List ℕ)) (t : Tree) → entry_of (key_of t) None (json_of None t) ≡ Ok t → entry_in (hit_json (key_of t) names t) ≡ Ok t
hit_says names (node f ps) says = ap (within (to_member (codes "entry"))) says

-- ---- its text

-- there is no carriage return at the end
no_return : (line : List ℕ) → All (λ b. 32 ≤ b) line → strip_carriage_return line ≡ line
no_return [] h = refl
no_return (x ∷ xs) h =
    let last : ℕ = length (x ∷ xs) - 1 in
    let visible : 32 ≤ slice_index (x ∷ xs) last = All-get_or (λ b. 32 ≤ b) (x ∷ xs) last 0 (omega arith) h in
    let other : (slice_index (x ∷ xs) last == 13) ≡ false = grind (arith, nat_tests) in
    rw other refl

-- bytes none of which is below 32, and a line feed, are one line
lines-one : (line : List ℕ) → All (λ b. 32 ≤ b) line → lines (line ++ line_feed ∷ []) ≡ line ∷ []
lines-one line h =
    let no_feed : All (λ b. (b == 10) ≡ false) line = All-weaker (λ b. 32 ≤ b) (λ b. (b == 10) ≡ false) (λ b low. grind (arith, nat_tests)) line h in
    ap lines_of_parts (slice_split_at (λ b. b == 10) line 10 [] no_feed refl) ∙ ap (λ l. l ∷ []) (no_return line h)

-- the last byte is a line feed
last-feed : (before : _) (line : List ℕ) → last_or before (line ++ line_feed ∷ []) ≡ Some line_feed
last-feed before [] = refl
last-feed before (b ∷ bs) = last-feed (Some b) bs

-- what is printed of an object is not empty
not_empty : (ts : List AToken) → (length (print (Token.begin_object ∷ ts)) == 0) ≡ false
unfolding print_from
not_empty ts = grind (arith, nat_tests)

-- ---- hits

module _ (says : (t : Tree) → TreeIsReadable t → EntrySaysItself t) (one_line : (j : Json) → HasNumbers j → All (λ b. 32 ≤ b) (print (json_tokens j))) where
  -- the line is whole, and lists the entry
  record Lists (line : List ℕ) (t : Tree) : Type 0 where
    whole : AreWholeLines line
    listed : IsListOf line (t ∷ [])

  -- the line of a hit
  line_lists : (hit : Hit) (line : List ℕ) → TreeIsReadable (hit_entry hit) → FitsLine (hit_entry hit) → IsJsonLineOf hit line → Lists line (hit_entry hit)
  line_lists hit line readable fits is =
      let t = hit_entry hit in
      let object = hit_json (key_of t) is.names t in
      let said = says t readable in
      let sound = hit_sound is.names t is.order said in
      let text : List ℕ = print (json_tokens object) in
      let read : json_lines.IsLineOf text t = record {
        value = object;
        parsed = document-print object sound.0 (hit_nests is.names t fits);
        unique = sound.1;
        read = hit_says is.names t said.read;
      }
      in
      let some : (length text == 0) ≡ false = not_empty _ in
      let one : AreEntriesOf (text ∷ []) (t ∷ []) = rw some (read, tt) in
      record {
        whole = rw is.text (last-feed (Some line_feed) text);
        listed = subst (λ l. IsListOf l (t ∷ [])) (sym is.text) (subst (λ ls. AreEntriesOf ls (t ∷ [])) (sym (lines-one text (one_line object sound.0))) one);
      }

  -- the lines of hits
  all_listed : (hits : List Hit) (ls : List (List ℕ)) → EntriesAreReadable (map hit_entry hits) → All FitsLine (map hit_entry hits) → AllZip IsJsonLineOf hits ls
      → IsListOf (concat ls) (map hit_entry hits)
  all_listed [] [] readable fits each = tt
  all_listed [] (l ∷ ls) readable fits each = absurd each
  all_listed (h ∷ hs) [] readable fits each = absurd each
  all_listed (h ∷ hs) (l ∷ ls) readable fits each =
      let first = line_lists h l readable.0 (All-head FitsLine (hit_entry h) (map hit_entry hs) fits) each.0 in
      IsListOf-append l (concat ls) (hit_entry h ∷ []) (map hit_entry hs) first.whole first.listed
      (all_listed hs ls readable.1 (All-tail FitsLine (hit_entry h) (map hit_entry hs) fits) each.1)

  -- what is printed of hits lists their entries
  pub lists_back : (hits : List Hit) (text : List ℕ) → EntriesAreReadable (map hit_entry hits) → All FitsLine (map hit_entry hits) → AreLines IsJsonLineOf hits text
      → IsListOf text (map hit_entry hits)
  lists_back hits text readable fits printed = subst (λ l. IsListOf l (map hit_entry hits)) (sym printed.text) (all_listed hits printed.lines readable fits printed.each)

  -- ---- the hits of a library

  -- the entries of hits are those where the selector holds
  entries_of_hits : (s : Syntax) (ts : List Tree) (hits : List Hit) → AllZip (IsHit s) ts hits → map hit_entry hits ≡ ts
  entries_of_hits s [] [] are = refl
  entries_of_hits s [] (h ∷ hs) are = absurd are
  entries_of_hits s (t ∷ ts) [] are = absurd are
  entries_of_hits s (t ∷ ts) (h ∷ hs) are = rw (are.0.entry, entries_of_hits s ts hs are.1) refl

  -- so are the values of some of the entries
  some_readable : (p : Tree → Bool) (ts : List Tree) → EntriesAreReadable ts → EntriesAreReadable (filter p ts)
  some_readable p [] all = tt
  some_readable p (t ∷ ts) all = by (p t) (some_readable p ts all.1)
    where
      by : (b : Bool) → EntriesAreReadable (filter p ts) → EntriesAreReadable (cond b (t ∷ filter p ts) (filter p ts))
      by true rest = (all.0, rest)
      by false rest = rest

  -- what is printed of the hits of entries lists those where the selector holds
  pub answers_back : (s : Syntax) (library : List Tree) (hits : List Hit) (text : List ℕ) → EntriesAreReadable library → AreHits s library hits
      → All FitsLine (filter (holds s) library) → AreLines IsJsonLineOf hits text → IsListOf text (filter (holds s) library)
  answers_back s library hits text readable are fits printed =
      let picked : List Tree = filter (holds s) library in
      let same : map hit_entry hits ≡ picked = entries_of_hits s picked hits are in
      let ones : EntriesAreReadable (map hit_entry hits) = subst EntriesAreReadable (sym same) (some_readable (holds s) library readable) in
      subst (IsListOf text) same (lists_back hits text ones (subst (All FitsLine) (sym same) fits) printed)
