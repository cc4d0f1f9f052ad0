-- Members of maps in YAML, and the entries that they say.
use Rattle.std.proofs.Common.{◌≡◌, ◌≢◌, ℕ, List, [], ◌∷◌, None, Ok, refl, sym, ap, ◌∙◌, subst, arith}
use Rattle.std.specs.List.{AllByRecursion, AllPairs, AllZip}
use Rattle.json.specs.Json as json
use Rattle.json.specs.Json.{Json, Members, object}
use Rattle.json.specs.Strict.{HasUniqueKeys, MembersHaveUniqueKeys}
use Rattle.haya_entry.specs.Tree.{Tree}
use Rattle.hayagriva.specs.Library.{AreDistinct}
use Rattle.hayagriva.proofs.Parts.{from_entries-distinct}
use Rattle.haya_json.specs.Entries.{entry_of}
use Rattle.haya_json.specs.Libraries.{Describes, entries_of as object_entries, library_of}
use Rattle.haya_json.specs.Refusal.{and_then, to_member, within}
use Rattle.haya_json.proofs.MemberLists.{keys_of_library, library_of_list}
use Rattle.haya_json.proofs.TextsRead.{both_ok, ok_same, within_ok}
use Rattle.haya_yaml.specs.Says.{TextSays}
use Rattle.haya_yaml_library.specs.Libraries.{DescribesAsYaml}
use Rattle.haya_yaml_slices.specs.Members.{SayEach, Says, SaysMembers}
use Rattle.haya_source.specs.Elements.{Element, entries_of, parts_of}
use Rattle.haya_source.specs.declared.kind.ElementKind.TheVariants.{Yaml}
use Rattle.haya_source.proofs.Divided.{HaveSaid, said}
use Rattle.haya_source.proofs.Says.{paired}

-- the part says this entry, alone
abbrev pub SaysEntry : List ℕ → Tree → Type 0
SaysEntry part entry = DescribesAsYaml part (entry ∷ [])

-- ---- a text describes one library

pub one_library : (text : List ℕ) (a b : List Tree)
    → ((j k : Json) → TextSays text j → TextSays text k → j ≡ k)
    → DescribesAsYaml text a → DescribesAsYaml text b → a ≡ b
one_library text a b one d e =
    ok_same (sym d.read ∙ ap library_of (one d.value e.value d.says e.says) ∙ e.read)

-- ---- the parts of a text say the entries of its library

-- the value of a library is an object of its entries
record IsObject (j : Json) (library : List Tree) : Type 0 where
  members : Members
  is : j ≡ object members
  read : object_entries members ≡ Ok library

object_of : (j : Json) (library : List Tree) → library_of j ≡ Ok library → IsObject j library
object_of (json.object ms) library read = record { members = ms; is = refl; read = read }
object_of json.null library read = let no : ⊥ = cc (read) in absurd no
object_of (json.boolean b) library read = let no : ⊥ = cc (read) in absurd no
object_of (json.number s) library read = let no : ⊥ = cc (read) in absurd no
object_of (json.string s) library read = let no : ⊥ = cc (read) in absurd no
object_of (json.array js) library read = let no : ⊥ = cc (read) in absurd no

-- an object of one member says its entry
alone : (part k : List ℕ) (j : Json) (t : Tree) → Says part (object (json.member k j json.no_members))
    → HasUniqueKeys j → entry_of k None j ≡ Ok t → SaysEntry part t
alone part k j t says unique read = record {
  value = object (json.member k j json.no_members);
  says = record { says = says; unique = (single, (unique, tt)) };
  read = rw (read) refl;
}
  where
    single : AllPairs (λ a b. a ≢ b) (k ∷ [])
    single = λ i m d below within. absurd (omega (arith, below, within))

say_entries : (ps : List (List ℕ)) (ms : Members) (entries : List Tree) → SayEach ps ms
    → MembersHaveUniqueKeys ms → object_entries ms ≡ Ok entries → AllZip SaysEntry ps entries
say_entries [] json.no_members entries each unique read =
    subst (AllZip SaysEntry []) (ok_same read) tt
say_entries [] (json.member k j ms) entries each unique read = absurd each
say_entries (p ∷ ps) json.no_members entries each unique read = absurd each
say_entries (p ∷ ps) (json.member k j ms) entries each unique read =
    let first = both_ok (within (to_member k) (entry_of k _ j)) _ entries read in
    let more = both_ok (object_entries ms) _ entries first.then in
    let here = within_ok (to_member k) _ first.value first.first in
    subst (AllZip SaysEntry (p ∷ ps)) (ok_same more.then) (
      alone p k j first.value each.0 unique.0 here,
      say_entries ps ms more.value each.1 unique.1 more.first,
    )

-- the library that the text's JSON describes
in_json : (text : List ℕ) (members : List (List ℕ)) (m : SaysMembers text members)
    (library : List Tree) → DescribesAsYaml text library → Describes m.json library
in_json text members m library d = record {
  value = d.value;
  parsed = (m.same.same d.value).1 d.says.says;
  unique = d.says.unique;
  read = d.read;
}

pub yaml_divided : (text : List ℕ) (parts members : List (List ℕ)) (library : List Tree)
    → SaysMembers text members → ((ms : Members) → Says text (object ms) → SayEach parts ms)
    → DescribesAsYaml text library → HaveSaid Yaml parts library
yaml_divided text parts members library m each d =
    let o = object_of d.value library d.read in
    let unique : HasUniqueKeys (object o.members) = subst HasUniqueKeys o.is d.says.unique in
    let distinct = keys_of_library m.json library (in_json text members m library d) in
    said Yaml parts library library
    (paired SaysEntry parts library
    (say_entries parts o.members library (each o.members (subst (Says text) o.is d.says.says))
    unique.1 o.read))
    (sym (from_entries-distinct library distinct))

-- ---- the other way

-- the member of a part that says one entry
record SaysOne (part : List ℕ) (t : Tree) : Type 0 where
  name : List ℕ
  value : Json
  says : Says part (object (json.member name value json.no_members))
  unique : HasUniqueKeys value
  read : entry_of name None value ≡ Ok t

-- members that say no entry are none
none : (ms : Members) → object_entries ms ≡ Ok [] → ms ≡ json.no_members
none json.no_members read = refl
none (json.member k j ms) read =
    let first = both_ok (within (to_member k) (entry_of k _ j)) _ [] read in
    let more = both_ok (object_entries ms) _ [] first.then in
    cc (more.then)

one_of : (part : List ℕ) (t : Tree) (j : Json) → Says part j → HasUniqueKeys j
    → library_of j ≡ Ok (t ∷ []) → SaysOne part t
one_of part t json.null says unique read = let no : ⊥ = cc (read) in absurd no
one_of part t (json.boolean b) says unique read = let no : ⊥ = cc (read) in absurd no
one_of part t (json.number s) says unique read = let no : ⊥ = cc (read) in absurd no
one_of part t (json.string s) says unique read = let no : ⊥ = cc (read) in absurd no
one_of part t (json.array js) says unique read = let no : ⊥ = cc (read) in absurd no
one_of part t (json.object json.no_members) says unique read =
    let no : ⊥ = cc (ok_same read) in absurd no
one_of part t (json.object (json.member k j ms)) says unique read =
    let first = both_ok (within (to_member k) (entry_of k _ j)) _ (t ∷ []) read in
    let more = both_ok (object_entries ms) _ (t ∷ []) first.then in
    let here : entry_of k None j ≡ Ok first.value =
    within_ok (to_member k) _ first.value first.first in
    let same : first.value ∷ more.value ≡ t ∷ [] = ok_same more.then in
    let no_more : more.value ≡ [] = cc (same) in
    let is_entry : first.value ≡ t = cc (same) in
    let last = none ms (more.first ∙ ap Ok no_more) in
    record {
      name = k;
      value = j;
      says = subst (λ rest. Says part (object (json.member k j rest))) last says;
      unique = unique.1.0;
      read = here ∙ ap Ok is_entry;
    }

record SayTogether (ps : List (List ℕ)) (entries : List Tree) : Type 0 where
  members : Members
  each : SayEach ps members
  unique : MembersHaveUniqueKeys members
  say : object_entries members ≡ Ok entries

together : (es : List Element) → AllByRecursion (λ e. SaysEntry e.0 e.1) es
    → SayTogether (parts_of es) (entries_of es)
together [] h = record { members = json.no_members; each = tt; unique = tt; say = refl }
together (e ∷ es) h =
    let more = together es h.1 in
    let first = one_of e.0 e.1 h.0.value h.0.says.says h.0.says.unique h.0.read in
    record {
      members = json.member first.name first.value more.members;
      each = (first.says, more.each);
      unique = (first.unique, more.unique);
      say = ap (λ r. and_then (within (to_member first.name) r)
          (λ t. and_then (object_entries more.members) (λ ts. Ok (t ∷ ts)))) first.read
          ∙ ap (λ r. and_then r (λ ts. Ok (e.1 ∷ ts))) more.say;
    }

pub yaml_back : (printed : List ℕ) (members : List (List ℕ)) (picked : List Element)
    → SaysMembers printed members
    → ((ms : Members) → SayEach (parts_of picked) ms → Says printed (object ms))
    → AllByRecursion (λ e. SaysEntry e.0 e.1) picked → AreDistinct (entries_of picked)
    → DescribesAsYaml printed (entries_of picked)
yaml_back printed members picked m says h distinct =
    let s = together picked h in
    let d = library_of_list m.json (entries_of picked) (record {
      members = s.members;
      parsed = (m.same.same (object s.members)).1 (says s.members s.each);
      unique = s.unique;
      read = s.say;
    }) distinct in
    record {
      value = d.value;
      says = record { says = (m.same.same d.value).0 d.parsed; unique = d.unique };
      read = d.read;
    }
