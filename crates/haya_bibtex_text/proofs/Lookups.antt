-- Texts that are looked up by their bytes and by their characters.
use Rattle.std.proofs.Common.{◌≡◌, ℕ, zero, suc, Bool, true, false, cond, ltb, not, ◌&&◌, ◌||◌, List, [], ◌∷◌, Option, Some, None, option_map, refl, ap, sym, ◌∙◌, arith}
use Rattle.std.proofs.Math.Path.{fun_ext}
use Rattle.std.proofs.lemmas.Bool.Decides.{Decides-like, same_from_decides, nat_tests}
use Rattle.std.proofs.lemmas.Map.Text.{btree_map_updates_text, btree_set_updates_text}
use Rattle.std.proofs.lemmas.Slice.Eq.{bytes_eq-Decides}
use Rattle.std.proofs.lemmas.Str.{IsUtf8-string_bytes, chars-IsAscii, encodes-chars, encodes_same, encodes-IsAscii}
use Rattle.std.specs.BTreeMap.{Updates, get_by_text}
use Rattle.std.specs.BTreeSet.{contains, contains_text}
use Rattle.std.specs.BTreeSet as bag
use Rattle.std.specs.Borrow.{Bor}
use Rattle.std.specs.Prelude.{String}
use Rattle.std.specs.Str.{IsAscii, IsUtf8, bytes_eq, chars, encode_utf8_all}
use Rattle.std.specs.String.{string_bytes, string_cmp}
use Rattle.std.specs.declared.alloc.Global.{Global}
use Rattle.haya_bibtex_text.specs.Definitions.{strings_view, text_or}
use Rattle.haya_bibtex_text.specs.Names.{names_view, with_name}
use Rattle.haya_bibtex_text.specs.Predefined.{Table, predefined_strings, predefined_table, text_under}
use Rattle.haya_bibtex_text.specs.Strings.{with_string}
use Rattle.haya_bibtex_text.specs.declared.definitions.Definitions.{Definitions}
use Rattle.haya_bibtex_text.specs.declared.names.Names.{Names}

-- two texts are equal exactly where their characters are
pub bytes_eq-encodes : (xs ys : List ℕ) → bytes_eq (encode_utf8_all xs) (encode_utf8_all ys) ≡ bytes_eq xs ys
bytes_eq-encodes xs ys =
    same_from_decides (bytes_eq (encode_utf8_all xs) (encode_utf8_all ys)) (bytes_eq xs ys)
    (bytes_eq-Decides (encode_utf8_all xs) (encode_utf8_all ys))
    (Decides-like (bytes_eq xs ys) (ap encode_utf8_all) (encodes_same xs ys) (bytes_eq-Decides xs ys))

-- the same where one is a text
pub bytes_eq-chars : (bs cs : List ℕ) → IsUtf8 bs → bytes_eq bs (encode_utf8_all cs) ≡ bytes_eq (chars bs) cs
bytes_eq-chars bs cs u =
    ap (λ v. bytes_eq v (encode_utf8_all cs)) (sym (encodes-chars bs u)) ∙ bytes_eq-encodes (chars bs) cs

abbrev all_ascii : List ℕ → Bool
all_ascii [] = true
all_ascii (c ∷ cs) = ltb c 128 && all_ascii cs

abbrev table_ascii : Table → Bool
table_ascii [] = true
table_ascii (r ∷ rs) = (all_ascii r.0 && all_ascii r.1) && table_ascii rs

both : (a b : Bool) → (a && b) ≡ true → (a ≡ true) × (b ≡ true)
both true b e = (refl, e)
both false b e = cc

IsAscii-all : (cs : List ℕ) → all_ascii cs ≡ true → IsAscii cs
IsAscii-all [] e i = omega arith
IsAscii-all (c ∷ cs) e zero = let h = (both (ltb c 128) (all_ascii cs) e).0 in grind (arith, nat_tests)
IsAscii-all (c ∷ cs) e (suc i) = IsAscii-all cs (both (ltb c 128) (all_ascii cs) e).1 i

-- a table in ASCII has the same text for the bytes of a name
text_under-encodes : (t : Table) (n : List ℕ) → table_ascii t ≡ true → text_under t (encode_utf8_all n) ≡ text_under t n
text_under-encodes [] n e = refl
text_under-encodes (r ∷ rs) n e =
    let h = both (all_ascii r.0 && all_ascii r.1) (table_ascii rs) e in
    let w = (both (all_ascii r.0) (all_ascii r.1) h.0).0 in
    let same : bytes_eq (encode_utf8_all n) r.0 ≡ bytes_eq n r.0 =
    ap (bytes_eq (encode_utf8_all n)) (sym (encodes-IsAscii r.0 (IsAscii-all r.0 w))) ∙ bytes_eq-encodes n r.0 in
    rw (same, text_under-encodes rs n h.1) refl

-- and its texts are their characters
text_under-chars : (t : Table) (n : List ℕ) → table_ascii t ≡ true → option_map chars (text_under t n) ≡ text_under t n
text_under-chars [] n e = refl
text_under-chars (r ∷ rs) n e =
    let h = both (all_ascii r.0 && all_ascii r.1) (table_ascii rs) e in
    let w = (both (all_ascii r.0) (all_ascii r.1) h.0).1 in
    elim (bytes_eq n r.0) as (λ b. option_map chars (cond b (Some r.1) (text_under rs n)) ≡ cond b (Some r.1) (text_under rs n))
    [ true ↦ ap Some (chars-IsAscii r.1 (IsAscii-all r.1 w)) | false ↦ text_under-chars rs n h.1 ]

option_map-now : (f : List ℕ → List ℕ) (r : Option (Bor (List ℕ))) → option_map (λ t. f t.now) r ≡ option_map f (option_map (λ t. t.now) r)
option_map-now f None = refl
option_map-now f (Some t) = refl

-- a name that isn't defined
pub strings_view-start : (d : Definitions) (name : List ℕ) (r : Option (Bor (List ℕ))) → IsUtf8 name
    → None ≡ get_by_text d.texts name → option_map (λ t. t.now) r ≡ predefined_strings name
    → option_map (λ t. chars t.now) r ≡ strings_view d (chars name)
strings_view-start d name r u none e =
    rw (encodes-chars name u, ← none)
    (option_map-now chars r ∙ ap (option_map chars) (e ∙ ap predefined_strings (sym (encodes-chars name u)) ∙ text_under-encodes predefined_table (chars name) refl)
    ∙ text_under-chars predefined_table (chars name) refl)

-- a name that is
pub strings_view-defined : (d : Definitions) (name : List ℕ) (t : String Global) → IsUtf8 name
    → Some t ≡ get_by_text d.texts name → Some (chars (string_bytes t)) ≡ strings_view d (chars name)
strings_view-defined d name t u e = rw (encodes-chars name u, ← e) refl

-- what is found once a name is defined
found : (b : Bool) (t : String Global) (old : Option (String Global)) (p : Option (List ℕ))
    → text_or (option_map (λ s. chars (string_bytes s)) (cond b (Some t) old)) p
    ≡ cond b (Some (chars (string_bytes t))) (text_or (option_map (λ s. chars (string_bytes s)) old) p)
found true t old p = refl
found false t old p = refl

pub strings_view-define : (old new : Definitions) (name text : String Global)
    → Updates string_cmp old.texts new.texts name (Some text)
    → strings_view new ≡ with_string (strings_view old) (chars (string_bytes name)) (chars (string_bytes text))
strings_view-define old new name text u =
    fun_ext (λ m. rw (btree_map_updates_text (string_bytes name) old.texts new.texts (Some text) u (encode_utf8_all m))
    (rw (bytes_eq-chars (string_bytes name) m (IsUtf8-string_bytes name))
    (found (bytes_eq (chars (string_bytes name)) m) text (get_by_text old.texts (encode_utf8_all m)) (predefined_strings m))))

-- whether a name is new
pub names_view-added : (names : Names) (text : String Global) (name : List ℕ) (added : Bool) → IsUtf8 name
    → string_bytes text ≡ name → added ≡ not (contains string_cmp names.texts text)
    → added ≡ not (names_view names (chars name))
names_view-added names text name added u e is = rw (encodes-chars name u, ← e) is

or-cond : (a b : Bool) → cond a true b ≡ (a || b)
or-cond true b = refl
or-cond false b = refl

pub names_view-add : (old new : Names) (text : String Global) (name : List ℕ)
    → string_bytes text ≡ name → bag.Updates string_cmp old.texts new.texts text true
    → names_view new ≡ with_name (names_view old) (chars name)
names_view-add old new text name e u =
    fun_ext (λ m. rw (btree_set_updates_text (string_bytes text) old.texts new.texts true u (encode_utf8_all m))
    (rw (bytes_eq-chars (string_bytes text) m (IsUtf8-string_bytes text), e)
    (or-cond (bytes_eq (chars name) m) (contains_text old.texts (encode_utf8_all m)))))
