-- Members that may be left out are found as they are printed.
use Rattle.std.proofs.Common.{◌≡◌, ◌&&◌, ◌+◌, ℕ, Bool, true, false, List, [], ◌∷◌, Option, None, Some, Result, Ok, refl, ap, ◌∙◌}
use Rattle.std.specs.Prelude.{ok_or, option_map, unwrap_or, if◌then◌else◌}
use Rattle.std.specs.Option.{option_eq}
use Rattle.std.specs.Str.{bytes_eq}
use Rattle.std.proofs.lemmas.Slice.Eq.{bytes_eq-Decides}
use Rattle.json.specs.Json as json
use Rattle.json.specs.Json.{Json, Members}
use Rattle.json.specs.Find.{is_null, get_member, later_or}
use Rattle.haya_json.specs.Refusal.{Refusal, within, and_then, to_member}
use Rattle.haya_json.specs.Parts.{unless_null, optional_in, truth_of, plain_of, items_of, one_or_many}
use Rattle.haya_json.specs.Printed.{also, also_true, same_truth, array_of, one_or_many_json}

-- a member with this name, if it has a value
abbrev pub named : {V : Type 0} → List ℕ → List ℕ → (V → Json) → Option V → Option Json
named wanted name print o = if bytes_eq name wanted then option_map print o else None

pub get_also : {V : Type 0} (wanted name : List ℕ) (print : V → Json) (o : Option V) (ms : Members)
    → get_member wanted (also name print o ms) ≡ later_or (get_member wanted ms) (named wanted name print o)
get_also wanted name print None ms = by (get_member wanted ms) (bytes_eq name wanted)
  where
    by : (later : Option Json) (b : Bool) → later ≡ later_or later (if b then None else None)
    by None true = refl
    by None false = refl
    by (Some j) b = refl
get_also wanted name print (Some v) ms = refl

pub true_if : Bool → Option Json
true_if true = Some (json.boolean true)
true_if false = None

pub get_also_true : (wanted name : List ℕ) (b : Bool) (ms : Members)
    → get_member wanted (also_true name b ms) ≡ later_or (get_member wanted ms) (if bytes_eq name wanted then true_if b else None)
unfolding true_if
get_also_true wanted name true ms = refl
get_also_true wanted name false ms = by (get_member wanted ms) (bytes_eq name wanted)
  where
    by : (later : Option Json) (b : Bool) → later ≡ later_or later (if b then None else None)
    by None true = refl
    by None false = refl
    by (Some j) b = refl

pub nothing_earlier : (o : Option Json) → later_or o None ≡ o
nothing_earlier None = refl
nothing_earlier (Some j) = refl

-- what may be left out is read back
pub optional_back : {V : Type 0} (read : Json → Result V Refusal) (print : V → Json) (o : Option V)
    → ((v : V) → read (print v) ≡ Ok v) → ((v : V) → is_null (print v) ≡ false)
    → optional_in read (unless_null (option_map print o)) ≡ Ok o
optional_back read print None back some = refl
optional_back read print (Some v) back some = rw (some v, back v) refl

pub text_optional : (o : Option (List ℕ)) → optional_in plain_of (unless_null (option_map json.string o)) ≡ Ok o
text_optional None = refl
text_optional (Some s) = refl

abbrev pub kept_or_false : Option Bool → Result Bool Refusal
kept_or_false c = Ok (unwrap_or c false)

pub true_back : (name : List ℕ) (b : Bool) → and_then (within (to_member name) (optional_in truth_of (unless_null (true_if b)))) kept_or_false ≡ Ok b
unfolding true_if
true_back name true = refl
true_back name false = refl

-- ---- equal values

pub both_are : (a b : Bool) → (a && b) ≡ true → (a ≡ true) × (b ≡ true)
both_are true b h = (refl, h)
both_are false b h = cc

pub same_texts : (a b : Option (List ℕ)) → option_eq bytes_eq a b ≡ true → a ≡ b
same_texts None None h = refl
same_texts None (Some y) h = cc
same_texts (Some x) None h = cc
same_texts (Some x) (Some y) h = ap Some ((bytes_eq-Decides x y).0 h)

pub same_truths : (a b : Bool) → same_truth a b ≡ true → a ≡ b
same_truths true true h = refl
same_truths true false h = cc
same_truths false true h = cc
same_truths false false h = refl

pub ok_some : {V E : Type 0} (o : Option V) (e : E) (v : V) → ok_or o e ≡ Ok v → o ≡ Some v
ok_some None e v h = cc
ok_some (Some x) e v h = let same : x ≡ v = cc in ap Some same

-- ---- one or many

-- each value is read from what is printed of it
unfoldable pub EachBack : {V : Type 0} → (Json → Result V Refusal) → (V → Json) → List V → Type 0
EachBack read print [] = Unit {0}
EachBack read print (v ∷ vs) = (read (print v) ≡ Ok v) × EachBack read print vs

pub each_back : {V : Type 0} (read : Json → Result V Refusal) (print : V → Json) → ((v : V) → read (print v) ≡ Ok v) → (vs : List V) → EachBack read print vs
unfolding EachBack
each_back read print back [] = tt
each_back read print back (v ∷ vs) = (back v, each_back read print back vs)

items_back : {V : Type 0} (read : Json → Result V Refusal) (print : V → Json) (n : ℕ) (vs : List V) → EachBack read print vs → items_of read n (array_of print vs) ≡ Ok vs
unfolding EachBack
items_back read print n [] back = refl
items_back read print n (v ∷ vs) back = rw (back.0, items_back read print (n + 1) vs back.1) refl

-- no array
unfoldable pub is_alone : Json → Bool
is_alone (json.array js) = false
is_alone _ = true

alone_read : {V : Type 0} (read : Json → Result V Refusal) (j : Json) → is_alone j ≡ true → one_or_many read j ≡ and_then (read j) (λ v. Ok (v ∷ []))
unfolding is_alone
alone_read read json.null h = refl
alone_read read (json.boolean b) h = refl
alone_read read (json.number s) h = refl
alone_read read (json.string s) h = refl
alone_read read (json.array js) h = cc
alone_read read (json.object ms) h = refl

pub many_back : {V : Type 0} (read : Json → Result V Refusal) (print : V → Json) (vs : List V) → ((v : V) → is_alone (print v) ≡ true) → EachBack read print vs
    → one_or_many read (one_or_many_json print vs) ≡ Ok vs
unfolding EachBack
many_back read print [] alone back = refl
many_back read print (v ∷ []) alone back = alone_read read (print v) (alone v) ∙ ap (λ r. and_then r (λ w. Ok (w ∷ []))) back.0
many_back read print (v ∷ w ∷ vs) alone back = items_back read print 0 (v ∷ w ∷ vs) back
