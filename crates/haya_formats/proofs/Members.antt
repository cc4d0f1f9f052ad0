-- The members of an object, read one after another.
use Rattle.std.proofs.Common.{◌≡◌, ℕ, zero, suc, true, false, List, [], None, Some, refl, ap}
use Rattle.std.specs.Str.{bytes_eq}
use Rattle.json.specs.Json.{read_key, skip_value}
use Rattle.json.specs.Token.{Token}
use Rattle.haya_formats.specs.Formats.{begins_list, list_named, member_step, members_in, named_step}

-- where no key is read, there is no member
pub none_read : (ts : List Token) → read_key ts ≡ None → (n : ℕ) → members_in n ts ≡ []
unfolding members_in
none_read ts none zero = refl
none_read ts none (suc n) = ap (member_step (members_in n)) none

-- nor is there at the bracket that closes
pub none_left : (ts rest : List Token) → read_key ts ≡ Some (None, rest) → (n : ℕ) → members_in n ts ≡ []
unfolding members_in
none_left ts rest none zero = refl
none_left ts rest none (suc n) = ap (member_step (members_in n)) none

module _ (name key : List ℕ) (ts rest : List Token) (read : read_key ts ≡ Some (Some key, rest)) (n : ℕ) where
  one_read : members_in (suc n) ts ≡ named_step (members_in n) (Some key) rest
  unfolding members_in
  one_read = ap (member_step (members_in n)) read

  -- the next member has the name
  pub named_here : bytes_eq key name ≡ true → begins_list rest ≡ list_named name (members_in (suc n) ts)
  named_here is = rw (one_read, is) refl

  -- another name, and its value isn't whole
  pub named_nowhere : bytes_eq key name ≡ false → skip_value 127 rest ≡ None → false ≡ list_named name (members_in (suc n) ts)
  named_nowhere other none = rw (one_read, other, none) refl

  -- another name, and there are more members
  pub named_later : (left : List Token) → bytes_eq key name ≡ false → skip_value 127 rest ≡ Some left
      → list_named name (members_in n left) ≡ list_named name (members_in (suc n) ts)
  named_later left other passed = rw (one_read, other, passed) refl

-- no members have no name
pub named_in_none : (name : List ℕ) (ts : List Token) (n : ℕ) → members_in n ts ≡ [] → false ≡ list_named name (members_in n ts)
named_in_none name ts n none = rw none refl
