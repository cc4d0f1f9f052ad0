-- Keys of signs that stand for themselves.
use Rattle.std.proofs.Common.{◌≡◌, ℕ, List, [], ◌∷◌, length, take, drop, Bool, true, false, cond, ◌==◌, ◌||◌, Some, None, refl, sym, ap, ◌∙◌, append-nil, arith}
use Rattle.std.specs.Prelude.{codes}
use Rattle.std.specs.Str.{bytes_eq}
use Rattle.haya_yaml_text.specs.Keys.{behind_colon, key, key_scalar, unmerged}
use Rattle.haya_yaml_text.specs.Scalars.{behind, scalar, scalar_of}
use Rattle.haya_yaml_text.specs.Signs.{begins_plain, ends_key, skip}
use Rattle.haya_yaml_text.specs.Turns.{plain_length}
use Rattle.haya_yaml_text.specs.declared.scalar.Style.TheVariants.{Plain, SingleQuoted, DoubleQuoted}
use Rattle.haya_yaml_text.specs.declared.scalar.Fold.TheVariants.{Inside}
use Rattle.haya_yaml_text.specs.declared.sign.Sign.TheVariants.{Ends, Stands}
use Rattle.haya_yaml_text.proofs.Steps.{alone, at_ends, runs}

at_colon : (cs : List ℕ) → ends_key false (58 ∷ cs) ≡ true → scalar false Plain 0 Inside [] (58 ∷ cs) ≡ Some ([], 58 ∷ cs)
at_colon cs e = at_ends false Plain Inside [] (58 ∷ cs) (grind arith) refl (ap (λ b. cond (b || false) Ends Stands) e)

colon_stops : (text : List ℕ) → ends_key false text ≡ true → scalar false Plain 0 Inside [] text ≡ Some ([], text)
colon_stops [] e = absurd (grind (arith, e))
colon_stops (c ∷ cs) e =
    let is : c ≡ 58 = grind (arith, e) in
    rw is (at_colon cs (sym (ap (λ d. ends_key false (d ∷ cs)) is) ∙ e))

run_scalar : (text : List ℕ) → ends_key false (drop (plain_length Plain text) text) ≡ true
    → scalar false Plain 0 Inside [] text ≡ Some (take (plain_length Plain text) text, drop (plain_length Plain text) text)
run_scalar text e =
    let n = plain_length Plain text in
    runs false Plain text ∙ ap (behind (take n text)) (colon_stops (drop n text) e) ∙ ap (λ t. Some (t, drop n text)) (append-nil (take n text))

plain_scalar : (text : List ℕ) → begins_plain false text ≡ true → key_scalar false text ≡ unmerged (scalar false Plain 0 Inside [] text)
plain_scalar [] e = absurd (grind (arith, e))
plain_scalar (c ∷ cs) e =
    let double : (c == 34) ≡ false = grind (arith, e) in
    let single : (c == 39) ≡ false = grind (arith, e) in
    ap (λ d. cond d (scalar_of false DoubleQuoted cs) (cond (c == 39) (scalar_of false SingleQuoted cs) (cond (begins_plain false (c ∷ cs)) (unmerged (scalar_of false Plain (c ∷ cs))) None))) double
    ∙ ap (λ s. cond s (scalar_of false SingleQuoted cs) (cond (begins_plain false (c ∷ cs)) (unmerged (scalar_of false Plain (c ∷ cs))) None)) single
    ∙ ap (λ p. cond p (unmerged (scalar_of false Plain (c ∷ cs))) None) e

colon_solid : (text name : List ℕ) → ends_key false text ≡ true → behind_colon name (skip true text) ≡ Some (name, drop 1 text)
colon_solid [] name e = absurd (grind (arith, e))
colon_solid (c ∷ cs) name e =
    let is : c ≡ 58 = grind (arith, e) in
    let ends : ends_key false (58 ∷ cs) ≡ true = sym (ap (λ d. ends_key false (d ∷ cs)) is) ∙ e in
    rw is (ap (λ b. cond b (Some (name, cs)) None) ends)

pub found : (text : List ℕ) → begins_plain false text ≡ true → ends_key false (drop (plain_length Plain text) text) ≡ true
    → bytes_eq (take (plain_length Plain text) text) (codes "<<") ≡ false
    → key text ≡ Some (take (plain_length Plain text) text, drop 1 (drop (plain_length Plain text) text))
found text plain ends other =
    let n = plain_length Plain text in
    let scalar_is : key_scalar false text ≡ Some (take n text, drop n text) =
    plain_scalar text plain ∙ ap unmerged (run_scalar text ends) ∙ ap (λ b. cond b None (Some (take n text, drop n text))) other in
    key_of text (take n text) (drop n text) scalar_is ∙ colon_solid (drop n text) (take n text) ends
  where
    key_of : (text name rest : List ℕ) → key_scalar false text ≡ Some (name, rest) → key text ≡ behind_colon name (skip true rest)
    key_of text name rest e = rw e refl

none_if : (text : List ℕ) (b : Bool) → bytes_eq text (codes "<<") ≡ b → key_scalar false text ≡ cond b None (Some (text, [])) → key text ≡ None
none_if text true e is = rw is refl
none_if text false e is = rw is refl

pub missing : (text : List ℕ) → begins_plain false text ≡ true → plain_length Plain text ≡ length text → key text ≡ None
missing text plain all =
    none_if text (bytes_eq text (codes "<<")) refl (plain_scalar text plain ∙ ap unmerged (alone false Plain text refl all))
