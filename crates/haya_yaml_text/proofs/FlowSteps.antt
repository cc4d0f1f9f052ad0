-- Steps of the reading of values in brackets.
use Rattle.std.proofs.Common.{◌≡◌, ℕ, zero, suc, ◌+◌, ◌<◌, List, [], ◌∷◌, ◌++◌, length, get_or, ◌==◌, Bool, true, false, Option, Some, None, Ok, Err, IfOk, option_and_then, if◌then◌else◌, refl, sym, ap, ◌∙◌, append_assoc, arith}
use Rattle.std.specs.Prelude.{MatchOption, Result}
use Rattle.haya_yaml_text.specs.Signs.{skip}
use Rattle.haya_yaml_text.specs.Scalars.{Scalar}
use Rattle.haya_yaml_text.specs.Keys.{key_scalar}
use Rattle.haya_yaml_text.specs.FlowTurns.{MemberEnded, MemberTurned}
use Rattle.haya_yaml_text.specs.declared.flow.Passage.{Passage}
use Rattle.haya_yaml_text.specs.declared.flow.Passage.TheVariants.{More, Last}
use Rattle.json.specs.Json.{Json, Items, item, Members, no_members, member}
use Rattle.json.specs.Token.{Token, key}
use Rattle.json.specs.Tree.{json_tokens, items_tokens, members_tokens}
use Rattle.haya_yaml_text.specs.Flow.{Found, Reading, found_map, flow_items, flow_members, flow_value, flow_with, items_in, members_in, items_step, member_at, member_behind, members_step, one_member, pass, value_behind, at_colon}
use Rattle.haya_yaml_text.specs.Writing.{written, written_items, written_members}

-- what is written of nothing is nothing
pub no_items_written : (front : List Token) (found : Found Items) → written_items front found ≡ None → found ≡ None
no_items_written front None e = refl
no_items_written front (Some p) e = absurd (grind (arith, e))

pub no_members_written : (front : List Token) (found : Found Members) → written_members front found ≡ None → found ≡ None
no_members_written front None e = refl
no_members_written front (Some p) e = absurd (grind (arith, e))

pub no_items_left : (value : Reading Json) (n : ℕ) (text : List ℕ) → n ≡ 0 → flow_items value n text ≡ None
unfolding flow_items
no_items_left value n text none = rw none refl

pub no_members_left : (value : Reading Json) (n : ℕ) (text : List ℕ) → n ≡ 0 → flow_members value n text ≡ None
unfolding flow_members
no_members_left value n text none = rw none refl

-- a value was found, where it was written
pub found_written : (front mid : List Token) (rest : List ℕ) (found : Found Json) → written front found ≡ Some (mid, rest)
    → (j : Json) × (found ≡ Some (j, rest)) × (mid ≡ front ++ json_tokens j)
found_written front mid rest None e = absurd (grind (arith, e))
found_written front mid rest (Some p) e =
    let both : (front ++ json_tokens p.0, p.1) ≡ (mid, rest) = some_same _ _ e in
    (p.0, ap (λ r. Some (p.0, r)) (ap (λ q. q.1) both), sym (ap (λ q. q.0) both))
  where
    from_some : {A : Type 0} → A → Option A → A
    from_some d None = d
    from_some d (Some x) = x

    some_same : {A : Type 0} (a b : A) → Some a ≡ Some b → a ≡ b
    some_same a b e = ap (from_some a) e

-- items behind one that was written
pub items_on : (old mid : List Token) (j : Json) (found : Found Items) → mid ≡ old ++ json_tokens j
    → written_items old (found_map (item j) found) ≡ written_items mid found
items_on old mid j None e = refl
items_on old mid j (Some p) e = ap (λ t. Some (t, p.1)) (sym (append_assoc old (json_tokens j) (items_tokens p.0)) ∙ ap (λ t. t ++ items_tokens p.0) (sym e))

pub members_on : (old with_key mid : List Token) (k : List ℕ) (j : Json) (found : Found Members) → with_key ≡ old ++ key k ∷ [] → mid ≡ with_key ++ json_tokens j
    → written_members old (found_map (member k j) found) ≡ written_members mid found
members_on old with_key mid k j None first second = refl
members_on old with_key mid k j (Some p) first second =
    ap (λ t. Some (t, p.1)) (
    sym (append_assoc old (key k ∷ []) (json_tokens j ++ members_tokens p.0))
    ∙ ap (λ t. t ++ (json_tokens j ++ members_tokens p.0)) (sym first)
    ∙ sym (append_assoc with_key (json_tokens j) (members_tokens p.0))
    ∙ ap (λ t. t ++ members_tokens p.0) (sym second)
    )

pub flow_is : (depth : ℕ) (text : List ℕ) → flow_value depth text ≡ flow_with (items_in flow_value depth) (members_in flow_value depth) text
unfolding flow_value
flow_is zero text = refl
flow_is (suc depth) text = refl

pub items_next : (value : Reading Json) (n m : ℕ) (text : List ℕ) → n ≡ m + 1 → flow_items value n text ≡ items_step value (flow_items value m) (pass text)
unfolding flow_items
items_next value n m text e = let next : n ≡ suc m = omega (arith, e) in rw next refl

pub members_next : (value : Reading Json) (n m : ℕ) (text : List ℕ) → n ≡ m + 1 → flow_members value n text ≡ members_step value (flow_members value m) (pass text)
unfolding flow_members
members_next value n m text e = let next : n ≡ suc m = omega (arith, e) in rw next refl

-- a member and what follows it
member_is : (v : Reading Json) (more : Reading Members) (k : List ℕ × List ℕ) (rest value after : List ℕ) (colon : Bool) (j : Json) → rest ≡ k.1
    → (colon, value) ≡ at_colon (skip true rest) → value_behind v colon value ≡ Some (j, after) → one_member v more (Some k) ≡ member_behind more k.0 j (pass after)
member_is v more k rest value after colon j same at is =
    ap (λ r. member_at v more k.0 (at_colon (skip true r))) (sym same)
    ∙ ap (member_at v more k.0) (sym at)
    ∙ ap (λ f. option_and_then (λ p. member_behind more k.0 p.0 (pass p.1)) f) is

abbrev pub KeyWritten : Scalar → List Token → List Token → List ℕ → Type 0
KeyWritten found old new rest = MatchOption found ⊥ (λ k. (new ≡ old ++ key k.0 ∷ []) × (rest ≡ k.1))

pub member_ended : (v : Reading Json) (found : Scalar) (old with_key mid new : List Token) (rest skipped value after end : List ℕ) (colon : Bool) (p : Passage)
    → KeyWritten found old with_key rest → skipped ≡ skip true rest → (colon, value) ≡ at_colon skipped → written with_key (value_behind v colon value) ≡ Some (mid, after)
    → end ≡ pass after → MemberEnded p mid new end → MemberTurned (λ more. one_member v more found) p old new
member_ended v None old with_key mid new rest skipped value after end colon p keyed skips at is ends ended = absurd keyed
member_ended v (Some k) old with_key mid new rest skipped value after end colon (More left) keyed skips at is ends ended =
    let found = found_written with_key mid after (value_behind v colon value) is in
    λ more.
    ap (written_members old) (member_is v more k rest value after colon found.0 keyed.1 (at ∙ ap at_colon skips) found.1 ∙ ap (member_behind more k.0 found.0) (sym ends) ∙ (ended more k.0 found.0).0)
    ∙ members_on old with_key mid k.0 found.0 (more left.now) keyed.0 found.2
    ∙ ap (λ t. written_members t (more left.now)) (sym (ended more k.0 found.0).1)
member_ended v (Some k) old with_key mid new rest skipped value after end colon (Last left) keyed skips at is ends ended =
    let found = found_written with_key mid after (value_behind v colon value) is in
    λ more.
    ap (written_members old) (member_is v more k rest value after colon found.0 keyed.1 (at ∙ ap at_colon skips) found.1 ∙ ap (member_behind more k.0 found.0) (sym ends) ∙ (ended more k.0 found.0).0)
    ∙ members_on old with_key mid k.0 found.0 (Some (no_members, left.now)) keyed.0 found.2
    ∙ ap (λ t. Some (t, left.now)) (sym (ended more k.0 found.0).1)

pub member_refused : (v : Reading Json) (found : Scalar) (old with_key mid : List Token) (rest skipped value after end : List ℕ) (colon : Bool)
    → KeyWritten found old with_key rest → skipped ≡ skip true rest → (colon, value) ≡ at_colon skipped → written with_key (value_behind v colon value) ≡ Some (mid, after)
    → end ≡ pass after → ((more : Reading Members) → (k : List ℕ) → (j : Json) → member_behind more k j end ≡ None) → (more : Reading Members) → one_member v more found ≡ None
member_refused v None old with_key mid rest skipped value after end colon keyed skips at is ends none more = absurd keyed
member_refused v (Some k) old with_key mid rest skipped value after end colon keyed skips at is ends none more =
    let found = found_written with_key mid after (value_behind v colon value) is in
    member_is v more k rest value after colon found.0 keyed.1 (at ∙ ap at_colon skips) found.1 ∙ ap (member_behind more k.0 found.0) (sym ends) ∙ none more k.0 found.0

pub step_refused : (v : Reading Json) (more : Reading Members) (text : List ℕ) → 0 < length text → (get_or text 0 0 == 125) ≡ false
    → one_member v more (key_scalar true text) ≡ None → members_step v more text ≡ None
step_refused v more [] some other none = absurd (grind (arith, some))
step_refused v more (c ∷ cs) some other none = ap (λ b. if b then Some (no_members, cs) else one_member v more (key_scalar true (c ∷ cs))) other ∙ none

pub if_ok : {A E : Type 0} (P Q : A → Type 0) (r : Result A E) → ((a : A) → P a → Q a) → IfOk r P → IfOk r Q
if_ok P Q (Ok a) step is = step a is
if_ok P Q (Err e) step is = tt
