-- Members that move one after the other.
use Rattle.std.proofs.Common.{◌≡◌, ◌≢◌, ℕ, ◌<◌, Bool, true, List, length, get_or, set, arith, refl, sym, ◌∙◌, subst, inl, inr}
use Rattle.std.proofs.lemmas.Bool.{cases_lt, cases_eq}
use Rattle.std.proofs.lemmas.List.{get_or-set_same, get_or-set_other, length-set}
use Rattle.haya_assignment.specs.Placed.{IsPlaced, IsPlacedBut}
use Rattle.haya_assignment.specs.Shift.{IsChain, IsReady}
use Rattle.haya_assignment.specs.declared.search.Reached.{Reached}
use Rattle.haya_assignment.proofs.Numbers.{at_set}

differ_but : (A : ℕ → ℕ → Bool) (other : ℕ) (ps : List ℕ) → IsPlacedBut A other ps → (i j : ℕ) → i < length ps → j < length ps → i ≢ j → i ≢ other → j ≢ other → get_or ps i 0 ≢ get_or ps j 0
differ_but A other ps placed i j h k ne a b = elim (cases_lt i j) [ inl l ↦ placed.apart i j l k a b | inr g ↦ λ e. placed.apart j i (omega arith) h b a (sym e) ]

-- a position that none of the others has is given to a member
placed_set : (A : ℕ → ℕ → Bool) (other m j : ℕ) (ps : List ℕ) → IsPlacedBut A other ps → m < length ps → A m j ≡ true → ((u : ℕ) → u < length ps → u ≢ other → u ≢ m → get_or ps u 0 ≢ j) → IsPlacedBut A other (set ps m j)
placed_set A other m j ps placed in_ps ok free =
    let long : length (set ps m j) ≡ length ps = length-set ps m j in
    record {
      accepted = λ i h ne. at_set (λ i x. i ≢ other → A i x ≡ true) ps m j 0 in_ps (λ i h ne o. placed.accepted i h o) (λ o. ok) i h ne;
      apart = λ i k a b o o'.
          let hi : i < length ps = omega arith in
          let hk : k < length ps = omega arith in
          elim (cases_eq i m) [
            | inl e ↦
                let ne : k ≢ m = omega arith in
                rw (e, get_or-set_same ps m j 0 in_ps, get_or-set_other ps m k j 0 ne) (λ same. free k hk o' ne (sym same))
            | inr ne ↦ elim (cases_eq k m) [
              | inl e ↦ rw (e, get_or-set_same ps m j 0 in_ps, get_or-set_other ps m i j 0 ne) (free i hi o ne)
              | inr ne' ↦ rw (get_or-set_other ps m i j 0 ne, get_or-set_other ps m k j 0 ne') (placed.apart i k a hk o o')
            ]
          ];
    }

-- the member at the place takes the position and leaves its own to the one by way of which it was reached
pub ready_step : (A : ℕ → ℕ → Bool) (bound member : ℕ) (ps : List ℕ) (r : Reached) (t j : ℕ) → IsChain member (length ps) r → t < length r.members.items → 0 < t → IsReady A bound member ps r t j
    → IsReady A bound member (set ps (get_or r.members.items t 0) j) r (get_or r.from.items t 0) (get_or ps (get_or r.members.items t 0) 0)
ready_step A bound member ps r t j links in_ms z ready =
    let m = get_or r.members.items t 0 in
    let in_ps : m < length ps = links.known t in_ms in
    let back : get_or r.from.items t 0 < t = links.earlier t z in_ms in
    let other : m ≢ member = λ e. links.apart 0 t z in_ms (links.one ∙ sym e) in
    let stays : (s : ℕ) → s < t → get_or (set ps m j) (get_or r.members.items s 0) 0 ≡ get_or ps (get_or r.members.items s 0) 0 =
    λ s h. get_or-set_other ps m (get_or r.members.items s 0) j 0 (links.apart s t h in_ms) in
    record {
      placed = placed_set A member m j ps ready.placed in_ps ready.accepted (λ u h o ne. ready.free u h o);
      chain = λ s a b. rw (stays s (omega arith)) (ready.chain s a (omega arith));
      early = λ s a b root. rw (stays s (omega arith)) (ready.early s a (omega arith) root);
      accepted = ready.chain t z (omega arith);
      free = λ u h o. at_set (λ i x. i ≢ member → x ≢ get_or ps m 0) ps m j 0 in_ps
          (λ i h ne o. differ_but A member ps ready.placed i m h in_ps ne o other) (λ o e. ready.free m in_ps other (sym e)) u h o;
      end_early = λ root. ready.early t z (omega arith) root;
    }

-- the first takes what is left to it
pub ready_end : (A : ℕ → ℕ → Bool) (bound member : ℕ) (ps : List ℕ) (r : Reached) (j : ℕ) → IsChain member (length ps) r → IsReady A bound member ps r 0 j
    → IsPlaced A (set ps member j) × (get_or (set ps member j) member 0 < bound)
ready_end A bound member ps r j links ready =
    let in_ps : member < length ps = links.in_count in
    let ok : A member j ≡ true = subst (λ (m : ℕ). A m j ≡ true) links.one ready.accepted in
    let long : length (set ps member j) ≡ length ps = length-set ps member j in (
      record {
        accepted = at_set (λ i x. A i x ≡ true) ps member j 0 in_ps (λ i h ne. ready.placed.accepted i h ne) ok;
        apart = λ i k a b.
            let hi : i < length ps = omega arith in
            let hk : k < length ps = omega arith in
            elim (cases_eq i member) [
              | inl e ↦
                  let ne : k ≢ member = omega arith in
                  rw (e, get_or-set_same ps member j 0 in_ps, get_or-set_other ps member k j 0 ne) (λ same. ready.free k hk ne (sym same))
              | inr ne ↦ elim (cases_eq k member) [
                | inl e ↦ rw (e, get_or-set_same ps member j 0 in_ps, get_or-set_other ps member i j 0 ne) (ready.free i hi ne)
                | inr ne' ↦ rw (get_or-set_other ps member i j 0 ne, get_or-set_other ps member k j 0 ne') (ready.placed.apart i k a hk ne ne')
              ]
            ];
      },
      rw (get_or-set_same ps member j 0 in_ps) (ready.end_early refl),
    )
