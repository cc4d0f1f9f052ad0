use Rattle.std.proofs.Common.{◌≡◌, ℕ, ◌+◌, ◌-◌, ◌≤◌, List, Option, ◌++◌, rules, arith, refl, length, length-drop, drop, take, slice_range, sym, ap, ◌∙◌, subst, le_refl, drop_at, length-take-le}
use Rattle.std.proofs.lemmas.Slice.{take-put_mid_below}
use Rattle.std.specs.Io.KnownBytes.{Consumes, Keeps}
use Rattle.std.proofs.KnownBytes.{Consumes-trans, Consumes-kept}
use borrow.Rule.Slice.PartMut.{put_mid, post_of, same_len_mid}
use lib.Seq.{take-add, take-append-le}
use Rattle.haya_formats.proofs.block.read_block.Goals.{in-Ok, in-Err+else-ne}
use Rattle.haya_formats.proofs.block.read_block.Goals as goal

-- a front that stays as it was, and the part behind it, are a longer front
longer_front : (a b : ℕ) (old new : List ℕ) → a ≤ b → take a new ≡ take a old → take a old ++ slice_range new a b ≡ take b new
longer_front a b old new h front =
    let same : a + (b - a) ≡ b = omega arith in
    ap (λ l. l ++ slice_range new a b) (sym front) ∙ sym (take-add a (b - a) new) ∙ ap (λ n. take n new) same

-- the part that was written is what was read
part_written : (a k n : ℕ) (xs ys : List ℕ) → a ≤ length xs → n ≤ length ys → slice_range (put_mid a k xs ys) a (a + n) ≡ take n ys
part_written a k n xs ys within fits =
    let same : (a + n) - a ≡ n = omega arith in
    let after = post_of a k xs in
    ap (take ((a + n) - a)) (drop_at (take a xs) (ys ++ after) a (length-take-le a xs within)) ∙ ap (λ m. take m (ys ++ after)) same ∙ take-append-le n ys after fits

-- how a read that gives bytes, or none, fills the block
module _ (start old new : Option (List ℕ)) (from k : ℕ) (block part : List ℕ) (within : from ≤ length block) (room : k ≡ length block - from) (same : length part ≡ k)
    (before : Consumes start old (take from block)) where
  abbrev pub Filled : ℕ → Type 0
  Filled n = (n ≤ length (put_mid from k block part)) × Consumes start new (take n (put_mid from k block part))

  front : take from (put_mid from k block part) ≡ take from block
  front = take-put_mid_below _ _ _ _ _ (le_refl _) within

  length-written : length (put_mid from k block part) ≡ length block
  length-written = same_len_mid from k block part (same ∙ sym (length-take-le k (drop from block) (subst (λ n. k ≤ n) (room ∙ sym (length-drop from block)) (le_refl k))))

  pub filled_more : (taken n : ℕ) → n ≡ from + taken → taken ≤ length part → Consumes old new (take taken part) → Filled n
  filled_more taken n is fits read =
      let joined = longer_front from (from + taken) block (put_mid from k block part) (omega arith) front in
      let parts = ap (λ l. take from block ++ l) (sym (part_written from k taken block part within fits)) ∙ joined in
      rw is (rw length-written (omega arith), subst (Consumes start new) parts (Consumes-trans _ _ _ _ _ before read))

  pub filled_as_before : (n : ℕ) → n ≡ from → Keeps old new → Filled n
  filled_as_before n is kept = rw is (rw length-written within, subst (Consumes start new) (sym front) (Consumes-kept _ _ _ _ before kept))

pub reads-preserved : goal.reads-preserved
reads-preserved g c =
    elim c.match-read.branch [
      | in-Ok w ↦ filled_more _ _ _ _ _ _ _ c.reads.invariant.0 refl (search rules) c.reads.invariant.1 _ _ w.filled-is w.in-Ok.ensures.bound.0 w.in-Ok.ensures.bytes.0
      | in-Err+else-ne w ↦ filled_as_before _ _ _ _ _ _ _ c.reads.invariant.0 refl (search rules) c.reads.invariant.1 _ w.filled-is w.in-Err.ensures.bytes
    ]
