use Rattle.std.proofs.Common.{◌≡◌, ℕ, List, length, take, min, sym, ap, ◌∙◌}
use Rattle.std.specs.Str.{IsUtf8}
use Rattle.std.specs.Str.Lossy.{utf8_valid_len}
use Rattle.std.proofs.Math.Nat.{min_comm}
use Rattle.std.proofs.Math.Seq.{take-length}
use Rattle.std.proofs.lemmas.List.{take_min}
use Rattle.std.proofs.lemmas.Str.{utf8_valid_len-IsUtf8}
use Rattle.haya_formats.specs.Block.{valid_front}
use Rattle.haya_formats.specs.declared.block.TheConstants.{FIRST_BLOCK}
use Rattle.haya_formats.proofs.block.first_text.Goals as goal

module _ (n : ℕ) (bytes : List ℕ) (at : ℕ) (short : at ≡ min (length bytes) n) where
  same_block : take at bytes ≡ take n bytes
  same_block = ap (λ k. take k bytes) (short ∙ min_comm (length bytes) n) ∙ take_min n bytes

  -- the block is a text
  front_whole : (text : List ℕ) → text ≡ take at bytes → IsUtf8 (take at bytes) → text ≡ valid_front (take n bytes)
  front_whole text is utf8 =
      is ∙ sym (ap (λ k. take k (take at bytes)) (utf8_valid_len-IsUtf8 (take at bytes) utf8) ∙ take-length (take at bytes)) ∙ ap valid_front same_block

  -- a front of it is
  front_valid : (text : List ℕ) (k : ℕ) → text ≡ take k (take at bytes) → k ≡ utf8_valid_len (take at bytes) → text ≡ valid_front (take n bytes)
  front_valid text k is len = is ∙ ap (λ m. take m (take at bytes)) len ∙ ap valid_front same_block

pub returns-in-Ok : goal.returns-in-Ok
returns-in-Ok c = front_whole FIRST_BLOCK c.args.bytes.now c.min.result c.min.ensures _ c.in-Ok.ensures.cases.0 c.in-Ok.ensures.cases.1

pub returns-in-Ok-from_utf8 : goal.returns-in-Ok-from_utf8
returns-in-Ok-from_utf8 c =
    front_valid FIRST_BLOCK c.args.bytes.now c.min.result c.min.ensures _ c.valid_up_to.result c.in-Ok-from_utf8.ensures.cases.0 (c.valid_up_to.ensures ∙ c.in-Err.ensures.valid_len)
