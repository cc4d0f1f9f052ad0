-- What C owes where a call reads through a pointer, and gets back.
use mathlib.Core.List.{[], ◌∷◌}
use mir.Syntax.{named}
use mir.Val.{vptr}
use base.Fml.{Lft, Share, Fml, ffalse, fsep, flft}
use denote.RawPtr.{Ptr, block_ptr, null_ptr}
use denote.Ref.{ShrRef}
use Rattle.hayagriva_c.specs.contracts.content.Content.{the_row}

-- A content that is lent for a while, and this call's share of the token of that while. Any number of calls may hold shares of
-- one while, in any number of threads; who has all of them may end it.
pub record Loan : Type 0 where
  pub while : Lft
  pub share : Share
  pub value : the_row.Denot

-- at the pointer is what a shared reference for the while leads to: the value. At null there is none
abbrev pub shown : Lft → Ptr → the_row.Denot → Fml
shown κ (block_ptr b o) x =
    (ShrRef (named 0) κ the_row).own_val (record { ref_ptr = (b, o); now = x }) (vptr b o ∷ [])
shown κ null_ptr x = ffalse

abbrev pub token : Loan → Fml
token loan = flft loan.while loan.share

-- the pointer leads to the content, which stays as it is for the while
abbrev pub lent : Ptr → Loan → Fml
lent p loan = fsep (shown loan.while p loan.value) (token loan)

-- two pointers, and what each leads to
abbrev pub both_lent : Ptr → Ptr → Loan × Loan → Fml
both_lent p p' loans = fsep (lent p loans.0) (lent p' loans.1)

abbrev pub both_tokens : Loan × Loan → Fml
both_tokens loans = fsep (token loans.0) (token loans.1)
