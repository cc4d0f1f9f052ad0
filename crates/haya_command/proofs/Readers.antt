-- The readers of elements: what one says of a line.
use Rattle.std.proofs.Common.{◌≡◌, ℕ, List, ◌∙◌, subst}
use Rattle.hayagriva.specs.Tree.{Tree}
use Rattle.haya_csl.specs.declared.item_key.ItemKey.{ItemKey}
use Rattle.haya_json.specs.Notes.{notes_view}
use Rattle.haya_json.specs.declared.error.ElementError.{ElementError}
use Rattle.haya_command.specs.AskedLines.{IsElementError, ReadsElement}
use Rattle.haya_command.specs.declared.element_readers.ItemReader.{ItemReader}
use Rattle.haya_command.specs.declared.element_readers.MemberReader.{MemberReader}
use Rattle.haya_formats.specs.declared.format.Format.TheVariants.{CslJson, Hayagriva}

module _ (key : ItemKey) where
  abbrev pub KeepsKey : ItemReader → Type 0
  KeepsKey r = r.key ≡ key

  pub item_read : (r : ItemReader) (line : List ℕ) (entry : Tree) (q : ItemReader) → KeepsKey r
      → (q.key ≡ r.key) × ReadsElement (CslJson r.key) r.number (notes_view r.notes) line entry q.number (notes_view q.notes)
      → KeepsKey q × ReadsElement (CslJson key) r.number (notes_view r.notes) line entry q.number (notes_view q.notes)
  item_read r line entry q is said =
      (said.0 ∙ is, subst (λ k. ReadsElement (CslJson k) r.number (notes_view r.notes) line entry q.number (notes_view q.notes)) is said.1)

  pub item_refused : (r : ItemReader) (line : List ℕ) (e : ElementError) → KeepsKey r → IsElementError (CslJson r.key) r.number line e → IsElementError (CslJson key) r.number line e
  item_refused r line e is at = subst (λ k. IsElementError (CslJson k) r.number line e) is at

pub member_read : (r : MemberReader) (line : List ℕ) (entry : Tree) (q : MemberReader) → Unit {0}
    → ReadsElement Hayagriva r.number (notes_view r.notes) line entry q.number (notes_view q.notes)
    → Unit {0} × ReadsElement Hayagriva r.number (notes_view r.notes) line entry q.number (notes_view q.notes)
member_read r line entry q is said = (tt, said)

pub member_refused : (r : MemberReader) (line : List ℕ) (e : ElementError) → Unit {0} → IsElementError Hayagriva r.number line e → IsElementError Hayagriva r.number line e
member_refused r line e is at = at
