-- Each text says items or has a fault.
use Rattle.std.proofs.Common.{◌≡◌, ℕ, zero, suc, ◌+◌, ◌<◌, ◌≤◌, Bool, true, false, List, length, codes, Option, Some, None, Ok, Err, refl, arith}
use Rattle.haya_bibtex_text.specs.Blanks.{behind_blank}
use Rattle.haya_bibtex_text.specs.Fields.{AreFields, FailFields, FailsField, Front, IsField, RawField, behind_comma, ended, fails_behind_comma, fails_field, fails_later, field, field_left_open, front, head_at, last_field, left_open, more, next_field, no_comma, no_field, no_head, no_value, nothing, other}
use Rattle.haya_bibtex_text.specs.Items.{Fails, FailsItem, IsItem, RawItem, Says, an_item, behind_item, behind_skipped, behind_stray, defines, fails_fields, fails_strings, in_item, in_skipped, key_alone, key_at, key_left_open, no_comma_behind_key, no_key, no_more, skipped, comment_at, stray_sign, with_fields}
use Rattle.haya_bibtex_text.specs.Openings.{Opening, behind_at, is_called, is_skipped, opening_at}
use Rattle.haya_bibtex_text.specs.Pieces.{RawPiece, Read, piece_at}
use Rattle.haya_bibtex_text.specs.Values.{FailsValue, IsValue, behind_joint, last_piece, later_piece, next_piece, no_piece}
use Rattle.haya_bibtex_text.specs.declared.fault.Refusal.{Refusal}
use Rattle.haya_bibtex_text.proofs.Shorter.{IsFrontLess, IsLess, IsOpeningLess, IsRestLess, at_less, blank_le, front_less, head_less, joint_less, key_less, opening_less, piece_less, skipped_less}

-- something is read, of a text of so many characters, and less is left; or there is a fault
data Outcome {X : Type 0} (Is : X → List ℕ → Type 0) (Fault : Refusal → Type 0) (n : ℕ) : Type 0 where
  reads : {x : X} {rest : List ℕ} → Is x rest → length rest < n → Outcome Is Fault n
  faults : {f : Refusal} → Fault f → Outcome Is Fault n

abbrev OfValue : ℕ → List ℕ → Type 0
OfValue e text = Outcome (IsValue e text) (FailsValue e text) (length text)

value_joint : (e : ℕ) (text left : List ℕ) (p : RawPiece) (j : Option (List ℕ)) → behind_joint left ≡ j
    → IsRestLess (length left) j → piece_at e text ≡ Ok (p, left) → length left < length text
    → ((t : List ℕ) → length t < length text → OfValue e t) → OfValue e text
value_joint e text left p None j less read l onward =
    reads (last_piece read j refl) (omega (arith, blank_le left))
value_joint e text left p (Some next) j less read l onward =
    elim (onward next (omega arith)) [ reads v k ↦ reads (next_piece read j v) (omega arith) | faults f ↦ faults (later_piece read j f) ]

value_piece : (e : ℕ) (text : List ℕ) (r : Read RawPiece) → piece_at e text ≡ r → IsLess (length text) r
    → ((t : List ℕ) → length t < length text → OfValue e t) → OfValue e text
value_piece e text (Err f) read less onward = faults (no_piece read)
value_piece e text (Ok p) read less onward =
    value_joint e text p.1 p.0 (behind_joint p.1) refl (joint_less p.1) read less onward

some_value : (n e : ℕ) (text : List ℕ) → length text ≤ n → OfValue e text
some_value zero e text le = value_piece e text (piece_at e text) refl (piece_less e text) (λ t l. absurd (omega arith))
some_value (suc n) e text le =
    value_piece e text (piece_at e text) refl (piece_less e text) (λ t l. some_value n e t (omega arith))

abbrev OfField : ℕ → List ℕ → Type 0
OfField e text = Outcome (IsField e text) (FailsField e text) (length text)

field_head : (e : ℕ) (text : List ℕ) (r : Read (List ℕ)) → head_at e text ≡ r → IsLess (suc (length text)) r → OfField e text
field_head e text (Err f) read less = faults (no_head read)
field_head e text (Ok p) read less =
    elim (some_value (length p.1) e p.1 (omega arith)) [
      | reads {x = ps} v k ↦ (let f : RawField = record { name = p.0; value = ps } in reads {x = f} (field read v) (omega arith))
      | faults f ↦ faults (no_value read f)
    ]

some_field : (e : ℕ) (text : List ℕ) → OfField e text
some_field e text = field_head e text (head_at e text) refl (head_less e text)

abbrev OfFields : ℕ → ℕ → List ℕ → Type 0
OfFields e close text = Outcome (AreFields e close text) (FailFields e close text) (length text)

fields_behind : (e close : ℕ) (text left : List ℕ) (f : RawField) (x : Front) → front close left ≡ x
    → IsFrontLess (length left) x → front close text ≡ other → IsField e text f left → length left < length text
    → ((t : List ℕ) → length t < length text → OfFields e close t) → OfFields e close text
fields_behind e close text left f (ended rest) x less begins is l next = reads (last_field begins is x) (omega arith)
fields_behind e close text left f (more rest) x less begins is l next =
    elim (next rest (omega arith)) [ reads v k ↦ reads (next_field begins is x v) (omega arith) | faults g ↦ faults (fails_later begins is x g) ]
fields_behind e close text left f other x less begins is l next = faults (no_comma begins is x)
fields_behind e close text left f nothing x less begins is l next = faults (field_left_open begins is x)

fields_front : (e close : ℕ) (text : List ℕ) (x : Front) → front close text ≡ x → IsFrontLess (length text) x
    → ((t : List ℕ) → length t < length text → OfFields e close t) → OfFields e close text
fields_front e close text (ended rest) x less next = reads (no_field x) less
fields_front e close text (more rest) x less next =
    elim (next rest less) [ reads v k ↦ reads (behind_comma x v) (omega arith) | faults g ↦ faults (fails_behind_comma x g) ]
fields_front e close text nothing x less next = faults (left_open x)
fields_front e close text other x less next =
    elim (some_field e text) [
      | reads {x = f} {rest = left} is l ↦ fields_behind e close text left f (front close left) refl (front_less close left) x is l next
      | faults g ↦ faults (fails_field x g)
    ]

some_fields : (n e close : ℕ) (text : List ℕ) → length text ≤ n → OfFields e close text
some_fields zero e close text le =
    fields_front e close text (front close text) refl (front_less close text) (λ t l. absurd (omega arith))
some_fields (suc n) e close text le =
    fields_front e close text (front close text) refl (front_less close text) (λ t l. some_fields n e close t (omega arith))

abbrev OfItem : ℕ → ℕ → List ℕ → List ℕ → Type 0
OfItem at close name text = Outcome (IsItem at close name text) (FailsItem at close name text) (length text)

item_behind : (at close : ℕ) (name text key left : List ℕ) (x : Front) → front close left ≡ x
    → IsFrontLess (length left) x → is_called (codes "string") name ≡ false
    → key_at at close text ≡ Ok (key, left) → length left ≤ length text → OfItem at close name text
item_behind at close name text key left (ended rest) x less other_type read l =
    reads (key_alone other_type read x) (omega arith)
item_behind at close name text key left (more rest) x less other_type read l =
    elim (some_fields (length rest) at close rest (omega arith)) [
      | reads v k ↦ reads (with_fields other_type read x v) (omega arith)
      | faults g ↦ faults (fails_fields other_type read x g)
    ]
item_behind at close name text key left other x less other_type read l =
    faults (no_comma_behind_key other_type read x)
item_behind at close name text key left nothing x less other_type read l =
    faults (key_left_open other_type read x)

item_key : (at close : ℕ) (name text : List ℕ) (r : Read (List ℕ)) → key_at at close text ≡ r
    → IsLess (suc (length text)) r → is_called (codes "string") name ≡ false → OfItem at close name text
item_key at close name text (Err f) read less other_type = faults (no_key other_type read)
item_key at close name text (Ok p) read less other_type =
    item_behind at close name text p.0 p.1 (front close p.1) refl (front_less close p.1) other_type read (omega arith)

item_type : (at close : ℕ) (name text : List ℕ) (b : Bool) → is_called (codes "string") name ≡ b → OfItem at close name text
item_type at close name text false is = item_key at close name text (key_at at close text) refl (key_less at close text) is
item_type at close name text true is =
    elim (some_fields (length text) at close text (omega arith)) [
      | reads v k ↦ reads (defines is v) k
      | faults g ↦ faults (fails_strings is g)
    ]

-- items, or a fault
pub data OfText (text : List ℕ) : Type 0 where
  says : {is : List RawItem} → Says text is → OfText text
  refused : {f : Refusal} → Fails text f → OfText text

text_skipped : (text next : List ℕ) (o : Opening) (r : Read ℕ) → comment_at (length next + 1) o.close o.rest ≡ r
    → IsLess (suc (length o.rest)) r → behind_at false text ≡ Some next → opening_at next ≡ Some o
    → is_skipped o.kind ≡ true → length o.rest < length text
    → ((t : List ℕ) → length t < length text → OfText t) → OfText text
text_skipped text next o (Err f) read less begins opens is l onward = refused (in_skipped begins opens is read)
text_skipped text next o (Ok p) read less begins opens is l onward =
    elim (onward p.1 (omega arith)) [
      | says v ↦ says (skipped begins opens is read v)
      | refused f ↦ refused (behind_skipped begins opens is read f)
    ]

text_type : (text next : List ℕ) (o : Opening) (b : Bool) → is_skipped o.kind ≡ b → behind_at false text ≡ Some next
    → opening_at next ≡ Some o → length o.rest < length text
    → ((t : List ℕ) → length t < length text → OfText t) → OfText text
text_type text next o true is begins opens l onward =
    text_skipped text next o (comment_at (length next + 1) o.close o.rest) refl (skipped_less (length next + 1) o.close o.rest) begins opens is l onward
text_type text next o false is begins opens l onward =
    elim (item_type (length next + 1) o.close o.kind (behind_blank o.rest) (is_called (codes "string") o.kind) refl) [
      | reads {rest = rest} i k ↦ (elim (onward rest (omega (arith, blank_le o.rest))) [
        | says v ↦ says (an_item begins opens is i v)
        | refused f ↦ refused (behind_item begins opens is i f)
      ])
      | faults f ↦ refused (in_item begins opens is f)
    ]

text_opening : (text next : List ℕ) (o : Option Opening) → opening_at next ≡ o → IsOpeningLess (length next) o
    → behind_at false text ≡ Some next → length next < length text
    → ((t : List ℕ) → length t < length text → OfText t) → OfText text
text_opening text next None opens less begins l onward =
    elim (onward next l) [
      | says v ↦ says (stray_sign begins opens v refl)
      | refused f ↦ refused (behind_stray begins opens f)
    ]
text_opening text next (Some o) opens less begins l onward =
    text_type text next o (is_skipped o.kind) refl begins opens (omega arith) onward

text_at : (text : List ℕ) (next : Option (List ℕ)) → behind_at false text ≡ next → IsRestLess (length text) next
    → ((t : List ℕ) → length t < length text → OfText t) → OfText text
text_at text None begins less onward = says (no_more begins)
text_at text (Some next) begins less onward =
    text_opening text next (opening_at next) refl (opening_less next) begins less onward

some_text : (n : ℕ) (text : List ℕ) → length text ≤ n → OfText text
some_text zero text le = text_at text (behind_at false text) refl (at_less false text) (λ t l. absurd (omega arith))
some_text (suc n) text le =
    text_at text (behind_at false text) refl (at_less false text) (λ t l. some_text n t (omega arith))

pub of_text : (text : List ℕ) → OfText text
of_text text = some_text (length text) text (omega arith)
