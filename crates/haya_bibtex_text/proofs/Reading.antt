-- The grammar as functions: what is read at the front of a text, and its fault. Where a part may
-- come again, `onward` reads what is left.
use Rattle.std.proofs.Common.{◌≡◌, ℕ, zero, suc, ◌+◌, ◌<◌, ◌≤◌, Bool, true, false, List, [], ◌∷◌, ◌++◌, length, codes, Option, Some, None, Result, Ok, Err, refl, ap, arith}
use Rattle.haya_bibtex_text.specs.Blanks.{behind_blank}
use Rattle.haya_bibtex_text.specs.Fields.{AreFields, FailFields, FailsField, Front, IsField, RawField, behind_comma, ended, fails_behind_comma, fails_field, fails_later, field, field_left_open, front, head_at, last_field, left_open, more, next_field, no_comma, no_field, no_head, no_value, nothing, other}
use Rattle.haya_bibtex_text.specs.Items.{Fails, FailsItem, IsItem, RawItem, Says, an_item, behind_item, behind_skipped, behind_stray, defines, entry, fails_fields, fails_strings, in_item, in_skipped, key_alone, key_at, key_left_open, no_comma_behind_key, no_key, no_more, signs, skipped, comment_at, stray_sign, strings, with_fields}
use Rattle.haya_bibtex_text.specs.Openings.{Opening, behind_at, is_called, is_skipped, opening_at}
use Rattle.haya_bibtex_text.specs.Pieces.{RawPiece, Read, fault, piece_at}
use Rattle.haya_bibtex_text.specs.Values.{FailsValue, IsValue, behind_joint, last_piece, later_piece, next_piece, no_piece}
use Rattle.haya_bibtex_text.specs.declared.fault.FaultKind.TheVariants as kind
use Rattle.haya_bibtex_text.specs.declared.fault.Refusal.{Refusal}
use Rattle.haya_bibtex_text.proofs.Shorter.{at_less, blank_le, front_less, head_less, joint_less, key_less, opening_less, piece_less, skipped_less}

-- what is read behind what is read
abbrev and_then : {A B : Type 0} → Read A → (A → List ℕ → Read B) → Read B
and_then (Ok p) f = f p.0 p.1
and_then (Err g) f = Err g

abbrev value_joint : RawPiece → List ℕ → Option (List ℕ) → (List ℕ → Read (List RawPiece)) → Read (List RawPiece)
value_joint p left None onward = Ok (p ∷ [], behind_blank left)
value_joint p left (Some next) onward = and_then (onward next) (λ ps rest. Ok (p ∷ ps, rest))

abbrev value_step : ℕ → (List ℕ → Read (List RawPiece)) → List ℕ → Read (List RawPiece)
value_step e onward text =
    and_then (piece_at e text) (λ p left. value_joint p left (behind_joint left) onward)

abbrev value_in : ℕ → ℕ → List ℕ → Read (List RawPiece)
value_in zero e text = value_step e (λ t. Err (fault kind.Open 0)) text
value_in (suc n) e text = value_step e (value_in n e) text

piece_shorter : (e : ℕ) (text left : List ℕ) (p : RawPiece) → piece_at e text ≡ Ok (p, left) → length left < length text
piece_shorter e text left p read = rw read at (piece_less e text)

joint_shorter : (left next : List ℕ) → behind_joint left ≡ Some next → length next < length left
joint_shorter left next j = rw j at (joint_less left)

value_shorter : {e : ℕ} {text rest : List ℕ} {ps : List RawPiece} → IsValue e text ps rest → length rest < length text
value_shorter {e} (last_piece {text} {left} {rest} {p} read j end) =
    omega (arith, piece_shorter e text left p read, ap length end, blank_le left)
value_shorter {e} (next_piece {text} {left} {next} {rest} {p} read j v) =
    omega (arith, piece_shorter e text left p read, joint_shorter left next j, value_shorter v)

value_reads : {e : ℕ} {text rest : List ℕ} {ps : List RawPiece} → IsValue e text ps rest → (n : ℕ) → length text ≤ n
    → value_in n e text ≡ Ok (ps, rest)
value_reads (last_piece read j end) zero le = rw (read, j, end) refl
value_reads (last_piece read j end) (suc n) le = rw (read, j, end) refl
value_reads {e} (next_piece {text} {left} {next} {rest} {p} read j v) zero le =
    absurd (omega (arith, piece_shorter e text left p read))
value_reads {e} (next_piece {text} {left} {next} {rest} {p} read j v) (suc n) le =
    rw (read, j, value_reads v n (omega (arith, piece_shorter e text left p read, joint_shorter left next j))) refl

value_faults : {e : ℕ} {text : List ℕ} {f : Refusal} → FailsValue e text f → (n : ℕ) → length text ≤ n
    → value_in n e text ≡ Err f
value_faults (no_piece read) zero le = rw read refl
value_faults (no_piece read) (suc n) le = rw read refl
value_faults {e} (later_piece {text} {left} {next} {p} read j v) zero le =
    absurd (omega (arith, piece_shorter e text left p read))
value_faults {e} (later_piece {text} {left} {next} {p} read j v) (suc n) le =
    rw (read, j, value_faults v n (omega (arith, piece_shorter e text left p read, joint_shorter left next j))) refl

abbrev field_of : ℕ → List ℕ → Read RawField
field_of e text =
    and_then (head_at e text) (λ name left.
    and_then (value_in (length left) e left) (λ ps rest. Ok (record { name = name; value = ps }, rest)))

field_shorter : {e : ℕ} {text rest : List ℕ} {f : RawField} → IsField e text f rest → length rest < length text
field_shorter {e} (field {text} {left} {rest} {f} read v) =
    let head : length left < suc (length text) = rw read at (head_less e text) in omega (arith, value_shorter v)

field_reads : {e : ℕ} {text rest : List ℕ} {f : RawField} → IsField e text f rest → field_of e text ≡ Ok (f, rest)
field_reads (field {text} {left} {rest} {f} read v) = rw (read, value_reads v (length left) (omega arith)) refl

field_faults : {e : ℕ} {text : List ℕ} {f : Refusal} → FailsField e text f → field_of e text ≡ Err f
field_faults (no_head read) = rw read refl
field_faults (no_value {text} {left} read v) = rw (read, value_faults v (length left) (omega arith)) refl

abbrev fields_behind : ℕ → RawField → List ℕ → (List ℕ → Read (List RawField)) → Front → Read (List RawField)
fields_behind e f left onward (ended rest) = Ok (f ∷ [], rest)
fields_behind e f left onward (more next) = and_then (onward next) (λ fs rest. Ok (f ∷ fs, rest))
fields_behind e f left onward other = Err (fault kind.Comma (length left))
fields_behind e f left onward nothing = Err (fault kind.Open e)

abbrev fields_front : ℕ → ℕ → List ℕ → (List ℕ → Read (List RawField)) → Front → Read (List RawField)
fields_front e close text onward (ended rest) = Ok ([], rest)
fields_front e close text onward (more next) = onward next
fields_front e close text onward nothing = Err (fault kind.Open e)
fields_front e close text onward other =
    and_then (field_of e text) (λ f left. fields_behind e f left onward (front close left))

abbrev fields_in : ℕ → ℕ → ℕ → List ℕ → Read (List RawField)
fields_in zero e close text = fields_front e close text (λ t. Err (fault kind.Open 0)) (front close text)
fields_in (suc n) e close text = fields_front e close text (fields_in n e close) (front close text)

more_shorter : (close : ℕ) (text next : List ℕ) → front close text ≡ more next → length next < length text
more_shorter close text next x = rw x at (front_less close text)

ended_shorter : (close : ℕ) (text rest : List ℕ) → front close text ≡ ended rest → length rest < length text
ended_shorter close text rest x = rw x at (front_less close text)

fields_shorter : {e close : ℕ} {text rest : List ℕ} {fs : List RawField} → AreFields e close text fs rest
    → length rest < length text
fields_shorter {e} {close} (no_field {text} {rest} x) = ended_shorter close text rest x
fields_shorter {e} {close} (behind_comma {text} {next} x v) =
    omega (arith, more_shorter close text next x, fields_shorter v)
fields_shorter {e} {close} (last_field {text} {left} {rest} x f y) =
    omega (arith, field_shorter f, ended_shorter close left rest y)
fields_shorter {e} {close} (next_field {text} {left} {next} x f y v) =
    omega (arith, field_shorter f, more_shorter close left next y, fields_shorter v)

fields_reads : {e close : ℕ} {text rest : List ℕ} {fs : List RawField} → AreFields e close text fs rest → (n : ℕ)
    → length text ≤ n → fields_in n e close text ≡ Ok (fs, rest)
fields_reads (no_field x) zero le = rw x refl
fields_reads (no_field x) (suc n) le = rw x refl
fields_reads {e} {close} (behind_comma {text} {next} x v) zero le = absurd (omega (arith, more_shorter close text next x))
fields_reads {e} {close} (behind_comma {text} {next} x v) (suc n) le =
    rw x (fields_reads v n (omega (arith, more_shorter close text next x)))
fields_reads (last_field x f y) zero le = rw (x, field_reads f, y) refl
fields_reads (last_field x f y) (suc n) le = rw (x, field_reads f, y) refl
fields_reads (next_field x f y v) zero le = absurd (omega (arith, field_shorter f))
fields_reads {e} {close} (next_field {text} {left} {next} x f y v) (suc n) le =
    rw (x, field_reads f, y, fields_reads v n (omega (arith, field_shorter f, more_shorter close left next y))) refl

fields_faults : {e close : ℕ} {text : List ℕ} {f : Refusal} → FailFields e close text f → (n : ℕ) → length text ≤ n
    → fields_in n e close text ≡ Err f
fields_faults (left_open x) zero le = rw x refl
fields_faults (left_open x) (suc n) le = rw x refl
fields_faults {e} {close} (fails_behind_comma {text} {next} x v) zero le = absurd (omega (arith, more_shorter close text next x))
fields_faults {e} {close} (fails_behind_comma {text} {next} x v) (suc n) le =
    rw x (fields_faults v n (omega (arith, more_shorter close text next x)))
fields_faults (fails_field x f) zero le = rw (x, field_faults f) refl
fields_faults (fails_field x f) (suc n) le = rw (x, field_faults f) refl
fields_faults (field_left_open x f y) zero le = rw (x, field_reads f, y) refl
fields_faults (field_left_open x f y) (suc n) le = rw (x, field_reads f, y) refl
fields_faults (no_comma x f y) zero le = rw (x, field_reads f, y) refl
fields_faults (no_comma x f y) (suc n) le = rw (x, field_reads f, y) refl
fields_faults (fails_later x f y v) zero le = absurd (omega (arith, field_shorter f))
fields_faults {e} {close} (fails_later {text} {left} {next} x f y v) (suc n) le =
    rw (x, field_reads f, y, fields_faults v n (omega (arith, field_shorter f, more_shorter close left next y))) refl

abbrev fields_of : ℕ → ℕ → List ℕ → Read (List RawField)
fields_of e close text = fields_in (length text) e close text

abbrev item_behind : ℕ → ℕ → List ℕ → List ℕ → List ℕ → Front → Read RawItem
item_behind at close name key left (ended rest) = Ok (entry name key [], rest)
item_behind at close name key left (more next) =
    and_then (fields_of at close next) (λ fs rest. Ok (entry name key fs, rest))
item_behind at close name key left other = Err (fault kind.Comma (length left))
item_behind at close name key left nothing = Err (fault kind.Open at)

abbrev item_by : ℕ → ℕ → List ℕ → List ℕ → Bool → Read RawItem
item_by at close name text true = and_then (fields_of at close text) (λ fs rest. Ok (strings fs, rest))
item_by at close name text false =
    and_then (key_at at close text) (λ key left. item_behind at close name key left (front close left))

abbrev item_of : ℕ → ℕ → List ℕ → List ℕ → Read RawItem
item_of at close name text = item_by at close name text (is_called (codes "string") name)

key_shorter : (at close : ℕ) (text key left : List ℕ) → key_at at close text ≡ Ok (key, left) → length left < suc (length text)
key_shorter at close text key left read = rw read at (key_less at close text)

item_shorter : {at close : ℕ} {name text rest : List ℕ} {i : RawItem} → IsItem at close name text i rest
    → length rest < length text
item_shorter (defines t v) = fields_shorter v
item_shorter {at} {close} (key_alone {text} {key} {left} {rest} t read x) =
    omega (arith, key_shorter at close text key left read, ended_shorter close left rest x)
item_shorter {at} {close} (with_fields {text} {key} {left} {next} t read x v) =
    omega (arith, key_shorter at close text key left read, more_shorter close left next x, fields_shorter v)

item_reads : {at close : ℕ} {name text rest : List ℕ} {i : RawItem} → IsItem at close name text i rest
    → item_of at close name text ≡ Ok (i, rest)
item_reads (defines {text} t v) = rw (t, fields_reads v (length text) (omega arith)) refl
item_reads (key_alone t read x) = rw (t, read, x) refl
item_reads (with_fields {text} {key} {left} {next} t read x v) =
    rw (t, read, x, fields_reads v (length next) (omega arith)) refl

item_faults : {at close : ℕ} {name text : List ℕ} {f : Refusal} → FailsItem at close name text f
    → item_of at close name text ≡ Err f
item_faults (fails_strings {text} t v) = rw (t, fields_faults v (length text) (omega arith)) refl
item_faults (no_key t read) = rw (t, read) refl
item_faults (key_left_open t read x) = rw (t, read, x) refl
item_faults (no_comma_behind_key t read x) = rw (t, read, x) refl
item_faults (fails_fields {text} {key} {left} {next} t read x v) =
    rw (t, read, x, fields_faults v (length next) (omega arith)) refl

-- the items of a text, or its fault
abbrev Items : Type 0
Items = Result (List RawItem) Refusal

abbrev before : List RawItem → Items → Items
before is (Ok js) = Ok (is ++ js)
before is (Err f) = Err f

abbrev onward_of : {A : Type 0} → Read A → (A → List RawItem) → (List ℕ → Items) → Items
onward_of (Ok p) f onward = before (f p.0) (onward p.1)
onward_of (Err g) f onward = Err g

abbrev items_by : List ℕ → Opening → (List ℕ → Items) → Bool → Items
items_by next o onward true = onward_of (comment_at (length next + 1) o.close o.rest) (λ n. []) onward
items_by next o onward false =
    onward_of (item_of (length next + 1) o.close o.kind (behind_blank o.rest)) (λ i. i ∷ []) onward

abbrev items_opening : List ℕ → (List ℕ → Items) → Option Opening → Items
items_opening next onward None = before (signs next) (onward next)
items_opening next onward (Some o) = items_by next o onward (is_skipped o.kind)

abbrev items_at : (List ℕ → Items) → Option (List ℕ) → Items
items_at onward None = Ok []
items_at onward (Some next) = items_opening next onward (opening_at next)

abbrev items_in : ℕ → List ℕ → Items
items_in zero text = items_at (λ t. Err (fault kind.Open 0)) (behind_at false text)
items_in (suc n) text = items_at (items_in n) (behind_at false text)

at_shorter : (text next : List ℕ) → behind_at false text ≡ Some next → length next < length text
at_shorter text next a = rw a at (at_less false text)

opening_shorter : (next : List ℕ) (o : Opening) → opening_at next ≡ Some o → length o.rest < length next
opening_shorter next o e = rw e at (opening_less next)

skipped_shorter : (at close n : ℕ) (text rest : List ℕ) → comment_at at close text ≡ Ok (n, rest) → length rest < suc (length text)
skipped_shorter at close n text rest e = rw e at (skipped_less at close text)

inner_shorter : (text next : List ℕ) (o : Opening) → behind_at false text ≡ Some next → opening_at next ≡ Some o
    → length (behind_blank o.rest) < length text
inner_shorter text next o a b = omega (arith, at_shorter text next a, opening_shorter next o b, blank_le o.rest)

skip_shorter : (text next rest : List ℕ) (o : Opening) (n : ℕ) → behind_at false text ≡ Some next → opening_at next ≡ Some o
    → comment_at (length next + 1) o.close o.rest ≡ Ok (n, rest) → length rest < length text
skip_shorter text next rest o n a b s =
    omega (arith, at_shorter text next a, opening_shorter next o b, skipped_shorter (length next + 1) o.close n o.rest rest s)

pub items_read : {text : List ℕ} {is : List RawItem} → Says text is → (n : ℕ) → length text ≤ n → items_in n text ≡ Ok is
items_read (no_more a) zero le = rw a refl
items_read (no_more a) (suc n) le = rw a refl
items_read (stray_sign {text} {next} a b v e) zero le = absurd (omega (arith, at_shorter text next a))
items_read (stray_sign {text} {next} a b v e) (suc n) le =
    rw (a, b, items_read v n (omega (arith, at_shorter text next a)), e) refl
items_read (skipped {text} {next} {rest} {o} {n = k} a b t s v) zero le = absurd (omega (arith, at_shorter text next a))
items_read (skipped {text} {next} {rest} {o} {n = k} a b t s v) (suc n) le =
    rw (a, b, t, s, items_read v n (omega (arith, skip_shorter text next rest o k a b s))) refl
items_read (an_item {text} {next} {rest} {o} a b t i v) zero le = absurd (omega (arith, at_shorter text next a))
items_read (an_item {text} {next} {rest} {o} a b t i v) (suc n) le =
    rw (a, b, t, item_reads i, items_read v n (omega (arith, inner_shorter text next o a b, item_shorter i))) refl

pub items_fault : {text : List ℕ} {f : Refusal} → Fails text f → (n : ℕ) → length text ≤ n → items_in n text ≡ Err f
items_fault (behind_stray {text} {next} a b v) zero le = absurd (omega (arith, at_shorter text next a))
items_fault (behind_stray {text} {next} a b v) (suc n) le =
    rw (a, b, items_fault v n (omega (arith, at_shorter text next a))) refl
items_fault (in_skipped a b t s) zero le = rw (a, b, t, s) refl
items_fault (in_skipped a b t s) (suc n) le = rw (a, b, t, s) refl
items_fault (behind_skipped {text} {next} {rest} {o} {n = k} a b t s v) zero le = absurd (omega (arith, at_shorter text next a))
items_fault (behind_skipped {text} {next} {rest} {o} {n = k} a b t s v) (suc n) le =
    rw (a, b, t, s, items_fault v n (omega (arith, skip_shorter text next rest o k a b s))) refl
items_fault (in_item a b t i) zero le = rw (a, b, t, item_faults i) refl
items_fault (in_item a b t i) (suc n) le = rw (a, b, t, item_faults i) refl
items_fault (behind_item {text} {next} {rest} {o} a b t i v) zero le = absurd (omega (arith, at_shorter text next a))
items_fault (behind_item {text} {next} {rest} {o} a b t i v) (suc n) le =
    rw (a, b, t, item_reads i, items_fault v n (omega (arith, inner_shorter text next o a b, item_shorter i))) refl

ok_same : {is js : List RawItem} {r : Items} → r ≡ Ok is → r ≡ Ok js → is ≡ js
ok_same a b = cc

err_same : {f g : Refusal} {r : Items} → r ≡ Err f → r ≡ Err g → f ≡ g
err_same a b = cc

ok_err : {is : List RawItem} {f : Refusal} {r : Items} → r ≡ Ok is → r ≡ Err f → ⊥
ok_err a b = cc

pub one_text : {text : List ℕ} {is js : List RawItem} → Says text is → Says text js → is ≡ js
one_text {text} a b = ok_same (items_read a (length text) (omega arith)) (items_read b (length text) (omega arith))

pub one_text_fault : {text : List ℕ} {f g : Refusal} → Fails text f → Fails text g → f ≡ g
one_text_fault {text} a b = err_same (items_fault a (length text) (omega arith)) (items_fault b (length text) (omega arith))

pub text_or_fault : {text : List ℕ} {is : List RawItem} {f : Refusal} → Says text is → Fails text f → ⊥
text_or_fault {text} a b = ok_err (items_read a (length text) (omega arith)) (items_fault b (length text) (omega arith))
