use Rattle.std.proofs.Common.{◌≡◌, ◌∙◌, refl, sym}
use Rattle.std.specs.Prelude.{string_bytes}
use Rattle.std.proofs.lemmas.Slice.Eq.{bytes_eq-Decides}
use Rattle.haya_entry.proofs.SerialLemmas.{same_key, serials-insert}
use Rattle.haya_entry.proofs.serial_number.SerialNumber.insert.Goals as goal

pub returns-in-Some-clause-ok : goal.returns-in-Some-clause-ok
returns-in-Some-clause-ok c =
    let same : c.as_str.result.now ≡ c.as_str-in-Some-1.result.now = (bytes_eq-Decides _ _).0 (sym c.eq.ensures ∙ c.if-eq.true) in
    let keys : string_bytes c.in-Some.only.0 ≡ string_bytes c.args.key = sym c.as_str-in-Some-1.ensures.value ∙ sym same ∙ c.as_str.ensures.value in
    rw (← c.take.ensures.value, c.in-Some.is, keys) (sym (same_key (string_bytes c.args.key) (string_bytes c.args.text) _ _))

pub returns-in_ok-insert-in-None-2-clause-ok : goal.returns-in_ok-insert-in-None-2-clause-ok
returns-in_ok-insert-in-None-2-clause-ok c =
    rw (c.take.ensures.after, ← c.take.ensures.value, c.in-None.is, c.in_ok-insert-in-None-2.ensures.entries, serials-insert) refl
