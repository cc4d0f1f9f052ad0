use Rattle.std.proofs.Common.{sym}
use Rattle.haya_bibtex_text.specs.Items.{fails_fields, fails_strings, key_alone, key_left_open, no_comma_behind_key, no_key, defines, with_fields}
use Rattle.haya_bibtex_text.proofs.Stopping.{stops_whole}
use Rattle.haya_bibtex_text.proofs.items.read_item.Goals as goal

pub returns-in-Ok-clause-ok : goal.returns-in-Ok-clause-ok
returns-in-Ok-clause-ok c = defines (sym c.if-is_strings.ensures) c.in-Ok.ensures.ok

pub returns-in-Err-clause-fault : goal.returns-in-Err-clause-fault
returns-in-Err-clause-fault c =
    stops_whole _ _ (λ f fails. fails_strings (sym c.if-is_strings.ensures) fails) _ c.in-Err.ensures.fault

pub returns-in-Err-read_key-clause-fault : goal.returns-in-Err-read_key-clause-fault
returns-in-Err-read_key-clause-fault c = no_key (sym c.if-is_strings.ensures) c.in-Err-read_key.ensures.fault

pub returns-in-Ended-clause-ok : goal.returns-in-Ended-clause-ok
returns-in-Ended-clause-ok c =
    rw c.new-fields.ensures.items
    (key_alone (sym c.if-is_strings.ensures) c.in-Ok-read_key.ensures.ok (sym c.in-Ended.ensures.front))

pub returns-in-Ok-read_fields-clause-ok : goal.returns-in-Ok-read_fields-clause-ok
returns-in-Ok-read_fields-clause-ok c =
    with_fields (sym c.if-is_strings.ensures) c.in-Ok-read_key.ensures.ok (sym c.in-More.ensures.front)
    c.in-Ok-read_fields.ensures.ok

pub returns-in-Err-read_fields-clause-fault : goal.returns-in-Err-read_fields-clause-fault
returns-in-Err-read_fields-clause-fault c =
    stops_whole _ _ (λ f fails. fails_fields (sym c.if-is_strings.ensures) c.in-Ok-read_key.ensures.ok (sym c.in-More.ensures.front) fails) _
    c.in-Err-read_fields.ensures.fault

pub returns-in-Nothing-clause-fault : goal.returns-in-Nothing-clause-fault
returns-in-Nothing-clause-fault c =
    rw c.stop_at.ensures
    (key_left_open (sym c.if-is_strings.ensures) c.in-Ok-read_key.ensures.ok (sym c.in-Nothing.ensures.front))

pub returns-in-Other-clause-fault : goal.returns-in-Other-clause-fault
returns-in-Other-clause-fault c =
    rw c.stop_at-in-Other.ensures
    (no_comma_behind_key (sym c.if-is_strings.ensures) c.in-Ok-read_key.ensures.ok (sym c.in-Other.ensures.front))
