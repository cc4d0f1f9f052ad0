use Rattle.haya_bibtex_text.specs.Fields.{field, no_head, no_value}
use Rattle.haya_bibtex_text.proofs.Stopping.{stops_whole}
use Rattle.haya_bibtex_text.proofs.fields.read_field.Goals as goal

pub returns-in-Err-clause-fault : goal.returns-in-Err-clause-fault
returns-in-Err-clause-fault c = no_head c.in-Err.ensures.fault

pub returns-in-Err-read_value-clause-fault : goal.returns-in-Err-read_value-clause-fault
returns-in-Err-read_value-clause-fault c =
    stops_whole _ _ (λ f fails. no_value c.in-Ok.ensures.ok fails) _ c.in-Err-read_value.ensures.fault

pub returns-in-Ok-read_value-clause-ok : goal.returns-in-Ok-read_value-clause-ok
returns-in-Ok-read_value-clause-ok c = field c.in-Ok.ensures.ok c.in-Ok-read_value.ensures.ok
