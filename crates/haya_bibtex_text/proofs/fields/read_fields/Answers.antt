use Rattle.std.proofs.Common.{sym, arith, map, append-nil}
use Rattle.haya_bibtex_text.specs.FieldViews.{field_view}
use Rattle.haya_bibtex_text.specs.Fields.{behind_comma, fails_behind_comma, fails_field, fails_later, field_left_open, left_open, no_comma, no_field}
use Rattle.haya_bibtex_text.proofs.Lists.{map_one}
use Rattle.haya_bibtex_text.proofs.FieldByField.{field_last, field_next}
use Rattle.haya_bibtex_text.proofs.Stopping.{stops_whole}
use Rattle.haya_bibtex_text.proofs.fields.read_fields.Goals as goal

pub returns-in-Ended-clause-ok : goal.returns-in-Ended-clause-ok
returns-in-Ended-clause-ok c =
    rw (append-nil (map field_view c.fields.fields.items)) at (c.fields.invariant.fields _ _ (no_field (sym c.in-Ended.ensures.front)))

pub fields-preserved-in-More : goal.fields-preserved-in-More
fields-preserved-in-More c = record {
  fields = λ fs rest v. c.fields.invariant.fields fs rest (behind_comma (sym c.in-More.ensures.front) v);
  fault = λ f later. c.fields.invariant.fault f (fails_behind_comma (sym c.in-More.ensures.front) later);
  shorter = omega (arith, c.in-More.ensures.shorter, c.fields.invariant.shorter);
}

pub returns-in-Nothing-clause-fault : goal.returns-in-Nothing-clause-fault
returns-in-Nothing-clause-fault c =
    rw c.stop_at.ensures (c.fields.invariant.fault _ (left_open (sym c.in-Nothing.ensures.front)))

pub returns-in-Err-clause-fault : goal.returns-in-Err-clause-fault
returns-in-Err-clause-fault c =
    stops_whole _ _ (λ f fails. c.fields.invariant.fault f (fails_field (sym c.in-Other.ensures.front) fails)) _
    c.in-Err.ensures.fault

pub returns-in-Ended-front_of-clause-ok : goal.returns-in-Ended-front_of-clause-ok
returns-in-Ended-front_of-clause-ok c =
    field_last _ _ _ _ _ _ _ _ _ c.fields.invariant.fields (sym c.in-Other.ensures.front) c.in-Ok.ensures.ok
    (sym c.in-Ended-front_of.ensures.front) (map_one field_view _ _ _ c.in_ok-push.ensures.items)

pub fields-preserved : goal.fields-preserved
fields-preserved c = record {
  fields = field_next _ _ _ _ _ _ _ _ _ c.fields.invariant.fields (sym c.in-Other.ensures.front)
      c.in-Ok.ensures.ok (sym c.in-More-front_of.ensures.front) (map_one field_view _ _ _ c.in_ok-push.ensures.items);
  fault = λ f later. c.fields.invariant.fault f
      (fails_later (sym c.in-Other.ensures.front) c.in-Ok.ensures.ok (sym c.in-More-front_of.ensures.front) later);
  shorter = omega (arith, c.in-More-front_of.ensures.shorter, c.in-Ok.ensures.shorter, c.fields.invariant.shorter);
}

pub returns-in-Nothing-front_of-clause-fault : goal.returns-in-Nothing-front_of-clause-fault
returns-in-Nothing-front_of-clause-fault c =
    rw c.stop_at-in-Nothing-front_of.ensures (c.fields.invariant.fault _
    (field_left_open (sym c.in-Other.ensures.front) c.in-Ok.ensures.ok (sym c.in-Nothing-front_of.ensures.front)))

pub returns-in-Other-front_of-clause-fault : goal.returns-in-Other-front_of-clause-fault
returns-in-Other-front_of-clause-fault c =
    rw c.stop_at-in-Other-front_of.ensures (c.fields.invariant.fault _
    (no_comma (sym c.in-Other.ensures.front) c.in-Ok.ensures.ok (sym c.in-Other-front_of.ensures.front)))
