use Rattle.std.proofs.Common.{◌≡◌, ◌≢◌, inl, inr, subst, sym, true, ◌∙◌}
use Rattle.std.specs.Option.{option_eq}
use Rattle.haya_source.specs.contracts.kind.ElementKindPartialEq.TheImpl.{eq-value}
use Rattle.haya_command.specs.SourceForm.{kind_in}
use Rattle.haya_command.proofs.SameKinds.{same_as_itself}
use Rattle.haya_command.proofs.source_kinds.kind_behind.Goals as goal

pub returns-in-Some-2-clause-fault : goal.returns-in-Some-2-clause-fault
returns-in-Some-2-clause-fault c =
    elim c.kind_fault.ensures [
      | inl memory ↦ inl memory
      | inr is ↦ inr (is c.args.form c.args.first c.args.format (c.other_kind.ensures differs))
    ]
  where
    differs : kind_in c.args.form c.args.format ≢ kind_in c.args.form c.args.first
    differs same =
        let results : c.kind_in-kind.result ≡ c.kind_in.result =
        c.kind_in-kind.ensures ∙ same ∙ sym c.kind_in.ensures in
        let equal : c.eq-is_same.result ≡ true =
        c.eq-is_same.ensures
        ∙ subst (λ o. option_eq eq-value.it c.kind_in-kind.result o ≡ true) results
        (same_as_itself c.kind_in-kind.result) in
        let no : ⊥ = cc (equal, c.if-is_same.false) in no

pub returns-in-None-clause-fault : goal.returns-in-None-clause-fault
returns-in-None-clause-fault c =
    elim c.kind_fault-in-None.ensures [
      | inl memory ↦ inl memory
      | inr is ↦
          inr (is c.args.form c.args.first c.args.format
          (c.no_kind.ensures c.args.first (sym c.kind_in-kind.ensures ∙ c.in-None.is)))
    ]
