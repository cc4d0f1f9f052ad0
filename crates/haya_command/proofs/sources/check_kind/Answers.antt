use Rattle.std.proofs.Common.{◌≡◌, ◌≢◌, ◌⊎◌, inl, inr, subst, sym, true, ◌∙◌}
use Rattle.std.specs.Option.{option_eq}
use Rattle.haya_source.specs.contracts.kind.ElementKindPartialEq.TheImpl.{eq-value}
use Rattle.haya_command.specs.Source.{IsKindError, IsKindFault, IsSourceFault}
use Rattle.haya_command.specs.SourceForm.{kind_in}
use Rattle.haya_command.specs.declared.error.CommandError.TheVariants as fault
use Rattle.haya_command.proofs.SameKinds.{same_as_itself}
use Rattle.haya_command.proofs.sources.check_kind.Goals as goal

pub returns-clause-fault : goal.returns-clause-fault
returns-clause-fault c = case c.source_fault.ensures
  where
    differs : kind_in c.args.form c.in_ok-format.format ≢ kind_in c.args.form c.args.first
    differs same =
        let results : c.kind_in.result ≡ c.kind_in-2.result = c.kind_in.ensures ∙ same ∙ sym c.kind_in-2.ensures in
        let equal : c.eq.result ≡ true =
        c.eq.ensures ∙ subst (λ o. option_eq eq-value.it c.kind_in.result o ≡ true) results (same_as_itself c.kind_in.result) in
        let no : ⊥ = cc (equal, c.if-eq.false) in no

    told : IsKindError c.args.form c.args.first c.in_ok-format.format c.other_kind.result
    told = c.other_kind.ensures differs

    case : (c.source_fault.result ≡ fault.OutOfMemory) ⊎ IsSourceFault c.other_kind.result c.args.input.now c.source_fault.result
        → (c.source_fault.result ≡ fault.OutOfMemory) ⊎ IsKindFault c.args.options.now c.args.form c.args.first c.args.input.now c.source_fault.result
    case (inl memory) = inl memory
    case (inr is) = inr (record { error = c.other_kind.result; of_kind = subst (λ f. IsKindError c.args.form c.args.first f c.other_kind.result) c.in_ok-format.ensures told; is = is })
