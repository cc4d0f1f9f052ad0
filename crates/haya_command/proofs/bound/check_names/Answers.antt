use Rattle.std.proofs.lemmas.Result.{err_from_is_err_and}
use Rattle.hayagriva.specs.Syntax.{syntax}
use Rattle.haya_command.proofs.Bindable.{columns_fault, keys_fault, repeats_fault}
use Rattle.haya_command.proofs.bound.check_names.Goals as goal

pub returns-in_err-check_keys-clause-fault : goal.returns-in_err-check_keys-clause-fault
returns-in_err-check_keys-clause-fault c =
    let p = err_from_is_err_and c.from_residual-in_err-check_keys.result c.from_residual-in_err-check_keys.ensures.1 in
    rw (p.1, p.2)
    (keys_fault c.args.options.now (syntax c.in-Ok.selector) (rw c.as_str.ensures.value at c.in-Ok.ensures.grammar) _ (rw c.as_slice-2.ensures.value at c.in_err-check_keys.ensures.fault))

pub returns-in_err-check_repeats-clause-fault : goal.returns-in_err-check_repeats-clause-fault
returns-in_err-check_repeats-clause-fault c =
    let p = err_from_is_err_and c.from_residual-in_err-check_repeats.result c.from_residual-in_err-check_repeats.ensures.1 in
    rw (p.1, p.2)
    (repeats_fault c.args.options.now (syntax c.in-Ok.selector) (rw c.as_str.ensures.value at c.in-Ok.ensures.grammar) _ c.in_err-check_repeats.ensures.fault)

pub returns-in_err-check_columns-clause-fault : goal.returns-in_err-check_columns-clause-fault
returns-in_err-check_columns-clause-fault c =
    let p = err_from_is_err_and c.from_residual-in_err-check_columns.result c.from_residual-in_err-check_columns.ensures.1 in
    rw (p.1, p.2)
    (columns_fault c.args.options.now (syntax c.in-Ok.selector) (rw c.as_str.ensures.value at c.in-Ok.ensures.grammar) _ c.in_err-check_columns.ensures.fault)
