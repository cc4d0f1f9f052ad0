use Rattle.haya_command.proofs.OneList.{one_list_read}
use Rattle.haya_command.proofs.laws.distinct_lists_stand.Goals as goal

pub returns : goal.returns
returns c = λ options text entries printed found before after whole list distinct answers prints. record {
  library = entries;
  text = printed;
  reads = one_list_read options text entries whole list distinct;
  answers = answers;
  prints = prints;
}
