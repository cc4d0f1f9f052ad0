use Rattle.std.proofs.Common.{ap}
use Rattle.std.specs.Map.{lookup}
use Rattle.std.specs.Prelude.{is_some, string_bytes}
use Rattle.std.specs.Str.{bytes_eq}
use Rattle.haya_command.specs.InTurn.{was_seen}
use Rattle.haya_command.proofs.seen_keys.SeenKeys.new.Goals as goal

pub returns : goal.returns
unfolding was_seen
returns c = λ key. ap (λ entries. is_some (lookup (λ k. bytes_eq key (string_bytes k)) entries)) c.with_hasher.ensures.empty
