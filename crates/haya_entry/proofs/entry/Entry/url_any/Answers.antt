use Rattle.std.proofs.Common.{rules, tests}
use Rattle.haya_entry.specs.Tree.{fields}
use Rattle.haya_values.specs.Url.{url_view}
use Rattle.haya_entry.proofs.FirstValues.{asks-first}
use Rattle.haya_entry.proofs.entry.Entry.url_any.Goals as goal

pub returns : goal.returns
returns c = asks-first (λ t. (fields t).url) (λ u. url_view u.now) (λ s u e answer call. search (rules, tests)) c.map.ensures.2
