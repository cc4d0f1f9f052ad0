use Rattle.std.proofs.Common.{refl, []}
use Rattle.haya_people.proofs.Steps.{initials_some, initials_none}
use Rattle.haya_people.proofs.person.Person.initials.Goals as goal

pub returns-in-Some : goal.returns-in-Some
returns-in-Some g c =
    rw (← initials_some c.args.self.now.given_name c.in-Some.given_name c.as_str.result.now c.args.delimiter _ c.unwrap_or.result c.args.with_hyphen c.in-Some.is c.as_str.ensures.value c.unwrap_or.ensures refl) c.write.ensures.writes

pub returns-in-None : goal.returns-in-None
returns-in-None g c = rw (← initials_none c.args.self.now.given_name _ c.in-None.is) (record { parts = []; calls = refl; whole = refl })
