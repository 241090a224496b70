use Rattle.dns_zonefile.proofs.GivenEntries.{whole, refused}
use Rattle.dns_zonefile.proofs.laws.readers_give_the_entries_of_their_text.Goals as goal

pub returns-clause-whole : goal.returns-clause-whole
returns-clause-whole c = λ old mid new entries each ends. whole each ends

pub returns-clause-refused : goal.returns-clause-refused
returns-clause-refused c = λ old mid new entries error each fails real. refused each fails real
