use Rattle.std.proofs.Common.{ap}
use Rattle.dns_zonefile.specs.Entries.{refused_number}
use Rattle.dns_zonefile.proofs.OneList.{not_both, refused, whole}
use Rattle.dns_zonefile.proofs.laws.texts_have_one_list_of_entries.Goals as goal

pub returns-clause-whole : goal.returns-clause-whole
returns-clause-whole c = λ start text entries others is also. whole is also

pub returns-clause-refused : goal.returns-clause-refused
returns-clause-refused c = λ start text entries others is also.
    let same = refused is also in (same, ap refused_number same)

pub returns-clause-not_both : goal.returns-clause-not_both
returns-clause-not_both c = λ start text entries others is refuses. not_both is refuses
