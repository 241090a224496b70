use Rattle.std.proofs.Common.{arith, rules}
use Rattle.dns_field_texts.proofs.FrequentTypes.{octets_1, octets_2, octets_4, octets_5, a_read, ns_read, ds_read, aaaa_read, nsec_read, rrsig_read, nsec3_read}
use Rattle.dns_field_texts.proofs.frequent_types.frequent_type.Goals as goal

pub returns-in-65 : goal.returns-in-65
returns-in-65 c = a_read c.args.word.now (octets_1 c.args.word.now (omega arith) (search rules))

pub returns-in-78 : goal.returns-in-78
returns-in-78 c = ns_read c.args.word.now (octets_2 c.args.word.now (omega arith) (search rules) (search rules))

pub returns-in-68 : goal.returns-in-68
returns-in-68 c = ds_read c.args.word.now (octets_2 c.args.word.now (omega arith) (search rules) (search rules))

pub returns-in-65-2 : goal.returns-in-65-2
returns-in-65-2 c = aaaa_read c.args.word.now (octets_4 c.args.word.now (omega arith) (search rules) (search rules) (search rules) (search rules))

pub returns-in-78-2 : goal.returns-in-78-2
returns-in-78-2 c = nsec_read c.args.word.now (octets_4 c.args.word.now (omega arith) (search rules) (search rules) (search rules) (search rules))

pub returns-in-82 : goal.returns-in-82
returns-in-82 c = rrsig_read c.args.word.now (octets_5 c.args.word.now (omega arith) (search rules) (search rules) (search rules) (search rules) (search rules))

pub returns-in-78-3 : goal.returns-in-78-3
returns-in-78-3 c = nsec3_read c.args.word.now (octets_5 c.args.word.now (omega arith) (search rules) (search rules) (search rules) (search rules) (search rules))
