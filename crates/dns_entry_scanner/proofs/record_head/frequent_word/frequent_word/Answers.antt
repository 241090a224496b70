use Rattle.std.proofs.Common.{arith, rules}
use Rattle.dns_entry_scanner.proofs.FrequentWords.{octets_1, octets_2, octets_3, octets_4, octets_5, octets_6, says_a, says_in, says_ns, says_ds, says_mx, says_rp, says_txt, says_ptr, says_soa, says_srv, says_caa, says_aaaa, says_nsec, says_cname, says_hinfo, says_rrsig, says_nsec3, says_dnskey}
use Rattle.dns_entry_scanner.proofs.record_head.frequent_word.frequent_word.Goals as goal

pub returns-in-65 : goal.returns-in-65
returns-in-65 c = says_a (octets_1 c.args.text.now (omega arith) (search rules))

pub returns-in-73 : goal.returns-in-73
returns-in-73 c = says_in (octets_2 c.args.text.now (omega arith) (search rules) (search rules))

pub returns-in-78 : goal.returns-in-78
returns-in-78 c = says_ns (octets_2 c.args.text.now (omega arith) (search rules) (search rules))

pub returns-in-68 : goal.returns-in-68
returns-in-68 c = says_ds (octets_2 c.args.text.now (omega arith) (search rules) (search rules))

pub returns-in-77 : goal.returns-in-77
returns-in-77 c = says_mx (octets_2 c.args.text.now (omega arith) (search rules) (search rules))

pub returns-in-82 : goal.returns-in-82
returns-in-82 c = says_rp (octets_2 c.args.text.now (omega arith) (search rules) (search rules))

pub returns-in-84 : goal.returns-in-84
returns-in-84 c = says_txt (octets_3 c.args.text.now (omega arith) (search rules) (search rules) (search rules))

pub returns-in-80 : goal.returns-in-80
returns-in-80 c = says_ptr (octets_3 c.args.text.now (omega arith) (search rules) (search rules) (search rules))

pub returns-in-83 : goal.returns-in-83
returns-in-83 c = says_soa (octets_3 c.args.text.now (omega arith) (search rules) (search rules) (search rules))

pub returns-in-83-2 : goal.returns-in-83-2
returns-in-83-2 c = says_srv (octets_3 c.args.text.now (omega arith) (search rules) (search rules) (search rules))

pub returns-in-67 : goal.returns-in-67
returns-in-67 c = says_caa (octets_3 c.args.text.now (omega arith) (search rules) (search rules) (search rules))

pub returns-in-65-2 : goal.returns-in-65-2
returns-in-65-2 c = says_aaaa (octets_4 c.args.text.now (omega arith) (search rules) (search rules) (search rules) (search rules))

pub returns-in-78-2 : goal.returns-in-78-2
returns-in-78-2 c = says_nsec (octets_4 c.args.text.now (omega arith) (search rules) (search rules) (search rules) (search rules))

pub returns-in-67-2 : goal.returns-in-67-2
returns-in-67-2 c = says_cname (octets_5 c.args.text.now (omega arith) (search rules) (search rules) (search rules) (search rules) (search rules))

pub returns-in-72 : goal.returns-in-72
returns-in-72 c = says_hinfo (octets_5 c.args.text.now (omega arith) (search rules) (search rules) (search rules) (search rules) (search rules))

pub returns-in-82-2 : goal.returns-in-82-2
returns-in-82-2 c = says_rrsig (octets_5 c.args.text.now (omega arith) (search rules) (search rules) (search rules) (search rules) (search rules))

pub returns-in-78-3 : goal.returns-in-78-3
returns-in-78-3 c = says_nsec3 (octets_5 c.args.text.now (omega arith) (search rules) (search rules) (search rules) (search rules) (search rules))

pub returns-in-68-2 : goal.returns-in-68-2
returns-in-68-2 c = says_dnskey (octets_6 c.args.text.now (omega arith) (search rules) (search rules) (search rules) (search rules) (search rules) (search rules))
