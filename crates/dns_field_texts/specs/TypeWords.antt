-- Words for types: the mnemonics of RFC 1035, section 3.2.2, and of IANA's registry of types, and `TYPE` with a number (RFC 3597, section 5).
use Rattle.std.specs.Prelude.{ℕ, List, [], ◌∷◌, Option, codes, unwrap_or}
use Rattle.std.specs.Option.{option_or}
use Rattle.dns_values.specs.Mnemonic.{Mnemonics, number_named, text_of, type_read, type_written}

-- the types with a mnemonic in IANA's registry that `dns_values` has no mnemonic for
unfoldable pub more_types : Mnemonics
more_types =
    (19, codes "X25") ∷ (20, codes "ISDN") ∷ (21, codes "RT") ∷ (22, codes "NSAP") ∷ (23, codes "NSAP-PTR") ∷ (24, codes "SIG") ∷
    (25, codes "KEY") ∷ (26, codes "PX") ∷ (27, codes "GPOS") ∷ (30, codes "NXT") ∷ (31, codes "EID") ∷ (32, codes "NIMLOC") ∷
    (34, codes "ATMA") ∷ (37, codes "CERT") ∷ (38, codes "A6") ∷ (40, codes "SINK") ∷ (42, codes "APL") ∷ (45, codes "IPSECKEY") ∷
    (49, codes "DHCID") ∷ (53, codes "SMIMEA") ∷ (55, codes "HIP") ∷ (56, codes "NINFO") ∷ (57, codes "RKEY") ∷ (58, codes "TALINK") ∷
    (61, codes "OPENPGPKEY") ∷ (62, codes "CSYNC") ∷ (66, codes "DSYNC") ∷ (67, codes "HHIT") ∷ (68, codes "BRID") ∷ (100, codes "UINFO") ∷
    (101, codes "UID") ∷ (102, codes "GID") ∷ (103, codes "UNSPEC") ∷ (104, codes "NID") ∷ (105, codes "L32") ∷ (106, codes "L64") ∷
    (107, codes "LP") ∷ (108, codes "EUI48") ∷ (109, codes "EUI64") ∷ (128, codes "NXNAME") ∷ (249, codes "TKEY") ∷ (253, codes "MAILB") ∷
    (254, codes "MAILA") ∷ (256, codes "URI") ∷ (258, codes "AVC") ∷ (259, codes "DOA") ∷ (260, codes "AMTRELAY") ∷ (261, codes "RESINFO") ∷
    (262, codes "WALLET") ∷ (263, codes "CLA") ∷ (264, codes "IPN") ∷ (32768, codes "TA") ∷ (32769, codes "DLV") ∷ []

-- the type that a word stands for
unfoldable pub type_word_read : List ℕ → Option ℕ
type_word_read word = option_or (type_read word) (number_named more_types word)

-- how a type is written
unfoldable pub type_word_written : ℕ → List ℕ
type_word_written number = unwrap_or (text_of more_types number) (type_written number)
