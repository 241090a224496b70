-- Words for numbers of fields that have mnemonics: a number in digits, or a mnemonic (RFC 4034 2.2, 3.2 and 5.3; RFC 4398 2.2).
use Rattle.std.specs.Prelude.{ℕ, ◌^◌, List, [], ◌∷◌, Option, codes}
use Rattle.std.specs.Option.{option_or}
use Rattle.dns_values.specs.Mnemonic.{Mnemonics, number_named, number_spelled}

-- the algorithms of DNSSEC (RFC 4034 A.1, and IANA's registry), and then three as BIND writes them
unfoldable pub algorithms : Mnemonics
algorithms =
    (0, codes "DELETE") ∷ (1, codes "RSAMD5") ∷ (2, codes "DH") ∷ (3, codes "DSA") ∷ (5, codes "RSASHA1") ∷ (6, codes "DSA-NSEC3-SHA1") ∷
    (7, codes "RSASHA1-NSEC3-SHA1") ∷ (8, codes "RSASHA256") ∷ (10, codes "RSASHA512") ∷ (12, codes "ECC-GOST") ∷
    (13, codes "ECDSAP256SHA256") ∷ (14, codes "ECDSAP384SHA384") ∷ (15, codes "ED25519") ∷ (16, codes "ED448") ∷ (252, codes "INDIRECT") ∷
    (253, codes "PRIVATEDNS") ∷ (254, codes "PRIVATEOID") ∷ (6, codes "NSEC3DSA") ∷ (7, codes "NSEC3RSASHA1") ∷ (12, codes "ECCGOST") ∷ []

-- the types of certificates (RFC 4398 2.1)
unfoldable pub certificate_types : Mnemonics
certificate_types =
    (1, codes "PKIX") ∷ (2, codes "SPKI") ∷ (3, codes "PGP") ∷ (4, codes "IPKIX") ∷ (5, codes "ISPKI") ∷ (6, codes "IPGP") ∷ (7, codes "ACPKIX") ∷
    (8, codes "IACPKIX") ∷ (253, codes "URI") ∷ (254, codes "OID") ∷ []

-- the algorithm that a word stands for: a number of 8 bits in digits, or a mnemonic up to ASCII case
unfoldable pub algorithm_read : List ℕ → Option ℕ
algorithm_read word = option_or (number_spelled (2 ^ 8) word) (number_named algorithms word)

-- the type of certificate that a word stands for: a number of 16 bits in digits, or a mnemonic up to ASCII case
unfoldable pub certificate_type_read : List ℕ → Option ℕ
certificate_type_read word = option_or (number_spelled (2 ^ 16) word) (number_named certificate_types word)
