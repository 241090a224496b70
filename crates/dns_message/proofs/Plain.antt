-- The parts of a message with every name written out (RFC 1035 4.1.3).
use Rattle.std.specs.Prelude.{ℕ, List, [], ◌++◌, length}
use Rattle.std.specs.Int.{to_be_bytes, w16}
use Rattle.dns_label.specs.Name.{wire}
use Rattle.dns_name.specs.Page.{Parts}
use Rattle.dns_name.specs.Page.Parts.{End, Octets, Named, Counted}

-- octets as they are, names uncompressed, and lengths of what these then take
abbrev pub plain : Parts → List ℕ
plain End = []
plain (Octets text parts) = text ++ plain parts
plain (Named name parts) = wire name ++ plain parts
plain (Counted inner parts) = to_be_bytes w16 (length (plain inner)) ++ plain inner ++ plain parts
