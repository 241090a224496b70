use Rattle.std.proofs.Common.{◌≤◌, ◌≡◌, length, take}
use Rattle.dns_scan.specs.Refused.{BeginsWith}
use Rattle.dns_scan.proofs.Texts.{Reading}
use Rattle.dns_scan.proofs.char_str.text.Taken.read.Given as goal

abbrev pub invariant-loop-rest : goal.invariant-loop-rest
invariant-loop-rest l = record {
  few : l.len ≤ 255;
  whole : length l.octets ≡ 255;
  reading : Reading l.text l.rest (take l.len l.octets);
  begins : BeginsWith l.text (take l.len l.octets) l.rest;
}

abbrev pub decreases-loop-rest : goal.decreases-loop-rest
decreases-loop-rest l = length l.rest
