-- Two calls leave the message as it is, but for the OPT record and the response code, if each of them does.
use Rattle.std.proofs.Common.{ℕ, List, Option, ◌∙◌}
use Rattle.dns_octets.specs.Builder.{Known}
use Rattle.dns_header.specs.Header.{rcode_of}
use Rattle.dns_builder.specs.declared.opt.OptBuilder.{OptBuilder}
use Rattle.dns_builder.specs.OptSeen.{LeavesMessage}

pub leaves-on : {Target : Type 0} {list_of : Target → List ℕ} {known_of : Target → Known} {bound_of : Target → Option ℕ}
    {keeps : Target → Target → Type 0} (on : (a b c : Target) → keeps a b → keeps b c → keeps a c) (old mid new : OptBuilder Target)
    → LeavesMessage list_of known_of bound_of keeps old mid → LeavesMessage list_of known_of bound_of keeps mid new
    → LeavesMessage list_of known_of bound_of keeps old new
leaves-on on old mid new first next = record {
  front = next.front ∙ first.front;
  known = next.known ∙ first.known;
  bound = next.bound ∙ first.bound;
  header = next.header ∙ λ i. record (first.header i) { rcode = rcode_of new.header };
  stays = on old.target mid.target new.target first.stays next.stays;
}
