-- What contracts see of builders.
use Rattle.dns_name.specs.RecordData.{page_of}
use Rattle.dns_builder.specs.Built.{Draft}
use Rattle.dns_builder.specs.declared.draft.Draft as code
use Rattle.dns_builder.specs.declared.builder.SectionBuilder.{SectionBuilder}

-- what a draft holds, from what its target holds, remembers, and may hold
abbrev pub draft_in : {Target : Type 0} {composer bounded octets remembers : _} → code.Draft Target composer bounded octets remembers → Draft
draft_in {bounded = bounded} {octets = octets} {remembers = remembers} draft = record {
  page = page_of (octets.list draft.opt.target) (remembers.known draft.opt.target);
  bound = bounded.bound draft.opt.target;
  starts = draft.starts.items;
  limit = draft.limit;
}

-- its target
abbrev pub held_in : {Target : Type 0} {composer bounded octets remembers : _} → code.Draft Target composer bounded octets remembers → Target
held_in draft = draft.opt.target

-- what a builder holds
abbrev pub draft_of : {Target S : Type 0} {composer bounded octets remembers section : _}
    → SectionBuilder Target S composer bounded octets remembers section → Draft
draft_of builder = draft_in builder.draft

-- its target
abbrev pub target_in : {Target S : Type 0} {composer bounded octets remembers section : _}
    → SectionBuilder Target S composer bounded octets remembers section → Target
target_in builder = builder.draft.opt.target
