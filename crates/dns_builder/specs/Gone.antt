-- What a builder holds after sections are dropped, or started.
use Rattle.std.specs.Prelude.{◌+◌, ◌-◌, ◌*◌, ℕ, ◌++◌, length, take, slice_index, replicate}
use Rattle.dns_octets.specs.Builder.{before}
use Rattle.dns_name.specs.RecordData.{page_of}
use Rattle.dns_name.specs.Remembered.{patched}
use Rattle.dns_builder.specs.Built.{Draft}

-- `count` sections remain: what follows them is cut off, and the counts of the others are zero.
abbrev pub gone_back : ℕ → Draft → Draft
gone_back count draft = record {
  page = page_of
      (patched (take (slice_index draft.starts count) draft.page.octets) (4 + 2 * count) (replicate (8 - 2 * count) 0))
      (before (slice_index draft.starts count) draft.page.known);
  bound = draft.bound;
  starts = take count draft.starts;
  limit = draft.limit;
}

-- `count` sections are started: the new ones begin at the end.
abbrev pub gone_on : ℕ → Draft → Draft
gone_on count draft = record {
  page = draft.page;
  bound = draft.bound;
  starts = draft.starts ++ replicate (count - length draft.starts) (length draft.page.octets);
  limit = draft.limit;
}
