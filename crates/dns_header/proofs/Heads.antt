-- When there is no record, or no record header.
use Rattle.std.proofs.Common.{◌≡◌, ◌+◌, ◌<◌, ℕ, Bool, true, List, length, take, drop, arith, sym, subst, ◌∙◌, ap, inl, inr}
use Rattle.std.specs.Int.{from_be_bytes, w32}
use Rattle.std.specs.Prelude.{◌↔◌, Result, Ok, Err, OnErr, IfErr}
use Rattle.std.specs.Result.{IsErrAnd}
use Rattle.dns_octets.specs.declared.error.ParseError.{ParseError}
use Rattle.dns_octets.specs.declared.error.ParseError.TheVariants.{ShortInput}
use Rattle.dns_label.specs.Spelled.{DecodesName}
use Rattle.dns_label.proofs.Spelling.{reads_one}
use Rattle.dns_octets.specs.Numbers.{number_at}
use Rattle.dns_header.specs.Head.{Head, ReadsHead, NoHead, NoWhole, HeadIsCut, WholeIsCut}
use Rattle.dns_header.specs.Head.WholeIsCut.{in_head, in_data}
use Rattle.dns_header.specs.Record.{NoData, DataIsRefused}
use Rattle.dns_header.specs.ParsedRecord.{NoRecord}

-- a clause that holds for any error
pub on_err : {T E P : Type 0} (result : Result T E) → P → OnErr result P
on_err (Ok value) is = _
on_err (Err error) is = is

-- fewer than ten octets follow the owner
pub no_head : {message : List ℕ} {place behind : ℕ} {name : List (List ℕ)}
    → DecodesName message place name behind → length message < behind + 10 → NoHead message place
no_head owner short head next is = omega (arith, short, is.whole, (reads_one owner is.owner).1)

-- without a record header there is no record
pub no_whole : {message : List ℕ} {place : ℕ} → NoHead message place → NoWhole message place
no_whole none head data_place next is = none head data_place is.reads

-- the data has more octets than follow the header
pub cut_data : {message : List ℕ} {place behind : ℕ} {head : Head (List (List ℕ))} → ReadsHead message place head behind
    → length message < behind + head.data_len → NoWhole message place
cut_data {message} read short other data_place next is =
    let same = (reads_one read.owner is.reads.owner).1 in
    let len = read.data_len ∙ ap (λ p. number_at message (p + 8)) same ∙ sym is.reads.data_len in
    omega (arith, short, is.ends, is.within, read.ends, is.reads.ends, same, len)

-- an error of the header is one of the record: without a header there is no data either
pub cut_whole : {message : List ℕ} {place : ℕ} {P : Type 0} → NoHead message place → (P → HeadIsCut message place) × (HeadIsCut message place → P)
    → (P → WholeIsCut message place) × (WholeIsCut message place → P)
cut_whole {message} {place} {P} none told = (λ is. in_head (told.0 is), back)
  where
    back : WholeIsCut message place → P
    back (in_head cut) = told.1 cut
    back (in_data head data_place reads short) = absurd (none head data_place reads)

-- what holds of an error holds of the result that returns it
pub told_of : {T W : Type 0} (result : Result T ParseError) (error : ParseError) → IsErrAnd result (λ e. e ≡ error)
    → (error ≡ ShortInput → W) × (W → error ≡ ShortInput) → IfErr result (λ e. (e ≡ ShortInput) ↔ W)
told_of (Ok value) error gives told = _
told_of (Err e) error gives told = (λ is. told.0 (sym gives ∙ is), λ w. gives ∙ told.1 w)

-- a message has at most one record header at a place
pub heads_one : {message : List ℕ} {place here there : ℕ} {one other : Head (List (List ℕ))} → ReadsHead message place one here
    → ReadsHead message place other there → (one ≡ other) × (here ≡ there)
heads_one {message} {one = one} {other = other} first second = (heads, first.ends ∙ ap (λ n. n + 10) same ∙ sym second.ends)
  where
    owners : one.owner ≡ other.owner
    owners = (reads_one first.owner second.owner).0

    same : first.behind ≡ second.behind
    same = (reads_one first.owner second.owner).1

    rtypes : one.rtype ≡ other.rtype
    rtypes = first.rtype ∙ ap (number_at message) same ∙ sym second.rtype

    classes : one.class ≡ other.class
    classes = first.class ∙ ap (λ n. number_at message (n + 2)) same ∙ sym second.class

    ttls : one.ttl ≡ other.ttl
    ttls = first.ttl ∙ ap (λ n. from_be_bytes w32 (take 4 (drop (n + 4) message))) same ∙ sym second.ttl

    lens : one.data_len ≡ other.data_len
    lens = first.data_len ∙ ap (λ n. number_at message (n + 8)) same ∙ sym second.data_len

    heads : one ≡ other
    heads = λ i. record { owner = owners i; rtype = rtypes i; class = classes i; ttl = ttls i; data_len = lens i }

-- if the data after a header is not parsed, neither is the record
pub record_refused : {Data : Type 0} (takes : ℕ → Bool) (reads : List ℕ → ℕ → ℕ → Data → Type 0) {message : List ℕ} {place here : ℕ}
    {head : Head (List (List ℕ))} → ReadsHead message place head here → DataIsRefused takes reads message here head.rtype head.data_len
    → NoRecord takes reads message place
record_refused takes reads read (inl short) other data_place next whole =
    let is = heads_one read whole.reads in
    absurd (omega (arith, short, whole.ends, whole.within, is.1, ap (λ (h : Head (List (List ℕ))). h.data_len) is.0))
record_refused takes reads {message} {head = head} read (inr none) other data_place next whole =
    let is = heads_one read whole.reads in
    subst (λ (h : Head (List (List ℕ))). (takes h.rtype ≡ true) × NoData reads message data_place h.rtype h.data_len) is.0
    (subst (λ n. (takes head.rtype ≡ true) × NoData reads message n head.rtype head.data_len) is.1 none)
