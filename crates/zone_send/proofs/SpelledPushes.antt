-- What a builder of a spelled message accepts and what it does not.
use Rattle.std.proofs.Common.{◌≡◌, ℕ, ◌+◌, ◌<◌, ◌≤◌, ◌^◌, Bool, true, false, Result, Ok, Err, Some, None, Option, MatchOption, List, [], ◌∷◌, ◌++◌, length, map, refl, sym, ap, ◌∙◌, subst, arith, append-nil, length-append}
use Rattle.std.specs.Prelude.{◌≢◌, IsOk, IsErrAnd, IfOk, IfErr, OnOk, OnErr}
use Rattle.std.specs.Bool.{OnTrue, OnFalse}
use Rattle.std.specs.Int.{to_be_bytes, w16}
use Rattle.std.specs.List.{push}
use Rattle.std.proofs.lemmas.List.{map-append}
use Rattle.dns_octets.specs.Builder.{IsPast}
use Rattle.dns_name.specs.Spelling.{Spelling}
use Rattle.dns_name.specs.Page.{Page, Parts, write}
use Rattle.dns_name.specs.RecordData.{page_of}
use Rattle.dns_header.specs.Question.{Question, question_parts}
use Rattle.dns_header.specs.Written.{Written, parts_of, data_length}
use Rattle.dns_message.specs.PushError.{PushError}
use Rattle.dns_message.specs.PushError.TheVariants.{ShortBuf, BadLength, LimitExceeded, CountOverflow, OutOfMemory}
use Rattle.dns_builder.specs.Built.{Built, Draft, IsDraftOf, header_octets, nothing_built, write_all}
use Rattle.dns_builder.specs.Steps.{going_to, with_item, with_header, length_with, counted_at, IsTakenBy, IsRefusedBy, KeepsLimits}
use Rattle.dns_builder.proofs.DraftPages.{counted_is}
use Rattle.dns_rdata.specs.Data.{Data}
use Rattle.dns_rdata.specs.Data.Data.{typed as in_fields, unknown_data}
use Rattle.dns_header.specs.Record.{RecordOf}
use Rattle.dns_message.specs.Held.{record_of, written_parts_of}
use Rattle.dns_message.specs.Record.{IsWritten}
use Rattle.dns_message.specs.Record.IsWritten.{fields as in_row, untold}
use Rattle.zone_records.specs.Typed.{HasFieldsOfType}
use Rattle.zone_records.specs.Zone.{axfr_type}
use Rattle.zone_records.specs.Record.{Record}
use Rattle.zone_core.specs.Query.{AxfrQuery, question_of}
use Rattle.zone_send.specs.Spelled.{spelled_size}
use Rattle.zone_send.specs.Sending.{header_front}
use Rattle.zone_send.specs.SpelledSending.{IsItem, IsWrittenAs, answer_built, HoldsGroup, IsPushed}
use Rattle.zone_send.proofs.SpelledPages.{page_is, length_more, length_asked, length-items, record_long, data_shorter}

-- how many octets a message has
long_is : (s : Spelling) (query : AxfrQuery) (item : Record → Parts) (group : List Record) (draft : Draft)
    → IsDraftOf s (answer_built query (map item group)) draft → length draft.page.octets ≡ spelled_size s query item group
long_is s query item group draft built = ap (λ (p : Page). length p.octets) built.page ∙ ap (length {A = ℕ}) (page_is s query item group)

-- a builder holds at most this number of octets
past : (bound : Option ℕ) (most long : ℕ) → bound ≡ Some most → IsPast bound long → most < long
past bound most long is more = let P : Option ℕ → Type 0 = λ b. IsPast b long in subst P is more

-- answers whose last one is written the same by other parts
module _ (s : Spelling) (query : AxfrQuery) (answers : List Parts) (first second : Parts)
    (same : (page : Page) → write s page first ≡ write s page second) where
  all_as : (page : Page) (before : List Parts) → write_all s page (before ++ first ∷ []) ≡ write_all s page (before ++ second ∷ [])
  all_as page [] = same page
  all_as page (item ∷ before) = all_as (write s page item) before

  long_as : length (answers ++ second ∷ []) ≡ length (answers ++ first ∷ [])
  long_as = length-append answers (second ∷ []) ∙ sym (length-append answers (first ∷ []))

  head_as : page_of (header_octets (answer_built query (answers ++ first ∷ []))) []
      ≡ page_of (header_octets (answer_built query (answers ++ second ∷ []))) []
  head_as =
      ap (λ n. page_of (header_front query ++ (to_be_bytes w16 1 ++ to_be_bytes w16 n ++ to_be_bytes w16 0 ++ to_be_bytes w16 0)) [])
      (sym long_as)

  written_as : (page : Page) → write_all s page (answers ++ first ∷ []) ≡ write_all s page ((answers ++ second ∷ []) ++ [])
  written_as page = all_as page answers ∙ ap (write_all s page) (sym (append-nil (answers ++ second ∷ [])))

  draft_as : (draft : Draft) → IsDraftOf s (answer_built query (answers ++ first ∷ [])) draft
      → IsDraftOf s (answer_built query (answers ++ second ∷ [])) draft
  draft_as draft is =
      let question : Parts = question_parts (question_of query) in
      let few : length (answers ++ first ∷ []) ≤ 65535 = is.few.1.0 in
      record {
        header = is.header;
        few = (is.few.0, (omega (arith, few, long_as), is.few.1.1));
        page = is.page
            ∙ ap (λ (l : List Parts). write_all s (write s (page_of (header_octets (answer_built query (answers ++ first ∷ []))) []) question) l)
            (append-nil (answers ++ first ∷ []))
            ∙ written_as _
            ∙ ap (λ (p : Page). write_all s (write s p question) ((answers ++ second ∷ []) ++ [])) head_as;
        starts = is.starts
            ∙ ap (λ (p : Page). length p.octets ∷ length (write s p question).octets ∷ []) head_as;
      }

-- a record whose push fails, but not with `OutOfMemory`, has no room
refused_large : {s : Spelling} {query : AxfrQuery} {item : Record → Parts} {max : ℕ} {group : List Record} (r : Record) {draft : Draft}
    (w : Written) (error : PushError) → HoldsGroup s query item max group draft → ((page : Page) → write s page (parts_of w) ≡ write s page (item r))
    → IsRefusedBy s 1 draft (parts_of w) (65535 < data_length s draft.page w) error → error ≢ OutOfMemory
    → max < spelled_size s query item (push group r)
refused_large {s} {query} {item} {max} {group} r {draft} w error holds is refused other = by_error error refused other
  where
    more : length_with s draft (parts_of w) ≡ spelled_size s query item (push group r)
    more = ap (λ (p : Page). length p.octets) (is draft.page) ∙ length_more s query item group r draft.page holds.built.page

    by_error : (error : PushError) → IsRefusedBy s 1 draft (parts_of w) (65535 < data_length s draft.page w) error → error ≢ OutOfMemory
        → max < spelled_size s query item (push group r)
    by_error ShortBuf refused other = omega (arith, past draft.bound 65535 _ holds.bound refused, more, holds.small)
    by_error BadLength refused other = omega (arith, refused, data_shorter s draft.page w, more, holds.small)
    by_error LimitExceeded refused other = omega (arith, refused.long, holds.limit, more)
    by_error CountOverflow refused other =
        let full : counted_at 1 draft ≡ 65535 = refused.full in
        let counted : counted_at 1 draft ≡ length (map item group) = counted_is 1 holds.built (omega arith) in
        absurd (omega (
          arith,
          refused.short,
          full,
          counted,
          length-items item group,
          holds.few,
          record_long s draft.page w,
          holds.limit,
          holds.small,
        ))
    by_error OutOfMemory refused other = absurd (other refl)

-- a record whose push succeeds is the last of the group
taken_on : {s : Spelling} {query : AxfrQuery} {item : Record → Parts} {max : ℕ} {group : List Record} (r : Record) {old new : Draft}
    (w : Written) → HoldsGroup s query item max group old → ((page : Page) → write s page (parts_of w) ≡ write s page (item r))
    → IsDraftOf s (with_item (answer_built query (map item group)) (parts_of w)) new → IsTakenBy s 1 old (parts_of w) (65535 < data_length s old.page w)
    → KeepsLimits old new
    → IsPushed s query item max group r true new
taken_on {s} {query} {item} {max} {group} r {old} {new} w holds is built taken limits = (
  record {
    built = built_new;
    limit = limits.limit ∙ holds.limit;
    bound = limits.bound ∙ holds.bound;
    small = holds.small;
    few = omega (arith, long_is s query item (push group r) new built_new, more, record_long s old.page w, holds.few, length-append group (r ∷ []));
  },
  omega (arith, taken.short, more, holds.limit),
)
  where
    more : length_with s old (parts_of w) ≡ spelled_size s query item (push group r)
    more = ap (λ (p : Page). length p.octets) (is old.page) ∙ length_more s query item group r old.page holds.built.page

    built_new : IsDraftOf s (answer_built query (map item (push group r))) new
    built_new =
        let P : List Parts → Type 0 = λ l. IsDraftOf s (answer_built query l) new in
        subst P (sym (map-append item group (r ∷ []))) (draft_as s query (map item group) (parts_of w) (item r) is new built)

-- a builder that did not change holds the same
pub holds_still : {s : Spelling} {query : AxfrQuery} {item : Record → Parts} {max : ℕ} {group : List Record} {old new : Draft} → new ≡ old
    → HoldsGroup s query item max group old → HoldsGroup s query item max group new
holds_still {s} {query} {item} {max} {group} same holds =
    let P : Draft → Type 0 = λ draft. HoldsGroup s query item max group draft in subst P (sym same) holds

-- parts that are written as those of a writer are written as the item
written_item : (s : Spelling) (item : Record → Parts) (r : Record) (parts : Parts) → IsItem item r → IsWrittenAs s r parts
    → (page : Page) → write s page parts ≡ write s page (item r)
written_item s item r parts items writes page = writes.same page ∙ ap (write s page) (items writes.given writes.is_written)

-- what a push does
pub pushed : {A : Type 0} (s : Spelling) (query : AxfrQuery) (item : Record → Parts) (max : ℕ) (group : List Record) (r : Record) (w : Written)
    (old new : Draft) (placed : Bool) (result : Result A PushError)
    → IsItem item r → IsWrittenAs s r (parts_of w) → HoldsGroup s query item max group old
    → ((built : Built) → IsDraftOf s built old → OnOk result (IsDraftOf s (with_item built (parts_of w)) new))
    → OnOk result (IsTakenBy s 1 old (parts_of w) (65535 < data_length s old.page w)) → OnErr result (new ≡ old)
    → IfErr result (IsRefusedBy s 1 old (parts_of w) (65535 < data_length s old.page w)) → KeepsLimits old new
    → OnTrue placed (IsOk result) → OnFalse placed (IsErrAnd result (λ error. error ≢ OutOfMemory))
    → IsPushed s query item max group r placed new
pushed s query item max group r w old new true (Ok x) items writes holds built taken same refused limits is_taken not_taken =
    taken_on r w holds (written_item s item r (parts_of w) items writes) (built (answer_built query (map item group)) holds.built) taken limits
pushed s query item max group r w old new true (Err e) items writes holds built taken same refused limits is_taken not_taken =
    let is_ok : false ≡ true = is_taken in absurd cc
pushed s query item max group r w old new false (Ok x) items writes holds built taken same refused limits is_taken not_taken = absurd not_taken
pushed s query item max group r w old new false (Err e) items writes holds built taken same refused limits is_taken not_taken = (
  holds_still same holds,
  refused_large r w e holds (written_item s item r (parts_of w) items writes) refused not_taken,
)

-- a message that has no question yet
pub record IsUnasked (s : Spelling) (query : AxfrQuery) (max : ℕ) (draft : Draft) : Type 0 where
  pub built : IsDraftOf s (record { header = header_front query; sections = [] ∷ [] }) draft
  pub limit : draft.limit ≡ max + 1
  pub bound : draft.bound ≡ Some 65535
  pub small : max < 2 ^ 16

-- the header of a new message, and its limit
limited : {s : Spelling} {built : Built} {old new : Draft} (limit : ℕ) → new ≡ record old { limit = limit } → IsDraftOf s built old
    → IsDraftOf s built new
limited {s} {built} {old} limit is of =
    let other : Draft = record old { limit = limit } in
    let same : IsDraftOf s built other = record { header = of.header; few = of.few; page = of.page; starts = of.starts } in
    let P : Draft → Type 0 = λ draft. IsDraftOf s built draft in
    subst P (sym is) same

pub unasked : {s : Spelling} (query : AxfrQuery) {max limit : ℕ} {empty begun bounded headed : Draft} (header : List ℕ)
    → IsDraftOf s nothing_built empty → empty.bound ≡ Some 65535 → max < 2 ^ 16 → limit ≡ max + 1
    → ((built : Built) → IsDraftOf s built empty → IsDraftOf s (going_to 1 built) begun) → KeepsLimits empty begun
    → bounded ≡ record begun { limit = limit }
    → ((built : Built) → IsDraftOf s built bounded → IsDraftOf s (with_header built header) headed) → KeepsLimits bounded headed
    → header ≡ header_front query → IsUnasked s query max headed
unasked {s} query {max} {limit} {empty} {begun} {bounded} {headed} header none bound small most going begun_limits is heads limits said =
    let P : List ℕ → Type 0 = λ h. IsDraftOf s (record { header = h; sections = [] ∷ [] }) headed in
    record {
      built = subst P said (heads (going_to 1 nothing_built) (limited limit is (going nothing_built none)));
      limit = limits.limit ∙ ap (λ (d : Draft). d.limit) is ∙ most;
      bound = limits.bound ∙ ap (λ (d : Draft). d.bound) is ∙ begun_limits.bound ∙ bound;
      small = small;
    }

-- the pushed question is the query's
pub question_is : (query : AxfrQuery) (q : Question) → q.name ≡ query.name → q.qtype ≡ axfr_type → q.qclass ≡ query.class
    → q ≡ question_of query
question_is query q name qtype qclass = λ i. record { name = name i; qtype = qtype i; qclass = qclass i }

-- a question whose push fails, but not with `OutOfMemory`, has no room
asked_large : {s : Spelling} {query : AxfrQuery} {max : ℕ} {draft : Draft} (item : Record → Parts) (error : PushError)
    → IsUnasked s query max draft → IsRefusedBy s 0 draft (question_parts (question_of query)) ⊥ error → error ≢ OutOfMemory
    → max < spelled_size s query item []
asked_large {s} {query} {max} {draft} item error begun refused other = by_error error refused other
  where
    more : length_with s draft (question_parts (question_of query)) ≡ spelled_size s query item []
    more = length_asked s query item draft.page (header_octets (record { header = header_front query; sections = [] ∷ [] })) refl begun.built.page

    by_error : (error : PushError) → IsRefusedBy s 0 draft (question_parts (question_of query)) ⊥ error → error ≢ OutOfMemory
        → max < spelled_size s query item []
    by_error ShortBuf refused other = omega (arith, past draft.bound 65535 _ begun.bound refused, more, begun.small)
    by_error BadLength refused other = absurd refused
    by_error LimitExceeded refused other = omega (arith, refused.long, begun.limit, more)
    by_error CountOverflow refused other =
        let full : counted_at 0 draft ≡ 65535 = refused.full in
        let counted : counted_at 0 draft ≡ 0 = counted_is 0 begun.built (omega arith) in
        absurd (omega (arith, full, counted))
    by_error OutOfMemory refused other = absurd (other refl)

-- what the push of the question does if it fails
pub unasked_large : {A : Type 0} {s : Spelling} {query : AxfrQuery} {max : ℕ} {draft : Draft} (item : Record → Parts) (q : Question)
    (placed : Bool) (result : Result A PushError) → IsUnasked s query max draft → q ≡ question_of query
    → IfErr result (IsRefusedBy s 0 draft (question_parts q) ⊥) → placed ≡ false
    → OnFalse placed (IsErrAnd result (λ error. error ≢ OutOfMemory)) → max < spelled_size s query item []
unasked_large item q true result begun is refused not_placed not_taken = absurd cc
unasked_large item q false (Ok x) begun is refused not_placed not_taken = absurd not_taken
unasked_large {s = s} {draft = draft} item q false (Err e) begun is refused not_placed not_taken =
    let P : Question → Type 0 = λ q. IsRefusedBy s 0 draft (question_parts q) ⊥ e in
    asked_large item e begun (subst P is refused) not_taken

-- and if it succeeds, and the answers begin
pub asked : {A : Type 0} {s : Spelling} {query : AxfrQuery} {max : ℕ} {draft pushed answers : Draft} (item : Record → Parts) (q : Question)
    (placed : Bool) (result : Result A PushError) → IsUnasked s query max draft → q ≡ question_of query
    → ((built : Built) → IsDraftOf s built draft → OnOk result (IsDraftOf s (with_item built (question_parts q)) pushed))
    → KeepsLimits draft pushed → placed ≡ true → OnTrue placed (IsOk result)
    → ((built : Built) → IsDraftOf s built pushed → IsDraftOf s (going_to 2 built) answers) → KeepsLimits pushed answers
    → HoldsGroup s query item max [] answers
asked item q false result begun is built limits was is_taken going more_limits = absurd cc
asked item q true (Err e) begun is built limits was is_taken going more_limits =
    let is_ok : false ≡ true = is_taken in absurd cc
asked {s = s} {query = query} {answers = answers} item q true (Ok x) begun is built limits was is_taken going more_limits =
    let P : Question → Type 0 = λ q. IsDraftOf s (record { header = header_front query; sections = (question_parts q ∷ []) ∷ [] ∷ [] }) answers in
    record {
      built = subst P is (going _ (built _ begun.built));
      limit = more_limits.limit ∙ limits.limit ∙ begun.limit;
      bound = more_limits.bound ∙ limits.bound ∙ begun.bound;
      small = begun.small;
      few = omega arith;
    }

-- the same, whether or not the push succeeds
pub pushed_by : {A E : Type 0} (s : Spelling) (r : Record) (w : Written) (old new : Draft) (result : Result A PushError) (answer : Result Bool E)
    → IsWrittenAs s r (parts_of w)
    → ((built : Built) → IsDraftOf s built old → OnOk result (IsDraftOf s (with_item built (parts_of w)) new))
    → OnOk result (IsTakenBy s 1 old (parts_of w) (65535 < data_length s old.page w)) → OnErr result (new ≡ old)
    → IfErr result (IsRefusedBy s 1 old (parts_of w) (65535 < data_length s old.page w)) → KeepsLimits old new
    → IfOk answer (λ taken. OnTrue taken (IsOk result))
    → IfOk answer (λ taken. OnFalse taken (IsErrAnd result (λ error. error ≢ OutOfMemory)))
    → IfOk answer (λ placed. (query : AxfrQuery) (item : Record → Parts) (max : ℕ) (group : List Record) → IsItem item r
    → HoldsGroup s query item max group old → IsPushed s query item max group r placed new)
pushed_by s r w old new result (Ok placed) writes built taken same refused limits is_taken not_taken =
    λ query item max group items holds.
    pushed s query item max group r w old new placed result items writes holds built taken same refused limits is_taken not_taken
pushed_by s r w old new result (Err e) writes built taken same refused limits is_taken not_taken = tt

-- a record whose data is in the fields of its type is written by its parts
typed_by : (rr : RecordOf (List (List ℕ)) Data) (rdata : Data) → rr.rdata ≡ rdata → HasFieldsOfType rdata
    → IsWritten (record_of rr) (written_parts_of rr)
typed_by rr (in_fields number row) is row_is =
    let P : Data → Type 0 = λ rdata. let other = record rr { rdata = rdata } in IsWritten (record_of other) (written_parts_of other) in
    subst P (sym is) (in_row row row_is refl)
typed_by rr (unknown_data unknown) is none =
    let P : Data → Type 0 = λ rdata. let other = record rr { rdata = rdata } in IsWritten (record_of other) (written_parts_of other) in
    subst P (sym is) (untold none)

pub typed_written : (s : Spelling) (rr : RecordOf (List (List ℕ)) Data) (r : Record) → HasFieldsOfType rr.rdata → record_of rr ≡ r
    → IsWrittenAs s r (written_parts_of rr)
typed_written s rr r has is = record {
  given = written_parts_of rr;
  is_written = let P : Record → Type 0 = λ other. IsWritten other (written_parts_of rr) in subst P is (typed_by rr rr.rdata refl has);
  same = λ page. refl;
}

-- a message that is begun, or none
pub when_none : {A : Type 0} (begun : Option A) (P : Type 0) (Q : A → Type 0) → ((a : A) → begun ≡ Some a → ⊥) → MatchOption begun P Q → P
when_none None P Q none_is holds = holds
when_none (Some a) P Q none_is holds = absurd (none_is a refl)

pub when_some : {A : Type 0} (begun : Option A) (a : A) (P : Type 0) (Q : A → Type 0) → begun ≡ Some a → MatchOption begun P Q → Q a
when_some {A} begun a P Q is holds = let R : Option A → Type 0 = λ o. MatchOption o P Q in subst R is holds
