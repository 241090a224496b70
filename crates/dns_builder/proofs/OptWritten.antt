-- An OPT record that a closure built is written on the page.
use Rattle.std.proofs.Common.{◌≡◌, ◌≤◌, ◌<◌, ◌+◌, ℕ, List, [], ◌++◌, Ok, Err, Option, Some, None, length, take, drop, refl, sym, ◌∙◌, ap, subst, arith, length-append, append_assoc}
use Rattle.std.specs.Prelude.{Result, IfOk, OnOk, OnErr}
use Rattle.std.specs.Borrow.{MutBor}
use Rattle.std.specs.Fn.{Once, FnOnceReturnsAtMut}
use Rattle.std.proofs.lemmas.List.{take_all, take-append-drop}
use Rattle.dns_octets.specs.Builder.{Known, GrowsTo, IsPast}
use Rattle.dns_octets.specs.declared.error.AppendError.{AppendError}
use Rattle.dns_octets.specs.declared.error.AppendError.TheVariants.{ShortBuf, OutOfMemory, BadLength}
use Rattle.dns_octets.proofs.Grows.{GrowsTo-append}
use Rattle.dns_name.specs.Spelling.{Spelling}
use Rattle.dns_name.specs.Page.{Page, write}
use Rattle.dns_name.specs.Page.Parts.{End, Octets, Named}
use Rattle.dns_name.specs.RecordData.{page_of, counted_length}
use Rattle.dns_header.specs.Header.{rcode_of}
use Rattle.dns_header.specs.HeaderFields.{fields_of}
use Rattle.dns_header.specs.Head.{fixed_octets}
use Rattle.dns_header.specs.Written.{Written, data_length}
use Rattle.dns_builder.specs.declared.opt.OptBuilder.{OptBuilder}
use Rattle.dns_builder.specs.OptBuilt.{OptBuilt, empty_opt}
use Rattle.dns_builder.specs.OptAsked.{BuildsOpt, RefusesRecord, WritesOpt, refusal}
use Rattle.dns_builder.specs.OptClosed.{WritesFields}
use Rattle.dns_builder.specs.OptSeen.{opt_in, start_of, LeavesMessage}
use Rattle.dns_builder.proofs.OptOptions.{refused}
use Rattle.dns_builder.proofs.OptPages.{zeros, opt_octets, write_opt, patch_opt, opt_long, start-front}

-- no call failed
accepted : (refused : Option AppendError) (answer : Result (Unit {0}) AppendError) → refusal refused answer ≡ None
    → (refused ≡ None) × (answer ≡ Ok tt)
accepted None (Ok done) is = (refl, refl)
accepted None (Err error) is = cc
accepted (Some error) (Ok done) is = cc
accepted (Some error) (Err other) is = cc

-- the octets of a record without options cannot be appended
pub no-zeros : {F Builder : Type 0}
    (closure : Once F (MutBor Builder × Unit {0}) (Result (Unit {0}) AppendError × (MutBor Builder × Unit {0}))) (see : Builder → OptBuilt) (op : F)
    (message : List ℕ) (bound : Option ℕ) (error : AppendError) → (refused error ≡ refused ShortBuf → IsPast bound (length message + 11))
    → (refused error ≡ refused BadLength → ⊥) → RefusesRecord closure see op message bound error
no-zeros closure see op message bound ShortBuf short bad = RefusesRecord.no_room (short (λ _. refused ShortBuf))
no-zeros closure see op message bound OutOfMemory short bad = RefusesRecord.no_memory
no-zeros closure see op message bound BadLength short bad = absurd (bad (λ _. refused BadLength))

module _ {Target : Type 0} (list_of : Target → List ℕ) (known_of : Target → Known) (bound_of : Target → Option ℕ)
    (keeps : Target → Target → Type 0) (page : List ℕ) (first last : OptBuilder Target)
    (start : start_of list_of first ≡ length page + 11) (octets : list_of first.target ≡ page ++ zeros)
    (leaves : LeavesMessage list_of known_of bound_of keeps first last) where
  -- what the closure leaves before the data
  front : take (start_of list_of last) (list_of last.target) ≡ page ++ zeros
  front = leaves.front
      ∙ take_all (start_of list_of first) (list_of first.target) (omega (arith, start, ap (length {A = ℕ}) octets, length-append page zeros)) ∙ octets

  pub start-last : start_of list_of last ≡ length page + 11
  start-last = start-front (list_of last.target) (page ++ zeros) (start_of list_of last) (omega arith) front ∙ length-append page zeros

  -- the octets without the replaced options
  abbrev pub kept : List ℕ
  kept = take (start_of list_of last) (list_of last.target) ++ (opt_in list_of last).options

  kept-is : kept ≡ page ++ (zeros ++ (opt_in list_of last).options)
  kept-is = ap (λ l. l ++ (opt_in list_of last).options) front ∙ append_assoc page zeros (opt_in list_of last).options

  octets-last : list_of last.target ≡ page ++ (zeros ++ drop (start_of list_of last) (list_of last.target))
  octets-last = sym (take-append-drop (start_of list_of last) (list_of last.target))
      ∙ ap (λ l. l ++ drop (start_of list_of last) (list_of last.target)) front
      ∙ append_assoc page zeros (drop (start_of list_of last) (list_of last.target))

  -- the page that the record is written on
  pub octets-new : (new : List ℕ) (w : WritesFields (start_of list_of last) (opt_in list_of last) kept new)
      → new ≡ page ++ opt_octets last.fields.payload_size w.ttl (opt_in list_of last).options
  octets-new new w = patch_opt page last.fields.payload_size w.ttl (start_of list_of last) (opt_in list_of last).options kept new
      kept-is start-last w.written

  -- in each case the page has grown
  pub grown : {T E : Type 0} (result : Result T E) (known more : Known) (new : List ℕ) → more ≡ known
      → OnErr result (new ≡ list_of last.target)
      → OnOk result (WritesFields (start_of list_of last) (opt_in list_of last) kept new)
      → GrowsTo page known new more
  grown (Ok value) known more new same err written = GrowsTo-append page known new more _ (octets-new new written) same
  grown (Err error) known more new same err written = GrowsTo-append page known new more _ (err ∙ octets-last) same

  module _ {F : Type 0} (closure : Once F (MutBor (OptBuilder Target) × Unit {0}) (Result (Unit {0}) AppendError × (MutBor (OptBuilder Target) × Unit {0})))
      (op : F) (s : Spelling) (known : Known) (answer : Result (Unit {0}) AppendError)
      (empty : opt_in list_of first ≡ empty_opt (take 4 page)) (said : fields_of first.header ≡ fields_of page)
      (called : FnOnceReturnsAtMut closure op first answer last) where
    writes : (header new : List ℕ) → header ≡ last.header → refusal last.refused answer ≡ None → length (opt_in list_of last).options ≤ 65535
        → WritesFields (start_of list_of last) (opt_in list_of last) kept new
        → WritesOpt closure (opt_in list_of) op s (page_of page known) header (page_of new known)
    writes header new sets unrefused short w =
        let fine = accepted last.refused answer unrefused in
        let opt : Written = record {
          owner = [];
          rtype = 41;
          class = last.fields.payload_size;
          ttl = w.ttl;
          rdata = Octets (opt_in list_of last).options End;
        } in
        record {
          opt = opt;
          builds = record {
            first = first;
            last = last;
            empty = empty;
            called = subst (λ (a : Result (Unit {0}) AppendError). FnOnceReturnsAtMut closure op first a last) fine.1 called;
            unrefused = fine.0;
            is = record { owner = refl; rtype = refl; class = refl; ttl = w.says; rdata = refl };
            short = short;
            sets = sets;
            others = ap fields_of sets ∙ leaves.header ∙ λ i. record (said i) { rcode = rcode_of (sym sets i) };
          };
          written = ap (λ l. page_of l known) (octets-new new w)
              ∙ sym (write_opt s (page_of page known) last.fields.payload_size w.ttl (opt_in list_of last).options);
        }

    -- the record is written if the call succeeds
    pub written : (result : Result (List ℕ) AppendError) (more : Known) (new : List ℕ) → more ≡ known
        → IfOk result (λ header. header ≡ last.header) → OnOk result (refusal last.refused answer ≡ None)
        → OnOk result (length (opt_in list_of last).options ≤ 65535)
        → OnOk result (WritesFields (start_of list_of last) (opt_in list_of last) kept new)
        → IfOk result (λ header. WritesOpt closure (opt_in list_of) op s (page_of page known) header (page_of new more))
    written (Ok header) more new same sets unrefused short w =
        subst (λ (k : Known). WritesOpt closure (opt_in list_of) op s (page_of page known) header (page_of new k)) (sym same)
        (writes header new sets unrefused short w)
    written (Err error) more new same sets unrefused short w = tt

-- a record that is built has data of at most 65,535 octets
pub opt_short : {F Builder : Type 0}
    (closure : Once F (MutBor Builder × Unit {0}) (Result (Unit {0}) AppendError × (MutBor Builder × Unit {0}))) (see : Builder → OptBuilt) (op : F)
    (s : Spelling) (page : Page) (header : List ℕ) (opt : Written) → BuildsOpt closure see op page.octets header opt
    → 65535 < data_length s page opt → ⊥
opt_short closure see op s page header opt builds =
    let front : Page = write s page (Named opt.owner (Octets (fixed_octets opt.rtype opt.class opt.ttl) End)) in
    let options = (see builds.last).options in
    let long : data_length s page opt ≡ length options = ap (counted_length s front) builds.is.rdata ∙ opt_long s front options in
    λ too_long. omega (arith, too_long, long, builds.short)
